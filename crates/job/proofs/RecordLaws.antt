-- What the judgement of a slice says of refusals 15 and 16.
use mathlib.Core.Path.{◌≡◌, sym, ◌∙◌, subst}
use mathlib.Core.List.{List, [], ◌∷◌}
use Prim.Native.Nat.{ℕ, ◌<◌, ◌≤◌}
use native.Mathlib.Omega.{arith}
use Rattle.std.specs.Prelude.{Ok, Err}
use Rattle.words.specs.IsWord.{IsWord, WithinDepth}
use Rattle.words.specs.Inner.Nesting.{judgement}
use Rattle.words.specs.declared.nesting.NoWord.{NoWord}
use Rattle.words.specs.declared.nesting.NoWord.TheVariants.{TooLong, NoTag, IllNested}
use Rattle.words.proofs.Judgement.{Means, means, not_deeper}
use Rattle.job.specs.Refusal.{first_of}
use Rattle.job.specs.Record.{most_record_depth}
use Rattle.job.specs.File.{rule15, rule16, record_rules}
use Rattle.job.proofs.Refusals.{first_broken, first_kept, passed_first}

-- bytes that are no word are no record, whatever the reason
not_record : (s : List ℕ) (e : NoWord) → Means s (Err e) → ¬ IsWord s
not_record s TooLong m r = let h = r.short in omega arith
not_record s NoTag m r = m.1 r.bytes
not_record s IllNested m r = m.2 r.nested

pub refused_15 : (s : List ℕ) (e : NoWord) → judgement s ≡ Err e → first_of (record_rules s) ≡ 15
refused_15 s e j = first_broken (rule15 s) (rule16 s ∷ []) (not_record s e (subst (λ x. Means s x) j (means s)))

-- a record of depth d is refused or not by its depth
module _ (s : List ℕ) (d : ℕ) (e : judgement s ≡ Ok d) where
  nested_so : Means s (Ok d)
  nested_so = subst (λ x. Means s x) e (means s)

  -- a word of tags that is well nested passes 15
  passes_15 : first_of (record_rules s) ≡ first_of (rule16 s ∷ [])
  passes_15 =
      let m = nested_so in
      first_kept (rule15 s) (rule16 s ∷ []) (λ n. n (record { short = m.0; bytes = m.1; nested = m.2.0 }))

  pub refused_16 : most_record_depth < d → first_of (record_rules s) ≡ 16
  refused_16 h =
      let m = nested_so.2 in
      passes_15 ∙ first_broken (rule16 s) [] (record { nested = m.0; deep = subst (λ x. most_record_depth < x) (sym m.1) h })

  pub record_not_refused : d ≤ most_record_depth → first_of (record_rules s) ≡ 0
  record_not_refused h =
      let m = nested_so in
      let within : WithinDepth most_record_depth s = record {
        word = record { short = m.0; bytes = m.1; nested = m.2.0 };
        shallow = rw m.2.1 h;
      } in
      passes_15 ∙ first_kept (rule16 s) [] (not_deeper within) ∙ passed_first [] tt
