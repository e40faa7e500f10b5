-- The loader's parts in their order: size and contents, the tables, the replies, the record; each refuses, or the next is asked.
use mathlib.Core.Path.{◌≡◌, refl, sym, ◌∙◌}
use mathlib.Core.List.{List, [], ◌∷◌, ◌++◌}
use Prim.Native.Nat.{ℕ}
use Rattle.contents.specs.Contents.{ValidContents}
use Rattle.job.specs.Refusal.{RefusalRule, first_of}
use Rattle.job.specs.File.{OutOfSize, rule11, rule12, contents_rules, table_rules, file_rules, file_refusal}
use Rattle.job.specs.RefusalNumber.{refusal_number}
use Rattle.job.specs.declared.refusal.Refusal.{Refusal}
use Rattle.job.specs.declared.refusal.Refusal.TheVariants.{FileSize, Contents}
use Rattle.job.proofs.Refusals.{first_broken, first_kept, passed_first, first_passed, append_passed, append_refused}
use Rattle.job.proofs.RefusalNumbers.{number_positive, Named, named_numbered}
use Rattle.job.proofs.Accepted.{answer_rules, last}

module _ (file : List ℕ) where
  -- a file is judged by the rules of a part and those after it
  abbrev pub JudgedBy : List RefusalRule → Type 0
  JudgedBy rs = file_refusal file ≡ first_of rs

  pub judged_whole : JudgedBy (contents_rules file ++ (table_rules file ++ (answer_rules file ++ last file)))
  unfolding file_refusal file_rules
  judged_whole = refl

  module _ (a b : List RefusalRule) (j : JudgedBy (a ++ b)) where
    -- a part that refuses decides
    pub part_decides : (e : Refusal) → first_of a ≡ refusal_number e → file_refusal file ≡ refusal_number e
    part_decides e x = j ∙ append_refused a b (λ z. number_positive e (sym x ∙ z)) ∙ x

    -- after a part that lets pass the next ones decide
    pub past_part : Named a → first_of a ≡ 0 → JudgedBy b
    past_part named z = j ∙ append_passed a b (first_passed a (named_numbered a named) z)

  -- size and contents refuse with 11 and 12, or let pass
  pub refused_11 : OutOfSize file → file_refusal file ≡ 11
  refused_11 h = part_decides (contents_rules file) _ judged_whole FileSize (first_broken (rule11 file) _ h)

  module _ (sized : ¬ (OutOfSize file)) where
    by_contents : first_of (contents_rules file) ≡ first_of (rule12 file ∷ [])
    by_contents = first_kept (rule11 file) (rule12 file ∷ []) sized

    pub refused_12 : ¬ (ValidContents file) → file_refusal file ≡ 12
    refused_12 n =
        part_decides (contents_rules file) _ judged_whole Contents (by_contents ∙ first_broken (rule12 file) [] n)

    pub contents_pass : ValidContents file → first_of (contents_rules file) ≡ 0
    contents_pass v = by_contents ∙ first_kept (rule12 file) [] (λ n. n v) ∙ passed_first [] tt
