-- Checks of six bodies: that they are valid, by computing on their bytes.
use mathlib.Core.Path.{◌≡◌, refl, sym, ◌∙◌}
use mathlib.Core.Bool.{Bool, true, false, ◌||◌, false≢true}
use mathlib.Core.Logic.{⊎_elim}
use mathlib.Core.List.{List, []}
use Prim.Native.Nat.{ℕ, ◌+◌, ◌*◌, ◌^◌, ◌<◌, ◌≤◌}
use native.Mathlib.Omega.{arith}
use borrow.Author.Tests.{ltb-true, leb-true}
use lib.Dec.{ltb, leb}
use lib.ListN.{length, get_or}
use Rattle.words.specs.Numbers.{byte_at, four}
use Rattle.words.specs.Tag.{Word, word_of, codes, tag_bytes}
use Rattle.words.specs.Forest.{WellNested, depth}
use Rattle.words.specs.Decide.Words.{Pass, ill, nested, pass, nested_inj, sound, pass_tags}
use Rattle.words.specs.Inner.Nesting.{most_tags}
use Rattle.words.proofs.Table.{every, every_at}
use Rattle.words.proofs.Truth.{or_either}
use Rattle.automata.specs.Decide.MaskBound.{bits_below}
use Rattle.automata.specs.TargetBody.{most_states, target_head, states_of, target_of, ValidTarget}
use Rattle.automata.specs.ReplyBody.{most_reply_states, most_rules, reply_head, rule_bytes, reply_states, opening_count, closing_count}
use Rattle.automata.specs.ReplyBody.{form_of, ValidRule, ValidReply}
use Rattle.automata.specs.declared.reply.FormRule.{FormRule}
use Rattle.automata.specs.Inner.Rules.{opening_rule, closing_rule}
use Rattle.contents.specs.Contents.{has_form, target_body}
use Rattle.contents.specs.Bodies.{Bodies}
use Rattle.contents.proofs.ContentLaws.{form_code}
use Rattle.job.specs.Record.{most_record_depth}
use Rattle.job.specs.Accepted.{ValidBodies}
use Rattle.job.specs.File.{form_in}
use Rattle.named_plays.proofs.Checks.{Check, less, at_most, same, gives, both, if_true, below}
use Rattle.named_plays.proofs.Samples.{Sampled, sampled, some_answer, sample_answer}

-- of each code that has a form
abbrev pub forms : {P : ℕ → Type 0} → ((c : ℕ) → Check (P c)) → Check ((c : ℕ) → has_form c ≡ true → P c)
forms check = gives (λ f c t. f c (form_code c t) t) (below (λ c. if_true (has_form c) (check c)) codes)

-- what each form of a file does to its target, the form's samples do
abbrev pub SampledForms : List ℕ → Type 0
SampledForms file = (c : ℕ) → has_form c ≡ true → Sampled (target_of (target_body file)) (form_in file c)

abbrev pub sampled_forms : (file : List ℕ) → Check (SampledForms file)
sampled_forms file = forms (λ c. sampled (target_of (target_body file)) (form_in file c))

-- the tables of a target, byte by byte
pub table_byte : (b : List ℕ) → every (λ i x. ltb i target_head || ltb x (states_of b)) 0 b ≡ true → (i : ℕ) → target_head ≤ i →
    i < length b
    → byte_at b i < states_of b
table_byte b e i l h =
    ⊎_elim (λ k. let n = ltb-true i target_head k in absurd (omega arith)) (λ k. ltb-true (byte_at b i) (states_of b) k)
    ((or_either (ltb i target_head) (ltb (byte_at b i) (states_of b))).0
    (every_at (λ i x. ltb i target_head || ltb x (states_of b)) b e i 0 h))

abbrev pub target : (b : List ℕ) → Check (ValidTarget b)
target b =
    let n = states_of b in
    gives
    (λ (s, (f, (l, (q, (t, m))))). record {
      some_state = s;
      few_states = f;
      long = l;
      start_state = q;
      table_states = t;
      mask_bits = (bits_below (four b 2) n).1 m;
    })
    (both (at_most 1 n)
    (both (at_most n most_states)
    (both (same (length b) (target_head + codes * n + codes * (n * n)))
    (both (less (byte_at b 1) n)
    (both (record { passes = every (λ i x. ltb i target_head || ltb x n) 0 b; proves = table_byte b })
    (less (four b 2) (2 ^ n)))))))

abbrev valid_rule : (m : ℕ) (x : FormRule) → Check (ValidRule m x)
valid_rule m x =
    gives (λ (q, (c, (n, k))). record { state = q; code = c; next = n; kept = k })
    (both (less x.state m) (both (less x.code codes) (both (less x.next m) (less x.kept m))))

module _ (b : List ℕ) where
  abbrev pub reply : Check (ValidReply b)
  reply =
      let m = reply_states b in
      gives
      (λ (s, (f, (o, (c, (l, (q, (os, (cs, k)))))))). record {
        some_state = s;
        few_states = f;
        few_openings = o;
        few_closings = c;
        long = l;
        start_state = q;
        opening_rules = os;
        closing_rules = cs;
        mask_bits = (bits_below (byte_at b 2) m).1 k;
      })
      (both (at_most 1 m)
      (both (at_most m most_reply_states)
      (both (at_most (opening_count b) most_rules)
      (both (at_most (closing_count b) most_rules)
      (both (same (length b) (reply_head + rule_bytes * (opening_count b + closing_count b)))
      (both (less (byte_at b 1) m)
      (both (below (λ i. valid_rule m (opening_rule b i)) (opening_count b))
      (both (below (λ j. valid_rule m (closing_rule b j)) (closing_count b))
      (less (byte_at b 2) (2 ^ m))))))))))

-- the pass over a record ends well, and was never too deep
abbrev shallow : Pass → Bool
shallow ill = false
shallow (nested d) = leb d most_record_depth

pub record Shallow (w : Word) : Type 0 where
  pub nested : WellNested w
  pub shallow : depth nested.forest ≤ most_record_depth

pub shallow_nested : (w : Word) (p : Pass) → pass w [] 0 ≡ p → shallow p ≡ true → Shallow w
shallow_nested w ill e h = absurd (false≢true h)
shallow_nested w (nested d) e h =
    let n = sound w [] 0 d e in
    let k = leb-true d most_record_depth h in
    let i = nested_inj (sym (pass_tags w n) ∙ e) in
    record { nested = n; shallow = omega arith }

-- six bodies are valid
abbrev pub valid_bodies : (b : Bodies) → Check (ValidBodies b)
valid_bodies b =
    let w = word_of b.tags in
    gives
    (λ (t, (r, (a, (n, (k, v))))). record {
      target = t;
      reply = r;
      answered = λ c h. sample_answer (form_of (b.reply c)) (a c h);
      is_record = record { word = record { short = n; bytes = k; nested = v.nested }; shallow = v.shallow };
    })
    (both (target b.target)
    (both (forms (λ c. reply (b.reply c)))
    (both (forms (λ c. some_answer (form_of (b.reply c))))
    (both (at_most (length b.tags) most_tags)
    (both (below (λ k. less (get_or b.tags k 0) tag_bytes) (length b.tags))
    (record { passes = shallow (pass w [] 0); proves = shallow_nested w (pass w [] 0) refl }))))))
