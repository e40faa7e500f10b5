-- The rules of a body are put into a table of relations one after the other, each at its tag's byte and its kept state.
use mathlib.Core.Path.{◌≡◌, refl, sym, ◌∙◌, ap}
use mathlib.Core.Bool.{true, cond}
use mathlib.Core.List.{List}
use Prim.Native.Nat.{ℕ, ◌+◌, ◌-◌, ◌^◌, ◌<◌, ◌≤◌}
use native.Mathlib.Nat.{zero-add}
use native.Mathlib.Omega.{arith}
use borrow.Author.Tests.{lt-ltb, le-ltb}
use lib.Dec.{ltb}
use Rattle.words.specs.Tag.{closing, byte_of}
use Rattle.automata.specs.declared.reply.FormRule.{FormRule}
use Rattle.automata.specs.ReplyBody.{opening_count, closing_count}
use Rattle.automata.specs.Inner.MaskTable.{put, Plan, puts}
use Rattle.automata.specs.Inner.Rules.{opening_rule, closing_rule}
use Rattle.automata.proofs.MaskTableLaws.{puts_more}
use Rattle.replies.specs.Inner.Links.{pair_index}
use Rattle.replies.specs.Inner.Transitions.{relation_at}

-- a rule of either kind, with the byte of its tag
pub record TagRule : Type 0 where
  pub tag : ℕ
  pub kept : ℕ
  pub state : ℕ
  pub next : ℕ

abbrev pub of_opening : FormRule → TagRule
of_opening x = record { tag = x.code; kept = x.kept; state = x.state; next = x.next }

abbrev pub of_closing : FormRule → TagRule
of_closing x = record { tag = byte_of (closing x.code); kept = x.kept; state = x.state; next = x.next }

-- the rules of a body by their number, the closing ones after the opening ones
unfoldable pub rules_of : List ℕ → ℕ → TagRule
rules_of b x = cond (ltb x (opening_count b)) (of_opening (opening_rule b x)) (of_closing (closing_rule b (x - opening_count b)))

abbrev pub rule_count : List ℕ → ℕ
rule_count b = opening_count b + closing_count b

-- turn x puts rule x
unfoldable pub ruling : List ℕ → ℕ → Plan
ruling b base =
    record {
      when = λ x. true;
      at = λ x. base + relation_at (rules_of b x).tag (rules_of b x).kept;
      mask = λ x. 2 ^ pair_index (rules_of b x).state (rules_of b x).next;
    }

module _ (b : List ℕ) (x : ℕ) where
  pub rule_opening : x < opening_count b → rules_of b x ≡ of_opening (opening_rule b x)
  unfolding rules_of
  rule_opening h = rw (lt-ltb x (opening_count b) h)

  pub rule_closing : opening_count b ≤ x → rules_of b x ≡ of_closing (closing_rule b (x - opening_count b))
  unfolding rules_of
  rule_closing h = rw (le-ltb x (opening_count b) h)

-- a turn, by the rule that was read
module _ (b : List ℕ) (x : ℕ) (t u : List ℕ) (h : u ≡ puts (ruling b 0) x t) (o : FormRule) where
  abbrev Put : ℕ → Type 0
  Put tag = put u (relation_at tag o.kept) (2 ^ pair_index o.state o.next) ≡ puts (ruling b 0) (x + 1) t

  put_rule : {tag : ℕ} → rules_of b x ≡ record { tag = tag; kept = o.kept; state = o.state; next = o.next } → Put tag
  unfolding ruling
  put_rule {tag} e =
      rw (← zero-add (relation_at tag o.kept)) (rw (← ap (λ r. 0 + relation_at r.tag r.kept) e)
      (puts_more (ruling b 0) t x u h refl (sym (ap (λ r. 2 ^ pair_index r.state r.next) e))))

pub put_opening : (b : List ℕ) (i : ℕ) (t u : List ℕ) (h : u ≡ puts (ruling b 0) i t) (o : FormRule) → i < opening_count b →
    o ≡ opening_rule b i → Put b i t u h o o.code
put_opening b i t u h o l is = put_rule b i t u h o (rule_opening b i l ∙ ap of_opening (sym is))

-- closing rule j, after the opening rules and the closing ones before it
pub put_closing : (b : List ℕ) (j : ℕ) (t u : List ℕ) → u ≡ puts (ruling b 0) (opening_count b + j) t →
    (o : FormRule) → o ≡ closing_rule b j →
    put u (relation_at (byte_of (closing o.code)) o.kept) (2 ^ pair_index o.state o.next) ≡ puts (ruling b 0) (opening_count b + (j + 1)) t
put_closing b j t u h o is =
    let n = opening_count b in
    let back : n + j - n ≡ j = omega arith in
    let next : n + j + 1 ≡ n + (j + 1) = omega arith in
    let here : rules_of b (n + j) ≡ of_closing o =
    rule_closing b (n + j) (omega arith) ∙ ap (λ i. of_closing (closing_rule b i)) back ∙ ap of_closing (sym is) in
    rw next at (put_rule b (n + j) t u h o here)
