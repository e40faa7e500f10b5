-- Laws of a reply form's body: what the tests on its bytes and rules say of its validity.
use mathlib.Core.Path.{◌≡◌, sym}
use mathlib.Core.Bool.{Bool, true, false, decide}
use mathlib.Core.Logic.{◌↔◌}
use mathlib.Core.List.{List}
use Prim.Native.Nat.{ℕ, ◌+◌, ◌-◌, ◌*◌, ◌/◌, ◌^◌, ◌<◌, ◌≤◌}
use native.Mathlib.Omega.{arith}
use lib.ListN.{length}
use Rattle.words.specs.Numbers.{byte_at}
use Rattle.words.proofs.Decided.{decided_no, decided_iff}
use Rattle.automata.specs.ReplyBody.{most_reply_states, most_rules, reply_head, rule_bytes, reply_states, opening_count, closing_count}
use Rattle.automata.specs.ReplyBody.{ValidReply}
use Rattle.automata.specs.Decide.ReplyBody.{valid_reply?}
use Rattle.automata.specs.Inner.Rules.{RulesValid}
use Rattle.automata.proofs.ShiftLaws.{shifted_out}

-- how long it can be (SPEC 6.7)
pub reply_most : (b : List ℕ) → ValidReply b → length b ≤ reply_head + rule_bytes * (most_rules + most_rules)
reply_most b v = let l = v.long in let o = v.few_openings in let c = v.few_closings in omega arith

module _ (b : List ℕ) where
  pub reply_refused : (ValidReply b → ⊥) → false ≡ decide (valid_reply? b)
  reply_refused n = sym (decided_no (valid_reply? b) n)

  pub reply_mask_shifted : ValidReply b → byte_at b 2 / 2 ^ reply_states b ≡ 0
  reply_mask_shifted v = (shifted_out (reply_states b) (byte_at b 2)).1 v.mask_bits

  -- the rules in a row: the closing rules stand after the opening ones
  abbrev AllValid : Type 0
  AllValid = RulesValid b (reply_states b) (opening_count b) (opening_count b + closing_count b)

  all_valid : ValidReply b → AllValid
  all_valid v i h = (
    v.opening_rules i,
    λ l.
        let j = i - opening_count b in
        let e : opening_count b + j ≡ i = omega arith in
        rw e at (v.closing_rules j (omega arith)),
  )

  -- a body that passed every other test is judged by its rules
  module _
      (some : 1 ≤ reply_states b)
      (few : reply_states b ≤ most_reply_states)
      (start : byte_at b 1 < reply_states b)
      (mask : byte_at b 2 / 2 ^ reply_states b ≡ 0)
      (few_openings : opening_count b ≤ most_rules)
      (few_closings : closing_count b ≤ most_rules)
      (long : length b ≡ reply_head + rule_bytes * (opening_count b + closing_count b)) where
    valid : AllValid → ValidReply b
    valid rules =
        record {
          some_state = some;
          few_states = few;
          few_openings = few_openings;
          few_closings = few_closings;
          long = long;
          start_state = start;
          opening_rules = λ i h. (rules i (omega arith)).0 h;
          closing_rules = λ j h. (rules (opening_count b + j) (omega arith)).1 (omega arith);
          mask_bits = (shifted_out (reply_states b) (byte_at b 2)).0 mask;
        }

    pub judged : (r : Bool) → (r ≡ true) ↔ AllValid → r ≡ decide (valid_reply? b)
    judged r (fore, back) = decided_iff (valid_reply? b) r (λ e. valid (fore e), λ v. back (all_valid v))
