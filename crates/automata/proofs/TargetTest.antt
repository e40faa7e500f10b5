-- What the tests of a target body show: past those of the fixed part and of the length, the body is valid exactly when its tables are.
use mathlib.Core.Path.{◌≡◌, sym}
use mathlib.Core.Bool.{Bool, true, false, decide}
use mathlib.Core.Logic.{◌↔◌}
use mathlib.Core.List.{List}
use Prim.Native.Nat.{ℕ, ◌+◌, ◌*◌, ◌/◌, ◌^◌, ◌<◌, ◌≤◌}
use lib.ListN.{length}
use Rattle.words.specs.Numbers.{byte_at, four}
use Rattle.words.specs.Tag.{codes}
use Rattle.words.specs.Inner.BytesBelow.{BytesBelow}
use Rattle.words.proofs.Decided.{decided_no, decided_iff}
use Rattle.automata.specs.TargetBody.{most_states, target_head, states_of, ValidTarget}
use Rattle.automata.specs.Decide.TargetBody.{valid_target?}
use Rattle.automata.proofs.ShiftLaws.{shifted_out}

module _ (b : List ℕ) where
  pub target_refused : (ValidTarget b → ⊥) → false ≡ decide (valid_target? b)
  target_refused n = sym (decided_no (valid_target? b) n)

  pub target_mask_shifted : ValidTarget b → four b 2 / 2 ^ states_of b ≡ 0
  target_mask_shifted v = (shifted_out (states_of b) (four b 2)).1 v.mask_bits

  pub tables_left : 1 ≤ states_of b → states_of b ≤ most_states →
      length b ≡ target_head + codes * states_of b + codes * (states_of b * states_of b) →
      byte_at b 1 < states_of b →
      four b 2 / 2 ^ states_of b ≡ 0 →
      (r : Bool) → (r ≡ true) ↔ BytesBelow b target_head (states_of b) → r ≡ decide (valid_target? b)
  tables_left some few long start shifted r (fore, back) =
      decided_iff (valid_target? b) r (
        λ e. record {
          some_state = some;
          few_states = few;
          long = long;
          start_state = start;
          table_states = fore e;
          mask_bits = (shifted_out (states_of b) (four b 2)).0 shifted;
        },
        λ v. back v.table_states,
      )
