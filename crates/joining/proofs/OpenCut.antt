-- Where joining fails: records cut after the opening tag of a date. A date by itself is in the form, a date after a note is not. Within the
-- date the target is in the same state both times; what tells them apart is the state that it keeps.
use mathlib.Core.Path.{◌≡◌, refl, subst}
use mathlib.Core.Bool.{Bool, true, false, cond, ◌&&◌}
use mathlib.Core.Logic.{◌↔◌}
use mathlib.Core.List.{[], ◌∷◌, ◌++◌}
use Prim.Native.Nat.{ℕ, ◌<◌}
use native.Mathlib.Omega.{arith}
use lib.Dec.{eqb}
use Rattle.words.specs.Tag.{opening, closing, Word}
use Rattle.words.specs.Forest.{none, elem}
use Rattle.words.specs.Vocabulary.{vocabulary, fetchable}
use Rattle.automata.specs.Target.{Target, Closed, in_form}
use Rattle.automata.specs.Reply.{Form}
use Rattle.game.specs.Arena.{read, Won, Lost}
use Rattle.game.specs.Game.{Game}
use Rattle.game.specs.Spelled.{Spelling, unspelled, spell, spelled}
use Rattle.game.specs.Held.{end_state}
use Rattle.game.specs.Verdict.{RecordWon, RecordLost}
use Rattle.game.proofs.Solve.{won_lost}
use Rattle.joining.specs.Joined.{led_to, SecondWon, LeadsInto, FirstForces, ServesAsWinning, FailsInside}
use Rattle.joining.proofs.EndLaws.{forced, forced_by}

abbrev date : ℕ
date = 9

abbrev note : ℕ
note = 11

-- 0, the start, is accepting; 1 is within an element; 2 is behind one that is not to be there
abbrev after_element : ℕ → ℕ → ℕ
after_element q c = cond (eqb q 0 && eqb c date) 0 2

abbrev dates_only : Target
dates_only = record { states = 3; start = 0; accepting = λ q. eqb q 0; open_to = λ q c. 1; close_to = λ r q c. after_element q c }

-- no reply plays a part
abbrev empty_only : Form
empty_only = record { states = 1; start = 0; accepting = λ q. true; openings = []; closings = [] }

abbrev G : Game
G = record { target = dates_only; fetchable = fetchable; forms = λ c. empty_only }

-- the two first parts, and what is behind both
abbrev date_opened : Word
date_opened = opening date ∷ []

abbrev note_before : Word
note_before = opening note ∷ closing note ∷ opening date ∷ []

abbrev date_closed : Word
date_closed = closing date ∷ []

below_three : (b : Bool) → cond b 0 2 < 3
below_three true = omega arith
below_three false = omega arith

dates_closed : Closed dates_only
dates_closed =
    record {
      start_below = omega arith;
      open_below = λ q c. omega arith;
      close_below = λ r q c. below_three (eqb q 0 && eqb c date);
    }

date_won : RecordWon G (date_opened ++ date_closed)
unfolding Won in_form fetchable vocabulary
date_won = (λ h. false, λ y e. subst (λ z. (spelled G).met z ≡ true) e refl)

note_lost : RecordLost G (note_before ++ date_closed)
unfolding Lost in_form fetchable vocabulary
note_lost σ =
    let end : Spelling = record { word = note_before ++ date_closed; notes = [] } in
    (end, refl, refl)

-- the date alone: something is kept at its end
not_joined : RecordWon G (date_opened ++ date_closed) ↔ FirstForces G (SecondWon G date_closed) date_opened → ⊥
not_joined j =
    let winning = LeadsInto G (SecondWon G date_closed) in
    let (σ, ends) = forced (spelled G) winning date_opened unspelled (j.0 date_won) in
    let (s, e, w) = ends (spell read (opening date) unspelled) refl in
    let z : ◌≡◌ {A = ℕ} 0 1 = cc in
    omega arith

-- the state within the date would be a winning one, since the date alone is won; so the date after the note would be won
none_serves : (P : ℕ → Type 0) → ServesAsWinning G date_opened date_closed P → ¬ ServesAsWinning G note_before date_closed P
unfolding fetchable vocabulary
none_serves P alone after =
    let winning : Spelling → Type 0 = λ y. P (end_state (led_to G y.word)) in
    let (σ, ends) = forced (spelled G) winning date_opened unspelled (alone.0 date_won) in
    let p : P 1 = ends (spell read (opening date) unspelled) refl in
    let reads = forced_by (spelled G) winning note_before unspelled (λ h. false) (λ y e. subst winning e p) in
    won_lost (spelled G) (note_before ++ date_closed) unspelled (after.1 reads) note_lost

pub inside_an_element : FailsInside G date_opened note_before date_closed
inside_an_element =
    record {
      closed = dates_closed;
      nested = record { forest = elem date none none; coded = (omega arith, tt, tt); spells = refl };
      nested' = record { forest = elem note none (elem date none none); coded = (omega arith, tt, (omega arith, tt, tt)); spells = refl };
      inside = refl;
      inside' = refl;
      won = date_won;
      lost = note_lost;
      fails = not_joined;
      none_serves = none_serves;
    }
