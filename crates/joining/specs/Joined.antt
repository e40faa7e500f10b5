-- Two records set end to end, in the game on words and for the verdict on a file (SPEC 12). Beside each claim stands its theorem.
use Rattle.std.specs.Prelude.{◌≡◌, ◌↔◌, ℕ}
use mathlib.Core.List.{List, [], ◌∷◌, ◌++◌, Memᴰ}
use Rattle.words.specs.Tag.{Word}
use Rattle.words.specs.Forest.{WellNested}
use Rattle.words.specs.Opened.{open_after}
use Rattle.automata.specs.Target.{Closed, Config, at, run}
use Rattle.game.specs.Arena.{Won, Lost}
use Rattle.game.specs.Game.{Game}
use Rattle.game.specs.Spelled.{Spelling, unspelled, spelled}
use Rattle.game.specs.Held.{end_state, replacing}
use Rattle.game.specs.Job.{game_of}
use Rattle.game.specs.Verdict.{RecordWon, RecordLost, YesOrNo}
use Rattle.joining.specs.WinningStates.{Forces, CannotAvoid, EndedIn, PartWon, PartLost, PartsWon, PartsLost, end_to_end}

-- to where a word leads the target
abbrev pub led_to : Game → Word → Config
led_to G w = run G.target w (at G.target.start [])

-- the second part is "won from a target state" (SPEC 12.2), and lost
abbrev pub SecondWon : Game → Word → ℕ → Type 0
SecondWon G v s = PartWon (replacing G) v s

abbrev pub SecondLost : Game → Word → ℕ → Type 0
SecondLost G v s = PartLost (replacing G) v s

-- The state is all that counts: if the finished part p leads to s, a well-nested v is won in the game on words from p exactly when it is
-- won from s. This is the theorem `state_decides`.
pub record StateDecides (G : Game) (v p : Word) (s : ℕ) : Type 0 where
  pub won : Won (spelled G) v (record { word = p; notes = [] }) ↔ SecondWon G v s
  pub lost : Lost (spelled G) v (record { word = p; notes = [] }) ↔ SecondLost G v s

-- the word spelled leads the target to a state of P, with nothing kept
abbrev pub LeadsInto : Game → (ℕ → Type 0) → Spelling → Type 0
LeadsInto G P y = EndedIn P (led_to G y.word)

-- u can be played from the record's start so that it ends only in states of P; however it is played, it can end in one
abbrev pub FirstForces : Game → (ℕ → Type 0) → Word → Type 0
FirstForces G P u = Forces (spelled G) (LeadsInto G P) u unspelled

abbrev pub FirstCannotAvoid : Game → (ℕ → Type 0) → Word → Type 0
FirstCannotAvoid G P u = CannotAvoid (spelled G) (LeadsInto G P) u unspelled

-- joining (SPEC 12.3, 12.4), of any two well-nested words: `joining`, for every game whose target is closed, and the first half,
-- `joining_won`, for every game
pub record Joined (G : Game) (u v : Word) : Type 0 where
  pub won : RecordWon G (u ++ v) ↔ FirstForces G (SecondWon G v) u
  pub lost : RecordLost G (u ++ v) ↔ FirstCannotAvoid G (SecondLost G v) u

-- a cut between top-level elements (SPEC 12.1): the word falls into u and v, and no element is open between them
pub record IsCut (w u v : Word) : Type 0 where
  pub parts : u ++ v ≡ w
  pub between : open_after u 0 ≡ 0

-- the verdict on a file whose record is cut into u and v: `verdict_joined`
abbrev pub VerdictJoined : List ℕ → Word → Word → ℕ → Type 0
VerdictJoined file u v =
    YesOrNo (FirstForces (game_of file) (SecondWon (game_of file) v) u) (FirstCannotAvoid (game_of file) (SecondLost (game_of file) v) u)

-- the same with any number of parts us after u (SPEC 12.6): `joining_parts`
pub record JoinedByParts (G : Game) (u : Word) (us : List Word) : Type 0 where
  pub won : RecordWon G (end_to_end (u ∷ us)) ↔ FirstForces G (PartsWon (replacing G) us) u
  pub lost : RecordLost G (end_to_end (u ∷ us)) ↔ FirstCannotAvoid G (PartsLost (replacing G) us) u

-- cuts between top-level elements into any number of parts
pub record IsCutInto (w : Word) (us : List Word) : Type 0 where
  pub parts : end_to_end us ≡ w
  pub between : (u : Word) → Memᴰ u us → open_after u 0 ≡ 0

-- the verdict on a file whose record is cut into u and the parts us: `verdict_by_parts`
abbrev pub VerdictByParts : List ℕ → Word → List Word → ℕ → Type 0
VerdictByParts file u us =
    YesOrNo (FirstForces (game_of file) (PartsWon (replacing (game_of file)) us) u)
    (FirstCannotAvoid (game_of file) (PartsLost (replacing (game_of file)) us) u)

-- P serves as the winning states of v behind u: SPEC 12.3 would hold of them with P, whatever is kept
abbrev pub ServesAsWinning : Game → Word → Word → (ℕ → Type 0) → Type 0
ServesAsWinning G u v P = RecordWon G (u ++ v) ↔ Forces (spelled G) (λ y. P (end_state (led_to G y.word))) u unspelled

-- Within an element SPEC 12.3 need not hold (SPEC 12.7), and no states could be the winning ones: u and u' come to one state, with v behind
-- them one record is won and the other lost, and no set P serves both. That there are such a game and words is `inside_an_element`.
pub record FailsInside (G : Game) (u u' v : Word) : Type 1 where
  pub closed : Closed G.target
  pub nested : WellNested (u ++ v)
  pub nested' : WellNested (u' ++ v)
  pub inside : open_after u 0 ≡ 1
  pub inside' : open_after u' 0 ≡ 1
  pub won : RecordWon G (u ++ v)
  pub lost : RecordLost G (u' ++ v)
  pub fails : ¬ (RecordWon G (u ++ v) ↔ FirstForces G (SecondWon G v) u)
  pub none_serves : (P : ℕ → Type 0) → ServesAsWinning G u v P → ¬ ServesAsWinning G u' v P
