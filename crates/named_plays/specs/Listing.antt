-- What program `verdict` lists for P5 (SPEC 9.8), as a table, and when such a table is the listing of a job file that has no long state
-- (SPEC 8.16). That P5's is, is the theorem `p5_listing_lem` in proofs/.
use Rattle.std.specs.Prelude.{◌≡◌, cond, ℕ, suc, ◌<◌, ◌≤◌, eqb}
use mathlib.Core.List.{List, [], ◌∷◌, map, flat_map, Memᴰ}
use Rattle.words.specs.Lists.{tabulated}
use Rattle.automata.specs.TargetBody.{most_states}
use Rattle.effects.specs.Effects.{Told}
use Rattle.effects.specs.declared.Shortest.{Shortest}
use Rattle.effects.specs.declared.Shortest.TheVariants.{Unreached, Tags}
use Rattle.contents.specs.Contents.{form_codes}
use Rattle.game.specs.Job.{game_of}
use Rattle.named_plays.specs.NamedPlays.{getmatch, getsap, getspec, getplace}

-- a line: a code, a state of the target, and the states of the effect there, each with its least number of tags
pub record Line : Type 0 where
  pub code : ℕ
  pub from : ℕ
  pub reached : List (ℕ × ℕ)

abbrev line : ℕ → ℕ → List (ℕ × ℕ) → Line
line c q l = record { code = c; from = q; reached = l }

unfoldable pub p5_listing : List Line
p5_listing =
    line getmatch 0 ((1, 2) ∷ []) ∷
    line getmatch 1 ((2, 2) ∷ []) ∷
    line getmatch 2 ((2, 2) ∷ []) ∷
    line getsap 0 ((0, 0) ∷ []) ∷
    line getsap 1 ((1, 0) ∷ []) ∷
    line getsap 2 ((2, 0) ∷ []) ∷
    line getspec 0 ((1, 2) ∷ (2, 2) ∷ []) ∷
    line getspec 1 ((2, 2) ∷ []) ∷
    line getspec 2 ((2, 2) ∷ []) ∷
    line getplace 0 ((0, 0) ∷ (1, 2) ∷ []) ∷
    line getplace 1 ((1, 0) ∷ (2, 2) ∷ []) ∷
    line getplace 2 ((2, 0) ∷ []) ∷
    []

-- what a line says of a state
abbrev pub shown : List (ℕ × ℕ) → ℕ → Shortest
shown [] s = Unreached
shown ((t, n) ∷ l) s = cond (eqb t s) (Tags n) (shown l s)

-- the states of a line rise, from a number on, and a target may have them
abbrev pub Rising : ℕ → List (ℕ × ℕ) → Type 0
Rising b [] = b ≤ most_states
Rising b ((s, n) ∷ l) = (b ≤ s) × Rising (suc s) l

-- what is claimed of a line: its states rise, and what it says of each state is so
pub record LineRight (file : List ℕ) (l : Line) : Type 0 where
  pub rising : Rising 0 l.reached
  pub least : (s : ℕ) → s < most_states →
      Told (game_of file).target ((game_of file).forms l.code) l.from s (shown l.reached s)

-- what a line begins with, and what the lines of a code are due to begin with: one for each state of the target, rising
abbrev begins : Line → ℕ × ℕ
begins l = (l.code, l.from)

abbrev due : List ℕ → ℕ → List (ℕ × ℕ)
due file c = tabulated (λ q. (c, q)) 0 (game_of file).target.states

-- what is claimed of a listing: its lines are those that are due for the codes that have a form, by rising code, and each is right
pub record ListingRight (file : List ℕ) (lines : List Line) : Type 0 where
  pub whole : map begins lines ≡ flat_map (due file) form_codes
  pub right : (l : Line) → Memᴰ l lines → LineRight file l
