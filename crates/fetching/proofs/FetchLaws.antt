-- Where a job file allows a fetch, and the reply form that is asked there.
use mathlib.Core.Path.{◌≡◌, refl, sym, ◌∙◌, ap}
use mathlib.Core.Bool.{true, false≢true}
use mathlib.Core.List.{List}
use Prim.Native.Nat.{ℕ, ◌≤◌}
use native.Mathlib.Omega.{arith}
use native.Mathlib.Decide.{dec_lt}
use Rattle.words.specs.Tag.{Tag, opening, closing, codes, code_of, tag_of}
use Rattle.words.specs.Inner.TagByte.{CodeIs}
use Rattle.words.specs.Vocabulary.{fetchable}
use Rattle.words.proofs.Bytes.{tag_of_opening, tag_of_closing}
use Rattle.job.specs.File.{form_in}
use Rattle.game.specs.Game.{Game, allowed}
use Rattle.game.specs.Job.{game_of}

-- a fetch is allowed at closing tags only
pub allowed_closing : (G : Game) (t : Tag) → allowed G t ≡ true → (c : ℕ) × (t ≡ closing c)
allowed_closing G (opening c) e = absurd (false≢true e)
allowed_closing G (closing c) e = (c, refl)

-- so a byte at which one is allowed is a closing tag's, of the code that is read off it
pub closes_allowed : (G : Game) (b c : ℕ) → CodeIs b c → allowed G (tag_of b) ≡ true → tag_of b ≡ closing c
closes_allowed G b c is e =
    elim (dec_lt b codes) [
      | yes h ↦ absurd (false≢true (sym (ap (λ t. allowed G t) (tag_of_opening b h)) ∙ e))
      | no h ↦ let l : codes ≤ b = omega arith in tag_of_closing b l ∙ ap closing (sym (is.closing l))
    ]

-- the mark and the form of the code of a closing tag
module _ (file : List ℕ) (t : Tag) (c : ℕ) (e : t ≡ closing c) where
  pub fetchable_closing : allowed (game_of file) t ≡ fetchable c
  unfolding game_of
  fetchable_closing = ap (λ x. allowed (game_of file) x) e

  pub form_closing : (game_of file).forms (code_of t) ≡ form_in file c
  unfolding game_of
  form_closing = ap (λ x. (game_of file).forms (code_of x)) e
