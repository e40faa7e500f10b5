-- An accepted move of a play that fits: the play returned fits again, and holds what the held arena's step says.
use mathlib.Core.Path.{◌≡◌, refl, sym, ◌∙◌, ap, subst}
use mathlib.Core.List.{List}
use Prim.Native.Nat.{ℕ, ◌+◌, ◌<◌}
use native.Mathlib.Omega.{arith}
use lib.ListN.{length}
use Rattle.words.proofs.StackLaws.{length_newest}
use Rattle.words.specs.Tag.{Tag, opening, closing, word_of}
use Rattle.automata.specs.Target.{Target, step}
use Rattle.game.specs.Arena.{fetch}
use Rattle.game.specs.Game.{Game}
use Rattle.game.specs.Held.{held}
use Rattle.play.specs.Play.{held_of, tags_left, PlayFits}
use Rattle.play.specs.Moves.{MoveCall, to_read, to_fetch, tag_at, read_tag, moved}
use Rattle.demand.specs.Demand.{game_move}
use Rattle.play.specs.declared.Play.{Play}
use Rattle.words.specs.Inner.Rest.{Closes}
use Rattle.game.proofs.HeldGame.{HeldFits}
use Rattle.words.proofs.OpenLaws.{rest_left}
use Rattle.advice.proofs.LeftLaws.{kept_below}
use Rattle.demand.proofs.HeldPlay.{held_opening, held_closing, held_fetch}
use Rattle.fetching.proofs.FetchLaws.{allowed_closing}
use Rattle.play.proofs.SoundPlay.{Playable, Sound, place_left, some_open, sound_read, sound_fetch}
use Rattle.play.proofs.MoveRefusals.{FetchPasses}

-- what a play that fits holds is a position that the tags left fit
module _ (G : Game) (bytes : List ℕ) (y : Playable G.target (word_of bytes)) (p : Play) (f : PlayFits G.target (word_of bytes) p) where
  -- the tags left close what is open
  pub left_closes : Closes p.depth (tags_left (word_of bytes) p)
  left_closes = subst (λ d. Closes d (tags_left (word_of bytes) p)) (sym f.as_many) (_, rest_left (word_of bytes) y.nested p.position)

  pub held_fits : HeldFits G (tags_left (word_of bytes) p) (held_of p)
  unfolding held_of
  held_fits = (
    f.own_state,
    kept_below G.target.states p.kept p.depth f.kept_states,
    subst (λ d. Closes d (tags_left (word_of bytes) p)) (sym (length_newest p.kept p.depth)) left_closes,
  )

-- the position after a move
read_position : (A : Target) (t : Tag) (p : Play) → (read_tag A t p).position ≡ p.position + 1
read_position A (opening c) p = refl
read_position A (closing c) p = refl

pub moved_position : (A : Target) (bytes : List ℕ) (p : Play) (m : MoveCall) → (moved A bytes p m).position ≡ p.position + 1
moved_position A bytes p to_read = read_position A (tag_at bytes p) p
moved_position A bytes p (to_fetch u) = refl

module _ (G : Game) (bytes : List ℕ) (y : Playable G.target (word_of bytes)) (p : Play) (s : Sound G.target (word_of bytes) p) where
  read_held : p.position < length (word_of bytes) → (t : Tag) → tag_at bytes p ≡ t →
      held_of (read_tag G.target t p) ≡ step G.target t (held_of p)
  read_held left (opening c) e =
      let h = place_left s.fits y.nested left y.shallow c e in
      let l = s.kept_slots in
      held_opening G.target p c (omega arith)
  read_held left (closing c) e = held_closing G.target p (some_open s.fits y.nested left c e) c

  module _ (left : p.position < length (word_of bytes)) where
    pub moved_sound : (m : MoveCall) → FetchPasses G bytes p m → Sound G.target (word_of bytes) (moved G.target bytes p m)
    moved_sound to_read f = sound_read G.target (word_of bytes) p s left y (tag_at bytes p) refl
    moved_sound (to_fetch u) f =
        let c = allowed_closing G (tag_at bytes p) f.0 in
        sound_fetch G.target (word_of bytes) p s left y c.0 c.1 u f.2.nested

    pub moved_held : (m : MoveCall) → FetchPasses G bytes p m →
        held_of (moved G.target bytes p m) ≡ (held G).step (game_move m) (tag_at bytes p) (held_of p)
    moved_held to_read f = read_held left (tag_at bytes p) refl
    moved_held (to_fetch u) f =
        let c = allowed_closing G (tag_at bytes p) f.0 in
        held_fetch G.target p (some_open s.fits y.nested left c.0 c.1) c.0 u ∙
        ap (λ t. (held G).step (fetch (word_of u)) t (held_of p)) (sym c.1)
