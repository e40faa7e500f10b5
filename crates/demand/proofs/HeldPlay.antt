-- What a play holds after a move is where that move leads from what it held before.
use mathlib.Core.Path.{◌≡◌, sym, ap}
use mathlib.Core.List.{List, ◌∷◌}
use Prim.Native.Nat.{ℕ, zero, suc, ◌-◌, ◌<◌}
use native.Mathlib.Omega.{arith}
use native.Mathlib.Nat.{not-suc-le-zero}
use lib.ListN.{length, get_or, set}
use Rattle.words.specs.Stack.{newest_first}
use Rattle.words.proofs.StackLaws.{newest_kept, newest_pushed}
use Rattle.words.specs.Tag.{opening, closing, word_of}
use Rattle.automata.specs.Target.{Target, at, step}
use Rattle.game.specs.Rule.{replying}
use Rattle.game.specs.Held.{replied}
use Rattle.play.specs.Play.{held_of}
use Rattle.play.specs.Moves.{read_tag, fetch_reply}
use Rattle.play.specs.declared.Play.{Play}

-- the newest is closed
pub newest_closed : (l : List ℕ) (d : ℕ) → 0 < d → newest_first l d ≡ get_or l (d - 1) 0 ∷ newest_first (set l (d - 1) 0) (d - 1)
newest_closed l zero h = absurd (not-suc-le-zero h)
newest_closed l (suc d) h =
    let e : suc d - 1 ≡ d = omega arith in rw e (ap (λ r. get_or l d 0 ∷ r) (sym (newest_kept l d d 0 (omega arith))))

module _ (A : Target) (p : Play) where
  pub held_opening : (c : ℕ) → p.depth < length p.kept → held_of (read_tag A (opening c) p) ≡ step A (opening c) (held_of p)
  unfolding held_of
  held_opening c h = ap (λ ks. at (A.open_to p.state c) ks) (newest_pushed p.kept p.depth p.state h)

  module _ (some : 0 < p.depth) where
    pub held_closing : (c : ℕ) → held_of (read_tag A (closing c) p) ≡ step A (closing c) (held_of p)
    unfolding held_of
    held_closing c = sym (ap (λ ks. step A (closing c) (at p.state ks)) (newest_closed p.kept p.depth some))

    pub held_fetch : (c : ℕ) (u : List ℕ) → held_of (fetch_reply A u p) ≡ replying (replied A) (word_of u) (closing c) (held_of p)
    unfolding held_of
    held_fetch c u =
        sym (ap (λ ks. replying (replied A) (word_of u) (closing c) (at p.state ks)) (newest_closed p.kept p.depth some))
