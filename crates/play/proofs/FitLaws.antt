-- A play that passes the tests of the code fits, and the test of a file's own bodies.
use mathlib.Core.Path.{◌≡◌, refl, sym, ◌∙◌, subst, subst₂}
use mathlib.Core.Bool.{Bool, true, false, decide, false≢true}
use mathlib.Core.Logic.{◌↔◌}
use mathlib.Core.List.{List}
use Prim.Native.Nat.{ℕ, suc, ◌+◌, ◌-◌, ◌<◌, ◌≤◌}
use native.Mathlib.Omega.{arith}
use lib.ListN.{length, get_or, take}
use lib.Seq.{get_or-take, length-take-le}
use Rattle.std.specs.Prelude.{MatchBool}
use Rattle.std.specs.List.Sorted.{IsNonDecreasing}
use Rattle.words.specs.Tag.{Word, word_of}
use Rattle.words.proofs.Decided.{decided_yes, decided_no, decided_true, decided_false}
use Rattle.automata.specs.Target.{Target}
use Rattle.automata.specs.TargetBody.{target_of}
use Rattle.contents.specs.Contents.{target_body, record_bytes}
use Rattle.game.specs.Job.{game_of, record_of}
use Rattle.words.specs.Opened.{open_at}
use Rattle.play.specs.Play.{PlayFits}
use Rattle.play.specs.Inner.Slots.{SlotFits, Rising}
use Rattle.play.specs.Decide.Play.{play_fits?}
use Rattle.play.specs.declared.Play.{Play}

-- what a test of the first places in one go tells
module _ (l : List ℕ) (d : ℕ) (within : d ≤ length l) where
  long : length (take d l) ≡ d
  long = length-take-le d l within

  here : (k : ℕ) → k < d → get_or (take d l) k 0 ≡ get_or l k 0
  here k h = get_or-take d l k 0 h

  pub rising_tested : (r : Bool) → MatchBool r (IsNonDecreasing (take d l))
      ((k : ℕ) × (k + 1 < length (take d l)) × ((x : ℕ) → get_or (take d l) (k + 1) x < get_or (take d l) k x)) → (r ≡ true) ↔ Rising l d
  rising_tested true h = (
    λ e i s. let up = h i (suc i) 0 (omega arith) (omega (arith, long)) in omega (arith, up, here i (omega arith), here (suc i) s),
    λ k. refl,
  )
  rising_tested false h = (
    λ e. absurd (false≢true e),
    λ k.
        let (i, s, f) = h in
        let near : i + 1 < d = omega (arith, s, long) in
        let e : suc i ≡ i + 1 = omega arith in
        let up : get_or l i 0 ≤ get_or l (i + 1) 0 = subst (λ j. get_or l i 0 ≤ get_or l j 0) e (k i (omega arith)) in
        absurd (omega (arith, f 0, up, here i (omega arith), here (i + 1) near)),
  )

-- past the other tests of `play_fits` the last one decides
module _
    (A : Target)
    (w : Word)
    (p : Play)
    (n : ℕ)
    (e : n ≡ A.states)
    (some : 1 ≤ n)
    (within : p.position ≤ length w)
    (state : p.state < n)
    (as_many : p.depth ≡ open_at w p.position)
    (kept : (i : ℕ) → SlotFits p.kept p.depth (n - 1) i)
    (begins : (i : ℕ) → SlotFits p.begins p.depth p.count i) where
  fits : Rising p.begins p.depth → PlayFits A w p
  fits r =
      record {
        within = within;
        own_state = omega arith;
        as_many = as_many;
        kept_states = λ i h. let x = (kept i).0 h in omega arith;
        kept_unused = λ i. (kept i).1;
        begins_unused = λ i. (begins i).1;
        begins_rising = r;
        begins_below = λ i. (begins i).0;
      }

  pub last_test : (b : Bool) → (b ≡ true) ↔ Rising p.begins p.depth → b ≡ decide (play_fits? A w p)
  last_test true t = sym (decided_yes (play_fits? A w p) (fits (t.0 refl)))
  last_test false t = sym (decided_no (play_fits? A w p) (λ f. false≢true (t.1 f.begins_rising)))

-- The test as the entries make it, on bodies that are the file's own.
module _ (file : List ℕ) {target bytes : List ℕ} (is-target : target ≡ target_body file) (is_record : bytes ≡ record_bytes file) where
  pub own_test : (p : Play) (b : Bool) → b ≡ decide (play_fits? (target_of target) (word_of bytes) p) →
      b ≡ decide (play_fits? (game_of file).target (record_of file) p)
  unfolding game_of
  own_test p b e = subst₂ (λ t r. b ≡ decide (play_fits? (target_of t) (word_of r) p)) is-target is_record e

  -- what it answers of a play
  module _ (p : Play) {b : Bool} (e : b ≡ decide (play_fits? (target_of target) (word_of bytes) p)) where
    pub own_fits : b ≡ true → PlayFits (game_of file).target (record_of file) p
    own_fits t = decided_true (play_fits? (game_of file).target (record_of file) p) (sym (own_test p b e) ∙ t)

    pub own_unfit : b ≡ false → ¬ PlayFits (game_of file).target (record_of file) p
    own_unfit n = decided_false (play_fits? (game_of file).target (record_of file) p) (sym (own_test p b e) ∙ n)
