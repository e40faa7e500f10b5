-- The target's run by tags and its run over forests agree, whatever is kept; and a run stays among the n states.
use mathlib.Core.Path.{◌≡◌, refl, sym, ◌∙◌, ap}
use mathlib.Core.List.{List, [], ◌∷◌, ◌++◌, append_assoc, append-nil}
use Prim.Native.Nat.{ℕ, ◌<◌}
use Rattle.words.specs.Tag.{closing, Word}
use Rattle.words.specs.Forest.{Forest, none, elem, tags, WellNested}
use Rattle.automata.specs.Target.{Target, Closed, Config, at, step, run}
use Rattle.automata.specs.Inner.TargetRead.{over}

pub at_state : {X : Type 0} {x y : X} → at x [] ≡ at y [] → x ≡ y
at_state {x = x} {y = y} e = cc

module _ (A : Target) where
  pub run_append : (u v : Word) (k : Config) → run A (u ++ v) k ≡ run A v (run A u k)
  run_append [] v k = refl
  run_append (t ∷ u) v k = run_append u v (step A t k)

  pub run_tags : (f : Forest) (w : Word) (q : ℕ) (ks : List ℕ) → run A (tags f ++ w) (at q ks) ≡ run A w (at (over A f q) ks)
  run_tags none w q ks = refl
  run_tags (elem c f g) w q ks =
      let inner = A.open_to q c in
      ap (λ u. run A u (at inner (q ∷ ks))) (append_assoc (tags f) (closing c ∷ tags g) w) ∙
      run_tags f (closing c ∷ (tags g ++ w)) inner (q ∷ ks) ∙
      run_tags g w (A.close_to (over A f inner) q c) ks

  pub run_forest : (f : Forest) (q : ℕ) (ks : List ℕ) → run A (tags f) (at q ks) ≡ at (over A f q) ks
  run_forest f q ks = ap (λ v. run A v (at q ks)) (sym (append-nil (tags f))) ∙ run_tags f [] q ks

  pub run_nested : (u : Word) (n : WellNested u) (q : ℕ) (ks : List ℕ) → run A u (at q ks) ≡ at (over A n.forest q) ks
  run_nested u n q ks = ap (λ v. run A v (at q ks)) (sym n.spells) ∙ run_forest n.forest q ks

  -- what a well-nested word does from one context it does in every other
  pub run_anywhere : (u : Word) → WellNested u → (q s : ℕ) (ks : List ℕ) → run A u (at q []) ≡ at s [] → run A u (at q ks) ≡ at s ks
  run_anywhere u n q s ks e = run_nested u n q ks ∙ ap (λ x. at x ks) (at_state (sym (run_nested u n q []) ∙ e))

pub over_below : (A : Target) → Closed A → (f : Forest) (q : ℕ) → q < A.states → over A f q < A.states
over_below A k none q h = h
over_below A k (elem c f g) q h =
    over_below A k g (A.close_to (over A f (A.open_to q c)) q c) (k.close_below (over A f (A.open_to q c)) q c)
