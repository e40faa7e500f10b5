-- Won and lost, decided: in an arena whose fetches have finitely many results, a recursive test tells which, and its own choices are a
-- winning strategy. Both directions come from one induction, with no axiom.
use mathlib.Core.Path.{◌≡◌, refl, sym, ◌∙◌, ap, subst}
use mathlib.Core.Bool.{Bool, true, false, not, ◌&&◌, ◌||◌, and-false, true≢false}
use mathlib.Core.Logic.{⊎_elim, ◌↔◌}
use mathlib.Core.List.{List, [], ◌∷◌, Memᴰ}
use Rattle.words.specs.Tag.{Tag, Word, code_of}
use Rattle.words.proofs.Truth.{and_both, or_neither, true_or_false}
use Rattle.game.specs.Arena.{read, fetch, Strategy, after, Arena, Ends, Won, Lost}
use Rattle.words.specs.Inner.All.{all}
use Rattle.words.proofs.ListLaws.{all_at, not_all}

-- What makes an arena solvable: `Good w x` says that x can come up with the tags w left, and at good positions the results of a fetch
-- are listed, no more and no less.
pub record Finite (G : Arena) : Type 1 where
  pub Good : Word → G.Pos → Type 0
  pub results : Tag → G.Pos → List G.Pos
  pub good_read : (t : Tag) (w : Word) (x : G.Pos) → Good (t ∷ w) x → Good w (G.step read t x)
  pub good_fetch : (t : Tag) (w : Word) (x : G.Pos) (u : Word) → Good (t ∷ w) x → G.may t x ≡ true → G.Lawful (code_of t) u
      → Good w (G.step (fetch u) t x)
  pub sound : (t : Tag) (w : Word) (x y : G.Pos) → Good (t ∷ w) x → G.may t x ≡ true → Memᴰ y (results t x)
      → (u : Word) × G.Lawful (code_of t) u × (G.step (fetch u) t x ≡ y)
  pub complete : (t : Tag) (w : Word) (x : G.Pos) (u : Word) → Good (t ∷ w) x → G.may t x ≡ true → G.Lawful (code_of t) u
      → Memᴰ (G.step (fetch u) t x) (results t x)

module _ (G : Arena) where
  -- how a strategy goes on at a tag, by whether it fetches there
  abbrev Goes : Strategy → Tag → Word → G.Pos → G.Pos → Bool → Type 0
  Goes σ t w x y b =
      elim b [
        | true ↦ (u : Word) × G.Lawful (code_of t) u × Ends G (after σ (fetch u)) w (G.step (fetch u) t x) y
        | false ↦ Ends G (after σ read) w (G.step read t x) y
      ]

  module _ (σ : Strategy) (t : Tag) (w : Word) (x y : G.Pos) where
    goes : (b : Bool) → (G.may t x && σ []) ≡ b → Ends G σ (t ∷ w) x y → Goes σ t w x y b
    goes b e r = subst (λ z. Goes σ t w x y z) e r

    pub went : (b : Bool) → (G.may t x && σ []) ≡ b → Goes σ t w x y b → Ends G σ (t ∷ w) x y
    went b e r = subst (λ z. Goes σ t w x y z) (sym e) r

    -- what follows from an end, by the move with which the strategy begins
    pub by_move : {C : Type 0} →
        ((u : Word) → (G.may t x && σ []) ≡ true → G.Lawful (code_of t) u → Ends G (after σ (fetch u)) w (G.step (fetch u) t x) y → C) →
        ((G.may t x && σ []) ≡ false → Ends G (after σ read) w (G.step read t x) y → C) →
        Ends G σ (t ∷ w) x y → C
    by_move fetches reads e =
        ⊎_elim (λ h. let (u, l, k) = goes true h e in fetches u h l k) (λ h. reads h (goes false h e)) (true_or_false (G.may t x && σ []))

-- in any arena no position is both won and lost
pub won_lost : (G : Arena) (w : Word) (x : G.Pos) → Won G w x → Lost G w x → ⊥
unfolding Won Lost
won_lost G w x (σ, wins) l = let q = l σ in true≢false (sym (wins q.0 q.1) ∙ q.2)

module _ (G : Arena) (F : Finite G) where
  -- the recursive test: won by reading, or won after every result of a fetch
  unfoldable pub win_at : Word → G.Pos → Bool
  win_at [] x = G.met x
  win_at (t ∷ w) x = win_at w (G.step read t x) || (G.may t x && all (λ y. win_at w y) (F.results t x))

  -- the winning strategy: read where that is won, else fetch
  unfoldable pub plan : Word → G.Pos → Strategy
  plan [] x h = false
  plan (t ∷ w) x [] = not (win_at w (G.step read t x))
  plan (t ∷ w) x (m ∷ h) = plan w (G.step m t x) h

  -- where the test says won, the plan ends in the form
  pub plan_wins : (w : Word) (x y : G.Pos) → F.Good w x → win_at w x ≡ true → Ends G (plan w x) w x y → G.met y ≡ true
  unfolding win_at plan after
  plan_wins [] x y g e r = ap G.met (sym r) ∙ e
  plan_wins (t ∷ w) x y g e r =
      let a = G.may t x in
      let b = win_at w (G.step read t x) in
      let s = all (λ z. win_at w z) (F.results t x) in
      let reads : b ≡ true → G.met y ≡ true =
      λ eb.
      let q = goes G (plan (t ∷ w) x) t w x y false (ap (λ z. a && not z) eb ∙ and-false a) r in
      plan_wins w (G.step read t x) y (F.good_read t w x g) eb q in
      let fetches : b ≡ false → a ≡ true → s ≡ true → G.met y ≡ true =
      λ eb ea es.
      let q = goes G (plan (t ∷ w) x) t w x y true (ap (λ z. a && not z) eb ∙ ap (λ z. z && true) ea) r in
      plan_wins w (G.step (fetch q.0) t x) y (F.good_fetch t w x q.0 g ea q.1)
      (all_at (λ z. win_at w z) (F.results t x) es (F.complete t w x q.0 g ea q.1)) q.2 in
      (elim b as (λ z. b ≡ z → (z || (a && s)) ≡ true → G.met y ≡ true) [
        | true ↦ λ eb h. reads eb
        | false ↦ λ eb h. let k = and_both a s h in fetches eb k.0 k.1
      ])
      refl e

  -- the strategy can end outside
  abbrev EndsOutside : Strategy → Word → G.Pos → Type 0
  EndsOutside σ w x = (y : G.Pos) × Ends G σ w x y × (G.met y ≡ false)

  -- where the test says lost, every strategy can end outside
  beaten : (w : Word) (x : G.Pos) → F.Good w x → win_at w x ≡ false → (σ : Strategy) → EndsOutside σ w x
  unfolding win_at
  beaten [] x g e σ = (x, refl, e)
  beaten (t ∷ w) x g e σ =
      let a = G.may t x in
      let b = win_at w (G.step read t x) in
      let s = all (λ z. win_at w z) (F.results t x) in
      let n = or_neither b (a && s) e in
      let reads : (a && σ []) ≡ false → EndsOutside σ (t ∷ w) x =
      λ h.
      let q = beaten w (G.step read t x) (F.good_read t w x g) n.0 (after σ read) in
      (q.0, went G σ t w x q.0 false h q.1, q.2) in
      let fetches : (a && σ []) ≡ true → EndsOutside σ (t ∷ w) x =
      λ h.
      let ea = (and_both a (σ []) h).0 in
      let p = not_all (λ z. win_at w z) (F.results t x) (ap (λ z. z && s) (sym ea) ∙ n.1) in
      let l = F.sound t w x p.0 g ea p.1 in
      let u = l.0 in
      let lost = ap (λ z. win_at w z) l.2 ∙ p.2 in
      let q = beaten w (G.step (fetch u) t x) (F.good_fetch t w x u g ea l.1) lost (after σ (fetch u)) in
      (q.0, went G σ t w x q.0 true h (u, l.1, q.1), q.2) in
      ⊎_elim fetches reads (true_or_false (a && σ []))

  module _ (w : Word) (x : G.Pos) (g : F.Good w x) where
    pub win→won : win_at w x ≡ true → Won G w x
    unfolding Won
    win→won e = (plan w x, λ y r. plan_wins w x y g e r)

    pub lose→lost : win_at w x ≡ false → Lost G w x
    unfolding Lost
    lose→lost e σ = beaten w x g e σ

    -- won exactly where the test says so, and lost exactly where it does not
    pub won_iff : Won G w x ↔ (win_at w x ≡ true)
    won_iff = (λ h. ⊎_elim (λ e. e) (λ e. absurd (won_lost G w x h (lose→lost e))) (true_or_false (win_at w x)), win→won)

    pub lost_iff : Lost G w x ↔ (win_at w x ≡ false)
    lost_iff = (λ h. ⊎_elim (λ e. absurd (won_lost G w x (win→won e) h)) (λ e. e) (true_or_false (win_at w x)), lose→lost)
