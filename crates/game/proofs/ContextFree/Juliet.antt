-- Where the recursive test says won, Juliet has a winning replay-free strategy: on the record she reads where that is won and else calls,
-- and inside a reply she reads.
use mathlib.Core.Path.{◌≡◌, refl, sym, ◌∙◌, ap, subst}
use mathlib.Core.Bool.{Bool, true, false, not, cond, ◌&&◌, ◌||◌, and-false, or-false, false≢true}
use mathlib.Core.Logic.{⊎_elim}
use mathlib.Core.List.{List, [], ◌∷◌, ◌++◌, tail}
use Prim.Native.Nat.{ℕ, zero, suc, ◌<◌}
use native.Mathlib.Omega.{arith}
use lib.Dec.{eqb, eqb-suc-zero}
use lib.ListN.{length, replicate, get_or, length-append}
use borrow.Author.Tests.{eqb-true}
use Rattle.words.specs.Tag.{Tag, opening, closing, Word}
use Rattle.words.specs.Forest.{WellNested}
use Rattle.words.proofs.Truth.{and_both, true_or_false}
use Rattle.automata.specs.Target.{Target, Closed, Config, at, step, run, in_form}
use Rattle.game.specs.Game.{Game, allowed}
use Rattle.game.specs.Held.{replacing, held}
use Rattle.words.specs.Inner.All.{all}
use Rattle.game.specs.ContextFree.{context_free, juliet, romeo, Configuration, config, Read, Call, Reply, reads, calls, replies}
use Rattle.game.specs.ContextFree.{Callable, Juliet, Romeo, Leads, here, goes, JulietHasStrategy}
use Rattle.game.specs.Listed.{Listed}
use Rattle.words.proofs.ListLaws.{all_at}
use Rattle.game.proofs.Solve.{win_at}
use Rattle.game.proofs.HeldGame.{HeldFits, held_may}
use Rattle.game.proofs.RuleGame.{fetched, fits_read, fits_fetch, fetch_complete, rule_finite}
use Rattle.game.proofs.Determined.{closed_listed, tested}
use Rattle.game.proofs.ContextFree.Focus.{Around, around_start, around_end, around_read, around_element}
use Rattle.game.proofs.ContextFree.Ahead.{reopened, fetch_read, reached, reached_more, reached_before}
use Rattle.game.proofs.ContextFree.Ahead.{Ahead, on_record, in_reply, ahead_reply}
use Rattle.game.proofs.ContextFree.Depths.{depths, depths_replied, replay_free}

module _ (G : Game) (is_closed : Closed G.target) where
  abbrev A : Target
  A = G.target

  abbrev L : Listed (replacing G)
  L = closed_listed G is_closed

  abbrev win : Word → Config → Bool
  win = tested G is_closed

  -- whether to call, by the depths of the tags ahead
  abbrev choice : List ℕ → Configuration → Bool
  choice ds (config juliet u []) = false
  choice ds (config juliet u (t ∷ z)) = allowed G t && (eqb (get_or ds 0 0) 0 && not (win z (step A t (reached A u))))
  choice ds (config romeo u v) = false

  -- Juliet calls only where Call is allowed, and only on the record
  choice_allowed : (ds : List ℕ) (u v : Word) → choice ds (config juliet u v) ≡ true → Callable (context_free G) v
  choice_allowed ds u [] e = absurd (false≢true e)
  choice_allowed ds u (opening a ∷ z) e = absurd (false≢true e)
  choice_allowed ds u (closing a ∷ z) e = (and_both (G.fetchable a) _ e).0

  choice_zero : (ds : List ℕ) (κ : Configuration) → choice ds κ ≡ true → get_or ds 0 0 ≡ 0
  choice_zero ds (config juliet u []) e = absurd (false≢true e)
  choice_zero ds (config juliet u (t ∷ z)) e =
      eqb-true (get_or ds 0 0) 0 (and_both (eqb (get_or ds 0 0) 0) _ (and_both (allowed G t) _ e).1).0
  choice_zero ds (config romeo u v) e = absurd (false≢true e)

  winning_juliet : Juliet (context_free G)
  winning_juliet =
      record {
        calls = λ h κ. choice (depths h κ) κ;
        allowed = λ h u v e. choice_allowed (depths h (config juliet u v)) u v e;
      }

  -- inside a reply, and where reading is won, the choice is to read
  reads_reply : (ds : List ℕ) (u v : Word) (t : Tag) (d : ℕ) → 0 < d → get_or ds 0 0 ≡ d → choice ds (config juliet u (t ∷ v)) ≡ false
  reads_reply ds u v t zero h e = elim h [ ]
  reads_reply ds u v t (suc d) h e =
      let b = not (win v (step A t (reached A u))) in
      ap (λ n. allowed G t && (eqb n 0 && b)) e ∙ ap (λ x. allowed G t && (x && b)) (eqb-suc-zero d) ∙ and-false (allowed G t)

  reads_won : (ds : List ℕ) (u v : Word) (t : Tag) → win v (step A t (reached A u)) ≡ true → choice ds (config juliet u (t ∷ v)) ≡ false
  reads_won ds u v t e =
      let n = eqb (get_or ds 0 0) 0 in
      ap (λ x. allowed G t && (n && not x)) e ∙ ap (λ x. allowed G t && x) (and-false n) ∙ and-false (allowed G t)

  -- on the record, where reading is not won and a Call is allowed, Juliet calls
  calls_else : (ds : List ℕ) (u z : Word) (a : ℕ) → ds ≡ replicate (suc (length z)) 0 → G.fetchable a ≡ true
      → win z (step A (closing a) (reached A u)) ≡ false → choice ds (config juliet u (closing a ∷ z)) ≡ true
  calls_else ds u z a d m e = rw (d, m, e) refl

  -- the focus is on the record: no tag of a reply is ahead
  record OnRecord (h : List Configuration) (u w : Word) : Type 0 where
    zeros : depths h (config juliet u w) ≡ replicate (length w) 0
    around : Around u w
    fits : HeldFits G w (reached A u)

  module _ (τ : Romeo (context_free G)) where
    -- after the configurations h the play leads from κ to its end in T
    abbrev Wins : List Configuration → Configuration → Type 0
    Wins h κ = (u : Word) × Leads (context_free G) winning_juliet τ h κ (config juliet u []) × (context_free G).T u

    -- where Juliet chooses to read, she wins if she wins after reading
    read_on : (h : List Configuration) (u u' v : Word) (t : Tag) → let κ = config juliet u (t ∷ v) in
        choice (depths h κ) κ ≡ false → u' ≡ u ++ (t ∷ []) → Wins (κ ∷ h) (config juliet u' v) → Wins h κ
    unfolding winning_juliet
    read_on h u u' v t e i (x, p, wins) = (x, goes Read (ap (λ b. cond b Call Read) e) (reads i) p, wins)

    -- with w left of the record Juliet wins wherever the test says so
    abbrev WinsAlong : Word → Type 0
    WinsAlong w = (h : List Configuration) (u : Word) → OnRecord h u w → win w (reached A u) ≡ true → Wins h (config juliet u w)

    -- the rest of a reply is read
    through : {u v w : Word} {ds : List ℕ} {k : Config} → Ahead A u v ds w k → (h : List Configuration) → ds ≡ depths h (config juliet u v)
        → Around u v → HeldFits G w k → win w k ≡ true → WinsAlong w → Wins h (config juliet u v)
    through {u} {w = w} (on_record d r) h e a f y go_on =
        go_on h u (record { zeros = sym e ∙ d; around = a; fits = subst (λ k. HeldFits G w k) (sym r) f }) (ap (win w) r ∙ y)
    through {u} (in_reply {u' = u'} {v = v} {t = t} {d = d} l i r) h e a f y go_on =
        let κ = config juliet u (t ∷ v) in
        read_on h u u' v t (reads_reply (depths h κ) u v t d l (ap (λ es. get_or es 0 0) (sym e))) i
        (through r (κ ∷ h) (ap tail e) (subst (λ x. Around x v) (sym i) (around_read t u v a)) f y go_on)

    module _ (h : List Configuration) (u : Word) where
      -- at the record's end a word that the test says is won is in T
      ends : OnRecord h u [] → win [] (reached A u) ≡ true → Wins h (config juliet u [])
      unfolding win_at in_form
      ends s e = (u, here, (around_end u s.around, e))

      -- won by reading: Juliet reads
      reading : (t : Tag) (w : Word) → OnRecord h u (t ∷ w) → WinsAlong w → win w (step A t (reached A u)) ≡ true
          → Wins h (config juliet u (t ∷ w))
      reading t w s go_on e =
          let κ = config juliet u (t ∷ w) in
          let next = reached_more A u t in
          let fits = subst (λ k. HeldFits G w k) (sym next) (fits_read (replacing G) L t w (reached A u) s.fits) in
          let after : OnRecord (κ ∷ h) (u ++ (t ∷ [])) w =
          record { zeros = ap tail s.zeros; around = around_read t u w s.around; fits = fits } in
          read_on h u (u ++ (t ∷ [])) w t (reads_won (depths h κ) u w t e) refl
          (go_on (κ ∷ h) (u ++ (t ∷ [])) after (ap (win w) next ∙ e))

      -- won only by fetching: Juliet calls, and reads Romeo's reply y
      calling : (c : ℕ) (z : Word) → OnRecord h u (closing c ∷ z) → WinsAlong z → G.fetchable c ≡ true
          → win z (step A (closing c) (reached A u)) ≡ false → all (win z) (fetched L.results (closing c) (reached A u)) ≡ true
          → Wins h (config juliet u (closing c ∷ z))
      unfolding winning_juliet
      calling c z s go_on m n e =
          let κ = config juliet u (closing c ∷ z) in
          let here = reached A u in
          let asked = config romeo u (closing c ∷ z) in
          let y = τ.replies (κ ∷ h) asked in
          let rule = τ.allowed (κ ∷ h) u z c m in
          let el = around_element u c z s.around in
          let x = el.before in
          let ds = depths h κ in
          let k = run A y (reopened here) in
          let runs = ap (run A y) (reached_before A u x el.within c el.splits el.nested) in
          let ahead = ahead_reply A y x z (suc (get_or ds 0 0)) (tail ds) k (omega arith) (ap tail s.zeros) runs in
          let depth = depths_replied (κ ∷ h) u x y z (y ++ z) c (length-append y z) in
          let led = fetch_read G c z here y s.fits rule.1.nested in
          let may = held_may G (closing c) z here s.fits ∙ m in
          let fits = subst (λ x. HeldFits G z x) led
          (fits_fetch (replacing G) L z (closing c) here y s.fits may rule.1) in
          let won =
          ap (win z) (sym led) ∙
          all_at (win z) (fetched L.results (closing c) here) e
          (fetch_complete (replacing G) L z (closing c) here y s.fits may rule.1) in
          let after = through ahead (asked ∷ κ ∷ h) depth (el.replaced y rule.1.nested) fits won go_on in
          let called = ap (λ b. cond b Call Read) (calls_else ds u z c s.zeros m n) in
          (after.0, goes Call called (calls m) (goes (Reply y) refl (replies el.splits el.nested rule refl) after.1), after.2)

      -- where the test says won, Juliet wins by reading or by calling
      moves : (t : Tag) (w : Word) → OnRecord h u (t ∷ w) → WinsAlong w → win (t ∷ w) (reached A u) ≡ true
          → Wins h (config juliet u (t ∷ w))
      unfolding win_at rule_finite
      moves (opening c) w s go_on e = reading (opening c) w s go_on (sym (or-false (win w (step A (opening c) (reached A u)))) ∙ e)
      moves (closing c) w s go_on e =
          let b = win w (step A (closing c) (reached A u)) in
          let ahead_reply = all (win w) (fetched L.results (closing c) (reached A u)) in
          let may = (held G).may (closing c) (reached A u) in
          let else : b ≡ false → Wins h (config juliet u (closing c ∷ w)) =
          λ n. let g = and_both may ahead_reply (ap (λ x. x || (may && ahead_reply)) (sym n) ∙ e) in
          calling c w s go_on (sym (held_may G (closing c) w (reached A u) s.fits) ∙ g.0) n g.1 in
          ⊎_elim (reading (closing c) w s go_on) else (true_or_false b)

    wins_along : (w : Word) → WinsAlong w
    wins_along [] h u s e = ends h u s e
    wins_along (t ∷ w) h u s e = moves h u t w s (wins_along w) e

  pub juliet_strategy : (w : Word) → WellNested w → HeldFits G w (at A.start []) → win w (at A.start []) ≡ true
      → JulietHasStrategy (context_free G) w
  unfolding JulietHasStrategy winning_juliet
  juliet_strategy w n f e = (
    winning_juliet,
    replay_free (context_free G) winning_juliet (λ h κ c. choice_zero (depths h κ) κ c),
    λ τ. wins_along τ w [] [] (record { zeros = refl; around = around_start w n; fits = f }) e,
  )
