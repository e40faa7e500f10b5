-- Where the recursive test says lost, Romeo has a strategy that wins against every replay-free one: he plays a reply that keeps it lost.
use mathlib.Core.Path.{◌≡◌, refl, sym, ◌∙◌, ap, subst}
use mathlib.Core.Bool.{Bool, true, false, ◌&&◌, true≢false}
use mathlib.Core.Logic.{⊎_elim}
use mathlib.Core.List.Memᴰ
use mathlib.Core.List.{List, [], ◌∷◌, ◌++◌, tail}
use Prim.Native.Nat.{ℕ, suc, ◌<◌, ◌≤◌}
use native.Mathlib.Omega.{arith}
use native.Mathlib.Decide.{dec_lt}
use lib.ListN.{length, replicate, get_or}
use Rattle.words.specs.Tag.{Tag, opening, closing, Word}
use Rattle.words.specs.Forest.{WellNested}
use Rattle.words.proofs.Truth.{or_neither, true_or_false}
use Rattle.automata.specs.Target.{Target, Closed, Config, at, stuck, step, run, in_form}
use Rattle.automata.specs.Reply.{Lawful}
use Rattle.automata.proofs.TargetRun.{run_anywhere}
use Rattle.game.specs.Game.{Game}
use Rattle.game.specs.Held.{replacing, held}
use Rattle.words.specs.Inner.All.{all}
use Rattle.game.specs.ContextFree.{context_free, juliet, romeo, Configuration, config, Read, Call, Reply, reads, calls, replies}
use Rattle.game.specs.ContextFree.{Juliet, Romeo, Leads, here, goes, call_depth, RomeoHasStrategy}
use Rattle.game.specs.Listed.{Listed}
use Rattle.words.proofs.ListLaws.{not_all}
use Rattle.game.proofs.Solve.{win_at}
use Rattle.words.proofs.RestLaws.{closes_none_open}
use Rattle.game.proofs.HeldGame.{HeldFits, held_may}
use Rattle.game.proofs.RuleGame.{fetched, fits_read, fits_fetch, rule_finite}
use Rattle.game.proofs.Determined.{effects, effects_exact, closed_listed, tested}
use Rattle.game.proofs.ContextFree.Ahead.{reopened, fetch_read, reached, reached_more, reached_before}
use Rattle.game.proofs.ContextFree.Ahead.{Ahead, on_record, in_reply, ahead_reply}

reply_same : {y z : Word} → Reply y ≡ Reply z → y ≡ z
reply_same e = cc

module _ (G : Game) (is_closed : Closed G.target) where
  abbrev A : Target
  A = G.target

  abbrev L : Listed (replacing G)
  L = closed_listed G is_closed

  abbrev win : Word → Config → Bool
  win = tested G is_closed

  -- whether the record's rest is won after every reply
  abbrev win_replied : ℕ → Word → Config → Bool
  win_replied a z k = all (win z) (fetched L.results (closing a) k)

  -- a lost play stays lost by reading, and not every result of a fetch is won
  lost_reading : (t : Tag) (w : Word) (k : Config) → win (t ∷ w) k ≡ false → win w (step A t k) ≡ false
  unfolding win_at rule_finite
  lost_reading t w k e = (or_neither (win w (step A t k)) ((held G).may t k && all (win w) (fetched L.results t k)) e).0

  lost_calling : (a : ℕ) (z : Word) (k : Config) → HeldFits G (closing a ∷ z) k → G.fetchable a ≡ true →
      win (closing a ∷ z) k ≡ false → win_replied a z k ≡ false
  unfolding win_at rule_finite
  lost_calling a z k f m e =
      ap (λ b. b && win_replied a z k) (sym (held_may G (closing a) z k f ∙ m)) ∙
      (or_neither (win z (step A (closing a) k)) ((held G).may (closing a) k && win_replied a z k) e).1

  -- a reply for any configuration: a lawful one, and where some reply keeps the play lost, such a one
  record Answer (a : ℕ) (z : Word) (k : Config) : Type 0 where
    reply : Word
    lawful : G.fetchable a ≡ true → Lawful (G.forms a) reply
    keeps_lost : G.fetchable a ≡ true → HeldFits G (closing a ∷ z) k → win_replied a z k ≡ false →
        win z (run A reply (reopened k)) ≡ false

  -- Lost for Juliet. On her turn: what is left of the record is lost once the rest of a reply is read. On Romeo's: the play stands on the
  -- record, and some reply leaves what follows lost.
  abbrev LostAgainst : Configuration → List ℕ → Type 0
  LostAgainst (config juliet u v) ds = (w : Word) × (k : Config) × Ahead A u v ds w k × HeldFits G w k × (win w k ≡ false)
  LostAgainst (config romeo u []) ds = ⊥
  LostAgainst (config romeo u (opening a ∷ z)) ds = ⊥
  LostAgainst (config romeo u (closing a ∷ z)) ds =
      (ds ≡ replicate (suc (length z)) 0) × HeldFits G (closing a ∷ z) (reached A u) × (win_replied a z (reached A u) ≡ false)

  -- a Read leaves the play lost
  after_read : {u u' v w : Word} {t : Tag} {ds : List ℕ} {k : Config} → u' ≡ u ++ (t ∷ []) → Ahead A u (t ∷ v) ds w k → HeldFits G w k
      → win w k ≡ false → LostAgainst (config juliet u' v) (tail ds)
  after_read {u} {v = v} {t = t} {k = k} e (on_record d r) f n = (
    v,
    step A t k,
    on_record (ap tail d) (ap (reached A) e ∙ reached_more A u t ∙ ap (step A t) r),
    fits_read (replacing G) L t v k f,
    lost_reading t v k n,
  )
  after_read {v = v} {w = w} {k = k} e (in_reply {ds = ds} h i r) f n = (w, k, subst (λ x. Ahead A x v ds w k) (i ∙ sym e) r, f, n)

  -- a Call that counts no more than one is on the record, and leaves the play lost
  after_call : {u z w : Word} {a : ℕ} {ds : List ℕ} {k : Config} → G.fetchable a ≡ true → suc (get_or ds 0 0) ≤ 1
      → Ahead A u (closing a ∷ z) ds w k → HeldFits G w k → win w k ≡ false → LostAgainst (config romeo u (closing a ∷ z)) ds
  after_call {z = z} {a = a} {k = k} m h (on_record d r) f n =
      (d, subst (λ x. HeldFits G (closing a ∷ z) x) (sym r) f, ap (win_replied a z) r ∙ lost_calling a z k f m n)
  after_call m h (in_reply l i r) f n = absurd (omega arith)

  -- a lost play ends outside the form
  at_end : {u w : Word} {ds : List ℕ} {k : Config} → Ahead A u [] ds w k → win w k ≡ false → in_form A u ≡ false
  unfolding win_at in_form
  at_end (on_record d r) n = ap (held G).met r ∙ n

  module _ (answered : (c : ℕ) → G.fetchable c ≡ true → (y : Word) × Lawful (G.forms c) y) where
    module _ (a : ℕ) (z : Word) where
      -- where no reply has to keep the play lost, any lawful one will do
      any_answer : (k : Config) → (G.fetchable a ≡ true → HeldFits G (closing a ∷ z) k → win_replied a z k ≡ false → ⊥) → Answer a z k
      any_answer k n =
          ⊎_elim (λ m. let l = answered a m in record { reply = l.0; lawful = λ _. l.1; keeps_lost = λ _ f e. absurd (n m f e) })
          (λ c. record { reply = []; lawful = λ m. absurd (true≢false (sym m ∙ c)); keeps_lost = λ m f e. absurd (n m f e) })
          (true_or_false (G.fetchable a))

      -- where not every reply is won after, one that is listed keeps the play lost
      losing_answer_lem : (r q : ℕ) (ks : List ℕ) → q < A.states → G.fetchable a ≡ true → win_replied a z (at r (q ∷ ks)) ≡ false
          → Answer a z (at r (q ∷ ks))
      losing_answer_lem r q ks h m e =
          let p = not_all (win z) (fetched L.results (closing a) (at r (q ∷ ks))) e in
          let i = Memᴰ.of_map (λ s. at s ks) (effects G is_closed a q) p.1 in
          let f = (effects_exact G is_closed a q i.0 m h).0 i.1 in
          let led : run A f.reply (at q ks) ≡ p.0 = run_anywhere A f.reply f.lawful.nested q i.0 ks f.reaches ∙ i.2 in
          record { reply = f.reply; lawful = λ _. f.lawful; keeps_lost = λ _ _ _. ap (win z) led ∙ p.2 }

      -- where a losing reply is listed Romeo plays it, and elsewhere any lawful one
      answer : (k : Config) → Answer a z k
      answer (at r []) = any_answer (at r []) (λ m f e. closes_none_open f.2)
      answer (at r (q ∷ ks)) =
          let k = at r (q ∷ ks) in
          let lost : q < A.states → win_replied a z k ≡ false → Answer a z k =
          λ h e.
          ⊎_elim (λ m. losing_answer_lem r q ks h m e) (λ c. any_answer k (λ m f _. true≢false (sym m ∙ c)))
          (true_or_false (G.fetchable a)) in
          elim (dec_lt q A.states) [
            | yes h ↦ ⊎_elim (λ t. any_answer k (λ m f e. true≢false (sym t ∙ e))) (lost h) (true_or_false (win_replied a z k))
            | no n ↦ any_answer k (λ m f e. n f.1.0)
          ]
      answer stuck = any_answer stuck (λ m f e. f)

    reply_at : Configuration → Word
    reply_at (config juliet u v) = []
    reply_at (config romeo u []) = []
    reply_at (config romeo u (opening a ∷ z)) = []
    reply_at (config romeo u (closing a ∷ z)) = (answer a z (reached A u)).reply

    winning_romeo : Romeo (context_free G)
    unfolding reply_at
    winning_romeo = record { replies = λ h κ. reply_at κ; allowed = λ h u z a m. (m, (answer a z (reached A u)).lawful m) }

    -- Romeo's reply leaves the play lost
    after_reply : (u x y z r v : Word) (a d : ℕ) (ds : List ℕ) → 0 < d → u ≡ x ++ (opening a ∷ y) → WellNested y → G.fetchable a ≡ true
        → r ≡ reply_at (config romeo u (closing a ∷ z)) → v ≡ r ++ z → LostAgainst (config romeo u (closing a ∷ z)) ds
        → LostAgainst (config juliet x v) (replicate (length r) d ++ tail ds)
    unfolding reply_at
    after_reply u x y z r v a d ds h e n m i l (zeros, f, lost) =
        let s = answer a z (reached A u) in
        let k = run A r (reopened (reached A u)) in
        let lawful = subst (λ w. Lawful (G.forms a) w) (sym i) (s.lawful m) in
        let start = ahead_reply A r x z d (tail ds) k h (ap tail zeros) (ap (run A r) (reached_before A u x y a e n)) in (
          z,
          k,
          subst (λ w. Ahead A x w (replicate (length r) d ++ tail ds) z k) (sym l) start,
          subst (λ x. HeldFits G z x) (fetch_read G a z (reached A u) r f lawful.nested)
              (fits_fetch (replacing G) L z (closing a) (reached A u) r f
              (held_may G (closing a) z (reached A u) f ∙ m) lawful),
          ap (λ w. win z (run A w (reopened (reached A u)))) i ∙ s.keeps_lost m f lost,
        )

    module _ (σ : Juliet (context_free G)) where
      -- no move of a replay-free strategy leads out of the lost configurations
      stays_lost : {h : List Configuration} {κ κ' : Configuration} (p : Leads (context_free G) σ winning_romeo h κ κ') (ds : List ℕ)
          → LostAgainst κ ds → call_depth (context_free G) σ winning_romeo p ds ≤ 1 → (es : List ℕ) × LostAgainst κ' es
      unfolding winning_romeo
      stays_lost here ds s h = (ds, s)
      stays_lost (goes Read e (reads i) p) ds s h = stays_lost p (tail ds) (after_read i s.2 s.3 s.4) h
      stays_lost (goes Call e (calls m) p) ds s h = stays_lost p ds (after_call m (omega arith) s.2 s.3 s.4) (omega arith)
      stays_lost (goes (Reply r) e (replies {u} {x} {y} {z} {v' = v} {a = a} i n m l) p) ds s h =
          stays_lost p _ (after_reply u x y z r v a _ ds (omega arith) i n m.0 (sym (reply_same e)) l s) h

    pub romeo_strategy : (w : Word) → WellNested w → HeldFits G w (at A.start []) → win w (at A.start []) ≡ false
        → RomeoHasStrategy (context_free G) w
    unfolding RomeoHasStrategy
    romeo_strategy w n f e = (
      winning_romeo,
      λ σ free (u, p, t).
          let start : LostAgainst (config juliet [] w) (replicate (length w) 0) = (w, at A.start [], on_record refl refl, f, e) in
          let s = stays_lost σ p (replicate (length w) 0) start (free w n winning_romeo (config juliet u []) p) in
          true≢false (sym t.1 ∙ at_end s.1.2 s.1.4),
    )
