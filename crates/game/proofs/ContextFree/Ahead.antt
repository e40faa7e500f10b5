-- Ahead of the focus there is the rest of a reply, which a replay-free strategy only reads, and then what is left of the record.
use mathlib.Core.Path.{◌≡◌, refl, sym, ◌∙◌, ap}
use mathlib.Core.List.{List, [], ◌∷◌, ◌++◌}
use Prim.Native.Nat.{ℕ, ◌+◌, ◌<◌}
use native.Mathlib.Omega.{arith}
use lib.ListN.{length, replicate, length-append}
use Rattle.words.specs.Tag.{Tag, opening, closing, Word}
use Rattle.words.specs.Forest.{WellNested}
use Rattle.automata.specs.Target.{Target, Config, at, stuck, step, run}
use Rattle.automata.proofs.TargetRun.{run_append, run_nested}
use Rattle.game.specs.Arena.{fetch}
use Rattle.game.specs.Game.{Game}
use Rattle.game.specs.Held.{held}
use Rattle.game.specs.ContextFree.{CfGame, juliet, romeo, config, Reply, Successor, replies}
use Rattle.words.proofs.RestLaws.{closes_none_open}
use Rattle.game.proofs.HeldGame.{HeldFits, replied_run}

-- what the target held where the newest open element opened: the state kept there, and what was kept before it
abbrev pub reopened : Config → Config
reopened (at r (q ∷ ks)) = at q ks
reopened (at r []) = stuck
reopened stuck = stuck

-- to hold what a fetch leads to is to read the reply from there
pub fetch_read : (G : Game) (c : ℕ) (z : Word) (k : Config) (u : Word) → HeldFits G (closing c ∷ z) k → WellNested u →
    (held G).step (fetch u) (closing c) k ≡ run G.target u (reopened k)
fetch_read G c z (at r []) u (h, b, k) n = absurd (closes_none_open k)
fetch_read G c z (at r (q ∷ ks)) u f n = replied_run G.target u n c q r ks
fetch_read G c z stuck u f n = absurd f

-- a reply stands ahead of the focus, before the tags that were left
pub replied_length : (G : CfGame) (u x y z v : Word) (a : ℕ) → Successor G (Reply y) (config romeo u (closing a ∷ z)) (config juliet x v)
    → length v ≡ length y + length z
replied_length G u x y z v a (replies i n m l) = omega (arith, length-append y z, ap length l)

module _ (A : Target) where
  -- what the target holds after a word
  abbrev pub reached : Word → Config
  reached u = run A u (at A.start [])

  pub reached_more : (u : Word) (t : Tag) → reached (u ++ (t ∷ [])) ≡ step A t (reached u)
  reached_more u t = run_append A u (t ∷ []) (at A.start [])

  -- `Ahead u v ds w k`: before the focus is u, and from it on v. The part w of v is the record's, with depths 0; what comes before w is a
  -- reply's, with larger ones. The target holds k where w begins.
  pub data Ahead : Word → Word → List ℕ → Word → Config → Type 0 where
    on_record : {u w : Word} {ds : List ℕ} {k : Config} → ds ≡ replicate (length w) 0 → reached u ≡ k → Ahead u w ds w k
    in_reply : {u u' v w : Word} {t : Tag} {d : ℕ} {ds : List ℕ} {k : Config} → 0 < d → u' ≡ u ++ (t ∷ []) → Ahead u' v ds w k
        → Ahead u (t ∷ v) (d ∷ ds) w k

  -- at the start of a reply
  pub ahead_reply : (y x w : Word) (d : ℕ) (ds : List ℕ) (k : Config) → 0 < d → ds ≡ replicate (length w) 0 → run A y (reached x) ≡ k
      → Ahead x (y ++ w) (replicate (length y) d ++ ds) w k
  ahead_reply [] x w d ds k h e r = on_record e r
  ahead_reply (t ∷ y) x w d ds k h e r = in_reply h refl (ahead_reply y (x ++ (t ∷ [])) w d ds k h e (ap (run A y) (reached_more x t) ∙ r))

  run_stuck : (w : Word) → run A w stuck ≡ stuck
  run_stuck [] = refl
  run_stuck (opening c ∷ w) = run_stuck w
  run_stuck (closing c ∷ w) = run_stuck w

  -- what was reached before an element is what its kept state holds
  pub reached_before : (u x y : Word) (c : ℕ) → u ≡ x ++ (opening c ∷ y) → WellNested y → reached x ≡ reopened (reached u)
  reached_before u x y c e n =
      let opened = run_append A x (opening c ∷ y) (at A.start []) in
      sym (ap (λ w. reopened (reached w)) e ∙ ap reopened opened ∙ go (reached x))
    where
      go : (k : Config) → reopened (run A y (step A (opening c) k)) ≡ k
      go (at q ks) = ap reopened (run_nested A y n (A.open_to q c) (q ∷ ks))
      go stuck = ap reopened (run_stuck y)
