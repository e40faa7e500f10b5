-- The rule by which a fetch replaces an element: from the states below n every fetch has the results that the effect lists.
use mathlib.Core.Path.{◌≡◌, refl, sym, ◌∙◌, ap}
use mathlib.Core.Bool.{true}
use mathlib.Core.Logic.{◌↔◌}
use mathlib.Core.List.{List, [], ◌∷◌, Memᴰ}
use Prim.Native.Nat.{ℕ, ◌<◌}
use Rattle.words.specs.Tag.{Tag, opening, closing, Word}
use Rattle.words.specs.Forest.{WellNested}
use Rattle.automata.specs.Target.{Target, Closed, Config, at, stuck, run}
use Rattle.effects.specs.Effect.{Effect}
use Rattle.automata.proofs.TargetRun.{over_below, run_nested}
use Rattle.game.specs.Game.{Game, allowed}
use Rattle.game.specs.Held.{end_state, replied, replacing, held}
use Rattle.game.specs.Listed.{Listed}
use Rattle.words.proofs.RestLaws.{closes_none_open}
use Rattle.game.proofs.RuleGame.{FitsBy}

-- the effects as lists: s is listed exactly when some lawful reply reaches it
abbrev pub Exact : Game → (ℕ → ℕ → List ℕ) → Type 0
Exact G effects =
    (c q s : ℕ) → G.fetchable c ≡ true → q < G.target.states → Memᴰ s (effects c q) ↔ Effect G.target (G.forms c) q s

-- the positions that a play along w can hold: states below n, and as many kept as w closes
abbrev pub HeldFits : Game → Word → Config → Type 0
HeldFits G w k = FitsBy (λ q. q < G.target.states) w k

-- a fetch is allowed there by its tag alone
pub held_may : (G : Game) (t : Tag) (w : Word) (k : Config) → HeldFits G (t ∷ w) k → (held G).may t k ≡ allowed G t
held_may G (opening c) w k g = refl
held_may G (closing c) w (at r []) (h, b, k) = absurd (closes_none_open k)
held_may G (closing c) w (at r (q ∷ ks)) g = refl
held_may G (closing c) w stuck g = absurd g

-- where a well-nested reply leads is where its run leads, whatever is kept
pub replied_run : (A : Target) (u : Word) → WellNested u → (c q r : ℕ) (ks : List ℕ) → at (replied A c q r u) ks ≡ run A u (at q ks)
replied_run A u n c q r ks = ap (λ k. at (end_state k) ks) (run_nested A u n q []) ∙ sym (run_nested A u n q ks)

module _ (G : Game) (effects : ℕ → ℕ → List ℕ) (is_closed : Closed G.target) (exact : Exact G effects) where
  abbrev pub held_listed : Listed (replacing G)
  held_listed =
      record {
        Fit = λ q. q < G.target.states;
        results = λ c q r. effects c q;
        fit_into = λ c q h. is_closed.open_below q c;
        fit_out = λ c q r hq hr. is_closed.close_below r q c;
        fit_reply = λ c q r u hq hr m l.
            rw (run_nested G.target u l.nested q []) (over_below G.target is_closed l.nested.forest q hq);
        sound = λ c q r s hq hr m i. let e = (exact c q s m hq).0 i in (e.reply, e.lawful, ap end_state e.reaches);
        complete = λ c q r u hq hr m l.
            (exact c q (replied G.target c q r u) m hq).1
            (record { reply = u; lawful = l; reaches = sym (replied_run G.target u l.nested c q r []) });
      }
