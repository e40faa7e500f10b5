-- Joining in the game on words: for any two well-nested words, and any number of them.
use mathlib.Core.Path.{◌≡◌, refl, sym, subst}
use mathlib.Core.Logic.Iff
use mathlib.Core.Logic.{◌⊎◌, ◌↔◌}
use mathlib.Core.List.Memᴰ
use mathlib.Core.List.{List, [], ◌∷◌, ◌++◌}
use Prim.Native.Nat.{ℕ, ◌<◌}
use Rattle.words.specs.Tag.{Word}
use Rattle.words.specs.Forest.{WellNested}
use Rattle.words.proofs.ForestJoined.{nested_append}
use Rattle.words.proofs.RestLaws.{closes_nested}
use Rattle.automata.specs.Reply.{Lawful}
use Rattle.automata.proofs.Lawful.{lawful?}
use Rattle.automata.specs.Target.{Closed, Config, at}
use Rattle.game.specs.Arena.{Strategy, Ends}
use Rattle.game.specs.Game.{Game}
use Rattle.game.specs.Spelled.{Spelling, unspelled, spelled}
use Rattle.game.specs.Held.{replacing, held}
use Rattle.game.specs.Verdict.{RecordWon}
use Rattle.game.proofs.Simulate.{ends_tied}
use Rattle.game.proofs.SpelledGame.{run_held, led_to_lem, spelled_won, spelled_lost, at_start}
use Rattle.game.proofs.Determined.{closed_listed, won_or_lost}
use Rattle.joining.specs.WinningStates.{EndedIn, PartsWon, PartsLost, end_to_end}
use Rattle.joining.specs.Joined.{led_to, SecondWon, SecondLost, LeadsInto, FirstForces, StateDecides, Joined, JoinedByParts}
use Rattle.joining.proofs.EndLaws.{forces_same, cannot_avoid_same}
use Rattle.joining.proofs.Parts.{AllNested, nested_parts}
use Rattle.joining.proofs.JoinedRule.{fit_same, ends_fit, rule_parts}
use Rattle.joining.proofs.JoinedTied.{tied_won, tied_lost}

module _ (G : Game) where
  pub state_decides : (v : Word) → WellNested v → (p : Word) (s : ℕ) → led_to G p ≡ at s [] → StateDecides G v p s
  state_decides v n p s e =
      record {
        won = spelled_won G v (record { word = p; notes = [] }) (at s []) (e, tt) (closes_nested n);
        lost = spelled_lost G v (record { word = p; notes = [] }) (at s []) (e, tt) (closes_nested n);
      }

  lawful_in? : (c : ℕ) (w : Word) → Dec (Lawful (G.forms c) w)
  lawful_in? c w = lawful? (G.forms c) w

  -- the tie to the game on state and kept states: at the record's start, and at an end
  tied_start : {w : Word} → WellNested w → (run_held G).Tied w unspelled (at G.target.start [])
  unfolding run_held
  tied_start n = (at_start G, closes_nested n)

  abbrev end_of : Spelling → Config
  end_of y = led_to G y.word

  same_value : (y : Spelling) (k : Config) → (run_held G).Tied [] y k → end_of y ≡ k
  unfolding run_held
  same_value y k r = led_to_lem G y.word y.notes k r.0

  module _ (u v : Word) (nu : WellNested u) (nv : WellNested v) where
    whole : (run_held G).Tied (u ++ v) unspelled (at G.target.start [])
    whole = tied_start (nested_append nu nv)

    -- the first half, whatever the target
    pub joining_won : RecordWon G (u ++ v) ↔ FirstForces G (SecondWon G v) u
    joining_won =
        tied_won (replacing G) lawful_in? (spelled G) (run_held G) end_of same_value nu nv G.target.start
        unspelled whole (tied_start nu)

    pub joining : Closed G.target → Joined G u v
    joining is_closed =
        record {
          won = joining_won;
          lost = tied_lost (replacing G) lawful_in? (spelled G) (run_held G) end_of same_value nu nv
              G.target.start unspelled whole (tied_start nu) (closed_listed G is_closed) is_closed.start_below;
        }

  module _ (is_closed : Closed G.target) where
    -- each state of the target is a winning one or not: the second part is won from it or lost
    pub second_settled : (v : Word) → WellNested v → (s : ℕ) → s < G.target.states → SecondWon G v s ⊎ SecondLost G v s
    second_settled v n s h = won_or_lost G is_closed v (at s []) (h, tt, closes_nested n)

    -- a strategy on a well-nested word ends with nothing kept, in one of the target's states
    pub first_ends : (u : Word) → WellNested u → (σ : Strategy) (y : Spelling) → Ends (spelled G) σ u unspelled y →
        EndedIn (λ s. s < G.target.states) (end_of y)
    first_ends u n σ y e =
        let start = G.target.start in
        let (k, ends, tied) = ends_tied (spelled G) (held G) (run_held G) σ u unspelled (at start []) y (tied_start n) e in
        let fits = ends_fit (replacing G) (closed_listed G is_closed) n start is_closed.start_below σ k ends in
        subst (EndedIn (λ s. s < G.target.states)) (sym (same_value y k tied)) fits

    pub joining_parts : (u : Word) (us : List Word) → AllNested (u ∷ us) → JoinedByParts G u us
    joining_parts u us n =
        let nu = n u (Memᴰ.head refl) in
        let ns : AllNested us = λ w m. n w (Memᴰ.tail m) in
        let after = end_to_end us in
        let two = joining u after nu (nested_parts us ns) is_closed in
        let parts = rule_parts (replacing G) lawful_in? (closed_listed G is_closed) us ns in
        let same : (P Q : ℕ → Type 0) → ((s : ℕ) → s < G.target.states → P s ↔ Q s) → (σ : Strategy) (y : Spelling) →
        Ends (spelled G) σ u unspelled y → LeadsInto G P y ↔ LeadsInto G Q y =
        λ P Q k σ y e. fit_same (λ s. s < G.target.states) P Q k (end_of y) (first_ends u nu σ y e) in
        record {
          won = Iff.trans two.won
              (forces_same (spelled G) u unspelled _ _ (same (SecondWon G after) (PartsWon (replacing G) us) (λ s h. (parts s h).won)));
          lost = Iff.trans two.lost
              (cannot_avoid_same (spelled G) u unspelled _ _
              (same (SecondLost G after) (PartsLost (replacing G) us) (λ s h. (parts s h).lost)));
        }
