-- The states from which the rest of a record is won: a forest before the end, or before the closing tag of an open element.
use mathlib.Core.Path.{◌≡◌, refl, sym, ◌∙◌, ap}
use mathlib.Core.Bool.{Bool, true}
use mathlib.Core.Logic.{◌↔◌, inl}
use mathlib.Core.List.{List, [], ◌∷◌, ◌++◌, append-nil}
use Prim.Native.Nat.{ℕ, suc, ◌+◌, ◌-◌, ◌<◌}
use native.Mathlib.Omega.{arith}
use lib.ListN.{length, drop, get_or}
use Rattle.words.specs.Stack.{newest_first}
use Rattle.words.specs.Tag.{closing, codes, Word, word_of}
use Rattle.words.specs.Forest.{Forest, tags}
use Rattle.words.proofs.Truth.{same_truth}
use Rattle.automata.specs.Bits.{bit}
use Rattle.automata.specs.Reply.{Form}
use Rattle.automata.specs.Target.{at}
use Rattle.automata.specs.TargetBody.{target_of, ValidTarget}
use Rattle.effects.specs.Inner.Lent.{LentOf}
use Rattle.contents.specs.Contents.{has_form}
use Rattle.job.specs.Record.{most_record_depth}
use Rattle.game.specs.Arena.{Won}
use Rattle.game.specs.Game.{Game}
use Rattle.game.specs.Held.{replacing, held}
use Rattle.game.specs.Listed.{Listed}
use Rattle.solver.specs.Inner.Evaluated.{won_before, Holds, ForestJudged, state_goal, by_states, Judgeable}
use Rattle.advice.specs.Inner.WonFrom.{WonFrom, Left}
use Rattle.game.proofs.Solve.{win_at, won_iff}
use Rattle.game.proofs.RuleGame.{rule_finite}
use Rattle.game.proofs.HeldGame.{HeldFits}
use Rattle.game.proofs.Before.{winning, win_closing, win_before, goal_agrees}
use Rattle.solver.proofs.Evaluated.{forest_whole, states_agree}
use Rattle.solver.proofs.GamesWith.{game_with, is_played, listed_with, every_game}
use Rattle.words.proofs.RestLaws.{rest_forest}
use Rattle.words.proofs.Innermost.{Innermost}
use Rattle.advice.proofs.LeftLaws.{left_fits, left_outer}

-- of the target's states, a mask has those of a set
abbrev HasStates : List ℕ → List ℕ → ℕ → (ℕ → Bool) → Type 0
HasStates target sets m S = Holds (by_states target sets) m S

module _ {target sets : List ℕ} (v : ValidTarget target) (forms : ℕ → Form) (x : LentOf (target_of target) has_form forms sets) where
  abbrev G : Game
  G = game_with target forms

  abbrev pub effects_listed : Listed (replacing G)
  effects_listed = listed_with forms x v

  -- the states from which the recursive test says that w is won
  abbrev pub wins : Word → List ℕ → ℕ → Bool
  wins = winning (replacing G) effects_listed

  -- to have these states is to have those from which w is won
  module _ (w : Word) (ks : List ℕ) (fits : (q : ℕ) → q < (target_of target).states → HeldFits G w (at q ks)) (m : ℕ) where
    wins_iff : (q : ℕ) → q < (target_of target).states → Won (held G) w (at q ks) ↔ (wins w ks q ≡ true)
    unfolding rule_finite
    wins_iff q h = won_iff (held G) (rule_finite (replacing G) effects_listed) w (at q ks) (fits q h)

    pub wins_of : WonFrom target sets w ks m → Holds (by_states target sets) m (wins w ks)
    wins_of won q h =
        let e = won G (is_played forms x) q h in
        let k = wins_iff q h in
        same_truth (bit m q) (wins w ks q) (λ b. k.0 (e.0 b), λ b. e.1 (k.1 b))

    of_wins : HasStates target sets m (wins w ks) → (q : ℕ) → q < (target_of target).states →
        (bit m q ≡ true) ↔ Won (held G) w (at q ks)
    of_wins hold q h = let k = wins_iff q h in rw (hold q h) (k.1, k.0)

  -- before a forest
  wins_forest : {bytes : List ℕ} {end : ℕ} → Judgeable target sets bytes end → (f : Forest) (w : Word) (ks : List ℕ) (goal m : ℕ) →
      HasStates target sets goal (wins w ks) → HasStates target sets m (won_before (by_states target sets) f (bit goal)) →
      HasStates target sets m (wins (tags f ++ w) ks)
  wins_forest a f w ks goal m after judged q h =
      judged q h ∙ states_agree v a f (bit goal) (wins w ks) after q h ∙ sym (win_before (replacing G) effects_listed f w q ks)

  -- at the closing tag of an element that was opened in q
  wins_closing : (c q : ℕ) (w : Word) (ks : List ℕ) (goal m : ℕ) → q < (target_of target).states → HasStates target sets goal (wins w ks) →
      HasStates target sets m (state_goal target sets c q (bit goal)) → HasStates target sets m (wins (closing c ∷ w) (q ∷ ks))
  wins_closing c q w ks goal m hq after judged r h =
      judged r h ∙ goal_agrees (replacing G) effects_listed c q (bit goal) (wins w ks) hq after r h ∙
      sym (win_closing (replacing G) effects_listed c w r q ks)

-- with nothing open the rest is a forest, and what is accepted is won after it
pub won_whole : {target sets rest kept : List ℕ} {goal start m : ℕ} → ValidTarget target → Left target sets rest kept 0 →
    ((q : ℕ) → bit goal q ≡ (target_of target).accepting q) → ForestJudged (by_states target sets) rest (length rest) goal start m →
    WonFrom target sets (word_of rest) [] m
unfolding win_at
won_whole {target} {sets} {rest} {kept} {goal} {start} {m} v l accepted j H p q h =
    let (f, spells, shallow) = rest_forest l.suffix in
    every_game (λ G. (bit m q ≡ true) ↔ Won (held G) (word_of rest) (at q []))
    (λ forms x. of_wins v forms x (word_of rest) [] (left_fits l forms) m
    (λ r k.
    wins_forest v forms x l.judgeable f [] [] goal m (λ s n. accepted s) (forest_whole (by_states target sets) j f spells).1 r k ∙
    ap (λ w. wins v forms x w [] r) (append-nil (tags f) ∙ sym spells)) q h) H p

-- else the inside of the innermost open element is a forest, and it has to lead to where that element is won at its closing tag
pub won_inside : {target sets rest kept : List ℕ} {k j goal start : ℕ} (outer m : ℕ) → ValidTarget target →
    Left target sets rest kept (suc k) → Innermost most_record_depth k rest j →
    WonFrom target sets (word_of (drop (j + 1) rest)) (newest_first kept k) outer →
    Holds (by_states target sets) goal (state_goal target sets (get_or rest j 0 - codes) (get_or kept k 0) (bit outer)) →
    ForestJudged (by_states target sets) rest j goal start m → WonFrom target sets (word_of rest) (newest_first kept (suc k)) m
won_inside {target} {sets} {rest} {kept} {k} {j} {goal} {start} outer m v l i won closes judged H p q h =
    let ks = newest_first kept k in
    let c = get_or rest j 0 - codes in
    let w = word_of (drop (j + 1) rest) in
    let b = get_or kept k 0 in
    every_game (λ G. (bit m q ≡ true) ↔ Won (held G) (word_of rest) (at q (b ∷ ks)))
    (λ forms x. of_wins v forms x (word_of rest) (b ∷ ks) (left_fits l forms) m
    (λ r n. wins_forest v forms x l.judgeable i.forest (closing c ∷ w) (b ∷ ks) goal m
    (wins_closing v forms x c b w ks outer goal (l.kept_states k (omega arith))
    (wins_of v forms x w ks (left_fits (left_outer l i) forms) outer won) closes)
    (judged.states [] i.forest i.inside (inl refl)) r n ∙ ap (λ u. wins v forms x u (b ∷ ks) r) (sym i.parted)) q h) H p
