-- Advice at a tag, from the tests of the two moves: whether reading is won, and whether fetching is.
use mathlib.Core.Path.{◌≡◌, refl, sym, ◌∙◌, ap, subst}
use mathlib.Core.Bool.{Bool, false, cond, ◌&&◌}
use mathlib.Core.List.{List, [], ◌∷◌}
use Prim.Native.Nat.{ℕ, ◌+◌, ◌-◌, ◌<◌}
use lib.ListN.{length, get_or, set}
use Rattle.std.proofs.lemmas.List.{nil_from_length}
use Rattle.words.specs.Stack.{newest_first}
use Rattle.words.specs.Tag.{opening, closing, Word, word_of}
use Rattle.words.specs.Vocabulary.{fetchable}
use Rattle.words.proofs.StackLaws.{newest_pushed, length_newest}
use Rattle.automata.specs.Bits.{bit}
use Rattle.automata.specs.Reply.{Form}
use Rattle.automata.specs.Target.{Target, at}
use Rattle.automata.specs.TargetBody.{target_of, ValidTarget}
use Rattle.automata.specs.Inner.TargetRead.{StateIs}
use Rattle.effects.specs.Inner.Lent.{results, LentOf}
use Rattle.contents.specs.Contents.{has_form}
use Rattle.job.specs.Record.{most_record_depth}
use Rattle.game.specs.Game.{Game}
use Rattle.game.specs.Held.{replacing}
use Rattle.solver.specs.Inner.Evaluated.{Holds, fetch_wins, by_states}
use Rattle.solver.specs.Inner.PlayedWith.{PlayedWith}
use Rattle.game.specs.Advice.{AdviceIs}
use Rattle.words.specs.Inner.Rest.{Rest, Closes}
use Rattle.advice.specs.Inner.WonFrom.{WonFrom, Left, LeftPast}
use Rattle.game.proofs.HeldGame.{HeldFits}
use Rattle.game.proofs.Before.{all_map, fetch_agrees}
use Rattle.words.proofs.RestLaws.{closes_closing, rest_end}
use Rattle.solver.proofs.GamesWith.{game_with, every_game}
use Rattle.game.proofs.AdviceRule.{advice_number, advised}
use Rattle.advice.proofs.LeftLaws.{newest_first_lem, left_fits}
use Rattle.advice.proofs.WonFromLaws.{effects_listed, wins, wins_of}

-- the tests as the code makes them: m has the states from which the tags w after the next one are won, with ks kept
module _ {target sets : List ℕ} (v : ValidTarget target) (forms : ℕ → Form)
    (x : LentOf (target_of target) has_form forms sets) (w : Word) (ks : List ℕ)
    (after : (s : ℕ) → s < (target_of target).states → HeldFits (game_with target forms) w (at s ks)) (m : ℕ)
    (won : WonFrom target sets w ks m) (c : ℕ) where
  abbrev G : Game
  G = game_with target forms

  abbrev A : Target
  A = target_of target

  wins_are : Holds (by_states target sets) m (wins v forms x w ks)
  wins_are = wins_of v forms x w ks after m won

  module _ (q r : ℕ) (b : Bool) (e : bit m r ≡ b) where
    reads_into : (s : ℕ) → StateIs A s r → wins v forms x w ks s ≡ b
    reads_into s i = ap (λ y. wins v forms x w ks y) (sym i.is) ∙ sym (wins_are r i.one_of) ∙ e

    -- an opening tag in q, which is kept
    played_opening : (us : List ℕ) → ks ≡ q ∷ us → Closes (length us) (opening c ∷ w) → q < A.states → StateIs A (A.open_to q c) r →
        AdviceIs G (opening c ∷ w) (at q us) (advice_number b false)
    played_opening us k closes h i =
        let fits = subst (λ l. HeldFits G w (at r l)) k (after r i.one_of) in
        let whole : HeldFits G (opening c ∷ w) (at q us) = (h, fits.1.1, closes) in
        advised (replacing G) (effects_listed v forms x) (opening c) w (at q us) whole b false
        (subst (λ l. wins v forms x w l (A.open_to q c) ≡ b) k (reads_into (A.open_to q c) i)) refl

    -- a closing tag in p, of an element that was opened in q
    played_closing : (p : ℕ) (f : Bool) → p < A.states → q < A.states → StateIs A (A.close_to p q c) r → fetch_wins sets c m q ≡ f →
        AdviceIs G (closing c ∷ w) (at p (q ∷ ks)) (advice_number b f)
    played_closing p f hp hq i k =
        let fits = after r i.one_of in
        let whole : HeldFits G (closing c ∷ w) (at p (q ∷ ks)) = (hp, (hq, fits.1), closes_closing fits.2) in
        advised (replacing G) (effects_listed v forms x) (closing c) w (at p (q ∷ ks)) whole b f
        (reads_into (A.close_to p q c) i)
        (ap (λ z. fetchable c && z) (all_map (λ y. at y ks) _ (results sets c q)) ∙
        sym (fetch_agrees (replacing G) (effects_listed v forms x) c q p (bit m) (wins v forms x w ks) hq hp wins_are) ∙ k)

-- What the code has computed, said of every game that is played with the target and the sets: m has the states from which the rest is
-- won after the next tag, which has the code c, and reading that tag leads to r.
module _ {target sets rest : List ℕ} (kept : List ℕ) (depth : ℕ) where
  pub opening_advised : (c q r m : ℕ) → ValidTarget target → Left target sets rest (set kept depth q) (depth + 1) →
      Closes depth (opening c ∷ word_of rest) → depth < length kept → q < (target_of target).states →
      WonFrom target sets (word_of rest) (newest_first (set kept depth q) (depth + 1)) m →
      StateIs (target_of target) ((target_of target).open_to q c) r → (b : Bool) → bit m r ≡ b → (G : Game) → PlayedWith G target sets →
      AdviceIs G (opening c ∷ word_of rest) (at q (newest_first kept depth)) (advice_number b false)
  opening_advised c q r m v l closes room h won i b e =
      every_game (λ G. AdviceIs G (opening c ∷ word_of rest) (at q (newest_first kept depth)) (advice_number b false))
      (λ forms x.
      played_opening v forms x (word_of rest) (newest_first (set kept depth q) (depth + 1)) (left_fits l forms) m won c q r b e
      (newest_first kept depth) (newest_pushed kept depth q room) (rw (length_newest kept depth) closes) h i)

  pub closing_advised : (c r m p : ℕ) → ValidTarget target → LeftPast target sets rest kept depth → p < (target_of target).states →
      WonFrom target sets (word_of rest) (newest_first kept (depth - 1)) m → let q = get_or kept (depth - 1) 0 in
      StateIs (target_of target) ((target_of target).close_to p q c) r → (b f : Bool) → bit m r ≡ b → fetch_wins sets c m q ≡ f →
      (G : Game) → PlayedWith G target sets → AdviceIs G (closing c ∷ word_of rest) (at p (newest_first kept depth)) (advice_number b f)
  closing_advised c r m p v l hp won i b f e k =
      let outer = l.around in
      every_game (λ G. AdviceIs G (closing c ∷ word_of rest) (at p (newest_first kept depth)) (advice_number b f))
      (λ forms x. rw (newest_first_lem kept depth l.some_open)
      (played_closing v forms x (word_of rest) (newest_first kept (depth - 1)) (left_fits outer forms) m won c
      (get_or kept (depth - 1) 0) r b e p f hp l.newest_state i k))

  -- no tag is left, so no element is open
  pub finished : (q : ℕ) → Left target sets rest kept depth → length rest ≡ 0 → (b : Bool) → (target_of target).accepting q ≡ b →
      (G : Game) → PlayedWith G target sets → AdviceIs G (word_of rest) (at q (newest_first kept depth)) (cond b 3 4)
  finished q l z b e G p =
      let none_left : rest ≡ [] = nil_from_length rest z in
      let closed_all : depth ≡ 0 = rest_end (subst (λ s. Rest most_record_depth depth (word_of s)) none_left l.suffix) in
      rw (none_left, closed_all) (ap (λ y. cond y 3 4) (sym (ap (λ A. A.accepting q) p.target_is ∙ e)))
