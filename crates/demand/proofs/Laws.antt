-- What a kind of play has to keep for demand 3 to hold of it: another kind is shown to keep these laws, and then `demand` is the theorem.
use mathlib.Core.Path.{◌≡◌}
use mathlib.Core.Bool.{true}
use mathlib.Core.Logic.{◌⊎◌}
use mathlib.Core.List.{List, [], map}
use Prim.Native.Nat.{ℕ, ◌≤◌}
use lib.ListN.{length, take}
use Rattle.words.specs.Exactly.{Exactly}
use Rattle.words.specs.Tag.{byte_of, word_of}
use Rattle.automata.specs.Target.{at, run}
use Rattle.automata.specs.Small.{Small}
use Rattle.play.specs.Moves.{MoveCall, to_read, to_fetch}
use Rattle.demand.specs.Kind.{Kind}
use Rattle.demand.specs.Demand.{game_move, SpellingAt, spelling_start, next_tag, past, NotAtEnd, LongEnough, AdviceSays}
use Rattle.demand.specs.Demand.{WonAt, LostAt, ReadKeeps, LawfulHere, FetchKeeps}

-- the finished part of a buffer is the bytes of the word spelled
abbrev pub Finished : (K : Kind) → K.Play → List ℕ → SpellingAt K → Type 0
Finished K p buffer F = take (K.count p) buffer ≡ map byte_of (K.word F.spelling)

pub record Laws (K : Kind) : Type 1 where
  -- what ties a play to the spelling that was fed the same calls
  pub Reached : K.Play → SpellingAt K → Type 0
  pub reached_start : Reached K.start (spelling_start K)
  pub finished_start : Finished K K.start [] (spelling_start K)
  -- what a play so tied has in common with the spelling
  pub position : (p : K.Play) (F : SpellingAt K) → Reached p F → K.position p ≡ F.position
  pub within : (p : K.Play) (F : SpellingAt K) → Reached p F → F.position ≤ length K.tags
  pub count : (p : K.Play) (F : SpellingAt K) → Reached p F → K.count p ≡ length (K.word F.spelling)
  pub holds : (p : K.Play) (F : SpellingAt K) → Reached p F →
      run K.target (K.word F.spelling) (at K.target.start []) ≡ K.held p
  -- an accepted move keeps the tie, its reply is lawful, and its piece goes to where the word goes on
  pub moved : (p : K.Play) (F : SpellingAt K) → Reached p F → (m : MoveCall) (n : ℕ) → K.number p m n ≡ 0 →
      Reached (K.next p m n) (past K (game_move m) F)
  pub replied : (p : K.Play) (F : SpellingAt K) → Reached p F → (u : List ℕ) (n : ℕ) →
      K.number p (to_fetch u) n ≡ 0 → LawfulHere K F (word_of u)
  pub finished : (p : K.Play) (F : SpellingAt K) → Reached p F → (m : MoveCall) (buffer : List ℕ) → K.number p m (length buffer) ≡ 0 →
      Finished K p buffer F → Finished K (K.next p m (length buffer)) (K.left p m buffer) (past K (game_move m) F)
  -- a move that may be made is accepted in every buffer that is long enough
  pub takes_read : (p : K.Play) (F : SpellingAt K) → Reached p F → NotAtEnd K F → (buffer : List ℕ) → LongEnough K F to_read buffer →
      K.number p to_read (length buffer) ≡ 0
  pub takes_fetch : (p : K.Play) (F : SpellingAt K) → Reached p F → NotAtEnd K F → (u : List ℕ) →
      K.words.may (next_tag K F) F.spelling ≡ true → Small u → LawfulHere K F (word_of u) → (buffer : List ℕ) →
      LongEnough K F (to_fetch u) buffer → K.number p (to_fetch u) (length buffer) ≡ 0
  -- there is one advice, and what it says
  pub advised : (p : K.Play) (F : SpellingAt K) → Reached p F → Exactly (K.Advice p)
  pub says : (p : K.Play) (F : SpellingAt K) → Reached p F → (a : ℕ) → K.Advice p a → AdviceSays K F a
  -- a play is won or lost, and one that is won has a move that keeps it won
  pub decided : (p : K.Play) (F : SpellingAt K) → Reached p F → WonAt K F ⊎ LostAt K F
  pub goes_on : (p : K.Play) (F : SpellingAt K) → Reached p F → NotAtEnd K F → WonAt K F →
      ReadKeeps K F ⊎ (¬ ReadKeeps K F × FetchKeeps K F)
