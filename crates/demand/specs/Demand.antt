-- Demand 3, as one claim about a list of calls from the record's start, for any kind of play (SPEC 5).
use Rattle.std.specs.Prelude.{◌≡◌, Bool, true, false, cond, ◌⊎◌, ◌↔◌, List, [], ◌∷◌, map, ℕ, ◌+◌, ◌-◌, ◌<◌, ◌≤◌, length, take, drop, get_or}
use Rattle.std.proofs.Math.Bool.{decide}
use Rattle.std.proofs.Math.Decide.{ℕ_discrete}
use Rattle.words.specs.Exactly.{Exactly}
use Rattle.words.specs.Tag.{Tag, opening, byte_of, code_of, Word, word_of}
use Rattle.automata.specs.Target.{at, run}
use Rattle.automata.specs.Small.{Small}
use Rattle.game.specs.Arena.{Move, read, fetch, Won, Lost, FetchKeepsWon}
use Rattle.play.specs.Moves.{MoveCall, to_read, to_fetch}
use Rattle.demand.specs.Kind.{Kind}

-- a call of a list: a move with whatever buffer it is lent, or advice (SPEC 5.3, 5.5)
pub data AnyCall : Type 0 where
  move : MoveCall → List ℕ → AnyCall
  advice : AnyCall

-- the move of the game that a call asks for
abbrev pub game_move : MoveCall → Move
game_move to_read = read
game_move (to_fetch u) = fetch (word_of u)

-- what the calls so far lead to: the play as the latest accepted move gave it back (SPEC 5.4), and that move's buffer as it left it
-- (SPEC 5.14)
pub record World (K : Kind) : Type 0 where
  pub play : K.Play
  pub buffer : List ℕ

-- the "spelling": its position in the record, and what is spelled (SPEC 3.12)
pub record SpellingAt (K : Kind) : Type 0 where
  pub position : ℕ
  pub spelling : K.words.Pos

module _ (K : Kind) where
  -- Calls. At the record's start nothing is finished (SPEC 5.2).
  abbrev pub at_start : World K
  at_start = record { play = K.start; buffer = [] }

  -- whether a call is an accepted move
  abbrev pub move_accepted : World K → AnyCall → Bool
  move_accepted W (move m buffer) = decide (ℕ_discrete (K.number W.play m (length buffer)) 0)
  move_accepted W advice = false

  -- what a call leads to: an accepted move to what its contract says, any other call to nothing new
  abbrev pub move_made : World K → MoveCall → List ℕ → World K
  move_made W m buffer = record { play = K.next W.play m (length buffer); buffer = K.left W.play m buffer }

  abbrev pub called : World K → AnyCall → World K
  called W (move m buffer) = cond (move_accepted W (move m buffer)) (move_made W m buffer) W
  called W advice = W

  abbrev pub world_after : World K → List AnyCall → World K
  world_after W [] = W
  world_after W (c ∷ cs) = world_after (called W c) cs

  -- how many moves of a list are accepted
  abbrev pub accepted_moves : World K → List AnyCall → ℕ
  accepted_moves W [] = 0
  accepted_moves W (c ∷ cs) = cond (move_accepted W c) 1 0 + accepted_moves (called W c) cs

  -- The spelling. All that it gets of the calls is what they ask for and which are accepted (SPEC 3.11).
  abbrev pub answered : World K → List AnyCall → List (AnyCall × Bool)
  answered W [] = []
  answered W (c ∷ cs) = (c, move_accepted W c) ∷ answered (called W c) cs

  abbrev pub spelling_start : SpellingAt K
  spelling_start = record { position = 0; spelling = K.unspelled }

  -- the tag at the position, and the spelling past it by a move
  abbrev pub next_tag : SpellingAt K → Tag
  next_tag F = get_or K.tags F.position (opening 0)

  abbrev pub past : Move → SpellingAt K → SpellingAt K
  past m F = record { position = F.position + 1; spelling = K.words.step m (next_tag F) F.spelling }

  -- the spelling goes on by an accepted move, and by no other call (SPEC 3.13)
  abbrev pub spell_call : SpellingAt K → AnyCall → Bool → SpellingAt K
  spell_call F (move m buffer) true = past (game_move m) F
  spell_call F (move m buffer) false = F
  spell_call F advice a = F

  abbrev pub spelled_by : SpellingAt K → List (AnyCall × Bool) → SpellingAt K
  spelled_by F [] = F
  spelled_by F (c ∷ cs) = spelled_by (spell_call F c.0 c.1) cs

  -- Winning, in the game on words (SPEC 4.3, 4.4). The form is met if the word spelled is in deposit form.
  abbrev pub WonAt : SpellingAt K → Type 0
  WonAt F = Won K.words (drop F.position K.tags) F.spelling

  abbrev pub LostAt : SpellingAt K → Type 0
  LostAt F = Lost K.words (drop F.position K.tags) F.spelling

  -- there is a next tag
  abbrev pub NotAtEnd : SpellingAt K → Type 0
  NotAtEnd F = F.position < length K.tags

  -- reading keeps the play won, and fetching does, whatever lawful reply comes, of any length (SPEC 4.7)
  abbrev pub ReadKeeps : SpellingAt K → Type 0
  ReadKeeps F = WonAt (past read F)

  abbrev pub LawfulHere : SpellingAt K → Word → Type 0
  LawfulHere F u = K.words.Lawful (code_of (next_tag F)) u

  abbrev pub FetchKeeps : SpellingAt K → Type 0
  FetchKeeps F = FetchKeepsWon K.words (next_tag F) (drop (F.position + 1) K.tags) F.spelling

  -- Following the advice (SPEC 5.12). The call that an advice names:
  abbrev pub Names : ℕ → MoveCall → Type 0
  Names a to_read = a ≡ 1
  Names a (to_fetch u) = a ≡ 2

  -- a list of calls follows the advice if each move accepted in it is the one advised there; all other calls stand anywhere
  abbrev pub Follows : World K → List AnyCall → Type 0
  Follows W [] = Unit {0}
  Follows W (move m buffer ∷ cs) =
      (move_accepted W (move m buffer) ≡ true → (a : ℕ) × K.Advice W.play a × Names a m) × Follows (called W (move m buffer)) cs
  Follows W (advice ∷ cs) = Follows W cs

  -- a buffer that is long enough, for the word before the move and for the one after (SPEC 5.11), and a call accepted in every such buffer
  abbrev pub LongEnough : SpellingAt K → MoveCall → List ℕ → Type 0
  LongEnough F m buffer =
      (length (K.word F.spelling) ≤ length buffer) × (length (K.word (past (game_move m) F).spelling) ≤ length buffer)

  abbrev pub TakenIn : World K → SpellingAt K → MoveCall → Type 0
  TakenIn W F m = (buffer : List ℕ) → LongEnough F m buffer → move_accepted W (move m buffer) ≡ true

-- What the advice a says where F is spelled.
pub record AdviceSays (K : Kind) (F : SpellingAt K) (a : ℕ) : Type 0 where
  -- with tags left it is 0 exactly when the play is lost on words (SPEC 5.8), 1 exactly when reading keeps the play won, and 2 exactly when
  -- reading does not and fetching does (SPEC 4.8)
  pub lost : NotAtEnd K F → (a ≡ 0) ↔ LostAt K F
  pub reads : NotAtEnd K F → (a ≡ 1) ↔ ReadKeeps K F
  pub fetches : NotAtEnd K F → (a ≡ 2) ↔ (¬ ReadKeeps K F × FetchKeeps K F)
  -- with no tag left it says whether the form is met (SPEC 5.9)
  pub ended : F.position ≡ length K.tags → a ≡ cond (K.words.met F.spelling) 3 4

-- What following the advice has come to, where so many tags were left, so many moves are accepted since, and F is spelled (SPEC 5.13);
-- `Advice` says which advice there is, and `Takes` that a call is accepted.
pub record Followed (K : Kind) (left made : ℕ) (F : SpellingAt K) (Advice : ℕ → Type 0) (Takes : MoveCall → Type 0) : Type 0 where
  pub within : made ≤ left
  -- there is one advice; while tags are left it names a move, and that is accepted: a fetch with any lawful reply that is small enough
  pub advised : Exactly Advice
  pub onward : made < left → ((advised.value ≡ 1) × Takes to_read) ⊎
      ((advised.value ≡ 2) × ((u : List ℕ) → Small u → LawfulHere K F (word_of u) → Takes (to_fetch u)))
  -- with a move accepted for each tag that was left, the record is at its end and the word spelled is in deposit form
  pub ends : made ≡ left → (F.position ≡ length K.tags) × (K.words.met F.spelling ≡ true)

module _ (K : Kind) where
  -- the finished part is carried on: the buffer that an accepted move is lent begins as its predecessor left it (SPEC 5.15)
  abbrev pub Carried : World K → List AnyCall → Type 0
  Carried W [] = Unit {0}
  Carried W (move m buffer ∷ cs) =
      (move_accepted K W (move m buffer) ≡ true → take (K.count W.play) buffer ≡ take (K.count W.play) W.buffer) ×
      Carried (called K W (move m buffer)) cs
  Carried W (advice ∷ cs) = Carried W cs

-- the demand, clause by clause, of the world W that the calls lead to and of what they spell, F (SPEC 5.1)
pub record Demand (K : Kind) (calls : List AnyCall) (W : World K) (F : SpellingAt K) : Type 0 where
  -- SPEC 5.6: play and spelling agree
  pub position : K.position W.play ≡ F.position
  pub count : K.count W.play ≡ length (K.word F.spelling)
  -- SPEC 5.7: the play holds what the target's run over the word holds
  pub holds : run K.target (K.word F.spelling) (at K.target.start []) ≡ K.held W.play
  -- SPEC 5.8, 5.9: there is one advice, and what it says
  pub advised : Exactly (K.Advice W.play)
  pub says : AdviceSays K F advised.value
  -- SPEC 5.13: with tags left and not lost, what any further list comes to that follows the advice
  pub follows : NotAtEnd K F → ¬ (advised.value ≡ 0) → (more : List AnyCall) → Follows K W more →
      let there = world_after K W more in
      let spelled = spelled_by K F (answered K W more) in
      Followed K (length K.tags - F.position) (accepted_moves K W more) spelled (K.Advice there.play) (TakenIn K there spelled)
  -- SPEC 5.14, 5.15: the finished part has the bytes of the word spelled. W has the buffer as its move left it: so it is said here that the
  -- part was left alone since.
  pub finished : Carried K (at_start K) calls → take (K.count W.play) W.buffer ≡ map byte_of (K.word F.spelling)

-- the demand is met by a list of calls from the record's start
abbrev pub DemandMet : Kind → List AnyCall → Type 0
DemandMet K calls = Demand K calls (world_after K (at_start K) calls) (spelled_by K (spelling_start K) (answered K (at_start K) calls))
