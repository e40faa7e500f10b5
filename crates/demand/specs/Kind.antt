-- A kind of play on one record: what its calls answer and leave, what its advice promises, and what its moves spell. Demand 3 is one claim
-- about any kind (Demand.antt); the play in which a fetch replaces an element is the first (Replacing.antt).
use Rattle.std.specs.Prelude.{List, ℕ}
use Rattle.words.specs.Tag.{Word}
use Rattle.automata.specs.Target.{Target, Config}
use Rattle.game.specs.Arena.{Arena}
use Rattle.play.specs.Moves.{MoveCall}

pub record Kind : Type 1 where
  -- the record and the deposit form
  pub tags : Word
  pub target : Target
  -- a play, the one at the record's start (SPEC 5.2), and what is seen of a play: its position, its finished count, its state with the
  -- kept states (SPEC 3.8)
  pub Play : Type 0
  pub start : Play
  pub position : Play → ℕ
  pub count : Play → ℕ
  pub held : Play → Config
  -- of a play, a call and how many bytes are lent: the number answered, which is 0 for an accepted move, and the play returned (SPEC 8.1)
  pub number : Play → MoveCall → ℕ → ℕ
  pub next : Play → MoveCall → ℕ → Play
  -- of a play, a call and the buffer lent: the buffer afterwards (SPEC 8.3)
  pub left : Play → MoveCall → List ℕ → List ℕ
  -- what is promised of the number that advice answers (SPEC 4.7 to 4.10)
  pub Advice : Play → ℕ → Type 0
  -- the game on words: a position is what accepted moves have spelled, and it has a word (SPEC 3.12, 3.17)
  pub words : Arena
  pub unspelled : words.Pos
  pub word : words.Pos → Word
