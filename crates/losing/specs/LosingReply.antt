-- The reply that loses a play (SPEC 13.1 to 13.4), by strategies and replies, said once for every kind of position.
use Rattle.std.specs.Prelude.{◌≡◌, true, ◌<◌, length}
use Rattle.words.specs.Tag.{Tag, code_of, Word}
use Rattle.words.specs.Order.{Precedes}
use Rattle.game.specs.Arena.{fetch, Arena, Lost, FetchKeepsWon}

-- what a fetch comes to: it keeps the play won, or this reply is the losing reply
pub data FetchOutcome : Type 0 where
  keeps_won : FetchOutcome
  lost_by : Word → FetchOutcome

-- in any arena, at a position x with the tag t left and then w
module _ (G : Arena) (t : Tag) (w : Word) (x : G.Pos) where
  -- u "loses" the play: a fetch is allowed, u is lawful for the code at hand, and the play after fetching it is lost; where no tag is left
  -- then, that is to be finished outside the form (SPEC 13.1)
  abbrev pub Loses : Word → Type 0
  Loses u = (G.may t x ≡ true) × G.Lawful (code_of t) u × Lost G w (G.step (fetch u) t x)

  -- the "losing reply": none that is shorter loses, and none that is as long and loses comes before it (SPEC 13.2, 13.3)
  pub record LosingReply (u : Word) : Type 0 where
    pub loses : Loses u
    pub shortest : (v : Word) → length v < length u → ¬ Loses v
    pub first : (v : Word) → length v ≡ length u → Loses v → ¬ Precedes v u

  -- exactly one of them is so wherever a file's play may be fetched at: `outcome_at_exactly`
  abbrev pub OutcomeIs : FetchOutcome → Type 0
  OutcomeIs keeps_won = FetchKeepsWon G t w x
  OutcomeIs (lost_by u) = LosingReply u
