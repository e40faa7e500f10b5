-- What is found of the losing reply, and the buffer afterwards.
use Rattle.std.specs.Prelude.{◌≡◌, List, ℕ, ◌<◌, ◌≤◌, length}
use Rattle.words.specs.Tag.{Tag, Word}
use Rattle.effects.specs.Effect.{most_counted}
use Rattle.effects.specs.declared.Shortest.{Shortest}
use Rattle.effects.specs.declared.Shortest.TheVariants.{Unreached, Tags, Longer}
use Rattle.shortest.specs.Inner.First.{with_reply}
use Rattle.game.specs.Arena.{Arena, FetchKeepsWon}
use Rattle.losing.specs.LosingReply.{LosingReply}

-- fetching keeps the play won; the losing reply has n tags, at most 4,096, and is written; or it has more
module _ (G : Arena) (t : Tag) (w : Word) (x : G.Pos) where
  unfoldable pub OutcomeFound : List ℕ → Shortest → List ℕ → Type 0
  OutcomeFound buffer Unreached left = FetchKeepsWon G t w x × (left ≡ buffer)
  OutcomeFound buffer (Tags n) left =
      (u : Word) × LosingReply G t w x u × (length u ≡ n) × (n ≤ most_counted) × (left ≡ with_reply buffer u)
  OutcomeFound buffer Longer left = (u : Word) × LosingReply G t w x u × (most_counted < length u) × (left ≡ buffer)
