-- A game is played with a target body and the sets of its forms' effects. It is how the code on bodies speaks of the game that a file
-- gives.
use Rattle.std.specs.Prelude.{◌≡◌, Bool, true, false, ◌↔◌, List, ℕ}
use Rattle.words.specs.Tag.{Word}
use Rattle.words.specs.Vocabulary.{fetchable}
use Rattle.automata.specs.TargetBody.{target_of}
use Rattle.effects.specs.Inner.Lent.{LentOf}
use Rattle.contents.specs.Contents.{has_form}
use Rattle.game.specs.Game.{Game}
use Rattle.game.specs.Verdict.{RecordWon, RecordLost}

pub record PlayedWith (G : Game) (target sets : List ℕ) : Type 0 where
  pub target_is : G.target ≡ target_of target
  pub marks : (c : ℕ) → G.fetchable c ≡ fetchable c
  pub effects : LentOf (target_of target) has_form G.forms sets

-- true says that the record is won, and false that it is lost
pub record Decides (G : Game) (w : Word) (r : Bool) : Type 0 where
  pub won : (r ≡ true) ↔ RecordWon G w
  pub lost : (r ≡ false) ↔ RecordLost G w
