-- The game of a job file (SPEC 10.24): its target, its reply forms and the vocabulary's marks, on its record.
use Rattle.std.specs.Prelude.{List, ℕ}
use Rattle.words.specs.Tag.{Word, word_of}
use Rattle.words.specs.Vocabulary.{fetchable}
use Rattle.automata.specs.TargetBody.{target_of}
use Rattle.contents.specs.Contents.{target_body, record_bytes}
use Rattle.job.specs.File.{form_in}
use Rattle.game.specs.Game.{Game}

unfoldable pub game_of : List ℕ → Game
game_of file =
    record {
      target = target_of (target_body file);
      fetchable = fetchable;
      forms = form_in file;
    }

abbrev pub record_of : List ℕ → Word
record_of file = word_of (record_bytes file)
