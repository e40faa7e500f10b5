-- The play in which a fetch replaces an element (SPEC 3.5), as a kind of play: its calls are start, read, fetch and advice as their
-- contracts have them (SPEC 8.4), and it spells by SPEC 3.12 to 3.16.
use Rattle.std.specs.Prelude.{List, ℕ}
use Rattle.game.specs.Spelled as words
use Rattle.game.specs.Spelled.{spelled}
use Rattle.game.specs.Job.{game_of, record_of}
use Rattle.play.specs.Play.{held_of}
use Rattle.play_advice.specs.Start.{file_start}
use Rattle.play.specs.Entries.{file_move_refusal, file_play, file_buffer}
use Rattle.play_advice.specs.Advice.{AdviceOf}
use Rattle.demand.specs.Kind.{Kind}
use Rattle.play.specs.declared.Play.{Play}

abbrev pub replacing_in : List ℕ → Kind
replacing_in file =
    record {
      tags = record_of file;
      target = (game_of file).target;
      Play = Play;
      start = file_start file;
      position = λ p. p.position;
      count = λ p. p.count;
      held = held_of;
      number = file_move_refusal file;
      next = file_play file;
      left = file_buffer file;
      Advice = AdviceOf file;
      words = spelled (game_of file);
      unspelled = words.unspelled;
      word = λ s. s.word;
    }
