-- What an accepted file is; that these are the files with no refusal is `is_accepted` and `file_not_refused`.
use Rattle.std.specs.Prelude.{◌≡◌, true, List, ℕ, ◌≤◌, length}
use Rattle.words.specs.Tag.{Word}
use Rattle.words.specs.IsWord.{WithinDepth}
use Rattle.automata.specs.Reply.{Lawful}
use Rattle.automata.specs.TargetBody.{ValidTarget}
use Rattle.automata.specs.ReplyBody.{form_of, ValidReply}
use Rattle.contents.specs.Contents.{contents_length, has_form, ValidContents}
use Rattle.contents.specs.Bodies.{Bodies, bodies_in}
use Rattle.job.specs.Record.{most_record_depth}
use Rattle.job.specs.File.{largest_file}

-- bodies for which no number is given (SPEC 7.13 to 7.17): target and forms are valid, each form has a lawful reply, and the record is
-- within its limits
pub record ValidBodies (b : Bodies) : Type 0 where
  pub target : ValidTarget b.target
  pub reply : (c : ℕ) → has_form c ≡ true → ValidReply (b.reply c)
  pub answered : (c : ℕ) → has_form c ≡ true → (w : Word) × Lawful (form_of (b.reply c)) w
  pub is_record : WithinDepth most_record_depth b.tags

-- its size, its contents and its bodies are right (SPEC 7.11 to 7.17)
pub record Accepted (file : List ℕ) : Type 0 where
  pub large_enough : contents_length ≤ length file
  pub small_enough : length file ≤ largest_file
  pub contents : ValidContents file
  pub bodies : ValidBodies (bodies_in file)
