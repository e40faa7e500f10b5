-- The rules of a file's reply forms as relations, each form's at the place of its code.
use Rattle.std.specs.Prelude.{◌≡◌, true, List, ℕ, ◌*◌, ◌<◌, length}
use Rattle.words.specs.Tag.{codes}
use Rattle.replies.specs.Inner.Transitions.{transition_count, TransitionsOf, Bare}
use Rattle.contents.specs.Contents.{has_form}
use Rattle.job.specs.File.{form_in}

abbrev pub form_relations : ℕ
form_relations = codes * transition_count

-- the table t has the relations of the file's forms with codes below n, and nothing beyond them
pub record FormsBefore (file : List ℕ) (n : ℕ) (t : List ℕ) : Type 0 where
  pub long : length t ≡ form_relations
  pub form : (c : ℕ) → c < n → has_form c ≡ true → TransitionsOf (form_in file c) (transition_count * c) t
  pub bare : Bare (transition_count * n) t

abbrev pub FormsOf : List ℕ → List ℕ → Type 0
FormsOf file t = FormsBefore file codes t
