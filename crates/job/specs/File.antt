-- The refusals of a file (SPEC 7.11 to 7.17): each number with its condition, in the order in which they are judged (SPEC 7.3).
use Rattle.std.specs.Prelude.{◌⊎◌, List, [], ◌∷◌, ◌++◌, map, ℕ, ◌<◌, length}
use Rattle.std.proofs.Math.Decide.{dec_lt}
use Rattle.words.specs.Decide.Deciders.{not?, either?}
use Rattle.words.specs.Tag.{Word}
use Rattle.words.specs.IsWord.{IsWord, Deeper}
use Rattle.words.specs.Decide.Words.{is_word?, deeper?}
use Rattle.automata.specs.Reply.{Form, Lawful}
use Rattle.automata.specs.TargetBody.{ValidTarget}
use Rattle.automata.specs.ReplyBody.{form_of, ValidReply}
use Rattle.automata.specs.Decide.TargetBody.{valid_target?}
use Rattle.automata.specs.Decide.ReplyBody.{valid_reply?}
use Rattle.effects.specs.Decide.Effect.{some_reply?}
use Rattle.contents.specs.Contents.{contents_length, form_codes, ValidContents, target_body, reply_body, record_bytes}
use Rattle.contents.specs.Decide.Contents.{valid_contents?}
use Rattle.job.specs.Refusal.{RefusalRule, rule, first_of}
use Rattle.job.specs.Record.{most_record_depth}

-- the most bytes that a file has (SPEC 6.11)
abbrev pub largest_file : ℕ
largest_file = 37436

-- the form of a code
abbrev pub form_in : List ℕ → ℕ → Form
form_in file c = form_of (reply_body file c)

-- too short or too long for a job file (SPEC 7.11)
abbrev pub OutOfSize : List ℕ → Type 0
OutOfSize file = (length file < contents_length) ⊎ (largest_file < length file)

abbrev pub rule11 : List ℕ → RefusalRule
rule11 file = rule 11 (OutOfSize file) (either? (dec_lt (length file) contents_length) (dec_lt largest_file (length file)))

abbrev pub rule12 : List ℕ → RefusalRule
rule12 file = rule 12 (¬ ValidContents file) (not? (valid_contents? file))

abbrev pub contents_rules : List ℕ → List RefusalRule
contents_rules file = rule11 file ∷ rule12 file ∷ []

-- a rule for each code that has a form, by rising code
abbrev pub form_rules : (ℕ → RefusalRule) → List RefusalRule
form_rules f = map f form_codes

abbrev pub rule14 : List ℕ → ℕ → RefusalRule
rule14 file c = rule 14 (¬ ValidReply (reply_body file c)) (not? (valid_reply? (reply_body file c)))

abbrev pub rule13 : List ℕ → RefusalRule
rule13 file = rule 13 (¬ ValidTarget (target_body file)) (not? (valid_target? (target_body file)))

abbrev pub table_rules : List ℕ → List RefusalRule
table_rules file = rule13 file ∷ form_rules (rule14 file)

-- a form without any lawful reply, however long (SPEC 7.17)
abbrev pub NoReply : Form → Type 0
NoReply F = ¬ ((w : Word) × Lawful F w)

abbrev pub rule17 : (ℕ → Form) → ℕ → RefusalRule
rule17 forms c = rule 17 (NoReply (forms c)) (not? (some_reply? (forms c)))

abbrev pub rule15 : List ℕ → RefusalRule
rule15 s = rule 15 (¬ IsWord s) (not? (is_word? s))

abbrev pub rule16 : List ℕ → RefusalRule
rule16 s = rule 16 (Deeper most_record_depth s) (deeper? most_record_depth s)

abbrev pub record_rules : List ℕ → List RefusalRule
record_rules s = rule15 s ∷ rule16 s ∷ []

unfoldable pub file_rules : List ℕ → List RefusalRule
file_rules file = contents_rules file ++ (table_rules file ++ (form_rules (rule17 (form_in file)) ++ record_rules (record_bytes file)))

-- a file's refusal; 0 says that it is accepted
unfoldable pub file_refusal : List ℕ → ℕ
file_refusal file = first_of (file_rules file)
