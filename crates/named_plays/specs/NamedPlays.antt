-- The ten marked plays that are proved (SPEC 9.6), each as the job file of six bodies and whether its record is won from the start. That
-- the table is right is the theorem `named_plays_lem` in proofs/.
use Rattle.std.specs.Prelude.{◌≡◌, Bool, true, false, cond, ◌&&◌, ℕ, ◌*◌, ◌/◌, ◌%◌, eqb, length, take, drop}
use mathlib.Core.List.{List, [], ◌∷◌, ◌++◌, map, flat_map, Memᴰ}
use Rattle.words.specs.Lists.{tabulated}
use Rattle.words.specs.Numbers.{two_bytes}
use Rattle.words.specs.Tag.{codes, Word, byte_of}
use Rattle.words.specs.Forest.{Forest, none, elem, tags}
use Rattle.automata.specs.declared.reply.FormRule.{FormRule}
use Rattle.automata.specs.Reply.{rule}
use Rattle.contents.specs.Bodies.{Bodies, file_of}
use Rattle.job.specs.File.{file_refusal}
use Rattle.game.specs.Arena.{read}
use Rattle.game.specs.Spelled.{Spelling, unspelled, spell, spelled}
use Rattle.game.specs.Job.{game_of, record_of}
use Rattle.game.specs.Verdict.{RecordWon, RecordLost}
use Rattle.game.specs.Advice.{AdviceBy}

-- the codes that the plays name
abbrev date : ℕ
date = 9

abbrev note : ℕ
note = 11

abbrev pub getmatch : ℕ
getmatch = 12

abbrev pub getsap : ℕ
getsap = 13

abbrev pub getspec : ℕ
getspec = 14

abbrev pub getplace : ℕ
getplace = 15

-- target D: where opening tags lead, and closing tags (SPEC 9.1)
abbrev opens_to : ℕ → ℕ → ℕ
opens_to q c = cond (eqb q 0 && eqb c date) 0 (cond (eqb q 1 && eqb c getmatch) 1 2)

abbrev closes_to : ℕ → ℕ → ℕ → ℕ
closes_to r q c = cond (eqb r 0 && (eqb q 0 && eqb c date)) 1 (cond (eqb r 1 && (eqb q 1 && eqb c getmatch)) 1 2)

-- target D's body (SPEC 6.6), with n = 3; the mask of {1} is 2
abbrev target_d : List ℕ
target_d =
    3 ∷ 0 ∷ 2 ∷ 0 ∷ 0 ∷ 0 ∷
    (tabulated (λ i. opens_to (i / codes) (i % codes)) 0 (codes * 3) ++
    tabulated (λ i. closes_to (i / codes / 3) (i / codes % 3) (i % codes)) 0 (codes * (3 * 3)))

-- a reply form's body (SPEC 6.7), and the bytes of a rule (SPEC 6.8)
abbrev opening_bytes : FormRule → List ℕ
opening_bytes x = x.state ∷ x.code ∷ x.next ∷ x.kept ∷ []

abbrev closing_bytes : FormRule → List ℕ
closing_bytes x = x.state ∷ x.kept ∷ x.code ∷ x.next ∷ []

abbrev reply_form : ℕ → ℕ → ℕ → List FormRule → List FormRule → List ℕ
reply_form m start mask os cs =
    m ∷ start ∷ mask ∷ (two_bytes (length os) ++ (two_bytes (length cs) ++ (flat_map opening_bytes os ++ flat_map closing_bytes cs)))

-- The forms (SPEC 9.2, 9.3). State 0 is the start, 1 is within an element and 2 is after one; the mask 4 is {2}, 5 is {0, 2}, and 1 is {0}.
-- getmatch's: a date; and getspec's in P9: a getmatch
abbrev one : ℕ → List ℕ
one c = reply_form 3 0 4 (rule 0 c 1 0 ∷ []) (rule 1 c 2 0 ∷ [])

-- getsap's: the empty word
abbrev only_empty : List ℕ
only_empty = reply_form 1 0 1 [] []

-- getspec's: a date, or a note
abbrev date_or_note : List ℕ
date_or_note = reply_form 3 0 4 (rule 0 date 1 0 ∷ rule 0 note 1 0 ∷ []) (rule 1 date 2 0 ∷ rule 1 note 2 0 ∷ [])

-- getplace's: the empty word, or a date
abbrev nothing_or_date : List ℕ
nothing_or_date = reply_form 3 0 5 (rule 0 date 1 0 ∷ []) (rule 1 date 2 0 ∷ [])

-- getspec's in P10: a date, then getmatch as often as one likes
abbrev date_then_matches : List ℕ
date_then_matches = reply_form 3 0 4 (rule 0 date 1 0 ∷ rule 2 getmatch 1 2 ∷ []) (rule 1 date 2 0 ∷ rule 1 getmatch 2 2 ∷ [])

-- the forms by code, with getspec's own
abbrev forms_with : List ℕ → ℕ → List ℕ
forms_with spec c = cond (eqb c getmatch) (one date) (cond (eqb c getsap) only_empty (cond (eqb c getspec) spec nothing_or_date))

-- the job of a play: getspec's form, and the record; target and other forms are the same for all
abbrev job_of : List ℕ → Forest → Bodies
job_of spec f = record { target = target_d; reply = forms_with spec; tags = map byte_of (tags f) }

-- a play's number, its job, whether its record is won, and the places in the record at which, all before them having been read, the advice
-- is read
pub record NamedPlay : Type 0 where
  pub number : ℕ
  pub job : Bodies
  pub won : Bool
  pub reads : List ℕ

abbrev named_play : ℕ → Bodies → Bool → List ℕ → NamedPlay
named_play n job w r = record { number = n; job = job; won = w; reads = r }

-- its job file
abbrev pub play_file : NamedPlay → List ℕ
play_file e = file_of e.job

-- an element with nothing in it, and the forest after it
abbrev empty : ℕ → Forest → Forest
empty c rest = elem c none rest

-- P5, whose effects are listed too
abbrev pub p5 : NamedPlay
p5 = named_play 5 (job_of date_or_note (empty getplace (empty getmatch none))) true []

-- P1 to P10 (SPEC 9.4); in P8 the inner closing tag is at place 2
unfoldable pub named_plays : List NamedPlay
named_plays =
    named_play 1 (job_of date_or_note none) false [] ∷
    named_play 2 (job_of date_or_note (empty date none)) true [] ∷
    named_play 3 (job_of date_or_note (empty getmatch none)) true [] ∷
    named_play 4 (job_of date_or_note (empty getspec none)) false [] ∷
    p5 ∷
    named_play 6 (job_of date_or_note (empty getmatch (empty getplace none))) false [] ∷
    named_play 7 (job_of date_or_note (elem getsap (empty note none) (empty getmatch none))) true [] ∷
    named_play 8 (job_of date_or_note (elem getsap (empty getplace none) (empty date none))) true (2 ∷ []) ∷
    named_play 9 (job_of (one getmatch) (empty getspec none)) false [] ∷
    named_play 10 (job_of date_then_matches (empty getspec none)) true [] ∷
    []

-- what is spelled once the tags of a word have been read
abbrev pub spelled_read : Word → Spelling → Spelling
spelled_read [] s = s
spelled_read (t ∷ w) s = spelled_read w (spell read t s)

-- what is claimed of a play, in the game on words: its file loads; its record is won or lost, and the advice is to read, as the table says
pub record NamedRight (e : NamedPlay) : Type 0 where
  pub loads : file_refusal (play_file e) ≡ 0
  pub is_won : e.won ≡ true → RecordWon (game_of (play_file e)) (record_of (play_file e))
  pub is_lost : e.won ≡ false → RecordLost (game_of (play_file e)) (record_of (play_file e))
  pub is_read : (n : ℕ) → Memᴰ n e.reads →
      AdviceBy (spelled (game_of (play_file e))) (drop n (record_of (play_file e)))
      (spelled_read (take n (record_of (play_file e))) unspelled) 1
