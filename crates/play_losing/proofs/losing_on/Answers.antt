-- `losing_on` meets its contract: 22 and 23, then what a fetch comes to.
use mathlib.Core.Path.{◌≡◌, sym, ◌∙◌, ap, subst}
use mathlib.Core.Bool.{Bool, false≢true}
use mathlib.Core.List.{List}
use Prim.Native.Nat.{ℕ, ◌<◌}
use native.Mathlib.Omega.{arith}
use lib.ListN.{length, get_or, length-map}
use Rattle.words.specs.Tag.{tag_bytes, tag_of}
use Rattle.words.proofs.Bytes.{tag_at_lem}
use Rattle.contents.specs.Contents.{record_bytes}
use Rattle.job.specs.declared.refusal.Refusal.TheVariants.{AtEnd, NoFetch}
use Rattle.job.proofs.Accepted.{is_accepted}
use Rattle.game.specs.Game.{allowed}
use Rattle.game.specs.Job.{game_of, record_of}
use Rattle.play.specs.Moves.{tag_at}
use Rattle.play.specs.Play.{PlayFits}
use Rattle.play.specs.declared.Play.{Play}
use Rattle.play_losing.proofs.LosingAnswerLaws.{asked_22, asked_23, fetch_asked, losing_refused, outcome_answered}
use borrow.Author.Rules.{rules}
use Rattle.play_losing.proofs.losing_on.Goals as goal

-- a play that fits, and the record as it was read
module _
    (file : List ℕ)
    {p : Play}
    (fits : PlayFits (game_of file).target (record_of file) p)
    {bytes : List ℕ}
    (read : bytes ≡ record_bytes file) where
  left : ¬ (p.position ≡ length bytes) → p.position < length (record_bytes file)
  left more = omega (arith, fits.within, length-map (record_bytes file) tag_of, ap length read)

  -- the test of the byte is the one of the tag
  may : {b : Bool} → b ≡ allowed (game_of file) (tag_of (get_or bytes p.position 0)) →
      b ≡ allowed (game_of file) (tag_at (record_bytes file) p)
  may {b} e =
      subst (λ r. b ≡ allowed (game_of file) (tag_of (get_or r p.position 0))) read e ∙
      ap (allowed (game_of file)) (sym (tag_at_lem (record_bytes file) p.position))

pub returns-then-position-record : goal.returns-then-position-record
returns-then-position-record c =
    let f = c.args.fitted in
    let end = c.if-position-record.true ∙ ap length c.record-record.ensures in
    losing_refused f.file.file.now f.play c.args.buffer.now AtEnd (asked_22 _ _ f.file.found.accepted f.fits end)

pub may_fetch-requires : goal.may_fetch-requires
may_fetch-requires c =
    let f = c.args.fitted in
    let i = f.play.position in
    let read = c.record-record.ensures in
    let bytes = (is_accepted _ f.file.found.accepted).bodies.is_record.word.bytes in
    subst (λ r. get_or r i 0 < tag_bytes) (sym read) (bytes i (left _ f.fits read c.if-position-record.false))

pub returns-then-not-may_fetch : goal.returns-then-not-may_fetch
returns-then-not-may_fetch c =
    let f = c.args.fitted in
    let file = f.file.file.now in
    let read = c.record-record.ensures in
    let here = left _ f.fits read c.if-position-record.false in
    let test = may _ f.fits read (c.may_fetch.ensures file) in
    losing_refused file f.play c.args.buffer.now NoFetch
    (asked_23 _ _ f.file.found.accepted f.fits here (λ a. false≢true (sym c.if-not-may_fetch.true ∙ test ∙ a)))

pub fetch_outcome-found-requires : goal.fetch_outcome-found-requires
fetch_outcome-found-requires c =
    let f = c.args.fitted in
    let read = c.record-record.ensures in
    let here = left _ f.fits read c.if-position-record.false in
    let test = may _ f.fits read (c.may_fetch.ensures f.file.file.now) in
    fetch_asked _ _ f.file.found.accepted f.fits here (sym test ∙ c.if-not-may_fetch.false)

pub returns : goal.returns
returns c =
    let f = c.args.fitted in
    let file = f.file.file.now in
    let read = c.record-record.ensures in
    let here = left _ f.fits read c.if-position-record.false in
    let test = may _ f.fits read (c.may_fetch.ensures file) in
    let asked = fetch_asked _ _ f.file.found.accepted f.fits here (sym test ∙ c.if-not-may_fetch.false) in
    outcome_answered file f.play c.args.buffer.now asked _ _ c.fetch_outcome-found.ensures (search rules) c.answer_of.ensures
