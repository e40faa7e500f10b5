-- `fetch_outcome` meets its contract: the losing reply at the next tag, with what the play has kept.
use mathlib.Core.Path.{◌≡◌, sym, subst}
use mathlib.Core.List.{List}
use Prim.Native.Nat.{ℕ, ◌<◌}
use native.Mathlib.Omega.{arith}
use lib.ListN.{length, get_or}
use Rattle.words.specs.Tag.{closing, tag_bytes}
use Rattle.words.specs.Inner.TagByte.{CodeIs}
use Rattle.effects.specs.declared.Effects.{Effects}
use Rattle.contents.specs.Contents.{record_bytes}
use Rattle.contents.proofs.ContentLaws.{fetchable_form}
use Rattle.job.specs.Accepted.{Accepted}
use Rattle.job.proofs.Accepted.{is_accepted}
use Rattle.play.specs.Moves.{tag_at}
use Rattle.play.specs.declared.Play.{Play}
use Rattle.play_advice.specs.Inner.FileEffects.{FileEffects}
use Rattle.play_losing.specs.LosingAnswer.{FetchAsked}
use Rattle.play_losing.proofs.LosingAnswerLaws.{asked_within, asked_byte, asked_closes, asked_fetchable}
use Rattle.play_losing.proofs.LosingAnswerLaws.{outcome_asked, outcome_here}
use Rattle.play_losing.proofs.fetch_outcome.Goals as goal

-- of the record as it was read
module _
    {file : List ℕ}
    (a : Accepted file)
    {E : Effects}
    (found : ∥ FileEffects file E ∥₁)
    (p : Play)
    (asked : FetchAsked file p)
    {bytes : List ℕ}
    (read : bytes ≡ record_bytes file) where
  within : p.position < length bytes
  within = rw read (asked_within file a E found p asked)

  byte_here : get_or bytes p.position 0 < tag_bytes
  byte_here = subst (λ b. get_or b p.position 0 < tag_bytes) (sym read) (asked_byte file a E found p asked)

  closes : {c : ℕ} → CodeIs (get_or bytes p.position 0) c → tag_at (record_bytes file) p ≡ closing c
  closes {c} is = asked_closes file a E found p asked c (subst (λ b. CodeIs (get_or b p.position 0) c) read is)

pub bounds-record-p : goal.bounds-record-p
bounds-record-p c =
    let f = c.args.fitted in
    within (is_accepted _ f.file.found.accepted) f.found f.play c.requires c.record-record.ensures

pub code_of-requires : goal.code_of-requires
code_of-requires c =
    let f = c.args.fitted in
    byte_here (is_accepted _ f.file.found.accepted) f.found f.play c.requires c.record-record.ensures

pub form-form-requires : goal.form-form-requires
form-form-requires c =
    let f = c.args.fitted in
    let a = is_accepted _ f.file.found.accepted in
    let tag = closes a f.found f.play c.requires c.record-record.ensures c.code_of.ensures in
    fetchable_form _ (asked_fetchable _ a _ f.found f.play c.requires _ tag)

pub slice_bounds-losing_from-count : goal.slice_bounds-losing_from-count
slice_bounds-losing_from-count c =
    let f = c.args.fitted in
    let h = within (is_accepted _ f.file.found.accepted) f.found f.play c.requires c.record-record.ensures in
    omega arith

pub slice_bounds-losing_from-start : goal.slice_bounds-losing_from-start
slice_bounds-losing_from-start c =
    let f = c.args.fitted in
    let h = within (is_accepted _ f.file.found.accepted) f.found f.play c.requires c.record-record.ensures in
    omega arith

pub losing_from-requires : goal.losing_from-requires
losing_from-requires c =
    let f = c.args.fitted in
    let a = is_accepted _ f.file.found.accepted in
    let read = c.record-record.ensures in
    let tag = closes a f.found f.play c.requires read c.code_of.ensures in
    rw (c.kept_states.ensures.0, c.kept_states.ensures.1)
    (outcome_asked _ a _ f.found f.play c.requires _ tag c.target.ensures c.table-sets.ensures read c.form-form.ensures)

pub returns : goal.returns
returns c =
    let f = c.args.fitted in
    let a = is_accepted _ f.file.found.accepted in
    let read = c.record-record.ensures in
    let tag = closes a f.found f.play c.requires read c.code_of.ensures in
    outcome_here _ a _ f.found f.play c.requires _ tag c.target.ensures c.table-sets.ensures read c.form-form.ensures
    c.args.buffer.now _ _ (rw (c.kept_states.ensures.0, c.kept_states.ensures.1) at c.losing_from.ensures)
