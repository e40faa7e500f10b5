-- `Play::stateless_read` meets its contract: an opening tag or a closing tag.
use mathlib.Core.Path.{refl, ◌∙◌}
use Prim.Native.Nat.{◌-◌}
use lib.ListN.{get_or}
use Rattle.words.specs.Tag.{codes}
use Rattle.words.proofs.Bytes.{tag_at_lem, tag_of_closing}
use Rattle.play.proofs.MoveLaws.{opening_tag_at}
use Rattle.play.proofs.StatelessLaws.{still, place_opening, place_closing}
use Rattle.play.proofs.StatelessLaws.{few_there, room_there, some_there, position_fits, count_fits}
use Rattle.play.proofs.Play.stateless_read.Goals as goal

pub after_opening-requires : goal.after_opening-requires
after_opening-requires c =
    let w = c.requires in
    let opens = opening_tag_at c.args.«record».now c.args.self (c.is_opening.ensures.opening c.if-is_opening.true) in
    (room_there _ _ w _ opens, position_fits _ _ w, count_fits _ _ w)

pub returns-then-is_opening : goal.returns-then-is_opening
returns-then-is_opening c =
    let bytes = c.args.«record».now in
    let code = get_or bytes c.args.self.position 0 in
    let opens = opening_tag_at bytes c.args.self (c.is_opening.ensures.opening c.if-is_opening.true) in
    λ A. rw (c.after_opening.ensures still code refl) (place_opening bytes c.args.self A code opens)

pub closed_last-requires : goal.closed_last-requires
closed_last-requires c =
    let w = c.requires in
    let above = c.is_opening.ensures.closing c.if-is_opening.false in
    let closes = tag_at_lem c.args.«record».now c.args.self.position ∙ tag_of_closing _ above in
    (some_there _ _ w _ closes, few_there _ _ w, position_fits _ _ w, count_fits _ _ w)

pub returns : goal.returns
returns c =
    let bytes = c.args.«record».now in
    let code = get_or bytes c.args.self.position 0 - codes in
    let above = c.is_opening.ensures.closing c.if-is_opening.false in
    let closes = tag_at_lem bytes c.args.self.position ∙ tag_of_closing _ above in
    λ A. rw c.closed_last.ensures (place_closing bytes c.args.self A code closes)
