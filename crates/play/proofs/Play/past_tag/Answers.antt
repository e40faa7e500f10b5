-- `Play::past_tag` meets its contract: the tag at the position opens an element or closes one.
use mathlib.Core.Path.{sym, ◌∙◌, ap}
use native.Mathlib.Omega.{arith}
use Rattle.automata.specs.TargetBody.{target_of}
use Rattle.play.specs.Moves.{read_tag}
use Rattle.play.proofs.MoveLaws.{opens_code, closes_code, few_held, room_at_opening, some_at_closing}
use Rattle.play.proofs.Play.past_tag.Goals as goal

pub after_opening-requires : goal.after_opening-requires
after_opening-requires c =
    let below = c.is_opening.ensures.opening c.if-is_opening.true in
    let opens = opens_code c.args.«record».now c.args.self _ c.code_of-code.ensures below in (
      room_at_opening _ _ c.args.self c.requires.0 _ opens,
      omega (arith, c.requires.0.left, c.requires.0.is_record.word.short),
      c.requires.1,
    )

pub returns-then-is_opening : goal.returns-then-is_opening
returns-then-is_opening c =
    let A = target_of c.args.target.bytes.now in
    let below = c.is_opening.ensures.opening c.if-is_opening.true in
    let opens = opens_code c.args.«record».now c.args.self _ c.code_of-code.ensures below in
    c.after_opening.ensures A c.code_of-code.result c.open_to.ensures.is ∙ ap (λ x. read_tag A x c.args.self) (sym opens)

pub newest_kept-kept-requires : goal.newest_kept-kept-requires
newest_kept-kept-requires c =
    let above = c.is_opening.ensures.closing c.if-is_opening.false in
    let closes = closes_code c.args.«record».now c.args.self _ c.code_of-code.ensures above in
    (some_at_closing _ _ c.args.self c.requires.0 _ closes, few_held _ _ c.args.self c.requires.0)

pub after_closing-requires : goal.after_closing-requires
after_closing-requires c =
    let above = c.is_opening.ensures.closing c.if-is_opening.false in
    let closes = closes_code c.args.«record».now c.args.self _ c.code_of-code.ensures above in (
      some_at_closing _ _ c.args.self c.requires.0 _ closes,
      few_held _ _ c.args.self c.requires.0,
      omega (arith, c.requires.0.left, c.requires.0.is_record.word.short),
      c.requires.1,
    )

pub returns : goal.returns
returns c =
    let A = target_of c.args.target.bytes.now in
    let code = c.code_of-code.result in
    let next = c.close_to-next.ensures.is ∙ ap (λ q. A.close_to c.args.self.state q code) c.newest_kept-kept.ensures in
    let above = c.is_opening.ensures.closing c.if-is_opening.false in
    let closes = closes_code c.args.«record».now c.args.self _ c.code_of-code.ensures above in
    c.after_closing.ensures A code next ∙ ap (λ x. read_tag A x c.args.self) (sym closes)
