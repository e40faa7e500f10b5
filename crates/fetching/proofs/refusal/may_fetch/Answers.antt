-- `may_fetch` meets its contract: no file allows a fetch at an opening tag, and at a closing one the code's mark tells.
use mathlib.Core.Path.{sym, ◌∙◌, ap}
use mathlib.Core.Bool.{not}
use Rattle.words.specs.Tag.{closing}
use Rattle.words.proofs.Bytes.{tag_of_opening, tag_of_closing}
use Rattle.game.specs.Game.{allowed}
use Rattle.game.specs.Job.{game_of}
use Rattle.fetching.proofs.refusal.may_fetch.Goals as goal

pub returns-then-not-is_opening : goal.returns-then-not-is_opening
unfolding game_of
returns-then-not-is_opening c file =
    let closed = c.is_opening.ensures.closing c.if-not-is_opening.true in
    let closes = tag_of_closing _ closed ∙ ap closing (sym (c.code_of.ensures.closing closed)) in
    c.fetchable.ensures ∙ sym (ap (λ t. allowed (game_of file) t) closes)

pub returns-else-not-is_opening : goal.returns-else-not-is_opening
returns-else-not-is_opening c file =
    let opens = tag_of_opening _ (c.is_opening.ensures.opening c.if-not-is_opening.false) in
    ap not c.if-not-is_opening.false ∙ sym (ap (λ t. allowed (game_of file) t) opens)
