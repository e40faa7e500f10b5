-- `history::first_step` meets its contract.
use mathlib.Core.Path.{◌∙◌, ap}
use native.Mathlib.Omega.{arith}
use Rattle.std.specs.Prelude.{◌∷◌}
use Rattle.sakonite.proofs.HistoryLaws.{no_bytes, no_step, short_step, cut_step, fetch_step}
use Rattle.sakonite.proofs.history.first_step.Goals as goal

pub returns-in_err-kind : goal.returns-in_err-kind
returns-in_err-kind c = rw c.from_residual.ensures (no_bytes c.args.bytes.now c.in_err-kind.ensures.cases)

pub returns-in_err-length-in-33 : goal.returns-in_err-length-in-33
returns-in_err-length-in-33 c =
    rw c.from_residual-in_err-length-in-33.ensures
    (short_step (c.in_ok-kind.ensures.cases.0 ∙ ap (λ k. k ∷ c.in_ok-kind.behind.now) c.in-33.is) c.in_err-length-in-33.ensures.cases)

pub returns-in_err-reply-in-33 : goal.returns-in_err-reply-in-33
returns-in_err-reply-in-33 c =
    let parts = c.in_ok-length-in-33.ensures.cases in
    rw c.from_residual-in_err-reply-in-33.ensures
    (cut_step (c.in_ok-kind.ensures.cases.0 ∙ ap (λ k. k ∷ c.in_ok-kind.behind.now) c.in-33.is) parts.0 parts.1 parts.2 _
    c.read_two.ensures.0 c.in_err-reply-in-33.ensures.cases)

pub returns-in_ok-reply-in-33 : goal.returns-in_ok-reply-in-33
returns-in_ok-reply-in-33 c =
    let parts = c.in_ok-length-in-33.ensures.cases in
    let cut = c.in_ok-reply-in-33.ensures.cases in
    fetch_step (c.in_ok-kind.ensures.cases.0 ∙ ap (λ k. k ∷ c.in_ok-kind.behind.now) c.in-33.is) parts.0 parts.1 parts.2 _
    c.read_two.ensures.0 cut.0 _ _ cut.1 cut.2 (let low = c.type_inv.bytes 1 in omega arith)

pub returns-in_default : goal.returns-in_default
returns-in_default c = no_step c.args.bytes.now _ _ c.in_ok-kind.ensures.cases.0 (omega arith) (omega arith)
