-- `rounds::progress::Progress::forget_row` meets its contract: the masks are cleared, once what they have leads into its ends.
use mathlib.Core.Path.{refl}
use native.Mathlib.Omega.{arith}
use Rattle.std.proofs.lemmas.List.{get_or-replicate}
use Rattle.rounds.proofs.ForgettingLaws.{cleared, forgotten}
use Rattle.rounds.proofs.progress.Progress.forget_row.Goals as goal

pub returns : goal.returns
returns c =
    let a = c.args in
    let zeros = c.fill.ensures.after (λ y e. e) in
    let long = c.fill.ensures.len in (
      forgotten (cleared a.x _ _ a.self.now.fresh c.fill.new.self (omega arith) (omega arith) (omega arith) (omega arith)
          (λ i h. rw zeros (get_or-replicate _ i 0 0 (rw long at h))))
          c.turn_row.ensures,
      refl,
    )
