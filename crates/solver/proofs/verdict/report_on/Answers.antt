-- `solver::verdict::report_on` meets its contract: of an accepted file the start state is asked of the evaluators' set for the record.
use Rattle.std.proofs.Common.{◌≡◌, ℕ, List, sym, subst}
use mathlib.Core.Path.{subst₂}
use Rattle.words.specs.Tag.{word_of}
use Rattle.automata.specs.TargetBody.{target_of}
use Rattle.contents.specs.Contents.{target_body}
use Rattle.job.proofs.Accepted.{is_accepted}
use Rattle.game.specs.Job.{game_of}
use Rattle.solver.specs.Inner.PlayedWith.{PlayedWith, Decides}
use Rattle.solver.proofs.VerdictLaws.{file_plays, game_effects, file_judgeable, accepted_report}
use Rattle.solver.proofs.verdict.report_on.Goals as goal

states_at : (file body : List ℕ) (n : ℕ) → body ≡ target_body file → n ≡ (target_of body).states → n ≡ (game_of file).target.states
unfolding game_of
states_at file body n = subst (λ b. n ≡ (target_of b).states)

pub verdict_on-requires : goal.verdict_on-requires
verdict_on-requires c =
    let j = c.in_ok-job.ensures in
    let a = is_accepted c.args.file.now j.offsets_are_of.accepted in
    rw (c.target-target.ensures, c.record.ensures, c.accepted-accepted.ensures, c.table-sets.ensures)
    (file_judgeable c.args.file.now _ j.effects a, a.bodies.is_record.word.nested)

pub returns : goal.returns
returns c =
    let file = c.args.file.now in
    let j = c.in_ok-job.ensures in
    let G = game_of file in
    let same = c.accepted-accepted.ensures in
    let target = rw same at c.target-target.ensures in
    let plays = subst₂ (PlayedWith G) (sym target) (sym c.table-sets.ensures) (file_plays file _ j.effects) in
    let decided = subst (λ s. Decides G (word_of s) c.verdict_on.result) (rw same at c.record.ensures) (c.verdict_on.ensures G plays) in
    accepted_report file j.offsets_are_of.accepted _ decided (states_at file _ _ target c.states.ensures.0)
    (game_effects file _ j.effects)
