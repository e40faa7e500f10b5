-- `job::loader::check_replies` meets its contract: the forms of the codes passed have lawful replies.
use Prim.Native.Nat.{ℕ, ◌≤◌}
use Rattle.automata.specs.Target.{Target, Closed}
use Rattle.automata.specs.TargetBody.{most_states}
use Rattle.automata.specs.Reply.{Form}
use Rattle.effects.specs.Effects.{EffectsOf}
use Rattle.contents.specs.Contents.{has_form}
use Rattle.job.specs.File.{rule17}
use Rattle.job.proofs.FormRules.{DecidesForms}
use Rattle.job.proofs.loader.check_replies.Given as goal

abbrev pub invariant-loop-c : goal.invariant-loop-c
invariant-loop-c l =
    (A : Target) (forms : ℕ → Form) → Closed A → A.states ≤ most_states → EffectsOf A has_form forms l.effects →
    DecidesForms (rule17 forms) l.c-index
