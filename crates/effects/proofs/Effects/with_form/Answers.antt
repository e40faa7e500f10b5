-- `effects::Effects::with_form` meets its contract: the numbers put in the code's place are the effects of its form.
use native.Mathlib.Omega.{arith}
use Rattle.automata.proofs.TargetTables.{few_target_states}
use Rattle.effects.proofs.EffectLaws.{put_form}
use Rattle.effects.proofs.Effects.with_form.Goals as goal

pub returns : goal.returns
returns c =
    put_form _ _ c.args.c _ c.args.self.numbers _ (few_target_states _ c.args.target.valid) (omega arith) (omega arith) (omega arith)
    c.put_numbers.ensures
