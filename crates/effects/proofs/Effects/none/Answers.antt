-- `effects::Effects::none` meets its contract.
use mathlib.Core.Path.{refl}
use Rattle.effects.specs.Effects.{no_effects}
use Rattle.effects.proofs.Effects.none.Goals as goal

pub returns : goal.returns
unfolding no_effects
returns c = refl
