-- `shortest::spell::spell` meets its contract: it calls itself for the inside of the first element and for what follows that element, each
-- time from a later place of the buffer on.
use Rattle.std.proofs.Common.{◌-◌, length}
use Rattle.shortest.proofs.spell.+spell.Given as goal

-- the bytes of the buffer from the place on
abbrev pub decreases-spell : goal.decreases-spell
decreases-spell l = length l.buffer.now - l.at
