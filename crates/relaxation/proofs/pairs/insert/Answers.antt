-- `relaxation::pairs::insert` meets its contract: the mask that has the pair's bit gets it, and no other changes.
use Rattle.relaxation.proofs.GainsLaws.{gains_one}
use Rattle.relaxation.proofs.pairs.insert.Goals as goal

pub returns : goal.returns
returns c =
    let a = c.args in
    let p = c.requires in
    rw c.with.ensures (gains_one a.table.now a.x a.z p.0 p.1 p.2)
