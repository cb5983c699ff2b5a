-- `finder::part_tables::PartTables::put_half` meets its contract. Assumes nothing.
use Rattle.finder.proofs.Reaches.{half_none}
use Rattle.finder.proofs.part_tables.PartTables.put_half.Goals as goal

pub returns-then-reach-half : goal.returns-then-reach-half
returns-then-reach-half c = half_none _ c.args.class _ c.reach-reach.ensures.read c.if-reach-half.true _
