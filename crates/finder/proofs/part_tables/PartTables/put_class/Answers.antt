-- `finder::part_tables::PartTables::put_class` meets its contract. Assumes nothing.
use Rattle.std.proofs.Common.{arith}
use Rattle.finder.proofs.Classes.{put_starts, put_half, put_next}
use Rattle.finder.proofs.part_tables.PartTables.put_class.Goals as goal

pub halves-init : goal.halves-init
halves-init c = put_starts _ _ _ _

pub put_half-all-requires : goal.put_half-all-requires
put_half-all-requires c = put_half _ _ _ _ c.requires c.halves.invariant (omega arith)

pub halves-preserved : goal.halves-preserved
halves-preserved c = put_next _ _ _ _ c.requires c.halves.invariant (omega arith) c.put_half-all.ensures
