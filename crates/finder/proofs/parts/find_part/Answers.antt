-- `finder::parts::find_part` meets its contract. Assumes nothing.
use Rattle.finder.proofs.PartFinds.{can_read, can_right, can_left, part_found}
use Rattle.finder.proofs.parts.find_part.Goals as goal

pub of-tables-requires : goal.of-tables-requires
of-tables-requires c = can_read _ _ _ _ c.requires c.fill_tables-count.ensures

pub put_class-with_right-requires : goal.put_class-with_right-requires
put_class-with_right-requires c =
    can_right _ _ _ _ c.requires c.fill_tables-count.ensures c.compared.ensures _ c.of-tables.ensures

pub put_class-requires : goal.put_class-requires
put_class-requires c =
    can_left _ _ _ _ c.requires c.fill_tables-count.ensures c.compared.ensures _ c.of-tables.ensures _
    c.put_class-with_right.ensures

pub returns : goal.returns
returns c =
    part_found _ _ _ _ c.requires c.fill_tables-count.ensures c.compared.ensures _ c.of-tables.ensures _
    c.put_class-with_right.ensures c.put_class.ensures
