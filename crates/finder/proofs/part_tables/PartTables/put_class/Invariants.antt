-- The blocks of all halves before are put.
use Rattle.std.proofs.Common.{◌+◌, ◌-◌}
use Rattle.finder.proofs.Classes.{Put}
use Rattle.finder.proofs.part_tables.PartTables.put_class.Given as goal

abbrev pub invariant-halves : goal.invariant-halves
invariant-halves l = Put l.self l.class l.initial.report l.initial.all l.half l.report l.all

abbrev pub decreases-halves : goal.decreases-halves
decreases-halves l = l.most + 1 - l.half
