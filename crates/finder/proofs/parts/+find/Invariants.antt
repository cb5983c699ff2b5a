-- The measure is the part's length.
use Rattle.std.proofs.Common.{◌-◌}
use Rattle.finder.proofs.parts.+find.Given as goal

abbrev pub decreases-find : goal.decreases-find
decreases-find l = l.part.to - l.part.from
