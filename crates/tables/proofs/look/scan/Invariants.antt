-- The letters passed are the same, and each but those known was looked at once. The measure is the room left.
use Rattle.std.proofs.Common.{◌-◌}
use Rattle.tables.proofs.Scans.{Scanning}
use Rattle.tables.proofs.look.scan.Given as goal

abbrev pub invariant-loop-on : goal.invariant-loop-on
invariant-loop-on l = Scanning l.letters l.a l.b l.room l.known l.count l.looks l.on

abbrev pub decreases-loop-on : goal.decreases-loop-on
decreases-loop-on l = l.room - l.on
