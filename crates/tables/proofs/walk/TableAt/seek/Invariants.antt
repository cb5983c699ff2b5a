-- No record reaches the next position.
use Rattle.tables.specs.Progress.{Seeking, Further}
use Rattle.tables.proofs.walk.TableAt.seek.Given as goal

abbrev pub invariant-loop-on : goal.invariant-loop-on
invariant-loop-on l =
    Seeking l.letters l.work l.self l.on l.looks × Further l.letters l.initial.work l.self l.i l.on l.work
