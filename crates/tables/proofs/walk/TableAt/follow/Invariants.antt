-- The record is the walk's, and the position goes no further than it reaches.
use Rattle.std.proofs.Common.{◌≤◌, max}
use Rattle.tables.specs.Walks.{walk_of}
use Rattle.tables.specs.Progress.{Walked, Further}
use Rattle.tables.proofs.walk.TableAt.follow.Given as goal

abbrev pub invariant-loop-on : goal.invariant-loop-on
invariant-loop-on l =
    Walked l.letters l.work l.self l.on (walk_of l.walk)
    × Further l.letters l.initial.work l.self l.i l.on l.work
    × (l.on ≤ max l.i l.walk.e)
