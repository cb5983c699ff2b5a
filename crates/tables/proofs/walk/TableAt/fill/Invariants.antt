-- The match lengths up to position i stand in the work space. The measure is the positions left.
use Rattle.std.proofs.Common.{◌-◌}
use Rattle.tables.specs.Walks.{walk_of}
use Rattle.tables.specs.Progress.{Walked, Further}
use Rattle.tables.proofs.walk.TableAt.fill.Given as goal

abbrev pub invariant-loop-self : goal.invariant-loop-self
invariant-loop-self l =
    Walked l.letters l.work l.self l.i (walk_of l.walk) × Further l.letters l.initial.work l.self l.self.first l.i l.work

abbrev pub decreases-loop-self : goal.decreases-loop-self
decreases-loop-self l = l.self.walked.size - l.i
