-- The part lies in the text. The measure is its letters.
use Rattle.std.proofs.Common.{◌-◌, ◌≤◌}
use Rattle.trial.proofs.order.Repetition.is_before.Given as goal

abbrev pub invariant-loop-to : goal.invariant-loop-to
invariant-loop-to l = (l.from ≤ l.to) × (l.to ≤ l.letters)

abbrev pub decreases-loop-to : goal.decreases-loop-to
decreases-loop-to l = l.to - l.from
