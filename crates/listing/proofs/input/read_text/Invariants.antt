-- The text so far lies in the buffer, which keeps its length. The measure is the room left.
use Rattle.std.proofs.Common.{◌-◌, ◌≤◌, length}
use Rattle.listing.proofs.input.read_text.Given as goal

abbrev pub invariant-loop-n : goal.invariant-loop-n
invariant-loop-n g l = l.n ≤ length l.buffer

abbrev pub decreases-loop-n : goal.decreases-loop-n
decreases-loop-n g l = length l.initial.buffer - l.n
