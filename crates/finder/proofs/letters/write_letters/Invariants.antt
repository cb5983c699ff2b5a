-- The first letters are written, at both ends.
use Rattle.std.proofs.Common.{◌≡◌, ◌-◌, take, drop, reverse, length}
use Rattle.finder.proofs.letters.write_letters.Given as goal

abbrev pub invariant-loop-i : goal.invariant-loop-i
invariant-loop-i l =
    (take l.i l.forward ≡ take l.i l.text)
    × (drop (length l.text - l.i) l.backward ≡ reverse (take l.i l.text))
