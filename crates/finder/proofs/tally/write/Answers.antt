-- `finder::tally::write` meets its contract. Assumes nothing.
use Rattle.std.proofs.Common.{arith, ◌/◌, length, add-one}
use native.Mathlib.Numerals.{add-two}
use borrow.Author.Tests.{lt-ltb, le-ltb}
use Rattle.repetition.specs.Limits.{numbers_per_block}
use Rattle.repetition.specs.Memory.{room}
use Rattle.finder.specs.Kept.{with_block}
use Rattle.finder.proofs.tally.write.Goals as goal

pub returns-then-at-report : goal.returns-then-at-report
unfolding with_block room
returns-then-at-report c =
    let fits = lt-ltb c.args.blocks (length c.args.report.now / numbers_per_block) (omega (arith, c.if-at-report.true)) in
    rw (fits, add-one, add-two)

pub returns-else-at-report : goal.returns-else-at-report
unfolding with_block room
returns-else-at-report c =
    rw (le-ltb c.args.blocks (length c.args.report.now / numbers_per_block) (omega (arith, c.if-at-report.false)))
