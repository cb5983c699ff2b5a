-- `tables::part::CutPart::new` meets its contract: each piece of two letters or more has one. Assumes nothing.
use Rattle.std.proofs.Common.{arith}
use Rattle.repetition.proofs.Cutting.{cut_inside}
use Rattle.tables.proofs.part.CutPart.new.Goals as goal

pub invariant_of-result : goal.invariant_of-result
invariant_of-result c =
    (c.cut_at.ensures.cuts, omega (arith, c.requires, cut_inside c.args.from c.args.to (omega (arith, c.requires))))
