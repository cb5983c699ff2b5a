-- `listing::output::put_block` puts the block's three numbers. Assumes nothing.
use Rattle.std.proofs.Common.{◌∙◌, append_assoc, arith}
use Rattle.listing.proofs.Lines.{line_is}
use Rattle.listing.proofs.output.put_block.Goals as goal

pub returns-clause-puts : goal.returns-clause-puts
returns-clause-puts g c =
    let line = line_is c.args.block.now (omega arith) (omega arith) (omega arith) in
    c.put_number-3.ensures.puts ∙ simp (c.put_number-2.ensures.puts, c.put_number.ensures.puts, line, append_assoc)
