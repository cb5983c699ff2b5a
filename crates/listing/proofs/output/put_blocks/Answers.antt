-- `listing::output::put_blocks` puts one line more at each step. Assumes nothing.
use Rattle.std.proofs.Common.{arith}
use Rattle.listing.proofs.Lines.{no_line_put, next_line_put}
use Rattle.listing.proofs.output.put_blocks.Goals as goal

pub loop-block-init : goal.loop-block-init
loop-block-init g c = record { puts = no_line_put _; short = omega arith }

pub loop-block-preserved : goal.loop-block-preserved
loop-block-preserved g c = record {
  puts = next_line_put _ _ _ _ _ c.loop-block-test.true c.loop-block.invariant.puts c.put_block.ensures.puts;
  short = omega arith;
}
