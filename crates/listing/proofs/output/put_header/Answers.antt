-- `listing::output::put_header` puts the two counts. Assumes nothing.
use Rattle.std.proofs.Common.{◌∙◌, append_assoc}
use Rattle.listing.specs.Output.{header}
use Rattle.listing.proofs.output.put_header.Goals as goal

pub returns-clause-puts : goal.returns-clause-puts
unfolding header
returns-clause-puts g c = c.put_count-2.ensures.puts ∙ simp (c.put_count.ensures.puts, append_assoc)
