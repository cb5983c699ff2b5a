-- What `put_output` promises: its whole outcome.
use Rattle.std.specs.Prelude.{ℕ, ◌≡◌, List, ◌++◌}
use Rattle.listing.specs.Output.{output}

-- text and output as lent, and the output as it is left: what it held, and then the output for the text
pub record OutputPromise (t out out_left : List ℕ) : Type 0 where
  pub leaves_out : out_left ≡ out ++ output t
