-- `tables::cut_at` meets its contract. Assumes nothing.
use Rattle.std.proofs.Common.{refl}
use Rattle.repetition.specs.Cutting.{cut}
use Rattle.tables.proofs.cut_at.Goals as goal

pub returns : goal.returns
unfolding cut
returns c = record { cuts = refl }
