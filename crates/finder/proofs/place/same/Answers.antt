-- `finder::place::same` meets its contract. Assumes nothing.
use Rattle.finder.proofs.Places.{same_slices}
use Rattle.finder.proofs.place.same.Goals as goal

pub returns : goal.returns
returns c = same_slices _ _ _ _ c.requires.0 c.requires.1 c.eq.ensures
