-- `finder::parts::find` meets its contract: the part's own blocks, then those of its left and of its right piece. Assumes nothing.
use Rattle.std.proofs.Common.{arith}
use Rattle.finder.proofs.Finds.{can_part, can_left, can_right, all_found, pieces_fall}
use Rattle.finder.proofs.parts.+find.Goals as goal

pub find_part-here-requires : goal.find_part-here-requires
find_part-here-requires t c = can_part _ _ _ _ _ c.requires (omega arith) c.new-cut_part.ensures

pub find-with_left-requires : goal.find-with_left-requires
find-with_left-requires t c = (
  rw c.decreases at (pieces_fall _ _ c.new-cut_part.ensures c.cut-cut.ensures.place (omega arith)).0,
  can_left _ _ _ _ _ c.requires (omega arith) c.new-cut_part.ensures c.cut-cut.ensures.place c.find_part-here.ensures,
)

pub find-requires : goal.find-requires
find-requires t c = (
  rw c.decreases at (pieces_fall _ _ c.new-cut_part.ensures c.cut-cut.ensures.place (omega arith)).1,
  can_right _ _ _ _ _ c.requires (omega arith) c.new-cut_part.ensures c.cut-cut.ensures.place c.find_part-here.ensures c.find-with_left.ensures,
)

pub returns : goal.returns
returns t c =
    all_found _ _ _ _ _ c.requires (omega arith) c.new-cut_part.ensures c.cut-cut.ensures.place c.find_part-here.ensures c.find-with_left.ensures
    c.find.ensures
