-- What the two public functions promise: the whole outcome, as document 01's definitions give it.
use Rattle.std.specs.Prelude.{ℕ, ◌+◌, ◌≡◌, List}
use Rattle.repetition.specs.Cutting.{Part, cut}
use Rattle.repetition.specs.Comparisons.{part_comparisons}
use Rattle.tables.specs.Parts.{with_tables}

-- the cut of the part from a place up to another
pub record CutPromise (from to r : ℕ) : Type 0 where
  pub cuts : r ≡ cut from to

-- the tables of a part: text and work space as lent, the count given; the count handed back, and the work space as it is left
pub record TablesPromise (t work : List ℕ) (q : Part) (count r : ℕ) (work_left : List ℕ) : Type 0 where
  pub counts : r ≡ count + part_comparisons t q
  pub leaves_work : work_left ≡ with_tables t q work
