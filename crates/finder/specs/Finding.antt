-- The parts of a text, found one after the other.
use Rattle.std.specs.Prelude.{ℕ, ◌+◌, ◌*◌, ◌^◌, ◌-◌, ◌≤◌, ◌<◌, ◌≡◌, length}
use mathlib.Core.List.{List, foldl}
use Rattle.repetition.specs.Numbers.{total}
use Rattle.repetition.specs.Cutting.{Part, parts}
use Rattle.repetition.specs.Limits.{length_limit}
use Rattle.tables.specs.Parts.{letters, with_tables, PartPlaced}
use Rattle.finder.specs.declared.tally.Tally.{Tally}
use Rattle.finder.specs.Kept.{kept, found_all}

-- the work space with the tables of some parts, each over those before
abbrev pub tables_left : List ℕ → List ℕ → List Part → List ℕ
tables_left t = foldl (λ w q. with_tables t q w)

-- What the finding of some parts promises: work space, report and tally as they are given, and as they are left.
pub record Finds (t work report : List ℕ) (qs : List Part) (y r : Tally) (work_left report_left : List ℕ) : Type 0 where
  pub keeps : kept report_left r ≡ found_all t (kept report y) qs
  pub leaves_work : work_left ≡ tables_left t work qs

-- Counts have room for n letters more: at most one block and four comparisons for each.
pub record HasRoom (y : Tally) (n : ℕ) : Type 0 where
  pub blocks_fit : y.blocks + n < 2 ^ 32
  pub comparisons_fit : y.comparisons + 4 * n < 2 ^ 32

pub record CanFindPart (t work : List ℕ) (q : Part) (y : Tally) : Type 0 where
  pub placed : PartPlaced t work q
  pub counts : HasRoom y (letters q)

-- letters of all the parts from a place up to another
abbrev pub letters_in : ℕ → ℕ → ℕ
letters_in a b = total letters (parts a b)

pub record CanFind (t work : List ℕ) (from to : ℕ) (y : Tally) : Type 0 where
  pub ordered : from ≤ to
  pub inside : to ≤ length t
  pub limit : length t ≤ length_limit
  pub room : 2 * (to - from) ≤ length work
  pub counts : HasRoom y (letters_in from to)
