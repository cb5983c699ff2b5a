-- How far the walk over a table has come, for the functions that make a part of it. The letters that are lent are s throughout.
use Rattle.std.specs.Prelude.{ℕ, ◌+◌, ◌-◌, ◌≤◌, ◌<◌, ◌≡◌, List, length, get_or}
use Rattle.std.proofs.Math.Seq.{paste}
use Rattle.repetition.specs.Tables.{Table, match_at}
use Rattle.repetition.specs.Comparisons.{Walk, scanned, after}
use Rattle.tables.specs.declared.walk.TableAt.{TableAt}
use Rattle.tables.specs.declared.walk.Stop.{Stop}
use Rattle.tables.specs.Walks.{table_of, knowing, lengths, Placed, CanScanAt, Own}

-- the walk of the counting rule up to position i, which is not in it
abbrev pub up_to : Table → ℕ → Walk
up_to m i = after m (i - m.first)

-- a work space with a table's match lengths up to position i in it, and all else as before
unfoldable pub partly : Table → ℕ → ℕ → List ℕ → List ℕ
unfolding lengths
partly m at i work = paste work (at + m.first) (lengths m) (i - m.first)

-- The match lengths of a table's positions up to i stand in the work space.
pub record Filled (s work : List ℕ) (a : TableAt) (i : ℕ) : Type 0 where
  pub placed : Placed s work a
  pub own : Own s work a
  pub begun : a.first ≤ i
  pub inside : i ≤ a.walked.size
  pub stand : (x : ℕ) → a.first ≤ x → x < i → get_or work (a.at + x) 0 ≡ match_at (table_of s a) x

-- A walk that has come to position i.
pub record Walked (s work : List ℕ) (a : TableAt) (i : ℕ) (w : Walk) : Type 0 where
  pub filled : Filled s work a i
  pub walk : w ≡ up_to (table_of s a) i

-- A walk that has come to position i with a record that does not reach it.
pub record Seeking (s work : List ℕ) (a : TableAt) (i cost : ℕ) : Type 0 where
  pub filled : Filled s work a i
  pub unreached : (up_to (table_of s a) i).e ≤ i
  pub so_far : cost ≡ (up_to (table_of s a) i).cost

-- A walk that has stopped: at its end, or for a scan, which then gives what the rule does.
pub record Stopped (s work : List ℕ) (a : TableAt) (at : Stop) : Type 0 where
  pub filled : Filled s work a at.i
  pub ended : a.walked.size ≤ at.i → at.cost ≡ (up_to (table_of s a) at.i).cost
  pub scannable : at.i < a.walked.size → CanScanAt s work a at.i (knowing at.i at.known at.cost)
  pub scans : at.i < a.walked.size
      → scanned (table_of s a) at.i (knowing at.i at.known at.cost) ≡ up_to (table_of s a) (at.i + 1)

-- From position i on to j: in whatever work space the match lengths up to i had been put, those up to j are put now.
pub record Further (s work : List ℕ) (a : TableAt) (i j : ℕ) (work_left : List ℕ) : Type 0 where
  pub onward : i ≤ j
  pub as_long : length work_left ≡ length work
  pub put : (w : List ℕ) → length w ≡ length work → work ≡ partly (table_of s a) a.at i w
      → work_left ≡ partly (table_of s a) a.at j w

-- What a walk from position i on promises: where it stops, and what it leaves.
pub record GoesOn (s work : List ℕ) (a : TableAt) (i : ℕ) (r : Stop) (work_left : List ℕ) : Type 0 where
  pub stopped : Stopped s work_left a r
  pub further : Further s work a i r.i work_left
