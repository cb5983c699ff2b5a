-- The counting rule: document 01, "What counts as a comparison".
use Rattle.std.specs.Prelude.{ℕ, zero, suc, ◌+◌, ◌-◌, Bool, ◌&&◌, cond, List, ltb, length}
use Rattle.repetition.specs.Numbers.{one_if, total}
use Rattle.repetition.specs.Cutting.{Part, cut, parts}
use Rattle.repetition.specs.Tables.{Table, match_at, itself, v_itself, u_back_itself, v_back_against_u_back, u_against_v}

-- What a walk remembers, the record's position k and end e, and what it has cost so far.
pub record Walk : Type 0 where
  pub k : ℕ
  pub e : ℕ
  pub cost : ℕ

-- at the start there is no record, and e counts as 0
abbrev pub start : Walk
start = record { k = 0; e = 0; cost = 0 }

-- Position i is free: e > i, and the pattern's own match length at i - k is less than e - i.
unfoldable pub free : Table → ℕ → Walk → Bool
unfolding match_at
free m i w = ltb i w.e && ltb (match_at (itself m.pattern) (i - w.k)) (w.e - i)

-- A look ended the scan at position i that gives L: both the walked text goes on beyond i + L and the pattern beyond L.
unfoldable pub look_ended : Table → ℕ → ℕ → Bool
look_ended m i L = ltb (i + L) (length m.walked) && ltb L (length m.pattern)

-- The cost of a scan at position i that starts from j and gives L: L - j, and 1 more where a look ended it.
unfoldable pub scan_cost : Table → ℕ → ℕ → ℕ → ℕ
unfolding look_ended
scan_cost m i j L = L - j + one_if (look_ended m i L)

-- A scan at position i starts from e - i if e > i, else from 0, which is what ℕ's difference gives.
unfoldable pub scanned : Table → ℕ → Walk → Walk
unfolding match_at scan_cost
scanned m i w =
    record {
      k = i;
      e = i + match_at m i;
      cost = w.cost + scan_cost m i (w.e - i) (match_at m i);
    }

-- one position of the walk
unfoldable pub step : Table → ℕ → Walk → Walk
unfolding free scanned
step m i w = cond (free m i w) w (scanned m i w)

-- the walk after its first n positions
unfoldable pub after : Table → ℕ → Walk
unfolding step
after m zero = start
after m (suc n) = step m (m.first + n) (after m n)

-- the cost of a whole table
unfoldable pub table_cost : Table → ℕ
unfolding after
table_cost m = (after m (length m.walked - m.first)).cost

-- the comparisons of a part: the four costs
unfoldable pub part_comparisons : List ℕ → Part → ℕ
unfolding table_cost cut
part_comparisons t q =
    table_cost (v_itself t q) + table_cost (u_back_itself t q) + table_cost (v_back_against_u_back t q)
    + table_cost (u_against_v t q)

-- the comparisons figure of a text
unfoldable pub comparisons : List ℕ → ℕ
unfolding parts part_comparisons total
comparisons t = total (part_comparisons t) (parts 0 (length t))
