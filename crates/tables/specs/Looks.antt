-- A look, and a scan made of looks: document 01, "What counts as a comparison".
use Rattle.std.specs.Prelude.{ℕ, ◌+◌, ◌-◌, ◌^◌, ◌≤◌, ◌<◌, Bool, List, eqb, ltb, length, get_or}
use Rattle.repetition.specs.Numbers.{one_if}
use Rattle.repetition.specs.Tables.{matched}
use Rattle.tables.specs.declared.look.Counted.{Counted}
use Rattle.tables.specs.Letters.{read}

-- a look at the letters at two places: whether they are equal, and one comparison more
abbrev pub looked : List ℕ → ℕ → ℕ → ℕ → Counted Bool
looked s i j count = record { found = eqb (get_or s i 0) (get_or s j 0); count = count + 1 }

-- how many of the next `room` letters are the same from two places on
unfoldable pub common : List ℕ → ℕ → ℕ → ℕ → ℕ
unfolding read matched
common s a b room = matched (read s (record { from = a; size = room })) (read s (record { from = b; size = room }))

-- What a scan needs: letters to read, no letter known that differs, and a count that does not wrap.
pub record CanScan (s : List ℕ) (a b room known count : ℕ) : Type 0 where
  pub reads_a : a + room ≤ length s
  pub reads_b : b + room ≤ length s
  pub same : known ≤ common s a b room
  pub fits : count + (room - known) < 2 ^ 32

-- a scan that knows of the first letters: one look for each letter more, and one at a mismatch
unfoldable pub scan_of : List ℕ → ℕ → ℕ → ℕ → ℕ → ℕ → Counted ℕ
unfolding common
scan_of s a b room known count =
    let L = common s a b room in
    record { found = L; count = count + (L - known + one_if (ltb L room)) }
