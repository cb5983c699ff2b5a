-- What the contracts say of the parts of an output: how many letters they have, at most, and the line of a block's numbers.
use Rattle.std.specs.Prelude.{ℕ, ◌+◌, ◌≤◌, List}
use Rattle.arrayvec.specs.ArrayString.{ArrayString, array_string_len}
use Rattle.repetition.specs.Memory.{block_at}
use Rattle.listing.specs.Output.{line}

-- the digits of a number of 32 bits
abbrev pub count_digits : ℕ
count_digits = 10

abbrev pub line_room : ℕ
line_room = 18

abbrev pub header_room : ℕ
header_room = 46

abbrev pub output_room : ℕ
output_room = 36_046

-- an output that holds `capacity` letters at most has room for n letters more
abbrev pub HasRoom : ℕ → ArrayString → ℕ → Type 0
HasRoom capacity out n = array_string_len out + n ≤ capacity

-- the line of a block whose numbers stand alone
abbrev pub numbers_line : List ℕ → List ℕ
numbers_line ns = line (block_at ns 0)
