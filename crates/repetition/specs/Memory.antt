-- What is left in lent memory, the report and the work space: document 01, "Sizes" and "What comes back".
use Rattle.std.specs.Prelude.{ℕ, ◌+◌, ◌*◌, ◌/◌, length, get_or, take, drop, replicate}
use mathlib.Core.List.{List, [], ◌∷◌, ◌++◌, map, flat_map}
use Rattle.repetition.specs.Numbers.{consecutive}
use Rattle.repetition.specs.Blocks.{Block}
use Rattle.repetition.specs.Limits.{numbers_per_block}

-- the numbers of a block in a report
abbrev pub numbers : Block → List ℕ
numbers b = b.half ∷ b.first ∷ b.last ∷ []

-- how many blocks a report has room for
unfoldable pub room : List ℕ → ℕ
room report = length report / numbers_per_block

-- some numbers at the front of a buffer, the rest as before
unfoldable pub over : List ℕ → List ℕ → List ℕ
over xs buffer = xs ++ drop (length xs) buffer

-- a report with the leading blocks that fit
unfoldable pub written : List Block → List ℕ → List ℕ
unfolding room over flat_map
written bs report = over (flat_map numbers (take (room report) bs)) report

-- the block that stands in a report after n others
unfoldable pub block_at : List ℕ → ℕ → Block
block_at report n =
    let i = numbers_per_block * n in
    record { half = get_or report i 0; first = get_or report (i + 1) 0; last = get_or report (i + 2) 0 }

-- the first k blocks of a report
unfoldable pub blocks_in : ℕ → List ℕ → List Block
unfolding consecutive block_at
blocks_in k report = map (block_at report) (consecutive 0 k)

-- work space after a text of n letters: its first 2n numbers are 0
unfoldable pub cleared : ℕ → List ℕ → List ℕ
unfolding over
cleared n work = over (replicate (2 * n) 0) work
