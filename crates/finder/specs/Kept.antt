-- What is kept while the blocks of a text are found: the report, and the tally of blocks, comparisons and the longest one.
-- One definition, `put`, says what putting a block does to both.
use Rattle.std.specs.Prelude.{ℕ, ◌+◌, ◌*◌, ◌^◌, ◌≤◌, ◌<◌, Option, None, Some, cond, eqb, ltb}
use mathlib.Core.List.{List, foldl}
use Rattle.std.proofs.lemmas.List.Edits.{sets}
use Rattle.repetition.specs.Cutting.{Part}
use Rattle.repetition.specs.Blocks.{Block, part_blocks}
use Rattle.repetition.specs.Comparisons.{part_comparisons}
use Rattle.repetition.specs.Limits.{length_limit, numbers_per_block}
use Rattle.repetition.specs.Memory.{numbers, room}
use Rattle.finder.specs.declared.reply.Totals.{Totals}
use Rattle.finder.specs.declared.reply.Repetition.{Repetition}
use Rattle.finder.specs.declared.tally.Tally.{Tally}
use Rattle.finder.specs.declared.tally.Block as code

-- nothing found yet
abbrev pub no_tally : Tally
no_tally = record { blocks = 0; comparisons = 0; half = 0; start = 0 }

-- the code's block, as the definitions have it
abbrev pub the_block : code.Block → Block
the_block b = record { half = b.half; first = b.first; last = b.last }

-- a tally with so many comparisons
abbrev pub compared : Tally → ℕ → Tally
compared y n = record { blocks = y.blocks; comparisons = n; half = y.half; start = y.start }

-- A tally with one block more. The block is the longest so far if its half is greater than all before.
unfoldable pub counted : Tally → Block → Tally
counted y b =
    let longer = ltb y.half b.half in
    record {
      blocks = y.blocks + 1;
      comparisons = y.comparisons;
      half = cond longer b.half y.half;
      start = cond longer b.first y.start;
    }

-- what a list hands back of a tally
abbrev pub the_totals : Tally → Totals
the_totals y = record { blocks = y.blocks; comparisons = y.comparisons }

-- the longest repetition of a tally
abbrev pub the_longest : Tally → Option Repetition
the_longest y = cond (eqb y.half 0) None (Some (record { start = y.start; half = y.half }))

-- a report with a block that comes after n others, if it fits
unfoldable pub with_block : ℕ → Block → List ℕ → List ℕ
unfolding room
with_block n b report = cond (ltb n (room report)) (sets report (numbers_per_block * n) (numbers b)) report

pub record Kept : Type 0 where
  pub report : List ℕ
  pub tally : Tally

abbrev pub kept : List ℕ → Tally → Kept
kept report y = record { report = report; tally = y }

unfoldable pub put : Kept → Block → Kept
unfolding with_block counted
put k b = kept (with_block k.tally.blocks b k.report) (counted k.tally b)

abbrev pub put_all : Kept → List Block → Kept
put_all = foldl put

-- the blocks and the comparisons of a part
unfoldable pub found : List ℕ → Kept → Part → Kept
unfolding part_blocks part_comparisons put
found t k q =
    put_all (kept k.report (compared k.tally (k.tally.comparisons + part_comparisons t q))) (part_blocks t q)

abbrev pub found_all : List ℕ → Kept → List Part → Kept
found_all t = foldl (found t)

-- A block within the limit: its numbers have 16 bits.
pub record CanWrite (b : Block) : Type 0 where
  pub half_fits : b.half ≤ length_limit
  pub first_fits : b.first ≤ length_limit
  pub last_fits : b.last ≤ length_limit

pub record CanPut (y : Tally) (b : Block) : Type 0 where
  pub writes : CanWrite b
  pub counts : y.blocks + 1 < 2 ^ 32
