-- The lines of the first blocks are put.
use Rattle.std.proofs.Common.{◌≡◌, ◌+◌, ◌*◌, ◌≤◌, ◌++◌, take}
use mathlib.Core.List.{flat_map}
use Rattle.arrayvec.specs.ArrayString.{array_string_len}
use Rattle.listing.specs.Parts.{numbers_line, line_room}
use Rattle.listing.proofs.output.put_blocks.Given as goal

abbrev pub invariant-loop-block : goal.invariant-loop-block
invariant-loop-block g l = record {
  puts : l.out.bytes ≡ l.initial.out.bytes ++ flat_map numbers_line (take l.block-index l.blocks);
  short : array_string_len l.out ≤ array_string_len l.initial.out + line_room * l.block-index;
}
