-- `listing::output::put_output` meets its contract. Assumes nothing.
use Rattle.std.proofs.Common.{ℕ, List, ◌++◌, refl, sym, ap₂, ◌∙◌, append_assoc, length-take-le, arith}
use Rattle.listing.specs.Output.{number}
use Rattle.listing.proofs.Lines.{lines_in}
use Rattle.listing.proofs.Outputs.{not_too_long, not_too_short, blocks_inside, finished_output, full_output}
use Rattle.listing.proofs.output.put_output.Goals as goal

pub slice_bounds-put_blocks-end : goal.slice_bounds-put_blocks-end
slice_bounds-put_blocks-end g c =
    let few = blocks_inside _ (omega arith) c.list.ensures _ c.in-Finished.is in
    sym (length-take-le _ _ (omega (arith, few)))

pub put_blocks-requires : goal.put_blocks-requires
put_blocks-requires g c =
    let few = blocks_inside _ (omega arith) c.list.ensures _ c.in-Finished.is in
    omega (arith, few, length-take-le {A = List ℕ})

pub unreachable-requires : goal.unreachable-requires
unreachable-requires g c = not_too_long _ (omega arith) c.list.ensures refl refl c.in-TextTooLong.is

pub unreachable-requires-in-WorkTooShort : goal.unreachable-requires-in-WorkTooShort
unreachable-requires-in-WorkTooShort g c = not_too_short _ (omega arith) c.list.ensures refl refl c.in-WorkTooShort.is

pub returns-in-Finished : goal.returns-in-Finished
returns-in-Finished g c = record {
  leaves_out =
      let few = blocks_inside _ (omega arith) c.list.ensures _ c.in-Finished.is in
      let shown = finished_output _ (omega arith) c.list.ensures refl refl _ c.in-Finished.is in
      let lines = lines_in _ _ _ _ c.as_chunks.ensures.front (omega (arith, few)) in
      c.put_blocks.ensures.puts ∙ ap₂ ◌++◌ c.put_header.ensures.puts lines ∙ rw (append_assoc, shown);
}

pub returns-in-Full : goal.returns-in-Full
unfolding number
returns-in-Full g c = record {
  leaves_out =
      let refused = full_output _ (omega arith) c.list.ensures refl refl _ c.in-Full.is in
      c.put_count.ensures.puts ∙ rw refused;
}
