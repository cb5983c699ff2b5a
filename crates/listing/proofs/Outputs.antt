-- What is put for each reply of the finder is the output for the text. Assumes nothing.
use Prim.Native.Nat.{ℕ, ◌*◌, ◌/◌, ◌≤◌, ◌<◌}
use mathlib.Core.Path.{◌≡◌, refl, sym, ap, ◌∙◌}
use mathlib.Core.List.{List, ◌++◌, flat_map}
use native.Mathlib.Omega.{arith}
use lib.ListN.{length}
use lib.Seq.{sets, sets-eq}
use borrow.Author.Tests.{le-leb, lt-leb, lt-ltb, le-ltb}
use Rattle.repetition.specs.Blocks.{list_of}
use Rattle.repetition.specs.Comparisons.{comparisons}
use Rattle.repetition.specs.Limits.{numbers_per_block}
use Rattle.repetition.specs.Memory.{room, over, blocks_in}
use Rattle.finder.specs.declared.reply.Totals.{Totals}
use Rattle.finder.specs.declared.reply.Listing.{Listing}
use Rattle.finder.specs.declared.reply.Listing.TheVariants as listing
use Rattle.finder.specs.Replies.{listing_number, listing_values, totals_values}
use Rattle.finder.specs.Promises.{ListPromise}
use Rattle.finder.proofs.Demands.{totals, Grounds, demand_1, Demand2, demand_2}
use Rattle.listing.specs.Output.{text_limit, block_limit, refused_1, refused_3_word, line_feed}
use Rattle.listing.specs.Output.{number, header, line, shown, output}

-- the totals of a reply are those of the list
totals_are : (t : List ℕ) (a : Totals) → totals_values a ≡ totals t
    → (a.blocks ≡ length (list_of t)) × (a.comparisons ≡ comparisons t)
totals_are t a e = (cc e, cc e)

shown_is : (t : List ℕ) → shown t ≡ header (length (list_of t)) (comparisons t) ++ flat_map line (list_of t)
unfolding shown
shown_is t = refl

module _ (t : List ℕ) where
  pub output_too_long : text_limit < length t → output t ≡ refused_1
  unfolding output
  output_too_long l = rw (lt-ltb text_limit (length t) l, output)

  module _ (l : length t ≤ text_limit) where
    output_shown : length (list_of t) ≤ block_limit → output t ≡ shown t
    unfolding output
    output_shown k = rw (le-ltb text_limit (length t) l, le-leb (length (list_of t)) block_limit k, output)

    output_full : block_limit < length (list_of t) → output t ≡ refused_3_word ++ number (length (list_of t)) line_feed
    unfolding output
    output_full k = rw (le-ltb text_limit (length t) l, lt-leb (length (list_of t)) block_limit k, output)

    -- the blocks of a finished list have room in the report, however long it is
    pub blocks_inside : {work report : List ℕ} {r : Listing} {work_left report_left : List ℕ}
        → ListPromise t work report r work_left report_left → (a : Totals) → r ≡ listing.Finished a
        → a.blocks ≤ length report / numbers_per_block
    unfolding room
    blocks_inside {work} {report} {r} {work_left} {report_left} promise a e =
        let d = demand_2 t work report r work_left report_left promise (ap listing_number e) in
        let g = (demand_1 t work report r work_left report_left promise).grounds in
        omega (arith, (totals_are t a (ap listing_values (sym e) ∙ d.values)).0, (g.finished.0 (ap listing_number e)).2)

    module _ {work report : List ℕ} {r : Listing} {work_left report_left : List ℕ}
        (promise : ListPromise t work report r work_left report_left) (enough : length work ≡ 2 * text_limit)
        (as_many : length report ≡ numbers_per_block * block_limit) where
      room_is : room report ≡ block_limit
      unfolding room
      room_is = ap (λ (n : ℕ). n / numbers_per_block) as_many

      abbrev grounds : Grounds t work report r work_left report_left
      grounds = (demand_1 t work report r work_left report_left promise).grounds

      pub not_too_long : r ≡ listing.TextTooLong → ⊥
      not_too_long e = omega (arith, l, grounds.too_long.0 (ap listing_number e))

      pub not_too_short : r ≡ listing.WorkTooShort → ⊥
      not_too_short e = omega (arith, l, enough, (grounds.work_short.0 (ap listing_number e)).1)

      module _ (a : Totals) (e : r ≡ listing.Finished a) where
        list_is : Demand2 t work report r work_left report_left
        list_is = demand_2 t work report r work_left report_left promise (ap listing_number e)

        totals_of : (a.blocks ≡ length (list_of t)) × (a.comparisons ≡ comparisons t)
        totals_of = totals_are t a (ap listing_values (sym e) ∙ list_is.values)

        fits : length (list_of t) ≤ block_limit
        fits = omega (arith, room_is, (grounds.finished.0 (ap listing_number e)).2)

        pub blocks_fit : a.blocks ≤ block_limit
        blocks_fit = omega (arith, fits, totals_of.0)

        pub finished_output : header a.blocks a.comparisons ++ flat_map line (blocks_in a.blocks report_left) ≡ output t
        finished_output = rw (output_shown fits, shown_is t, totals_of.0, totals_of.1, list_is.blocks)

      pub full_output : (a : Totals) → r ≡ listing.Full a → refused_3_word ++ number a.blocks line_feed ≡ output t
      full_output a e =
          let f = grounds.full.0 (ap listing_number e) in
          let v = ((demand_1 t work report r work_left report_left promise).leading (ap listing_number e)).values in
          rw (output_full (omega (arith, room_is, f.2)), (totals_are t a (ap listing_values (sym e) ∙ v)).0)

-- ---- a longer text's output, put over what a buffer holds

pub over_refused : (t out : List ℕ) → text_limit < length t → 10 ≤ length out → over (output t) out ≡ sets out 0 refused_1
unfolding over
over_refused t out l m = rw (output_too_long t l) (sym (sets-eq refused_1 out 0 m))

pub size_refused : (t : List ℕ) → text_limit < length t → length (output t) ≡ 10
size_refused t l = ap length (output_too_long t l)
