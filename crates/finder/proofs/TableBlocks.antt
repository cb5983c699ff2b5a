-- The blocks that are read from a part's tables are the part's blocks. Assumes nothing.
use Prim.Native.Nat.{ℕ, ◌+◌, ◌-◌, ◌*◌, ◌≤◌, ◌<◌, min}
use mathlib.Core.Path.{◌≡◌, refl, sym, ap, ap₂, ◌∙◌}
use mathlib.Core.List.{List, flat_map, reverse}
use native.Mathlib.Omega.{arith}
use native.Mathlib.Decide.{dec_le}
use denote.Bor.{Bor}
use lib.ListN.{length, get_or, get_or-eq_default, drop, length-drop}
use lib.Seq.{length-take-le}
use Rattle.std.specs.List.{slice_range}
use Rattle.std.proofs.lemmas.List.{get_or-drop, get_or-take}
use Rattle.repetition.specs.Numbers.{consecutive}
use Rattle.repetition.specs.Cutting.{Part, cut_of}
use Rattle.repetition.specs.Blocks.{class_blocks}
use Rattle.repetition.specs.Tables.{match_at, left_piece, right_piece}
use Rattle.repetition.specs.Reading.{around, read_block, greatest_half}
use Rattle.repetition.specs.Tables.{v_itself, u_back_itself, v_back_against_u_back, u_against_v}
use Rattle.repetition.proofs.Lists.{flat_map_each}
use Rattle.repetition.proofs.Matching.{match_at_is}
use Rattle.repetition.proofs.Reading.{class_read}
use Rattle.tables.specs.Parts.{letters, letters_u, letters_v, with_tables, PartPlaced}
use Rattle.tables.proofs.Parts.{sizes, length-with_tables, v_itself_entry}
use Rattle.finder.specs.declared.part_tables.PartTables.{PartTables}
use Rattle.finder.specs.declared.reading.Class.{Class as ClassRead}
use Rattle.finder.specs.declared.reading.Class.TheVariants.{Right, Left}
use Rattle.finder.specs.Reading.{StandIn, right_reach, left_reach, cut_reach, most_of}
use Rattle.finder.specs.Reading.{read_half, read_first, read_all, CanReach, Inside}
use Rattle.finder.proofs.WorkBlocks.{class_of}
use Rattle.finder.proofs.WorkBlocks as in_work

left_low : {b n : ℕ} (a c p e m : ℕ) → e ≡ b → b ≤ n → n ≡ c - a - p → min m e ≤ c - p
left_low a c p e m is_b within size = omega arith

left_high : (c p e limit : ℕ) → 1 ≤ p → p ≤ c → c ≤ limit → c - p + min (p - 1) e ≤ limit
left_high c p e limit one l fits = omega arith

-- ---- a table that is a range of the work space

length_range : {table : List ℕ} (work : List ℕ) (a b : ℕ) → table ≡ slice_range work a b → b ≤ length work
    → length table ≡ b - a
length_range work a b e fits = ap length e ∙ length-take-le (b - a) (drop a work) (rw length-drop (omega arith))

entry_range : {table : List ℕ} (work : List ℕ) (a b i : ℕ) → table ≡ slice_range work a b → i < b - a
    → {j : ℕ} → a + i ≡ j → get_or table i 0 ≡ get_or work j 0
entry_range work a b i e l at =
    ap (λ (xs : List ℕ). get_or xs i 0) e ∙ get_or-take (b - a) (drop a work) i 0 l ∙ get_or-drop a work i 0
    ∙ ap (λ (j : ℕ). get_or work j 0) at

-- a list as it is lent, wherever it lies
abbrev lent : List ℕ → Bor (List ℕ)
lent xs = record { ref_ptr = (0, 0); now = xs }

module _ (t work : List ℕ) (q : Part) (placed : PartPlaced t work q) where
  abbrev tables : List ℕ
  tables = with_tables t q work

  -- There are such tables in every work space with the tables of a part in it.
  pub tables_stand : (T : PartTables) × StandIn tables q T
  tables_stand =
      let e = length-with_tables t work q placed in
      let z = sizes t work q placed in
      let first = length_range tables 0 (letters_v q) refl (omega (arith, placed.room, z)) in
      let second = length_range tables (letters_v q) (letters q) refl (omega (arith, placed.room, z)) in
      let third = length_range tables (letters q) (letters q + letters_v q) refl (omega (arith, placed.room, z)) in
      let fourth = length_range tables (letters q + letters_v q) (2 * letters q) refl (omega (arith, placed.room, z)) in (
        record {
          cut = cut_of q;
          v_itself = lent (slice_range tables 0 (letters_v q));
          u_back_itself = lent (slice_range tables (letters_v q) (letters q));
          v_back_against_u_back = lent (slice_range tables (letters q) (letters q + letters_v q));
          u_against_v = lent (slice_range tables (letters q + letters_v q) (2 * letters q));
          v_sizes = omega (arith, first, third);
          u_sizes = omega (arith, second, fourth, z);
          u_inside = omega (arith, second, z);
          v_inside = omega (arith, first, placed, z);
        },
        record { cut = refl; first = refl; second = refl; third = refl; fourth = refl },
      )

  module _ (T : PartTables) (stand : StandIn tables q T) where
    pub record TableSizes : Type 0 where
      pub cut : T.cut ≡ cut_of q
      pub v : length T.v_itself.now ≡ letters_v q
      pub u : length T.u_back_itself.now ≡ cut_of q - q.from

    pub table_sizes : TableSizes
    table_sizes =
        let e = length-with_tables t work q placed in
        let z = sizes t work q placed in
        let first = length_range tables _ _ stand.first (omega (arith, placed.room, z)) in
        let second = length_range tables _ _ stand.second (omega (arith, placed.room, z)) in
        record {
          cut = stand.cut;
          v = omega (arith, first);
          u = omega (arith, second, z);
        }

    -- ---- the numbers that a reach is read from

    right_back : (p : ℕ) → 1 ≤ p → p ≤ letters_v q
        → get_or T.v_back_against_u_back.now (length T.v_itself.now - p) 0
        ≡ match_at (v_back_against_u_back t q) (length (right_piece t q) - p)
    right_back p one l =
        let z = sizes t work q placed in
        entry_range tables _ _ (length T.v_itself.now - p) stand.third (omega (arith, table_sizes, z))
        {j = letters q + (letters_v q - p)} (omega (arith, table_sizes))
        ∙ in_work.right_back t work q placed p one l

    right_on : (p : ℕ) → 1 ≤ p → get_or T.v_itself.now p 0 ≡ match_at (v_itself t q) p
    right_on p one =
        elim (dec_le (letters_v q) p) [
          | yes l ↦ get_or-eq_default T.v_itself.now 0 (omega (arith, table_sizes)) ∙ sym (in_work.match_past t work q placed p l)
          | no l ↦
              entry_range tables _ _ p stand.first (omega (arith)) {j = p} (omega arith)
              ∙ v_itself_entry t work q placed p one (omega arith)
        ]

    left_back : (p : ℕ) → 1 ≤ p → p ≤ letters_u q - 1
        → get_or T.u_back_itself.now p 0 ≡ match_at (u_back_itself t q) p
    left_back p one l =
        let z = sizes t work q placed in
        entry_range tables _ _ p stand.second (omega (arith, z)) {j = letters_v q + p} (omega (arith))
        ∙ in_work.left_back t work q placed p one l

    left_on : (p : ℕ) → 1 ≤ p → p ≤ letters_u q - 1
        → get_or T.u_against_v.now (length T.u_back_itself.now - p) 0
        ≡ match_at (u_against_v t q) (length (left_piece t q) - p)
    left_on p one l =
        let z = sizes t work q placed in
        entry_range tables _ _ (length T.u_back_itself.now - p) stand.fourth (omega (arith, table_sizes, z))
        {j = letters q + letters_v q + (letters_u q - p)} (omega (arith, table_sizes))
        ∙ in_work.left_on t work q placed p one l

    -- ---- each block

    read_is : (κ : ClassRead) (p : ℕ) → 1 ≤ p → p ≤ most_of T κ → read_half T κ p ≡ read_block t (class_of κ) q p
    unfolding right_reach left_reach read_block
    read_is Right p one l =
        let cut_is = table_sizes.cut in
        rw cut_is
        (ap₂ (around (cut_of q) p) (right_back p one (omega (arith, table_sizes))) (ap (min (p - 1)) (right_on p one)))
    read_is Left p one l =
        let cut_is = table_sizes.cut in
        rw cut_is
        (ap₂ (around (cut_of q - p) p) (ap (min (p - 1)) (left_back p one (omega (arith, table_sizes))))
        (ap (min (p - 1)) (left_on p one (omega (arith, table_sizes)))))

    most_is : (κ : ClassRead) → most_of T κ ≡ greatest_half t (class_of κ) q
    unfolding greatest_half
    most_is Right = omega (arith, table_sizes, sizes t work q placed)
    most_is Left = omega (arith, table_sizes, sizes t work q placed)

    pub class_is : (κ : ClassRead) → read_all T κ ≡ class_blocks t (class_of κ) q
    unfolding read_first
    class_is κ =
        flat_map_each _ 1 (most_of T κ) (read_block t (class_of κ) q) (λ p l m. read_is κ p l (omega arith))
        ∙ ap (λ (n : ℕ). flat_map (read_block t (class_of κ) q) (consecutive 1 n)) (most_is κ)
        ∙ sym (class_read t q placed.wide placed.inside (class_of κ))

    -- from the tables as from the numbers of the work space in which they stand
    pub work_is : (κ : ClassRead) → in_work.read_all tables q κ ≡ read_all T κ
    work_is κ = in_work.class_in_work t work q placed κ ∙ sym (class_is κ)

    -- what the reading needs
    pub inside : (κ : ClassRead) (p : ℕ) → CanReach T κ p → Inside (cut_reach T κ p)
    unfolding right_reach left_reach
    inside Right p can =
        let z = sizes t work q placed in
        let m = match_at_is (v_back_against_u_back t q) (length (right_piece t q) - p) in
        record {
          low = omega (arith, right_back p can.nonempty (omega (arith, can, table_sizes)), m.within_right, table_sizes, z);
          high = omega (arith, can, placed, table_sizes, z);
        }
    inside Left p can =
        let z = sizes t work q placed in
        let m = match_at_is (u_back_itself t q) p in
        let e = length-drop p (reverse (left_piece t q)) in
        let cut_is = table_sizes.cut in
        rw cut_is
        (record {
          low =
              left_low _ _ _ _ _ (left_back p can.nonempty (omega (arith, can, table_sizes))) m.within_left
              (e ∙ ap (λ (n : ℕ). n - p) z.u_back);
          high = left_high _ _ _ _ can.nonempty (omega (arith, can, table_sizes, z)) (omega (arith, placed, z));
        })
