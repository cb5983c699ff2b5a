-- What stands in the work space with the four tables of a part in it, and with the first of them. Assumes nothing.
use Prim.Native.Nat.{ℕ, ◌+◌, ◌-◌, ◌≤◌, ◌<◌}
use mathlib.Core.Path.{◌≡◌, ◌∙◌}
use mathlib.Core.List.{List, reverse}
use native.Mathlib.Nat.{zero-add}
use native.Mathlib.Omega.{arith}
use lib.ListN.{length, get_or, length-reverse}
use Rattle.repetition.specs.Cutting.{Part, cut_of}
use Rattle.repetition.specs.Tables.{match_at, left_piece, right_piece}
use Rattle.repetition.specs.Tables.{v_itself, u_back_itself, v_back_against_u_back, u_against_v}
use Rattle.repetition.proofs.Cutting.{cut_inside}
use Rattle.repetition.proofs.Reading.{size_u, size_v}
use Rattle.tables.specs.Walks.{with_table}
use Rattle.tables.specs.Parts.{letters, letters_v, with_tables, PartPlaced}
use Rattle.tables.proofs.Filled.{Lies, length-with_table, table_entry, before_table}

-- ---- the work space after the first tables

abbrev pub after_1 : List ℕ → Part → List ℕ → List ℕ
after_1 t q work = with_table (v_itself t q) 0 work

abbrev pub after_2 : List ℕ → Part → List ℕ → List ℕ
after_2 t q work = with_table (u_back_itself t q) (letters_v q) (after_1 t q work)

abbrev pub after_3 : List ℕ → Part → List ℕ → List ℕ
after_3 t q work = with_table (v_back_against_u_back t q) (letters q) (after_2 t q work)

module _ (t work : List ℕ) (q : Part) (placed : PartPlaced t work q) where
  -- the pieces' lengths, forward and backward
  pub record Sizes : Type 0 where
    pub between : (q.from < cut_of q) × (cut_of q < q.to)
    pub u : length (left_piece t q) ≡ cut_of q - q.from
    pub v : length (right_piece t q) ≡ letters_v q
    pub u_back : length (reverse (left_piece t q)) ≡ cut_of q - q.from
    pub v_back : length (reverse (right_piece t q)) ≡ letters_v q

  pub sizes : Sizes
  sizes =
      record {
        between = cut_inside q.from q.to placed.wide;
        u = size_u t q placed.wide placed.inside;
        v = size_v t q placed.wide placed.inside;
        u_back = length-reverse (left_piece t q) ∙ size_u t q placed.wide placed.inside;
        v_back = length-reverse (right_piece t q) ∙ size_v t q placed.wide placed.inside;
      }

  lies_1 : Lies (v_itself t q) 0 work
  lies_1 = omega (arith, sizes)

  pub length_1 : length (after_1 t q work) ≡ length work
  length_1 = length-with_table lies_1

  lies_2 : Lies (u_back_itself t q) (letters_v q) (after_1 t q work)
  lies_2 = omega (arith, sizes, length_1)

  pub length_2 : length (after_2 t q work) ≡ length work
  length_2 = length-with_table lies_2 ∙ length_1

  lies_3 : Lies (v_back_against_u_back t q) (letters q) (after_2 t q work)
  lies_3 = omega (arith, sizes, length_2)

  pub length_3 : length (after_3 t q work) ≡ length work
  length_3 = length-with_table lies_3 ∙ length_2

  lies_4 : Lies (u_against_v t q) (letters q + letters_v q) (after_3 t q work)
  lies_4 = omega (arith, sizes, length_3)

  pub length-with_tables : length (with_tables t q work) ≡ length work
  unfolding with_tables
  length-with_tables = length-with_table lies_4 ∙ length_3

  -- ---- what a later table keeps of the numbers before it

  low_2 : (x : ℕ) → x ≤ letters_v q → get_or (after_2 t q work) x 0 ≡ get_or (after_1 t q work) x 0
  low_2 x l = before_table lies_2 x (omega arith)

  low_3 : (x : ℕ) → x < letters q → get_or (after_3 t q work) x 0 ≡ get_or (after_2 t q work) x 0
  low_3 x l = before_table lies_3 x (omega arith)

  low_4 : (x : ℕ) → x < letters q + letters_v q → get_or (with_tables t q work) x 0 ≡ get_or (after_3 t q work) x 0
  unfolding with_tables
  low_4 x l = before_table lies_4 x (omega arith)

  -- ---- the own tables, as the third and the fourth find them

  pub u_back_stands : (p : ℕ) → 1 ≤ p → p < cut_of q - q.from
      → get_or (after_2 t q work) (letters_v q + p) 0 ≡ match_at (u_back_itself t q) p
  u_back_stands p one l = table_entry lies_2 p one (omega (arith, sizes))

  pub v_stands : (p : ℕ) → 1 ≤ p → p < letters_v q → get_or (after_3 t q work) p 0 ≡ match_at (v_itself t q) p
  v_stands p one l =
      low_3 p (omega (arith, sizes)) ∙ low_2 p (omega arith)
      ∙ rw (zero-add p) at (table_entry lies_1 p one (omega (arith, sizes)))

  -- ---- what a caller reads

  pub v_itself_entry : (p : ℕ) → 1 ≤ p → p < letters_v q → get_or (with_tables t q work) p 0 ≡ match_at (v_itself t q) p
  v_itself_entry p one l = low_4 p (omega arith) ∙ v_stands p one l

  pub u_back_entry : (p : ℕ) → 1 ≤ p → p < cut_of q - q.from
      → get_or (with_tables t q work) (letters_v q + p) 0 ≡ match_at (u_back_itself t q) p
  u_back_entry p one l =
      low_4 (letters_v q + p) (omega (arith, sizes)) ∙ low_3 (letters_v q + p) (omega (arith, sizes)) ∙ u_back_stands p one l

  pub v_back_entry : (i : ℕ) → i < letters_v q
      → get_or (with_tables t q work) (letters q + i) 0 ≡ match_at (v_back_against_u_back t q) i
  v_back_entry i l = low_4 (letters q + i) (omega arith) ∙ table_entry lies_3 i (omega arith) (omega (arith, sizes))

  pub u_against_entry : (i : ℕ) → i < cut_of q - q.from
      → get_or (with_tables t q work) (letters q + letters_v q + i) 0 ≡ match_at (u_against_v t q) i
  unfolding with_tables
  u_against_entry i l = table_entry lies_4 i (omega arith) (omega (arith, sizes))
