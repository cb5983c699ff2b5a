-- The four tables of a part are filled one after the other: what each filling needs, and what it leaves. Assumes nothing.
use Prim.Native.Nat.{ℕ, ◌+◌, ◌*◌, ◌≤◌}
use mathlib.Core.Path.{◌≡◌, refl, ap, ap₂, ◌∙◌}
use mathlib.Core.List.{List, reverse}
use native.Mathlib.Nat.{zero-add}
use native.Mathlib.Omega.{arith}
use lib.ListN.{length}
use Rattle.repetition.specs.Cutting.{Part, cut_of}
use Rattle.repetition.specs.Tables.{Table, itself, against, left_piece, right_piece, v_itself, u_back_itself, v_back_against_u_back, u_against_v}
use Rattle.repetition.specs.Comparisons.{table_cost, part_comparisons}
use Rattle.repetition.proofs.Walking.{table_cost_bound}
use Rattle.tables.specs.declared.walk.Piece.{Piece}
use Rattle.tables.specs.declared.walk.TableAt.{TableAt}
use Rattle.tables.specs.Letters.{both_ways, text_of, BothWays, read, backward_at}
use Rattle.tables.specs.Walks.{itself_at, against_at, table_of, with_table, this, earlier, CanFill, Fills}
use Rattle.tables.specs.Parts.{letters, letters_v, piece_u, piece_v, with_tables, CanFillPart}
use Rattle.tables.specs.Promises.{TablesPromise}
use Rattle.tables.proofs.Letters.{length_both, read_forward, read_backward}
use Rattle.tables.proofs.Fills.{fills_same}
use Rattle.tables.proofs.Parts.{after_1, after_2, after_3, Sizes, sizes, length_1, length_2, length_3}
use Rattle.tables.proofs.Parts.{u_back_stands, v_stands}

-- ---- what the first tables cost

abbrev cost_1 : List ℕ → Part → ℕ
cost_1 t q = table_cost (v_itself t q)

abbrev cost_2 : List ℕ → Part → ℕ
cost_2 t q = cost_1 t q + table_cost (u_back_itself t q)

abbrev cost_3 : List ℕ → Part → ℕ
cost_3 t q = cost_2 t q + table_cost (v_back_against_u_back t q)

-- ---- a part's pieces, and the four tables of them

abbrev first_at : Part → TableAt
first_at q = itself_at (piece_v q) 0

abbrev second_at : List ℕ → Part → TableAt
second_at s q = itself_at (backward_at (piece_u q) (length s)) (letters_v q)

abbrev third_at : List ℕ → Part → TableAt
third_at s q =
    against_at (backward_at (piece_v q) (length s)) (backward_at (piece_u q) (length s)) (letters_v q) (letters q)

abbrev fourth_at : Part → TableAt
fourth_at q = against_at (piece_u q) (piece_v q) 0 (letters q + letters_v q)

module _ (t s work : List ℕ) (q : Part) (count : ℕ) (lent : s ≡ both_ways t) (can : CanFillPart t work q count) where
  -- where the pieces lie, and what the tables cost at most
  record Bounds : Type 0 where
    sized : Sizes t work q can.placed
    long : length s ≡ 2 * length t
    one : cost_1 t q ≤ 2 * letters_v q
    two : cost_2 t q ≤ 2 * letters q
    three : cost_3 t q ≤ 2 * letters q + 2 * letters_v q

  bounds : Bounds
  bounds =
      let z = sizes t work q can.placed in
      let one = table_cost_bound (v_itself t q) (omega (arith, z)) in
      let two = table_cost_bound (u_back_itself t q) (omega (arith, z)) in
      let three = table_cost_bound (v_back_against_u_back t q) (omega arith) in
      record {
        sized = z;
        long = ap length lent ∙ length_both t;
        one = omega (arith, z);
        two = omega (arith, z);
        three = omega (arith, z);
      }

  -- ---- the four tables are the part's

  reads_u : read s (piece_u q) ≡ left_piece t q
  reads_u = rw lent (read_forward t q.from (cut_of q) (omega (arith, bounds)) (omega (arith, bounds, can)))

  reads_v : read s (piece_v q) ≡ right_piece t q
  reads_v = rw lent (read_forward t (cut_of q) q.to (omega (arith, bounds)) can.placed.inside)

  reads_u_back : read s (backward_at (piece_u q) (length s)) ≡ reverse (left_piece t q)
  reads_u_back =
      rw (lent, length_both t)
      (read_backward t q.from (cut_of q) (omega (arith, bounds)) (omega (arith, bounds, can)))

  reads_v_back : read s (backward_at (piece_v q) (length s)) ≡ reverse (right_piece t q)
  reads_v_back =
      rw (lent, length_both t) (read_backward t (cut_of q) q.to (omega (arith, bounds)) can.placed.inside)

  first_is : table_of s (first_at q) ≡ v_itself t q
  first_is = ap itself reads_v

  second_is : table_of s (second_at s q) ≡ u_back_itself t q
  second_is = ap itself reads_u_back

  third_is : table_of s (third_at s q) ≡ v_back_against_u_back t q
  third_is = ap₂ against reads_v_back reads_u_back

  fourth_is : table_of s (fourth_at q) ≡ u_against_v t q
  fourth_is = ap₂ against reads_u reads_v

  -- ---- each can be filled

  can_fill_1 : CanFill s work (first_at q) count
  can_fill_1 = record { placed = omega (arith, bounds, can); own = this refl refl refl; fits = omega (arith, bounds, can) }

  can_fill_2 : {n : ℕ} {w : List ℕ} → (n ≡ count + cost_1 t q) × (w ≡ after_1 t q work)
      → CanFill s w (second_at s q) n
  can_fill_2 (cost, e) =
      let same = ap length e ∙ length_1 t work q can.placed in
      record { placed = omega (arith, bounds, can); own = this refl refl refl; fits = omega (arith, bounds, can) }

  can_fill_3 : {n : ℕ} {w : List ℕ} → (n ≡ count + cost_2 t q) × (w ≡ after_2 t q work)
      → CanFill s w (third_at s q) n
  can_fill_3 (cost, e) =
      let same = ap length e ∙ length_2 t work q can.placed in
      record {
        placed = omega (arith, bounds, can);
        own = earlier (omega (arith, bounds)) (rw (e, reads_u_back) (u_back_stands t work q can.placed));
        fits = omega (arith, bounds, can);
      }

  can_fill_4 : {n : ℕ} {w : List ℕ} → (n ≡ count + cost_3 t q) × (w ≡ after_3 t q work)
      → CanFill s w (fourth_at q) n
  can_fill_4 (cost, e) =
      let same = ap length e ∙ length_3 t work q can.placed in
      record {
        placed = omega (arith, bounds, can);
        own =
            earlier (omega (arith, bounds))
            (λ x one l. rw (e, reads_v, zero-add x) (v_stands t work q can.placed x one l));
        fits = omega (arith, bounds, can);
      }

  pub u_inside : {u : Piece} → u ≡ piece_u q → u.from + u.size ≤ length s
  u_inside e = rw e (omega (arith, can, bounds))

  pub v_inside : {v : Piece} → v ≡ piece_v q → v.from + v.size ≤ length s
  v_inside e = rw e (omega (arith, can, bounds))

-- ---- the four fillings, one after the other, as the code lays the tables

-- the letters that are lent are the text's
pub are_lent : {s t : List ℕ} → BothWays s → text_of s ≡ t → s ≡ both_ways t
are_lent both e = both ∙ ap both_ways e

-- a filling of the table m, whose letters are s
filled_as : {s work work_left : List ℕ} {a : TableAt} {m : Table} {count n : ℕ} → table_of s a ≡ m
    → Fills s work a count n work_left → (n ≡ count + table_cost m) × (work_left ≡ with_table m a.at work)
filled_as {work = work} {a = a} {count = count} e f = (
  f.counts ∙ ap (λ (x : Table). count + table_cost x) e,
  f.leaves_work ∙ ap (λ (x : Table). with_table x a.at work) e,
)

module _ (t s work : List ℕ) (q : Part) (count : ℕ) (lent : s ≡ both_ways t) (can : CanFillPart t work q count)
    {u v u_back v_back : Piece} (u_is : u ≡ piece_u q) (v_is : v ≡ piece_v q)
    (u_back_is : u_back ≡ backward_at u (length s)) (v_back_is : v_back ≡ backward_at v (length s)) where
  second_laid : itself_at u_back v.size ≡ second_at s q
  second_laid = rw (u_back_is, u_is, v_is)

  pub fill_1 : CanFill s work (itself_at v 0) count
  fill_1 = rw v_is (can_fill_1 t s work q count lent can)

  module _ {n₁ : ℕ} {w₁ : List ℕ} (f₁ : Fills s work (itself_at v 0) count n₁ w₁) where
    left_1 : (n₁ ≡ count + cost_1 t q) × (w₁ ≡ after_1 t q work)
    left_1 = filled_as (first_is t s work q count lent can) (rw v_is at f₁)

    pub fill_2 : CanFill s w₁ (itself_at u_back v.size) n₁
    fill_2 = rw second_laid (can_fill_2 t s work q count lent can left_1)

    module _ {n₂ : ℕ} {w₂ : List ℕ} (f₂ : Fills s w₁ (itself_at u_back v.size) n₁ n₂ w₂)
        {m : ℕ} (m_is : m ≡ letters q) {a₃ : TableAt} (e₃ : a₃ ≡ against_at v_back u_back v.size m) where
      left_2 : (n₂ ≡ count + cost_2 t q) × (w₂ ≡ after_2 t q work)
      left_2 =
          let l = left_1 in
          let g = rw l.1 at (filled_as (second_is t s work q count lent can) (fills_same s w₁ n₁ second_laid f₂)) in
          (omega arith, g.1)

      third_laid : a₃ ≡ third_at s q
      third_laid = e₃ ∙ rw (u_back_is, v_back_is, u_is, v_is, m_is)

      pub fill_3 : CanFill s w₂ a₃ n₂
      fill_3 = rw third_laid (can_fill_3 t s work q count lent can left_2)

      module _ {n₃ : ℕ} {w₃ : List ℕ} (f₃ : Fills s w₂ a₃ n₂ n₃ w₃) {a₄ : TableAt}
          (e₄ : a₄ ≡ against_at u v 0 (m + v.size)) where
        left_3 : (n₃ ≡ count + cost_3 t q) × (w₃ ≡ after_3 t q work)
        left_3 =
            let l = left_2 in
            let g = rw l.1 at (filled_as (third_is t s work q count lent can) (fills_same s w₂ n₂ third_laid f₃)) in
            (omega arith, g.1)

        fourth_laid : a₄ ≡ fourth_at q
        fourth_laid = e₄ ∙ rw (m_is, u_is, v_is)

        pub fill_4 : CanFill s w₃ a₄ n₃
        fill_4 = rw fourth_laid (can_fill_4 t s work q count lent can left_3)

        module _ {n₄ : ℕ} {w₄ : List ℕ} (f₄ : Fills s w₃ a₄ n₃ n₄ w₄) where
          left_4 : (n₄ ≡ count + cost_3 t q + table_cost (u_against_v t q))
              × (w₄ ≡ with_table (u_against_v t q) (letters q + letters_v q) (after_3 t q work))
          left_4 =
              let l = left_3 in
              let g = rw l.1 at (filled_as (fourth_is t s work q count lent can) (fills_same s w₃ n₃ fourth_laid f₄)) in
              (omega arith, g.1)

          pub four_filled : TablesPromise t work q count n₄ w₄
          unfolding part_comparisons with_tables
          four_filled = record { counts = omega (arith, left_4.0); leaves_work = left_4.1 }
