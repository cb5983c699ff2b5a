-- Law 5: comparisons are at most 4nD and blocks at most nD, with D the depth of n. Assumes nothing.
use Prim.Native.Nat.{ℕ, ◌+◌, ◌*◌, ◌-◌, ◌≤◌}
use mathlib.Core.Path.{◌≡◌}
use mathlib.Core.List.{List}
use native.Mathlib.Nat.{one-mul, sub-zero}
use native.Mathlib.Decide.{dec_le}
use native.Mathlib.Omega.{arith}
use borrow.Author.Tests.{le-leb, lt-leb}
use lib.ListN.{length, length-append, length-reverse}
use Rattle.repetition.specs.Numbers.{consecutive, total}
use Rattle.repetition.specs.Cutting.{Part, Class, right, left, parts}
use Rattle.repetition.specs.Blocks.{class_blocks, part_blocks, list_of}
use Rattle.repetition.specs.Tables.{left_piece, right_piece, v_itself}
use Rattle.repetition.specs.Reading.{around, read_block, greatest_half}
use Rattle.repetition.specs.Tables.{u_back_itself, v_back_against_u_back, u_against_v}
use Rattle.repetition.specs.Comparisons.{part_comparisons, comparisons}
use Rattle.repetition.specs.Limits.{length_limit, depth, room_for}
use Rattle.repetition.proofs.Lists.{length-consecutive, length-flat_map, total_bound}
use Rattle.repetition.proofs.Cutting.{cut_inside, parts_total}
use Rattle.repetition.proofs.Walking.{table_cost_bound}
use Rattle.repetition.proofs.Reading.{size_u, size_v, class_read}
use Rattle.repetition.proofs.Depth.{depth_enough}

pub around_one : (d p back on : ℕ) → length (around d p back on) ≤ 1
unfolding around
around_one d p back on =
    elim (dec_le p (back + on)) [
      | yes l ↦ rw (le-leb p (back + on) l) (omega arith)
      | no l ↦ rw (lt-leb p (back + on) (omega arith)) (omega arith)
    ]

module _ (t : List ℕ) (q : Part) (wide : 2 ≤ q.to - q.from) (inside : q.to ≤ length t) where
  -- u and v, by their lengths
  pieces : (length (left_piece t q) + length (right_piece t q) ≡ q.to - q.from)
      × (1 ≤ length (left_piece t q)) × (1 ≤ length (right_piece t q))
  pieces = omega (arith, size_u t q wide inside, size_v t q wide inside, cut_inside q.from q.to wide)

  pub part_cost : part_comparisons t q + 4 ≤ 4 * (q.to - q.from)
  unfolding part_comparisons
  part_cost =
      let u = left_piece t q in
      let v = right_piece t q in
      omega (
        arith,
        pieces,
        length-reverse u,
        length-reverse v,
        table_cost_bound (v_itself t q) (omega (arith, pieces)),
        table_cost_bound (u_back_itself t q) (omega (arith, pieces, length-reverse u)),
        table_cost_bound (v_back_against_u_back t q) (omega arith),
        table_cost_bound (u_against_v t q) (omega arith),
      )

  read_one : (κ : Class) (p : ℕ) → length (read_block t κ q p) ≤ 1
  unfolding read_block
  read_one right p = around_one _ p _ _
  read_one left p = around_one _ p _ _

  class_size : (κ : Class) → length (class_blocks t κ q) ≤ greatest_half t κ q
  class_size κ =
      rw (class_read t q wide inside κ, length-flat_map (read_block t κ q) (consecutive 1 (greatest_half t κ q)))
      (omega (
        arith,
        total_bound (λ p. length (read_block t κ q p)) 1 (consecutive 1 (greatest_half t κ q)) (read_one κ),
        length-consecutive 1 (greatest_half t κ q),
      ))

  pub part_size : length (part_blocks t q) + 1 ≤ q.to - q.from
  unfolding part_blocks greatest_half
  part_size =
      omega (arith, pieces, length-append (class_blocks t right q) (class_blocks t left q), class_size right, class_size left)

-- over all parts, what costs at most k for each letter of a part
over_parts : (f : Part → ℕ) (k n : ℕ) → ((q : Part) → 2 ≤ q.to - q.from → q.to ≤ n → f q ≤ k * (q.to - q.from))
    → n ≤ length_limit → total f (parts 0 n) ≤ k * n * depth n
over_parts f k n h l =
    rw (sub-zero n) at (parts_total f k 0 n (depth n) (λ q x y z. h q z y) (rw sub-zero (depth_enough n l)))

pub comparisons_bound : (t : List ℕ) → length t ≤ length_limit → comparisons t ≤ 4 * length t * depth (length t)
unfolding comparisons
comparisons_bound t = over_parts (part_comparisons t) 4 (length t) (λ q w i. omega (arith, part_cost t q w i))

pub blocks_bound : (t : List ℕ) → length t ≤ length_limit → length (list_of t) ≤ room_for (length t)
unfolding list_of room_for
blocks_bound t l =
    rw (length-flat_map (part_blocks t) (parts 0 (length t)))
    (rw one-mul at (over_parts (λ q. length (part_blocks t q)) 1 (length t) (λ q w i. omega (arith, part_size t q w i)) l))
