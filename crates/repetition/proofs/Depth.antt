-- Law 5, its depth: the limits are the powers of two, so the depth of a length is the least exponent that is enough.
-- Assumes nothing.
use Prim.Native.Nat.{ℕ, zero, suc, ◌^◌, ◌≤◌}
use mathlib.Core.Path.{◌≡◌, refl}
use mathlib.Core.List.{List, [], ◌∷◌}
use native.Mathlib.Omega.{arith}
use native.Mathlib.Decide.{dec_le}
use lib.Dec.{eqb}
use lib.ListN.{length, get_or}
use borrow.Author.Tests.{eqb-true, le-leb, lt-leb}
use Rattle.repetition.specs.Numbers.{each_below}
use Rattle.repetition.specs.Limits.{length_limit, greatest_depth, limits, first_at_least, depth}
use Rattle.repetition.proofs.Lists.{each_below_at}

-- If the number at place k is at least n, the first such number is at k or before, and is at least n.
first_found : (n k : ℕ) (ls : List ℕ) → n ≤ get_or ls k 0 → (first_at_least n ls ≤ k) × (n ≤ get_or ls (first_at_least n ls) 0)
unfolding first_at_least
first_found n k [] h = omega arith
first_found n zero (l ∷ ls) h = rw (le-leb n l h, first_at_least) (omega arith)
first_found n (suc k) (l ∷ ls) h =
    elim (dec_le n l) [
      | yes i ↦ rw (le-leb n l i, first_at_least) (omega arith)
      | no i ↦ rw (lt-leb n l (omega arith), first_at_least) (omega (arith, first_found n k ls h))
    ]

-- by one test over the whole table, which computes
limit_is_power : (k : ℕ) → k ≤ greatest_depth → get_or limits k 0 ≡ 2 ^ k
unfolding each_below
limit_is_power k h =
    eqb-true (get_or limits k 0) (2 ^ k) (each_below_at (length limits) (λ i. eqb (get_or limits i 0) (2 ^ i)) refl k (omega arith))

pub depth_greatest : (n : ℕ) → n ≤ length_limit → depth n ≤ greatest_depth
unfolding depth
depth_greatest n h = (first_found n greatest_depth limits h).0

pub depth_enough : (n : ℕ) → n ≤ length_limit → n ≤ 2 ^ depth n
unfolding depth
depth_enough n h = rw (limit_is_power (depth n) (depth_greatest n h)) at (first_found n greatest_depth limits h).1

pub depth_least : (n d : ℕ) → n ≤ length_limit → n ≤ 2 ^ d → depth n ≤ d
unfolding depth
depth_least n d h l =
    elim (dec_le d greatest_depth) [
      | yes i ↦ (first_found n d limits (rw (limit_is_power d i) l)).0
      | no i ↦ omega (arith, depth_greatest n h)
    ]
