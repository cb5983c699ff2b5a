-- The lines of a report's blocks, one after the other. Assumes nothing.
use Prim.Native.Nat.{ℕ, zero, suc, ◌+◌, ◌*◌, ◌^◌, ◌≤◌, ◌<◌}
use mathlib.Core.Path.{◌≡◌, refl, ap, ap₂, ◌∙◌}
use mathlib.Core.List.{List, [], ◌∷◌, ◌++◌, map, flat_map, append_assoc, append-nil}
use native.Mathlib.Omega.{arith}
use native.Mathlib.Numerals.{add-one}
use native.Mathlib.Nat.{add-zero}
use lib.Dec.{lit<}
use lib.ListN.{length, get_or, take, drop}
use lib.Seq.{take-suc}
use Rattle.std.proofs.lemmas.List.{drop-drop, get_or-drop, get_or-take}
use Rattle.std.specs.Fmt.{decimal}
use Rattle.std.specs.Simd.{first_chunks}
use Rattle.repetition.specs.Numbers.{consecutive}
use Rattle.repetition.specs.Limits.{numbers_per_block}
use Rattle.repetition.specs.Memory.{block_at, blocks_in}
use Rattle.repetition.proofs.Lists.{flat_map-append}
use Rattle.listing.specs.Output.{space, line_feed, line}
use Rattle.listing.specs.Parts.{numbers_line}
use Rattle.listing.proofs.Decimals.{number_is}

-- a block's line, number by number
pub line_is : (ns : List ℕ) → get_or ns 0 0 < 2 ^ 32 → get_or ns 1 0 < 2 ^ 32 → get_or ns 2 0 < 2 ^ 32
    → numbers_line ns ≡ (decimal (get_or ns 0 0) ++ space ∷ [])
    ++ ((decimal (get_or ns 1 0) ++ space ∷ []) ++ (decimal (get_or ns 2 0) ++ line_feed ∷ []))
unfolding line block_at
line_is ns h f l = rw (number_is (get_or ns 0 0) space h, number_is (get_or ns 1 0) space f, number_is (get_or ns 2 0) line_feed l)

pub no_line_put : (out : List ℕ) → out ≡ out ++ flat_map numbers_line []
unfolding flat_map
no_line_put out = rw append-nil

pub next_line_put : (old a b : List ℕ) (blocks : List (List ℕ)) (i : ℕ) → i < length blocks
    → a ≡ old ++ flat_map numbers_line (take i blocks) → b ≡ a ++ numbers_line (get_or blocks i [])
    → b ≡ old ++ flat_map numbers_line (take (i + 1) blocks)
unfolding flat_map
next_line_put old a b blocks i l p q = q ∙ rw (p, append_assoc, add-one i, take-suc blocks i [] l, flat_map-append, append-nil)

-- a block's numbers, taken out of a report
block_alone : (xs : List ℕ) (n : ℕ) → block_at (take numbers_per_block (drop (numbers_per_block * n) xs)) 0 ≡ block_at xs n
unfolding block_at
block_alone xs n =
    let i = numbers_per_block * n in
    rw (
      get_or-take 3 (drop i xs) 0 0 (lit< tt),
      get_or-take 3 (drop i xs) 1 0 (lit< tt),
      get_or-take 3 (drop i xs) 2 0 (lit< tt),
      get_or-drop i xs 0 0,
      get_or-drop i xs 1 0,
      get_or-drop i xs 2 0,
      add-zero i,
    )

lines_from : (k a : ℕ) (xs : List ℕ) → flat_map numbers_line (first_chunks numbers_per_block k (drop (numbers_per_block * a) xs))
    ≡ flat_map line (map (block_at xs) (consecutive a k))
unfolding consecutive flat_map
lines_from zero a xs = refl
lines_from (suc k) a xs =
    let e : numbers_per_block * a + numbers_per_block ≡ numbers_per_block * suc a = omega arith in
    ap₂ ◌++◌ (ap line (block_alone xs a)) (rw (drop-drop numbers_per_block (numbers_per_block * a) xs, e) (lines_from k (suc a) xs))

chunks_front : {A : Type 0} (size n m : ℕ) (xs : List A) → n ≤ m → take n (first_chunks size m xs) ≡ first_chunks size n xs
chunks_front size zero m xs l = refl
chunks_front size (suc n) zero xs l = absurd (omega arith)
chunks_front size (suc n) (suc m) xs l = ap (λ rest. take size xs ∷ rest) (chunks_front size n m (drop size xs) (omega arith))

-- the lines of the first blocks of a report
pub lines_in : (n m : ℕ) (xs : List ℕ) (blocks : List (List ℕ)) → blocks ≡ first_chunks numbers_per_block m xs → n ≤ m
    → flat_map numbers_line (take n blocks) ≡ flat_map line (blocks_in n xs)
unfolding blocks_in
lines_in n m xs blocks e l = rw (e, chunks_front numbers_per_block n m xs l) (lines_from n 0 xs)
