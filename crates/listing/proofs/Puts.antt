-- One thing is put into a lent buffer after another, and so the lines of a report's blocks. No contract of src/ speaks of it: an output
-- takes what is put into it at its end. Assumes nothing.
use Prim.Native.Nat.{ℕ, suc, ◌+◌, ◌*◌, ◌≤◌, ◌<◌}
use mathlib.Core.Path.{◌≡◌, refl, ap, ◌∙◌}
use mathlib.Core.List.{List, [], ◌∷◌, ◌++◌, map-append, flat_map, append-nil}
use native.Mathlib.Nat.{zero-add, add-zero, add-suc, suc-add, add_assoc}
use native.Mathlib.Numerals.{add-one}
use native.Mathlib.Omega.{arith}
use lib.ListN.{length, get_or, take, set, length-append}
use lib.Seq.{take_all, take-suc, sets, length-sets}
use Rattle.repetition.specs.Numbers.{consecutive}
use Rattle.repetition.specs.Limits.{numbers_per_block}
use Rattle.repetition.specs.Memory.{block_at, blocks_in}
use Rattle.repetition.proofs.Lists.{flat_map-append, consecutive-append}
use Rattle.listing.specs.Output.{line}
use Rattle.listing.specs.Parts.{line_room}

-- a buffer has room for n letters from a place on
pub record Room (buffer : List ℕ) (at n : ℕ) : Type 0 where
  pub fits : at + n ≤ length buffer

-- letters, n at most, are put into a buffer from a place on: where they end, and the buffer as it is left, the rest as before
pub record Put (buffer : List ℕ) (at n : ℕ) (letters : List ℕ) (end : ℕ) (left : List ℕ) : Type 0 where
  pub short : length letters ≤ n
  pub ends : end ≡ at + length letters
  pub leaves : left ≡ sets buffer at letters

sets-append : (xs ys b : List ℕ) (i : ℕ) → sets b i (xs ++ ys) ≡ sets (sets b i xs) (i + length xs) ys
sets-append [] ys b i = rw (add-zero i)
sets-append (x ∷ xs) ys b i = rw (add-suc i (length xs), ← suc-add i (length xs)) (sets-append xs ys (set b i x) (suc i))

-- room for fewer letters
pub room_less : {b : List ℕ} {i m n : ℕ} → m ≤ n → Room b i n → Room b i m
room_less l room = record { fits = omega arith }

module _ {a : List ℕ} {i m : ℕ} {xs : List ℕ} {j : ℕ} {b : List ℕ} (put : Put a i m xs j b) where
  pub put_size : length b ≡ length a
  put_size = ap length put.leaves ∙ length-sets a i xs

  -- the room that is left after it
  pub room_left : {n : ℕ} → Room a i (m + n) → Room b j n
  room_left room = record { fits = omega (arith, put_size) }

  pub put_more : {n : ℕ} {ys : List ℕ} {k : ℕ} {c : List ℕ} → Put b j n ys k c → Put a i (m + n) (xs ++ ys) k c
  put_more {ys = ys} more =
      record {
        short = rw length-append (omega arith);
        ends = rw length-append (omega arith);
        leaves = more.leaves ∙ rw (put.leaves, put.ends, sets-append xs ys a i);
      }

  pub put_wider : {n : ℕ} → m ≤ n → Put a i n xs j b
  put_wider l = record { short = omega arith; ends = put.ends; leaves = put.leaves }

pub put_nothing : (b : List ℕ) (i : ℕ) → Put b i 0 [] i b
put_nothing b i = record { short = omega arith; ends = omega arith; leaves = refl }

-- one letter is stored
pub put_letter : (b : List ℕ) (i x : ℕ) → Put b i 1 (x ∷ []) (i + 1) (set b i x)
put_letter b i x = record { short = omega arith; ends = refl; leaves = refl }

-- ---- the loop that puts letters

pub record Putting (b : List ℕ) (at : ℕ) (letters : List ℕ) (i : ℕ) (c : List ℕ) : Type 0 where
  pub put : Put b at i (take i letters) (at + i) c
  pub inside : i ≤ length letters

pub none_put : (b : List ℕ) (at : ℕ) (letters : List ℕ) → Putting b at letters 0 b
none_put b at letters = record { put = rw (add-zero at) (put_nothing b at); inside = omega arith }

module _ {b : List ℕ} {at : ℕ} {letters : List ℕ} {i : ℕ} {c : List ℕ} (p : Putting b at letters i c) where
  pub next_put : i < length letters → Putting b at letters (i + 1) (set c (at + i) (get_or letters i 0))
  next_put l =
      record {
        put =
            rw (← add_assoc at i 1, add-one i, take-suc letters i 0 l, ← add-one i)
            (put_more p.put (put_letter c (at + i) (get_or letters i 0)));
        inside = omega arith;
      }

  pub all_put : length letters ≤ i → Put b at (length letters) letters (at + i) c
  all_put l = put_wider (rw (take_all i letters l) at p.put) p.inside

-- ---- the loop that puts lines

-- the lines of the first n blocks
abbrev lines : List ℕ → ℕ → List ℕ
lines report n = flat_map line (blocks_in n report)

next_line : (report : List ℕ) (n : ℕ) → lines report (n + 1) ≡ lines report n ++ line (block_at report n)
unfolding blocks_in consecutive flat_map
next_line report n = rw (consecutive-append 0 n 1, zero-add n, map-append, flat_map-append, append-nil) refl

-- the first n lines are put
pub record PuttingLines (b : List ℕ) (at : ℕ) (report : List ℕ) (blocks n end : ℕ) (c : List ℕ) : Type 0 where
  pub put : Put b at (line_room * n) (lines report n) end c
  pub inside : n ≤ blocks

pub no_line_put : (b : List ℕ) (at : ℕ) (report : List ℕ) (blocks : ℕ) → PuttingLines b at report blocks 0 at b
unfolding blocks_in flat_map
no_line_put b at report blocks = record { put = put_nothing b at; inside = omega arith }

module _ {b : List ℕ} {at : ℕ} {report : List ℕ} {blocks n end : ℕ} {c : List ℕ} (p : PuttingLines b at report blocks n end c)
    (l : n < blocks) where
  pub line_fits : Room b at (line_room * blocks) → Room c end line_room
  line_fits room = room_left p.put (room_less (omega arith) room)

  pub next_line_put : {r : ℕ} {d : List ℕ} → Put c end line_room (line (block_at report n)) r d
      → PuttingLines b at report blocks (n + 1) r d
  next_line_put q =
      record { put = rw (next_line report n) (put_wider (put_more p.put q) (omega arith)); inside = omega arith }

  pub block_inside : numbers_per_block * blocks ≤ length report → numbers_per_block * (n + 1) ≤ length report
  block_inside m = omega (arith, l)

-- all lines are put
pub lines_put : {b : List ℕ} {at : ℕ} {report : List ℕ} {blocks n end : ℕ} {c : List ℕ} → PuttingLines b at report blocks n end c
    → blocks ≤ n → Put b at (line_room * blocks) (flat_map line (blocks_in blocks report)) end c
lines_put {blocks = blocks} {n = n} p l = let e : n ≡ blocks = omega (arith, p.inside) in rw e at p.put
