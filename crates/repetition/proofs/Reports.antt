-- What is written in a report is read back from it, and all else in it is as before. Assumes nothing.
use Prim.Native.Nat.{ℕ, suc, ◌*◌, ◌≤◌, min}
use mathlib.Core.Path.{◌≡◌, refl, ap₂}
use mathlib.Core.List.{List, [], ◌∷◌, ◌++◌, map, flat_map, append_assoc}
use native.Mathlib.Omega.{arith}
use lib.ListN.{length, take, drop, length-append, length-take, length-drop}
use lib.Seq.{take_all, drop_at, get_or-append_seam, get_or-append-add}
use Rattle.repetition.specs.Numbers.{consecutive}
use Rattle.repetition.specs.Blocks.{Block}
use Rattle.repetition.specs.Limits.{numbers_per_block}
use Rattle.repetition.specs.Memory.{numbers, room, over, written, block_at, blocks_in}

pub length-numbers : (bs : List Block) → length (flat_map numbers bs) ≡ numbers_per_block * length bs
unfolding flat_map
length-numbers [] = refl
length-numbers (b ∷ bs) = omega (arith, length-numbers bs)

-- a block is read that comes after n others, whose numbers are xs
one_read : (xs : List ℕ) (n : ℕ) (b : Block) (rest : List ℕ) → length xs ≡ numbers_per_block * n
    → block_at (xs ++ (numbers b ++ rest)) n ≡ b
unfolding block_at
one_read xs n b rest e =
    let ys = numbers b ++ rest in
    rw (← e, get_or-append-add xs ys 1 0, get_or-append-add xs ys 2 0, get_or-append_seam)

blocks_read : (xs : List ℕ) (n : ℕ) (bs : List Block) (rest : List ℕ) → length xs ≡ numbers_per_block * n
    → map (block_at (xs ++ (flat_map numbers bs ++ rest))) (consecutive n (length bs)) ≡ bs
unfolding consecutive flat_map
blocks_read xs n [] rest e = refl
blocks_read xs n (b ∷ bs) rest e =
    ap₂ ◌∷◌ (one_read xs n b (flat_map numbers bs ++ rest) e)
    (rw append_assoc at (blocks_read (xs ++ numbers b) (suc n) bs rest (simp length-append (omega arith))))

front_read : (bs : List Block) (rest : List ℕ) → blocks_in (length bs) (flat_map numbers bs ++ rest) ≡ bs
unfolding blocks_in
front_read bs rest = blocks_read [] 0 bs rest refl

module _ (bs : List Block) (report : List ℕ) where
  -- how many of the blocks the report has room for
  abbrev pub fitting : ℕ
  fitting = min (room report) (length bs)

  -- A report holds the leading blocks that fit, and is as before beyond them.
  pub written_is : written bs report ≡ flat_map numbers (take (room report) bs) ++ drop (numbers_per_block * fitting) report
  unfolding written over
  written_is = rw (length-numbers, length-take)

  pub written_length : length (written bs report) ≡ length report
  unfolding written over room
  written_length = simp (length-append, length-drop, length-numbers, length-take) (omega arith)

  pub leading_read : blocks_in fitting (written bs report) ≡ take (room report) bs
  leading_read = rw (written_is, ← length-take (room report) bs) (front_read (take (room report) bs) _)

  pub beyond_kept : drop (numbers_per_block * fitting) (written bs report) ≡ drop (numbers_per_block * fitting) report
  beyond_kept =
      rw written_is
      (drop_at (flat_map numbers (take (room report) bs)) _ (numbers_per_block * fitting) (rw (length-numbers, length-take)))

  -- A list that fits is read back from the report.
  pub list_read : length bs ≤ room report → blocks_in (length bs) (written bs report) ≡ bs
  list_read fits = let all : fitting ≡ length bs = omega arith in rw (all, take_all) at leading_read
