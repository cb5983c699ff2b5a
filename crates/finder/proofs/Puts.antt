-- What putting blocks does to report and tally. Assumes nothing.
use Prim.Native.Nat.{ℕ, suc, ◌+◌, ◌*◌}
use mathlib.Core.Path.{◌≡◌, refl, ◌∙◌}
use mathlib.Core.Bool.{Bool, true, false, cond}
use mathlib.Core.List.{List, [], ◌∷◌}
use native.Mathlib.Omega.{arith}
use lib.Dec.{ltb}
use lib.ListN.{length}
use lib.Seq.{sets, length-sets}
use Rattle.repetition.specs.Blocks.{Block}
use Rattle.repetition.specs.Limits.{numbers_per_block}
use Rattle.repetition.specs.Memory.{numbers, room}
use Rattle.finder.specs.Kept.{Kept, counted, with_block, put, put_all}

length-with_block : (n : ℕ) (b : Block) (report : List ℕ) → length (with_block n b report) ≡ length report
unfolding with_block
length-with_block n b report = go (ltb n (room report))
  where
    go : (fits : Bool) → length (cond fits (sets report (numbers_per_block * n) (numbers b)) report) ≡ length report
    go true = length-sets report (numbers_per_block * n) (numbers b)
    go false = refl

-- the report keeps its length
pub length-put_all : (k : Kept) (bs : List Block) → length (put_all k bs).report ≡ length k.report
unfolding put
length-put_all k [] = refl
length-put_all k (b ∷ bs) = length-put_all (put k b) bs ∙ length-with_block k.tally.blocks b k.report

-- each block is counted
pub blocks_put_all : (k : Kept) (bs : List Block) → (put_all k bs).tally.blocks ≡ k.tally.blocks + length bs
unfolding put counted
blocks_put_all k [] = omega arith
blocks_put_all k (b ∷ bs) = blocks_put_all (put k b) bs ∙ one_more k.tally.blocks (length bs)
  where
    one_more : (m n : ℕ) → m + 1 + n ≡ m + suc n
    one_more m n = omega arith

pub comparisons_put_all : (k : Kept) (bs : List Block) → (put_all k bs).tally.comparisons ≡ k.tally.comparisons
unfolding put counted
comparisons_put_all k [] = refl
comparisons_put_all k (b ∷ bs) = comparisons_put_all (put k b) bs
