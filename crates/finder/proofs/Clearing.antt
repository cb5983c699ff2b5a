-- Work space that is cleared number by number. Assumes nothing.
use Prim.Native.Nat.{ℕ, zero, suc, ◌+◌, ◌≤◌, ◌<◌}
use mathlib.Core.Path.{◌≡◌, refl, ap, ◌∙◌}
use mathlib.Core.List.{List, [], ◌∷◌, ◌++◌, append-nil}
use native.Mathlib.Omega.{arith}
use native.Mathlib.Numerals.{add-one}
use lib.ListN.{length, set, drop, replicate, length-append, length-replicate, length-drop, drop_of_length-le}

-- work space with its first i numbers 0
abbrev pub clear_to : ℕ → List ℕ → List ℕ
clear_to i work = replicate i 0 ++ drop i work

pub length-clear_to : (i : ℕ) (work : List ℕ) → i ≤ length work → length (clear_to i work) ≡ length work
length-clear_to i work l = rw (length-append, length-replicate, length-drop) (omega arith)

pub clear_next : (i : ℕ) (work : List ℕ) → i < length work → set (clear_to i work) i 0 ≡ clear_to (i + 1) work
clear_next i work l = go i work l ∙ rw add-one
  where
    go : (i : ℕ) (work : List ℕ) → i < length work → set (clear_to i work) i 0 ≡ clear_to (suc i) work
    go i [] l = absurd (omega arith)
    go zero (x ∷ work) l = refl
    go (suc i) (x ∷ work) l = ap (λ (r : List ℕ). 0 ∷ r) (go i work (omega arith))

pub clear_all : (i : ℕ) (work : List ℕ) → length work ≡ i → clear_to i work ≡ replicate (length work) 0
clear_all i work e = rw (drop_of_length-le work {i = i} (omega arith), append-nil, e)
