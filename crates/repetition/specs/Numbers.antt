-- Small words that the other files use: lists of numbers, tests over them, sums and counts.
use Rattle.std.specs.Prelude.{ℕ, zero, suc, ◌+◌, Bool, true, false, ◌&&◌, cond}
use mathlib.Core.List.{List, [], ◌∷◌, flat_map}

-- 1 for a test that passes, 0 for one that fails
abbrev pub one_if : Bool → ℕ
one_if true = 1
one_if false = 0

-- the test passes at every number below n
unfoldable pub each_below : ℕ → (ℕ → Bool) → Bool
each_below zero f = true
each_below (suc n) f = each_below n f && f n

-- the n numbers from a on: a, a + 1, ..
unfoldable pub consecutive : ℕ → ℕ → List ℕ
consecutive a zero = []
consecutive a (suc n) = a ∷ consecutive (suc a) n

-- those of a list that pass a test
unfoldable pub those : (ℕ → Bool) → List ℕ → List ℕ
unfolding flat_map
those f = flat_map (λ x. cond (f x) (x ∷ []) [])

-- the last of the list x ∷ xs
unfoldable pub last_of : ℕ → List ℕ → ℕ
last_of x [] = x
last_of x (y ∷ ys) = last_of y ys

module _ {A : Type 0} where
  -- f summed over a list
  unfoldable pub total : (A → ℕ) → List A → ℕ
  total f [] = 0
  total f (x ∷ xs) = f x + total f xs

  -- how many of a list pass a test
  unfoldable pub how_many : (A → Bool) → List A → ℕ
  unfolding total
  how_many f = total (λ x. one_if (f x))
