-- The limits, the depth of a length and the room a list may need: document 01, "Sizes".
use Rattle.std.specs.Prelude.{ℕ, suc, ◌*◌, true, false, List, [], ◌∷◌, leb}

abbrev pub length_limit : ℕ
length_limit = 16_384

abbrev pub greatest_depth : ℕ
greatest_depth = 14

abbrev pub numbers_per_block : ℕ
numbers_per_block = 3

-- the fifteen limits
abbrev pub limits : List ℕ
limits = 1 ∷ 2 ∷ 4 ∷ 8 ∷ 16 ∷ 32 ∷ 64 ∷ 128 ∷ 256 ∷ 512 ∷ 1024 ∷ 2048 ∷ 4096 ∷ 8192 ∷ 16384 ∷ []

-- the place of the first number of a list that is at least n
unfoldable pub first_at_least : ℕ → List ℕ → ℕ
first_at_least n [] = 0
first_at_least n (l ∷ ls) = elim (leb n l) [ true ↦ 0 | false ↦ suc (first_at_least n ls) ]

unfoldable pub depth : ℕ → ℕ
unfolding first_at_least
depth n = first_at_least n limits

-- blocks that a list of a text of n letters may need
unfoldable pub room_for : ℕ → ℕ
unfolding depth
room_for n = n * depth n
