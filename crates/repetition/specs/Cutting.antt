-- How a text is cut: document 01, "How the text is cut".
use Rattle.std.specs.Prelude.{ℕ, zero, suc, ◌+◌, ◌*◌, ◌-◌, ◌/◌, Bool, true, false, ◌&&◌, List, [], ◌∷◌, ◌++◌, leb, ltb}

-- A part: the letters from a place up to another, which is not in it.
pub record Part : Type 0 where
  pub from : ℕ
  pub to : ℕ

-- where the part from a up to b is cut
unfoldable pub cut : ℕ → ℕ → ℕ
cut a b = a + (b - a + 1) / 2

-- the cut of a part
abbrev pub cut_of : Part → ℕ
cut_of q = cut q.from q.to

-- The parts of two letters or more, each before its left piece's parts, and those before its right piece's.
-- The first number bounds how deep the cutting goes.
unfoldable pub parts_in : ℕ → ℕ → ℕ → List Part
parts_in zero a b = []
parts_in (suc n) a b =
    elim (leb 2 (b - a)) [
      | true ↦ record { from = a; to = b } ∷ (parts_in n a (cut a b) ++ parts_in n (cut a b) b)
      | false ↦ []
    ]

-- A part of n letters is cut fewer than n times deep.
unfoldable pub parts : ℕ → ℕ → List Part
unfolding parts_in
parts a b = parts_in (b - a) a b

-- the start s and half p belong to the part: wholly in it, and across its cut
unfoldable pub belongs : Part → ℕ → ℕ → Bool
unfolding cut
belongs q s p =
    leb q.from s && leb (s + 2 * p) q.to && ltb s (cut_of q) && ltb (cut_of q) (s + 2 * p)

-- A repetition is right or left. Its centre at the cut makes it right only.
pub data Class : Type 0 where
  right left : Class

unfoldable pub is : Class → Part → ℕ → ℕ → Bool
unfolding cut
is right q s p = leb (cut_of q) (s + p)
is left q s p = ltb (s + p) (cut_of q)
