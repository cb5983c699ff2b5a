-- The match tables of a part: document 01, "The four tables of a part".
use Rattle.std.specs.Prelude.{ℕ, suc, true, false, List, [], ◌∷◌, reverse, eqb, drop}
use Rattle.std.proofs.Math.Seq.{slice}
use Rattle.repetition.specs.Cutting.{Part, cut_of}

-- the length of the longest common prefix
unfoldable pub matched : List ℕ → List ℕ → ℕ
matched [] ys = 0
matched (x ∷ xs) [] = 0
matched (x ∷ xs) (y ∷ ys) = elim (eqb x y) [ true ↦ suc (matched xs ys) | false ↦ 0 ]

-- A table walks a text, from its first position on, and looks for a pattern's prefixes.
pub record Table : Type 0 where
  pub pattern : List ℕ
  pub walked : List ℕ
  pub first : ℕ

-- the match length at position i: the longest string starting there that is a prefix of the pattern
unfoldable pub match_at : Table → ℕ → ℕ
unfolding matched
match_at m i = matched (drop i m.walked) m.pattern

-- a string against itself: position 0 is not walked
abbrev pub itself : List ℕ → Table
itself xs = record { pattern = xs; walked = xs; first = 1 }

-- a string against another, the pattern
abbrev pub against : List ℕ → List ℕ → Table
against xs ys = record { pattern = ys; walked = xs; first = 0 }

-- the pieces u and v of a part
abbrev pub left_piece : List ℕ → Part → List ℕ
left_piece t q = slice q.from (cut_of q) t

abbrev pub right_piece : List ℕ → Part → List ℕ
right_piece t q = slice (cut_of q) q.to t

-- The four tables, in document 01's order.
abbrev pub v_itself : List ℕ → Part → Table
v_itself t q = itself (right_piece t q)

abbrev pub u_back_itself : List ℕ → Part → Table
u_back_itself t q = itself (reverse (left_piece t q))

abbrev pub v_back_against_u_back : List ℕ → Part → Table
v_back_against_u_back t q = against (reverse (right_piece t q)) (reverse (left_piece t q))

abbrev pub u_against_v : List ℕ → Part → Table
u_against_v t q = against (left_piece t q) (right_piece t q)
