-- The blocks of a part as they are read from its match tables: document 01, "The four tables of a part". That they are the part's
-- blocks is law 3; a reader need not believe these formulas.
use Rattle.std.specs.Prelude.{ℕ, ◌+◌, ◌-◌, min, cond, List, [], ◌∷◌, leb, length}
use Rattle.repetition.specs.Cutting.{Part, Class, right, left, cut, cut_of}
use Rattle.repetition.specs.Blocks.{Block}
use Rattle.repetition.specs.Tables.{match_at, left_piece, right_piece}
use Rattle.repetition.specs.Tables.{v_itself, u_back_itself, v_back_against_u_back, u_against_v}

-- Letters agree with those p places on for `back` places before d and for `on` places from d on.
-- So the starts of half p run from d - back to d + on - p, if there are any.
unfoldable pub around : ℕ → ℕ → ℕ → ℕ → List Block
around d p back on =
    cond (leb p (back + on)) (record { half = p; first = d - back; last = d + on - p } ∷ []) []

-- The block of a class and half, read from the first and third table or from the second and fourth.
-- A right repetition ends at most 2p - 1 letters after the cut, a left one starts at most 2p - 1 before it.
unfoldable pub read_block : List ℕ → Class → Part → ℕ → List Block
unfolding cut match_at around
read_block t right q p =
    around (cut_of q) p
    (match_at (v_back_against_u_back t q) (length (right_piece t q) - p))
    (min (p - 1) (match_at (v_itself t q) p))
read_block t left q p =
    around (cut_of q - p) p
    (min (p - 1) (match_at (u_back_itself t q) p))
    (min (p - 1) (match_at (u_against_v t q) (length (left_piece t q) - p)))

-- the greatest half that a class can have in a part: |v|, and |u| - 1
unfoldable pub greatest_half : List ℕ → Class → Part → ℕ
unfolding cut
greatest_half t right q = length (right_piece t q)
greatest_half t left q = length (left_piece t q) - 1
