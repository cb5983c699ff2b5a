-- The letters that are lent: a text's, and after them the same letters reversed. A piece of the text read backward is then a
-- piece of the letters.
use Rattle.std.specs.Prelude.{ℕ, ◌+◌, ◌-◌, ◌/◌, ◌≡◌, List, ◌++◌, reverse, length, take}
use Rattle.std.proofs.Math.Seq.{slice}
use Rattle.tables.specs.declared.walk.Piece.{Piece}

-- the letters of a text
unfoldable pub both_ways : List ℕ → List ℕ
both_ways t = t ++ reverse t

-- the text that is lent by its letters: their first half
unfoldable pub text_of : List ℕ → List ℕ
text_of s = take (length s / 2) s

-- These are the letters of a text.
abbrev pub BothWays : List ℕ → Type 0
BothWays s = s ≡ both_ways (text_of s)

-- the letters of a piece
unfoldable pub read : List ℕ → Piece → List ℕ
read s p = slice p.from (p.from + p.size) s

-- a piece of the text read backward, where the letters end at a place
abbrev pub backward_at : Piece → ℕ → Piece
backward_at p end = record { from = end - (p.from + p.size); size = p.size }
