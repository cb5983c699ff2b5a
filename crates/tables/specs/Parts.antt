-- The four tables of a part in the work space: document 01, "The four tables of a part".
use Rattle.std.specs.Prelude.{ℕ, ◌+◌, ◌-◌, ◌*◌, ◌^◌, ◌≤◌, ◌<◌, List, length}
use Rattle.repetition.specs.Cutting.{Part, cut_of}
use Rattle.repetition.specs.Tables.{v_itself, u_back_itself, v_back_against_u_back, u_against_v}
use Rattle.repetition.specs.Limits.{length_limit}
use Rattle.tables.specs.declared.walk.Piece.{Piece}
use Rattle.tables.specs.Walks.{with_table}

-- the part from a place up to another
abbrev pub part : ℕ → ℕ → Part
part from to = record { from = from; to = to }

-- how many letters a part has, its left piece u, and its right piece v
abbrev pub letters : Part → ℕ
letters q = q.to - q.from

abbrev pub letters_u : Part → ℕ
letters_u q = cut_of q - q.from

abbrev pub letters_v : Part → ℕ
letters_v q = q.to - cut_of q

-- its pieces, as they lie in the text
abbrev pub piece_u : Part → Piece
piece_u q = record { from = q.from; size = letters_u q }

abbrev pub piece_v : Part → Piece
piece_v q = record { from = cut_of q; size = letters_v q }

-- Both pieces have a letter, and the part ends within the limit.
pub record WellCut (q : Part) : Type 0 where
  pub u_nonempty : q.from < cut_of q
  pub v_nonempty : cut_of q < q.to
  pub limit : q.to ≤ length_limit

-- A part of m letters takes the first 2m numbers: v against itself from 0 on, u backward against itself from |v| on,
-- v backward against u backward from m on, and u against v from m + |v| on. All else is as before.
unfoldable pub with_tables : List ℕ → Part → List ℕ → List ℕ
unfolding with_table
with_tables t q work =
    with_table (u_against_v t q) (letters q + letters_v q)
    (with_table (v_back_against_u_back t q) (letters q)
    (with_table (u_back_itself t q) (letters_v q) (with_table (v_itself t q) 0 work)))

-- A part of two letters or more lies in a text within the limit, and its tables have room in the work space.
pub record PartPlaced (t work : List ℕ) (q : Part) : Type 0 where
  pub wide : 2 ≤ letters q
  pub inside : q.to ≤ length t
  pub limit : length t ≤ length_limit
  pub room : 2 * letters q ≤ length work

-- What the filling of its tables needs besides: a count that does not wrap.
pub record CanFillPart (t work : List ℕ) (q : Part) (count : ℕ) : Type 0 where
  pub placed : PartPlaced t work q
  pub fits : count + 4 * letters q < 2 ^ 32
