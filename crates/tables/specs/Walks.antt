-- A match table in the work space: which table it is, where it stands, and what its filling promises. The letters that are lent are
-- s throughout.
use Rattle.std.specs.Prelude.{ℕ, ◌+◌, ◌-◌, ◌*◌, ◌^◌, ◌≤◌, ◌<◌, min, ◌≡◌, List, map, length, get_or, set}
use Rattle.std.proofs.Math.Seq.{paste}
use Rattle.repetition.specs.Numbers.{consecutive}
use Rattle.repetition.specs.Tables.{Table, match_at, itself}
use Rattle.repetition.specs.Comparisons.{Walk, table_cost}
use Rattle.repetition.specs.Limits.{length_limit}
use Rattle.tables.specs.declared.walk.Piece.{Piece}
use Rattle.tables.specs.declared.walk.TableAt.{TableAt}
use Rattle.tables.specs.declared.walk.Walk as code
use Rattle.tables.specs.Letters.{read}

-- ---- which table

-- a piece against itself: the table is its own
abbrev pub itself_at : Piece → ℕ → TableAt
itself_at p at = record { pattern = p; walked = p; first = 1; own = at; at = at }

-- a piece against another, the pattern, whose own table stands elsewhere
abbrev pub against_at : Piece → Piece → ℕ → ℕ → TableAt
against_at walked pattern own at = record { pattern = pattern; walked = walked; first = 0; own = own; at = at }

-- the table that is meant, as the definitions have it
abbrev pub table_of : List ℕ → TableAt → Table
table_of s a = record { pattern = read s a.pattern; walked = read s a.walked; first = a.first }

-- the code's walk, as the counting rule has it
abbrev pub walk_of : code.Walk → Walk
walk_of w = record { k = w.k; e = w.e; cost = w.cost }

-- a walk whose record knows the first letters of position i to be the same
abbrev pub knowing : ℕ → ℕ → ℕ → Walk
knowing i known cost = record { k = i; e = i + known; cost = cost }

-- how many letters a scan at position i may pass
abbrev pub room_of : TableAt → ℕ → ℕ
room_of a i = min (a.walked.size - i) a.pattern.size

-- ---- where it stands: the match length of position i is the number at + i of the work space

-- the match lengths of a table, from its first position on
unfoldable pub lengths : Table → List ℕ
unfolding match_at consecutive
lengths m = map (match_at m) (consecutive m.first (length m.walked - m.first))

-- a work space with the match length of one position in it, and all else as before
abbrev pub with_entry : List ℕ → TableAt → ℕ → List ℕ → List ℕ
with_entry s a i work = set work (a.at + i) (match_at (table_of s a) i)

-- a work space with the match lengths of a whole table in it, and all else as before
unfoldable pub with_table : Table → ℕ → List ℕ → List ℕ
unfolding lengths
with_table m at work = paste work (at + m.first) (lengths m) (length m.walked - m.first)

-- ---- what its functions need

-- Both pieces lie in the letters, and the pattern has a letter.
pub record InLetters (s : List ℕ) (a : TableAt) : Type 0 where
  pub pattern_nonempty : 1 ≤ a.pattern.size
  pub pattern_to : a.pattern.from + a.pattern.size ≤ length s
  pub walked_first : a.first ≤ a.walked.size
  pub walked_to : a.walked.from + a.walked.size ≤ length s

-- The table's place and its pattern's lie in the work space, and the letters are those of a text within the limit.
pub record Placed (s work : List ℕ) (a : TableAt) : Type 0 where
  pub pieces : InLetters s a
  pub own_room : a.own + a.pattern.size ≤ length work
  pub room : a.at + a.walked.size ≤ length work
  pub limit : length s ≤ 2 * length_limit

-- A scan at position i: the record's letters are the same, and the count does not wrap.
pub record CanScanAt (s work : List ℕ) (a : TableAt) (i : ℕ) (w : Walk) : Type 0 where
  pub placed : Placed s work a
  pub inside : i < a.walked.size
  pub same : w.e - i ≤ match_at (table_of s a) i
  pub fits : w.cost + a.walked.size < 2 ^ 32

-- The number in the work space for position x of the pattern's own table is its match length.
abbrev pub Stands : List ℕ → List ℕ → TableAt → ℕ → Type 0
Stands s work a x = get_or work (a.own + x) 0 ≡ match_at (itself (table_of s a).pattern) x

-- The pattern's own table is the one to be filled, or it stands before that one already.
pub data Own (s work : List ℕ) (a : TableAt) : Type 0 where
  this : a.pattern ≡ a.walked → a.own ≡ a.at → a.first ≡ 1 → Own s work a
  earlier : a.own + a.pattern.size ≤ a.at → ((x : ℕ) → 1 ≤ x → x < a.pattern.size → Stands s work a x) → Own s work a

-- The filling of a table: its pattern's own is this one or stands already, and the count does not wrap.
pub record CanFill (s work : List ℕ) (a : TableAt) (count : ℕ) : Type 0 where
  pub placed : Placed s work a
  pub own : Own s work a
  pub fits : count + 2 * a.walked.size < 2 ^ 32

-- ---- what its filling promises: the count given and the one handed back, and the work space as it is left

pub record Fills (s work : List ℕ) (a : TableAt) (count r : ℕ) (work_left : List ℕ) : Type 0 where
  pub counts : r ≡ count + table_cost (table_of s a)
  pub leaves_work : work_left ≡ with_table (table_of s a) a.at work
