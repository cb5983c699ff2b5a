-- The starred examples of document 01, "Examples", in one table: what is computed beside what the document says.
use Rattle.std.specs.Prelude.{ℕ, ◌*◌, length, replicate}
use mathlib.Core.List.{List, [], ◌∷◌, ◌++◌, flat_map}
use Rattle.repetition.specs.Cutting.{Class, right, left}
use Rattle.repetition.specs.Blocks.{class_blocks, list_of}
use Rattle.repetition.specs.Comparisons.{comparisons}
use Rattle.repetition.specs.Outcomes.{Reply, listing, place}
use Rattle.repetition.specs.Memory.{numbers}

pub record Example : Type 0 where
  pub computed : List ℕ
  pub document : List ℕ

-- the numbers of a text's blocks
unfoldable pub blocks : List ℕ → List ℕ
unfolding list_of flat_map
blocks t = flat_map numbers (list_of t)

-- the numbers of those of one class across the text's first cut
unfoldable pub across : Class → List ℕ → List ℕ
unfolding class_blocks flat_map
across κ t = flat_map numbers (class_blocks t κ (record { from = 0; to = length t }))

-- a reply: its number, then its values
abbrev pub reply : Reply → List ℕ
reply r = r.number ∷ r.values

-- the reply and the report of a text listed with just enough work space into a report of n numbers that are all 7
unfoldable pub into : List ℕ → ℕ → List ℕ
unfolding listing
into t n = let o = listing t (replicate (2 * length t) 9) (replicate n 7) in reply o.reply ++ o.report

-- the bytes of "a", "b" and "c"
abbrev pub a : ℕ
a = 97

abbrev pub b : ℕ
b = 98

abbrev pub c : ℕ
c = 99

abbrev pub aa : List ℕ
aa = a ∷ a ∷ []

abbrev pub ab : List ℕ
ab = a ∷ b ∷ []

abbrev pub aba : List ℕ
aba = ab ++ a ∷ []

abbrev pub abab : List ℕ
abab = ab ++ ab

abbrev pub aaaa : List ℕ
aaaa = aa ++ aa

abbrev pub ababc : List ℕ
ababc = abab ++ c ∷ []

abbrev pub abcabcab : List ℕ
abcabcab = ab ++ c ∷ ab ++ c ∷ ab

abbrev row : List ℕ → List ℕ → Example
row x y = record { computed = x; document = y }

unfoldable pub starred : List Example
unfolding blocks across into comparisons place
starred =
    -- the list and its comparisons
    row (blocks []) []
    ∷ row (comparisons [] ∷ []) (0 ∷ [])
    ∷ row (blocks (a ∷ [])) []
    ∷ row (comparisons (a ∷ []) ∷ []) (0 ∷ [])
    ∷ row (blocks aa) (1 ∷ 0 ∷ 0 ∷ [])
    ∷ row (comparisons aa ∷ []) (2 ∷ [])
    ∷ row (blocks ab) []
    ∷ row (comparisons ab ∷ []) (2 ∷ [])
    ∷ row (blocks aba) []
    ∷ row (comparisons aba ∷ []) (6 ∷ [])
    ∷ row (blocks abab) (2 ∷ 0 ∷ 0 ∷ [])
    ∷ row (across right abab) (2 ∷ 0 ∷ 0 ∷ [])
    ∷ row (across left abab) []
    ∷ row (comparisons abab ∷ []) (10 ∷ [])
    ∷ row (blocks aaaa) (1 ∷ 1 ∷ 1 ∷ 2 ∷ 0 ∷ 0 ∷ 1 ∷ 0 ∷ 0 ∷ 1 ∷ 2 ∷ 2 ∷ [])
    ∷ row (comparisons aaaa ∷ []) (10 ∷ [])
    ∷ row (blocks ababc) (2 ∷ 0 ∷ 0 ∷ [])
    ∷ row (across right ababc) []
    ∷ row (across left ababc) (2 ∷ 0 ∷ 0 ∷ [])
    ∷ row (comparisons ababc ∷ []) (17 ∷ [])
    ∷ row (blocks abcabcab) (3 ∷ 1 ∷ 2 ∷ 3 ∷ 0 ∷ 0 ∷ [])
    -- "aaaa" into reports of 11, 12 and 7 numbers: reply, K, C, report
    ∷ row (into aaaa 11) (3 ∷ 4 ∷ 10 ∷ 1 ∷ 1 ∷ 1 ∷ 2 ∷ 0 ∷ 0 ∷ 1 ∷ 0 ∷ 0 ∷ 7 ∷ 7 ∷ [])
    ∷ row (into aaaa 12) (0 ∷ 4 ∷ 10 ∷ 1 ∷ 1 ∷ 1 ∷ 2 ∷ 0 ∷ 0 ∷ 1 ∷ 0 ∷ 0 ∷ 1 ∷ 2 ∷ 2 ∷ [])
    ∷ row (into aaaa 7) (3 ∷ 4 ∷ 10 ∷ 1 ∷ 1 ∷ 1 ∷ 2 ∷ 0 ∷ 0 ∷ 7 ∷ [])
    -- place tests in "abab": start, half
    ∷ row (reply (place abab 0 2)) (0 ∷ 1 ∷ [])
    ∷ row (reply (place abab 1 1)) (0 ∷ 0 ∷ [])
    ∷ row (reply (place abab 1 2)) (4 ∷ [])
    ∷ row (reply (place abab 0 0)) (4 ∷ [])
    ∷ []
