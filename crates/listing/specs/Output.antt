-- What the listing program prints for a text: document 01, "Examples". A letter is its byte.
use Rattle.std.specs.Prelude.{ℕ, zero, suc, ◌+◌, ◌/◌, ◌%◌, true, false, leb, ltb, length}
use mathlib.Core.List.{List, [], ◌∷◌, ◌++◌, flat_map}
use Rattle.repetition.specs.Blocks.{Block, list_of}
use Rattle.repetition.specs.Comparisons.{comparisons}

-- bytes that an input may have, and blocks that the report has room for
abbrev pub text_limit : ℕ
text_limit = 4_096

abbrev pub block_limit : ℕ
block_limit = 2_000

abbrev pub space : ℕ
space = 32

abbrev pub line_feed : ℕ
line_feed = 10

-- "repetitions "
abbrev pub repetitions_word : List ℕ
repetitions_word = 114 ∷ 101 ∷ 112 ∷ 101 ∷ 116 ∷ 105 ∷ 116 ∷ 105 ∷ 111 ∷ 110 ∷ 115 ∷ 32 ∷ []

-- "comparisons "
abbrev pub comparisons_word : List ℕ
comparisons_word = 99 ∷ 111 ∷ 109 ∷ 112 ∷ 97 ∷ 114 ∷ 105 ∷ 115 ∷ 111 ∷ 110 ∷ 115 ∷ 32 ∷ []

-- "refused 1" and a line feed
abbrev pub refused_1 : List ℕ
refused_1 = 114 ∷ 101 ∷ 102 ∷ 117 ∷ 115 ∷ 101 ∷ 100 ∷ 32 ∷ 49 ∷ 10 ∷ []

-- "refused 3 blocks "
abbrev pub refused_3_word : List ℕ
refused_3_word =
    114 ∷ 101 ∷ 102 ∷ 117 ∷ 115 ∷ 101 ∷ 100 ∷ 32 ∷ 51 ∷ 32 ∷ 98 ∷ 108 ∷ 111 ∷ 99 ∷ 107 ∷ 115 ∷ 32 ∷ []

-- the letter of a digit: that of "0" is 48
abbrev pub digit : ℕ → List ℕ
digit d = (48 + d) ∷ []

-- a number of at most k digits in decimal, without leading zeros
unfoldable pub spelled : ℕ → ℕ → List ℕ
spelled zero n = []
spelled (suc k) n = elim (ltb n 10) [ true ↦ digit n | false ↦ spelled k (n / 10) ++ digit (n % 10) ]

-- the numbers here have at most ten digits
unfoldable pub decimal : ℕ → List ℕ
unfolding spelled
decimal = spelled 10

-- a number and the letter after it
unfoldable pub number : ℕ → ℕ → List ℕ
unfolding decimal
number n letter = decimal n ++ (letter ∷ [])

-- the line of a block: half, first start, last start
unfoldable pub line : Block → List ℕ
unfolding number
line b = number b.half space ++ (number b.first space ++ number b.last line_feed)

unfoldable pub header : ℕ → ℕ → List ℕ
unfolding number
header k c = (repetitions_word ++ number k space) ++ (comparisons_word ++ number c line_feed)

-- one header and one line for each block
unfoldable pub shown : List ℕ → List ℕ
unfolding header line list_of comparisons flat_map
shown t = header (length (list_of t)) (comparisons t) ++ flat_map line (list_of t)

-- the whole output for a text
unfoldable pub output : List ℕ → List ℕ
unfolding shown number list_of
output t =
    elim (ltb text_limit (length t)) [
      | true ↦ refused_1
      | false ↦ elim (leb (length (list_of t)) block_limit) [
        | true ↦ shown t
        | false ↦ refused_3_word ++ number (length (list_of t)) line_feed
      ]
    ]
