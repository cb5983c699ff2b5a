-- Document 01's example of the listing program: the whole output for the four bytes `aaaa`, a row for each line, and two for the
-- first. Assumes nothing.
use Prim.Native.Nat.{ℕ}
use mathlib.Core.Path.{◌≡◌, refl}
use mathlib.Core.List.{List, [], ◌∷◌}
use Rattle.repetition.specs.Examples.{aaaa}
use Rattle.listing.specs.Output.{output}

abbrev pub five_lines : List ℕ
five_lines =
    114 ∷ 101 ∷ 112 ∷ 101 ∷ 116 ∷ 105 ∷ 116 ∷ 105 ∷ 111 ∷ 110 ∷ 115 ∷ 32 ∷ 52 ∷ 32
    ∷ 99 ∷ 111 ∷ 109 ∷ 112 ∷ 97 ∷ 114 ∷ 105 ∷ 115 ∷ 111 ∷ 110 ∷ 115 ∷ 32 ∷ 49 ∷ 48 ∷ 10
    ∷ 49 ∷ 32 ∷ 49 ∷ 32 ∷ 49 ∷ 10
    ∷ 50 ∷ 32 ∷ 48 ∷ 32 ∷ 48 ∷ 10
    ∷ 49 ∷ 32 ∷ 48 ∷ 32 ∷ 48 ∷ 10
    ∷ 49 ∷ 32 ∷ 50 ∷ 32 ∷ 50 ∷ 10 ∷ []

pub aaaa_output : output aaaa ≡ five_lines
unfolding output
aaaa_output = refl
