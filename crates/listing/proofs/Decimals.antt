-- Numbers in decimal: what the library writes is a number without leading zeros, and how many digits it has. Assumes nothing.
use Prim.Native.Nat.{ℕ, ◌^◌, ◌≤◌, ◌<◌}
use mathlib.Core.Path.{◌≡◌, sym, ap}
use mathlib.Core.List.{List, [], ◌∷◌, ◌++◌}
use native.Mathlib.Omega.{arith}
use lib.ListN.{length}
use Rattle.std.proofs.Common.{rules}
use Rattle.std.specs.Fmt.{decimal}
use Rattle.std.proofs.lemmas.Fmt.{AppendsLastDigit, decimal_from_appends, length-decimal-le}
use Rattle.listing.specs.Output.{spelled, number}
use Rattle.listing.specs.Output.{decimal as in_decimal}

spells : AppendsLastDigit spelled
unfolding spelled
spells = search rules

-- a number of 16 bits has five digits at most
pub five_digits : (n : ℕ) → n < 2 ^ 16 → length (decimal n) ≤ 5
five_digits n l = length-decimal-le 5 n (omega arith) (omega arith) (omega arith)

pub in_ten_digits : (n : ℕ) → n < 2 ^ 32 → decimal n ≡ in_decimal n
unfolding in_decimal
in_ten_digits n l =
    sym (decimal_from_appends spelled spells 10 n (omega arith) (length-decimal-le 10 n (omega arith) (omega arith) (omega arith)))

-- a number and the letter after it are the digits that the library writes, and the letter
pub number_is : (n letter : ℕ) → n < 2 ^ 32 → number n letter ≡ decimal n ++ letter ∷ []
unfolding number
number_is n letter l = ap (λ (ds : List ℕ). ds ++ letter ∷ []) (sym (in_ten_digits n l))
