-- The test of one place, as it is done.
use Rattle.std.specs.Prelude.{ℕ, ◌+◌, Bool, List, eqb, get_or}
use Rattle.repetition.specs.Numbers.{each_below}

-- so many letters are the same at two places
unfoldable pub same_letters : List ℕ → ℕ → ℕ → ℕ → Bool
unfolding each_below
same_letters t a b n = each_below n (λ k. eqb (get_or t (a + k) 0) (get_or t (b + k) 0))
