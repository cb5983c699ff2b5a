-- What a repetition is: document 01, "The finder and its neighbours".
-- A text is a list of numbers, its letters. A byte text is such a list as it stands.
use Rattle.std.specs.Prelude.{ℕ, ◌+◌, ◌*◌, ◌≤◌, ◌<◌, ◌≡◌, Bool, ◌&&◌, List, leb, eqb, length, get_or}
use Rattle.repetition.specs.Numbers.{each_below}

-- The repetition with start s and half length p stands in the text t. Its centre is s + p.
pub record Repetition (t : List ℕ) (s p : ℕ) : Type 0 where
  pub nonempty : 1 ≤ p
  pub within : s + 2 * p ≤ length t
  pub twice : (k : ℕ) → k < p → get_or t (s + k) 0 ≡ get_or t (s + p + k) 0

-- The same as a test.
unfoldable pub stands : List ℕ → ℕ → ℕ → Bool
unfolding each_below
stands t s p =
    leb 1 p && leb (s + 2 * p) (length t) && each_below p (λ k. eqb (get_or t (s + k) 0) (get_or t (s + p + k) 0))
