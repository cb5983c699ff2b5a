-- The test of one place. Assumes nothing.
use Prim.Native.Nat.{ℕ, ◌+◌, ◌-◌, ◌*◌, ◌≤◌, ◌<◌}
use mathlib.Core.Path.{◌≡◌, sym, ap, ◌∙◌}
use mathlib.Core.Bool.{Bool, false, ◌&&◌}
use mathlib.Core.List.{List}
use native.Mathlib.Omega.{arith}
use borrow.Author.Tests.{le-leb, lt-leb, eq-eqb, eqb-true}
use lib.ListN.{length, get_or, take, drop, length-drop}
use Rattle.std.proofs.lemmas.List.{get_or-drop, get_or-take}
use lib.Dec.{eqb, leb}
use lib.Pointwise.{pointwise}
use lib.Seq.{length-take-le, ext_get_or}
use Rattle.std.proofs.lemmas.Slice.Eq.{bytes_eq-Decides}
use Rattle.repetition.proofs.Lists.{same_test, each_below_at, each_below_true}
use Rattle.finder.specs.Places.{same_letters}

-- ---- a place in a text of n letters

pub no_half : (n s p : ℕ) → p ≡ 0 → false ≡ leb 1 p && leb (s + 2 * p) n
no_half n s p e = rw e

pub starts_past : (n s p : ℕ) → (p ≡ 0 → ⊥) → n < s → false ≡ leb 1 p && leb (s + 2 * p) n
starts_past n s p f l = rw (le-leb 1 p (omega arith), lt-leb (s + 2 * p) n (omega arith))

-- ---- letters that are the same

-- so many letters from a place on
abbrev from_on : List ℕ → ℕ → ℕ → List ℕ
from_on t a n = take (a + n - a) (drop a t)

length-from_on : (t : List ℕ) (a n : ℕ) → a + n ≤ length t → length (from_on t a n) ≡ n
length-from_on t a n inside = length-take-le (a + n - a) (drop a t) (rw length-drop (omega arith)) ∙ omega arith

get_or-from_on : (t : List ℕ) (a n k : ℕ) → k < n → get_or (from_on t a n) k 0 ≡ get_or t (a + k) 0
get_or-from_on t a n k l = get_or-take (a + n - a) (drop a t) k 0 (omega arith) ∙ get_or-drop a t k 0

-- Letters are the same at two places where those from there on are equal.
pub same_slices : (t : List ℕ) (a b n : ℕ) → a + n ≤ length t → b + n ≤ length t → {r : Bool}
    → r ≡ pointwise eqb (from_on t a n) (from_on t b n) → r ≡ same_letters t a b n
unfolding same_letters
same_slices t a b n a_inside b_inside e =
    let decides = bytes_eq-Decides (from_on t a n) (from_on t b n) in
    e ∙ same_test _ _
    (λ h. each_below_true n _ (λ k l.
    eq-eqb _ _
    (sym (get_or-from_on t a n k l) ∙ ap (λ (s : List ℕ). get_or s k 0) (decides.0 h) ∙ get_or-from_on t b n k l)))
    (λ h. decides.1
    (ext_get_or 0 _ _ (length-from_on t a n a_inside ∙ sym (length-from_on t b n b_inside))
    (λ k l.
    let m = rw (length-from_on t a n a_inside) at l in
    get_or-from_on t a n k m ∙ eqb-true _ _ (each_below_at n _ h k m) ∙ sym (get_or-from_on t b n k m))))
