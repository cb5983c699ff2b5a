-- Law 4: `matched` of specs/Tables.antt is the one number up to which two strings agree and no further. Assumes nothing.
use Prim.Native.Nat.{ℕ, zero, suc, ◌≤◌, ◌<◌}
use mathlib.Core.Path.{◌≡◌, refl}
use mathlib.Core.Bool.{Bool, true, false}
use mathlib.Core.List.{List, [], ◌∷◌}
use native.Mathlib.Nat.{le_antisymm}
use native.Mathlib.Omega.{arith, by_contra}
use lib.Dec.{eqb}
use lib.ListN.{length, get_or, drop}
use borrow.Author.Tests.{eqb-true, eqb-false}
use Rattle.repetition.specs.Tables.{matched, Table, match_at}

-- The first m letters agree, and the next two, if both strings have one, do not.
pub record IsMatch (xs ys : List ℕ) (m : ℕ) : Type 0 where
  pub within_left : m ≤ length xs
  pub within_right : m ≤ length ys
  pub agree : (k : ℕ) → k < m → get_or xs k 0 ≡ get_or ys k 0
  pub stop : m < length xs → m < length ys → get_or xs m 0 ≡ get_or ys m 0 → ⊥

pub matched_is : (xs ys : List ℕ) → IsMatch xs ys (matched xs ys)
unfolding matched
matched_is [] ys = omega arith
matched_is (x ∷ xs) [] = omega arith
matched_is (x ∷ xs) (y ∷ ys) = by_heads (matched_is xs ys) (eqb x y) refl
  where
    by_heads : {m : ℕ} → IsMatch xs ys m → (b : Bool) → eqb x y ≡ b
        → IsMatch (x ∷ xs) (y ∷ ys) (elim b [ true ↦ suc m | false ↦ 0 ])
    by_heads r true same =
        record {
          within_left = omega arith;
          within_right = omega arith;
          agree = elim [ zero ↦ λ h. eqb-true x y same | suc k ↦ λ h. r.agree k (omega arith) ];
          stop = λ hx hy. r.stop (omega arith) (omega arith);
        }
    by_heads r false other = omega (arith, eqb-false x y other)

pub match_at_is : (m : Table) (i : ℕ) → IsMatch (drop i m.walked) m.pattern (match_at m i)
unfolding match_at
match_at_is m i = matched_is (drop i m.walked) m.pattern

-- no agreement is longer than a match
le_match : {xs ys : List ℕ} {n : ℕ} → IsMatch xs ys n → (m : ℕ) → m ≤ length xs → m ≤ length ys
    → ((k : ℕ) → k < m → get_or xs k 0 ≡ get_or ys k 0) → m ≤ n
le_match {n} r m hx hy agree = by_contra _ _ (λ h. r.stop (omega arith) (omega arith) (agree n h))

pub le_matched : (xs ys : List ℕ) (m : ℕ) → m ≤ length xs → m ≤ length ys
    → ((k : ℕ) → k < m → get_or xs k 0 ≡ get_or ys k 0) → m ≤ matched xs ys
le_matched xs ys = le_match (matched_is xs ys)

pub matched_unique : (xs ys : List ℕ) (m : ℕ) → IsMatch xs ys m → m ≡ matched xs ys
matched_unique xs ys m r =
    let s = matched_is xs ys in
    le_antisymm
    (le_matched xs ys m r.within_left r.within_right r.agree)
    (le_match r (matched xs ys) s.within_left s.within_right s.agree)
