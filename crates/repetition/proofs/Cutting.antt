-- Law 6, and the first half of law 2: how a text is cut into parts, where a start and half belong,
-- and what a cost for each letter of a part comes to over all parts. Assumes nothing.
use Prim.Native.Nat.{ℕ, zero, suc, ◌+◌, ◌*◌, ◌-◌, ◌^◌, ◌≤◌, ◌<◌}
use mathlib.Core.Path.{◌≡◌, refl, sym, ap, ap₂, ◌∙◌}
use mathlib.Core.Logic.{⊎_elim}
use mathlib.Core.Bool.{Bool, true, false, ◌&&◌, not, and-false, and-true}
use mathlib.Core.List.Memᴰ
use mathlib.Core.List.{List, [], ◌∷◌, ◌++◌, Memᴰ}
use native.Mathlib.Nat.{zero-add, add-zero}
use native.Mathlib.Omega.{arith}
use native.Mathlib.Decide.{dec_le}
use lib.Dec.{leb, ltb}
use borrow.Author.Tests.{leb-true, ltb-true, ltb-false, le-leb, lt-leb, lt-ltb, le-ltb}
use Rattle.repetition.specs.Numbers.{one_if, total, how_many}
use Rattle.repetition.specs.Cutting.{Part, cut, parts_in, parts, belongs, right, left, is, cut_of}
use Rattle.repetition.proofs.Lists.{total-append}

pub cut_inside : (a b : ℕ) → 2 ≤ b - a → (a < cut a b) × (cut a b < b)
unfolding cut
cut_inside a b h = omega arith

pub cut_halves : (a b h : ℕ) → b - a ≤ 2 * h → (cut a b - a ≤ h) × (b - cut a b ≤ h)
unfolding cut
cut_halves a b h l = omega arith

-- ---- the parts without fuel

fuel_small : (n a b : ℕ) → b - a < 2 → parts_in n a b ≡ []
unfolding parts_in
fuel_small zero a b h = refl
fuel_small (suc n) a b h = rw (lt-leb 2 (b - a) h, parts_in)

same_parts : (n m a b : ℕ) → b - a ≤ suc n → b - a ≤ suc m → parts_in n a b ≡ parts_in m a b
unfolding parts_in cut
same_parts zero m a b h l = sym (fuel_small m a b (omega arith))
same_parts (suc n) zero a b h l = fuel_small (suc n) a b (omega arith)
same_parts (suc n) (suc m) a b h l =
    ap₂ (λ (xs ys : List Part). elim (leb 2 (b - a)) [ true ↦ record { from = a; to = b } ∷ (xs ++ ys) | false ↦ [] ])
    (same_parts n m a (cut a b) (omega arith) (omega arith))
    (same_parts n m (cut a b) b (omega arith) (omega arith))

-- One less than the number of letters is enough: a single letter is not cut.
pub fuel_enough : (n a b : ℕ) → b - a ≤ suc n → parts_in n a b ≡ parts a b
unfolding parts
fuel_enough n a b h = same_parts n (b - a) a b h (omega arith)

pub parts_small : (a b : ℕ) → b - a < 2 → parts a b ≡ []
unfolding parts
parts_small a b h = fuel_small (b - a) a b h

pub parts_unroll : (a b : ℕ) → 2 ≤ b - a → parts a b ≡ record { from = a; to = b } ∷ (parts a (cut a b) ++ parts (cut a b) b)
unfolding parts_in cut
parts_unroll a b h =
    sym (fuel_enough (suc (b - a)) a b (omega arith))
    ∙ rw (le-leb 2 (b - a) h, parts_in)
    (cc (fuel_enough (b - a) a (cut a b) (omega arith), fuel_enough (b - a) (cut a b) b (omega arith)))

module _ (P : ℕ → ℕ → List Part → Type 0)
    (small : (a b : ℕ) → b - a < 2 → P a b [])
    (whole : (a b : ℕ) → 2 ≤ b - a → P a (cut a b) (parts a (cut a b)) → P (cut a b) b (parts (cut a b) b)
    → P a b (record { from = a; to = b } ∷ (parts a (cut a b) ++ parts (cut a b) b))) where
  no_part : (a b : ℕ) → b - a < 2 → P a b (parts a b)
  no_part a b h = rw (parts_small a b) (small a b h)

  up_to : (n a b : ℕ) → b - a ≤ suc n → P a b (parts a b)
  unfolding cut
  up_to zero a b h = no_part a b (omega arith)
  up_to (suc n) a b h =
      elim (dec_le 2 (b - a)) [
        | yes l ↦ rw (parts_unroll a b l) (whole a b l (up_to n a (cut a b) (omega arith)) (up_to n (cut a b) b (omega arith)))
        | no l ↦ no_part a b (omega arith)
      ]

  pub parts_ind : (a b : ℕ) → P a b (parts a b)
  parts_ind a b = up_to (b - a) a b (omega arith)

-- ---- where the parts lie

pub parts_within : (a b : ℕ) (q : Part) → Memᴰ q (parts a b) → (a ≤ q.from) × (q.to ≤ b) × (2 ≤ q.to - q.from)
parts_within a b q =
    parts_ind (λ x y qs. Memᴰ q qs → (x ≤ q.from) × (q.to ≤ y) × (2 ≤ q.to - q.from))
    (λ x y h m. absurd (Memᴰ.not-nil m))
    (λ x y h u v m. let w = cut_inside x y h in ⊎_elim (λ e. rw e (omega arith))
    (λ n. ⊎_elim (λ i. omega (arith, u i)) (λ i. omega (arith, v i)) (Memᴰ.append_cases (parts x (cut x y)) n))
    (Memᴰ.cases_cons m))
    a b

-- ---- a start and half belong to exactly one part, if they lie in the whole

other_way : (a b : ℕ) → leb a b ≡ not (ltb b a)
other_way a b =
    elim (dec_le a b) [
      | yes h ↦ simp (le-leb, le-ltb)
      | no h ↦ let l : b < a = omega arith in simp (lt-leb, lt-ltb)
    ]

none_in_small : (a b s p : ℕ) (x y : Bool) → b - a < 2 → leb 1 p ≡ x → leb a s ≡ y → 0 ≡ one_if (x && y && leb (s + 2 * p) b)
none_in_small a b s p false y h u v = refl
none_in_small a b s p true false h u v = refl
none_in_small a b s p true true h u v = rw (lt-leb (s + 2 * p) b (omega (arith, leb-true)))

ruleset evident = (and-false, and-true, zero-add, add-zero)

-- what lies from a to b is across c, or ends before it, or starts after it
one_of_three : (a b c s p : ℕ) (x y : Bool) → (a < c) × (c < b) → ltb s c ≡ x → ltb c (s + 2 * p) ≡ y
    → one_if (leb a s && leb (s + 2 * p) b && x && y)
    + (one_if (leb 1 p && leb a s && not y) + one_if (leb 1 p && not x && leb (s + 2 * p) b))
    ≡ one_if (leb 1 p && leb a s && leb (s + 2 * p) b)
one_of_three a b c s p true true h u v = simp (le-leb 1 p (omega (arith, ltb-true)), evident)
one_of_three a b c s p true false h u v = simp (le-leb (s + 2 * p) b (omega (arith, ltb-false)), evident)
one_of_three a b c s p false true h u v = simp (le-leb a s (omega (arith, ltb-false)), evident)
one_of_three a b c s p false false h u v = simp (lt-leb 1 p (omega (arith, ltb-false)), evident)

pub in_one_part : (a b s p : ℕ) → how_many (λ q. belongs q s p) (parts a b) ≡ one_if (leb 1 p && leb a s && leb (s + 2 * p) b)
unfolding how_many belongs
in_one_part a b s p =
    parts_ind (λ x y qs. how_many (λ q. belongs q s p) qs ≡ one_if (leb 1 p && leb x s && leb (s + 2 * p) y))
    (λ x y h. none_in_small x y s p _ _ h refl refl)
    (λ x y h u v. rw (total-append (λ q. one_if (belongs q s p)) _ _, u, v, other_way (s + 2 * p) (cut x y), other_way (cut x y) s)
    (one_of_three x y (cut x y) s p _ _ (cut_inside x y h) refl refl))
    a b

pub right_or_left : (q : Part) (s p : ℕ) → is right q s p ≡ not (is left q s p)
unfolding is
right_or_left q s p = other_way (cut_of q) (s + p)

-- ---- costs

-- What costs at most k for each letter of a part costs at most k * d for each letter of a text, if 2 ^ d letters are enough.
pub parts_total : (f : Part → ℕ) (k a b d : ℕ)
    → ((q : Part) → a ≤ q.from → q.to ≤ b → 2 ≤ q.to - q.from → f q ≤ k * (q.to - q.from))
    → b - a ≤ 2 ^ d → total f (parts a b) ≤ k * (b - a) * d
unfolding total
parts_total f k a b d each h =
    parts_ind (λ x y qs. (n : ℕ) → a ≤ x → y ≤ b → y - x ≤ 2 ^ n → total f qs ≤ k * (y - x) * n)
    (λ x y l n i j m. omega arith)
    (λ x y l u v. elim [
      | zero ↦ λ i j m. omega arith
      | suc n ↦ λ i j m.
          let w = cut_inside x y l in
          let z = cut_halves x y (2 ^ n) (omega arith) in
          let e : y - x ≡ (cut x y - x) + (y - cut x y) = omega arith in
          rw (total-append f _ _)
          (omega (
            arith,
            each (record { from = x; to = y }) i j l,
            u n i (omega arith) z.0,
            v n (omega arith) j z.1,
            ap (λ (m : ℕ). k * m * n) e,
          ))
    ])
    a b d (omega arith) (omega arith) h
