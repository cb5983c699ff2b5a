-- Laws of the small words of specs/Numbers.antt. Assumes nothing.
use Prim.Native.Nat.{ℕ, zero, suc, ◌+◌, ◌*◌, ◌≤◌, ◌<◌}
use mathlib.Core.Path.{◌≡◌, refl, sym, ap, ap₂, ◌∙◌}
use mathlib.Core.Logic.{⊎_elim}
use mathlib.Core.Bool.{Bool, true, false, cond, and-eq-true_iff, true≢false}
use mathlib.Core.List.{List, [], ◌∷◌, ◌++◌, flat_map, append_assoc, append-nil, Memᴰ}
use native.Mathlib.Nat.{zero-add, add_assoc, add-zero, add-suc, suc-add, mul-suc, le_of_suc-le-suc, eq-or-lt_of_le}
use native.Mathlib.Omega.{arith}
use lib.ListN.{length, get_or, length-append}
use Rattle.repetition.specs.Numbers.{one_if, each_below, consecutive, those, last_of, total, how_many}

-- ---- tests

-- two tests that pass together are equal
pub same_test : (a b : Bool) → (a ≡ true → b ≡ true) → (b ≡ true → a ≡ true) → a ≡ b
same_test true b f g = sym (f refl)
same_test false true f g = g refl
same_test false false f g = refl

pub is_false : (a : Bool) → (a ≡ true → ⊥) → a ≡ false
is_false true h = absurd (h refl)
is_false false h = refl

pub each_below_true : (n : ℕ) (f : ℕ → Bool) → ((k : ℕ) → k < n → f k ≡ true) → each_below n f ≡ true
unfolding each_below
each_below_true zero f h = refl
each_below_true (suc n) f h = rw (each_below_true n f (λ k l. h k (omega arith)), h n (omega arith))

pub each_below_at : (n : ℕ) (f : ℕ → Bool) → each_below n f ≡ true → (k : ℕ) → k < n → f k ≡ true
unfolding each_below
each_below_at zero f e k l = absurd (omega arith)
each_below_at (suc n) f e k l =
    let x = (and-eq-true_iff (each_below n f) (f n)).0 e in
    ⊎_elim (λ (q : k ≡ n). rw q x.1) (each_below_at n f x.0 k) (eq-or-lt_of_le (le_of_suc-le-suc l))

-- ---- sums and counts

module _ {A : Type 0} where
  pub total-append : (f : A → ℕ) (xs ys : List A) → total f (xs ++ ys) ≡ total f xs + total f ys
  unfolding total
  total-append f [] ys = sym (zero-add (total f ys))
  total-append f (x ∷ xs) ys =
      ap (λ (n : ℕ). f x + n) (total-append f xs ys) ∙ sym (add_assoc (f x) (total f xs) (total f ys))

  pub total_same : (f g : A → ℕ) (xs : List A) → ((x : A) → Memᴰ x xs → f x ≡ g x) → total f xs ≡ total g xs
  unfolding total
  total_same f g [] h = refl
  total_same f g (x ∷ xs) h = ap₂ ◌+◌ (h x (mathlib.Core.List.Memᴰ.head refl)) (total_same f g xs (λ y m. h y (mathlib.Core.List.Memᴰ.tail m)))

  pub total_bound : (f : A → ℕ) (k : ℕ) (xs : List A) → ((x : A) → f x ≤ k) → total f xs ≤ k * length xs
  unfolding total
  total_bound f k [] h = omega arith
  total_bound f k (x ∷ xs) h = rw mul-suc (omega (arith, h x, total_bound f k xs h))

  pub total_zero : (xs : List A) → total (λ x. 0) xs ≡ 0
  unfolding total
  total_zero [] = refl
  total_zero (x ∷ xs) = rw (total_zero xs)

  pub how_many-append : (f : A → Bool) (xs ys : List A) → how_many f (xs ++ ys) ≡ how_many f xs + how_many f ys
  unfolding how_many
  how_many-append f xs ys = total-append (λ x. one_if (f x)) xs ys

  -- one that passes is counted
  pub how_many_some : (f : A → Bool) (x : A) (xs : List A) → Memᴰ x xs → f x ≡ true → 1 ≤ how_many f xs
  unfolding how_many total
  how_many_some f x [] m e = absurd (mathlib.Core.List.Memᴰ.not-nil m)
  how_many_some f x (y ∷ ys) m e =
      ⊎_elim (λ (q : x ≡ y). rw (← q, e) (omega arith))
      (λ (n : Memᴰ x ys). let l = how_many_some f x ys n e in omega arith) (mathlib.Core.List.Memᴰ.cases_cons m)

  -- where some are counted, one passes
  pub some_counted : (f : A → Bool) (xs : List A) → 1 ≤ how_many f xs → (x : A) × Memᴰ x xs × (f x ≡ true)
  unfolding how_many total
  some_counted f [] h = absurd (omega arith)
  some_counted f (x ∷ xs) h = go (f x) refl (some_counted f xs)
    where
      go : (b : Bool) → f x ≡ b → (1 ≤ how_many f xs → (y : A) × Memᴰ y xs × (f y ≡ true))
          → (y : A) × Memᴰ y (x ∷ xs) × (f y ≡ true)
      go true e rest = (x, mathlib.Core.List.Memᴰ.head refl, e)
      go false e rest = let k = rw e at h in let r = rest (omega arith) in (r.0, mathlib.Core.List.Memᴰ.tail r.1, r.2)

  -- where none is counted, none passes
  pub none_counted : (f : A → Bool) (d : A) (xs : List A) → how_many f xs ≡ 0
      → (i : ℕ) → i < length xs → f (get_or xs i d) ≡ true → ⊥
  unfolding how_many total
  none_counted f d [] h i l e = omega arith
  none_counted f d (x ∷ xs) h zero l e = let k = rw e at h in omega arith
  none_counted f d (x ∷ xs) h (suc i) l e = none_counted f d xs (omega arith) i (omega arith) e

  -- there is a place in the list that passes, and no other
  abbrev pub OnePlace : (A → Bool) → A → List A → Type 0
  OnePlace f d xs =
      (i : ℕ) × (i < length xs) × (f (get_or xs i d) ≡ true) × ((j : ℕ) → j < length xs → f (get_or xs j d) ≡ true → j ≡ i)

  pub one_counted : (f : A → Bool) (d : A) (xs : List A) → how_many f xs ≡ 1 → OnePlace f d xs
  unfolding how_many total
  one_counted f d [] h = absurd (omega arith)
  one_counted f d (x ∷ xs) h = go (f x) refl (one_counted f d xs)
    where
      only : f x ≡ true → (j : ℕ) → j < suc (length xs) → f (get_or (x ∷ xs) j d) ≡ true → j ≡ 0
      only e zero l p = refl
      only e (suc j) l p = let k = rw e at h in absurd (none_counted f d xs (omega arith) j (omega arith) p)

      later : f x ≡ false → (r : OnePlace f d xs) (j : ℕ) → j < suc (length xs) → f (get_or (x ∷ xs) j d) ≡ true → j ≡ suc r.0
      later e r zero l p = absurd (true≢false (sym p ∙ e))
      later e r (suc j) l p = ap suc (r.3 j (omega arith) p)

      go : (b : Bool) → f x ≡ b → (how_many f xs ≡ 1 → OnePlace f d xs) → OnePlace f d (x ∷ xs)
      go true e rest = (0, omega arith, e, only e)
      go false e rest =
          let k = rw e at h in
          let r = rest (omega arith) in
          (suc r.0, omega arith, r.2, later e r)

-- ---- lists of lists

flat_map_singles : {A : Type 0} (xs : List A) → flat_map (λ x. x ∷ []) xs ≡ xs
unfolding flat_map
flat_map_singles [] = refl
flat_map_singles {A} (x ∷ xs) = ap (λ (l : List A). x ∷ l) (flat_map_singles xs)

module _ {A B : Type 0} where
  pub flat_map-append : (f : A → List B) (xs ys : List A) → flat_map f (xs ++ ys) ≡ flat_map f xs ++ flat_map f ys
  unfolding flat_map
  flat_map-append f [] ys = refl
  flat_map-append f (x ∷ xs) ys =
      ap (λ (l : List B). f x ++ l) (flat_map-append f xs ys) ∙ sym (append_assoc (f x) (flat_map f xs) (flat_map f ys))

  pub flat_map_same : (f g : A → List B) (xs : List A) → ((x : A) → Memᴰ x xs → f x ≡ g x) → flat_map f xs ≡ flat_map g xs
  unfolding flat_map
  flat_map_same f g [] h = refl
  flat_map_same f g (x ∷ xs) h = ap₂ ◌++◌ (h x (mathlib.Core.List.Memᴰ.head refl)) (flat_map_same f g xs (λ y m. h y (mathlib.Core.List.Memᴰ.tail m)))

  flat_map_nothing : (xs : List A) → flat_map {B = B} (λ x. []) xs ≡ []
  unfolding flat_map
  flat_map_nothing [] = refl
  flat_map_nothing (x ∷ xs) = flat_map_nothing xs

  pub flat_map_member : (f : A → List B) (y : B) (xs : List A) → Memᴰ y (flat_map f xs)
      → (x : A) × Memᴰ x xs × Memᴰ y (f x)
  unfolding flat_map
  flat_map_member f y [] m = absurd (mathlib.Core.List.Memᴰ.not-nil m)
  flat_map_member f y (x ∷ xs) m =
      ⊎_elim (λ n. (x, mathlib.Core.List.Memᴰ.head refl, n))
      (λ n. let r = flat_map_member f y xs n in (r.0, mathlib.Core.List.Memᴰ.tail r.1, r.2)) (mathlib.Core.List.Memᴰ.append_cases (f x) m)

  pub length-flat_map : (f : A → List B) (xs : List A) → length (flat_map f xs) ≡ total (λ x. length (f x)) xs
  unfolding total flat_map
  length-flat_map f [] = refl
  length-flat_map f (x ∷ xs) = length-append (f x) (flat_map f xs) ∙ ap (λ (n : ℕ). length (f x) + n) (length-flat_map f xs)

  pub how_many-flat_map : (h : B → Bool) (f : A → List B) (xs : List A)
      → how_many h (flat_map f xs) ≡ total (λ x. how_many h (f x)) xs
  unfolding how_many total flat_map
  how_many-flat_map h f [] = refl
  how_many-flat_map h f (x ∷ xs) =
      how_many-append h (f x) (flat_map f xs) ∙ ap (λ (n : ℕ). how_many h (f x) + n) (how_many-flat_map h f xs)

-- ---- over consecutive numbers

pub length-consecutive : (a n : ℕ) → length (consecutive a n) ≡ n
unfolding consecutive
length-consecutive a zero = refl
length-consecutive a (suc n) = ap suc (length-consecutive (suc a) n)

pub consecutive-append : (a m n : ℕ) → consecutive a (m + n) ≡ consecutive a m ++ consecutive (a + m) n
unfolding consecutive
consecutive-append a zero n = rw (zero-add, add-zero)
consecutive-append a (suc m) n = rw (suc-add, add-suc, ← suc-add) (ap (λ (l : List ℕ). a ∷ l) (consecutive-append (suc a) m n))

pub consecutive_member : (a n x : ℕ) → Memᴰ x (consecutive a n) → (a ≤ x) × (x < a + n)
unfolding consecutive
consecutive_member a zero x m = absurd (mathlib.Core.List.Memᴰ.not-nil m)
consecutive_member a (suc n) x m =
    ⊎_elim (λ (e : x ≡ a). omega arith)
    (λ (k : Memᴰ x (consecutive (suc a) n)). omega (arith, consecutive_member (suc a) n x k)) (mathlib.Core.List.Memᴰ.cases_cons m)

pub last_run : (a n : ℕ) → last_of a (consecutive (suc a) n) ≡ a + n
unfolding consecutive last_of
last_run a zero = sym (add-zero a)
last_run a (suc n) = last_run (suc a) n ∙ suc-add a n ∙ sym (add-suc a n)

-- what holds at each number from a on, n of them
abbrev Each : ℕ → ℕ → (ℕ → Type 0) → Type 0
Each a n P = (x : ℕ) → a ≤ x → x < a + n → P x

each_member : (a n : ℕ) (P : ℕ → Type 0) → Each a n P → (x : ℕ) → Memᴰ x (consecutive a n) → P x
each_member a n P h x m = let r = consecutive_member a n x m in h x r.0 r.1

module _ {B : Type 0} (f : ℕ → List B) (a n : ℕ) where
  pub flat_map_each : (g : ℕ → List B) → Each a n (λ x. f x ≡ g x) → flat_map f (consecutive a n) ≡ flat_map g (consecutive a n)
  flat_map_each g h = flat_map_same f g (consecutive a n) (each_member a n (λ x. f x ≡ g x) h)

  pub flat_map_none : Each a n (λ x. f x ≡ []) → flat_map f (consecutive a n) ≡ []
  flat_map_none h = flat_map_each (λ x. []) h ∙ flat_map_nothing (consecutive a n)

pub total_none : (f : ℕ → ℕ) (a n : ℕ) → Each a n (λ x. f x ≡ 0) → total f (consecutive a n) ≡ 0
total_none f a n h =
    total_same f (λ x. 0) (consecutive a n) (each_member a n (λ x. f x ≡ 0) h) ∙ total_zero (consecutive a n)

-- a sum to which one number alone adds
pub total_only : (f : ℕ → ℕ) (a n x : ℕ) → a ≤ x → x < a + n → ((y : ℕ) → a ≤ y → (y ≡ x → ⊥) → f y ≡ 0)
    → total f (consecutive a n) ≡ f x
unfolding consecutive total
total_only f a zero x l m h = absurd (omega arith)
total_only f a (suc n) x l m h =
    ⊎_elim
    (λ (e : a ≡ x). omega (arith, ap f e, total_none f (suc a) n (λ y p q. h y (omega arith) (omega arith))))
    (λ (p : a < x).
    omega (arith, h a (omega arith) (omega arith), total_only f (suc a) n x p (omega arith) (λ y q. h y (omega arith))))
    (eq-or-lt_of_le l)

module _ (f : ℕ → Bool) where
  pub those_none : (a n : ℕ) → Each a n (λ x. f x ≡ false) → those f (consecutive a n) ≡ []
  unfolding those
  those_none a n h = flat_map_none (λ x. cond (f x) (x ∷ []) []) a n (λ x l m. rw (h x l m))

  those_all : (a n : ℕ) → Each a n (λ x. f x ≡ true) → those f (consecutive a n) ≡ consecutive a n
  unfolding those
  those_all a n h =
      flat_map_each (λ x. cond (f x) (x ∷ []) []) a n (λ x. x ∷ []) (λ x l m. rw (h x l m)) ∙ flat_map_singles (consecutive a n)

  -- Where just m of the numbers pass, after the first x, those are the m numbers.
  pub those_run : (a x m z : ℕ) → ((s : ℕ) → s < a + x → f s ≡ false) → Each (a + x) m (λ s. f s ≡ true)
      → ((s : ℕ) → a + x + m ≤ s → f s ≡ false) → those f (consecutive a (x + (m + z))) ≡ consecutive (a + x) m
  unfolding those
  those_run a x m z before inside beyond =
      rw (consecutive-append a x (m + z), consecutive-append (a + x) m z, flat_map-append, flat_map-append)
      (ap₂ ◌++◌ (those_none a x (λ s l. before s))
      (ap₂ ◌++◌ (those_all (a + x) m inside) (those_none (a + x + m) z (λ s l r. beyond s l))
      ∙ append-nil (consecutive (a + x) m)))
