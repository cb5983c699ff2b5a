-- How far the letters of a text agree with those p places on, before a place and from it on: what each of the four
-- tables of a part says of the text. Assumes nothing.
use Prim.Native.Nat.{ℕ, suc, ◌+◌, ◌*◌, ◌-◌, ◌≤◌, ◌<◌, min}
use mathlib.Core.Path.{◌≡◌, sym, ap, ◌∙◌, subst}
use mathlib.Core.List.{List, [], ◌∷◌, reverse, reverse-cons}
use native.Mathlib.Decide.{dec_le, dec_lt}
use native.Mathlib.Omega.{arith, by_contra}
use lib.ListN.{length, get_or, take, drop, length-drop, length-reverse, get_or-append}
use lib.Seq.{slice, length-slice, get_or-drop, get_or-take, get_or_at}
use Rattle.repetition.specs.Repetition.{Repetition}
use Rattle.repetition.specs.Tables.{matched}
use Rattle.repetition.proofs.Matching.{matched_is}

-- ---- letters of a piece

same_place : (xs : List ℕ) (i j : ℕ) → i ≡ j → get_or xs i 0 ≡ get_or xs j 0
same_place xs i j e = ap (λ (k : ℕ). get_or xs k 0) e

pub get_or-slice : (t : List ℕ) (a c i : ℕ) → i < c - a → get_or (slice a c t) i 0 ≡ get_or t (a + i) 0
get_or-slice t a c i l = get_or-drop a (take c t) i 0 ∙ get_or-take c t (a + i) 0 (omega arith)

pub get_or-reverse : (xs : List ℕ) (i : ℕ) → i < length xs → get_or (reverse xs) i 0 ≡ get_or xs (length xs - 1 - i) 0
get_or-reverse [] i l = absurd (omega arith)
get_or-reverse (x ∷ xs) i l =
    rw reverse-cons (elim (dec_lt i (length xs)) [
      | yes m ↦
          get_or-append (reverse xs) (x ∷ []) 0 i (rw length-reverse m) ∙ get_or-reverse xs i m
          ∙ same_place (x ∷ xs) (suc (length xs - 1 - i)) (suc (length xs) - 1 - i) (omega arith)
      | no m ↦
          get_or_at (reverse xs) x [] 0 i (length-reverse xs ∙ omega arith)
          ∙ same_place (x ∷ xs) 0 (suc (length xs) - 1 - i) (omega arith)
    ])

pub get_or_slice_back : (t : List ℕ) (a c i : ℕ) → c ≤ length t → i < c - a → get_or (reverse (slice a c t)) i 0 ≡ get_or t (c - 1 - i) 0
get_or_slice_back t a c i h l =
    get_or-reverse (slice a c t) i (rw (length-slice a c t h) l)
    ∙ rw (length-slice a c t h) (get_or-slice t a c (c - a - 1 - i) (omega arith))
    ∙ same_place t (a + (c - a - 1 - i)) (c - 1 - i) (omega arith)

-- ---- how far letters agree

-- The first n of M facts hold, and the next, if there is one, does not.
pub record Run (P : ℕ → Type 0) (n M : ℕ) : Type 0 where
  pub short : n ≤ M
  pub all : (k : ℕ) → k < n → P k
  pub stop : n < M → P n → ⊥

pub run_of : {P Q : ℕ → Type 0} {n M : ℕ} → ((k : ℕ) → k < M → P k → Q k) → ((k : ℕ) → k < M → Q k → P k) → Run P n M → Run Q n M
run_of f g r =
    record {
      short = r.short;
      all = λ k l. f k (omega arith) (r.all k l);
      stop = λ l h. r.stop l (g _ l h);
    }

pub match_run : (xs ys : List ℕ) → Run (λ k. get_or xs k 0 ≡ get_or ys k 0) (matched xs ys) (min (length xs) (length ys))
match_run xs ys =
    let r = matched_is xs ys in
    record { short = omega arith; all = r.agree; stop = λ l. r.stop (omega arith) (omega arith) }

-- the letter at i and the one p places on
abbrev Same : List ℕ → ℕ → ℕ → Type 0
Same t p i = get_or t i 0 ≡ get_or t (i + p) 0

-- Letters agree with those p places on for B places before d, of M that could, and for F places from d on, of N.
abbrev pub Behind : List ℕ → ℕ → ℕ → ℕ → ℕ → Type 0
Behind t p d = Run (λ k. Same t p (d - 1 - k))

abbrev pub Ahead : List ℕ → ℕ → ℕ → ℕ → ℕ → Type 0
Ahead t p d = Run (λ k. Same t p (d + k))

-- Then a start s with d among its p places has its repetition exactly where it lies within both.
module _ (t : List ℕ) (p d B M F N : ℕ) (behind : Behind t p d B M) (ahead : Ahead t p d F N) (s : ℕ) where
  pub far : s ≤ d → d ≤ s + p → d ≤ s + M → s + p ≤ d + N → Repetition t s p → (d ≤ s + B) × (s + p ≤ d + F)
  far l m x y r =
      let same : (k : ℕ) → k < p → Same t p (s + k) =
      λ k h. r.twice k h ∙ same_place t (s + p + k) (s + k + p) (omega arith) in (
        by_contra d (s + B) (λ h.
            behind.stop (omega arith)
            (subst (Same t p) {x = s + (d - 1 - B - s)} (omega arith) (same (d - 1 - B - s) (omega arith)))),
        by_contra (s + p) (d + F) (λ h.
            ahead.stop (omega arith)
            (subst (Same t p) {x = s + (d + F - s)} (omega arith) (same (d + F - s) (omega arith)))),
      )

  pub near : 1 ≤ p → s + 2 * p ≤ length t → d ≤ s + B → s + p ≤ d + F → Repetition t s p
  near one fits x y =
      let same : (k : ℕ) → k < p → Same t p (s + k) =
      λ k l. elim (dec_le d (s + k)) [
        | yes h ↦ subst (Same t p) {x = d + (s + k - d)} (omega arith) (ahead.all (s + k - d) (omega arith))
        | no h ↦ subst (Same t p) {x = d - 1 - (d - 1 - (s + k))} (omega arith) (behind.all (d - 1 - (s + k)) (omega arith))
      ] in
      record { nonempty = one; within = fits; twice = λ k l. same k l ∙ same_place t (s + k + p) (s + p + k) (omega arith) }

-- ---- the four tables of a part from a up to b, cut at c

-- The letters of both strings are letters of the text, the walked one's p places after the pattern's or p places before.
module _ (t : List ℕ) (p : ℕ) (xs ys : List ℕ) (f : ℕ → ℕ) (M : ℕ) (size : min (length xs) (length ys) ≡ M) where
  walked_later : ((k : ℕ) → k < M → get_or xs k 0 ≡ get_or t (f k + p) 0) → ((k : ℕ) → k < M → get_or ys k 0 ≡ get_or t (f k) 0)
      → Run (λ k. Same t p (f k)) (matched xs ys) M
  walked_later x y =
      run_of (λ k l e. sym (y k l) ∙ sym e ∙ x k l) (λ k l e. x k l ∙ sym e ∙ sym (y k l)) (rw size at (match_run xs ys))

  walked_earlier : ((k : ℕ) → k < M → get_or xs k 0 ≡ get_or t (f k) 0) → ((k : ℕ) → k < M → get_or ys k 0 ≡ get_or t (f k + p) 0)
      → Run (λ k. Same t p (f k)) (matched xs ys) M
  walked_earlier x y =
      run_of (λ k l e. sym (x k l) ∙ e ∙ y k l) (λ k l e. x k l ∙ e ∙ sym (y k l)) (rw size at (match_run xs ys))

-- Places, each by itself: `omega` takes only a few differences at a time.
mirrored : (b c p k : ℕ) → c + p ≤ b → k < p → k < c → b - 1 - (b - c - p + k) ≡ c - 1 - k + p
mirrored b c p k l m n = omega arith

regrouped : (c p k : ℕ) → c - 1 - (p + k) ≡ c - p - 1 - k
regrouped c p k = omega arith

shifted : (c p k : ℕ) → p + k < c → c - 1 - k ≡ c - p - 1 - k + p
shifted c p k l = omega arith

rest_of : (m p : ℕ) → p ≤ m → m - (m - p) ≡ p
rest_of m p l = omega arith

module _ (t : List ℕ) (a c b p : ℕ) (low : a < c) (high : c < b) (inside : b ≤ length t) where
  size_u : length (slice a c t) ≡ c - a
  size_u = length-slice a c t (omega arith)

  size_v : length (slice c b t) ≡ b - c
  size_v = length-slice c b t inside

  pub back_right : p ≤ b - c
      → Behind t p c (matched (drop (b - c - p) (reverse (slice c b t))) (reverse (slice a c t))) (min p (c - a))
  back_right l =
      let u = reverse (slice a c t) in
      let v = reverse (slice c b t) in
      walked_later t p (drop (b - c - p) v) u (λ k. c - 1 - k) (min p (c - a))
      (rw (
        length-drop (b - c - p) v,
        length-reverse (slice c b t),
        length-reverse (slice a c t),
        size_u,
        size_v,
        rest_of (b - c) p l,
      ))
      (λ k h.
      let m : (k < p) × (k < c - a) = omega arith in
      get_or-drop (b - c - p) v k 0 ∙ get_or_slice_back t c b (b - c - p + k) inside (omega arith)
      ∙ same_place t (b - 1 - (b - c - p + k)) (c - 1 - k + p) (mirrored b c p k (omega arith) m.0 (omega arith)))
      (λ k h. get_or_slice_back t a c k (omega arith) (omega arith))

  pub on_right : p ≤ b - c → Ahead t p c (matched (drop p (slice c b t)) (slice c b t)) (b - c - p)
  on_right l =
      let v = slice c b t in
      walked_later t p (drop p v) v (λ k. c + k) (b - c - p)
      (rw (length-drop p v, size_v) (omega arith))
      (λ k h. get_or-drop p v k 0 ∙ get_or-slice t c b (p + k) (omega arith) ∙ same_place t (c + (p + k)) (c + k + p) (omega arith))
      (λ k h. get_or-slice t c b k (omega arith))

  pub back_left : p < c - a → Behind t p (c - p) (matched (drop p (reverse (slice a c t))) (reverse (slice a c t))) (c - p - a)
  back_left l =
      let u = reverse (slice a c t) in
      walked_earlier t p (drop p u) u (λ k. c - p - 1 - k) (c - p - a)
      (rw (length-drop p u, length-reverse (slice a c t), size_u) (omega arith))
      (λ k h.
      get_or-drop p u k 0 ∙ get_or_slice_back t a c (p + k) (omega arith) (omega arith)
      ∙ same_place t (c - 1 - (p + k)) (c - p - 1 - k) (regrouped c p k))
      (λ k h.
      get_or_slice_back t a c k (omega arith) (omega arith)
      ∙ same_place t (c - 1 - k) (c - p - 1 - k + p) (shifted c p k (omega arith)))

  pub on_left : p < c - a → Ahead t p (c - p) (matched (drop (c - a - p) (slice a c t)) (slice c b t)) (min p (b - c))
  on_left l =
      let u = slice a c t in
      walked_earlier t p (drop (c - a - p) u) (slice c b t) (λ k. c - p + k) (min p (b - c))
      (rw (length-drop (c - a - p) u, size_u, size_v, rest_of (c - a) p (omega arith)))
      (λ k h.
      get_or-drop (c - a - p) u k 0 ∙ get_or-slice t a c (c - a - p + k) (omega arith)
      ∙ same_place t (a + (c - a - p + k)) (c - p + k) (omega arith))
      (λ k h. get_or-slice t c b k (omega arith) ∙ same_place t (c + k) (c - p + k + p) (omega arith))
