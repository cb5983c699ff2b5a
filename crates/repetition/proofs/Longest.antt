-- Law 7, the longest repetition: no other has a greater half, it is the lowest start of the block met first of those, and there
-- is one whenever the list is not empty. Assumes nothing.
use Prim.Native.Nat.{ℕ, ◌≤◌, ◌<◌}
use mathlib.Core.Path.{◌≡◌, refl, ap}
use mathlib.Core.Logic.{⊎_elim}
use mathlib.Core.Bool.{Bool, true, false, cond}
use mathlib.Core.List.{List, [], ◌∷◌, ◌++◌, Memᴰ}
use mathlib.Core.List.{nil≢cons}
use native.Mathlib.Omega.{arith}
use native.Mathlib.Decide.{dec_lt}
use lib.Dec.{ltb}
use borrow.Author.Tests.{ltb-true, ltb-false, lt-ltb, le-ltb}
use Rattle.repetition.specs.Blocks.{Block, list_of}
use Rattle.repetition.specs.Outcomes.{longest_of, longest_in}
use Rattle.repetition.specs.Repetition.{Repetition}
use Rattle.repetition.proofs.Listing.{listed_repetition, listed_start, repetition_listed, has_half}

-- longest_of keeps the longer of two blocks
kept : (b c : Block) (t : Bool) → ltb b.half c.half ≡ t → (b.half ≤ (cond t c b).half) × (c.half ≤ (cond t c b).half)
kept b c true e = omega (arith, ltb-true)
kept b c false e = omega (arith, ltb-false)

pub longest_greatest : (b : Block) (bs : List Block) (c : Block) → Memᴰ c (b ∷ bs) → c.half ≤ (longest_of b bs).half
unfolding longest_of
longest_greatest b [] c m = rw (mathlib.Core.List.Memᴰ.eq_of_singleton m) (omega arith)
longest_greatest b (x ∷ bs) c m =
    let t = ltb b.half x.half in
    let k = kept b x t refl in
    let l = cond t x b in
    let h = longest_greatest l bs l (mathlib.Core.List.Memᴰ.head refl) in
    ⊎_elim (λ (e : c ≡ b). rw e (omega arith))
    (λ (n : Memᴰ c (x ∷ bs)).
    ⊎_elim (λ (e : c ≡ x). rw e (omega arith)) (λ i. longest_greatest l bs c (mathlib.Core.List.Memᴰ.tail i)) (mathlib.Core.List.Memᴰ.cases_cons n))
    (mathlib.Core.List.Memᴰ.cases_cons m)

-- The block stands in the list, and every block before it has a smaller half.
abbrev pub First : Block → List Block → Type 0
First l bs = (xs : List Block) × (ys : List Block) × (bs ≡ xs ++ l ∷ ys) × ((c : Block) → Memᴰ c xs → c.half < l.half)

here : {l b : Block} {bs : List Block} → b ≡ l → First l (b ∷ bs)
here {bs} e = ([], bs, cc, λ c m. absurd (mathlib.Core.List.Memᴰ.not-nil m))

later : {l b : Block} {bs : List Block} → b.half < l.half → First l bs → First l (b ∷ bs)
later {b} h f =
    (b ∷ f.0, f.1, ap (λ xs. b ∷ xs) f.2, λ c m. ⊎_elim (λ (e : c ≡ b). rw e h) (f.3 c) (mathlib.Core.List.Memᴰ.cases_cons m))

-- A block put in after the leading one, and no longer than it, changes nothing.
second : {l b c : Block} {bs : List Block} (xs ys : List Block) → b ∷ bs ≡ xs ++ l ∷ ys
    → ((d : Block) → Memᴰ d xs → d.half < l.half) → c.half ≤ b.half → First l (b ∷ c ∷ bs)
second [] ys e f h = here (cc)
second {b} (x ∷ xs) ys e f h =
    let i = f b (mathlib.Core.List.Memᴰ.head (cc)) in
    later i (later (omega arith) (xs, ys, cc, λ d m. f d (mathlib.Core.List.Memᴰ.tail m)))

pub longest_first : (b : Block) (bs : List Block) → First (longest_of b bs) (b ∷ bs)
unfolding longest_of
longest_first b [] = here refl
longest_first b (c ∷ bs) =
    elim (dec_lt b.half c.half) [
      | yes h ↦ simp lt-ltb (later (omega (arith, longest_greatest c bs c (mathlib.Core.List.Memᴰ.head refl))) (longest_first c bs))
      | no h ↦
          let f = longest_first b bs in
          simp (le-ltb b.half c.half (omega arith)) (second f.0 f.1 f.2 f.3 (omega arith))
    ]

pub longest_listed : (b : Block) (bs : List Block) → Memᴰ (longest_of b bs) (b ∷ bs)
longest_listed b bs = let f = longest_first b bs in rw f.2 (mathlib.Core.List.Memᴰ.append_right f.0 (mathlib.Core.List.Memᴰ.head refl))

-- ---- of a text

module _ (t : List ℕ) where
  pub longest_there : (list_of t ≡ [] → ⊥) → (s : ℕ) × (p : ℕ) × (longest_in (list_of t) ≡ s ∷ p ∷ [])
  unfolding longest_in
  longest_there some = go (list_of t) some
    where
      go : (bs : List Block) → (bs ≡ [] → ⊥) → (s : ℕ) × (p : ℕ) × (longest_in bs ≡ s ∷ p ∷ [])
      go [] h = absurd (h refl)
      go (b ∷ bs) h = ((longest_of b bs).first, (longest_of b bs).half, refl)

  -- The repetition s, p is the longest.
  pub record IsLongest (s p : ℕ) : Type 0 where
    pub stands : Repetition t s p
    pub greatest : (s' p' : ℕ) → Repetition t s' p' → p' ≤ p
    -- among equals: the lowest start of the block met first
    pub block : Block
    pub half_is : block.half ≡ p
    pub start_is : block.first ≡ s
    pub met_first : First block (list_of t)

  pub longest_is : (s p : ℕ) → longest_in (list_of t) ≡ s ∷ p ∷ [] → IsLongest s p
  unfolding longest_in
  longest_is s p e = go (list_of t) refl e
    where
      go : (bs : List Block) → list_of t ≡ bs → longest_in bs ≡ s ∷ p ∷ [] → IsLongest s p
      go [] l h = absurd (nil≢cons h)
      go (b ∷ bs) l h =
          let c = longest_of b bs in
          let m : Memᴰ c (list_of t) = rw l (longest_listed b bs) in
          let first : c.first ≡ s = cc in
          let half : c.half ≡ p = cc in
          record {
            stands = rw (← first, ← half) (listed_repetition t c.first c.half c m (listed_start t c m));
            greatest = λ s' p' r.
                let k = repetition_listed t s' p' r in
                omega (arith, longest_greatest b bs k.0 (rw l at k.1), has_half s' p' k.0 k.2);
            block = c;
            half_is = half;
            start_is = first;
            met_first = rw l (longest_first b bs);
          }
