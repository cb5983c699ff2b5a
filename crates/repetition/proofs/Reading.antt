-- Law 3, the repetition lemma, right and left: the block of a half that is read from the tables is the block found by
-- trying every start. Assumes nothing.
use Prim.Native.Nat.{ℕ, suc, ◌+◌, ◌*◌, ◌-◌, ◌≤◌, ◌<◌, min}
use mathlib.Core.Path.{◌≡◌, refl, sym, ap, ap₂, ◌∙◌}
use mathlib.Core.Bool.{Bool, true, false, ◌&&◌, and-eq-true_iff}
use mathlib.Core.List.{List, [], ◌∷◌, ◌++◌, flat_map, append-nil}
use native.Mathlib.Decide.{dec_le}
use native.Mathlib.Omega.{arith}
use borrow.Author.Tests.{leb-true, le-leb, lt-leb}
use lib.Dec.{leb}
use lib.ListN.{length}
use lib.Seq.{length-slice}
use Rattle.repetition.specs.Numbers.{consecutive, those}
use Rattle.repetition.specs.Cutting.{Part, Class, right, left, cut, is, cut_of}
use Rattle.repetition.specs.Blocks.{Block, new, starts, block_of, class_blocks}
use Rattle.repetition.specs.Tables.{left_piece, right_piece}
use Rattle.repetition.specs.Reading.{around, read_block, greatest_half}
use Rattle.repetition.proofs.Lists.{is_false, same_test, those_none, those_run, last_run, consecutive-append}
use Rattle.repetition.proofs.Lists.{flat_map-append, flat_map_each, flat_map_none}
use Rattle.repetition.proofs.Cutting.{cut_inside}
use Rattle.repetition.proofs.Repetitions.{Belongs, New, true_new, new_true, right_side, side_right, left_side, side_left}
use Rattle.repetition.proofs.Agreement.{Behind, Ahead, far, near, back_right, on_right, back_left, on_left}

-- ---- the starts around a place d

-- The start s lies within `back` places before d, and its p places end within `on` places from d on.
unfoldable pub reaches : ℕ → ℕ → ℕ → ℕ → ℕ → Bool
reaches d p back on s = leb d (s + back) && leb (s + p) (d + on)

module _ (d p back on s : ℕ) where
  pub reaches_true : reaches d p back on s ≡ true → (d ≤ s + back) × (s + p ≤ d + on)
  unfolding reaches
  reaches_true h =
      let x = (and-eq-true_iff (leb d (s + back)) (leb (s + p) (d + on))).0 h in
      (leb-true d (s + back) x.0, leb-true (s + p) (d + on) x.1)

  pub true_reaches : d ≤ s + back → s + p ≤ d + on → reaches d p back on s ≡ true
  unfolding reaches
  true_reaches x y = rw (le-leb d (s + back) x, le-leb (s + p) (d + on) y)

  -- where the two together are less than p, there is no such start
  pub reaches_none : back + on < p → reaches d p back on s ≡ false
  reaches_none l = is_false (reaches d p back on s) (λ h. omega (arith, reaches_true h))

-- What is asked of a class: where its starts lie, in terms of d, and back.
record Starts (t : List ℕ) (κ : Class) (q : Part) (p d B M F N back on s : ℕ) : Type 0 where
  across : New t κ q s p → (s ≤ d) × (d ≤ s + p) × (d ≤ s + M) × (s + p ≤ d + N)
  reach : New t κ q s p → d ≤ s + B → s + p ≤ d + F → (d ≤ s + back) × (s + p ≤ d + on)
  fits : d ≤ s + back → s + p ≤ d + on → (d ≤ s + B) × (s + p ≤ d + F) × (s + 2 * p ≤ length t)
  part : d ≤ s + back → s + p ≤ d + on → Belongs q s p
  side : d ≤ s + back → s + p ≤ d + on → is κ q s p ≡ true

start_test : (t : List ℕ) (κ : Class) (q : Part) (p d B M F N back on s : ℕ) → 1 ≤ p → Behind t p d B M → Ahead t p d F N
    → Starts t κ q p d B M F N back on s → new t κ q s p ≡ reaches d p back on s
start_test t κ q p d B M F N back on s one behind ahead r =
    same_test (new t κ q s p) (reaches d p back on s)
    (λ h.
    let n = new_true t κ q s p h in
    let w = r.across n in
    let f = far t p d B M F N behind ahead s w.0 w.1 w.2 w.3 n.repetition in
    let g = r.reach n f.0 f.1 in
    true_reaches d p back on s g.0 g.1)
    (λ h.
    let g = reaches_true d p back on s h in
    let w = r.fits g.0 g.1 in
    true_new t κ q s p
    (record {
      repetition = near t p d B M F N behind ahead s one w.2 w.0 w.1;
      part = r.part g.0 g.1;
      side = r.side g.0 g.1;
    }))

-- ---- their block

block_run : (p lo m : ℕ) → block_of p (consecutive lo (suc m)) ≡ record { half = p; first = lo; last = lo + m } ∷ []
unfolding block_of consecutive
block_run p lo m = ap (λ (l : ℕ). record { half = p; first = lo; last = l } ∷ []) (last_run lo m)

module _ (f : ℕ → Bool) (a n d p back on : ℕ) (test : (s : ℕ) → f s ≡ reaches d p back on s) where
  passes : (s : ℕ) → d ≤ s + back → s + p ≤ d + on → f s ≡ true
  passes s x y = test s ∙ true_reaches d p back on s x y

  fails : (s : ℕ) → (d ≤ s + back → s + p ≤ d + on → ⊥) → f s ≡ false
  fails s h = is_false (f s) (λ e. let x = reaches_true d p back on s (sym (test s) ∙ e) in h x.0 x.1)

  run_block : (p ≤ back + on → (a + back ≤ d) × (d + on < a + n + p))
      → block_of p (those f (consecutive a n)) ≡ around d p back on
  unfolding around block_of
  run_block inside =
      elim (dec_le p (back + on)) [
        | yes l ↦
            let lies = inside l in
            let x = d - back - a in
            let m = back + on - p in
            let z = n - x - suc m in
            rw (le-leb p (back + on) l)
            (ap (λ (k : ℕ). block_of p (those f (consecutive a k))) {y = x + (suc m + z)} (omega arith)
            ∙ ap (block_of p)
            (those_run f a x (suc m) z (λ s h. fails s (λ i j. omega arith)) (λ s h k. passes s (omega arith) (omega arith))
            (λ s h. fails s (λ i j. omega arith)))
            ∙ block_run p (a + x) m
            ∙ ap₂ (λ (lo hi : ℕ). record { half = p; first = lo; last = hi } ∷ [])
            {x = a + x} {y = d - back} {u = a + x + m} {v = d + on - p} (omega arith) (omega arith))
        | no l ↦
            let less : back + on < p = omega arith in
            rw (those_none f a n (λ s i j. test s ∙ reaches_none d p back on s less), lt-leb p (back + on) less)
      ]

-- The block of a part, class and half is the one around d, and its starts are those that reach it.
pub record BlockAround (t : List ℕ) (κ : Class) (q : Part) (p d back on : ℕ) : Type 0 where
  pub low : back ≤ d
  pub test : (s : ℕ) → new t κ q s p ≡ reaches d p back on s
  pub block : block_of p (starts t κ q p) ≡ around d p back on

block_around : (t : List ℕ) (κ : Class) (q : Part) (p d back on : ℕ) → ((s : ℕ) → new t κ q s p ≡ reaches d p back on s)
    → back ≤ d → (p ≤ back + on → (q.from + back ≤ d) × (d + on < q.to + p)) → BlockAround t κ q p d back on
unfolding starts
block_around t κ q p d back on test low inside =
    record {
      low = low;
      test = test;
      block = run_block (λ s. new t κ q s p) q.from (q.to - q.from) d p back on test (λ h. omega (arith, inside h));
    }

-- ---- right and left, in a part from a up to b, cut at c

module _ (t : List ℕ) (a c b p B F : ℕ) (e : cut a b ≡ c) (one : 1 ≤ p) (low : a < c) (high : c < b) (inside : b ≤ length t) where
  right_starts : c + p ≤ b → B ≤ p → a + B ≤ c → c + p + F ≤ b → (s : ℕ)
      → Starts t right (record { from = a; to = b }) p c B (min p (c - a)) F (b - c - p) B (min (p - 1) F) s
  right_starts l x y z s =
      record {
        across = λ n. let r = right_side _ s p n.side in let h = n.part in omega arith;
        reach = λ n f g. let h = n.part in omega arith;
        fits = λ i j. omega arith;
        part = λ i j. omega arith;
        side = λ i j. side_right _ s p (omega arith);
      }

  left_starts : (d : ℕ) → d + p ≡ c → a + B ≤ d → F ≤ p → c + F ≤ b → (s : ℕ)
      → Starts t left (record { from = a; to = b }) p d B (d - a) F (min p (b - c)) (min (p - 1) B) (min (p - 1) F) s
  left_starts d sum x y z s =
      record {
        across = λ n. let r = left_side _ s p n.side in let h = n.part in omega arith;
        reach = λ n f g. let r = left_side _ s p n.side in let h = n.part in omega arith;
        fits = λ i j. omega arith;
        part = λ i j. omega arith;
        side = λ i j. side_left _ s p (omega arith);
      }

  right_around : c + p ≤ b → Behind t p c B (min p (c - a)) → Ahead t p c F (b - c - p)
      → BlockAround t right (record { from = a; to = b }) p c B (min (p - 1) F)
  right_around l behind ahead =
      let x = behind.short in
      let y = ahead.short in
      let u : a + B ≤ c = omega arith in
      let v : c + p + F ≤ b = omega arith in
      block_around t right _ p c B (min (p - 1) F)
      (λ s. start_test t right _ p c B (min p (c - a)) F (b - c - p) B (min (p - 1) F) s one behind ahead
      (right_starts l (omega arith) u v s))
      (omega arith) (λ _. (u, omega arith))

  left_around : a + p < c → Behind t p (c - p) B (c - p - a) → Ahead t p (c - p) F (min p (b - c))
      → BlockAround t left (record { from = a; to = b }) p (c - p) (min (p - 1) B) (min (p - 1) F)
  left_around l behind ahead =
      let x = behind.short in
      let y = ahead.short in
      let u : a + B ≤ c - p = omega arith in
      let v : c + F ≤ b = omega arith in
      block_around t left _ p (c - p) (min (p - 1) B) (min (p - 1) F)
      (λ s. start_test t left _ p (c - p) B (c - p - a) F (min p (b - c)) (min (p - 1) B) (min (p - 1) F) s one behind ahead
      (left_starts (c - p) (omega arith) u (omega arith) v s))
      (omega arith) (λ _. (omega arith, omega arith))

-- ---- the repetition lemma

module _ (t : List ℕ) (q : Part) (wide : 2 ≤ q.to - q.from) (inside : q.to ≤ length t) where
  pub size_u : length (left_piece t q) ≡ cut_of q - q.from
  size_u = length-slice q.from (cut_of q) t (omega (arith, cut_inside q.from q.to wide))

  pub size_v : length (right_piece t q) ≡ q.to - cut_of q
  size_v = length-slice (cut_of q) q.to t inside

  across_cut : (q.from < cut_of q) × (cut_of q < q.to)
  across_cut = cut_inside q.from q.to wide

  -- for each half that its class can have, the block is around what the tables give
  read_around : (κ : Class) (p : ℕ) → 1 ≤ p → p ≤ greatest_half t κ q
      → (d : ℕ) × (back : ℕ) × (on : ℕ) × BlockAround t κ q p d back on × (around d p back on ≡ read_block t κ q p)
  unfolding greatest_half read_block
  read_around right p one l =
      let c = cut_of q in
      let m : p ≤ q.to - c = rw size_v at l in
      let behind = back_right t q.from c q.to p across_cut.0 across_cut.1 inside m in
      let ahead = on_right t q.from c q.to p across_cut.0 across_cut.1 inside m in
      let fits : c + p ≤ q.to = omega (arith, across_cut) in
      let block = right_around t q.from c q.to p _ _ refl one across_cut.0 across_cut.1 inside fits behind ahead in
      (_, _, _, block, rw size_v)
  read_around left p one l =
      let c = cut_of q in
      let m : p < c - q.from = omega (arith, size_u) in
      let behind = back_left t q.from c q.to p across_cut.0 across_cut.1 inside m in
      let ahead = on_left t q.from c q.to p across_cut.0 across_cut.1 inside m in
      let fits : q.from + p < c = omega arith in
      let block = left_around t q.from c q.to p _ _ refl one across_cut.0 across_cut.1 inside fits behind ahead in
      (_, _, _, block, rw size_u)

  -- a greater half has no start, and its block is around nothing
  too_great : (κ : Class) (p : ℕ) → greatest_half t κ q < p → (s : ℕ) → New t κ q s p → ⊥
  unfolding greatest_half
  too_great right p l s n = omega (arith, size_v, right_side q s p n.side, n.part)
  too_great left p l s n = omega (arith, size_u, left_side q s p n.side, n.part)

  none_around : (κ : Class) (p : ℕ) → 1 ≤ p → greatest_half t κ q < p → BlockAround t κ q p 0 0 0
  none_around κ p one l =
      block_around t κ q p 0 0 0
      (λ s.
      is_false (new t κ q s p) (λ h. too_great κ p l s (new_true t κ q s p h)) ∙ sym (reaches_none 0 p 0 0 s (omega arith)))
      (omega arith) (λ h. absurd (omega arith))

  -- So the block of any half is around some place.
  pub block_is : (κ : Class) (p : ℕ) → 1 ≤ p → (d : ℕ) × (back : ℕ) × (on : ℕ) × BlockAround t κ q p d back on
  block_is κ p one =
      elim (dec_le p (greatest_half t κ q)) [
        | yes l ↦ let r = read_around κ p one l in (r.0, r.1, r.2, r.3)
        | no l ↦ (0, 0, 0, none_around κ p one (omega arith))
      ]

  -- Law 3.
  pub block_read : (κ : Class) (p : ℕ) → 1 ≤ p → p ≤ greatest_half t κ q → block_of p (starts t κ q p) ≡ read_block t κ q p
  block_read κ p one l = let r = read_around κ p one l in r.3.block ∙ r.4

  block_none : (κ : Class) (p : ℕ) → 1 ≤ p → greatest_half t κ q < p → block_of p (starts t κ q p) ≡ []
  unfolding around
  block_none κ p one l = (none_around κ p one l).block ∙ rw (lt-leb p (0 + 0) (omega arith))

  half_inside : (κ : Class) → greatest_half t κ q ≤ q.to - q.from
  unfolding greatest_half
  half_inside right = omega (arith, size_v, across_cut)
  half_inside left = omega (arith, size_u, across_cut)

  -- So a part's blocks of a class are read from the tables, by rising half.
  pub class_read : (κ : Class) → class_blocks t κ q ≡ flat_map (read_block t κ q) (consecutive 1 (greatest_half t κ q))
  unfolding class_blocks
  class_read κ =
      let h = greatest_half t κ q in
      let rest = q.to - q.from - h in
      let found : ℕ → List Block = λ p. block_of p (starts t κ q p) in
      ap (λ (n : ℕ). flat_map found (consecutive 1 n)) {x = q.to - q.from} {y = h + rest} (omega (arith, half_inside κ))
      ∙ ap (flat_map found) (consecutive-append 1 h rest)
      ∙ flat_map-append found (consecutive 1 h) (consecutive (1 + h) rest)
      ∙ ap₂ ◌++◌
      (flat_map_each found 1 h (read_block t κ q) (λ p l m. block_read κ p l (omega arith)))
      (flat_map_none found (1 + h) rest (λ p l m. block_none κ p (omega arith) (omega arith)))
      ∙ append-nil (flat_map (read_block t κ q) (consecutive 1 h))
