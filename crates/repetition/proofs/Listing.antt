-- Laws 1 and 2: a block's starts are consecutive, and each repetition lies in exactly one listed block. Assumes nothing.
use Prim.Native.Nat.{ℕ, ◌+◌, ◌*◌, ◌-◌, ◌≤◌, ◌<◌}
use mathlib.Core.Path.{◌≡◌, refl, sym, ap, ap₂, ◌∙◌}
use mathlib.Core.Logic.{◌↔◌, ⊎_elim}
use mathlib.Core.Bool.{Bool, true, false, true≢false, ◌&&◌, not, and-false, and_assoc, and-eq-true_iff}
use mathlib.Core.List.{List, [], ◌∷◌, Memᴰ}
use native.Mathlib.Nat.{add-zero}
use native.Mathlib.Decide.{dec_le}
use native.Mathlib.Omega.{arith}
use borrow.Author.Tests.{not-true, leb-true, eqb-true, le-leb, lt-leb, eq-eqb}
use lib.Dec.{leb, eqb}
use lib.ListN.{length}
use Rattle.repetition.specs.Numbers.{one_if, each_below, consecutive, total, how_many}
use Rattle.repetition.specs.Repetition.{Repetition, stands}
use Rattle.repetition.specs.Cutting.{Part, Class, right, left, parts, belongs, is}
use Rattle.repetition.specs.Blocks.{Block, has, new, starts, block_of, class_blocks, part_blocks, list_of}
use Rattle.repetition.specs.Reading.{around}
use Rattle.repetition.specs.Outcomes.{repetition_free}
use Rattle.repetition.proofs.Lists.{is_false, each_below_at, each_below_true, same_test, total_same, total_zero}
use Rattle.repetition.proofs.Lists.{total_none, total_only, how_many-append, how_many_some, some_counted, OnePlace}
use Rattle.repetition.proofs.Lists.{one_counted, flat_map_member, consecutive_member, how_many-flat_map}
use Rattle.repetition.proofs.Cutting.{parts_within, in_one_part, right_or_left}
use Rattle.repetition.proofs.Repetitions.{New, new_true, true_new, stands_true, true_stands}
use Rattle.repetition.proofs.Reading.{reaches, reaches_none, block_is}

-- ---- the block around a place

leb_same : (a b c d : ℕ) → (a ≤ b → c ≤ d) → (c ≤ d → a ≤ b) → leb a b ≡ leb c d
leb_same a b c d f g = same_test (leb a b) (leb c d) (λ h. le-leb c d (f (leb-true a b h))) (λ h. le-leb a b (g (leb-true c d h)))

module _ (d p back on : ℕ) (low : back ≤ d) where
  run_has : p ≤ back + on → (s p' : ℕ)
      → has s p' (record { half = p; first = d - back; last = d + on - p }) ≡ (eqb p p' && reaches d p back on s)
  unfolding has reaches
  run_has l s p' =
      rw (
        leb_same (d - back) s d (s + back) (λ h. omega arith) (λ h. omega arith),
        leb_same s (d + on - p) (s + p) (d + on) (λ h. omega arith) (λ h. omega arith),
        and_assoc,
      )

  around_count : (s p' : ℕ) → how_many (has s p') (around d p back on) ≡ one_if (eqb p p' && reaches d p back on s)
  unfolding how_many total around
  around_count s p' =
      elim (dec_le p (back + on)) [
        | yes l ↦ rw (le-leb p (back + on) l, run_has l s p', add-zero)
        | no l ↦
            let less : back + on < p = omega arith in
            rw (lt-leb p (back + on) less, reaches_none d p back on s less, and-false)
      ]

  around_member : (b : Block) → Memᴰ b (around d p back on)
      → (b.half ≡ p) × (b.first ≤ b.last) × ((s : ℕ) → has s p b ≡ reaches d p back on s)
  unfolding around
  around_member b m =
      elim (dec_le p (back + on)) [
        | yes l ↦
            let e = mathlib.Core.List.Memᴰ.eq_of_singleton (rw (le-leb p (back + on) l) at m) in
            (ap (λ (x : Block). x.half) e, rw e (omega arith), λ s. rw (e, run_has l s p, eq-eqb p p refl))
        | no l ↦ absurd (mathlib.Core.List.Memᴰ.not-nil (rw (lt-leb p (back + on) (omega arith)) at m))
      ]

-- ---- the blocks of a part

module _ (t : List ℕ) (q : Part) (wide : 2 ≤ q.to - q.from) (inside : q.to ≤ length t) where
  block_count : (κ : Class) (p : ℕ) → 1 ≤ p → (s p' : ℕ)
      → how_many (has s p') (block_of p (starts t κ q p)) ≡ one_if (eqb p p' && new t κ q s p)
  block_count κ p one s p' =
      let r = block_is t q wide inside κ p one in
      rw (r.3.block, r.3.test s) (around_count r.0 p r.1 r.2 r.3.low s p')

  -- Law 1. A block's starts are consecutive: from first to last all are starts of its part, class and half, and no other is.
  pub block_starts : (κ : Class) (p : ℕ) → 1 ≤ p → (b : Block) → Memᴰ b (block_of p (starts t κ q p))
      → (b.half ≡ p) × (b.first ≤ b.last) × ((s : ℕ) → has s p b ≡ new t κ q s p)
  block_starts κ p one b m =
      let r = block_is t q wide inside κ p one in
      let k = around_member r.0 p r.1 r.2 r.3.low b (rw r.3.block at m) in
      (k.0, k.1, λ s. k.2 s ∙ sym (r.3.test s))

  -- Each start of a part, class and half lies in such a block.
  pub start_in_block : (κ : Class) (s p : ℕ) → New t κ q s p
      → (b : Block) × Memᴰ b (block_of p (starts t κ q p)) × (has s p b ≡ true)
  start_in_block κ s p n =
      let one = n.repetition.nonempty in
      some_counted (has s p) (block_of p (starts t κ q p))
      (rw (block_count κ p one s p, eq-eqb p p refl, true_new t κ q s p n) (omega arith))

  none_there : (κ : Class) (p : ℕ) → 1 ≤ p → (s p' : ℕ) → (p ≡ p' → new t κ q s p' ≡ true → ⊥)
      → how_many (has s p') (block_of p (starts t κ q p)) ≡ 0
  none_there κ p one s p' h =
      block_count κ p one s p'
      ∙ ap one_if (is_false (eqb p p' && new t κ q s p) (λ y.
      let x = (and-eq-true_iff (eqb p p') (new t κ q s p)).0 y in
      let e = eqb-true p p' x.0 in
      h e (rw e at x.1)))

  class_count : (κ : Class) (s p : ℕ) → how_many (has s p) (class_blocks t κ q) ≡ one_if (new t κ q s p)
  unfolding class_blocks
  class_count κ s p =
      how_many-flat_map (has s p) (λ p'. block_of p' (starts t κ q p')) (consecutive 1 (q.to - q.from))
      ∙ go (new t κ q s p) refl
    where
      go : (b : Bool) → new t κ q s p ≡ b
          → total (λ p'. how_many (has s p) (block_of p' (starts t κ q p'))) (consecutive 1 (q.to - q.from)) ≡ one_if b
      go true e =
          let n = new_true t κ q s p e in
          let one = n.repetition.nonempty in
          let h = n.part in
          total_only _ 1 (q.to - q.from) p one (omega arith) (λ p' l other. none_there κ p' l s p (λ x y. other x))
          ∙ block_count κ p one s p ∙ rw (eq-eqb p p refl, e)
      go false e = total_none _ 1 (q.to - q.from) (λ p' l m. none_there κ p' l s p (λ x y. true≢false (sym y ∙ e)))

  -- each repetition that belongs to the part lies in one of its blocks
  part_count : (s p : ℕ) → how_many (has s p) (part_blocks t q) ≡ one_if (stands t s p && belongs q s p)
  unfolding part_blocks new
  part_count s p =
      how_many-append (has s p) (class_blocks t right q) (class_blocks t left q)
      ∙ ap₂ ◌+◌ (class_count right s p) (class_count left s p)
      ∙ rw (right_or_left q s p) (go (stands t s p && belongs q s p) (is left q s p))
    where
      go : (x y : Bool) → one_if (x && not y) + one_if (x && y) ≡ one_if x
      go true true = refl
      go true false = refl
      go false y = refl

-- ---- the list

module _ (t : List ℕ) (s p : ℕ) where
  -- a repetition of the text belongs to one part
  part_counted : Repetition t s p → how_many (λ q. belongs q s p) (parts 0 (length t)) ≡ 1
  part_counted r =
      in_one_part 0 (length t) s p
      ∙ rw (le-leb 1 p r.nonempty, le-leb 0 s (omega arith), le-leb (s + 2 * p) (length t) r.within)

  -- Law 2, as one equation: how many listed blocks have the start and half is 1 for a repetition, and 0 for any other.
  pub list_count : how_many (has s p) (list_of t) ≡ one_if (stands t s p)
  unfolding list_of how_many
  list_count =
      how_many-flat_map (has s p) (part_blocks t) (parts 0 (length t))
      ∙ total_same (λ q. how_many (has s p) (part_blocks t q)) (λ q. one_if (stands t s p && belongs q s p)) (parts 0 (length t))
      (λ q m. let w = parts_within 0 (length t) q m in part_count t q w.2 w.1 s p)
      ∙ go (stands t s p) refl
    where
      go : (b : Bool) → stands t s p ≡ b → total (λ q. one_if (b && belongs q s p)) (parts 0 (length t)) ≡ one_if b
      go true e = part_counted (stands_true t s p e)
      go false e = total_zero (parts 0 (length t))

  -- Law 2. A repetition belongs to exactly one part, and there, by right_or_left, to exactly one class.
  pub in_part : (none : Part) → Repetition t s p → OnePlace (λ q. belongs q s p) none (parts 0 (length t))
  in_part none r = one_counted (λ q. belongs q s p) none (parts 0 (length t)) (part_counted r)

  -- A repetition lies in exactly one listed block: there is a place in the list, and only one.
  pub in_block : (none : Block) → Repetition t s p → OnePlace (has s p) none (list_of t)
  in_block none r = one_counted (has s p) none (list_of t) (list_count ∙ ap one_if (true_stands t s p r))

  pub repetition_listed : Repetition t s p → (b : Block) × Memᴰ b (list_of t) × (has s p b ≡ true)
  repetition_listed r = some_counted (has s p) (list_of t) (rw (list_count, true_stands t s p r) (omega arith))

  -- Each start and half of a listed block is a repetition.
  pub listed_repetition : (b : Block) → Memᴰ b (list_of t) → has s p b ≡ true → Repetition t s p
  listed_repetition b m h = stands_true t s p (go (stands t s p) refl)
    where
      go : (x : Bool) → stands t s p ≡ x → x ≡ true
      go true e = refl
      go false e = absurd (omega (arith, how_many_some (has s p) b (list_of t) m h, list_count ∙ ap one_if e))

pub has_half : (s p : ℕ) (b : Block) → has s p b ≡ true → b.half ≡ p
unfolding has
has_half s p b h =
    let x = (and-eq-true_iff (eqb b.half p && leb b.first s) (leb s b.last)).0 h in
    eqb-true b.half p ((and-eq-true_iff (eqb b.half p) (leb b.first s)).0 x.0).0

-- a block that does not run backward has its first start
has_first : (b : Block) → b.first ≤ b.last → has b.first b.half b ≡ true
unfolding has
has_first b l = rw (eq-eqb b.half b.half refl, le-leb b.first b.first (omega arith), le-leb b.first b.last l)

module _ (t : List ℕ) where
  listed_in_class : (q : Part) → Memᴰ q (parts 0 (length t)) → (κ : Class) (b : Block) → Memᴰ b (class_blocks t κ q)
      → b.first ≤ b.last
  unfolding class_blocks
  listed_in_class q m κ b n =
      let w = parts_within 0 (length t) q m in
      let p = flat_map_member (λ p. block_of p (starts t κ q p)) b (consecutive 1 (q.to - q.from)) n in
      let one = consecutive_member 1 (q.to - q.from) p.0 p.1 in
      (block_starts t q w.2 w.1 κ p.0 one.0 b p.2).1

  -- a listed block has a start
  pub listed_start : (b : Block) → Memᴰ b (list_of t) → has b.first b.half b ≡ true
  unfolding list_of part_blocks
  listed_start b m =
      let q = flat_map_member (part_blocks t) b (parts 0 (length t)) m in
      has_first b (⊎_elim (listed_in_class q.0 q.1 right b) (listed_in_class q.0 q.1 left b)
      (mathlib.Core.List.Memᴰ.append_cases (class_blocks t right q.0) q.2))

  -- The list is empty exactly when the text has no repetition.
  pub empty_list : (list_of t ≡ []) ↔ ((s p : ℕ) → Repetition t s p → ⊥)
  unfolding how_many
  empty_list = (
    λ e s p r. omega (arith, sym (list_count t s p) ∙ ap (how_many (has s p)) e, ap one_if (true_stands t s p r)),
    go (list_of t) refl,
  )
    where
      go : (bs : List Block) → list_of t ≡ bs → ((s p : ℕ) → Repetition t s p → ⊥) → bs ≡ []
      go [] e none = refl
      go (b ∷ bs) e none =
          let m : Memᴰ b (list_of t) = rw e (mathlib.Core.List.Memᴰ.head refl) in
          absurd (none b.first b.half (listed_repetition t b.first b.half b m (listed_start b m)))

  -- The free test says yes exactly then.
  pub free_text : (repetition_free t ≡ true) ↔ ((s p : ℕ) → Repetition t s p → ⊥)
  unfolding repetition_free
  free_text =
      let n = length t in
      let fails : ℕ → ℕ → Bool = λ s p. not (stands t s p) in (
        λ e s p r.
            let w = r.within in
            let one = r.nonempty in
            let x = each_below_at n (fails s) (each_below_at n (λ s. each_below n (fails s)) e s (omega arith)) p (omega arith) in
            true≢false (sym (true_stands t s p r) ∙ not-true (stands t s p) x),
        λ none.
            each_below_true n (λ s. each_below n (fails s)) (λ s l.
            each_below_true n (fails s) (λ p m. ap not (is_false (stands t s p) (λ h. none s p (stands_true t s p h))))),
      )
