-- A whole text is searched: what is kept of all its parts, and the three outcomes. Assumes nothing.
use Prim.Native.Nat.{ℕ, ◌+◌, ◌-◌, ◌*◌, ◌≤◌, ◌<◌}
use mathlib.Core.Path.{◌≡◌, sym, ap, ap₂, subst, ◌∙◌}
use mathlib.Core.Logic.{⊎_elim}
use mathlib.Core.List.Memᴰ
use mathlib.Core.List.{List, [], ◌∷◌, ◌++◌, append-nil, append_assoc, flat_map, Memᴰ}
use native.Mathlib.Nat.{zero-add, add-zero, add_assoc}
use native.Mathlib.Omega.{arith}
use native.Mathlib.Decide.{dec_lt}
use borrow.Author.Tests.{lt-ltb, le-ltb}
use Rattle.std.specs.Prelude.{Ok, Err}
use lib.ListN.{length, take, drop, replicate, length-replicate}
use lib.Seq.{length-take-le}
use Rattle.repetition.specs.Numbers.{consecutive, total}
use Rattle.repetition.specs.Cutting.{Part, Class, right, left, parts}
use Rattle.repetition.specs.Blocks.{Block, starts, block_of, class_blocks, part_blocks, list_of}
use Rattle.repetition.specs.Comparisons.{part_comparisons, comparisons}
use Rattle.repetition.specs.Limits.{length_limit, greatest_depth}
use Rattle.repetition.specs.Memory.{over, written, cleared}
use Rattle.repetition.proofs.Lists.{flat_map_member, consecutive_member}
use Rattle.repetition.proofs.Cutting.{parts_total}
use Rattle.tables.specs.Letters.{both_ways, text_of, BothWays}
use Rattle.tables.specs.Parts.{letters}
use Rattle.tables.proofs.Letters.{length_both, text_of_both}
use Rattle.finder.specs.declared.tally.Tally.{Tally}
use Rattle.finder.specs.declared.reply.Refusal.TheVariants.{TextTooLong, WorkTooShort}
use Rattle.finder.specs.Kept.{Kept, kept, no_tally, found, found_all}
use Rattle.finder.specs.Finding.{CanFind}
use Rattle.finder.specs.Searching.{CanSearch, kept_of, tally_of, SearchesAll, Searched, Sought, searched, searching}
use Rattle.finder.proofs.Written.{kept_after, kept_none, put_after}

-- ---- what is kept of all parts

one_half : (p : ℕ) (ss : List ℕ) (b : Block) → Memᴰ b (block_of p ss) → b.half ≡ p
unfolding block_of
one_half p [] b m = absurd (Memᴰ.not-nil m)
one_half p (s ∷ ss) b m = ⊎_elim (λ e. ap (λ (c : Block). c.half) e) (λ n. absurd (Memᴰ.not-nil n)) (Memᴰ.cases_cons m)

halves_class : (t : List ℕ) (κ : Class) (q : Part) (b : Block) → Memᴰ b (class_blocks t κ q) → 1 ≤ b.half
unfolding class_blocks
halves_class t κ q b m =
    let r = flat_map_member (λ p. block_of p (starts t κ q p)) b (consecutive 1 (q.to - q.from)) m in
    omega (arith, one_half r.0 (starts t κ q r.0) b r.2, consecutive_member 1 (q.to - q.from) r.0 r.1)

halves : (t : List ℕ) (q : Part) (b : Block) → Memᴰ b (part_blocks t q) → 1 ≤ b.half
unfolding part_blocks
halves t q b m = ⊎_elim (halves_class t right q b) (halves_class t left q b) (Memᴰ.append_cases (class_blocks t right q) m)

found_after : (t report : List ℕ) (n : ℕ) (bs : List Block) (qs : List Part)
    → found_all t (kept_after report n bs) qs
    ≡ kept_after report (n + total (part_comparisons t) qs) (bs ++ flat_map (part_blocks t) qs)
unfolding found total flat_map
found_after t report n bs [] = ap₂ (kept_after report) (sym (add-zero n)) (sym (append-nil bs))
found_after t report n bs (q ∷ qs) =
    ap (λ (k : Kept). found_all t k qs) (put_after report (n + part_comparisons t q) bs (part_blocks t q) (halves t q))
    ∙ found_after t report (n + part_comparisons t q) (bs ++ part_blocks t q) qs
    ∙ ap₂ (kept_after report) (add_assoc n (part_comparisons t q) (total (part_comparisons t) qs))
    (append_assoc bs (part_blocks t q) (flat_map (part_blocks t) qs))

found_text : (t report : List ℕ) {y : Tally} {k : Kept} → k ≡ found_all t (kept report y) (parts 0 (length t)) → y ≡ no_tally
    → k ≡ kept_of t report
unfolding tally_of list_of comparisons
found_text t report e none =
    e ∙ ap (λ (y : Tally). found_all t (kept report y) (parts 0 (length t))) none
    ∙ ap (λ (k : Kept). found_all t k (parts 0 (length t))) (kept_none report)
    ∙ found_after t report 0 [] (parts 0 (length t))
    ∙ ap (λ (n : ℕ). kept_after report n (list_of t)) (zero-add _)

-- ---- the tally at the start

pub none_yet : (y : Tally) → (y.blocks ≡ 0) × ((y.comparisons ≡ 0) × ((y.half ≡ 0) × (y.start ≡ 0))) → y ≡ no_tally
none_yet y e = grind arith

-- ---- counts never wrap

can_find : (t work : List ℕ) → CanSearch t work → CanFind t work 0 (length t) no_tally
can_find t work can =
    let l = parts_total letters 1 0 (length t) greatest_depth (λ q _ _ _. omega arith) (omega (arith, can)) in
    record {
      ordered = omega arith;
      inside = omega arith;
      limit = can.limit;
      room = omega (arith, can.room);
      counts = omega (arith, can.limit, l);
    }

-- ---- the letters that are lent

module _ (t : List ℕ) {s : List ℕ} (lent : s ≡ both_ways t) where
  text_is : text_of s ≡ t
  text_is = ap text_of lent ∙ text_of_both t

  pub can_lend : BothWays s
  can_lend = lent ∙ ap both_ways (sym text_is)

  module _ {r : List ℕ} (is : r ≡ text_of s) where
    pub can_find_lent : (work : List ℕ) → CanSearch t work → {y : Tally} → y ≡ no_tally → CanFind r work 0 (length t) y
    can_find_lent work can none = rw (is, text_is, none) (can_find t work can)

    pub found_lent : (report : List ℕ) {y : Tally} {k : Kept} → k ≡ found_all r (kept report y) (parts 0 (length t))
        → y ≡ no_tally → k ≡ kept_of t report
    found_lent report e none = found_text t report (rw (is, text_is) at e) none

  pub letters_over : (buffer : List ℕ) → s ++ drop (2 * length t) buffer ≡ over (both_ways t) buffer
  unfolding over
  letters_over buffer = rw (lent, length_both t)

-- ---- the three outcomes

module _ (t work : List ℕ) (l : length t ≤ length_limit) (m : 2 * length t ≤ length work) where
  first_part : 2 * length t ≡ length (take (2 * length t) work)
  first_part = sym (length-take-le (2 * length t) work m)

  pub can_search : CanSearch t (take (2 * length t) work)
  can_search = record { limit = l; room = omega (arith, first_part) }

  cleared_is : {work' : List ℕ} → work' ≡ replicate (length (take (2 * length t) work)) 0
      → work' ++ drop (2 * length t) work ≡ cleared (length t) work
  unfolding cleared over
  cleared_is f = rw (f, ← first_part, length-replicate)

module _ (t work report : List ℕ) where
  pub searched_long : length_limit < length t → searched (Err TextTooLong) work report ≡ searching t work report
  unfolding searching
  searched_long l = rw (lt-ltb length_limit (length t) l, searching)

  pub searched_short : length t ≤ length_limit → length work < 2 * length t
      → searched (Err WorkTooShort) work report ≡ searching t work report
  unfolding searching
  searched_short l m = rw (le-ltb length_limit (length t) l, lt-ltb (length work) (2 * length t) m, searching)

  whole_found : length t ≤ length_limit → 2 * length t ≤ length work
      → searched (Ok (tally_of t)) (cleared (length t) work) (written (list_of t) report) ≡ searching t work report
  unfolding searching
  whole_found l m = rw (le-ltb length_limit (length t) l, le-ltb (length work) (2 * length t) m, searching)

  pub searched_found : length t ≤ length_limit → 2 * length t ≤ length work
      → {y : Tally} {work' report' : List ℕ} → SearchesAll t (take (2 * length t) work) report y work' report'
      → searched (Ok y) (work' ++ drop (2 * length t) work) report' ≡ searching t work report
  searched_found l m all =
      ap₂ (λ (k : Kept) (w : List ℕ). searched (Ok k.tally) w k.report) all.keeps
      (cleared_is t work l m all.leaves_work) ∙ whole_found l m

  -- What holds of each of the three outcomes holds of the outcome.
  pub by_outcome : (P : Searched → List ℕ → List ℕ → Type 0)
      → (length_limit < length t → P (Err TextTooLong) work report)
      → (length t ≤ length_limit → length work < 2 * length t → P (Err WorkTooShort) work report)
      → (length t ≤ length_limit → 2 * length t ≤ length work
      → P (Ok (tally_of t)) (cleared (length t) work) (written (list_of t) report))
      → {r : Searched} {work' report' : List ℕ} → searched r work' report' ≡ searching t work report → P r work' report'
  by_outcome P long short whole e =
      elim (dec_lt length_limit (length t)) [
        | yes l ↦ at (e ∙ sym (searched_long l)) (long l)
        | no l ↦ elim (dec_lt (length work) (2 * length t)) [
          | yes m ↦ at (e ∙ sym (searched_short (omega arith) m)) (short (omega arith) m)
          | no m ↦ at (e ∙ sym (whole_found (omega arith) (omega arith))) (whole (omega arith) (omega arith))
        ]
      ]
    where
      at : {a b : Sought} → a ≡ b → P b.result b.work b.report → P a.result a.work a.report
      at e x = subst (λ (o : Sought). P o.result o.work o.report) (sym e) x
