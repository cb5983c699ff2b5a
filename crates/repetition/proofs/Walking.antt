-- Laws 4 and 5 of the counting rule of specs/Comparisons.antt: a free position's match length, where a scan may start,
-- and what a walk costs. Assumes nothing.
use Prim.Native.Nat.{ℕ, zero, suc, ◌+◌, ◌*◌, ◌-◌, ◌≤◌, ◌<◌, max}
use mathlib.Core.Path.{◌≡◌, refl, sym, ◌∙◌}
use mathlib.Core.Bool.{Bool, true, false, cond, and-eq-true_iff}
use native.Mathlib.Omega.{arith, by_contra}
use lib.ListN.{length, drop, get_or, length-drop}
use lib.Dec.{ltb}
use lib.Seq.{get_or-drop}
use borrow.Author.Tests.{ltb-true, ltb-false, lt-ltb}
use Rattle.repetition.specs.Numbers.{one_if}
use Rattle.repetition.specs.Tables.{Table, match_at, itself}
use Rattle.repetition.specs.Comparisons.{Walk, free, look_ended, scan_cost, scanned, after, table_cost}
use Rattle.repetition.proofs.Matching.{IsMatch, match_at_is, le_matched, matched_unique}

-- The record of a walk that stands at position i is true.
pub record Alive (m : Table) (i : ℕ) (w : Walk) : Type 0 where
  pub from_first : m.first ≤ w.k
  pub before : w.k < i
  pub end : w.e ≡ w.k + match_at m w.k

-- the pattern's own match length where the record puts position i
abbrev pub own : Table → ℕ → Walk → ℕ
own m i w = match_at (itself m.pattern) (i - w.k)

own_is : (m : Table) (i : ℕ) (w : Walk) → IsMatch (drop (i - w.k) m.pattern) m.pattern (own m i w)
own_is m i w = match_at_is (itself m.pattern) (i - w.k)

-- the record ends in the walked text
record_within : (m : Table) (i : ℕ) (w : Walk) → Alive m i w → w.e - i ≤ length m.walked - i
record_within m i w a = omega (arith, match_at_is m w.k, length-drop w.k m.walked)

module _ (m : Table) (i : ℕ) (w : Walk) (a : Alive m i w) (ahead : i < w.e) where
  -- the record's letters, seen from position i
  seen : (x : ℕ) → x < w.e - i → get_or (drop i m.walked) x 0 ≡ get_or (drop (i - w.k) m.pattern) x 0
  seen x h =
      let place : w.k + (i - w.k + x) ≡ i + x = omega arith in
      cc (
        get_or-drop i m.walked x 0,
        get_or-drop (i - w.k) m.pattern x 0,
        get_or-drop w.k m.walked (i - w.k + x) 0,
        (match_at_is m w.k).agree (i - w.k + x) (omega arith),
      )

  -- A free position's match length is the pattern's own, and no letter of the walked text is looked at.
  pub free_length : own m i w < w.e - i → match_at m i ≡ own m i w
  unfolding match_at
  free_length h =
      let r = own_is m i w in
      sym (matched_unique (drop i m.walked) m.pattern (own m i w) (record {
        within_left = simp length-drop (omega (arith, record_within m i w a));
        within_right = r.within_right;
        agree = λ x l. seen x (omega arith) ∙ r.agree x l;
        stop = λ hx hy e.
            r.stop (simp length-drop (omega (arith, match_at_is m w.k))) hy (sym (seen (own m i w) h) ∙ e);
      }))

  -- The record has the letters before e already.
  pub scan_start : w.e - i ≤ own m i w → w.e - i ≤ match_at m i
  unfolding match_at
  scan_start h =
      let r = own_is m i w in
      le_matched (drop i m.walked) m.pattern (w.e - i) (simp length-drop (record_within m i w a)) (omega arith)
      (λ x l. seen x l ∙ r.agree x (omega arith))

pub free_true : (m : Table) (i : ℕ) (w : Walk) → free m i w ≡ true → (i < w.e) × (own m i w < w.e - i)
unfolding free
free_true m i w h =
    let p = (and-eq-true_iff (ltb i w.e) (ltb (own m i w) (w.e - i))).0 h in
    (ltb-true i w.e p.0, ltb-true (own m i w) (w.e - i) p.1)

pub free_false : (m : Table) (i : ℕ) (w : Walk) → free m i w ≡ false → i < w.e → w.e - i ≤ own m i w
unfolding free
free_false m i w h ahead = ltb-false (own m i w) (w.e - i) (rw (lt-ltb i w.e ahead) at h)

-- The rule's free case, as it tests for it: there is a record then.
pub free_match : (m : Table) (i : ℕ) (w : Walk) → (0 < w.e → Alive m i w) → free m i w ≡ true → match_at m i ≡ own m i w
free_match m i w alive h =
    let f = free_true m i w h in
    free_length m i w (alive (omega arith)) f.0 f.1

-- The rule's scanning case: there may be no record, and then e - i is 0.
pub scan_from : (m : Table) (i : ℕ) (w : Walk) → (0 < w.e → Alive m i w) → free m i w ≡ false → w.e - i ≤ match_at m i
scan_from m i w alive h =
    by_contra _ _ (λ short.
    let ahead : i < w.e = omega arith in
    omega (arith, scan_start m i w (alive (omega arith)) ahead (free_false m i w h ahead)))

pub after_free : (m : Table) (n : ℕ) → free m (m.first + n) (after m n) ≡ true → after m (suc n) ≡ after m n
unfolding after
after_free m n h = rw h

pub after_scanned : (m : Table) (n : ℕ) → free m (m.first + n) (after m n) ≡ false
    → after m (suc n) ≡ scanned m (m.first + n) (after m n)
unfolding after
after_scanned m n h = rw h

one_if_le : (b : Bool) → one_if b ≤ 1
one_if_le true = omega arith
one_if_le false = omega arith

scan_cost_le : (m : Table) (i j L : ℕ) → scan_cost m i j L ≤ L - j + 1
unfolding scan_cost
scan_cost_le m i j L = omega (arith, one_if_le (look_ended m i L))

-- What a walk keeps. Of a scan's cost 1 is the position's, and the rest moves the larger of e and the position on.
record Kept (m : Table) (n : ℕ) (w : Walk) : Type 0 where
  alive : 0 < w.e → Alive m (m.first + n) w
  paid : w.cost + m.first ≤ n + max w.e (m.first + n)

after_kept : (m : Table) (n : ℕ) → Kept m n (after m n)
unfolding after
after_kept m zero = omega arith
after_kept m (suc n) = by_test (free m (m.first + n) (after m n)) refl (after_kept m n)
  where
    by_test : {w : Walk} (b : Bool) → free m (m.first + n) w ≡ b → Kept m n w
        → Kept m (suc n) (cond b w (scanned m (m.first + n) w))
    by_test true h r = record { alive = λ p. let a = r.alive p in omega arith; paid = omega arith }
    by_test {w} false h r =
        let i : ℕ = m.first + n in
        omega (arith, scan_from m i w r.alive h, scan_cost_le m i (w.e - i) (match_at m i))

pub after_alive : (m : Table) (n : ℕ) → 0 < (after m n).e → Alive m (m.first + n) (after m n)
after_alive m n = (after_kept m n).alive

-- A walk costs at most 1 for each position walked and 1 for each letter from the first position on.
-- The letters' part can be paid early: the first scan may look at all of them.
pub walk_cost : (m : Table) (n : ℕ) → m.first + n ≤ length m.walked
    → (after m n).cost ≤ n + (length m.walked - m.first)
walk_cost m n h =
    by_contra _ _ (λ dear.
    let r = after_kept m n in
    omega (arith, record_within m (m.first + n) (after m n) (r.alive (omega arith))))

pub table_cost_bound : (m : Table) → m.first ≤ length m.walked → table_cost m ≤ 2 * (length m.walked - m.first)
unfolding table_cost
table_cost_bound m h = omega (arith, walk_cost m (length m.walked - m.first) (omega arith))
