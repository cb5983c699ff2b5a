-- What stands in a work space with a table, or a part of one, in it. Assumes nothing.
use Prim.Native.Nat.{ℕ, zero, suc, ◌+◌, ◌-◌, ◌≤◌, ◌<◌}
use mathlib.Core.Path.{◌≡◌, ap, ◌∙◌}
use mathlib.Core.List.{List, ◌++◌, map}
use native.Mathlib.Omega.{arith}
use lib.ListN.{length, get_or, set, take, drop, length-map, get_or-append}
use lib.Seq.{paste, paste-zero, paste-suc, length-paste, length_paste_head, length-take-le}
use lib.Seq.{get_or-append-add, get_or-take}
use Rattle.repetition.specs.Numbers.{consecutive}
use Rattle.repetition.specs.Tables.{Table, match_at}
use Rattle.repetition.proofs.Lists.{length-consecutive}
use Rattle.tables.specs.Walks.{lengths, with_table}
use Rattle.tables.specs.Progress.{partly}

-- ---- a list with some of its elements replaced

get_or_append_from : (xs ys : List ℕ) (x : ℕ) → length xs ≤ x → get_or (xs ++ ys) x 0 ≡ get_or ys (x - length xs) 0
get_or_append_from xs ys x h =
    ap (λ (y : ℕ). get_or (xs ++ ys) y 0) {x = x} {y = length xs + (x - length xs)} (omega arith)
    ∙ get_or-append-add xs ys (x - length xs) 0

module _ (d : List ℕ) (at : ℕ) (s : List ℕ) (n : ℕ) (fits : at + n ≤ length d) (enough : n ≤ length s) where
  head : length (take at d ++ take n s) ≡ at + n
  head = length_paste_head d at s n (omega arith) enough

  front : length (take at d) ≡ at
  front = length-take-le at d (omega arith)

  get_or_paste_before : (x : ℕ) → x < at → get_or (paste d at s n) x 0 ≡ get_or d x 0
  get_or_paste_before x l =
      get_or-append (take at d ++ take n s) (drop (at + n) d) 0 x (omega (arith, head))
      ∙ get_or-append (take at d) (take n s) 0 x (omega (arith, front))
      ∙ get_or-take at d x 0 l

  get_or_paste_in : (x : ℕ) → x < n → get_or (paste d at s n) (at + x) 0 ≡ get_or s x 0
  get_or_paste_in x l =
      get_or-append (take at d ++ take n s) (drop (at + n) d) 0 (at + x) (omega (arith, head))
      ∙ get_or_append_from (take at d) (take n s) (at + x) (omega (arith, front))
      ∙ ap (λ (y : ℕ). get_or (take n s) y 0) {x = at + x - length (take at d)} {y = x} (omega (arith, front))
      ∙ get_or-take n s x 0 l

-- ---- a table's match lengths

get_or-map-consecutive : (f : ℕ → ℕ) (a n x : ℕ) → x < n → get_or (map f (consecutive a n)) x 0 ≡ f (a + x)
unfolding consecutive
get_or-map-consecutive f a zero x l = absurd (omega arith)
get_or-map-consecutive f a (suc n) zero l = ap f {x = a} {y = a + 0} (omega arith)
get_or-map-consecutive f a (suc n) (suc x) l =
    get_or-map-consecutive f (suc a) n x (omega arith) ∙ ap f {x = suc a + x} {y = a + suc x} (omega arith)

length-lengths : (m : Table) → length (lengths m) ≡ length m.walked - m.first
unfolding lengths
length-lengths m =
    length-map (consecutive m.first (length m.walked - m.first)) (match_at m)
    ∙ length-consecutive m.first (length m.walked - m.first)

get_or-lengths : (m : Table) (x : ℕ) → x < length m.walked - m.first → get_or (lengths m) x 0 ≡ match_at m (m.first + x)
unfolding lengths
get_or-lengths m x l = get_or-map-consecutive (match_at m) m.first (length m.walked - m.first) x l

-- ---- a work space with a table's match lengths up to position i in it

module _ (m : Table) (at i : ℕ) (work : List ℕ) (reached : i ≤ length m.walked)
    (room : at + length m.walked ≤ length work) (walks : m.first ≤ length m.walked) where
  enough : i - m.first ≤ length (lengths m)
  enough = omega (arith, length-lengths m)

  fits : at + m.first + (i - m.first) ≤ length work
  fits = omega arith

  pub length-partly : length (partly m at i work) ≡ length work
  unfolding partly
  length-partly = length-paste work (at + m.first) (lengths m) (i - m.first) fits enough

  pub partly_entry : (x : ℕ) → m.first ≤ x → x < i → get_or (partly m at i work) (at + x) 0 ≡ match_at m x
  unfolding partly
  partly_entry x f l =
      ap (λ (y : ℕ). get_or (partly m at i work) y 0) {x = at + x} {y = at + m.first + (x - m.first)} (omega arith)
      ∙ get_or_paste_in work (at + m.first) (lengths m) (i - m.first) fits enough (x - m.first) (omega arith)
      ∙ get_or-lengths m (x - m.first) (omega arith)
      ∙ ap (match_at m) {x = m.first + (x - m.first)} {y = x} (omega arith)

  pub partly_before : (x : ℕ) → x < at + m.first → get_or (partly m at i work) x 0 ≡ get_or work x 0
  unfolding partly
  partly_before = get_or_paste_before work (at + m.first) (lengths m) (i - m.first) fits enough

pub partly_none : (m : Table) (at i : ℕ) (work : List ℕ) → i ≤ m.first → work ≡ partly m at i work
unfolding partly
partly_none m at i work none =
    paste-zero work (at + m.first) (lengths m)
    ∙ ap (paste work (at + m.first) (lengths m)) {x = 0} {y = i - m.first} (omega arith)

pub partly_next : (m : Table) (at i : ℕ) (work : List ℕ) → m.first ≤ i → i < length m.walked
    → at + length m.walked ≤ length work → set (partly m at i work) (at + i) (match_at m i) ≡ partly m at (i + 1) work
unfolding partly
partly_next m at i work begun l room =
    let n = i - m.first in
    let place : at + m.first + n ≡ at + i = omega arith in
    let position : m.first + n ≡ i = omega arith in
    let next : suc n ≡ i + 1 - m.first = omega arith in
    rw (← place, ← next)
    (rw (rw position at (get_or-lengths m n (omega arith))) at
    (paste-suc work (at + m.first) (lengths m) n 0 (omega arith) (omega (arith, length-lengths m))))

-- ---- a work space with a whole table in it

-- The table has its first position, and room in the work space.
pub record Lies (m : Table) (at : ℕ) (work : List ℕ) : Type 0 where
  pub walks : m.first ≤ length m.walked
  pub room : at + length m.walked ≤ length work

module _ {m : Table} {at : ℕ} {work : List ℕ} (lies : Lies m at work) where
  whole : length m.walked ≤ length m.walked
  whole = omega arith

  pub length-with_table : length (with_table m at work) ≡ length work
  unfolding with_table partly
  length-with_table = length-partly m at (length m.walked) work whole lies.room lies.walks

  pub table_entry : (i : ℕ) → m.first ≤ i → i < length m.walked → get_or (with_table m at work) (at + i) 0 ≡ match_at m i
  unfolding with_table partly
  table_entry = partly_entry m at (length m.walked) work whole lies.room lies.walks

  pub before_table : (x : ℕ) → x < at + m.first → get_or (with_table m at work) x 0 ≡ get_or work x 0
  unfolding with_table partly
  before_table = partly_before m at (length m.walked) work whole lies.room lies.walks
