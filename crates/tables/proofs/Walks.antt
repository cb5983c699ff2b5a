-- One position of a walk over a table that is placed in the work space: what a scan and a look find there, and what the work
-- space tells of it. Assumes nothing.
use Prim.Native.Nat.{ℕ, suc, ◌+◌, ◌-◌, ◌*◌, ◌^◌, ◌≤◌, ◌<◌, min}
use mathlib.Core.Path.{◌≡◌, refl, sym, ap, ◌∙◌}
use mathlib.Core.Bool.{Bool, true, false, ◌&&◌, and-eq-true_iff}
use mathlib.Core.List.{List}
use native.Mathlib.Nat.{add-zero}
use native.Mathlib.Omega.{arith}
use lib.Dec.{ltb}
use lib.ListN.{length, get_or, drop, length-drop}
use borrow.Author.Tests.{lt-ltb, le-ltb, ltb-true, ltb-false}
use Rattle.repetition.specs.Numbers.{one_if}
use Rattle.repetition.specs.Tables.{Table, matched, match_at}
use Rattle.repetition.specs.Comparisons.{Walk, free, scan_cost, scanned}
use Rattle.repetition.specs.Limits.{length_limit}
use Rattle.repetition.proofs.Lists.{same_test}
use Rattle.repetition.proofs.Matching.{match_at_is}
use Rattle.repetition.proofs.Walking.{Alive, own, free_match, scan_from, walk_cost}
use Rattle.repetition.proofs.Walking.{after_free, after_scanned, after_alive}
use Rattle.tables.specs.declared.look.Counted.{Counted}
use Rattle.tables.specs.declared.walk.Piece.{Piece}
use Rattle.tables.specs.declared.walk.TableAt.{TableAt}
use Rattle.tables.specs.Letters.{read}
use Rattle.tables.specs.Looks.{looked, common, scan_of, CanScan}
use Rattle.tables.specs.Walks.{table_of, knowing, room_of, InLetters, CanScanAt, Stands, Own, this, earlier}
use Rattle.tables.specs.Progress.{up_to, Filled, Stopped}
use Rattle.tables.proofs.Letters.{length-read}
use Rattle.tables.proofs.Scans.{first_same, match_common}

-- ---- the walk of the definitions, by positions

module _ (m : Table) (i : ℕ) (begun : m.first ≤ i) where
  position : m.first + (i - m.first) ≡ i
  position = omega arith

  next : i + 1 - m.first ≡ suc (i - m.first)
  next = omega arith

  up_to_free : free m i (up_to m i) ≡ true → up_to m (i + 1) ≡ up_to m i
  up_to_free h = rw next (after_free m (i - m.first) (rw position h))

  up_to_scanned : free m i (up_to m i) ≡ false → up_to m (i + 1) ≡ scanned m i (up_to m i)
  up_to_scanned h = rw next (rw position at (after_scanned m (i - m.first) (rw position h)))

  up_to_alive : 0 < (up_to m i).e → Alive m i (up_to m i)
  up_to_alive = rw position at (after_alive m (i - m.first))

  up_to_cost : i ≤ length m.walked → (up_to m i).cost ≤ i + length m.walked
  up_to_cost l = omega (arith, walk_cost m (i - m.first) (omega arith))

-- Both strings go on where the room does.
both_go_on : (i L w p : ℕ) → ltb L (min (w - i) p) ≡ (ltb (i + L) w && ltb L p)
both_go_on i L w p =
    same_test (ltb L (min (w - i) p)) (ltb (i + L) w && ltb L p)
    (λ h. let l = ltb-true L (min (w - i) p) h in rw (lt-ltb (i + L) w (omega arith), lt-ltb L p (omega arith)))
    (λ h.
    let b = (and-eq-true_iff (ltb (i + L) w) (ltb L p)).0 h in
    lt-ltb L (min (w - i) p) (omega (arith, ltb-true (i + L) w b.0, ltb-true L p b.1)))

module _ (s : List ℕ) (a : TableAt) (p : InLetters s a) where
  pub length_walked : length (table_of s a).walked ≡ a.walked.size
  length_walked = length-read s a.walked p.walked_to

  length_pattern : length (table_of s a).pattern ≡ a.pattern.size
  length_pattern = length-read s a.pattern p.pattern_to

  match_within : (i : ℕ) → i ≤ a.walked.size → i + match_at (table_of s a) i ≤ a.walked.size
  match_within i l =
      omega (arith, match_at_is (table_of s a) i, length-drop i (table_of s a).walked, length_walked)

  -- ---- what is found at a position

  module _ (i : ℕ) (l : i < a.walked.size) where
    found : match_at (table_of s a) i ≡ common s (a.walked.from + i) a.pattern.from (room_of a i)
    unfolding match_at
    found = match_common s a.pattern a.walked i p.pattern_to p.walked_to (omega arith)

    -- A look at the first letter tells whether the match length is at least 1.
    pub tells : (count : ℕ) {seen : Counted Bool} → seen ≡ looked s (a.walked.from + i) a.pattern.from count
        → seen ≡ record { found = ltb 0 (match_at (table_of s a) i); count = count + 1 }
    tells count e =
        e
        ∙ rw (
          first_same s (a.walked.from + i) a.pattern.from (room_of a i) (omega (arith, p)) (omega (arith, p)) (omega (arith, p)),
          ← found,
        )

-- What a scan finds is the rule's.
pub record Found (s : List ℕ) (a : TableAt) (i : ℕ) (w : Walk) (r : Counted ℕ) : Type 0 where
  pub match : r.found ≡ match_at (table_of s a) i
  pub short : i + r.found ≤ a.walked.size
  pub limit : i + r.found ≤ 2 * length_limit
  pub walk : record { k = i; e = i + r.found; cost = r.count } ≡ scanned (table_of s a) i w

module _ (s work : List ℕ) (a : TableAt) (i known cost : ℕ) (h : CanScanAt s work a i (knowing i known cost))
    {room : ℕ} (e : room ≡ room_of a i) where
  pub can_scan : CanScan s (a.walked.from + i) a.pattern.from room known cost
  can_scan =
      let p = h.placed.pieces in
      record {
        reads_a = omega (arith, p, h.inside);
        reads_b = omega (arith, p);
        same = rw e (omega (arith, found s a p i h.inside, h.same));
        fits = omega (arith, h.fits);
      }

  pub scan_finds : {r : Counted ℕ} → r ≡ scan_of s (a.walked.from + i) a.pattern.from room known cost
      → Found s a i (knowing i known cost) r
  unfolding scan_of scanned scan_cost
  scan_finds {r} f =
      let p = h.placed.pieces in
      let L = match_at (table_of s a) i in
      let same : r ≡ record { found = L; count = cost + (L - known + one_if (ltb L (room_of a i))) } =
      rw (found s a p i h.inside, ← e) f in
      let from_known : i + known - i ≡ known = omega arith in
      record {
        match = rw same;
        short = rw same (match_within s a p i (omega (arith, h.inside)));
        limit = rw same (omega (arith, match_within s a p i (omega (arith, h.inside)), p, h.placed));
        walk =
            rw (
              same,
              both_go_on i L a.walked.size a.pattern.size,
              length_walked s a p,
              length_pattern s a p,
              from_known,
            );
      }

-- ---- a scan that is told how many letters are the same

scanned_knowing : (m : Table) (i known : ℕ) (w : Walk) → known ≡ w.e - i → scanned m i (knowing i known w.cost) ≡ scanned m i w
unfolding scanned
scanned_knowing m i known w e = let from_known : i + known - i ≡ w.e - i = omega arith in rw from_known

-- one look, and a scan that knows of the first letter
look_first : (m : Table) (i : ℕ) (w : Walk) → w.e ≤ i → 0 < match_at m i
    → scanned m i (knowing i 1 (w.cost + 1)) ≡ scanned m i w
unfolding scanned scan_cost
look_first m i w unreached one =
    let L = match_at m i in
    let last = one_if (ltb (i + L) (length m.walked) && ltb L (length m.pattern)) in
    ap (λ (c : ℕ). record { k = i; e = i + L; cost = c })
    {x = w.cost + 1 + (L - (i + 1 - i) + last)}
    {y = w.cost + (L - (w.e - i) + last)}
    (omega arith)

-- ---- position i of a walk

module _ (s work : List ℕ) (a : TableAt) (i : ℕ) (f : Filled s work a i) where
  pub cost_fits : (up_to (table_of s a) i).cost + a.walked.size + 1 < 2 ^ 32
  cost_fits =
      let long = length_walked s a f.placed.pieces in
      omega (
        arith,
        f.placed,
        f.placed.pieces,
        f.inside,
        up_to_cost (table_of s a) i f.begun (rw long f.inside),
      )

  -- the pattern's own table, as far as the rule can ask for it
  own_stands : Own s work a → (x : ℕ) → 1 ≤ x → (a.first ≡ 1 → x < i) → x < a.pattern.size → Stands s work a x
  unfolding match_at
  own_stands (this pieces places first) x one far _ =
      rw places
      (f.stand x (omega arith) (far first)
      ∙ ap (λ (p : Piece). matched (drop x (read s p)) (read s a.pattern)) (sym pieces))
  own_stands (earlier apart stands) x one far short = stands x one short

  -- where a record reaches it
  module _ (w : Walk) (walk : w ≡ up_to (table_of s a) i) (l : i < w.e) where
    alive : 0 < w.e → Alive (table_of s a) i w
    alive = rw walk (up_to_alive (table_of s a) i f.begun)

    -- where the record puts the position in the pattern's own table
    pub record Asks : Type 0 where
      pub walked : w.k < i
      pub far : a.first ≤ w.k
      pub inside : i - w.k < a.pattern.size
      pub ends : w.e ≤ a.walked.size

    pub asks : Asks
    asks =
        omega (
          arith,
          alive (omega arith),
          match_at_is (table_of s a) w.k,
          length-drop w.k (table_of s a).walked,
          length_walked s a f.placed.pieces,
          length_pattern s a f.placed.pieces,
          f.inside,
        )

    -- The number that is asked for can be read.
    pub can_read : (w.k ≤ i) × (a.own + (i - w.k) < length work)
    can_read = omega (arith, asks, f.placed)

    module _ {len : ℕ} (read_number : len ≡ get_or work (a.own + (i - w.k)) 0) where
      -- It is the pattern's own match length.
      is_own : len ≡ own (table_of s a) i w
      is_own =
          let q = asks in
          read_number ∙ own_stands f.own (i - w.k) (omega arith) (λ first. omega arith) q.inside

      free_is : (b : Bool) → ltb len (w.e - i) ≡ b → free (table_of s a) i w ≡ b
      unfolding free
      free_is b h = rw (lt-ltb i w.e l, ← is_own) h

      -- The position is free, and the walk stays as it is.
      pub free_next : len < w.e - i → (len ≡ match_at (table_of s a) i) × (w ≡ up_to (table_of s a) (i + 1))
      free_next short =
          let h = free_is true (lt-ltb len (w.e - i) short) in (
            is_own ∙ sym (free_match (table_of s a) i w alive h),
            walk ∙ sym (up_to_free (table_of s a) i f.begun (rw (← walk) h)),
          )

      -- It is not free: the record's letters are the same, and it takes a scan.
      module _ (long : w.e - i ≤ len) where
        not_free : free (table_of s a) i w ≡ false
        not_free = free_is false (le-ltb len (w.e - i) long)

        known_same : w.e - i ≤ match_at (table_of s a) i
        known_same = scan_from (table_of s a) i w alive not_free

        scanned_next : up_to (table_of s a) (i + 1) ≡ scanned (table_of s a) i w
        scanned_next = rw (up_to_scanned (table_of s a) i f.begun (rw (← walk) not_free), ← walk)

        pub stop_there : Stopped s work a (record { i = i; known = w.e - i; cost = w.cost })
        stop_there =
            let e = ap (λ (v : Walk). v.cost) walk in
            record {
              filled = f;
              ended = λ end. absurd (omega (arith, asks));
              scannable = λ within. record {
                placed = f.placed;
                inside = within;
                same = omega (arith, known_same);
                fits = omega (arith, cost_fits);
              };
              scans = λ _. scanned_knowing (table_of s a) i (w.e - i) w (omega arith) ∙ sym scanned_next;
            }

  -- where no record reaches it
  module _ (unreached : (up_to (table_of s a) i).e ≤ i) where
    seeks_next : up_to (table_of s a) (i + 1) ≡ scanned (table_of s a) i (up_to (table_of s a) i)
    unfolding free
    seeks_next = up_to_scanned (table_of s a) i f.begun (rw (le-ltb i (up_to (table_of s a) i).e unreached))

    -- Its first letter does not match.
    pub record Passed : Type 0 where
      pub match : 0 ≡ match_at (table_of s a) i
      pub walk : record { k = i; e = i; cost = (up_to (table_of s a) i).cost + 1 } ≡ up_to (table_of s a) (i + 1)

    pub passed : i < a.walked.size → ltb 0 (match_at (table_of s a) i) ≡ false → Passed
    unfolding scanned scan_cost
    passed l h =
        let p = f.placed.pieces in
        let none : match_at (table_of s a) i ≡ 0 = omega (arith, ltb-false 0 (match_at (table_of s a) i) h) in
        let on : ltb (i + 0) (length (table_of s a).walked) ≡ true =
        lt-ltb (i + 0) (length (table_of s a).walked) (rw (length_walked s a p) (omega arith)) in
        let more : ltb 0 (length (table_of s a).pattern) ≡ true =
        lt-ltb 0 (length (table_of s a).pattern) (rw (length_pattern s a p) (omega (arith, p))) in
        let w = up_to (table_of s a) i in
        record {
          match = sym none;
          walk =
              rw (seeks_next, none, on, more, add-zero i)
              (ap (λ (c : ℕ). record { k = i; e = i; cost = c })
              {x = w.cost + 1}
              {y = w.cost + (0 - (w.e - i) + 1)}
              (omega arith));
        }

    -- It does, and a scan goes on from there.
    pub stop_at_match : i < a.walked.size → ltb 0 (match_at (table_of s a) i) ≡ true
        → Stopped s work a (record { i = i; known = 1; cost = (up_to (table_of s a) i).cost + 1 })
    unfolding scanned
    stop_at_match l h =
        let one = ltb-true 0 (match_at (table_of s a) i) h in
        record {
          filled = f;
          ended = λ end. absurd (omega arith);
          scannable = λ _. record {
            placed = f.placed;
            inside = l;
            same = omega (arith, one);
            fits = omega (arith, cost_fits);
          };
          scans = λ _. look_first (table_of s a) i (up_to (table_of s a) i) unreached one ∙ sym seeks_next;
        }

  -- at the end
  pub stop_at_end : a.walked.size ≤ i → Stopped s work a (record { i = i; known = 0; cost = (up_to (table_of s a) i).cost })
  stop_at_end end =
      record {
        filled = f;
        ended = λ _. refl;
        scannable = λ l. absurd (omega arith);
        scans = λ l. absurd (omega arith);
      }
