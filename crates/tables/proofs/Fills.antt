-- A walk over all positions of a table fills it. Assumes nothing.
use Prim.Native.Nat.{ℕ, ◌+◌, ◌-◌, ◌*◌, ◌^◌, ◌≤◌, ◌<◌}
use mathlib.Core.Path.{◌≡◌, refl, sym, ap, ◌∙◌}
use mathlib.Core.Bool.{Bool, true, false}
use mathlib.Core.List.{List}
use native.Mathlib.Decide.{dec_lt}
use native.Mathlib.Omega.{arith}
use lib.Dec.{ltb}
use lib.ListN.{length, get_or, set, length-set}
use lib.Seq.{get_or-set_same, get_or-set_other}
use Rattle.repetition.specs.Tables.{match_at, itself}
use Rattle.repetition.specs.Comparisons.{Walk, start, scanned, after, table_cost}
use Rattle.repetition.specs.Limits.{length_limit}
use Rattle.repetition.proofs.Walking.{table_cost_bound}
use Rattle.tables.specs.declared.look.Counted.{Counted}
use Rattle.tables.specs.declared.walk.Piece.{Piece}
use Rattle.tables.specs.declared.walk.TableAt.{TableAt}
use Rattle.tables.specs.declared.walk.Stop.{Stop}
use Rattle.tables.specs.Letters.{read}
use Rattle.tables.specs.Looks.{looked}
use Rattle.tables.specs.Walks.{table_of, knowing, with_entry, with_table, Own, this, earlier, CanFill, Fills}
use Rattle.tables.specs.Progress.{up_to, partly, Filled, Walked, Seeking, Stopped, Further}
use Rattle.tables.proofs.Letters.{length-read}
use Rattle.tables.proofs.Walks.{length_walked, tells, cost_fits, asks, can_read, free_next, stop_there}
use Rattle.tables.proofs.Walks.{Passed, passed, stop_at_match, stop_at_end}
use Rattle.tables.proofs.Filled.{partly_none, partly_next}

-- ---- how far a work space has come

pub further_none : (s : List ℕ) (a : TableAt) (i : ℕ) (work : List ℕ) → Further s work a i i work
further_none s a i work = record { onward = omega arith; as_long = refl; put = λ w long e. e }

pub further_still : {s : List ℕ} {a : TableAt} {i j l : ℕ} {x y z : List ℕ} → Further s x a i j y → Further s y a j l z
    → Further s x a i l z
further_still g h =
    record {
      onward = omega (arith, g.onward, h.onward);
      as_long = h.as_long ∙ g.as_long;
      put = λ w long e. h.put w (long ∙ sym g.as_long) (g.put w long e);
    }

-- ---- one match length more

module _ (s work : List ℕ) (a : TableAt) (i : ℕ) (f : Filled s work a i) (l : i < a.walked.size)
    {len : ℕ} (is : len ≡ match_at (table_of s a) i) {work' : List ℕ} (stored : work' ≡ set work (a.at + i) len) where
  same_length : length work' ≡ length work
  same_length = rw (stored, length-set)

  elsewhere : (x : ℕ) → (x ≡ a.at + i → ⊥) → get_or work' x 0 ≡ get_or work x 0
  elsewhere x apart = rw stored (get_or-set_other work (a.at + i) x len 0 apart)

  own_next : Own s work a → Own s work' a
  own_next (this pieces places first) = this pieces places first
  own_next (earlier apart stands) =
      earlier apart (λ x one short. elsewhere (a.own + x) (λ e. omega arith) ∙ stands x one short)

  filled_next : Filled s work' a (i + 1)
  filled_next =
      record {
        placed =
            let e = same_length in
            record {
              pieces = f.placed.pieces;
              own_room = omega (arith, f.placed);
              room = omega (arith, f.placed);
              limit = f.placed.limit;
            };
        own = own_next f.own;
        begun = omega (arith, f.begun);
        inside = omega arith;
        stand = λ x b h.
            elim (dec_lt x i) [
              | yes k ↦ elsewhere (a.at + x) (λ e. omega arith) ∙ f.stand x b k
              | no k ↦
                  ap (λ (y : ℕ). get_or work' (a.at + y) 0) {x = x} {y = i} (omega arith)
                  ∙ rw stored (get_or-set_same work (a.at + i) len 0 (omega (arith, f.placed)))
                  ∙ is
                  ∙ ap (match_at (table_of s a)) {x = i} {y = x} (omega arith)
            ];
      }

  further_next : {m : ℕ} {work₀ : List ℕ} → Further s work₀ a m i work → Further s work₀ a m (i + 1) work'
  further_next g =
      let walked = length_walked s a f.placed.pieces in
      record {
        onward = omega (arith, g.onward);
        as_long = same_length ∙ g.as_long;
        put = λ w long e.
            stored
            ∙ rw (is, g.put w long e)
            (partly_next (table_of s a) a.at i w f.begun (omega arith) (omega (arith, f.placed, g.as_long)));
      }

-- ---- a walk that no record helps

module _ (s work : List ℕ) (a : TableAt) (i cost : ℕ) (k : Seeking s work a i cost) where
  pub seek_ends : a.walked.size ≤ i → Stopped s work a (record { i = i; known = 0; cost = cost })
  seek_ends end = rw k.so_far (stop_at_end s work a i k.filled end)

  module _ (l : i < a.walked.size) where
    -- What the look and the store at this position need.
    pub record Looks : Type 0 where
      pub walked_inside : a.walked.from + i < length s
      pub pattern_inside : a.pattern.from < length s
      pub entry_inside : a.at + i < length work
      pub fits : cost + 1 < 2 ^ 32

    pub seek_looks : Looks
    seek_looks =
        omega (arith, k.filled.placed, k.filled.placed.pieces, k.so_far, cost_fits s work a i k.filled)

    module _ {seen : Counted Bool} (e : seen ≡ looked s (a.walked.from + i) a.pattern.from cost) where
      told : seen ≡ record { found = ltb 0 (match_at (table_of s a) i); count = cost + 1 }
      told = tells s a k.filled.placed.pieces i l cost e

      -- the first letter matches
      pub seek_stops : seen.found ≡ true → Stopped s work a (record { i = i; known = 1; cost = seen.count })
      seek_stops h = rw (told, k.so_far) (stop_at_match s work a i k.filled k.unreached l (rw told at h))

      -- it does not
      module _ (h : seen.found ≡ false) where
        pass : Passed s work a i k.filled k.unreached
        pass = passed s work a i k.filled k.unreached l (rw told at h)

        pub seek_next : Seeking s (set work (a.at + i) 0) a (i + 1) seen.count
        seek_next =
            record {
              filled = filled_next s work a i k.filled l pass.match refl;
              unreached = rw (← pass.walk) (omega arith);
              so_far = rw (told, k.so_far) (ap (λ (w : Walk). w.cost) pass.walk);
            }

        pub seek_further : {m : ℕ} {work₀ : List ℕ} → Further s work₀ a m i work
            → Further s work₀ a m (i + 1) (set work (a.at + i) 0)
        seek_further g = further_next s work a i k.filled l pass.match refl g

-- ---- a walk whose record reaches position i

module _ (s work : List ℕ) (a : TableAt) (i : ℕ) (w : Walk) (k : Walked s work a i w) where
  -- It does not any more.
  pub follow_ends : w.e ≤ i → Seeking s work a i w.cost
  follow_ends end =
      record {
        filled = k.filled;
        unreached = rw (← k.walk) end;
        so_far = ap (λ (v : Walk). v.cost) k.walk;
      }

  module _ (l : i < w.e) where
    follow_inside : i < a.walked.size
    follow_inside = omega (arith, asks s work a i k.filled w k.walk l)

    pub follow_entry : a.at + i < length work
    follow_entry = omega (arith, follow_inside, k.filled.placed)

    pub follow_short : w.e ≤ 2 * length_limit
    follow_short = omega (arith, asks s work a i k.filled w k.walk l, k.filled.placed, k.filled.placed.pieces)

    pub follow_reads : (w.k ≤ i) × (a.own + (i - w.k) < length work)
    follow_reads = can_read s work a i k.filled w k.walk l

    module _ {len : ℕ} (e : len ≡ get_or work (a.own + (i - w.k)) 0) where
      -- the position is free
      module _ (short : len < w.e - i) where
        free_one : (len ≡ match_at (table_of s a) i) × (w ≡ up_to (table_of s a) (i + 1))
        free_one = free_next s work a i k.filled w k.walk l e short

        pub free_walked : Walked s (set work (a.at + i) len) a (i + 1) w
        free_walked =
            record { filled = filled_next s work a i k.filled follow_inside free_one.0 refl; walk = free_one.1 }

        pub free_further : {m : ℕ} {work₀ : List ℕ} → Further s work₀ a m i work
            → Further s work₀ a m (i + 1) (set work (a.at + i) len)
        free_further g = further_next s work a i k.filled follow_inside free_one.0 refl g

      -- it takes a scan
      pub follow_stops : w.e - i ≤ len → Stopped s work a (record { i = i; known = w.e - i; cost = w.cost })
      follow_stops long = stop_there s work a i k.filled w k.walk l e long

-- ---- a walk that has stopped for a scan

module _ (s work : List ℕ) (a : TableAt) (at : Stop) (stopped : Stopped s work a at) (l : at.i < a.walked.size)
    {work' : List ℕ} (put : work' ≡ with_entry s a at.i work) where
  pub scan_walked : {w : Walk} → w ≡ scanned (table_of s a) at.i (knowing at.i at.known at.cost)
      → Walked s work' a (at.i + 1) w
  scan_walked e =
      record {
        filled = filled_next s work a at.i stopped.filled l refl put;
        walk = e ∙ stopped.scans l;
      }

  pub scan_further : {m : ℕ} {work₀ : List ℕ} → Further s work₀ a m at.i work → Further s work₀ a m (at.i + 1) work'
  scan_further g = further_next s work a at.i stopped.filled l refl put g

-- ---- the whole walk

pub fills_same : (s work : List ℕ) (count : ℕ) {a b : TableAt} {n : ℕ} {w : List ℕ} → a ≡ b → Fills s work a count n w
    → Fills s work b count n w
fills_same s work count e f = rw e at f

module _ (s work₀ : List ℕ) (a : TableAt) (count : ℕ) (can : CanFill s work₀ a count) where
  pub fill_starts : Walked s work₀ a a.first start
  unfolding after
  fill_starts =
      record {
        filled =
            record {
              placed = can.placed;
              own = can.own;
              begun = omega arith;
              inside = can.placed.pieces.walked_first;
              stand = λ x b h. absurd (omega arith);
            };
        walk = ap (after (table_of s a)) {x = 0} {y = a.first - a.first} (omega arith);
      }

  module _ (work : List ℕ) (at : Stop) (g : Further s work₀ a a.first at.i work) (stopped : Stopped s work a at)
      (end : a.walked.size ≤ at.i) where
    whole : at.i ≡ length (table_of s a).walked
    whole = omega (arith, length_walked s a can.placed.pieces, stopped.filled.inside)

    costs : at.cost ≡ table_cost (table_of s a)
    unfolding table_cost
    costs = stopped.ended end ∙ ap (λ (i : ℕ). (up_to (table_of s a) i).cost) whole

    pub fill_ends : Fills s work₀ a count (count + at.cost) work
    unfolding with_table partly
    fill_ends =
        record {
          counts = ap (λ (n : ℕ). count + n) costs;
          leaves_work =
              g.put work₀ refl (partly_none (table_of s a) a.at a.first work₀ (omega arith))
              ∙ ap (λ (i : ℕ). partly (table_of s a) a.at i work₀) whole;
        }

    pub fill_fits : count + at.cost < 2 ^ 32
    fill_fits =
        let walked = length_walked s a can.placed.pieces in
        omega (
          arith,
          costs,
          can.fits,
          table_cost_bound (table_of s a) (omega (arith, can.placed.pieces)),
        )

  -- A table without a position is filled as it stands.
  pub fills_none : a.walked.size ≤ a.first → Fills s work₀ a count count work₀
  unfolding with_table partly table_cost after
  fills_none none =
      let walked = length_walked s a can.placed.pieces in
      let no_cost = ap (λ (n : ℕ). (after (table_of s a) n).cost) {x = 0} {y = length (table_of s a).walked - a.first} (omega arith) in
      record {
        counts = omega (arith, no_cost);
        leaves_work = partly_none (table_of s a) a.at (length (table_of s a).walked) work₀ (omega arith);
      }

-- The table of a piece of one letter against itself has no position: it costs nothing, and nothing is put in the work space.
module _ (s : List ℕ) (p : Piece) (lies : p.from + p.size ≤ length s) (short : p.size < 2) where
  pub one_letter_cost : table_cost (itself (read s p)) ≡ 0
  unfolding table_cost after
  one_letter_cost =
      let long = length-read s p lies in
      ap (λ (n : ℕ). (after (itself (read s p)) n).cost) {x = length (read s p) - 1} {y = 0} (omega arith)

  pub one_letter_put : (at : ℕ) (work : List ℕ) → with_table (itself (read s p)) at work ≡ work
  unfolding with_table partly
  one_letter_put at work =
      let long = length-read s p lies in
      sym (partly_none (itself (read s p)) at (length (read s p)) work (omega arith))
