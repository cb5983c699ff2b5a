-- What a scan finds: the run of equal letters from two places on, and that it is a table's match length. Assumes nothing.
use Prim.Native.Nat.{ℕ, ◌+◌, ◌-◌, ◌≤◌, ◌<◌, min}
use mathlib.Core.Path.{◌≡◌, sym, ap, ◌∙◌, subst}
use mathlib.Core.Bool.{Bool, true, false}
use mathlib.Core.List.{List}
use native.Mathlib.Nat.{add-zero, add_assoc, le_antisymm}
use native.Mathlib.Omega.{arith, by_contra}
use lib.ListN.{length, get_or, drop, length-drop}
use lib.Dec.{eqb, ltb}
use lib.Seq.{get_or-drop}
use borrow.Author.Tests.{eqb-true, eqb-false, eq-eqb, ltb-true, le-ltb, lt-ltb}
use Rattle.repetition.specs.Tables.{matched}
use Rattle.repetition.proofs.Lists.{same_test}
use Rattle.repetition.proofs.Agreement.{Run, run_of, match_run}
use Rattle.tables.specs.declared.walk.Piece.{Piece}
use Rattle.tables.specs.declared.look.Counted.{Counted}
use Rattle.tables.specs.Letters.{read}
use Rattle.tables.specs.Looks.{looked, common, CanScan, scan_of}
use Rattle.tables.proofs.Letters.{length-read, letter_read}

run_le : {P : ℕ → Type 0} {n m M : ℕ} → Run P n M → Run P m M → n ≤ m
run_le {m} r s = by_contra _ _ (λ l. s.stop (omega arith) (r.all m l))

run_unique : {P : ℕ → Type 0} {n m M : ℕ} → Run P n M → Run P m M → n ≡ m
run_unique r s = le_antisymm (run_le r s) (run_le s r)

-- a run goes on where the next fact holds, and ends where it does not
run_on : {P : ℕ → Type 0} {n M : ℕ} → Run P n M → (x : ℕ) → x < M → x ≤ n → P x → x + 1 ≤ n
run_on {P} {n} r x l h p = by_contra _ _ (λ short. r.stop (omega arith) (subst P {x = x} {y = n} (omega arith) p))

run_ends : {P : ℕ → Type 0} {n M : ℕ} → Run P n M → (x : ℕ) → x ≤ n → (P x → ⊥) → n ≡ x
run_ends r x h not = le_antisymm (by_contra _ _ (λ l. not (r.all x l))) h

-- The letters x letters on from two places are equal.
abbrev Same : List ℕ → ℕ → ℕ → ℕ → Type 0
Same s a b x = get_or s (a + x) 0 ≡ get_or s (b + x) 0

module _ (s : List ℕ) where
  -- two strings whose letters stand on from two places
  same_run : (a b room : ℕ) (xs ys : List ℕ) → room ≡ min (length xs) (length ys)
      → ((x : ℕ) → x < room → get_or xs x 0 ≡ get_or s (a + x) 0)
      → ((x : ℕ) → x < room → get_or ys x 0 ≡ get_or s (b + x) 0)
      → Run (Same s a b) (matched xs ys) room
  same_run a b room xs ys e f g =
      run_of (λ x l h. sym (f x l) ∙ h ∙ g x l) (λ x l h. f x l ∙ h ∙ sym (g x l)) (rw e (match_run xs ys))

  common_run : (a b room : ℕ) → a + room ≤ length s → b + room ≤ length s → Run (Same s a b) (common s a b room) room
  unfolding common
  common_run a b room ha hb =
      let p : Piece = record { from = a; size = room } in
      let q : Piece = record { from = b; size = room } in
      same_run a b room (read s p) (read s q)
      (omega (arith, length-read s p ha, length-read s q hb))
      (λ x l. letter_read s p x l)
      (λ x l. letter_read s q x l)

  -- A look at the first letters tells whether there is a match.
  pub first_same : (a b room : ℕ) → a + room ≤ length s → b + room ≤ length s → 0 < room
      → eqb (get_or s a 0) (get_or s b 0) ≡ ltb 0 (common s a b room)
  first_same a b room ha hb l =
      let run = rw (add-zero a, add-zero b) at (first_of (common_run a b room ha hb) l) in
      same_test (eqb (get_or s a 0) (get_or s b 0)) (ltb 0 (common s a b room))
      (λ h. lt-ltb 0 _ (run.0 (eqb-true _ _ h)))
      (λ h. eq-eqb _ _ (run.1 (ltb-true 0 _ h)))
    where
      first_of : {n M : ℕ} → Run (Same s a b) n M → 0 < M → (Same s a b 0 → 0 < n) × (0 < n → Same s a b 0)
      first_of r l = ((λ h. run_on r 0 l (omega arith) h), r.all 0)

  -- A scan from position i of a piece and from the start of another, the pattern, finds the match length there.
  pub match_common : (pattern walked : Piece) (i : ℕ)
      → pattern.from + pattern.size ≤ length s → walked.from + walked.size ≤ length s → i ≤ walked.size
      → matched (drop i (read s walked)) (read s pattern)
      ≡ common s (walked.from + i) pattern.from (min (walked.size - i) pattern.size)
  match_common pattern walked i kp kw l =
      let u = read s walked in
      let v = read s pattern in
      let room = min (walked.size - i) pattern.size in
      run_unique
      (same_run (walked.from + i) pattern.from room (drop i u) v
      (omega (arith, length-drop i u, length-read s walked kw, length-read s pattern kp))
      (λ x h. get_or-drop i u x 0 ∙ letter_read s walked (i + x) (omega arith)
      ∙ ap (λ (y : ℕ). get_or s y 0) {x = walked.from + (i + x)} {y = walked.from + i + x} (omega arith))
      (λ x h. letter_read s pattern x (omega arith)))
      (common_run (walked.from + i) pattern.from room (omega arith) (omega arith))

-- A scan under way: the letters passed are the same, and each but the known ones was looked at once.
pub record Scanning (s : List ℕ) (a b room known count looks on : ℕ) : Type 0 where
  pub passed : known ≤ on
  pub same : on ≤ common s a b room
  pub counted : looks ≡ count + (on - known)

-- It goes on after equal letters, and has its outcome after others.
pub record Next (s : List ℕ) (a b room known count on : ℕ) (seen : Counted Bool) : Type 0 where
  pub goes_on : seen.found ≡ true → Scanning s a b room known count seen.count (on + 1)
  pub stops : seen.found ≡ false → record { found = on; count = seen.count } ≡ scan_of s a b room known count

module _ (s : List ℕ) (a b room known count : ℕ) (can : CanScan s a b room known count)
    (looks on : ℕ) (g : Scanning s a b room known count looks on) where
  the_run : Run (Same s a b) (common s a b room) room
  the_run = common_run s a b room can.reads_a can.reads_b

  -- the room ends
  pub scan_ends : room ≤ on → record { found = on; count = looks } ≡ scan_of s a b room known count
  unfolding scan_of
  scan_ends l =
      let e : common s a b room ≡ on = omega (arith, the_run) in
      rw (e, le-ltb on room l, add-zero (on - known), g.counted)

  -- after a look at the next two letters
  pub scan_looked : on < room → {seen : Counted Bool} → seen ≡ looked s (a + on) (b + on) looks → Next s a b room known count on seen
  unfolding scan_of
  scan_looked l {seen} e =
      record {
        goes_on = λ h.
            omega (arith, run_on the_run on l g.same (eqb-true _ _ (told h)), ap (λ (r : Counted Bool). r.count) e);
        stops = λ h.
            let f : common s a b room ≡ on = run_ends the_run on g.same (eqb-false _ _ (told h)) in
            rw (e, f, lt-ltb on room l, g.counted, add_assoc count (on - known) 1);
      }
    where
      told : {b' : Bool} → seen.found ≡ b' → eqb (get_or s (a + on) 0) (get_or s (b + on) 0) ≡ b'
      told h = rw e at h
