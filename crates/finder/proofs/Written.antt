-- Blocks that are put one after the other, from nothing on: the report has the leading ones that fit, the tally has their number
-- and the longest. Assumes nothing.
use Prim.Native.Nat.{ℕ, ◌+◌, ◌*◌, ◌/◌, ◌≤◌, ◌<◌}
use mathlib.Core.Path.{◌≡◌, refl, sym, ap, ap₂, ◌∙◌}
use mathlib.Core.Bool.{Bool, true, false, cond}
use mathlib.Core.List.{List, [], ◌∷◌, ◌++◌, append-nil, append_assoc, flat_map, Memᴰ}
use native.Mathlib.Omega.{arith}
use native.Mathlib.Decide.{dec_lt}
use borrow.Author.Tests.{lt-ltb, le-ltb}
use lib.Dec.{ltb}
use lib.ListN.{length, get_or, drop, length-append, length-drop}
use lib.Seq.{sets, sets-eq, take-nil, take_all, take-append-le, take_at, drop-append-add, drop-drop}
use Rattle.repetition.specs.Blocks.{Block}
use Rattle.repetition.specs.Limits.{numbers_per_block}
use Rattle.repetition.specs.Memory.{numbers, room, over, written}
use Rattle.repetition.specs.Outcomes.{longest_of, longest_in}
use Rattle.repetition.proofs.Lists.{flat_map-append}
use Rattle.repetition.proofs.Reports.{length-numbers, fitting, written_is, written_length}
use Rattle.finder.specs.declared.tally.Tally.{Tally}
use Rattle.finder.specs.Kept.{Kept, kept, no_tally, counted, with_block, put, put_all}

-- ---- the report

written_none : (report : List ℕ) → written [] report ≡ report
unfolding written over flat_map
written_none report = rw (take-nil (room report))

-- a report that has room for the blocks
written_all : (bs : List Block) (report : List ℕ) → length bs ≤ room report
    → written bs report ≡ flat_map numbers bs ++ drop (numbers_per_block * length bs) report
written_all bs report fits =
    let all : fitting bs report ≡ length bs = omega arith in
    rw (all, take_all (room report) bs fits) at (written_is bs report)

-- numbers that come after others in a buffer
sets_next : (xs ys buffer : List ℕ) (n : ℕ) → length xs ≡ n → n + length ys ≤ length buffer
    → sets (xs ++ drop n buffer) n ys ≡ (xs ++ ys) ++ drop (n + length ys) buffer
sets_next xs ys buffer n e fits =
    sets-eq ys (xs ++ drop n buffer) n (rw (length-append, length-drop) (omega arith))
    ∙ rw (take_at xs (drop n buffer) n e, ← e, drop-append-add xs (drop (length xs) buffer) (length ys), drop-drop)

room_written : (bs : List Block) (report : List ℕ) → room (written bs report) ≡ room report
unfolding room
room_written bs report = ap (λ (n : ℕ). n / numbers_per_block) (written_length bs report)

module _ (bs : List Block) (b : Block) (report : List ℕ) where
  fits_next : length bs < room report
      → sets (written bs report) (numbers_per_block * length bs) (numbers b) ≡ written (bs ++ b ∷ []) report
  unfolding room flat_map
  fits_next l =
      let n = numbers_per_block * length bs in
      let m : numbers_per_block * length (bs ++ b ∷ []) ≡ n + 3 = rw (length-append bs (b ∷ [])) (omega arith) in
      ap (λ (w : List ℕ). sets w n (numbers b)) (written_all bs report (omega arith))
      ∙ sets_next (flat_map numbers bs) (numbers b) report n (length-numbers bs) (omega arith)
      ∙ sym (written_all (bs ++ b ∷ []) report (omega arith)
      ∙ ap₂ (λ (xs : List ℕ) (k : ℕ). xs ++ drop k report) (flat_map-append numbers bs (b ∷ [])) m)

  full_next : room report ≤ length bs → written bs report ≡ written (bs ++ b ∷ []) report
  unfolding written
  full_next l = ap (λ (cs : List Block). over (flat_map numbers cs) report) (sym (take-append-le (room report) bs (b ∷ []) l))

  written_next : with_block (length bs) b (written bs report) ≡ written (bs ++ b ∷ []) report
  unfolding with_block
  written_next =
      elim (dec_lt (length bs) (room report)) [
        | yes l ↦ rw (room_written bs report, lt-ltb (length bs) (room report) l) (fits_next l)
        | no l ↦ rw (room_written bs report, le-ltb (length bs) (room report) (omega arith)) (full_next (omega arith))
      ]

-- ---- the longest

longest_next : (c : Block) (cs : List Block) (b : Block)
    → longest_of c (cs ++ b ∷ []) ≡ cond (ltb (longest_of c cs).half b.half) b (longest_of c cs)
unfolding longest_of
longest_next c [] b = refl
longest_next c (d ∷ cs) b = longest_next (cond (ltb c.half d.half) d c) cs b

-- ---- both

-- the tally after n comparisons and some blocks
abbrev tally_after : ℕ → List Block → Tally
tally_after n bs =
    record { blocks = length bs; comparisons = n; half = get_or (longest_in bs) 1 0; start = get_or (longest_in bs) 0 0 }

-- the same with the report
abbrev pub kept_after : List ℕ → ℕ → List Block → Kept
kept_after report n bs = kept (written bs report) (tally_after n bs)

pub kept_none : (report : List ℕ) → kept report no_tally ≡ kept_after report 0 []
unfolding longest_in
kept_none report = ap (λ (r : List ℕ). kept r no_tally) (sym (written_none report))

tally_next : (n : ℕ) (bs : List Block) (b : Block) → 1 ≤ b.half → counted (tally_after n bs) b ≡ tally_after n (bs ++ b ∷ [])
unfolding counted longest_in
tally_next n [] b one = rw (lt-ltb 0 b.half one)
tally_next n (c ∷ cs) b one = rw (longest_next c cs b, length-append) (go (ltb (longest_of c cs).half b.half))
  where
    tally : ℕ → ℕ → Tally
    tally half start = record { blocks = length (c ∷ cs) + 1; comparisons = n; half = half; start = start }

    go : (longer : Bool)
        → tally (cond longer b.half (longest_of c cs).half) (cond longer b.first (longest_of c cs).first)
        ≡ tally (cond longer b (longest_of c cs)).half (cond longer b (longest_of c cs)).first
    go true = refl
    go false = refl

put_next : (report : List ℕ) (n : ℕ) (bs : List Block) (b : Block) → 1 ≤ b.half
    → put (kept_after report n bs) b ≡ kept_after report n (bs ++ b ∷ [])
unfolding put
put_next report n bs b one = ap₂ kept (written_next bs b report) (tally_next n bs b one)

pub put_after : (report : List ℕ) (n : ℕ) (bs cs : List Block) → ((b : Block) → Memᴰ b cs → 1 ≤ b.half)
    → put_all (kept_after report n bs) cs ≡ kept_after report n (bs ++ cs)
put_after report n bs [] halves = ap (kept_after report n) (sym (append-nil bs))
put_after report n bs (c ∷ cs) halves =
    ap (λ (k : Kept). put_all k cs) (put_next report n bs c (halves c (Memᴰ.head refl)))
    ∙ put_after report n (bs ++ c ∷ []) cs (λ b m. halves b (Memᴰ.tail m))
    ∙ ap (kept_after report n) (append_assoc bs (c ∷ []) cs)
