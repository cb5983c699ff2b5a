-- The reach of a class and half, and the block that it has. Assumes nothing.
use Prim.Native.Nat.{ℕ, ◌+◌, ◌-◌, ◌≤◌, ◌<◌}
use mathlib.Core.Path.{◌≡◌, ap, ◌∙◌}
use mathlib.Core.List.{[], ◌∷◌}
use native.Mathlib.Omega.{arith}
use borrow.Author.Tests.{le-leb, lt-leb}
use Rattle.repetition.specs.Reading.{around}
use Rattle.finder.specs.declared.part_tables.PartTables.{PartTables}
use Rattle.finder.specs.declared.reading.Reach.{Reach}
use Rattle.finder.specs.declared.reading.Class.{Class}
use Rattle.finder.specs.declared.reading.Class.TheVariants.{Right, Left}
use Rattle.finder.specs.Kept.{Kept, put_all}
use Rattle.finder.specs.Reading.{reach_of, cut_off, cut_reach, around_reach, read_half}

module _ (p : ℕ) (r : Reach) where
  pub no_block : r.back + r.on < p → [] ≡ around_reach p r
  unfolding around
  no_block l = rw (lt-leb p (r.back + r.on) l)

  pub one_block : p ≤ r.back + r.on
      → record { half = p; first = r.place - r.back; last = r.place + r.on - p } ∷ [] ≡ around_reach p r
  unfolding around
  one_block l = rw (le-leb p (r.back + r.on) l)

module _ (T : PartTables) where
  -- where the uncut reach has no block, the cut one has none
  none_cut : (κ : Class) (p : ℕ) (r : Reach) → r.back + r.on < p → [] ≡ around_reach p (cut_off κ p r)
  none_cut Right p r l = no_block p (cut_off Right p r) (omega arith)
  none_cut Left p r l = no_block p (cut_off Left p r) (omega arith)

  pub half_none : (κ : Class) (p : ℕ) {r : Reach} → r ≡ reach_of T κ p → r.back + r.on < p
      → (k : Kept) → k ≡ put_all k (read_half T κ p)
  half_none κ p e l k = rw (← none_cut κ p (reach_of T κ p) (rw e at l))

  pub half_cut : (κ : Class) (p : ℕ) {r s : Reach} → r ≡ reach_of T κ p → s ≡ cut_off κ p r → s ≡ cut_reach T κ p
  half_cut κ p e f = f ∙ ap (cut_off κ p) e
