-- The blocks of a part, read from its match tables: document 01, "The four tables of a part".
-- That they are the part's blocks is a law (proofs/TableBlocks.antt); a reader need not believe these formulas.
use Rattle.std.specs.Prelude.{ℕ, ◌+◌, ◌-◌, ◌*◌, ◌^◌, ◌≤◌, ◌<◌, ◌≡◌, min, length, get_or, slice_range}
use mathlib.Core.List.{List, flat_map}
use Rattle.repetition.specs.Numbers.{consecutive}
use Rattle.repetition.specs.Cutting.{Part, cut_of}
use Rattle.repetition.specs.Blocks.{Block}
use Rattle.repetition.specs.Limits.{length_limit}
use Rattle.repetition.specs.Reading.{around}
use Rattle.finder.specs.declared.tally.Tally.{Tally}
use Rattle.tables.specs.Parts.{letters, letters_v}
use Rattle.finder.specs.declared.part_tables.PartTables.{PartTables}
use Rattle.finder.specs.declared.reading.Reach.{Reach}
use Rattle.finder.specs.declared.reading.Class.{Class}
use Rattle.finder.specs.declared.reading.Class.TheVariants.{Right, Left}

-- The tables of a part stand one after the other at the front of a work space.
pub record StandIn (work : List ℕ) (q : Part) (T : PartTables) : Type 0 where
  pub cut : T.cut ≡ cut_of q
  pub first : T.v_itself.now ≡ slice_range work 0 (letters_v q)
  pub second : T.u_back_itself.now ≡ slice_range work (letters_v q) (letters q)
  pub third : T.v_back_against_u_back.now ≡ slice_range work (letters q) (letters q + letters_v q)
  pub fourth : T.u_against_v.now ≡ slice_range work (letters q + letters_v q) (2 * letters q)

-- from the first table and the third
unfoldable pub right_reach : PartTables → ℕ → Reach
right_reach T p =
    record {
      place = T.cut;
      back = get_or T.v_back_against_u_back.now (length T.v_itself.now - p) 0;
      on = get_or T.v_itself.now p 0;
    }

-- from the second table and the fourth
unfoldable pub left_reach : PartTables → ℕ → Reach
left_reach T p =
    record {
      place = T.cut - p;
      back = get_or T.u_back_itself.now p 0;
      on = get_or T.u_against_v.now (length T.u_back_itself.now - p) 0;
    }

abbrev pub reach_of : PartTables → Class → ℕ → Reach
reach_of T Right p = right_reach T p
reach_of T Left p = left_reach T p

-- a reach without what belongs to no repetition of the class
abbrev pub cut_off : Class → ℕ → Reach → Reach
cut_off Right p r = record { place = r.place; back = r.back; on = min (p - 1) r.on }
cut_off Left p r = record { place = r.place; back = min (p - 1) r.back; on = min (p - 1) r.on }

abbrev pub cut_reach : PartTables → Class → ℕ → Reach
cut_reach T κ p = cut_off κ p (reach_of T κ p)

-- the greatest half of a class
abbrev pub most_of : PartTables → Class → ℕ
most_of T Right = length T.v_itself.now
most_of T Left = length T.u_back_itself.now - 1

-- the block that a reach has, or none
abbrev pub around_reach : ℕ → Reach → List Block
around_reach p r = around r.place p r.back r.on

-- the block of a class and half, or none
abbrev pub read_half : PartTables → Class → ℕ → List Block
read_half T κ p = around_reach p (cut_reach T κ p)

-- the blocks of the first n halves
unfoldable pub read_first : PartTables → Class → ℕ → List Block
unfolding consecutive flat_map
read_first T κ n = flat_map (read_half T κ) (consecutive 1 n)

-- all blocks of a class
abbrev pub read_all : PartTables → Class → List Block
read_all T κ = read_first T κ (most_of T κ)

-- ---- what the functions of reading.rt need

-- a half that a class can have
pub record CanReach (T : PartTables) (κ : Class) (p : ℕ) : Type 0 where
  pub nonempty : 1 ≤ p
  pub most : p ≤ most_of T κ

-- a reach that stays in a text within the limit
pub record Inside (r : Reach) : Type 0 where
  pub low : r.back ≤ r.place
  pub high : r.place + r.on ≤ length_limit

pub record CanPutHalf (T : PartTables) (κ : Class) (p : ℕ) (y : Tally) : Type 0 where
  pub reaches : CanReach T κ p
  pub inside : Inside (cut_reach T κ p)
  pub counts : y.blocks + 1 < 2 ^ 32

pub record CanReadAll (T : PartTables) (κ : Class) (y : Tally) : Type 0 where
  pub inside : (p : ℕ) → CanReach T κ p → Inside (cut_reach T κ p)
  pub counts : y.blocks + most_of T κ < 2 ^ 32
