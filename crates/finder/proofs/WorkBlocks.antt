-- The blocks of a part, read from the numbers of the work space as its tables stand there, and that they are the part's blocks: document
-- 01, "The four tables of a part". Assumes nothing.
use Prim.Native.Nat.{ℕ, ◌+◌, ◌-◌, ◌≤◌, min}
use mathlib.Core.Path.{◌≡◌, sym, ap, ap₂, ◌∙◌}
use mathlib.Core.Bool.{Bool, true, false, cond}
use mathlib.Core.List.{List, flat_map}
use native.Mathlib.Omega.{arith}
use native.Mathlib.Decide.{dec_le}
use borrow.Author.Tests.{lt-ltb, le-ltb}
use lib.Dec.{ltb}
use lib.ListN.{length, get_or, drop_of_length-le}
use mir.Syntax.{w16, w64}
use mir.Val.{Fits}
use Rattle.repetition.specs.Numbers.{consecutive}
use Rattle.repetition.specs.Cutting.{Part, Class, right, left, cut_of}
use Rattle.repetition.specs.Blocks.{Block, class_blocks}
use Rattle.repetition.specs.Tables.{matched, match_at, left_piece, right_piece}
use Rattle.repetition.specs.Tables.{v_itself, u_back_itself, v_back_against_u_back, u_against_v}
use Rattle.repetition.specs.Reading.{around, read_block, greatest_half}
use Rattle.repetition.proofs.Lists.{flat_map_each}
use Rattle.repetition.proofs.Reading.{class_read}
use Rattle.tables.specs.Parts.{letters, letters_u, letters_v, with_tables, PartPlaced}
use Rattle.tables.proofs.Parts.{sizes, v_itself_entry, u_back_entry, v_back_entry, u_against_entry}
use Rattle.finder.specs.declared.reading.Reach.{Reach}
use Rattle.finder.specs.declared.reading.Class.{Class as ClassRead}
use Rattle.finder.specs.declared.reading.Class.TheVariants.{Right, Left}
use Rattle.finder.specs.Reading.{cut_off, around_reach}

abbrev pub class_of : ClassRead → Class
class_of Right = right
class_of Left = left

-- the first table from 0 on, the third from m on
unfoldable pub right_reach : List ℕ → Part → ℕ → Reach
right_reach work q p =
    record {
      place = cut_of q;
      back = get_or work (letters q + (letters_v q - p)) 0;
      on = cond (ltb p (letters_v q)) (get_or work p 0) 0;
    }

-- the second table from |v| on, the fourth from m + |v| on
unfoldable pub left_reach : List ℕ → Part → ℕ → Reach
left_reach work q p =
    record {
      place = cut_of q - p;
      back = get_or work (letters_v q + p) 0;
      on = get_or work (letters q + letters_v q + (letters_u q - p)) 0;
    }

abbrev pub reach_of : List ℕ → Part → ClassRead → ℕ → Reach
reach_of work q Right p = right_reach work q p
reach_of work q Left p = left_reach work q p

abbrev pub most_of : Part → ClassRead → ℕ
most_of q Right = letters_v q
most_of q Left = letters_u q - 1

abbrev pub read_half : List ℕ → Part → ClassRead → ℕ → List Block
read_half work q κ p = around_reach p (cut_off κ p (reach_of work q κ p))

unfoldable pub read_first : List ℕ → Part → ClassRead → ℕ → List Block
unfolding consecutive flat_map
read_first work q κ n = flat_map (read_half work q κ) (consecutive 1 n)

abbrev pub read_all : List ℕ → Part → ClassRead → List Block
read_all work q κ = read_first work q κ (most_of q κ)

-- ---- two numbers of 16 bits add up to one of 64

cond_below : (b : Bool) (x : ℕ) → cond b x 0 ≤ x
cond_below true x = omega arith
cond_below false x = omega arith

pub reach_fits : (work : List ℕ) (q : Part) (κ : ClassRead) (p : ℕ) → ((i : ℕ) → Fits w16 (get_or work i 0))
    → {r : Reach} → r ≡ reach_of work q κ p → Fits w64 (r.back + r.on)
unfolding right_reach left_reach
reach_fits work q Right p short e =
    rw e
    (omega (arith, short (letters q + (letters_v q - p)), short p, cond_below (ltb p (letters_v q)) (get_or work p 0)))
reach_fits work q Left p short e =
    rw e (omega (arith, short (letters_v q + p), short (letters q + letters_v q + (letters_u q - p))))

module _ (t work : List ℕ) (q : Part) (placed : PartPlaced t work q) where
  abbrev tables : List ℕ
  tables = with_tables t q work

  -- ---- the numbers that a reach is read from

  pub right_back : (p : ℕ) → 1 ≤ p → p ≤ letters_v q → get_or tables (letters q + (letters_v q - p)) 0
      ≡ match_at (v_back_against_u_back t q) (length (right_piece t q) - p)
  right_back p one l =
      v_back_entry t work q placed (letters_v q - p) (omega arith)
      ∙ ap (match_at (v_back_against_u_back t q)) {x = letters_v q - p} {y = length (right_piece t q) - p}
      (omega (arith, sizes t work q placed))

  -- at v's whole length there is no entry, and nothing to match
  pub match_past : (p : ℕ) → letters_v q ≤ p → match_at (v_itself t q) p ≡ 0
  unfolding match_at matched
  match_past p l = rw (drop_of_length-le (right_piece t q) {i = p} (omega (arith, sizes t work q placed)))

  right_on : (p : ℕ) → 1 ≤ p → cond (ltb p (letters_v q)) (get_or tables p 0) 0 ≡ match_at (v_itself t q) p
  right_on p one =
      elim (dec_le (letters_v q) p) [
        | yes l ↦ rw (le-ltb p (letters_v q) l, match_past p l)
        | no l ↦ rw (lt-ltb p (letters_v q) (omega arith), v_itself_entry t work q placed p one (omega arith))
      ]

  pub left_back : (p : ℕ) → 1 ≤ p → p ≤ letters_u q - 1 → get_or tables (letters_v q + p) 0 ≡ match_at (u_back_itself t q) p
  left_back p one l = u_back_entry t work q placed p one (omega arith)

  pub left_on : (p : ℕ) → 1 ≤ p → p ≤ letters_u q - 1 → get_or tables (letters q + letters_v q + (letters_u q - p)) 0
      ≡ match_at (u_against_v t q) (length (left_piece t q) - p)
  left_on p one l =
      u_against_entry t work q placed (letters_u q - p) (omega arith)
      ∙ ap (match_at (u_against_v t q)) {x = letters_u q - p} {y = length (left_piece t q) - p}
      (omega (arith, sizes t work q placed))

  -- ---- each block

  read_is : (κ : ClassRead) (p : ℕ) → 1 ≤ p → p ≤ most_of q κ → read_half tables q κ p ≡ read_block t (class_of κ) q p
  unfolding right_reach left_reach read_block
  read_is Right p one l = ap₂ (around (cut_of q) p) (right_back p one l) (ap (min (p - 1)) (right_on p one))
  read_is Left p one l =
      ap₂ (around (cut_of q - p) p) (ap (min (p - 1)) (left_back p one l)) (ap (min (p - 1)) (left_on p one l))

  most_is : (κ : ClassRead) → most_of q κ ≡ greatest_half t (class_of κ) q
  unfolding greatest_half
  most_is Right = sym (sizes t work q placed).v
  most_is Left = ap (λ (n : ℕ). n - 1) (sym (sizes t work q placed).u)

  pub class_in_work : (κ : ClassRead) → read_all tables q κ ≡ class_blocks t (class_of κ) q
  unfolding read_first
  class_in_work κ =
      flat_map_each _ 1 (most_of q κ) (read_block t (class_of κ) q) (λ p l m. read_is κ p l (omega arith))
      ∙ ap (λ (n : ℕ). flat_map (read_block t (class_of κ) q) (consecutive 1 n)) (most_is κ)
      ∙ sym (class_read t q placed.wide placed.inside (class_of κ))
