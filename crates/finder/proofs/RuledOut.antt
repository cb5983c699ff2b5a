-- Wrong programs that the promises rule out: those that document 01 names, "Holding the promises to their meaning", and two
-- of the room question. Each law is from the promises alone. Assumes nothing.
use Prim.Native.Nat.{ℕ, suc, ◌*◌, ◌≤◌}
use mathlib.Core.Path.{◌≡◌, refl, sym, ap, ◌∙◌}
use mathlib.Core.List.{List, [], ◌∷◌}
use native.Mathlib.Omega.{arith}
use lib.ListN.{length, get_or}
use Rattle.repetition.specs.Cutting.{Part}
use Rattle.repetition.specs.Repetition.{stands}
use Rattle.repetition.specs.Blocks.{Block, part_blocks, list_of}
use Rattle.repetition.specs.Comparisons.{comparisons}
use Rattle.repetition.specs.Limits.{length_limit, depth}
use Rattle.repetition.specs.Memory.{room, blocks_in}
use Rattle.repetition.specs.Outcomes.{listing}
use Rattle.repetition.specs.Examples.{aa, ab, aba, aaaa}
use Rattle.repetition.proofs.Repetitions.{stands_true}
use Rattle.repetition.proofs.Listing.{empty_list}
use Rattle.finder.specs.declared.reply.Listing.{Listing}
use Rattle.finder.specs.Replies.{Place, Freedom, Longest, Room}
use Rattle.finder.specs.Replies.{listing_number, listing_values, place_values, freedom_values}
use Rattle.finder.specs.Replies.{longest_values, room_number, room_values}
use Rattle.finder.specs.Promises.{ListPromise, PlacePromise, FreePromise, LongestPromise, RoomPromise}
use Rattle.finder.proofs.Demands.{demand_1, demand_2, demand_3, place_meaning, free_meaning}
use Rattle.finder.proofs.Demands.{longest_meaning, room_meaning}

-- lists that are equal begin alike
first : {x y : ℕ} {xs ys : List ℕ} → x ∷ xs ≡ y ∷ ys → x ≡ y
first = ap (λ (vs : List ℕ). get_or vs 0 0)

abbrev block : ℕ → ℕ → ℕ → Block
block half first last = record { half = half; first = first; last = last }

-- the part that is all of "aaaa"
abbrev whole : Part
whole = record { from = 0; to = 4 }

module _ {work report work_left report_left : List ℕ} {r : Listing} where
  -- ---- a finder that refuses every text

  pub empty_text_taken : ListPromise [] work report r work_left report_left → listing_number r ≡ 0
  unfolding list_of
  empty_text_taken x = (demand_1 _ _ _ _ _ _ x).grounds.finished.1 (omega arith)

  pub limit_taken : {t : List ℕ} → length t ≡ length_limit → length work ≡ 2 * length t
      → ListPromise t work report r work_left report_left → (listing_number r ≡ 1 → ⊥) × (listing_number r ≡ 2 → ⊥)
  limit_taken l m x =
      let g = (demand_1 _ _ _ _ _ _ x).grounds in
      (λ e. omega (arith, g.too_long.0 e), λ e. omega (arith, (g.work_short.0 e).1))

  -- ---- one that gives an empty list each time

  module _ (x : ListPromise aa work report r work_left report_left) (l : 4 ≤ length work) (m : 1 ≤ room report) where
    pub aa_finished : listing_number r ≡ 0
    unfolding list_of
    aa_finished = (demand_1 _ _ _ _ _ _ x).grounds.finished.1 (omega arith)

    pub aa_totals : listing_values r ≡ 1 ∷ 2 ∷ []
    unfolding list_of comparisons
    aa_totals = (demand_2 _ _ _ _ _ _ x aa_finished).values

    pub aa_block : blocks_in 1 report_left ≡ block 1 0 0 ∷ []
    unfolding list_of
    aa_block = (demand_2 _ _ _ _ _ _ x aa_finished).blocks

  -- ---- one that does the first cut and only pretends in the pieces

  module _ (x : ListPromise aaaa work report r work_left report_left) (l : 8 ≤ length work) (m : 4 ≤ room report) where
    pub aaaa_finished : listing_number r ≡ 0
    unfolding list_of
    aaaa_finished = (demand_1 _ _ _ _ _ _ x).grounds.finished.1 (omega arith)

    pub aaaa_totals : listing_values r ≡ 4 ∷ 10 ∷ []
    unfolding list_of comparisons
    aaaa_totals = (demand_2 _ _ _ _ _ _ x aaaa_finished).values

    pub aaaa_blocks : blocks_in 4 report_left ≡ block 1 1 1 ∷ block 2 0 0 ∷ block 1 0 0 ∷ block 1 2 2 ∷ []
    unfolding list_of
    aaaa_blocks = (demand_2 _ _ _ _ _ _ x aaaa_finished).blocks

    -- K is not the number of blocks of the first cut
    pub aaaa_more_than_first_cut : (count : ℕ) → listing_values r ≡ length (part_blocks aaaa whole) ∷ count ∷ [] → ⊥
    unfolding part_blocks
    aaaa_more_than_first_cut count e = omega (arith, first (sym aaaa_totals ∙ e))

  -- ---- one that invents the comparisons figure: "aba" has 6, where the bound is 24

  pub aba_totals : ListPromise aba work report r work_left report_left → 6 ≤ length work
      → (listing_values r ≡ 0 ∷ 6 ∷ []) × (4 * length aba * depth (length aba) ≡ 24)
  unfolding list_of comparisons depth
  aba_totals x l = ((demand_3 _ _ _ _ _ _ x (omega arith) (omega arith)).values, refl)

-- a text has one figure, whatever work space and report are lent
pub one_figure : {t work work' report report' work_left work_left' report_left report_left' : List ℕ} {r r' : Listing}
    → length t ≤ length_limit → 2 * length t ≤ length work → 2 * length t ≤ length work'
    → ListPromise t work report r work_left report_left → ListPromise t work' report' r' work_left' report_left'
    → listing_values r ≡ listing_values r'
one_figure l m m' x y = (demand_3 _ _ _ _ _ _ x l m).values ∙ sym (demand_3 _ _ _ _ _ _ y l m').values

-- ---- one that touches no buffer

abbrev nines_3 : List ℕ
nines_3 = 9 ∷ 9 ∷ 9 ∷ []

abbrev nines_4 : List ℕ
nines_4 = 9 ∷ nines_3

module _ {work_left report_left : List ℕ} {r : Listing} (x : ListPromise aa nines_4 nines_3 r work_left report_left) where
  pub report_touched : report_left ≡ nines_3 → ⊥
  unfolding listing
  report_touched e = omega (arith, first (sym e ∙ x.leaves_report))

  pub work_touched : work_left ≡ nines_4 → ⊥
  unfolding listing
  work_touched e = omega (arith, first (sym e ∙ x.leaves_work))

-- ---- a constant reply: "aa" and "ab" differ

pub place_not_constant : {r r' : Place} → PlacePromise aa 0 1 r → PlacePromise ab 0 1 r' → r ≡ r' → ⊥
unfolding stands list_of
place_not_constant x y e =
    let yes = ((place_meaning aa 0 1 _ x).answer (omega arith) (omega arith) (omega arith)).yes.1 (stands_true aa 0 1 refl) in
    let no = ((place_meaning ab 0 1 _ y).answer (omega arith) (omega arith) (omega arith)).no.1 ((empty_list ab).0 refl 0 1) in
    omega (arith, first (sym yes ∙ ap place_values e ∙ no))

module _ {work work' work_left work_left' : List ℕ} (l : 4 ≤ length work) (l' : 4 ≤ length work') where
  pub freedom_not_constant : {r r' : Freedom} → FreePromise aa work r work_left → FreePromise ab work' r' work_left'
      → r ≡ r' → ⊥
  unfolding stands list_of
  freedom_not_constant x y e =
      let f = free_meaning aa work x in
      let g = free_meaning ab work' y in
      let no = (f.answer (f.grounds.answered.1 (omega arith))).no.1 (λ n. n 0 1 (stands_true aa 0 1 refl)) in
      let yes = (g.answer (g.grounds.answered.1 (omega arith))).yes.1 ((empty_list ab).0 refl) in
      omega (arith, first (sym no ∙ ap freedom_values e ∙ yes))

  pub longest_not_constant : {r r' : Longest} → LongestPromise aa work r work_left → LongestPromise ab work' r' work_left'
      → r ≡ r' → ⊥
  unfolding stands list_of
  longest_not_constant x y e =
      let f = longest_meaning aa work x in
      let g = longest_meaning ab work' y in
      let none = (g.none (g.grounds.answered.1 (omega arith))).1 ((empty_list ab).0 refl) in
      (f.none (f.grounds.answered.1 (omega arith))).0 (ap longest_values e ∙ none) 0 1 (stands_true aa 0 1 refl)

-- ---- a room question that refuses the limit, or goes past it

pub room_at_limit : {r : Room} → RoomPromise length_limit r → room_values r ≡ 229_376 ∷ []
unfolding depth
room_at_limit x = (room_meaning length_limit _ x).answer (omega arith)

pub room_past_limit : {r : Room} → RoomPromise (suc length_limit) r → room_number r ≡ 1
room_past_limit x = (room_meaning (suc length_limit) _ x).too_long.1 (omega arith)
