-- The parts of a text are found one after the other. Assumes nothing.
use Prim.Native.Nat.{ℕ, ◌+◌, ◌-◌, ◌*◌, ◌≤◌, ◌<◌}
use mathlib.Core.Path.{◌≡◌, refl, sym, ap, subst, ◌∙◌}
use mathlib.Core.List.{List, [], ◌∷◌, foldl, foldl-append}
use native.Mathlib.Omega.{arith}
use lib.ListN.{length}
use Rattle.repetition.specs.Numbers.{total}
use Rattle.repetition.specs.Cutting.{Part, cut, cut_of, parts}
use Rattle.repetition.specs.Blocks.{part_blocks}
use Rattle.repetition.specs.Comparisons.{part_comparisons}
use Rattle.repetition.specs.Limits.{length_limit}
use Rattle.repetition.proofs.Lists.{total-append}
use Rattle.repetition.proofs.Cutting.{cut_inside, parts_small, parts_unroll, parts_ind}
use Rattle.repetition.proofs.Bounds.{part_cost, part_size}
use Rattle.tables.specs.Parts.{part, letters, with_tables}
use Rattle.tables.proofs.Parts.{length-with_tables}
use Rattle.finder.specs.declared.tally.Tally.{Tally}
use Rattle.finder.specs.Kept.{Kept, kept, compared, found, found_all}
use Rattle.finder.specs.Finding.{tables_left, letters_in, HasRoom, CanFindPart, CanFind, Finds}
use Rattle.finder.proofs.Puts.{length-put_all, blocks_put_all, comparisons_put_all}

-- ---- a fold over the parts: nothing for a small part, else the part, its left piece and its right piece

module _ {A : Type 0} (f : A → Part → A) (x : A) (a b : ℕ) where
  none_over : b - a < 2 → foldl f x (parts a b) ≡ x
  none_over l = ap (foldl f x) (parts_small a b l)

  over_pieces : 2 ≤ b - a
      → foldl f x (parts a b) ≡ foldl f (foldl f (f x (part a b)) (parts a (cut a b))) (parts (cut a b) b)
  over_pieces l = ap (foldl f x) (parts_unroll a b l) ∙ foldl-append f (f x (part a b)) (parts a (cut a b)) (parts (cut a b) b)

letters_pieces : (a b : ℕ) → 2 ≤ b - a → letters_in a b ≡ (b - a) + letters_in a (cut a b) + letters_in (cut a b) b
unfolding total
letters_pieces a b l =
    ap (total letters) (parts_unroll a b l)
    ∙ rw (total-append letters (parts a (cut a b)) (parts (cut a b) b)) (omega arith)

-- ---- how far the counts have come

-- from one tally to another, at most one block and four comparisons for each letter
record Grown (y y' : Tally) (n : ℕ) : Type 0 where
  blocks_grown : y'.blocks ≤ y.blocks + n
  comparisons_grown : y'.comparisons ≤ y.comparisons + 4 * n

room_after : (y y' : Tally) (m n : ℕ) → HasRoom y (m + n) → Grown y y' m → HasRoom y' n
room_after y y' m n room grown = omega (arith, room, grown)

grown_on : (x y z : Tally) (m n : ℕ) → Grown x y m → Grown y z n → Grown x z (m + n)
grown_on x y z m n g h = omega (arith, g, h)

abbrev counting : List ℕ → Kept → Part → Kept
counting t k q = kept k.report (compared k.tally (k.tally.comparisons + part_comparisons t q))

grown_found : (t : List ℕ) (k : Kept) (q : Part) → 2 ≤ letters q → q.to ≤ length t
    → Grown k.tally (found t k q).tally (letters q)
unfolding found
grown_found t k q wide inside =
    omega (
      arith,
      blocks_put_all (counting t k q) (part_blocks t q),
      comparisons_put_all (counting t k q) (part_blocks t q),
      part_size t q wide inside,
      part_cost t q wide inside,
    )

grown_all : (t : List ℕ) (a b : ℕ) → b ≤ length t → (k : Kept)
    → Grown k.tally (found_all t k (parts a b)).tally (letters_in a b)
unfolding total
grown_all t =
    parts_ind (λ x y qs. y ≤ length t → (k : Kept) → Grown k.tally (found_all t k qs).tally (total letters qs))
    (λ x y l in_text k. omega arith)
    (λ x y l us vs in_text k.
    let us_list = parts x (cut x y) in
    let vs_list = parts (cut x y) y in
    let here = found t k (part x y) in
    let left = found_all t here us_list in
    let w = cut_inside x y l in
    rw (foldl-append (found t) here us_list vs_list, total-append letters us_list vs_list)
    (grown_on _ _ _ _ _ (grown_found t k (part x y) l in_text)
    (grown_on _ _ _ _ _ (us (omega arith) here) (vs in_text left))))

-- ---- lengths

length-found_all : (t : List ℕ) (k : Kept) (qs : List Part) → length (found_all t k qs).report ≡ length k.report
unfolding found
length-found_all t k [] = refl
length-found_all t k (q ∷ qs) = length-found_all t (found t k q) qs ∙ length-put_all _ (part_blocks t q)

pub report_kept : {t work report work_left report_left : List ℕ} {qs : List Part} {y r : Tally}
    → Finds t work report qs y r work_left report_left → length report_left ≡ length report
report_kept {t = t} {report = report} {qs = qs} {y = y} f =
    ap (λ (k : Kept). length k.report) f.keeps ∙ length-found_all t (kept report y) qs

length-tables_left : (t : List ℕ) → length t ≤ length_limit → (a b : ℕ) → b ≤ length t → (work : List ℕ)
    → 2 * (b - a) ≤ length work → length (tables_left t work (parts a b)) ≡ length work
length-tables_left t limit =
    parts_ind
    (λ x y qs. y ≤ length t → (work : List ℕ) → 2 * (y - x) ≤ length work → length (tables_left t work qs) ≡ length work)
    (λ x y l in_text work room. refl)
    (λ x y l us vs in_text work room.
    let e = length-with_tables t work (part x y) (record { wide = l; inside = in_text; limit = limit; room = room }) in
    let w = cut_inside x y l in
    let f = us (omega arith) (with_tables t (part x y) work) (omega (arith, e)) in
    ap length (foldl-append (λ w q. with_tables t q w) (with_tables t (part x y) work) (parts x (cut x y)) (parts (cut x y) y))
    ∙ vs in_text (tables_left t (with_tables t (part x y) work) (parts x (cut x y))) (omega (arith, e, f)) ∙ f ∙ e)

-- ---- a small part: nothing is found, and all is left as it was

pub found_none : (t : List ℕ) (k : Kept) (a b : ℕ) → b - a < 2 → found_all t k (parts a b) ≡ k
found_none t k a b l = none_over (found t) k a b l

pub tables_none : (t work : List ℕ) (a b : ℕ) → b - a < 2 → tables_left t work (parts a b) ≡ work
tables_none t work a b l = none_over (λ w q. with_tables t q w) work a b l

pub none_found : {t work report : List ℕ} {y : Tally} (a b : ℕ) → b - a < 2 → Finds t work report (parts a b) y y work report
none_found a b l = record { keeps = sym (found_none _ _ a b l); leaves_work = sym (tables_none _ _ a b l) }

-- ---- the way from a part to its pieces

module _ (t work : List ℕ) (from to : ℕ) (y : Tally) (can : CanFind t work from to y) where
  pub length_left : length (tables_left t work (parts from to)) ≡ length work
  length_left = length-tables_left t can.limit from to can.inside work can.room

  module _ (wide : 2 ≤ to - from) where
    whole_part : CanFindPart t work (part from to) y
    whole_part =
        record {
          placed = record { wide = wide; inside = can.inside; limit = can.limit; room = can.room };
          counts = omega (arith, can.counts, letters_pieces from to wide);
        }

    pub can_part : {q : Part} → q ≡ part from to → CanFindPart t work q y
    can_part is = subst (λ (q : Part). CanFindPart t work q y) (sym is) whole_part

    module _ {report : List ℕ} {q : Part} {c : ℕ} {y₁ : Tally} {work₁ report₁ : List ℕ} (is : q ≡ part from to)
        (cuts : c ≡ cut_of q) (found_here : Finds t work report (q ∷ []) y y₁ work₁ report₁) where
      cut_is : c ≡ cut from to
      cut_is = cuts ∙ ap cut_of is

      here : Finds t work report (part from to ∷ []) y y₁ work₁ report₁
      here = subst (λ (x : Part). Finds t work report (x ∷ []) y y₁ work₁ report₁) is found_here

      room_pieces : HasRoom y₁ (letters_in from c + letters_in c to)
      room_pieces =
          let g = grown_found t (kept report y) (part from to) wide can.inside in
          let e = letters_pieces from to wide in
          rw cut_is
          (room_after y y₁ (to - from) _ (omega (arith, can.counts, e))
          (rw (ap (λ (k : Kept). k.tally) here.keeps) g))

      length_here : length work₁ ≡ length work
      length_here = ap length here.leaves_work ∙ length-with_tables t work (part from to) whole_part.placed

      pub can_left : CanFind t work₁ from c y₁
      can_left =
          let w = cut_inside from to wide in
          let e = cut_is in
          record {
            ordered = omega arith;
            inside = omega (arith, can.inside);
            limit = can.limit;
            room = omega (arith, can.room, length_here);
            counts = omega (arith, room_pieces);
          }

      module _ {y₂ : Tally} {work₂ report₂ : List ℕ} (lefts : Finds t work₁ report₁ (parts from c) y₁ y₂ work₂ report₂) where
        pub can_right : CanFind t work₂ c to y₂
        can_right =
            let w = cut_inside from to wide in
            let cuts_at = cut_is in
            let g = grown_all t from c can_left.inside (kept report₁ y₁) in
            let e =
            ap length lefts.leaves_work ∙ length-tables_left t can.limit from c can_left.inside work₁ can_left.room in
            record {
              ordered = omega arith;
              inside = can.inside;
              limit = can.limit;
              room = omega (arith, can.room, length_here, e);
              counts =
                  room_after y₁ y₂ (letters_in from c) (letters_in c to) room_pieces
                  (rw (ap (λ (k : Kept). k.tally) lefts.keeps) g);
            }

        pub all_found : {y₃ : Tally} {work₃ report₃ : List ℕ} → Finds t work₂ report₂ (parts c to) y₂ y₃ work₃ report₃
            → Finds t work report (parts from to) y y₃ work₃ report₃
        all_found rights =
            record {
              keeps =
                  rights.keeps ∙ rw (lefts.keeps, here.keeps, cut_is)
                  (sym (over_pieces (found t) (kept report y) from to wide));
              leaves_work =
                  rights.leaves_work ∙ rw (lefts.leaves_work, here.leaves_work, cut_is)
                  (sym (over_pieces (λ w q. with_tables t q w) work from to wide));
            }

pub pieces_fall : (a b : ℕ) {q : Part} {c : ℕ} → q ≡ part a b → c ≡ cut_of q → 2 ≤ b - a
    → (c - a < b - a) × (b - c < b - a)
pieces_fall a b is cuts wide = omega (arith, cuts ∙ ap cut_of is, cut_inside a b wide)
