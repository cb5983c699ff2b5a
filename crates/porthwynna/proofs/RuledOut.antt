-- Wrong programs that the promises rule out, each from the function's promise alone. Assumes nothing.
use Prim.Native.Nat.{ℕ, suc, ◌<◌}
use mathlib.Core.Path.{◌≡◌, refl, sym, ap, ◌∙◌}
use mathlib.Core.List.{List, [], ◌∷◌}
use native.Mathlib.Omega.{arith}
use lib.ListN.{length, get_or, replicate}
use Rattle.repetition.specs.Limits.{length_limit}
use Rattle.repetition.specs.Outcomes.{Reply, listing, place, free_test, longest, room_question}
use Rattle.repetition.specs.Examples.{aa, ab}
use Rattle.porthwynna.specs.Answers.{answer_too_short, Back, back, handed_back, zeros_for_none}
use Rattle.porthwynna.specs.Version.{version_number}
use Rattle.porthwynna.specs.Promises.{ListCall, PlaceCall, FreeCall, LongestCall, RoomCall, VersionCall}
use Rattle.porthwynna.proofs.Answers.{told, kept_short, back_short}

-- the first number of an answer, by what a program would leave there
first_is : {r : ℕ} {answer_left wrong : List ℕ} {b : Back} → back r answer_left ≡ b → answer_left ≡ wrong
    → get_or wrong 0 0 ≡ get_or b.answer 0 0
first_is e f = ap (λ (xs : List ℕ). get_or xs 0 0) (sym f ∙ (told e).1)

-- lent memory, as it may be before
abbrev nines : ℕ → List ℕ
nines n = replicate n 9

-- ---- one that writes where the answer is too short, or gives another number there

too_short : {needs : ℕ} {answer answer_left : List ℕ} {r : ℕ} (q : Reply) → length answer < needs
    → back r answer_left ≡ handed_back needs answer q → (r ≡ answer_too_short) × (answer_left ≡ answer)
too_short q l e = told (e ∙ sym (back_short _ _ l q))

module _ {answer answer_left : List ℕ} {r : ℕ} where
  pub place_too_short : {t : List ℕ} {s p : ℕ} → PlaceCall t s p answer r answer_left → length answer < 1
      → (r ≡ answer_too_short) × (answer_left ≡ answer)
  place_too_short x l = too_short _ l x.hands_back

  pub room_too_short : {n : ℕ} → RoomCall n answer r answer_left → length answer < 1
      → (r ≡ answer_too_short) × (answer_left ≡ answer)
  room_too_short x l = too_short _ l x.hands_back

  module _ {t work work_left : List ℕ} where
    pub list_too_short : {report report_left : List ℕ} → ListCall t work report answer r work_left report_left answer_left
        → length answer < 2
        → ((r ≡ answer_too_short) × (answer_left ≡ answer)) × (work_left ≡ work) × (report_left ≡ report)
    list_too_short x l = (
      too_short _ l x.hands_back,
      x.leaves_work ∙ sym (kept_short _ _ l _ _),
      x.leaves_report ∙ sym (kept_short _ _ l _ _),
    )

    pub free_too_short : FreeCall t work answer r work_left answer_left → length answer < 1
        → ((r ≡ answer_too_short) × (answer_left ≡ answer)) × (work_left ≡ work)
    free_too_short x l = (too_short _ l x.hands_back, x.leaves_work ∙ sym (kept_short _ _ l _ _))

    pub longest_too_short : LongestCall t work answer r work_left answer_left → length answer < 2
        → ((r ≡ answer_too_short) × (answer_left ≡ answer)) × (work_left ≡ work)
    longest_too_short x l = (too_short _ l x.hands_back, x.leaves_work ∙ sym (kept_short _ _ l _ _))

module _ {answer_left : List ℕ} {r : ℕ} where
  -- ---- a room question that answers 0 always

  pub room_not_0_always : RoomCall (suc length_limit) (nines 1) r answer_left → r ≡ 0 → ⊥
  unfolding room_question handed_back
  room_not_0_always x e = omega (arith, (told x.hands_back).0)

  -- ---- one that gives n for n times D: 4 letters may need 8 blocks

  pub room_not_length : RoomCall 4 (nines 1) r answer_left → answer_left ≡ 4 ∷ [] → ⊥
  unfolding room_question handed_back
  room_not_length x e = omega (arith, first_is x.hands_back e)

  -- ---- a test that leaves the answer alone

  pub place_not_alone : PlaceCall aa 0 1 (nines 1) r answer_left → answer_left ≡ nines 1 → ⊥
  unfolding place handed_back
  place_not_alone x e = omega (arith, first_is x.hands_back e)

  module _ {work_left : List ℕ} where
    pub free_not_alone : FreeCall aa (nines 4) (nines 1) r work_left answer_left → answer_left ≡ nines 1 → ⊥
    unfolding free_test handed_back
    free_not_alone x e = omega (arith, first_is x.hands_back e)

    -- ---- a longest repetition that swaps start and half: in "aa" they are 0 and 1

    pub longest_not_swapped : LongestCall aa (nines 4) (nines 2) r work_left answer_left → answer_left ≡ 1 ∷ 0 ∷ [] → ⊥
    unfolding longest handed_back zeros_for_none
    longest_not_swapped x e = omega (arith, first_is x.hands_back e)

    -- ---- one that says "none" by leaving the answer as it was

    pub none_is_put : LongestCall ab (nines 4) (nines 2) r work_left answer_left → answer_left ≡ nines 2 → ⊥
    unfolding longest handed_back zeros_for_none
    none_is_put x e = omega (arith, first_is x.hands_back e)

    -- ---- a list that answers 0 always: where the report has no room the number is 3

    pub list_not_0_always : {report_left : List ℕ} → ListCall aa (nines 4) [] (nines 2) r work_left report_left answer_left
        → r ≡ 0 → ⊥
    unfolding listing handed_back
    list_not_0_always x e = omega (arith, (told x.hands_back).0)

    -- ---- one that swaps K and C: of "aa" they are 1 and 2

    pub list_not_swapped : {report_left : List ℕ}
        → ListCall aa (nines 4) (nines 3) (nines 2) r work_left report_left answer_left → answer_left ≡ 2 ∷ 1 ∷ [] → ⊥
    unfolding listing handed_back
    list_not_swapped x e = omega (arith, first_is x.hands_back e)

-- ---- a test with a constant answer: "aa" and "ab" differ

module _ {answer_left answer_left' : List ℕ} {r r' : ℕ} (e : answer_left ≡ answer_left') where
  pub place_not_constant : PlaceCall aa 0 1 (nines 1) r answer_left → PlaceCall ab 0 1 (nines 1) r' answer_left' → ⊥
  unfolding place handed_back
  place_not_constant x y = omega (arith, first_is x.hands_back e, first_is y.hands_back refl)

  pub free_not_constant : {work_left work_left' : List ℕ} → FreeCall aa (nines 4) (nines 1) r work_left answer_left
      → FreeCall ab (nines 4) (nines 1) r' work_left' answer_left' → ⊥
  unfolding free_test handed_back
  free_not_constant x y = omega (arith, first_is x.hands_back e, first_is y.hands_back refl)

-- ---- a version that is 0, or that has minor version and patch swapped

module _ {r : ℕ} (x : VersionCall r) where
  pub version_not_0 : r ≡ 0 → ⊥
  unfolding version_number
  version_not_0 e = omega (arith, x.built_as, e)

  pub version_not_swapped : r ≡ version_number 0 0 1 → ⊥
  unfolding version_number
  version_not_swapped e = omega (arith, x.built_as, e)
