-- Every exported function's outcome is determined by its promise: any two outcomes that meet it are equal. Assumes nothing.
use Prim.Native.Nat.{ℕ}
use mathlib.Core.Path.{◌≡◌, sym, ◌∙◌}
use mathlib.Core.List.{List}
use Rattle.porthwynna.specs.Answers.{Back, back}
use Rattle.porthwynna.specs.Promises.{ListCall, PlaceCall, FreeCall, LongestCall, RoomCall, VersionCall}
use Rattle.porthwynna.proofs.Answers.{told}

same_back : {n n' : ℕ} {answer answer' : List ℕ} {b : Back} → back n answer ≡ b → back n' answer' ≡ b
    → (n ≡ n') × (answer ≡ answer')
same_back e f = told (e ∙ sym f)

pub one_list : {t work report answer work_left work_left' report_left report_left' answer_left answer_left' : List ℕ} {r r' : ℕ}
    → ListCall t work report answer r work_left report_left answer_left
    → ListCall t work report answer r' work_left' report_left' answer_left'
    → ((r ≡ r') × (answer_left ≡ answer_left')) × (work_left ≡ work_left') × (report_left ≡ report_left')
one_list x y = (same_back x.hands_back y.hands_back, cc, cc)

pub one_place : {t answer answer_left answer_left' : List ℕ} {s p r r' : ℕ} → PlaceCall t s p answer r answer_left
    → PlaceCall t s p answer r' answer_left' → (r ≡ r') × (answer_left ≡ answer_left')
one_place x y = same_back x.hands_back y.hands_back

pub one_freedom : {t work answer work_left work_left' answer_left answer_left' : List ℕ} {r r' : ℕ}
    → FreeCall t work answer r work_left answer_left → FreeCall t work answer r' work_left' answer_left'
    → ((r ≡ r') × (answer_left ≡ answer_left')) × (work_left ≡ work_left')
one_freedom x y = (same_back x.hands_back y.hands_back, cc)

pub one_longest : {t work answer work_left work_left' answer_left answer_left' : List ℕ} {r r' : ℕ}
    → LongestCall t work answer r work_left answer_left → LongestCall t work answer r' work_left' answer_left'
    → ((r ≡ r') × (answer_left ≡ answer_left')) × (work_left ≡ work_left')
one_longest x y = (same_back x.hands_back y.hands_back, cc)

pub one_room : {answer answer_left answer_left' : List ℕ} {n r r' : ℕ} → RoomCall n answer r answer_left
    → RoomCall n answer r' answer_left' → (r ≡ r') × (answer_left ≡ answer_left')
one_room x y = same_back x.hands_back y.hands_back

pub one_version : {r r' : ℕ} → VersionCall r → VersionCall r' → r ≡ r'
one_version x y = x.built_as ∙ sym y.built_as
