-- What is handed back for an answer that is too short, and for one that is long enough. Assumes nothing.
use Prim.Native.Nat.{ℕ, ◌≤◌, ◌<◌}
use mathlib.Core.Path.{◌≡◌, sym, ap, ap₂, ◌∙◌}
use mathlib.Core.Bool.{Bool, true, false}
use mathlib.Core.List.{List, [], ◌∷◌, ◌++◌}
use borrow.Author.Tests.{lt-ltb, le-ltb}
use lib.ListN.{length, drop}
use Rattle.std.specs.Array.{IsFirstChunk}
use Rattle.std.specs.Int.{from_bool}
use Rattle.std.proofs.Common.{take-append-drop}
use Rattle.repetition.specs.Memory.{over}
use Rattle.repetition.specs.Outcomes.{Reply}
use Rattle.finder.specs.Replies.{reply, yes_or_no}
use Rattle.porthwynna.specs.Answers.{answer_too_short, kept_if_short, Back, back, handed_back}

-- ---- values at the front of an answer

pub values_put : {front vs : List ℕ} (answer : List ℕ) → front ≡ vs → front ++ drop (length vs) answer ≡ over vs answer
unfolding over
values_put answer e = rw e

-- a yes or a no
pub yes_put : (answer : List ℕ) (b : Bool) {v : ℕ} → v ≡ from_bool b → v ∷ drop 1 answer ≡ over (yes_or_no b) answer
unfolding over
yes_put answer true e = rw e
yes_put answer false e = rw e

-- no value: the front is as it was
pub kept : {answer front : List ℕ} {n : ℕ} → IsFirstChunk answer front n → front ++ drop n answer ≡ over [] answer
unfolding over
kept {answer} {n = n} chunk = rw chunk.same (take-append-drop n answer)

-- what is handed back tells the result and the answer
pub told : {r : ℕ} {answer_left : List ℕ} {b : Back} → back r answer_left ≡ b → (r ≡ b.number) × (answer_left ≡ b.answer)
told e = (ap (λ (b : Back). b.number) e, ap (λ (b : Back). b.answer) e)

module _ (needs : ℕ) (answer : List ℕ) where
  -- ---- an answer that is too short

  module _ (short : length answer < needs) where
    pub kept_short : {A : Type 0} (if_short if_enough : A) → if_short ≡ kept_if_short needs answer if_short if_enough
    unfolding kept_if_short
    kept_short if_short if_enough = rw (lt-ltb (length answer) needs short)

    pub back_short : (q : Reply) → back answer_too_short answer ≡ handed_back needs answer q
    unfolding handed_back
    back_short q = kept_short _ _

  -- ---- one that is long enough

  module _ (enough : needs ≤ length answer) where
    pub kept_enough : {A : Type 0} (if_short if_enough : A) → if_enough ≡ kept_if_short needs answer if_short if_enough
    unfolding kept_if_short
    kept_enough if_short if_enough = rw (le-ltb (length answer) needs enough)

    handed_is : {n : ℕ} {vs : List ℕ} {q : Reply} → reply n vs ≡ q → back n (over vs answer) ≡ handed_back needs answer q
    unfolding handed_back
    handed_is e = kept_enough _ _ ∙ ap (handed_back needs answer) e

    pub handed : {n r : ℕ} {vs answer_left : List ℕ} {q : Reply} → back r answer_left ≡ handed_back needs answer q
        → q ≡ reply n vs → (r ≡ n) × (answer_left ≡ over vs answer)
    handed e f = told (e ∙ sym (handed_is (sym f)))

    -- what is handed back for a reply of number n and values vs
    pub back_enough : {n r : ℕ} {vs answer_left : List ℕ} {q : Reply} → reply n vs ≡ q → r ≡ n → answer_left ≡ over vs answer
        → back r answer_left ≡ handed_back needs answer q
    back_enough e is put = ap₂ back is put ∙ handed_is e
