-- What is handed back to a C caller: document 01's reply, its number as the result and its values in an answer that is lent.
use Rattle.std.specs.Prelude.{ℕ, zero, suc, cond, List, [], ◌∷◌, ltb, length}
use Rattle.repetition.specs.Memory.{over}
use Rattle.repetition.specs.Outcomes.{Reply}

-- the number by which an answer is refused that is shorter than the function needs; no document has it
abbrev pub answer_too_short : ℕ
answer_too_short = 99

-- What a function leaves that needs so many numbers of the answer: where the answer is shorter, what is lent as it was.
unfoldable pub kept_if_short : {A : Type 0} (needs : ℕ) (answer : List ℕ) (if_short if_enough : A) → A
kept_if_short needs answer if_short if_enough = cond (ltb (length answer) needs) if_short if_enough

-- the result, and the answer as it is left
pub record Back : Type 0 where
  pub number : ℕ
  pub answer : List ℕ

abbrev pub back : ℕ → List ℕ → Back
back n answer = record { number = n; answer = answer }

-- What is handed back for a reply: its number, and its values at the front of the answer, the rest of it as before.
unfoldable pub handed_back : ℕ → List ℕ → Reply → Back
unfolding kept_if_short over
handed_back needs answer r =
    kept_if_short needs answer (back answer_too_short answer) (back r.number (over r.values answer))

-- The longest repetition's reply with 0 and 0 for "none". No repetition has half 0.
unfoldable pub zeros_for_none : Reply → Reply
zeros_for_none r =
    elim r.number [
      | zero ↦ elim r.values [ [] ↦ record { number = 0; values = 0 ∷ 0 ∷ [] } | v ∷ vs ↦ r ]
      | suc k ↦ r
    ]
