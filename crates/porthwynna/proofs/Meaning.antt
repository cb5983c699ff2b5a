-- The longest repetition's answer says "none" by half 0, and by that alone: from the promise. Assumes nothing.
use Prim.Native.Nat.{ℕ, zero, suc, ◌≤◌}
use mathlib.Core.Path.{◌≡◌, refl, sym, ap, ◌∙◌}
use mathlib.Core.Logic.{◌↔◌}
use mathlib.Core.List.{List, [], ◌∷◌, cons≢nil}
use native.Mathlib.Omega.{arith}
use lib.ListN.{length, get_or}
use Rattle.repetition.specs.Repetition.{Repetition}
use Rattle.repetition.specs.Blocks.{Block, list_of}
use Rattle.repetition.specs.Memory.{over}
use Rattle.repetition.specs.Outcomes.{refusal, Asked, longest_of, longest_in, longest}
use Rattle.repetition.proofs.Listing.{empty_list}
use Rattle.repetition.proofs.Longest.{longest_is}
use Rattle.finder.specs.Replies.{reply}
use Rattle.finder.proofs.Refusals.{asked_refused, asked_taken}
use Rattle.porthwynna.specs.Answers.{zeros_for_none}
use Rattle.porthwynna.specs.Promises.{LongestCall}
use Rattle.porthwynna.proofs.Answers.{handed}

module _ {t work answer : List ℕ} {r : ℕ} {work_left answer_left : List ℕ}
    (x : LongestCall t work answer r work_left answer_left) (enough : 2 ≤ length answer) where
  abbrev longest_answer : List ℕ → List ℕ
  longest_answer t = longest_in (list_of t)

  refused_number : (k : ℕ) → refusal t work ≡ suc k → r ≡ suc k
  unfolding longest zeros_for_none
  refused_number k e =
      (handed 2 answer enough x.hands_back
      (ap (λ (o : Asked). zeros_for_none o.reply) (asked_refused t work longest_answer k e))).0

  answer_is : refusal t work ≡ 0 → (vs : List ℕ) → zeros_for_none (reply 0 (longest_answer t)) ≡ reply 0 vs
      → answer_left ≡ over vs answer
  unfolding longest
  answer_is e vs f =
      (handed 2 answer enough x.hands_back
      (ap (λ (o : Asked). zeros_for_none o.reply) (asked_taken t work longest_answer e) ∙ f)).1

  half_is : refusal t work ≡ 0 → (s p : ℕ) → zeros_for_none (reply 0 (longest_answer t)) ≡ reply 0 (s ∷ p ∷ [])
      → get_or answer_left 1 0 ≡ p
  unfolding over
  half_is e s p f = ap (λ (xs : List ℕ). get_or xs 1 0) (answer_is e _ f)

  pub none_is_half_0 : r ≡ 0 → (get_or answer_left 1 0 ≡ 0) ↔ ((s p : ℕ) → Repetition t s p → ⊥)
  unfolding zeros_for_none longest_in
  none_is_half_0 answered = go (refusal t work) refl (list_of t) refl
    where
      go : (k : ℕ) → refusal t work ≡ k → (bs : List Block) → list_of t ≡ bs
          → (get_or answer_left 1 0 ≡ 0) ↔ ((s p : ℕ) → Repetition t s p → ⊥)
      go (suc k) e bs f = absurd (omega (arith, refused_number k e))
      go zero e [] f =
          (λ _. (empty_list t).0 f, λ _. half_is e 0 0 (ap (λ bs. zeros_for_none (reply 0 (longest_in bs))) f))
      go zero e (b ∷ bs) f =
          let c = longest_of b bs in
          let half = half_is e c.first c.half (ap (λ bs. zeros_for_none (reply 0 (longest_in bs))) f) in
          let one = (longest_is t c.first c.half (ap longest_in f)).stands.nonempty in (
            λ z. absurd (omega arith),
            λ none. absurd (cons≢nil (sym f ∙ (empty_list t).1 none)),
          )
