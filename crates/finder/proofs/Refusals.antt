-- On which ground an entry refuses, or on none, and the outcome then: the definitions of document 01, case by case.
-- Assumes nothing.
use Prim.Native.Nat.{ℕ, suc, ◌+◌, ◌*◌, ◌≤◌, ◌<◌}
use mathlib.Core.Path.{◌≡◌}
use mathlib.Core.Logic.{◌⊎◌, inl, inr}
use mathlib.Core.Bool.{or-true}
use mathlib.Core.List.{List, [], ◌∷◌}
use native.Mathlib.Omega.{arith}
use borrow.Author.Tests.{lt-ltb, le-ltb, eq-eqb, ne_eqb}
use lib.Dec.{eqb}
use lib.ListN.{length}
use Rattle.repetition.specs.Numbers.{one_if}
use Rattle.repetition.specs.Repetition.{stands}
use Rattle.repetition.specs.Limits.{length_limit, room_for}
use Rattle.repetition.specs.Memory.{cleared}
use Rattle.repetition.specs.Outcomes.{refused, refusal, listed, listing, place, asked, room_question}

module _ (t work : List ℕ) where
  pub refused_1 : length_limit < length t → refusal t work ≡ 1
  unfolding refusal
  refused_1 l = rw (lt-ltb length_limit (length t) l)

  pub refused_2 : length t ≤ length_limit → length work < 2 * length t → refusal t work ≡ 2
  unfolding refusal
  refused_2 l m = rw (le-ltb length_limit (length t) l, lt-ltb (length work) (2 * length t) m)

  pub not_refused : length t ≤ length_limit → 2 * length t ≤ length work → refusal t work ≡ 0
  unfolding refusal
  not_refused l m = rw (le-ltb length_limit (length t) l, le-ltb (length work) (2 * length t) m)

  -- ---- the list

  pub listing_refused : (report : List ℕ) (k : ℕ) → refusal t work ≡ suc k
      → listing t work report ≡ record { reply = refused (suc k); work = work; report = report }
  unfolding listing
  listing_refused report k e = rw (e, listing)

  pub listing_taken : (report : List ℕ) → refusal t work ≡ 0 → listing t work report ≡ listed t work report
  unfolding listing
  listing_taken report e = rw (e, listing)

  -- ---- a question

  pub asked_refused : (answer : List ℕ → List ℕ) (k : ℕ) → refusal t work ≡ suc k
      → asked answer t work ≡ record { reply = refused (suc k); work = work }
  unfolding asked
  asked_refused answer k e = rw (e, asked)

  pub asked_taken : (answer : List ℕ → List ℕ) → refusal t work ≡ 0
      → asked answer t work ≡ record { reply = record { number = 0; values = answer t }; work = cleared (length t) work }
  unfolding asked
  asked_taken answer e = rw (e, asked)

-- ---- the place test

-- the half is 0, or the place goes past the end
abbrev pub NoPlace : List ℕ → ℕ → ℕ → Type 0
NoPlace t s p = (p ≡ 0) ⊎ (length t < s + 2 * p)

module _ (t : List ℕ) (s p : ℕ) where
  pub place_refused : length_limit < length t → place t s p ≡ refused 1
  unfolding place
  place_refused l = rw (lt-ltb length_limit (length t) l, place)

  module _ (l : length t ≤ length_limit) where
    pub place_none : NoPlace t s p → place t s p ≡ refused 4
    unfolding place
    place_none (inl z) = rw (le-ltb length_limit (length t) l, eq-eqb p 0 z, place)
    place_none (inr m) = rw (le-ltb length_limit (length t) l, lt-ltb (length t) (s + 2 * p) m, or-true (eqb p 0), place)

    pub place_taken : 1 ≤ p → s + 2 * p ≤ length t
        → place t s p ≡ record { number = 0; values = one_if (stands t s p) ∷ [] }
    unfolding place
    place_taken one m =
        rw (le-ltb length_limit (length t) l, ne_eqb p 0 (omega arith), le-ltb (length t) (s + 2 * p) m, place)

-- ---- the room question

module _ (n : ℕ) where
  pub room_refused : length_limit < n → room_question n ≡ refused 1
  unfolding room_question
  room_refused l = rw (lt-ltb length_limit n l, room_question)

  pub room_taken : n ≤ length_limit → room_question n ≡ record { number = 0; values = room_for n ∷ [] }
  unfolding room_question
  room_taken l = rw (le-ltb length_limit n l, room_question)
