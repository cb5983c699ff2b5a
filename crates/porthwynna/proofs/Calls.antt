-- Each function's outcome, made from what the finder promises, is the one that its own promise asks for. Assumes nothing.
use Prim.Native.Nat.{ℕ, ◌≤◌, ◌<◌}
use mathlib.Core.Path.{◌≡◌, refl, ap, ◌∙◌}
use mathlib.Core.List.{List, [], ◌∷◌}
use native.Mathlib.Omega.{arith}
use lib.ListN.{length}
use Rattle.std.specs.Prelude.{Option, None, Some, Ok, Err}
use Rattle.repetition.specs.Limits.{length_limit}
use Rattle.repetition.specs.Memory.{over}
use Rattle.finder.specs.declared.reply.Listing.{Listing}
use Rattle.finder.specs.declared.reply.Repetition.{Repetition}
use Rattle.finder.specs.declared.reply.Refusal.TheVariants as refusal
use Rattle.finder.specs.Replies.{Place, Freedom, Longest, Room}
use Rattle.finder.specs.Replies.{reply, listing_number, listing_values, place_number, place_values}
use Rattle.finder.specs.Replies.{freedom_number, freedom_values, longest_number, longest_values, room_number, room_values}
use Rattle.finder.specs.Replies.{values_of}
use Rattle.finder.specs.Promises.{ListPromise, PlacePromise, FreePromise, LongestPromise, RoomPromise}
use Rattle.finder.proofs.Demands.{longest_meaning}
use Rattle.porthwynna.specs.Answers.{answer_too_short, zeros_for_none}
use Rattle.porthwynna.specs.Promises.{ListCall, PlaceCall, FreeCall, LongestCall, RoomCall}
use Rattle.porthwynna.proofs.Answers.{kept_short, back_short, kept_enough, back_enough}

-- ---- the list

module _ (t work report answer : List ℕ) where
  pub list_short : length answer < 2 → ListCall t work report answer answer_too_short work report answer
  list_short l =
      record {
        hands_back = back_short 2 answer l _;
        leaves_work = kept_short 2 answer l work _;
        leaves_report = kept_short 2 answer l report _;
      }

  pub list_call : {k : Listing} {r : ℕ} {work_left report_left answer_left : List ℕ} → 2 ≤ length answer
      → ListPromise t work report k work_left report_left → r ≡ listing_number k → answer_left ≡ over (listing_values k) answer
      → ListCall t work report answer r work_left report_left answer_left
  list_call l promise is put =
      record {
        hands_back = back_enough 2 answer l promise.replies is put;
        leaves_work = promise.leaves_work ∙ kept_enough 2 answer l work _;
        leaves_report = promise.leaves_report ∙ kept_enough 2 answer l report _;
      }

-- ---- the place test

module _ (t : List ℕ) (s p : ℕ) (answer : List ℕ) where
  pub place_short : length answer < 1 → PlaceCall t s p answer answer_too_short answer
  place_short l = record { hands_back = back_short 1 answer l _ }

  pub place_call : {k : Place} {r : ℕ} {answer_left : List ℕ} → 1 ≤ length answer → PlacePromise t s p k → r ≡ place_number k
      → answer_left ≡ over (place_values k) answer → PlaceCall t s p answer r answer_left
  place_call l promise is put = record { hands_back = back_enough 1 answer l promise.replies is put }

-- ---- the free test

module _ (t work answer : List ℕ) where
  pub free_short : length answer < 1 → FreeCall t work answer answer_too_short work answer
  free_short l = record { hands_back = back_short 1 answer l _; leaves_work = kept_short 1 answer l work _ }

  pub free_call : {k : Freedom} {r : ℕ} {work_left answer_left : List ℕ} → 1 ≤ length answer → FreePromise t work k work_left
      → r ≡ freedom_number k → answer_left ≡ over (freedom_values k) answer → FreeCall t work answer r work_left answer_left
  free_call l promise is put =
      record {
        hands_back = back_enough 1 answer l promise.replies is put;
        leaves_work = promise.leaves_work ∙ kept_enough 1 answer l work _;
      }

-- ---- the longest repetition

-- the values with zeros for "none"
abbrev zeros_or : Option Repetition → List ℕ
zeros_or (Some a) = a.start ∷ a.half ∷ []
zeros_or None = 0 ∷ 0 ∷ []

zeros_put : (r : Longest)
    → reply (longest_number r) (values_of zeros_or r) ≡ zeros_for_none (reply (longest_number r) (longest_values r))
unfolding zeros_for_none
zeros_put (Ok (Some a)) = refl
zeros_put (Ok None) = refl
zeros_put (Err refusal.TextTooLong) = refl
zeros_put (Err refusal.WorkTooShort) = refl

module _ (t work : List ℕ) where
  -- start and half are within the limit
  pub longest_fits : {a : Repetition} {work_left : List ℕ} → LongestPromise t work (Ok (Some a)) work_left
      → (a.start ≤ length_limit) × (a.half ≤ length_limit)
  longest_fits {a} promise =
      let m = longest_meaning t work promise in
      omega (arith, (m.found refl a.start a.half refl).stands.within, (m.grounds.answered.0 refl).0)

  module _ (answer : List ℕ) where
    pub longest_short : length answer < 2 → LongestCall t work answer answer_too_short work answer
    longest_short l = record { hands_back = back_short 2 answer l _; leaves_work = kept_short 2 answer l work _ }

    pub longest_call : {k : Longest} {r : ℕ} {work_left answer_left : List ℕ} → 2 ≤ length answer
        → LongestPromise t work k work_left → r ≡ longest_number k → answer_left ≡ over (values_of zeros_or k) answer
        → LongestCall t work answer r work_left answer_left
    longest_call {k} l promise is put =
        record {
          hands_back = back_enough 2 answer l (zeros_put k ∙ ap zeros_for_none promise.replies) is put;
          leaves_work = promise.leaves_work ∙ kept_enough 2 answer l work _;
        }

-- ---- the room question

module _ (n : ℕ) (answer : List ℕ) where
  pub room_short : length answer < 1 → RoomCall n answer answer_too_short answer
  room_short l = record { hands_back = back_short 1 answer l _ }

  pub room_call : {k : Room} {r : ℕ} {answer_left : List ℕ} → 1 ≤ length answer → RoomPromise n k → r ≡ room_number k
      → answer_left ≡ over (room_values k) answer → RoomCall n answer r answer_left
  room_call l promise is put = record { hands_back = back_enough 1 answer l promise.replies is put }
