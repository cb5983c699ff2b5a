-- What each exported function promises: the whole outcome, as document 01's definitions give it. Lent memory stands in one order:
-- text, work space, report, answer; first as it was lent, then, after the result, as it is left. A 2 or a 1 says how many numbers
-- of the answer the function needs.
use Rattle.std.specs.Prelude.{ℕ, ◌≡◌, List}
use Rattle.repetition.specs.Outcomes.{listing, place, free_test, longest, room_question}
use Rattle.porthwynna.specs.Answers.{kept_if_short, back, handed_back, zeros_for_none}
use Rattle.porthwynna.specs.Version.{version}

pub record ListCall (t work report answer : List ℕ) (r : ℕ) (work_left report_left answer_left : List ℕ) : Type 0 where
  pub hands_back : back r answer_left ≡ handed_back 2 answer (listing t work report).reply
  pub leaves_work : work_left ≡ kept_if_short 2 answer work (listing t work report).work
  pub leaves_report : report_left ≡ kept_if_short 2 answer report (listing t work report).report

pub record PlaceCall (t : List ℕ) (s p : ℕ) (answer : List ℕ) (r : ℕ) (answer_left : List ℕ) : Type 0 where
  pub hands_back : back r answer_left ≡ handed_back 1 answer (place t s p)

pub record FreeCall (t work answer : List ℕ) (r : ℕ) (work_left answer_left : List ℕ) : Type 0 where
  pub hands_back : back r answer_left ≡ handed_back 1 answer (free_test t work).reply
  pub leaves_work : work_left ≡ kept_if_short 1 answer work (free_test t work).work

pub record LongestCall (t work answer : List ℕ) (r : ℕ) (work_left answer_left : List ℕ) : Type 0 where
  pub hands_back : back r answer_left ≡ handed_back 2 answer (zeros_for_none (longest t work).reply)
  pub leaves_work : work_left ≡ kept_if_short 2 answer work (longest t work).work

pub record RoomCall (n : ℕ) (answer : List ℕ) (r : ℕ) (answer_left : List ℕ) : Type 0 where
  pub hands_back : back r answer_left ≡ handed_back 1 answer (room_question n)

pub record VersionCall (r : ℕ) : Type 0 where
  pub built_as : r ≡ version
