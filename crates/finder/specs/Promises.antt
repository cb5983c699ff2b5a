-- What each entry promises: the whole outcome, as document 01's definitions give it. Lent memory stands in one order: text, work
-- space, report; first as it was lent, then, after the reply, as it is left.
use Rattle.std.specs.Prelude.{ℕ, ◌≡◌, List}
use Rattle.repetition.specs.Outcomes.{listing, place, free_test, longest, room_question}
use Rattle.finder.specs.declared.reply.Listing.{Listing}
use Rattle.finder.specs.Replies.{Place, Freedom, Longest, Room}
use Rattle.finder.specs.Replies.{reply, listing_number, listing_values, place_number, place_values}
use Rattle.finder.specs.Replies.{freedom_number, freedom_values, longest_number, longest_values, room_number, room_values}

pub record ListPromise (t work report : List ℕ) (r : Listing) (work_left report_left : List ℕ) : Type 0 where
  pub replies : reply (listing_number r) (listing_values r) ≡ (listing t work report).reply
  pub leaves_work : work_left ≡ (listing t work report).work
  pub leaves_report : report_left ≡ (listing t work report).report

pub record PlacePromise (t : List ℕ) (s p : ℕ) (r : Place) : Type 0 where
  pub replies : reply (place_number r) (place_values r) ≡ place t s p

pub record FreePromise (t work : List ℕ) (r : Freedom) (work_left : List ℕ) : Type 0 where
  pub replies : reply (freedom_number r) (freedom_values r) ≡ (free_test t work).reply
  pub leaves_work : work_left ≡ (free_test t work).work

pub record LongestPromise (t work : List ℕ) (r : Longest) (work_left : List ℕ) : Type 0 where
  pub replies : reply (longest_number r) (longest_values r) ≡ (longest t work).reply
  pub leaves_work : work_left ≡ (longest t work).work

pub record RoomPromise (n : ℕ) (r : Room) : Type 0 where
  pub replies : reply (room_number r) (room_values r) ≡ room_question n
