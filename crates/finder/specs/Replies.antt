-- Document 01's number of each reply, and the values handed back with it.
use Rattle.std.specs.Prelude.{ℕ, Bool, List, [], ◌∷◌, Option, None, Some, Result, Ok, Err}
use Rattle.repetition.specs.Numbers.{one_if}
use Rattle.repetition.specs.Outcomes.{Reply}
use Rattle.finder.specs.declared.reply.Totals.{Totals}
use Rattle.finder.specs.declared.reply.Repetition.{Repetition}
use Rattle.finder.specs.declared.reply.TextTooLong.{TextTooLong}
use Rattle.finder.specs.declared.reply.Refusal.{Refusal}
use Rattle.finder.specs.declared.reply.Refusal.TheVariants as refusal
use Rattle.finder.specs.declared.reply.PlaceRefusal.{PlaceRefusal}
use Rattle.finder.specs.declared.reply.PlaceRefusal.TheVariants as place
use Rattle.finder.specs.declared.reply.Listing.{Listing}
use Rattle.finder.specs.declared.reply.Listing.TheVariants as listing

abbrev pub reply : ℕ → List ℕ → Reply
reply n vs = record { number = n; values = vs }

-- ---- refusals

abbrev pub too_long_number : TextTooLong → ℕ
too_long_number e = 1

abbrev pub refusal_number : Refusal → ℕ
refusal_number refusal.TextTooLong = 1
refusal_number refusal.WorkTooShort = 2

abbrev pub place_refusal_number : PlaceRefusal → ℕ
place_refusal_number place.TextTooLong = 1
place_refusal_number place.NoSuchPlace = 4

-- ---- an answer or a refusal: an answer has number 0, and a refusal has no values

abbrev pub number_of : {A E : Type 0} → (E → ℕ) → Result A E → ℕ
number_of refusal (Ok a) = 0
number_of refusal (Err e) = refusal e

abbrev pub values_of : {A E : Type 0} → (A → List ℕ) → Result A E → List ℕ
values_of values (Ok a) = values a
values_of values (Err e) = []

-- yes is 1 and no is 0
abbrev pub yes_or_no : Bool → List ℕ
yes_or_no b = one_if b ∷ []

-- start and half, or nothing
abbrev pub start_and_half : Option Repetition → List ℕ
start_and_half None = []
start_and_half (Some a) = a.start ∷ a.half ∷ []

-- ---- the list

abbrev pub totals_values : Totals → List ℕ
totals_values a = a.blocks ∷ a.comparisons ∷ []

abbrev pub listing_number : Listing → ℕ
listing_number (listing.Finished a) = 0
listing_number listing.TextTooLong = 1
listing_number listing.WorkTooShort = 2
listing_number (listing.Full a) = 3

abbrev pub listing_values : Listing → List ℕ
listing_values (listing.Finished a) = totals_values a
listing_values listing.TextTooLong = []
listing_values listing.WorkTooShort = []
listing_values (listing.Full a) = totals_values a

-- a refused list
abbrev pub refused_list : Refusal → Listing
refused_list refusal.TextTooLong = listing.TextTooLong
refused_list refusal.WorkTooShort = listing.WorkTooShort

-- ---- the place test

abbrev pub Place : Type 0
Place = Result Bool PlaceRefusal

abbrev pub place_number : Place → ℕ
place_number = number_of place_refusal_number

abbrev pub place_values : Place → List ℕ
place_values = values_of yes_or_no

-- ---- the free test

abbrev pub Freedom : Type 0
Freedom = Result Bool Refusal

abbrev pub freedom_number : Freedom → ℕ
freedom_number = number_of refusal_number

abbrev pub freedom_values : Freedom → List ℕ
freedom_values = values_of yes_or_no

-- ---- the longest repetition

abbrev pub Longest : Type 0
Longest = Result (Option Repetition) Refusal

abbrev pub longest_number : Longest → ℕ
longest_number = number_of refusal_number

abbrev pub longest_values : Longest → List ℕ
longest_values = values_of start_and_half

-- ---- the room question

abbrev pub Room : Type 0
Room = Result ℕ TextTooLong

abbrev pub room_number : Room → ℕ
room_number = number_of too_long_number

abbrev pub room_values : Room → List ℕ
room_values = values_of (λ n. n ∷ [])
