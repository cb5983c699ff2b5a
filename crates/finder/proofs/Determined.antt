-- Every entry's outcome is determined by its promise: any two outcomes that meet it are equal. Assumes nothing.
use Prim.Native.Nat.{ℕ, zero, suc}
use mathlib.Core.Path.{◌≡◌, refl, sym, ap, ◌∙◌}
use mathlib.Core.Bool.{Bool, true, false}
use mathlib.Core.List.{List, [], ◌∷◌}
use lib.Dec.{eqb}
use lib.ListN.{get_or}
use Rattle.std.specs.Prelude.{Option, None, Some, Result, Ok, Err}
use Rattle.repetition.specs.Outcomes.{Reply}
use Rattle.finder.specs.declared.reply.Totals.{Totals}
use Rattle.finder.specs.declared.reply.Listing.{Listing}
use Rattle.finder.specs.declared.reply.Listing.TheVariants as listing
use Rattle.finder.specs.declared.reply.Repetition.{Repetition}
use Rattle.finder.specs.declared.reply.Refusal.{Refusal}
use Rattle.finder.specs.declared.reply.Refusal.TheVariants as refusal
use Rattle.finder.specs.declared.reply.PlaceRefusal.{PlaceRefusal}
use Rattle.finder.specs.declared.reply.PlaceRefusal.TheVariants as place
use Rattle.finder.specs.Replies.{Place, Freedom, Longest, Room}
use Rattle.finder.specs.Replies.{reply, listing_number, listing_values, place_number, place_values}
use Rattle.finder.specs.Replies.{freedom_number, freedom_values, longest_number, longest_values, room_number, room_values}
use Rattle.finder.specs.Promises.{ListPromise, PlacePromise, FreePromise, LongestPromise, RoomPromise}

-- ---- a reply's number and values tell which it is

-- Results that are found again from number and values are equal where both make the same reply.
same_result : {A : Type 0} (number : A → ℕ) (values : A → List ℕ) (found : ℕ → List ℕ → A)
    → ((a : A) → found (number a) (values a) ≡ a) → {a b : A} {r : Reply}
    → reply (number a) (values a) ≡ r → reply (number b) (values b) ≡ r → a ≡ b
same_result number values found again {a} {b} e f =
    sym (again a) ∙ ap (λ (r : Reply). found r.number r.values) (e ∙ sym f) ∙ again b

abbrev totals : List ℕ → Totals
totals vs = record { blocks = get_or vs 0 0; comparisons = get_or vs 1 0 }

abbrev listing_from : ℕ → List ℕ → Listing
listing_from zero vs = listing.Finished (totals vs)
listing_from (suc zero) vs = listing.TextTooLong
listing_from (suc (suc zero)) vs = listing.WorkTooShort
listing_from (suc (suc (suc n))) vs = listing.Full (totals vs)

listing_again : (r : Listing) → listing_from (listing_number r) (listing_values r) ≡ r
listing_again (listing.Finished a) = refl
listing_again (listing.Full a) = refl
listing_again listing.TextTooLong = refl
listing_again listing.WorkTooShort = refl

-- Number 0 is an answer, told by the values. Each number above it is a refusal, told by the one below.
abbrev from_reply : {A E : Type 0} → (List ℕ → A) → (ℕ → E) → ℕ → List ℕ → Result A E
from_reply answer refusal zero vs = Ok (answer vs)
from_reply answer refusal (suc n) vs = Err (refusal n)

abbrev refusal_from : ℕ → Refusal
refusal_from zero = refusal.TextTooLong
refusal_from (suc n) = refusal.WorkTooShort

abbrev place_refusal_from : ℕ → PlaceRefusal
place_refusal_from zero = place.TextTooLong
place_refusal_from (suc n) = place.NoSuchPlace

abbrev yes_from : List ℕ → Bool
yes_from vs = eqb (get_or vs 0 0) 1

abbrev place_from : ℕ → List ℕ → Place
place_from = from_reply yes_from place_refusal_from

place_again : (r : Place) → place_from (place_number r) (place_values r) ≡ r
place_again (Ok true) = refl
place_again (Ok false) = refl
place_again (Err place.TextTooLong) = refl
place_again (Err place.NoSuchPlace) = refl

abbrev freedom_from : ℕ → List ℕ → Freedom
freedom_from = from_reply yes_from refusal_from

freedom_again : (r : Freedom) → freedom_from (freedom_number r) (freedom_values r) ≡ r
freedom_again (Ok true) = refl
freedom_again (Ok false) = refl
freedom_again (Err refusal.TextTooLong) = refl
freedom_again (Err refusal.WorkTooShort) = refl

abbrev repetition_from : List ℕ → Option Repetition
repetition_from [] = None
repetition_from (s ∷ vs) = Some (record { start = s; half = get_or vs 0 0 })

abbrev longest_from : ℕ → List ℕ → Longest
longest_from = from_reply repetition_from refusal_from

longest_again : (r : Longest) → longest_from (longest_number r) (longest_values r) ≡ r
longest_again (Ok None) = refl
longest_again (Ok (Some a)) = refl
longest_again (Err refusal.TextTooLong) = refl
longest_again (Err refusal.WorkTooShort) = refl

abbrev room_from : ℕ → List ℕ → Room
room_from = from_reply (λ vs. get_or vs 0 0) (λ n. record {})

room_again : (r : Room) → room_from (room_number r) (room_values r) ≡ r
room_again (Ok n) = refl
room_again (Err e) = refl

-- ---- the entries

pub one_list : {t work report work_left work_left' report_left report_left' : List ℕ} {r r' : Listing}
    → ListPromise t work report r work_left report_left → ListPromise t work report r' work_left' report_left'
    → (r ≡ r') × (work_left ≡ work_left') × (report_left ≡ report_left')
one_list x y =
    (same_result listing_number listing_values listing_from listing_again x.replies y.replies, cc, cc)

pub one_place : {t : List ℕ} {s p : ℕ} {r r' : Place} → PlacePromise t s p r → PlacePromise t s p r' → r ≡ r'
one_place x y = same_result place_number place_values place_from place_again x.replies y.replies

pub one_freedom : {t work work_left work_left' : List ℕ} {r r' : Freedom} → FreePromise t work r work_left
    → FreePromise t work r' work_left' → (r ≡ r') × (work_left ≡ work_left')
one_freedom x y = (same_result freedom_number freedom_values freedom_from freedom_again x.replies y.replies, cc)

pub one_longest : {t work work_left work_left' : List ℕ} {r r' : Longest} → LongestPromise t work r work_left
    → LongestPromise t work r' work_left' → (r ≡ r') × (work_left ≡ work_left')
one_longest x y = (same_result longest_number longest_values longest_from longest_again x.replies y.replies, cc)

pub one_room : {n : ℕ} {r r' : Room} → RoomPromise n r → RoomPromise n r' → r ≡ r'
one_room x y = same_result room_number room_values room_from room_again x.replies y.replies
