-- Each entry's answer, made from what the search gives, is the one that its promise asks for. Assumes nothing.
use Prim.Native.Nat.{ℕ, zero, suc, ◌+◌, ◌*◌, ◌/◌, ◌≤◌, ◌<◌}
use mathlib.Core.Path.{◌≡◌, refl, sym, ap, ◌∙◌}
use mathlib.Core.Logic.{inl, inr}
use mathlib.Core.Bool.{true≢false, Bool, true, false, ◌&&◌, not, cond, and-eq-true_iff}
use mathlib.Core.List.{List, [], ◌∷◌, cons≢nil}
use native.Mathlib.Nat.{mul-le-mul}
use native.Mathlib.Omega.{arith}
use native.Mathlib.Decide.{dec_le}
use borrow.Author.Tests.{le-leb, lt-leb, leb-true, ne_eqb}
use lib.Dec.{leb, eqb}
use lib.ListN.{length, get_or}
use Rattle.std.specs.Prelude.{Option, None, Some, Ok, Err}
use Rattle.std.specs.Option.{is_none, is_some}
use Rattle.repetition.specs.Numbers.{one_if}
use Rattle.repetition.specs.Repetition.{stands}
use Rattle.repetition.specs.Blocks.{Block, list_of}
use Rattle.repetition.specs.Comparisons.{comparisons}
use Rattle.repetition.specs.Limits.{length_limit, greatest_depth, numbers_per_block, depth, room_for}
use Rattle.repetition.specs.Memory.{room}
use Rattle.repetition.specs.Outcomes.{Reply, refusal, Listed, listing, listed, Asked}
use Rattle.repetition.specs.Outcomes.{repetition_free, free_test, longest_of, longest_in, longest}
use Rattle.repetition.proofs.Lists.{is_false}
use Rattle.repetition.proofs.Listing.{empty_list, free_text}
use Rattle.repetition.proofs.Depth.{depth_greatest}
use Rattle.repetition.proofs.Longest.{longest_is}
use Rattle.finder.specs.declared.tally.Tally.{Tally}
use Rattle.finder.specs.declared.reply.Totals.{Totals}
use Rattle.finder.specs.declared.reply.Repetition.{Repetition}
use Rattle.finder.specs.declared.reply.Refusal.TheVariants as refusal
use Rattle.finder.specs.declared.reply.PlaceRefusal.TheVariants as place_refusal
use Rattle.finder.specs.declared.reply.Listing.{Listing}
use Rattle.finder.specs.declared.reply.Listing.TheVariants as reply_listing
use Rattle.finder.specs.Promises.{ListPromise, PlacePromise, FreePromise, LongestPromise, RoomPromise}
use Rattle.finder.specs.Replies.{Freedom, Longest, reply, refused_list, listing_number, listing_values}
use Rattle.finder.specs.Replies.{freedom_number, freedom_values, longest_number, longest_values}
use Rattle.finder.specs.Places.{same_letters}
use Rattle.finder.specs.Kept.{the_totals, the_longest}
use Rattle.finder.specs.Searching.{Searched, tally_of, searched, searching}
use Rattle.finder.proofs.Refusals.{refused_1, refused_2, not_refused, listing_refused, listing_taken}
use Rattle.finder.proofs.Refusals.{asked_refused, asked_taken, NoPlace, place_refused, place_none, place_taken}
use Rattle.finder.proofs.Refusals.{room_refused, room_taken}
use Rattle.finder.proofs.Searches.{by_outcome}

-- ---- the list

-- the list's reply, where the report has so much room
abbrev pub listing_of : ℕ → Searched → Listing
listing_of n (Err e) = refused_list e
listing_of n (Ok y) = cond (leb y.blocks n) (reply_listing.Finished (the_totals y)) (reply_listing.Full (the_totals y))

list_as : (t work report : List ℕ) (r : Listing) (o : Listed) → listing t work report ≡ o
    → reply (listing_number r) (listing_values r) ≡ o.reply → ListPromise t work report r o.work o.report
list_as t work report r o e f = record { replies = rw e f; leaves_work = rw e; leaves_report = rw e }

listed_reply : (t work report : List ℕ) → let r = listing_of (room report) (Ok (tally_of t)) in
    reply (listing_number r) (listing_values r) ≡ (listed t work report).reply
unfolding listed tally_of
listed_reply t work report = go (leb (length (list_of t)) (room report))
  where
    go : (fits : Bool)
        → let r = cond fits (reply_listing.Finished (the_totals (tally_of t))) (reply_listing.Full (the_totals (tally_of t))) in
        reply (listing_number r) (listing_values r) ≡ reply (cond fits 0 3) (length (list_of t) ∷ comparisons t ∷ [])
    go true = refl
    go false = refl

module _ (t work report : List ℕ) {work' report' : List ℕ} where
  pub list_promise : {r : Searched} → searched r work' report' ≡ searching t work report
      → ListPromise t work report (listing_of (room report) r) work' report'
  unfolding listed
  list_promise =
      by_outcome t work report (λ r work' report'. ListPromise t work report (listing_of (room report) r) work' report')
      (λ l. list_as t work report _ _ (listing_refused t work report 0 (refused_1 t work l)) refl)
      (λ l m. list_as t work report _ _ (listing_refused t work report 1 (refused_2 t work l m)) refl)
      (λ l m. list_as t work report _ _ (listing_taken t work report (not_refused t work l m)) (listed_reply t work report))

  module _ {y : Tally} {a : Totals} (e : searched (Ok y) work' report' ≡ searching t work report) (is : a ≡ the_totals y) where
    pub list_finished : a.blocks ≤ length report / numbers_per_block
        → ListPromise t work report (reply_listing.Finished a) work' report'
    unfolding room
    list_finished l = rw is (rw (le-leb y.blocks (length report / numbers_per_block) (rw is at l)) at (list_promise e))

    pub list_full : length report / numbers_per_block < a.blocks
        → ListPromise t work report (reply_listing.Full a) work' report'
    unfolding room
    list_full l = rw is (rw (lt-leb y.blocks (length report / numbers_per_block) (rw is at l)) at (list_promise e))

-- ---- the longest repetition

abbrev pub longest_answered : Searched → Longest
longest_answered (Err e) = Err e
longest_answered (Ok y) = Ok (the_longest y)

abbrev longest_reply : Longest → Reply
longest_reply r = reply (longest_number r) (longest_values r)

longest_whole : (t : List ℕ) → longest_reply (longest_answered (Ok (tally_of t))) ≡ reply 0 (longest_in (list_of t))
unfolding tally_of longest_in
longest_whole t = go (list_of t) refl
  where
    go : (bs : List Block) → list_of t ≡ bs
        → let half = get_or (longest_in bs) 1 0 in
        longest_reply (Ok (cond (eqb half 0) None (Some (record { start = get_or (longest_in bs) 0 0; half = half }))))
        ≡ reply 0 (longest_in bs)
    go [] e = refl
    go (b ∷ bs) e =
        let c = longest_of b bs in
        let one = (longest_is t c.first c.half (ap longest_in e)).stands.nonempty in
        rw (ne_eqb c.half 0 (omega arith))

abbrev longest_answer : List ℕ → List ℕ
longest_answer t = longest_in (list_of t)

longest_as : (t work : List ℕ) (a : Longest) (o : Asked) → longest t work ≡ o → longest_reply a ≡ o.reply
    → LongestPromise t work a o.work
longest_as t work a o e f = record { replies = rw e f; leaves_work = rw e }

pub longest_promise : (t work report : List ℕ) {r : Searched} {work' report' : List ℕ}
    → searched r work' report' ≡ searching t work report → LongestPromise t work (longest_answered r) work'
unfolding longest
longest_promise t work report =
    by_outcome t work report (λ r work' _. LongestPromise t work (longest_answered r) work')
    (λ l. longest_as t work _ _ (asked_refused t work longest_answer 0 (refused_1 t work l)) refl)
    (λ l m. longest_as t work _ _ (asked_refused t work longest_answer 1 (refused_2 t work l m)) refl)
    (λ l m. longest_as t work _ _ (asked_taken t work longest_answer (not_refused t work l m)) (longest_whole t))

-- ---- the free test: yes where there is no longest repetition

abbrev pub freedom_of : Longest → Freedom
freedom_of (Err e) = Err e
freedom_of (Ok a) = Ok (is_none a)

abbrev is_empty : List ℕ → Bool
is_empty [] = true
is_empty (x ∷ xs) = false

-- the same for the replies: an answer is turned into yes or no, a refusal stays
abbrev freed : Reply → Reply
freed r = elim r.number [ zero ↦ reply 0 (one_if (is_empty r.values) ∷ []) | suc k ↦ r ]

freed_is : (a : Longest) → reply (freedom_number (freedom_of a)) (freedom_values (freedom_of a)) ≡ freed (longest_reply a)
freed_is (Err refusal.TextTooLong) = refl
freed_is (Err refusal.WorkTooShort) = refl
freed_is (Ok None) = refl
freed_is (Ok (Some a)) = refl

free_is : (t : List ℕ) → is_empty (longest_in (list_of t)) ≡ repetition_free t
unfolding longest_in
free_is t = go (list_of t) refl
  where
    go : (bs : List Block) → list_of t ≡ bs → is_empty (longest_in bs) ≡ repetition_free t
    go [] e = sym ((free_text t).1 ((empty_list t).0 e))
    go (b ∷ bs) e = sym (is_false _ (λ h. cons≢nil (sym e ∙ (empty_list t).1 ((free_text t).0 h))))

abbrev free_answer : List ℕ → List ℕ
free_answer t = one_if (repetition_free t) ∷ []

-- the free test's outcome, from that of the longest repetition
record Freed (o p : Asked) : Type 0 where
  same_reply : freed o.reply ≡ p.reply
  same_work : o.work ≡ p.work

freed_as : (o o' p p' : Asked) → o ≡ o' → p ≡ p' → Freed o' p' → Freed o p
freed_as o o' p p' e f x = rw (e, f) x

free_as : (t work : List ℕ) → Freed (longest t work) (free_test t work)
unfolding longest free_test
free_as t work = go (refusal t work) refl
  where
    go : (k : ℕ) → refusal t work ≡ k → Freed (longest t work) (free_test t work)
    go zero e =
        freed_as _ _ _ _ (asked_taken t work longest_answer e) (asked_taken t work free_answer e)
        (record { same_reply = ap (λ (b : Bool). reply 0 (one_if b ∷ [])) (free_is t); same_work = refl })
    go (suc k) e =
        freed_as _ _ _ _ (asked_refused t work longest_answer k e) (asked_refused t work free_answer k e)
        (record { same_reply = refl; same_work = refl })

pub free_promise : (t work : List ℕ) {a : Longest} {work' : List ℕ} → LongestPromise t work a work'
    → FreePromise t work (freedom_of a) work'
free_promise t work {a} promise =
    record {
      replies = rw (freed_is a, promise.replies) (free_as t work).same_reply;
      leaves_work = promise.leaves_work ∙ (free_as t work).same_work;
    }

pub free_answered : (t work : List ℕ) {o : Option Repetition} {free : Bool} {work' : List ℕ} → is_some o ≡ not free
    → LongestPromise t work (Ok o) work' → FreePromise t work (Ok free) work'
free_answered t work {free = true} e promise = rw e at (free_promise t work promise)
free_answered t work {free = false} e promise = rw e at (free_promise t work promise)

-- ---- the place test

module _ (t : List ℕ) (s p : ℕ) where
  pub place_long : length_limit < length t → PlacePromise t s p (Err place_refusal.TextTooLong)
  place_long l = record { replies = sym (place_refused t s p l) }

  module _ (l : length t ≤ length_limit) {fits : Bool} (is : fits ≡ leb 1 p && leb (s + 2 * p) (length t)) where
    pub no_place : fits ≡ false → PlacePromise t s p (Err place_refusal.NoSuchPlace)
    no_place e = record { replies = sym (place_none t s p l outside) }
      where
        outside : NoPlace t s p
        outside =
            elim (dec_le 1 p) [
              | no z ↦ inl (omega arith)
              | yes z ↦ elim (dec_le (s + 2 * p) (length t)) [
                | no m ↦ inr (omega arith)
                | yes m ↦ absurd (true≢false (sym (rw (le-leb 1 p z, le-leb (s + 2 * p) (length t) m) at is) ∙ e))
              ]
            ]

    pub place_within : fits ≡ true → (1 ≤ p) × (s + 2 * p ≤ length t)
    place_within e =
        let h = (and-eq-true_iff (leb 1 p) (leb (s + 2 * p) (length t))).0 (sym is ∙ e) in
        (leb-true 1 p h.0, leb-true (s + 2 * p) (length t) h.1)

    stands_same : fits ≡ true → same_letters t s (s + p) p ≡ stands t s p
    unfolding stands same_letters
    stands_same e =
        let w = place_within e in rw (le-leb 1 p w.0, le-leb (s + 2 * p) (length t) w.1)

    module _ (e : fits ≡ true) {same : Bool} (f : same ≡ same_letters t s (s + p) p) where
      pub place_answered : PlacePromise t s p (Ok same)
      place_answered =
          let w = place_within e in
          record {
            replies =
                ap (λ (b : Bool). reply 0 (one_if b ∷ [])) (f ∙ stands_same e) ∙ sym (place_taken t s p l w.0 w.1);
          }

-- ---- the room question

module _ (n : ℕ) where
  pub room_long : length_limit < n → RoomPromise n (Err (record {}))
  room_long l = record { replies = sym (room_refused n l) }

  module _ (l : n ≤ length_limit) {d : ℕ} (e : d ≡ depth n) where
    pub room_fits : n * d ≤ length_limit * greatest_depth
    room_fits = rw e (mul-le-mul l (depth_greatest n l))

    pub room_promise : RoomPromise n (Ok (n * d))
    unfolding room_for
    room_promise = record { replies = ap (λ (d : ℕ). reply 0 (n * d ∷ [])) e ∙ sym (room_taken n l) }
