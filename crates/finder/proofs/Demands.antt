-- The three demands on the list, and what the other entries' answers mean: each from the entry's promise alone. Assumes nothing.
use Prim.Native.Nat.{ℕ, suc, ◌+◌, ◌*◌, ◌≤◌, ◌<◌}
use mathlib.Core.Path.{◌≡◌, refl, sym, ap, ◌∙◌}
use mathlib.Core.Logic.{◌↔◌, ◌⊎◌, inl, inr, ⊎_elim}
use mathlib.Core.Bool.{Bool, true, false, cond, true≢false}
use mathlib.Core.List.Memᴰ
use mathlib.Core.List.{List, [], ◌∷◌, Memᴰ, nil≢cons}
use native.Mathlib.Decide.{dec_le, dec_lt}
use native.Mathlib.Omega.{arith}
use lib.Dec.{leb}
use lib.ListN.{length, take, drop, take-append-drop}
use borrow.Author.Tests.{le-leb, lt-leb}
use Rattle.repetition.specs.Numbers.{one_if}
use Rattle.repetition.specs.Repetition.{Repetition, stands}
use Rattle.repetition.specs.Blocks.{Block, has, list_of}
use Rattle.repetition.specs.Comparisons.{comparisons}
use Rattle.repetition.specs.Limits.{length_limit, numbers_per_block, depth, room_for}
use Rattle.repetition.specs.Memory.{room, written, blocks_in, cleared}
use Rattle.repetition.specs.Outcomes.{Reply, refused, refusal, Listed, listed, listing, Asked, asked}
use Rattle.repetition.specs.Outcomes.{repetition_free, free_test, longest_in, longest}
use Rattle.repetition.proofs.Lists.{OnePlace}
use Rattle.repetition.proofs.Repetitions.{stands_true, true_stands}
use Rattle.repetition.proofs.Listing.{in_block, listed_repetition, empty_list, free_text}
use Rattle.repetition.proofs.Bounds.{comparisons_bound, blocks_bound}
use Rattle.repetition.proofs.Longest.{IsLongest, longest_is, longest_there}
use Rattle.repetition.proofs.Reports.{fitting, leading_read, beyond_kept, list_read}
use Rattle.finder.specs.declared.reply.Listing.{Listing}
use Rattle.finder.specs.Replies.{Place, Freedom, Longest, Room}
use Rattle.finder.specs.Replies.{reply, listing_number, listing_values, place_number, place_values}
use Rattle.finder.specs.Replies.{freedom_number, freedom_values, longest_number, longest_values, room_number, room_values}
use Rattle.finder.specs.Promises.{ListPromise, PlacePromise, FreePromise, LongestPromise, RoomPromise}
use Rattle.finder.proofs.Refusals.{refused_1, refused_2, not_refused, listing_refused, listing_taken}
use Rattle.finder.proofs.Refusals.{asked_refused, asked_taken, NoPlace, place_refused, place_none, place_taken}
use Rattle.finder.proofs.Refusals.{room_refused, room_taken}

same_number : {x y : Reply} → x ≡ y → x.number ≡ y.number
same_number = ap (λ (x : Reply). x.number)

same_values : {x y : Reply} → x ≡ y → x.values ≡ y.values
same_values = ap (λ (x : Reply). x.values)

-- ---- the room question

module _ (n : ℕ) (r : Room) where
  -- Every length over the limit is refused, and every other gets n times D.
  pub record RoomMeaning : Type 0 where
    pub too_long : (room_number r ≡ 1) ↔ (length_limit < n)
    pub answered : (room_number r ≡ 0) ↔ (n ≤ length_limit)
    pub answer : n ≤ length_limit → room_values r ≡ n * depth n ∷ []
    pub nothing : length_limit < n → room_values r ≡ []

  module _ (promise : RoomPromise n r) where
    room_short : n ≤ length_limit → reply (room_number r) (room_values r) ≡ reply 0 (n * depth n ∷ [])
    unfolding room_for
    room_short l = promise.replies ∙ room_taken n l

    room_long : length_limit < n → reply (room_number r) (room_values r) ≡ refused 1
    room_long l = promise.replies ∙ room_refused n l

    room_numbers : ((room_number r ≡ 1) ↔ (length_limit < n)) × ((room_number r ≡ 0) ↔ (n ≤ length_limit))
    room_numbers =
        elim (dec_le n length_limit) [
          | yes l ↦ omega (arith, same_number (room_short l))
          | no l ↦ omega (arith, same_number (room_long (omega arith)))
        ]

    pub room_meaning : RoomMeaning
    room_meaning =
        record {
          too_long = room_numbers.0;
          answered = room_numbers.1;
          answer = λ l. same_values (room_short l);
          nothing = λ l. same_values (room_long l);
        }

-- number of blocks and comparisons of the full list
abbrev pub totals : List ℕ → List ℕ
totals t = length (list_of t) ∷ comparisons t ∷ []

-- the blocks that a report has of a finished list
abbrev pub reported : List ℕ → List ℕ → List Block
reported t report_left = blocks_in (length (list_of t)) report_left

module _ (t work report : List ℕ) (r : Listing) (work_left report_left : List ℕ) where
  -- number and values of the reply, and what is left, are those of an outcome
  record Is (o : Listed) : Type 0 where
    number : listing_number r ≡ o.reply.number
    values : listing_values r ≡ o.reply.values
    work_is : work_left ≡ o.work
    report_is : report_left ≡ o.report

  -- ---- demand 1: a text is refused on these grounds alone

  pub record Grounds : Type 0 where
    pub too_long : (listing_number r ≡ 1) ↔ (length_limit < length t)
    pub work_short : (listing_number r ≡ 2) ↔ ((length t ≤ length_limit) × (length work < 2 * length t))
    pub full : (listing_number r ≡ 3)
        ↔ ((length t ≤ length_limit) × (2 * length t ≤ length work) × (room report < length (list_of t)))
    pub finished : (listing_number r ≡ 0)
        ↔ ((length t ≤ length_limit) × (2 * length t ≤ length work) × (length (list_of t) ≤ room report))

  -- The report holds the leading blocks that fit, each start and half in them is a repetition, and beyond them it is as before.
  pub record Leading : Type 0 where
    pub values : listing_values r ≡ totals t
    pub work_cleared : work_left ≡ cleared (length t) work
    pub blocks : blocks_in (room report) report_left ≡ take (room report) (list_of t)
    pub repetitions : (s p : ℕ) (b : Block) → Memᴰ b (blocks_in (room report) report_left) → has s p b ≡ true
        → Repetition t s p
    pub beyond : drop (numbers_per_block * room report) report_left ≡ drop (numbers_per_block * room report) report

  pub record Demand1 : Type 0 where
    pub grounds : Grounds
    pub unchanged : (listing_number r ≡ 1) ⊎ (listing_number r ≡ 2)
        → (listing_values r ≡ []) × (work_left ≡ work) × (report_left ≡ report)
    pub leading : listing_number r ≡ 3 → Leading

  -- ---- demand 2: a finished list is the list, and has each repetition once and nothing else

  pub record Demand2 : Type 0 where
    pub values : listing_values r ≡ totals t
    pub work_cleared : work_left ≡ cleared (length t) work
    pub blocks : reported t report_left ≡ list_of t
    pub beyond : drop (numbers_per_block * length (list_of t)) report_left ≡ drop (numbers_per_block * length (list_of t)) report
    pub repetitions : (s p : ℕ) (b : Block) → Memᴰ b (reported t report_left) → has s p b ≡ true → Repetition t s p
    pub in_one_block : (s p : ℕ) (none : Block) → Repetition t s p → OnePlace (has s p) none (reported t report_left)
    pub empty : (reported t report_left ≡ []) ↔ ((s p : ℕ) → Repetition t s p → ⊥)

  -- ---- demand 3: the comparisons are those of the rule, within bounds, and the room question's answer is enough

  pub record Demand3 : Type 0 where
    pub values : listing_values r ≡ totals t
    pub comparisons_bounded : comparisons t ≤ 4 * length t * depth (length t)
    pub blocks_bounded : length (list_of t) ≤ length t * depth (length t)
    pub room_enough : (a : Room) (m : ℕ) → RoomPromise (length t) a → room_values a ≡ m ∷ [] → m ≤ room report
        → listing_number r ≡ 0

  module _ (promise : ListPromise t work report r work_left report_left) where
    is_listing : Is (listing t work report)
    is_listing =
        record {
          number = same_number promise.replies;
          values = same_values promise.replies;
          work_is = promise.leaves_work;
          report_is = promise.leaves_report;
        }

    is_refused : (k : ℕ) → refusal t work ≡ suc k → Is (record { reply = refused (suc k); work = work; report = report })
    is_refused k e = rw (listing_refused t work report k e) at is_listing

    is_listed : length t ≤ length_limit → 2 * length t ≤ length work
        → Is (record {
          reply = record { number = cond (leb (length (list_of t)) (room report)) 0 3; values = totals t };
          work = cleared (length t) work;
          report = written (list_of t) report;
        })
    unfolding listed
    is_listed l m = rw (listing_taken t work report (not_refused t work l m)) at is_listing

    grounds : Grounds
    grounds =
        elim (dec_lt length_limit (length t)) [
          | yes l ↦ omega (arith, (is_refused 0 (refused_1 t work l)).number)
          | no l ↦ elim (dec_lt (length work) (2 * length t)) [
            | yes m ↦ omega (arith, (is_refused 1 (refused_2 t work (omega arith) m)).number)
            | no m ↦ let e = (is_listed (omega arith) (omega arith)).number in
                elim (dec_le (length (list_of t)) (room report)) [
                  | yes f ↦ omega (arith, rw (le-leb (length (list_of t)) (room report) f) at e)
                  | no f ↦ omega (arith, rw (lt-leb (length (list_of t)) (room report) (omega arith)) at e)
                ]
          ]
        ]

    kept : (k : ℕ) → refusal t work ≡ suc k → (listing_values r ≡ []) × (work_left ≡ work) × (report_left ≡ report)
    kept k e = let i = is_refused k e in (i.values, i.work_is, i.report_is)

    pub demand_1 : Demand1
    demand_1 =
        let g = grounds in
        record {
          grounds = g;
          unchanged =
              ⊎_elim (λ e. kept 0 (refused_1 t work (g.too_long.0 e)))
              (λ e. let f = g.work_short.0 e in kept 1 (refused_2 t work f.0 f.1));
          leading = λ e.
              let f = g.full.0 e in
              let i = is_listed f.0 f.1 in
              let all : fitting (list_of t) report ≡ room report = omega arith in
              let same : blocks_in (room report) report_left ≡ take (room report) (list_of t) =
              rw i.report_is (rw all at (leading_read (list_of t) report)) in
              record {
                values = i.values;
                work_cleared = i.work_is;
                blocks = same;
                repetitions = λ s p b m.
                    listed_repetition t s p b
                    (rw take-append-drop at (Memᴰ.append_left (drop (room report) (list_of t)) (rw same at m)));
                beyond = rw i.report_is (rw all at (beyond_kept (list_of t) report));
              };
        }

    pub demand_2 : listing_number r ≡ 0 → Demand2
    demand_2 e =
        let f = grounds.finished.0 e in
        let i = is_listed f.0 f.1 in
        let all : fitting (list_of t) report ≡ length (list_of t) = omega arith in
        let same : reported t report_left ≡ list_of t = rw i.report_is (list_read (list_of t) report f.2) in
        record {
          values = i.values;
          work_cleared = i.work_is;
          blocks = same;
          beyond = rw i.report_is (rw all at (beyond_kept (list_of t) report));
          repetitions = λ s p b m. listed_repetition t s p b (rw same at m);
          in_one_block = λ s p none x. rw same (in_block t s p none x);
          empty = rw same (empty_list t);
        }

    pub demand_3 : length t ≤ length_limit → 2 * length t ≤ length work → Demand3
    unfolding room_for
    demand_3 l m =
        record {
          values = (is_listed l m).values;
          comparisons_bounded = comparisons_bound t l;
          blocks_bounded = blocks_bound t l;
          room_enough = λ a k q e fits.
              let same : k ≡ length t * depth (length t) = cc ((room_meaning (length t) a q).answer l) in
              grounds.finished.1 (omega (arith, blocks_bound t l));
        }

-- ---- the place test

-- a test's answer: yes exactly when it is so, no exactly when it is not
pub record Answers (vs : List ℕ) (P : Type 0) : Type 0 where
  pub yes : (vs ≡ 1 ∷ []) ↔ P
  pub no : (vs ≡ 0 ∷ []) ↔ (P → ⊥)

answers : {P : Type 0} {vs : List ℕ} (b : Bool) → ((b ≡ true) ↔ P) → vs ≡ one_if b ∷ [] → Answers vs P
answers true f e =
    record {
      yes = (λ x. f.0 refl, λ p. e);
      no = (λ x. let z : ◌≡◌ {A = ℕ} 0 1 = cc in absurd (omega arith), λ n. absurd (n (f.0 refl)));
    }
answers false f e =
    record {
      yes = (λ x. let z : ◌≡◌ {A = ℕ} 0 1 = cc in absurd (omega arith), λ p. absurd (true≢false (sym (f.1 p))));
      no = (λ x p. true≢false (sym (f.1 p)), λ n. e);
    }

module _ (t : List ℕ) (s p : ℕ) (r : Place) where
  pub record PlaceMeaning : Type 0 where
    pub too_long : (place_number r ≡ 1) ↔ (length_limit < length t)
    pub no_such_place : length t ≤ length_limit → (place_number r ≡ 4) ↔ NoPlace t s p
    pub answer : length t ≤ length_limit → 1 ≤ p → s + 2 * p ≤ length t → Answers (place_values r) (Repetition t s p)

  module _ (promise : PlacePromise t s p r) where
    long : length_limit < length t → place_number r ≡ 1
    long l = same_number (promise.replies ∙ place_refused t s p l)

    module _ (l : length t ≤ length_limit) where
      no_place : NoPlace t s p → place_number r ≡ 4
      no_place o = same_number (promise.replies ∙ place_none t s p l o)

      placed : 1 ≤ p → s + 2 * p ≤ length t → reply (place_number r) (place_values r) ≡ reply 0 (one_if (stands t s p) ∷ [])
      placed one m = promise.replies ∙ place_taken t s p l one m

      within : (place_number r ≡ 1 → ⊥) × (place_number r ≡ 4 → NoPlace t s p)
      within =
          elim (dec_le 1 p) [
            | no z ↦ let o : NoPlace t s p = inl (omega arith) in (omega (arith, no_place o), λ e. o)
            | yes z ↦ elim (dec_le (s + 2 * p) (length t)) [
              | no m ↦ let o : NoPlace t s p = inr (omega arith) in (omega (arith, no_place o), λ e. o)
              | yes m ↦ let n = same_number (placed z m) in (omega arith, λ e. absurd (omega arith))
            ]
          ]

    pub place_meaning : PlaceMeaning
    place_meaning =
        record {
          too_long = (
            λ e. elim (dec_lt length_limit (length t)) [ yes l ↦ l | no l ↦ absurd ((within (omega arith)).0 e) ],
            long,
          );
          no_such_place = λ l. ((within l).1, no_place l);
          answer = λ l one m.
              answers (stands t s p) (stands_true t s p, true_stands t s p) (same_values (placed l one m));
        }

-- ---- the free test and the longest repetition

-- on which grounds a question about a text is refused
pub record Asking (t work : List ℕ) (n : ℕ) : Type 0 where
  pub too_long : (n ≡ 1) ↔ (length_limit < length t)
  pub work_short : (n ≡ 2) ↔ ((length t ≤ length_limit) × (length work < 2 * length t))
  pub answered : (n ≡ 0) ↔ ((length t ≤ length_limit) × (2 * length t ≤ length work))

module _ (answer : List ℕ → List ℕ) (t work : List ℕ) (n : ℕ) (vs : List ℕ) (e : reply n vs ≡ (asked answer t work).reply) where
  refused_number : (k : ℕ) → refusal t work ≡ suc k → n ≡ suc k
  refused_number k q = same_number (e ∙ ap (λ (o : Asked). o.reply) (asked_refused t work answer k q))

  answer_is : length t ≤ length_limit → 2 * length t ≤ length work → reply n vs ≡ reply 0 (answer t)
  answer_is l m = e ∙ ap (λ (o : Asked). o.reply) (asked_taken t work answer (not_refused t work l m))

  asking : Asking t work n
  asking =
      elim (dec_lt length_limit (length t)) [
        | yes l ↦ omega (arith, refused_number 0 (refused_1 t work l))
        | no l ↦ elim (dec_lt (length work) (2 * length t)) [
          | yes m ↦ omega (arith, refused_number 1 (refused_2 t work (omega arith) m))
          | no m ↦ omega (arith, same_number (answer_is (omega arith) (omega arith)))
        ]
      ]

  asked_outcome : Asking t work n × (n ≡ 0 → vs ≡ answer t)
  asked_outcome = (
    asking,
    λ z. let g = asking.answered.0 z in same_values (answer_is g.0 g.1),
  )

module _ (t work : List ℕ) where
  pub record FreeMeaning (r : Freedom) : Type 0 where
    pub grounds : Asking t work (freedom_number r)
    pub answer : freedom_number r ≡ 0 → Answers (freedom_values r) ((s p : ℕ) → Repetition t s p → ⊥)

  pub free_meaning : {r : Freedom} {work_left : List ℕ} → FreePromise t work r work_left → FreeMeaning r
  unfolding free_test
  free_meaning promise =
      let o = asked_outcome (λ t. one_if (repetition_free t) ∷ []) t work _ _ promise.replies in
      record { grounds = o.0; answer = λ z. answers (repetition_free t) (free_text t) (o.1 z) }

  pub record LongestMeaning (r : Longest) : Type 0 where
    pub grounds : Asking t work (longest_number r)
    pub none : longest_number r ≡ 0 → (longest_values r ≡ []) ↔ ((s p : ℕ) → Repetition t s p → ⊥)
    pub found : longest_number r ≡ 0 → (s p : ℕ) → longest_values r ≡ s ∷ p ∷ [] → IsLongest t s p

  pub longest_meaning : {r : Longest} {work_left : List ℕ} → LongestPromise t work r work_left → LongestMeaning r
  unfolding longest
  longest_meaning promise =
      let o = asked_outcome (λ t. longest_in (list_of t)) t work _ _ promise.replies in
      record {
        grounds = o.0;
        none = λ z. (
          λ e s p x. let l = longest_there t (λ n. (empty_list t).0 n s p x) in nil≢cons (sym e ∙ o.1 z ∙ l.2),
          λ n. o.1 z ∙ ap longest_in ((empty_list t).1 n),
        );
        found = λ z s p e. longest_is t s p (sym (o.1 z) ∙ e);
      }
