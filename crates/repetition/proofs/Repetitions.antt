-- The tests of specs/ say what their facts say: a repetition stands, belongs to a part, is right or left, is new in a part.
-- Assumes nothing.
use Prim.Native.Nat.{ℕ, ◌+◌, ◌*◌, ◌≤◌, ◌<◌}
use mathlib.Core.Path.{◌≡◌}
use mathlib.Core.Bool.{Bool, true, ◌&&◌, and-eq-true_iff}
use mathlib.Core.List.{List}
use borrow.Author.Tests.{leb-true, ltb-true, eqb-true, le-leb, lt-ltb, eq-eqb}
use lib.Dec.{leb, ltb, eqb}
use lib.ListN.{length, get_or}
use Rattle.repetition.specs.Numbers.{each_below}
use Rattle.repetition.specs.Repetition.{Repetition, stands}
use Rattle.repetition.specs.Cutting.{Part, Class, right, left, belongs, is, cut_of}
use Rattle.repetition.specs.Blocks.{new}
use Rattle.repetition.proofs.Lists.{each_below_true, each_below_at}

-- ---- a repetition stands

module _ (t : List ℕ) (s p : ℕ) where
  pub stands_true : stands t s p ≡ true → Repetition t s p
  unfolding stands
  stands_true e =
      let some = leb 1 p in
      let inside = leb (s + 2 * p) (length t) in
      let same : ℕ → Bool = λ k. eqb (get_or t (s + k) 0) (get_or t (s + p + k) 0) in
      let x = (and-eq-true_iff (some && inside) (each_below p same)).0 e in
      let y = (and-eq-true_iff some inside).0 x.0 in
      record {
        nonempty = leb-true 1 p y.0;
        within = leb-true (s + 2 * p) (length t) y.1;
        twice = λ k l. eqb-true _ _ (each_below_at p same x.1 k l);
      }

  pub true_stands : Repetition t s p → stands t s p ≡ true
  unfolding stands
  true_stands r =
      rw (
        le-leb 1 p r.nonempty,
        le-leb (s + 2 * p) (length t) r.within,
        each_below_true p (λ k. eqb (get_or t (s + k) 0) (get_or t (s + p + k) 0)) (λ k l. eq-eqb _ _ (r.twice k l)),
      )

-- ---- it belongs to a part

-- the start s and half p lie in the part, across its cut
pub record Belongs (q : Part) (s p : ℕ) : Type 0 where
  pub after_from : q.from ≤ s
  pub before_to : s + 2 * p ≤ q.to
  pub starts_before : s < cut_of q
  pub ends_after : cut_of q < s + 2 * p

module _ (q : Part) (s p : ℕ) where
  true_belongs : Belongs q s p → belongs q s p ≡ true
  unfolding belongs
  true_belongs r =
      rw (
        le-leb q.from s r.after_from,
        le-leb (s + 2 * p) q.to r.before_to,
        lt-ltb s (cut_of q) r.starts_before,
        lt-ltb (cut_of q) (s + 2 * p) r.ends_after,
      )

  belongs_true : belongs q s p ≡ true → Belongs q s p
  unfolding belongs
  belongs_true e =
      let c = cut_of q in
      let x = (and-eq-true_iff (leb q.from s && leb (s + 2 * p) q.to && ltb s c) (ltb c (s + 2 * p))).0 e in
      let y = (and-eq-true_iff (leb q.from s && leb (s + 2 * p) q.to) (ltb s c)).0 x.0 in
      let z = (and-eq-true_iff (leb q.from s) (leb (s + 2 * p) q.to)).0 y.0 in
      record {
        after_from = leb-true q.from s z.0;
        before_to = leb-true (s + 2 * p) q.to z.1;
        starts_before = ltb-true s c y.1;
        ends_after = ltb-true c (s + 2 * p) x.1;
      }

  -- ---- it is right or left

  pub right_side : is right q s p ≡ true → cut_of q ≤ s + p
  unfolding is
  right_side = leb-true (cut_of q) (s + p)

  pub side_right : cut_of q ≤ s + p → is right q s p ≡ true
  unfolding is
  side_right = le-leb (cut_of q) (s + p)

  pub left_side : is left q s p ≡ true → s + p < cut_of q
  unfolding is
  left_side = ltb-true (s + p) (cut_of q)

  pub side_left : s + p < cut_of q → is left q s p ≡ true
  unfolding is
  side_left = lt-ltb (s + p) (cut_of q)

-- ---- it is new

-- a repetition of the text that belongs to the part and the class
pub record New (t : List ℕ) (κ : Class) (q : Part) (s p : ℕ) : Type 0 where
  pub repetition : Repetition t s p
  pub part : Belongs q s p
  pub side : is κ q s p ≡ true

module _ (t : List ℕ) (κ : Class) (q : Part) (s p : ℕ) where
  pub true_new : New t κ q s p → new t κ q s p ≡ true
  unfolding new
  true_new r =
      (and-eq-true_iff (stands t s p && belongs q s p) (is κ q s p)).1 (
        (and-eq-true_iff (stands t s p) (belongs q s p)).1 (true_stands t s p r.repetition, true_belongs q s p r.part),
        r.side,
      )

  pub new_true : new t κ q s p ≡ true → New t κ q s p
  unfolding new
  new_true e =
      let x = (and-eq-true_iff (stands t s p && belongs q s p) (is κ q s p)).0 e in
      let y = (and-eq-true_iff (stands t s p) (belongs q s p)).0 x.0 in
      record { repetition = stands_true t s p y.0; part = belongs_true q s p y.1; side = x.1 }
