-- Pieces of the letters: those of the text as they stand, and those of the reversed text, which are the text's reversed. Assumes
-- nothing.
use Prim.Native.Nat.{ℕ, ◌+◌, ◌-◌, ◌*◌, ◌/◌, ◌≤◌, ◌<◌}
use mathlib.Core.Path.{◌≡◌, sym, ap, ◌∙◌}
use mathlib.Core.List.{List, ◌++◌, reverse}
use native.Mathlib.Omega.{arith}
use lib.ListN.{length, get_or, drop, length-append, length-reverse}
use lib.Seq.{slice, length-slice, take-append-le, take-append_seam, get_or-append-add, ext_get_or}
use Rattle.repetition.proofs.Agreement.{get_or-slice, get_or_slice_back, get_or-reverse}
use Rattle.tables.specs.declared.walk.Piece.{Piece}
use Rattle.tables.specs.Letters.{both_ways, text_of, read, backward_at}

pub length-read : (s : List ℕ) (p : Piece) → p.from + p.size ≤ length s → length (read s p) ≡ p.size
unfolding read
length-read s p h = length-slice p.from (p.from + p.size) s h ∙ omega arith

-- the letter at position x of a piece
pub letter_read : (s : List ℕ) (p : Piece) (x : ℕ) → x < p.size → get_or (read s p) x 0 ≡ get_or s (p.from + x) 0
unfolding read
letter_read s p x l = get_or-slice s p.from (p.from + p.size) x (omega arith)

-- ---- the letters of a text

module _ (t : List ℕ) where
  pub length_both : length (both_ways t) ≡ 2 * length t
  unfolding both_ways
  length_both = omega (arith, length-append t (reverse t), length-reverse t)

  -- The text is found again.
  pub text_of_both : text_of (both_ways t) ≡ t
  unfolding text_of both_ways
  text_of_both =
      let half : length (t ++ reverse t) / 2 ≡ length t = omega (arith, length-append t (reverse t), length-reverse t) in
      rw (half, take-append_seam t (reverse t))

  -- a piece of the text
  pub read_forward : (a c : ℕ) → a ≤ c → c ≤ length t → read (both_ways t) (record { from = a; size = c - a }) ≡ slice a c t
  unfolding read both_ways
  read_forward a c l h =
      let to : a + (c - a) ≡ c = omega arith in
      rw to (ap (drop a) (take-append-le c t (reverse t) h))

  -- the letter at place y, which is x letters into the reversed text
  pub mirrored : (x y : ℕ) → y ≡ length t + x → x < length t → get_or (both_ways t) y 0 ≡ get_or t (length t - 1 - x) 0
  unfolding both_ways
  mirrored x y e l = rw e (get_or-append-add t (reverse t) x 0 ∙ get_or-reverse t x l)

  -- a piece of the reversed text: it is the reversed piece of the text
  pub read_backward : (a c : ℕ) → a ≤ c → c ≤ length t
      → read (both_ways t) (backward_at (record { from = a; size = c - a }) (2 * length t)) ≡ reverse (slice a c t)
  read_backward a c l h =
      let n = length t in
      let back = backward_at (record { from = a; size = c - a }) (2 * n) in
      let long : length (read (both_ways t) back) ≡ c - a = length-read (both_ways t) back (omega (arith, length_both)) in
      ext_get_or 0 _ _
      (long ∙ sym (length-reverse (slice a c t) ∙ length-slice a c t h))
      (λ i k.
      letter_read (both_ways t) back i (omega arith)
      ∙ mirrored (n - c + i) (2 * n - (a + (c - a)) + i) (omega arith) (omega arith)
      ∙ ap (λ (x : ℕ). get_or t x 0) {x = n - 1 - (n - c + i)} {y = c - 1 - i} (omega arith)
      ∙ sym (get_or_slice_back t a c i h (omega arith)))
