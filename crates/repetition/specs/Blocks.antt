-- The blocks and the order of the list: document 01, "How the text is cut".
use Rattle.std.specs.Prelude.{ℕ, ◌-◌, Bool, ◌&&◌, leb, eqb, length}
use mathlib.Core.List.{List, [], ◌∷◌, ◌++◌, flat_map}
use Rattle.repetition.specs.Numbers.{consecutive, those, last_of}
use Rattle.repetition.specs.Repetition.{stands}
use Rattle.repetition.specs.Cutting.{Part, Class, right, left, parts, belongs, is}

-- All starts from first to last, with one half length.
pub record Block : Type 0 where
  pub half : ℕ
  pub first : ℕ
  pub last : ℕ

-- the block has the start s and half p
unfoldable pub has : ℕ → ℕ → Block → Bool
has s p b = eqb b.half p && leb b.first s && leb s b.last

-- a repetition of the text that belongs to the part and the class
unfoldable pub new : List ℕ → Class → Part → ℕ → ℕ → Bool
unfolding stands belongs is
new t κ q s p = stands t s p && belongs q s p && is κ q s p

-- the starts of a part, class and half, by trying each place of the part
unfoldable pub starts : List ℕ → Class → Part → ℕ → List ℕ
unfolding new consecutive those
starts t κ q p = those (λ s. new t κ q s p) (consecutive q.from (q.to - q.from))

-- the block of a set of starts; an empty set gives none
unfoldable pub block_of : ℕ → List ℕ → List Block
unfolding last_of
block_of p [] = []
block_of p (s ∷ ss) = record { half = p; first = s; last = last_of s ss } ∷ []

-- a part's blocks of one class, by rising half
unfoldable pub class_blocks : List ℕ → Class → Part → List Block
unfolding consecutive starts block_of flat_map
class_blocks t κ q = flat_map (λ p. block_of p (starts t κ q p)) (consecutive 1 (q.to - q.from))

-- a part's right blocks, then its left ones
unfoldable pub part_blocks : List ℕ → Part → List Block
unfolding class_blocks
part_blocks t q = class_blocks t right q ++ class_blocks t left q

-- the list of a text
unfoldable pub list_of : List ℕ → List Block
unfolding parts part_blocks flat_map
list_of t = flat_map (part_blocks t) (parts 0 (length t))
