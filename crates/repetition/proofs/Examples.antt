-- The starred examples hold: each row of specs/Examples.antt computes to what the document says. Assumes nothing.
use mathlib.Core.Path.{◌≡◌, refl}
use mathlib.Core.List.{map}
use Rattle.repetition.specs.Examples.{Example, starred}

pub starred_examples : map (λ (x : Example). x.computed) starred ≡ map (λ (x : Example). x.document) starred
unfolding starred
starred_examples = refl
