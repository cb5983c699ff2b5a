-- Wrong programs that the promises of the two public functions rule out, each from the promise alone. Assumes nothing.
use Prim.Native.Nat.{ℕ, ◌/◌}
use mathlib.Core.Path.{◌≡◌, sym, ap, ◌∙◌}
use mathlib.Core.List.{List, [], ◌∷◌}
use native.Mathlib.Omega.{arith}
use lib.ListN.{get_or}
use Rattle.repetition.specs.Cutting.{cut}
use Rattle.repetition.specs.Comparisons.{part_comparisons}
use Rattle.repetition.specs.Examples.{aa}
use Rattle.tables.specs.Parts.{part, with_tables}
use Rattle.tables.specs.Promises.{CutPromise, TablesPromise}

-- ---- a cut at a third: six letters are cut at 3

pub cut_not_third : {r : ℕ} → CutPromise 0 6 r → r ≡ 6 / 3 → ⊥
unfolding cut
cut_not_third x e = omega (arith, x.cuts)

-- ---- tables of "aa" that touch no work space, or count no comparison

abbrev nines : List ℕ
nines = 9 ∷ 9 ∷ 9 ∷ 9 ∷ []

module _ {count r : ℕ} {work_left : List ℕ} (x : TablesPromise aa nines (part 0 2) count r work_left) where
  pub work_touched : work_left ≡ nines → ⊥
  unfolding with_tables cut
  work_touched e = omega (arith, ap (λ (w : List ℕ). get_or w 2 0) (sym e ∙ x.leaves_work))

  pub comparisons_counted : r ≡ count → ⊥
  unfolding part_comparisons
  comparisons_counted e = omega (arith, x.counts)
