-- Each public function's outcome is determined by its promise: any two outcomes that meet it are equal. Assumes nothing.
use Prim.Native.Nat.{ℕ}
use mathlib.Core.Path.{◌≡◌, sym, ◌∙◌}
use mathlib.Core.List.{List}
use Rattle.repetition.specs.Cutting.{Part}
use Rattle.tables.specs.Promises.{CutPromise, TablesPromise}

pub one_cut : {from to r r' : ℕ} → CutPromise from to r → CutPromise from to r' → r ≡ r'
one_cut x y = cc (x.cuts, y.cuts)

pub one_filling : {t work work_left work_left' : List ℕ} {q : Part} {count r r' : ℕ} → TablesPromise t work q count r work_left
    → TablesPromise t work q count r' work_left' → (r ≡ r') × (work_left ≡ work_left')
one_filling x y = (cc (x.counts, y.counts), cc (x.leaves_work, y.leaves_work))

-- What a promise of one equation says the result to be, as those of `Letters` and `CutPart`, the result is.
pub one_result : {A : Type 0} {told r r' : A} → r ≡ told → r' ≡ told → r ≡ r'
one_result x y = x ∙ sym y
