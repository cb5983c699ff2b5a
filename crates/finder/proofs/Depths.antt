-- The search of the table of limits. Assumes nothing.
use Prim.Native.Nat.{ℕ, suc, ◌+◌}
use mathlib.Core.Path.{◌≡◌, refl, sym, ◌∙◌}
use mathlib.Core.Bool.{Bool, true, false, cond}
use mathlib.Core.List.{List}
use Rattle.std.specs.Prelude.{Option, Some}
use Rattle.std.specs.List.{position, position_or_len}
use Rattle.std.proofs.lemmas.Option.{cond_some}
use Rattle.std.proofs.lemmas.List.Recursion.{is_position_or_len}
use native.Mathlib.Omega.{arith}
use lib.Dec.{leb}
use Rattle.repetition.specs.Limits.{limits, first_at_least, depth}

cond_is : (b : Bool) (m : ℕ) → elim b [ true ↦ 0 | false ↦ suc m ] ≡ cond b 0 (1 + m)
cond_is true m = refl
cond_is false m = omega arith

first_is : (n : ℕ) (ls : List ℕ) → first_at_least n ls ≡ position_or_len (λ l. leb n l) ls
unfolding first_at_least
first_is n = is_position_or_len (first_at_least n) (λ l. leb n l) refl (λ l ls. cond_is (leb n l) (first_at_least n ls))

pub depth_found : (n place : ℕ) (found : Option ℕ) → found ≡ position (λ l. leb n l) limits → found ≡ Some place → place ≡ depth n
unfolding depth
depth_found n place found e f = sym (first_is n limits ∙ (cond_some _ _ _ (sym e ∙ f)).1)
