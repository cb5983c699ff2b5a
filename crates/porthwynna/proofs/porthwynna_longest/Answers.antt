-- `porthwynna::porthwynna_longest` meets its contract. Assumes nothing.
use Rattle.std.proofs.Common.{refl, arith}
use Rattle.porthwynna.proofs.Answers.{values_put, kept}
use Rattle.porthwynna.proofs.Calls.{longest_short, longest_call, longest_fits}
use Rattle.porthwynna.proofs.porthwynna_longest.Goals as goal

pub returns-in_default : goal.returns-in_default
returns-in_default c = longest_short _ _ _ c.in_default.ensures.cases

pub overflow_cast-values : goal.overflow_cast-values
overflow_cast-values c =
    let within = longest_fits _ _ (rw c.in-Ok-Some.field-0-is at c.in-Ok-Some.ensures) in
    record { fits = omega (arith, within) }

pub overflow_cast-values-in-Ok-Some : goal.overflow_cast-values-in-Ok-Some
overflow_cast-values-in-Ok-Some c =
    let within = longest_fits _ _ (rw c.in-Ok-Some.field-0-is at c.in-Ok-Some.ensures) in
    record { fits = omega (arith, within) }

pub returns-in-Ok-Some : goal.returns-in-Ok-Some
returns-in-Ok-Some c =
    longest_call _ _ _ c.in-Some.ensures.cases.enough (rw c.in-Ok-Some.field-0-is at c.in-Ok-Some.ensures) refl (values_put _ refl)

pub returns-in-Ok-None : goal.returns-in-Ok-None
returns-in-Ok-None c =
    longest_call _ _ _ c.in-Some.ensures.cases.enough (rw c.in-Ok-None.field-0-is at c.in-Ok-None.ensures) refl (values_put _ refl)

pub returns-in-Err : goal.returns-in-Err
returns-in-Err c = longest_call _ _ _ c.in-Some.ensures.cases.enough c.in-Err.ensures c.number.ensures (kept c.in-Some.ensures.cases)
