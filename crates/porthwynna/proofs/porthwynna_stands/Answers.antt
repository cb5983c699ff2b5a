-- `porthwynna::porthwynna_stands` meets its contract. Assumes nothing.
use Rattle.std.proofs.Common.{refl}
use Rattle.porthwynna.proofs.Answers.{yes_put, kept}
use Rattle.porthwynna.proofs.Calls.{place_short, place_call}
use Rattle.porthwynna.proofs.porthwynna_stands.Goals as goal

pub returns-in_default : goal.returns-in_default
returns-in_default c = place_short _ _ _ _ c.in_default.ensures.cases

pub returns-in-Ok : goal.returns-in-Ok
returns-in-Ok c = place_call _ _ _ _ c.in-Some.ensures.cases.enough c.in-Ok.ensures refl (yes_put _ _ c.from.ensures)

pub returns-in-Err : goal.returns-in-Err
returns-in-Err c = place_call _ _ _ _ c.in-Some.ensures.cases.enough c.in-Err.ensures c.number.ensures (kept c.in-Some.ensures.cases)
