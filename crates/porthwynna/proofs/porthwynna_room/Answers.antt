-- `porthwynna::porthwynna_room` meets its contract. Assumes nothing.
use Rattle.std.proofs.Common.{refl, rules}
use Rattle.porthwynna.proofs.Answers.{values_put, kept}
use Rattle.porthwynna.proofs.Calls.{room_short, room_call}
use Rattle.porthwynna.proofs.porthwynna_room.Goals as goal

pub returns-in_default : goal.returns-in_default
returns-in_default c = room_short _ _ c.in_default.ensures.cases

pub returns-in-Ok : goal.returns-in-Ok
returns-in-Ok c = room_call _ _ c.in-Some.ensures.cases.enough c.in-Ok.ensures refl (values_put _ refl)

pub returns-in-Err : goal.returns-in-Err
returns-in-Err c = room_call _ _ c.in-Some.ensures.cases.enough c.in-Err.ensures (search rules) (kept c.in-Some.ensures.cases)
