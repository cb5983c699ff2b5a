-- `porthwynna::porthwynna_list` meets its contract. Assumes nothing.
use Rattle.std.proofs.Common.{refl}
use Rattle.porthwynna.proofs.Answers.{values_put, kept}
use Rattle.porthwynna.proofs.Calls.{list_short, list_call}
use Rattle.porthwynna.proofs.porthwynna_list.Goals as goal

pub returns-in_default : goal.returns-in_default
returns-in_default c = list_short _ _ _ _ c.in_default.ensures.cases

pub returns-in-Finished : goal.returns-in-Finished
returns-in-Finished c = list_call _ _ _ _ c.in-Some.ensures.cases.enough c.in-Finished.ensures refl (values_put _ c.values_of.ensures)

pub returns-in-Full : goal.returns-in-Full
returns-in-Full c = list_call _ _ _ _ c.in-Some.ensures.cases.enough c.in-Full.ensures refl (values_put _ c.values_of-in-Full.ensures)

pub returns-in-TextTooLong : goal.returns-in-TextTooLong
returns-in-TextTooLong c = list_call _ _ _ _ c.in-Some.ensures.cases.enough c.in-TextTooLong.ensures refl (kept c.in-Some.ensures.cases)

pub returns-in-WorkTooShort : goal.returns-in-WorkTooShort
returns-in-WorkTooShort c = list_call _ _ _ _ c.in-Some.ensures.cases.enough c.in-WorkTooShort.ensures refl (kept c.in-Some.ensures.cases)
