-- `porthwynna::porthwynna_version` meets its contract. Assumes nothing.
use Rattle.std.proofs.Common.{refl}
use Rattle.porthwynna.specs.Version.{version_number}
use Rattle.porthwynna.proofs.porthwynna_version.Goals as goal

pub returns : goal.returns
unfolding version_number
returns c =
    record { built_as = refl }
