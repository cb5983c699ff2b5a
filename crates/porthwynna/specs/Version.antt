-- The version as one number, which a C caller compares with its header's PORTHWYNNA_VERSION.
use Rattle.std.specs.Prelude.{ℕ, ◌+◌, ◌*◌}

-- a hundred minor versions to a major one, a hundred patches to a minor one
unfoldable pub version_number : (major minor patch : ℕ) → ℕ
version_number major minor patch = 10000 * major + 100 * minor + patch

-- the version that the library is built as, which the file VERSION has in words
abbrev pub version : ℕ
version = version_number 0 1 0
