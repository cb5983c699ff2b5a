-- The search of a text: what it leaves, and on which grounds it is refused.
use Rattle.std.specs.Prelude.{ℕ, ◌*◌, ◌≤◌, ◌≡◌, true, false, List, Result, Ok, Err, ltb, length, get_or, replicate}
use Rattle.repetition.specs.Blocks.{list_of}
use Rattle.repetition.specs.Comparisons.{comparisons}
use Rattle.repetition.specs.Limits.{length_limit}
use Rattle.repetition.specs.Memory.{written, cleared}
use Rattle.repetition.specs.Outcomes.{longest_in}
use Rattle.finder.specs.Kept.{Kept, kept}
use Rattle.finder.specs.declared.tally.Tally.{Tally}
use Rattle.finder.specs.declared.reply.Refusal.{Refusal}
use Rattle.finder.specs.declared.reply.Refusal.TheVariants.{TextTooLong, WorkTooShort}

-- a text within the limit, and work space for it
pub record CanSearch (t work : List ℕ) : Type 0 where
  pub limit : length t ≤ length_limit
  pub room : 2 * length t ≤ length work

-- the tally of a whole text
unfoldable pub tally_of : List ℕ → Tally
unfolding list_of comparisons longest_in
tally_of t =
    let longest = longest_in (list_of t) in
    record {
      blocks = length (list_of t);
      comparisons = comparisons t;
      half = get_or longest 1 0;
      start = get_or longest 0 0;
    }

-- what is kept of a whole text
abbrev pub kept_of : List ℕ → List ℕ → Kept
kept_of t report = kept (written (list_of t) report) (tally_of t)

-- What a search promises that is not refused. All numbers of the work space that it is lent are cleared.
pub record SearchesAll (t work report : List ℕ) (r : Tally) (work_left report_left : List ℕ) : Type 0 where
  pub keeps : kept report_left r ≡ kept_of t report
  pub leaves_work : work_left ≡ replicate (length work) 0

-- the tally, or why there is none
abbrev pub Searched : Type 0
Searched = Result Tally Refusal

pub record Sought : Type 0 where
  pub result : Searched
  pub work : List ℕ
  pub report : List ℕ

abbrev pub searched : Searched → List ℕ → List ℕ → Sought
searched r work report = record { result = r; work = work; report = report }

unfoldable pub searching : List ℕ → List ℕ → List ℕ → Sought
unfolding tally_of written cleared list_of
searching t work report =
    elim (ltb length_limit (length t)) [
      | true ↦ searched (Err TextTooLong) work report
      | false ↦ elim (ltb (length work) (2 * length t)) [
        | true ↦ searched (Err WorkTooShort) work report
        | false ↦ searched (Ok (tally_of t)) (cleared (length t) work) (written (list_of t) report)
      ]
    ]
