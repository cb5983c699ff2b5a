-- `finder::Finder::longest` meets its contract. Assumes nothing.
use Rattle.std.proofs.Common.{rules}
use Rattle.finder.proofs.Entries.{longest_promise}
use Rattle.finder.proofs.Finder.longest.Goals as goal

pub returns-in_err-search : goal.returns-in_err-search
returns-in_err-search c = search (rules, longest_promise _ _ _ c.in_err-search.ensures)

pub returns : goal.returns
returns c = rw c.longest.ensures (longest_promise _ _ _ c.in_ok-search.ensures)
