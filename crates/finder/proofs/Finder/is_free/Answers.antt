-- `finder::Finder::is_free` meets its contract. Assumes nothing.
use Rattle.std.proofs.Common.{rules}
use Rattle.finder.proofs.Entries.{free_promise, free_answered}
use Rattle.finder.proofs.Finder.is_free.Goals as goal

pub returns-in_err-longest : goal.returns-in_err-longest
returns-in_err-longest c = search (rules, free_promise _ _ c.in_err-longest.ensures)

pub returns : goal.returns
returns c = search (rules, free_answered _ _ c.is_none.ensures c.in_ok-longest.ensures)
