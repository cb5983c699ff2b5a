-- `finder::search::search` meets its contract. Assumes nothing.
use Rattle.finder.proofs.Searches.{searched_found}
use Rattle.finder.proofs.search.search.Goals as goal

pub returns : goal.returns
returns c = searched_found _ _ _ c.in_ok-within_limit.ensures c.if-work-numbers.false c.search_whole.ensures
