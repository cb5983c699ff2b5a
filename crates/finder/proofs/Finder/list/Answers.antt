-- `finder::Finder::list` meets its contract. Assumes nothing.
use Rattle.finder.proofs.Entries.{list_promise, list_finished, list_full}
use Rattle.finder.proofs.Finder.list.Goals as goal

pub returns-in-Err : goal.returns-in-Err
returns-in-Err c = rw c.from.ensures (list_promise _ _ _ c.in-Err.ensures)

pub returns-then-totals-room : goal.returns-then-totals-room
returns-then-totals-room c = list_finished _ _ _ c.in-Ok.ensures c.totals-totals.ensures c.if-totals-room.true

pub returns-else-totals-room : goal.returns-else-totals-room
returns-else-totals-room c = list_full _ _ _ c.in-Ok.ensures c.totals-totals.ensures c.if-totals-room.false
