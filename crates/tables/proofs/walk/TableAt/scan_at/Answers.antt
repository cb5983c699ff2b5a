-- `tables::walk::TableAt::scan_at` meets its contract: the scan finds the match length, which is short. Assumes nothing.
use Rattle.std.proofs.Common.{arith}
use Rattle.tables.proofs.Walks.{can_scan, scan_finds}
use Rattle.tables.proofs.walk.TableAt.scan_at.Goals as goal

pub scan-scanned-requires : goal.scan-scanned-requires
scan-scanned-requires c = can_scan _ _ _ _ _ _ c.requires c.room_at.ensures

pub overflow_cast-work : goal.overflow_cast-work
overflow_cast-work c =
    omega (arith, (scan_finds _ _ _ _ _ _ c.requires c.room_at.ensures c.scan-scanned.ensures).limit)

pub overflow_add-result : goal.overflow_add-result
overflow_add-result c =
    omega (arith, (scan_finds _ _ _ _ _ _ c.requires c.room_at.ensures c.scan-scanned.ensures).limit)

pub returns-clause-result_value : goal.returns-clause-result_value
returns-clause-result_value c = (scan_finds _ _ _ _ _ _ c.requires c.room_at.ensures c.scan-scanned.ensures).walk

pub returns-clause-work_after : goal.returns-clause-work_after
returns-clause-work_after c = rw (scan_finds _ _ _ _ _ _ c.requires c.room_at.ensures c.scan-scanned.ensures).match
