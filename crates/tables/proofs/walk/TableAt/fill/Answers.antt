-- `tables::walk::TableAt::fill` meets its contract: it follows the record to a position that needs a scan, and scans. Assumes nothing.
use Rattle.std.proofs.Common.{◌≡◌, rules}
use Rattle.repetition.specs.Comparisons.{start}
use Rattle.tables.specs.Walks.{walk_of}
use Rattle.tables.proofs.Fills.{further_none, further_still, scan_walked, scan_further}
use Rattle.tables.proofs.Fills.{fill_starts, fill_ends, fill_fits}
use Rattle.tables.proofs.walk.TableAt.fill.Goals as goal

pub loop-self-init : goal.loop-self-init
loop-self-init c =
    let e : walk_of c.default-walk.result ≡ start = search rules in
    (rw e (fill_starts _ _ _ _ c.requires), further_none _ _ _ _)

pub loop-self-preserved : goal.loop-self-preserved
loop-self-preserved c =
    let f = c.follow-stop.ensures in
    let e = c.scan_at-walk.ensures in (
      scan_walked _ _ _ _ f.stopped c.if-self-stop.false e.work_after e.result_value,
      scan_further _ _ _ _ f.stopped c.if-self-stop.false e.work_after (further_still c.loop-self.invariant.1 f.further),
    )

pub overflow_add-result : goal.overflow_add-result
overflow_add-result c =
    let f = c.follow-stop.ensures in
    record {
      fits =
          fill_fits _ _ _ _ c.requires _ _ (further_still c.loop-self.invariant.1 f.further) f.stopped c.if-self-stop.true;
    }

pub returns : goal.returns
returns c =
    let f = c.follow-stop.ensures in
    fill_ends _ _ _ _ c.requires _ _ (further_still c.loop-self.invariant.1 f.further) f.stopped c.if-self-stop.true
