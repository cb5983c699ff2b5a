-- `tables::walk::TableAt::seek` meets its contract: a look at each position, and a store where the letters differ. Assumes nothing.
use Rattle.tables.proofs.Fills.{seek_looks, seek_stops, seek_next, seek_further}
use Rattle.tables.proofs.walk.TableAt.seek.Goals as goal

pub look-seen-requires : goal.look-seen-requires
look-seen-requires c =
    let l = seek_looks _ _ _ _ _ c.loop-on.invariant.0 c.loop-on-test.true in
    (l.walked_inside, l.pattern_inside, l.fits)

pub returns-then-seen : goal.returns-then-seen
returns-then-seen c =
    record {
      stopped =
          seek_stops _ _ _ _ _ c.loop-on.invariant.0 c.loop-on-test.true c.look-seen.ensures c.if-seen.true;
      further = c.loop-on.invariant.1;
    }

pub loop-on-preserved : goal.loop-on-preserved
loop-on-preserved c =
    let k = c.loop-on.invariant in
    let inside = c.loop-on-test.true in (
      seek_next _ _ _ _ _ k.0 inside c.look-seen.ensures c.if-seen.false,
      seek_further _ _ _ _ _ k.0 inside c.look-seen.ensures c.if-seen.false k.1,
    )
