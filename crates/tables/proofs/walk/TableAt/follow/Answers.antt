-- `tables::walk::TableAt::follow` meets its contract: a store at each free position, and looks from where the record ends. Assumes nothing.
use Rattle.std.proofs.Common.{arith}
use Rattle.tables.proofs.Fills.{follow_entry, follow_short, follow_reads, follow_stops, free_walked, free_further}
use Rattle.tables.proofs.walk.TableAt.follow.Goals as goal

pub own_length-own-requires : goal.own_length-own-requires
own_length-own-requires c = follow_reads _ _ _ _ _ c.loop-on.invariant.0 c.loop-on-test.true

pub returns-then-known-own : goal.returns-then-known-own
returns-then-known-own c =
    record {
      stopped =
          follow_stops _ _ _ _ _ c.loop-on.invariant.0 c.loop-on-test.true c.own_length-own.ensures
          (omega (arith, c.if-known-own.true));
      further = c.loop-on.invariant.1;
    }

pub overflow_cast-work : goal.overflow_cast-work
overflow_cast-work c =
    let short = follow_short _ _ _ _ _ c.loop-on.invariant.0 c.loop-on-test.true in
    omega (arith, short, c.if-known-own.false)

pub bounds-work-self : goal.bounds-work-self
bounds-work-self c = follow_entry _ _ _ _ _ c.loop-on.invariant.0 c.loop-on-test.true

pub loop-on-preserved : goal.loop-on-preserved
loop-on-preserved c =
    let k = c.loop-on.invariant in
    let own = c.own_length-own.ensures in (
      free_walked _ _ _ _ _ k.0 c.loop-on-test.true own c.if-known-own.false,
      free_further _ _ _ _ _ k.0 c.loop-on-test.true own c.if-known-own.false k.1,
      omega arith,
    )
