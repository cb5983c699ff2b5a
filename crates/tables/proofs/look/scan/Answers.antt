-- Each turn looks once, and the letters passed are the same. Assumes nothing.
use borrow.Author.Tests.{not-true, not-false}
use Rattle.tables.proofs.Scans.{scan_ends, scan_looked}
use Rattle.tables.proofs.look.scan.Goals as goal

pub loop-on-preserved : goal.loop-on-preserved
loop-on-preserved c =
    (scan_looked _ _ _ _ _ _ c.requires _ _ c.loop-on.invariant c.if-room-on.false c.look-seen.ensures).goes_on
    (not-false _ c.if-not-seen.false)

pub returns-then-room-on : goal.returns-then-room-on
returns-then-room-on c = scan_ends _ _ _ _ _ _ c.requires _ _ c.loop-on.invariant c.if-room-on.true

pub returns-then-not-seen : goal.returns-then-not-seen
returns-then-not-seen c =
    (scan_looked _ _ _ _ _ _ c.requires _ _ c.loop-on.invariant c.if-room-on.false c.look-seen.ensures).stops
    (not-true _ c.if-not-seen.true)
