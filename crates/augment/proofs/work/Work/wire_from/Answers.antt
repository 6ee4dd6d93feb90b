-- `wire_from` meets its contract: what a search from an open pin finds is laid, and its marks are taken back. Assumes nothing.
use mathlib.Core.Bool.{not}
use mathlib.Core.Path.{ap}
use native.Mathlib.Omega.{arith}
use Rattle.channel.specs.Map.Starts.{start-inside}
use Rattle.augment.specs.Ways.{way-linked}
use Rattle.augment.specs.Shut.{pin-wired, pin-passed, pin-shut, open-yes, open_no}
use Rattle.augment.proofs.work.Work.wire_from.Goals as goal

pub returns-then-not-is_open-clause-tested : goal.returns-then-not-is_open-clause-tested
returns-then-not-is_open-clause-tested c =
    pin-passed c.requires.dead (open_no c.is_open.ensures (ap not c.if-not-is_open.true))

pub reach-requires : goal.reach-requires
reach-requires c =
    let p = c.requires in
    let (s, h, n) = open-yes c.is_open.ensures (ap not c.if-not-is_open.false) in
    record { lent = p.lent; fresh = record { spot = p.spot; new = n; inside = start-inside _ _ s } }

pub lay-requires : goal.lay-requires
lay-requires c =
    let F = c.in-Err.ensures.searched in
    let r = c.in-Err.ensures.lent in
    way-linked F.spread _ _ F.place F.slot F.may r.whole.loads r.room.queue r.room.parents r.room.slots F.within

pub unmark-requires : goal.unmark-requires
unmark-requires c =
    let F = c.in-Err.ensures.searched in
    let r = c.in-Err.ensures.lent.room in
    record { count = omega (arith, F.within, r.queue); byte = λ i l. omega (arith, F.spread.spot i l, r.marks) }

pub returns-in-Err-clause-tested : goal.returns-in-Err-clause-tested
returns-in-Err-clause-tested c =
    let p = c.requires in
    pin-wired c.in-Err.ensures.searched c.lay.ensures c.unmark.ensures.unmarked p.held p.dead p.spot
    (open-yes c.is_open.ensures (ap not c.if-not-is_open.false)).1

pub returns-in-Ok-clause-tested : goal.returns-in-Ok-clause-tested
returns-in-Ok-clause-tested c =
    let e = c.in-Ok.ensures.searched in
    let p = c.requires in
    pin-shut e.spread e.done p.dead p.spot (open-yes c.is_open.ensures (ap not c.if-not-is_open.false)).1
