-- `grow::grow` meets its contract: what the search finds is laid, and its marks are taken back. Assumes nothing.
use borrow.Author.Rules.{rules}
use native.Mathlib.Omega.{arith}
use lib.Seq.{get_or-set_same}
use Rattle.model.specs.Record.{job_of}
use Rattle.channel.specs.Map.Numbers.{spots-is}
use Rattle.channel.specs.Map.Starts.{start-inside}
use Rattle.augment.specs.Shut.{start-unwired}
use Rattle.augment.specs.Marks.{Unmarked}
use Rattle.augment.specs.Steps.{Fresh}
use Rattle.augment.specs.Ways.{LaidTo}
use Rattle.shortest.specs.Growths.{growing-start, growing-first}
use Rattle.shortest.specs.Rounds.{grown}
use Rattle.shortest.proofs.grow.grow.Goals as goal

pub overflow_cast-queue : goal.overflow_cast-queue
overflow_cast-queue c = omega (arith, spots-is, c.requires.8)

pub widen-way-requires : goal.widen-way-requires
widen-way-requires c =
    let p = c.requires in
    let a = c.args in
    let F : Fresh (job_of a.job.now) a.marks.now a.start =
    record { spot = p.8; new = λ e. omega (arith, p.7.all a.start p.8); inside = start-inside _ _ (start-unwired _ _ _ p.9).0 } in
    record {
      whole = p.0;
      arranged = (p.5, p.10);
      growing = growing-first (growing-start _ _ a.stack.now _ p.1 F p.7 p.4 p.2 p.3);
      wireable = (p.6, rw (get_or-set_same a.queue.now 0 a.start 0 (omega (arith, p.1.queue, p.8))) p.9);
    }

pub returns : goal.returns
returns c =
    let p = c.requires in
    let a = c.args in
    let s = c.widen-way.new.self in
    let y = c.widen-way.result in
    let O = rw (get_or-set_same a.queue.now 0 a.start 0 (omega (arith, p.1.queue, p.8))) at c.widen-way.ensures.opened in
    let L : LaidTo s.queue.now s.parent.now s.slot.now y.place y.slot 0 a.loads.now c.lay_way.new.loads = search (rules, c.lay_way.ensures) in
    let U : Unmarked s.queue.now y.count s.marks.now c.unmark.new.marks = search (rules, c.unmark.ensures) in
    grown O p.5.held p.6 p.8 p.9 L U
