-- `write_job` writes a job that is read: at the loop's head the record is that of the job so far, for every job that the text reads as. The measure is what
-- is left of the text. Assumes nothing.
use mathlib.Core.Path.{refl, ap, ◌∙◌}
use native.Mathlib.Omega.{arith}
use Rattle.model.specs.Job.{fresh}
use Rattle.model.specs.Record.{no_loads, unwired_record, over}
use Rattle.channel.specs.Written.{over-over}
use Rattle.line.specs.Lines.{entry_line}
use Rattle.text.proofs.Standing.{open-wrong}
use Rattle.text.proofs.Midway.{line-length}
use Rattle.text.proofs.Writing.{writing-open, group-cell, group-tile, writing-group, writing-ended, writing-wrong, not-both}
use Rattle.text.proofs.into.write_job.Goals as goal

pub returns-in_default : goal.returns-in_default
returns-in_default c =
    let t = c.args.text.now in
    λ K h. absurd (not-both t K 0 h (open-wrong t c.in_default.ensures))

pub loop-line-init : goal.loop-line-init
loop-line-init c =
    let p = c.in-Some.opening in
    let f = c.in-Some.ensures in (
      omega (arith, c.requires.record_size_in_bounds, c.write_fresh.auto.rec),
      refl,
      f.1,
      writing-open c.args.text.now c.args.rec.now c.write_fresh.new.rec p.value p.next f.1 f.2 c.write_fresh.ensures,
    )

pub returns-in_default-value : goal.returns-in_default-value
returns-in_default-value c =
    let h = c.in-Some.opening.value in
    λ K r.
    writing-ended (c.loop-line.invariant.3 K r) c.in-Some-next_line.line.next (rw c.in_default-value.is at c.in-Some-next_line.ensures)
    ∙ (ap (over (unwired_record K)) c.write_fresh.ensures
    ∙ over-over K (fresh h.array.rows h.array.columns h.capacities.orthogonal h.capacities.diagonal h.capacities.extra) no_loads no_loads c.args.rec.now)

pub returns : goal.returns
returns c = λ K r. absurd (writing-wrong (c.loop-line.invariant.3 K r) c.in_default-next_line.ensures)

pub write_entry-requires-clause-cell : goal.write_entry-requires-clause-cell
write_entry-requires-clause-cell c =
    let l = c.loop-line.invariant in
    let e = c.in-Tells.entry in
    let next = c.in-Some-next_line.line.next in
    let f = rw c.in-Tells.is at c.in-Some-next_line.ensures in
    let (K, r) = c.requires.readable in
    let b = group-cell (l.3 K r) l.2 e next f in
    (b.0, b.1, group-tile (l.3 K r) l.2 e next f, f.0.value)

pub loop-line-smaller : goal.loop-line-smaller
loop-line-smaller c =
    let l = c.loop-line in
    let f = rw c.in-Tells.is at c.in-Some-next_line.ensures in
    let b = line-length c.args.text.now l.at c.in-Some-next_line.line.next (entry_line c.in-Tells.entry) l.invariant.2 f.1 f.2 in
    omega (arith, b.1, f.1)

pub loop-line-preserved : goal.loop-line-preserved
loop-line-preserved c =
    let l = c.loop-line.invariant in
    let e = c.in-Tells.entry in
    let next = c.in-Some-next_line.line.next in
    let f = rw c.in-Tells.is at c.in-Some-next_line.ensures in (
      l.0,
      c.write_entry.auto.rec ∙ l.1,
      f.1,
      λ K r. let w = l.3 K r in writing-group w l.2 e next f c.write_entry.new.rec (c.write_entry.ensures w.reader.job _ l.0 w.here),
    )
