-- `near_page` meets its contract. Assumes nothing.
use Rattle.std.proofs.Common.{List, ℕ, ◌%◌, ap, arith}
use Rattle.model.specs.Job.{Job}
use Rattle.model.specs.Record.{job_of}
use Rattle.listing.specs.Near.{group_lines, near_at, near-done}
use Rattle.listing.specs.Spread.{spread-first}
use Rattle.listing.specs.Puts.{puts-as, parts-as, parts_then}
use Rattle.listing.proofs.near.near_page.Goals as goal

pub loop-entry-preserved : goal.loop-entry-preserved
loop-entry-preserved c =
    let l = c.loop-entry in
    let J : Job = job_of c.args.rec.now in
    let near : List ℕ = c.args.near.now in
    let r = c.cell_lines.ensures in (
      omega (arith, r.1),
      omega (arith, l.invariant.1, r.1),
      parts_then l.invariant.2
          (record {
            bytes = near_at J near l.entry;
            puts = puts-as (ap (λ (g : ℕ). group_lines J near g (l.entry % 1600)) c.at.ensures) r.0;
            split = spread-first (near_at J near) l.entry 4800 c.loop-entry-test.true;
          }),
    )

pub returns-clause-parts : goal.returns-clause-parts
returns-clause-parts c =
    let l = c.loop-entry in
    parts-as (near-done (job_of c.args.rec.now) c.args.near.now l.entry (omega arith)) l.invariant.2
