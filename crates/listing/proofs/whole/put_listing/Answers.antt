-- `put_listing` meets its contract. Assumes nothing.
use Rattle.std.proofs.Common.{◌≡◌, refl, ap, subst, ◌∙◌, length, arith, rules}
use Rattle.std.specs.Prelude.{None}
use Rattle.model.specs.Record.{job_of, load}
use Rattle.listing.specs.Left.{left_at, ahead_at, StandsAt}
use Rattle.listing.specs.Puts.{puts-length, parts-as, parts_none, parts_then, parts_all, parts-length}
use Rattle.listing.specs.Passed.{stands-first}
use Rattle.listing.specs.Whole.{listing-begun, listing-laid, left-done, lines_copied, page-copied}
use Rattle.listing.proofs.whole.put_listing.Goals as goal

pub copy_page-n-requires : goal.copy_page-n-requires
copy_page-n-requires c =
    let m = c.count_page.ensures in (
      omega (arith, m.1),
      omega (arith, c.requires.rec_in_bounds, listing-begun (job_of c.args.rec.now) (load c.args.rec.now) {c = record { cell = 0; inside = None }} refl refl m.0),
    )

pub loop-next-init : goal.loop-next-init
loop-next-init c =
    let e : length c.new-page.result.bytes ≡ 32768 = search rules in
    (stands-first c.args.rec.now c.first_wire.result (omega (arith, c.first_wire.ensures.0)) c.first_wire.ensures.1, puts-length c.count_page.ensures.0 ∙ e, parts_none)

pub wires_page-next-requires : goal.wires_page-next-requires
wires_page-next-requires c = (c.requires.legal, subst (StandsAt c.args.rec.now) c.in-Some.is c.loop-next.invariant.0)

pub copy_page-n-requires-in-Some : goal.copy_page-n-requires-in-Some
copy_page-n-requires-in-Some c =
    let J = job_of c.args.rec.now in
    let f = load c.args.rec.now in
    let l = c.loop-next.invariant.2 in
    let r = c.wires_page-next.ensures in
    let w = c.first_wire.ensures in
    let first = c.copy_page-n.ensures in (
      r.length_bound.0,
      omega (
        arith,
        c.requires.rec_in_bounds,
        listing-begun J f w.0 w.1 (lines_copied c.count_page.ensures.0 (search rules) first),
        parts-length l,
        ap (λ o. length (left_at J f o)) c.in-Some.is,
        parts-length r.passes.parts,
        puts-length l.puts,
        puts-length first,
      ),
    )

pub loop-next-preserved : goal.loop-next-preserved
loop-next-preserved c =
    let r = c.wires_page-next.ensures in (
      r.passes.stands,
      puts-length r.passes.parts.puts ∙ c.loop-next.invariant.1,
      parts_then (parts-as (ap (left_at (job_of c.args.rec.now) (load c.args.rec.now)) c.in-Some.is) c.loop-next.invariant.2)
          (page-copied r.passes.parts (omega (arith, r.length_bound.0, c.loop-next.invariant.1)) c.copy_page-n-in-Some.ensures),
    )

pub loop-next-smaller : goal.loop-next-smaller
loop-next-smaller c = omega (arith, c.wires_page-next.ensures.length_bound.1, ap ahead_at c.in-Some.is)

pub copy_page-requires : goal.copy_page-requires
copy_page-requires c =
    let l = c.loop-next.invariant.2 in
    let t = c.totals_page.ensures in
    let w = c.first_wire.ensures in
    let first = c.copy_page-n.ensures in (
      omega (arith, t.1),
      omega (
        arith,
        c.requires.rec_in_bounds,
        t.0.next,
        listing-begun (job_of c.args.rec.now) (load c.args.rec.now) w.0 w.1 (lines_copied c.count_page.ensures.0 (search rules) first),
        parts-length l,
        puts-length l.puts,
        puts-length first,
      ),
    )

pub returns : goal.returns
returns c =
    let J = job_of c.args.rec.now in
    let f = load c.args.rec.now in
    let w = c.first_wire.ensures in
    listing-laid J f w.0 w.1
    (lines_copied c.count_page.ensures.0 (search rules) c.copy_page-n.ensures)
    (parts_all c.loop-next.invariant.2 (left-done J f c.loop-next.next c.in_default.is))
    (lines_copied c.totals_page.ensures.0 (omega (arith, c.totals_page.ensures.1, c.loop-next.invariant.1)) c.copy_page.ensures)
