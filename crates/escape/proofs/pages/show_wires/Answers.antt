-- The first line, the wires page by page, and the last lines. Assumes nothing.
use Rattle.std.proofs.Common.{◌≡◌, refl, ap, subst, ◌∙◌, [], ◌++◌, ◌+◌, length, arith, rules}
use Rattle.std.specs.Prelude.{Option}
use Rattle.model.specs.Record.{job_of, load}
use Rattle.model.specs.Listing.{wires_listing}
use Rattle.model.proofs.ListingLength.{listing-short}
use Rattle.listing.specs.declared.wires.Cursor.{Cursor}
use Rattle.listing.specs.Left.{left_at, StandsAt}
use Rattle.listing.specs.Passed.{stands-first}
use Rattle.listing.specs.Puts.{puts-length}
use Rattle.listing.specs.Whole.{total_lines, listing-first}
use Rattle.escape.proofs.Handing.{Handing, page-first, page-more-before, page-last, handing-all, handing-less}
use Rattle.escape.proofs.pages.show_wires.Goals as goal
use Rattle.escape.proofs.pages.show_wires.Given.{Over}
use Rattle.escape.proofs.pages.show_wires.Goals.{In_ok-n-2, In_ok-print}

pub loop-next-init : goal.loop-next-init
loop-next-init g c =
    let m = c.count_page in
    let w = c.first_wire in
    let e : length c.new-page.result.bytes ≡ 32768 = search rules in (
      page-first m.ensures.0 (omega (arith, e, m.ensures.1)) (listing-first (job_of c.args.rec.now) (load c.args.rec.now) w.result w.ensures.0 w.ensures.1)
          c.in_ok-n.ensures.handed c.in_ok-n.ensures.held,
      puts-length m.ensures.0 ∙ e,
      stands-first c.args.rec.now w.result (omega (arith, w.ensures.0)) w.ensures.1,
    )

pub wires_page-next-requires : goal.wires_page-next-requires
wires_page-next-requires g c = (c.requires, subst (StandsAt c.args.rec.now) c.in-Some.is c.loop-next.invariant.2)

-- a page more is handed on
more : (g : Over) (c : In_ok-n-2 g)
    → Handing (g.W.Write.contents c.args.out.now) (g.W.Write.contents c.print-in-Some.new.out) (wires_listing (job_of c.args.rec.now) (load c.args.rec.now))
    (left_at (job_of c.args.rec.now) (load c.args.rec.now) c.wires_page-next.result ++ total_lines (job_of c.args.rec.now) (load c.args.rec.now)) (c.loop-next.n + c.in_ok-n-2.field-0)
more g c =
    let J = job_of c.args.rec.now in
    let f = load c.args.rec.now in
    let r = c.wires_page-next.ensures in
    let p = c.in_ok-n-2.ensures in
    let before =
    subst (λ (o : Option Cursor). Handing (g.W.Write.contents c.args.out.now) (g.W.Write.contents c.loop-next.out) (wires_listing J f) (left_at J f o ++ total_lines J f) c.loop-next.n)
    c.in-Some.is c.loop-next.invariant.0 in
    page-more-before (total_lines J f) before r.passes.parts (omega (arith, r.length_bound.0, c.loop-next.invariant.1)) p.handed p.held

pub overflow_add-n : goal.overflow_add-n
overflow_add-n g c = omega (arith, handing-less (more g c), listing-short (job_of c.args.rec.now) (load c.args.rec.now))

pub loop-next-preserved : goal.loop-next-preserved
loop-next-preserved g c =
    let r = c.wires_page-next.ensures in
    (more g c, puts-length r.passes.parts.puts ∙ c.loop-next.invariant.1, r.passes.stands)

-- the last lines are handed on, and nothing is left
last : (g : Over) (c : In_ok-print g)
    → Handing (g.W.Write.contents c.args.out.now) (g.W.Write.contents c.print-2.new.out) (wires_listing (job_of c.args.rec.now) (load c.args.rec.now)) []
    (c.loop-next.n + c.in_ok-print.field-0)
last g c =
    let J = job_of c.args.rec.now in
    let f = load c.args.rec.now in
    let p = c.in_ok-print.ensures in
    page-last c.loop-next.invariant.0 (ap (λ o. left_at J f o ++ total_lines J f) c.in_default.is) c.totals_page.ensures.0
    (omega (arith, c.totals_page.ensures.1, c.loop-next.invariant.1)) p.handed p.held

pub overflow_add-result : goal.overflow_add-result
overflow_add-result g c = omega (arith, handing-less (last g c), listing-short (job_of c.args.rec.now) (load c.args.rec.now))

pub returns-clause-handed : goal.returns-clause-handed
returns-clause-handed g c = (handing-all refl (last g c)).0

pub returns-clause-held : goal.returns-clause-held
returns-clause-held g c = (handing-all refl (last g c)).1
