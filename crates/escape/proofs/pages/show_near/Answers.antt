-- The first line, and then the entries page by page. Assumes nothing.
use Rattle.std.proofs.Common.{◌≡◌, ℕ, ◌<◌, ap, subst, ◌∙◌, length, length-take-le, arith, rules}
use Rattle.std.specs.Prelude.{Option, Some, None, IfSome}
use Rattle.model.specs.Record.{job_of}
use Rattle.listing.specs.Near.{short_listing, near_left, entry_of, near-further}
use Rattle.listing.specs.Puts.{puts-length}
use Rattle.listing.specs.ShortPages.{short_row}
use Rattle.escape.proofs.Handing.{Handing, page-first, page-more, handing-all}
use Rattle.escape.proofs.pages.show_near.Goals as goal

pub loop-next-init : goal.loop-next-init
loop-next-init g c =
    let a = c.args in
    let m = c.short_page in
    let e : length c.new-page.result.bytes ≡ 32768 = search rules in
    let k : length m.new.page.bytes ≡ 32768 = puts-length m.ensures.0 ∙ e in (
      omega arith,
      omega (arith, c.in_ok-n.ensures.handed, length-take-le m.new.page.length m.new.page.bytes (omega (arith, k, m.ensures.1)), m.ensures.1),
      k,
      page-first m.ensures.0 (omega (arith, e, m.ensures.1)) (short_row (job_of a.rec.now) a.near.now a.short) c.in_ok-n.ensures.handed c.in_ok-n.ensures.held,
    )

pub near_page-next-requires : goal.near_page-next-requires
near_page-next-requires g c = (c.requires.0, c.requires.1, subst (λ (o : Option ℕ). IfSome o (λ q. q < 4800)) c.in-Some.is c.loop-next.invariant.0)

pub overflow_add-n : goal.overflow_add-n
overflow_add-n g c =
    let r = c.near_page-next in
    let i = c.loop-next.invariant in
    let here = subst (λ (o : Option ℕ). IfSome o (λ q. q < 4800)) c.in-Some.is i.0 in
    let k : length r.new.page.bytes ≡ 32768 = puts-length r.ensures.parts.puts ∙ i.2 in
    let few = length-take-le r.new.page.length r.new.page.bytes (omega (arith, k, r.ensures.page_len_bound)) in
    omega (arith, i.1, here, ap entry_of c.in-Some.is, c.in_ok-n-2.ensures.handed, r.ensures.page_len_bound, few)

pub loop-next-preserved : goal.loop-next-preserved
loop-next-preserved g c =
    let r = c.near_page-next in
    let i = c.loop-next.invariant in
    let p = c.in_ok-n-2.ensures in
    let J = job_of c.args.rec.now in
    let near = c.args.near.now in
    let here = subst (λ (o : Option ℕ). IfSome o (λ q. q < 4800)) c.in-Some.is i.0 in
    let f = near-further c.in-Some.entry r.result here r.ensures.from_lt_next in
    let k : length r.new.page.bytes ≡ 32768 = puts-length r.ensures.parts.puts ∙ i.2 in
    let before =
    subst (λ (o : Option ℕ). Handing (g.W.Write.contents c.args.out.now) (g.W.Write.contents c.loop-next.out) (short_listing J near c.args.short) (near_left J near o) c.loop-next.n)
    c.in-Some.is i.3 in (
      f.1,
      omega (arith, i.1, f.0, ap entry_of c.in-Some.is, p.handed, r.ensures.page_len_bound, length-take-le r.new.page.length r.new.page.bytes (omega (arith, k, r.ensures.page_len_bound))),
      k,
      page-more before r.ensures.parts (omega (arith, r.ensures.page_len_bound, i.2)) p.handed p.held,
    )

pub loop-next-smaller : goal.loop-next-smaller
loop-next-smaller g c =
    let here = subst (λ (o : Option ℕ). IfSome o (λ q. q < 4800)) c.in-Some.is c.loop-next.invariant.0 in
    omega (arith, here, (near-further c.in-Some.entry c.near_page-next.result here c.near_page-next.ensures.from_lt_next).0, ap entry_of c.in-Some.is)

pub returns-clause-handed : goal.returns-clause-handed
returns-clause-handed g c = (handing-all (ap (near_left (job_of c.args.rec.now) c.args.near.now) c.in_default.is) c.loop-next.invariant.3).0

pub returns-clause-held : goal.returns-clause-held
returns-clause-held g c = (handing-all (ap (near_left (job_of c.args.rec.now) c.args.near.now) c.in_default.is) c.loop-next.invariant.3).1
