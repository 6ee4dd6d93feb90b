-- One line. Assumes nothing.
use Rattle.std.proofs.Common.{sym, subst, arith}
use Rattle.listing.specs.Puts.{puts-page}
use Rattle.escape.specs.Handed.{Handed, Held}
use Rattle.escape.proofs.pages.show_refused.Goals as goal

pub returns-clause-handed : goal.returns-clause-handed
returns-clause-handed g c =
    let r = c.refused_page.ensures in
    subst (Handed c.print.result) (sym (puts-page r.0 (omega arith))) c.print.ensures.handed

pub returns-clause-held : goal.returns-clause-held
returns-clause-held g c =
    let r = c.refused_page.ensures in
    subst (Held (g.W.Write.contents c.args.out.now) (g.W.Write.contents c.print.new.out) c.print.result) (sym (puts-page r.0 (omega arith))) c.print.ensures.held
