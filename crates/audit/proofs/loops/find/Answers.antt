-- `find` meets its contract. Assumes nothing.
use borrow.Author.Rules.{rules}
use Rattle.audit.specs.Loops.Fresh.{fresh-answered}
use Rattle.audit.proofs.loops.find.Goals as goal

pub returns : goal.returns
returns c =
    let a = fresh-answered c.args.old.now c.args.rec.now c.args.fin.now c.trace_all.new.self c.trace_all.result c.trace_all.ensures.traced in
    rw c.err.ensures.value (search (rules, a))
