-- `write_text` counts the text first, and puts it only where there is room. Assumes nothing.
use borrow.Author.Rules.{rules}
use mathlib.Core.Path.{refl}
use native.Mathlib.Omega.{arith}
use Rattle.writing.proofs.Placed.{wrote-whole}
use Rattle.writing.proofs.writer.write_text.Goals as goal

pub returns : goal.returns
returns c =
    let w =
    wrote-whole c.args.rec.now c.args.out.now c.put_text.ensures refl refl (record { fits = omega (arith, c.if-out-n.false, c.count_text-n.ensures) })
    in
    search (rules, w)
