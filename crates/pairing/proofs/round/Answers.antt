-- `pairing::round` meets its contract. The loop's invariant: what is left is what was left at first, and no arrival and departure are neighbours among the
use mathlib.Core.Path.{ap, ◌∙◌}
use native.Mathlib.Omega.{arith}
use lib.ListN.{length-set}
use Rattle.model.specs.Pairing.{strike}
use Rattle.pairing.specs.Sequence.{arriving}
use Rattle.pairing.specs.Struck.{below_more, plain-before, plain_more, remaining-more, round-joined}
use Rattle.pairing.proofs.round.Goals as goal

pub loop-p-preserved : goal.loop-p-preserved
loop-p-preserved c =
    let l = c.loop-p in
    let w = arriving c.args.ends.now in (
      omega arith,
      omega arith,
      length-set l.left l.i l.p ∙ l.invariant.2,
      below_more c.args.n l.left l.i l.p (omega arith) (omega arith) l.invariant.3,
      plain_more w c.args.n l.left l.i l.p l.invariant.4 (omega arith) (c.differs.ensures.no c.if-differs.false),
      remaining-more w c.args.n l.left l.i l.p l.invariant.4 (omega arith) (omega arith) ∙ l.invariant.5,
    )

pub returns-then-differs : goal.returns-then-differs
returns-then-differs c =
    let l = c.loop-p in
    let (h, d) = c.differs.ensures.yes c.if-differs.true in
    let w = arriving c.args.ends.now in record {
      left_after = round-joined w c.args.n l.left l.i l.p l.invariant.4 h (omega arith) (omega arith) d ∙ ap (strike w) l.invariant.5;
      resumes = (omega arith, omega arith, omega arith, λ j t. l.invariant.3 j (omega arith), plain-before w c.args.n l.left l.i l.p l.invariant.4 h (omega arith));
    }
