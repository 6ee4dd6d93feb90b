-- `loads::passing` meets its contract: code 5 is a centre's, the other a missing pin's. Assumes nothing.
use mathlib.Core.Path.{sym, ◌∙◌, ap}
use native.Mathlib.Omega.{arith}
use Rattle.model.specs.Loads.{arrivals}
use Rattle.model.specs.Record.{load}
use Rattle.channel.specs.Map.Bytes.{pass-bounds, passed-centre, passed-missing}
use Rattle.channel.proofs.loads.passing.Goals as goal

pub through_centre-requires : goal.through_centre-requires
through_centre-requires c =
    omega (arith, pass-bounds c.args.d c.requires.2)

pub returns-then-code_of-eq5 : goal.returns-then-code_of-eq5
returns-then-code_of-eq5 c =
    let s = c in (
      c.through_centre.ensures.0
          ∙ ap (arrivals (load s.args.rec.now)) (passed-centre s.args.d (sym c.code_of.ensures ∙ c.if-code_of-eq5.true)),
      omega arith,
    )

pub through_missing-requires : goal.through_missing-requires
through_missing-requires c =
    omega (arith, pass-bounds c.args.d c.requires.2)

pub returns : goal.returns
returns c =
    let s = c in (
      c.through_missing.ensures.0
          ∙ ap (arrivals (load s.args.rec.now)) (passed-missing s.args.d (λ e. c.if-code_of-eq5.false (c.code_of.ensures ∙ e))),
      omega arith,
    )
