-- `length::to_missing` meets its contract: the sum over a slice of the record. Assumes nothing.
use Rattle.std.proofs.Common.{◌∙◌, arith, rules}
use Rattle.model.specs.Record.{back_part}
use Rattle.wire.specs.Total.{to_pins, sum-part}
use Rattle.wire.proofs.length.to_missing.Goals as goal

pub returns : goal.returns
unfolding to_pins
returns c =
    let rec = c.args.rec.now in
    let e = c.total_of.ensures.total (λ b. back_part b) (λ b n p. search rules) in
    (e ∙ sum-part rec 19968 6400 (λ b. back_part b) (omega arith), search rules)
