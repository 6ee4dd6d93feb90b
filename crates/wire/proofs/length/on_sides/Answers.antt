-- `length::on_sides` meets its contract: the sum over a slice of the record. Assumes nothing.
use Rattle.std.proofs.Common.{◌+◌, ◌∙◌, arith, rules}
use Rattle.model.specs.Record.{forth_part, back_part}
use Rattle.wire.specs.Total.{on_sides, sum-part}
use Rattle.wire.proofs.length.on_sides.Goals as goal

pub returns : goal.returns
unfolding on_sides
returns c =
    let rec = c.args.rec.now in
    let e = c.total_of.ensures.total (λ b. forth_part b + back_part b) (λ b n p. search rules) in
    (e ∙ sum-part rec 3968 3200 (λ b. forth_part b + back_part b) (omega arith), search rules)
