-- `make` meets its contract: a new job, then its pins, then its tiles. Assumes nothing.
use Rattle.model.specs.Trial.{trial_of}
use Rattle.trials.specs.Tried.{trial-made}
use Rattle.trials.proofs.make.Goals as goal

pub returns : goal.returns
returns c =
    let a = c.args in
    let k = a.capacities in
    let d = a.draws in
    trial-made (trial_of a.array.rows a.array.columns k.orthogonal k.diagonal k.extra d.seed d.chosen d.missing d.closed)
    a.rec.now c.write_fresh.new.rec c.fill.new.rec c.fill-2.new.rec _ c.requires.long c.write_fresh.ensures
    c.fill.ensures.1 c.fill.ensures.0 c.fill-2.ensures.1
