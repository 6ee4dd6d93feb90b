-- What each turn of `first::first_prices` keeps. Assumes nothing.
use Rattle.model.specs.Record.{job_of}
use Rattle.shortest.specs.FirstRow.{FirstRow}
use Rattle.shortest.proofs.first.first_prices.Given as goal

abbrev pub invariant-loop-u : goal.invariant-loop-u
invariant-loop-u l = FirstRow (job_of l.job) l.u l.initial.price-items l.price-items
