-- `header::numbers_fit` meets its contract, from the five numbers of the header. Assumes nothing.
use Rattle.audit.specs.Laws.{numbers_fit}
use Rattle.audit.proofs.header.numbers_fit.Goals as goal

pub returns : goal.returns
unfolding numbers_fit
returns c = cc
