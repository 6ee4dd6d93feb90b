-- `first_failing` meets its contract: `find` gives the first that does not pass. Assumes nothing.
use Rattle.std.specs.Prelude.{◌≡◌, true, false}
use Rattle.std.proofs.Common.{rules, tests}
use Rattle.std.proofs.lemmas.Iterator.{first_from_Range}
use Rattle.model.specs.Record.{job_of}
use Rattle.sheets.specs.First.{passes_at}
use Rattle.sheets.proofs.Below.{first-found}
use Rattle.sheets.proofs.first_failing.Goals as goal

pub returns : goal.returns
returns c =
    let J = job_of c.args.rec.now in
    let p = passes_at J c.args.loads.now in
    first-found p 1600 c.find.result
    (first_from_Range _ _ _ c.find.result (λ i. p i ≡ false) (λ i. p i ≡ true) c.find.ensures.ran (λ x q k. search (rules, tests)) (λ x q k. search (rules, tests)))
