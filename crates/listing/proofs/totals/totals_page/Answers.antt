-- `totals_page` meets its contract: two lines. Assumes nothing.
use Rattle.std.proofs.Common.{arith}
use Rattle.model.specs.Record.{job_of, load}
use Rattle.listing.specs.Whole.{totals-laid}
use Rattle.listing.proofs.totals.totals_page.Goals as goal

pub returns : goal.returns
returns c =
    let rec = c.args.rec.now in
    let front = c.put_line.ensures in (
      totals-laid (job_of rec) (load rec) c.total_length-n.ensures.0 c.count_wires-w.ensures
          c.mean.ensures c.mean_rest.ensures front.0 c.put_pair.ensures.0,
      omega (arith, front.1, c.put_pair.ensures.1),
    )
