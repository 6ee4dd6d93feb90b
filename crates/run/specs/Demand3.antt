-- Document 01, demand 3, whole: of every service that keeps its promises and every run. The record of a run is a legal one of its job, the service itself
-- finds that job's greatest number, and what then holds of steps and of Shortfall is proved there. Assumes a service; crates/witness has one.
use Rattle.std.specs.Prelude.{List, ℕ}
use Rattle.model.specs.Job.{Job}
use Rattle.model.specs.Calls.{step}
use Rattle.model.specs.Run.{Service, Demand, Demand3}
use Rattle.run.specs.Invariant.{Kept}
use Rattle.run.specs.Runs.{start-kept, run-kept}
use Rattle.run.specs.Says.{enough-accepted, greatest-there}
use Rattle.run.specs.Rows.{adding-le, stepping-stops, row_ends}
use Rattle.run.specs.Ending.{stop-ended}
use Rattle.run.specs.Shortfall.{enough-shortfall, shortfall-number, shortfall-near}

kept-demand : (S : Service) (rec : List ℕ) (J : Job) → Kept rec J → Demand S rec J
kept-demand S rec J k =
    let (g, G) = greatest-there S J rec k in
    record {
      g = g;
      greatest = G;
      step-accepted =
          λ scratch b l. enough-accepted S rec scratch J (S.does (step scratch) rec) k ((S.did (step scratch) rec b k.buffer).legal k.legal) l;
      adds = λ n r. adding-le S J g G r k;
      ends = λ scratch b l. row_ends S J g G scratch b l rec k;
      steps = λ n w end r. let (e, s) = stepping-stops S J g G r k in (e, stop-ended S J g w end G s);
      shortfall-accepted = λ scratch output b o l m. enough-shortfall S rec J k scratch output b o l m;
      shortfalls = λ scratch output b o x. shortfall-number S rec J k scratch output b o g G x;
      near = λ scratch output b o x l. shortfall-near S rec J k scratch output b o g G x l;
    }

pub demand3 : Demand3
demand3 S begun K s calls rec J f =
    let (n, k) = run-kept S calls begun rec K J (start-kept S s) f in
    (n, kept-demand S rec J k)
