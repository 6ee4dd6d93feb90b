-- `edit::make` meets its contract: an edit whose value does not stand there yet is stored. Assumes nothing.
use Rattle.std.specs.Prelude.{Bool, [], List, ℕ}
use Rattle.std.proofs.Common.{sym, ap, ◌∙◌}
use Rattle.model.specs.Record.{job_of, load}
use Rattle.model.specs.Calls.{done, after, edited}
use Rattle.answers.specs.Outcomes.{on-legal}
use Rattle.editing.proofs.edit.make.Goals as goal

pub returns-then-not-stands : goal.returns-then-not-stands
returns-then-not-stands g c =
    let e = c.args.edit.now in
    let rec : List ℕ = c.args.rec.now in
    on-legal c.in_ok-undamaged.ensures
    (ap (λ (x : List ℕ). after done x [] []) c.rewrite.ensures
    ∙ (ap (λ (b : Bool). edited b (g.E.Edit.job e (job_of rec)) (g.E.Edit.left e (job_of rec) (load rec)) rec) (sym c.if-not-stands.true) ∙ c.stands.ensures))
