-- `header::chosen_at` meets its contract, from the mark of the cell, and its row and column. Assumes nothing.
use native.Mathlib.Omega.{arith}
use Rattle.model.specs.Job.{is_chosen}
use Rattle.model.specs.Record.{job_of}
use Rattle.channel.specs.Map.Grid.{none-at, not_chosen, chosen-pin}
use Rattle.channel.proofs.header.chosen_at.Goals as goal

pub returns-then-x-lt41 : goal.returns-then-x-lt41
returns-then-x-lt41 c = none-at c.args.x (is_chosen (job_of c.args.rec.now)) (omega arith)

pub returns-then-rec-x-ne1 : goal.returns-then-rec-x-ne1
returns-then-rec-x-ne1 c =
    let s = c.args in not_chosen s.rec.now s.x (omega arith) (omega arith) c.if-rec-x-ne1.true

pub returns : goal.returns
returns c =
    let s = c.args in
    chosen-pin s.rec.now s.x (omega arith) (omega arith) _ c.if-rec-x-ne1.false c.pin_at.ensures
