-- `takeout::extra_keeping` meets its contract: what is left of the wires, and one byte stored. Assumes nothing.
use borrow.Author.Rules.{rules}
use mathlib.Core.List.{[]}
use Rattle.model.specs.Left.{missing_places}
use Rattle.model.specs.Record.{job_of}
use Rattle.takeout.specs.Edited.{Marks, marks-from}
use Rattle.takeout.specs.Missing.{extra-stored}
use Rattle.takeout.proofs.extra_keeping.Goals as goal

pub returns : goal.returns
returns c =
    let a = c.args in
    let p = c.requires in
    let (taken, post, unwired) = c.unwire.ensures in
    let marks : Marks a.was.now post.shown.now [] → Marks a.was.now post.left.now (missing_places (job_of a.was.now)) = search rules in
    extra-stored a.was.now p.0 _ _ _ _ a.e p.1 unwired (marks-from a.was.now p.0 1600 post.shows post.leaves marks)
    c.set_extra.ensures
