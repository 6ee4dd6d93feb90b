-- `takeout::mark_keeping` meets its contract: what is left of the wires, and one byte stored. Assumes nothing.
use borrow.Author.Rules.{rules}
use mathlib.Core.List.{[], ◌∷◌}
use Rattle.model.specs.Links.{pin_at}
use Rattle.model.specs.Record.{job_of}
use Rattle.takeout.specs.Edited.{Marks, marks-from}
use Rattle.takeout.specs.Stored.{mark-stored}
use Rattle.takeout.proofs.mark_keeping.Goals as goal

pub returns : goal.returns
returns c =
    let a = c.args in
    let p = c.requires in
    let (taken, post, unwired) = c.unwire.ensures in
    let marks : Marks a.was.now post.shown.now [] → Marks a.was.now post.left.now (pin_at (job_of a.was.now) a.r a.c ∷ []) = search rules in
    mark-stored a.was.now _ _ _ _ p.0 a.r a.c a.m p.1 unwired p.3 p.4 (marks-from a.was.now p.0 1600 post.shows post.leaves marks)
    c.set_mark.ensures
