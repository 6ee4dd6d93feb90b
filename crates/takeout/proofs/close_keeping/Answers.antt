-- `takeout::close_keeping` meets its contract: what is left of the wires, and one byte stored. Assumes nothing.
use borrow.Author.Rules.{rules}
use mathlib.Core.List.{[]}
use Rattle.model.specs.Left.{tile_places}
use Rattle.takeout.specs.Edited.{Marks, marks-from}
use Rattle.takeout.specs.Stored.{close-stored}
use Rattle.takeout.proofs.close_keeping.Goals as goal

pub returns : goal.returns
returns c =
    let a = c.args in
    let p = c.requires in
    let (taken, post, unwired) = c.unwire.ensures in
    let marks : Marks a.was.now post.shown.now [] → Marks a.was.now post.left.now (tile_places a.r a.c) = search rules in
    close-stored a.was.now _ _ _ _ p.0 a.r a.c a.v p.1 unwired p.3 p.4 (marks-from a.was.now p.0 1600 post.shows post.leaves marks)
    c.set_state.ensures
