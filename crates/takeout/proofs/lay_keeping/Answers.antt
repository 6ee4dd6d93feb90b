-- `takeout::lay_keeping` meets its contract: what is left of the wires, and one byte stored. Assumes nothing.
use borrow.Author.Rules.{rules}
use mathlib.Core.Path.{◌≡◌}
use Rattle.std.specs.Prelude.{replicate}
use Rattle.model.specs.Job.{side_of}
use Rattle.takeout.specs.Stored.{LeavesLaid, lay-stored}
use Rattle.takeout.proofs.lay_keeping.Goals as goal

pub returns : goal.returns
returns c =
    let a = c.args in
    let p = c.requires in
    let (taken, post, unwired) = c.unwire.ensures in
    let leaves : post.shown.now ≡ replicate 1600 0 → LeavesLaid a.was.now post.left.now (side_of a.r a.c a.side) a.n = search rules in
    lay-stored a.was.now taken _ _ _ p.0 a.r a.c a.n p.1 unwired a.side p.3 p.4 (rw post.leaves at (leaves post.shows).left) c.set_laid.ensures
