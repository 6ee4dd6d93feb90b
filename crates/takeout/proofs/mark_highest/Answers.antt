-- `takeout::mark_highest` meets its contract: the lanes of the side's two darts from the new count on. Assumes nothing.
use borrow.Author.Rules.{rules}
use mathlib.Core.Path.{ap}
use Prim.Native.Nat.{ℕ, ◌-◌}
use native.Mathlib.Omega.{arith}
use Rattle.model.specs.Job.{side_of}
use Rattle.channel.specs.Map.Numbers.{darts-is}
use Rattle.takeout.specs.Lanes.{side-dart}
use Rattle.takeout.specs.Marks.{back-dart}
use Rattle.takeout.specs.Edited.{lanes-left}
use Rattle.takeout.proofs.mark_highest.Goals as goal

pub mark_lanes-requires : goal.mark_lanes-requires
mark_lanes-requires c =
    let p = c.requires in
    let (range, linked, side) = side-dart c.args.r c.args.c c.args.side p.2 p.3 p.4 in
    (p.0, p.1, omega (arith, darts-is, range), linked)

pub step_back-requires : goal.step_back-requires
step_back-requires c =
    let p = c.requires in
    let (range, linked, side) = side-dart c.args.r c.args.c c.args.side p.2 p.3 p.4 in
    (omega (arith, darts-is, range), linked)

pub mark_lanes-requires-2 : goal.mark_lanes-requires-2
mark_lanes-requires-2 c =
    let p = c.requires in
    let (range, linked, side) = side-dart c.args.r c.args.c c.args.side p.2 p.3 p.4 in
    (p.0, search rules, c.step_back.ensures.1, (back-dart c.args.was.now p.0 _ _ linked c.step_back.ensures.0).0)

pub returns : goal.returns
returns c =
    let a = c.args in
    let p = c.requires in
    let (range, linked, side) = side-dart a.r a.c a.side p.2 p.3 p.4 in
    λ none. record {
      left = lanes-left a.was.now p.0 (side_of a.r a.c a.side) a.n _ _ _ 1600 _ _ side
          (back-dart a.was.now p.0 _ _ linked c.step_back.ensures.0).1
          (ap (λ (o : ℕ). o - a.n) c.orthogonal.ensures.0)
          (rw none at c.mark_lanes.ensures) c.mark_lanes-2.ensures;
    }
