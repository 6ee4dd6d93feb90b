-- `moves::bumped` meets its contract, way by way. Assumes nothing.
use native.Mathlib.Omega.{arith}
use Rattle.channel.specs.Map.Laying.{bump-more, bump-last, bump-fewer, drop-first, drop-fewer, drop_more, drop-full}
use Rattle.channel.proofs.moves.bumped.Goals as goal

pub returns-then-b-lt32 : goal.returns-then-b-lt32
returns-then-b-lt32 c = bump-more c.args.s c.args.b (omega arith) (omega arith)

pub returns-then-b-eq33 : goal.returns-then-b-eq33
returns-then-b-eq33 c = bump-last c.args.s c.args.b (omega arith) (omega arith) (omega arith)

pub returns-then-s-eq0 : goal.returns-then-s-eq0
returns-then-s-eq0 c = bump-fewer c.args.s c.args.b (omega arith) (omega arith) (omega arith)

pub returns-then-b-eq0 : goal.returns-then-b-eq0
returns-then-b-eq0 c = drop-first c.args.s c.args.b (omega arith) (omega arith)

pub returns-then-b-lt32-2 : goal.returns-then-b-lt32-2
returns-then-b-lt32-2 c = drop-fewer c.args.s c.args.b (omega arith) (omega arith) (omega arith)

pub returns-then-b-lt255 : goal.returns-then-b-lt255
returns-then-b-lt255 c =
    drop_more c.args.s c.args.b (omega arith) (omega arith) (omega arith) (omega arith)

pub returns : goal.returns
returns c =
    drop-full c.args.s c.args.b (omega arith) (omega arith) (omega arith) (omega arith)
