-- `scan` meets its contract: the slots passed are not loaded, or lead to spots that are done. Assumes nothing.
use borrow.Author.Rules.{rules}
use Prim.Native.Nat.{ℕ, ◌+◌, ◌<◌, ◌≤◌}
use native.Mathlib.Omega.{arith}
use mathlib.Core.Path.{subst}
use lib.ListN.{get_or}
use Rattle.channel.specs.Map.LoadedSlots.{from-small}
use Rattle.channel.specs.Map.Numbers.{spots-is}
use Rattle.audit.specs.Loops.Slots.{scan-skip, scan-slot, scan-next, scan-found, scan-ends}
use Rattle.audit.proofs.loops.Search.scan.Goals as goal

pub lowest-skip-requires : goal.lowest-skip-requires
lowest-skip-requires c =
    let l = c.loop-left in
    let s = c.args in
    omega (arith, c.loop-left-test.true, l.invariant.rest, from-small s.rec.now s.u l.k)

pub overflow_add-k : goal.overflow_add-k
overflow_add-k c = omega (arith, scan-slot c.args.s0 (scan-skip c.args.s0 c.loop-left.invariant c.lowest-skip.ensures) c.lowest-skip.ensures.here)

pub overflow_shr-left : goal.overflow_shr-left
overflow_shr-left c = omega (arith, scan-slot c.args.s0 (scan-skip c.args.s0 c.loop-left.invariant c.lowest-skip.ensures) c.lowest-skip.ensures.here)

pub overflow_mul-u : goal.overflow_mul-u
overflow_mul-u c = search (rules, spots-is)

pub overflow_add-u : goal.overflow_add-u
overflow_add-u c = omega (arith, spots-is, c.requires.1, scan-slot c.args.s0 (scan-skip c.args.s0 c.loop-left.invariant c.lowest-skip.ensures) c.lowest-skip.ensures.here)

pub head_of-requires : goal.head_of-requires
head_of-requires c = omega (arith, spots-is, c.requires.1, scan-slot c.args.s0 (scan-skip c.args.s0 c.loop-left.invariant c.lowest-skip.ensures) c.lowest-skip.ensures.here)

pub bounds-fin-head_of : goal.bounds-fin-head_of
bounds-fin-head_of c = search (rules, spots-is)

pub overflow_mul-result : goal.overflow_mul-result
overflow_mul-result c =
    let s = c.args in
    omega (arith, (scan-skip c.args.s0 c.loop-left.invariant c.lowest-skip.ensures).rest, from-small s.rec.now s.u (c.loop-left.k + c.lowest-skip.result))

pub overflow_add-result : goal.overflow_add-result
overflow_add-result c =
    let s = c.args in
    omega (arith, scan-slot c.args.s0 (scan-skip c.args.s0 c.loop-left.invariant c.lowest-skip.ensures) c.lowest-skip.ensures.here, (scan-skip c.args.s0 c.loop-left.invariant c.lowest-skip.ensures).rest, from-small s.rec.now s.u (c.loop-left.k + c.lowest-skip.result))

pub returns-then-fin-head_of-lt2 : goal.returns-then-fin-head_of-lt2
returns-then-fin-head_of-lt2 c =
    scan-found c.args.s0 (scan-skip c.args.s0 c.loop-left.invariant c.lowest-skip.ensures) c.lowest-skip.ensures.here c.requires.1
    (subst (λ (v : ℕ). get_or c.args.self.now.fin.now v 0 < 2) c.head_of.ensures.0 c.if-fin-head_of-lt2.true)

pub overflow_add-k-in-loop-left : goal.overflow_add-k-in-loop-left
overflow_add-k-in-loop-left c = omega (arith, scan-slot c.args.s0 (scan-skip c.args.s0 c.loop-left.invariant c.lowest-skip.ensures) c.lowest-skip.ensures.here)

pub loop-left-smaller : goal.loop-left-smaller
loop-left-smaller c = omega (arith, scan-slot c.args.s0 (scan-skip c.args.s0 c.loop-left.invariant c.lowest-skip.ensures) c.lowest-skip.ensures.here)

pub loop-left-preserved : goal.loop-left-preserved
loop-left-preserved c =
    let s = c.args in
    scan-next s.s0 (scan-skip c.args.s0 c.loop-left.invariant c.lowest-skip.ensures) c.lowest-skip.ensures.here (subst (λ (v : ℕ). 2 ≤ get_or s.self.now.fin.now v 0) c.head_of.ensures.0 c.if-fin-head_of-lt2.false)

pub returns : goal.returns
returns c = scan-ends c.args.s0 c.loop-left.invariant c.loop-left-test.false
