-- `unused::is_clear` meets its contract. The loop's invariant: the answer is that for the bytes passed. Assumes nothing.
use mathlib.Core.Path.{◌≡◌, ◌∙◌}
use Prim.Native.Nat.{◌+◌, ◌-◌}
use lib.ListN.{length, take, drop, get_or}
use native.Mathlib.Omega.{arith}
use Rattle.std.proofs.lemmas.List.{get_or-take, get_or-drop}
use Rattle.cell.specs.Unused.{clear_none, clear-more}
use Rattle.cell.proofs.unused.is_clear.Goals as goal

pub loop-b-init : goal.loop-b-init
loop-b-init c = clear_none _ _

pub loop-b-preserved : goal.loop-b-preserved
loop-b-preserved c =
    let l = c.loop-b in
    let rec = c.args.rec.now in
    let n = c.args.start + c.args.n - c.args.start in
    let e : get_or (take n (drop c.args.start rec)) l.b-index 0 ≡ get_or rec (c.args.start + l.b-index) 0 =
    get_or-take n (drop c.args.start rec) l.b-index 0 (omega arith) ∙ get_or-drop c.args.start rec l.b-index 0 in
    rw (l.invariant, e) (clear-more _ _ l.b-index)
