-- `fill::clear` meets its contract: the marks passed are 0. Assumes nothing.
use Prim.Native.Nat.{ℕ, ◌≤◌}
use mathlib.Core.Path.{◌≡◌}
use mathlib.Core.List.{List}
use native.Mathlib.Omega.{arith}
use lib.ListN.{length, take, get_or-append}
use Rattle.channel.specs.Map.{spots}
use Rattle.channel.specs.Map.Numbers.{spots-is}
use Rattle.std.proofs.lemmas.List.{length-take-le}
use Rattle.search.proofs.fill.clear.Goals as goal

first-marks : (n : ℕ) (fin : List ℕ) → n ≡ spots → spots ≤ length fin → length (take n fin) ≡ n
first-marks n fin e l = length-take-le n fin (omega arith)

pub slice_bounds-mark-items-end : goal.slice_bounds-mark-items-end
slice_bounds-mark-items-end c = omega (arith, spots-is)

pub slice_bounds-mark-items-end-2 : goal.slice_bounds-mark-items-end-2
slice_bounds-mark-items-end-2 c = omega (arith, first-marks 13128 c.args.marks.now (omega (arith, spots-is)) c.requires)

pub returns : goal.returns
returns c =
    let e = first-marks 13128 c.args.marks.now (omega (arith, spots-is)) c.requires in
    record {
      all = λ u l.
          rw (get_or-append c.loop-mark.mark-items _ 0 u (omega (arith, spots-is, c.loop-mark.auto.mark-items, e)))
          (c.loop-mark.invariant u (omega (arith, spots-is, c.loop-mark-test.false, e)));
    }
