-- The numbers of an array line that may stand, or be written, are small: no more than 40 rows and columns, and each of the five below 100. Assumes nothing.
use mathlib.Core.Bool.{◌&&◌}
use Prim.Native.Nat.{ℕ, ◌*◌, ◌≤◌}
use native.Mathlib.Omega.{arith}
use lib.Dec.{T, leb, leb→le}
use Rattle.sums.specs.Tests.{and_left, and_right}
use Rattle.model.specs.Job.{in_range, array_fits, caps_fit}
use Rattle.line.specs.Lines.{Below100}

range_small : (least most n : ℕ) → T (in_range least most n) → n ≤ most
range_small least most n t = leb→le n most (and_right (leb least n) (leb n most) t)

pub array-small : (a b : ℕ) → T (array_fits a b) → (a ≤ 40) × (b ≤ 40)
array-small a b t = (range_small 2 40 a (and_left (in_range 2 40 a) (in_range 2 40 b) t), range_small 2 40 b (and_right (in_range 2 40 a) (in_range 2 40 b) t))

pub five-small : (a b o d e : ℕ) → T (array_fits a b) → T (caps_fit o d e) → Below100 a b o d e
five-small a b o d e s t =
    let (x, y) = array-small a b s in
    let z : T (in_range o (2 * o) d && in_range 0 16 e) = and_right (in_range 1 8 o) (in_range o (2 * o) d && in_range 0 16 e) t in
    let u : o ≤ 8 = range_small 1 8 o (and_left (in_range 1 8 o) (in_range o (2 * o) d && in_range 0 16 e) t) in
    let v : d ≤ 2 * o = range_small o (2 * o) d (and_left (in_range o (2 * o) d) (in_range 0 16 e) z) in
    let w : e ≤ 16 = range_small 0 16 e (and_right (in_range o (2 * o) d) (in_range 0 16 e) z) in
    record { rows = omega arith; columns = omega arith; O = omega arith; D = omega arith; E = omega arith }
