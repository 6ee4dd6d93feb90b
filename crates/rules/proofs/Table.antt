-- Document 02, K1: one theorem over the rows of measures, by one computed test. Assumes nothing.
use mathlib.Core.Path.{◌≡◌}
use mathlib.Core.Bool.{Bool, true, false, not, ◌&&◌, ◌||◌}
use mathlib.Core.List.{Memᴰ}
use Prim.Native.Nat.{ℕ, ◌+◌, ◌-◌, ◌*◌, ◌/◌, ◌%◌, min, ◌<◌}
use native.Mathlib.Omega.{arith}
use lib.Dec.{T, eqb, leb, ltb, eqb→eq, leb→le, ltb→lt}
use Rattle.sums.specs.Tests.{and_left, and_right, or-by, every, every-at}
use Rattle.model.specs.Job.{in_range}
use Rattle.rules.specs.declared.Figures.{Figures}
use Rattle.std.specs.Prelude.{Ok, Err}
use Rattle.rules.specs.declared.Refusal.TheVariants.{OutOfRange, NoCapacity}
use Rattle.rules.specs.Rules.{Answer, across, measured, Given, Answered, beyond, under, outside, given}
use Rattle.rules.specs.Ranges.{ranges}
use Rattle.rules.specs.Examples.{Row, rows}
use Rattle.rules.proofs.Quotient.{divided}
use Rattle.rules.proofs.Across.{largest_step}
use Rattle.rules.proofs.Unique.{answered-once}

not_so : (b : Bool) → T (not b) → T b → ⊥
not_so true n t = n
not_so false n t = t

module _ (p d w s : ℕ) where
  abbrev square : ℕ → ℕ
  square k = across d w s k * across d w s k

  -- the five numbers, each by its own law
  fits : Figures → Bool
  fits f =
      eqb (f.orthogonal * (w + s) + f.remainder) (p - d - s)
      && (ltb f.remainder (w + s)
      && (leb (square f.count) (2 * p * p)
      && (ltb (2 * p * p) (square (f.count + 1))
      && (eqb (square f.count + f.left) (2 * p * p)
      && eqb f.diagonal (min f.count (2 * f.orthogonal))))))

  fits-given : (f : Figures) → T (fits f) → Given p d w s f
  unfolding fits
  fits-given f t =
      let O : ℕ = f.orthogonal in
      let k : ℕ = f.count in
      let a1 = and_right (eqb (O * (w + s) + f.remainder) (p - d - s)) _ t in
      let a2 = and_right (ltb f.remainder (w + s)) _ a1 in
      let a3 = and_right (leb (square k) (2 * p * p)) _ a2 in
      let a4 = and_right (ltb (2 * p * p) (square (k + 1))) _ a3 in
      let n : 2 * p * p < square (k + 1) = ltb→lt _ _ (and_left (ltb (2 * p * p) (square (k + 1))) _ a3) in
      record {
        orthogonal = record {
          whole = eqb→eq _ _ (and_left (eqb (O * (w + s) + f.remainder) (p - d - s)) _ t);
          below = ltb→lt _ _ (and_left (ltb f.remainder (w + s)) _ a1);
        };
        count = largest_step p d w s k (leb→le _ _ (and_left (leb (square k) (2 * p * p)) _ a2)) (λ h. omega (arith, n));
        left = eqb→eq _ _ (and_left (eqb (square k + f.left) (2 * p * p)) _ a4);
        diagonal = eqb→eq _ _ (and_right (eqb (square k + f.left) (2 * p * p)) _ a4);
      }

  holds : Answer → Bool
  holds (Err OutOfRange) = not (measured p d w s)
  holds (Err NoCapacity) = measured p d w s && (ltb p (d + s) || (leb (d + s) p && not (in_range 1 8 ((p - d - s) / (w + s)))))
  holds (Ok f) = measured p d w s && (leb (d + s) p && (in_range 1 8 f.orthogonal && fits f))

  holds-answered : (a : Answer) → T (holds a) → Answered p d w s a
  unfolding holds
  holds-answered (Err OutOfRange) t = beyond (not_so (measured p d w s) t)
  holds-answered (Err NoCapacity) t =
      let m = and_left (measured p d w s) _ t in
      or-by (ltb p (d + s)) _ (λ u. under m (ltb→lt p (d + s) u))
      (λ u. outside ((p - d - s) / (w + s)) ((p - d - s) % (w + s)) m (leb→le (d + s) p (and_left (leb (d + s) p) _ u))
      (divided (p - d - s) (w + s) (positive m)) (not_so (in_range 1 8 ((p - d - s) / (w + s))) (and_right (leb (d + s) p) _ u)))
      (and_right (measured p d w s) _ t)
    where
      positive : T (measured p d w s) → 0 < w + s
      positive m = omega (arith, ranges p d w s m)
  holds-answered (Ok f) t =
      let u = and_right (measured p d w s) _ t in
      let v = and_right (leb (d + s) p) _ u in
      given f (and_left (measured p d w s) _ t) (leb→le (d + s) p (and_left (leb (d + s) p) _ u)) (and_left (in_range 1 8 f.orthogonal) (fits f) v)
      (fits-given f (and_right (in_range 1 8 f.orthogonal) (fits f) v))

pub rows-hold : (x : Row) → Memᴰ x rows → Answered x.p x.d x.w x.s x.answer
unfolding every holds fits
rows-hold x m =
    holds-answered x.p x.d x.w x.s x.answer (every-at rows (λ y. holds y.p y.d y.w y.s y.answer) tt m)

-- so no call gives another answer
pub rows-only : (x : Row) → Memᴰ x rows → (a : Answer) → Answered x.p x.d x.w x.s a → a ≡ x.answer
rows-only x m a h = answered-once x.p x.d x.w x.s h (rows-hold x m)
