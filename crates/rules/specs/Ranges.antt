-- The ranges of measures, as inequalities. Assumes nothing.
use Rattle.std.specs.Prelude.{ℕ, ◌≤◌, T, leb}
use Rattle.std.proofs.Common.{leb→le}
use Rattle.sums.specs.Tests.{and_left, and_right}
use Rattle.model.specs.Job.{in_range}
use Rattle.rules.specs.Rules.{measured}

pub record Ranges (p d w s : ℕ) : Type 0 where
  pub pitch : (1 ≤ p) × (p ≤ 100000)
  pub pad : (1 ≤ d) × (d ≤ 100000)
  pub wire : (1 ≤ w) × (w ≤ 100000)
  pub spacing : (1 ≤ s) × (s ≤ 100000)

in-range : (n : ℕ) → T (in_range 1 100000 n) → (1 ≤ n) × (n ≤ 100000)
in-range n t = (leb→le 1 n (and_left (leb 1 n) (leb n 100000) t), leb→le n 100000 (and_right (leb 1 n) (leb n 100000) t))

pub ranges : (p d w s : ℕ) → T (measured p d w s) → Ranges p d w s
ranges p d w s t =
    let u = and_right (in_range 1 100000 p) _ t in
    let v = and_right (in_range 1 100000 d) _ u in
    record {
      pitch = in-range p (and_left (in_range 1 100000 p) _ t);
      pad = in-range d (and_left (in_range 1 100000 d) _ u);
      wire = in-range w (and_left (in_range 1 100000 w) (in_range 1 100000 s) v);
      spacing = in-range s (and_right (in_range 1 100000 w) (in_range 1 100000 s) v);
    }
