-- Two loads with the same starts, one of them nowhere more than the other: what they differ by goes round in circles of loaded darts, which the prices of
-- the greater one let cost nothing. So these are prices of the smaller one too. Assumes nothing.
use Rattle.std.specs.Prelude.{◌≡◌, ◌⊎◌, ℕ, ◌+◌, ◌-◌, ◌*◌, ◌≤◌, ◌<◌}
use Rattle.std.proofs.Math.Path.{ap}
use Rattle.std.proofs.Common.{◌∙◌, inl, inr, eq-zero-or-pos}
use Rattle.std.proofs.Math.Nat.{eq_of_mul-eq-mul_right, mul-le-mul_right, add-mul}
use native.Mathlib.Omega.{arith}
use Rattle.sums.specs.Counting.{sum}
use Rattle.sums.specs.Sums.{sum-cong, sum-add, sum-tight}
use Rattle.flow.specs.Network.{Net, head}
use Rattle.flow.specs.Flow.{Load}
use Rattle.price.specs.Moves.{Open}
use Rattle.price.specs.Priced.{Priced, worth, price-law, loaded-most}

module _ {G : Net} {c f g s t π : ℕ → ℕ} (F : Load G f s) (L : Load G g t) (same : (u : ℕ) → u < G.nodes → s u ≡ t u)
    (less : (d : ℕ) → d < G.darts → f d ≤ g d) (P : Priced G c g π) where
  -- what they differ by
  circles : ℕ → ℕ
  circles d = g d - f d

  -- a number of each dart, times what the loads carry
  weigh : (ℕ → ℕ) → (ℕ → ℕ) → ℕ
  weigh k h = sum G.darts (λ d. k d * h d)

  weigh-circles : (k : ℕ → ℕ) → weigh k g ≡ weigh k f + weigh k circles
  unfolding weigh circles
  weigh-circles k =
      sum-cong G.darts _ _ (λ d l. let e : g d ≡ f d + (g d - f d) = omega (arith, less d l) in omega (arith, ap (λ (x : ℕ). k d * x) e))
      ∙ sum-add G.darts (λ d. k d * f d) (λ d. k d * (g d - f d))

  dart-most : (d : ℕ) → d < G.darts → (c d + π (head G d)) * circles d ≤ π (G.tail d) * circles d
  unfolding circles
  dart-most d l = by (eq-zero-or-pos (g d - f d))
    where
      by : (g d - f d ≡ 0) ⊎ (0 < g d - f d) → (c d + π (head G d)) * (g d - f d) ≤ π (G.tail d) * (g d - f d)
      by (inl z) = rw z (omega arith)
      by (inr h) = mul-le-mul_right (g d - f d) (loaded-most P d l (omega arith))

  -- the prices of tails and heads come to the same in circles
  circles-level : weigh (λ d. π (G.tail d)) circles ≡ weigh (λ d. π (head G d)) circles
  unfolding weigh worth
  circles-level =
      omega (
        arith,
        price-law G π f s P.grounded F.balanced,
        price-law G π g t P.grounded L.balanced,
        sum-cong G.nodes (λ u. π u * s u) (λ u. π u * t u) (λ u l. ap (λ (x : ℕ). π u * x) (same u l)),
        weigh-circles (λ d. π (G.tail d)),
        weigh-circles (λ d. π (head G d)),
      )

  weigh-both : weigh (λ d. c d + π (head G d)) circles ≡ weigh c circles + weigh (λ d. π (head G d)) circles
  unfolding weigh
  weigh-both =
      sum-cong G.darts _ _ (λ d l. add-mul (c d) (π (head G d)) (circles d))
      ∙ sum-add G.darts (λ d. c d * circles d) (λ d. π (head G d) * circles d)

  -- a dart on which they differ costs what the prices say
  circle-tight : (d : ℕ) → d < G.darts → (c d + π (head G d)) * circles d ≡ π (G.tail d) * circles d
  unfolding weigh
  circle-tight =
      sum-tight G.darts (λ d. (c d + π (head G d)) * circles d) (λ d. π (G.tail d) * circles d) dart-most (omega (arith, circles-level, weigh-both))

  -- where they do not differ, the greater one has the room of the smaller one
  opens : (d : ℕ) → d < G.darts → g d - f d ≡ 0 → Open G f d → Open G g d
  opens d l z (inl h) = inl (omega (arith, less d l))
  opens d l z (inr t) = inr t

  -- The prices of the greater load are prices of the smaller one.
  pub less-priced : Priced G c f π
  unfolding circles
  less-priced =
      record {
        adding = λ d l o. added d l o (eq-zero-or-pos (g d - f d)) (circle-tight d l);
        taking = λ d l h. P.taking d l (omega (arith, less (G.rev d) (G.rev< d l)));
        grounded = P.grounded;
      }
    where
      added : (d : ℕ) → d < G.darts → Open G f d → (g d - f d ≡ 0) ⊎ (0 < g d - f d)
          → (c d + π (head G d)) * (g d - f d) ≡ π (G.tail d) * (g d - f d) → π (G.tail d) ≤ π (head G d) + c d
      added d l o (inl z) e = P.adding d l (opens d l z o)
      added d l o (inr h) e = omega (arith, eq_of_mul-eq-mul_right (g d - f d) h (c d + π (head G d)) (π (G.tail d)) e)
