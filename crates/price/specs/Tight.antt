-- Tight moves: residual moves for which the prices say exactly what they cost. A priced flow that is pushed along tight moves keeps its prices: a dart that
-- becomes residual is the reverse of a tight one. The prices of the empty load are those that no dart with room undercuts. Assumes nothing.
use Rattle.std.specs.Prelude.{◌≡◌, ◌⊎◌, ℕ, ◌+◌, ◌*◌, ◌≤◌, ◌<◌}
use Rattle.std.proofs.Common.{ap, inl, inr, eq-zero-or-pos, arith}
use mathlib.Core.List.{List, Memᴰ}
use Rattle.sums.specs.Sums.{sum-none}
use Rattle.flow.specs.Network.{Net, head, times, times-has}
use Rattle.flow.specs.Balance.{back, balanced-none}
use Rattle.flow.specs.Flow.{Load}
use Rattle.flow.specs.Push.{push}
use Rattle.price.specs.Cost.{cost, cost-none}
use Rattle.price.specs.Moves.{Open, Grounded, Tight, takes, adds}
use Rattle.price.specs.Priced.{Priced, worth, priced-le}

-- Pushing darts once each along tight moves keeps the prices.
pub tight-push : {G : Net} {c f π : ℕ → ℕ} (ds : List ℕ) → Priced G c f π → ((d : ℕ) → times ds d ≤ 1)
    → ((d : ℕ) → Memᴰ d ds → Tight G c f π d) → Priced G c (push G f ds) π
tight-push {G} {c} {f} {π} ds P one tight =
    record {
      adding = λ d l o. added d l o (eq-zero-or-pos (times ds (G.rev d))) (eq-zero-or-pos (back G f d));
      taking = λ d l h. taken d l h (eq-zero-or-pos (back G f d));
      grounded = P.grounded;
    }
  where
    -- what a tight reverse says of a dart
    reversed : (d : ℕ) → d < G.darts → Tight G c f π (G.rev d) → π (G.tail d) ≤ π (head G d) + c d
    reversed d l (takes h e) = omega (arith, ap c (G.rev-rev d l), ap (λ (x : ℕ). π (G.tail x)) (G.rev-rev d l))
    reversed d l (adds z o e) = omega (arith, ap (λ (x : ℕ). π (G.tail x)) (G.rev-rev d l))

    added : (d : ℕ) → d < G.darts → Open G (push G f ds) d → (times ds (G.rev d) ≡ 0) ⊎ (0 < times ds (G.rev d)) → (back G f d ≡ 0) ⊎ (0 < back G f d)
        → π (G.tail d) ≤ π (head G d) + c d
    added d l (inl h) (inl z) (inl e) = P.adding d l (inl (omega arith))
    added d l (inl h) (inl z) (inr p) = omega (arith, P.taking d l p)
    added d l (inl h) (inr m) q = reversed d l (tight (G.rev d) (times-has ds (G.rev d) m))
    added d l (inr t) m q = P.adding d l (inr t)

    -- the reverse of a dart, loaded by the push
    filled : (d : ℕ) → d < G.darts → f d ≡ 0 → Tight G c f π (G.rev d) → π (G.tail d) + c (G.rev d) ≤ π (head G d)
    filled d l z (takes h e) = absurd (omega (arith, ap f (G.rev-rev d l)))
    filled d l z (adds y o e) = omega (arith, ap (λ (x : ℕ). π (G.tail x)) (G.rev-rev d l))

    taken : (d : ℕ) → d < G.darts → 0 < back G (push G f ds) d → (back G f d ≡ 0) ⊎ (0 < back G f d) → π (G.tail d) + c (G.rev d) ≤ π (head G d)
    taken d l h (inr p) = P.taking d l p
    taken d l h (inl z) =
        filled d l (omega (arith, ap f (G.rev-rev d l), one (G.rev d)))
        (tight (G.rev d) (times-has ds (G.rev d) (omega (arith, ap f (G.rev-rev d l)))))

pub none-priced : {G : Net} {c π : ℕ → ℕ} → Grounded G π → ((d : ℕ) → d < G.darts → Open G (λ d. 0) d → π (G.tail d) ≤ π (head G d) + c d)
    → Priced G c (λ d. 0) π
none-priced z h = record { adding = h; taking = λ d l k. absurd (omega arith); grounded = z }

-- No load within the limits costs less than such prices say of what starts.
pub none-worth : {G : Net} {c π g t : ℕ → ℕ} → Priced G c (λ d. 0) π → Load G g t → worth G π t ≤ cost G c g
unfolding worth
none-worth {G} {c} {π} P L =
    omega (
      arith,
      priced-le P (record { within = λ d l f. omega arith; wanted = λ u l. omega arith; balanced = balanced-none G }) L,
      cost-none G c,
      sum-none G.nodes (λ u. π u * 0) (λ u l. omega arith),
    )
