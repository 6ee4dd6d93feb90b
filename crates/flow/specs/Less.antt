-- Two balanced loads with the same starts, one of them nowhere more than the other: what they differ by goes round in circles, so that a set closed under
-- the residual moves of the greater one has none of it coming in, and thus none going out; it is closed under those of the smaller one too. Assumes
-- nothing.
use Rattle.std.specs.Prelude.{◌≡◌, refl, ◌⊎◌, Bool, ◌&&◌, ℕ, ◌+◌, ◌-◌, ◌≤◌, ◌<◌}
use Rattle.std.proofs.Common.{inl, inr, eq-zero-or-pos}
use Rattle.std.proofs.Math.Bool.{true, false, not}
use native.Mathlib.Omega.{arith}
use Rattle.std.proofs.Math.Dec.{T}
use Rattle.sums.specs.Counting.{when}
use Rattle.sums.specs.Sums.{when-none, sum-none, sum-tight}
use Rattle.flow.specs.Network.{Net, head}
use Rattle.flow.specs.Balance.{back, out-add, out-cong, Balanced}
use Rattle.flow.specs.Cut.{leaves, Inside, cut-law}
use Rattle.flow.specs.Residual.{Residual, undo, room, unlimited, Closed}

module _ {G : Net} {f g s t : ℕ → ℕ} {S : ℕ → Bool} (bf : Balanced G f s) (bg : Balanced G g t) (same : (u : ℕ) → u < G.nodes → s u ≡ t u)
    (less : (d : ℕ) → d < G.darts → f d ≤ g d) (inside : Inside G S) (closed : Closed G g S) where
  -- what they differ by
  circles : ℕ → ℕ
  circles d = g d - f d

  circles-balanced : Balanced G circles (λ u. 0)
  unfolding circles
  circles-balanced u l i =
      omega (
        arith,
        bf u l i,
        bg u l i,
        same u l,
        out-add G f circles u,
        out-add G (back G f) (back G circles) u,
        out-cong G g (λ d. f d + circles d) (λ d k. omega (arith, less d k)) u,
        out-cong G (back G g) (λ d. back G f d + back G circles d) (λ d k. omega (arith, less (G.rev d) (G.rev< d k))) u,
      )

  none-comes : (d : ℕ) → d < G.darts → T (leaves G S d) → back G circles d ≡ 0
  unfolding circles
  none-comes d l t = go (S (G.tail d)) (S (head G d)) t (closed.moves d l) (eq-zero-or-pos (back G circles d))
    where
      go : (a b : Bool) → T (a && not b) → (T a → Residual G g d → T b) → (back G circles d ≡ 0) ⊎ (0 < back G circles d) → back G circles d ≡ 0
      go true true t c z = absurd t
      go true false t c (inl z) = z
      go true false t c (inr h) = absurd (c tt (undo (omega arith)))
      go false b t c z = absurd t

  none-goes : (d : ℕ) → d < G.darts → 0 ≡ when (leaves G S d) (circles d)
  none-goes =
      sum-tight G.darts (λ d. 0) (λ d. when (leaves G S d) (circles d)) (λ d l. omega arith)
      (omega (
        arith,
        cut-law G S circles (λ u. 0) inside circles-balanced,
        sum-none G.darts (λ d. when (leaves G S d) (back G circles d)) (λ d l. when-none (leaves G S d) (back G circles d) (none-comes d l)),
        sum-none G.nodes (λ u. when (S u) 0) (λ u l. when-none (S u) 0 (λ t. refl)),
      ))

  pub less-closed : Closed G f S
  unfolding circles
  less-closed = record { moves = λ d l t r. by d l t r (eq-zero-or-pos (circles d)) }
    where
      stays : (d : ℕ) (a b : Bool) → T a → 0 ≡ when (a && not b) (circles d) → 0 < circles d → T b
      stays d true true t z h = tt
      stays d true false t z h = absurd (omega arith)
      stays d false b t z h = absurd t

      by : (d : ℕ) → d < G.darts → T (S (G.tail d)) → Residual G f d → (circles d ≡ 0) ⊎ (0 < circles d) → T (S (head G d))
      by d l t (undo h) z = closed.moves d l t (undo (omega (arith, less (G.rev d) (G.rev< d l))))
      by d l t (unlimited h) z = closed.moves d l t (unlimited h)
      by d l t (room h) (inl z) = closed.moves d l t (room (omega (arith, less d l)))
      by d l t (room h) (inr z) = stays d (S (G.tail d)) (S (head G d)) t (none-goes d l) z
