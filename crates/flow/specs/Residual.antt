-- Residual moves: along a dart a flow can be changed by one unit, by taking a unit back from its reverse or by one more of its own. A set is closed if
-- no residual move leads out of it; what is reached from a set by residual moves is closed, and lies in every closed set that holds it. Assumes nothing.
use Rattle.std.specs.Prelude.{◌≡◌, refl, ◌↔◌, Bool, ℕ, ◌<◌, T}
use Rattle.std.proofs.Common.{sym, subst}
use Rattle.flow.specs.Network.{Net, head, head<}
use Rattle.flow.specs.Balance.{back}

module _ (G : Net) (f : ℕ → ℕ) where
  pub data Residual (d : ℕ) : Type 0 where
    undo : 0 < back G f d → Residual d
    room : f d < G.cap d → Residual d
    unlimited : T (G.free d) → Residual d

  -- no residual move leads out of S
  pub record Closed (S : ℕ → Bool) : Type 0 where
    pub moves : (d : ℕ) → d < G.darts → T (S (G.tail d)) → Residual d → T (S (head G d))

  -- what residual moves reach from the nodes of A
  pub data Reach (A : ℕ → Type 0) : ℕ → Type 0 where
    begin : {u : ℕ} → A u → Reach A u
    move : {d u v : ℕ} → Reach A u → d < G.darts → G.tail d ≡ u → Residual d → head G d ≡ v → Reach A v

-- What is reachable is closed under residual moves.
pub reach-closed : {G : Net} {f : ℕ → ℕ} {A : ℕ → Type 0} {S : ℕ → Bool} → ((u : ℕ) → u < G.nodes → T (S u) ↔ Reach G f A u) → Closed G f S
reach-closed {G} e =
    record { moves = λ d l t r. (e (head G d) (head< G d l)).1 (move ((e (G.tail d) (G.tail< d l)).0 t) l refl r refl) }

-- What is reachable lies in every closed set that holds where it begins.
pub reach-inside : {G : Net} {f : ℕ → ℕ} {A : ℕ → Type 0} {S : ℕ → Bool} {u : ℕ} → Closed G f S → ((v : ℕ) → A v → T (S v)) → Reach G f A u → T (S u)
reach-inside c h (begin {u = u} a) = h u a
reach-inside {S = S} c h (move {d = d} p l e r q) =
    subst (λ (x : ℕ). T (S x)) q (c.moves d l (subst (λ (x : ℕ). T (S x)) (sym e) (reach-inside c h p)) r)
