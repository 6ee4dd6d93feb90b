-- Residual moves with what they cost. A move along a dart takes a unit back from the reverse, if that is loaded, and gives back what the reverse costs; else it
-- adds a unit to the dart, if that has room, and costs what the dart costs. Prices are compared along a move without subtraction: what the move costs stands
-- beside the price of its head, what it gives back beside the price of its tail. Assumes nothing.
use Rattle.std.specs.Prelude.{◌≡◌, ◌⊎◌, ℕ, ◌+◌, ◌<◌, T}
use Rattle.std.proofs.Common.{inl, inr}
use Rattle.flow.specs.Network.{Net, head}
use Rattle.flow.specs.Balance.{back}
use Rattle.flow.specs.Residual.{Residual, undo, room, unlimited}

module _ (G : Net) where
  -- the dart takes one unit more
  abbrev pub Open : (ℕ → ℕ) → ℕ → Type 0
  Open f d = (f d < G.cap d) ⊎ T (G.free d)

  -- nodes outside have the price 0
  abbrev pub Grounded : (ℕ → ℕ) → Type 0
  Grounded π = (u : ℕ) → u < G.nodes → T (G.outside u) → π u ≡ 0

  -- a residual move along d, and the price of its tail is what the move and the price of its head cost together
  pub data Tight (c f π : ℕ → ℕ) (d : ℕ) : Type 0 where
    takes : 0 < back G f d → π (head G d) ≡ π (G.tail d) + c (G.rev d) → Tight c f π d
    adds : back G f d ≡ 0 → Open f d → π (head G d) + c d ≡ π (G.tail d) → Tight c f π d

open-residual : {G : Net} {f : ℕ → ℕ} {d : ℕ} → Open G f d → Residual G f d
open-residual (inl h) = room h
open-residual (inr t) = unlimited t

pub tight-residual : {G : Net} {c f π : ℕ → ℕ} {d : ℕ} → Tight G c f π d → Residual G f d
tight-residual (takes h r) = undo h
tight-residual (adds z o r) = open-residual o
