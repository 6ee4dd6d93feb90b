-- Loads within the limits: no dart carries more than it takes, no node starts more than is wanted there, and each node inside is balanced. A flow is
-- such a load that never loads both a dart and its reverse. Assumes nothing.
use Rattle.std.specs.Prelude.{◌≡◌, not, ℕ, ◌≤◌, ◌<◌, min, T}
use Rattle.std.proofs.Common.{arith}
use Rattle.flow.specs.Network.{Net}
use Rattle.flow.specs.Balance.{back, Balanced, balanced-cong}

module _ (G : Net) where
  -- g loads the darts, and s is what starts at each node
  pub record Load (g s : ℕ → ℕ) : Type 0 where
    pub within : (d : ℕ) → d < G.darts → T (not (G.free d)) → g d ≤ G.cap d
    pub wanted : (u : ℕ) → u < G.nodes → s u ≤ G.want u
    pub balanced : Balanced G g s

  -- no dart is loaded both ways
  abbrev pub Apart : (ℕ → ℕ) → Type 0
  Apart f = (d : ℕ) → d < G.darts → min (f d) (back G f d) ≡ 0

  pub record Flow (f s : ℕ → ℕ) : Type 0 where
    pub load : Load f s
    pub apart : Apart f

  -- more is wanted at the node u than starts there
  pub record Unstarted (s : ℕ → ℕ) (u : ℕ) : Type 0 where
    pub node : u < G.nodes
    pub short : s u < G.want u

-- a load that agrees with a flow on every dart is that flow
pub flow-cong : {G : Net} {f g s : ℕ → ℕ} → ((d : ℕ) → d < G.darts → g d ≡ f d) → Flow G f s → Flow G g s
flow-cong {G} {f} {g} {s} e F =
    record {
      load = record {
        within = λ d l t. omega (arith, e d l, F.load.within d l t);
        wanted = F.load.wanted;
        balanced = balanced-cong G g f s e F.load.balanced;
      };
      apart = λ d l. omega (arith, e d l, e (G.rev d) (G.rev< d l), F.apart d l);
    }
