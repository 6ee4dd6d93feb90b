-- The network of a job: its spots are the nodes, each with eight darts. Its fields, and its paths, sets and starts, in the map's own words. Assumes
-- nothing.
pub mod NearSides
pub mod Routes
pub mod Flows
pub mod Moves
pub mod Pushed
pub mod InOut
pub mod Agree
pub mod FeasibleBytes
pub mod Loops
pub mod Least
use Rattle.std.specs.Prelude.{◌≡◌, Bool, List, ◌∷◌, ℕ, ◌/◌, ◌<◌, T}
use Rattle.std.proofs.Math.Path.{refl}
use Rattle.std.proofs.Math.Dec.{not_T}
use Rattle.sums.specs.Counting.{sum}
use Rattle.flow.specs.Network.{Net, head, times, Path, along}
use Rattle.flow.specs.Flow.{Unstarted}
use Rattle.flow.specs.Cut.{Inside}
use Rattle.flow.specs.Residual.{Residual, Closed, Reach, move}
use Rattle.model.specs.Job.{Job}
use Rattle.channel.specs.Map.{spots, darts, rev, cap, free, want, outside}
use Rattle.channel.specs.Map.Back.{rev<, rev-rev}
use Rattle.channel.specs.Map.Numbers.{tail-spot}

pub net : Job → Net
net J =
    record {
      nodes = spots;
      darts = darts;
      tail = λ d. d / 8;
      rev = rev;
      tail< = tail-spot;
      rev< = rev<;
      rev-rev = rev-rev;
      cap = cap J;
      free = free J;
      want = want J;
      outside = outside J;
    }

module _ (J : Job) where
  -- ---- fields

  pub net-nodes : (net J).nodes ≡ spots
  unfolding net
  net-nodes = refl

  pub net-darts : (net J).darts ≡ darts
  unfolding net
  net-darts = refl

  pub net-tail : (d : ℕ) → (net J).tail d ≡ d / 8
  unfolding net
  net-tail d = refl

  pub net-rev : (net J).rev ≡ rev
  unfolding net
  net-rev = refl

  pub net-head : (d : ℕ) → head (net J) d ≡ rev d / 8
  unfolding net
  net-head d = refl

  pub net-cap : (net J).cap ≡ cap J
  unfolding net
  net-cap = refl

  pub net-free : (net J).free ≡ free J
  unfolding net
  net-free = refl

  pub net-want : (net J).want ≡ want J
  unfolding net
  net-want = refl

  pub net-outside : (net J).outside ≡ outside J
  unfolding net
  net-outside = refl

  pub node-spot : {u : ℕ} → u < (net J).nodes → u < spots
  unfolding net
  node-spot l = l

  pub net-dart : {d : ℕ} → d < (net J).darts → d < darts
  unfolding net
  net-dart l = l

  pub dart-net : {d : ℕ} → d < darts → d < (net J).darts
  unfolding net
  dart-net l = l

  pub sum-nodes : (s : ℕ → ℕ) → sum (net J).nodes s ≡ sum spots s
  unfolding net
  sum-nodes s = refl

  -- ---- starts

  pub unstarted-at : {s : ℕ → ℕ} {u : ℕ} → u < spots → s u < want J u → Unstarted (net J) s u
  unfolding net
  unstarted-at l h = record { node = l; short = h }

  pub unstarted-spot : {s : ℕ → ℕ} {u : ℕ} → Unstarted (net J) s u → (u < spots) × (s u < want J u)
  unfolding net
  unstarted-spot h = (h.node, h.short)

  -- ---- paths

  pub path-along : {P : ℕ → Type 0} {d u v : ℕ} {ds : List ℕ} → d < darts → d / 8 ≡ u → P d → times ds d ≡ 0 → Path (net J) P ds (rev d / 8) v
      → Path (net J) P (d ∷ ds) u v
  unfolding net
  path-along l e p n r = along l e p n r

  -- ---- sets

  pub inside-net : (S : ℕ → Bool) → ((u : ℕ) → u < spots → T (S u) → T (outside J u) → ⊥) → Inside (net J) S
  unfolding net
  inside-net S h u l t = not_T (outside J u) (h u l t)

  pub closed-move : {f : ℕ → ℕ} {S : ℕ → Bool} → Closed (net J) f S → (d : ℕ) → d < darts → T (S (d / 8)) → Residual (net J) f d → T (S (rev d / 8))
  unfolding net
  closed-move c d l t r = c.moves d l t r

  pub reach-move : {f : ℕ → ℕ} {A : ℕ → Type 0} {d u v : ℕ} → Reach (net J) f A u → d < darts → d / 8 ≡ u → Residual (net J) f d → rev d / 8 ≡ v
      → Reach (net J) f A v
  unfolding net
  reach-move r l e m q = move r l e m q
