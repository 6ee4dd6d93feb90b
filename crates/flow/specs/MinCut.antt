-- A flow and a near side meet. A closed set without a node outside, which holds every node at which more is wanted than starts, is a near side whose sum
-- is what the flow starts; and a near side with that sum is closed and holds those nodes, so that it holds all that is reachable from them. Assumes
-- nothing.
use Rattle.std.specs.Prelude.{◌≡◌, refl, Bool, true, false, not, ◌&&◌, ℕ, ◌≤◌, ◌<◌, T}
use Rattle.std.proofs.Common.{arith, T_not}
use Rattle.std.proofs.Math.Dec.{not_T}
use Rattle.sums.specs.Counting.{when, sum}
use Rattle.sums.specs.Sums.{when-cong, when-none, sum-cong, sum-none, sum-part}
use Rattle.flow.specs.Network.{Net, head}
use Rattle.flow.specs.Balance.{back}
use Rattle.flow.specs.Flow.{Flow, Unstarted}
use Rattle.flow.specs.Cut.{leaves, Inside, Near, cut, cut-law, tight-full, tight-empty, tight-started}
use Rattle.flow.specs.Residual.{Residual, undo, room, unlimited, Closed, Reach, reach-inside}

-- ---- from a closed set to its sum

-- a dart along which there is no residual move
record Stuck (G : Net) (f : ℕ → ℕ) (d : ℕ) : Type 0 where
  empty : back G f d ≡ 0
  full : G.cap d ≤ f d
  limited : T (not (G.free d))

module _ {G : Net} {f : ℕ → ℕ} where
  stuck : (d : ℕ) → ¬ Residual G f d → Stuck G f d
  stuck d n =
      let e : ¬ (0 < back G f d) = λ h. n (undo h) in
      let r : ¬ (f d < G.cap d) = λ h. n (room h) in
      record { empty = omega arith; full = omega arith; limited = not_T (G.free d) (λ t. n (unlimited t)) }

  leaves-stuck : {S : ℕ → Bool} → Closed G f S → (d : ℕ) → d < G.darts → T (leaves G S d) → Stuck G f d
  leaves-stuck {S} c d l t = go (S (G.tail d)) (S (head G d)) (c.moves d l) t
    where
      go : (a b : Bool) → (T a → Residual G f d → T b) → T (a && not b) → Stuck G f d
      go true true c t = absurd t
      go true false c t = stuck d (c tt)
      go false b c t = absurd t

  pub closed-near : {S : ℕ → Bool} → Closed G f S → Inside G S → Near G S
  closed-near c i = record { inside = i; limited = λ d l t. (leaves-stuck c d l t).limited }

-- A set closed under the residual moves of a flow, which has no node outside and holds every unstarted wanted node, has a sum equal to what the flow
-- starts.
pub closed-cut : {G : Net} {f s : ℕ → ℕ} {S : ℕ → Bool} → Flow G f s → Closed G f S → Inside G S → ((u : ℕ) → Unstarted G s u → T (S u))
    → sum G.nodes s ≡ cut G S
closed-cut {G} {f} {s} {S} F c i h =
    omega (
      arith,
      cut-law G S f s i F.load.balanced,
      sum-part G.nodes S s,
      sum-none G.darts (λ d. when (leaves G S d) (back G f d)) (λ d l. when-none (leaves G S d) (back G f d) (λ t. (leaves-stuck c d l t).empty)),
      sum-cong G.darts (λ d. when (leaves G S d) (f d)) (λ d. when (leaves G S d) (G.cap d))
          (λ d l. when-cong (leaves G S d) (f d) (G.cap d) (λ t. full d l (leaves-stuck c d l t))),
      sum-cong G.nodes (λ u. when (not (S u)) (s u)) (λ u. when (not (S u)) (G.want u)) started,
    )
  where
    full : (d : ℕ) → d < G.darts → Stuck G f d → f d ≡ G.cap d
    full d l k = omega (arith, F.load.within d l k.limited)

    started : (u : ℕ) → u < G.nodes → when (not (S u)) (s u) ≡ when (not (S u)) (G.want u)
    started u l = go (S u) (λ k. h u (record { node = l; short = k }))
      where
        go : (a : Bool) → (s u < G.want u → T a) → when (not a) (s u) ≡ when (not a) (G.want u)
        go true k = refl
        go false k = let n : ¬ (s u < G.want u) = k in omega (arith, F.load.wanted u l)

-- ---- from a near side with that sum to a closed set

module _ {G : Net} {f s : ℕ → ℕ} {S : ℕ → Bool} (F : Flow G f s) (near : Near G S) (tight : cut G S ≤ sum G.nodes s) where
  pub tight-holds : {u : ℕ} → Unstarted G s u → T (S u)
  tight-holds {u} h = go (S u) (tight-started F.load near tight u h.node)
    where
      go : (a : Bool) → when (not a) (s u) ≡ when (not a) (G.want u) → T a
      go true e = tt
      go false e = omega (arith, h.short)

  pub tight-closed : Closed G f S
  tight-closed =
      record {
        moves = λ d l t r.
            go d (S (G.tail d)) (S (head G d)) t r (near.limited d l) (tight-full F.load near tight d l) (tight-empty F.load near tight d l);
      }
    where
      go : (d : ℕ) (a b : Bool) → T a → Residual G f d → (T (a && not b) → T (not (G.free d))) → when (a && not b) (f d) ≡ when (a && not b) (G.cap d)
          → 0 ≡ when (a && not b) (back G f d) → T b
      go d true true t r n e z = tt
      go d true false t (undo h) n e z = omega arith
      go d true false t (room h) n e z = omega arith
      go d true false t (unlimited h) n e z = absurd (T_not (G.free d) (n tt) h)
      go d false b t r n e z = absurd t

  -- Whatever is reachable from the unstarted wanted nodes lies inside every near side whose sum is what the flow starts.
  pub reach_near : {u : ℕ} → Reach G f (Unstarted G s) u → T (S u)
  reach_near = reach-inside tight-closed (λ v. tight-holds)
