-- Cancelling: a closed path of loaded darts is a balanced load without starts, so that taking one unit off each of its darts leaves a flow with the same
-- starts and a smaller total. It is a push along the reverses. Assumes nothing.
use Rattle.std.specs.Prelude.{◌≡◌, refl, Bool, ◌⊎◌, List, map, ℕ, ◌+◌, ◌-◌, ◌≤◌, ◌<◌, min, eqb, length}
use Rattle.std.proofs.Common.{sym, ap, inl, inr, eq-zero-or-pos, arith}
use Rattle.sums.specs.Counting.{when, sum, total}
use Rattle.sums.specs.Sums.{sum-cong, sum-none, sum-add, sum-pick}
use Rattle.flow.specs.Network.{Net, eqb-rev, times, times-has, Chain, stop, step, Path, path-chain, path-once, path-dart}
use Rattle.flow.specs.Balance.{balanced-cong, balanced-sub, loop-balanced}
use Rattle.flow.specs.Flow.{Flow}
use Rattle.flow.specs.Push.{push}

-- f with one unit off each of the darts
abbrev pub cancel : (ℕ → ℕ) → List ℕ → ℕ → ℕ
cancel f ds d = f d - times ds d

abbrev pub Loaded : (ℕ → ℕ) → ℕ → Type 0
Loaded f d = 0 < f d

-- the darts of a chain, counted
chain_length : {G : Net} {ds : List ℕ} {u v : ℕ} → Chain G ds u v → sum G.darts (times ds) ≡ length ds
unfolding total
chain_length {G} (stop e) = sum-none G.darts (λ d. 0) (λ d l. refl)
chain_length {G} (step {d = d} {ds = ds} l e c) =
    omega (arith, sum-add G.darts (λ x. when (eqb d x) 1) (times ds), sum-pick G.darts d (λ x. 1) l, chain_length c)

-- how often a dart is among the reverses
pub times-rev : {G : Net} {ds : List ℕ} {u v : ℕ} → Chain G ds u v → (x : ℕ) → x < G.darts → times (map G.rev ds) x ≡ times ds (G.rev x)
unfolding total
times-rev (stop e) x l = refl
times-rev {G} (step {d = d} {ds = ds} k e c) x l = omega (arith, ap (λ (b : Bool). when b 1) (eqb-rev G d x k l), times-rev c x l)

module _ {G : Net} {f s : ℕ → ℕ} {ds : List ℕ} {u : ℕ} (F : Flow G f s) (p : Path G (Loaded f) ds u u) where
  whole : (d : ℕ) → f d ≡ cancel f ds d + times ds d
  whole d = go (eq-zero-or-pos (times ds d))
    where
      go : (times ds d ≡ 0) ⊎ (0 < times ds d) → f d ≡ cancel f ds d + times ds d
      go (inl e) = omega arith
      go (inr h) = omega (arith, path-once p d, path-dart p (times-has ds d h))

  -- Cancelling a closed path of loaded darts gives a flow with the same starts.
  pub cancel-flow : Flow G (cancel f ds) s
  cancel-flow =
      record {
        load = record {
          within = λ d l t. omega (arith, F.load.within d l t);
          wanted = F.load.wanted;
          balanced = balanced-sub G (cancel f ds) (times ds) s
              (balanced-cong G (λ d. cancel f ds d + times ds d) f s (λ d l. sym (whole d)) F.load.balanced) (loop-balanced (path-chain p));
        };
        apart = λ d l. omega (arith, F.apart d l);
      }

  -- Its total is smaller by the number of darts.
  pub cancel-total : sum G.darts (cancel f ds) + length ds ≡ sum G.darts f
  cancel-total =
      omega (
        arith,
        sum-add G.darts (cancel f ds) (times ds),
        sum-cong G.darts f (λ d. cancel f ds d + times ds d) (λ d l. whole d),
        chain_length (path-chain p),
      )

  -- a dart among the darts is loaded
  once-loaded : (d : ℕ) → times ds d ≤ min 1 (f d)
  once-loaded d = omega (arith, whole d, path-once p d)

  -- It is what a push along the reverses of the darts gives.
  pub cancel-push : (d : ℕ) → d < G.darts → cancel f ds d ≡ push G f (map G.rev ds) d
  cancel-push d l =
      omega (
        arith,
        F.apart d l,
        once-loaded d,
        once-loaded (G.rev d),
        times-rev (path-chain p) d l,
        times-rev (path-chain p) (G.rev d) (G.rev< d l),
        ap (times ds) (G.rev-rev d l),
      )
