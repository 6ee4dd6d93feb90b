-- Pushing: a flow with one unit more along each dart of a list, set off against what the reverses carry. Pushed along a path of residual moves from an
-- unstarted wanted node to the outside, a flow is a flow with that one start more; and it does not matter whether the darts are pushed at once or one
-- after the other. Assumes nothing.
use Rattle.std.specs.Prelude.{◌≡◌, ◌⊎◌, Bool, true, false, not, ℕ, suc, ◌+◌, ◌≤◌, ◌<◌, min, T, eqb}
use Rattle.std.proofs.Common.{ap, subst, inl, inr, eq-zero-or-pos, arith, T_not}
use mathlib.Core.List.{List, [], ◌∷◌, Memᴰ}
use Rattle.sums.specs.Counting.{when, sum, total}
use Rattle.sums.specs.Tests.{Same, same, other, same?}
use Rattle.sums.specs.Sums.{sum-add, sum-pick}
use Rattle.flow.specs.Network.{Net, times, times-has, Path, path-chain, path-once, path-dart}
use Rattle.flow.specs.Balance.{back, balanced-add, net, balanced-net, net-apart, walk-balanced}
use Rattle.flow.specs.Flow.{Apart, Flow, Unstarted, flow-cong}
use Rattle.flow.specs.Residual.{Residual, undo, room, unlimited}

module _ (G : Net) where
  -- f with one unit pushed along each of the darts
  abbrev pub push : (ℕ → ℕ) → List ℕ → ℕ → ℕ
  push f ds = net G (λ d. f d + times ds d)

  -- the darts pushed one after the other, from the first one on
  abbrev pub pushes : (ℕ → ℕ) → List ℕ → ℕ → ℕ
  pushes f [] = f
  pushes f (d ∷ ds) = pushes (push f (d ∷ [])) ds

-- the starts s and one more, at u
abbrev pub more : (ℕ → ℕ) → ℕ → ℕ → ℕ
more s u x = s x + when (eqb u x) 1

pub sum_more : (n u : ℕ) (s : ℕ → ℕ) → u < n → sum n (more s u) ≡ suc (sum n s)
sum_more n u s l = omega (arith, sum-add n s (λ x. when (eqb u x) 1), sum-pick n u (λ x. 1) l)

-- ---- a path at once

-- a dart that is pushed once at most, and only if it is residual, stays within its limit
pub push-within : {G : Net} {f s : ℕ → ℕ} (ds : List ℕ) → Flow G f s → ((d : ℕ) → times ds d ≤ 1) → ((d : ℕ) → Memᴰ d ds → Residual G f d)
    → (d : ℕ) → d < G.darts → T (not (G.free d)) → push G f ds d ≤ G.cap d
push-within {G} {f} ds F one res d l t = go (eq-zero-or-pos (times ds d)) (F.load.within d l t) (F.apart d l)
  where
    by : f d ≤ G.cap d → min (f d) (back G f d) ≡ 0 → Residual G f d → push G f ds d ≤ G.cap d
    by w a (undo h) = omega (arith, one d)
    by w a (room h) = omega (arith, one d)
    by w a (unlimited h) = absurd (T_not (G.free d) t h)

    go : (times ds d ≡ 0) ⊎ (0 < times ds d) → f d ≤ G.cap d → min (f d) (back G f d) ≡ 0 → push G f ds d ≤ G.cap d
    go (inl e) w a = omega arith
    go (inr p) w a = by w a (res d (times-has ds d p))

-- A flow pushed along a path of residual moves, from an unstarted wanted node to the outside, is a flow with exactly that start added.
pub push-flow : {G : Net} {f s : ℕ → ℕ} {ds : List ℕ} {u v : ℕ} → Flow G f s → Unstarted G s u → Path G (Residual G f) ds u v → T (G.outside v)
    → Flow G (push G f ds) (more s u)
push-flow {G} {f} {s} {ds} {u} F h p o =
    record {
      load = record {
        within = push-within ds F (path-once p) (λ d. path-dart p);
        wanted = λ x l. one_more x (eqb u x) (same? u x) (F.load.wanted x l);
        balanced = balanced-net G (λ d. f d + times ds d) (more s u)
            (balanced-add G f (times ds) s (λ x. when (eqb u x) 1) F.load.balanced (walk-balanced (path-chain p) o));
      };
      apart = net-apart G (λ d. f d + times ds d);
    }
  where
    one_more : (x : ℕ) (b : Bool) → Same u x b → s x ≤ G.want x → s x + when b 1 ≤ G.want x
    one_more x true (same e) k = subst (λ (y : ℕ). s y + 1 ≤ G.want y) e (omega (arith, h.short))
    one_more x false (other e) k = omega arith

-- ---- a path dart by dart

-- to push some darts and then others is to push all of them, in any order
pub push-join : (G : Net) (f : ℕ → ℕ) (ds es all : List ℕ) → ((x : ℕ) → times all x ≡ times ds x + times es x) → (d : ℕ) → d < G.darts
    → push G (push G f ds) es d ≡ push G f all d
push-join G f ds es all e d l = omega (arith, ap f (G.rev-rev d l), ap (times ds) (G.rev-rev d l), e d, e (G.rev d))

-- one dart and then the rest
pub push-cons : (G : Net) (f : ℕ → ℕ) (d : ℕ) (ds : List ℕ) (x : ℕ) → x < G.darts → push G (push G f (d ∷ [])) ds x ≡ push G f (d ∷ ds) x
unfolding total
push-cons G f d ds = push-join G f (d ∷ []) ds (d ∷ ds) (λ x. omega arith)

-- the rest and then one dart
pub push-last : (G : Net) (f : ℕ → ℕ) (d : ℕ) (ds : List ℕ) (x : ℕ) → x < G.darts → push G (push G f ds) (d ∷ []) x ≡ push G f (d ∷ ds) x
unfolding total
push-last G f d ds = push-join G f ds (d ∷ []) (d ∷ ds) (λ x. omega arith)

-- Pushing the darts one after the other is pushing them at once.
pub pushes-push : (G : Net) (f : ℕ → ℕ) (ds : List ℕ) → Apart G f → (x : ℕ) → x < G.darts → pushes G f ds x ≡ push G f ds x
unfolding total
pushes-push G f [] a x l = omega (arith, a x l)
pushes-push G f (d ∷ ds) a x l = omega (arith, push-cons G f d ds x l, pushes-push G (push G f (d ∷ [])) ds (net-apart G _) x l)

-- So a flow pushed dart by dart along such a path is that same flow with one start more.
pub pushes-flow : {G : Net} {f s : ℕ → ℕ} {ds : List ℕ} {u v : ℕ} → Flow G f s → Unstarted G s u → Path G (Residual G f) ds u v → T (G.outside v)
    → Flow G (pushes G f ds) (more s u)
pushes-flow {G} {f} {ds = ds} F h p o = flow-cong (pushes-push G f ds F.apart) (push-flow F h p o)
