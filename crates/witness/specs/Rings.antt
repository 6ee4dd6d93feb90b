-- Walks along darts that pass a test, as paths in which no dart comes twice; and of any such darts, either each leads down along an order of the nodes or
-- some of them are a closed path: the order is the number of nodes that a node leads to. Assumes nothing.
use Rattle.std.specs.Prelude.{◌≡◌, refl, ◌⊎◌, Bool, true, false, not, ℕ, ◌+◌, ◌≤◌, ◌<◌}
use Rattle.std.proofs.Common.{sym, inl, inr, eq-zero-or-pos, eqb→eq}
use Rattle.std.proofs.Math.Path.{subst}
use mathlib.Core.List.{List, ◌∷◌, Memᴰ}
use native.Mathlib.Omega.{arith}
use Rattle.std.proofs.Math.Dec.{T, eqb, eqb_refl}
use Rattle.sums.specs.Counting.{when, sum}
use Rattle.sums.specs.Tests.{Same, same, other, same?}
use Rattle.sums.specs.Sums.{sum-le, sum-add, sum-pick}
use Rattle.flow.specs.Network.{Net, head, times, times-has, Path, here, along}
use Rattle.witness.specs.Decide.{some-or-all}
use Rattle.witness.specs.Closure.{Shut, Closure, closure}

-- the path from one of its darts on
path-from : {G : Net} {P : ℕ → Type 0} {ds : List ℕ} {d u v : ℕ} → Path G P ds u v → Memᴰ d ds → (es : List ℕ) × Path G P (d ∷ es) (G.tail d) v
path-from {G = G} {P = P} {d = d} (here {u = u} {v = v} _) x6 = elim x6 [ ]
path-from {G} {P} {v = v} (along {d = c} {ds = ds} l e p n r) (Memᴰ.head q) =
    (ds, subst (λ (x : ℕ). Path G P (x ∷ ds) (G.tail x) v) (sym q) (along l refl p n r))
path-from (along l e p n r) (Memᴰ.tail m) = path-from r m

-- a path with one dart more in front, or the part of it that begins with that dart
pub path-front : {G : Net} {P : ℕ → Type 0} {ds : List ℕ} {v : ℕ} (d : ℕ) → d < G.darts → P d → Path G P ds (head G d) v
    → (es : List ℕ) × Path G P (d ∷ es) (G.tail d) v
path-front {G} {P} {ds} {v} d l p r = by (eq-zero-or-pos (times ds d))
  where
    by : (times ds d ≡ 0) ⊎ (0 < times ds d) → (es : List ℕ) × Path G P (d ∷ es) (G.tail d) v
    by (inl n) = (ds, along l refl p n r)
    by (inr h) = path-from r (times-has ds d h)

module _ (G : Net) (E : ℕ → Bool) where
  -- from u to v along darts that pass the test
  pub data Walk (u : ℕ) : ℕ → Type 0 where
    start : {v : ℕ} → u ≡ v → Walk u v
    onto : {v : ℕ} (d : ℕ) → Walk u (G.tail d) → d < G.darts → T (E d) → head G d ≡ v → Walk u v

  abbrev pub Passes : ℕ → Type 0
  Passes d = T (E d)

  walk-on : {u v w : ℕ} {ds : List ℕ} → Walk u v → Path G Passes ds v w → (es : List ℕ) × Path G Passes es u w
  walk-on {w = w} {ds} (start e) r = (ds, subst (λ (x : ℕ). Path G Passes ds x w) (sym e) r)
  walk-on {w = w} {ds} (onto d k l t e) r =
      let (es, p) = path-front d l t (subst (λ (x : ℕ). Path G Passes ds x w) (sym e) r) in
      walk-on k p

  pub walk-path : {u v : ℕ} → Walk u v → (ds : List ℕ) × Path G Passes ds u v
  walk-path k = walk-on k (here refl)

  -- a walk stays in a set out of which no dart leads
  walk-in : (S : ℕ → Bool) {u v : ℕ} → Shut G E S → T (S u) → Walk u v → T (S v)
  walk-in S c t (start e) = subst (λ (x : ℕ). T (S x)) e t
  walk-in S c t (onto d k l p e) = subst (λ (x : ℕ). T (S x)) e (c d l (walk-in S c t k) p)

  -- what u leads to
  pub reach_of : (u : ℕ) → Closure G E (λ v. eqb u v) (Walk u)
  reach_of u = closure G E (Walk u) (λ d l k t. onto d k l t refl) (λ v. eqb u v) (λ v t. start (eqb→eq u v t))

  -- how many nodes u leads to
  pub reach_count : ℕ → ℕ
  reach_count u = sum G.nodes (λ v. when ((reach_of u).set v) 1)

  falls : (d : ℕ) → d < G.darts → T (E d) → T (not ((reach_of (head G d)).set (G.tail d))) → reach_count (head G d) < reach_count (G.tail d)
  unfolding reach_count
  falls d l t n =
      omega (
        arith,
        sum-le G.nodes (λ v. when (A.set v) 1 + when (eqb (G.tail d) v) 1) (λ v. when (B.set v) 1)
            (λ v k. at v (A.set v) (inner v) (eqb (G.tail d) v) (same? (G.tail d) v) (λ e. subst (λ (x : ℕ). T (not (A.set x))) e n)
            (λ e. subst (λ (x : ℕ). T (B.set x)) e own) (B.set v) (λ s. s)),
        sum-add G.nodes (λ v. when (A.set v) 1) (λ v. when (eqb (G.tail d) v) 1),
        sum-pick G.nodes (G.tail d) (λ v. 1) (G.tail< d l),
      )
    where
      A : Closure G E (λ v. eqb (head G d) v) (Walk (head G d))
      A = reach_of (head G d)

      B : Closure G E (λ v. eqb (G.tail d) v) (Walk (G.tail d))
      B = reach_of (G.tail d)

      own : T (B.set (G.tail d))
      own = B.holds (G.tail d) (eqb_refl (G.tail d))

      inner : (v : ℕ) → T (A.set v) → T (B.set v)
      inner v s = walk-in B.set B.shut (B.shut d l own t) (A.only v s)

      at : (v : ℕ) (a : Bool) → (T a → T (B.set v)) → (b : Bool) → Same (G.tail d) v b → (G.tail d ≡ v → T (not a)) → (G.tail d ≡ v → T (B.set v))
          → (c : Bool) → (T (B.set v) → T c) → when a 1 + when b 1 ≤ when c 1
      at v true f true (same e) g h c k = absurd (g e)
      at v true f false (other e) g h true k = omega arith
      at v true f false (other e) g h false k = absurd (k (f tt))
      at v false f true (same e) g h true k = omega arith
      at v false f true (same e) g h false k = absurd (k (h e))
      at v false f false (other e) g h c k = omega arith

  -- a closed path
  abbrev pub Ring : Type 0
  Ring = (u : ℕ) × (d : ℕ) × (ds : List ℕ) × Path G Passes (d ∷ ds) u u

  -- each dart leads down along the order, or there is a closed path
  pub order-or-ring : ((d : ℕ) → d < G.darts → T (E d) → reach_count (head G d) < reach_count (G.tail d)) ⊎ Ring
  order-or-ring = by (some-or-all (λ d. T (E d) × T (back d)) (λ d. T (E d) → T (not (back d))) (λ d. one (E d) (back d)) G.darts)
    where
      -- whether the head of the dart leads to its tail
      back : ℕ → Bool
      back d = (reach_of (head G d)).set (G.tail d)

      one : (a b : Bool) → (T a × T b) ⊎ (T a → T (not b))
      one true true = inl (tt, tt)
      one true false = inr (λ t. tt)
      one false b = inr (λ t. absurd t)

      by : ((d : ℕ) × (d < G.darts) × (T (E d) × T (back d))) ⊎ ((d : ℕ) → d < G.darts → T (E d) → T (not (back d)))
          → ((d : ℕ) → d < G.darts → T (E d) → reach_count (head G d) < reach_count (G.tail d)) ⊎ Ring
      by (inr f) = inl (λ d l t. falls d l t (f d l t))
      by (inl (d, l, (t, b))) =
          let (ds, p) = walk-path ((reach_of (head G d)).only (G.tail d) b) in
          let (es, r) = path-front d l t p in
          inr (G.tail d, d, es, r)
