-- Networks: nodes joined by darts, both numbered from 0. Dart d goes from `tail d` to `head d`, and its reverse `rev d` goes back. A dart takes
-- `cap d` units at most, or any number if it is `free`; at most `want u` units start at the node u, and all of them end at nodes that are `outside`.
-- Chains are darts one after the other; paths are chains in which no dart comes twice. Assumes nothing.
use Rattle.std.specs.Prelude.{◌≡◌, refl, ◌⊎◌, Bool, true, false, ℕ, ◌+◌, ◌≤◌, ◌<◌, eqb}
use Rattle.std.proofs.Common.{sym, ap, ◌∙◌, subst, inl, inr, not-suc-le-zero, eq-zero-or-pos, arith}
use mathlib.Core.List.{List, [], ◌∷◌, Memᴰ}
use Rattle.sums.specs.Counting.{when, total, count}
use Rattle.sums.specs.Tests.{Same, same, other, same?, eqb-iff}
use Rattle.sums.specs.Sums.{when-same}

pub record Net : Type 0 where
  pub nodes : ℕ
  pub darts : ℕ
  pub tail : ℕ → ℕ
  pub rev : ℕ → ℕ
  pub tail< : (d : ℕ) → d < darts → tail d < nodes
  pub rev< : (d : ℕ) → d < darts → rev d < darts
  pub rev-rev : (d : ℕ) → d < darts → rev (rev d) ≡ d
  pub cap : ℕ → ℕ
  pub free : ℕ → Bool
  pub want : ℕ → ℕ
  pub outside : ℕ → Bool

module _ (G : Net) where
  abbrev pub head : ℕ → ℕ
  head d = G.tail (G.rev d)

  pub head< : (d : ℕ) → d < G.darts → head d < G.nodes
  head< d l = G.tail< (G.rev d) (G.rev< d l)

  -- a dart's reverse ends where the dart starts
  pub head-rev : (d : ℕ) → d < G.darts → head (G.rev d) ≡ G.tail d
  head-rev d l = ap G.tail (G.rev-rev d l)

  -- the test of a dart's reverse
  pub eqb-rev : (e d : ℕ) → e < G.darts → d < G.darts → eqb e (G.rev d) ≡ eqb (G.rev e) d
  eqb-rev e d l k = eqb-iff e (G.rev d) (G.rev e) d (λ p. ap G.rev p ∙ G.rev-rev d k) (λ p. sym (G.rev-rev e l) ∙ ap G.rev p)

-- how often d is among the darts
abbrev pub times : List ℕ → ℕ → ℕ
times ds d = count ds (λ e. eqb e d)

-- the darts lead from u to v, each from where the one before it ends
pub data Chain (G : Net) : List ℕ → ℕ → ℕ → Type 0 where
  stop : {u v : ℕ} → u ≡ v → Chain G [] u v
  step : {d u v : ℕ} {ds : List ℕ} → d < G.darts → G.tail d ≡ u → Chain G ds (head G d) v → Chain G (d ∷ ds) u v

-- a chain of darts with P, none of which comes twice
pub data Path (G : Net) (P : ℕ → Type 0) : List ℕ → ℕ → ℕ → Type 0 where
  here : {u v : ℕ} → u ≡ v → Path G P [] u v
  along : {d u v : ℕ} {ds : List ℕ} → d < G.darts → G.tail d ≡ u → P d → times ds d ≡ 0 → Path G P ds (head G d) v → Path G P (d ∷ ds) u v

pub path-chain : {G : Net} {P : ℕ → Type 0} {ds : List ℕ} {u v : ℕ} → Path G P ds u v → Chain G ds u v
path-chain (here e) = stop e
path-chain (along l e p n r) = step l e (path-chain r)

pub path-once : {G : Net} {P : ℕ → Type 0} {ds : List ℕ} {u v : ℕ} → Path G P ds u v → (x : ℕ) → times ds x ≤ 1
unfolding total
path-once (here e) x = omega arith
path-once (along {d = d} {ds = ds} l e p n r) x = go (eqb d x) (same? d x) (path-once r x)
  where
    go : (b : Bool) → Same d x b → times ds x ≤ 1 → when b 1 + times ds x ≤ 1
    go true (same q) h = omega (arith, ap (times ds) q)
    go false (other q) h = omega arith

-- ---- what is among the darts

pub times-has : (ds : List ℕ) (x : ℕ) → 0 < times ds x → Memᴰ x ds
unfolding total
times-has [] x h = absurd (not-suc-le-zero h)
times-has (d ∷ ds) x h = go (eqb d x) (same? d x) h (times-has ds x)
  where
    go : (b : Bool) → Same d x b → 0 < when b 1 + times ds x → (0 < times ds x → Memᴰ x ds) → Memᴰ x (d ∷ ds)
    go true (same e) h k = Memᴰ.head (sym e)
    go false (other e) h k = Memᴰ.tail (k (omega arith))

pub times_none : (ds : List ℕ) (x : ℕ) → (Memᴰ x ds → ⊥) → times ds x ≡ 0
times_none ds x n = go (eq-zero-or-pos (times ds x))
  where
    go : (times ds x ≡ 0) ⊎ (0 < times ds x) → times ds x ≡ 0
    go (inl e) = e
    go (inr p) = absurd (n (times-has ds x p))

pub has-times : (ds : List ℕ) {x : ℕ} → Memᴰ x ds → 0 < times ds x
unfolding total
has-times [] {x = x} x3 = elim x3 [ ]
has-times (d ∷ ds) {x} (Memᴰ.head e) = omega (arith, when-same d x 1 (sym e))
has-times (d ∷ ds) (Memᴰ.tail m) = omega (arith, has-times ds m)

pub path-dart : {G : Net} {P : ℕ → Type 0} {ds : List ℕ} {u v x : ℕ} → Path G P ds u v → Memᴰ x ds → P x
path-dart {G = G} {P = P} (here {u = u} {v = v} _) x11 = elim x11 [ ]
path-dart {P = P} (along l e p n r) (Memᴰ.head q) = subst P (sym q) p
path-dart (along l e p n r) (Memᴰ.tail m) = path-dart r m

pub path-map : {G : Net} {P Q : ℕ → Type 0} {ds : List ℕ} {u v : ℕ} → ((x : ℕ) → x < G.darts → Memᴰ x ds → P x → Q x) → Path G P ds u v → Path G Q ds u v
path-map h (here e) = here e
path-map h (along {d = d} l e p n r) = along l e (h d l (Memᴰ.head refl) p) n (path-map (λ x k m. h x k (Memᴰ.tail m)) r)
