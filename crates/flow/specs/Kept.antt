-- What a push keeps: a residual dart that is not pushed stays residual, so that each dart of a path is residual when its turn comes; and a closed set
-- that the pushed darts do not meet stays closed. A path of residual moves that ends out of a closed set never meets it. Assumes nothing.
use Rattle.std.specs.Prelude.{◌≡◌, ◌≢◌, ◌⊎◌, Bool, not, ℕ, ◌<◌, T}
use Rattle.std.proofs.Common.{sym, ap, subst, inl, inr, eq-zero-or-pos, arith, T_not}
use mathlib.Core.List.{List, [], ◌∷◌, Memᴰ}
use Rattle.std.proofs.Math.Dec.{not_T}
use Rattle.sums.specs.Counting.{total}
use Rattle.sums.specs.Sums.{when-other}
use Rattle.flow.specs.Network.{Net, head, head-rev, times, times_none, has-times, Path, here, along, path-map}
use Rattle.flow.specs.Balance.{back}
use Rattle.flow.specs.Flow.{Apart}
use Rattle.flow.specs.Residual.{Residual, undo, room, unlimited, Closed}
use Rattle.flow.specs.Push.{push}

-- A dart that is residual and is not pushed stays residual.
pub residual-kept : {G : Net} {f : ℕ → ℕ} {d : ℕ} (ds : List ℕ) → Apart G f → d < G.darts → times ds d ≡ 0 → Residual G f d → Residual G (push G f ds) d
residual-kept {G} {f} {d} ds a l n (undo h) = undo (omega (arith, a d l, ap f (G.rev-rev d l), ap (times ds) (G.rev-rev d l)))
residual-kept {G} {f} {d} ds a l n (room h) = room (omega arith)
residual-kept ds a l n (unlimited h) = unlimited h

-- once its first dart is pushed, the rest of a path of residual moves is a path of residual moves
pub path-rest : {G : Net} {f : ℕ → ℕ} {d : ℕ} {ds : List ℕ} {u v : ℕ} → Apart G f → Path G (Residual G f) (d ∷ ds) u v
    → Path G (Residual G (push G f (d ∷ []))) ds (head G d) v
unfolding total
path-rest {G} {f} {d} {ds} a (along l e r n p) = path-map (λ x k m q. residual-kept (d ∷ []) a k (omega (arith, when-other d x 1 (apart x m))) q) p
  where
    apart : (x : ℕ) → Memᴰ x ds → d ≢ x
    apart x m q = omega (arith, has-times ds m, ap (times ds) q)

module _ (G : Net) (S : ℕ → Bool) where
  -- none of the darts starts or ends in S
  abbrev pub Avoids : List ℕ → Type 0
  Avoids ds = (d : ℕ) → Memᴰ d ds → T (not (S (G.tail d))) × T (not (S (head G d)))

-- A set closed under residual moves stays closed after a push along darts that neither start nor end in it.
pub closed-kept : {G : Net} {f : ℕ → ℕ} {S : ℕ → Bool} (ds : List ℕ) → Closed G f S → Avoids G S ds → Closed G (push G f ds) S
closed-kept {G} {f} {S} ds c a = record { moves = λ d l t r. c.moves d l t (old d l (off d t) (off-rev d l t) r) }
  where
    off : (d : ℕ) → T (S (G.tail d)) → times ds d ≡ 0
    off d t = times_none ds d (λ m. T_not (S (G.tail d)) (a d m).0 t)

    off-rev : (d : ℕ) → d < G.darts → T (S (G.tail d)) → times ds (G.rev d) ≡ 0
    off-rev d l t = times_none ds (G.rev d) (λ m. T_not (S (G.tail d)) (subst (λ (x : ℕ). T (not (S x))) (head-rev G d l) (a (G.rev d) m).1) t)

    old : (d : ℕ) → d < G.darts → times ds d ≡ 0 → times ds (G.rev d) ≡ 0 → Residual G (push G f ds) d → Residual G f d
    old d l m n (undo h) = undo (omega arith)
    old d l m n (unlimited h) = unlimited h
    old d l m n (room h) = go (eq-zero-or-pos (back G f d))
      where
        go : (back G f d ≡ 0) ⊎ (0 < back G f d) → Residual G f d
        go (inl e) = room (omega arith)
        go (inr p) = undo p

-- a path of residual moves starts out of a closed set if it ends out of it
path-start : {G : Net} {f : ℕ → ℕ} {S : ℕ → Bool} {ds : List ℕ} {u v : ℕ} → Closed G f S → Path G (Residual G f) ds u v → T (S u) → T (S v)
path-start {S = S} c (here e) t = subst (λ (x : ℕ). T (S x)) e t
path-start {S = S} c (along {d = d} l e r n p) t = path-start c p (c.moves d l (subst (λ (x : ℕ). T (S x)) (sym e) t) r)

-- A path of residual moves that ends out of a closed set has no dart that starts or ends in it.
pub path-avoids : {G : Net} {f : ℕ → ℕ} {S : ℕ → Bool} {ds : List ℕ} {u v : ℕ} → Closed G f S → Path G (Residual G f) ds u v → T (not (S v)) → Avoids G S ds
path-avoids {G = G} {f = f} {S = S} c (here {u = u} {v = v} _) o x x15 = elim x15 [ ]
path-avoids {G} {S = S} {v = v} c (along {d = d} l e r n p) o x (Memᴰ.head q) =
    subst (λ (y : ℕ). T (not (S (G.tail y))) × T (not (S (head G y)))) (sym q)
    (not_T (S (G.tail d)) (λ t. T_not (S v) o (path-start c p (c.moves d l t r))), not_T (S (head G d)) (λ t. T_not (S v) o (path-start c p t)))
path-avoids c (along l e r n p) o x (Memᴰ.tail m) = path-avoids c p o x m
