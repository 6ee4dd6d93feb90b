-- Loads give each dart a number. What a load takes out of a node is a sum over darts, so it is additive, and a load is balanced for starts s if each
-- node inside sends out s more than it takes in. A chain of darts is itself a load, balanced but at its two ends. Assumes nothing.
use Rattle.std.specs.Prelude.{◌≡◌, Bool, not, List, ℕ, ◌+◌, ◌-◌, ◌<◌, min, T, eqb}
use Rattle.std.proofs.Math.Path.{ap}
use Rattle.std.proofs.Common.{◌∙◌, subst, arith, T_not}
use Rattle.sums.specs.Counting.{when, sum, total}
use Rattle.sums.specs.Sums.{when-add, when-other, when-when, sum-cong, sum-add, sum-pick}
use Rattle.flow.specs.Network.{Net, head, eqb-rev, times, Chain, stop, step}

module _ (G : Net) where
  -- what the reverse of each dart carries
  abbrev pub back : (ℕ → ℕ) → ℕ → ℕ
  back g d = g (G.rev d)

  -- what the load g takes out of the node u; `out (back g) u` is what it brings in
  unfoldable pub out : (ℕ → ℕ) → ℕ → ℕ
  out g u = sum G.darts (λ d. when (eqb (G.tail d) u) (g d))

  abbrev pub Balanced : (ℕ → ℕ) → (ℕ → ℕ) → Type 0
  Balanced g s = (u : ℕ) → u < G.nodes → T (not (G.outside u)) → out g u ≡ out (back g) u + s u

  pub out-cong : (g h : ℕ → ℕ) → ((d : ℕ) → d < G.darts → g d ≡ h d) → (u : ℕ) → out g u ≡ out h u
  unfolding out
  out-cong g h e u = sum-cong G.darts _ _ (λ d l. ap (when (eqb (G.tail d) u)) (e d l))

  pub out-add : (g h : ℕ → ℕ) (u : ℕ) → out (λ d. g d + h d) u ≡ out g u + out h u
  unfolding out
  out-add g h u = simp (when-add, sum-add)

  -- the load of one dart
  out_one_lem : (e u : ℕ) → e < G.darts → out (λ d. when (eqb e d) 1) u ≡ when (eqb (G.tail e) u) 1
  unfolding out
  out_one_lem e u l =
      sum-cong G.darts _ _ (λ d k. when-when (eqb (G.tail d) u) (eqb e d) 1) ∙ sum-pick G.darts e (λ d. when (eqb (G.tail d) u) 1) l

  back_one : (e u : ℕ) → e < G.darts → out (back (λ d. when (eqb e d) 1)) u ≡ when (eqb (head G e) u) 1
  back_one e u l =
      out-cong _ _ (λ d k. ap (λ (b : Bool). when b 1) (eqb-rev G e d l k)) u
      ∙ out_one_lem (G.rev e) u (G.rev< e l)

  -- ---- what is balanced

  pub balanced-cong : (g h s : ℕ → ℕ) → ((d : ℕ) → d < G.darts → g d ≡ h d) → Balanced h s → Balanced g s
  balanced-cong g h s e p u l i = omega (arith, out-cong g h e u, out-cong (back g) (back h) (λ d k. e (G.rev d) (G.rev< d k)) u, p u l i)

  pub balanced-none : Balanced (λ d. 0) (λ u. 0)
  balanced-none u l i = omega arith

  pub balanced-add : (g h s t : ℕ → ℕ) → Balanced g s → Balanced h t → Balanced (λ d. g d + h d) (λ u. s u + t u)
  balanced-add g h s t p q u l i = omega (arith, out-add g h u, out-add (back g) (back h) u, p u l i, q u l i)

  -- a balanced load from which one without starts is taken
  pub balanced-sub : (g h s : ℕ → ℕ) → Balanced (λ d. g d + h d) s → Balanced h (λ u. 0) → Balanced g s
  balanced-sub g h s p q u l i = omega (arith, out-add g h u, out-add (back g) (back h) u, p u l i, q u l i)

  -- what is left of a load when each dart and its reverse are set off against one another
  abbrev pub net : (ℕ → ℕ) → ℕ → ℕ
  net g d = g d - back g d

  net-out : (g : ℕ → ℕ) (u : ℕ) → out g u + out (back (net g)) u ≡ out (net g) u + out (back g) u
  net-out g u =
      omega (
        arith,
        out-add g (back (net g)) u,
        out-add (net g) (back g) u,
        out-cong (λ d. g d + back (net g) d) (λ d. net g d + back g d) (λ d l. omega (arith, ap g (G.rev-rev d l))) u,
      )

  pub balanced-net : (g s : ℕ → ℕ) → Balanced g s → Balanced (net g) s
  balanced-net g s p u l i = omega (arith, net-out g u, p u l i)

  pub net-apart : (g : ℕ → ℕ) (d : ℕ) → d < G.darts → min (net g d) (back (net g) d) ≡ 0
  net-apart g d l = omega (arith, ap g (G.rev-rev d l))

-- a chain takes one unit out of where it starts and brings one to where it ends
chain-out : {G : Net} {ds : List ℕ} {u v : ℕ} → Chain G ds u v → (x : ℕ)
    → out G (times ds) x + when (eqb v x) 1 ≡ out G (back G (times ds)) x + when (eqb u x) 1
unfolding total
chain-out (stop e) x = omega (arith, ap (λ (y : ℕ). when (eqb y x) 1) e)
chain-out {G} (step {d = d} {ds = ds} l e c) x =
    omega (
      arith,
      chain-out c x,
      out-add G (λ y. when (eqb d y) 1) (times ds) x,
      out-add G (back G (λ y. when (eqb d y) 1)) (back G (times ds)) x,
      out_one_lem G d x l,
      back_one G d x l,
      ap (λ (y : ℕ). when (eqb y x) 1) e,
    )

pub walk-balanced : {G : Net} {ds : List ℕ} {u v : ℕ} → Chain G ds u v → T (G.outside v) → Balanced G (times ds) (λ x. when (eqb u x) 1)
walk-balanced {G} {ds} {u} {v} c o x l i =
    omega (arith, chain-out c x, when-other v x 1 (λ e. T_not (G.outside x) i (subst (λ (y : ℕ). T (G.outside y)) e o)))

pub loop-balanced : {G : Net} {ds : List ℕ} {u : ℕ} → Chain G ds u u → Balanced G (times ds) (λ x. 0)
loop-balanced c x l i = omega (arith, chain-out c x)
