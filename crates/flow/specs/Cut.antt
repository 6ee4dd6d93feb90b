-- Cuts. What a balanced load carries out of a set S of nodes is what it carries back in, and what starts in S: so no load within the limits starts more
-- than the cut of S, and one that starts as much fills each dart that leaves S, leaves its reverse empty, and starts all that is wanted elsewhere.
-- Assumes nothing.
use Rattle.std.specs.Prelude.{◌≡◌, refl, Bool, not, ◌&&◌, ℕ, ◌+◌, ◌≤◌, ◌<◌, T, eqb}
use Rattle.std.proofs.Math.Path.{sym, ap}
use Rattle.std.proofs.Common.{◌∙◌, arith}
use Rattle.sums.specs.Counting.{when, sum}
use Rattle.sums.specs.Tests.{and_comm}
use Rattle.sums.specs.Sums.{when-add, when-cong, when-le, when-when, when-split}
use Rattle.sums.specs.Sums.{sum-cong, sum-le, sum-none, sum-add, sum-part, sum-tight, sum-when, sum-fibre, sum-rev}
use Rattle.flow.specs.Network.{Net, head}
use Rattle.flow.specs.Balance.{back, out, Balanced}
use Rattle.flow.specs.Flow.{Load}

module _ (G : Net) where
  -- the dart d leads out of S
  abbrev pub leaves : (ℕ → Bool) → ℕ → Bool
  leaves S d = S (G.tail d) && not (S (head G d))

  -- what g carries along the darts that leave S; `leaving S (back g)` is what it carries back along them
  abbrev pub leaving : (ℕ → Bool) → (ℕ → ℕ) → ℕ
  leaving S g = sum G.darts (λ d. when (leaves S d) (g d))

  -- s added up over the nodes of S
  abbrev pub over : (ℕ → Bool) → (ℕ → ℕ) → ℕ
  over S s = sum G.nodes (λ u. when (S u) (s u))

  -- no node of S is outside
  abbrev pub Inside : (ℕ → Bool) → Type 0
  Inside S = (u : ℕ) → u < G.nodes → T (S u) → T (not (G.outside u))

  -- ---- the cut law

  over-out : (S : ℕ → Bool) (g : ℕ → ℕ) → over S (out G g) ≡ sum G.darts (λ d. when (S (G.tail d)) (g d))
  unfolding out
  over-out S g =
      sum-cong G.nodes _ _
      (λ u l.
      sym (sum-when (S u) G.darts (λ d. when (eqb (G.tail d) u) (g d)))
      ∙ sum-cong G.darts _ _ (λ d k. when-when (S u) (eqb (G.tail d) u) (g d)))
      ∙ sum-fibre G.nodes G.darts G.tail (λ u d. when (S u) (g d)) G.tail<

  -- what g carries along the darts that stay in S
  staying : (ℕ → Bool) → (ℕ → ℕ) → ℕ
  staying S g = sum G.darts (λ d. when (S (G.tail d) && S (head G d)) (g d))

  -- the reverse of a dart that stays in S stays in S
  staying-back : (S : ℕ → Bool) (g : ℕ → ℕ) → staying S g ≡ staying S (back G g)
  unfolding staying
  staying-back S g =
      sym (sum-rev G.darts G.rev (λ d. when (S (G.tail d) && S (head G d)) (g d)) G.rev< G.rev-rev)
      ∙ sum-cong G.darts _ _
      (λ d l.
      ap (λ (b : Bool). when b (back G g d))
      (ap (λ (x : ℕ). S (head G d) && S (G.tail x)) (G.rev-rev d l) ∙ and_comm (S (head G d)) (S (G.tail d))))

  leaves-or-stays : (S : ℕ → Bool) (g : ℕ → ℕ) → sum G.darts (λ d. when (S (G.tail d)) (g d)) ≡ leaving S g + staying S g
  unfolding staying
  leaves-or-stays S g = sum-cong G.darts _ _ (λ d l. when-split (S (G.tail d)) (S (head G d)) (g d)) ∙ sum-add G.darts _ _

  -- The cut law: what a balanced load carries out of a set of nodes inside is what it carries back, and what starts in the set.
  pub cut-law : (S : ℕ → Bool) (g s : ℕ → ℕ) → Inside S → Balanced G g s → leaving S g ≡ leaving S (back G g) + over S s
  cut-law S g s i b =
      let e : over S (out G g) ≡ over S (out G (back G g)) + over S s =
      sum-cong G.nodes _ _ (λ u l. when-cong (S u) _ _ (λ t. b u l (i u l t)) ∙ when-add (S u) (out G (back G g) u) (s u)) ∙ sum-add G.nodes _ _ in
      omega (arith, over-out S g, over-out S (back G g), leaves-or-stays S g, leaves-or-stays S (back G g), staying-back S g)

  -- ---- near sides

  -- no node of S is outside, and no dart without a limit leaves it
  pub record Near (S : ℕ → Bool) : Type 0 where
    pub inside : Inside S
    pub limited : (d : ℕ) → d < G.darts → T (leaves S d) → T (not (G.free d))

  -- the sum of a near side: what is wanted elsewhere, and the limits of the darts that leave it
  abbrev pub cut : (ℕ → Bool) → ℕ
  cut S = over (λ u. not (S u)) G.want + leaving S G.cap

module _ {G : Net} {g s : ℕ → ℕ} {S : ℕ → Bool} (L : Load G g s) (near : Near G S) where
  leaving-le : (d : ℕ) → d < G.darts → when (leaves G S d) (g d) ≤ when (leaves G S d) (G.cap d)
  leaving-le d l = when-le (leaves G S d) (g d) (G.cap d) (λ t. L.within d l (near.limited d l t))

  elsewhere-le : (u : ℕ) → u < G.nodes → when (not (S u)) (s u) ≤ when (not (S u)) (G.want u)
  elsewhere-le u l = when-le (not (S u)) (s u) (G.want u) (λ t. L.wanted u l)

  -- what a load within the limits starts, and what it carries back into a near side, are together at most the sum of that near side
  pub load-le : sum G.nodes s + leaving G S (back G g) ≤ cut G S
  load-le =
      omega (
        arith,
        cut-law G S g s near.inside L.balanced,
        sum-part G.nodes S s,
        sum-le G.darts (λ d. when (leaves G S d) (g d)) (λ d. when (leaves G S d) (G.cap d)) leaving-le,
        sum-le G.nodes (λ u. when (not (S u)) (s u)) (λ u. when (not (S u)) (G.want u)) elsewhere-le,
      )

  -- ---- where it starts as much

  module _ (tight : cut G S ≤ sum G.nodes s) where
    pub tight-full : (d : ℕ) → d < G.darts → when (leaves G S d) (g d) ≡ when (leaves G S d) (G.cap d)
    tight-full =
        sum-tight G.darts (λ d. when (leaves G S d) (g d)) (λ d. when (leaves G S d) (G.cap d)) leaving-le
        (omega (
          arith,
          cut-law G S g s near.inside L.balanced,
          sum-part G.nodes S s,
          sum-le G.nodes (λ u. when (not (S u)) (s u)) (λ u. when (not (S u)) (G.want u)) elsewhere-le,
        ))

    pub tight-empty : (d : ℕ) → d < G.darts → 0 ≡ when (leaves G S d) (back G g d)
    tight-empty =
        sum-tight G.darts (λ d. 0) (λ d. when (leaves G S d) (back G g d)) (λ d l. omega arith)
        (omega (arith, load-le, sum-none G.darts (λ d. 0) (λ d l. refl)))

    pub tight-started : (u : ℕ) → u < G.nodes → when (not (S u)) (s u) ≡ when (not (S u)) (G.want u)
    tight-started =
        sum-tight G.nodes (λ u. when (not (S u)) (s u)) (λ u. when (not (S u)) (G.want u)) elsewhere-le
        (omega (
          arith,
          cut-law G S g s near.inside L.balanced,
          sum-part G.nodes S s,
          sum-le G.darts (λ d. when (leaves G S d) (g d)) (λ d. when (leaves G S d) (G.cap d)) leaving-le,
        ))
