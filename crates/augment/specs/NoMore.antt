-- Nothing more fits: the spots that moves reach from the unwired chosen pins, if no spot outside is among them, are the smallest near side, and its sum is
-- the number of wires; so that number is the greatest. Assumes nothing.
use Rattle.std.specs.Prelude.{◌≡◌, refl, ◌⊎◌, Bool, List, ℕ, ◌/◌, ◌≤◌, ◌<◌, T, length}
use Rattle.std.proofs.Common.{sym, subst, inl, inr, arith}
use Rattle.sums.specs.Counting.{sum}
use Rattle.flow.specs.Flow.{Flow, Unstarted}
use Rattle.flow.specs.Cut.{cut, load-le}
use Rattle.flow.specs.Residual.{Reach, begin}
use Rattle.flow.specs.MinCut.{closed-near, closed-cut, reach_near}
use Rattle.model.specs.Job.{Job, array_fits}
use Rattle.model.specs.Links.{pin, at}
use Rattle.model.specs.Route.{Route, Together, Greatest}
use Rattle.model.specs.Near.{Near, near_sum, Smallest, IsSpot}
use Rattle.model.specs.Loads.{Feasible}
use Rattle.model.specs.Record.{load}
use Rattle.model.specs.Wires.{wire_count}
use Rattle.model.proofs.Bound.{routes-le-sum}
use Rattle.channel.specs.Map.{spots, darts, rev, want, outside, view, starts, moves}
use Rattle.channel.specs.Map.Numbers.{head-spot}
use Rattle.channel.specs.Map.Network.{net, sum-nodes, unstarted-at, unstarted-spot, inside-net, reach-move}
use Rattle.channel.specs.Map.Network.NearSides.{near-net, net-near, near-cut}
use Rattle.channel.specs.Map.Starts.{wanted-pin}
use Rattle.channel.specs.Map.Network.Flows.{feasible-flow, starts-count}
use Rattle.channel.specs.Map.Network.Moves.{move-residual, move-spot, closed-residual}

-- what moves reach from the spots at which a wire is wanted and none starts
pub data Reached (J : Job) (rec : List ℕ) : ℕ → Type 0 where
  from : {u : ℕ} → u < spots → starts J rec u < want J u → Reached J rec u
  onto : {d u v : ℕ} → Reached J rec u → d < darts → d / 8 ≡ u → T (moves J rec d) → rev d / 8 ≡ v → Reached J rec v

-- S is closed under the moves
abbrev pub ClosedUnderMoves : Job → List ℕ → (ℕ → Bool) → Type 0
ClosedUnderMoves J rec S = (d : ℕ) → d < darts → T (S (d / 8)) → T (moves J rec d) → T (S (rev d / 8))

-- no spot outside is in S
abbrev pub NoneOutside : Job → (ℕ → Bool) → Type 0
NoneOutside J S = (u : ℕ) → u < spots → T (S u) → T (outside J u) → ⊥

module _ (J : Job) (rec : List ℕ) where
  -- what is reached is reached by residual moves
  reached-reach : {u : ℕ} → Reached J rec u → Reach (net J) (view rec) (Unstarted (net J) (starts J rec)) u
  reached-reach (from l h) = begin (unstarted-at J l h)
  reached-reach (onto {d = d} r l e t q) = reach-move J (reached-reach r) l e (move-residual J rec d t) q

module _ (J : Job) (fits : T (array_fits J.rows J.columns)) (rec : List ℕ) (feasible : Feasible J (load rec)) where
  F : Flow (net J) (view rec) (starts J rec)
  F = feasible-flow J fits rec feasible

  -- no near side has a smaller sum than there are wires
  wires-le : (R : ℕ → Bool) → Near J R → wire_count J (load rec) ≤ near_sum J R
  wires-le R near = omega (arith, load-le F.load (near-net J fits R near), near-cut J fits R near.within, sum-nodes J (starts J rec), starts-count J fits rec feasible)

  module _ (S : ℕ → Bool) (unwired : (u : ℕ) → u < spots → starts J rec u < want J u → T (S u)) (closed : ClosedUnderMoves J rec S)
      (inside : NoneOutside J S) where
    -- what is reached is in S, so it is the spot of a place
    reached-in : {u : ℕ} → Reached J rec u → T (S u)
    reached-in (from {u = u} l h) = unwired u l h
    reached-in (onto {d = d} r l e t q) =
        subst (λ (x : ℕ). T (S x)) q (closed d l (subst (λ (x : ℕ). T (S x)) (sym e) (reached-in r)) t)

    reached-spot : {u : ℕ} → Reached J rec u → IsSpot J u
    reached-spot (from {u = u} l h) = let (r, c, t, e) = wanted-pin J u (omega arith) in (at pin r c, t, inr e)
    reached-spot (onto {d = d} r l e t q) =
        subst (IsSpot J) q (by (move-spot J fits rec feasible d l (subst (IsSpot J) (sym e) (reached-spot r)) t) (reached-in (onto r l e t refl)))
      where
        by : IsSpot J (rev d / 8) ⊎ T (outside J (rev d / 8)) → T (S (rev d / 8)) → IsSpot J (rev d / 8)
        by (inl x) s = x
        by (inr o) s = absurd (inside (rev d / 8) (head-spot d l) s o)

    module _ (reached : (u : ℕ) → T (S u) → Reached J rec u) where
      -- S is a near side, and its sum is the number of wires
      pub reached-near : Near J S
      reached-near =
          net-near J fits S (λ u t. reached-spot (reached u t))
          (closed-near (closed-residual J fits rec feasible S closed) (inside-net J S inside))

      pub reached-sum : near_sum J S ≡ wire_count J (load rec)
      reached-sum =
          omega (
            arith,
            near-cut J fits S (λ u t. reached-spot (reached u t)),
            closed-cut F (closed-residual J fits rec feasible S closed) (inside-net J S inside) (λ u h. let (l, k) = unstarted-spot J h in unwired u l k),
            sum-nodes J (starts J rec),
            starts-count J fits rec feasible,
          )

      -- It is the smallest near side.
      pub reached-smallest : Smallest J S (wire_count J (load rec))
      reached-smallest =
          record {
            near = reached-near;
            meets = reached-sum;
            lowest = wires-le;
            least = λ R near e u t. reach_near F (near-net J fits R near) (tight R near e) (reached-reach J rec (reached u t));
          }
        where
          tight : (R : ℕ → Bool) (near : Near J R) → near_sum J R ≡ wire_count J (load rec) → cut (net J) R ≤ sum (net J).nodes (starts J rec)
          tight R near e = omega (arith, near-cut J fits R near.within, sum-nodes J (starts J rec), starts-count J fits rec feasible)

      -- The number of wires is the greatest number, if there are as many routes.
      pub reached-greatest : (rs : List (Route J)) → Together J rs → length rs ≡ wire_count J (load rec) → Greatest J (wire_count J (load rec))
      reached-greatest rs together e =
          record {
            routes = rs;
            together = together;
            size = e;
            most = λ ps F. omega (arith, routes-le-sum J S reached-near ps F, reached-sum);
          }
