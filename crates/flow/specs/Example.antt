-- One network on which every hypothesis of the theory holds. Nodes 0 and 1 are joined by two links, node 1 is joined to node 2, which is outside, and
-- node 3 stands alone; each link takes one unit, and one unit is wanted at 0, 1 and 3. A flow runs round the two links and starts nothing. It is pushed
-- along a path from 0 to the outside that takes a unit back, after which a near side meets what is started; and its loop is cancelled. Assumes nothing.
use Rattle.std.specs.Prelude.{◌≡◌, refl, ◌↔◌, Bool, true, false, not, ◌&&◌, ◌||◌, List, [], ◌∷◌, ℕ, zero, suc, ◌+◌, ◌*◌, ◌/◌, ◌≤◌, ◌<◌, min, T, eqb, leb, ltb, get_or, set}
use Rattle.std.proofs.Common.{ap, arith, eqb→eq, leb→le, ltb→lt, lit<, lit≤}
use Rattle.std.proofs.Math.Dec.{not_T}
use Rattle.sums.specs.Counting.{sum, total}
use Rattle.sums.specs.Tests.{below, below_at}
use Rattle.flow.specs.Network.{Net, head, stop, step, Path, here, along}
use Rattle.flow.specs.Balance.{back}
use Rattle.flow.specs.Flow.{Flow, Unstarted}
use Rattle.flow.specs.Cut.{Near, cut}
use Rattle.flow.specs.Residual.{Residual, undo, room, unlimited, Closed, Reach, begin, move, reach-closed}
use Rattle.flow.specs.MinCut.{closed-near, closed-cut, reach_near}
use Rattle.flow.specs.Walk.{Walk, carried, started, Fits, family-le}
use Rattle.flow.specs.Push.{push, pushes, more, push-flow, pushes-flow}
use Rattle.flow.specs.Kept.{path-rest, closed-kept, path-avoids}
use Rattle.flow.specs.Store.{held, store-undo}
use Rattle.flow.specs.Cancel.{cancel, Loaded, cancel-flow, cancel-total}
use Rattle.flow.specs.Slots.{node-lt, out-slots}

abbrev rev : ℕ → ℕ
rev d = get_or (3 ∷ 4 ∷ 2 ∷ 0 ∷ 1 ∷ 6 ∷ 5 ∷ 7 ∷ 8 ∷ 9 ∷ 10 ∷ 11 ∷ []) d 0

rev< : (d : ℕ) → d < 12 → rev d < 12
unfolding below
rev< d l = ltb→lt _ _ (below_at 12 (λ d. ltb (rev d) 12) tt d l)

rev-rev : (d : ℕ) → d < 12 → rev (rev d) ≡ d
unfolding below
rev-rev d l = eqb→eq _ _ (below_at 12 (λ d. eqb (rev (rev d)) d) tt d l)

-- three slots at each node; those that lead nowhere are their own reverses, with the limit 0
abbrev G : Net
G =
    record {
      nodes = 4;
      darts = 12;
      tail = λ d. d / 3;
      rev = rev;
      tail< = node-lt 4 3;
      rev< = rev<;
      rev-rev = rev-rev;
      cap = λ d. get_or (1 ∷ 1 ∷ 0 ∷ 1 ∷ 1 ∷ 1 ∷ 1 ∷ []) d 0;
      free = λ d. false;
      want = λ u. get_or (1 ∷ 1 ∷ 0 ∷ 1 ∷ []) u 0;
      outside = λ u. eqb u 2;
    }

-- ---- a flow that starts nothing and runs round a loop, from 0 to 1 along dart 0 and back along dart 4

abbrev loads : List ℕ
loads = 1 ∷ 0 ∷ 0 ∷ 0 ∷ 1 ∷ 0 ∷ 0 ∷ 0 ∷ 0 ∷ 0 ∷ 0 ∷ 0 ∷ []

abbrev f : ℕ → ℕ
f = held loads

abbrev none : ℕ → ℕ
none u = 0

ring : Flow G f none
unfolding below sum
ring =
    record {
      load = record {
        within = λ d l t. leb→le _ _ (below_at 12 (λ d. leb (f d) (G.cap d)) tt d l);
        wanted = λ u l. omega arith;
        balanced = λ u l i. omega (arith, out-slots G 3 refl (λ d. refl) f u l, out-slots G 3 refl (λ d. refl) (back G f) u l, even u l);
      };
      apart = λ d l. eqb→eq _ _ (below_at 12 (λ d. eqb (min (f d) (back G f d)) 0) tt d l);
    }
  where
    even : (u : ℕ) → u < 4 → sum 3 (λ k. f (u * 3 + k)) ≡ sum 3 (λ k. back G f (u * 3 + k))
    even u l = eqb→eq _ _ (below_at 4 (λ u. eqb (sum 3 (λ k. f (u * 3 + k))) (sum 3 (λ k. back G f (u * 3 + k)))) tt u l)

-- ---- a path from the unstarted node 0 to the outside, which takes a unit back from dart 4, and the flow pushed along it

wanting : Unstarted G none 0
wanting = record { node = lit< tt; short = lit< tt }

way : Path G (Residual G f) (1 ∷ 5 ∷ []) 0 2
unfolding total
way = along (lit< tt) refl (undo (lit< tt)) refl (along (lit< tt) refl (room (lit< tt)) refl (here refl))

abbrev g : ℕ → ℕ
g = push G f (1 ∷ 5 ∷ [])

laid : Flow G g (more none 0)
laid = push-flow ring wanting way tt

laid-by-darts : Flow G (pushes G f (1 ∷ 5 ∷ [])) (more none 0)
laid-by-darts = pushes-flow ring wanting way tt

-- the first of the two pushes is one store, and the other dart is residual after it
first : (x : ℕ) → x < 12 → held (set loads 4 0) x ≡ push G f (1 ∷ []) x
first = store-undo G loads (lit≤ tt) ring.apart 1 (lit< tt) (omega arith) (lit< tt)

rest : Path G (Residual G (push G f (1 ∷ []))) (5 ∷ []) 1 2
rest = path-rest ring.apart way

-- ---- closed sets

-- a set from which each dart leads back into it, or is full with nothing to take back
closed-by : (h : ℕ → ℕ) (S : ℕ → Bool) → T (below 12 (λ d. not (S (d / 3)) || (S (head G d) || (eqb (back G h d) 0 && leb (G.cap d) (h d)))))
    → Closed G h S
closed-by h S t =
    record {
      moves = λ d l.
          go d (S (d / 3)) (S (head G d)) (eqb (back G h d) 0) (leb (G.cap d) (h d)) (eqb→eq _ _) (leb→le _ _) (below_at 12 _ t d l);
    }
  where
    go : (d : ℕ) (a b p q : Bool) → (T p → back G h d ≡ 0) → (T q → G.cap d ≤ h d) → T (not a || (b || (p && q))) → T a → Residual G h d → T b
    go d true true p q e k t s r = tt
    go d true false true true e k t s (undo r) = omega (arith, e tt)
    go d true false true true e k t s (room r) = omega (arith, k tt)
    go d true false true true e k t s (unlimited r) = r
    go d true false true false e k t s r = absurd t
    go d true false false q e k t s r = absurd t
    go d false b p q e k t s r = absurd s

-- node 3 can be left by no move, and the path does not meet it
dead : Closed G f (eqb 3)
unfolding below
dead = closed-by f (eqb 3) tt

dead-kept : Closed G g (eqb 3)
dead-kept = closed-kept (1 ∷ 5 ∷ []) dead (path-avoids dead way tt)

-- after the push, all nodes but the outside one
abbrev side : ℕ → Bool
side u = not (eqb u 2)

side-closed : Closed G g side
unfolding below total
side-closed = closed-by g side tt

side-near : Near G side
side-near = closed-near side-closed (λ u l t. t)

-- its sum is the one start
side-sum : cut G side ≡ 1
unfolding sum
side-sum = refl

side-meets : sum 4 (more none 0) ≡ cut G side
side-meets = closed-cut laid side-closed (λ u l t. t) (λ u h. holds u h.short)
  where
    holds : (u : ℕ) → more none 0 u < G.want u → T (side u)
    holds u h = not_T (eqb u 2) (λ t. omega (arith, ap G.want (eqb→eq u 2 t)))

-- it is what is reachable from the unstarted nodes 1 and 3: node 0 is reached from 1 by taking back
reached : (u : ℕ) → u < 4 → T (side u) ↔ Reach G g (Unstarted G (more none 0)) u
unfolding total
reached u l = (there u l, reach_near laid side-near (omega (arith, side-meets)))
  where
    there : (u : ℕ) → u < 4 → T (side u) → Reach G g (Unstarted G (more none 0)) u
    there zero l t = move {d = 3} (begin {u = 1} (record { node = lit< tt; short = lit< tt })) (lit< tt) refl (undo (lit< tt)) refl
    there (suc zero) l t = begin (record { node = l; short = lit< tt })
    there (suc (suc zero)) l t = absurd t
    there (suc (suc (suc zero))) l t = begin (record { node = l; short = lit< tt })
    there (suc (suc (suc (suc u)))) l t = absurd (¬l l)
      where
        ¬l : ¬ (suc (suc (suc (suc u))) < 4)
        ¬l = omega arith

reached-closed : Closed G g side
reached-closed = reach-closed reached

-- ---- a family of one walk, which no near side can be smaller than

walk : Walk G
walk = record { from = 0; to = 2; darts = 0 ∷ 5 ∷ []; from< = lit< tt; chain = step (lit< tt) refl (step (lit< tt) refl (stop refl)); ends = tt }

fits : Fits G (walk ∷ [])
unfolding below total walk
fits =
    record {
      within = λ d l t. leb→le _ _ (below_at 12 (λ d. leb (carried G (walk ∷ []) d) (G.cap d)) tt d l);
      wanted = λ u l. leb→le _ _ (below_at 4 (λ u. leb (started G (walk ∷ []) u) (G.want u)) tt u l);
    }

one-le : (S : ℕ → Bool) → Near G S → 1 ≤ cut G S
one-le S near = family-le fits near

-- ---- the loop cancelled

loop : Path G (Loaded f) (0 ∷ 4 ∷ []) 0 0
unfolding total
loop = along (lit< tt) refl (lit< tt) refl (along (lit< tt) refl (lit< tt) refl (here refl))

cancelled : Flow G (cancel f (0 ∷ 4 ∷ [])) none
cancelled = cancel-flow ring loop

cancelled-total : sum 12 (cancel f (0 ∷ 4 ∷ [])) + 2 ≡ sum 12 f
cancelled-total = cancel-total ring loop
