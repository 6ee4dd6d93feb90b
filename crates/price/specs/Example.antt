-- One network on which every hypothesis of the theory holds. Nodes 0 and 1 are joined at a cost of 10, each is joined to node 2, which is outside, at 50 and
-- at 10, and each link takes one unit. One unit is wanted at 0 and at 1. The unit of 0 goes by 1, at the price 20; then the prices of both are raised by 30, what
-- the least way out of them leaves, and the unit of 1 takes the other back from the link between them, at the price 40. No two
-- walks that start at 0 and 1 cost less than what the two take. Assumes nothing.
use Rattle.std.specs.Prelude.{◌≡◌, refl, false, not, ◌||◌, List, [], ◌∷◌, ℕ, ◌+◌, ◌/◌, ◌≤◌, ◌<◌, eqb, leb, ltb, length, get_or}
use Rattle.std.proofs.Common.{inl, inr, arith, eqb→eq, leb→le, ltb→lt, lt→ltb, lit<}
use Rattle.sums.specs.Counting.{sum, total}
use Rattle.sums.specs.Tests.{if-so, below, below_at}
use Rattle.flow.specs.Network.{Net, head, Path, here, along, path-once, path-dart, path-map}
use Rattle.flow.specs.Balance.{back, balanced-none}
use Rattle.flow.specs.Flow.{Flow, Unstarted}
use Rattle.flow.specs.Slots.{node-lt}
use Rattle.flow.specs.Walk.{Walk, Fits}
use Rattle.flow.specs.Push.{push, more, push-flow}
use Rattle.price.specs.Cost.{cost, walks_cost}
use Rattle.price.specs.Moves.{Open, Tight, takes, adds, tight-residual}
use Rattle.price.specs.Priced.{Priced, wired_least}
use Rattle.price.specs.Tight.{tight-push, none-priced}

abbrev rev : ℕ → ℕ
rev d = get_or (2 ∷ 5 ∷ 0 ∷ 4 ∷ 3 ∷ 1 ∷ []) d 0

rev< : (d : ℕ) → d < 6 → rev d < 6
unfolding below
rev< d l = ltb→lt _ _ (below_at 6 (λ d. ltb (rev d) 6) tt d l)

rev-rev : (d : ℕ) → d < 6 → rev (rev d) ≡ d
unfolding below
rev-rev d l = eqb→eq _ _ (below_at 6 (λ d. eqb (rev (rev d)) d) tt d l)

abbrev G : Net
G =
    record {
      nodes = 3;
      darts = 6;
      tail = λ d. d / 2;
      rev = rev;
      tail< = node-lt 3 2;
      rev< = rev<;
      rev-rev = rev-rev;
      cap = λ d. get_or (1 ∷ 1 ∷ 1 ∷ 1 ∷ []) d 0;
      free = λ d. false;
      want = λ u. get_or (1 ∷ 1 ∷ []) u 0;
      outside = λ u. eqb u 2;
    }

abbrev c : ℕ → ℕ
c d = get_or (10 ∷ 50 ∷ 10 ∷ 10 ∷ 10 ∷ 50 ∷ []) d 0

-- ---- the unit of 0 goes by 1

abbrev none : ℕ → ℕ
none x = 0

abbrev π : ℕ → ℕ
π u = get_or (20 ∷ 10 ∷ []) u 0

first-priced : Priced G c none π
unfolding below
first-priced =
    none-priced (λ u l o. eqb→eq _ _ (if-so (G.outside u) _ (below_at 3 (λ u. not (G.outside u) || eqb (π u) 0) tt u l) o))
    (λ d l o. leb→le _ _ (below_at 6 (λ d. leb (π (G.tail d)) (π (head G d) + c d)) tt d l))

first-path : Path G (Tight G c none π) (0 ∷ 3 ∷ []) 0 2
unfolding total
first-path = along (lit< tt) refl (adds refl (inl (lit< tt)) refl) refl (along (lit< tt) refl (adds refl (inl (lit< tt)) refl) refl (here refl))

abbrev f : ℕ → ℕ
f = push G none (0 ∷ 3 ∷ [])

first-node : Unstarted G none 0
first-node = record { node = lit< tt; short = lit< tt }

none-flow : Flow G none none
none-flow =
    record {
      load = record { within = λ d l t. omega arith; wanted = λ u l. omega arith; balanced = balanced-none G };
      apart = λ d l. omega arith;
    }

f-flow : Flow G f (more none 0)
f-flow = push-flow none-flow first-node (path-map (λ d l m t. tight-residual t) first-path) tt

f-priced : Priced G c f π
f-priced = tight-push (0 ∷ 3 ∷ []) first-priced (path-once first-path) (λ d. path-dart first-path)

-- ---- the prices of 0 and 1 are raised

abbrev ρ : ℕ → ℕ
ρ u = get_or (50 ∷ 40 ∷ []) u 0

second-priced : Priced G c f ρ
unfolding below total
second-priced =
    record {
      adding = by;
      taking = λ d l h. leb→le _ _
          (if-so (ltb 0 (back G f d)) _
          (below_at 6 (λ d. not (ltb 0 (back G f d)) || leb (ρ (G.tail d) + c (G.rev d)) (ρ (head G d))) tt d l)
          (lt→ltb 0 (back G f d) h));
      grounded = λ u l o. eqb→eq _ _ (if-so (G.outside u) _ (below_at 3 (λ u. not (G.outside u) || eqb (ρ u) 0) tt u l) o);
    }
  where
    by : (d : ℕ) → d < 6 → Open G f d → ρ (G.tail d) ≤ ρ (head G d) + c d
    by d l (inl h) =
        leb→le _ _
        (if-so (ltb (f d) (G.cap d)) _
        (below_at 6 (λ d. not (ltb (f d) (G.cap d)) || leb (ρ (G.tail d)) (ρ (head G d) + c d)) tt d l)
        (lt→ltb (f d) (G.cap d) h))
    by d l (inr h) = absurd h

-- ---- the unit of 1 takes it back

second-path : Path G (Tight G c f ρ) (2 ∷ 1 ∷ []) 1 2
unfolding total
second-path = along (lit< tt) refl (takes (lit< tt) refl) refl (along (lit< tt) refl (adds refl (inl (lit< tt)) refl) refl (here refl))

second-node : Unstarted G (more none 0) 1
second-node = record { node = lit< tt; short = lit< tt }

abbrev g : ℕ → ℕ
g = push G f (2 ∷ 1 ∷ [])

g-flow : Flow G g (more (more none 0) 1)
g-flow = push-flow f-flow second-node (path-map (λ d l m t. tight-residual t) second-path) tt

g-priced : Priced G c g ρ
g-priced = tight-push (2 ∷ 1 ∷ []) second-priced (path-once second-path) (λ d. path-dart second-path)

-- ---- and nothing costs less

g-cost : cost G c g ≡ 60
unfolding cost sum total
g-cost = refl

no_less : (ws : List (Walk G)) → Fits G ws → 2 ≤ length ws → 60 ≤ walks_cost G c ws
unfolding sum
no_less ws fits many = omega (arith, g-cost, wired_least g-priced g-flow (omega arith) fits (omega arith))
