-- The wire from a loaded hop: hop after hop it comes to the outside, since no place is met twice and there are only so many. Its steps are a chain and a
-- trail of loaded links, and its hops are what `hop_at` lists. Assumes nothing.
use Rattle.std.specs.Prelude.{◌≡◌, refl, ◌⊎◌, T, length}
use Rattle.std.proofs.Math.Path.{sym, ap}
use Rattle.std.proofs.Common.{subst, ◌∙◌, inl, inr, add-zero, add-suc, suc-add, arith}
use mathlib.Core.List.Memᴰ
use mathlib.Core.List.{List, [], ◌∷◌, map, Memᴰ}
use Rattle.std.proofs.Math.Option.{none, some}
use Prim.Native.Nat.{ℕ, zero, suc, ◌+◌, ◌<◌}
use Rattle.std.proofs.Math.ListN.{get_elem?}
use Rattle.model.specs.Job.{Job}
use Rattle.model.specs.Links.{Place, the_outside, is_place, places, Step, head, tail}
use Rattle.model.specs.Route.{Chain}
use Rattle.model.specs.Loads.{Trail, Sound}
use Rattle.model.specs.Wires.{Hop, onward, hop_at}
use Rattle.wire.specs.Around.{step-lands}
use Rattle.wire.specs.Next.{Loaded, After, goes_on_lem, ends-outside, hop-may}
use Rattle.wire.specs.Trails.{Inside, trail-short}

abbrev pub steps_of : List Hop → List Step
steps_of hs = map (λ h. h.step) hs

-- after the hop h the wire goes on by the hops hs to the outside
abbrev pub Goes : Job → (Step → ℕ) → Hop → List Hop → Type 0
Goes J f h [] = head J h.step ≡ the_outside
Goes J f h (k ∷ hs) = Loaded f k × (tail J k.step ≡ head J h.step) × (onward J f (some h) ≡ some k) × Goes J f k hs

module _ (J : Job) (f : Step → ℕ) (S : Sound J f) where
  -- a trail of n steps over places
  pub record Long (n : ℕ) (x : Place) : Type 0 where
    steps : List Step
    to : Place
    trail : Trail J f x steps to
    inside : Inside J f S steps
    size : length steps ≡ n

  pub longer : (n : ℕ) (s : Step) (x : Place) → 0 < f s → T (is_place J (head J s)) → x ≡ head J s → Long n x → Long (suc n) (tail J s)
  longer n s x l p e L =
      record {
        steps = s ∷ L.steps;
        to = L.to;
        trail = (refl, l, subst (λ (y : Place). Trail J f y L.steps L.to) e L.trail);
        inside = within;
        size = ap suc L.size;
      }
    where
      within : (t : Step) → Memᴰ t (s ∷ L.steps) → T (is_place J (head J t))
      within t (Memᴰ.head q) = subst (λ (u : Step). T (is_place J (head J u))) (sym q) p
      within t (Memᴰ.tail m) = L.inside t m

  pub long-none : (x : Place) → Long zero x
  long-none x = record { steps = []; to = x; trail = refl; inside = λ s m. absurd (Memᴰ.not-nil m); size = refl }

  -- none has more steps than there are places
  pub long-short : (n : ℕ) (x : Place) → Long n x → length (places J) < n → ⊥
  long-short n x L h = omega (arith, L.size, trail-short J f S x L.to L.steps L.trail L.inside)

  follow : (n : ℕ) (h : Hop) → Loaded f h → ((hs : List Hop) × Goes J f h hs) ⊎ Long n (tail J h.step)
  follow zero h l = inr (long-none (tail J h.step))
  follow (suc n) h l = by (step-lands J h.step (hop-may J f S.feasible h l)) (follow n)
    where
      Found : Type 0
      Found = ((hs : List Hop) × Goes J f h hs) ⊎ Long (suc n) (tail J h.step)

      on : T (is_place J (head J h.step)) → (A : After J f S.feasible h)
          → ((hs : List Hop) × Goes J f A.hop hs) ⊎ Long n (tail J A.hop.step) → Found
      on p A (inl (hs, g)) = inl (A.hop ∷ hs, (A.loaded, A.leaves, A.follows, g))
      on p A (inr L) = inr (longer n h.step (tail J A.hop.step) (omega arith) p A.leaves L)

      by : (head J h.step ≡ the_outside) ⊎ T (is_place J (head J h.step))
          → ((k : Hop) → Loaded f k → ((hs : List Hop) × Goes J f k hs) ⊎ Long n (tail J k.step)) → Found
      by (inl o) r = inl ([], o)
      by (inr p) r = let A : After J f S.feasible h = goes_on_lem J f S.feasible h l p in on p A (r A.hop A.loaded)

  pub comes-out : (h : Hop) → Loaded f h → (hs : List Hop) × Goes J f h hs
  comes-out h l = by (follow (suc (length (places J))) h l)
    where
      by : ((hs : List Hop) × Goes J f h hs) ⊎ Long (suc (length (places J))) (tail J h.step) → (hs : List Hop) × Goes J f h hs
      by (inl w) = w
      by (inr L) = absurd (long-short (suc (length (places J))) (tail J h.step) L (omega arith))

  -- ---- what it is

  pub goes-chain : (x : Place) (h : Hop) (hs : List Hop) → tail J h.step ≡ x → Loaded f h → Goes J f h hs → Chain J x (steps_of (h ∷ hs))
  goes-chain x h [] e l g = (e, hop-may J f S.feasible h l, g)
  goes-chain x h (k ∷ hs) e l g = (e, hop-may J f S.feasible h l, goes-chain (head J h.step) k hs g.1 g.0 g.3)

  pub goes-trail : (x : Place) (h : Hop) (hs : List Hop) → tail J h.step ≡ x → Loaded f h → Goes J f h hs → Trail J f x (steps_of (h ∷ hs)) the_outside
  goes-trail x h [] e l g = (e, omega arith, g)
  goes-trail x h (k ∷ hs) e l g = (e, omega arith, goes-trail (head J h.step) k hs g.1 g.0 g.3)

  each-loaded : (k h : Hop) (hs : List Hop) → Loaded f h → Goes J f h hs → Memᴰ k (h ∷ hs) → Loaded f k
  each-loaded k h hs l g (Memᴰ.head e) = subst (λ (u : Hop). Loaded f u) (sym e) l
  each-loaded k h [] l g (Memᴰ.tail m) = absurd (Memᴰ.not-nil m)
  each-loaded k h (u ∷ hs) l g (Memᴰ.tail m) = each-loaded k u hs g.0 g.3 m

  pub goes-loaded : (h : Hop) (hs : List Hop) → Loaded f h → Goes J f h hs → (k : Hop) → Memᴰ k (h ∷ hs) → Loaded f k
  goes-loaded h hs l g k m = each-loaded k h hs l g m

  -- its last hop comes to the outside
  pub goes-out : (h : Hop) (hs : List Hop) → Goes J f h hs → (n : ℕ) × (k : Hop) × (get_elem? (h ∷ hs) n ≡ some k) × (head J k.step ≡ the_outside)
  goes-out h [] g = (0, h, refl, g)
  goes-out h (u ∷ hs) g = let (n, k, e, o) = goes-out u hs g.3 in (suc n, k, e, o)

  -- ---- what `hop_at` lists

  pub none-on : (r c i j : ℕ) → hop_at J f r c i ≡ none → hop_at J f r c (i + j) ≡ none
  unfolding hop_at
  none-on r c i zero e = ap (hop_at J f r c) (add-zero i) ∙ e
  none-on r c i (suc j) e = ap (hop_at J f r c) (add-suc i j) ∙ ap (onward J f) (none-on r c i j e)

  listed-from : (r c i : ℕ) (h : Hop) (hs : List Hop) → hop_at J f r c i ≡ some h → Goes J f h hs → (j : ℕ) → hop_at J f r c (i + j) ≡ get_elem? (h ∷ hs) j
  unfolding hop_at
  listed-from r c i h hs e g zero = ap (hop_at J f r c) (add-zero i) ∙ e
  listed-from r c i h [] e g (suc j) =
      ap (hop_at J f r c) (add-suc i j ∙ sym (suc-add i j)) ∙ none-on r c (suc i) j (ap (onward J f) e ∙ ends-outside J f S.feasible h g)
  listed-from r c i h (k ∷ hs) e g (suc j) =
      ap (hop_at J f r c) (add-suc i j ∙ sym (suc-add i j)) ∙ listed-from r c (suc i) k hs (ap (onward J f) e ∙ g.2) g.3 j

  pub goes-listed : (r c : ℕ) (h : Hop) (hs : List Hop) → hop_at J f r c 0 ≡ some h → Goes J f h hs → (j : ℕ) → hop_at J f r c j ≡ get_elem? (h ∷ hs) j
  goes-listed r c h hs e g j = ap (hop_at J f r c) (sym (omega arith)) ∙ listed-from r c 0 h hs e g j
