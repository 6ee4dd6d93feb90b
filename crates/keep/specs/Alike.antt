-- Two jobs of one size whose marks and states differ only where no load stands: loads that are sound for the one and keep the limits of the other are sound
-- for the other, with the same wires. For a loaded link has the same ends in both, and a place round which something stands is a place of both. Where the
-- capacities are the same too, the limits are kept. Assumes nothing.
use Rattle.std.specs.Prelude.{◌≡◌, ◌⊎◌, Bool, not, ◌&&◌, ◌||◌}
use Rattle.std.proofs.Math.Path.{refl, sym, ap, ap₂}
use Rattle.std.proofs.Common.{subst, ◌∙◌, arith}
use Rattle.std.proofs.Math.Logic.{inl, inr}
use Rattle.std.proofs.Math.Bool.{true, false}
use mathlib.Core.List.{List, [], ◌∷◌, Memᴰ}
use Rattle.std.proofs.Math.Option.{Option, none, some}
use Prim.Native.Nat.{ℕ, zero, suc, ◌+◌, ◌-◌, ◌/◌, ◌≤◌, ◌<◌}
use Rattle.std.proofs.Math.Dec.{T, eqb, ltb}
use Rattle.sums.specs.Counting.{when, sum, total}
use Rattle.sums.specs.Sums.{sum-cong, when-full, when-some}
use Rattle.sums.specs.Totals.{total-cong}
use Rattle.sums.specs.Tests.{and_left, and_right, and_both, and-not, and_comm}
use Rattle.model.specs.Job.{Added, Job, is_pin, is_tile, is_open, is_chosen, is_missing, centre_limit}
use Rattle.model.specs.Links.{Compass, north, east, south, west, PlaceKind, pin, missing, centre, outside, nowhere, side, Place, at, the_outside, is_place, is_entered, is_pin_kind, places_at, beside, pin_at, LinkKind, north_side, west_side, corner, spoke, leg, direct, straight_out, Link, behind_of, ahead_of, limit_of, limit, pass_of, pass, Step, go, turn, head, tail, may, around}
use Rattle.model.specs.Loads.{departures, arrivals, Trail, Feasible, Sound}
use Rattle.model.specs.Wires.{leaving, Hop, onward, hop_at, is_wired, wire_count}
use Rattle.model.proofs.Listed.{step-listed, may-leaves, may-enters}
use Rattle.wire.specs.Ways.{way, turn-turn, turn-listed}
use Rattle.wire.specs.Around.{step-lands}
use Rattle.wire.specs.Next.{Loaded, loaded-may}
use Rattle.wire.specs.Places.{places-total}
use Rattle.wire.specs.Threads.{wired-chosen}
use Rattle.wire.specs.Bundle.{pin-place}
use Rattle.wire.specs.Apart.{wire-loaded}

-- no load stands on the link of a step
pub record Quiet (f : Step → ℕ) (s : Step) : Type 0 where
  pub forth : f s ≡ 0
  pub back : f (turn s) ≡ 0

-- no load stands on the links round a place
abbrev pub Bare : (Step → ℕ) → Place → Type 0
Bare f x = (s : Step) → Memᴰ s (around x) → Quiet f s

-- J and K differ only where f has nothing
pub record Alike (J K : Job) (f : Step → ℕ) : Type 0 where
  pub rows : K.rows ≡ J.rows
  pub columns : K.columns ≡ J.columns
  pub pins : (r c : ℕ) → (K.mark r c ≡ J.mark r c) ⊎ Bare f (at pin r c)
  pub tiles : (r c : ℕ) → (K.state r c ≡ J.state r c) ⊎ (Bare f (at centre r c) × ((d : Compass) → Bare f (at (side d) r c)))

-- the loads keep the limits of K
pub record Fits (K : Job) (f : Step → ℕ) : Type 0 where
  pub limits : (s : Step) (k : ℕ) → limit K s.link ≡ some k → f s + f (turn s) ≤ k
  pub passing : (x : Place) (k : ℕ) → T (is_place K x) → pass K x ≡ some k → arrivals f x ≤ k

-- all but marks and states is the same
pub record SameCaps (J K : Job) : Type 0 where
  pub O : K.O ≡ J.O
  pub D : K.D ≡ J.D
  pub E : K.E ≡ J.E
  pub added : K.added ≡ J.added

total-none-in : {A : Type 0} (l : List A) (g : A → ℕ) → ((x : A) → Memᴰ x l → g x ≡ 0) → total l g ≡ 0
unfolding total
total-none-in [] g h = refl
total-none-in (x ∷ l) g h = omega (arith, h x (Memᴰ.head refl), total-none-in l g (λ y m. h y (Memᴰ.tail m)))

-- the wires, counted cell by cell
count-cells : (J : Job) (f : Step → ℕ)
    → wire_count J f ≡ sum J.rows (λ r. sum J.columns (λ c. total (places_at r c) (λ y. when (is_pin_kind y && is_wired J f y.row y.column) 1)))
unfolding wire_count
count-cells J f =
    places-total J (λ y. when (is_pin_kind y && is_wired J f y.row y.column) 1)
    ∙ sum-cong J.rows _ _ (λ r k. sum-cong J.columns _ _ (λ c l. total-cong (places_at r c) _ _ one))
  where
    one : (y : Place) → when (is_place J y) (when (is_pin_kind y && is_wired J f y.row y.column) 1) ≡ when (is_pin_kind y && is_wired J f y.row y.column) 1
    one y =
        when-full (is_place J y) (when (is_pin_kind y && is_wired J f y.row y.column) 1)
        (λ p. let t = (when-some (is_pin_kind y && is_wired J f y.row y.column) 1 p).0 in
        subst (λ (x : Place). T (is_place J x)) (pin-place y (and_left (is_pin_kind y) (is_wired J f y.row y.column) t))
        (wired-chosen J f y.row y.column (and_right (is_pin_kind y) (is_wired J f y.row y.column) t)))

module _ (J K : Job) (f : Step → ℕ) (A : Alike J K f) where
  -- ---- places

  pin-same : (r c : ℕ) → is_pin K r c ≡ is_pin J r c
  pin-same r c = ap₂ (λ (m n : ℕ). ltb r m && ltb c n) A.rows A.columns

  tile-same : (r c : ℕ) → is_tile K r c ≡ is_tile J r c
  tile-same r c = ap₂ (λ (m n : ℕ). ltb (suc r) m && ltb (suc c) n) A.rows A.columns

  -- x is a place, and is entered, in both alike
  pub record Both (x : Place) : Type 0 where
    pub place : is_place K x ≡ is_place J x
    pub entered : is_entered K x ≡ is_entered J x

  marked-same : (r c m : ℕ) → K.mark r c ≡ J.mark r c → (is_pin K r c && eqb (K.mark r c) m) ≡ (is_pin J r c && eqb (J.mark r c) m)
  marked-same r c m e = ap₂ (λ (a : Bool) (n : ℕ). a && eqb n m) (pin-same r c) e

  open-same : (r c : ℕ) → K.state r c ≡ J.state r c → is_open K r c ≡ is_open J r c
  unfolding is_open
  open-same r c e = ap₂ (λ (a : Bool) (n : ℕ). a && eqb n 0) (tile-same r c) e

  kind-both : (k : PlaceKind) (r c : ℕ) → Both (at k r c) ⊎ Bare f (at k r c)
  unfolding is_chosen is_missing
  kind-both pin r c = by (A.pins r c)
    where
      by : (K.mark r c ≡ J.mark r c) ⊎ Bare f (at pin r c) → Both (at pin r c) ⊎ Bare f (at pin r c)
      by (inl e) = inl (record { place = marked-same r c 1 e; entered = refl })
      by (inr b) = inr b
  kind-both missing r c = by (A.pins r c)
    where
      -- a missing pin has no link but those of a pin
      legs-of : (s : Step) → Memᴰ s (around (at missing r c)) → Memᴰ s (around (at pin r c))
      legs-of s (Memᴰ.head e) = Memᴰ.head e
      legs-of s (Memᴰ.tail (Memᴰ.head e)) = Memᴰ.tail (Memᴰ.head e)
      legs-of s (Memᴰ.tail (Memᴰ.tail (Memᴰ.head e))) = Memᴰ.tail (Memᴰ.tail (Memᴰ.head e))
      legs-of s (mathlib.Core.List.Memᴰ.tail (mathlib.Core.List.Memᴰ.tail (mathlib.Core.List.Memᴰ.tail (mathlib.Core.List.Memᴰ.tail x16)))) = elim x16 [ ]
      legs-of s (Memᴰ.tail (Memᴰ.tail (Memᴰ.tail (Memᴰ.head e)))) =
          Memᴰ.tail (Memᴰ.tail (Memᴰ.tail (Memᴰ.head e)))

      by : (K.mark r c ≡ J.mark r c) ⊎ Bare f (at pin r c) → Both (at missing r c) ⊎ Bare f (at missing r c)
      by (inl e) = inl (record { place = marked-same r c 2 e; entered = marked-same r c 2 e })
      by (inr b) = inr (λ s m. b s (legs-of s m))
  kind-both centre r c = by (A.tiles r c)
    where
      by : (K.state r c ≡ J.state r c) ⊎ (Bare f (at centre r c) × ((d : Compass) → Bare f (at (side d) r c))) → Both (at centre r c) ⊎ Bare f (at centre r c)
      by (inl e) = inl (record { place = open-same r c e; entered = open-same r c e })
      by (inr b) = inr b.0
  kind-both outside r c = inl (record { place = refl; entered = refl })
  kind-both nowhere r c = inl (record { place = refl; entered = refl })
  kind-both (side d) r c = by (A.tiles r c)
    where
      by : (K.state r c ≡ J.state r c) ⊎ (Bare f (at centre r c) × ((d : Compass) → Bare f (at (side d) r c))) → Both (at (side d) r c) ⊎ Bare f (at (side d) r c)
      by (inl e) = inl (record { place = open-same r c e; entered = open-same r c e })
      by (inr b) = inr (b.1 d)

  pub place-both : (x : Place) → Both x ⊎ Bare f x
  place-both x = kind-both x.kind x.row x.column

  -- ---- links

  beside_same : (d : Compass) (r c : ℕ) → beside K d r c ≡ beside J d r c
  beside_same d r c = ap (λ (b : Bool). elim b as (λ _. Place) [ true ↦ at (side d) r c | false ↦ the_outside ]) (tile-same r c)

  pin-leg : (d : Compass) (r c : ℕ) → Memᴰ (go (leg d) r c) (around (at pin r c))
  pin-leg north r c = Memᴰ.head refl
  pin-leg east r c = Memᴰ.tail (Memᴰ.head refl)
  pin-leg south r c = Memᴰ.tail (Memᴰ.tail (Memᴰ.head refl))
  pin-leg west r c = Memᴰ.tail (Memᴰ.tail (Memᴰ.tail (Memᴰ.head refl)))

  direct-listed : (r c : ℕ) → Memᴰ (go direct r c) (around (at pin r c))
  direct-listed r c = Memᴰ.tail (Memᴰ.tail (Memᴰ.tail (Memᴰ.tail (Memᴰ.head refl))))

  out-same : (r c : ℕ) → K.mark r c ≡ J.mark r c → straight_out K r c ≡ straight_out J r c
  unfolding is_chosen
  out-same r c e =
      ap₂ (λ (a b : Bool). elim (a && b) as (λ _. Place) [ true ↦ the_outside | false ↦ at nowhere 0 0 ]) (marked-same r c 1 e)
      (ap₂ (λ (m n : ℕ). eqb r 0 || (eqb (suc r) m || (eqb c 0 || eqb (suc c) n))) A.rows A.columns)

  ahead-same : (k : LinkKind) (r c : ℕ) → (ahead_of K k r c ≡ ahead_of J k r c) ⊎ Quiet f (go k r c)
  unfolding ahead_of
  ahead-same north_side zero c = inl refl
  ahead-same north_side (suc r) c = inl refl
  ahead-same west_side r c = inl (beside_same west r c)
  ahead-same (corner d) r c = inl refl
  ahead-same (spoke d) r c = inl refl
  ahead-same (leg north) zero c = inl refl
  ahead-same (leg north) (suc r) c = inl refl
  ahead-same (leg east) r c = inl refl
  ahead-same (leg south) r zero = inl refl
  ahead-same (leg south) r (suc c) = inl refl
  ahead-same (leg west) zero c = inl refl
  ahead-same (leg west) (suc r) zero = inl refl
  ahead-same (leg west) (suc r) (suc c) = inl refl
  ahead-same direct r c = by (A.pins r c)
    where
      by : (K.mark r c ≡ J.mark r c) ⊎ Bare f (at pin r c) → (straight_out K r c ≡ straight_out J r c) ⊎ Quiet f (go direct r c)
      by (inl e) = inl (out-same r c e)
      by (inr b) = inr (b (go direct r c) (direct-listed r c))

  pin-same-at : (d : Compass) (r c : ℕ) → K.mark r c ≡ J.mark r c → behind_of K (leg d) r c ≡ behind_of J (leg d) r c
  unfolding behind_of
  pin-same-at d r c e = ap (λ (n : ℕ). elim (eqb n 2) as (λ _. Place) [ true ↦ at missing r c | false ↦ at pin r c ]) e

  behind-same : (k : LinkKind) (r c : ℕ) → (behind_of K k r c ≡ behind_of J k r c) ⊎ Quiet f (go k r c)
  unfolding behind_of
  behind-same north_side r c = inl (beside_same north r c)
  behind-same west_side r zero = inl refl
  behind-same west_side r (suc c) = inl refl
  behind-same (corner d) r c = inl refl
  behind-same (spoke d) r c = inl refl
  behind-same (leg d) r c = by (A.pins r c)
    where
      by : (K.mark r c ≡ J.mark r c) ⊎ Bare f (at pin r c) → (pin_at K r c ≡ pin_at J r c) ⊎ Quiet f (go (leg d) r c)
      by (inl e) = inl (pin-same-at d r c e)
      by (inr b) = inr (b (go (leg d) r c) (pin-leg d r c))
  behind-same direct r c = inl refl

  -- a step with a load on its link has the same ends
  record Ends (s : Step) : Type 0 where
    heads : head K s ≡ head J s
    tails : tail K s ≡ tail J s

  way-ends : (l : Link) (b : Bool) → Ends (way l b) ⊎ Quiet f (way l b)
  unfolding head
  way-ends l b = by b (behind-same l.kind l.row l.column) (ahead-same l.kind l.row l.column)
    where
      quiet : (b : Bool) → Quiet f (way l true) → Quiet f (way l b)
      quiet true q = q
      quiet false q = record { forth = q.back; back = q.forth }

      by : (b : Bool) → (behind_of K l.kind l.row l.column ≡ behind_of J l.kind l.row l.column) ⊎ Quiet f (way l true)
          → (ahead_of K l.kind l.row l.column ≡ ahead_of J l.kind l.row l.column) ⊎ Quiet f (way l true) → Ends (way l b) ⊎ Quiet f (way l b)
      by true (inl e) (inl h) = inl (record { heads = h; tails = e })
      by false (inl e) (inl h) = inl (record { heads = e; tails = h })
      by b (inl e) (inr q) = inr (quiet b q)
      by b (inr q) h = inr (quiet b q)

  loaded-ends : (s : Step) → 0 < f s → Ends s
  loaded-ends s l = by (way-ends s.link s.forth)
    where
      by : Ends s ⊎ Quiet f s → Ends s
      by (inl e) = e
      by (inr q) = absurd (omega (arith, q.forth))

  -- ---- no load round a bare place

  bare-out : (x : Place) → Bare f x → total (around x) f ≡ 0
  bare-out x b = total-none-in (around x) f (λ s m. (b s m).forth)

  pub bare-in : (x : Place) → Bare f x → total (around x) (λ s. f (turn s)) ≡ 0
  bare-in x b = total-none-in (around x) (λ s. f (turn s)) (λ s m. (b s m).back)

  module _ (S : Sound J f) where
    -- a step with a load may be taken in both
    ends-may : (s : Step) → 0 < f s → T (may K s)
    unfolding may
    ends-may s l = and_both (is_place K (tail K s)) (is_entered K (head K s)) (leaves (place-both (tail J s))) (enters-by (step-lands J s can) (place-both (head J s)))
      where
        can : T (may J s)
        can = loaded-may J f S.feasible s l

        E : Ends s
        E = loaded-ends s l

        leaves : Both (tail J s) ⊎ Bare f (tail J s) → T (is_place K (tail K s))
        leaves (inl e) = subst (λ (y : Place). T (is_place K y)) (sym E.tails) (subst T (sym e.place) (may-leaves J s can))
        leaves (inr b) = absurd (omega (arith, (b s (step-listed J s (may-leaves J s can))).forth))

        enters-by : (head J s ≡ the_outside) ⊎ T (is_place J (head J s)) → Both (head J s) ⊎ Bare f (head J s) → T (is_entered K (head K s))
        enters-by (inl o) q = subst (λ (y : Place). T (is_entered K y)) (sym (E.heads ∙ o)) tt
        enters-by (inr p) (inl e) = subst (λ (y : Place). T (is_entered K y)) (sym E.heads) (subst T (sym e.entered) (may-enters J s can))
        enters-by (inr p) (inr b) = absurd (omega (arith, (b (turn s) (turn-listed J s (head J s) refl p)).back, ap f (turn-turn s)))

    not-may : (s : Step) → T (not (may K s)) → f s ≡ 0
    not-may s n = by (f s) refl
      where
        by : (m : ℕ) → f s ≡ m → f s ≡ 0
        by zero e = e
        by (suc m) e = absurd (and-not (may K s) (and_both (may K s) (not (may K s)) (ends-may s (omega arith)) n))

    pub alike-feasible : Fits K f → Feasible K f
    unfolding arrivals departures
    alike-feasible fits =
        record {
          one_way = S.feasible.one_way;
          limits = fits.limits;
          against = λ s a b. not-may s a;
          nowhere = λ s a b. not-may s a;
          passing = fits.passing;
          starts = λ r c t. begins r c t (place-both (at pin r c));
          balance = λ x p t. even x p t (place-both x);
        }
      where
        begins : (r c : ℕ) → T (is_chosen K r c) → Both (at pin r c) ⊎ Bare f (at pin r c) → total (around (at pin r c)) f ≤ 1
        begins r c t (inl q) = S.feasible.starts r c (subst T q.place t)
        begins r c t (inr b) = omega (arith, bare-out (at pin r c) b)

        even : (x : Place) → T (is_place K x) → T (is_entered K x) → Both x ⊎ Bare f x → total (around x) (λ s. f (turn s)) ≡ total (around x) f
        even x p t (inl q) = S.feasible.balance x (subst T q.place p) (subst T q.entered t)
        even x p t (inr b) = omega (arith, bare-in x b, bare-out x b)

    trail-alike : (x y : Place) (ss : List Step) → Trail K f x ss y → Trail J f x ss y
    trail-alike x y [] r = r
    trail-alike x y (s ∷ ss) r =
        let E : Ends s = loaded-ends s r.1 in
        (sym E.tails ∙ r.0, r.1, subst (λ (z : Place). Trail J f z ss y) E.heads (trail-alike (head K s) y ss r.2))

    pub alike-sound : Fits K f → Sound K f
    alike-sound fits = record { feasible = alike-feasible fits; loops = λ x s ss r. S.loops x s ss (trail-alike x x (s ∷ ss) r) }

    -- ---- the same wires

    pub alike-wired : (r c : ℕ) → is_wired K f r c ≡ is_wired J f r c
    unfolding is_wired departures
    alike-wired r c = by (place-both (at pin r c))
      where
        by : Both (at pin r c) ⊎ Bare f (at pin r c) → is_wired K f r c ≡ is_wired J f r c
        by (inl q) = ap (λ (b : Bool). b && ltb 0 (total (around (at pin r c)) f)) q.place
        by (inr b) =
            let z : ltb 0 (total (around (at pin r c)) f) ≡ false = ap (ltb 0) (bare-out (at pin r c) b) in
            rw z (and_comm (is_chosen K r c) false ∙ and_comm false (is_chosen J r c))

    -- as many wires
    pub alike-count : wire_count K f ≡ wire_count J f
    unfolding wire_count
    alike-count =
        count-cells K f
        ∙ (ap₂ (λ (m n : ℕ). sum m (λ r. sum n (λ c. total (places_at r c) (λ y. when (is_pin_kind y && is_wired K f y.row y.column) 1)))) A.rows
        A.columns
        ∙ (sum-cong J.rows _ _
        (λ r k. sum-cong J.columns _ _
        (λ c l. total-cong (places_at r c) _ _ (λ y. ap (λ (b : Bool). when (is_pin_kind y && b) 1) (alike-wired y.row y.column))))
        ∙ sym (count-cells J f)))

    pub alike-hops : (r c : ℕ) → T (is_wired J f r c) → (i : ℕ) → hop_at K f r c i ≡ hop_at J f r c i
    unfolding hop_at
    alike-hops r c w zero = refl
    alike-hops r c w (suc i) = ap (onward K f) (alike-hops r c w i) ∙ by (hop_at J f r c i) refl
      where
        by : (o : Option Hop) → hop_at J f r c i ≡ o → onward K f o ≡ onward J f o
        by none e = refl
        by (some h) e =
            ap (λ (x : Place). leaving f x h.step.link h.lane) (loaded-ends h.step (omega (arith, wire-loaded J f S r c i h w e))).heads

    -- the places that they come to, too
    pub alike-head : (h : Hop) → Loaded f h → head K h.step ≡ head J h.step
    alike-head h l = (loaded-ends h.step (omega arith)).heads

    -- ---- the same capacities

    pass_same : SameCaps J K → (k : PlaceKind) (r c : ℕ) → pass_of K k r c ≡ pass_of J k r c
    pass_same e pin r c = refl
    pass_same e missing r c = ap some e.E
    pass_same e centre r c = λ i. some (centre_limit (e.O i) (elim (eqb ((e.added i).own_d r c) 0) as (λ _. ℕ) [ true ↦ e.D i | false ↦ (e.added i).own_d r c ]))
    pass_same e outside r c = refl
    pass_same e nowhere r c = refl
    pass_same e (side d) r c = refl

    limit-same : SameCaps J K → (k : LinkKind) (r c : ℕ) → (limit_of K k r c ≡ limit_of J k r c) ⊎ Quiet f (go k r c)
    unfolding limit_of
    limit-same e north_side r c = inl (ap₂ (λ (o : ℕ) (a : Added). some (o - a.laid_north r c)) e.O e.added)
    limit-same e west_side r c = inl (ap₂ (λ (o : ℕ) (a : Added). some (o - a.laid_west r c)) e.O e.added)
    limit-same e (corner d) r c = inl (ap (λ (n : ℕ). some (n / 2)) e.O)
    limit-same e (spoke d) r c = inl refl
    limit-same e (leg d) r c = by (A.pins r c)
      where
        by : (K.mark r c ≡ J.mark r c) ⊎ Bare f (at pin r c) → (limit_of K (leg d) r c ≡ limit_of J (leg d) r c) ⊎ Quiet f (go (leg d) r c)
        by (inl q) = inl (ap (λ (n : ℕ). elim (eqb n 2) as (λ _. Option ℕ) [ true ↦ none | false ↦ some 1 ]) q)
        by (inr b) = inr (b (go (leg d) r c) (pin-leg d r c))
    limit-same e direct r c = inl refl

    way-fits : SameCaps J K → (l : Link) (b : Bool) (k : ℕ) → limit K l ≡ some k → f (way l b) + f (way l (not b)) ≤ k
    way-fits e l b k q = by b (limit-same e l.kind l.row l.column)
      where
        by : (b : Bool) → (limit K l ≡ limit J l) ⊎ Quiet f (way l true) → f (way l b) + f (way l (not b)) ≤ k
        by b (inl z) = S.feasible.limits (way l b) k (sym z ∙ q)
        by true (inr z) = omega (arith, z.forth, z.back)
        by false (inr z) = omega (arith, z.forth, z.back)

    pub same-fits : SameCaps J K → Fits K f
    unfolding arrivals
    same-fits e = record { limits = λ s k q. way-fits e s.link s.forth k q; passing = λ x k p q. passes x k p q (place-both x) }
      where
        passes : (x : Place) (k : ℕ) → T (is_place K x) → pass K x ≡ some k → Both x ⊎ Bare f x → total (around x) (λ s. f (turn s)) ≤ k
        passes x k p q (inl z) = S.feasible.passing x k (subst T z.place p) (sym (pass_same e x.kind x.row x.column) ∙ q)
        passes x k p q (inr b) = omega (arith, bare-in x b)
