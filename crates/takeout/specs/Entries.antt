-- A wire that meets a place of a tile has come into the tile: by a side, or from a pin, along the first or the last link round n, e, s or w. For the other
-- links round the five places lead from one of them to another, and the wire's pin is none of them. Assumes nothing.
use Rattle.std.specs.Prelude.{◌≡◌, ◌⊎◌, Bool, true, false, ◌&&◌, T, eqb}
use Rattle.std.proofs.Math.Path.{refl}
use Rattle.std.proofs.Common.{sym, ap, subst, ◌∙◌, eqb→eq}
use Rattle.std.proofs.Math.Logic.{inl, inr}
use Rattle.std.proofs.Math.Option.{Option, none, some}
use Prim.Native.Nat.{ℕ, zero, suc}
use Rattle.std.proofs.Math.Dec.{eqb_refl}
use Rattle.std.proofs.Math.ListN.{get_elem?}
use Rattle.sums.specs.Entries.{none-some, some_one, has-entry}
use Rattle.sums.specs.Tests.{and_left, and_right, and_both}
use Rattle.model.specs.Job.{Job}
use Rattle.model.specs.Links.{Compass, north, east, south, west, PlaceKind, pin, missing, centre, outside, nowhere, side, Place, at, is_place, behind_of, ahead_of, Step, head, tail, turn, around}
use Rattle.model.specs.Loads.{Sound}
use Rattle.model.specs.Wires.{Hop, onward, hop_at, is_wired}
use Rattle.model.proofs.Listed.{may-leaves}
use Rattle.wire.specs.Apart.{wire-loaded}
use Rattle.wire.specs.Next.{hop-may, follow-leaves}
use Rattle.wire.specs.Threads.{Thread, thread}
use Rattle.wire.specs.Ways.{turn-listed}

-- the places of a tile, by their kinds
abbrev of_tile : PlaceKind → Bool
of_tile pin = false
of_tile missing = false
of_tile centre = true
of_tile outside = false
of_tile nowhere = false
of_tile (side d) = true

-- the place is one of the tile (r, c)
abbrev pub in_tile : ℕ → ℕ → Place → Bool
in_tile r c x = of_tile x.kind && (eqb x.row r && eqb x.column c)

pub in-tile : (r c : ℕ) (k : PlaceKind) → T (of_tile k) → T (in_tile r c (at k r c))
in-tile r c k t = and_both (of_tile k) (eqb r r && eqb c c) t (and_both (eqb r r) (eqb c c) (eqb_refl r) (eqb_refl c))

-- the hop comes by the first or the last link round the place x
abbrev pub Enters : Place → Hop → Type 0
Enters x h = (get_elem? (around x) 0 ≡ some (turn h.step)) ⊎ (get_elem? (around x) 4 ≡ some (turn h.step))

-- into a place at a side of the tile
pub record Entry (J : Job) (f : Step → ℕ) (r c q d : ℕ) : Type 0 where
  pub index : ℕ
  pub hop : Hop
  pub listed : hop_at J f q d index ≡ some hop
  pub point : Compass
  pub comes : head J hop.step ≡ at (side point) r c
  pub enters : Enters (at (side point) r c) hop

module _ (J : Job) (f : Step → ℕ) (S : Sound J f) (r c : ℕ) where
  -- a step to a place of the tile comes from another one, or is an entry
  abbrev From : Step → Type 0
  From s =
      T (in_tile r c (tail J s))
      ⊎ ((e : Compass) × (head J s ≡ at (side e) r c)
      × ((get_elem? (around (at (side e) r c)) 0 ≡ some (turn s)) ⊎ (get_elem? (around (at (side e) r c)) 4 ≡ some (turn s))))

  inner : (s t : Step) → t ≡ turn s → T (in_tile r c (head J t)) → From s
  inner s t e i = inl (subst (λ (u : Step). T (in_tile r c (head J u))) e i)

  -- by the links round the place
  by-link : (k : PlaceKind) (s : Step) (j : ℕ) → T (of_tile k) → head J s ≡ at k r c → get_elem? (around (at k r c)) j ≡ some (turn s) → From s
  unfolding head ahead_of behind_of
  by-link centre s zero t e g = inner s _ (some_one _ _ g) (in-tile r c (side north) tt)
  by-link centre s (suc zero) t e g = inner s _ (some_one _ _ g) (in-tile r c (side east) tt)
  by-link centre s (suc (suc zero)) t e g = inner s _ (some_one _ _ g) (in-tile r c (side south) tt)
  by-link centre s (suc (suc (suc zero))) t e g = inner s _ (some_one _ _ g) (in-tile r c (side west) tt)
  by-link centre s (suc (suc (suc (suc j)))) t e g = absurd (none-some _ g)
  by-link (side d) s zero t e g = inr (d, e, inl g)
  by-link (side north) s (suc zero) t e g = inner s _ (some_one _ _ g) (in-tile r c (side east) tt)
  by-link (side north) s (suc (suc zero)) t e g = inner s _ (some_one _ _ g) (in-tile r c centre tt)
  by-link (side north) s (suc (suc (suc zero))) t e g = inner s _ (some_one _ _ g) (in-tile r c (side west) tt)
  by-link (side east) s (suc zero) t e g = inner s _ (some_one _ _ g) (in-tile r c (side south) tt)
  by-link (side east) s (suc (suc zero)) t e g = inner s _ (some_one _ _ g) (in-tile r c centre tt)
  by-link (side east) s (suc (suc (suc zero))) t e g = inner s _ (some_one _ _ g) (in-tile r c (side north) tt)
  by-link (side south) s (suc zero) t e g = inner s _ (some_one _ _ g) (in-tile r c (side west) tt)
  by-link (side south) s (suc (suc zero)) t e g = inner s _ (some_one _ _ g) (in-tile r c centre tt)
  by-link (side south) s (suc (suc (suc zero))) t e g = inner s _ (some_one _ _ g) (in-tile r c (side east) tt)
  by-link (side west) s (suc zero) t e g = inner s _ (some_one _ _ g) (in-tile r c (side north) tt)
  by-link (side west) s (suc (suc zero)) t e g = inner s _ (some_one _ _ g) (in-tile r c centre tt)
  by-link (side west) s (suc (suc (suc zero))) t e g = inner s _ (some_one _ _ g) (in-tile r c (side south) tt)
  by-link (side d) s (suc (suc (suc (suc zero)))) t e g = inr (d, e, inr g)
  by-link (side north) s (suc (suc (suc (suc (suc j))))) t e g = absurd (none-some _ g)
  by-link (side east) s (suc (suc (suc (suc (suc j))))) t e g = absurd (none-some _ g)
  by-link (side south) s (suc (suc (suc (suc (suc j))))) t e g = absurd (none-some _ g)
  by-link (side west) s (suc (suc (suc (suc (suc j))))) t e g = absurd (none-some _ g)
  by-link pin s j t e g = elim t [ ]
  by-link missing s j t e g = elim t [ ]
  by-link outside s j t e g = elim t [ ]
  by-link nowhere s j t e g = elim t [ ]

  tile-place : (x : Place) → T (in_tile r c x) → (x ≡ at x.kind r c) × T (of_tile x.kind)
  tile-place x t =
      let u : T (eqb x.row r && eqb x.column c) = and_right (of_tile x.kind) (eqb x.row r && eqb x.column c) t in
      let a : x.row ≡ r = eqb→eq x.row r (and_left (eqb x.row r) (eqb x.column c) u) in
      let b : x.column ≡ c = eqb→eq x.column c (and_right (eqb x.row r) (eqb x.column c) u) in
      (λ i. record { kind = x.kind; row = a i; column = b i }, and_left (of_tile x.kind) (eqb x.row r && eqb x.column c) t)

  from-link : (h : Hop) → T (in_tile r c (head J h.step)) → T (is_place J (head J h.step)) → From h.step
  from-link h t p =
      let x : Place = head J h.step in
      let (e, k) = tile-place x t in
      let (j, g) = has-entry (turn-listed J h.step x refl p) in
      by-link x.kind h.step j k e (subst (λ (y : Place). get_elem? (around y) j ≡ some (turn h.step)) e g)

  found : (q d n : ℕ) (h : Hop) → hop_at J f q d n ≡ some h → (e : Compass) × (head J h.step ≡ at (side e) r c) × Enters (at (side e) r c) h → Entry J f r c q d
  found q d n h l (e, k, g) = record { index = n; hop = h; listed = l; point = e; comes = k; enters = g }

  -- the hop before the hop at suc n
  hop-from : (q d n : ℕ) (v : Hop) → hop_at J f q d (suc n) ≡ some v → (u : Hop) × (hop_at J f q d n ≡ some u) × (onward J f (some u) ≡ some v)
  unfolding hop_at
  hop-from q d n v e = by (hop_at J f q d n) e
    where
      by : (o : Option Hop) → onward J f o ≡ some v → (u : Hop) × (o ≡ some u) × (onward J f (some u) ≡ some v)
      by none k = absurd (none-some v k)
      by (some u) k = (u, refl, k)

  -- going back along the wire from a place of the tile
  pub entry : (q d n : ℕ) (h : Hop) → T (is_wired J f q d) → hop_at J f q d n ≡ some h → T (in_tile r c (head J h.step)) → T (is_place J (head J h.step))
      → Entry J f r c q d
  entry q d zero h w l t p = by (from-link h t p)
    where
      by : From h.step → Entry J f r c q d
      by (inr k) = found q d zero h l k
      by (inl i) =
          let t : Thread J f q d = thread J f S q d w in
          absurd (subst (λ (y : Place). T (in_tile r c y)) (ap (λ (u : Hop). tail J u.step) (some_one h t.first (sym l ∙ t.begins)) ∙ t.from) i)
  entry q d (suc n) h w l t p = by (from-link h t p) (entry q d n)
    where
      by : From h.step
          → ((u : Hop) → T (is_wired J f q d) → hop_at J f q d n ≡ some u → T (in_tile r c (head J u.step)) → T (is_place J (head J u.step)) → Entry J f r c q d)
          → Entry J f r c q d
      by (inr k) back = found q d (suc n) h l k
      by (inl i) back =
          let (u, k, on) = hop-from q d n h l in
          let z : tail J h.step ≡ head J u.step = follow-leaves J f S.feasible u h (wire-loaded J f S q d n u w k) on in
          let m : T (is_place J (tail J h.step)) = may-leaves J h.step (hop-may J f S.feasible h (wire-loaded J f S q d (suc n) h w l)) in
          back u w k (subst (λ (y : Place). T (in_tile r c y)) z i) (subst (λ (y : Place). T (is_place J y)) z m)
