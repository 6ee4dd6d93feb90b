-- Request K5, an edit of a side's count: the wires on the lanes of the side from the new limit on go. Every other wire keeps its places, and on that side its
-- lane; where the loads are within the new limit, as under a lower count, none goes. Assumes nothing.
use Rattle.std.specs.Prelude.{◌≡◌, refl, ◌⊎◌, Bool, true, false, not, ◌&&◌, ℕ, ◌+◌, ◌-◌, ◌≤◌, ◌<◌, eqb, leb}
use Rattle.std.proofs.Common.{sym, ◌∙◌, inl, inr, arith, eqb→eq, leb-false}
use Rattle.std.proofs.Math.Path.{ap, subst}
use Rattle.std.proofs.Math.Option.{some}
use Rattle.std.proofs.Math.Dec.{T}
use Rattle.sums.specs.Counting.{total}
use Rattle.sums.specs.Tests.{so, and_left, and_right, and_both}
use Rattle.sums.specs.Entries.{some_one}
use Rattle.model.specs.Job.{Job, Side, of_north, of_west, laid_on, laid_by}
use Rattle.model.specs.Links.{PlaceKind, pin, missing, centre, outside, nowhere, side, Place, is_place, LinkKind, north_side, west_side, corner, spoke, leg, direct, limit_of, limit, pass_of, pass, Step, turn, around}
use Rattle.model.specs.Loads.{arrivals, Feasible, Sound}
use Rattle.model.specs.Wires.{Hop, hop_at, is_wired}
use Rattle.model.specs.Left.{link_of, laid_left}
use Rattle.wire.specs.Apart.{wire-loaded}
use Rattle.wire.specs.Filled.{OnWire}
use Rattle.wire.specs.Counts.{on}
use Rattle.keep.specs.Round.{lane_of}
use Rattle.keep.specs.Kept.{carried}
use Rattle.keep.specs.Pins.{stays_for, kept_loads, kept-sound, kept-wired, kept-hops}
use Rattle.keep.specs.Alike.{Bare, Alike, Fits, Both, place-both, bare-in, alike-hops}
use Rattle.keep.specs.Edits.{Keeps, alike-keeps}
use Rattle.keep.specs.Staying.{left-is-kept, left-same, left-all}
use Rattle.keep.specs.Highest.{stays_low, lane-high, high-out, low-lanes, link-most, none-high}

-- the limit of a side
pub side-limit : (J : Job) (s : Side) → limit J (link_of s) ≡ some (J.O - laid_on J s)
unfolding limit_of
side-limit J (of_north r c) = refl
side-limit J (of_west r c) = refl

-- a link has another limit only if it is the side's
limit-laid : (J : Job) (s : Side) (n : ℕ) (k : LinkKind) (r c : ℕ)
    → (limit_of (laid_by J s n) k r c ≡ limit_of J k r c)
    ⊎ ((link_of s ≡ record { kind = k; row = r; column = c }) × (limit_of (laid_by J s n) k r c ≡ some (J.O - n)))
unfolding limit_of
limit-laid J (of_north i j) n north_side r c = by (eqb r i && eqb c j) refl
  where
    by : (b : Bool) → (eqb r i && eqb c j) ≡ b
        → (some (J.O - elim b as (λ _. ℕ) [ true ↦ n | false ↦ J.added.laid_north r c ]) ≡ some (J.O - J.added.laid_north r c))
        ⊎ ((link_of (of_north i j) ≡ record { kind = north_side; row = r; column = c })
        × (some (J.O - elim b as (λ _. ℕ) [ true ↦ n | false ↦ J.added.laid_north r c ]) ≡ some (J.O - n)))
    by false e = inl refl
    by true e =
        let p : r ≡ i = eqb→eq r i (and_left (eqb r i) (eqb c j) (so e)) in
        let q : c ≡ j = eqb→eq c j (and_right (eqb r i) (eqb c j) (so e)) in
        inr (λ z. record { kind = north_side; row = sym p z; column = sym q z }, refl)
limit-laid J (of_north i j) n west_side r c = inl refl
limit-laid J (of_north i j) n (corner d) r c = inl refl
limit-laid J (of_north i j) n (spoke d) r c = inl refl
limit-laid J (of_north i j) n (leg d) r c = inl refl
limit-laid J (of_north i j) n direct r c = inl refl
limit-laid J (of_west i j) n west_side r c = by (eqb r i && eqb c j) refl
  where
    by : (b : Bool) → (eqb r i && eqb c j) ≡ b
        → (some (J.O - elim b as (λ _. ℕ) [ true ↦ n | false ↦ J.added.laid_west r c ]) ≡ some (J.O - J.added.laid_west r c))
        ⊎ ((link_of (of_west i j) ≡ record { kind = west_side; row = r; column = c })
        × (some (J.O - elim b as (λ _. ℕ) [ true ↦ n | false ↦ J.added.laid_west r c ]) ≡ some (J.O - n)))
    by false e = inl refl
    by true e =
        let p : r ≡ i = eqb→eq r i (and_left (eqb r i) (eqb c j) (so e)) in
        let q : c ≡ j = eqb→eq c j (and_right (eqb r i) (eqb c j) (so e)) in
        inr (λ z. record { kind = west_side; row = sym p z; column = sym q z }, refl)
limit-laid J (of_west i j) n north_side r c = inl refl
limit-laid J (of_west i j) n (corner d) r c = inl refl
limit-laid J (of_west i j) n (spoke d) r c = inl refl
limit-laid J (of_west i j) n (leg d) r c = inl refl
limit-laid J (of_west i j) n direct r c = inl refl

pass-laid : (J : Job) (s : Side) (n : ℕ) (k : PlaceKind) (r c : ℕ) → pass_of (laid_by J s n) k r c ≡ pass_of J k r c
pass-laid J s n pin r c = refl
pass-laid J s n missing r c = refl
pass-laid J (of_north i j) n centre r c = refl
pass-laid J (of_west i j) n centre r c = refl
pass-laid J s n outside r c = refl
pass-laid J s n nowhere r c = refl
pass-laid J s n (side d) r c = refl

module _ (J : Job) (f : Step → ℕ) (S : Sound J f) (s : Side) (n : ℕ) where
  -- the new limit
  abbrev k : ℕ
  k = J.O - n

  -- whether the wire of a pin stays
  abbrev pub laid_stays : ℕ → ℕ → Bool
  laid_stays = stays_low J f (link_of s) k

  abbrev K : Job
  K = laid_by J s n

  abbrev g : Step → ℕ
  g = kept_loads J f S laid_stays

  laid-alike : Alike J K g
  laid-alike = record { rows = refl; columns = refl; pins = λ r c. inl refl; tiles = λ r c. inl refl }

  laid-fits : Fits K g
  unfolding arrivals
  laid-fits = record { limits = links; passing = within }
    where
      L : Feasible J g
      L = (kept-sound J f S laid_stays).feasible

      links : (t : Step) (m : ℕ) → limit K t.link ≡ some m → g t + g (turn t) ≤ m
      links t m e = by (limit-laid J s n t.link.kind t.link.row t.link.column)
        where
          by : (limit K t.link ≡ limit J t.link) ⊎ ((link_of s ≡ t.link) × (limit K t.link ≡ some k)) → g t + g (turn t) ≤ m
          by (inl q) = L.limits t m (sym q ∙ e)
          by (inr q) = omega (arith, link-most J f (link_of s) k S t q.0, some_one k m (sym q.1 ∙ e))

      within : (x : Place) (m : ℕ) → T (is_place K x) → pass K x ≡ some m → total (around x) (λ t. g (turn t)) ≤ m
      within x m p e = by (place-both J K g laid-alike x)
        where
          by : Both J K g laid-alike x ⊎ Bare g x → total (around x) (λ t. g (turn t)) ≤ m
          by (inl q) = L.passing x m (subst T q.place p) (sym (pass-laid J s n x.kind x.row x.column) ∙ e)
          by (inr b) = omega (arith, bare-in J K g laid-alike x b)

  -- "Lowering a side's limit takes out the highest lanes": "every other wire keeps its places, though its lane numbers may shrink".
  pub laid-edit : Keeps J K f (laid_left J f s n) laid_stays
  unfolding laid_left
  laid-edit =
      subst (λ (h : Step → ℕ). Keeps J K f h laid_stays) (left-same J f S laid_stays) (alike-keeps J K f S laid_stays laid-alike laid-fits)

  -- the wire of a lane of the side goes exactly if the lane is not below the new limit
  pub laid-goes : (t : Step) → link_of s ≡ t.link → (i : ℕ) (W : OnWire J f (on t i)) → laid_stays W.row W.column ≡ not (leb k i)
  laid-goes t e i W = ap not (lane-high J f (link_of s) k S t e i W)

  -- ".. just enough"
  pub laid-just : (t : Step) → link_of s ≡ t.link → k ≤ f t → laid_left J f s n t ≡ k
  unfolding laid_left
  laid-just t e h = left-is-kept J f S laid_stays t ∙ high-out J f (link_of s) k S t e h

  -- the wires that stay keep their lanes on the side
  pub laid-lanes : (q d i : ℕ) (h : Hop) → T (is_wired J f q d) → laid_stays q d ≡ true → hop_at J f q d i ≡ some h → link_of s ≡ h.step.link
      → hop_at K (laid_left J f s n) q d i ≡ some h
  unfolding laid_left
  laid-lanes q d i h w stays e here =
      ap (λ (u : Step → ℕ). hop_at K u q d i) (sym (left-same J f S laid_stays))
      ∙ (alike-hops J K g laid-alike (kept-sound J f S laid_stays) q d
      (subst T (sym (kept-wired J f S laid_stays q d)) (and_both (is_wired J f q d) (laid_stays q d) w (so stays))) i
      ∙ (kept-hops J f S laid_stays q d w stays i ∙ (ap (carried (stays_for J f S laid_stays)) e ∙ ap (λ (m : ℕ). some (on h.step m)) lane)))
    where
      W : OnWire J f (on h.step h.lane)
      W = record { row = q; column = d; index = i; wired = w; listed = e }

      loaded : h.lane < f h.step
      loaded = wire-loaded J f S q d i h w e

      below : h.lane < k
      below = by (leb k h.lane) refl
        where
          by : (b : Bool) → leb k h.lane ≡ b → h.lane < k
          by true z =
              let c : true ≡ false = sym stays ∙ (laid-goes h.step here h.lane W ∙ ap not z) in
              let y : ◌≡◌ {A = ℕ} 0 1 = cc in
              absurd (omega arith)
          by false z = leb-false k h.lane z

      lane : lane_of (stays_for J f S laid_stays) h.step h.lane ≡ h.lane
      lane = low-lanes J f (link_of s) k S h.step here h.lane below loaded

  -- a count that is no higher takes out none
  pub lower-stays : n ≤ laid_on J s → (q d : ℕ) → T (is_wired J f q d) → laid_stays q d ≡ true
  lower-stays h =
      none-high J f (link_of s) k S (record { link = link_of s; forth = true }) refl
      (omega (arith, S.feasible.limits (record { link = link_of s; forth = true }) (J.O - laid_on J s) (side-limit J s)))

  pub lower-keeps : n ≤ laid_on J s → (t : Step) → laid_left J f s n t ≡ f t
  unfolding laid_left
  lower-keeps h = left-all J f S laid_stays (lower-stays h)
