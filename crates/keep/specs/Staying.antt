-- The definitions of request K5, which have no proof among their arguments: for sound loads the loads of the wires that stay, and meeting a place, are what
-- `Pins` and `Edits` speak of. Assumes nothing.
use Rattle.std.specs.Prelude.{◌≡◌, ◌↔◌, ◌&&◌, ◌||◌, ℕ, ◌+◌, ◌≤◌, ◌<◌, T, eqb, ltb}
use Rattle.std.proofs.Math.Path.{refl, sym, ap, fun_ext}
use Rattle.std.proofs.Common.{ap₂, subst, ◌∙◌, ltb→lt, lt-ltb}
use Rattle.std.proofs.Math.Bool.{Bool, true, false, not}
use Rattle.std.proofs.Math.Option.{Option, none, some}
use native.Mathlib.Omega.{arith}
use Rattle.sums.specs.Counting.{when, sum, total, count}
use Rattle.sums.specs.Tests.{so, and_left, and_right, or-by}
use Rattle.sums.specs.Sums.{when-so, when-none, when-same, when-other, sum-cong, sum-none, sum-pick, sum-swap, sum-some, when-some, sum-le, sum_ones}
use Rattle.sums.specs.Totals.{total-add, total-cong, total-has, total-sum, total-when}
use Rattle.sums.specs.Entries.{none-some, some_one, entry-below}
use Rattle.model.specs.Job.{Job}
use Rattle.model.specs.Links.{pin, Place, at, is_pin_kind, places, same_place, same_step, Step, head}
use Rattle.model.specs.Loads.{Sound}
use Rattle.model.specs.Wires.{Hop, hop_at, is_wired}
use Rattle.model.specs.Left.{hop_passes, hops_most, hop_count, wire_uses, left_loads, meets}
use Rattle.model.proofs.Listed.{place-listed}
use Rattle.model.proofs.Same.{same_place_lem, same-place-eq}
use Rattle.wire.specs.Next.{Loaded}
use Rattle.wire.specs.Lengths.{goes-short}
use Rattle.wire.specs.Threads.{Thread, hops, thread, thread-wire, wired-chosen}
use Rattle.wire.specs.Apart.{wire-loaded, lane-one}
use Rattle.wire.specs.Filled.{OnWire, lane-wired}
use Rattle.wire.specs.Counts.{same_hop, same-hop, same-hop-eq, on, one_lane, lane-once}
use Rattle.wire.specs.Places.{when-drop, places-once}
use Rattle.wire.specs.Bundle.{pin-place}
use Rattle.keep.specs.Round.{thinned}
use Rattle.keep.specs.Pins.{stays_for, stays_on, kept_loads}
use Rattle.keep.specs.Edits.{Meets, starts, comes}

-- the loaded hops by a step are those on its lanes
lane-exact : (f : Step → ℕ) (s : Step) (h : Hop) → Loaded f h → when (same_step s h.step) 1 ≡ sum (f s) (λ i. when (same_hop (on s i) h) 1)
lane-exact f s h l = omega (arith, one_lane f s h l, lane-once f s h)

-- one term of a sum
pub sum-has : (n a : ℕ) (g : ℕ → ℕ) → a < n → g a ≤ sum n g
sum-has n a g l = omega (arith, sum-pick n a g l, sum-le n (λ i. when (eqb a i) (g i)) g (λ i k. when-drop (eqb a i) (g i)))

module _ (J : Job) (f : Step → ℕ) (S : Sound J f) where
  -- the index of a hop is within the sums
  pub hop-below : (r c n : ℕ) (h : Hop) → T (is_wired J f r c) → hop_at J f r c n ≡ some h → n < hops_most J f
  hop-below r c n h w e =
      let t : Thread J f r c = thread J f S r c w in
      omega (
        arith,
        entry-below (hops t) n h (sym (thread-wire J f S r c t n) ∙ e),
        goes-short J f S t.first t.rest t.loaded t.goes,
      )

  -- ---- meeting a place

  or_right : (a b : Bool) → T b → T (a || b)
  or_right true b t = tt
  or_right false b t = t

  or_left : (a b : Bool) → T a → T (a || b)
  or_left true b t = tt
  or_left false b t = absurd t

  pub meets-is : (x : Place) (r c : ℕ) → T (is_wired J f r c) → T (meets J f x r c) ↔ Meets J f r c x
  unfolding meets hop_count
  meets-is x r c w = (there, back)
    where
      there? : Hop → Bool
      there? h = same_place x (head J h.step)

      g : ℕ → ℕ
      g n = when (hop_passes there? (hop_at J f r c n)) 1

      found : (n : ℕ) (o : Option Hop) → hop_at J f r c n ≡ o → T (hop_passes there? o) → Meets J f r c x
      found n none e t = absurd t
      found n (some h) e t = comes n h e (sym (same-place-eq x (head J h.step) t))

      there : T (same_place x (at pin r c) || ltb 0 (sum (hops_most J f) g)) → Meets J f r c x
      there =
          or-by (same_place x (at pin r c)) (ltb 0 (sum (hops_most J f) g)) (λ t. starts (sym (same-place-eq x (at pin r c) t)))
          (λ t. let (n, l, q) = sum-some (hops_most J f) g (ltb→lt 0 (sum (hops_most J f) g) t) in
          found n (hop_at J f r c n) refl (when-some (hop_passes there? (hop_at J f r c n)) 1 q).0)

      back : Meets J f r c x → T (same_place x (at pin r c) || ltb 0 (sum (hops_most J f) g))
      back (starts e) =
          or_left (same_place x (at pin r c)) (ltb 0 (sum (hops_most J f) g)) (subst (λ (y : Place). T (same_place x y)) (sym e) (same_place_lem x))
      back (comes n h e q) = or_right (same_place x (at pin r c)) (ltb 0 (sum (hops_most J f) g)) (so (lt-ltb 0 (sum (hops_most J f) g) more))
        where
          more : 0 < sum (hops_most J f) g
          more =
              omega (
                arith,
                sum-has (hops_most J f) n g (hop-below r c n h w e),
                when-so (hop_passes there? (hop_at J f r c n)) 1
                    (subst (λ (o : Option Hop). T (hop_passes there? o)) (sym e) (subst (λ (y : Place). T (same_place x y)) (sym q) (same_place_lem x))),
              )

  -- ---- the loads of the wires that stay

  abbrev same_at : Hop → Option Hop → ℕ
  same_at h none = 0
  same_at h (some v) = when (same_hop h v) 1

  -- how often the wire of a pin has the lane h
  abbrev lane_uses : Place → Hop → ℕ
  lane_uses x h = sum (hops_most J f) (λ n. same_at h (hop_at J f x.row x.column n))

  wire-lanes : (r c : ℕ) → T (is_wired J f r c) → (s : Step) → wire_uses J f r c s ≡ sum (f s) (λ i. lane_uses (at pin r c) (on s i))
  unfolding hop_count
  wire-lanes r c w s =
      sum-cong (hops_most J f) _ _ (λ n l. by n (hop_at J f r c n) refl) ∙ sum-swap (hops_most J f) (f s) (λ n i. same_at (on s i) (hop_at J f r c n))
    where
      by : (n : ℕ) (o : Option Hop) → hop_at J f r c n ≡ o → when (hop_passes (λ h. same_step s h.step) o) 1 ≡ sum (f s) (λ i. same_at (on s i) o)
      by n none e = sym (sum-none (f s) (λ i. 0) (λ i l. refl))
      by n (some h) e = lane-exact f s h (wire-loaded J f S r c n h w e)

  module _ (h : Hop) (W : OnWire J f h) where
    abbrev home : Place
    home = at pin W.row W.column

    -- the wire of its pin has it once, and no other has it
    lane-uses : (r c : ℕ) → T (is_wired J f r c) → lane_uses (at pin r c) h ≡ when (same_place home (at pin r c)) 1
    lane-uses r c w = by (same_place home (at pin r c)) refl
      where
        N : ℕ
        N = hops_most J f

        by : (b : Bool) → same_place home (at pin r c) ≡ b → lane_uses (at pin r c) h ≡ when b 1
        by true e =
            sum-cong N _ (λ n. when (eqb W.index n) 1) (λ n l. at-index n (hop_at J f r c n) refl)
            ∙ sum-pick N W.index (λ n. 1) (hop-below W.row W.column W.index h W.wired W.listed)
          where
            listed : hop_at J f r c W.index ≡ some h
            listed = ap (λ (x : Place). hop_at J f x.row x.column W.index) (sym (same-place-eq home (at pin r c) (so e))) ∙ W.listed

            at-index : (n : ℕ) (o : Option Hop) → hop_at J f r c n ≡ o → same_at h o ≡ when (eqb W.index n) 1
            at-index n none q = sym (when-other W.index n 1 (λ z. none-some h (sym q ∙ (ap (hop_at J f r c) (sym z) ∙ listed))))
            at-index n (some v) q = hit (same_hop h v) refl
              where
                hit : (b : Bool) → same_hop h v ≡ b → when b 1 ≡ when (eqb W.index n) 1
                hit true z =
                    let m : hop_at J f r c n ≡ some h = q ∙ ap some (sym (same-hop-eq h v (so z))) in
                    sym (when-same W.index n 1 (lane-one J f S r c W.index r c n h w w listed m).1)
                hit false z =
                    sym (when-other W.index n 1
                    (λ y. subst T z (subst (λ (u : Hop). T (same_hop h u)) (some_one h v (sym listed ∙ (ap (hop_at J f r c) y ∙ q))) (same-hop h))))
        by false e = sum-none N _ (λ n l. none-at n (hop_at J f r c n) refl)
          where
            none-at : (n : ℕ) (o : Option Hop) → hop_at J f r c n ≡ o → same_at h o ≡ 0
            none-at n none q = refl
            none-at n (some v) q =
                when-none (same_hop h v) 1
                (λ t. absurd (subst T e (subst (λ (x : Place). T (same_place home x))
                (lane-one J f S W.row W.column W.index r c n h W.wired w W.listed (q ∙ ap some (sym (same-hop-eq h v t)))).0
                (same_place_lem home))))

    home-once : count (places J) (same_place home) ≡ 1
    home-once =
        omega (
          arith,
          places-once J home,
          total-has (places J) (λ x. when (same_place home x) 1) (place-listed J home (wired-chosen J f W.row W.column W.wired)),
          when-so (same_place home home) 1 (same_place_lem home),
        )

    module _ (stays : ℕ → ℕ → Bool) where
      lane-at : (x : Place) → when (is_pin_kind x && (is_wired J f x.row x.column && stays x.row x.column)) (lane_uses x h)
          ≡ when (stays W.row W.column) (when (same_place home x) 1)
      lane-at x = by (is_pin_kind x) refl (is_wired J f x.row x.column) refl (same_place home x) refl
        where
          nothing : (b : Bool) → 0 ≡ when b 0
          nothing true = refl
          nothing false = refl

          used : is_pin_kind x ≡ true → is_wired J f x.row x.column ≡ true → lane_uses x h ≡ when (same_place home x) 1
          used e d = lane-uses x.row x.column (so d) ∙ ap (λ (y : Place). when (same_place home y) 1) (pin-place x (so e))

          by : (p : Bool) → is_pin_kind x ≡ p → (w : Bool) → is_wired J f x.row x.column ≡ w → (b : Bool) → same_place home x ≡ b
              → when (p && (w && stays x.row x.column)) (lane_uses x h) ≡ when (stays W.row W.column) (when b 1)
          by true e true d true q =
              let z : home ≡ x = same-place-eq home x (so q) in
              ap₂ when (ap (λ (y : Place). stays y.row y.column) (sym z)) (used e d ∙ ap (λ (b : Bool). when b 1) q)
          by true e false d true q =
              absurd (subst T d (subst (λ (y : Place). T (is_wired J f y.row y.column)) (same-place-eq home x (so q)) W.wired))
          by false e w d true q = absurd (subst T e (subst (λ (y : Place). T (is_pin_kind y)) (same-place-eq home x (so q)) tt))
          by true e true d false q =
              ap (when (stays x.row x.column)) (used e d ∙ ap (λ (b : Bool). when b 1) q)
              ∙ (sym (nothing (stays x.row x.column)) ∙ nothing (stays W.row W.column))
          by true e false d false q = nothing (stays W.row W.column)
          by false e w d false q = nothing (stays W.row W.column)

      lane-total : total (places J) (λ x. when (is_pin_kind x && (is_wired J f x.row x.column && stays x.row x.column)) (lane_uses x h))
          ≡ when (stays W.row W.column) 1
      lane-total =
          total-cong (places J) _ _ lane-at
          ∙ (total-when (stays W.row W.column) (places J) (λ x. when (same_place home x) 1) ∙ ap (when (stays W.row W.column)) home-once)

  pub left-is-kept : (stays : ℕ → ℕ → Bool) (s : Step) → left_loads J f stays s ≡ kept_loads J f S stays s
  unfolding left_loads kept_loads thinned
  left-is-kept stays s =
      total-cong (places J) _ _ (λ x. lanes x)
      ∙ (total-sum (places J) (f s) (λ x i. when (is_pin_kind x && (is_wired J f x.row x.column && stays x.row x.column)) (lane_uses x (on s i)))
      ∙ sum-cong (f s) _ _ (λ i l. each i l))
    where
      lanes : (x : Place) → when (is_pin_kind x && (is_wired J f x.row x.column && stays x.row x.column)) (wire_uses J f x.row x.column s)
          ≡ sum (f s) (λ i. when (is_pin_kind x && (is_wired J f x.row x.column && stays x.row x.column)) (lane_uses x (on s i)))
      lanes x = by (is_pin_kind x && (is_wired J f x.row x.column && stays x.row x.column)) refl
        where
          by : (b : Bool) → (is_pin_kind x && (is_wired J f x.row x.column && stays x.row x.column)) ≡ b
              → when b (wire_uses J f x.row x.column s) ≡ sum (f s) (λ i. when b (lane_uses x (on s i)))
          by true e =
              wire-lanes x.row x.column
              (and_left (is_wired J f x.row x.column) (stays x.row x.column)
              (and_right (is_pin_kind x) (is_wired J f x.row x.column && stays x.row x.column) (so e))) s
          by false e = sym (sum-none (f s) (λ i. 0) (λ i l. refl))

      each : (i : ℕ) → i < f s
          → total (places J) (λ x. when (is_pin_kind x && (is_wired J f x.row x.column && stays x.row x.column)) (lane_uses x (on s i)))
          ≡ when (stays_for J f S stays (on s i)) 1
      each i l =
          let W : OnWire J f (on s i) = lane-wired J f S (on s i) l in
          lane-total (on s i) W stays
          ∙ ap (λ (b : Bool). when b 1) (sym (stays_on J f S stays W.row W.column W.index (on s i) W.wired W.listed))

  pub left-same : (stays : ℕ → ℕ → Bool) → kept_loads J f S stays ≡ left_loads J f stays
  left-same stays = fun_ext (λ s. sym (left-is-kept stays s))

  -- where all wires stay, the loads do
  pub left-all : (stays : ℕ → ℕ → Bool) → ((q d : ℕ) → T (is_wired J f q d) → stays q d ≡ true) → (s : Step) → left_loads J f stays s ≡ f s
  unfolding kept_loads thinned
  left-all stays h s =
      left-is-kept stays s
      ∙ (sum-cong (f s) (λ i. when (stays_for J f S stays (on s i)) 1) (λ i. 1) (λ i l. one i l) ∙ sum_ones (f s))
    where
      one : (i : ℕ) → i < f s → when (stays_for J f S stays (on s i)) 1 ≡ 1
      one i l =
          let W : OnWire J f (on s i) = lane-wired J f S (on s i) l in
          ap (λ (b : Bool). when b 1)
          (stays_on J f S stays W.row W.column W.index (on s i) W.wired W.listed ∙ h W.row W.column W.wired)

  -- the loads are those of the wires that stay and of those that go
  pub left-part : (stays : ℕ → ℕ → Bool) (s : Step) → left_loads J f stays s + left_loads J f (λ q d. not (stays q d)) s ≡ f s
  unfolding left_loads
  left-part stays s =
      sym (total-add (places J) (λ x. when (is_pin_kind x && (is_wired J f x.row x.column && stays x.row x.column)) (wire_uses J f x.row x.column s))
      (λ x. when (is_pin_kind x && (is_wired J f x.row x.column && not (stays x.row x.column))) (wire_uses J f x.row x.column s)))
      ∙ (total-cong (places J) _ _
      (λ x. one-or-other (is_pin_kind x) (is_wired J f x.row x.column) (stays x.row x.column) (wire_uses J f x.row x.column s))
      ∙ left-all (λ q d. true) (λ q d w. refl) s)
    where
      one-or-other : (p w b : Bool) (n : ℕ) → when (p && (w && b)) n + when (p && (w && not b)) n ≡ when (p && (w && true)) n
      one-or-other true true true n = omega arith
      one-or-other true true false n = omega arith
      one-or-other true false b n = refl
      one-or-other false w b n = refl
