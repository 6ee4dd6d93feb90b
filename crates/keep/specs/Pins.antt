-- Wires taken out of sound loads by their pins: `kept` says of each pin whether its wire stays. A lane stays if the wire that it lies on does. The loads
-- that are left are sound; exactly the wired pins that are kept are wired, and their wires take the same steps. Assumes nothing.
use Rattle.std.specs.Prelude.{◌≡◌, Bool, ◌&&◌, ℕ, suc, ◌≤◌, ◌<◌}
use Rattle.std.proofs.Math.Path.{refl, sym, ap}
use Rattle.std.proofs.Common.{ap₂, subst, ◌∙◌, ltb→lt}
use Rattle.std.proofs.Math.Bool.{true, false}
use mathlib.Core.List.{List, ◌∷◌, Memᴰ}
use Rattle.std.proofs.Math.Option.{some}
use native.Mathlib.Omega.{arith}
use Rattle.std.proofs.Math.Dec.{T, ltb}
use borrow.Author.Tests.{ltb-true, ltb-false, lt-ltb, le-ltb}
use Rattle.sums.specs.Counting.{when, total, count}
use Rattle.sums.specs.Tests.{so, and_left, and_right, and_both, both_ways}
use Rattle.sums.specs.Totals.{total-cong, total-le, total-has}
use Rattle.model.specs.Job.{Job, is_chosen}
use Rattle.model.specs.Links.{pin, Place, at, is_place, is_pin_kind, places, Step, around}
use Rattle.model.specs.Loads.{departures, Sound}
use Rattle.model.specs.Wires.{Hop, onward, hop_at, is_wired, wire_count}
use Rattle.model.proofs.Listed.{step-listed}
use Rattle.wire.specs.Threads.{Thread, thread, wired-chosen}
use Rattle.wire.specs.Apart.{wire-loaded, lane-one}
use Rattle.wire.specs.Filled.{OnWire, lane-wired}
use Rattle.keep.specs.Ranks.{rank_less}
use Rattle.keep.specs.Round.{thinned}
use Rattle.keep.specs.Kept.{Whole, carried, thinned-le, moved-loaded, sound-kept, hops-kept}

-- a sum with one smaller term is smaller
total-lt : {A : Type 0} {x : A} (l : List A) (g f : A → ℕ) → ((y : A) → g y ≤ f y) → Memᴰ x l → g x < f x → total l g < total l f
unfolding total
total-lt {A = A} mathlib.Core.List.[] g f h x4 k = elim x4 [ ]
total-lt (y ∷ l) g f h (Memᴰ.head e) k = omega (arith, ap g e, ap f e, total-le l g f h)
total-lt (y ∷ l) g f h (Memᴰ.tail m) k = omega (arith, h y, total-lt l g f h m k)

module _ (J : Job) (f : Step → ℕ) (S : Sound J f) (kept : ℕ → ℕ → Bool) where
  lane_stays : (h : Hop) (b : Bool) → ltb h.lane (f h.step) ≡ b → Bool
  lane_stays h true e = let W : OnWire J f h = lane-wired J f S h (ltb-true h.lane (f h.step) e) in kept W.row W.column
  lane_stays h false e = false

  -- the hop lies on a wire that stays
  pub stays_for : Hop → Bool
  stays_for h = lane_stays h (ltb h.lane (f h.step)) refl

  pub stays_on : (r c n : ℕ) (h : Hop) → T (is_wired J f r c) → hop_at J f r c n ≡ some h → stays_for h ≡ kept r c
  unfolding stays_for lane_stays
  stays_on r c n h w e = by (ltb h.lane (f h.step)) refl
    where
      by : (b : Bool) (q : ltb h.lane (f h.step) ≡ b) → lane_stays h b q ≡ kept r c
      by true q =
          let W : OnWire J f h = lane-wired J f S h (ltb-true h.lane (f h.step) q) in
          ap (λ (x : Place). kept x.row x.column) (lane-one J f S W.row W.column W.index r c n h W.wired w W.listed e).0
      by false q = absurd (omega (arith, ltb-false h.lane (f h.step) q, wire-loaded J f S r c n h w e))

  pub stays-whole : Whole J f stays_for
  unfolding hop_at
  stays-whole h v l e =
      let W : OnWire J f h = lane-wired J f S h l in
      stays_on W.row W.column (suc W.index) v W.wired (ap (onward J f) W.listed ∙ e)
      ∙ sym (stays_on W.row W.column W.index h W.wired W.listed)

  -- the loads that are left
  unfoldable pub kept_loads : Step → ℕ
  kept_loads = thinned stays_for f

  pub kept-le : (s : Step) → kept_loads s ≤ f s
  unfolding kept_loads
  kept-le = thinned-le stays_for f

  pub kept-sound : Sound J kept_loads
  unfolding kept_loads
  kept-sound = sound-kept J f S stays_for stays-whole

  -- "Every other wire keeps its places, though its lane numbers may shrink": the same steps, on the lanes as they are numbered again.
  pub kept-hops : (r c : ℕ) → T (is_wired J f r c) → kept r c ≡ true → (i : ℕ) → hop_at J kept_loads r c i ≡ carried stays_for (hop_at J f r c i)
  unfolding kept_loads
  kept-hops r c w k = hops-kept J f S stays_for stays-whole r c w (λ h e. stays_on r c 0 h w e ∙ k)

  -- ---- which pins are wired

  -- the first step of a wire is one of the pin's
  first-listed : (r c : ℕ) (t : Thread J f r c) → Memᴰ t.first.step (around (at pin r c))
  first-listed r c t =
      subst (λ (y : Place). Memᴰ t.first.step (around y)) t.from
      (step-listed J t.first.step (subst (λ (y : Place). T (is_place J y)) (sym t.from) t.chosen))

  kept-departs : (r c : ℕ) → T (is_wired J f r c) → kept r c ≡ true → 0 < departures kept_loads (at pin r c)
  unfolding kept_loads departures
  kept-departs r c w k =
      let t : Thread J f r c = thread J f S r c w in
      omega (
        arith,
        moved-loaded stays_for f t.first t.loaded (stays_on r c 0 t.first w t.begins ∙ k),
        total-has (around (at pin r c)) (thinned stays_for f) (first-listed r c t),
      )

  gone-departs : (r c : ℕ) → T (is_wired J f r c) → kept r c ≡ false → departures kept_loads (at pin r c) ≡ 0
  unfolding kept_loads departures thinned
  gone-departs r c w k =
      let t : Thread J f r c = thread J f S r c w in
      let s : Step = t.first.step in
      let one : total (around (at pin r c)) f ≤ 1 = S.feasible.starts r c t.chosen in
      omega (
        arith,
        total-lt (around (at pin r c)) (thinned stays_for f) f (thinned-le stays_for f) (first-listed r c t)
            (rank_less (λ j. stays_for (record { step = s; lane = j })) t.first.lane (f s) t.loaded (stays_on r c 0 t.first w t.begins ∙ k)),
      )

  pub kept-wired : (r c : ℕ) → is_wired J kept_loads r c ≡ (is_wired J f r c && kept r c)
  unfolding is_wired departures
  kept-wired r c = by (is_wired J f r c) refl (kept r c) refl
    where
      chosen : T (is_wired J f r c) → is_chosen J r c ≡ true
      chosen w = both_ways (is_chosen J r c) true (λ t. tt) (λ t. wired-chosen J f r c w)

      by : (a : Bool) → is_wired J f r c ≡ a → (b : Bool) → kept r c ≡ b → is_wired J kept_loads r c ≡ (a && b)
      by true e true k =
          ap₂ ◌&&◌ (chosen (so e)) (lt-ltb 0 (departures kept_loads (at pin r c)) (kept-departs r c (so e) k))
      by true e false k =
          ap₂ ◌&&◌ (chosen (so e)) (le-ltb 0 (departures kept_loads (at pin r c)) (omega (arith, gone-departs r c (so e) k)))
      by false e b k = both_ways (is_wired J kept_loads r c) false (λ t. subst T e (was t)) absurd
        where
          x : Place
          x = at pin r c

          was : T (is_wired J kept_loads r c) → T (is_wired J f r c)
          was t =
              and_both (is_chosen J r c) (ltb 0 (total (around x) f)) (and_left (is_chosen J r c) (ltb 0 (total (around x) kept_loads)) t)
              (so (lt-ltb 0 (total (around x) f)
              (omega (
                arith,
                ltb→lt 0 (total (around x) kept_loads) (and_right (is_chosen J r c) (ltb 0 (total (around x) kept_loads)) t),
                total-le (around x) kept_loads f kept-le,
              ))))

  -- so many wires are left
  pub kept-count : wire_count J kept_loads ≡ count (places J) (λ x. is_pin_kind x && (is_wired J f x.row x.column && kept x.row x.column))
  unfolding wire_count
  kept-count = total-cong (places J) _ _ (λ x. ap (λ (b : Bool). when (is_pin_kind x && b) 1) (kept-wired x.row x.column))
