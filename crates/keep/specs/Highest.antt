-- Request K5: "Lowering a side's limit takes out the highest lanes, just enough." The wires on the lanes of a link from the k-th on go: then the link has k
-- wires, on the lanes that they had. For a wire goes by a step once, since it meets no place twice. Assumes nothing.
use Rattle.std.specs.Prelude.{◌≡◌, Bool, true, false, not, ◌&&◌, List, [], ◌∷◌, ℕ, zero, suc, ◌+◌, ◌≤◌, ◌<◌, leb}
use Rattle.std.proofs.Math.Path.{refl, ap}
use Rattle.std.proofs.Common.{sym, subst, ◌∙◌, ltb→lt, leb→le, lt-ltb, le-leb, leb-true, leb-false}
use Rattle.std.proofs.Math.Option.{Option, none, some}
use native.Mathlib.Omega.{arith}
use Rattle.std.proofs.Math.Dec.{T}
use Rattle.std.proofs.Math.ListN.{get_elem?}
use Rattle.std.proofs.lemmas.Bool.{lt-leb}
use Rattle.sums.specs.Counting.{when, sum, total, count}
use Rattle.sums.specs.Tests.{so, and_left, and_right, and_both, both_ways}
use Rattle.sums.specs.Sums.{when-so, sum-cong, sum_ones, sum-widen, sum-some, when-some}
use Rattle.sums.specs.Totals.{total-has, total-map}
use Rattle.sums.specs.Entries.{none-some, some_one, entry-member}
use Rattle.model.specs.Job.{Job}
use Rattle.model.specs.Links.{Place, same_place, Link, same_link, Step, head, turn}
use Rattle.model.specs.Loads.{Sound}
use Rattle.model.specs.Wires.{Hop, hop_at, is_wired}
use Rattle.model.specs.Left.{hop_passes, hops_most, hop_count, has_lane}
use Rattle.model.proofs.Same.{same_place_lem, same-link, same-link-eq}
use Rattle.wire.specs.Threads.{Thread, hops, thread, thread-wire, thread-once}
use Rattle.wire.specs.Apart.{wire-loaded}
use Rattle.wire.specs.Filled.{OnWire, lane-wired}
use Rattle.wire.specs.Counts.{on}
use Rattle.keep.specs.Round.{lane_of, thinned}
use Rattle.keep.specs.Pins.{stays_for, stays_on, kept_loads, kept-le}
use Rattle.keep.specs.Staying.{sum-has, hop-below}

-- an entry that passes a test which at most one entry passes stands at one index
one_index : {A : Type 0} (l : List A) (p : A → Bool) (m n : ℕ) (a b : A) → count l p ≤ 1 → get_elem? l m ≡ some a → get_elem? l n ≡ some b → T (p a) → T (p b)
    → m ≡ n
unfolding total
one_index [] p m n a b h e k t u = absurd (none-some a e)
one_index (x ∷ l) p zero zero a b h e k t u = refl
one_index {A} (x ∷ l) p zero (suc n) a b h e k t u =
    let q : x ≡ a = some_one x a e in
    absurd (omega (
      arith,
      when-so (p x) 1 (subst (λ (y : A). T (p y)) (sym q) t),
      total-has l (λ y. when (p y) 1) (entry-member l n b k),
      when-so (p b) 1 u,
    ))
one_index {A} (x ∷ l) p (suc m) zero a b h e k t u =
    let q : x ≡ b = some_one x b k in
    absurd (omega (
      arith,
      when-so (p x) 1 (subst (λ (y : A). T (p y)) (sym q) u),
      total-has l (λ y. when (p y) 1) (entry-member l m a e),
      when-so (p a) 1 t,
    ))
one_index (x ∷ l) p (suc m) (suc n) a b h e k t u = ap suc (one_index l p m n a b (omega arith) e k t u)

module _ (J : Job) (f : Step → ℕ) (S : Sound J f) where
  -- a wire goes by a step once
  step-once : (q d m n : ℕ) (u v : Hop) → T (is_wired J f q d) → hop_at J f q d m ≡ some u → hop_at J f q d n ≡ some v → u.step ≡ v.step → m ≡ n
  step-once q d m n u v w a b e =
      let t : Thread J f q d = thread J f S q d w in
      let x : Place = head J u.step in
      one_index (hops t) (λ h. same_place x (head J h.step)) m n u v
      (omega (arith, thread-once J f S q d t x, total-map (λ (h : Hop). h.step) (hops t) (λ z. when (same_place x (head J z)) 1)))
      (sym (thread-wire J f S q d t m) ∙ a) (sym (thread-wire J f S q d t n) ∙ b) (same_place_lem x)
      (subst (λ (z : Step). T (same_place x (head J z))) e (same_place_lem x))

  -- two loaded steps of one link are one
  one_way_lem : (s t : Step) → s.link ≡ t.link → 0 < f s → 0 < f t → s ≡ t
  one_way_lem s t e a b = by s.forth refl t.forth refl
    where
      same : (b : Bool) → s.forth ≡ b → t.forth ≡ b → s ≡ t
      same b p q = λ i. record { link = e i; forth = (p ∙ sym q) i }

      against : turn s ≡ t → s ≡ t
      against p = absurd (omega (arith, S.feasible.one_way s a, ap f p))

      by : (x : Bool) → s.forth ≡ x → (y : Bool) → t.forth ≡ y → s ≡ t
      by true p true q = same true p q
      by false p false q = same false p q
      by true p false q = against (λ i. record { link = e i; forth = (ap not p ∙ sym q) i })
      by false p true q = against (λ i. record { link = e i; forth = (ap not p ∙ sym q) i })

module _ (J : Job) (f : Step → ℕ) (l : Link) (k : ℕ) where
  abbrev high : Hop → Bool
  high h = same_link l h.step.link && leb k h.lane

  abbrev pub stays_low : ℕ → ℕ → Bool
  stays_low q d = not (has_lane J f l k q d)

  module _ (S : Sound J f) where
    -- a wire on one of the lanes has a hop there
    on-lane : (q d : ℕ) → T (has_lane J f l k q d) → (n : ℕ) × (h : Hop) × (hop_at J f q d n ≡ some h) × T (high h)
    unfolding has_lane hop_count
    on-lane q d t =
        let (n, b, p) = sum-some (hops_most J f) (λ n. when (hop_passes high (hop_at J f q d n)) 1)
        (ltb→lt 0 (sum (hops_most J f) (λ n. when (hop_passes high (hop_at J f q d n)) 1)) t) in
        found n (hop_at J f q d n) refl (when-some (hop_passes high (hop_at J f q d n)) 1 p).0
      where
        found : (n : ℕ) (o : Option Hop) → hop_at J f q d n ≡ o → T (hop_passes high o)
            → (n : ℕ) × (h : Hop) × (hop_at J f q d n ≡ some h) × T (high h)
        found n none e t = absurd t
        found n (some h) e t = (n, h, e, t)

    has-lane : (q d n : ℕ) (h : Hop) → T (is_wired J f q d) → hop_at J f q d n ≡ some h → T (high h) → T (has_lane J f l k q d)
    unfolding has_lane hop_count
    has-lane q d n h w e t =
        so (lt-ltb 0 (sum (hops_most J f) (λ n. when (hop_passes high (hop_at J f q d n)) 1))
        (omega (
          arith,
          sum-has (hops_most J f) n (λ n. when (hop_passes high (hop_at J f q d n)) 1) (hop-below J f S q d n h w e),
          when-so (hop_passes high (hop_at J f q d n)) 1 (subst (λ (o : Option Hop). T (hop_passes high o)) (sym e) t),
        )))

    module _ (s : Step) (of : l ≡ s.link) where
      -- "exactly the wires on lanes at or above the new limit go"
      pub lane-high : (i : ℕ) (W : OnWire J f (on s i)) → has_lane J f l k W.row W.column ≡ leb k i
      lane-high i W = both_ways (has_lane J f l k W.row W.column) (leb k i) to back
        where
          q : ℕ
          q = W.row

          d : ℕ
          d = W.column

          loaded : i < f s
          loaded = wire-loaded J f S q d W.index (on s i) W.wired W.listed

          to : T (has_lane J f l k q d) → T (leb k i)
          to t =
              let (n, h, e, u) = on-lane q d t in
              let z : s.link ≡ h.step.link = sym of ∙ same-link-eq l h.step.link (and_left (same_link l h.step.link) (leb k h.lane) u) in
              let there : h.lane < f h.step = wire-loaded J f S q d n h W.wired e in
              let y : s ≡ h.step = one_way_lem J f S s h.step z (omega (arith, loaded)) (omega (arith, there)) in
              let m : W.index ≡ n = step-once J f S q d W.index n (on s i) h W.wired W.listed e y in
              let p : on s i ≡ h = some_one (on s i) h (sym W.listed ∙ (ap (hop_at J f q d) m ∙ e)) in
              subst (λ (v : Hop). T (leb k v.lane)) (sym p) (and_right (same_link l h.step.link) (leb k h.lane) u)

          back : T (leb k i) → T (has_lane J f l k q d)
          back t =
              has-lane q d W.index (on s i) W.wired W.listed
              (and_both (same_link l s.link) (leb k i) (subst (λ (m : Link). T (same_link l m)) of (same-link l)) t)

      lane-stays : (i : ℕ) → i < f s → stays_for J f S stays_low (on s i) ≡ not (leb k i)
      lane-stays i b =
          let W : OnWire J f (on s i) = lane-wired J f S (on s i) b in
          stays_on J f S stays_low W.row W.column W.index (on s i) W.wired W.listed ∙ ap not (lane-high i W)

      low : (i : ℕ) → i < k → when (not (leb k i)) 1 ≡ 1
      low i b = ap (λ (b : Bool). when (not b) 1) (lt-leb k i b)

      -- "just enough": k wires are left on the link
      pub high-out : k ≤ f s → kept_loads J f S stays_low s ≡ k
      unfolding kept_loads thinned
      high-out h =
          sum-cong (f s) _ (λ i. when (not (leb k i)) 1) (λ i b. ap (λ (b : Bool). when b 1) (lane-stays i b))
          ∙ (sum-widen k (f s) (λ i. when (not (leb k i)) 1) h (λ i a b. ap (λ (b : Bool). when (not b) 1) (le-leb k i a))
          ∙ (sum-cong k (λ i. when (not (leb k i)) 1) (λ i. 1) low ∙ sum_ones k))

      pub high-most : kept_loads J f S stays_low s ≤ k
      high-most = by (leb k (f s)) refl
        where
          by : (b : Bool) → leb k (f s) ≡ b → kept_loads J f S stays_low s ≤ k
          by true e = omega (arith, high-out (leb-true k (f s) e))
          by false e = omega (arith, kept-le J f S stays_low s, leb-false k (f s) e)

      -- on the lanes that they had
      pub low-lanes : (i : ℕ) → i < k → i < f s → lane_of (stays_for J f S stays_low) s i ≡ i
      low-lanes i b h =
          sum-cong i _ (λ j. 1) (λ j m. ap (λ (b : Bool). when b 1) (lane-stays j (omega arith)) ∙ low j (omega arith)) ∙ sum_ones i

    -- both ways together
    pub link-most : (s : Step) → l ≡ s.link → kept_loads J f S stays_low s + kept_loads J f S stays_low (turn s) ≤ k
    link-most s of = by (f s) refl
      where
        by : (n : ℕ) → f s ≡ n → kept_loads J f S stays_low s + kept_loads J f S stays_low (turn s) ≤ k
        by zero e = omega (arith, kept-le J f S stays_low s, high-most (turn s) of)
        by (suc n) e = omega (arith, high-most s of, kept-le J f S stays_low (turn s), S.feasible.one_way s (omega arith))

    -- no wire has one of the lanes where the loads of both ways are within the limit
    pub none-high : (s : Step) → l ≡ s.link → f s + f (turn s) ≤ k → (q d : ℕ) → T (is_wired J f q d) → stays_low q d ≡ true
    none-high s of h q d w = by (has_lane J f l k q d) refl
      where
        by : (b : Bool) → has_lane J f l k q d ≡ b → not b ≡ true
        by false e = refl
        by true e =
            let (n, v, g, t) = on-lane q d (so e) in
            let z : s.link ≡ v.step.link = sym of ∙ same-link-eq l v.step.link (and_left (same_link l v.step.link) (leb k v.lane) t) in
            let b : v.lane < f v.step = wire-loaded J f S q d n v w g in
            let c : k ≤ v.lane = leb→le k v.lane (and_right (same_link l v.step.link) (leb k v.lane) t) in
            absurd (omega (arith, either s v.step z))
          where
            either : (s t : Step) → s.link ≡ t.link → f t ≤ f s + f (turn s)
            either s t e = way s.forth refl t.forth refl
              where
                load-as : (u : Step) → u ≡ t → f t ≡ f u
                load-as u p = ap f (sym p)

                way : (x : Bool) → s.forth ≡ x → (y : Bool) → t.forth ≡ y → f t ≤ f s + f (turn s)
                way true p true q = omega (arith, load-as s (λ i. record { link = e i; forth = (p ∙ sym q) i }))
                way false p false q = omega (arith, load-as s (λ i. record { link = e i; forth = (p ∙ sym q) i }))
                way true p false q = omega (arith, load-as (turn s) (λ i. record { link = e i; forth = (ap not p ∙ sym q) i }))
                way false p true q = omega (arith, load-as (turn s) (λ i. record { link = e i; forth = (ap not p ∙ sym q) i }))
