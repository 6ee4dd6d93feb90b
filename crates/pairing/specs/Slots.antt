-- The sequence round a place by the numbers of lanes: on the link of slot k arrive a k lanes, in falling order, and then depart d k, in rising order. Each
-- position is a lane of one slot, or lies past the end. Since each slot starts where the one before it ends. Assumes nothing.
use Rattle.std.specs.Prelude.{◌≡◌, Bool, not}
use Rattle.std.proofs.Math.Path.{refl, ap, ap₂}
use Rattle.std.proofs.Common.{sym, ◌∙◌, arith, not-suc-le-zero}
use Rattle.std.proofs.Math.Bool.{true, false}
use Prim.Native.Nat.{ℕ, zero, suc, ◌+◌, ◌-◌, ◌≤◌, ◌<◌}
use Rattle.std.proofs.Math.Dec.{ltb}
use borrow.Author.Tests.{ltb-true, ltb-false, lt-ltb, le-ltb}
use Rattle.sums.specs.Counting.{when, sum}
use Rattle.sums.specs.Sums.{sum-cong, sum-none, sum-append, sum_ones}
use Rattle.pairing.specs.Perfect.{Even}

-- where slot k starts
abbrev pub start : (ℕ → ℕ) → (ℕ → ℕ) → ℕ → ℕ
start a d k = sum k (λ t. a t + d t)

-- the position of lane i of slot k, arriving and departing
abbrev pub arrival_pos : (ℕ → ℕ) → (ℕ → ℕ) → ℕ → ℕ → ℕ
arrival_pos a d k i = start a d k + (a k - 1 - i)

abbrev pub departure_pos : (ℕ → ℕ) → (ℕ → ℕ) → ℕ → ℕ → ℕ
departure_pos a d k i = start a d k + (a k + i)

-- whether a lane arrives at the position p of the first m slots
unfoldable pub arrives_at : (ℕ → ℕ) → (ℕ → ℕ) → ℕ → ℕ → Bool
arrives_at a d zero p = false
arrives_at a d (suc m) p = elim (ltb p (start a d m)) [ true ↦ arrives_at a d m p | false ↦ ltb p (start a d m + a m) ]

-- what stands at the position p of the first m slots
pub data Spot (a d : ℕ → ℕ) (m p : ℕ) : Type 0 where
  arriving : (k i : ℕ) → k < m → i < a k → p ≡ arrival_pos a d k i → Spot a d m p
  departing : (k i : ℕ) → k < m → i < d k → p ≡ departure_pos a d k i → Spot a d m p
  past : start a d m ≤ p → Spot a d m p

-- a slot lies before each later one
module _ (a d : ℕ → ℕ) where
  pub start-later : (k m : ℕ) → k < m → start a d k + (a k + d k) ≤ start a d m
  unfolding sum
  start-later k zero l = absurd (not-suc-le-zero l)
  start-later k (suc m) l = by (ltb k m) refl (start-later k m)
    where
      by : (b : Bool) → ltb k m ≡ b → (k < m → start a d k + (a k + d k) ≤ start a d m) → start a d k + (a k + d k) ≤ start a d m + (a m + d m)
      by true e r = omega (arith, r (ltb-true k m e))
      by false e r = let q : k ≡ m = omega (arith, ltb-false k m e) in omega (arith, ap (start a d) q, ap a q, ap d q)

  -- every position is one of the three
  pub spot : (m p : ℕ) → Spot a d m p
  unfolding sum
  spot zero p = past (omega arith)
  spot (suc m) p = by (spot m p)
    where
      here : (b c : Bool) → ltb p (start a d m + a m) ≡ b → ltb p (start a d m + (a m + d m)) ≡ c → start a d m ≤ p → Spot a d (suc m) p
      here true c e g h =
          let q = ltb-true p (start a d m + a m) e in
          arriving m (start a d m + a m - 1 - p) (omega arith) (omega arith) (omega arith)
      here false true e g h =
          let q = ltb-false p (start a d m + a m) e in
          let r = ltb-true p (start a d m + (a m + d m)) g in
          departing m (p - (start a d m + a m)) (omega arith) (omega arith) (omega arith)
      here false false e g h = past (ltb-false p (start a d m + (a m + d m)) g)

      by : Spot a d m p → Spot a d (suc m) p
      by (arriving k i l h e) = arriving k i (omega arith) h e
      by (departing k i l h e) = departing k i (omega arith) h e
      by (past h) = here (ltb p (start a d m + a m)) (ltb p (start a d m + (a m + d m))) refl refl h

  -- ---- no two lanes have one position

  pub arrival-one : (k i j q : ℕ) → i < a k → q < a j → arrival_pos a d k i ≡ arrival_pos a d j q → (k ≡ j) × (i ≡ q)
  arrival-one k i j q h g e =
      let n : ¬ (k < j) = λ l. omega (arith, start-later k j l) in
      let m : ¬ (j < k) = λ l. omega (arith, start-later j k l) in
      let s : k ≡ j = omega arith in
      (s, omega (arith, ap a s, ap (start a d) s))

  -- ---- the kind of a position

  before-slot : (m p : ℕ) → p < start a d m → arrives_at a d (suc m) p ≡ arrives_at a d m p
  unfolding arrives_at
  before-slot m p h = rw (lt-ltb p (start a d m) h, arrives_at)

  in-slot : (m p : ℕ) → start a d m ≤ p → arrives_at a d (suc m) p ≡ ltb p (start a d m + a m)
  unfolding arrives_at
  in-slot m p h = rw (le-ltb p (start a d m) h, arrives_at)

  module _ (k : ℕ) where
    -- from its slot on a position keeps its kind
    slot-kind : (m p : ℕ) (b : Bool) → k < m → start a d k ≤ p → p < start a d k + (a k + d k) → ltb p (start a d k + a k) ≡ b → arrives_at a d m p ≡ b
    slot-kind zero p b l s e t = absurd (not-suc-le-zero l)
    slot-kind (suc m) p b l s e t = by (ltb k m) refl (λ h. slot-kind m p b h s e t)
      where
        by : (c : Bool) → ltb k m ≡ c → (k < m → arrives_at a d m p ≡ b) → arrives_at a d (suc m) p ≡ b
        by true g r = let h = ltb-true k m g in before-slot m p (omega (arith, start-later k m h)) ∙ r h
        by false g r =
            let q : k ≡ m = omega (arith, ltb-false k m g) in
            in-slot m p (omega (arith, ap (start a d) q)) ∙ (ap (λ (j : ℕ). ltb p (start a d j + a j)) (sym q) ∙ t)

    pub arrival-kind : (m j : ℕ) → k < m → j < a k → arrives_at a d m (start a d k + j) ≡ true
    arrival-kind m j l h = slot-kind m (start a d k + j) true l (omega arith) (omega arith) (lt-ltb (start a d k + j) (start a d k + a k) (omega arith))

    pub departure-kind : (m i : ℕ) → k < m → i < d k → arrives_at a d m (departure_pos a d k i) ≡ false
    departure-kind m i l h =
        slot-kind m (departure_pos a d k i) false l (omega arith) (omega arith) (le-ltb (departure_pos a d k i) (start a d k + a k) (omega arith))

  pub past-kind : (m p : ℕ) → start a d m ≤ p → arrives_at a d m p ≡ false
  unfolding arrives_at sum
  past-kind zero p h = refl
  past-kind (suc m) p h = in-slot m p (omega arith) ∙ le-ltb p (start a d m + a m) (omega arith)

-- ---- how many positions arrive, and how many depart

module _ (a d : ℕ → ℕ) where
  -- one slot more, counted by what each kind counts
  slot-number : (g : Bool → ℕ) (m : ℕ)
      → sum (start a d (suc m)) (λ p. g (arrives_at a d (suc m) p))
      ≡ sum (start a d m) (λ p. g (arrives_at a d m p)) + (sum (a m) (λ i. g true) + sum (d m) (λ i. g false))
  unfolding sum
  slot-number g m =
      sum-append (start a d m) (a m + d m) (λ p. g (arrives_at a d (suc m) p))
      ∙ (ap₂ ◌+◌
      (sum-cong (start a d m) _ _ (λ p l. ap g (before-slot a d m p l)))
      (sum-append (a m) (d m) (λ i. g (arrives_at a d (suc m) (start a d m + i)))
      ∙ ap₂ ◌+◌
      (sum-cong (a m) _ _ (λ i l. ap g (arrival-kind a d m (suc m) i (omega arith) l)))
      (sum-cong (d m) _ _ (λ i l. ap g (departure-kind a d m (suc m) i (omega arith) l)))))

  pub arrivals-number : (m : ℕ) → sum (start a d m) (λ p. when (arrives_at a d m p) 1) ≡ sum m a
  unfolding sum
  arrivals-number zero = refl
  arrivals-number (suc m) =
      slot-number (λ b. when b 1) m
      ∙ omega (arith, arrivals-number m, sum_ones (a m), sum-none (d m) (λ i. 0) (λ i l. refl))

  pub departures-number : (m : ℕ) → sum (start a d m) (λ p. when (not (arrives_at a d m p)) 1) ≡ sum m d
  unfolding sum
  departures-number zero = refl
  departures-number (suc m) =
      slot-number (λ b. when (not b) 1) m
      ∙ omega (arith, departures-number m, sum_ones (d m), sum-none (a m) (λ i. 0) (λ i l. refl))

  pub slots-even : (m : ℕ) → sum m a ≡ sum m d → Even (arrives_at a d m) (start a d m)
  slots-even m e = arrivals-number m ∙ (e ∙ sym (departures-number m))

-- ---- the first slots decide

module _ (a d b e : ℕ → ℕ) where
  pub start-cong : (m : ℕ) → ((j : ℕ) → j < m → a j ≡ b j) → ((j : ℕ) → j < m → d j ≡ e j) → start a d m ≡ start b e m
  start-cong m f g = sum-cong m _ _ (λ j l. ap₂ ◌+◌ (f j l) (g j l))

  pub arrives-cong : (m : ℕ) → ((j : ℕ) → j < m → a j ≡ b j) → ((j : ℕ) → j < m → d j ≡ e j) → (p : ℕ) → arrives_at a d m p ≡ arrives_at b e m p
  unfolding arrives_at
  arrives-cong zero f g p = refl
  arrives-cong (suc m) f g p = by (ltb p (start a d m)) refl (arrives-cong m (λ j l. f j (omega arith)) (λ j l. g j (omega arith)) p)
    where
      s : start a d m ≡ start b e m
      s = start-cong m (λ j l. f j (omega arith)) (λ j l. g j (omega arith))

      by : (t : Bool) → ltb p (start a d m) ≡ t → arrives_at a d m p ≡ arrives_at b e m p → arrives_at a d (suc m) p ≡ arrives_at b e (suc m) p
      by true h r =
          let l = ltb-true p (start a d m) h in
          before-slot a d m p l ∙ (r ∙ sym (before-slot b e m p (omega (arith, s))))
      by false h r =
          let l = ltb-false p (start a d m) h in
          in-slot a d m p l ∙ (ap₂ (λ (x y : ℕ). ltb p (x + y)) s (f m (omega arith)) ∙ sym (in-slot b e m p (omega (arith, s))))
