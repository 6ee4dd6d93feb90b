-- The loaded slots of a spot as bits, slot 0 the lowest: what is left of them from a slot on. Assumes nothing.
use Rattle.std.specs.Prelude.{◌≡◌, refl, ◌≢◌, Bool, true, false, List, ltb}
use Rattle.std.proofs.Common.{sym, ◌∙◌, add-one, ltb-true, ltb-false, pow-add}
use Rattle.std.proofs.Math.Path.{ap}
use Prim.Native.Nat.{ℕ, zero, suc, ◌+◌, ◌-◌, ◌*◌, ◌/◌, ◌%◌, ◌^◌, ◌≤◌, ◌<◌}
use Rattle.std.proofs.Math.Decide.{dec_lt}
use Rattle.std.proofs.Math.Nat.{div-div-eq-div-mul}
use native.Mathlib.Omega.{arith}
use Rattle.sums.specs.Counting.{when}
use Rattle.sums.specs.Lowest.{Lowest}
use Rattle.channel.specs.Map.{view}

-- whether slot k of u is loaded, as a bit
abbrev slot_bit : List ℕ → ℕ → ℕ → ℕ
slot_bit rec u k = when (ltb 0 (view rec (8 * u + k))) 1

-- the last c of the five slots of u
last_slots : List ℕ → ℕ → ℕ → ℕ
last_slots rec u zero = 0
last_slots rec u (suc c) = slot_bit rec u (4 - c) + 2 * last_slots rec u c

-- those from slot k on
pub loaded_from : List ℕ → ℕ → ℕ → ℕ
loaded_from rec u k = last_slots rec u (5 - k)

bit-small : (b : Bool) → when b 1 < 2
bit-small true = omega arith
bit-small false = omega arith

module _ (rec : List ℕ) (u : ℕ) where
  -- no slot is left
  pub from_end : (k : ℕ) → 5 ≤ k → loaded_from rec u k ≡ 0
  unfolding loaded_from last_slots
  from_end k l = let e : 5 - k ≡ 0 = omega arith in ap (last_slots rec u) e

  -- slot k is the lowest bit, and half of it is what is left after slot k
  pub from-slot : (k : ℕ) → k < 5 → loaded_from rec u k ≡ slot_bit rec u k + 2 * loaded_from rec u (k + 1)
  unfolding loaded_from last_slots
  from-slot k l =
      let c : ℕ = 5 - (k + 1) in
      let e : 5 - k ≡ suc c = omega arith in
      let q : 4 - c ≡ k = omega arith in
      ap (last_slots rec u) e ∙ ap (λ (x : ℕ). slot_bit rec u x + 2 * last_slots rec u c) q

  less : (k : ℕ) → loaded_from rec u (k + 1) ≤ loaded_from rec u k
  less k = by (dec_lt k 5)
    where
      by : Dec (k < 5) → loaded_from rec u (k + 1) ≤ loaded_from rec u k
      by (yes l) = omega (arith, from-slot k l)
      by (no n) = omega (arith, from_end (k + 1) (omega arith))

  -- all five
  pub from-five : slot_bit rec u 0 + 2 * slot_bit rec u 1 + 4 * slot_bit rec u 2 + 8 * slot_bit rec u 3 + 16 * slot_bit rec u 4 ≡ loaded_from rec u 0
  from-five =
      let a : loaded_from rec u 0 ≡ slot_bit rec u 0 + 2 * loaded_from rec u 1 = from-slot 0 (omega arith) in
      let b : loaded_from rec u 1 ≡ slot_bit rec u 1 + 2 * loaded_from rec u 2 = from-slot 1 (omega arith) in
      let c : loaded_from rec u 2 ≡ slot_bit rec u 2 + 2 * loaded_from rec u 3 = from-slot 2 (omega arith) in
      let d : loaded_from rec u 3 ≡ slot_bit rec u 3 + 2 * loaded_from rec u 4 = from-slot 3 (omega arith) in
      let e : loaded_from rec u 4 ≡ slot_bit rec u 4 + 2 * loaded_from rec u 5 = from-slot 4 (omega arith) in
      let z : loaded_from rec u 5 ≡ 0 = from_end 5 (omega arith) in
      omega arith

  pub from-small : (k : ℕ) → loaded_from rec u k < 32
  from-small zero = omega (arith, from-five, small 0, small 1, small 2, small 3, small 4)
    where
      small : (k : ℕ) → slot_bit rec u k < 2
      small k = bit-small (ltb 0 (view rec (8 * u + k)))
  from-small (suc k) = omega (arith, from-small k, rw add-one at (less k))

  -- one slot more
  pub from-before : (k r : ℕ) (b : Bool) → 0 < k → k ≤ 5 → r ≡ loaded_from rec u k → b ≡ ltb 0 (view rec (8 * u + (k - 1)))
      → 2 * r + when b 1 ≡ loaded_from rec u (k - 1)
  from-before k r b p l e q =
      let n : k - 1 + 1 ≡ k = omega arith in
      omega (arith, from-slot (k - 1) (omega arith), ap (loaded_from rec u) n, ap (λ (b : Bool). when b 1) q)

  module _ (k : ℕ) where
    -- a slot is left
    pub from_some : loaded_from rec u k ≢ 0 → k < 5
    from_some n = by (dec_lt k 5)
      where
        by : Dec (k < 5) → k < 5
        by (yes l) = l
        by (no o) = absurd (n (from_end k (omega arith)))

    module _ (l : k < 5) where
      pub from-laden : loaded_from rec u k % 2 ≡ 1 → 0 < view rec (8 * u + k)
      from-laden e = by (ltb 0 (view rec (8 * u + k))) refl
        where
          by : (b : Bool) → ltb 0 (view rec (8 * u + k)) ≡ b → 0 < view rec (8 * u + k)
          by true q = ltb-true 0 (view rec (8 * u + k)) q
          by false q = absurd (omega (arith, from-slot k l, ap (λ (b : Bool). when b 1) q))

      pub from-idle : loaded_from rec u k % 2 ≢ 1 → view rec (8 * u + k) ≡ 0
      from-idle n = by (ltb 0 (view rec (8 * u + k))) refl
        where
          by : (b : Bool) → ltb 0 (view rec (8 * u + k)) ≡ b → view rec (8 * u + k) ≡ 0
          by true q = absurd (n (omega (arith, from-slot k l, ap (λ (b : Bool). when b 1) q)))
          by false q = omega (arith, ltb-false 0 (view rec (8 * u + k)) q)

      pub from-half : loaded_from rec u k / 2 ≡ loaded_from rec u (k + 1)
      from-half = omega (arith, from-slot k l, bit-small (ltb 0 (view rec (8 * u + k))))

  half : (k : ℕ) → loaded_from rec u k / 2 ≡ loaded_from rec u (k + 1)
  half k = by (dec_lt k 5)
    where
      by : Dec (k < 5) → loaded_from rec u k / 2 ≡ loaded_from rec u (k + 1)
      by (yes l) = from-half k l
      by (no n) = omega (arith, from_end k (omega arith), from_end (k + 1) (omega arith))

  -- j slots further on
  from-shift : (k j : ℕ) → loaded_from rec u k / 2 ^ j ≡ loaded_from rec u (k + j)
  from-shift k zero = let q : k + 0 ≡ k = omega arith in omega (arith, ap (loaded_from rec u) q)
  from-shift k (suc j) =
      let p : k + j + 1 ≡ k + suc j = omega arith in
      let q : j + 1 ≡ suc j = omega arith in
      ap (λ (x : ℕ). loaded_from rec u k / 2 ^ x) (sym q) ∙ ap (λ (x : ℕ). loaded_from rec u k / x) (pow-add 2 j 1)
      ∙ sym (div-div-eq-div-mul (loaded_from rec u k) (2 ^ j) (2 ^ 1)) ∙ ap (λ (x : ℕ). x / 2) (from-shift k j) ∙ half (k + j) ∙ ap (loaded_from rec u) p

  -- the next loaded slot, by the lowest bit of what is left from slot k on
  module _ (k : ℕ) {left i : ℕ} (e : left ≡ loaded_from rec u k) (w : Lowest left i) where
    pub next-left : left / 2 ^ i ≡ loaded_from rec u (k + i)
    next-left = ap (λ (x : ℕ). x / 2 ^ i) e ∙ from-shift k i

    odd : loaded_from rec u (k + i) % 2 ≡ 1
    odd = ap (λ (x : ℕ). x % 2) (sym next-left) ∙ w.here

    next-slot : k + i < 5
    next-slot = from_some (k + i) (λ z. omega (arith, odd))

    pub next-idle : (j : ℕ) → k ≤ j → j < k + i → view rec (8 * u + j) ≡ 0
    next-idle j l h =
        let q : k + (j - k) ≡ j = omega arith in
        let z : loaded_from rec u j % 2 ≡ 0 =
        ap (λ (x : ℕ). loaded_from rec u x % 2) (sym q) ∙ ap (λ (x : ℕ). x % 2) (sym (from-shift k (j - k)) ∙ ap (λ (x : ℕ). x / 2 ^ (j - k)) (sym e))
        ∙ w.under (j - k) (omega arith) in
        from-idle j (omega (arith, next-slot)) (λ o. omega (arith, z))
