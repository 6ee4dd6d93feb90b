-- Document 02, K6: the exclusive-or by bits is the machine's, a number below 2 ^ 32 stays below, and draws never stick: of a number that is not zero none
-- drawn is zero, for an exclusive-or is zero only of equal numbers, and a number below 2 ^ 32 that equals itself shifted is zero. Assumes nothing.
use mathlib.Core.Path.{◌≡◌, refl, sym, ap, ap₂, ◌∙◌}
use mathlib.Core.Logic.{⊎_elim}
use mathlib.Core.List.{Memᴰ}
use Prim.Native.Nat.{ℕ, zero, suc, ◌+◌, ◌*◌, ◌/◌, ◌%◌, ◌^◌, ◌<◌}
use native.Mathlib.Omega.{arith}
use native.Mathlib.Nat.{mod-lt, pow-suc}
use lib.Bits.{bit_xor, differ, xor_lt, xor_step, xor_add_and, and_le_l, and_le_r}
use lib.Dec.{eqb, eqb→eq}
use lib.Pow.{pow_pos}
use Rattle.sums.specs.Tests.{below_or, every, every-at}
use Rattle.model.specs.Trial.{exclusive_or, left, right, mix_left, mix_right, draw, number_after}
use Rattle.model.specs.Examples.{FromOne, numbers_from_one}

-- ---- the first numbers from 1

pub numbers-hold : (x : FromOne) → Memᴰ x numbers_from_one → number_after x.draws 1 ≡ x.number
unfolding every number_after draw mix_left mix_right exclusive_or
numbers-hold x m = eqb→eq _ _ (every-at numbers_from_one (λ y. eqb (number_after y.draws 1) y.number) tt m)

-- ---- the exclusive-or

differ-bits : (x y : ℕ) → x < 2 → y < 2 → differ x y ≡ (x + y) % 2
differ-bits zero y hx hy = omega arith
differ-bits (suc zero) zero hx hy = refl
differ-bits (suc zero) (suc zero) hx hy = refl
differ-bits (suc zero) (suc (suc y)) hx hy = absurd (omega arith)
differ-bits (suc (suc x)) y hx hy = absurd (omega arith)

lowest : (a b : ℕ) → differ (a % 2) (b % 2) ≡ (a + b) % 2
lowest a b = differ-bits (a % 2) (b % 2) (omega arith) (omega arith) ∙ omega arith

pub exclusive-xor : (n a b : ℕ) → a < 2 ^ n → b < 2 ^ n → exclusive_or n a b ≡ bit_xor a b
unfolding exclusive_or
exclusive-xor zero a b ha hb =
    let x : a ≡ 0 = omega arith in
    let y : b ≡ 0 = omega arith in
    sym (ap₂ bit_xor x y)
exclusive-xor (suc n) a b ha hb =
    let x : a / 2 < 2 ^ n = omega (arith, pow-suc 2 n) in
    let y : b / 2 < 2 ^ n = omega (arith, pow-suc 2 n) in
    let e : exclusive_or n (a / 2) (b / 2) ≡ bit_xor (a / 2) (b / 2) = exclusive-xor n (a / 2) (b / 2) x y in
    omega (arith, e, xor_step a b, lowest a b)

left-fits : (k x : ℕ) → left k x < 2 ^ 32
left-fits k x = mod-lt (x * 2 ^ k) (pow_pos 32)

right17-fits : (x : ℕ) → x < 2 ^ 32 → right 17 x < 2 ^ 32
right17-fits x h = omega arith

mix_left-xor : (k x : ℕ) → x < 2 ^ 32 → mix_left k x ≡ bit_xor x (left k x)
unfolding mix_left
mix_left-xor k x h = exclusive-xor 32 x (left k x) h (left-fits k x)

mix_right-xor : (x : ℕ) → x < 2 ^ 32 → mix_right 17 x ≡ bit_xor x (right 17 x)
unfolding mix_right
mix_right-xor x h = exclusive-xor 32 x (right 17 x) h (right17-fits x h)

mix_left-fits : (k x : ℕ) → x < 2 ^ 32 → mix_left k x < 2 ^ 32
mix_left-fits k x h = omega (arith, mix_left-xor k x h, xor_lt 32 x (left k x) h (left-fits k x))

mix_right-fits : (x : ℕ) → x < 2 ^ 32 → mix_right 17 x < 2 ^ 32
mix_right-fits x h = omega (arith, mix_right-xor x h, xor_lt 32 x (right 17 x) h (right17-fits x h))

pub draw-fits : (x : ℕ) → x < 2 ^ 32 → draw x < 2 ^ 32
unfolding draw
draw-fits x h = mix_left-fits 5 _ (mix_right-fits _ (mix_left-fits 13 x h))

-- the draw by the machine's exclusive-or
pub draw-xor : (x a b : ℕ) → x < 2 ^ 32 → a ≡ bit_xor x (left 13 x) → b ≡ bit_xor a (right 17 a) → bit_xor b (left 5 b) ≡ draw x
unfolding draw
draw-xor x a b h p q =
    let u : a ≡ mix_left 13 x = p ∙ sym (mix_left-xor 13 x h) in
    let k : mix_left 13 x < 2 ^ 32 = mix_left-fits 13 x h in
    let v : b ≡ mix_right 17 (mix_left 13 x) = q ∙ (ap (λ (y : ℕ). bit_xor y (right 17 y)) u ∙ sym (mix_right-xor (mix_left 13 x) k)) in
    ap (λ (y : ℕ). bit_xor y (left 5 y)) v ∙ sym (mix_left-xor 5 (mix_right 17 (mix_left 13 x)) (mix_right-fits (mix_left 13 x) k))

-- ---- draws never stick

xor-zero-equal : (x y : ℕ) → bit_xor x y ≡ 0 → x ≡ y
xor-zero-equal x y h = omega (arith, xor_add_and x y, and_le_l x y, and_le_r x y)

multiple-zero : (x y z : ℕ) → x < 2 ^ 32 → x + 2 ^ 32 * z ≡ 2 ^ 32 * y → x ≡ 0
multiple-zero x y z h p = ⊎_elim (λ lt. omega arith) (λ le. omega arith) (below_or z y)

-- (2 ^ 13 − 1) * (2 ^ 26 + 2 ^ 13 + 1) is 2 ^ 39 − 1, so a number that equals itself shifted by 13 is a multiple of 2 ^ 32
left13-fixed-zero : (x : ℕ) → x < 2 ^ 32 → x ≡ left 13 x → x ≡ 0
left13-fixed-zero x h p = multiple-zero x (2 ^ 7 * x) ((2 ^ 26 + 2 ^ 13 + 1) * (x * 2 ^ 13 / 2 ^ 32)) h (omega arith)

-- (2 ^ 5 − 1) * 1108378657 is 2 ^ 35 − 1
left5-fixed-zero : (x : ℕ) → x < 2 ^ 32 → x ≡ left 5 x → x ≡ 0
left5-fixed-zero x h p = multiple-zero x (2 ^ 3 * x) (1108378657 * (x * 2 ^ 5 / 2 ^ 32)) h (omega arith)

right17-fixed-zero : (x : ℕ) → x ≡ right 17 x → x ≡ 0
right17-fixed-zero x p = omega arith

draw-zero : (x : ℕ) → x < 2 ^ 32 → draw x ≡ 0 → x ≡ 0
unfolding draw
draw-zero x h z =
    let a : ℕ = mix_left 13 x in
    let b : ℕ = mix_right 17 a in
    let ha : a < 2 ^ 32 = mix_left-fits 13 x h in
    let hb : b < 2 ^ 32 = mix_right-fits a ha in
    let zb : b ≡ 0 = left5-fixed-zero b hb (xor-zero-equal b (left 5 b) (sym (mix_left-xor 5 b hb) ∙ z)) in
    let za : a ≡ 0 = right17-fixed-zero a (xor-zero-equal a (right 17 a) (sym (mix_right-xor a ha) ∙ zb)) in
    left13-fixed-zero x h (xor-zero-equal x (left 13 x) (sym (mix_left-xor 13 x h) ∙ za))

pub draw-nonzero : (x : ℕ) → x < 2 ^ 32 → 0 < x → 0 < draw x
draw-nonzero x h pos = ⊎_elim (λ lt. lt) (λ le. omega (arith, draw-zero x h (omega arith))) (below_or 0 (draw x))

pub number_after-fits : (k x : ℕ) → x < 2 ^ 32 → number_after k x < 2 ^ 32
unfolding number_after
number_after-fits zero x h = h
number_after-fits (suc k) x h = draw-fits _ (number_after-fits k x h)

pub number_after-nonzero : (k x : ℕ) → x < 2 ^ 32 → 0 < x → 0 < number_after k x
unfolding number_after
number_after-nonzero zero x h pos = pos
number_after-nonzero (suc k) x h pos = draw-nonzero _ (number_after-fits k x h) (number_after-nonzero k x h pos)
