-- Of the slots of a spot that are wanted, those along which the search may move, as the bits of a number: by the spot's kind, what each slot comes to.
-- Assumes nothing.
use Rattle.std.specs.Prelude.{◌≡◌, refl, ◌≢◌, Bool, true, false, ◌&&◌, ◌||◌, List, ℕ, min, ◌+◌, ◌*◌, ◌/◌, ◌%◌, ◌^◌, ◌≤◌, ◌<◌, T, eqb, leb, ltb}
use Rattle.std.proofs.Common.{sym, ap, ap₂, subst, ◌∙◌, inl, inr, arith, ltb-false}
use Rattle.std.specs.Int.Bits.{bit_and}
use Rattle.sums.specs.Counting.{when}
use Rattle.model.specs.Job.{Job, is_open}
use Rattle.model.specs.Record.{load}
use Rattle.channel.specs.Map.{darts, in_grid, row_of, column_of, code_of, owner_cell, step_of, place_of, cap, free, opposed, moves}
use Rattle.channel.specs.Map.Bools.{between}
use Rattle.channel.specs.Map.Caps.{cap-corner}
use Rattle.channel.specs.Map.Kinds.{centre-code, slot-code, link-place, back-load}
use Rattle.channel.specs.Map.Laden.{place-bound}
use Rattle.channel.specs.Map.Moving.{plain-moves, spoke-moves, into-moves, link-back-moves, centre-back-moves, none_moves, through_centre}
use Rattle.channel.specs.Map.Numbers.{is-dart}
use Rattle.channel.specs.Map.Packed.{SlotWords, not_least}
use Rattle.slots.specs.Ahead.{Bits, by-eight, bits-among}

-- ---- tests as bits

-- r is the test b as a bit
abbrev pub Bit : Bool → ℕ → Type 0
Bit b r = (r ≡ when b 1) × (r < 2)

-- where o is 1, r is the test b as a bit
abbrev Asked : ℕ → Bool → ℕ → Type 0
Asked o b r = (o ≡ 1 → r ≡ when b 1) × (r < 2)

-- a test that is known by another where it is asked for, or everywhere, or known to fail
asked-test : {o : ℕ} {a b : Bool} {r : ℕ} → (o ≡ 1 → a ≡ b) → Bit a r → Asked o b r
asked-test e (f, l) = (λ z. f ∙ ap (λ (b : Bool). when b 1) (e z), l)

by-test : {o : ℕ} {a b : Bool} {r : ℕ} → a ≡ b → Bit a r → Asked o b r
by-test e = asked-test (λ _. e)

no_test : {o : ℕ} {b : Bool} → false ≡ b → Asked o b 0
no_test e = (λ _. ap (λ (b : Bool). when b 1) e, omega arith)

-- of eight tests those that w asks for
eight-tests : (f : ℕ → Bool) (w : ℕ) {a b c d e g h i : ℕ} → Asked (w / 2 ^ 0 % 2) (f 0) a → Asked (w / 2 ^ 1 % 2) (f 1) b → Asked (w / 2 ^ 2 % 2) (f 2) c
    → Asked (w / 2 ^ 3 % 2) (f 3) d
    → Asked (w / 2 ^ 4 % 2) (f 4) e
    → Asked (w / 2 ^ 5 % 2) (f 5) g
    → Asked (w / 2 ^ 6 % 2) (f 6) h
    → Asked (w / 2 ^ 7 % 2) (f 7) i
    → {r : ℕ} → r ≡ a + 2 * b + 4 * c + 8 * d + 16 * e + 32 * g + 64 * h + 128 * i → Bits 8 (λ k. min (w / 2 ^ k % 2) (when (f k) 1)) (bit_and w r)
eight-tests f w (ea, la) (eb, lb) (ec, lc) (ed, ld) (ee, le) (eg, lg) (eh, lh) (ei, li) {r} q =
    bits-among w (omega arith)
    (by-eight (λ k. w / 2 ^ k % 2 ≡ 1 → r / 2 ^ k % 2 ≡ when (f k) 1) (λ o. omega arith ∙ ea o) (λ o. omega arith ∙ eb o) (λ o. omega arith ∙ ec o)
    (λ o. omega arith ∙ ed o) (λ o. omega arith ∙ ee o) (λ o. omega arith ∙ eg o) (λ o. omega arith ∙ eh o) (λ o. omega arith ∙ ei o))

-- the same darts, from another number that is the first
pub bits-from : (g : ℕ → ℕ → ℕ) {a b r : ℕ} → a ≡ b → Bits 8 (λ k. g k (a + k)) r → Bits 8 (λ k. g k (b + k)) r
bits-from g {a} {b} {r} e t = subst (λ (x : ℕ). Bits 8 (λ k. g k (x + k)) r) e t

-- a spot that is no pin, in a cell that has all its neighbours
pub inner : (x k : ℕ) → ((ltb x 41 || leb 1600 x) || ltb k 2) ≡ false → (41 ≤ x) × (x < 1600) × (2 ≤ k)
inner x k e = by (ltb x 41 || leb 1600 x) refl (ltb k 2) refl e
  where
    by : (a : Bool) → (ltb x 41 || leb 1600 x) ≡ a → (b : Bool) → ltb k 2 ≡ b → (a || b) ≡ false → (41 ≤ x) × (x < 1600) × (2 ≤ k)
    by true p b q z = absurd (subst T z tt)
    by false p true q z = absurd (subst T z tt)
    by false p false q z = let (l, m) = between x 41 1600 p in (l, m, ltb-false k 2 q)

-- ---- the slots of a centre

module _ (J : Job) (rec : List ℕ) (d : ℕ) where
  -- a slot that leads back along a link
  link-slot : (c : ℕ) → d < 105024 → code_of (d % 64) ≡ c → 8 < c → c < 15 → c ≢ 11 → c ≢ 14 → {n : ℕ} → n ≡ opposed rec d → ltb 0 n ≡ moves J rec d
  link-slot c l e h m p q {n} f = link-back-moves J rec d (is-dart l) (omega arith) (omega arith) (λ z. p (sym e ∙ z)) (λ z. q (sym e ∙ z)) n f

-- the code of a spoke that leaves the exit, as a test
pub spoke-code : {n : ℕ} → n ≡ 4 → T (eqb n 3 || eqb n 4)
spoke-code e = subst (λ (n : ℕ). T (eqb n 3 || eqb n 4)) (sym e) tt

module _ (J : Job) (rec : List ℕ) (w d : ℕ) (l : d + 7 < 105024) where
  pub entry-bits : d % 64 ≡ 48 → {a b c e p m n r s : ℕ} {t : Bool} → m ≡ opposed rec d → n ≡ opposed rec (d + 1) → r ≡ opposed rec (d + 2)
      → s ≡ opposed rec (d + 3)
      → t ≡ moves J rec (d + 4)
      → Bit (ltb 0 m) a
      → Bit (ltb 0 n) b
      → Bit (ltb 0 r) c
      → Bit (ltb 0 s) e
      → Bit t p
      → Bits 8 (λ k. min (w / 2 ^ k % 2) (when (moves J rec (d + k)) 1)) (bit_and w (a + 2 * b + 4 * c + 8 * e + 16 * p))
  entry-bits z f g h i q u v s x y =
      eight-tests (λ k. moves J rec (d + k)) w (by-test (link-slot J rec d 9 (omega arith) (centre-code d 0 (omega arith) (omega arith)) (omega arith) (omega arith) (omega arith) (omega arith) f ∙ ap (moves J rec) (omega arith)) u)
      (by-test (link-slot J rec (d + 1) 9 (omega arith) (centre-code (d + 1) 1 (omega arith) (omega arith)) (omega arith) (omega arith) (omega arith) (omega arith) g) v)
      (by-test (link-slot J rec (d + 2) 9 (omega arith) (centre-code (d + 2) 2 (omega arith) (omega arith)) (omega arith) (omega arith) (omega arith) (omega arith) h) s)
      (by-test (link-slot J rec (d + 3) 9 (omega arith) (centre-code (d + 3) 3 (omega arith) (omega arith)) (omega arith) (omega arith) (omega arith) (omega arith) i) x)
      (by-test q y) (no_test (none_moves J rec (d + 5) (is-dart (omega arith)) (centre-code (d + 5) 5 (omega arith) (omega arith))))
      (no_test (none_moves J rec (d + 6) (is-dart (omega arith)) (centre-code (d + 6) 6 (omega arith) (omega arith))))
      (no_test (none_moves J rec (d + 7) (is-dart (omega arith)) (centre-code (d + 7) 7 (omega arith) (omega arith)))) (omega arith)

  pub exit-bits : d % 64 ≡ 56 → {a b c e p : ℕ} {m n r s t : Bool} → m ≡ moves J rec d → n ≡ moves J rec (d + 1) → r ≡ moves J rec (d + 2)
      → s ≡ moves J rec (d + 3)
      → t ≡ through_centre rec ((d + 5) / 64)
      → Bit m a
      → Bit n b
      → Bit r c
      → Bit s e
      → Bit t p
      → Bits 8 (λ k. min (w / 2 ^ k % 2) (when (moves J rec (d + k)) 1)) (bit_and w (a + 2 * b + 4 * c + 8 * e + 32 * p))
  exit-bits z {t = t} f g h i q u v s x y =
      eight-tests (λ k. moves J rec (d + k)) w (by-test (f ∙ ap (moves J rec) (omega arith)) u) (by-test g v) (by-test h s) (by-test i x)
      (no_test (none_moves J rec (d + 4) (is-dart (omega arith)) (centre-code (d + 4) 12 (omega arith) (omega arith))))
      (by-test (centre-back-moves J rec (d + 5) (is-dart (omega arith)) (centre-code (d + 5) 13 (omega arith) (omega arith)) t q) y)
      (no_test (none_moves J rec (d + 6) (is-dart (omega arith)) (centre-code (d + 6) 14 (omega arith) (omega arith))))
      (no_test (none_moves J rec (d + 7) (is-dart (omega arith)) (centre-code (d + 7) 15 (omega arith) (omega arith)))) (omega arith)

-- ---- the slots of n, e, s and w

-- fewer wires than most go along the dart's link its way, or some the other way
abbrev pub has_room : List ℕ → ℕ → ℕ → Bool
has_room rec d most = ltb (when (in_grid (owner_cell d)) (load rec (step_of d))) most || ltb 0 (opposed rec d)

-- of the slots of u that are wanted r has the moves: across is known where slot 0 is wanted, and pin where slot 4 is
abbrev pub PlaceSlots : List ℕ → ℕ → ℕ → ℕ → Bool → Bool → ℕ → Type 0
PlaceSlots rec u across half centre pin r =
    (J : Job) (wanted : ℕ) → (wanted % 2 ≡ 1 → across ≡ cap J (8 * u)) → half ≡ cap J (8 * u + 1) → centre ≡ free J (8 * u + 2)
    → (wanted / 16 % 2 ≡ 1 → pin ≡ free J (8 * u + 4)) → Bits 8 (λ k. min (wanted / 2 ^ k % 2) (when (moves J rec (8 * u + k)) 1)) (bit_and wanted r)

-- the last kind is the one that is none of the others
pub from-five : (k : ℕ) → 2 ≤ k → k < 6 → ((Unit {0} × (k ≢ 2)) × (k ≢ 3)) × (k ≢ 4) → k ≡ 5
from-five k l m r = let h : 5 ≤ k = not_least k 4 (not_least k 3 (not_least k 2 l r.0.0.1) r.0.1) r.1 in omega arith

module _ (u : ℕ) (m : 2 ≤ u % 8) (n : u % 8 < 6) where
  module _ {p q : ℕ} (w : SlotWords (u % 8) p q) where
    pub first_word : (j : ℕ) → j < 4 → (1 < p / 2 ^ (j * 16) % 65536) × (p / 2 ^ (j * 16) % 65536 < 53000)
    first_word j l =
        let i = 8 * (u % 8) + j in
        rw (w.four j l) (link-place u m n i j (omega arith) refl, place-bound i (omega arith))

    pub last_word : (1 < q % 65536) × (q % 65536 < 53000)
    last_word =
        let i = 8 * (u % 8) + 4 in
        rw w.fifth (link-place u m n i 4 (omega arith) refl, place-bound i (omega arith))

    pub first-row : (d j : ℕ) → j < 4 → d ≡ 8 * u + j → place_of (d % 64) ≡ p / 2 ^ (j * 16) % 65536
    first-row d j l e = ap place_of (omega arith) ∙ sym (w.four j l)

    pub last_row : place_of ((8 * u + 4) % 64) ≡ q % 65536
    last_row = ap place_of (omega arith) ∙ sym w.fifth

  module _ (J : Job) (rec : List ℕ) (w : ℕ) (l : u < 13128) where
    dart : (j : ℕ) → j < 8 → 8 * u + j < darts
    dart j h = is-dart (omega arith)

    corner-cap : cap J (8 * u + 1) ≡ cap J (8 * u + 3)
    corner-cap =
        let e : (8 * u + 1) / 64 ≡ (8 * u + 3) / 64 = omega arith in
        cap-corner J (8 * u + 1) (slot-code u m n (8 * u + 1) 1 (omega arith) refl)
        ∙ ap (λ (x : ℕ). when (in_grid x && is_open J (row_of x) (column_of x)) (J.O / 2)) e
        ∙ sym (cap-corner J (8 * u + 3) (slot-code u m n (8 * u + 3) 3 (omega arith) refl))

    pub side-bits : {across half spoke leg : ℕ} {free₀ free₁ : Bool} → (w % 2 ≡ 1 → across ≡ cap J (8 * u)) → half ≡ cap J (8 * u + 1) → free₀ ≡ free J (8 * u + 2)
        → (w / 16 % 2 ≡ 1 → free₁ ≡ free J (8 * u + 4))
        → spoke ≡ opposed rec (8 * u + 2)
        → leg ≡ opposed rec (8 * u + 4)
        → {a b c d e g h : ℕ}
        → Bit (has_room rec (8 * u) across) a
        → Bit (has_room rec (8 * u + 1) half) b
        → Bit (free₀ && eqb spoke 0) c
        → Bit (has_room rec (8 * u + 3) half) d
        → Bit (free₁ && eqb leg 0) e
        → Bit (ltb 0 spoke) g
        → Bit (ltb 0 leg) h
        → Bits 8 (λ k. min (w / 2 ^ k % 2) (when (moves J rec (8 * u + k)) 1)) (bit_and w (a + 2 * b + 4 * c + 8 * d + 16 * e + 32 * g + 128 * h))
    side-bits ea eh f₀ f₁ es el a b c d e g h =
        let z : 8 * u ≡ 8 * u + 0 = omega arith in
        eight-tests (λ k. moves J rec (8 * u + k)) w
        (asked-test (λ o. ap (has_room rec (8 * u)) (ea (omega arith)) ∙ sym (plain-moves J rec (8 * u) (is-dart (omega arith)) (inl (slot-code u m n (8 * u) 0 (omega arith) (omega arith)))) ∙ ap (moves J rec) z) a)
        (by-test (ap (has_room rec (8 * u + 1)) eh ∙ sym (plain-moves J rec (8 * u + 1) (dart 1 (omega arith)) (inr (inl (slot-code u m n (8 * u + 1) 1 (omega arith) refl))))) b)
        (by-test (ap₂ (λ (t : Bool) (n : ℕ). t && eqb n 0) f₀ es ∙ sym (spoke-moves J rec (8 * u + 2) (dart 2 (omega arith)) (inl (slot-code u m n (8 * u + 2) 2 (omega arith) refl)))) c)
        (by-test (ap (has_room rec (8 * u + 3)) (eh ∙ corner-cap) ∙ sym (plain-moves J rec (8 * u + 3) (dart 3 (omega arith)) (inr (inl (slot-code u m n (8 * u + 3) 3 (omega arith) refl))))) d)
        (asked-test (λ o. ap₂ (λ (t : Bool) (n : ℕ). t && eqb n 0) (f₁ (omega arith)) el ∙ sym (into-moves J rec (8 * u + 4) (dart 4 (omega arith)) (slot-code u m n (8 * u + 4) 4 (omega arith) refl))) e)
        (by-test (link-slot J rec (8 * u + 5) 10 (omega arith) (slot-code u m n (8 * u + 5) 5 (omega arith) refl) (omega arith) (omega arith) (omega arith) (omega arith) (es ∙ back-load u m n rec 2 (omega arith) tt)) g)
        (no_test (none_moves J rec (8 * u + 6) (dart 6 (omega arith)) (slot-code u m n (8 * u + 6) 6 (omega arith) refl)))
        (by-test (link-slot J rec (8 * u + 7) 13 (omega arith) (slot-code u m n (8 * u + 7) 7 (omega arith) refl) (omega arith) (omega arith) (omega arith) (omega arith) (el ∙ back-load u m n rec 4 (omega arith) tt)) h)
        (omega arith)
