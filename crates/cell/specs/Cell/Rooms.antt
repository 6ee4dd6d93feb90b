-- The room of a cell's links, by what a program reads: where wires may go over a side, whether the tile is open, the tile that a leg leads into, the pin's
-- mark and the orthogonal limit. Assumes nothing.
use Rattle.std.specs.Prelude.{◌≡◌, ◌≢◌, Bool, ◌&&◌, ◌||◌, List, ℕ, ◌+◌, ◌/◌, eqb, leb, ltb, get_or}
use Rattle.std.proofs.Math.Path.{refl, sym, ap}
use Rattle.std.proofs.Common.{◌∙◌, eq-eqb, ne_eqb}
use Rattle.std.proofs.Math.Bool.{true, false}
use Rattle.std.proofs.Math.Option.{none, some}
use Rattle.sums.specs.Counting.{when}
use Rattle.model.specs.Job.{Job, is_open}
use Rattle.model.specs.Links.{Compass, north, east, south, west, is_place, north_side, west_side, corner, spoke, leg, direct, go, come, ahead_of, limit_of, may}
use Rattle.model.specs.Near.{size}
use Rattle.model.specs.Record.{kinds, cell, job_of}
use Rattle.channel.specs.Map.Ways.{by-corner, by-spoke, within-may, leg-come, leg-go, direct-come}
use Rattle.cell.specs.Cell.{all_four, fits, most, room, leaving, link_fits, sides_fit, corners_fit, spokes_fit, legs_fit, links_fit, four_fit}

pub leaving-missing : (m : ℕ) → m ≡ 2 → 31 ≡ leaving m
unfolding leaving
leaving-missing m e = sym (ap (λ (b : Bool). elim b [ true ↦ 31 | false ↦ when (eqb m 1) 1 ]) (eq-eqb m 2 e))

pub leaving-other : (m : ℕ) → m ≢ 2 → when (eqb m 1) 1 ≡ leaving m
unfolding leaving
leaving-other m n = sym (ap (λ (b : Bool). elim b [ true ↦ 31 | false ↦ when (eqb m 1) 1 ]) (ne_eqb m 2 n))

pub fits-are : (b forth back : ℕ) → fits b forth back ≡ (leb b forth || (ltb 32 b && leb b (32 + back)))
unfolding fits
fits-are b forth back = refl

-- ---- room

module _ (J : Job) (r c : ℕ) where
  corner-room : (d : Compass) (f : Bool)
      → room J (record { link = record { kind = corner d; row = r; column = c }; forth = f }) ≡ when (is_open J r c) (J.O / 2)
  unfolding room most limit_of
  corner-room d f = ap (λ (b : Bool). when b (J.O / 2)) (within-may J by-corner f r c)

  spoke-room : (d : Compass) (f : Bool) → room J (record { link = record { kind = spoke d; row = r; column = c }; forth = f }) ≡ when (is_open J r c) 31
  unfolding room most limit_of
  spoke-room d f = ap (λ (b : Bool). when b 31) (within-may J by-spoke f r c)

  -- the tile that a leg leads into is open
  abbrev opens : Compass → Bool
  opens d = is_place J (ahead_of J (leg d) r c)

  leave_room : (d : Compass) → room J (go (leg d) r c) ≡ when (opens d) (leaving (J.mark r c))
  unfolding room most limit_of leaving
  leave_room d = ap (λ (b : Bool). when b (most (limit_of J (leg d) r c))) (leg-go J d r c) ∙ by (opens d) (eqb (J.mark r c) 2) (eqb (J.mark r c) 1)
    where
      by : (o m n : Bool) → when ((n || m) && o) (most (elim m [ true ↦ none | false ↦ some 1 ])) ≡ when o (elim m [ true ↦ 31 | false ↦ when n 1 ])
      by true true true = refl
      by true true false = refl
      by true false true = refl
      by true false false = refl
      by false true true = refl
      by false true false = refl
      by false false true = refl
      by false false false = refl

  come-room : (d : Compass) → room J (come (leg d) r c) ≡ when (opens d) (when (eqb (J.mark r c) 2) 31)
  unfolding room most limit_of
  come-room d = ap (λ (b : Bool). when b (most (limit_of J (leg d) r c))) (leg-come J d r c) ∙ by (opens d) (eqb (J.mark r c) 2)
    where
      by : (o m : Bool) → when (m && o) (most (elim m [ true ↦ none | false ↦ some 1 ])) ≡ when o (when m 31)
      by true true = refl
      by true false = refl
      by false true = refl
      by false false = refl

-- ---- the tests of a cell's links

module _ (rec : List ℕ) (r c : ℕ) where
  abbrev J : Job
  J = job_of rec

  pub links-are : links_fit rec r c ≡ (sides_fit rec r c && (corners_fit rec r c && (spokes_fit rec r c && (legs_fit rec r c && link_fits rec direct r c))))
  unfolding links_fit
  links-are = refl

  -- how many wires its north side takes, and its west side
  abbrev takes : ℕ → ℕ
  takes k = size (limit_of J (get_or kinds k north_side) r c)

  pub sides-are : sides_fit rec r c
      ≡ (fits (cell rec 2 r c) (when (may J (go north_side r c)) (takes 0)) (when (may J (come north_side r c)) (takes 0))
      && fits (cell rec 3 r c) (when (may J (go west_side r c)) (takes 1)) (when (may J (come west_side r c)) (takes 1)))
  unfolding sides_fit link_fits room most limit_of
  sides-are = refl

  abbrev fit : ℕ → ℕ → Bool
  fit n q = fits (cell rec q r c) (when (is_open J r c) n) (when (is_open J r c) n)

  pub four_are : (p n : ℕ) → four_fit rec p r c n ≡ (fit n p && (fit n (p + 1) && (fit n (p + 2) && fit n (p + 3))))
  unfolding four_fit
  four_are p n = refl

  pub corners-are : corners_fit rec r c ≡ four_fit rec 4 r c (J.O / 2)
  unfolding corners_fit all_four link_fits four_fit
  corners-are = simp (corner-room J r c)

  pub spokes-are : spokes_fit rec r c ≡ four_fit rec 8 r c 31
  unfolding spokes_fit all_four link_fits four_fit
  spokes-are = simp (spoke-room J r c)

  -- the byte of a leg
  abbrev leg_fits : ℕ → Compass → Bool
  leg_fits p d = fits (cell rec p r c) (when (opens J r c d) (leaving (J.mark r c))) (when (opens J r c d) (when (eqb (J.mark r c) 2) 31))

  legs-are : legs_fit rec r c ≡ (leg_fits 12 north && (leg_fits 13 east && (leg_fits 14 south && leg_fits 15 west)))
  unfolding legs_fit all_four link_fits
  legs-are = simp (leave_room J r c, come-room J r c)

  -- the byte of the direct exit
  pub direct_is : (b : Bool) → b ≡ fits (cell rec 16 r c) (when (may J (go direct r c)) 1) 0 → b ≡ link_fits rec direct r c
  unfolding link_fits room most limit_of
  direct_is b e = e ∙ sym (ap (λ (b : Bool). fits (cell rec 16 r c) (when (may J (go direct r c)) 1) (when b 1)) (direct-come J r c))

  -- as a program reads them: a is what may leave, k what may come, b the byte of a leg and o whether it leads into an open tile
  leg-read : (p a k b : ℕ) (d : Compass) (o x : Bool) → a ≡ leaving (J.mark r c) → k ≡ when (eqb (J.mark r c) 2) 31 → b ≡ cell rec p r c
      → o ≡ opens J r c d → x ≡ fits b (when o a) (when o k) → x ≡ leg_fits p d
  leg-read p a k b d o x e f g h i = rw (i, h, g, e, f) refl

  pub legs-read : (m a k b₁ b₂ b₃ b₄ : ℕ) (o₁ o₂ o₃ o₄ x₁ x₂ x₃ x₄ : Bool) → m ≡ cell rec 0 r c → a ≡ leaving m → k ≡ when (eqb m 2) 31
      → b₁ ≡ cell rec 12 r c → o₁ ≡ opens J r c north → x₁ ≡ fits b₁ (when o₁ a) (when o₁ k)
      → b₂ ≡ cell rec 13 r c → o₂ ≡ opens J r c east → x₂ ≡ fits b₂ (when o₂ a) (when o₂ k)
      → b₃ ≡ cell rec 14 r c → o₃ ≡ opens J r c south → x₃ ≡ fits b₃ (when o₃ a) (when o₃ k)
      → b₄ ≡ cell rec 15 r c → o₄ ≡ opens J r c west → x₄ ≡ fits b₄ (when o₄ a) (when o₄ k)
      → (x₁ && (x₂ && (x₃ && x₄))) ≡ legs_fit rec r c
  unfolding job_of
  legs-read m a k b₁ b₂ b₃ b₄ o₁ o₂ o₃ o₄ x₁ x₂ x₃ x₄ e f g p₁ q₁ s₁ p₂ q₂ s₂ p₃ q₃ s₃ p₄ q₄ s₄ =
      let away : a ≡ leaving (J.mark r c) = f ∙ ap leaving e in
      let back : k ≡ when (eqb (J.mark r c) 2) 31 = g ∙ ap (λ (n : ℕ). when (eqb n 2) 31) e in
      rw (
        leg-read 12 a k b₁ north o₁ x₁ away back p₁ q₁ s₁,
        leg-read 13 a k b₂ east o₂ x₂ away back p₂ q₂ s₂,
        leg-read 14 a k b₃ south o₃ x₃ away back p₃ q₃ s₃,
        leg-read 15 a k b₄ west o₄ x₄ away back p₄ q₄ s₄,
      )
      (sym legs-are)
