-- Which step over a side may be taken, by the dart's cell and the cell across: its own tile is open, and the tile across is open or no tile. Over the rim no
-- tile lies across: the last column of a row and the first of the next are no neighbours. Assumes nothing.
use Rattle.std.specs.Prelude.{◌≡◌, refl, Bool, true, false, not, ◌&&◌, ◌||◌, ℕ, suc, ◌+◌, ◌-◌, ◌*◌, ◌/◌, ◌%◌, ◌^◌, ◌≤◌, ◌<◌, T, eqb, ltb, get_or}
use Rattle.std.proofs.Common.{sym, ap, subst, ◌∙◌, arith, eq-eqb, ltb-true, ltb-false, lt-ltb}
use Rattle.sums.specs.Tests.{Same, same, same?, so, below, below_at}
use Rattle.model.specs.Job.{Job, is_tile, is_open}
use Rattle.model.specs.Links.{north_side, link, may}
use Rattle.model.specs.Record.{kinds}
use Rattle.channel.specs.Map.{links, owners, signs, codes, kind_of, owner_of, sign_of, code_of, may_take}
use Rattle.channel.specs.Map.Bools.{if-so}
use Rattle.channel.specs.Map.LinkTests.{take-low, take-high, take_in}
use Rattle.channel.specs.Map.Ways.{north-rim, north-in, south-rim, south-in, east-rim, east-in, west-rim, west-in, open-tile}

-- ---- the four sides

-- the cell across a side, 40 more, by the side's row
pub data Side (d : ℕ) : ℕ → Type 0 where
  to-north : 0 ≡ owner_of (d % 64) → 0 ≡ kind_of (d % 64) → 0 ≡ sign_of (d % 64) → Side d (d / 64)
  to-east : 1 ≡ owner_of (d % 64) → 1 ≡ kind_of (d % 64) → 0 ≡ sign_of (d % 64) → Side d (d / 64 + 41)
  to-south : 40 ≡ owner_of (d % 64) → 0 ≡ kind_of (d % 64) → 1 ≡ sign_of (d % 64) → Side d (d / 64 + 80)
  to-west : 0 ≡ owner_of (d % 64) → 1 ≡ kind_of (d % 64) → 1 ≡ sign_of (d % 64) → Side d (d / 64 + 39)

-- the rows of sides
abbrev side_row : ℕ → Bool
side_row i = eqb i 16 || (eqb i 24 || (eqb i 32 || eqb i 40))

side-row : (i : ℕ) → i < 64 → code_of i ≡ 1 → T (side_row i)
unfolding below code_of codes
side-row i l e = if-so (eqb (code_of i) 1) (side_row i) (below_at 64 (λ i. not (eqb (code_of i) 1) || side_row i) tt i l) (so (eq-eqb _ _ e))

-- the word that has how far ahead the cell across lies
abbrev ahead : ℕ → ℕ
ahead k = 0x2750_2900_0000 / 2 ^ (k * 8) % 256

pub side? : (d : ℕ) → code_of (d % 64) ≡ 1 → Side d (d / 64 + 0x2750_2900_0000 / 2 ^ (d / 8 % 8 * 8) % 256)
unfolding owner_of owners kind_of links sign_of signs
side? d c = by (eqb (d % 64) 16) (same? (d % 64) 16) (eqb (d % 64) 24) (same? (d % 64) 24) (eqb (d % 64) 32) (same? (d % 64) 32) (eqb (d % 64) 40)
    (same? (d % 64) 40) (side-row (d % 64) (omega arith) c)
  where
    at : {v : ℕ} (k : ℕ) → d / 8 % 8 ≡ k → v ≡ d / 64 + ahead k → Side d v → Side d (d / 64 + ahead (d / 8 % 8))
    at k e q s = subst (Side d) (q ∙ ap (λ (k : ℕ). d / 64 + ahead k) (sym e)) s

    by : (p : Bool) → Same (d % 64) 16 p → (q : Bool) → Same (d % 64) 24 q → (r : Bool) → Same (d % 64) 32 r → (s : Bool) → Same (d % 64) 40 s
        → T (p || (q || (r || s))) → Side d (d / 64 + ahead (d / 8 % 8))
    by true (same e) q _ r _ s _ t = at 2 (omega arith) (omega arith) (to-north (sym (ap owner_of e)) (sym (ap kind_of e)) (sym (ap sign_of e)))
    by false _ true (same e) r _ s _ t = at 3 (omega arith) (omega arith) (to-east (sym (ap owner_of e)) (sym (ap kind_of e)) (sym (ap sign_of e)))
    by false _ false _ true (same e) s _ t = at 4 (omega arith) (omega arith) (to-south (sym (ap owner_of e)) (sym (ap kind_of e)) (sym (ap sign_of e)))
    by false _ false _ false _ true (same e) t = at 5 (omega arith) (omega arith) (to-west (sym (ap owner_of e)) (sym (ap kind_of e)) (sym (ap sign_of e)))
    by false _ false _ false _ false _ t = absurd t

-- ---- tiles

module _ (J : Job) where
  -- open, or no tile
  abbrev clear : ℕ → ℕ → Bool
  clear r c = not (is_tile J r c) || is_open J r c

  -- a tile to the north or the west of an open one
  pub before-open : (r c p q : ℕ) → p ≤ r → q ≤ c → (is_open J r c && clear p q) ≡ (is_open J r c && is_open J p q)
  before-open r c p q l m = by (is_open J r c) refl
    where
      by : (b : Bool) → is_open J r c ≡ b → (b && clear p q) ≡ (b && is_open J p q)
      by true e =
          let (g, h) = open-tile J r c (so e) in
          let t : ltb (suc p) J.rows ≡ true = lt-ltb (suc p) J.rows (omega arith) in
          let u : ltb (suc q) J.columns ≡ true = lt-ltb (suc q) J.columns (omega arith) in
          rw (t, u)
      by false e = refl

  same-tiles : (r r' c c' p p' q q' : ℕ) → r ≡ r' → c ≡ c' → p ≡ p' → q ≡ q' → (is_open J r c && clear p q) ≡ (is_open J r' c' && clear p' q')
  same-tiles r r' c c' p p' q q' e f g h = rw (e, f, g, h)

  -- ---- steps

  module _ (d : ℕ) where
    taken : (o k s : ℕ) → o ≡ owner_of (d % 64) → k ≡ kind_of (d % 64) → s ≡ sign_of (d % 64) → 41 ≤ d / 64 + o → d / 64 + o < 1641 → (r c : ℕ)
        → (d / 64 + o - 41) / 40 ≡ r → (d / 64 + o - 41) % 40 ≡ c
        → {b : Bool}
        → b ≡ may J (record { link = link (get_or kinds k north_side) r c; forth = eqb s 0 })
        → b ≡ may_take J d
    taken o k s eo ek es l m r c p q {b} f = take_in J d o eo k s ek es l m b (rw (p, q) f)

    -- in no cell of the grid
    pub side-off : {y : ℕ} → Side d y → d / 64 < 41 → false ≡ may_take J d
    side-off (to-north o k s) l = take-low J d 0 o (omega arith)
    side-off (to-east o k s) l = by (ltb (d / 64 + 1) 41) refl
      where
        by : (b : Bool) → ltb (d / 64 + 1) 41 ≡ b → false ≡ may_take J d
        by true e = take-low J d 1 o (ltb-true _ _ e)
        by false e =
            let g : 41 ≤ d / 64 + 1 = ltb-false _ _ e in
            taken 1 1 0 o k s g (omega arith) 0 0 (omega arith) (omega arith) (east-rim J 0 0 refl)
    side-off (to-south o k s) l = by (ltb (d / 64 + 40) 41) refl
      where
        by : (b : Bool) → ltb (d / 64 + 40) 41 ≡ b → false ≡ may_take J d
        by true e = take-low J d 40 o (ltb-true _ _ e)
        by false e =
            let g : 41 ≤ d / 64 + 40 = ltb-false _ _ e in
            taken 40 0 1 o k s g (omega arith) 0 ((d / 64 - 1) % 40) (omega arith) (omega arith) (south-rim J 0 ((d / 64 - 1) % 40) refl)
    side-off (to-west o k s) l = take-low J d 0 o (omega arith)

    module _ (l : 41 ≤ d / 64) (m : d / 64 < 1641) where
      abbrev row : ℕ
      row = (d / 64 - 41) / 40

      abbrev column : ℕ
      column = (d / 64 - 41) % 40

      -- over the rim
      pub side-low : {y : ℕ} → Side d y → y < 81 → is_open J row column ≡ may_take J d
      side-low (to-north o k s) h =
          taken 0 0 0 o k s (omega arith) (omega arith) row column (omega arith) (omega arith) (north-rim J row column (omega arith))
      side-low (to-east o k s) h = absurd (omega arith)
      side-low (to-south o k s) h = absurd (omega arith)
      side-low (to-west o k s) h =
          taken 0 1 1 o k s (omega arith) (omega arith) row column (omega arith) (omega arith) (west-rim J row column (omega arith))

      pub side-first : {y : ℕ} → Side d y → column + 1 < (y - 41) % 40 → is_open J row column ≡ may_take J d
      side-first (to-north o k s) h = absurd (omega arith)
      side-first (to-east o k s) h = absurd (omega arith)
      side-first (to-south o k s) h = absurd (omega arith)
      side-first (to-west o k s) h =
          taken 0 1 1 o k s (omega arith) (omega arith) row column (omega arith) (omega arith) (west-rim J row column (omega arith))

      pub side-high : {y : ℕ} → Side d y → 1681 ≤ y → false ≡ may_take J d
      side-high (to-north o k s) h = absurd (omega arith)
      side-high (to-east o k s) h = take-high J d 1 o (omega arith)
      side-high (to-south o k s) h = take-high J d 40 o (omega arith)
      side-high (to-west o k s) h = absurd (omega arith)

      pub side-last : {y : ℕ} → Side d y → y < 1681 → (y - 41) % 40 + 1 < column → false ≡ may_take J d
      side-last (to-north o k s) g h = absurd (omega arith)
      side-last (to-east o k s) g h =
          taken 1 1 0 o k s (omega arith) (omega arith) ((d / 64 + 1 - 41) / 40) ((d / 64 + 1 - 41) % 40) refl refl (east-rim J _ _ (omega arith))
      side-last (to-south o k s) g h = absurd (omega arith)
      side-last (to-west o k s) g h = absurd (omega arith)

      -- between two tiles
      pub side-between : {y : ℕ} → Side d y → 81 ≤ y → (y - 41) % 40 ≤ column + 1 → y < 1681 → column ≤ (y - 41) % 40 + 1
          → (is_open J row column && clear ((y - 81) / 40) ((y - 41) % 40)) ≡ may_take J d
      side-between (to-north o k s) a b g h =
          let p : (d / 64 - 81) / 40 + 1 ≡ row = omega arith in
          taken 0 0 0 o k s (omega arith) (omega arith) row column (omega arith) (omega arith)
          (before-open row column ((d / 64 - 81) / 40) column (omega arith) (omega arith)
          ∙ north-in J row ((d / 64 - 81) / 40) column (omega arith))
      side-between (to-east o k s) a b g h =
          let x = d / 64 in
          taken 1 1 0 o k s (omega arith) (omega arith) ((x + 41 - 81) / 40) ((x + 41 - 41) % 40) (omega arith) (omega arith)
          (same-tiles row ((x + 41 - 81) / 40) column column _ _ _ _ (omega arith) refl refl refl
          ∙ east-in J ((x + 41 - 81) / 40) ((x + 41 - 41) % 40) column (omega arith))
      side-between (to-south o k s) a b g h =
          let x = d / 64 in
          taken 40 0 1 o k s (omega arith) (omega arith) ((x + 80 - 81) / 40) ((x + 80 - 41) % 40) (omega arith) (omega arith)
          (same-tiles row row column ((x + 80 - 41) % 40) _ _ _ _ refl (omega arith) refl refl
          ∙ south-in J ((x + 80 - 81) / 40) row ((x + 80 - 41) % 40) (omega arith))
      side-between (to-west o k s) a b g h =
          let x = d / 64 in
          taken 0 1 1 o k s (omega arith) (omega arith) row column (omega arith) (omega arith)
          (same-tiles row row column column ((x + 39 - 81) / 40) row ((x + 39 - 41) % 40) ((x + 39 - 41) % 40) refl refl (omega arith) refl
          ∙ before-open row column row ((x + 39 - 41) % 40) (omega arith) (omega arith)
          ∙ west-in J row column ((x + 39 - 41) % 40) (omega arith))
