-- What the bytes of a sheet that is not turned away are, where O is 2: a side has at most two wires, all one way, and a leg one mark at most.
-- Assumes nothing.
use Rattle.std.specs.Prelude.{◌≡◌, refl, ◌≢◌, ◌⊎◌, Bool, true, false, not, ◌&&◌, ℕ, zero, suc, ◌+◌, ◌*◌, ◌≤◌, ◌<◌, T, eqb, leb, ltb, length, get_or}
use Rattle.std.proofs.Common.{sym, subst, inl, inr, ⊎_elim, arith, T_not, eqb→eq, leb→le, ltb→lt}
use mathlib.Core.List.{List, [], ◌∷◌, Memᴰ}
use Rattle.sums.specs.Counting.{when}
use Rattle.sums.specs.Tests.{every-at, below, below_at, and_left, and_right, and_both}
use Rattle.model.specs.Job.{Job, north_limit, west_limit, has_north, has_west, is_chosen}
use Rattle.model.specs.Links.{Compass, north, east, south, west}
use Rattle.model.specs.Record.{forth_part, back_part}
use Rattle.model.specs.Sheet.{sheet_size, sheet_cell, leg_plane, everywhere, load_within, sides_within, none_inward, leads_in, marks_within, is_marked, sheet_cell_fits, sheet_fits}

-- ---- cells

pub everywhere-at : (p : ℕ → ℕ → Bool) → T (everywhere p) → (r c : ℕ) → r < 40 → c < 40 → T (p r c)
everywhere-at p t r c lr lc = below_at 40 (p r) (below_at 40 (λ i. below 40 (p i)) t r lr) c lc

below_all : (n : ℕ) (p : ℕ → Bool) → ((i : ℕ) → T (p i)) → T (below n p)
unfolding below
below_all zero p f = tt
below_all (suc n) p f = and_both (below n p) (p n) (below_all n p f) (f n)

pub everywhere-all : (p : ℕ → ℕ → Bool) → ((r c : ℕ) → T (p r c)) → T (everywhere p)
everywhere-all p f = below_all 40 (λ r. below 40 (p r)) (λ r. below_all 40 (p r) (f r))

-- a byte of the grid, or none
pub cell-or : (sheet : List ℕ) (p r c : ℕ) → ((r < 40) × (c < 40)) ⊎ (sheet_cell sheet p r c ≡ 0)
unfolding sheet_cell
cell-or sheet p r c = go (ltb r 40) (ltb c 40) (ltb→lt r 40) (ltb→lt c 40)
  where
    go : (a b : Bool) → (T a → r < 40) → (T b → c < 40) → ((r < 40) × (c < 40)) ⊎ (when (a && b) (get_or sheet (1600 * p + 40 * r + c) 0) ≡ 0)
    go true true f g = inl (f tt, g tt)
    go true false f g = inr refl
    go false b f g = inr refl

-- ---- load bytes

pub record LoadByte (most b : ℕ) : Type 0 where
  pub small : b < 64
  pub proper : b ≢ 32
  pub few : forth_part b + back_part b ≤ most

pub load_byte_lem : (most b : ℕ) → T (load_within most b) → LoadByte most b
load_byte_lem most b t =
    let u = and_right (ltb b 64) (not (eqb b 32) && leb (forth_part b + back_part b) most) t in
    record {
      small = ltb→lt b 64 (and_left (ltb b 64) (not (eqb b 32) && leb (forth_part b + back_part b) most) t);
      proper = λ e. T_not (eqb b 32) (and_left (not (eqb b 32)) (leb (forth_part b + back_part b) most) u) (subst (λ (x : ℕ). T (eqb x 32)) (sym e) tt);
      few = leb→le (forth_part b + back_part b) most (and_right (not (eqb b 32)) (leb (forth_part b + back_part b) most) u);
    }

none-byte : (most b : ℕ) → b ≡ 0 → LoadByte most b
none-byte most b e = subst (LoadByte most) (sym e) (record { small = omega arith; proper = λ z. absurd (omega arith); few = omega arith })

more_byte : {most more b : ℕ} → most ≤ more → LoadByte most b → LoadByte more b
more_byte h l = record { small = l.small; proper = l.proper; few = omega (arith, l.few) }

when-most : (b : Bool) (x m : ℕ) → x ≤ m → when b x ≤ m
when-most true x m h = h
when-most false x m h = omega arith

compass-in : (d : Compass) → Memᴰ d (north ∷ east ∷ south ∷ west ∷ [])
compass-in north = Memᴰ.head refl
compass-in east = Memᴰ.tail (Memᴰ.head refl)
compass-in south = Memᴰ.tail (Memᴰ.tail (Memᴰ.head refl))
compass-in west = Memᴰ.tail (Memᴰ.tail (Memᴰ.tail (Memᴰ.head refl)))

-- ---- the sheet

module _ (J : Job) (sheet : List ℕ) (two : J.O ≡ 2) (fit : T (sheet_fits J sheet)) where
  pub sheet-long : length sheet ≡ sheet_size
  sheet-long = eqb→eq (length sheet) sheet_size (and_left (eqb (length sheet) sheet_size) (everywhere (sheet_cell_fits J sheet)) fit)

  pub cell-fits : (r c : ℕ) → r < 40 → c < 40 → T (sheet_cell_fits J sheet r c)
  cell-fits = everywhere-at (sheet_cell_fits J sheet) (and_right (eqb (length sheet) sheet_size) (everywhere (sheet_cell_fits J sheet)) fit)

  sides-fit : (r c : ℕ) → r < 40 → c < 40 → T (sides_within J sheet r c)
  sides-fit r c lr lc =
      and_left (sides_within J sheet r c) (none_inward J sheet r c)
      (and_left (sides_within J sheet r c && none_inward J sheet r c) (marks_within J sheet r c && is_marked J sheet r c) (cell-fits r c lr lc))

  pub north-few : (r c : ℕ) → LoadByte 2 (sheet_cell sheet 0 r c)
  north-few r c =
      ⊎_elim (λ h.
      more_byte (when-most (has_north J r c) (north_limit J r c) 2 (omega arith))
      (load_byte_lem (when (has_north J r c) (north_limit J r c)) (sheet_cell sheet 0 r c) (and_left (load_within (when (has_north J r c) (north_limit J r c)) (sheet_cell sheet 0 r c)) (load_within (when (has_west J r c) (west_limit J r c)) (sheet_cell sheet 1 r c)) (sides-fit r c h.0 h.1))))
      (λ e. none-byte 2 (sheet_cell sheet 0 r c) e) (cell-or sheet 0 r c)

  pub west-few : (r c : ℕ) → LoadByte 2 (sheet_cell sheet 1 r c)
  west-few r c =
      ⊎_elim (λ h.
      more_byte (when-most (has_west J r c) (west_limit J r c) 2 (omega arith))
      (load_byte_lem (when (has_west J r c) (west_limit J r c)) (sheet_cell sheet 1 r c) (and_right (load_within (when (has_north J r c) (north_limit J r c)) (sheet_cell sheet 0 r c)) (load_within (when (has_west J r c) (west_limit J r c)) (sheet_cell sheet 1 r c)) (sides-fit r c h.0 h.1))))
      (λ e. none-byte 2 (sheet_cell sheet 1 r c) e) (cell-or sheet 1 r c)

  pub mark-fits : (d : Compass) (r c : ℕ) → sheet_cell sheet (leg_plane d) r c ≤ when (is_chosen J r c && leads_in J d r c) 1
  mark-fits d r c =
      ⊎_elim (λ h.
      leb→le (sheet_cell sheet (leg_plane d) r c) (when (is_chosen J r c && leads_in J d r c) 1)
      (every-at (north ∷ east ∷ south ∷ west ∷ []) (λ d. leb (sheet_cell sheet (leg_plane d) r c) (when (is_chosen J r c && leads_in J d r c) 1))
      (and_left (marks_within J sheet r c) (is_marked J sheet r c)
      (and_right (sides_within J sheet r c && none_inward J sheet r c) (marks_within J sheet r c && is_marked J sheet r c) (cell-fits r c h.0 h.1)))
      (compass-in d)))
      (λ e. omega arith) (cell-or sheet (leg_plane d) r c)

  pub mark-few : (d : Compass) (r c : ℕ) → sheet_cell sheet (leg_plane d) r c ≤ 1
  mark-few d r c = omega (arith, mark-fits d r c, when-most (is_chosen J r c && leads_in J d r c) 1 1 (omega arith))
