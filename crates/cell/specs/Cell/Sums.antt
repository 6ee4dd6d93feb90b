-- The sums at a cell's places, by the bytes that a program reads. Assumes nothing.
use Rattle.std.specs.Prelude.{◌≡◌, Bool, not, ◌&&◌, ◌||◌, List, ℕ, suc, ◌+◌, ◌≤◌, ◌<◌, T, eqb, leb}
use Rattle.std.proofs.Math.Path.{refl, sym}
use Rattle.std.proofs.Common.{◌∙◌, arith}
use Rattle.std.proofs.Math.Bool.{true, false}
use Rattle.std.proofs.Math.Numerals.{add-one}
use Rattle.sums.specs.Counting.{total}
use Rattle.sums.specs.Tests.{eqb-iff, so}
use Rattle.model.specs.Job.{Job, array_fits, centre_limit, tile_d, extra_limit, is_pin, is_chosen, is_missing}
use Rattle.model.specs.Links.{north, east, south, west, pin, missing, centre, side, at}
use Rattle.model.specs.Loads.{arrivals, departures}
use Rattle.model.specs.Record.{cell, job_of, forth_part, back_part, load}
use Rattle.channel.specs.Map.{row_of, column_of}
use Rattle.channel.specs.Map.Ways.{open-tile}
use Rattle.cell.specs.Cell.{all_four, even_at, passes_at, tile_even, centre_even, starts_one, missing_even, pins_even, places_even}
use Rattle.cell.specs.Cell.Tests.{array-range}
use Rattle.cell.specs.Cell.Grid.{open_in, own_open}

-- ---- as many come as leave

-- by two links whose positive way leads away and three whose positive way leads here
pub out_two : ℕ → ℕ → ℕ → ℕ → ℕ → Bool
out_two a b x y z =
    eqb (back_part a + (back_part b + (forth_part x + (forth_part y + (forth_part z + 0)))))
    (forth_part a + (forth_part b + (back_part x + (back_part y + (back_part z + 0)))))

-- by one link whose positive way leads away, the second
pub out_one : ℕ → ℕ → ℕ → ℕ → ℕ → Bool
out_one a b x y z =
    eqb (forth_part a + (back_part b + (forth_part x + (forth_part y + (forth_part z + 0)))))
    (back_part a + (forth_part b + (back_part x + (back_part y + (back_part z + 0)))))

-- what each byte has, l more along than against its link and 256 on top
tilt-two : (a b x y z f₁ f₂ f₃ f₄ f₅ b₁ b₂ b₃ b₄ b₅ : ℕ) → a + b₁ ≡ 256 + f₁ → b + b₂ ≡ 256 + f₂ → x + b₃ ≡ 256 + f₃ → y + b₄ ≡ 256 + f₄ → z + b₅ ≡ 256 + f₅
    → eqb (a + b + 256) (x + y + z) ≡ eqb (b₁ + (b₂ + (f₃ + (f₄ + (f₅ + 0))))) (f₁ + (f₂ + (b₃ + (b₄ + (b₅ + 0)))))
tilt-two a b x y z f₁ f₂ f₃ f₄ f₅ b₁ b₂ b₃ b₄ b₅ p q r s t =
    eqb-iff (a + b + 256) (x + y + z) (b₁ + (b₂ + (f₃ + (f₄ + (f₅ + 0))))) (f₁ + (f₂ + (b₃ + (b₄ + (b₅ + 0))))) (λ e. omega arith) (λ e. omega arith)

tilt-one : (a b x y z f₁ f₂ f₃ f₄ f₅ b₁ b₂ b₃ b₄ b₅ : ℕ) → a + b₁ ≡ 256 + f₁ → b + b₂ ≡ 256 + f₂ → x + b₃ ≡ 256 + f₃ → y + b₄ ≡ 256 + f₄ → z + b₅ ≡ 256 + f₅
    → eqb (b + 768) (a + x + y + z) ≡ eqb (f₁ + (b₂ + (f₃ + (f₄ + (f₅ + 0))))) (b₁ + (f₂ + (b₃ + (b₄ + (b₅ + 0)))))
tilt-one a b x y z f₁ f₂ f₃ f₄ f₅ b₁ b₂ b₃ b₄ b₅ p q r s t =
    eqb-iff (b + 768) (a + x + y + z) (f₁ + (b₂ + (f₃ + (f₄ + (f₅ + 0))))) (b₁ + (f₂ + (b₃ + (b₄ + (b₅ + 0))))) (λ e. omega arith) (λ e. omega arith)

-- l leans as the byte b does
abbrev Leans : ℕ → ℕ → Type 0
Leans b l = l + back_part b ≡ 256 + forth_part b

module _ (a b x y z l₁ l₂ l₃ l₄ l₅ : ℕ) (p : Leans a l₁) (q : Leans b l₂) (r : Leans x l₃) (s : Leans y l₄) (t : Leans z l₅) where
  pub two-read : eqb (l₁ + l₂ + 256) (l₃ + l₄ + l₅) ≡ out_two a b x y z
  unfolding out_two
  two-read = tilt-two l₁ l₂ l₃ l₄ l₅ _ _ _ _ _ _ _ _ _ _ p q r s t

  pub one-read : eqb (l₂ + 768) (l₁ + l₃ + l₄ + l₅) ≡ out_one a b x y z
  unfolding out_one
  one-read = tilt-one l₁ l₂ l₃ l₄ l₅ _ _ _ _ _ _ _ _ _ _ p q r s t

module _ (rec : List ℕ) where
  module _ (r c : ℕ) where
    pub north-even : out_two (cell rec 2 r c) (cell rec 4 r c) (cell rec 8 r c) (cell rec 7 r c) (cell rec 13 r c) ≡ even_at rec (at (side north) r c)
    unfolding even_at arrivals departures total load out_two
    north-even = refl

    pub east-even : out_two (cell rec 3 r (c + 1)) (cell rec 5 r c) (cell rec 9 r c) (cell rec 4 r c) (cell rec 14 r (c + 1)) ≡ even_at rec (at (side east) r c)
    unfolding even_at arrivals departures total load out_two
    east-even = simp add-one

    pub south-even : out_one (cell rec 2 (r + 1) c) (cell rec 6 r c) (cell rec 10 r c) (cell rec 5 r c) (cell rec 15 (r + 1) (c + 1))
        ≡ even_at rec (at (side south) r c)
    unfolding even_at arrivals departures total load out_one
    south-even = simp add-one

    pub west-even : out_one (cell rec 3 r c) (cell rec 7 r c) (cell rec 11 r c) (cell rec 6 r c) (cell rec 12 (r + 1) c) ≡ even_at rec (at (side west) r c)
    unfolding even_at arrivals departures total load out_one
    west-even = simp add-one

-- ---- the tests of a cell's places, as a program reads them

module _ (rec : List ℕ) (x : ℕ) (l : 41 ≤ x) (h : x < 1641) where
  abbrev J : Job
  J = job_of rec

  abbrev r : ℕ
  r = row_of x

  abbrev c : ℕ
  c = column_of x

  -- an open tile has neighbours in its row and in its column, so that the cells beside it are on the grid
  module _ (fits : T (array_fits J.rows J.columns)) (o : Bool) (e : o ≡ open_in J x) where
    pub tile-read : (n w s t : Bool) → n ≡ even_at rec (at (side north) r c) → (suc c < 40 → w ≡ even_at rec (at (side east) r c))
        → (suc r < 40 → suc c < 40 → s ≡ even_at rec (at (side south) r c)) → (suc r < 40 → t ≡ even_at rec (at (side west) r c))
        → (not o || (n && (w && (s && t)))) ≡ tile_even rec r c
    unfolding tile_even all_four
    tile-read n w s t p q f g = rw (p, sym (own_open J x l h)) (by o e)
      where
        by : (b : Bool) → b ≡ open_in J x → (not b || (even_at rec (at (side north) r c) && (w && (s && t)))) ≡ (not (open_in J x) || all_four (λ d. even_at rec (at (side d) r c)))
        by true k =
            let (i, j) = open-tile J r c (so (sym (own_open J x l h) ∙ sym k)) in
            let (_, a, _, b) = array-range J.rows J.columns fits in
            rw (sym k, q (omega arith), f (omega arith) (omega arith), g (omega arith)) refl
        by false k = rw (sym k) refl

  module _ (o : Bool) (e : o ≡ open_in J x) where
    pub centre-read : (i u k : ℕ) → i ≡ arrivals (load rec) (at centre r c) → u ≡ departures (load rec) (at centre r c)
        → k ≡ centre_limit J.O (tile_d J r c) → (not o || (eqb i u && leb i k)) ≡ centre_even rec r c
    unfolding centre_even passes_at even_at
    centre-read i u k p q f = rw (e, own_open J x l h, p, q, f) refl

pub pins-read : (rec : List ℕ) (r c m i u v k : ℕ) (o : Bool) → o ≡ is_pin (job_of rec) r c → m ≡ cell rec 0 r c → i ≡ arrivals (load rec) (at missing r c)
    → u ≡ departures (load rec) (at missing r c) → v ≡ departures (load rec) (at pin r c) → k ≡ extra_limit (job_of rec)
    → ((not (o && eqb m 1) || leb v 1) && (not (o && eqb m 2) || (eqb i u && leb i k))) ≡ pins_even rec r c
unfolding pins_even starts_one missing_even passes_at even_at is_chosen is_missing job_of
pins-read rec r c m i u v k o e f g p q z = rw (e, f, g, p, q, z) refl

pub places-are : (rec : List ℕ) (r c : ℕ) → places_even rec r c ≡ (tile_even rec r c && (centre_even rec r c && pins_even rec r c))
unfolding places_even
places-are rec r c = refl
