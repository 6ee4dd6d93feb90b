-- The way back of a dart: the three answers of a program, and what the rows of the table have to do with their ways back, one computed test over the 64
-- rows. A dart whose row leads out of range has its link's owner off the grid. Assumes nothing.
use Rattle.std.specs.Prelude.{◌≡◌, refl, Bool, true, false, ◌||◌, ℕ, ◌+◌, ◌-◌, ◌/◌, ◌%◌, ◌≤◌, ◌<◌, T}
use Rattle.std.proofs.Math.Path.{sym, ap}
use Rattle.std.proofs.Common.{subst, ◌∙◌, arith, lt-ltb, le-ltb, ltb-true, ltb-false}
use Rattle.std.proofs.Math.Bool.{not, beq}
use Rattle.std.proofs.Math.Dec.{eqb, eqb→eq, ltb, ltb→lt}
use Rattle.sums.specs.Tests.{below, below_at}
use Rattle.channel.specs.Map.{turns, links, owners, signs, codes, turn_of, kind_of, owner_of, sign_of, code_of, back_row, back_cell, back_code}
use Rattle.channel.specs.Map.{darts, in_grid, ahead, rev, owner_cell}
use Rattle.channel.specs.Map.Bools.{if-true, if-false, same_test, if-so}
use Rattle.channel.specs.Map.Grid.{grid-low, grid-high}

-- ---- the answers of a program

module _ (d t : ℕ) (e : t ≡ turn_of (d % 64)) where
  pub rev-low : d + t < 2688 → d ≡ rev d
  unfolding rev ahead
  rev-low l = sym (if-true (ltb (ahead d) 2688) d _ (lt-ltb (ahead d) 2688 (omega arith)))

  pub rev-mid : 2688 ≤ d + t → d + t < 107712 → d + t - 2688 ≡ rev d
  unfolding rev ahead
  rev-mid l m =
      ap (λ (x : ℕ). d + x - 2688) e
      ∙ sym (if-false (ltb (ahead d) 2688) d _ (le-ltb (ahead d) 2688 (omega arith))
      ∙ if-true (ltb (ahead d) 107712) (ahead d - 2688) d (lt-ltb (ahead d) 107712 (omega arith)))

  pub rev-high : 107712 ≤ d + t → d ≡ rev d
  unfolding rev ahead
  rev-high l =
      sym (if-false (ltb (ahead d) 2688) d _ (le-ltb (ahead d) 2688 (omega arith))
      ∙ if-false (ltb (ahead d) 107712) (ahead d - 2688) d (le-ltb (ahead d) 107712 (omega arith)))

-- ---- the rows and their ways back

module _ (i : ℕ) (l : i < 64) where
  pub back-kind : kind_of (back_row i) ≡ kind_of i
  unfolding below back_row turn_of turns kind_of links
  back-kind = eqb→eq _ _ (below_at 64 (λ i. eqb (kind_of (back_row i)) (kind_of i)) tt i l)

  pub back-code : code_of (back_row i) ≡ back_code (code_of i)
  unfolding below back_row back_code turn_of turns code_of codes
  back-code = eqb→eq _ _ (below_at 64 (λ i. eqb (code_of (back_row i)) (back_code (code_of i))) tt i l)

  pub back-owner : owner_of i + 42 ≡ owner_of (back_row i) + back_cell i
  unfolding below back_row back_cell turn_of turns owner_of owners
  back-owner = eqb→eq _ _ (below_at 64 (λ i. eqb (owner_of i + 42) (owner_of (back_row i) + back_cell i)) tt i l)

  back-far : owner_of i ≡ back_cell i - 42
  unfolding below back_cell turn_of turns owner_of owners
  back-far = eqb→eq _ _ (below_at 64 (λ i. eqb (owner_of i) (back_cell i - 42)) tt i l)

  back_low : 0 < back_cell i
  unfolding below back_cell turn_of turns
  back_low = ltb→lt _ _ (below_at 64 (λ i. ltb 0 (back_cell i)) tt i l)

  pub back-sign : T (not (eqb (code_of i) 0)) → eqb (sign_of (back_row i)) 0 ≡ not (eqb (sign_of i) 0)
  unfolding below back_row turn_of turns sign_of signs code_of codes
  back-sign n =
      same_test _ _
      (if-so (not (eqb (code_of i) 0)) (beq (eqb (sign_of (back_row i)) 0) (not (eqb (sign_of i) 0)))
      (below_at 64 (λ i. not (not (eqb (code_of i) 0)) || beq (eqb (sign_of (back_row i)) 0) (not (eqb (sign_of i) 0))) tt i l) n)

-- either the row leads over, or the dart is its own way back and its link has no owner on the grid
pub data Turn (d : ℕ) : ℕ → Type 0 where
  over : {r : ℕ} → r % 64 ≡ back_row (d % 64) → r / 64 + 42 ≡ d / 64 + back_cell (d % 64) → Turn d r
  stays : in_grid (owner_cell d) ≡ false → Turn d d

low-cell : (d : ℕ) → d + turn_of (d % 64) < 2688 → d / 64 + back_cell (d % 64) < 42
unfolding back_cell
low-cell d l = omega arith

high-cell : (d : ℕ) → 107712 ≤ d + turn_of (d % 64) → 1683 ≤ d / 64 + back_cell (d % 64)
unfolding back_cell
high-cell d l = omega arith

low-off : (d : ℕ) → d + turn_of (d % 64) < 2688 → in_grid (owner_cell d) ≡ false
unfolding owner_cell
low-off d l =
    grid-low (owner_cell d) (omega (arith, low-cell d l, back-far (d % 64) (omega arith), back_low (d % 64) (omega arith)))

high-off : (d : ℕ) → d < darts → 107712 ≤ d + turn_of (d % 64) → in_grid (owner_cell d) ≡ false
unfolding owner_cell
high-off d m l = grid-high (owner_cell d) (omega (arith, high-cell d l, back-far (d % 64) (omega arith)))

over-row : (d r : ℕ) → r + 2688 ≡ d + turn_of (d % 64) → r % 64 ≡ back_row (d % 64)
unfolding back_row
over-row d r e = omega arith

over-cell : (d r : ℕ) → r + 2688 ≡ d + turn_of (d % 64) → r / 64 + 42 ≡ d / 64 + back_cell (d % 64)
unfolding back_cell
over-cell d r e = omega arith

pub turn? : (d : ℕ) → d < darts → Turn d (rev d)
turn? d l = by (ltb (d + turn_of (d % 64)) 2688) (ltb (d + turn_of (d % 64)) 107712) refl refl
  where
    by : (a b : Bool) → ltb (d + turn_of (d % 64)) 2688 ≡ a → ltb (d + turn_of (d % 64)) 107712 ≡ b → Turn d (rev d)
    by true b e f = let m : d + turn_of (d % 64) < 2688 = ltb-true _ _ e in subst (Turn d) (rev-low d _ refl m) (stays (low-off d m))
    by false true e f =
        let m : 2688 ≤ d + turn_of (d % 64) = ltb-false _ _ e in
        let k : d + turn_of (d % 64) - 2688 + 2688 ≡ d + turn_of (d % 64) = omega arith in
        subst (Turn d) (rev-mid d _ refl m (ltb-true _ _ f)) (over {r = d + turn_of (d % 64) - 2688} (over-row d _ k) (over-cell d _ k))
    by false false e f =
        let m : 107712 ≤ d + turn_of (d % 64) = ltb-false _ _ f in
        subst (Turn d) (rev-high d _ refl m) (stays (high-off d l m))
