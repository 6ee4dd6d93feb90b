-- No place stands twice in `places`: the kinds of one cell differ, and each cell is listed once. Assumes nothing.
use Rattle.std.specs.Prelude.{◌≡◌, refl, Bool, true, false, ◌&&◌, ℕ, ◌+◌, ◌≤◌, eqb, ltb}
use Rattle.std.proofs.Common.{arith, ltb→lt, nltb→le}
use Rattle.sums.specs.Counting.{when, sum, total, count}
use Rattle.sums.specs.Tests.{so, so-not}
use Rattle.sums.specs.Sums.{when-other, when-and, sum-le, sum-none, sum-when, sum-pick}
use Rattle.sums.specs.Totals.{total-le, total-each, total-those}
use Rattle.model.specs.Job.{Job}
use Rattle.model.specs.Links.{north, east, south, west, PlaceKind, pin, missing, centre, outside, nowhere, side, Place, is_place, places_at, places, place_code, same_place}

pub when-drop : (b : Bool) (x : ℕ) → when b x ≤ x
when-drop true x = omega arith
when-drop false x = omega arith

-- at most one number passes the test
pub sum_one : (n a x : ℕ) → sum n (λ i. when (eqb a i) x) ≤ x
sum_one n a x = by (ltb a n) refl
  where
    by : (b : Bool) → ltb a n ≡ b → sum n (λ i. when (eqb a i) x) ≤ x
    by true e = omega (arith, sum-pick n a (λ i. x) (ltb→lt a n (so e)))
    by false e =
        let h : n ≤ a = nltb→le a n (so-not e) in
        omega (arith, sum-none n (λ i. when (eqb a i) x) (λ i k. when-other a i x (omega arith)))

-- the kinds of a cell, in the order of `places_at`
kind-one : (k : PlaceKind) (b : Bool)
    → when (eqb (place_code k) 1 && b) 1 + (when (eqb (place_code k) 0 && b) 1 + (when (eqb (place_code k) 5 && b) 1 + (when (eqb (place_code k) 6 && b) 1
    + (when (eqb (place_code k) 7 && b) 1 + (when (eqb (place_code k) 8 && b) 1 + (when (eqb (place_code k) 2 && b) 1 + 0)))))) ≤ when b 1
kind-one pin b = omega arith
kind-one missing b = omega arith
kind-one centre b = omega arith
kind-one outside b = omega arith
kind-one nowhere b = omega arith
kind-one (side north) b = omega arith
kind-one (side east) b = omega arith
kind-one (side south) b = omega arith
kind-one (side west) b = omega arith

cell-one : (J : Job) (x : Place) (r c : ℕ)
    → total (places_at r c) (λ y. when (is_place J y) (when (same_place x y) 1)) ≤ when (eqb x.row r) (when (eqb x.column c) 1)
unfolding total
cell-one J x r c =
    omega (
      arith,
      total-le (places_at r c) (λ y. when (is_place J y) (when (same_place x y) 1)) (λ y. when (same_place x y) 1) (λ y. when-drop (is_place J y) _),
      kind-one x.kind (eqb x.row r && eqb x.column c),
      when-and (eqb x.row r) (eqb x.column c) 1,
    )

pub places-total : (J : Job) (g : Place → ℕ)
    → total (places J) g ≡ sum J.rows (λ r. sum J.columns (λ c. total (places_at r c) (λ y. when (is_place J y) (g y))))
unfolding places
places-total J g = simp (total-each, total-those)

row_one : (J : Job) (x : Place) (r : ℕ) → sum J.columns (λ c. total (places_at r c) (λ y. when (is_place J y) (when (same_place x y) 1)))
    ≤ when (eqb x.row r) (sum J.columns (λ c. when (eqb x.column c) 1))
row_one J x r =
    omega (
      arith,
      sum-le J.columns (λ c. total (places_at r c) (λ y. when (is_place J y) (when (same_place x y) 1)))
          (λ c. when (eqb x.row r) (when (eqb x.column c) 1)) (λ c m. cell-one J x r c),
      sum-when (eqb x.row r) J.columns (λ c. when (eqb x.column c) 1),
    )

pub places-once : (J : Job) (x : Place) → count (places J) (same_place x) ≤ 1
places-once J x =
    omega (
      arith,
      places-total J (λ y. when (same_place x y) 1),
      sum-le J.rows _ _ (λ r k. row_one J x r),
      sum_one J.rows x.row (sum J.columns (λ c. when (eqb x.column c) 1)),
      sum_one J.columns x.column 1,
    )
