-- Cells that pass the test of their places have balanced loads: as many wires come to a place as leave it, no place passes more than it may, and a chosen
-- pin starts at most one; and the other way round. Assumes nothing.
use Rattle.std.specs.Prelude.{◌≡◌, refl, Bool, ◌&&◌, List, ℕ, suc, ◌≤◌, ◌<◌, eqb, leb, ltb}
use Rattle.std.proofs.Common.{subst, arith}
use Rattle.std.proofs.Math.Option.{some}
use Rattle.std.proofs.Math.Dec.{T, leb→le, le→leb, ltb→lt, eqb→eq, eqb_refl}
use Rattle.sums.specs.Tests.{and_left, and_right, and_both, if-so}
use Rattle.model.specs.Job.{Job, array_fits, is_pin, is_tile, is_open, is_chosen, is_missing, centre_limit, tile_d, extra_limit}
use Rattle.model.specs.Links.{Compass, PlaceKind, pin, missing, centre, outside, nowhere, side, Place, at, holds, is_place, enters, is_entered, pass_of, pass}
use Rattle.model.specs.Loads.{arrivals, departures}
use Rattle.model.specs.Record.{job_of, load}
use Rattle.cell.specs.Cell.{all_four, even_at, passes_at, tile_even, centre_even, starts_one, missing_even, pins_even, places_even}
use Rattle.cell.specs.Cell.Tests.{four-at, four-all, so-if, array-range}

module _ (rec : List ℕ) where
  abbrev J : Job
  J = job_of rec

  -- what is asked of the loads at places
  pub record LoadsEven : Type 0 where
    pub passing : (x : Place) (k : ℕ) → T (is_place J x) → pass J x ≡ some k → arrivals (load rec) x ≤ k
    pub starts : (r c : ℕ) → T (is_chosen J r c) → departures (load rec) (at pin r c) ≤ 1
    pub balance : (x : Place) → T (is_place J x) → T (is_entered J x) → arrivals (load rec) x ≡ departures (load rec) x

  -- ---- cells that pass

  even-eq : (x : Place) → T (even_at rec x) → arrivals (load rec) x ≡ departures (load rec) x
  unfolding even_at
  even-eq x u = eqb→eq _ _ u

  passes-even : (x : Place) (n : ℕ) → T (passes_at rec x n) → arrivals (load rec) x ≡ departures (load rec) x
  unfolding passes_at
  passes-even x n t = even-eq x (and_left (even_at rec x) (leb (arrivals (load rec) x) n) t)

  passes-most : (x : Place) (n : ℕ) → T (passes_at rec x n) → arrivals (load rec) x ≤ n
  unfolding passes_at
  passes-most x n t = leb→le _ _ (and_right (even_at rec x) (leb (arrivals (load rec) x) n) t)

  module _ (fits : T (array_fits J.rows J.columns)) (t : (r c : ℕ) → r < 40 → c < 40 → T (places_even rec r c)) where
    rows-small : J.rows ≤ 40
    rows-small = (array-range J.rows J.columns fits).1

    columns-small : J.columns ≤ 40
    columns-small = (array-range J.rows J.columns fits).3

    -- a pin, and an open tile, stand on the grid
    pin-in : (r c : ℕ) (b : Bool) → T (is_pin J r c && b) → (r < 40) × (c < 40)
    pin-in r c b u =
        let v : T (is_pin J r c) = and_left (is_pin J r c) b u in (
          omega (arith, rows-small, ltb→lt r J.rows (and_left (ltb r J.rows) (ltb c J.columns) v)),
          omega (arith, columns-small, ltb→lt c J.columns (and_right (ltb r J.rows) (ltb c J.columns) v)),
        )

    open_in : (r c : ℕ) → T (is_open J r c) → (r < 40) × (c < 40)
    unfolding is_open
    open_in r c u =
        let v : T (is_tile J r c) = and_left (is_tile J r c) (eqb (J.state r c) 0) u in (
          omega (arith, rows-small, ltb→lt (suc r) J.rows (and_left (ltb (suc r) J.rows) (ltb (suc c) J.columns) v)),
          omega (arith, columns-small, ltb→lt (suc c) J.columns (and_right (ltb (suc r) J.rows) (ltb (suc c) J.columns) v)),
        )

    inner-part : (r c : ℕ) → r < 40 → c < 40 → T (centre_even rec r c && pins_even rec r c)
    unfolding places_even
    inner-part r c a b = and_right (tile_even rec r c) (centre_even rec r c && pins_even rec r c) (t r c a b)

    tile-part : (r c : ℕ) → T (is_open J r c) → (d : Compass) → T (even_at rec (at (side d) r c))
    unfolding places_even tile_even
    tile-part r c o =
        let (a, b) = open_in r c o in
        four-at (λ d. even_at rec (at (side d) r c))
        (if-so (is_open J r c) (all_four (λ d. even_at rec (at (side d) r c)))
        (and_left (tile_even rec r c) (centre_even rec r c && pins_even rec r c) (t r c a b)) o)

    centre-part : (r c : ℕ) → T (is_open J r c) → T (passes_at rec (at centre r c) (centre_limit J.O (tile_d J r c)))
    unfolding centre_even
    centre-part r c o =
        let (a, b) = open_in r c o in
        if-so (is_open J r c) _ (and_left (centre_even rec r c) (pins_even rec r c) (inner-part r c a b)) o

    pins-part : (r c : ℕ) → r < 40 → c < 40 → T (starts_one rec r c && missing_even rec r c)
    unfolding pins_even
    pins-part r c a b = and_right (centre_even rec r c) (pins_even rec r c) (inner-part r c a b)

    chosen-part : (r c : ℕ) → T (is_chosen J r c) → T (leb (departures (load rec) (at pin r c)) 1)
    unfolding starts_one is_chosen
    chosen-part r c u =
        let (a, b) = pin-in r c (eqb (J.mark r c) 1) u in
        if-so (is_chosen J r c) _ (and_left (starts_one rec r c) (missing_even rec r c) (pins-part r c a b)) u

    missing-part : (r c : ℕ) → T (is_missing J r c) → T (passes_at rec (at missing r c) (extra_limit J))
    unfolding missing_even is_missing
    missing-part r c u =
        let (a, b) = pin-in r c (eqb (J.mark r c) 2) u in
        if-so (is_missing J r c) _ (and_right (starts_one rec r c) (missing_even rec r c) (pins-part r c a b)) u

    passing-tested : (k : PlaceKind) (r c n : ℕ) → T (holds J k r c) → pass_of J k r c ≡ some n → arrivals (load rec) (at k r c) ≤ n
    passing-tested pin r c n u e = let z : ◌≡◌ {A = ℕ} 0 1 = cc in absurd (omega arith)
    passing-tested missing r c n u e =
        let m : extra_limit J ≡ n = cc in
        subst (λ (x : ℕ). arrivals (load rec) (at missing r c) ≤ x) m (passes-most (at missing r c) (extra_limit J) (missing-part r c u))
    passing-tested centre r c n u e =
        let m : centre_limit J.O (tile_d J r c) ≡ n = cc in
        subst (λ (x : ℕ). arrivals (load rec) (at centre r c) ≤ x) m (passes-most (at centre r c) (centre_limit J.O (tile_d J r c)) (centre-part r c u))
    passing-tested outside r c n u e = absurd u
    passing-tested nowhere r c n u e = absurd u
    passing-tested (side d) r c n u e = let z : ◌≡◌ {A = ℕ} 0 1 = cc in absurd (omega arith)

    balance-tested : (k : PlaceKind) (r c : ℕ) → T (holds J k r c) → T (enters J k r c) → arrivals (load rec) (at k r c) ≡ departures (load rec) (at k r c)
    balance-tested pin r c u v = absurd v
    balance-tested missing r c u v = passes-even (at missing r c) (extra_limit J) (missing-part r c u)
    balance-tested centre r c u v = passes-even (at centre r c) (centre_limit J.O (tile_d J r c)) (centre-part r c u)
    balance-tested outside r c u v = absurd u
    balance-tested nowhere r c u v = absurd u
    balance-tested (side d) r c u v = even-eq (at (side d) r c) (tile-part r c u d)

    pub places-all : LoadsEven
    places-all =
        record {
          passing = λ x k p e. passing-tested x.kind x.row x.column k p e;
          starts = λ r c u. leb→le _ _ (chosen-part r c u);
          balance = λ x p e. balance-tested x.kind x.row x.column p e;
        }

  -- ---- loads that are even

  module _ (even : LoadsEven) where
    same-eqb : (m n : ℕ) → m ≡ n → T (eqb m n)
    same-eqb m n e = subst (λ (x : ℕ). T (eqb m x)) e (eqb_refl m)

    even-pass : (x : Place) → T (is_place J x) → T (is_entered J x) → T (even_at rec x)
    unfolding even_at
    even-pass x p e = same-eqb _ _ (even.balance x p e)

    limit-pass : (x : Place) (k : ℕ) → T (is_place J x) → T (is_entered J x) → pass J x ≡ some k → T (passes_at rec x k)
    unfolding passes_at
    limit-pass x k p e h = and_both (even_at rec x) (leb (arrivals (load rec) x) k) (even-pass x p e) (le→leb _ _ (even.passing x k p h))

    pub places-pass : (r c : ℕ) → T (places_even rec r c)
    unfolding places_even tile_even centre_even starts_one missing_even pins_even
    places-pass r c =
        and_both (tile_even rec r c) (centre_even rec r c && pins_even rec r c)
        (so-if (is_open J r c) _ (λ u. four-all (λ d. even_at rec (at (side d) r c)) (λ d. even-pass (at (side d) r c) u u)))
        (and_both (centre_even rec r c) (pins_even rec r c)
        (so-if (is_open J r c) _ (λ u. limit-pass (at centre r c) (centre_limit J.O (tile_d J r c)) u u refl))
        (and_both (starts_one rec r c) (missing_even rec r c)
        (so-if (is_chosen J r c) _ (λ u. le→leb _ _ (even.starts r c u)))
        (so-if (is_missing J r c) _ (λ u. limit-pass (at missing r c) (extra_limit J) u u refl))))
