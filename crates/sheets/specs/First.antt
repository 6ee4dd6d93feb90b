-- The first failing tile. The cells are numbered by row and column, 40 to a row, and a cell passes if it is no tile or its tile's test holds; the first number that
-- does not pass is the tile that the sheet's verdict names, and where all pass the sheet is carried. A verdict is settled: a sheet has one at most, and a
-- sheet that is not turned away has one.
-- Assumes nothing.
use Rattle.std.specs.Prelude.{◌≡◌, refl, Bool, true, false, not, ◌&&◌, ◌||◌, List, ℕ, zero, suc, ◌+◌, ◌*◌, ◌/◌, ◌%◌, ◌≤◌, ◌<◌, T, eqb, ltb}
use Rattle.std.proofs.Common.{sym, ap, ap₂, subst, subst₂, ⊎_elim, arith, lt-ltb, le-ltb, ltb-false, eq-eqb, eqb→eq, ltb→lt, lt→ltb}
use Rattle.sums.specs.Tests.{below_or, and_left, and_right, and_both, or-by, so, Same, same, other, same?}
use Rattle.model.specs.Job.{Job, is_tile}
use Rattle.model.specs.Sheet.{TileCarried, SheetVerdict, carried, fails_at, is_before, Judged, all-carried, first-fails}
use Rattle.sheets.specs.Glued.{carried-tiles}
use Rattle.sheets.specs.Tests.{or_left, or_right}
use Rattle.sheets.specs.Tiles.{tile_test, Ready, tile-few, test-carried, carried-test}

-- ---- the first number that does not pass

pub record First (p : ℕ → Bool) (n i : ℕ) : Type 0 where
  pub most : i ≤ n
  pub before : (j : ℕ) → j < i → T (p j)
  pub here : i < n → T (not (p i))

pub first_of : (p : ℕ → Bool) (n : ℕ) → (i : ℕ) × First p n i
first_of p zero = (0, record { most = omega arith; before = λ j l. absurd (omega arith); here = λ l. absurd (omega arith) })
first_of p (suc n) =
    let (i, f) = first_of p n in
    ⊎_elim (λ l. (i, record { most = omega arith; before = f.before; here = λ m. f.here l })) (λ l. by i f l (p n) refl) (below_or i n)
  where
    by : (i : ℕ) → First p n i → n ≤ i → (b : Bool) → p n ≡ b → (k : ℕ) × First p (suc n) k
    by i f l true q = (
      suc n,
      record { most = omega arith; before = λ j m. all j m (eqb j n) (same? j n); here = λ m. absurd (omega arith) },
    )
      where
        all : (j : ℕ) → j < suc n → (t : Bool) → Same j n t → T (p j)
        all j m true (same e) = subst (λ (x : ℕ). T (p x)) (sym e) (so q)
        all j m false (other e) = f.before j (omega arith)
    by i f l false q = (
      n,
      record { most = omega arith; before = λ j m. f.before j (omega arith); here = λ m. subst (λ (x : Bool). T (not x)) (sym q) tt },
    )

pub before_more : (p : ℕ → Bool) (i : ℕ) → ((j : ℕ) → j < i → T (p j)) → T (p i) → (j : ℕ) → j < i + 1 → T (p j)
before_more p i f t j l = by (eqb j i) (same? j i)
  where
    by : (b : Bool) → Same j i b → T (p j)
    by true (same e) = subst (λ (x : ℕ). T (p x)) (sym e) t
    by false (other e) = f j (omega arith)

-- ---- the verdict

-- the cell i is no tile, or passes
abbrev pub passes_at : Job → List ℕ → ℕ → Bool
passes_at J sheet i = not (is_tile J (i / 40) (i % 40)) || tile_test J sheet (i / 40) (i % 40)

abbrev pub verdict_at : ℕ → SheetVerdict
verdict_at i = elim (ltb i 1600) [ true ↦ fails_at (i / 40) (i % 40) | false ↦ carried ]

pub verdict-some : (i : ℕ) → i < 1600 → fails_at (i / 40) (i % 40) ≡ verdict_at i
verdict-some i l = sym (ap (λ (b : Bool). elim b as (λ x. SheetVerdict) [ true ↦ fails_at (i / 40) (i % 40) | false ↦ carried ]) (lt-ltb i 1600 l))

pub verdict-none : (i : ℕ) → 1600 ≤ i → carried ≡ verdict_at i
verdict-none i l = sym (ap (λ (b : Bool). elim b as (λ x. SheetVerdict) [ true ↦ fails_at (i / 40) (i % 40) | false ↦ carried ]) (le-ltb i 1600 l))

or-not : (a b : Bool) → T (not (not a || b)) → T a × (T b → ⊥)
or-not true true t = absurd t
or-not true false t = (tt, λ u. u)
or-not false b t = absurd t

or-so : (a b : Bool) → T (not a || b) → T a → T b
or-so true b t u = t
or-so false b t u = absurd u

module _ (J : Job) (sheet : List ℕ) (ready : Ready J sheet) where
  -- a tile whose number is before one that fails is carried
  passed : (i : ℕ) → First (passes_at J sheet) 1600 i → (r c : ℕ) → T (is_tile J r c) → 40 * r + c < i → TileCarried J sheet r c
  passed i f r c t l =
      let small = tile-few J sheet ready r c t in
      let er : (40 * r + c) / 40 ≡ r = omega arith in
      let ec : (40 * r + c) % 40 ≡ c = omega arith in
      let u = subst₂ (λ (x y : ℕ). T (not (is_tile J x y) || tile_test J sheet x y)) er ec (f.before (40 * r + c) l) in
      test-carried J sheet ready r c t (or-so (is_tile J r c) (tile_test J sheet r c) u t)

  number-less : (i r c : ℕ) → c < 40 → T (is_before r c (i / 40) (i % 40)) → 40 * r + c < i
  number-less i r c l t =
      or-by (ltb r (i / 40)) (eqb r (i / 40) && ltb c (i % 40)) (λ u. omega (arith, ltb→lt r (i / 40) u))
      (λ u.
      omega (
        arith,
        eqb→eq r (i / 40) (and_left (eqb r (i / 40)) (ltb c (i % 40)) u),
        ltb→lt c (i % 40) (and_right (eqb r (i / 40)) (ltb c (i % 40)) u),
      )) t

  pub first-judged : (i : ℕ) → First (passes_at J sheet) 1600 i → Judged J sheet (verdict_at i)
  first-judged i f = by (ltb i 1600) (ltb→lt i 1600) refl
    where
      by : (b : Bool) → (T b → i < 1600) → ltb i 1600 ≡ b → Judged J sheet (elim b as (λ x. SheetVerdict) [ true ↦ fails_at (i / 40) (i % 40) | false ↦ carried ])
      by true l q =
          let (t, n) = or-not (is_tile J (i / 40) (i % 40)) (tile_test J sheet (i / 40) (i % 40)) (f.here (l tt)) in
          first-fails (i / 40) (i % 40) t (λ k. n (carried-test J sheet ready (i / 40) (i % 40) t k))
          (λ r c u v. passed i f r c u (number-less i r c (omega (arith, (tile-few J sheet ready r c u).1)) v))
      by false l q =
          all-carried ((carried-tiles J sheet).1 (λ r c t. passed i f r c t (omega (arith, tile-few J sheet ready r c t, ltb-false i 1600 q))))

  -- a sheet that is not turned away has a verdict
  pub judged-some : (v : SheetVerdict) × Judged J sheet v
  judged-some = let (i, f) = first_of (passes_at J sheet) 1600 in (verdict_at i, first-judged i f)

-- ---- a verdict is settled

higher-row : (i j r c : ℕ) → i < r → T (is_before i j r c)
higher-row i j r c l = or_left (ltb i r) (eqb i r && ltb j c) (lt→ltb i r l)

same_row : (i j r c : ℕ) → i ≡ r → j < c → T (is_before i j r c)
same_row i j r c e l = or_right (ltb i r) (eqb i r && ltb j c) (and_both (eqb i r) (ltb j c) (so (eq-eqb i r e)) (lt→ltb j c l))

-- of two tiles one is before the other, or they are the same
one-first : (r c i j : ℕ) → (T (is_before i j r c) → ⊥) → (T (is_before r c i j) → ⊥) → (r ≡ i) × (c ≡ j)
one-first r c i j f g =
    let low : r ≤ i = ⊎_elim (λ l. absurd (f (higher-row i j r c l))) (λ l. l) (below_or i r) in
    let high : i ≤ r = ⊎_elim (λ l. absurd (g (higher-row r c i j l))) (λ l. l) (below_or r i) in
    let row : r ≡ i = omega arith in
    let left : c ≤ j = ⊎_elim (λ l. absurd (f (same_row i j r c (sym row) l))) (λ l. l) (below_or j c) in
    let right : j ≤ c = ⊎_elim (λ l. absurd (g (same_row r c i j row l))) (λ l. l) (below_or c j) in
    (row, omega arith)

module _ (J : Job) (sheet : List ℕ) where
  pub judged-once : (v u : SheetVerdict) → Judged J sheet v → Judged J sheet u → v ≡ u
  judged-once v u (all-carried k) (all-carried l) = refl
  judged-once v u (all-carried k) (first-fails r c t n b) = absurd (n ((carried-tiles J sheet).0 k r c t))
  judged-once v u (first-fails r c t n b) (all-carried k) = absurd (n ((carried-tiles J sheet).0 k r c t))
  judged-once v u (first-fails r c t n b) (first-fails i j s m d) =
      let (p, q) = one-first r c i j (λ h. m (b i j s h)) (λ h. n (d r c t h)) in
      ap₂ fails_at p q
