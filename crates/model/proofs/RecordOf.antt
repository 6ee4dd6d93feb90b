-- The record of a job with given loads: its length, what stands at each of its bytes, that the job and the loads can be read back from it, and that it is
-- legal where the job is proper and the loads are sound. A byte is found by the list it was made in; a cell by division of its offset. Marks and states
-- beyond the array are 0 in a proper job, so the job comes back whole. Assumes nothing.
use mathlib.Core.Path.{◌≡◌, refl, sym, ap, ap₂, subst, subst₂, ◌∙◌}
use mathlib.Core.Logic.{◌≢◌, ◌⊎◌, inl, inr}
use mathlib.Core.Bool.{Bool, true, false, not, ◌&&◌}
use mathlib.Core.List.{List, [], ◌∷◌, ◌++◌}
use mathlib.Core.Option.{Option}
use Prim.Native.Nat.{ℕ, zero, suc, ◌+◌, ◌*◌, ◌/◌, ◌%◌, ◌≤◌, ◌<◌}
use native.Mathlib.Nat.{not-suc-le-zero, eq-zero-or-pos}
use native.Mathlib.Omega.{arith}
use lib.Dec.{T, eqb, leb, ltb, eqb→eq, leb→le, ltb→lt, nltb→le, lt→ltb}
use lib.ListN.{length, get_or, length-append, get_or-append, get_or-eq_default}
use lib.Seq.{get_or-append-add}
use Rattle.sums.specs.Counting.{when, each}
use Rattle.sums.specs.Tests.{below_or, Same, same, other, same?, and_left, and_right, and_both}
use Rattle.sums.specs.Sums.{when-cong}
use Rattle.sums.specs.Entries.{entry_past}
use Rattle.model.specs.Job.{Job, in_range, array_fits, caps_fit, is_pin, is_tile, has_north, has_west, laid_most, own_d_fits, seen_most, AddedFits, Proper}
use Rattle.model.specs.Links.{north, east, south, west, LinkKind, north_side, west_side, corner, spoke, leg, direct, Link, Step, go, come, turn}
use Rattle.model.specs.Loads.{Sound}
use Rattle.model.specs.Record.{record_size, load_plane, offset, cell, added_of, job_of, forth_part, back_part, load, Legal}
use Rattle.model.specs.Record.{bytes, kinds, load_byte, added_byte, kind_byte, plane_byte, head_byte, record_of}

-- ---- lists of bytes

pub length-bytes : (n : ℕ) (f : ℕ → ℕ) → length (bytes n f) ≡ n
unfolding each
length-bytes zero f = refl
length-bytes (suc n) f = omega (arith, length-append (bytes n f) (f n ∷ []), length-bytes n f)

pub byte_at : (n i : ℕ) (f : ℕ → ℕ) → i < n → get_or (bytes n f) i 0 ≡ f i
unfolding each
byte_at zero i f l = absurd (not-suc-le-zero l)
byte_at (suc n) i f l = by (eqb i n) (same? i n) (byte_at n i f)
  where
    by : (b : Bool) → Same i n b → (i < n → get_or (bytes n f) i 0 ≡ f i) → get_or (bytes n f ++ (f n ∷ [])) i 0 ≡ f i
    by true (same e) r =
        let k : i ≡ length (bytes n f) + 0 = omega (arith, length-bytes n f) in
        ap (λ (j : ℕ). get_or (bytes n f ++ (f n ∷ [])) j 0) k ∙ (get_or-append-add (bytes n f) (f n ∷ []) 0 0 ∙ ap f (sym e))
    by false (other e) r = get_or-append (bytes n f) (f n ∷ []) 0 i (omega (arith, length-bytes n f)) ∙ r (omega arith)

pub bytes-none : (n i : ℕ) → get_or (bytes n (λ j. 0)) i 0 ≡ 0
bytes-none n i = by (below_or i n)
  where
    by : (i < n) ⊎ (n ≤ i) → get_or (bytes n (λ j. 0)) i 0 ≡ 0
    by (inl l) = byte_at n i (λ j. 0) l
    by (inr l) = get_or-eq_default (bytes n (λ j. 0)) 0 {n = i} (omega (arith, length-bytes n (λ j. 0)))

-- ---- cells

-- a cell of the planes
abbrev pub in_cells : ℕ → ℕ → Bool
in_cells r c = ltb r 40 && ltb c 40

pub cells-row : (r c : ℕ) → T (in_cells r c) → r < 40
cells-row r c t = ltb→lt r 40 (and_left (ltb r 40) (ltb c 40) t)

pub cells-column : (r c : ℕ) → T (in_cells r c) → c < 40
cells-column r c t = ltb→lt c 40 (and_right (ltb r 40) (ltb c 40) t)

pub cells-have : (r c : ℕ) → r < 40 → c < 40 → T (in_cells r c)
cells-have r c a b = and_both (ltb r 40) (ltb c 40) (lt→ltb r 40 a) (lt→ltb c 40 b)

pub plane-below : (k : LinkKind) → load_plane k < 17
plane-below north_side = omega arith
plane-below west_side = omega arith
plane-below (corner north) = omega arith
plane-below (corner east) = omega arith
plane-below (corner south) = omega arith
plane-below (corner west) = omega arith
plane-below (spoke north) = omega arith
plane-below (spoke east) = omega arith
plane-below (spoke south) = omega arith
plane-below (spoke west) = omega arith
plane-below (leg north) = omega arith
plane-below (leg east) = omega arith
plane-below (leg south) = omega arith
plane-below (leg west) = omega arith
plane-below direct = omega arith

pub plane-of : (J : Job) (f : Step → ℕ) (k : LinkKind) (r c : ℕ) → plane_byte J f (load_plane k) r c ≡ load_byte f k r c
plane-of J f north_side r c = refl
plane-of J f west_side r c = refl
plane-of J f (corner north) r c = refl
plane-of J f (corner east) r c = refl
plane-of J f (corner south) r c = refl
plane-of J f (corner west) r c = refl
plane-of J f (spoke north) r c = refl
plane-of J f (spoke east) r c = refl
plane-of J f (spoke south) r c = refl
plane-of J f (spoke west) r c = refl
plane-of J f (leg north) r c = refl
plane-of J f (leg east) r c = refl
plane-of J f (leg south) r c = refl
plane-of J f (leg west) r c = refl
plane-of J f direct r c = refl

pub range-most : (least most n : ℕ) → T (in_range least most n) → n ≤ most
range-most least most n t = leb→le n most (and_right (leb least n) (leb n most) t)

-- ---- the bytes of the record

module _ (J : Job) (f : Step → ℕ) where
  abbrev planes : ℕ → ℕ
  planes i = plane_byte J f (i / 1600) (i % 1600 / 40) (i % 40)

  pub length-record : length (record_of J f) ≡ record_size
  unfolding record_of
  length-record =
      length-append (bytes 768 (head_byte J)) (bytes 32000 planes) ∙ ap₂ ◌+◌ (length-bytes 768 (head_byte J)) (length-bytes 32000 planes)

  pub head-back : (i : ℕ) → i < 768 → get_or (record_of J f) i 0 ≡ head_byte J i
  unfolding record_of
  head-back i l =
      get_or-append (bytes 768 (head_byte J)) (bytes 32000 planes) 0 i (omega (arith, length-bytes 768 (head_byte J))) ∙ byte_at 768 i (head_byte J) l

  pub plane-back : (i : ℕ) → i < 32000 → get_or (record_of J f) (768 + i) 0 ≡ plane_byte J f (i / 1600) (i % 1600 / 40) (i % 40)
  unfolding record_of
  plane-back i l =
      let k : 768 + i ≡ length (bytes 768 (head_byte J)) + i = omega (arith, length-bytes 768 (head_byte J)) in
      ap (λ (j : ℕ). get_or (bytes 768 (head_byte J) ++ bytes 32000 planes) j 0) k
      ∙ (get_or-append-add (bytes 768 (head_byte J)) (bytes 32000 planes) i 0 ∙ byte_at 32000 i planes l)

  pub cell-back : (p r c : ℕ) → p < 20 → r < 40 → c < 40 → get_or (record_of J f) (offset p r c) 0 ≡ plane_byte J f p r c
  cell-back p r c a b d =
      let i : ℕ = 1600 * p + 40 * r + c in
      let k : offset p r c ≡ 768 + i = omega arith in
      let x : i / 1600 ≡ p = omega arith in
      let y : i % 1600 / 40 ≡ r = omega arith in
      let z : i % 40 ≡ c = omega arith in
      ap (λ (j : ℕ). get_or (record_of J f) j 0) k ∙ (plane-back i (omega arith) ∙ (λ n. plane_byte J f (x n) (y n) (z n)))

  pub cell-is : (p r c : ℕ) → p < 20 → cell (record_of J f) p r c ≡ when (in_cells r c) (plane_byte J f p r c)
  unfolding cell
  cell-is p r c l = when-cong (in_cells r c) _ _ (λ t. cell-back p r c l (cells-row r c t) (cells-column r c t))

  -- a plane behind those of loads
  pub plane-added : (p r c : ℕ) → 15 ≤ p → plane_byte J f (suc (suc p)) r c ≡ added_byte J.added p r c
  plane-added p r c l = ap (λ (o : Option LinkKind). kind_byte J.added f p o r c) (entry_past kinds p l)

  -- ---- the header

  abbrev numbers : List ℕ
  numbers = J.rows ∷ J.columns ∷ J.O ∷ J.D ∷ J.E ∷ J.added.upward ∷ []

  abbrev rectangles : ℕ → ℕ
  rectangles j = J.added.seen (j / 4) (j % 4)

  pub head-seen : (j : ℕ) → j < 16 → head_byte J (6 + j) ≡ J.added.seen (j / 4) (j % 4)
  head-seen j l = get_or-append-add numbers (bytes 16 rectangles) j 0 ∙ byte_at 16 j rectangles l

  pub head-none : (i : ℕ) → 22 ≤ i → head_byte J i ≡ 0
  head-none i l =
      get_or-eq_default (numbers ++ bytes 16 rectangles) 0 {n = i} (omega (arith, length-append numbers (bytes 16 rectangles), length-bytes 16 rectangles))

  -- ---- the job

  module _ (proper : Proper J) where
    array-fits : (J.rows ≤ 40) × (J.columns ≤ 40)
    array-fits = (
      range-most 2 40 J.rows (and_left (in_range 2 40 J.rows) (in_range 2 40 J.columns) proper.array),
      range-most 2 40 J.columns (and_right (in_range 2 40 J.rows) (in_range 2 40 J.columns) proper.array),
    )

    pin-cell : (r c : ℕ) → T (is_pin J r c) → T (in_cells r c)
    pin-cell r c t =
        cells-have r c (omega (arith, array-fits.0, ltb→lt r J.rows (and_left (ltb r J.rows) (ltb c J.columns) t)))
        (omega (arith, array-fits.1, ltb→lt c J.columns (and_right (ltb r J.rows) (ltb c J.columns) t)))

    tile-cell : (r c : ℕ) → T (is_tile J r c) → T (in_cells r c)
    tile-cell r c t =
        cells-have r c (omega (arith, array-fits.0, ltb→lt (suc r) J.rows (and_left (ltb (suc r) J.rows) (ltb (suc c) J.columns) t)))
        (omega (arith, array-fits.1, ltb→lt (suc c) J.columns (and_right (ltb (suc r) J.rows) (ltb (suc c) J.columns) t)))

    -- a table that is 0 outside a test that holds only inside the cells
    when-back : (b i : Bool) (m n : ℕ) → (T b → T i) → T (leb m (when b n)) → when i m ≡ m
    when-back b true m n h t = refl
    when-back true false m n h t = absurd (h tt)
    when-back false false m n h t = omega (arith, leb→le m 0 t)

    mark-back : (r c : ℕ) → cell (record_of J f) 0 r c ≡ J.mark r c
    mark-back r c = cell-is 0 r c (omega arith) ∙ when-back (is_pin J r c) (in_cells r c) (J.mark r c) 2 (pin-cell r c) (proper.marks r c)

    state-back : (r c : ℕ) → cell (record_of J f) 1 r c ≡ J.state r c
    state-back r c = cell-is 1 r c (omega arith) ∙ when-back (is_tile J r c) (in_cells r c) (J.state r c) 1 (tile-cell r c) (proper.states r c)

    -- ---- what is added

    north-cell : (r c : ℕ) → T (has_north J r c) → T (in_cells r c)
    north-cell r c t =
        cells-have r c (omega (arith, array-fits.0, ltb→lt r J.rows (and_left (ltb r J.rows) (ltb (suc c) J.columns) t)))
        (omega (arith, array-fits.1, ltb→lt (suc c) J.columns (and_right (ltb r J.rows) (ltb (suc c) J.columns) t)))

    west-cell : (r c : ℕ) → T (has_west J r c) → T (in_cells r c)
    west-cell r c t =
        cells-have r c (omega (arith, array-fits.0, ltb→lt (suc r) J.rows (and_left (ltb (suc r) J.rows) (ltb c J.columns) t)))
        (omega (arith, array-fits.1, ltb→lt c J.columns (and_right (ltb (suc r) J.rows) (ltb c J.columns) t)))

    north-back : (r c : ℕ) → cell (record_of J f) 17 r c ≡ J.added.laid_north r c
    north-back r c =
        cell-is 17 r c (omega arith)
        ∙ when-back (has_north J r c) (in_cells r c) (J.added.laid_north r c) (laid_most J) (north-cell r c) (proper.added.laid_north r c)

    west-back : (r c : ℕ) → cell (record_of J f) 18 r c ≡ J.added.laid_west r c
    west-back r c =
        cell-is 18 r c (omega arith)
        ∙ when-back (has_west J r c) (in_cells r c) (J.added.laid_west r c) (laid_most J) (west-cell r c) (proper.added.laid_west r c)

    own_back : (r c : ℕ) → cell (record_of J f) 19 r c ≡ J.added.own_d r c
    own_back r c = cell-is 19 r c (omega arith) ∙ by (is_tile J r c) (in_cells r c) (tile-cell r c) (proper.added.own_d r c)
      where
        d : ℕ
        d = J.added.own_d r c

        by : (b i : Bool) → (T b → T i) → T (elim b as (λ x. Bool) [ true ↦ own_d_fits J d | false ↦ eqb d 0 ]) → when i d ≡ d
        by b true h t = refl
        by true false h t = absurd (h tt)
        by false false h t = sym (eqb→eq d 0 t)

    seen_back : (p k : ℕ) → when (ltb p 4 && ltb k 4) (get_or (record_of J f) (6 + 4 * p + k) 0) ≡ J.added.seen p k
    seen_back p k =
        when-cong (ltb p 4 && ltb k 4) _ _
        (λ t. at (ltb→lt p 4 (and_left (ltb p 4) (ltb k 4) t)) (ltb→lt k 4 (and_right (ltb p 4) (ltb k 4) t)))
        ∙ when-back (ltb p 4 && ltb k 4) (ltb p 4 && ltb k 4) (J.added.seen p k) (seen_most J) (λ t. t) (proper.added.seen p k)
      where
        at : p < 4 → k < 4 → get_or (record_of J f) (6 + 4 * p + k) 0 ≡ J.added.seen p k
        at a b =
            let j : ℕ = 4 * p + k in
            let x : j / 4 ≡ p = omega arith in
            let y : j % 4 ≡ k = omega arith in
            ap (λ (n : ℕ). get_or (record_of J f) n 0) (omega arith)
            ∙ (head-back (6 + j) (omega arith) ∙ (head-seen j (omega arith) ∙ (λ n. J.added.seen (x n) (y n))))

    added-back : added_of (record_of J f) ≡ J.added
    unfolding added_of
    added-back =
        λ i. record {
          laid_north = λ r c. north-back r c i;
          laid_west = λ r c. west-back r c i;
          own_d = λ r c. own_back r c i;
          upward = head-back 5 (omega arith) i;
          seen = λ p k. seen_back p k i;
        }

    pub job-back : job_of (record_of J f) ≡ J
    unfolding job_of
    job-back =
        λ i. record {
          rows = head-back 0 (omega arith) i;
          columns = head-back 1 (omega arith) i;
          O = head-back 2 (omega arith) i;
          D = head-back 3 (omega arith) i;
          E = head-back 4 (omega arith) i;
          mark = λ r c. mark-back r c i;
          state = λ r c. state-back r c i;
          added = added-back i;
        }

-- ---- the loads

-- what a plane of load bytes can hold: at most 31 wires on a link, all one way, and none where no cell is
pub record Storable (f : Step → ℕ) : Type 0 where
  pub small : (s : Step) → f s < 32
  pub one_way : (s : Step) → 0 < f s → f (turn s) ≡ 0
  pub inside : (s : Step) → T (not (in_cells s.link.row s.link.column)) → f s ≡ 0

-- the load byte of a wires one way and b wires the other
abbrev pub byte_of : ℕ → ℕ → ℕ
byte_of a b = a + when (ltb 0 b) (32 + b)

pub parts-back : (a b : ℕ) → a < 32 → b < 32 → (0 < a → b ≡ 0) → (forth_part (byte_of a b) ≡ a) × (back_part (byte_of a b) ≡ b)
parts-back a b s t h = by (ltb 0 b) (ltb→lt 0 b) (nltb→le 0 b) (eq-zero-or-pos a)
  where
    by : (w : Bool) → (T w → 0 < b) → (T (not w) → b ≤ 0) → (a ≡ 0) ⊎ (0 < a) → (forth_part (a + when w (32 + b)) ≡ a) × (back_part (a + when w (32 + b)) ≡ b)
    by false p q d = (omega (arith, q tt), omega (arith, q tt))
    by true p q (inl z) = (omega (arith, p tt), omega (arith, p tt))
    by true p q (inr l) = absurd (omega (arith, p tt, h l))

pub byte_fits : (a b : ℕ) → a < 32 → b < 32 → (0 < a → b ≡ 0) → (byte_of a b < 64) × (byte_of a b ≢ 32)
byte_fits a b s t h = by (ltb 0 b) (ltb→lt 0 b) (eq-zero-or-pos a)
  where
    by : (w : Bool) → (T w → 0 < b) → (a ≡ 0) ⊎ (0 < a) → (a + when w (32 + b) < 64) × (a + when w (32 + b) ≢ 32)
    by false p d = (omega arith, omega arith)
    by true p (inl z) = (omega arith, omega (arith, p tt))
    by true p (inr l) = absurd (omega (arith, p tt, h l))

module _ (J : Job) (f : Step → ℕ) (b : Storable f) where
  pub byte-back : (k : LinkKind) (r c : ℕ) → cell (record_of J f) (load_plane k) r c ≡ load_byte f k r c
  byte-back k r c =
      cell-is J f (load_plane k) r c (omega (arith, plane-below k))
      ∙ (ap (when (in_cells r c)) (plane-of J f k r c)
      ∙ by (in_cells r c) (λ t. none (f (go k r c)) (f (come k r c)) (b.inside (go k r c) t) (b.inside (come k r c) t)))
    where
      none : (x y : ℕ) → x ≡ 0 → y ≡ 0 → 0 ≡ byte_of x y
      none x y d e = λ i. byte_of (sym d i) (sym e i)

      by : (i : Bool) → (T (not i) → 0 ≡ load_byte f k r c) → when i (load_byte f k r c) ≡ load_byte f k r c
      by true h = refl
      by false h = h tt

  ways-back : (k : LinkKind) (r c : ℕ) → (forth_part (load_byte f k r c) ≡ f (go k r c)) × (back_part (load_byte f k r c) ≡ f (come k r c))
  ways-back k r c = parts-back (f (go k r c)) (f (come k r c)) (b.small (go k r c)) (b.small (come k r c)) (b.one_way (go k r c))

  way_back : (l : Link) (w : Bool) → load (record_of J f) (record { link = l; forth = w }) ≡ f (record { link = l; forth = w })
  unfolding load
  way_back l true = ap forth_part (byte-back l.kind l.row l.column) ∙ (ways-back l.kind l.row l.column).0
  way_back l false = ap back_part (byte-back l.kind l.row l.column) ∙ (ways-back l.kind l.row l.column).1

  pub load-back : (s : Step) → load (record_of J f) s ≡ f s
  load-back s = way_back s.link s.forth

  -- ---- a legal record

  bound_by : (w : Bool) (m n : ℕ) → T (leb m (when w n)) → m ≤ n
  bound_by true m n t = leb→le m n t
  bound_by false m n t = omega (arith, leb→le m 0 t)

  none-by : (w : Bool) (m n : ℕ) → T (leb m (when w n)) → T (not w) → m ≡ 0
  none-by true m n t u = absurd u
  none-by false m n t u = omega (arith, leb→le m 0 t)

  -- a proper job with loads that are sound and can be stored
  pub record-legal : Proper J → Sound J f → Legal (record_of J f)
  record-legal proper sound =
      record {
        long = omega (arith, length-record J f);
        values = record {
          array = to (λ K. T (array_fits K.rows K.columns)) proper.array;
          caps = to (λ K. T (caps_fit K.O K.D K.E)) proper.caps;
          marks = to (λ K. (r c : ℕ) → K.mark r c ≤ 2) (λ r c. bound_by (is_pin J r c) (J.mark r c) 2 (proper.marks r c));
          states = to (λ K. (r c : ℕ) → K.state r c ≤ 1) (λ r c. bound_by (is_tile J r c) (J.state r c) 1 (proper.states r c));
          added = to AddedFits proper.added;
          loads = λ k r c.
              subst (λ (x : ℕ). (x < 64) × (x ≢ 32)) (sym (byte-back k r c))
              (byte_fits (f (go k r c)) (f (come k r c)) (b.small (go k r c)) (b.small (come k r c)) (b.one_way (go k r c)));
        };
        sound = subst₂ Sound (sym (job-back J f proper)) (λ i s. sym (load-back s) i) sound;
        unused = record {
          header = λ i l h. head-back J f i h ∙ head-none J f i l;
          marks = to (λ K. (r c : ℕ) → T (not (is_pin K r c)) → K.mark r c ≡ 0) (λ r c. none-by (is_pin J r c) (J.mark r c) 2 (proper.marks r c));
          states = to (λ K. (r c : ℕ) → T (not (is_tile K r c)) → K.state r c ≡ 0) (λ r c. none-by (is_tile J r c) (J.state r c) 1 (proper.states r c));
        };
      }
    where
      to : (P : Job → Type 0) → P J → P (job_of (record_of J f))
      to P p = subst P (sym (job-back J f proper)) p
