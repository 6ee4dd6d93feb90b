-- Document 01, "Job text": every text has a verdict. At each reader a line that may stand there either begins the text or none does: its numbers lie below
-- bounds that the reader knows, so they are tried one by one. Assumes nothing.
use Rattle.std.specs.Prelude.{◌≡◌, refl, Bool, true, false, ◌&&◌, List, [], ◌∷◌, ◌++◌, ℕ, zero, suc, ◌+◌, ◌*◌, ◌≤◌, ◌<◌, eqb, leb, length, get_or, drop}
use Rattle.std.proofs.Common.{sym, ap, ap₂, ◌∙◌, le_refl, length-append}
use mathlib.Core.Logic.Dec
use Rattle.std.proofs.Math.Option.{Option, none, some}
use Rattle.std.proofs.Math.Decide.{ℕ_discrete}
use native.Mathlib.Omega.{arith}
use Rattle.std.proofs.Math.Dec.{T, leb→le}
use Rattle.sums.specs.Tests.{and_left, and_right}
use Rattle.sums.specs.Entries.{none-some}
use Rattle.model.specs.Job.{in_range, array_fits, caps_admitted}
use Rattle.model.specs.Text.{Group, chosen_pins, missing_pins, closed_tiles, own_ds, laid_sides, Line, array_line, group_line, end_line, form_of, line_bytes, Stage, begin, after_array}
use Rattle.model.specs.Text.{finished, within, rank, Reader, start, asking, in_turn, names, admit, Verdict, reads, wrong_at, Reads, ended, line, wrong, Reading}
use Rattle.model.proofs.Own.{own_range}
use Rattle.model.proofs.TextProper.{by_word, names-says, names-own, names-laid}
use Rattle.model.proofs.Admitted.{caps-small}
use Rattle.model.proofs.TextNames.{names-inside}
use Rattle.witness.specs.Decide.{some?}

-- ---- what begins a text

-- whether one list begins another
begins? : (l text : List ℕ) → Dec ((rest : List ℕ) × (text ≡ l ++ rest))
begins? [] text = yes (text, refl)
begins? (x ∷ l) [] = no (λ w. omega (arith, ap length w.1))
begins? (x ∷ l) (y ∷ text) = by (ℕ_discrete y x) (begins? l text)
  where
    by : Dec (y ≡ x) → Dec ((rest : List ℕ) × (text ≡ l ++ rest)) → Dec ((rest : List ℕ) × (y ∷ text ≡ (x ∷ l) ++ rest))
    by (no n) d = no (λ w. n (ap (λ (m : List ℕ). get_or m 0 0) w.1))
    by (yes e) (no n) = no (λ w. n (w.0, ap (drop 1) w.1))
    by (yes e) (yes (rest, q)) = yes (rest, ap₂ ◌∷◌ e q)

-- the line may stand at the reader and begins the text
abbrev Stands : Reader → List ℕ → Line → Type 0
Stands R text l = (R' : Reader) × (rest : List ℕ) × (admit R l ≡ some R') × (text ≡ line_bytes l ++ rest)

stands? : (R : Reader) (text : List ℕ) (l : Line) → Dec (Stands R text l)
stands? R text l = by (admit R l) refl (begins? (line_bytes l) text)
  where
    by : (o : Option Reader) → admit R l ≡ o → Dec ((rest : List ℕ) × (text ≡ line_bytes l ++ rest)) → Dec (Stands R text l)
    by none e d = no (λ w. none-some w.0 (sym e ∙ w.2))
    by (some R') e (no n) = no (λ w. n (w.1, w.3))
    by (some R') e (yes (rest, q)) = yes (R', rest, e, q)

-- ---- the numbers of a line that may stand

asked : (b : Bool) (R S : Reader) → asking b R ≡ some S → T b
asked true R S e = tt
asked false R S e = absurd (none-some S e)

module _ (R : Reader) (text : List ℕ) where
  group-bounds : (g : Group) (r c d v : ℕ) → Stands R text (group_line g r c d v) → (r < R.job.rows) × (c < R.job.columns) × (d < 4) × (v < 3 + 2 * R.job.O)
  unfolding admit
  group-bounds g r c d v (S, rest, a, q) =
      let t : T (names R.job g r c d v) =
      and_right (in_turn R g r c d) (names R.job g r c d v) (asked (in_turn R g r c d && names R.job g r c d v) _ S a) in
      let (x, y, z) = names-inside R.job g r c d v t in
      (x, y, z, by g t)
    where
      by : (g : Group) → T (names R.job g r c d v) → v < 3 + 2 * R.job.O
      by chosen_pins t = let (x, y) = by_word d v 1 (names-says R.job chosen_pins r c d v t) in omega arith
      by missing_pins t = let (x, y) = by_word d v 2 (names-says R.job missing_pins r c d v t) in omega arith
      by closed_tiles t = let (x, y) = by_word d v 1 (names-says R.job closed_tiles r c d v t) in omega arith
      by own_ds t = omega (arith, (own_range R.job v (names-own R.job r c d v t).1).1)
      by laid_sides t = omega (arith, leb→le v R.job.O (names-laid R.job r c d v t).2)

  top : (least most n : ℕ) → T (in_range least most n) → n ≤ most
  top least most n t = leb→le n most (and_right (leb least n) (leb n most) t)

  array-bounds : (a b O D E : ℕ) → Stands R text (array_line a b O D E) → (a < 41) × (b < 41) × (O < 17) × (D < 17) × (E < 17)
  unfolding admit
  array-bounds a b O D E (S, rest, e, q) =
      let t : T (array_fits a b && caps_admitted O D E) =
      and_right (eqb (rank R.stage) (rank begin)) (array_fits a b && caps_admitted O D E)
      (asked (eqb (rank R.stage) (rank begin) && (array_fits a b && caps_admitted O D E)) _ S e) in
      let f : T (array_fits a b) = and_left (array_fits a b) (caps_admitted O D E) t in
      let c : T (caps_admitted O D E) = and_right (array_fits a b) (caps_admitted O D E) t in
      let (o, d, x) = caps-small O D E c in (
        omega (arith, top 2 40 a (and_left (in_range 2 40 a) (in_range 2 40 b) f)),
        omega (arith, top 2 40 b (and_right (in_range 2 40 a) (in_range 2 40 b) f)),
        omega arith,
        omega arith,
        omega arith,
      )

  -- ---- a line that stands, or none

  abbrev Found : Type 0
  Found = (l : Line) × Stands R text l

  abbrev InGroup : Group → Type 0
  InGroup g =
      (r : ℕ) × (r < R.job.rows) × ((c : ℕ) × (c < R.job.columns) × ((d : ℕ) × (d < 4) × ((v : ℕ) × (v < 3 + 2 * R.job.O) × Stands R text (group_line g r c d v))))

  group? : (g : Group) → Dec (InGroup g)
  group? g = some? _ (λ r. some? _ (λ c. some? _ (λ d. some? _ (λ v. stands? R text (group_line g r c d v)) (3 + 2 * R.job.O)) 4) R.job.columns) R.job.rows

  abbrev ArrayFound : Type 0
  ArrayFound =
      (a : ℕ) × (a < 41) × ((b : ℕ) × (b < 41) × ((O : ℕ) × (O < 17) × ((D : ℕ) × (D < 17) × ((E : ℕ) × (E < 17) × Stands R text (array_line a b O D E)))))

  array? : Dec ArrayFound
  array? =
      some? _ (λ a. some? _ (λ b. some? _ (λ O. some? _ (λ D. some? _ (λ E. stands? R text (array_line a b O D E)) 17) 17) 17) 41) 41

  line? : Dec Found
  line? = by array? (group? chosen_pins) (group? missing_pins) (group? closed_tiles) (group? own_ds) (group? laid_sides) (stands? R text end_line)
    where
      in_group : (g : Group) (r c d v : ℕ) → Stands R text (group_line g r c d v) → InGroup g
      in_group g r c d v w = let (l, m, n, o) = group-bounds g r c d v w in (r, l, (c, m, (d, n, (v, o, w))))

      found : (g : Group) → InGroup g → Found
      found g (r, l, (c, m, (d, n, (v, o, w)))) = (group_line g r c d v, w)

      none_found : (ArrayFound → ⊥) → (InGroup chosen_pins → ⊥) → (InGroup missing_pins → ⊥) → (InGroup closed_tiles → ⊥) → (InGroup own_ds → ⊥) → (InGroup laid_sides → ⊥)
          → (Stands R text end_line → ⊥) → (l : Line) → Stands R text l → ⊥
      none_found p q r s o u t (array_line a b O D E) w = let (i, j, k, l, m) = array-bounds a b O D E w in p (a, i, (b, j, (O, k, (D, l, (E, m, w)))))
      none_found p q r s o u t (group_line chosen_pins i j d v) w = q (in_group chosen_pins i j d v w)
      none_found p q r s o u t (group_line missing_pins i j d v) w = r (in_group missing_pins i j d v w)
      none_found p q r s o u t (group_line closed_tiles i j d v) w = s (in_group closed_tiles i j d v w)
      none_found p q r s o u t (group_line own_ds i j d v) w = o (in_group own_ds i j d v w)
      none_found p q r s o u t (group_line laid_sides i j d v) w = u (in_group laid_sides i j d v w)
      none_found p q r s o u t end_line w = t w

      by : Dec ArrayFound → Dec (InGroup chosen_pins) → Dec (InGroup missing_pins) → Dec (InGroup closed_tiles) → Dec (InGroup own_ds) → Dec (InGroup laid_sides)
          → Dec (Stands R text end_line) → Dec Found
      by (yes (a, i, (b, j, (O, k, (D, l, (E, m, w)))))) q r s o u t = yes (array_line a b O D E, w)
      by (no p) (yes q) r s o u t = yes (found chosen_pins q)
      by (no p) (no q) (yes r) s o u t = yes (found missing_pins r)
      by (no p) (no q) (no r) (yes s) o u t = yes (found closed_tiles s)
      by (no p) (no q) (no r) (no s) (yes o) u t = yes (found own_ds o)
      by (no p) (no q) (no r) (no s) (no o) (yes u) t = yes (found laid_sides u)
      by (no p) (no q) (no r) (no s) (no o) (no u) (yes w) = yes (end_line, w)
      by (no p) (no q) (no r) (no s) (no o) (no u) (no t) = no (λ x. none_found p q r s o u t x.0 x.1)

-- ---- verdicts

finished? : (s : Stage) → Dec (s ≡ finished)
finished? begin = no (λ e. omega (arith, ap rank e))
finished? after_array = no (λ e. omega (arith, ap rank e))
finished? (within chosen_pins) = no (λ e. omega (arith, ap rank e))
finished? (within missing_pins) = no (λ e. omega (arith, ap rank e))
finished? (within closed_tiles) = no (λ e. omega (arith, ap rank e))
finished? (within own_ds) = no (λ e. omega (arith, ap rank e))
finished? (within laid_sides) = no (λ e. omega (arith, ap rank e))
finished? finished = yes refl

empty? : (text : List ℕ) → Dec (text ≡ [])
empty? [] = yes refl
empty? (x ∷ text) = no (λ e. omega (arith, ap length e))

line-long : (l : Line) → 0 < length (line_bytes l)
unfolding line_bytes
line-long l = omega (arith, length-append (form_of l) (10 ∷ []))

-- the verdict, if what is behind a line has one
judge : (R : Reader) (o : ℕ) (text : List ℕ)
    → ((l : Line) (S : Reader) (rest : List ℕ) → text ≡ line_bytes l ++ rest → (v : Verdict) × Reads S (o + length (line_bytes l)) rest v)
    → (v : Verdict) × Reads R o text v
judge R o text more = by (Dec.and (finished? R.stage) (empty? text)) (line? R text)
  where
    by : Dec ((R.stage ≡ finished) × (text ≡ [])) → Dec (Found R text) → (v : Verdict) × Reads R o text v
    by (yes (a, b)) d = (reads R.job, ended a b)
    by (no n) (yes (l, (S, rest, a, q))) = let (v, r) = more l S rest q in (v, line l S rest a q r)
    by (no n) (no m) = (wrong_at o, wrong (λ a b. n (a, b)) (λ l S rest a q. m (l, (S, rest, a, q))))

shorter : (l : Line) (rest text : List ℕ) → text ≡ line_bytes l ++ rest → length rest < length text
shorter l rest text q = omega (arith, ap length q, length-append (line_bytes l) rest, line-long l)

reads-by : (k : ℕ) (R : Reader) (o : ℕ) (text : List ℕ) → length text ≤ k → (v : Verdict) × Reads R o text v
reads-by zero R o text h = judge R o text (λ l S rest q. absurd (omega (arith, shorter l rest text q)))
reads-by (suc k) R o text h =
    judge R o text (λ l S rest q. reads-by k S (o + length (line_bytes l)) rest (omega (arith, shorter l rest text q)))

-- every text is read in, or is wrong at a line
pub reading : (text : List ℕ) → (v : Verdict) × Reading text v
reading text = reads-by (length text) start 0 text (le_refl (length text))
