-- Document 01, "Job text": a text is read or refused within its first 640,280 bytes, for the lines that may stand have rising turns, 16,007 at most, and no
-- line has more than 40 bytes. Assumes nothing.
use Rattle.std.specs.Prelude.{◌≡◌, refl, Bool, true, false, ◌&&◌, List, [], ◌∷◌, ◌++◌, ℕ, ◌+◌, ◌-◌, ◌*◌, ◌/◌, ◌%◌, ◌≤◌, ◌<◌, T, eqb, leb, ltb, length}
use Rattle.std.proofs.Common.{sym, ap, subst, ◌∙◌, arith, leb→le, le→leb, eqb→eq, ltb→lt, length-append, eq-eqb}
use Rattle.std.proofs.Math.Option.{some}
use Rattle.sums.specs.Counting.{when, only, each}
use Rattle.sums.specs.Tests.{Same, same, other, same?, and_left, and_right}
use Rattle.model.specs.Job.{Job, with_extra, in_range, array_fits, caps_admitted, Side, of_north, of_west, side_of, laid_on, is_tile, is_chosen, is_missing, is_closed, Proper}
use Rattle.model.specs.Text.{Group, chosen_pins, missing_pins, closed_tiles, own_ds, laid_sides, Line, array_line, group_line, end_line, decimal, numbers, form, array_word, pins_word}
use Rattle.model.specs.Text.{caps_word, group_word, end_word, tail_of, says, form_of, line_bytes, within, rank, key_of, Reader, names, named, admit, Verdict, reads}
use Rattle.model.specs.Text.{wrong_at, Reads, ended, line, wrong, Reading, writes_side, cells, value_at, value_line, groups, group_text, listed, text_of}
use Rattle.model.proofs.RecordOf.{range-most}
use Rattle.model.proofs.Admitted.{extra-proper}
use Rattle.model.proofs.TextProper.{asked, by_word, names-says}
use Rattle.model.proofs.TextNames.{due, rank-group, names-inside}
use Rattle.model.proofs.RoundTrip.{round_trip}

-- ---- bytes of a line

digits : (b : Bool) (x y : ℕ) → length (only b (x ∷ []) ++ (y ∷ [])) ≤ 2
digits true x y = omega arith
digits false x y = omega arith

number_short : (n : ℕ) → length (decimal n) ≤ 2
number_short n = digits (leb 10 n) (48 + n / 10) (48 + n % 10)

numbers-short : (l : List ℕ) → length (numbers l) ≤ 3 * length l
numbers-short [] = omega arith
numbers-short (n ∷ l) = omega (arith, length-append (decimal n) (numbers l), number_short n, numbers-short l)

form-short : (word l : List ℕ) → length (form word l) ≤ 2 + (length word + 3 * length l)
form-short word l =
    omega (arith, length-append word (numbers l ++ (41 ∷ [])), length-append (numbers l) (41 ∷ []), numbers-short l)

group-short : (g : Group) → length (group_word g) ≤ 7
group-short chosen_pins = omega arith
group-short missing_pins = omega arith
group-short closed_tiles = omega arith
group-short own_ds = omega arith
group-short laid_sides = omega arith

tail-short : (g : Group) (d v : ℕ) → length (tail_of g d v) ≤ 5
tail-short chosen_pins d v = omega arith
tail-short missing_pins d v = omega arith
tail-short closed_tiles d v = omega arith
tail-short own_ds d v = omega (arith, numbers-short (v ∷ []))
tail-short laid_sides d v = omega (arith, numbers-short (v ∷ []))

forms-short : (l : Line) → length (form_of l) ≤ 39
forms-short (array_line a b o d e) =
    let x : List ℕ = form pins_word (a ∷ b ∷ []) in
    let y : List ℕ = form caps_word (o ∷ d ∷ e ∷ []) in
    omega (
      arith,
      length-append array_word (32 ∷ x ++ (32 ∷ y ++ (41 ∷ []))),
      length-append x (32 ∷ y ++ (41 ∷ [])),
      length-append y (41 ∷ []),
      form-short pins_word (a ∷ b ∷ []),
      form-short caps_word (o ∷ d ∷ e ∷ []),
    )
forms-short (group_line g r c d v) =
    let x : List ℕ = numbers (r ∷ c ∷ []) in
    omega (
      arith,
      length-append (group_word g) (x ++ (tail_of g d v ++ (41 ∷ []))),
      length-append x (tail_of g d v ++ (41 ∷ [])),
      length-append (tail_of g d v) (41 ∷ []),
      numbers-short (r ∷ c ∷ []),
      group-short g,
      tail-short g d v,
    )
forms-short end_line = omega (arith, form-short end_word [])

line-short : (l : Line) → length (line_bytes l) ≤ 40
unfolding line_bytes
line-short l = omega (arith, length-append (form_of l) (10 ∷ []), forms-short l)

-- ---- turns

-- how many lines may still follow: in the groups without sides one for every fourth turn, of laid sides one for each
abbrev left_at : ℕ → ℕ
left_at t = (9600 - (t + 3) / 4) + (6400 - (t - 38400))

abbrev left : Reader → ℕ
left R = left_at (due R) + (7 - rank R.stage)

left-falls : (t u : ℕ) → t ≤ u → left_at u ≤ left_at t
left-falls t u l = omega arith

plain-less : (t x n : ℕ) → n ≡ 4 * x + 1 → t < n → x < 9600 → left_at n < left_at t
plain-less t x n e l m = omega arith

side-less : (t x n : ℕ) → n ≡ 38400 + x + 1 → t < n → x < 6400 → left_at n < left_at t
side-less t x n e l m = omega arith

-- after a line of a group
group-less : (g : Group) (t r c d v : ℕ) → T (says g d v) → r < 40 → c < 40 → d < 4 → t ≤ 6400 * rank (within g) + key_of r c d
    → left_at (6400 * rank (within g) + (key_of r c d + 1)) < left_at t
group-less chosen_pins t r c d v s lr lc ld l = let (z, i) = by_word d v 1 s in plain-less t (3200 + 40 * r + c) _ (omega arith) (omega arith) (omega arith)
group-less missing_pins t r c d v s lr lc ld l = let (z, i) = by_word d v 2 s in plain-less t (4800 + 40 * r + c) _ (omega arith) (omega arith) (omega arith)
group-less closed_tiles t r c d v s lr lc ld l = let (z, i) = by_word d v 1 s in plain-less t (6400 + 40 * r + c) _ (omega arith) (omega arith) (omega arith)
group-less own_ds t r c d v s lr lc ld l =
    let z : d ≡ 0 = eqb→eq d 0 (and_left (eqb d 0) (ltb 0 v) s) in
    plain-less t (8000 + 40 * r + c) _ (omega arith) (omega arith) (omega arith)
group-less laid_sides t r c d v s lr lc ld l = side-less t (key_of r c d) _ (omega arith) (omega arith) (omega arith)

add-less : (a b c d : ℕ) → a < b → c ≤ d → a + c < b + d
add-less a b c d l m = omega arith

record Midst (R : Reader) : Type 0 where
  from : R.from ≤ 6400
  turn : due R ≤ 44800
  size : 1 ≤ rank R.stage → (R.job.rows ≤ 40) × (R.job.columns ≤ 40)

named-rows : (J : Job) (g : Group) (r c d v : ℕ) → ((named J g r c d v).rows ≡ J.rows) × ((named J g r c d v).columns ≡ J.columns)
named-rows J chosen_pins r c d v = (refl, refl)
named-rows J missing_pins r c d v = (refl, refl)
named-rows J closed_tiles r c d v = (refl, refl)
named-rows J own_ds r c d v = (refl, refl)
named-rows J laid_sides r c d v = (refl, refl)

when-same : (s t f : ℕ) → s ≡ t → when (eqb s t) f ≡ f
when-same s t f e = by (eqb s t) (eq-eqb s t e)
  where
    by : (b : Bool) → b ≡ true → when b f ≡ f
    by true q = refl
    by false q = absurd (subst T (sym q) tt)

-- in turn, a line of a group is at least due
turn-due : (s t f x : ℕ) → s ≤ t → when (eqb s t) f ≤ x → f ≤ 6400 → 6400 * s + f ≤ 6400 * t + x
turn-due s t f x l k m = by (eqb s t) (same? s t) (when-same s t f)
  where
    by : (b : Bool) → Same s t b → (s ≡ t → when (eqb s t) f ≡ f) → 6400 * s + f ≤ 6400 * t + x
    by true (same e) h = omega (arith, h e)
    by false (other n) h = let q : s < t = omega arith in omega arith

goes_on_lem : (R : Reader) (l : Line) (R' : Reader) → Midst R → admit R l ≡ some R' → Midst R' × (left R' < left R)
unfolding admit
goes_on_lem R (array_line rows columns O D E) R' m e =
    let a : Bool = eqb (rank R.stage) 0 in
    let b : Bool = array_fits rows columns in
    let d : Bool = caps_admitted O D E in
    let (t, q) = asked (a && (b && d)) _ R' e in
    let u : T b = and_left b d (and_right a (b && d) t) in
    let z : rank R.stage ≡ 0 = eqb→eq (rank R.stage) 0 (and_left a (b && d) t) in
    let x : rows ≤ 40 = range-most 2 40 rows (and_left (in_range 2 40 rows) (in_range 2 40 columns) u) in
    let y : columns ≤ 40 = range-most 2 40 columns (and_right (in_range 2 40 rows) (in_range 2 40 columns) u) in
    let h : left_at 6400 ≤ left_at (due R) = left-falls (due R) 6400 (omega (arith, m.from)) in
    subst (λ S. Midst S × (left S < left R)) q (record { from = omega arith; turn = omega arith; size = λ k. (x, y) }, omega arith)
goes_on_lem R (group_line g r c k v) R' m e =
    let s : ℕ = rank R.stage in
    let a : Bool = leb 1 s in
    let b : Bool = leb s (rank (within g)) in
    let d : Bool = leb (when (eqb s (rank (within g))) R.from) (key_of r c k) in
    let n : Bool = names R.job g r c k v in
    let (t, q) = asked ((a && (b && d)) && n) _ R' e in
    let u : T (a && (b && d)) = and_left (a && (b && d)) n t in
    let w : T (b && d) = and_right a (b && d) u in
    let begun : 1 ≤ s = leb→le 1 s (and_left a (b && d) u) in
    let later : s ≤ rank (within g) = leb→le s (rank (within g)) (and_left b d w) in
    let beyond : when (eqb s (rank (within g))) R.from ≤ key_of r c k = leb→le _ _ (and_right b d w) in
    let (x, y) = m.size begun in
    let may : T (names R.job g r c k v) = and_right (a && (b && d)) n t in
    let (lr, lc, lk) = names-inside R.job g r c k v may in
    let h : due R ≤ 6400 * rank (within g) + key_of r c k = turn-due s (rank (within g)) R.from (key_of r c k) later beyond m.from in
    let (ex, ey) = named-rows R.job g r c k v in
    subst (λ S. Midst S × (left S < left R)) q (
      record { from = omega arith; turn = omega (arith, rank-group g); size = λ i. omega arith },
      add-less _ _ _ _ (group-less g (due R) r c k v (names-says R.job g r c k v may) (omega arith) (omega arith) lk h) (omega arith),
    )
goes_on_lem R end_line R' m e =
    let s : ℕ = rank R.stage in
    let (t, q) = asked (leb 1 s && ltb s 7) _ R' e in
    let l : s < 7 = ltb→lt s 7 (and_right (leb 1 s) (ltb s 7) t) in
    let k : 1 ≤ s = leb→le 1 s (and_left (leb 1 s) (ltb s 7) t) in
    let h : left_at 44800 ≤ left_at (due R) = left-falls (due R) 44800 m.turn in
    subst (λ S. Midst S × (left S < left R)) q (record { from = omega arith; turn = omega arith; size = λ i. m.size k }, omega arith)

-- ---- the whole text

-- the offset of a refusal, and the length of a text that reads
abbrev pub Within : List ℕ → Verdict → ℕ → ℕ → Type 0
Within text (reads K) o n = length text ≤ 40 * n
Within text (wrong_at p) o n = p ≤ o + 40 * n

farther : (text rest : List ℕ) (v : Verdict) (o k n n' : ℕ) → length text ≡ k + length rest → k ≤ 40 → n' < n → Within rest v (o + k) n' → Within text v o n
farther text rest (reads K) o k n n' e l d w = omega arith
farther text rest (wrong_at p) o k n n' e l d w = omega arith

reads-within : {R : Reader} {o : ℕ} {text : List ℕ} {v : Verdict} → Reads R o text v → Midst R → Within text v o (left R)
reads-within (ended e f) m = omega (arith, ap length f)
reads-within (line {R = R} {o = o} {text = text} {v = v} l R' rest a q r) m =
    let (m', d) = goes_on_lem R l R' m a in
    farther text rest v o (length (line_bytes l)) (left R) (left R') (ap length q ∙ length-append (line_bytes l) rest) (line-short l) d (reads-within r m')
reads-within (wrong f n) m = omega arith

pub reading-within : (text : List ℕ) (v : Verdict) → Reading text v → Within text v 0 16007
reading-within text v r = reads-within r (record { from = omega arith; turn = omega arith; size = λ k. absurd (omega arith) })

-- behind the array line a text does not tell E
laid-alike : (J : Job) (e : ℕ) (s : Side) → laid_on (with_extra J e) s ≡ laid_on J s
laid-alike J e (of_north r c) = refl
laid-alike J e (of_west r c) = refl

value-alike : (J : Job) (e : ℕ) (g : Group) (r c d : ℕ) → value_at (with_extra J e) g r c d ≡ value_at J g r c d
unfolding is_chosen is_missing is_closed
value-alike J e chosen_pins r c d = refl
value-alike J e missing_pins r c d = refl
value-alike J e closed_tiles r c d = refl
value-alike J e own_ds r c d = refl
value-alike J e laid_sides r c d = ap (when (ltb d 4 && (is_tile J r c && writes_side r c d))) (laid-alike J e (side_of r c d))

rest-alike : (J : Job) (e : ℕ) → listed (group_text (with_extra J e)) groups (line_bytes end_line) ≡ listed (group_text J) groups (line_bytes end_line)
rest-alike J e =
    λ i. listed (λ g. cells J (λ r c. each 4 (λ d. value_line g r c d (value-alike J e g r c d i)))) groups (line_bytes end_line)

-- the text of a job with any E, by that of the job with E = 0, which reads
pub text-short : (J : Job) → Proper J → length (text_of J) ≤ 640320
unfolding text_of
text-short J p =
    let K : Job = with_extra J 0 in
    let q : Proper K = extra-proper J 0 p (le→leb 0 J.E (omega arith)) in
    let a : List ℕ = line_bytes (array_line J.rows J.columns J.O J.D J.E) in
    let b : List ℕ = line_bytes (array_line J.rows J.columns J.O J.D 0) in
    omega (
      arith,
      reading-within (text_of K) (reads K) (round_trip.reads-written K q (omega arith)),
      length-append a (listed (group_text J) groups (line_bytes end_line)),
      length-append b (listed (group_text K) groups (line_bytes end_line)),
      ap length (rest-alike J 0),
      line-short (array_line J.rows J.columns J.O J.D J.E),
    )
