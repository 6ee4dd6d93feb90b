-- Document 01, "Settled by hand" and "Record and operations": with which number New, Mark, Close, Lay, `diagonal` and a trial are refused, on rows with one fault and with more; that
-- a side named from either tile is the same call; that a value already there changes nothing; that Shortfall tests the scratch before the output; and how far the scratch is cleared. Assumes nothing.
use mathlib.Core.Path.{◌≡◌, refl, sym, ap, ◌∙◌}
use mathlib.Core.Bool.{Bool, true, false}
use mathlib.Core.List.{List, [], ◌∷◌, Memᴰ}
use mathlib.Core.Option.{Option, none, some}
use Prim.Native.Nat.{ℕ, suc, ◌+◌, ◌-◌, ◌*◌, ◌≤◌, ◌<◌}
use native.Mathlib.Omega.{arith}
use borrow.Author.Tests.{le-leb}
use lib.Dec.{T, eqb, leb, ltb, eqb→eq, eqb_refl, lt→ltb, ltb→lt}
use lib.ListN.{length, get_or, replicate, drop, length-replicate, get_or-replicate, get_or-append}
use lib.Seq.{get_or-append-add, get_or-drop}
use Rattle.sums.specs.Tests.{and_left, and_right, and_both, every, every-at}
use Rattle.model.specs.Job.{Job, array_fits, caps_admitted, fresh, marked, closed, Side, side_of, laid_on, laid_by, diagonal_by, tile_d, in_range, is_pin, is_tile, with_extra}
use Rattle.model.specs.Links.{Step}
use Rattle.model.specs.Record.{record_size, scratch_size, job_of, load, unwired_record, over}
use Rattle.model.specs.Left.{mark_left, close_left, laid_left, centre_left}
use Rattle.model.specs.Calls.{done, refusal, After, after, cleared, Test, test, asked, newly, edited, marked_by, closed_by, laid_in, diagonal_in, tried_on, Lacks, extra_in}
use Rattle.model.specs.Trial.{Trial, seed_fits, percents_fit, trial_job}
use Rattle.model.specs.Examples.{Opening, openings, Edit, markings, closings, Laying, layings, diagonals, Trying, tryings, Lowering, lowerings}
use Rattle.model.proofs.Asked.{hold-both, asked-holds, asked-all}

-- the number of a test that fails
abbrev first_one : Bool → ℕ → Option ℕ
first_one b k = elim b [ true ↦ none | false ↦ some k ]

one-test : (b : Bool) (k : ℕ) (rec : List ℕ) (x : After) → refusal x.answer ≡ none → refusal (asked (test b k ∷ []) rec [] x).answer ≡ first_one b k
one-test true k rec x e = e
one-test false k rec x e = refl

-- of the first of two tests that fails
abbrev first_of : Bool → ℕ → Bool → ℕ → Option ℕ
first_of a j b k = elim a [ true ↦ first_one b k | false ↦ some j ]

two-tests : (a : Bool) (j : ℕ) (b : Bool) (k : ℕ) (rec : List ℕ) (x : After) → refusal x.answer ≡ none
    → refusal (asked (test a j ∷ test b k ∷ []) rec [] x).answer ≡ first_of a j b k
two-tests true j b k rec x e = one-test b k rec x e
two-tests false j b k rec x e = refl

-- the numbers of a row, as a test
abbrev same_number : Option ℕ → Option ℕ → Bool
same_number none none = true
same_number none (some k) = false
same_number (some j) none = false
same_number (some j) (some k) = eqb j k

same_number_lem : (x y : Option ℕ) → T (same_number x y) → x ≡ y
same_number_lem none none t = refl
same_number_lem none (some k) t = absurd t
same_number_lem (some j) none t = absurd t
same_number_lem (some j) (some k) t = ap some (eqb→eq j k t)

-- ---- New

pub openings-hold : (x : Opening) → Memᴰ x openings → (rec : List ℕ) → record_size ≤ length rec
    → refusal (newly x.rows x.columns x.O x.D x.E rec).answer ≡ x.number
unfolding every
openings-hold x m rec long =
    let made : After = after done (over (unwired_record (fresh x.rows x.columns x.O x.D x.E)) rec) [] [] in
    let ts : List Test = test (array_fits x.rows x.columns) 2 ∷ test (caps_admitted x.O x.D x.E) 3 ∷ [] in
    ap (λ (a : After). refusal a.answer) (asked-holds rec [] made (leb record_size (length rec)) 1 ts (le-leb record_size (length rec) long))
    ∙ (two-tests (array_fits x.rows x.columns) 2 (caps_admitted x.O x.D x.E) 3 rec made refl
    ∙ same_number_lem _ _
    (every-at openings (λ y. same_number (first_of (array_fits y.rows y.columns) 2 (caps_admitted y.O y.D y.E) 3) y.number) tt m))

-- ---- Mark and Close, on a record of the smallest array

abbrev small : Job
small = fresh 2 2 1 2 0

edited-accepted : (b : Bool) (K : Job) (left : Step → ℕ) (rec : List ℕ) → refusal (edited b K left rec).answer ≡ none
edited-accepted true K left rec = refl
edited-accepted false K left rec = refl

pub markings-hold : (x : Edit) → Memᴰ x markings → (rec : List ℕ) → job_of rec ≡ small
    → refusal (marked_by x.row x.column x.value rec).answer ≡ x.number
unfolding every
markings-hold x m rec e =
    two-tests (is_pin (job_of rec) x.row x.column) 4 (leb x.value 2) 5 rec _
    (edited-accepted (eqb ((job_of rec).mark x.row x.column) x.value) (marked (job_of rec) x.row x.column x.value) _ rec)
    ∙ (ap (λ (J : Job). first_of (is_pin J x.row x.column) 4 (leb x.value 2) 5) e
    ∙ same_number_lem _ _ (every-at markings (λ y. same_number (first_of (is_pin small y.row y.column) 4 (leb y.value 2) 5) y.number) tt m))

pub closings-hold : (x : Edit) → Memᴰ x closings → (rec : List ℕ) → job_of rec ≡ small
    → refusal (closed_by x.row x.column x.value rec).answer ≡ x.number
unfolding every
closings-hold x m rec e =
    two-tests (is_tile (job_of rec) x.row x.column) 4 (leb x.value 1) 5 rec _
    (edited-accepted (eqb ((job_of rec).state x.row x.column) x.value) (closed (job_of rec) x.row x.column x.value) _ rec)
    ∙ (ap (λ (J : Job). first_of (is_tile J x.row x.column) 4 (leb x.value 1) 5) e
    ∙ same_number_lem _ _ (every-at closings (λ y. same_number (first_of (is_tile small y.row y.column) 4 (leb y.value 1) 5) y.number) tt m))

-- ---- Lay, on a record of 3 by 3 pins

-- two calls whose first tests both hold and that are alike otherwise
one-call : (a b : Bool) → T a → T b → (rec : List ℕ) (ts : List Test) (x : After) → asked (test a 4 ∷ ts) rec [] x ≡ asked (test b 4 ∷ ts) rec [] x
one-call true true s t rec ts x = refl
one-call true false s t rec ts x = absurd t
one-call false b s t rec ts x = absurd s

abbrev wider : Job
wider = fresh 3 3 2 3 0

-- the number of the first of three tests that fails
abbrev first_of_three : Bool → ℕ → Bool → ℕ → Bool → ℕ → Option ℕ
first_of_three a i b j c k = elim a [ true ↦ first_of b j c k | false ↦ some i ]

three-tests : (a : Bool) (i : ℕ) (b : Bool) (j : ℕ) (c : Bool) (k : ℕ) (rec : List ℕ) (x : After) → refusal x.answer ≡ none
    → refusal (asked (test a i ∷ test b j ∷ test c k ∷ []) rec [] x).answer ≡ first_of_three a i b j c k
three-tests true i b j c k rec x e = two-tests b j c k rec x e
three-tests false i b j c k rec x e = refl

pub layings-hold : (x : Laying) → Memᴰ x layings → (rec : List ℕ) → job_of rec ≡ wider
    → refusal (laid_in x.row x.column x.side x.count rec).answer ≡ x.number
unfolding every
layings-hold x m rec e =
    let s : Side = side_of x.row x.column x.side in
    three-tests (is_tile (job_of rec) x.row x.column) 4 (leb x.side 3) 5 (leb x.count (job_of rec).O) 11 rec _
    (edited-accepted (eqb (laid_on (job_of rec) s) x.count) (laid_by (job_of rec) s x.count) _ rec)
    ∙ (ap (λ (J : Job). first_of_three (is_tile J x.row x.column) 4 (leb x.side 3) 5 (leb x.count J.O) 11) e
    ∙ same_number_lem _ _
    (every-at layings (λ y. same_number (first_of_three (is_tile wider y.row y.column) 4 (leb y.side 3) 5 (leb y.count 2) 11) y.number) tt m))

-- ---- `diagonal`, on the same

pub diagonals-hold : (x : Edit) → Memᴰ x diagonals → (rec : List ℕ) → job_of rec ≡ wider
    → refusal (diagonal_in x.row x.column x.value rec).answer ≡ x.number
unfolding every
diagonals-hold x m rec e =
    let J : Job = job_of rec in
    two-tests (is_tile J x.row x.column) 4 (in_range J.O (2 * J.O) x.value) 3 rec _
    (edited-accepted (eqb (tile_d J x.row x.column) x.value) (diagonal_by J x.row x.column x.value) (centre_left J (load rec) x.row x.column) rec)
    ∙ (ap (λ (J : Job). first_of (is_tile J x.row x.column) 4 (in_range J.O (2 * J.O) x.value) 3) e
    ∙ same_number_lem _ _ (every-at diagonals (λ y. same_number (first_of (is_tile wider y.row y.column) 4 (in_range 2 4 y.value) 3) y.number) tt m))

-- ---- a lower E, on a record of 2 by 2 pins with an E above D

abbrev old : Job
old = fresh 2 2 1 1 2

pub lowerings-hold : (x : Lowering) → Memᴰ x lowerings → (rec : List ℕ) → job_of rec ≡ old → refusal (extra_in x.to rec).answer ≡ x.number
unfolding every
lowerings-hold x m rec e =
    one-test (leb x.to (job_of rec).E) 3 rec _ (edited-accepted (eqb (job_of rec).E x.to) (with_extra (job_of rec) x.to) _ rec)
    ∙ (ap (λ (J : Job). first_one (leb x.to J.E) 3) e
    ∙ same_number_lem _ _ (every-at lowerings (λ y. same_number (first_one (leb y.to 2) 3) y.number) tt m))

-- ---- a trial

-- the number of the first of four tests that fails
abbrev first_of_four : Bool → ℕ → Bool → ℕ → Bool → ℕ → Bool → ℕ → Option ℕ
first_of_four a h b i c j d k = elim a [ true ↦ first_of_three b i c j d k | false ↦ some h ]

four-tests : (a : Bool) (h : ℕ) (b : Bool) (i : ℕ) (c : Bool) (j : ℕ) (d : Bool) (k : ℕ) (rec : List ℕ) (x : After) → refusal x.answer ≡ none
    → refusal (asked (test a h ∷ test b i ∷ test c j ∷ test d k ∷ []) rec [] x).answer ≡ first_of_four a h b i c j d k
four-tests true h b i c j d k rec x e = three-tests b i c j d k rec x e
four-tests false h b i c j d k rec x e = refl

-- what the numbers of a trial are refused with
abbrev tried_with : Trial → Option ℕ
tried_with t =
    first_of_four (array_fits t.rows t.columns) 2 (caps_admitted t.O t.D t.E) 3 (seed_fits t.seed) 12 (percents_fit t.chosen t.missing t.closed) 13

pub tryings-hold : (x : Trying) → Memᴰ x tryings → (rec : List ℕ) → record_size ≤ length rec → refusal (tried_on x.trial rec).answer ≡ x.number
unfolding every
tryings-hold x m rec long =
    let t : Trial = x.trial in
    let made : After = after done (over (unwired_record (trial_job t)) rec) [] [] in
    let ts : List Test =
    test (array_fits t.rows t.columns) 2
    ∷ test (caps_admitted t.O t.D t.E) 3
    ∷ test (seed_fits t.seed) 12
    ∷ test (percents_fit t.chosen t.missing t.closed) 13
    ∷ [] in
    ap (λ (a : After). refusal a.answer) (asked-holds rec [] made (leb record_size (length rec)) 1 ts (le-leb record_size (length rec) long))
    ∙ (four-tests (array_fits t.rows t.columns) 2 (caps_admitted t.O t.D t.E) 3 (seed_fits t.seed) 12
    (percents_fit t.chosen t.missing t.closed) 13 rec made refl
    ∙ same_number_lem _ _ (every-at tryings (λ y. same_number (tried_with y.trial) y.number) tt m))

-- ---- sides

-- "An inner side has one count whichever tile names it": from either tile it is the same call.
pub laid-south : (rec : List ℕ) (r c n : ℕ) → T (is_tile (job_of rec) (suc r) c) → laid_in r c 2 n rec ≡ laid_in (suc r) c 0 n rec
laid-south rec r c n t =
    let J : Job = job_of rec in
    let a : Bool = ltb (suc (suc r)) J.rows in
    let b : Bool = ltb (suc c) J.columns in
    let above : T (is_tile J r c) = and_both (ltb (suc r) J.rows) b
    (lt→ltb (suc r) J.rows (omega (arith, ltb→lt (suc (suc r)) J.rows (and_left a b t)))) (and_right a b t) in
    one-call (is_tile J r c) (is_tile J (suc r) c) above t rec (test true 5 ∷ test (leb n J.O) 11 ∷ [])
    (edited (eqb (laid_on J (side_of r c 2)) n) (laid_by J (side_of r c 2) n) (laid_left J (load rec) (side_of r c 2) n) rec)

pub laid-east : (rec : List ℕ) (r c n : ℕ) → T (is_tile (job_of rec) r (suc c)) → laid_in r c 1 n rec ≡ laid_in r (suc c) 3 n rec
laid-east rec r c n t =
    let J : Job = job_of rec in
    let a : Bool = ltb (suc r) J.rows in
    let b : Bool = ltb (suc (suc c)) J.columns in
    let before : T (is_tile J r c) = and_both a (ltb (suc c) J.columns) (and_left a b t)
    (lt→ltb (suc c) J.columns (omega (arith, ltb→lt (suc (suc c)) J.columns (and_right a b t)))) in
    one-call (is_tile J r c) (is_tile J r (suc c)) before t rec (test true 5 ∷ test (leb n J.O) 11 ∷ [])
    (edited (eqb (laid_on J (side_of r c 1)) n) (laid_by J (side_of r c 1) n) (laid_left J (load rec) (side_of r c 1) n) rec)

-- "A value already there changes nothing."
already : (ts : List Test) (rec : List ℕ) (v m : ℕ) (K : Job) (left : Step → ℕ) → v ≡ m
    → asked ts rec [] (edited (eqb v m) K left rec) ≡ asked ts rec [] (after done rec [] [])
already ts rec v m K left e = ap (λ (b : Bool). asked ts rec [] (edited b K left rec)) (ap (λ (n : ℕ). eqb n m) e ∙ is_true (eqb m m) (eqb_refl m))
  where
    is_true : (b : Bool) → T b → b ≡ true
    is_true true t = refl
    is_true false t = absurd t

pub already-marked : (rec : List ℕ) (r c m : ℕ) → T (is_pin (job_of rec) r c) → T (leb m 2) → (job_of rec).mark r c ≡ m → marked_by r c m rec ≡ after done rec [] []
already-marked rec r c m t u e =
    let ts : List Test = test (is_pin (job_of rec) r c) 4 ∷ test (leb m 2) 5 ∷ [] in
    already ts rec ((job_of rec).mark r c) m (marked (job_of rec) r c m) (mark_left (job_of rec) (load rec) r c) e
    ∙ asked-all rec [] (after done rec [] []) ts (hold-both (is_pin (job_of rec) r c) (leb m 2) t u)

pub already-closed : (rec : List ℕ) (r c v : ℕ) → T (is_tile (job_of rec) r c) → T (leb v 1) → (job_of rec).state r c ≡ v
    → closed_by r c v rec ≡ after done rec [] []
already-closed rec r c v t u e =
    let ts : List Test = test (is_tile (job_of rec) r c) 4 ∷ test (leb v 1) 5 ∷ [] in
    already ts rec ((job_of rec).state r c) v (closed (job_of rec) r c v) (close_left (job_of rec) (load rec) r c) e
    ∙ asked-all rec [] (after done rec [] []) ts (hold-both (is_tile (job_of rec) r c) (leb v 1) t u)

pub already-diagonal : (rec : List ℕ) (r c d : ℕ) → T (is_tile (job_of rec) r c) → T (in_range (job_of rec).O (2 * (job_of rec).O) d) → tile_d (job_of rec) r c ≡ d
    → diagonal_in r c d rec ≡ after done rec [] []
already-diagonal rec r c d t u e =
    let J : Job = job_of rec in
    let ts : List Test = test (is_tile J r c) 4 ∷ test (in_range J.O (2 * J.O) d) 3 ∷ [] in
    already ts rec (tile_d J r c) d (diagonal_by J r c d) (centre_left J (load rec) r c) e
    ∙ asked-all rec [] (after done rec [] []) ts (hold-both (is_tile J r c) (in_range J.O (2 * J.O) d) t u)

-- ---- Shortfall

-- with both buffers too short it is 8
pub scratch-first : (scratch output rec : List ℕ) (a : After) → Lacks scratch output rec a → length scratch < scratch_size → length output < record_size
    → refusal a.answer ≡ some 8
scratch-first scratch output rec a d l m = ap (λ (x : After). refusal x.answer) (d.small l)

-- ---- the scratch

-- "After an accepted call that takes scratch, it is all zero", its 65,536 bytes
pub cleared-zero : (scratch : List ℕ) (i : ℕ) → i < scratch_size → get_or (cleared scratch) i 0 ≡ 0
cleared-zero scratch i l =
    let z : List ℕ = replicate scratch_size 0 in
    get_or-append z (drop (length z) scratch) 0 i (omega (arith, length-replicate {A = ℕ} scratch_size 0)) ∙ get_or-replicate scratch_size i 0 0 l

-- "A longer buffer is used from its start and its rest is untouched."
pub cleared-rest : (scratch : List ℕ) (i : ℕ) → scratch_size ≤ i → get_or (cleared scratch) i 0 ≡ get_or scratch i 0
cleared-rest scratch i l =
    let z : List ℕ = replicate scratch_size 0 in
    let n : length z ≡ scratch_size = length-replicate {A = ℕ} scratch_size 0 in
    let k : i ≡ length z + (i - scratch_size) = omega arith in
    ap (λ (j : ℕ). get_or (cleared scratch) j 0) k
    ∙ (get_or-append-add z (drop (length z) scratch) (i - scratch_size) 0
    ∙ (get_or-drop (length z) scratch (i - scratch_size) 0 ∙ ap (λ (j : ℕ). get_or scratch j 0) (sym k)))
