-- Document 01, "Job text" and "Runs": a fresh job, a mark and a closed tile within the array are proper, so a text that is read gives a proper job: every
-- line that may stand after the array names a pin or tile of it. Assumes nothing.
use mathlib.Core.Path.{◌≡◌, ap, subst}
use mathlib.Core.Bool.{Bool, true, false, not, ◌&&◌}
use mathlib.Core.List.{List}
use mathlib.Core.Option.{some}
use Prim.Native.Nat.{ℕ, ◌≤◌}
use native.Mathlib.Omega.{arith}
use lib.Dec.{T, eqb, leb, ltb, eqb→eq, leb→le, le→leb}
use Rattle.sums.specs.Counting.{when}
use Rattle.sums.specs.Tests.{and_left, and_right}
use Rattle.model.specs.Job.{Job, array_fits, caps_fit, caps_admitted, fresh, marked, closed, put, is_pin, is_tile, is_own_d, Proper}
use Rattle.model.specs.Text.{Group, chosen_pins, missing_pins, closed_tiles, own_ds, laid_sides, Line, array_line, group_line, end_line, says, begin, rank, Reader, asking, in_turn}
use Rattle.model.specs.Text.{writes_side, names, named, admit, Verdict, reads, wrong_at, Reads, ended, line, wrong, Reading}
use Rattle.model.proofs.Admitted.{admitted-fit}
use Rattle.model.proofs.Added.{fresh-fits, fits_kept}
use Rattle.model.proofs.Own.{or-so, own-proper}
use Rattle.model.proofs.Sides.{put-fits, laid-proper}

-- ---- proper jobs

zero-fits : (x : ℕ) → T (leb 0 x)
zero-fits x = le→leb 0 x (omega arith)

pub fresh-proper : (rows columns O D E : ℕ) → T (array_fits rows columns) → T (caps_fit O D E) → Proper (fresh rows columns O D E)
fresh-proper rows columns O D E a b =
    let J : Job = fresh rows columns O D E in
    record {
      array = a;
      caps = b;
      marks = λ r c. zero-fits (when (is_pin J r c) 2);
      states = λ r c. zero-fits (when (is_tile J r c) 1);
      added = fresh-fits rows columns O D E;
    }

pub marked-proper : (J : Job) (r c m : ℕ) → Proper J → T (is_pin J r c) → T (leb m 2) → Proper (marked J r c m)
marked-proper J r c m p t u =
    let marks : ℕ → ℕ → ℕ = put J.mark r c m in
    record {
      array = p.array;
      caps = p.caps;
      marks = put-fits J.mark (is_pin J) 2 r c m p.marks t u;
      states = p.states;
      added = fits_kept J marks J.state p.added;
    }

pub closed-proper : (J : Job) (r c v : ℕ) → Proper J → T (is_tile J r c) → T (leb v 1) → Proper (closed J r c v)
closed-proper J r c v p t u =
    let states : ℕ → ℕ → ℕ = put J.state r c v in
    record {
      array = p.array;
      caps = p.caps;
      marks = p.marks;
      states = put-fits J.state (is_tile J) 1 r c v p.states t u;
      added = fits_kept J J.mark states p.added;
    }

-- ---- reading

-- what an admitted line has passed, and the reader it leaves
pub asked : (b : Bool) (R R' : Reader) → asking b R ≡ some R' → T b × (R ≡ R')
asked true R R' e = (tt, cc)
asked false R R' e = let z : ◌≡◌ {A = ℕ} 0 1 = cc in absurd (omega arith)

-- a line without a tail has no side, and the value that its word says
pub by_word : (d v n : ℕ) → T (eqb d 0 && eqb v n) → (d ≡ 0) × (v ≡ n)
by_word d v n t = (eqb→eq d 0 (and_left (eqb d 0) (eqb v n) t), eqb→eq v n (and_right (eqb d 0) (eqb v n) t))

pub names-says : (J : Job) (g : Group) (r c d v : ℕ) → T (names J g r c d v) → T (says g d v)
names-says J chosen_pins r c d v t = and_right (is_pin J r c) (says chosen_pins d v) t
names-says J missing_pins r c d v t = and_right (is_pin J r c && not (eqb (J.mark r c) 1)) (says missing_pins d v) t
names-says J closed_tiles r c d v t = and_right (is_tile J r c) (says closed_tiles d v) t
names-says J own_ds r c d v t = and_right (is_tile J r c && is_own_d J v) (says own_ds d v) t
names-says J laid_sides r c d v t = and_right (is_tile J r c && (writes_side r c d && leb v J.O)) (says laid_sides d v) t

-- a line of an own D names a tile and a value that a tile may have
pub names-own : (J : Job) (r c d v : ℕ) → T (names J own_ds r c d v) → T (is_tile J r c) × T (is_own_d J v)
names-own J r c d v t =
    let u : T (is_tile J r c && is_own_d J v) = and_left (is_tile J r c && is_own_d J v) (says own_ds d v) t in
    (and_left (is_tile J r c) (is_own_d J v) u, and_right (is_tile J r c) (is_own_d J v) u)

-- a line of a count names a side that its tile writes, and a count in range
pub names-laid : (J : Job) (r c d v : ℕ) → T (names J laid_sides r c d v) → T (is_tile J r c) × T (writes_side r c d) × T (leb v J.O)
names-laid J r c d v t =
    let a : Bool = is_tile J r c in
    let b : Bool = writes_side r c d in
    let l : Bool = leb v J.O in
    let u : T (a && (b && l)) = and_left (a && (b && l)) (says laid_sides d v) t in
    (and_left a (b && l) u, and_left b l (and_right a (b && l) u), and_right b l (and_right a (b && l) u))

pub named-proper : (J : Job) (g : Group) (r c d v : ℕ) → Proper J → T (names J g r c d v) → Proper (named J g r c d v)
named-proper J chosen_pins r c d v p t =
    let (x, y) = by_word d v 1 (names-says J chosen_pins r c d v t) in
    marked-proper J r c v p (and_left (is_pin J r c) (says chosen_pins d v) t) (le→leb v 2 (omega arith))
named-proper J missing_pins r c d v p t =
    let unchosen : Bool = not (eqb (J.mark r c) 1) in
    let (x, y) = by_word d v 2 (names-says J missing_pins r c d v t) in
    marked-proper J r c v p (and_left (is_pin J r c) unchosen (and_left (is_pin J r c && unchosen) (says missing_pins d v) t)) (le→leb v 2 (omega arith))
named-proper J closed_tiles r c d v p t =
    let (x, y) = by_word d v 1 (names-says J closed_tiles r c d v t) in
    closed-proper J r c v p (and_left (is_tile J r c) (says closed_tiles d v) t) (le→leb v 1 (omega arith))
named-proper J own_ds r c d v p t = let (a, o) = names-own J r c d v t in own-proper J r c v p a (or-so (eqb v 0) (is_own_d J v) o)
named-proper J laid_sides r c d v p t = let (a, b, l) = names-laid J r c d v t in laid-proper J r c d v p a l

abbrev Good : Reader → Type 0
Good R = 1 ≤ rank R.stage → Proper R.job

admit-proper : (R : Reader) (l : Line) (R' : Reader) → Good R → admit R l ≡ some R' → Proper R'.job
unfolding admit
admit-proper R (array_line rows columns O D E) R' g e =
    let a : Bool = eqb (rank R.stage) (rank begin) in
    let b : Bool = array_fits rows columns in
    let d : Bool = caps_admitted O D E in
    let (t, q) = asked (a && (b && d)) _ R' e in
    let u : T (b && d) = and_right a (b && d) t in
    subst (λ (S : Reader). Proper S.job) q (fresh-proper rows columns O D E (and_left b d u) (admitted-fit O D E (and_right b d u)))
admit-proper R (group_line g r c d v) R' good e =
    let a : Bool = in_turn R g r c d in
    let b : Bool = names R.job g r c d v in
    let (t, q) = asked (a && b) _ R' e in
    let begun : T (leb 1 (rank R.stage)) = and_left (leb 1 (rank R.stage)) _ (and_left a b t) in
    subst (λ (S : Reader). Proper S.job) q (named-proper R.job g r c d v (good (leb→le 1 (rank R.stage) begun)) (and_right a b t))
admit-proper R end_line R' good e =
    let a : Bool = leb 1 (rank R.stage) in
    let b : Bool = ltb (rank R.stage) 7 in
    let (t, q) = asked (a && b) _ R' e in
    subst (λ (S : Reader). Proper S.job) q (good (leb→le 1 (rank R.stage) (and_left a b t)))

abbrev Gives : Verdict → Type 0
Gives (reads K) = Proper K
Gives (wrong_at o) = Unit {0}

reads-proper : {R : Reader} {o : ℕ} {text : List ℕ} {v : Verdict} → Reads R o text v → Good R → Gives v
reads-proper (ended e f) good = good (omega (arith, ap rank e))
reads-proper (line {R = R} l R' rest a q r) good = reads-proper r (λ k. admit-proper R l R' good a)
reads-proper (wrong f n) good = tt

pub reading-proper : (text : List ℕ) (K : Job) → Reading text (reads K) → Proper K
reading-proper text K r = reads-proper r (λ l. absurd (omega arith))
