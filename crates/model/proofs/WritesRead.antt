-- Document 01, "Job text": a text that is read is the text of the job it gives. Each line of a group that is admitted has a later turn than all that is
-- named before, so the text of the job grows by just that line. Assumes nothing.
use mathlib.Core.Path.{◌≡◌, refl, sym, ap, ap₂, subst, ◌∙◌}
use mathlib.Core.Logic.{◌≢◌}
use mathlib.Core.Bool.{Bool, true, false, ◌&&◌}
use mathlib.Core.List.{List, [], ◌∷◌, ◌++◌, append_assoc, append-nil}
use mathlib.Core.Option.{some}
use Prim.Native.Nat.{ℕ, suc, ◌+◌, ◌*◌, ◌≤◌, ◌<◌}
use native.Mathlib.Omega.{arith}
use lib.Dec.{T, eqb, leb, ltb, eqb→eq, leb→le, ltb→lt}
use lib.ListN.{length}
use Rattle.sums.specs.Counting.{when, each}
use Rattle.sums.specs.Tests.{Same, same, other, same?, and_left, and_right}
use Rattle.sums.specs.Each.{each-cong, each_none, each-gain}
use Rattle.model.specs.Job.{Job, array_fits, caps_admitted, fresh, Proper}
use Rattle.model.specs.Text.{Group, groups, Line, array_line, group_line, end_line, line_bytes, after_array, finished, within, rank, key_of, Reader, in_turn}
use Rattle.model.specs.Text.{names, named, admit, Verdict, reads, wrong_at, Reads, ended, line, wrong, Reading, value_at, value_line, group_text, listed}
use Rattle.model.specs.Text.{text_of}
use Rattle.model.proofs.Admitted.{admitted-fit}
use Rattle.model.proofs.TextProper.{asked, names-says, fresh-proper, named-proper}
use Rattle.model.proofs.TextNames.{turn, due, rank-group, rank_same, Ranked, groups-ranked, says_some, zero-so, value_line_lem, names-inside, proper-size}
use Rattle.model.proofs.TextNames.{fresh-none, named_here, named-else, Alike, named-alike}

-- ---- a table of lists, by row, column and side

abbrev grid : ℕ → ℕ → (ℕ → ℕ → ℕ → List ℕ) → List ℕ
grid n m f = each n (λ r. each m (λ c. each 4 (λ d. f r c d)))

grid-cong : (n m : ℕ) (f g : ℕ → ℕ → ℕ → List ℕ) → ((i j e : ℕ) → i < n → j < m → e < 4 → f i j e ≡ g i j e) → grid n m f ≡ grid n m g
grid-cong n m f g q = each-cong n _ _ (λ i k. each-cong m _ _ (λ j l. each-cong 4 (f i j) (g i j) (λ e o. q i j e k l o)))

grid-none : (n m : ℕ) (f : ℕ → ℕ → ℕ → List ℕ) → ((i j e : ℕ) → i < n → j < m → e < 4 → f i j e ≡ []) → grid n m f ≡ []
grid-none n m f q = each_none n _ (λ i k. each_none m _ (λ j l. each_none 4 (f i j) (λ e o. q i j e k l o)))

grid-gain : (n m r c d : ℕ) (f g : ℕ → ℕ → ℕ → List ℕ) (l : List ℕ) → m ≤ 40 → r < n → c < m → d < 4
    → ((i j e : ℕ) → i < n → j < m → e < 4 → key_of i j e < key_of r c d → g i j e ≡ f i j e) → g r c d ≡ f r c d ++ l
    → ((i j e : ℕ) → i < n → j < m → e < 4 → key_of r c d < key_of i j e → (f i j e ≡ []) × (g i j e ≡ [])) → grid n m g ≡ grid n m f ++ l
grid-gain n m r c d f g l fits lr lc ld before at behind =
    each-gain n r _ _ l lr (λ i k. each-cong m _ _ (λ j q. each-cong 4 (g i j) (f i j) (λ e o. before i j e (omega arith) q o (omega arith))))
    (each-gain m c _ _ l lc (λ j k. each-cong 4 (g r j) (f r j) (λ e o. before r j e lr (omega arith) o (omega arith)))
    (each-gain 4 d (f r c) (g r c) l ld (λ e k. before r c e lr lc (omega arith) (omega arith)) at (λ e k o. behind r c e lr lc o (omega arith)))
    (λ j k q. (
      each_none 4 (f r j) (λ e o. (behind r j e lr q o (omega arith)).0),
      each_none 4 (g r j) (λ e o. (behind r j e lr q o (omega arith)).1),
    )))
    (λ i k q. (
      each_none m _ (λ j x. each_none 4 (f i j) (λ e o. (behind i j e q x o (omega arith)).0)),
      each_none m _ (λ j x. each_none 4 (g i j) (λ e o. (behind i j e q x o (omega arith)).1)),
    ))

-- ---- a list of groups

listed_then : (f : Group → List ℕ) (l : List Group) (X : List ℕ) → listed f l X ≡ listed f l [] ++ X
listed_then f [] X = refl
listed_then f (g ∷ l) X = ap (λ (Y : List ℕ). f g ++ Y) (listed_then f l X) ∙ sym (append_assoc (f g) (listed f l []) X)

listed-none : (f : Group → List ℕ) (n : ℕ) (l : List Group) → Ranked n l → ((h : Group) → n ≤ rank (within h) → f h ≡ []) → listed f l [] ≡ []
listed-none f n [] k e = refl
listed-none f n (g ∷ l) (q, k) e = ap₂ ◌++◌ (e g (omega arith)) (listed-none f (suc n) l k (λ h x. e h (omega arith)))

-- the group g gains X at its end, and all behind it have nothing
listed-gain : (f f' : Group → List ℕ) (g : Group) (X : List ℕ) (n : ℕ) (l : List Group) → Ranked n l → n ≤ rank (within g) → rank (within g) < n + length l
    → f' g ≡ f g ++ X → ((h : Group) → rank (within h) ≢ rank (within g) → f' h ≡ f h)
    → ((h : Group) → rank (within g) < rank (within h) → (f h ≡ []) × (f' h ≡ [])) → listed f' l [] ≡ listed f l [] ++ X
listed-gain f f' g X n [] k a b gains stays none-behind = absurd (omega arith)
listed-gain f f' g X n (h ∷ l) (q, k) a b gains stays none-behind =
    by (eqb (rank (within h)) (rank (within g))) (same? (rank (within h)) (rank (within g)))
    (λ x. listed-gain f f' g X (suc n) l k x (omega arith) gains stays none-behind)
  where
    by : (t : Bool) → Same (rank (within h)) (rank (within g)) t → (suc n ≤ rank (within g) → listed f' l [] ≡ listed f l [] ++ X)
        → f' h ++ listed f' l [] ≡ (f h ++ listed f l []) ++ X
    by true (same e) more =
        let z : listed f l [] ≡ [] = listed-none f (suc n) l k (λ i x. (none-behind i (omega arith)).0) in
        let z' : listed f' l [] ≡ [] = listed-none f' (suc n) l k (λ i x. (none-behind i (omega arith)).1) in
        let p : f' h ≡ f h ++ X = subst (λ (i : Group). f' i ≡ f i ++ X) (sym (rank_same h g e)) gains in
        ap₂ ◌++◌ p z' ∙ (append-nil (f h ++ X) ∙ ap (λ (Y : List ℕ). Y ++ X) (sym (append-nil (f h)) ∙ ap (λ (Y : List ℕ). f h ++ Y) (sym z)))
    by false (other e) more = ap₂ ◌++◌ (stays h e) (more (omega arith)) ∙ sym (append_assoc (f h) (listed f l []) X)

-- ---- the text grows by a line

-- what a group writes for a cell and a side
abbrev entry : Job → Group → ℕ → ℕ → ℕ → List ℕ
entry K g r c d = value_line g r c d (value_at K g r c d)

-- the text without its end line
abbrev body : Job → List ℕ
body K = line_bytes (array_line K.rows K.columns K.O K.D K.E) ++ listed (group_text K) groups []

text-body : (K : Job) → text_of K ≡ body K ++ line_bytes end_line
unfolding text_of
text-body K =
    let A : List ℕ = line_bytes (array_line K.rows K.columns K.O K.D K.E) in
    ap (λ (X : List ℕ). A ++ X) (listed_then (group_text K) groups (line_bytes end_line)) ∙ sym (append_assoc A (listed (group_text K) groups []) (line_bytes end_line))

module _ (K : Job) (proper : Proper K) (g : Group) (r c d v : ℕ) (may : T (names K g r c d v))
    (clear : (h : Group) (i j e : ℕ) → 0 < value_at K h i j e → turn h i j e < turn g r c d) where
  abbrev after : Job
  after = named K g r c d v

  others : (h : Group) (i j e : ℕ) → turn h i j e ≢ turn g r c d → value_at after h i j e ≡ value_at K h i j e
  others =
      let (lr, lc, ld) = names-inside K g r c d v may in
      named-else K g r c d v may (λ h e l t. omega (arith, clear h r c e t))

  -- nothing has a later turn, nor this one
  none-due : (h : Group) (i j e : ℕ) → turn g r c d ≤ turn h i j e → value_at K h i j e ≡ 0
  none-due h i j e l = zero-so (value_at K h i j e) (λ k. omega (arith, clear h i j e k))

  none-later : (h : Group) (i j e : ℕ) → turn g r c d < turn h i j e → (entry K h i j e ≡ []) × (entry after h i j e ≡ [])
  none-later h i j e l = (
    ap (value_line h i j e) (none-due h i j e (omega arith)),
    ap (value_line h i j e) (others h i j e (omega arith) ∙ none-due h i j e (omega arith)),
  )

  -- each group over the cells of K
  abbrev over : Job → Group → List ℕ
  over J h = grid K.rows K.columns (entry J h)

  gains : over after g ≡ over K g ++ line_bytes (group_line g r c d v)
  gains =
      let (lr, lc, ld) = names-inside K g r c d v may in
      let (n, m) = proper-size K proper in
      grid-gain K.rows K.columns r c d (entry K g) (entry after g) (line_bytes (group_line g r c d v)) m lr lc ld
      (λ i j e k l o q. ap (value_line g i j e) (others g i j e (omega arith)))
      (ap (value_line g r c d) (named_here K g r c d v may)
      ∙ (value_line_lem g r c d v (says_some g d v (names-says K g r c d v may)).1
      ∙ sym (ap (λ (n : ℕ). value_line g r c d n ++ line_bytes (group_line g r c d v)) (none-due g r c d (omega arith)))))
      (λ i j e k l o q. none-later g i j e (omega arith))

  stays : (h : Group) → rank (within h) ≢ rank (within g) → over after h ≡ over K h
  stays h x =
      let (lr, lc, ld) = names-inside K g r c d v may in
      let (n, m) = proper-size K proper in
      grid-cong K.rows K.columns (entry after h) (entry K h) (λ i j e k l o. ap (value_line h i j e) (others h i j e (omega arith)))

  empty : (h : Group) → rank (within g) < rank (within h) → (over K h ≡ []) × (over after h ≡ [])
  empty h x =
      let (lr, lc, ld) = names-inside K g r c d v may in
      let (n, m) = proper-size K proper in (
        grid-none K.rows K.columns (entry K h) (λ i j e k l o. (none-later h i j e (omega arith)).0),
        grid-none K.rows K.columns (entry after h) (λ i j e k l o. (none-later h i j e (omega arith)).1),
      )

  groups-gain : listed (over after) groups [] ≡ listed (over K) groups [] ++ line_bytes (group_line g r c d v)
  groups-gain =
      listed-gain (over K) (over after) g (line_bytes (group_line g r c d v)) 2 groups groups-ranked (rank-group g).0 (omega (arith, (rank-group g).1)) gains stays empty

body-gains : (K : Job) → Proper K → (g : Group) (r c d v : ℕ) → T (names K g r c d v)
    → ((h : Group) (i j e : ℕ) → 0 < value_at K h i j e → turn h i j e < turn g r c d) → body (named K g r c d v) ≡ body K ++ line_bytes (group_line g r c d v)
body-gains K p g r c d v t f =
    let a : Alike (named K g r c d v) K = named-alike K K g r c d v (record { rows = refl; columns = refl; O = refl; D = refl; E = refl }) in
    let J : Job = named K g r c d v in
    let A : List ℕ = line_bytes (array_line K.rows K.columns K.O K.D K.E) in
    (λ i. line_bytes (array_line (a.rows i) (a.columns i) (a.O i) (a.D i) (a.E i))
    ++ listed (λ h. grid (a.rows i) (a.columns i) (entry J h)) groups [])
    ∙ (ap (λ (X : List ℕ). A ++ X) (groups-gain K p g r c d v t f)
    ∙ sym (append_assoc A (listed (group_text K) groups []) (line_bytes (group_line g r c d v))))

-- ---- readers between the array and the end

record Open (R : Reader) : Type 0 where
  stage : (1 ≤ rank R.stage) × (rank R.stage ≤ 6)
  short : R.from ≤ 6400
  proper : Proper R.job
  clear : (h : Group) (i j e : ℕ) → 0 < value_at R.job h i j e → turn h i j e < due R

due-turn : (R : Reader) (g : Group) (r c d : ℕ) → R.from ≤ 6400 → T (in_turn R g r c d) → due R ≤ turn g r c d
due-turn R g r c d s t =
    let n : ℕ = rank R.stage in
    let m : ℕ = rank (within g) in
    let a : Bool = leb n m in
    let b : Bool = leb (when (eqb n m) R.from) (key_of r c d) in
    let u : T (a && b) = and_right (leb 1 n) (a && b) t in
    by (eqb n m) (same? n m) (leb→le n m (and_left a b u)) (leb→le (when (eqb n m) R.from) (key_of r c d) (and_right a b u))
  where
    by : (b : Bool) → Same (rank R.stage) (rank (within g)) b → rank R.stage ≤ rank (within g) → when b R.from ≤ key_of r c d → due R ≤ turn g r c d
    by true (same e) l k = omega arith
    by false (other e) l k = omega arith

open_after : (R : Reader) (g : Group) (r c d v : ℕ) → Open R → T (in_turn R g r c d) → T (names R.job g r c d v)
    → Open (record { stage = within g; from = key_of r c d + 1; job = named R.job g r c d v })
open_after R g r c d v o t may =
    let turns : due R ≤ turn g r c d = due-turn R g r c d o.short t in
    let (lr, lc, ld) = names-inside R.job g r c d v may in
    let (n, m) = proper-size R.job o.proper in
    let (a, b) = rank-group g in
    record {
      stage = omega arith;
      short = omega arith;
      proper = named-proper R.job g r c d v o.proper may;
      clear = λ h i j e u.
          by h i j e u (eqb (turn h i j e) (turn g r c d)) (same? (turn h i j e) (turn g r c d)) (λ x. named-else R.job g r c d v may
          (λ k y l w. omega (arith, turns, ld, l, o.clear k r c y w)) h i j e x) turns;
    }
  where
    by : (h : Group) (i j e : ℕ) → 0 < value_at (named R.job g r c d v) h i j e → (b : Bool) → Same (turn h i j e) (turn g r c d) b
        → (turn h i j e ≢ turn g r c d → value_at (named R.job g r c d v) h i j e ≡ value_at R.job h i j e) → due R ≤ turn g r c d
        → turn h i j e < 6400 * rank (within g) + (key_of r c d + 1)
    by h i j e u true (same q) f l = omega arith
    by h i j e u false (other q) f l = omega (arith, o.clear h i j e (omega (arith, f q)))

-- ---- reading

-- P is what the reader has read
data Wrote (R : Reader) (P : List ℕ) : Type 0 where
  nothing : rank R.stage ≡ 0 → P ≡ [] → Wrote R P
  lines : Open R → body R.job ≡ P → Wrote R P
  whole : rank R.stage ≡ 7 → text_of R.job ≡ P → Wrote R P

wrote-array : (R : Reader) (P : List ℕ) (n m O D E : ℕ) → Wrote R P → rank R.stage ≡ 0 → T (array_fits n m) → T (caps_admitted O D E)
    → Wrote (record { stage = after_array; from = 0; job = fresh n m O D E }) (P ++ line_bytes (array_line n m O D E))
wrote-array R P n m O D E (nothing z e) y a b =
    let K : Job = fresh n m O D E in
    let L : List ℕ = line_bytes (array_line n m O D E) in
    let none-there : (g : Group) → group_text K g ≡ [] =
    λ g. grid-none n m (entry K g) (λ i j d k l o. ap (value_line g i j d) (fresh-none n m O D E g i j d)) in
    lines
    (record {
      stage = omega arith;
      short = omega arith;
      proper = fresh-proper n m O D E a (admitted-fit O D E b);
      clear = λ h i j d l. absurd (omega (arith, fresh-none n m O D E h i j d));
    })
    (ap (λ (X : List ℕ). L ++ X) (listed-none (group_text K) 2 groups groups-ranked (λ g l. none-there g))
    ∙ (append-nil L ∙ ap (λ (X : List ℕ). X ++ L) (sym e)))
wrote-array R P n m O D E (lines o e) y a b = absurd (omega (arith, o.stage.0))
wrote-array R P n m O D E (whole z e) y a b = absurd (omega arith)

wrote-group : (R : Reader) (P : List ℕ) (g : Group) (r c d v : ℕ) → Wrote R P → T (in_turn R g r c d) → T (names R.job g r c d v)
    → Wrote (record { stage = within g; from = key_of r c d + 1; job = named R.job g r c d v }) (P ++ line_bytes (group_line g r c d v))
wrote-group R P g r c d v (nothing z e) t u =
    let n : ℕ = rank R.stage in
    absurd (omega (arith, leb→le 1 n (and_left (leb 1 n) _ t)))
wrote-group R P g r c d v (lines o e) t u =
    lines (open_after R g r c d v o t u)
    (body-gains R.job o.proper g r c d v u (λ h i j k l. omega (arith, o.clear h i j k l, due-turn R g r c d o.short t))
    ∙ ap (λ (X : List ℕ). X ++ line_bytes (group_line g r c d v)) e)
wrote-group R P g r c d v (whole z e) t u =
    let n : ℕ = rank R.stage in
    let m : ℕ = rank (within g) in
    absurd (omega (arith, (rank-group g).1, leb→le n m (and_left (leb n m) _ (and_right (leb 1 n) _ t))))

wrote-end : (R : Reader) (P : List ℕ) → Wrote R P → 1 ≤ rank R.stage → rank R.stage < 7
    → Wrote (record { stage = finished; from = 0; job = R.job }) (P ++ line_bytes end_line)
wrote-end R P (nothing z e) a b = absurd (omega arith)
wrote-end R P (lines o e) a b = whole refl (text-body R.job ∙ ap (λ (X : List ℕ). X ++ line_bytes end_line) e)
wrote-end R P (whole z e) a b = absurd (omega arith)

wrote-line : (R : Reader) (P : List ℕ) (l : Line) (R' : Reader) → Wrote R P → admit R l ≡ some R' → Wrote R' (P ++ line_bytes l)
unfolding admit
wrote-line R P (array_line n m O D E) R' w e =
    let a : Bool = eqb (rank R.stage) 0 in
    let b : Bool = array_fits n m in
    let d : Bool = caps_admitted O D E in
    let (t, q) = asked (a && (b && d)) _ R' e in
    let u : T (b && d) = and_right a (b && d) t in
    subst (λ (S : Reader). Wrote S (P ++ line_bytes (array_line n m O D E))) q
    (wrote-array R P n m O D E w (eqb→eq (rank R.stage) 0 (and_left a (b && d) t)) (and_left b d u) (and_right b d u))
wrote-line R P (group_line g r c d v) R' w e =
    let a : Bool = in_turn R g r c d in
    let b : Bool = names R.job g r c d v in
    let (t, q) = asked (a && b) _ R' e in
    subst (λ (S : Reader). Wrote S (P ++ line_bytes (group_line g r c d v))) q (wrote-group R P g r c d v w (and_left a b t) (and_right a b t))
wrote-line R P end_line R' w e =
    let n : ℕ = rank R.stage in
    let a : Bool = leb 1 n in
    let b : Bool = ltb n 7 in
    let (t, q) = asked (a && b) _ R' e in
    subst (λ (S : Reader). Wrote S (P ++ line_bytes end_line)) q (wrote-end R P w (leb→le 1 n (and_left a b t)) (ltb→lt n 7 (and_right a b t)))

wrote-all : (R : Reader) (P : List ℕ) → Wrote R P → rank R.stage ≡ 7 → text_of R.job ≡ P
wrote-all R P (nothing z e) y = absurd (omega arith)
wrote-all R P (lines o e) y = absurd (omega (arith, o.stage.1))
wrote-all R P (whole z e) y = e

abbrev Writes : List ℕ → Verdict → Type 0
Writes X (reads K) = text_of K ≡ X
Writes X (wrong_at o) = Unit {0}

reads-wrote : {R : Reader} {o : ℕ} {text : List ℕ} {v : Verdict} (P : List ℕ) → Reads R o text v → Wrote R P → Writes (P ++ text) v
reads-wrote P (ended {R = R} e f) w = wrote-all R P w (ap rank e) ∙ (sym (append-nil P) ∙ ap (λ (X : List ℕ). P ++ X) (sym f))
reads-wrote {v = v} P (line {R = R} l R' rest a q r) w =
    subst (λ (X : List ℕ). Writes X v) (append_assoc P (line_bytes l) rest ∙ ap (λ (X : List ℕ). P ++ X) (sym q))
    (reads-wrote (P ++ line_bytes l) r (wrote-line R P l R' w a))
reads-wrote P (wrong f n) w = tt

pub writes-read : (text : List ℕ) (J : Job) → Reading text (reads J) → text_of J ≡ text
writes-read text J r = reads-wrote [] r (nothing refl refl)
