-- Document 01, "Job text": a text has one verdict at most. Two lines that begin the same text, each telling its side and value, are the same line: their
-- words differ in the second byte, and a number ends where a byte below the digits stands. Assumes nothing.
use mathlib.Core.Path.{◌≡◌, refl, sym, ap, subst, ◌∙◌}
use mathlib.Core.Logic.{◌≢◌}
use mathlib.Core.Bool.{Bool, true, false, not, ◌&&◌}
use mathlib.Core.List.{List, [], ◌∷◌, ◌++◌, append_assoc}
use mathlib.Core.Option.{Option, some}
use Prim.Native.Nat.{ℕ, zero, suc, ◌+◌, ◌/◌, ◌%◌, ◌<◌}
use native.Mathlib.Omega.{arith}
use lib.Dec.{T, eqb, leb, ltb, eqb→eq, nleb→lt, ltb→lt}
use lib.ListN.{length, get_or, drop}
use lib.Seq.{drop-append_seam}
use Rattle.sums.specs.Counting.{only}
use Rattle.sums.specs.Tests.{and_left, and_right}
use Rattle.model.specs.Text.{Group, chosen_pins, missing_pins, closed_tiles, own_ds, laid_sides, Line, array_line, group_line, end_line, group_word, side_letter, tail_of}
use Rattle.model.specs.Text.{says, line_bytes}
use Rattle.model.specs.Text.{Reader, finished, in_turn, names, admit, Verdict, reads, wrong_at, Reads, ended, line, wrong}
use Rattle.model.proofs.TextProper.{asked, by_word, names-says}

-- ---- numbers

-- a number, and what follows
abbrev pub digits : ℕ → List ℕ → List ℕ
digits n X = only (leb 10 n) ((48 + n / 10) ∷ []) ++ ((48 + n % 10) ∷ X)

pub number-unique : (n m x y : ℕ) (X Y : List ℕ) → x < 48 → y < 48 → digits n (x ∷ X) ≡ digits m (y ∷ Y) → (n ≡ m) × (x ∷ X ≡ y ∷ Y)
number-unique n m x y X Y p q = by (leb 10 n) (leb 10 m) (nleb→lt 10 n) (nleb→lt 10 m)
  where
    by : (a b : Bool) → (T (not a) → n < 10) → (T (not b) → m < 10)
        → only a ((48 + n / 10) ∷ []) ++ ((48 + n % 10) ∷ x ∷ X) ≡ only b ((48 + m / 10) ∷ []) ++ ((48 + m % 10) ∷ y ∷ Y)
        → (n ≡ m) × (x ∷ X ≡ y ∷ Y)
    by true true f g e = (omega (arith, ap (λ (l : List ℕ). get_or l 0 0) e, ap (λ (l : List ℕ). get_or l 1 0) e), ap (drop 2) e)
    by true false f g e = absurd (omega (arith, ap (λ (l : List ℕ). get_or l 1 0) e))
    by false true f g e = absurd (omega (arith, ap (λ (l : List ℕ). get_or l 1 0) e))
    by false false f g e = (omega (arith, f tt, g tt, ap (λ (l : List ℕ). get_or l 0 0) e), ap (drop 1) e)

-- ---- tails

-- what follows a column
abbrev ending : Group → ℕ → ℕ → List ℕ → List ℕ
ending g d v X = tail_of g d v ++ (41 ∷ 10 ∷ X)

-- its first byte is below the digits
record Starts (l : List ℕ) : Type 0 where
  byte : ℕ
  more : List ℕ
  low : byte < 48
  is : l ≡ byte ∷ more

ending-starts : (g : Group) (d v : ℕ) (X : List ℕ) → Starts (ending g d v X)
ending-starts chosen_pins d v X = record { byte = 41; more = 10 ∷ X; low = omega arith; is = refl }
ending-starts missing_pins d v X = record { byte = 41; more = 10 ∷ X; low = omega arith; is = refl }
ending-starts closed_tiles d v X = record { byte = 41; more = 10 ∷ X; low = omega arith; is = refl }
ending-starts own_ds d v X = record { byte = 32; more = drop 1 (ending own_ds d v X); low = omega arith; is = refl }
ending-starts laid_sides d v X = record { byte = 32; more = drop 1 (ending laid_sides d v X); low = omega arith; is = refl }

-- a side by its letter
by_letter : ℕ → ℕ
by_letter x = elim (eqb x 110) [ true ↦ 0 | false ↦ elim (eqb x 101) [ true ↦ 1 | false ↦ elim (eqb x 115) [ true ↦ 2 | false ↦ 3 ] ] ]

letter-back : (d : ℕ) → d < 4 → by_letter (side_letter d) ≡ d
unfolding by_letter
letter-back zero l = refl
letter-back (suc zero) l = refl
letter-back (suc (suc zero)) l = refl
letter-back (suc (suc (suc zero))) l = refl
letter-back (suc (suc (suc (suc d)))) l = absurd (omega arith)

-- two words without tails say the same
word-unique : (n d v d' v' : ℕ) → T (eqb d 0 && eqb v n) → T (eqb d' 0 && eqb v' n) → (d ≡ d') × (v ≡ v')
word-unique n d v d' v' t t' =
    let (x, y) = by_word d v n t in
    let (x', y') = by_word d' v' n t' in
    (omega arith, omega arith)

ending-unique : (g : Group) (d v d' v' : ℕ) (X Y : List ℕ) → T (says g d v) → T (says g d' v') → ending g d v X ≡ ending g d' v' Y
    → ((d ≡ d') × (v ≡ v')) × (X ≡ Y)
ending-unique chosen_pins d v d' v' X Y t t' e = (word-unique 1 d v d' v' t t', ap (drop 2) e)
ending-unique missing_pins d v d' v' X Y t t' e = (word-unique 2 d v d' v' t t', ap (drop 2) e)
ending-unique closed_tiles d v d' v' X Y t t' e = (word-unique 1 d v d' v' t t', ap (drop 2) e)
ending-unique own_ds d v d' v' X Y t t' e =
    let f : 32 ∷ digits v (41 ∷ 10 ∷ X) ≡ 32 ∷ digits v' (41 ∷ 10 ∷ Y) = simp append_assoc at e in
    let (p, h) = number-unique v v' 41 41 (10 ∷ X) (10 ∷ Y) (omega arith) (omega arith) (ap (drop 1) f) in
    let none_told : (x y : ℕ) → T (says own_ds x y) → x ≡ 0 = λ x y u. eqb→eq x 0 (and_left (eqb x 0) (ltb 0 y) u) in
    ((none_told d v t ∙ sym (none_told d' v' t'), p), ap (drop 2) h)
ending-unique laid_sides d v d' v' X Y t t' e =
    let f : 32 ∷ side_letter d ∷ 32 ∷ digits v (41 ∷ 10 ∷ X) ≡ 32 ∷ side_letter d' ∷ 32 ∷ digits v' (41 ∷ 10 ∷ Y) = simp append_assoc at e in
    let (p, h) = number-unique v v' 41 41 (10 ∷ X) (10 ∷ Y) (omega arith) (omega arith) (ap (drop 3) f) in
    let code : (x y : ℕ) → T (says laid_sides x y) → x < 4 = λ x y u. ltb→lt x 4 (and_left (ltb x 4) (ltb 0 y) u) in
    let q : d ≡ d' =
    sym (letter-back d (code d v t)) ∙ (ap (λ (l : List ℕ). by_letter (get_or l 1 0)) f ∙ letter-back d' (code d' v' t')) in
    ((q, p), ap (drop 2) h)

-- two numbers, the tail and the end of the line
pair-unique : (g : Group) (r c d v r' c' d' v' : ℕ) (X Y : List ℕ) → T (says g d v) → T (says g d' v')
    → digits r (32 ∷ digits c (ending g d v X)) ≡ digits r' (32 ∷ digits c' (ending g d' v' Y))
    → (group_line g r c d v ≡ group_line g r' c' d' v') × (X ≡ Y)
pair-unique g r c d v r' c' d' v' X Y t t' f =
    let s : Starts (ending g d v X) = ending-starts g d v X in
    let s' : Starts (ending g d' v' Y) = ending-starts g d' v' Y in
    let (p, e) = number-unique r r' 32 32 (digits c (ending g d v X)) (digits c' (ending g d' v' Y)) (omega arith) (omega arith) f in
    let (q, h) = number-unique c c' s.byte s'.byte s.more s'.more s.low s'.low
    (sym (ap (digits c) s.is) ∙ (ap (drop 1) e ∙ ap (digits c') s'.is)) in
    let ((x, y), z) = ending-unique g d v d' v' X Y t t' (s.is ∙ (h ∙ sym s'.is)) in
    (λ i. group_line g (p i) (q i) (x i) (y i), z)

-- ---- lines

abbrev Same : Line → Line → List ℕ → List ℕ → Type 0
Same l m X Y = line_bytes l ++ X ≡ line_bytes m ++ Y → (l ≡ m) × (X ≡ Y)

array-unique : (a b c d e a' b' c' d' e' : ℕ) (X Y : List ℕ) → Same (array_line a b c d e) (array_line a' b' c' d' e') X Y
unfolding line_bytes
array-unique a b c d e a' b' c' d' e' X Y q =
    let f : digits a (32 ∷ digits b (41 ∷ 32 ∷ 40 ∷ 99 ∷ 97 ∷ 112 ∷ 115 ∷ 32 ∷ digits c (32 ∷ digits d (32 ∷ digits e (41 ∷ 41 ∷ 10 ∷ X)))))
    ≡ digits a' (32 ∷ digits b' (41 ∷ 32 ∷ 40 ∷ 99 ∷ 97 ∷ 112 ∷ 115 ∷ 32 ∷ digits c' (32 ∷ digits d' (32 ∷ digits e' (41 ∷ 41 ∷ 10 ∷ Y))))) =
    ap (drop 13) (simp append_assoc at q) in
    let (pa, fa) = number-unique a a' 32 32 _ _ (omega arith) (omega arith) f in
    let (pb, fb) = number-unique b b' 41 41 _ _ (omega arith) (omega arith) (ap (drop 1) fa) in
    let (pc, fc) = number-unique c c' 32 32 _ _ (omega arith) (omega arith) (ap (drop 8) fb) in
    let (pd, fd) = number-unique d d' 32 32 _ _ (omega arith) (omega arith) (ap (drop 1) fc) in
    let (pe, fe) = number-unique e e' 41 41 _ _ (omega arith) (omega arith) (ap (drop 1) fd) in
    (λ i. array_line (pa i) (pb i) (pc i) (pd i) (pe i), ap (drop 3) fe)

-- lines of two forms differ in a byte
differ : {A : Type 0} (i : ℕ) (X Y : List ℕ) → get_or X i 0 ≢ get_or Y i 0 → X ≡ Y → A
differ i X Y n e = absurd (n (ap (λ (l : List ℕ). get_or l i 0) e))

-- the group by the second byte of its word, or the space behind a word of one byte
by_second : ℕ → Group
by_second x =
    elim (eqb x 104) [
      | true ↦ chosen_pins
      | false ↦ elim (eqb x 105) [ true ↦ missing_pins | false ↦ elim (eqb x 97) [ true ↦ laid_sides | false ↦ elim (eqb x 32) [ true ↦ own_ds | false ↦ closed_tiles ] ] ]
    ]

second-of : (g : Group) (X : List ℕ) → by_second (get_or (group_word g ++ (32 ∷ X)) 1 0) ≡ g
unfolding by_second
second-of chosen_pins X = refl
second-of missing_pins X = refl
second-of closed_tiles X = refl
second-of own_ds X = refl
second-of laid_sides X = refl

-- what stands before a space is one group's word
pub words-unique : (g h : Group) (X Y : List ℕ) → group_word g ++ (32 ∷ X) ≡ group_word h ++ (32 ∷ Y) → (g ≡ h) × (X ≡ Y)
words-unique g h X Y e =
    let x : g ≡ h = sym (second-of g X) ∙ (ap (λ (l : List ℕ). by_second (get_or l 1 0)) e ∙ second-of h Y) in
    let f : group_word g ++ (32 ∷ X) ≡ group_word g ++ (32 ∷ Y) = e ∙ ap (λ (k : Group). group_word k ++ (32 ∷ Y)) (sym x) in
    let y : 32 ∷ X ≡ 32 ∷ Y =
    sym (drop-append_seam (group_word g) (32 ∷ X)) ∙ (ap (drop (length (group_word g))) f ∙ drop-append_seam (group_word g) (32 ∷ Y)) in
    (x, ap (drop 1) y)

group-bytes : (g : Group) (r c d v : ℕ) (X : List ℕ)
    → line_bytes (group_line g r c d v) ++ X ≡ 40 ∷ group_word g ++ (32 ∷ digits r (32 ∷ digits c (ending g d v X)))
unfolding line_bytes
group-bytes chosen_pins r c d v X = simp append_assoc
group-bytes missing_pins r c d v X = simp append_assoc
group-bytes closed_tiles r c d v X = simp append_assoc
group-bytes own_ds r c d v X = simp append_assoc
group-bytes laid_sides r c d v X = simp append_assoc

group-unique : (g h : Group) (r c d v r' c' d' v' : ℕ) (X Y : List ℕ) → T (says g d v) → T (says h d' v')
    → Same (group_line g r c d v) (group_line h r' c' d' v') X Y
group-unique g h r c d v r' c' d' v' X Y t t' q =
    let (x, y) = words-unique g h _ _ (ap (drop 1) (sym (group-bytes g r c d v X) ∙ (q ∙ group-bytes h r' c' d' v' Y))) in
    subst (λ (k : Group). T (says k d' v') → digits r (32 ∷ digits c (ending g d v X)) ≡ digits r' (32 ∷ digits c' (ending k d' v' Y))
    → (group_line g r c d v ≡ group_line k r' c' d' v') × (X ≡ Y)) x (pair-unique g r c d v r' c' d' v' X Y t) t' y

-- the second byte of a line of a group is that of no other form
apart : (g : Group) (r c d v : ℕ) (X : List ℕ)
    → (get_or (line_bytes (group_line g r c d v) ++ X) 1 0 ≢ 97) × (get_or (line_bytes (group_line g r c d v) ++ X) 1 0 ≢ 101)
unfolding line_bytes
apart chosen_pins r c d v X = omega arith
apart missing_pins r c d v X = omega arith
apart closed_tiles r c d v X = omega arith
apart own_ds r c d v X = omega arith
apart laid_sides r c d v X = omega arith

-- the line tells its side and value
abbrev pub Says : Line → Type 0
Says (array_line a b c d e) = Unit {0}
Says (group_line g r c d v) = T (says g d v)
Says end_line = Unit {0}

-- as every line does that may stand somewhere
pub admit-says : (R : Reader) (l : Line) (R' : Reader) → admit R l ≡ some R' → Says l
unfolding admit
admit-says R (array_line a b c d e) R' q = tt
admit-says R (group_line g r c d v) R' q =
    let a : Bool = in_turn R g r c d in
    let b : Bool = names R.job g r c d v in
    names-says R.job g r c d v (and_right a b (asked (a && b) _ R' q).0)
admit-says R end_line R' q = tt

pub line-unique : (l m : Line) (X Y : List ℕ) → Says l → Says m → line_bytes l ++ X ≡ line_bytes m ++ Y → (l ≡ m) × (X ≡ Y)
unfolding line_bytes
line-unique (array_line a b c d e) (array_line a' b' c' d' e') X Y t t' q = array-unique a b c d e a' b' c' d' e' X Y q
line-unique (array_line a b c d e) (group_line g r' c' d' v') X Y t t' q = differ 1 _ _ (λ z. (apart g r' c' d' v' Y).0 (sym z)) q
line-unique (array_line a b c d e) end_line X Y t t' q = differ 1 _ _ (omega arith) q
line-unique (group_line g r c d v) (array_line a' b' c' d' e') X Y t t' q = differ 1 _ _ (apart g r c d v X).0 q
line-unique (group_line g r c d v) (group_line h r' c' d' v') X Y t t' q = group-unique g h r c d v r' c' d' v' X Y t t' q
line-unique (group_line g r c d v) end_line X Y t t' q = differ 1 _ _ (apart g r c d v X).1 q
line-unique end_line (array_line a' b' c' d' e') X Y t t' q = differ 1 _ _ (omega arith) q
line-unique end_line (group_line g r c d v) X Y t t' q = differ 1 _ _ (λ z. (apart g r c d v Y).1 (sym z)) q
line-unique end_line end_line X Y t t' q = (refl, ap (drop 6) q)

pub line-some : (l : Line) (X : List ℕ) → [] ≢ line_bytes l ++ X
unfolding line_bytes
line-some (array_line a b c d e) X q = omega (arith, ap (λ (l : List ℕ). get_or l 0 0) q)
line-some (group_line g r c d v) X q = omega (arith, ap (λ (l : List ℕ). get_or l 0 0) q)
line-some end_line X q = omega (arith, ap (λ (l : List ℕ). get_or l 0 0) q)

-- ---- verdicts

some_inj : (R S : Reader) → ◌≡◌ {A = Option Reader} (some R) (some S) → R ≡ S
some_inj R S e = cc

at-end : {R : Reader} {o : ℕ} {text : List ℕ} {w : Verdict} → R.stage ≡ finished → text ≡ [] → Reads R o text w → reads R.job ≡ w
at-end g e (ended g' e') = refl
at-end g e (line l R' rest a q r) = absurd (line-some l rest (sym e ∙ q))
at-end g e (wrong f n) = absurd (f g e)

at-line : {R : Reader} {o : ℕ} {text : List ℕ} {v w : Verdict} (l : Line) (R' : Reader) (rest : List ℕ) → admit R l ≡ some R' → text ≡ line_bytes l ++ rest
    → ((w : Verdict) → Reads R' (o + length (line_bytes l)) rest w → v ≡ w) → Reads R o text w → v ≡ w
at-line l R' rest a q k (ended g e) = absurd (line-some l rest (sym e ∙ q))
at-line {R} {o} {text} {v} {w} l R' rest a q k (line m S more b p r) =
    let (x, y) = line-unique l m rest more (admit-says R l R' a) (admit-says R m S b) (sym q ∙ p) in
    let z : R' ≡ S = some_inj R' S (sym a ∙ (ap (admit R) x ∙ b)) in
    k w (subst (λ (T : Reader). Reads T (o + length (line_bytes l)) rest w) (sym z)
    (subst (λ (n : Line). Reads S (o + length (line_bytes n)) rest w) (sym x) (subst (λ (X : List ℕ). Reads S (o + length (line_bytes m)) X w) (sym y) r)))
at-line l R' rest a q k (wrong f n) = absurd (n l R' rest a q)

at-wrong : {R : Reader} {o : ℕ} {text : List ℕ} {w : Verdict} → (R.stage ≡ finished → text ≢ [])
    → ((l : Line) (R' : Reader) (rest : List ℕ) → admit R l ≡ some R' → text ≢ line_bytes l ++ rest) → Reads R o text w → wrong_at o ≡ w
at-wrong f n (ended g e) = absurd (f g e)
at-wrong f n (line l R' rest a q r) = absurd (n l R' rest a q)
at-wrong f n (wrong f' n') = refl

pub reads-unique : {R : Reader} {o : ℕ} {text : List ℕ} {v w : Verdict} → Reads R o text v → Reads R o text w → v ≡ w
reads-unique (ended g e) s = at-end g e s
reads-unique (line l R' rest a q r) s = at-line l R' rest a q (λ w t. reads-unique r t) s
reads-unique (wrong f n) s = at-wrong f n s
