-- Document 01, "Job text": the 64-byte text is read and written, and texts near it are refused where the document says. A whole line that may not stand
-- is refused because no other line begins the same text, and bytes that begin no line are told by one or two of them. Assumes nothing.
use mathlib.Core.Path.{◌≡◌, refl, sym, ap, ◌∙◌}
use mathlib.Core.Logic.{◌≢◌}
use mathlib.Core.Bool.{Bool, true, false}
use mathlib.Core.List.{List, [], ◌∷◌, ◌++◌, append_assoc}
use mathlib.Core.Option.{Option, none, some}
use Prim.Native.Nat.{ℕ, ◌+◌, ◌/◌, ◌%◌, ◌≤◌}
use native.Mathlib.Omega.{arith}
use lib.Dec.{T, leb, leb→le}
use lib.ListN.{length, get_or, drop}
use Rattle.sums.specs.Counting.{only, each}
use Rattle.model.specs.Job.{Job, fresh, marked, closed, side_of, laid_by, with_own_d, is_chosen, is_missing, is_closed}
use Rattle.model.specs.Text.{chosen_pins, missing_pins, closed_tiles, own_ds, laid_sides, Line, array_line, group_line, end_line, line_bytes, Stage, begin, after_array, finished}
use Rattle.model.specs.Text.{within, rank, Reader, admit, Verdict, reads, wrong_at, Reads, ended, line, wrong, Reading, text_of}
use Rattle.model.specs.Examples.{job64}
use Rattle.model.proofs.TextUnique.{Says, admit-says, line-unique, line-some}

-- ---- the bytes

-- (array (pins 2 2) (caps 1 2 0))
abbrev pub array64 : List ℕ
array64 =
    40 ∷ 97 ∷ 114 ∷ 114 ∷ 97 ∷ 121 ∷ 32 ∷ 40 ∷ 112 ∷ 105 ∷ 110 ∷ 115 ∷ 32 ∷ 50 ∷ 32 ∷ 50 ∷ 41 ∷ 32 ∷ 40 ∷ 99 ∷ 97 ∷ 112 ∷ 115 ∷ 32 ∷ 49 ∷ 32 ∷ 50 ∷ 32 ∷ 48
    ∷ 41 ∷ 41 ∷ 10 ∷ []

-- (chosen, with what follows the word
abbrev pub chosen_form : List ℕ → List ℕ
chosen_form l = 40 ∷ 99 ∷ 104 ∷ 111 ∷ 115 ∷ 101 ∷ 110 ∷ 32 ∷ l

-- (missing, with what follows the word
abbrev pub missing_form : List ℕ → List ℕ
missing_form l = 40 ∷ 109 ∷ 105 ∷ 115 ∷ 115 ∷ 105 ∷ 110 ∷ 103 ∷ 32 ∷ l

-- 0 0 and 0 1, to the end of the line
abbrev pub zero_zero : List ℕ
zero_zero = 48 ∷ 32 ∷ 48 ∷ 41 ∷ 10 ∷ []

abbrev pub zero_one : List ℕ
zero_one = 48 ∷ 32 ∷ 49 ∷ 41 ∷ 10 ∷ []

-- (chosen 0 0)
abbrev pub chosen64 : List ℕ
chosen64 = chosen_form zero_zero

-- (closed 0 0)
abbrev pub closed64 : List ℕ
closed64 = 40 ∷ 99 ∷ 108 ∷ 111 ∷ 115 ∷ 101 ∷ 100 ∷ 32 ∷ zero_zero

-- (laid 0 0 n, with the digit of the count
abbrev pub laid_form : ℕ → List ℕ
laid_form b = 40 ∷ 108 ∷ 97 ∷ 105 ∷ 100 ∷ 32 ∷ 48 ∷ 32 ∷ 48 ∷ 32 ∷ 110 ∷ 32 ∷ b ∷ 41 ∷ 10 ∷ []

-- (d 0 0, with the digit of the value
abbrev pub own_form : ℕ → List ℕ
own_form b = 40 ∷ 100 ∷ 32 ∷ 48 ∷ 32 ∷ 48 ∷ 32 ∷ b ∷ 41 ∷ 10 ∷ []

-- (end), without the byte 10
abbrev pub end_form : List ℕ
end_form = 40 ∷ 101 ∷ 110 ∷ 100 ∷ 41 ∷ []

abbrev pub end64 : List ℕ
end64 = end_form ++ (10 ∷ [])

abbrev pub text64 : List ℕ
text64 = array64 ++ (chosen64 ++ (closed64 ++ end64))

-- ---- the readers after each line

abbrev after : Stage → ℕ → Job → Reader
after s n J = record { stage = s; from = n; job = J }

abbrev plain : Job
plain = fresh 2 2 1 2 0

-- after (chosen 0 0)
abbrev chosen_once : Reader
chosen_once = after (within chosen_pins) 1 (marked plain 0 0 1)

begun : {v : Verdict} (rest : List ℕ) → Reads (after after_array 0 plain) 32 rest v → Reading (array64 ++ rest) v
unfolding admit line_bytes
begun rest r = line (array_line 2 2 1 2 0) (after after_array 0 plain) rest refl refl r

chosen-read : {v : Verdict} (rest : List ℕ) → Reads chosen_once 45 rest v → Reading (array64 ++ (chosen64 ++ rest)) v
unfolding admit line_bytes
chosen-read rest r = begun (chosen64 ++ rest) (line (group_line chosen_pins 0 0 0 1) chosen_once rest refl refl r)

closed-read : {v : Verdict} (rest : List ℕ) → Reads (after (within closed_tiles) 1 job64) 58 rest v → Reading (array64 ++ (chosen64 ++ (closed64 ++ rest))) v
unfolding admit line_bytes
closed-read rest r = chosen-read (closed64 ++ rest) (line (group_line closed_tiles 0 0 0 1) (after (within closed_tiles) 1 job64) rest refl refl r)

end_read : {v : Verdict} (rest : List ℕ) → Reads (after finished 0 job64) 64 rest v → Reading (text64 ++ rest) v
unfolding admit line_bytes
end_read rest r = closed-read (end64 ++ rest) (line end_line (after finished 0 job64) rest refl refl r)

-- ---- two ways to be wrong

none-some : (R : Reader) → ◌≢◌ {A = Option Reader} none (some R)
none-some R e = let w : ◌≡◌ {A = ℕ} 0 1 = cc in absurd (omega arith)

-- a line that may not stand here
line_refused : {R : Reader} {o : ℕ} (l : Line) (rest : List ℕ) → Says l → admit R l ≡ none → Reads R o (line_bytes l ++ rest) (wrong_at o)
line_refused {R} l rest t e =
    wrong (λ s q. line-some l rest (sym q))
    (λ m R' more a q. none-some R' (sym e ∙ (ap (admit R) (line-unique l m rest more t (admit-says R m R' a) q).0 ∙ a)))

-- bytes that begin no line
abbrev NoLine : List ℕ → Type 0
NoLine text = (l : Line) (rest : List ℕ) → text ≢ line_bytes l ++ rest

bytes-refused : {R : Reader} {o : ℕ} {text : List ℕ} → (R.stage ≡ finished → text ≢ []) → NoLine text → Reads R o text (wrong_at o)
bytes-refused f n = wrong f (λ l R' rest a. n l rest)

unfinished : {A : Type 0} (s : Stage) → T (leb (rank s) 6) → s ≡ finished → A
unfinished s t e = absurd (omega (arith, leb→le (rank s) 6 t, ap rank e))

-- the byte i of two texts
byte : {X Y : List ℕ} (i : ℕ) → X ≡ Y → get_or X i 0 ≡ get_or Y i 0
byte i e = ap (λ (l : List ℕ). get_or l i 0) e

-- no line is shorter than two bytes
short : (text : List ℕ) → get_or text 1 0 ≡ 0 → NoLine text
unfolding line_bytes
short text z (array_line a b c d e) rest q = omega (arith, byte 1 q)
short text z (group_line chosen_pins r c d v) rest q = omega (arith, byte 1 q)
short text z (group_line missing_pins r c d v) rest q = omega (arith, byte 1 q)
short text z (group_line closed_tiles r c d v) rest q = omega (arith, byte 1 q)
short text z (group_line own_ds r c d v) rest q = omega (arith, byte 1 q)
short text z (group_line laid_sides r c d v) rest q = omega (arith, byte 1 q)
short text z end_line rest q = omega (arith, byte 1 q)

-- ---- the 64-byte text

pub writes64 : (text_of job64 ≡ text64) × (length text64 ≡ 64)
unfolding text_of line_bytes each is_chosen is_missing is_closed
writes64 = (refl, refl)

pub reads64 : Reading text64 (reads job64)
reads64 = end_read [] (ended refl refl)

-- with (missing 0 1) after the chosen pin
pub missing64 :
    Reading (array64 ++ (chosen64 ++ (missing_form zero_one ++ (closed64 ++ end64)))) (reads (closed (marked (marked plain 0 0 1) 0 1 2) 0 0 1))
unfolding admit line_bytes
missing64 =
    let J : Job = marked (marked plain 0 0 1) 0 1 2 in
    let K : Job = closed J 0 0 1 in
    chosen-read (missing_form zero_one ++ (closed64 ++ end64))
    (line (group_line missing_pins 0 1 0 2) (after (within missing_pins) 5 J) (closed64 ++ end64) refl refl
    (line (group_line closed_tiles 0 0 0 1) (after (within closed_tiles) 1 K) end64 refl refl (line end_line (after finished 0 K) [] refl refl (ended refl refl))))

-- with (laid 0 0 n 1) after the closed tile; and that text is written
pub laid64 : Reading (array64 ++ (chosen64 ++ (closed64 ++ (laid_form 49 ++ end64)))) (reads (laid_by job64 (side_of 0 0 0) 1))
unfolding admit line_bytes
laid64 =
    let K : Job = laid_by job64 (side_of 0 0 0) 1 in
    closed-read (laid_form 49 ++ end64)
    (line (group_line laid_sides 0 0 0 1) (after (within laid_sides) 1 K) end64 refl refl (line end_line (after finished 0 K) [] refl refl (ended refl refl)))

pub writes-laid64 : text_of (laid_by job64 (side_of 0 0 0) 1) ≡ array64 ++ (chosen64 ++ (closed64 ++ (laid_form 49 ++ end64)))
unfolding text_of line_bytes each is_chosen is_missing is_closed
writes-laid64 = refl

-- with (d 0 0 1) after the closed tile, which may have its own D too; and that text is written
pub own64 : Reading (array64 ++ (chosen64 ++ (closed64 ++ (own_form 49 ++ end64)))) (reads (with_own_d job64 0 0 1))
unfolding admit line_bytes
own64 =
    let K : Job = with_own_d job64 0 0 1 in
    closed-read (own_form 49 ++ end64)
    (line (group_line own_ds 0 0 0 1) (after (within own_ds) 1 K) end64 refl refl (line end_line (after finished 0 K) [] refl refl (ended refl refl)))

pub writes-own64 : text_of (with_own_d job64 0 0 1) ≡ array64 ++ (chosen64 ++ (closed64 ++ (own_form 49 ++ end64)))
unfolding text_of line_bytes each is_chosen is_missing is_closed
writes-own64 = refl

-- ---- a line that may not stand there

-- "With lines two and three exchanged, the refusal is 6 at 45."
pub swapped64 : Reading (array64 ++ (closed64 ++ (chosen64 ++ end64))) (wrong_at 45)
unfolding admit line_bytes
swapped64 =
    begun (closed64 ++ (chosen64 ++ end64))
    (line (group_line closed_tiles 0 0 0 1) (after (within closed_tiles) 1 (closed plain 0 0 1)) (chosen64 ++ end64) refl refl
    (line_refused (group_line chosen_pins 0 0 0 1) end64 tt refl))

-- K9: an E above D makes the array line wrong
pub extra64 : (rest : List ℕ) → Reading (line_bytes (array_line 2 2 1 2 3) ++ rest) (wrong_at 0)
unfolding admit
extra64 rest = line_refused (array_line 2 2 1 2 3) rest tt refl

-- the chosen pin twice: not strictly rising
pub twice64 : Reading (array64 ++ (chosen64 ++ (chosen64 ++ (closed64 ++ end64)))) (wrong_at 45)
unfolding admit line_bytes
twice64 = chosen-read (chosen64 ++ (closed64 ++ end64)) (line_refused (group_line chosen_pins 0 0 0 1) (closed64 ++ end64) tt refl)

-- the chosen pin missing too: "No pin in two groups."
pub both64 : Reading (array64 ++ (chosen64 ++ (missing_form zero_zero ++ (closed64 ++ end64)))) (wrong_at 45)
unfolding admit line_bytes
both64 = chosen-read (missing_form zero_zero ++ (closed64 ++ end64)) (line_refused (group_line missing_pins 0 0 0 2) (closed64 ++ end64) tt refl)

-- a laid wire before the closed tile
pub early64 : Reading (array64 ++ (chosen64 ++ (laid_form 49 ++ (closed64 ++ end64)))) (wrong_at 60)
unfolding admit line_bytes
early64 =
    let K : Job = laid_by (marked plain 0 0 1) (side_of 0 0 0) 1 in
    chosen-read (laid_form 49 ++ (closed64 ++ end64))
    (line (group_line laid_sides 0 0 0 1) (after (within laid_sides) 1 K) (closed64 ++ end64) refl refl
    (line_refused (group_line closed_tiles 0 0 0 1) end64 tt refl))

-- a count above O
pub above64 : Reading (array64 ++ (chosen64 ++ (closed64 ++ (laid_form 50 ++ end64)))) (wrong_at 58)
unfolding admit line_bytes
above64 = closed-read (laid_form 50 ++ end64) (line_refused (group_line laid_sides 0 0 0 2) end64 tt refl)

-- the job's D, 2, and a value above 2×O
pub same64 : Reading (array64 ++ (chosen64 ++ (closed64 ++ (own_form 50 ++ end64)))) (wrong_at 58)
unfolding admit line_bytes
same64 = closed-read (own_form 50 ++ end64) (line_refused (group_line own_ds 0 0 0 2) end64 tt refl)

pub wide64 : Reading (array64 ++ (chosen64 ++ (closed64 ++ (own_form 51 ++ end64)))) (wrong_at 58)
unfolding admit line_bytes
wide64 = closed-read (own_form 51 ++ end64) (line_refused (group_line own_ds 0 0 0 3) end64 tt refl)

-- an own D after a laid wire: "between closed and laid"
pub late64 : Reading (array64 ++ (chosen64 ++ (closed64 ++ (laid_form 49 ++ (own_form 49 ++ end64))))) (wrong_at 73)
unfolding admit line_bytes
late64 =
    closed-read (laid_form 49 ++ (own_form 49 ++ end64))
    (line (group_line laid_sides 0 0 0 1) (after (within laid_sides) 1 (laid_by job64 (side_of 0 0 0) 1)) (own_form 49 ++ end64) refl refl
    (line_refused (group_line own_ds 0 0 0 1) end64 tt refl))

-- 3 by 3, O = 2: "An inner side is written as s or e of its northern or western tile", so (laid 1 0 n 1) and (laid 0 1 w 1) may not stand
pub inner-sides : (o : ℕ) (rest : List ℕ) (R : Reader) → R ≡ after after_array 0 (fresh 3 3 2 3 0)
    → Reads R o (line_bytes (group_line laid_sides 1 0 0 1) ++ rest) (wrong_at o) × Reads R o (line_bytes (group_line laid_sides 0 1 3 1) ++ rest) (wrong_at o)
unfolding admit
inner-sides o rest R e = (
  line_refused (group_line laid_sides 1 0 0 1) rest tt (ap (λ (S : Reader). admit S (group_line laid_sides 1 0 0 1)) e),
  line_refused (group_line laid_sides 0 1 3 1) rest tt (ap (λ (S : Reader). admit S (group_line laid_sides 0 1 3 1)) e),
)

-- ---- bytes that begin no line

-- "Empty text is 6 at 0."
pub empty64 : Reading [] (wrong_at 0)
empty64 = bytes-refused (unfinished begin tt) (short [] refl)

-- "A byte after the end is 6 at 64."
pub longer64 : (b : ℕ) → Reading (text64 ++ (b ∷ [])) (wrong_at 64)
longer64 b = end_read (b ∷ []) (bytes-refused (λ s e. omega (arith, ap length e)) (short (b ∷ []) refl))

-- the text stops before its end line
pub stopped64 : Reading (array64 ++ (chosen64 ++ closed64)) (wrong_at 58)
stopped64 = closed-read [] (bytes-refused (unfinished (within closed_tiles) tt) (short [] refl))

-- the last line lacks its byte 10
pub unfinished64 : Reading (array64 ++ (chosen64 ++ (closed64 ++ end_form))) (wrong_at 58)
unfolding line_bytes
unfinished64 = closed-read end_form (bytes-refused (unfinished (within closed_tiles) tt) none-begins)
  where
    none-begins : NoLine end_form
    none-begins (array_line a b c d e) rest q = omega (arith, byte 1 q)
    none-begins (group_line chosen_pins r c d v) rest q = omega (arith, byte 1 q)
    none-begins (group_line missing_pins r c d v) rest q = omega (arith, byte 1 q)
    none-begins (group_line closed_tiles r c d v) rest q = omega (arith, byte 1 q)
    none-begins (group_line own_ds r c d v) rest q = omega (arith, byte 1 q)
    none-begins (group_line laid_sides r c d v) rest q = omega (arith, byte 1 q)
    none-begins end_line rest q = omega (arith, byte 5 q)

-- (chosen 00 0): "no leading zeros"
pub zeros64 : Reading (array64 ++ (chosen_form (48 ∷ zero_zero) ++ (closed64 ++ end64))) (wrong_at 32)
unfolding line_bytes
zeros64 = begun (chosen_form (48 ∷ zero_zero) ++ (closed64 ++ end64)) (bytes-refused (unfinished after_array tt) none-begins)
  where
    no_number : (b : Bool) (r : ℕ) (X Y : List ℕ) → (T b → 10 ≤ r) → 48 ∷ 48 ∷ X ≢ only b ((48 + r / 10) ∷ []) ++ ((48 + r % 10) ∷ 32 ∷ Y)
    no_number true r X Y f q = omega (arith, f tt, byte 0 q)
    no_number false r X Y f q = omega (arith, byte 1 q)

    none-begins : NoLine (chosen_form (48 ∷ zero_zero) ++ (closed64 ++ end64))
    none-begins (array_line a b c d e) rest q = omega (arith, byte 1 q)
    none-begins (group_line chosen_pins r c d v) rest q = no_number (leb 10 r) r _ _ (leb→le 10 r) (ap (drop 8) (simp append_assoc at q))
    none-begins (group_line missing_pins r c d v) rest q = omega (arith, byte 1 q)
    none-begins (group_line closed_tiles r c d v) rest q = omega (arith, byte 2 q)
    none-begins (group_line own_ds r c d v) rest q = omega (arith, byte 1 q)
    none-begins (group_line laid_sides r c d v) rest q = omega (arith, byte 1 q)
    none-begins end_line rest q = omega (arith, byte 1 q)
