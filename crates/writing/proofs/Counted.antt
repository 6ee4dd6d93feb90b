-- The parts of a job's text by their lengths: a number has one digit or two, a line is as long as its parts, and a list made entry by entry has room for
-- each entry behind those before it. Assumes nothing.
use mathlib.Core.Path.{◌≡◌, refl, sym, ap, ◌∙◌}
use mathlib.Core.Bool.{Bool, true, false}
use mathlib.Core.List.{List, [], ◌∷◌, ◌++◌, append_assoc, append-nil}
use Prim.Native.Nat.{ℕ, zero, suc, ◌+◌, ◌≤◌, ◌<◌}
use native.Mathlib.Nat.{not-suc-le-zero}
use native.Mathlib.Numerals.{add-one}
use native.Mathlib.Omega.{arith}
use lib.Dec.{eqb}
use lib.ListN.{length, get_or, length-append}
use Rattle.sums.specs.Counting.{each}
use Rattle.sums.specs.Tests.{Same, same, other, same?}
use Rattle.model.specs.Job.{Job}
use Rattle.model.specs.Text.{Group, chosen_pins, missing_pins, closed_tiles, own_ds, laid_sides, decimal, array_line, group_line, end_line, line_bytes, value_at, value_line}
use Rattle.model.specs.Text.{group_text, text_of, group_of}
use Rattle.model.proofs.TextNames.{value_line_lem}
use Rattle.line.specs.declared.group.Group.TheVariants.{Chosen, Missing, Closed, Own, Laid}
use Rattle.line.specs.Groups.{text_group}
use Rattle.line.specs.Scan.{two}
use Rattle.line.specs.Lines.{opening, stop, after_stop}
use Rattle.writing.specs.Writer.{ended, array_text, line_parts, side_text, cell_text, row_text, groups_text}
use Rattle.line.proofs.Lined.{group-bytes, behind-two, pins_part, caps_part, end_part}

-- ---- entry by entry

pub each_more : {A : Type 0} (i : ℕ) (f : ℕ → List A) → each (i + 1) f ≡ each i f ++ f i
unfolding each
each_more i f = ap (λ (n : ℕ). each n f) (add-one i)

pub each-length : {A : Type 0} (i : ℕ) (f : ℕ → List A) → length (each (i + 1) f) ≡ length (each i f) + length (f i)
each-length i f = ap length (each_more i f) ∙ length-append (each i f) (f i)

-- the entries before i and entry i fit into all of them
pub each-room : {A : Type 0} (n i : ℕ) (f : ℕ → List A) → i < n → length (each i f) + length (f i) ≤ length (each n f)
unfolding each
each-room zero i f l = absurd (not-suc-le-zero l)
each-room {A} (suc n) i f l = by (eqb i n) (same? i n) (each-room n i f)
  where
    by : (b : Bool) → Same i n b → (i < n → length (each i f) + length (f i) ≤ length (each n f)) → length (each i f) + length (f i) ≤ length (each n f ++ f n)
    by true (same e) r = omega (arith, length-append (each n f) (f n), ap (λ (k : ℕ). length (each k f) + length (f k)) e)
    by false (other e) r = omega (arith, length-append (each n f) (f n), r (omega arith))

-- ---- numbers

pub ended-length : (n e : ℕ) → length (ended n e) ≡ length (decimal n) + 1
ended-length n e = length-append (decimal n) (e ∷ [])

pub two-length : (a b e : ℕ) → length (two a b e []) ≡ length (decimal a) + length (decimal b) + 2
two-length a b e = omega (arith, length-append (decimal a) (32 ∷ ended b e), ended-length b e)

-- ---- lines

-- the tail behind the byte after the column
tail-parts : (g : Group) (d v : ℕ) (X : List ℕ) → after_stop g d v X ≡ after_stop g d v [] ++ X
tail-parts chosen_pins d v X = refl
tail-parts missing_pins d v X = refl
tail-parts closed_tiles d v X = refl
tail-parts own_ds d v X = simp append_assoc
tail-parts laid_sides d v X = simp append_assoc

line-parts : (g : Group) (r c d v : ℕ) → line_bytes (group_line g r c d v) ≡ line_parts g r c d v
line-parts g r c d v =
    let X : List ℕ = after_stop g d v (10 ∷ []) in
    let e : two r c (stop g) X ≡ two r c (stop g) [] ++ X = simp append_assoc in
    sym (append-nil (line_bytes (group_line g r c d v)))
    ∙ (group-bytes g r c d v []
    ∙ ap (λ (Y : List ℕ). opening g ++ Y) (behind-two g r c d v [] ∙ (e ∙ ap (λ (Y : List ℕ). two r c (stop g) [] ++ Y) (tail-parts g d v (10 ∷ [])))))

-- the array line: what follows O, the word of the caps, the pins, the first word
abbrev pub after_o : ℕ → ℕ → List ℕ
after_o d e = two d e 41 [] ++ end_part

abbrev pub after_caps : ℕ → ℕ → ℕ → List ℕ
after_caps o d e = ended o 32 ++ after_o d e

abbrev pub after_pins : ℕ → ℕ → ℕ → List ℕ
after_pins o d e = caps_part ++ after_caps o d e

abbrev pub after_first : ℕ → ℕ → ℕ → ℕ → ℕ → List ℕ
after_first a b o d e = two a b 41 [] ++ after_pins o d e

pub array_parts : (a b o d e : ℕ) → pins_part ++ after_first a b o d e ≡ line_bytes (array_line a b o d e)
unfolding line_bytes
array_parts a b o d e = simp append_assoc

pub array-counted : (K : Job)
    → length (array_text K)
    ≡ length (decimal K.rows) + length (decimal K.columns) + length (decimal K.O) + length (decimal K.D) + length (decimal K.E) + 27
unfolding array_text
array-counted K =
    let pins = two K.rows K.columns 41 [] in
    let caps = two K.D K.E 41 [] in
    omega (
      arith,
      ap length (array_parts K.rows K.columns K.O K.D K.E),
      length-append pins (after_pins K.O K.D K.E),
      length-append (ended K.O 32) (after_o K.D K.E),
      length-append caps end_part,
      two-length K.rows K.columns 41,
      ended-length K.O 32,
      two-length K.D K.E 41,
    )

-- ---- sides of cells

pub side-some : (K : Job) (g : Group) (r c d n : ℕ) → n ≡ value_at K g r c d → 0 < n → side_text K g r c d ≡ line_parts g r c d n
unfolding side_text
side-some K g r c d n e l = ap (value_line g r c d) (sym e) ∙ (value_line_lem g r c d n l ∙ line-parts g r c d n)

pub side-none : (K : Job) (g : Group) (r c d n : ℕ) → n ≡ value_at K g r c d → n ≤ 0 → side_text K g r c d ≡ []
unfolding side_text
side-none K g r c d n e l =
    let z : value_at K g r c d ≡ 0 = omega arith in
    ap (value_line g r c d) z

pub group-rows : (K : Job) (g : Group) → each K.rows (row_text K g) ≡ group_text K g
unfolding row_text cell_text side_text
group-rows K g = refl

-- the groups in their order are those of the ranks from 2
pub in-order : (k : ℕ) → k < 5 → text_group (get_or (Chosen ∷ Missing ∷ Closed ∷ Own ∷ Laid ∷ []) k Chosen) ≡ group_of (2 + k)
unfolding group_of
in-order zero l = refl
in-order (suc zero) l = refl
in-order (suc (suc zero)) l = refl
in-order (suc (suc (suc zero))) l = refl
in-order (suc (suc (suc (suc zero)))) l = refl
in-order (suc (suc (suc (suc (suc k))))) l = absurd (omega arith)

-- ---- the text

pub text-parts : (K : Job) → array_text K ++ (groups_text K 5 ++ line_bytes end_line) ≡ text_of K
unfolding text_of array_text groups_text each group_of
text-parts K = simp append_assoc

pub text-counted : (K : Job) → length (text_of K) ≡ length (array_text K) + length (groups_text K 5) + 6
unfolding line_bytes
text-counted K =
    omega (
      arith,
      ap length (text-parts K),
      length-append (array_text K) (groups_text K 5 ++ line_bytes end_line),
      length-append (groups_text K 5) (line_bytes end_line),
    )

pub end-word : line_bytes end_line ≡ 40 ∷ 101 ∷ 110 ∷ 100 ∷ 41 ∷ 10 ∷ []
unfolding line_bytes
end-word = refl
