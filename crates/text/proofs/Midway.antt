-- A text read up to an offset: a reader stands there whose verdict on the rest is the verdict on the whole. Each line that may stand leads on, and the text
-- ends well where the reader is finished and nothing is left. Assumes nothing.
use mathlib.Core.Path.{◌≡◌, refl, sym, ap, subst, ◌∙◌}
use mathlib.Core.Logic.{◌≢◌}
use mathlib.Core.Bool.{Bool, true, false, not, ◌&&◌}
use mathlib.Core.List.{List, [], ◌∷◌, ◌++◌}
use mathlib.Core.Option.{some}
use Rattle.std.specs.Prelude.{Some, None, Ok, Err}
use Rattle.line.specs.declared.group.Group.{Group as CodeGroup}
use Prim.Native.Nat.{ℕ, ◌+◌, ◌*◌, ◌≤◌, ◌<◌}
use native.Mathlib.Omega.{arith}
use lib.Dec.{T, eqb, leb, ltb, eqb→eq, leb→le, ltb→lt}
use lib.ListN.{length, get_or, drop, set, replicate, length-append, length-drop, length-set, length-replicate, get_or-replicate, drop_of_length-le}
use lib.Seq.{get_or-set_same, get_or-set_other}
use Rattle.sums.specs.Counting.{when}
use Rattle.sums.specs.Tests.{Same, same, other, same?, and_left, and_right, and_both}
use Rattle.model.specs.Job.{fresh, put, array_fits, caps_admitted, is_pin}
use Rattle.model.specs.Text.{Group, chosen_pins, missing_pins, Line, array_line, group_line, end_line, line_bytes, after_array, finished}
use Rattle.model.specs.Text.{within, rank, Reader, start, asking, in_turn, names, named, admit, Verdict, reads, wrong_at, Reads, ended, line, wrong}
use Rattle.model.specs.Text.{Reading, says, key_of}
use Rattle.model.proofs.Admitted.{caps-small}
use Rattle.model.proofs.TextUnique.{line-some}
use Rattle.model.proofs.TextProper.{asked, by_word, names-says}
use Rattle.model.proofs.TextNames.{rank-group, says_some, names-inside, Alike, named-alike}
use Rattle.model.proofs.Sides.{put-at, put-else}
use Rattle.line.specs.declared.group.Group.TheVariants.{Chosen, Missing, Closed, Own, Laid}
use Rattle.line.specs.declared.scan.Read.{Read}
use Rattle.line.specs.declared.lines.Entry.{Entry}
use Rattle.line.specs.declared.lines.Heading.{Heading}
use Rattle.line.specs.declared.lines.Line.TheVariants.{Tells, End}
use Rattle.line.specs.Groups.{text_group}
use Rattle.line.specs.Lines.{entry_line, heading_line}
use Rattle.text.specs.declared.reader.Cursor.{Cursor}
use Rattle.text.specs.Reader.{Opens, Follows, after_group, after_end, LeadsOn, Stepped, Judges}
use Rattle.line.proofs.Ranges.{array-small}
use Rattle.text.proofs.Standing.{going}

-- ---- a line of the text

line-long : (l : Line) → 0 < length (line_bytes l)
line-long l = by (line_bytes l) refl
  where
    by : (s : List ℕ) → line_bytes l ≡ s → 0 < length s
    by [] e = absurd (line-some l [] (sym (ap (λ (s : List ℕ). s ++ []) e)))
    by (x ∷ s) e = omega arith

-- where the next line begins
pub line-length : (text : List ℕ) (at next : ℕ) (l : Line) → at ≤ length text → next ≤ length text → drop at text ≡ line_bytes l ++ drop next text
    → (next ≡ at + length (line_bytes l)) × (at < next)
line-length text at next l a b e =
    let q : next ≡ at + length (line_bytes l) =
    omega (arith, ap length e, length-drop at text, length-append (line_bytes l) (drop next text), length-drop next text) in
    (q, omega (arith, line-long l))

-- ---- the last stage

-- after the end line none may stand
pub finished-none : (R : Reader) (l : Line) (R' : Reader) → R.stage ≡ finished → admit R l ≡ some R' → ⊥
unfolding admit
finished-none R (array_line a b o d e) R' z q =
    let x : Bool = eqb (rank R.stage) 0 in
    let (t, y) = asked (x && (array_fits a b && caps_admitted o d e)) _ R' q in
    omega (arith, ap rank z, eqb→eq (rank R.stage) 0 (and_left x (array_fits a b && caps_admitted o d e) t))
finished-none R (group_line g r c d v) R' z q =
    let x : Bool = leb 1 (rank R.stage) in
    let u : Bool = leb (rank R.stage) (rank (within g)) in
    let w : Bool = leb (when (eqb (rank R.stage) (rank (within g))) R.from) (key_of r c d) in
    let (t, y) = asked (in_turn R g r c d && names R.job g r c d v) _ R' q in
    let p : T (u && w) = and_right x (u && w) (and_left (in_turn R g r c d) (names R.job g r c d v) t) in
    omega (arith, ap rank z, (rank-group g).1, leb→le (rank R.stage) (rank (within g)) (and_left u w p))
finished-none R end_line R' z q =
    let x : Bool = leb 1 (rank R.stage) in
    let u : Bool = ltb (rank R.stage) 7 in
    let (t, y) = asked (x && u) _ R' q in
    omega (arith, ap rank z, ltb→lt (rank R.stage) 7 (and_right x u t))

asking-so : (b : Bool) (R : Reader) → T b → asking b R ≡ some R
asking-so true R t = refl
asking-so false R t = absurd t

-- ---- a text read up to an offset

pub record Midway (text : List ℕ) (k : Cursor) (h : Heading) (chosen : List ℕ) : Type 0 where
  pub reader : Reader
  pub follows : Follows reader k h chosen
  pub within : k.at ≤ length text
  pub high : h.array.rows ≤ 40
  pub wide : h.array.columns ≤ 40
  pub most : h.capacities.orthogonal ≤ 8
  pub marked : length chosen ≡ 1600
  pub on : (v : Verdict) → Reads reader k.at (drop k.at text) v → Reading text v

-- after the array line
pub midway-open : (text : List ℕ) (o : Read Heading) → Opens text (Some o)
    → Midway text (record { at = o.next; group = None; from = 0 }) o.value (replicate 1600 0)
unfolding admit
midway-open text o (s, t, l, q) =
    record {
      reader = R;
      follows = record {
        stage = refl;
        from = refl;
        high = refl;
        wide = refl;
        most = refl;
        usual = refl;
        marks = λ r c lr lc. ap (λ (x : ℕ). eqb x 1) (get_or-replicate 1600 (40 * r + c) 0 0 (omega arith));
      };
      within = l;
      high = (array-small h.array.rows h.array.columns s).0;
      wide = (array-small h.array.rows h.array.columns s).1;
      most = (caps-small h.capacities.orthogonal h.capacities.diagonal h.capacities.extra t).0;
      marked = length-replicate {A = ℕ} 1600 0;
      on = λ v r. line (heading_line h) R (drop o.next text) stands q
          (subst (λ (n : ℕ). Reads R n (drop o.next text) v) (line-length text 0 o.next (heading_line h) (omega arith) l q).0 r);
    }
  where
    h : Heading
    h = o.value

    R : Reader
    R = record { stage = after_array; from = 0; job = fresh h.array.rows h.array.columns h.capacities.orthogonal h.capacities.diagonal h.capacities.extra }

    fits : Bool
    fits = array_fits h.array.rows h.array.columns

    admitted : Bool
    admitted = caps_admitted h.capacities.orthogonal h.capacities.diagonal h.capacities.extra

    stands : admit start (heading_line h) ≡ some R
    stands = asking-so (fits && admitted) R (and_both fits admitted s t)

module _ {text : List ℕ} {k : Cursor} {h : Heading} {chosen : List ℕ} (m : Midway text k h chosen) where
  abbrev R : Reader
  R = m.reader

  abbrev w : Follows R k h chosen
  w = m.follows

  -- a line that may not stand
  pub midway-wrong : ((S : Reader) → Follows S k h chosen → Stepped text S k.at None) → Reading text (wrong_at k.at)
  midway-wrong f =
      m.on (wrong_at k.at) (wrong (λ e. absurd (omega (arith, ap rank e, going w m.high m.wide m.most))) (f R w))

  -- ---- a line that may stand

  -- the reader that the line leaves goes on with the rest
  goes_on_lem : (l : Line) (R' : Reader) (next : ℕ) → admit R l ≡ some R' → next ≤ length text → drop k.at text ≡ line_bytes l ++ drop next text → (v : Verdict)
      → Reads R' next (drop next text) v → Reading text v
  goes_on_lem l R' next a i q v r =
      m.on v (line l R' (drop next text) a q
      (subst (λ (n : ℕ). Reads R' n (drop next text) v) (line-length text k.at next l m.within i q).0 r))

  module _ (e : Entry) (next : ℕ) (f : (S : Reader) → Follows S k h chosen → LeadsOn text S k.at (Tells e) next) where
    abbrev g : Group
    g = text_group e.group

    abbrev on : LeadsOn text R k.at (Tells e) next
    on = f R w

    pub step-further : (k.at < next) × (next ≤ length text)
    step-further = ((line-length text k.at next (entry_line e) m.within on.1 on.2).1, on.1)

    -- what an admitted line of a group names
    group-named : T (names R.job g e.row e.column e.side e.value)
    unfolding admit
    group-named =
        and_right (in_turn R g e.row e.column e.side) (names R.job g e.row e.column e.side e.value)
        (asked (in_turn R g e.row e.column e.side && names R.job g e.row e.column e.side e.value) _ _ on.0).0

    pub entry-cell : (e.row < 40) × (e.column < 40) × (e.side < 4)
    entry-cell =
        let (y, z, o) = names-inside R.job g e.row e.column e.side e.value group-named in (
          omega (arith, w.high, m.high),
          omega (arith, w.wide, m.wide),
          (says_some g e.side e.value (names-says R.job g e.row e.column e.side e.value group-named)).0,
        )

    abbrev to : Cursor
    to = record { at = next; group = Some e.group; from = key_of e.row e.column e.side + 1 }

    -- the reader after a line of a group, if the marks follow it
    further : (chosen' : List ℕ) → length chosen' ≡ 1600
        → ((x y : ℕ) → x < 40 → y < 40 → eqb (get_or chosen' (40 * x + y) 0) 1 ≡ eqb ((named R.job g e.row e.column e.side e.value).mark x y) 1)
        → Midway text to h chosen'
    further chosen' long marks =
        let s : Alike (named R.job g e.row e.column e.side e.value) R.job =
        named-alike R.job R.job g e.row e.column e.side e.value (record { rows = refl; columns = refl; O = refl; D = refl; E = refl }) in
        record {
          reader = after_group R g e.row e.column e.side e.value;
          follows = record { stage = refl; from = refl; high = s.rows ∙ w.high; wide = s.columns ∙ w.wide; most = s.O ∙ w.most; usual = s.D ∙ w.usual; marks = marks };
          within = on.1;
          high = m.high;
          wide = m.wide;
          most = m.most;
          marked = long;
          on = goes_on_lem (entry_line e) (after_group R g e.row e.column e.side e.value) next on.0 on.1 on.2;
        }

    -- a pin's mark is that of its group
    abbrev marked-as : ℕ → ℕ → ℕ → Bool
    marked-as n x y = eqb (put R.job.mark e.row e.column n x y) 1

    marks-chosen : (i j : ℕ) → i < 40 → j < 40 → eqb (get_or (set chosen (40 * e.row + e.column) 1) (40 * i + j) 0) 1 ≡ marked-as 1 i j
    marks-chosen i j li lj = by (eqb (40 * i + j) (40 * e.row + e.column)) (same? (40 * i + j) (40 * e.row + e.column))
      where
        by : (b : Bool) → Same (40 * i + j) (40 * e.row + e.column) b
            → eqb (get_or (set chosen (40 * e.row + e.column) 1) (40 * i + j) 0) 1 ≡ marked-as 1 i j
        by true (same q) =
            let (lr, lc, ld) = entry-cell in
            let x : i ≡ e.row = omega arith in
            let y : j ≡ e.column = omega arith in
            ap (λ (n : ℕ). eqb n 1)
            (ap (λ (n : ℕ). get_or (set chosen (40 * e.row + e.column) 1) n 0) q
            ∙ (get_or-set_same chosen (40 * e.row + e.column) 1 0 (omega (arith, m.marked))
            ∙ (sym (put-at R.job.mark e.row e.column 1) ∙ (λ z. put R.job.mark e.row e.column 1 (sym x z) (sym y z)))))
        by false (other n) =
            ap (λ (z : ℕ). eqb z 1) (get_or-set_other chosen (40 * e.row + e.column) (40 * i + j) 1 0 n)
            ∙ (w.marks i j li lj
            ∙ ap (λ (z : ℕ). eqb z 1) (sym (put-else R.job.mark e.row e.column 1 i j (λ x y. n (λ z. 40 * x z + y z)))))

    marks-missing : T (not (eqb (R.job.mark e.row e.column) 1)) → (i j : ℕ) → i < 40 → j < 40 → eqb (get_or chosen (40 * i + j) 0) 1 ≡ marked-as 2 i j
    marks-missing t i j li lj = by (eqb (40 * i + j) (40 * e.row + e.column)) (same? (40 * i + j) (40 * e.row + e.column))
      where
        unchosen : (b : Bool) → T (not b) → b ≡ false
        unchosen true u = absurd u
        unchosen false u = refl

        by : (b : Bool) → Same (40 * i + j) (40 * e.row + e.column) b → eqb (get_or chosen (40 * i + j) 0) 1 ≡ marked-as 2 i j
        by true (same q) =
            let (lr, lc, ld) = entry-cell in
            let x : i ≡ e.row = omega arith in
            let y : j ≡ e.column = omega arith in
            ap (λ (n : ℕ). eqb (get_or chosen n 0) 1) q
            ∙ (w.marks e.row e.column lr lc
            ∙ (unchosen (eqb (R.job.mark e.row e.column) 1) t
            ∙ ap (λ (n : ℕ). eqb n 1) (sym (put-at R.job.mark e.row e.column 2) ∙ (λ z. put R.job.mark e.row e.column 2 (sym x z) (sym y z)))))
        by false (other n) = w.marks i j li lj ∙ ap (λ (z : ℕ). eqb z 1) (sym (put-else R.job.mark e.row e.column 2 i j (λ x y. n (λ z. 40 * x z + y z))))

    -- the chosen pin's mark is set
    pub midway-chosen : e.group ≡ Chosen → Midway text to h (set chosen (40 * e.row + e.column) 1)
    midway-chosen q =
        further (set chosen (40 * e.row + e.column) 1) (length-set chosen (40 * e.row + e.column) 1 ∙ m.marked)
        (λ x y lx ly. marks-chosen x y lx ly ∙ sym (as-chosen x y))
      where
        told : T (says chosen_pins e.side e.value)
        told = subst (λ (g : CodeGroup). T (says (text_group g) e.side e.value)) q (names-says R.job g e.row e.column e.side e.value group-named)

        as-chosen : (x y : ℕ) → eqb ((named R.job g e.row e.column e.side e.value).mark x y) 1 ≡ marked-as 1 x y
        as-chosen x y =
            ap (λ (g : CodeGroup). eqb ((named R.job (text_group g) e.row e.column e.side e.value).mark x y) 1) q
            ∙ ap (λ (n : ℕ). marked-as n x y) (by_word e.side e.value 1 told).1

    -- any other line leaves the marks
    pub midway-other : e.group ≢ Chosen → Midway text to h chosen
    midway-other n = further chosen m.marked (λ x y lx ly. as-before x y lx ly e.group refl)
      where
        as-before : (x y : ℕ) → x < 40 → y < 40 → (q : CodeGroup) → e.group ≡ q
            → eqb (get_or chosen (40 * x + y) 0) 1 ≡ eqb ((named R.job g e.row e.column e.side e.value).mark x y) 1
        as-before x y lx ly Chosen i = absurd (n i)
        as-before x y lx ly Missing i =
            let u : T (names R.job missing_pins e.row e.column e.side e.value) =
            subst (λ (g : CodeGroup). T (names R.job (text_group g) e.row e.column e.side e.value)) i group-named in
            let unchosen : Bool = not (eqb (R.job.mark e.row e.column) 1) in
            let t : T unchosen =
            and_right (is_pin R.job e.row e.column) unchosen (and_left (is_pin R.job e.row e.column && unchosen) (says missing_pins e.side e.value) u) in
            marks-missing t x y lx ly
            ∙ (ap (λ (v : ℕ). marked-as v x y) (sym (by_word e.side e.value 2 (names-says R.job missing_pins e.row e.column e.side e.value u)).1)
            ∙ ap (λ (g : CodeGroup). eqb ((named R.job (text_group g) e.row e.column e.side e.value).mark x y) 1) (sym i))
        as-before x y lx ly Closed i =
            w.marks x y lx ly ∙ ap (λ (g : CodeGroup). eqb ((named R.job (text_group g) e.row e.column e.side e.value).mark x y) 1) (sym i)
        as-before x y lx ly Own i =
            w.marks x y lx ly ∙ ap (λ (g : CodeGroup). eqb ((named R.job (text_group g) e.row e.column e.side e.value).mark x y) 1) (sym i)
        as-before x y lx ly Laid i =
            w.marks x y lx ly ∙ ap (λ (g : CodeGroup). eqb ((named R.job (text_group g) e.row e.column e.side e.value).mark x y) 1) (sym i)

  -- ---- the end line

  module _ (next : ℕ) (f : (S : Reader) → Follows S k h chosen → LeadsOn text S k.at End next) where
    abbrev ending : LeadsOn text R k.at End next
    ending = f R w

    pub midway-ended : length text ≤ next → Judges text (Ok tt)
    midway-ended l =
        (R.job, goes_on_lem end_line (after_end R) next ending.0 ending.1 ending.2 (reads R.job) (ended refl (drop_of_length-le text l)))

    pub midway-longer : next < length text → Judges text (Err (record { offset = next }))
    midway-longer l =
        goes_on_lem end_line (after_end R) next ending.0 ending.1 ending.2 (wrong_at next)
        (wrong (λ x y. omega (arith, ap length y, length-drop next text)) (λ l R' rest a q. finished-none (after_end R) l R' refl a))
