-- A job written line by line from a text that reads: at each line the record is that of the job so far, and the reader that stands there reads the rest of
-- the text as the same job. Assumes nothing.
use mathlib.Core.Path.{◌≡◌, refl, sym, ap, subst, ◌∙◌}
use mathlib.Core.Logic.{◌⊎◌, inl, inr}
use mathlib.Core.Bool.{Bool, ◌&&◌}
use mathlib.Core.List.{List, ◌++◌}
use mathlib.Core.Option.{some}
use Prim.Native.Nat.{ℕ, suc, ◌+◌, ◌≤◌, ◌<◌}
use native.Mathlib.Omega.{arith}
use lib.Dec.{T, leb, ltb, ltb→lt}
use lib.ListN.{length, drop, set}
use Rattle.sums.specs.Tests.{and_left, and_right}
use Rattle.model.specs.Job.{Job, fresh, side_of, array_fits, caps_admitted}
use Rattle.model.specs.Record.{record_size, mark_plane, state_plane, own_d_plane, offset, no_loads, unwired_record, over}
use Rattle.model.specs.Text.{Group, laid_sides, Line, end_line, line_bytes, after_array}
use Rattle.model.specs.Text.{finished, rank, Reader}
use Rattle.model.specs.Text.{in_turn, names, named, admit, Verdict, reads, wrong_at, Reads, ended, line, wrong, Reading}
use Rattle.model.proofs.Admitted.{caps-small}
use Rattle.model.proofs.TextUnique.{Says, admit-says, line-unique, line-some, reads-unique}
use Rattle.model.proofs.TextProper.{asked, names-laid}
use Rattle.model.proofs.TextNames.{rank-group, names-inside, Alike, named-alike}
use Rattle.channel.specs.Laid.{side_offset, side-inside}
use Rattle.channel.specs.Written.{marked-over, closed-over, own-over, laid-over, over-over}
use Rattle.std.specs.Prelude.{None}
use Rattle.line.specs.declared.group.Group.{Group as CodeGroup}
use Rattle.line.specs.declared.group.Group.TheVariants.{Chosen, Missing, Closed, Own, Laid}
use Rattle.line.specs.declared.lines.Entry.{Entry}
use Rattle.line.specs.declared.lines.Heading.{Heading}
use Rattle.line.specs.declared.lines.Line.TheVariants.{Tells, End}
use Rattle.line.specs.Groups.{text_group}
use Rattle.line.specs.Lines.{entry_line, heading_line, LineIs, LineAt}
use Rattle.text.specs.Reader.{after_group, after_end}
use Rattle.line.proofs.Ranges.{array-small}
use Rattle.text.proofs.Standing.{none-stands}
use Rattle.text.proofs.Midway.{line-length, finished-none}

-- ---- reading on

-- a verdict that gives a job
abbrev Well : Verdict → Type 0
Well (reads K) = Unit {0}
Well (wrong_at o) = ⊥

-- the reader after the line that begins there
reads_on : {R : Reader} {o : ℕ} {text : List ℕ} {v : Verdict} (l : Line) (rest : List ℕ) → Says l → text ≡ line_bytes l ++ rest → Well v → Reads R o text v
    → (R' : Reader) × (admit R l ≡ some R') × Reads R' (o + length (line_bytes l)) rest v
reads_on l rest z q t (ended g e) = absurd (line-some l rest (sym e ∙ q))
reads_on {R} {o} {text} {v} l rest z q t (line m S more b p r) =
    let (x, y) = line-unique l m rest more z (admit-says R m S b) (sym q ∙ p) in (
      S,
      ap (admit R) x ∙ b,
      subst (λ (n : Line). Reads S (o + length (line_bytes n)) rest v) (sym x)
          (subst (λ (X : List ℕ). Reads S (o + length (line_bytes m)) X v) (sym y) r),
    )
reads_on l rest z q t (wrong f n) = absurd t

-- a finished reader has the text's job
finished-job : {R : Reader} {o : ℕ} {text : List ℕ} {v : Verdict} → R.stage ≡ finished → Well v → Reads R o text v → reads R.job ≡ v
finished-job z t (ended g e) = refl
finished-job {R} z t (line m S more b p r) = absurd (finished-none R m S z b)
finished-job z t (wrong f n) = absurd t

pub same-job : (K L : Job) → reads K ≡ reads L → K ≡ L
same-job K L e = cc

-- one that is not finished stands before a line
none_read : {R : Reader} {o : ℕ} {text : List ℕ} {v : Verdict} → rank R.stage ≤ 6
    → ((l : Line) (R' : Reader) (rest : List ℕ) → admit R l ≡ some R' → text ≡ line_bytes l ++ rest → ⊥) → Well v → Reads R o text v → ⊥
none_read l n t (ended g e) = omega (arith, ap rank g)
none_read l n t (line m S more b p r) = n m S more b p
none_read l n t (wrong f h) = t

named-size : (J : Job) (g : Group) (r c d v : ℕ)
    → ((named J g r c d v).rows ≡ J.rows) × ((named J g r c d v).columns ≡ J.columns) × ((named J g r c d v).O ≡ J.O)
named-size J g r c d v =
    let a : Alike (named J g r c d v) J = named-alike J J g r c d v (record { rows = refl; columns = refl; O = refl; D = refl; E = refl }) in
    (a.rows, a.columns, a.O)

-- ---- an entry in a record

module _ (J : Job) (under : List ℕ) (e : Entry) (high : e.row < 40) (wide : e.column < 40) (long : record_size ≤ length under) where
  abbrev bytes : List ℕ
  bytes = over (unwired_record J) under

  abbrev told : CodeGroup → List ℕ
  told g = over (unwired_record (named J (text_group g) e.row e.column e.side e.value)) under

  pub named-marked : (e.group ≡ Chosen) ⊎ (e.group ≡ Missing) → set bytes (offset mark_plane e.row e.column) e.value ≡ told e.group
  named-marked (inl q) = marked-over J under e.row e.column e.value long high wide ∙ ap told (sym q)
  named-marked (inr q) = marked-over J under e.row e.column e.value long high wide ∙ ap told (sym q)

  pub named-closed : set bytes (offset state_plane e.row e.column) e.value ≡ told Closed
  named-closed = closed-over J under e.row e.column e.value long high wide

  pub named-own : set bytes (offset own_d_plane e.row e.column) e.value ≡ told Own
  named-own = own-over J under e.row e.column e.value long high wide

  pub named-laid : e.row < 39 → e.column < 39 → set bytes (side_offset (side_of e.row e.column e.side)) e.value ≡ told Laid
  named-laid lr lc =
      let (x, y) = side-inside e.row e.column e.side lr lc in
      laid-over J under (side_of e.row e.column e.side) e.value long x y

-- ---- the record so far

pub record Writing (text rec : List ℕ) (K : Job) (at : ℕ) (out : List ℕ) : Type 0 where
  pub reader : Reader
  pub begun : 1 ≤ rank reader.stage
  pub going : rank reader.stage ≤ 6
  pub high : reader.job.rows ≤ 40
  pub wide : reader.job.columns ≤ 40
  pub most : reader.job.O ≤ 8
  pub rest : Reads reader at (drop at text) (reads K)
  pub here : out ≡ over (unwired_record reader.job) rec

-- after the array line
pub writing-open : (text rec out : List ℕ) (h : Heading) (next : ℕ) → next ≤ length text → text ≡ line_bytes (heading_line h) ++ drop next text
    → out ≡ over (unwired_record (fresh h.array.rows h.array.columns h.capacities.orthogonal h.capacities.diagonal h.capacities.extra)) rec → (K : Job)
    → Reading text (reads K) → Writing text out K next out
unfolding admit
writing-open text rec out h next l q x K r =
    let (R', s, r) = reads_on (heading_line h) (drop next text) tt q tt r in
    let (t, z) = asked (fits && admitted) R R' s in
    let (y, w) = array-small h.array.rows h.array.columns (and_left fits admitted t) in
    record {
      reader = R;
      begun = omega arith;
      going = omega arith;
      high = y;
      wide = w;
      most = (caps-small h.capacities.orthogonal h.capacities.diagonal h.capacities.extra (and_right fits admitted t)).0;
      rest = subst (λ (S : Reader). Reads S next (drop next text) (reads K)) (sym z)
          (subst (λ (n : ℕ). Reads R' n (drop next text) (reads K)) (sym (line-length text 0 next (heading_line h) (omega arith) l q).0) r);
      here = x ∙ (sym (over-over J J no_loads no_loads rec) ∙ ap (over (unwired_record J)) (sym x));
    }
  where
    J : Job
    J = fresh h.array.rows h.array.columns h.capacities.orthogonal h.capacities.diagonal h.capacities.extra

    R : Reader
    R = record { stage = after_array; from = 0; job = J }

    fits : Bool
    fits = array_fits h.array.rows h.array.columns

    admitted : Bool
    admitted = caps_admitted h.capacities.orthogonal h.capacities.diagonal h.capacities.extra

module _ {text rec : List ℕ} {K : Job} {at : ℕ} {out : List ℕ} (w : Writing text rec K at out) where
  abbrev R : Reader
  R = w.reader

  -- ---- a line of a group

  module _ (inside : at ≤ length text) (e : Entry) (next : ℕ) (f : LineIs text at (Tells e) next) where
    abbrev g : Group
    g = text_group e.group

    -- what it names, and the reader after it
    group-read : T (names R.job g e.row e.column e.side e.value) × Reads (after_group R g e.row e.column e.side e.value) next (drop next text) (reads K)
    unfolding admit
    group-read =
        let (R', s, x) = reads_on (entry_line e) (drop next text) f.0.tells f.2 tt w.rest in
        let (t, z) = asked (in_turn R g e.row e.column e.side && names R.job g e.row e.column e.side e.value) (after_group R g e.row e.column e.side e.value) R' s in (
          and_right (in_turn R g e.row e.column e.side) (names R.job g e.row e.column e.side e.value) t,
          subst (λ (S : Reader). Reads S next (drop next text) (reads K)) (sym z)
              (subst (λ (o : ℕ). Reads R' o (drop next text) (reads K)) (sym (line-length text at next (entry_line e) inside f.1 f.2).0) x),
        )

    pub group-cell : (e.row < 40) × (e.column < 40)
    group-cell =
        let (x, y, z) = names-inside R.job g e.row e.column e.side e.value group-read.0 in
        (omega (arith, w.high), omega (arith, w.wide))

    -- a side is a tile's
    pub group-tile : e.group ≡ Laid → (e.row < 39) × (e.column < 39)
    group-tile q =
        let t : T (names R.job laid_sides e.row e.column e.side e.value) =
        subst (λ (g : CodeGroup). T (names R.job (text_group g) e.row e.column e.side e.value)) q group-read.0 in
        let a : Bool = ltb (suc e.row) R.job.rows in
        let b : Bool = ltb (suc e.column) R.job.columns in
        let u : T (a && b) = (names-laid R.job e.row e.column e.side e.value t).0 in (
          omega (arith, w.high, ltb→lt (suc e.row) R.job.rows (and_left a b u)),
          omega (arith, w.wide, ltb→lt (suc e.column) R.job.columns (and_right a b u)),
        )

    pub writing-group : (new : List ℕ) → new ≡ over (unwired_record (named R.job g e.row e.column e.side e.value)) rec → Writing text rec K next new
    writing-group new q =
        record {
          reader = after_group R g e.row e.column e.side e.value;
          begun = omega (arith, (rank-group g).0);
          going = (rank-group g).1;
          high = omega (arith, w.high, (named-size R.job g e.row e.column e.side e.value).0);
          wide = omega (arith, w.wide, (named-size R.job g e.row e.column e.side e.value).1);
          most = omega (arith, w.most, (named-size R.job g e.row e.column e.side e.value).2);
          rest = group-read.1;
          here = q;
        }

  -- ---- the end

  -- where no line of a group begins, the job is whole
  pub writing-ended : (next : ℕ) → LineIs text at End next → out ≡ over (unwired_record K) rec
  unfolding admit
  writing-ended next (l, q) =
      let (R', s, x) = reads_on end_line (drop next text) tt q tt w.rest in
      let (t, z) = asked (leb 1 (rank R.stage) && ltb (rank R.stage) 7) (after_end R) R' s in
      let e : R.job ≡ K = same-job R.job K (ap (λ (S : Reader). reads S.job) z ∙ finished-job (ap (λ (S : Reader). S.stage) (sym z)) tt x) in
      w.here ∙ ap (λ (J : Job). over (unwired_record J) rec) e

  pub writing-wrong : LineAt text at None → ⊥
  writing-wrong f = none_read w.going (none-stands R text at w.begun w.high w.wide w.most f) tt w.rest

-- a text has one verdict
pub not-both : (text : List ℕ) (K : Job) (o : ℕ) → Reading text (reads K) → Reading text (wrong_at o) → ⊥
not-both text K o h k = let e : reads K ≡ wrong_at o = reads-unique h k in let z : ◌≡◌ {A = ℕ} 0 1 = cc in omega arith
