-- Laws of which line may stand. The code's tests are those of `admit` by the stage's rank; a line that may stand has numbers below 100, and no other line
-- begins where one does, so a line that is refused is the only one to ask about. Assumes nothing.
use mathlib.Core.Path.{◌≡◌, refl, sym, ap, ◌∙◌}
use mathlib.Core.Logic.{◌≢◌}
use mathlib.Core.Bool.{Bool, true, false, not, ◌&&◌}
use mathlib.Core.List.{List, ◌++◌}
use mathlib.Core.Option.{Option, none, some}
use Prim.Native.Nat.{ℕ, suc, ◌+◌, ◌*◌, ◌≤◌, ◌<◌}
use native.Mathlib.Omega.{arith}
use lib.Dec.{T, eqb, leb, ltb, eqb→eq, leb→le}
use borrow.Author.Tests.{le-leb, lt-ltb}
use lib.ListN.{get_or, drop}
use Rattle.sums.specs.Tests.{and_left, and_right, and_both}
use Rattle.model.specs.Job.{Job, fresh, in_range, array_fits, caps_admitted, is_pin, is_tile, is_own_d}
use Rattle.model.specs.Text.{Group, chosen_pins, missing_pins, closed_tiles, own_ds, laid_sides, Line, array_line, group_line, end_line, line_bytes, begin, after_array, finished}
use Rattle.model.specs.Text.{within, rank, Reader}
use Rattle.model.specs.Text.{start, asking, in_turn, names, writes_side, admit, wrong_at, wrong, Reading, says, key_of}
use Rattle.model.proofs.Admitted.{admitted-fit}
use Rattle.model.proofs.TextUnique.{Says, admit-says, line-unique}
use Rattle.model.proofs.TextProper.{asked, by_word, names-says, names-own, names-laid}
use Rattle.model.proofs.TextNames.{names-inside, rank-group}
use Rattle.model.proofs.Own.{own_range}
use Rattle.std.specs.Prelude.{Option as CodeOption, Some, None}
use Rattle.line.specs.declared.group.Group.{Group as CodeGroup}
use Rattle.line.specs.declared.lines.Entry.{Entry}
use Rattle.line.specs.declared.lines.Heading.{Heading}
use Rattle.line.specs.declared.lines.Line.TheVariants.{Tells, End}
use Rattle.text.specs.declared.reader.Cursor.{Cursor}
use Rattle.line.specs.Groups.{text_group}
use Rattle.line.specs.Lines.{entry_line, LineIs, LineAt, ArrayAt}
use Rattle.line.proofs.Ranges.{five-small}
use Rattle.text.specs.Reader.{stage_of, turn_fits, names_fit, Follows, after_group, after_end, LeadsOn, Stepped}

-- ---- refusals

none-some : (R : Reader) → ◌≢◌ {A = Option Reader} none (some R)
none-some R e = let w : ◌≡◌ {A = ℕ} 0 1 = cc in omega arith

-- where a line begins that may not stand, none begins that may
pub line_refused : (R : Reader) (text : List ℕ) (l : Line) (rest : List ℕ) → Says l → text ≡ line_bytes l ++ rest → admit R l ≡ none
    → (m : Line) (R' : Reader) (more : List ℕ) → admit R m ≡ some R' → text ≢ line_bytes m ++ more
line_refused R text l rest t q e m R' more a p =
    none-some R' (sym e ∙ (ap (admit R) (line-unique l m rest more t (admit-says R m R' a) (sym q ∙ p)).0 ∙ a))

-- ---- the array line

-- what may stand at the start is an array line
opened : (l : Line) (R : Reader) → admit start l ≡ some R
    → (a : ℕ) × (b : ℕ) × (o : ℕ) × (d : ℕ) × (e : ℕ) × (l ≡ array_line a b o d e) × T (array_fits a b) × T (caps_admitted o d e)
unfolding admit
opened (array_line a b o d e) R q =
    let (t, p) = asked (array_fits a b && caps_admitted o d e) _ R q in
    (a, b, o, d, e, refl, and_left (array_fits a b) (caps_admitted o d e) t, and_right (array_fits a b) (caps_admitted o d e) t)
opened (group_line g r c d v) R q = absurd (none-some R q)
opened end_line R q = absurd (none-some R q)

not-begun : begin ≢ finished
not-begun e = omega (arith, ap rank e)

pub open-wrong : (text : List ℕ) → ArrayAt text None → Reading text (wrong_at 0)
open-wrong text f =
    wrong (λ s. absurd (not-begun s))
    (λ l R rest q p. let (a, b, o, d, e, i, s, t) = opened l R q in f a b o d e rest (five-small a b o d e s (admitted-fit o d e t)) (p ∙ ap (λ (m : Line). line_bytes m ++ rest) i))

abbrev after_array' : ℕ → ℕ → ℕ → ℕ → ℕ → Reader
after_array' a b o d e = record { stage = after_array; from = 0; job = fresh a b o d e }

pub open-refused : (text : List ℕ) (a b o d e : ℕ) (rest : List ℕ) → text ≡ line_bytes (array_line a b o d e) ++ rest
    → (array_fits a b && caps_admitted o d e) ≡ false → Reading text (wrong_at 0)
unfolding admit
open-refused text a b o d e rest q n =
    wrong (λ s. absurd (not-begun s)) (line_refused start text (array_line a b o d e) rest tt q (ap (λ (t : Bool). asking t (after_array' a b o d e)) n))

-- ---- a line of a group

and-more : (a b : Bool) → T b → a ≡ (a && b)
and-more true true t = refl
and-more false b t = refl
and-more true false t = absurd t

pub and-false : (b : Bool) → (b && false) ≡ false
and-false true = refl
and-false false = refl

-- the value of a line that may stand is small
names-small : (J : Job) (g : Group) (r c d v : ℕ) → J.O ≤ 8 → T (names J g r c d v) → v < 100
names-small J chosen_pins r c d v l t = let (x, y) = by_word d v 1 (names-says J chosen_pins r c d v t) in omega arith
names-small J missing_pins r c d v l t = let (x, y) = by_word d v 2 (names-says J missing_pins r c d v t) in omega arith
names-small J closed_tiles r c d v l t = let (x, y) = by_word d v 1 (names-says J closed_tiles r c d v t) in omega arith
names-small J own_ds r c d v l t = omega (arith, (own_range J v (names-own J r c d v t).1).1)
names-small J laid_sides r c d v l t = let (x, y, z) = names-laid J r c d v t in omega (arith, leb→le v J.O z)

-- where no line of a group and no end line begins, none begins that may stand after the array line
pub none-stands : (R : Reader) (text : List ℕ) (at : ℕ) → 1 ≤ rank R.stage → R.job.rows ≤ 40 → R.job.columns ≤ 40 → R.job.O ≤ 8 → LineAt text at None
    → (l : Line) (R' : Reader) (rest : List ℕ) → admit R l ≡ some R' → drop at text ≢ line_bytes l ++ rest
unfolding admit
none-stands R text at k x y z (f, h) (array_line a b o d e) R' rest q p =
    let (t, i) = asked (eqb (rank R.stage) 0 && (array_fits a b && caps_admitted o d e)) _ R' q in
    omega (arith, eqb→eq (rank R.stage) 0 (and_left (eqb (rank R.stage) 0) (array_fits a b && caps_admitted o d e) t))
none-stands R text at k x y z (f, h) (group_line g r c d v) R' rest q p =
    let (t, i) = asked (in_turn R g r c d && names R.job g r c d v) _ R' q in
    let u : T (names R.job g r c d v) = and_right (in_turn R g r c d) (names R.job g r c d v) t in
    let (a, b, s) = names-inside R.job g r c d v u in
    f g r c d v rest (names-says R.job g r c d v u) (omega arith) (omega arith) (names-small R.job g r c d v z u) p
none-stands R text at k x y z (f, h) end_line R' rest q p = h rest p

-- the code's tests are those of the definitions
module _ {R : Reader} {k : Cursor} {h : Heading} {chosen : List ℕ} (w : Follows R k h chosen) (a : h.array.rows ≤ 40) (b : h.array.columns ≤ 40)
    (m : h.capacities.orthogonal ≤ 8) where
  abbrev bit : ℕ → ℕ → Bool
  bit r c = eqb (get_or chosen (40 * r + c) 0) 1

  begun : 1 ≤ rank R.stage
  begun = by k.group w.stage
    where
      by : (g : CodeOption CodeGroup) → stage_of g ≡ R.stage → 1 ≤ rank R.stage
      by None e = omega (arith, ap rank e)
      by (Some g) e = omega (arith, ap rank e, (rank-group (text_group g)).0)

  pub going : rank R.stage < 7
  going = by k.group w.stage
    where
      by : (g : CodeOption CodeGroup) → stage_of g ≡ R.stage → rank R.stage < 7
      by None e = omega (arith, ap rank e)
      by (Some g) e = omega (arith, ap rank e, (rank-group (text_group g)).1)

  turn-same : (g : Group) (r c d : ℕ) → turn_fits (rank (stage_of k.group)) k.from (rank (within g)) (key_of r c d) ≡ in_turn R g r c d
  turn-same g r c d =
      (λ i. turn_fits (rank (w.stage i)) (w.from i) (rank (within g)) (key_of r c d))
      ∙ sym (ap (λ (b : Bool). b && turn_fits (rank R.stage) R.from (rank (within g)) (key_of r c d)) (le-leb 1 (rank R.stage) begun))

  names_same : (g : Group) (r c d v : ℕ) → T (says g d v) → names_fit h (bit r c) g r c d v ≡ names R.job g r c d v
  names_same g r c d v told = by g told
    where
      kept : (a x y : Bool) → (T a → x ≡ y) → (a && not x) ≡ (a && not y)
      kept true x y e = ap not (e tt)
      kept false x y e = refl

      pin : (ltb r h.array.rows && ltb c h.array.columns) ≡ is_pin R.job r c
      pin = λ i. ltb r (sym w.high i) && ltb c (sym w.wide i)

      tile : (ltb (suc r) h.array.rows && ltb (suc c) h.array.columns) ≡ is_tile R.job r c
      tile = λ i. ltb (suc r) (sym w.high i) && ltb (suc c) (sym w.wide i)

      inside : T (is_pin R.job r c) → bit r c ≡ eqb (R.job.mark r c) 1
      inside t =
          let (x, y, z) = names-inside R.job chosen_pins r c 0 1 (and_both (is_pin R.job r c) true t tt) in
          w.marks r c (omega (arith, w.high)) (omega (arith, w.wide))

      by : (g : Group) → T (says g d v) → names_fit h (bit r c) g r c d v ≡ names R.job g r c d v
      by chosen_pins t = pin ∙ and-more (is_pin R.job r c) (says chosen_pins d v) t
      by missing_pins t =
          ap (λ (x : Bool). x && not (bit r c)) pin
          ∙ (kept (is_pin R.job r c) (bit r c) (eqb (R.job.mark r c) 1) inside
          ∙ and-more (is_pin R.job r c && not (eqb (R.job.mark r c) 1)) (says missing_pins d v) t)
      by closed_tiles t = tile ∙ and-more (is_tile R.job r c) (says closed_tiles d v) t
      by own_ds t =
          (λ i. tile i && (in_range (sym w.most i) (2 * sym w.most i) v && not (eqb v (sym w.usual i))))
          ∙ and-more (is_tile R.job r c && is_own_d R.job v) (says own_ds d v) t
      by laid_sides t =
          (λ i. tile i && (writes_side r c d && leb v (sym w.most i)))
          ∙ and-more (is_tile R.job r c && (writes_side r c d && leb v R.job.O)) (says laid_sides d v) t

  -- a line of a group at the cursor
  module _ (text : List ℕ) (at : ℕ) (e : Entry) (next : ℕ) (is : LineIs text at (Tells e) next) where
    abbrev g : Group
    g = text_group e.group

    turn_is : {x : Bool} → turn_fits (rank (stage_of k.group)) k.from (rank (within g)) (key_of e.row e.column e.side) ≡ x
        → in_turn R g e.row e.column e.side ≡ x
    turn_is t = sym (turn-same g e.row e.column e.side) ∙ t

    names-is : {x : Bool} → names_fit h (bit e.row e.column) g e.row e.column e.side e.value ≡ x → names R.job g e.row e.column e.side e.value ≡ x
    names-is u = sym (names_same g e.row e.column e.side e.value is.0.tells) ∙ u

    pub step-group : turn_fits (rank (stage_of k.group)) k.from (rank (within g)) (key_of e.row e.column e.side) ≡ true
        → names_fit h (bit e.row e.column) g e.row e.column e.side e.value ≡ true → LeadsOn text R at (Tells e) next
    unfolding admit
    step-group t u = (λ z. asking (turn_is t z && names-is u z) (after_group R g e.row e.column e.side e.value), is.1, is.2)

    pub step-out-of-turn : turn_fits (rank (stage_of k.group)) k.from (rank (within g)) (key_of e.row e.column e.side) ≡ false → Stepped text R at None
    unfolding admit
    step-out-of-turn t =
        line_refused R (drop at text) (entry_line e) (drop next text) is.0.tells is.2
        (λ z. asking (turn_is t z && names R.job g e.row e.column e.side e.value) (after_group R g e.row e.column e.side e.value))

    pub step-unnamed : names_fit h (bit e.row e.column) g e.row e.column e.side e.value ≡ false → Stepped text R at None
    unfolding admit
    step-unnamed u =
        line_refused R (drop at text) (entry_line e) (drop next text) is.0.tells is.2
        ((λ z. asking (in_turn R g e.row e.column e.side && names-is u z) (after_group R g e.row e.column e.side e.value))
        ∙ ap (λ (b : Bool). asking b (after_group R g e.row e.column e.side e.value)) (and-false (in_turn R g e.row e.column e.side)))

  -- the end line at the cursor
  pub step_end : (text : List ℕ) (at next : ℕ) → LineIs text at End next → LeadsOn text R at End next
  unfolding admit
  step_end text at next (l, q) = (λ z. asking (le-leb 1 (rank R.stage) begun z && lt-ltb (rank R.stage) 7 going z) (after_end R), l, q)

  -- no line of a group and no end line at the cursor
  pub step-wrong : (text : List ℕ) (at : ℕ) → LineAt text at None → Stepped text R at None
  step-wrong text at f = none-stands R text at begun (omega (arith, w.high)) (omega (arith, w.wide)) (omega (arith, w.most)) f
