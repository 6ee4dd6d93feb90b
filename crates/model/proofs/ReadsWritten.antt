-- Document 01, "Job text": the text of a proper job is read, as that job. The reader goes through the cells of each group in their turn; the values it has
-- are those of the job up to there, so at the end it has the job. Assumes nothing.
use mathlib.Core.Path.{◌≡◌, refl, sym, ap, subst, subst₂, ◌∙◌}
use mathlib.Core.Logic.{◌≢◌, ◌⊎◌, inl, inr}
use mathlib.Core.Bool.{Bool, true, false, not, ◌&&◌}
use mathlib.Core.List.{List, [], ◌∷◌, ◌++◌, append_assoc, append-nil}
use mathlib.Core.Option.{some}
use Prim.Native.Nat.{ℕ, zero, suc, ◌+◌, ◌*◌, ◌≤◌, ◌<◌}
use native.Mathlib.Omega.{arith}
use lib.Dec.{T, not_T, eqb, leb, ltb, eqb→eq, eqb_refl, le→leb, lt→ltb, ltb→lt}
use lib.ListN.{length, length-append}
use Rattle.sums.specs.Counting.{when, each}
use Rattle.sums.specs.Tests.{Same, same, other, same?, below_or, and_left, and_right, and_both}
use Rattle.model.specs.Job.{Job, in_range, array_fits, caps_admitted, fresh, is_pin, is_tile, is_own_d, is_chosen, is_missing, is_closed, Proper, caps_fit}
use Rattle.model.specs.Text.{Group, chosen_pins, missing_pins, closed_tiles, own_ds, laid_sides, groups, Line, array_line, group_line, end_line, says, line_bytes}
use Rattle.model.specs.Text.{after_array}
use Rattle.model.specs.Text.{finished, within, rank, key_of, Reader, start, asking, in_turn, writes_side, names, named, admit, Verdict, reads, Reads, ended, line}
use Rattle.model.specs.Text.{Reading, value_at, value_line, group_text, listed, text_of}
use Rattle.model.proofs.Own.{own-written, value-own}
use Rattle.model.proofs.Sides.{value-most}
use Rattle.model.proofs.TextProper.{fresh-proper, named-proper}
use Rattle.model.proofs.TextNames.{turn, due, rank-group, turn-same, Ranked, groups-ranked, when-so, when-not, when-some, zero-so, names-inside}
use Rattle.model.proofs.TextNames.{side-written, value-inside, value_line_lem, proper-size, fresh-none, named_here, named-else, Alike, named-alike, job-known}

-- ---- reading on

-- the bytes X take the reader R to R'
abbrev Accepts : Reader → List ℕ → Reader → Type 0
Accepts R X R' = (o : ℕ) (rest : List ℕ) (v : Verdict) → Reads R' (o + length X) rest v → Reads R o (X ++ rest) v

-- to one for which P holds
record Leads (R : Reader) (X : List ℕ) (P : Reader → Type 0) : Type 0 where
  to : Reader
  accepts : Accepts R X to
  there : P to

leads-none : {R : Reader} {P : Reader → Type 0} → P R → Leads R [] P
leads-none {R} p = record { to = R; accepts = λ o rest v r. subst (λ (n : ℕ). Reads R n rest v) (omega arith) r; there = p }

leads-line : {R : Reader} {P : Reader → Type 0} (l : Line) (S : Reader) → admit R l ≡ some S → P S → Leads R (line_bytes l) P
leads-line l S e p = record { to = S; accepts = λ o rest v r. line l S rest e refl r; there = p }

leads-append : {R : Reader} {X Y : List ℕ} {P Q : Reader → Type 0} → Leads R X P → ((S : Reader) → P S → Leads S Y Q) → Leads R (X ++ Y) Q
leads-append {R} {X} {Y} {P} {Q} a f =
    let b : Leads a.to Y Q = f a.to a.there in
    record {
      to = b.to;
      accepts = λ o rest v r.
          subst (λ (Z : List ℕ). Reads R o Z v) (sym (append_assoc X Y rest))
          (a.accepts o (Y ++ rest) v (b.accepts (o + length X) rest v
          (subst (λ (n : ℕ). Reads b.to n rest v) (omega (arith, length-append X Y)) r)));
      there = b.there;
    }

leads-then : {R : Reader} {X : List ℕ} {P Q : Reader → Type 0} → Leads R X P → ((S : Reader) → P S → Q S) → Leads R X Q
leads-then a f = record { to = a.to; accepts = a.accepts; there = f a.to a.there }

leads-each : {f : ℕ → List ℕ} (n : ℕ) (Q : ℕ → Reader → Type 0) → ((i : ℕ) → i < n → (R : Reader) → Q i R → Leads R (f i) (Q (suc i)))
    → (R : Reader) → Q 0 R → Leads R (each n f) (Q n)
unfolding each
leads-each zero Q s R q = leads-none q
leads-each (suc n) Q s R q = leads-append (leads-each n Q (λ i l. s i (omega arith)) R q) (s n (omega arith))

-- ---- the reader in the midst of the job

before : (t p n : ℕ) → t < p → when (ltb t p) n ≡ n
before t p n l = when-so (ltb t p) n (lt→ltb t p l)

behind : (t p n : ℕ) → p ≤ t → when (ltb t p) n ≡ 0
behind t p n l = when-not (ltb t p) n (λ u. omega (arith, ltb→lt t p u))

-- a later bound, with nothing between
before_more : (t p q n : ℕ) → p ≤ q → (p ≤ t → t < q → n ≡ 0) → when (ltb t p) n ≡ when (ltb t q) n
before_more t p q n l z = by (below_or t p) (below_or t q)
  where
    by : (t < p) ⊎ (p ≤ t) → (t < q) ⊎ (q ≤ t) → when (ltb t p) n ≡ when (ltb t q) n
    by (inl a) b = before t p n a ∙ sym (before t q n (omega arith))
    by (inr a) (inl b) = behind t p n a ∙ sym (before t q n b ∙ z a b)
    by (inr a) (inr b) = behind t p n a ∙ sym (behind t q n b)

-- numbers that are equal wherever one is not 0
equal-some : (n m : ℕ) → (0 < n → n ≡ m) → (0 < m → n ≡ m) → n ≡ m
equal-some zero zero f g = refl
equal-some zero (suc m) f g = g (omega arith)
equal-some (suc n) m f g = f (omega arith)

-- the job read so far has the values of J before the turn p
record Partly (J : Job) (p : ℕ) (R : Reader) : Type 0 where
  stage : (1 ≤ rank R.stage) × (rank R.stage ≤ 6)
  next : due R ≤ p
  proper : Proper R.job
  alike : Alike R.job J
  agree : (h : Group) (i j e : ℕ) → value_at R.job h i j e ≡ when (ltb (turn h i j e) p) (value_at J h i j e)

partly-before : (J : Job) (p : ℕ) (R : Reader) → Partly J p R → (h : Group) (i j e : ℕ) → 0 < value_at R.job h i j e
    → (turn h i j e < p) × (value_at R.job h i j e ≡ value_at J h i j e)
partly-before J p R s h i j e l =
    let t : turn h i j e < p = ltb→lt (turn h i j e) p (when-some (ltb (turn h i j e) p) (value_at J h i j e) (omega (arith, s.agree h i j e))) in
    (t, s.agree h i j e ∙ before (turn h i j e) p (value_at J h i j e) t)

-- nothing has a value from p to q
partly-skip : (J : Job) (p q : ℕ) (R : Reader) → Partly J p R → p ≤ q
    → ((h : Group) (i j e : ℕ) → 0 < value_at J h i j e → p ≤ turn h i j e → turn h i j e < q → ⊥) → Partly J q R
partly-skip J p q R s l none_here =
    record {
      stage = s.stage;
      next = omega (arith, s.next);
      proper = s.proper;
      alike = s.alike;
      agree = λ h i j e.
          s.agree h i j e
          ∙ before_more (turn h i j e) p q (value_at J h i j e) l
          (λ a b. zero-so (value_at J h i j e) (λ k. none_here h i j e k a b));
    }

-- ---- a line that the job writes may stand

-- what the word says of an entry that is told
told : (d n : ℕ) (b : Bool) → 0 < when (eqb d 0 && b) n → T (eqb d 0 && eqb (when (eqb d 0 && b) n) n)
told d n b l =
    let t : T (eqb d 0 && b) = when-some (eqb d 0 && b) n l in
    and_both (eqb d 0) (eqb (when (eqb d 0 && b) n) n) (and_left (eqb d 0) b t)
    (subst (λ (m : ℕ). T (eqb m n)) (sym (when-so (eqb d 0 && b) n t)) (eqb_refl n))

may-name : (J K : Job) → Proper J → Alike K J → ((h : Group) (i j e : ℕ) → 0 < value_at K h i j e → value_at K h i j e ≡ value_at J h i j e)
    → (g : Group) (r c d : ℕ) → 0 < value_at J g r c d → T (names K g r c d (value_at J g r c d))
unfolding is_chosen is_missing is_closed
may-name J K p a f chosen_pins r c d l =
    let t : T (is_chosen J r c) = and_right (eqb d 0) (is_chosen J r c) (when-some (eqb d 0 && is_chosen J r c) 1 l) in
    and_both (is_pin K r c) (says chosen_pins d (value_at J chosen_pins r c d))
    (subst₂ (λ (n m : ℕ). T (ltb r n && ltb c m)) (sym a.rows) (sym a.columns) (and_left (is_pin J r c) (eqb (J.mark r c) 1) t))
    (told d 1 (is_chosen J r c) l)
may-name J K p a f missing_pins r c d l =
    let t : T (is_missing J r c) = and_right (eqb d 0) (is_missing J r c) (when-some (eqb d 0 && is_missing J r c) 2 l) in
    let two : J.mark r c ≡ 2 = eqb→eq (J.mark r c) 2 (and_right (is_pin J r c) (eqb (J.mark r c) 2) t) in
    let pin : T (is_pin K r c) =
    subst₂ (λ (n m : ℕ). T (ltb r n && ltb c m)) (sym a.rows) (sym a.columns) (and_left (is_pin J r c) (eqb (J.mark r c) 2) t) in
    let chosen : T (eqb (K.mark r c) 1) → T (is_chosen J r c) =
    λ u. let one : value_at K chosen_pins r c 0 ≡ 1 = when-so (is_pin K r c && eqb (K.mark r c) 1) 1 (and_both (is_pin K r c) (eqb (K.mark r c) 1) pin u) in
    when-some (is_chosen J r c) 1 (omega (arith, one, f chosen_pins r c 0 (omega arith))) in
    let unchosen : Bool = not (eqb (K.mark r c) 1) in
    and_both (is_pin K r c && unchosen) (says missing_pins d (value_at J missing_pins r c d))
    (and_both (is_pin K r c) unchosen pin (not_T (eqb (K.mark r c) 1) (λ u.
    absurd (omega (arith, two, eqb→eq (J.mark r c) 1 (and_right (is_pin J r c) (eqb (J.mark r c) 1) (chosen u)))))))
    (told d 2 (is_missing J r c) l)
may-name J K p a f closed_tiles r c d l =
    let t : T (is_closed J r c) = and_right (eqb d 0) (is_closed J r c) (when-some (eqb d 0 && is_closed J r c) 1 l) in
    and_both (is_tile K r c) (says closed_tiles d (value_at J closed_tiles r c d))
    (subst₂ (λ (n m : ℕ). T (ltb (suc r) n && ltb (suc c) m)) (sym a.rows) (sym a.columns) (and_left (is_tile J r c) (eqb (J.state r c) 1) t))
    (told d 1 (is_closed J r c) l)
may-name J K p a f own_ds r c d l =
    let (z, t) = own-written J r c d l in
    let v : ℕ = value_at J own_ds r c d in
    let tile : T (is_tile K r c) = subst₂ (λ (n m : ℕ). T (ltb (suc r) n && ltb (suc c) m)) (sym a.rows) (sym a.columns) t in
    let own : T (is_own_d K v) =
    subst₂ (λ (o d : ℕ). T (in_range o (2 * o) v && not (eqb v d))) (sym a.O) (sym a.D) (value-own J p r c d l) in
    and_both (is_tile K r c && is_own_d K v) (says own_ds d v) (and_both (is_tile K r c) (is_own_d K v) tile own)
    (and_both (eqb d 0) (ltb 0 v) z (lt→ltb 0 v l))
may-name J K p a f laid_sides r c d l =
    let (ld, t, w) = side-written J r c d l in
    let v : ℕ = value_at J laid_sides r c d in
    let tile : T (is_tile K r c) = subst₂ (λ (n m : ℕ). T (ltb (suc r) n && ltb (suc c) m)) (sym a.rows) (sym a.columns) t in
    let most : T (leb v K.O) = subst (λ (n : ℕ). T (leb v n)) (sym a.O) (value-most J p r c d) in
    and_both (is_tile K r c && (writes_side r c d && leb v K.O)) (says laid_sides d v)
    (and_both (is_tile K r c) _ tile (and_both (writes_side r c d) (leb v K.O) w most))
    (and_both (ltb d 4) (ltb 0 v) (lt→ltb d 4 ld) (lt→ltb 0 v l))

in-turn : (R : Reader) (g : Group) (r c d : ℕ) → 1 ≤ rank R.stage → due R ≤ turn g r c d → r < 40 → c < 40 → d < 4 → T (in_turn R g r c d)
in-turn R g r c d a l lr lc ld =
    let n : ℕ = rank R.stage in
    let m : ℕ = rank (within g) in
    and_both (leb 1 n) _ (le→leb 1 n a)
    (and_both (leb n m) _ (le→leb n m (omega arith)) (le→leb (when (eqb n m) R.from) (key_of r c d) (by (eqb n m) (same? n m))))
  where
    by : (b : Bool) → Same (rank R.stage) (rank (within g)) b → when b R.from ≤ key_of r c d
    by true (same e) = omega arith
    by false (other e) = omega arith

asking-so : (b : Bool) (R : Reader) → T b → asking b R ≡ some R
asking-so true R t = refl
asking-so false R t = absurd t

-- ---- cell by cell

module _ (J : Job) (proper : Proper J) where
  -- what has a value lies below 40 by 40
  small : (h : Group) (i j e : ℕ) → 0 < value_at J h i j e → (i < 40) × (j < 40) × (e < 4)
  small h i j e l =
      let (a, b, d) = value-inside J h i j e l in
      let (n, m) = proper-size J proper in
      omega arith

  module _ (g : Group) (r c d : ℕ) (here : 0 < value_at J g r c d) where
    abbrev value : ℕ
    value = value_at J g r c d

    after : Reader → Reader
    after R = record { stage = within g; from = key_of r c d + 1; job = named R.job g r c d value }

    line-agrees : (R : Reader) → Partly J (turn g r c d) R → T (names R.job g r c d value) → (h : Group) (i j e : ℕ)
        → value_at (named R.job g r c d value) h i j e ≡ when (ltb (turn h i j e) (turn g r c (suc d))) (value_at J h i j e)
    line-agrees R s may h i j e = by (eqb (turn h i j e) (turn g r c d)) (same? (turn h i j e) (turn g r c d))
      where
        others : turn h i j e ≢ turn g r c d → value_at (named R.job g r c d value) h i j e ≡ value_at R.job h i j e
        others =
            named-else R.job g r c d value may
            (λ k x l p. omega (arith, l, (partly-before J (turn g r c d) R s k r c x p).0, (names-inside R.job g r c d value may).2)) h i j e

        moved : (i < 40) × (j < 40) × (e < 4) → turn h i j e ≡ turn g r c d → value_at (named R.job g r c d value) h i j e ≡ value_at J h i j e
        moved l q =
            let (x, y, z, w) = turn-same h g i j e r c d l (small g r c d here) q in
            (λ t. value_at (named R.job g r c d value) (x t) (y t) (z t) (w t))
            ∙ (named_here R.job g r c d value may ∙ sym (λ t. value_at J (x t) (y t) (z t) (w t)))

        inside : 0 < value_at (named R.job g r c d value) h i j e → (i < 40) × (j < 40) × (e < 4)
        inside l =
            let (a, b, x) = value-inside (named R.job g r c d value) h i j e l in
            let (n, m) = proper-size (named R.job g r c d value) (named-proper R.job g r c d value s.proper may) in
            omega arith

        by : (b : Bool) → Same (turn h i j e) (turn g r c d) b → value_at (named R.job g r c d value) h i j e ≡ when (ltb (turn h i j e) (turn g r c (suc d))) (value_at J h i j e)
        by true (same q) =
            equal-some (value_at (named R.job g r c d value) h i j e) (value_at J h i j e) (λ l. moved (inside l) q) (λ l. moved (small h i j e l) q)
            ∙ sym (before (turn h i j e) (turn g r c (suc d)) (value_at J h i j e) (omega arith))
        by false (other n) =
            others n
            ∙ (s.agree h i j e
            ∙ before_more (turn h i j e) (turn g r c d) (turn g r c (suc d)) (value_at J h i j e) (omega arith) (λ a b. absurd (n (omega arith))))

    partly-line : (R : Reader) → Partly J (turn g r c d) R → Leads R (line_bytes (group_line g r c d value)) (Partly J (turn g r c (suc d)))
    unfolding admit after
    partly-line R s =
        let (lr, lc, ld) = small g r c d here in
        let may : T (names R.job g r c d value) =
        may-name J R.job proper s.alike (λ h i j e l. (partly-before J (turn g r c d) R s h i j e l).1) g r c d here in
        let turns : T (in_turn R g r c d) = in-turn R g r c d s.stage.0 s.next lr lc ld in
        leads-line (group_line g r c d value) (after R)
        (asking-so (in_turn R g r c d && names R.job g r c d value) (after R) (and_both (in_turn R g r c d) _ turns may))
        (record {
          stage = omega (arith, (rank-group g).0, (rank-group g).1);
          next = omega arith;
          proper = named-proper R.job g r c d value s.proper may;
          alike = named-alike R.job J g r c d value s.alike;
          agree = line-agrees R s may;
        })

  partly-side : (g : Group) (r c d : ℕ) → r < J.rows → c < J.columns → d < 4 → (R : Reader) → Partly J (turn g r c d) R
      → Leads R (value_line g r c d (value_at J g r c d)) (Partly J (turn g r c (suc d)))
  partly-side g r c d lr lc ld R s = by (value_at J g r c d) refl
    where
      by : (n : ℕ) → value_at J g r c d ≡ n → Leads R (value_line g r c d n) (Partly J (turn g r c (suc d)))
      by zero e =
          let (n, m) = proper-size J proper in
          leads-none (partly-skip J (turn g r c d) (turn g r c (suc d)) R s (omega arith) (λ h i j k l a b.
          let (x, y, z, w) = turn-same h g i j k r c d (small h i j k l) (omega arith) (omega arith) in
          let q : value_at J h i j k ≡ value_at J g r c d = λ t. value_at J (x t) (y t) (z t) (w t) in
          omega arith))
      by (suc n) e =
          let l : 0 < value_at J g r c d = omega arith in
          subst (λ (X : List ℕ). Leads R X (Partly J (turn g r c (suc d)))) (sym (value_line_lem g r c d (value_at J g r c d) l) ∙ ap (value_line g r c d) e)
          (partly-line g r c d l R s)

  partly-cell : (g : Group) (r c : ℕ) → r < J.rows → c < J.columns → (R : Reader) → Partly J (turn g r c 0) R
      → Leads R (each 4 (λ d. value_line g r c d (value_at J g r c d))) (Partly J (turn g r (suc c) 0))
  partly-cell g r c lr lc R s =
      leads-then (leads-each 4 (λ d. Partly J (turn g r c d)) (λ d ld. partly-side g r c d lr lc ld) R s)
      (λ S q. partly-skip J (turn g r c 4) (turn g r (suc c) 0) S q (omega arith) (λ h i j e l a b. omega arith))

  partly-row : (g : Group) (r : ℕ) → r < J.rows → (R : Reader) → Partly J (turn g r 0 0) R
      → Leads R (each J.columns (λ c. each 4 (λ d. value_line g r c d (value_at J g r c d)))) (Partly J (turn g (suc r) 0 0))
  partly-row g r lr R s =
      let (n, m) = proper-size J proper in
      leads-then (leads-each J.columns (λ c. Partly J (turn g r c 0)) (λ c lc. partly-cell g r c lr lc) R s)
      (λ S q. partly-skip J (turn g r J.columns 0) (turn g (suc r) 0 0) S q (omega arith) (λ h i j e l a b.
      let (li, lj, le) = value-inside J h i j e l in
      let x : rank (within h) ≡ rank (within g) = omega arith in
      let y : i ≡ r = omega arith in
      omega arith))

  partly-group : (g : Group) (R : Reader) → Partly J (turn g 0 0 0) R → Leads R (group_text J g) (Partly J (turn g 40 0 0))
  partly-group g R s =
      let (n, m) = proper-size J proper in
      leads-then (leads-each J.rows (λ r. Partly J (turn g r 0 0)) (λ r lr. partly-row g r lr) R s)
      (λ S q. partly-skip J (turn g J.rows 0 0) (turn g 40 0 0) S q (omega arith) (λ h i j e l a b.
      let (li, lj, le) = value-inside J h i j e l in
      let x : rank (within h) ≡ rank (within g) = omega arith in
      omega arith))

  -- ---- the whole text

  -- after the array line
  plain : Reader
  plain = record { stage = after_array; from = 0; job = fresh J.rows J.columns J.O J.D J.E }

  partly-array : T (leb J.E J.D) → Leads start (line_bytes (array_line J.rows J.columns J.O J.D J.E)) (Partly J (6400 * 2))
  unfolding admit plain
  partly-array admitted =
      leads-line (array_line J.rows J.columns J.O J.D J.E) plain
      (asking-so (array_fits J.rows J.columns && caps_admitted J.O J.D J.E) plain
      (and_both (array_fits J.rows J.columns) _ proper.array (and_both (caps_fit J.O J.D J.E) _ proper.caps admitted)))
      (record {
        stage = omega arith;
        next = omega arith;
        proper = fresh-proper J.rows J.columns J.O J.D J.E proper.array proper.caps;
        alike = record { rows = refl; columns = refl; O = refl; D = refl; E = refl };
        agree = λ h i j e.
            fresh-none J.rows J.columns J.O J.D J.E h i j e
            ∙ sym (behind (turn h i j e) (6400 * 2) (value_at J h i j e) (omega (arith, (rank-group h).0)));
      })

  -- the end is reached with the job
  Done : Reader → Type 0
  Done R = (R.stage ≡ finished) × (R.job ≡ J)

  partly-end : (R : Reader) → Partly J (6400 * 7) R → Leads R (line_bytes end_line) Done
  unfolding admit Done
  partly-end R s =
      let S : Reader = record { stage = finished; from = 0; job = R.job } in
      leads-line end_line S
      (asking-so (leb 1 (rank R.stage) && ltb (rank R.stage) 7) S
      (and_both (leb 1 (rank R.stage)) _ (le→leb 1 (rank R.stage) s.stage.0) (lt→ltb (rank R.stage) 7 (omega (arith, s.stage.1))))) (
        refl,
        job-known R.job J s.proper proper s.alike (λ h i j e.
            s.agree h i j e
            ∙ equal-some (when (ltb (turn h i j e) (6400 * 7)) (value_at J h i j e)) (value_at J h i j e)
            (λ l. before (turn h i j e) (6400 * 7) (value_at J h i j e) (ltb→lt _ _ (when-some (ltb (turn h i j e) (6400 * 7)) (value_at J h i j e) l)))
            (λ l. let (li, lj, le) = small h i j e l in
            before (turn h i j e) (6400 * 7) (value_at J h i j e) (omega (arith, (rank-group h).1)))),
      )

  -- the groups from one rank on, and the end
  partly-groups : (n : ℕ) (l : List Group) → Ranked n l → n + length l ≡ 7 → (R : Reader) → Partly J (6400 * n) R
      → Leads R (listed (group_text J) l (line_bytes end_line)) Done
  partly-groups n [] q e R s =
      let i : n ≡ 7 = omega arith in
      partly-end R (subst (λ (m : ℕ). Partly J (6400 * m) R) i s)
  partly-groups n (g ∷ l) (q, k) e R s =
      let i : 6400 * n ≡ turn g 0 0 0 = omega arith in
      let j : turn g 40 0 0 ≡ 6400 * suc n = omega arith in
      leads-append (partly-group g R (subst (λ (m : ℕ). Partly J m R) i s))
      (λ S t. partly-groups (suc n) l k (omega arith) S (subst (λ (m : ℕ). Partly J m S) j t))

  reads-text : T (leb J.E J.D) → Leads start (text_of J) Done
  unfolding text_of
  reads-text admitted = leads-append (partly-array admitted) (partly-groups 2 groups groups-ranked refl)

pub reads-written : (J : Job) → Proper J → J.E ≤ J.D → Reading (text_of J) (reads J)
unfolding Done
reads-written J proper small =
    let a : Leads start (text_of J) (Done J proper) = reads-text J proper (le→leb J.E J.D small) in
    subst (λ (X : List ℕ). Reading X (reads J)) (append-nil (text_of J))
    (a.accepts 0 [] (reads J) (subst (λ (K : Job). Reads a.to (0 + length (text_of J)) [] (reads K)) a.there.1 (ended a.there.0 refl)))
