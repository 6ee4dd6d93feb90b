-- Pins passed one after the other, and one line after the other, from the rim inwards: when all rows are passed, no wire more can start anywhere. And what a caller reads off the
-- answers of the search for the next wire. Assumes nothing.
use Rattle.std.specs.Prelude.{Option, Some, None, ◌≡◌, refl, ◌≢◌, ◌⊎◌, Bool, true, false, List, ℕ, ◌+◌, ◌-◌, ◌*◌, ◌/◌, ◌%◌, ◌≤◌, ◌<◌, T, eqb, ltb, length}
use Rattle.std.proofs.Common.{sym, ap, subst, ◌∙◌, inl, inr, ⊎_elim, eq-or-lt_of_le, arith, ltb→lt}
use Rattle.sums.specs.Tests.{below_or, and_left, and_right}
use Rattle.model.specs.Job.{Job, in_range, array_fits, is_pin, is_chosen}
use Rattle.model.specs.Links.{pin, at}
use Rattle.model.specs.Near.{exit}
use Rattle.model.proofs.RecordOf.{range-most}
use Rattle.channel.specs.Map.{spots, want}
use Rattle.channel.specs.Map.Starts.{wanted-pin}
use Rattle.augment.specs.OneMore.{OneMore}
use Rattle.augment.specs.Marks.{marked}
use Rattle.augment.specs.Steps.{Whole}
use Rattle.augment.specs.Pins.{Held, Dead, Unwired, Passed, Tested, wired, shut, inward, inward-even, inward-odd, spot_on, spot-level, OnLine, row, Nth, InRows, AnySpot, LaidAt, Answered}
use Rattle.augment.specs.declared.next.Line.{Line}

-- ---- one after the other

pub passed_none : {J : Job} {P : ℕ → Type 0} {rec t : List ℕ} → Dead J rec t → ((u : ℕ) → P u → ⊥) → Passed J P rec t t
passed_none D n = record { dead = D; grown = λ x m. m; shut = λ u p. absurd (n u p); reached = λ r. r }

passed_then : {J : Job} {P Q R : ℕ → Type 0} {rec t t₁ t₂ : List ℕ} → Passed J P rec t t₁ → Passed J Q rec t₁ t₂ → ((u : ℕ) → R u → P u ⊎ Q u)
    → Passed J R rec t t₂
passed_then p q f =
    record {
      dead = q.dead;
      grown = λ x m. q.grown x (p.grown x m);
      shut = λ u r h. ⊎_elim (λ a. q.grown u (p.shut u a h)) (λ b. q.shut u b h) (f u r);
      reached = λ r. q.reached (p.reached r);
    }

last_or : (i m : ℕ) → i < m + 1 → (i ≡ m) ⊎ (i < m)
last_or i m l = eq-or-lt_of_le (omega arith)

-- of the first pins of a line the last, or one before it
pub line-last : {l : Line} {m u x : ℕ} → OnLine l (m + 1) x → u ≡ spot_on l (inward m l.pins) → OnLine l m x ⊎ (x ≡ u)
line-last {l} {m} w q =
    ⊎_elim
    (λ i. inr (w.spot ∙ ap (λ (c : ℕ). spot_on l (inward c l.pins)) i ∙ sym q))
    (λ h. inl (record { turn = w.turn; early = h; spot = w.spot }))
    (last_or w.turn m w.early)

-- of the rows among the first lines the last line, or one before it
pub rows_last : {J : Job} {l : Line} {a m x : ℕ} → Nth J m l → InRows J a (m + 1) x → InRows J a m x ⊎ OnLine l l.pins x
rows_last {m = m} {x = x} n w =
    ⊎_elim
    (λ i. inr (subst (λ (y : Line). OnLine y y.pins x) (sym (n.even w.turn (sym i))) w.there))
    (λ h. inl (record { turn = w.turn; late = w.late; early = h; there = w.there }))
    (last_or (2 * w.turn) m w.early)

-- one pin more of a line
pub passed-line : {J : Job} {rec t t₁ t₂ : List ℕ} {l : Line} {m u : ℕ} → Passed J (OnLine l m) rec t t₁ → u ≡ spot_on l (inward m l.pins)
    → Passed J (λ x. x ≡ u) rec t₁ t₂ → Passed J (OnLine l (m + 1)) rec t t₂
passed-line p q s = passed_then p s (λ x w. line-last w q)

-- one line more
pub passed_lines : {J : Job} {rec t t₁ t₂ : List ℕ} {l : Line} {a m : ℕ} → Passed J (InRows J a m) rec t t₁ → Nth J m l
    → Passed J (OnLine l l.pins) rec t₁ t₂ → Passed J (InRows J a (m + 1)) rec t t₂
passed_lines p n s = passed_then p s (λ x w. rows_last n w)

-- ---- the order of rows and columns

-- every number below n has its turn
inward-all : (n x : ℕ) → x < n → (i : ℕ) × (i < n) × (inward i n ≡ x)
inward-all n x l = ⊎_elim first second (below_or (x + x) n)
  where
    first : x + x < n → (i : ℕ) × (i < n) × (inward i n ≡ x)
    first h = (2 * x, omega arith, sym (inward-even (2 * x) n (omega arith)) ∙ omega arith)

    second : n ≤ x + x → (i : ℕ) × (i < n) × (inward i n ≡ x)
    second h = (2 * (n - 1 - x) + 1, omega arith, sym (inward-odd (2 * (n - 1 - x) + 1) n (λ e. omega arith)) ∙ omega arith)

-- an array has at most 40 rows and 40 columns
pub array_size : (J : Job) → T (array_fits J.rows J.columns) → (J.rows ≤ 40) × (J.columns ≤ 40)
array_size J t =
    let a = in_range 2 40 J.rows in
    let b = in_range 2 40 J.columns in
    (range-most 2 40 J.rows (and_left a b t), range-most 2 40 J.columns (and_right a b t))

-- a row at its turn, a column at its own, and no pins
module _ (J : Job) (i : ℕ) {n m : ℕ} (t : T (array_fits J.rows J.columns)) (en : n ≡ J.rows) (em : m ≡ J.columns) where
  pub nth-row : (x : ℕ) → x ≡ inward (i / 2) n → x < n → Nth J i (record { upright = false; number = x; pins = m })
  nth-row x e l =
      record {
        number = omega (arith, (array_size J t).0);
        pins = omega (arith, (array_size J t).1);
        even = λ s q.
            ap (λ (y : ℕ). record { upright = false; number = y; pins = m }) (e ∙ ap (λ (k : ℕ). inward k n) (omega arith) ∙ ap (inward s) en)
            ∙ ap (λ (y : ℕ). record { upright = false; number = inward s J.rows; pins = y }) em;
      }

  pub nth-column : (x : ℕ) → i % 2 ≢ 0 → x < m → Nth J i (record { upright = true; number = x; pins = n })
  nth-column x o l = record { number = omega (arith, (array_size J t).1); pins = omega (arith, (array_size J t).0); even = λ s q. absurd (o (omega arith)) }

pub nth-none : (J : Job) (i : ℕ) → i % 2 ≢ 0 → Nth J i (record { upright = true; number = 0; pins = 0 })
nth-none J i o = record { number = omega arith; pins = omega arith; even = λ s q. absurd (o (omega arith)) }

-- a chosen pin lies within the rows and the columns
pub chosen-within : (J : Job) (r c : ℕ) → T (is_chosen J r c) → (r < J.rows) × (c < J.columns)
unfolding is_chosen
chosen-within J r c t =
    let p = and_left (is_pin J r c) (eqb (J.mark r c) 1) t in
    (ltb→lt r J.rows (and_left (ltb r J.rows) (ltb c J.columns) p), ltb→lt c J.columns (and_right (ltb r J.rows) (ltb c J.columns) p))

-- where a wire is wanted a pin of some row stands
pub wanted-in-rows : (J : Job) (u : ℕ) → 0 < want J u → InRows J 0 (2 * J.rows) u
wanted-in-rows J u h =
    let (r, c, t, e) = wanted-pin J u h in
    let (a, b) = chosen-within J r c t in
    let (i, li, ei) = inward-all J.rows r a in
    let (j, lj, ej) = inward-all J.columns c b in
    let q : u ≡ exit (at pin (inward i J.rows) (inward j J.columns)) = rw (ei, ej) e in
    record { turn = i; late = omega arith; early = omega arith; there = record { turn = j; early = lj; spot = q ∙ spot-level (row J i) _ refl } }

-- every row, those before a line last
pub passed-all : {J : Job} {rec t t₁ t' : List ℕ} {a : ℕ} → Passed J (InRows J a (2 * J.rows)) rec t t₁ → Passed J (InRows J 0 a) rec t₁ t' → Passed J AnySpot rec t t'
passed-all {J} {rec} {t} {t' = t'} {a = a} q s = record { dead = p.dead; grown = p.grown; shut = λ u l h. everywhere u h; reached = p.reached }
  where
    p : Passed J (InRows J 0 (2 * J.rows)) rec t t'
    p = passed_then q s
        (λ u w. ⊎_elim
        (λ l. inr (record { turn = w.turn; late = w.late; early = l; there = w.there }))
        (λ l. inl (record { turn = w.turn; late = l; early = w.early; there = w.there }))
        (below_or (2 * w.turn) a))

    everywhere : (u : ℕ) → Unwired J rec u → T (marked t' u)
    everywhere u h = p.shut u (wanted-in-rows J u (omega arith)) h

-- ---- what a caller reads off the answers

module _ {J : Job} {rec t : List ℕ} {u : ℕ} {rec' t' : List ℕ} {b : Bool} (r : Tested J rec t u rec' t' b) where
  pub tested-wired : b ≡ true → Unwired J rec u × OneMore J rec rec' u × Dead J rec' t'
  tested-wired e = by (subst (λ (x : Bool). Tested J rec t u rec' t' x) e r)
    where
      by : Tested J rec t u rec' t' true → Unwired J rec u × OneMore J rec rec' u × Dead J rec' t'
      by (wired h m d) = (h, m, d)

  pub tested-shut : b ≡ false → (rec' ≡ rec) × Passed J (λ x. x ≡ u) rec t t'
  tested-shut e = by (subst (λ (x : Bool). Tested J rec t u rec' t' x) e r)
    where
      by : Tested J rec t u rec' t' false → (rec' ≡ rec) × Passed J (λ x. x ≡ u) rec t t'
      by (shut q p) = (q, p)

-- the loads are still those of the beginning
module _ {rec rec₁ : List ℕ} (q : rec₁ ≡ rec) where
  pub whole-still : {job : List ℕ} → Whole job rec → Whole job rec₁
  whole-still o = record { asked = o.asked; loads = omega (arith, o.loads, ap length q) }

  pub held-still : {J : Job} → Held J rec → Held J rec₁
  held-still {J} = subst (λ (x : List ℕ). Held J x) (sym q)

  pub dead-still : {J : Job} (t : List ℕ) → Dead J rec t → Dead J rec₁ t
  dead-still {J} t = subst (λ (x : List ℕ). Dead J x t) (sym q)

  -- a pin was passed, or a wire laid from it
  pub tested-still : {J : Job} {t : List ℕ} {u : ℕ} {rec₂ t₂ : List ℕ} {b : Bool} → Tested J rec₁ t u rec₂ t₂ b → Tested J rec t u rec₂ t₂ b
  tested-still {J} {t} {u} {rec₂} {t₂} {b} = subst (λ (x : List ℕ). Tested J x t u rec₂ t₂ b) q

  pub passed-still : {J : Job} {P : ℕ → Type 0} {t t₂ : List ℕ} → Passed J P rec₁ t t₂ → Passed J P rec t t₂
  passed-still {J} {P} {t} {t₂} = subst (λ (x : List ℕ). Passed J P x t t₂) q

  pub laid-still : {J : Job} {rec₂ t₂ : List ℕ} {u : ℕ} → LaidAt J rec₁ rec₂ t₂ u → LaidAt J rec rec₂ t₂ u
  laid-still {J} {rec₂} {t₂} {u} = subst (λ (x : List ℕ). LaidAt J x rec₂ t₂ u) q

  -- and what was answered
  pub answered-still : (J : Job) (P : ℕ → Type 0) (t rec₂ t₂ : List ℕ) (y : Option ℕ) → Answered J P rec₁ t rec₂ t₂ y → Answered J P rec t rec₂ t₂ y
  answered-still J P t rec₂ t₂ y = subst (λ (x : List ℕ). Answered J P x t rec₂ t₂ y) q

-- a wire laid is one from any spot, whatever was marked before
pub laid_from : {J : Job} {rec t₁ rec₂ t₂ : List ℕ} {u : ℕ} {b : Bool} → Tested J rec t₁ u rec₂ t₂ b → b ≡ true → u < spots → LaidAt J rec rec₂ t₂ u
laid_from r e l = let (h, m, d) = tested-wired r e in record { spot = l; unwired = h; more = m; dead = d }

-- and one laid from a spot of P is one from any, whatever was marked before
pub laid-on-line : (J : Job) (P Q : ℕ → Type 0) (rec t t₁ rec₂ t₂ : List ℕ) (u : ℕ) (y : Option ℕ) → Answered J P rec t₁ rec₂ t₂ y → y ≡ Some u
    → Answered J Q rec t rec₂ t₂ (Some u)
laid-on-line J P Q rec t t₁ rec₂ t₂ u y r e = subst (λ (x : Option ℕ). Answered J P rec t₁ rec₂ t₂ x) e r

-- no line from a on has a pin with a way out; so the answer about those before it is one about all
pub answered-all : (J : Job) (rec rec₁ t t₁ rec₂ t₂ : List ℕ) {a n m : ℕ} (y : Option ℕ) → m ≡ J.rows → n ≡ 2 * m → (rec₁ ≡ rec) × Passed J (InRows J a n) rec t t₁
    → Answered J (InRows J 0 a) rec₁ t₁ rec₂ t₂ y → Answered J AnySpot rec t rec₂ t₂ y
answered-all J rec rec₁ t t₁ rec₂ t₂ (Some u) em en (q, p) r = laid-still q r
answered-all J rec rec₁ t t₁ rec₂ t₂ {a} {n} None em en (q, p) (e, s) =
    let w : n ≡ 2 * J.rows = omega (arith, em, en) in
    (e ∙ q, passed-all (rw w at p) (passed-still q s))
