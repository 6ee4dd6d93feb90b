-- Request K9: the pins of all wires that pass a missing pin, marked cell by cell, and the record after E is lowered. Assumes nothing.
use Rattle.std.specs.Prelude.{◌≡◌, ◌⊎◌, Bool, length}
use Rattle.std.proofs.Math.Path.{refl, ap, subst}
use Rattle.std.proofs.Common.{sym, ◌∙◌, inl, inr, add-one, eqb→eq}
use Rattle.std.proofs.Math.Bool.{true, false}
use mathlib.Core.List.Memᴰ
use mathlib.Core.List.{List, [], ◌∷◌, ◌++◌, Memᴰ}
use Prim.Native.Nat.{ℕ, zero, suc, ◌+◌, ◌*◌, ◌/◌, ◌%◌, ◌≤◌, ◌<◌}
use native.Mathlib.Omega.{arith}
use Rattle.std.proofs.Math.Dec.{T}
use Rattle.std.proofs.Math.ListN.{set}
use Rattle.sums.specs.Counting.{only, those}
use Rattle.sums.specs.Tests.{so, below_or, those-has}
use Rattle.model.specs.Job.{Job, with_extra, is_missing}
use Rattle.model.specs.Links.{PlaceKind, pin, missing, centre, outside, nowhere, side, Place, at, the_outside, holds, is_place, is_missing_kind, places, place_code, Step, head}
use Rattle.model.specs.Near.{exit_of, exit}
use Rattle.model.specs.Record.{record_size, job_of, load, Legal, record_of, over}
use Rattle.model.specs.Wires.{is_wired}
use Rattle.model.specs.Left.{missing_places, extra_left}
use Rattle.model.proofs.Listed.{place-listed}
use Rattle.channel.specs.Map.Places.{missing-cell}
use Rattle.channel.specs.Written.{extra-with}
use Rattle.wire.specs.Around.{step-lands}
use Rattle.wire.specs.Next.{hop-may}
use Rattle.wire.specs.Apart.{wire-loaded}
use Rattle.keep.specs.Edits.{Meets, starts, comes}
use Rattle.takeout.specs.Edited.{Marks, AddsAt, marks-place}
use Rattle.takeout.specs.Stored.{Unwired, unwired-avoids}

-- the missing pins of the first n cells
unfoldable pub missing_to : Job → ℕ → List Place
missing_to J zero = []
missing_to J (suc n) =
    elim (is_missing J (n / 40) (n % 40)) [ true ↦ at missing (n / 40) (n % 40) ∷ missing_to J n | false ↦ missing_to J n ]

-- what is listed passes the test
those-so : {A : Type 0} {x : A} (p : A → Bool) (l : List A) → Memᴰ x (those p l) → T (p x)
unfolding those
those-so p [] m = absurd (Memᴰ.not-nil m)
those-so {A} {x} p (y ∷ l) m = by (p y) refl m (those-so p l)
  where
    by : (b : Bool) → p y ≡ b → Memᴰ x (only b (y ∷ []) ++ those p l) → (Memᴰ x (those p l) → T (p x)) → T (p x)
    by true e (Memᴰ.head z) h = subst (λ (w : A). T (p w)) (sym z) (so e)
    by true e (Memᴰ.tail n) h = h n
    by false e n h = h n

module _ (was : List ℕ) (g : Legal was) where
  abbrev J : Job
  J = job_of was

  abbrev f : Step → ℕ
  f = load was

  -- ---- cell after cell

  one_more : (n : ℕ) (b : Bool) → is_missing J (n / 40) (n % 40) ≡ b
      → missing_to J (n + 1) ≡ elim b as (λ x. List Place) [ true ↦ at missing (n / 40) (n % 40) ∷ missing_to J n | false ↦ missing_to J n ]
  unfolding missing_to
  one_more n b e =
      ap (missing_to J) (add-one n)
      ∙ ap (λ (x : Bool). elim x as (λ y. List Place) [ true ↦ at missing (n / 40) (n % 40) ∷ missing_to J n | false ↦ missing_to J n ]) e

  pub missing-first : (a : List ℕ) → Marks was a [] → Marks was a (missing_to J 0)
  unfolding missing_to
  missing-first a M = M

  pub missing-more : (n u : ℕ) (a b : List ℕ) → is_missing J (n / 40) (n % 40) ≡ true → u ≡ exit (at pin (n / 40) (n % 40)) → AddsAt was u a b
      → Marks was a (missing_to J n) → Marks was b (missing_to J (n + 1))
  unfolding exit_of
  missing-more n u a b t e A M =
      let x : Place = at missing (n / 40) (n % 40) in
      subst (Marks was b) (sym (one_more n true t)) (marks-place was g x (missing_to J n) a b (so t) (A x (so t) (sym e)) M)

  pub missing-none : (n : ℕ) (a : List ℕ) → is_missing J (n / 40) (n % 40) ≡ false → Marks was a (missing_to J n) → Marks was a (missing_to J (n + 1))
  missing-none n a t M = subst (Marks was a) (sym (one_more n false t)) M

  -- ---- all cells

  listed_of : (n : ℕ) (y : Place) → Memᴰ y (missing_to J n) → Memᴰ y (missing_places J)
  unfolding missing_to missing_places
  listed_of zero y m = absurd (Memᴰ.not-nil m)
  listed_of (suc n) y m = by (is_missing J (n / 40) (n % 40)) refl m (listed_of n y)
    where
      by : (b : Bool) → is_missing J (n / 40) (n % 40) ≡ b
          → Memᴰ y (elim b as (λ x. List Place) [ true ↦ at missing (n / 40) (n % 40) ∷ missing_to J n | false ↦ missing_to J n ])
          → (Memᴰ y (missing_to J n) → Memᴰ y (those is_missing_kind (places J))) → Memᴰ y (those is_missing_kind (places J))
      by true e (Memᴰ.head z) h =
          subst (λ (x : Place). Memᴰ x (those is_missing_kind (places J))) (sym z)
          (those-has is_missing_kind (places J) tt (place-listed J (at missing (n / 40) (n % 40)) (so e)))
      by true e (Memᴰ.tail k) h = h k
      by false e k h = h k

  cell-listed : (n r c : ℕ) → c < 40 → 40 * r + c < n → T (is_missing J r c) → Memᴰ (at missing r c) (missing_to J n)
  unfolding missing_to
  cell-listed zero r c m l t = absurd (omega arith)
  cell-listed (suc n) r c m l t = by (is_missing J (n / 40) (n % 40)) refl (below_or (40 * r + c) n) (λ k. cell-listed n r c m k t)
    where
      by : (b : Bool) → is_missing J (n / 40) (n % 40) ≡ b → (40 * r + c < n) ⊎ (n ≤ 40 * r + c)
          → (40 * r + c < n → Memᴰ (at missing r c) (missing_to J n))
          → Memᴰ (at missing r c) (elim b as (λ x. List Place) [ true ↦ at missing (n / 40) (n % 40) ∷ missing_to J n | false ↦ missing_to J n ])
      by true e (inl k) h = Memᴰ.tail (h k)
      by true e (inr k) h =
          let p : r ≡ n / 40 = omega arith in
          let q : c ≡ n % 40 = omega arith in
          Memᴰ.head (λ i. at missing (p i) (q i))
      by false e (inl k) h = h k
      by false e (inr k) h =
          let p : r ≡ n / 40 = omega arith in
          let q : c ≡ n % 40 = omega arith in
          absurd (subst T (λ i. ((λ j. is_missing J (p j) (q j)) ∙ e) i) t)

  -- a missing pin that is a place
  kind-listed : (n : ℕ) (k : PlaceKind) (r c : ℕ) → 1600 ≤ n → T (is_missing_kind (at k r c)) → T (holds J k r c) → Memᴰ (at k r c) (missing_to J n)
  kind-listed n missing r c l t h = let (x, y) = missing-cell J g.values.array r c h in cell-listed n r c y (omega arith) h
  kind-listed n pin r c l t h = absurd t
  kind-listed n centre r c l t h = absurd t
  kind-listed n outside r c l t h = absurd t
  kind-listed n nowhere r c l t h = absurd t
  kind-listed n (side d) r c l t h = absurd (omega (arith, eqb→eq (place_code (side d)) (place_code missing) t))

  -- a wire that meets one passes it
  met-listed : (n q d : ℕ) (y : Place) → 1600 ≤ n → T (is_wired J f q d) → T (is_missing_kind y) → Meets J f q d y → Memᴰ y (missing_to J n)
  met-listed n q d y l w t (starts e) = absurd (subst (λ (x : Place). T (is_missing_kind x)) (sym e) t)
  met-listed n q d y l w t (comes i h e k) = by (step-lands J h.step (hop-may J f g.sound.feasible h (wire-loaded J f g.sound q d i h w e)))
    where
      by : (head J h.step ≡ the_outside) ⊎ T (is_place J (head J h.step)) → Memᴰ y (missing_to J n)
      by (inl z) = absurd (subst (λ (x : Place). T (is_missing_kind x)) (sym k ∙ z) t)
      by (inr p) = kind-listed n y.kind y.row y.column l t (subst (λ (x : Place). T (is_place J x)) k p)

  pub missing-all : (n : ℕ) (a : List ℕ) → 1600 ≤ n → Marks was a (missing_to J n) → Marks was a (missing_places J)
  unfolding missing_places
  missing-all n a l M =
      record {
        met = λ q d w t. let (y, m, k) = M.met q d w t in (y, listed_of n y m, k);
        marked = λ q d w y m k. M.marked q d w y (met-listed n q d y l w (those-so is_missing_kind (places J) m) k) k;
      }

  -- ---- the record

  pub extra-stored : (taken rec rec' rec'' : List ℕ) (e : ℕ) → record_size ≤ length rec → Unwired was taken rec rec' → Marks was taken (missing_places J)
      → rec'' ≡ set rec' 4 e → rec'' ≡ over (record_of (with_extra (job_of was) e) (extra_left (job_of was) (load was))) rec
  unfolding extra_left
  extra-stored taken rec rec' rec'' e long z M k =
      k
      ∙ (ap (λ (x : List ℕ). set x 4 e) (unwired-avoids was taken rec rec' (missing_places J) g M z)
      ∙ extra-with J (extra_left J f) rec e long)
