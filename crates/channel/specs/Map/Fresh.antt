-- Links that got their first wire of a direction. A loop of the new loads that was none of the old ones goes along such a link: so an order that falls along
-- every loaded dart behind these links excludes the loops that are new. Assumes nothing.
use Rattle.std.specs.Prelude.{◌≡◌, ◌⊎◌, Bool, true, false, ◌&&◌, ◌||◌, List, [], ◌∷◌, ℕ, zero, suc, ◌+◌, ◌-◌, ◌*◌, ◌≤◌, ◌<◌, eqb, leb, ltb, get_or}
use Rattle.std.proofs.Math.Path.{refl, sym, ap, subst}
use Rattle.std.proofs.Common.{◌∙◌, inl, inr, ⊎_elim, eq-zero-or-pos, add-one, eqb→eq, leb→le, le→leb, lt→ltb, eq-eqb}
use Rattle.std.proofs.Math.Bool.{not}
use native.Mathlib.Omega.{arith}
use Rattle.std.proofs.Math.Dec.{T}
use Rattle.std.proofs.lemmas.Bool.{not-false}
use Rattle.sums.specs.Tests.{below_or, and_both, or-by, so, so-not, both_ways, below, below_at}
use Rattle.model.specs.Job.{Job, array_fits}
use Rattle.model.specs.Links.{Place, is_place, Step, head, tail, may}
use Rattle.model.specs.Near.{exit}
use Rattle.model.specs.Loads.{Feasible, Trail}
use Rattle.model.specs.Record.{forth_part, back_part, load}
use Rattle.channel.specs.Map.{spots, darts, dart_of, way_part}
use Rattle.channel.specs.Map.Bools.{is-off, and-true}
use Rattle.channel.specs.Map.Darts.{dart-step}
use Rattle.channel.specs.Map.Laden.{forth-test, back-test}
use Rattle.channel.specs.Map.Network.Loops.{FallsFrom, loaded-may, loaded-grid, trail_falls, trail-place}
use Rattle.channel.specs.Map.Origins.{origin_of, step_byte, step-byte<, step-load, step-origin}
use Rattle.channel.specs.Map.Steps.{link-tail}

-- ---- one byte

-- wires go along the link of the new byte in a direction in which none went by the old one
pub gains : ℕ → ℕ → Bool
gains a b = (ltb 0 (forth_part b) && eqb (forth_part a) 0) || (ltb 0 (back_part b) && eqb (back_part a) 0)

or_left : (p q : Bool) → T p → T (p || q)
or_left true q t = tt
or_left false q t = absurd t

or_right : (p q : Bool) → T q → T (p || q)
or_right true q t = tt
or_right false q t = t

way-gains : (f : Bool) (a b : ℕ) → 0 < way_part f b → way_part f a ≡ 0 → T (gains a b)
unfolding gains way_part
way-gains true a b l e =
    or_left (ltb 0 (forth_part b) && eqb (forth_part a) 0) (ltb 0 (back_part b) && eqb (back_part a) 0)
    (and_both (ltb 0 (forth_part b)) (eqb (forth_part a) 0) (lt→ltb 0 (forth_part b) l) (so (eq-eqb (forth_part a) 0 e)))
way-gains false a b l e =
    or_right (ltb 0 (forth_part b) && eqb (forth_part a) 0) (ltb 0 (back_part b) && eqb (back_part a) 0)
    (and_both (ltb 0 (back_part b)) (eqb (back_part a) 0) (lt→ltb 0 (back_part b) l) (so (eq-eqb (back_part a) 0 e)))

-- no wire goes along a byte's link one way or the other
forth-none : (a : ℕ) → (eqb a 0 || leb 32 a) ≡ eqb (forth_part a) 0
forth-none a =
    both_ways (eqb a 0 || leb 32 a) (eqb (forth_part a) 0)
    (or-by (eqb a 0) (leb 32 a) (λ t. so (eq-eqb (forth_part a) 0 (omega (arith, eqb→eq a 0 t)))) (λ t. so (eq-eqb (forth_part a) 0 (omega (arith, leb→le 32 a t)))))
    (λ t.
    ⊎_elim (λ l. or_left (eqb a 0) (leb 32 a) (so (eq-eqb a 0 (omega (arith, eqb→eq (forth_part a) 0 t))))) (λ l. or_right (eqb a 0) (leb 32 a) (le→leb 32 a l))
    (below_or a 32))

back_none : (a : ℕ) → leb a 32 ≡ eqb (back_part a) 0
back_none a =
    both_ways (leb a 32) (eqb (back_part a) 0) (λ t. so (eq-eqb (back_part a) 0 (omega (arith, leb→le a 32 t))))
    (λ t. le→leb a 32 (omega (arith, eqb→eq (back_part a) 0 t)))

-- as a program tests it
pub gains-test : (a b : ℕ) → (((ltb 0 b && ltb b 32) && (eqb a 0 || leb 32 a)) || (ltb 32 b && leb a 32)) ≡ gains a b
unfolding gains
gains-test a b = rw (forth-test b, back-test b, forth-none a, back_none a)

-- ---- load bytes

-- the same of the i-th load byte
pub is_fresh : List ℕ → List ℕ → ℕ → Bool
is_fresh old rec i = gains (get_or old (3968 + i) 0) (get_or rec (3968 + i) 0)

pub fresh-gains : (old rec : List ℕ) (i : ℕ) → gains (get_or old (3968 + i) 0) (get_or rec (3968 + i) 0) ≡ is_fresh old rec i
unfolding is_fresh
fresh-gains old rec i = refl

-- b says whether no link of the k-th 16 load bytes is fresh
pub record StaleRun (old rec : List ℕ) (k : ℕ) (b : Bool) : Type 0 where
  pub stale : b ≡ true → (i : ℕ) → 16 * k ≤ i → i < 16 * k + 16 → T (is_fresh old rec i) → ⊥
  pub fresh : b ≡ false → (i : ℕ) × (16 * k ≤ i) × (i < 16 * k + 16) × T (is_fresh old rec i)

-- a number for which a test of those below a bound fails
below-not : (n : ℕ) (p : ℕ → Bool) → below n p ≡ false → (i : ℕ) × (i < n) × (p i ≡ false)
unfolding below
below-not zero p e = absurd (so-not e)
below-not (suc n) p e = by (p n) refl e (below-not n p)
  where
    by : (b : Bool) → p n ≡ b → (below n p && b) ≡ false → (below n p ≡ false → (i : ℕ) × (i < n) × (p i ≡ false)) → (i : ℕ) × (i < suc n) × (p i ≡ false)
    by true q f r = let (i, l, h) = r (sym (and-true (below n p)) ∙ f) in (i, omega (arith, l), h)
    by false q f r = (n, omega arith, q)

module _ (old rec : List ℕ) (k : ℕ) where
  -- none of the first j of them is
  pub stale_to : ℕ → Bool
  stale_to j = below j (λ i. not (is_fresh old rec (16 * k + i)))

  pub stale-none : true ≡ stale_to 0
  unfolding stale_to below
  stale-none = refl

  -- one more
  pub stale-more : (j : ℕ) (s g : Bool) → s ≡ stale_to j → g ≡ gains (get_or old (3968 + 16 * k + j) 0) (get_or rec (3968 + 16 * k + j) 0)
      → (s && not g) ≡ stale_to (j + 1)
  unfolding stale_to below is_fresh
  stale-more j s g e f = let q : 3968 + 16 * k + j ≡ 3968 + (16 * k + j) = omega arith in rw (add-one, e, f, q)

  pub stale-run : (b : Bool) → b ≡ stale_to 16 → StaleRun old rec k b
  unfolding stale_to
  stale-run b e =
      record {
        stale = λ t i l h f.
            let q : i ≡ 16 * k + (i - 16 * k) = omega arith in
            let n : T (not (is_fresh old rec (16 * k + (i - 16 * k)))) =
            below_at 16 (λ j. not (is_fresh old rec (16 * k + j))) (so (sym e ∙ t)) (i - 16 * k) (omega arith) in
            subst T (ap (is_fresh old rec) q ∙ is-off (is_fresh old rec (16 * k + (i - 16 * k))) n) f;
        fresh = λ t.
            let (j, l, n) = below-not 16 (λ j. not (is_fresh old rec (16 * k + j))) (sym e ∙ t) in
            (16 * k + j, omega arith, omega (arith, l), so (not-false (is_fresh old rec (16 * k + j)) n));
      }

-- ---- loops

module _ (J : Job) (fits : T (array_fits J.rows J.columns)) (old rec : List ℕ) (feasible : Feasible J (load rec)) where
  -- a step that is loaded in rec and not in old leaves the spot of a fresh byte
  step-fresh : (s : Step) → 0 < load rec s → load old s ≡ 0
      → (i : ℕ) × (i < 24000) × T (is_fresh old rec i) × (origin_of rec i < spots) × (origin_of rec i ≡ exit (tail J s))
  unfolding is_fresh spots darts
  step-fresh s l e =
      let g = loaded-grid J fits rec feasible s l in
      let (d<, t, q) = dart-step s g in
      let o = step-origin s g rec l in
      let z = (link-tail J fits (dart_of s) d< t (subst (λ (y : Step). T (may J y)) (sym q) (loaded-may J fits rec feasible s l))).0 in (
        step_byte s,
        step-byte< s g,
        way-gains s.forth _ _ (subst (λ (n : ℕ). 0 < n) (step-load s g rec) l) (sym (step-load s g old) ∙ e),
        omega arith,
        o ∙ sym z ∙ ap (λ (y : Step). exit (tail J y)) q,
      )

  module _ (rank : ℕ → ℕ) (falls : FallsFrom 2 rec rank)
      (fresh : (i : ℕ) → i < 24000 → T (is_fresh old rec i) → origin_of rec i < spots → 2 ≤ rank (origin_of rec i)) where
    -- a trail of the new loads is one of the old ones, or its end is behind a fresh link
    old-or-behind : (ss : List Step) (x y : Place) → Trail J (load rec) x ss y → T (is_place J y) → Trail J (load old) x ss y ⊎ (2 ≤ rank (exit y))
    old-or-behind [] x y t p = inl t
    old-or-behind (s ∷ ss) x y (e, h, r) p = by (old-or-behind ss (head J s) y r p) (eq-zero-or-pos (load old s))
      where
        by : Trail J (load old) (head J s) ss y ⊎ (2 ≤ rank (exit y)) → (load old s ≡ 0) ⊎ (0 < load old s)
            → Trail J (load old) x (s ∷ ss) y ⊎ (2 ≤ rank (exit y))
        by (inr b) d = inr b
        by (inl o) (inr l) = inl (e, l, o)
        by (inl o) (inl z) =
            let (i, li, t, l, q) = step-fresh s h z in
            let b : 2 ≤ rank (exit x) = omega (arith, fresh i li t l, ap rank q, ap (λ (u : Place). rank (exit u)) e) in
            inr (trail_falls J fits rec feasible 2 rank falls s ss x y (e, h, r) p b).0

    -- if none of the new loads is one of the old ones
    pub fresh-loops : ((x : Place) (s : Step) (ss : List Step) → Trail J (load rec) x (s ∷ ss) x → Trail J (load old) x (s ∷ ss) x → ⊥)
        → (x : Place) (s : Step) (ss : List Step) → Trail J (load rec) x (s ∷ ss) x → ⊥
    fresh-loops none x s ss t = by (old-or-behind (s ∷ ss) x x t p)
      where
        p : T (is_place J x)
        p = trail-place J fits rec feasible s ss x x t

        by : Trail J (load old) x (s ∷ ss) x ⊎ (2 ≤ rank (exit x)) → ⊥
        by (inl o) = none x s ss t o
        by (inr b) = omega (arith, trail_falls J fits rec feasible 2 rank falls s ss x x t p b)
