-- Near sides and routes of a given job by computed tests: it is enough to test the spots of a list, the steps around the listed places, and the links
-- and places that the routes themselves meet. Assumes nothing.
use mathlib.Core.Path.{◌≡◌, refl, sym, subst}
use mathlib.Core.Logic.{◌⊎◌, inl, inr}
use mathlib.Core.Bool.{Bool, true, false, not, ◌&&◌, ◌||◌}
use mathlib.Core.List.{List, [], ◌∷◌, Memᴰ}
use mathlib.Core.Option.{Option, none, some}
use Prim.Native.Nat.{ℕ, ◌≤◌, ◌<◌}
use native.Mathlib.Omega.{arith}
use lib.Dec.{T, eqb, leb, ltb, eqb→eq, leb→le, ltb→lt}
use Rattle.sums.specs.Counting.{total, count}
use Rattle.sums.specs.Tests.{and_left, and_right, every, every-at, count-some, if-so, or-by, total-count-some}
use Rattle.model.specs.Job.{Job}
use Rattle.model.specs.Links.{pin, Place, at, is_place, places, same_place, Link, same_link, Step, head, tail, may, limit, pass, around}
use Rattle.model.specs.Route.{Route, uses, visits, begun, Together}
use Rattle.model.specs.Near.{entry, exit, leaves, Near}
use Rattle.model.specs.Examples.{among}
use Rattle.model.proofs.Listed.{place-listed, step-listed, may-leaves}
use Rattle.model.proofs.Same.{same-place-eq, same-link-eq}

-- ---- the numbers of a list

pub data Each (P : ℕ → Type 0) : List ℕ → Type 0 where
  nil : Each P []
  cons : {x : ℕ} {l : List ℕ} → P x → Each P l → Each P (x ∷ l)

pub among-by : {P : ℕ → Type 0} {l : List ℕ} → Each P l → (i : ℕ) → T (among l i) → P i
unfolding among
among-by nil i t = absurd t
among-by {P} (cons {x = x} {l = l} p r) i t = or-by (eqb i x) (among l i) (λ u. subst P (sym (eqb→eq i x u)) p) (among-by r i) t

pub each_of : (p : ℕ → Bool) (l : List ℕ) → T (every l p) → Each (λ i. T (p i)) l
unfolding every
each_of p [] t = nil
each_of p (x ∷ l) t = cons (and_left (p x) (every l p) t) (each_of p l (and_right (p x) (every l p) t))

-- ---- near sides

abbrev pub is_limited : Option ℕ → Bool
is_limited none = false
is_limited (some k) = true

limited-some : (o : Option ℕ) → T (is_limited o) → (k : ℕ) × (o ≡ some k)
limited-some none t = absurd t
limited-some (some k) t = (k, refl)

module _ (J : Job) (S : ℕ → Bool) where
  abbrev pub step_test : Step → Bool
  step_test s = not (leaves J S s) || is_limited (limit J s.link)

  abbrev pub limited_test : Bool
  limited_test = every (places J) (λ x. every (around x) step_test)

  pub limited-by-test : T limited_test → (s : Step) → T (leaves J S s) → (k : ℕ) × (limit J s.link ≡ some k)
  limited-by-test t s l =
      let p : T (is_place J (tail J s)) = may-leaves J s (and_left (may J s) (S (exit (tail J s)) && not (S (entry (head J s)))) l) in
      limited-some (limit J s.link)
      (if-so (leaves J S s) (is_limited (limit J s.link))
      (every-at (around (tail J s)) step_test (every-at (places J) (λ x. every (around x) step_test) t (place-listed J (tail J s) p)) (step-listed J s p))
      l)

module _ (J : Job) where
  abbrev pub has_spot : ℕ → Place → Bool
  has_spot i x = is_place J x && (eqb i (entry x) || eqb i (exit x))

  abbrev pub spot_test : ℕ → Bool
  spot_test i = ltb 0 (count (places J) (has_spot i))

  spot-by-test : (i : ℕ) → T (spot_test i) → (x : Place) × T (is_place J x) × ((i ≡ entry x) ⊎ (i ≡ exit x))
  spot-by-test i t = by (count-some (places J) (has_spot i)) (ltb→lt 0 (count (places J) (has_spot i)) t)
    where
      by : (count (places J) (has_spot i) ≡ 0) ⊎ ((x : Place) × Memᴰ x (places J) × T (has_spot i x)) → 0 < count (places J) (has_spot i)
          → (x : Place) × T (is_place J x) × ((i ≡ entry x) ⊎ (i ≡ exit x))
      by (inl z) u = absurd (omega arith)
      by (inr (x, m, h)) u = (
        x,
        and_left (is_place J x) (eqb i (entry x) || eqb i (exit x)) h,
        or-by (eqb i (entry x)) (eqb i (exit x)) (λ v. inl (eqb→eq i (entry x) v)) (λ v. inr (eqb→eq i (exit x) v))
            (and_right (is_place J x) (eqb i (entry x) || eqb i (exit x)) h),
      )

  pub near-by-test : (l : List ℕ) → T (every l spot_test) → T (limited_test J (among l)) → Near J (among l)
  near-by-test l a b =
      record { within = λ i t. spot-by-test i (among-by (each_of spot_test l a) i t); limited = limited-by-test J (among l) b }

-- ---- routes

abbrev pub allows : Option ℕ → ℕ → Bool
allows none n = true
allows (some k) n = leb n k

allows-le : (o : Option ℕ) (n k : ℕ) → T (allows o n) → o ≡ some k → n ≤ k
allows-le o n k t e = leb→le n k (subst (λ (p : Option ℕ). T (allows p n)) e t)

module _ (J : Job) (rs : List (Route J)) where
  abbrev pub link_test : Link → Bool
  link_test l = allows (limit J l) (total rs (λ p. uses l p.steps))

  abbrev pub pass_test : Place → Bool
  pass_test x = allows (pass J x) (total rs (λ p. visits J x p.steps))

  abbrev pub together_test : Bool
  together_test =
      every rs (λ p. every p.steps (λ s. link_test s.link))
      && (every rs (λ p. every p.steps (λ s. pass_test (head J s))) && every rs (λ p. leb (begun J rs p.row p.column) 1))

  links-by-test : T (every rs (λ p. every p.steps (λ s. link_test s.link)))
      → (l : Link) (k : ℕ) → limit J l ≡ some k → total rs (λ p. uses l p.steps) ≤ k
  links-by-test a l k e = by (total-count-some rs (λ p. p.steps) (λ s. same_link l s.link))
    where
      by : (total rs (λ p. uses l p.steps) ≡ 0) ⊎ ((p : Route J) × Memᴰ p rs × (s : Step) × Memᴰ s p.steps × T (same_link l s.link))
          → total rs (λ p. uses l p.steps) ≤ k
      by (inl z) = omega arith
      by (inr (p, m, s, n, t)) =
          allows-le (limit J l) (total rs (λ p. uses l p.steps)) k
          (subst (λ (x : Link). T (link_test x)) (sym (same-link-eq l s.link t)) (every-at p.steps _ (every-at rs _ a m) n)) e

  passing-by-test : T (every rs (λ p. every p.steps (λ s. pass_test (head J s))))
      → (x : Place) (k : ℕ) → pass J x ≡ some k → total rs (λ p. visits J x p.steps) ≤ k
  passing-by-test b x k e = by (total-count-some rs (λ p. p.steps) (λ s. same_place x (head J s)))
    where
      by : (total rs (λ p. visits J x p.steps) ≡ 0)
          ⊎ ((p : Route J) × Memᴰ p rs × (s : Step) × Memᴰ s p.steps × T (same_place x (head J s)))
          → total rs (λ p. visits J x p.steps) ≤ k
      by (inl z) = omega arith
      by (inr (p, m, s, n, t)) =
          allows-le (pass J x) (total rs (λ p. visits J x p.steps)) k
          (subst (λ (y : Place). T (pass_test y)) (sym (same-place-eq x (head J s) t)) (every-at p.steps _ (every-at rs _ b m) n)) e

  pins-by-test : T (every rs (λ p. leb (begun J rs p.row p.column) 1)) → (r c : ℕ) → begun J rs r c ≤ 1
  pins-by-test d r c = by (count-some rs (λ p. same_place (at pin r c) (at pin p.row p.column)))
    where
      by : (begun J rs r c ≡ 0) ⊎ ((p : Route J) × Memᴰ p rs × T (same_place (at pin r c) (at pin p.row p.column))) → begun J rs r c ≤ 1
      by (inl z) = omega arith
      by (inr (p, m, t)) =
          subst (λ (x : Place). begun J rs x.row x.column ≤ 1) (sym (same-place-eq (at pin r c) (at pin p.row p.column) t))
          (leb→le (begun J rs p.row p.column) 1 (every-at rs (λ q. leb (begun J rs q.row q.column) 1) d m))

  pub together-by-test : T together_test → Together J rs
  together-by-test t =
      let a : Bool = every rs (λ p. every p.steps (λ s. link_test s.link)) in
      let b : Bool = every rs (λ p. every p.steps (λ s. pass_test (head J s))) in
      let d : Bool = every rs (λ p. leb (begun J rs p.row p.column) 1) in
      let u : T (b && d) = and_right a (b && d) t in
      record { links = links-by-test (and_left a (b && d) t); passing = passing-by-test (and_left b d u); pins = pins-by-test (and_right b d u) }
