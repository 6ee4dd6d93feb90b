-- What requests add to a job: a fresh job's values fit, and so do those of an edited job; the upward mark and rectangles fit only as never set. Assumes
-- nothing.
use mathlib.Core.Path.{◌≡◌, refl, sym, ◌∙◌}
use mathlib.Core.Bool.{Bool, true, false, ◌&&◌}
use Prim.Native.Nat.{ℕ}
use native.Mathlib.Omega.{arith}
use lib.Dec.{T, eqb, leb, ltb, leb→le, le→leb}
use Rattle.sums.specs.Counting.{when}
use Rattle.model.specs.Job.{Added, Job, fresh, with_marks, with_states, is_tile, has_north, has_west, laid_most, own_d_fits, seen_most, AddedFits}

-- as never set
pub record Unset (A : Added) : Type 0 where
  pub upward : A.upward ≡ 0
  pub seen : (p k : ℕ) → A.seen p k ≡ 0

-- counts and own diagonals that fit, and nothing else
pub unset-fits : (J : Job) → ((r c : ℕ) → T (leb (J.added.laid_north r c) (when (has_north J r c) (laid_most J))))
    → ((r c : ℕ) → T (leb (J.added.laid_west r c) (when (has_west J r c) (laid_most J))))
    → ((r c : ℕ) → T (elim (is_tile J r c) [ true ↦ own_d_fits J (J.added.own_d r c) | false ↦ eqb (J.added.own_d r c) 0 ])) → Unset J.added → AddedFits J
unset-fits J north west own none-set =
    record {
      laid_north = north;
      laid_west = west;
      own_d = own;
      upward = le→leb J.added.upward 0 (omega (arith, none-set.upward));
      seen = λ p k. le→leb (J.added.seen p k) (when (ltb p 4 && ltb k 4) (seen_most J)) (omega (arith, none-set.seen p k));
    }

pub fresh-fits : (rows columns O D E : ℕ) → AddedFits (fresh rows columns O D E)
fresh-fits rows columns O D E =
    let J : Job = fresh rows columns O D E in
    unset-fits J (λ r c. zero-fits (when (has_north J r c) (laid_most J))) (λ r c. zero-fits (when (has_west J r c) (laid_most J)))
    (λ r c. none-own (is_tile J r c)) (record { upward = refl; seen = λ p k. refl })
  where
    none-own : (b : Bool) → T (elim b as (λ x. Bool) [ true ↦ own_d_fits (fresh rows columns O D E) 0 | false ↦ eqb 0 0 ])
    none-own true = tt
    none-own false = tt

    zero-fits : (x : ℕ) → T (leb 0 x)
    zero-fits x = le→leb 0 x (omega arith)

-- of what fits
pub fits-unset : (J : Job) → AddedFits J → Unset J.added
fits-unset J f =
    record {
      upward = omega (arith, leb→le J.added.upward 0 f.upward);
      seen = λ p k. none (ltb p 4 && ltb k 4) (J.added.seen p k) (f.seen p k);
    }
  where
    none : (b : Bool) (m : ℕ) → T (leb m (when b 0)) → m ≡ 0
    none true m t = omega (arith, leb→le m 0 t)
    none false m t = omega (arith, leb→le m 0 t)

-- two jobs of the same counts and own diagonals
pub added-known : (K J : Job) → AddedFits K → AddedFits J → ((r c : ℕ) → K.added.laid_north r c ≡ J.added.laid_north r c)
    → ((r c : ℕ) → K.added.laid_west r c ≡ J.added.laid_west r c) → ((r c : ℕ) → K.added.own_d r c ≡ J.added.own_d r c) → K.added ≡ J.added
added-known K J f g north west own =
    let k : Unset K.added = fits-unset K f in
    let j : Unset J.added = fits-unset J g in
    λ t. record {
      laid_north = λ r c. north r c t;
      laid_west = λ r c. west r c t;
      own_d = λ r c. own r c t;
      upward = (k.upward ∙ sym j.upward) t;
      seen = λ p i. (k.seen p i ∙ sym (j.seen p i)) t;
    }

-- it fits as before, whatever the marks and states
pub fits_kept : (J : Job) (marks states : ℕ → ℕ → ℕ) → AddedFits J → AddedFits (with_states (with_marks J marks) states)
fits_kept J marks states f =
    record { laid_north = f.laid_north; laid_west = f.laid_west; own_d = f.own_d; upward = f.upward; seen = f.seen }
