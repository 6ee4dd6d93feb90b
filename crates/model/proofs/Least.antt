-- A near side of a given job lies inside every other of equal sum, by a computed test: a near side is settled by its Booleans on the spots of the job, so
-- it is enough to test every list of that many Booleans. Assumes nothing.
use mathlib.Core.Path.{◌≡◌, refl, sym, ap, subst, fun_ext, ◌∙◌}
use mathlib.Core.Logic.{◌⊎◌, inl, inr}
use mathlib.Core.Bool.{Bool, true, false, not, ◌&&◌, ◌||◌}
use mathlib.Core.List.{List, [], ◌∷◌, map}
use Prim.Native.Nat.{ℕ, zero, suc}
use lib.Dec.{T, eqb, eqb_refl}
use lib.ListN.{length}
use Rattle.sums.specs.Tests.{Same, same, other, same?, and_left, and_right, and_both, both_ways, every, every-at, if-so}
use Rattle.model.specs.Job.{Job}
use Rattle.model.specs.Links.{Place, is_place, places}
use Rattle.model.specs.Near.{entry, exit, Near, near_sum}
use Rattle.model.specs.Examples.{among}
use Rattle.model.proofs.Listed.{place-listed}
use Rattle.model.proofs.ByTest.{among-by, each_of}
use Rattle.model.proofs.Edges.{Edge, pin_spots, edges, edge_test, edge_sum, edge-sum, edges-limited}

-- ---- all lists of Booleans of a length

unfoldable pub all_of : ℕ → (List Bool → Bool) → Bool
all_of zero p = p []
all_of (suc n) p = all_of n (λ bs. p (true ∷ bs)) && all_of n (λ bs. p (false ∷ bs))

all-of-at : (l : List ℕ) (S : ℕ → Bool) (p : List Bool → Bool) → T (all_of (length l) p) → T (p (map S l))
unfolding all_of
all-of-at [] S p t = t
all-of-at (x ∷ l) S p t =
    by (S x) (and_left (all_of (length l) (λ bs. p (true ∷ bs))) (all_of (length l) (λ bs. p (false ∷ bs))) t)
    (and_right (all_of (length l) (λ bs. p (true ∷ bs))) (all_of (length l) (λ bs. p (false ∷ bs))) t) (λ q. all-of-at l S q)
  where
    by : (b : Bool) → T (all_of (length l) (λ bs. p (true ∷ bs))) → T (all_of (length l) (λ bs. p (false ∷ bs)))
        → ((q : List Bool → Bool) → T (all_of (length l) q) → T (q (map S l))) → T (p (b ∷ map S l))
    by true u v f = f (λ bs. p (true ∷ bs)) u
    by false u v f = f (λ bs. p (false ∷ bs)) v

-- ---- a set given by its Booleans on a list of numbers

unfoldable pub set_of : List ℕ → List Bool → ℕ → Bool
set_of [] bs i = false
set_of (x ∷ l) [] i = false
set_of (x ∷ l) (b ∷ bs) i = elim (eqb i x) [ true ↦ b | false ↦ set_of l bs i ]

set-of-map : (l : List ℕ) (S : ℕ → Bool) (i : ℕ) → set_of l (map S l) i ≡ (among l i && S i)
unfolding set_of among
set-of-map [] S i = refl
set-of-map (x ∷ l) S i = by (eqb i x) (same? i x) (set-of-map l S i)
  where
    by : (b : Bool) → Same i x b → set_of l (map S l) i ≡ (among l i && S i)
        → elim b as (λ c. Bool) [ true ↦ S x | false ↦ set_of l (map S l) i ] ≡ ((b || among l i) && S i)
    by true (same e) r = ap S (sym e)
    by false (other n) r = r

abbrev holds_all : List ℕ → List Edge → List ℕ → ℕ → (ℕ → Bool) → Bool
holds_all pins es l g S = not (every es (edge_test S) && eqb (edge_sum S pins es) g) || every l S

-- Where a set of the spots has the sum g over the border, and no edge without limit leads out of it, it has all the numbers of the list.
unfoldable pub least_test : List ℕ → List ℕ → List Edge → List ℕ → ℕ → Bool
least_test spots pins es l g = all_of (length spots) (λ bs. holds_all pins es l g (set_of spots bs))

module _ (J : Job) (spots : List ℕ) where
  abbrev pub spots_test : Bool
  spots_test = every (places J) (λ x. among spots (entry x) && among spots (exit x))

  near-set : T spots_test → (S : ℕ → Bool) → Near J S → set_of spots (map S spots) ≡ S
  near-set t S near =
      fun_ext
      (λ i. set-of-map spots S i ∙ both_ways (among spots i && S i) (S i) (and_right (among spots i) (S i))
      (λ u. and_both (among spots i) (S i) (listed i (near.within i u).0 (near.within i u).1 (near.within i u).2) u))
    where
      listed : (i : ℕ) (x : Place) → T (is_place J x) → (i ≡ entry x) ⊎ (i ≡ exit x) → T (among spots i)
      listed i x p e =
          by e (every-at (places J) (λ y. among spots (entry y) && among spots (exit y)) t (place-listed J x p))
        where
          by : (i ≡ entry x) ⊎ (i ≡ exit x) → T (among spots (entry x) && among spots (exit x)) → T (among spots i)
          by (inl q) u = subst (λ (j : ℕ). T (among spots j)) (sym q) (and_left (among spots (entry x)) (among spots (exit x)) u)
          by (inr q) u = subst (λ (j : ℕ). T (among spots j)) (sym q) (and_right (among spots (entry x)) (among spots (exit x)) u)

  pub least-by-test : (l : List ℕ) (g : ℕ) → T spots_test → T (least_test spots (pin_spots (places J)) (edges J (places J)) l g)
      → (S : ℕ → Bool) → Near J S → near_sum J S ≡ g → (i : ℕ) → T (among l i) → T (S i)
  unfolding least_test
  least-by-test l g t a S near e =
      let pins : List ℕ = pin_spots (places J) in
      let es : List Edge = edges J (places J) in
      among-by (each_of S l
      (if-so (every es (edge_test S) && eqb (edge_sum S pins es) g) (every l S)
      (subst (λ (R : ℕ → Bool). T (holds_all pins es l g R)) (near-set t S near) (all-of-at spots S (λ bs. holds_all pins es l g (set_of spots bs)) a))
      (and_both (every es (edge_test S)) (eqb (edge_sum S pins es) g) (edges-limited J S near)
      (subst (λ (n : ℕ). T (eqb (edge_sum S pins es) n)) (edge-sum J S ∙ e) (eqb_refl (edge_sum S pins es))))))
