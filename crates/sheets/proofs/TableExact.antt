-- The rule of the table of 1,296 entries: one test that antt computes over the whole table, one entry after the other, and a law that carries it to each.
-- Assumes nothing.
use Rattle.std.specs.Prelude.{◌≡◌, refl, Bool, true, ◌&&◌, List, [], ◌∷◌, ℕ, zero, suc, ◌+◌, ◌/◌, ◌%◌, ◌<◌, T, eqb, length, get_or}
use Rattle.std.proofs.Common.{◌∙◌, subst, sym, ap, zero-add, le_of_suc-le-suc, not-suc-le-zero, arith, eqb→eq}
use Rattle.sums.specs.Tests.{and_left, and_right}
use Rattle.model.specs.Sheet.{Entry}
use Rattle.sheets.specs.Passage.{least_d, least_passage, least3, pick}
use Rattle.sheets.specs.Exact.{least_d-exact}
use Rattle.sheets.specs.Table.{index_of, table}

-- the least D of the amounts whose digits make k
unfoldable value_at : ℕ → ℕ
value_at k = least_d (k / 216) (k / 36 % 6) (k / 6 % 6) (k % 6)

value_at-index : (n e s w : ℕ) → e < 6 → s < 6 → w < 6 → value_at (index_of n e s w) ≡ least_d n e s w
unfolding value_at
value_at-index n e s w he hs hw =
    let dn : index_of n e s w / 216 ≡ n = omega arith in
    let de : index_of n e s w / 36 % 6 ≡ e = omega arith in
    let ds : index_of n e s w / 6 % 6 ≡ s = omega arith in
    let dw : index_of n e s w % 6 ≡ w = omega arith in
    rw (dn, de, ds, dw)

-- the numbers of the list are those of the indices from i on
unfoldable holds : ℕ → List ℕ → Bool
holds i [] = true
holds i (x ∷ xs) = eqb x (value_at i) && holds (suc i) xs

holds_at : (xs : List ℕ) (i : ℕ) → T (holds i xs) → (k : ℕ) → k < length xs → get_or xs k 0 ≡ value_at (i + k)
unfolding holds
holds_at [] i t k h = absurd (not-suc-le-zero h)
holds_at (x ∷ xs) i t zero h = eqb→eq x (value_at i) (and_left (eqb x (value_at i)) (holds (suc i) xs) t) ∙ ap value_at (omega arith)
holds_at (x ∷ xs) i t (suc k) h =
    holds_at xs (suc i) (and_right (eqb x (value_at i)) (holds (suc i) xs) t) k (le_of_suc-le-suc h) ∙ ap value_at (omega arith)

-- the test, over the whole table
table-holds : T (holds 0 table)
unfolding holds table value_at least_d least_passage least3 pick
table-holds = tt

table-length : length table ≡ 1296
unfolding table
table-length = refl

-- the table has the least D of each four amounts in its place
pub table-value : (n e s w : ℕ) → n < 6 → e < 6 → s < 6 → w < 6 → get_or table (index_of n e s w) 0 ≡ least_d n e s w
table-value n e s w hn he hs hw =
    holds_at table 0 table-holds (index_of n e s w) (omega (arith, table-length)) ∙ rw (zero-add (index_of n e s w)) (value_at-index n e s w he hs hw)

-- the table has the entry of each four amounts in its place
pub table-exact : (n e s w : ℕ) → n < 6 → e < 6 → s < 6 → w < 6 → Entry n e s w (get_or table (index_of n e s w) 0)
table-exact n e s w hn he hs hw = subst (λ (x : ℕ). Entry n e s w x) (sym (table-value n e s w hn he hs hw)) (least_d-exact n e s w)
