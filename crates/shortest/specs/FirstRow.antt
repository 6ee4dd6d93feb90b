-- First prices as a row of numbers, and how a program reads them: none outside, and else by the kind of the spot and the ring of its cell. None is above 214,
-- and they are prices of a record without wires. Assumes nothing.
use Rattle.std.specs.Prelude.{◌≡◌, ◌≢◌, ◌⊎◌, Bool, not, List, ℕ, suc, ◌+◌, ◌-◌, ◌*◌, ◌/◌, ◌%◌, ◌≤◌, ◌<◌, T, eqb, length, get_or, set, take, drop, ◌++◌}
use Rattle.std.proofs.Math.Path.{refl}
use Rattle.std.proofs.Common.{sym, ap, ◌∙◌, ⊎_elim, eq-or-lt_of_le, eq-eqb, ne_eqb, length-set, get_or-set_same, get_or-set_other}
use Rattle.std.proofs.Math.Bool.{true, false}
use native.Mathlib.Omega.{arith}
use Rattle.std.proofs.lemmas.List.{length-append, length-take-le, length-drop, get_or-append_right, get_or-drop}
use Rattle.std.proofs.Math.ListN.{get_or-append}
use Rattle.sums.specs.Counting.{when}
use Rattle.sums.specs.Tests.{below_or}
use Rattle.sums.specs.Sums.{when-none, when-so}
use Rattle.flow.specs.Network.{Net, head}
use Rattle.price.specs.Priced.{Priced}
use Rattle.model.specs.Job.{Job, array_fits}
use Rattle.channel.specs.Map.{spots, row_of, column_of, is_start, want, outside}
use Rattle.channel.specs.Map.Entered.{row_is, column-is}
use Rattle.channel.specs.Map.Starts.{want-start}
use Rattle.channel.specs.Map.Lengths.{dart_length}
use Rattle.channel.specs.Map.Network.{net, node-spot}
use Rattle.augment.specs.Passing.{array_size}
use Rattle.shortest.specs.Rings.{least4, first-most, third-most, tile_ring, pin_ring}
use Rattle.shortest.specs.FirstPrices.{kind_price, first_price}
use Rattle.shortest.specs.Wiring.{price_at, AtMost}

-- ---- one price

-- by whether the spot is an entry, whether it is a pin's exit, and the rings of the pin and of the tile
abbrev kind_by : Bool → Bool → ℕ → ℕ → ℕ
kind_by a b p t = elim a [ true ↦ 10 * p + 14 | false ↦ elim b [ true ↦ 10 * p | false ↦ 10 * suc t ] ]

module _ (J : Job) where
  pub kind-entry : (k r c m : ℕ) → k ≡ 0 → m ≡ pin_ring J r c → 10 * m + 14 ≡ kind_price J k r c
  kind-entry k r c m z e = λ i. kind_by (sym (eq-eqb k 0 z) i) (eqb k 1) (e i) (tile_ring J r c)

  pub kind-pin : (k r c m : ℕ) → k ≡ 1 → m ≡ pin_ring J r c → 10 * m ≡ kind_price J k r c
  kind-pin k r c m z e = λ i. kind_by (sym (ne_eqb k 0 (λ w. omega arith)) i) (sym (eq-eqb k 1 z) i) (e i) (tile_ring J r c)

  pub kind-tile : (k r c m : ℕ) → k ≢ 0 → k ≢ 1 → m ≡ tile_ring J r c → 10 * (m + 1) ≡ kind_price J k r c
  kind-tile k r c m z o e =
      let q : 10 * (m + 1) ≡ 10 * suc m = omega arith in
      q ∙ (λ i. kind_by (sym (ne_eqb k 0 z) i) (sym (ne_eqb k 1 o) i) (pin_ring J r c) (e i))

  pub price-none : (u : ℕ) → true ≡ outside J u → 0 ≡ first_price J u
  unfolding first_price
  price-none u e = rw (sym e) refl

  pub price-some : (u p : ℕ) → false ≡ outside J u → p ≡ kind_price J (u % 8) ((u / 8 - 41) / 40) ((u / 8 - 41) % 40) → p ≡ first_price J u
  unfolding first_price
  price-some u p e q = rw (sym e, ← row_is (u / 8), ← column-is (u / 8)) q

  pub due-none : (u : ℕ) → (T (is_start J u) → ⊥) → 0 ≡ first_price J u * want J u
  due-none u n = let z : want J u ≡ 0 = want-start J u ∙ when-none (is_start J u) 1 (λ t. absurd (n t)) in rw z (omega arith)

  pub due-some : (u p : ℕ) → T (is_start J u) → p ≡ first_price J u → p ≡ first_price J u * want J u
  due-some u p t e = let o : want J u ≡ 1 = want-start J u ∙ when-so (is_start J u) 1 t in rw o (omega arith)

  -- ---- none is above 214

  ring-few : (n r k c d : ℕ) → n ≤ 40 → 0 < k → least4 r c (n - (k + r)) d ≤ 19
  ring-few n r k c d l z = omega (arith, first-most r c (n - (k + r)) d, third-most r c (n - (k + r)) d)

  kind-few : T (array_fits J.rows J.columns) → (k r c : ℕ) → kind_price J k r c ≤ 214
  kind-few fits k r c = by (eqb k 0) (eqb k 1)
    where
      by : (a b : Bool) → kind_by a b (pin_ring J r c) (tile_ring J r c) ≤ 214
      by true b = omega (arith, ring-few J.rows r 1 c (J.columns - (1 + c)) (array_size J fits).0 (omega arith))
      by false true = omega (arith, ring-few J.rows r 1 c (J.columns - (1 + c)) (array_size J fits).0 (omega arith))
      by false false = omega (arith, ring-few J.rows r 2 c (J.columns - (2 + c)) (array_size J fits).0 (omega arith))

  pub price-few : T (array_fits J.rows J.columns) → (u : ℕ) → first_price J u ≤ 214
  unfolding first_price
  price-few fits u = by (not (outside J u))
    where
      by : (b : Bool) → when b (kind_price J (u % 8) (row_of (u / 8)) (column_of (u / 8))) ≤ 214
      by true = kind-few fits (u % 8) (row_of (u / 8)) (column_of (u / 8))
      by false = omega arith

-- ---- a row of them

-- the first n entries are first prices, and the others as they were
pub record FirstRow (J : Job) (n : ℕ) (prices prices' : List ℕ) : Type 0 where
  pub size : length prices' ≡ length prices
  pub first : (u : ℕ) → u < n → get_or prices' u 0 ≡ first_price J u
  pub rest : (u : ℕ) → n ≤ u → get_or prices' u 0 ≡ get_or prices u 0

pub row-none : (J : Job) (prices : List ℕ) → FirstRow J 0 prices prices
row-none J prices = record { size = refl; first = λ u l. absurd (omega arith); rest = λ u l. refl }

last_or : (u n : ℕ) → u < n + 1 → (u ≡ n) ⊎ (u < n)
last_or u n l = eq-or-lt_of_le (omega arith)

-- one entry more
pub row_more : {J : Job} {n p : ℕ} {prices prices' : List ℕ} → FirstRow J n prices prices' → n < length prices' → p ≡ first_price J n
    → FirstRow J (n + 1) prices (set prices' n p)
row_more {J} {n} {p} {prices} {prices'} R l e =
    record {
      size = length-set prices' n p ∙ R.size;
      first = λ u h. ⊎_elim
          (λ q. ap (λ (x : ℕ). get_or (set prices' n p) x 0) q ∙ get_or-set_same prices' n p 0 l ∙ e ∙ ap (first_price J) (sym q))
          (λ h. get_or-set_other prices' n u p 0 (omega arith) ∙ R.first u h)
          (last_or u n h);
      rest = λ u h. get_or-set_other prices' n u p 0 (omega arith) ∙ R.rest u (omega arith);
    }

-- a row of n entries with what stands behind it
pub row_part : {J : Job} {n : ℕ} {prices items : List ℕ} → n ≤ length prices → FirstRow J n (take n prices) items → FirstRow J n prices (items ++ drop n prices)
row_part {J} {n} {prices} {items} l R =
    record {
      size = omega (arith, length-append items (drop n prices), length-drop n prices, m);
      first = λ u h. get_or-append items (drop n prices) 0 u (omega (arith, m)) ∙ R.first u h;
      rest = λ u h. get_or-append_right items (drop n prices) n u 0 m h ∙ get_or-drop n prices (u - n) 0 ∙ ap (λ (x : ℕ). get_or prices x 0) (omega arith);
    }
  where
    m : length items ≡ n
    m = R.size ∙ length-take-le n prices l

-- ---- prices of a record without wires

-- prices that are the same at every node
pub priced-cong : {G : Net} {c f π ρ : ℕ → ℕ} → ((u : ℕ) → u < G.nodes → ρ u ≡ π u) → Priced G c f π → Priced G c f ρ
priced-cong {G} {c} {f} {π} {ρ} e P =
    record {
      adding = λ d l o. omega (arith, P.adding d l o, e (G.tail d) (G.tail< d l), e (head G d) (ahead d l));
      taking = λ d l h. omega (arith, P.taking d l h, e (G.tail d) (G.tail< d l), e (head G d) (ahead d l));
      grounded = λ u l o. e u l ∙ P.grounded u l o;
    }
  where
    ahead : (d : ℕ) → d < G.darts → head G d < G.nodes
    ahead d l = G.tail< (G.rev d) (G.rev< d l)

module _ {J : Job} {prices prices' : List ℕ} (R : FirstRow J spots prices prices') where
  pub row-priced : {f : ℕ → ℕ} → Priced (net J) dart_length f (first_price J) → Priced (net J) dart_length f (price_at prices')
  row-priced = priced-cong (λ u l. R.first u (node-spot J l))

  pub row-few : T (array_fits J.rows J.columns) → AtMost prices 214 → AtMost prices' 214
  row-few fits m u =
      ⊎_elim (λ l. omega (arith, R.first u l, price-few J fits u)) (λ l. omega (arith, R.rest u l, m u)) (below_or u spots)
