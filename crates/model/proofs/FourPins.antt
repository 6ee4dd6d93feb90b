-- Document 01, "The listing": a 2 by 2 array, caps 1 2 0, all four pins chosen, and the four wires that it prints. The record with these wires is legal:
-- the loaded steps are eight, and each item of damage is a computed test of those; every one of them leads from a pin to a side or from a side to the
-- outside, so no chain of them closes. Assumes nothing.
use mathlib.Core.Path.{◌≡◌, refl, sym, ap, subst}
use mathlib.Core.Logic.{◌⊎◌, inl, inr}
use mathlib.Core.Bool.{Bool, true, false, not, ◌&&◌, beq}
use mathlib.Core.List.{List, [], ◌∷◌, Memᴰ}
use mathlib.Core.Option.{Option, none, some}
use Prim.Native.Nat.{ℕ, zero, suc, ◌+◌, ◌≤◌, ◌<◌}
use native.Mathlib.Nat.{eq-zero-or-pos}
use native.Mathlib.Omega.{arith}
use lib.Dec.{T, eqb, leb, ltb, eqb→eq, leb→le, ltb→lt, lit≤, T_not}
use Rattle.sums.specs.Counting.{each, those, total, count}
use Rattle.sums.specs.Tests.{and_left, and_right, every, every-at, count-some}
use Rattle.model.specs.Job.{Job, fresh, marked, is_pin, is_tile, is_open, is_chosen, is_missing, Proper}
use Rattle.model.specs.Links.{north, east, south, west, PlaceKind, pin, missing, centre, outside, nowhere, side, Place, at, is_place, is_entered, places}
use Rattle.model.specs.Links.{north_side, west_side, leg, behind_of, ahead_of, limit_of, limit, pass, Step, go, come, turn, head, tail, may, same_link}
use Rattle.model.specs.Loads.{departures, arrivals, Trail, Sound}
use Rattle.model.specs.Record.{Legal, record_of}
use Rattle.model.specs.Wires.{falling_ends, ends_on, arrival_at, leaving, first_loaded, hop_at, is_wired, wire_count, Part, to, out, past_the_end, part_at}
use Rattle.model.proofs.Same.{same-link-eq}
use Rattle.model.proofs.TextProper.{fresh-proper, marked-proper}
use Rattle.model.proofs.RecordOf.{in_cells, Storable, record-legal}

-- ---- the job and its loads

-- one wire along each step of a list
abbrev pub wires_along : List Step → Step → ℕ
wires_along l s = count l (λ t. same_link s.link t.link && beq s.forth t.forth)

abbrev pub job22 : Job
job22 = marked (marked (marked (marked (fresh 2 2 1 2 0) 0 0 1) 0 1 1) 1 0 1) 1 1 1

abbrev pub steps22 : List Step
steps22 =
    go (leg east) 0 0 ∷ go north_side 0 0 ∷ go (leg south) 0 1 ∷ go west_side 0 1 ∷ go (leg north) 1 0 ∷ come west_side 0 0 ∷ go (leg west) 1 1
    ∷ come north_side 1 0 ∷ []

abbrev pub loads22 : Step → ℕ
loads22 = wires_along steps22

-- ---- what Part lists

abbrev listed22 : ℕ → ℕ → List Part
listed22 r c = part_at job22 loads22 r c 0 ∷ part_at job22 loads22 r c 1 ∷ part_at job22 loads22 r c 2 ∷ []

pub listing22 :
    (wire_count job22 loads22 ≡ 4)
    × (listed22 0 0 ≡ to 0 0 (side north) 0 ∷ out (side north) 0 ∷ past_the_end ∷ [])
    × (listed22 0 1 ≡ to 0 0 (side east) 0 ∷ out (side east) 0 ∷ past_the_end ∷ [])
    × (listed22 1 0 ≡ to 0 0 (side west) 0 ∷ out (side west) 0 ∷ past_the_end ∷ [])
    × (listed22 1 1 ≡ to 0 0 (side south) 0 ∷ out (side south) 0 ∷ past_the_end ∷ [])
unfolding part_at hop_at leaving first_loaded arrival_at ends_on falling_ends each is_wired wire_count departures total places those
    is_chosen is_missing is_open head ahead_of behind_of
listing22 = (refl, refl, refl, refl, refl)

-- ---- the loaded steps

same_way : (a b : Bool) → T (beq a b) → a ≡ b
same_way true true t = refl
same_way true false t = absurd t
same_way false true t = absurd t
same_way false false t = refl

pub along-some : (l : List Step) (s : Step) → (wires_along l s ≡ 0) ⊎ Memᴰ s l
along-some l s = by (count-some l (λ t. same_link s.link t.link && beq s.forth t.forth))
  where
    by : (wires_along l s ≡ 0) ⊎ ((t : Step) × Memᴰ t l × T (same_link s.link t.link && beq s.forth t.forth))
        → (wires_along l s ≡ 0) ⊎ Memᴰ s l
    by (inl z) = inl z
    by (inr (t, m, u)) =
        let p : s.link ≡ t.link = same-link-eq s.link t.link (and_left (same_link s.link t.link) (beq s.forth t.forth) u) in
        let q : s.forth ≡ t.forth = same_way s.forth t.forth (and_right (same_link s.link t.link) (beq s.forth t.forth) u) in
        let e : s ≡ t = λ i. record { link = p i; forth = q i } in
        inr (subst (λ (x : Step). Memᴰ x l) (sym e) m)

-- a test that all eight steps pass holds of a loaded step
tested : (p : Step → Bool) → T (every steps22 p) → (s : Step) → (loads22 s ≡ 0) ⊎ T (p s)
tested p t s = by (along-some steps22 s)
  where
    by : (loads22 s ≡ 0) ⊎ Memᴰ s steps22 → (loads22 s ≡ 0) ⊎ T (p s)
    by (inl z) = inl z
    by (inr m) = inr (every-at steps22 p t m)

-- what fails the test is not loaded
unloaded : (p : Step → Bool) → T (every steps22 p) → (s : Step) → (T (p s) → ⊥) → loads22 s ≡ 0
unloaded p t s n = by (tested p t s)
  where
    by : (loads22 s ≡ 0) ⊎ T (p s) → loads22 s ≡ 0
    by (inl z) = z
    by (inr u) = absurd (n u)

-- what is loaded passes the test
loaded : (p : Step → Bool) → T (every steps22 p) → (s : Step) → 0 < loads22 s → T (p s)
loaded p t s l = by (tested p t s)
  where
    by : (loads22 s ≡ 0) ⊎ T (p s) → T (p s)
    by (inl z) = absurd (omega arith)
    by (inr u) = u

-- ---- chains

-- where every loaded step leads to a higher place, no chain of them closes
module _ (J : Job) (f : Step → ℕ) (height : PlaceKind → ℕ) (up : (s : Step) → 0 < f s → height (tail J s).kind < height (head J s).kind) where
  trail-climbs : (ss : List Step) (x y : Place) → Trail J f x ss y → height x.kind ≤ height y.kind
  trail-climbs [] x y e = omega (arith, ap (λ (z : Place). height z.kind) e)
  trail-climbs (s ∷ ss) x y (e, l, t) = omega (arith, ap (λ (z : Place). height z.kind) e, up s l, trail-climbs ss (head J s) y t)

  pub climbing-loops : (x : Place) (s : Step) (ss : List Step) → Trail J f x (s ∷ ss) x → ⊥
  climbing-loops x s ss (e, l, t) = omega (arith, ap (λ (z : Place). height z.kind) e, up s l, trail-climbs ss (head J s) x t)

-- a pin, then a side, then the outside
abbrev height22 : PlaceKind → ℕ
height22 pin = 0
height22 missing = 0
height22 centre = 0
height22 outside = 2
height22 nowhere = 0
height22 (side d) = 1

climbs22 : (s : Step) → 0 < loads22 s → height22 (tail job22 s).kind < height22 (head job22 s).kind
unfolding every head ahead_of behind_of
climbs22 s l =
    ltb→lt (height22 (tail job22 s).kind) (height22 (head job22 s).kind)
    (loaded (λ t. ltb (height22 (tail job22 t).kind) (height22 (head job22 t).kind)) tt s l)

-- ---- the cells of the array

in22 : (P : ℕ → ℕ → Type 0) → P 0 0 → P 0 1 → P 1 0 → P 1 1 → (r c : ℕ) → T (is_pin job22 r c) → P r c
in22 P nw ne sw se r c t =
    by r c (ltb→lt r 2 (and_left (ltb r 2) (ltb c 2) t)) (ltb→lt c 2 (and_right (ltb r 2) (ltb c 2) t))
  where
    by : (i j : ℕ) → i < 2 → j < 2 → P i j
    by zero zero l m = nw
    by zero (suc zero) l m = ne
    by zero (suc (suc j)) l m = absurd (omega arith)
    by (suc zero) zero l m = sw
    by (suc zero) (suc zero) l m = se
    by (suc zero) (suc (suc j)) l m = absurd (omega arith)
    by (suc (suc i)) j l m = absurd (omega arith)

-- the one tile
tile22 : (P : ℕ → ℕ → Type 0) → P 0 0 → (r c : ℕ) → T (is_open job22 r c) → P r c
unfolding is_open
tile22 P p r c t =
    by r c (ltb→lt (suc r) 2 (and_left (ltb (suc r) 2) (ltb (suc c) 2) u)) (ltb→lt (suc c) 2 (and_right (ltb (suc r) 2) (ltb (suc c) 2) u))
  where
    u : T (is_tile job22 r c)
    u = and_left (is_tile job22 r c) (eqb (job22.state r c) 0) t

    by : (i j : ℕ) → suc i < 2 → suc j < 2 → P i j
    by zero zero l m = p
    by zero (suc j) l m = absurd (omega arith)
    by (suc i) j l m = absurd (omega arith)

-- no pin is missing
missing22 : (r c : ℕ) → T (is_missing job22 r c) → ⊥
unfolding is_missing
missing22 r c t =
    in22 (λ i j. T (is_missing job22 i j) → ⊥) (λ u. u) (λ u. u) (λ u. u) (λ u. u) r c (and_left (is_pin job22 r c) (eqb (job22.mark r c) 2) t) t

-- ---- item by item

one_way22 : (s : Step) → 0 < loads22 s → loads22 (turn s) ≡ 0
unfolding every total
one_way22 s l = eqb→eq (loads22 (turn s)) 0 (loaded (λ t. eqb (loads22 (turn t)) 0) tt s l)

abbrev within : Option ℕ → ℕ → Bool
within none n = true
within (some k) n = leb n k

limit22 : (s : Step) (k : ℕ) → limit job22 s.link ≡ some k → loads22 s ≤ k
unfolding every total limit_of
limit22 s k e = by (tested (λ t. within (limit job22 t.link) (loads22 t)) tt s)
  where
    by : (loads22 s ≡ 0) ⊎ T (within (limit job22 s.link) (loads22 s)) → loads22 s ≤ k
    by (inl z) = omega arith
    by (inr u) = leb→le (loads22 s) k (subst (λ (o : Option ℕ). T (within o (loads22 s))) e u)

limits22 : (s : Step) (k : ℕ) → limit job22 s.link ≡ some k → loads22 s + loads22 (turn s) ≤ k
limits22 s k e = by (eq-zero-or-pos (loads22 s))
  where
    by : (loads22 s ≡ 0) ⊎ (0 < loads22 s) → loads22 s + loads22 (turn s) ≤ k
    by (inl z) = omega (arith, limit22 (turn s) k e)
    by (inr l) = omega (arith, limit22 s k e, one_way22 s l)

may22 : (s : Step) → T (not (may job22 s)) → loads22 s ≡ 0
unfolding every may head ahead_of behind_of is_open is_chosen is_missing
may22 s n = unloaded (may job22) tt s (T_not (may job22 s) n)

passing22 : (k : PlaceKind) (r c n : ℕ) → T (is_place job22 (at k r c)) → pass job22 (at k r c) ≡ some n → arrivals loads22 (at k r c) ≤ n
unfolding arrivals total
passing22 pin r c n p e = let z : ◌≡◌ {A = ℕ} 0 1 = cc in absurd (omega arith)
passing22 missing r c n p e = absurd (missing22 r c p)
passing22 centre r c n p e = omega arith
passing22 outside r c n p e = absurd p
passing22 nowhere r c n p e = absurd p
passing22 (side d) r c n p e = let z : ◌≡◌ {A = ℕ} 0 1 = cc in absurd (omega arith)

starts22 : (r c : ℕ) → T (is_chosen job22 r c) → departures loads22 (at pin r c) ≤ 1
unfolding is_chosen departures total
starts22 r c t =
    in22 (λ i j. departures loads22 (at pin i j) ≤ 1) (lit≤ tt) (lit≤ tt) (lit≤ tt) (lit≤ tt) r c
    (and_left (is_pin job22 r c) (eqb (job22.mark r c) 1) t)

abbrev Balanced : PlaceKind → ℕ → ℕ → Type 0
Balanced k r c = arrivals loads22 (at k r c) ≡ departures loads22 (at k r c)

balance22 : (k : PlaceKind) (r c : ℕ) → T (is_place job22 (at k r c)) → T (is_entered job22 (at k r c)) → Balanced k r c
unfolding arrivals departures total
balance22 pin r c p q = absurd q
balance22 missing r c p q = absurd (missing22 r c p)
balance22 centre r c p q = refl
balance22 outside r c p q = absurd p
balance22 nowhere r c p q = absurd p
balance22 (side north) r c p q = tile22 (Balanced (side north)) refl r c p
balance22 (side east) r c p q = tile22 (Balanced (side east)) refl r c p
balance22 (side south) r c p q = tile22 (Balanced (side south)) refl r c p
balance22 (side west) r c p q = tile22 (Balanced (side west)) refl r c p

pub sound22 : Sound job22 loads22
sound22 =
    record {
      feasible = record {
        one_way = one_way22;
        limits = limits22;
        against = λ s n t. may22 s n;
        nowhere = λ s n t. may22 s n;
        passing = λ x k. passing22 x.kind x.row x.column k;
        starts = starts22;
        balance = λ x. balance22 x.kind x.row x.column;
      };
      loops = climbing-loops job22 loads22 height22 climbs22;
    }

-- ---- the record

proper22 : Proper job22
proper22 =
    marked-proper _ 1 1 1 (marked-proper _ 1 0 1 (marked-proper _ 0 1 1 (marked-proper _ 0 0 1 (fresh-proper 2 2 1 2 0 tt tt) tt tt) tt tt) tt tt) tt tt

small22 : (s : Step) → loads22 s < 32
unfolding every total
small22 s = by (tested (λ t. ltb (loads22 t) 32) tt s)
  where
    by : (loads22 s ≡ 0) ⊎ T (ltb (loads22 s) 32) → loads22 s < 32
    by (inl z) = omega arith
    by (inr u) = ltb→lt (loads22 s) 32 u

storable22 : Storable loads22
unfolding every
storable22 =
    record {
      small = small22;
      one_way = one_way22;
      inside = λ s n. unloaded (λ t. in_cells t.link.row t.link.column) tt s (T_not (in_cells s.link.row s.link.column) n);
    }

-- `Legal` holds of a record with wires.
pub legal22 : Legal (record_of job22 loads22)
legal22 = record-legal job22 loads22 storable22 proper22 sound22
