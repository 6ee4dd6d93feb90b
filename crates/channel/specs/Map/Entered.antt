-- Where a wire that comes along a dart goes on: the place that the dart leads to, by its spot; the dart that takes the step back, which stands in the slot
-- of that place's exit by which the wire came; and that no wire takes an exit's other slots. Read off the rows of the table. Assumes nothing.
use Rattle.std.specs.Prelude.{◌≡◌, ◌≢◌, ◌⊎◌, Bool, true, ◌&&◌, ◌||◌, List, [], ◌∷◌, map, ℕ, zero, suc, ◌+◌, ◌-◌, ◌*◌, ◌/◌, ◌%◌, ◌≤◌, ◌<◌, leb, ltb, length, get_or}
use Rattle.std.proofs.Math.Path.{refl, sym, ap, subst}
use Rattle.std.proofs.Common.{ap₂, ◌∙◌, arith, leb→le, ltb→lt}
use Rattle.std.proofs.Math.Logic.{inl, inr}
use Rattle.std.proofs.Math.Bool.{false, not}
use Rattle.std.proofs.Math.Option.{none, some}
use borrow.Author.Tests.{le-leb, lt-leb, ne_eqb}
use Rattle.std.proofs.Math.Dec.{T, eqb, eqb→eq}
use Rattle.std.proofs.Math.ListN.{get_elem?}
use Rattle.sums.specs.Counting.{when}
use Rattle.sums.specs.Tests.{and_left, and_right, so, if-so, below, below_at, below_or}
use Rattle.sums.specs.Entries.{none-some, entry-there}
use Rattle.model.specs.Job.{Job, array_fits, is_pin, is_tile, is_chosen, is_missing, on_rim}
use Rattle.model.specs.Links.{Compass, north, east, south, west, clockwise, compass_code, PlaceKind, pin, missing, centre, nowhere, side}
use Rattle.model.specs.Links.{Place, at, the_outside, is_place, holds, place_code}
use Rattle.model.specs.Links.{LinkKind, north_side, west_side, corner, spoke, leg, direct, link, link_code, beside, behind_of, ahead_of}
use Rattle.model.specs.Links.{Step, go, turn, head, tail, may, is_entered, around, around_of}
use Rattle.model.specs.Near.{spot, entry_of, exit_of, entry, exit}
use Rattle.model.specs.Record.{kinds, load}
use Rattle.model.proofs.Listed.{may-leaves, may-enters}
use Rattle.channel.specs.Map.{darts, in_grid, row_of, column_of, rev, owner_cell, step_of, carries, is_stored, is_link_dart, EndsAt, outside, opposed, links, owners, signs, codes, kind_of, owner_of, sign_of, code_of, seat_of, dart_of}
use Rattle.channel.specs.Map.Back.{owner-law, link-stored, stored-turned}
use Rattle.channel.specs.Map.Darts.{dart-step, step-grid, cell_row, cell-column, grid-cell}
use Rattle.channel.specs.Map.Around.{slots_at, takes-pin}
use Rattle.channel.specs.Map.Bools.{and-false}
use Rattle.channel.specs.Map.Ends.{leaves}
use Rattle.channel.specs.Map.Spots.{held-grid, spot-inside}
use Rattle.channel.specs.Map.Steps.{link-tail, link-head}
use Rattle.channel.specs.Map.Ways.{direct-go, direct-come}
use Rattle.channel.specs.Map.Places.{side-kind, pin-by}
use Rattle.channel.specs.Map.Network.Pushed.{grid-turn, turn-turn}

abbrev way : LinkKind → Bool → ℕ → ℕ → Step
way k f r c = record { link = link k r c; forth = f }

-- ---- the dart that takes the step back

-- From an entry the exit's slot, and at n, e, s, w slots 5 and 7 stand for 2 and 4. Slot 5 of an entry, against a direct exit, stands for itself.
abbrev moved : Bool → Bool → ℕ → ℕ
moved true true b = b
moved true false b = b + 8
moved false true b = b - 3
moved false false b = b

-- the dart of the same step that leaves an exit, or comes against a direct one
pub from_exit : ℕ → ℕ
from_exit b = moved (eqb (b / 8 % 8) 0 || eqb (b / 8 % 8) 6) (leb 5 (b % 8)) b

module _ (b : ℕ) where
  pub exit-straight : (eqb (b / 8 % 8) 0 || eqb (b / 8 % 8) 6) ≡ true → 5 ≤ b % 8 → b ≡ from_exit b
  unfolding from_exit
  exit-straight e l = sym (ap₂ (λ (s t : Bool). moved s t b) e (le-leb 5 (b % 8) l))

  pub exit-entry : (eqb (b / 8 % 8) 0 || eqb (b / 8 % 8) 6) ≡ true → b % 8 < 5 → b + 8 ≡ from_exit b
  unfolding from_exit
  exit-entry e l = sym (ap₂ (λ (s t : Bool). moved s t b) e (lt-leb 5 (b % 8) l))

  pub exit-twin : (eqb (b / 8 % 8) 0 || eqb (b / 8 % 8) 6) ≡ false → 5 ≤ b % 8 → b - 3 ≡ from_exit b
  unfolding from_exit
  exit-twin e l = sym (ap₂ (λ (s t : Bool). moved s t b) e (le-leb 5 (b % 8) l))

  pub exit-same : (eqb (b / 8 % 8) 0 || eqb (b / 8 % 8) 6) ≡ false → b % 8 < 5 → b ≡ from_exit b
  unfolding from_exit
  exit-same e l = sym (ap₂ (λ (s t : Bool). moved s t b) e (lt-leb 5 (b % 8) l))

-- it goes by the row
exit-row : (b : ℕ) → from_exit b ≡ 64 * (b / 64) + from_exit (b % 64)
unfolding from_exit
exit-row b =
    let k : b / 8 % 8 ≡ b % 64 / 8 % 8 = omega arith in
    let j : b % 8 ≡ b % 64 % 8 = omega arith in
    by (eqb (b / 8 % 8) 0 || eqb (b / 8 % 8) 6) (leb 5 (b % 8)) (leb→le 5 (b % 8))
    ∙ ap₂ (λ (k j : ℕ). 64 * (b / 64) + moved (eqb k 0 || eqb k 6) (leb 5 j) (b % 64)) k j
  where
    by : (s t : Bool) → (T t → 5 ≤ b % 8) → moved s t b ≡ 64 * (b / 64) + moved s t (b % 64)
    by true true h = omega arith
    by true false h = omega arith
    by false true h = omega (arith, h tt)
    by false false h = omega arith

-- the row of a stored row's step, and its owner
module _ (i : ℕ) (l : i < 64) (s : T (is_stored (code_of i))) where
  row-exit : seat_of (link_code (get_or kinds (kind_of i) north_side)) (eqb (sign_of i) 0) ≡ from_exit i
  unfolding below seat_of kind_of links sign_of signs code_of codes is_stored from_exit
  row-exit =
      eqb→eq _ _ (if-so (is_stored (code_of i)) _
      (below_at 64 (λ i. not (is_stored (code_of i)) || eqb (seat_of (link_code (get_or kinds (kind_of i) north_side)) (eqb (sign_of i) 0)) (from_exit i)) tt i l) s)

  exit-owner : owner_of (from_exit i) ≡ owner_of i
  unfolding below owner_of owners code_of codes is_stored from_exit
  exit-owner =
      eqb→eq _ _ (if-so (is_stored (code_of i)) _ (below_at 64 (λ i. not (is_stored (code_of i)) || eqb (owner_of (from_exit i)) (owner_of i)) tt i l) s)

-- the dart of a stored dart's step
stored-dart : (b : ℕ) → T (is_stored (code_of (b % 64))) → T (in_grid (owner_cell b)) → dart_of (step_of b) ≡ from_exit b
unfolding dart_of step_of
stored-dart b s g =
    rw (row-exit (b % 64) (omega arith) s, exit-owner (b % 64) (omega arith) s, exit-row b)
    (whole b (owner_of (b % 64)) (owner_cell b) _ _ (owner-law b) (grid-cell (owner_cell b) g))
  where
    whole : (b o x y e : ℕ) → x ≡ b / 64 + o → x ≡ y → 64 * (y - o) + e ≡ 64 * (b / 64) + e
    whole b o x y e p q = omega arith

pub back-exit : (d : ℕ) → d < darts → T (is_link_dart d) → from_exit (rev d) ≡ dart_of (turn (step_of d))
back-exit d l t =
    let (s, g) = link-stored d t in
    let b = stored-turned d l s g in
    sym (stored-dart (rev d) b.stored (rw b.owner g)) ∙ ap dart_of b.step

pub back-range : (d : ℕ) → T (is_link_dart d) → dart_of (turn (step_of d)) < darts
back-range d t = (dart-step (turn (step_of d)) (grid-turn (step-grid d (link-stored d t).1))).0

-- ---- the slots of a place's exit

-- the rows of the spots of kind q that carry a load have a slot below n
below-slots : (q n : ℕ) → T (below 8 (λ k. not (carries (code_of (8 * q + k))) || ltb k n))
    → (d r c k : ℕ) → d ≡ 8 * spot q r c + k → q < 8 → k < 8 → T (is_link_dart d) → k < n
unfolding is_link_dart
below-slots q n a d r c k e h l t =
    let i : d % 64 ≡ 8 * q + k = omega arith in
    ltb→lt k n
    (if-so (carries (code_of (8 * q + k))) (ltb k n) (below_at 8 (λ k. not (carries (code_of (8 * q + k))) || ltb k n) a k l)
    (subst (λ (j : ℕ). T (carries (code_of j))) i (and_left (carries (code_of (d % 64))) (in_grid (owner_cell d)) t)))

-- what goes along the link of a dart, by the dart's code
module _ (d n m : ℕ) where
  pub link-wires : carries (code_of (d % 64)) ≡ true → n ≡ when (in_grid (owner_cell d)) m → n ≡ when (is_link_dart d) m
  unfolding is_link_dart
  link-wires c e = rw c e

  pub no-wires : carries (code_of (d % 64)) ≡ false → 0 ≡ when (is_link_dart d) m
  unfolding is_link_dart
  no-wires c = rw c

pub against-wires : (rec : List ℕ) (d n : ℕ) → carries (code_of (d % 64)) ≡ true → n ≡ opposed rec d
    → n ≡ when (is_link_dart d) (load rec (turn (step_of d)))
unfolding opposed
against-wires rec d n c e = link-wires d n (load rec (turn (step_of d))) c e

pub row_is : (x : ℕ) → (x - 41) / 40 ≡ row_of x
unfolding row_of
row_is x = refl

pub column-is : (x : ℕ) → (x - 41) % 40 ≡ column_of x
unfolding column_of
column-is x = refl

-- ---- the kind of a place, by that of its spot

abbrev spot_kinds : List PlaceKind
spot_kinds = missing ∷ pin ∷ side north ∷ side east ∷ side south ∷ side west ∷ centre ∷ centre ∷ []

pub kind_at : ℕ → PlaceKind
kind_at k = get_or spot_kinds k nowhere

-- what goes by the kind of a place, by that of its spot
pub by_kind : {A : Type 0} (f : PlaceKind → A) (k : ℕ)
    → get_or (f missing ∷ f pin ∷ f (side north) ∷ f (side east) ∷ f (side south) ∷ f (side west) ∷ f centre ∷ f centre ∷ []) k (f nowhere) ≡ f (kind_at k)
unfolding kind_at
by_kind f k = by f spot_kinds k
  where
    by : {A : Type 0} (f : PlaceKind → A) (l : List PlaceKind) (k : ℕ) → get_or (map f l) k (f nowhere) ≡ f (get_or l k nowhere)
    by f [] k = refl
    by f (x ∷ l) zero = refl
    by f (x ∷ l) (suc k) = by f l k

-- the kind, the cell's row and its column, of a spot of kind q
pub record Named (u : ℕ) (p : PlaceKind) (r c : ℕ) : Type 0 where
  pub kind : kind_at (u % 8) ≡ p
  pub grid : 41 ≤ u / 8
  pub row : row_of (u / 8) ≡ r
  pub column : column_of (u / 8) ≡ c

named-at : (u q r c : ℕ) (p : PlaceKind) → u ≡ spot q r c → q < 8 → c < 40 → kind_at q ≡ p → Named u p r c
named-at u q r c p e h b k =
    let m : u % 8 ≡ q = omega arith in
    let x : u / 8 ≡ 41 + 40 * r + c = omega arith in
    record { kind = ap kind_at m ∙ k; grid = omega arith; row = cell_row (u / 8) r c x b; column = cell-column (u / 8) r c x b }

-- ---- a step to the outside is taken from n, e, s or w, or from a pin

-- the place's exit has the place's kind
abbrev OneKind : Job → Place → Type 0
OneKind J x = T (is_place J x) → kind_at (exit x % 8) ≡ x.kind

side-one : (J : Job) (d : Compass) (r c : ℕ) → OneKind J (at (side d) r c)
unfolding kind_at
side-one J d r c p = ap kind_at (side-kind d r c) ∙ by d
  where
    by : (d : Compass) → kind_at (2 + compass_code d) ≡ side d
    by north = refl
    by east = refl
    by south = refl
    by west = refl

beside-one : (J : Job) (d : Compass) (r c : ℕ) → OneKind J (beside J d r c)
beside-one J d r c = by (is_tile J r c)
  where
    by : (b : Bool) → OneKind J (elim b [ true ↦ at (side d) r c | false ↦ the_outside ])
    by true = side-one J d r c
    by false = absurd

pin-one : (J : Job) (r c : ℕ) → OneKind J (at pin r c)
unfolding kind_at exit_of
pin-one J r c p = let e : exit_of pin r c % 8 ≡ 1 = omega arith in ap kind_at e

-- no other place is the outside
not-outside : {A : Type 0} (x : Place) → place_code x.kind ≢ 3 → x ≡ the_outside → A
not-outside x n e = absurd (n (ap (λ (y : Place). place_code y.kind) e))

outward : (J : Job) (k : LinkKind) (f : Bool) (r c : ℕ) → head J (way k f r c) ≡ the_outside → OneKind J (tail J (way k f r c))
unfolding head behind_of ahead_of
outward J north_side true r c e = beside-one J north r c
outward J north_side false zero c e = absurd
outward J north_side false (suc r) c e = side-one J south r c
outward J west_side true r zero e = absurd
outward J west_side true r (suc c) e = side-one J east r c
outward J west_side false r c e = beside-one J west r c
outward J (corner d) true r c e = not-outside (at (side (clockwise d)) r c) (λ q. omega arith) e
outward J (corner d) false r c e = not-outside (at (side d) r c) (λ q. omega arith) e
outward J (spoke d) true r c e = not-outside (at (side d) r c) (λ q. omega arith) e
outward J (spoke d) false r c e = not-outside (at centre r c) (λ q. omega arith) e
outward J (leg north) true zero c e = not-outside (at nowhere 0 0) (λ q. omega arith) e
outward J (leg north) true (suc r) c e = not-outside (at (side west) r c) (λ q. omega arith) e
outward J (leg east) true r c e = not-outside (at (side north) r c) (λ q. omega arith) e
outward J (leg south) true r zero e = not-outside (at nowhere 0 0) (λ q. omega arith) e
outward J (leg south) true r (suc c) e = not-outside (at (side east) r c) (λ q. omega arith) e
outward J (leg west) true zero c e = not-outside (at nowhere 0 0) (λ q. omega arith) e
outward J (leg west) true (suc r) zero e = not-outside (at nowhere 0 0) (λ q. omega arith) e
outward J (leg west) true (suc r) (suc c) e = not-outside (at (side south) r c) (λ q. omega arith) e
outward J (leg d) false r c e =
    pin-by J (λ x. x ≡ the_outside → OneKind J (ahead_of J (leg d) r c)) r c (λ q. not-outside (at missing r c) (λ z. omega arith))
    (λ q. not-outside (at pin r c) (λ z. omega arith)) e
outward J direct true r c e = pin-one J r c
outward J direct false r c e = not-outside (at pin r c) (λ q. omega arith) e

module _ (J : Job) (fits : T (array_fits J.rows J.columns)) where
  entry-kind : (p : PlaceKind) (r c : ℕ) → T (holds J p r c) → T (is_entered J (at p r c)) → Named (entry_of p r c) p r c
  unfolding entry_of kind_at
  entry-kind pin r c h t = absurd t
  entry-kind missing r c h t = named-at _ 0 r c missing refl (omega arith) (held-grid J fits missing r c h).1 refl
  entry-kind centre r c h t = named-at _ 6 r c centre refl (omega arith) (held-grid J fits centre r c h).1 refl
  entry-kind PlaceKind.outside r c h t = absurd h
  entry-kind nowhere r c h t = absurd h
  entry-kind (side north) r c h t = named-at _ 2 r c (side north) refl (omega arith) (held-grid J fits (side north) r c h).1 refl
  entry-kind (side east) r c h t = named-at _ 3 r c (side east) refl (omega arith) (held-grid J fits (side east) r c h).1 refl
  entry-kind (side south) r c h t = named-at _ 4 r c (side south) refl (omega arith) (held-grid J fits (side south) r c h).1 refl
  entry-kind (side west) r c h t = named-at _ 5 r c (side west) refl (omega arith) (held-grid J fits (side west) r c h).1 refl

  -- a step that may be taken neither way
  abbrev Shut : Step → Type 0
  Shut s = (may J s ≡ false) × (may J (turn s) ≡ false)

  -- the direct exit of a missing pin
  missing-shut : (r c : ℕ) → T (is_missing J r c) → Shut (step_of (8 * spot 1 r c + 4))
  unfolding is_missing is_chosen
  missing-shut r c h =
      let (a, b) = held-grid J fits missing r c h in
      let e : step_of (8 * spot 1 r c + 4) ≡ go direct r c = (slots_at (takes-pin r c a b) 4 (go direct r c) refl).step in
      let m : J.mark r c ≡ 2 = eqb→eq (J.mark r c) 2 (and_right (is_pin J r c) (eqb (J.mark r c) 2) h) in
      let n : eqb (J.mark r c) 1 ≡ false = ne_eqb (J.mark r c) 1 (λ q. absurd (omega arith)) in
      subst Shut (sym e) (direct-go J r c ∙ ap (λ (b : Bool). (is_pin J r c && b) && on_rim J r c) n ∙ ap (λ (b : Bool). b && on_rim J r c) (and-false (is_pin J r c)), direct-come J r c)

  kind-slots : (p : PlaceKind) (r c k : ℕ) → T (holds J p r c) → k < 8 → T (is_link_dart (8 * exit_of p r c + k))
      → (k < length (around_of p r c)) ⊎ Shut (step_of (8 * exit_of p r c + k))
  unfolding below code_of codes carries exit_of
  kind-slots pin r c k h l t = inl (below-slots 1 5 tt _ r c k refl (omega arith) l t)
  kind-slots missing r c k h l t = by (below_or k 4)
    where
      by : (k < 4) ⊎ (4 ≤ k) → (k < 4) ⊎ Shut (step_of (8 * spot 1 r c + k))
      by (inl m) = inl m
      by (inr m) =
          let e : 4 ≡ k = omega (arith, below-slots 1 5 tt _ r c k refl (omega arith) l t) in
          inr (subst (λ (j : ℕ). Shut (step_of (8 * spot 1 r c + j))) e (missing-shut r c h))
  kind-slots centre r c k h l t = inl (below-slots 7 4 tt _ r c k refl (omega arith) l t)
  kind-slots PlaceKind.outside r c k h l t = absurd h
  kind-slots nowhere r c k h l t = absurd h
  kind-slots (side north) r c k h l t = inl (below-slots 2 5 tt _ r c k refl (omega arith) l t)
  kind-slots (side east) r c k h l t = inl (below-slots 3 5 tt _ r c k refl (omega arith) l t)
  kind-slots (side south) r c k h l t = inl (below-slots 4 5 tt _ r c k refl (omega arith) l t)
  kind-slots (side west) r c k h l t = inl (below-slots 5 5 tt _ r c k refl (omega arith) l t)

  -- the link of a slot past the steps around the place may be taken neither way
  pub slot-shut : (x : Place) → T (is_place J x) → (k : ℕ) → k < 8 → T (is_link_dart (8 * exit x + k)) → get_elem? (around x) k ≡ none
      → Shut (step_of (8 * exit x + k))
  slot-shut x t k l h n = by (kind-slots x.kind x.row x.column k t l h)
    where
      by : (k < length (around x)) ⊎ Shut (step_of (8 * exit x + k)) → Shut (step_of (8 * exit x + k))
      by (inl m) = let (s, e) = entry-there (around x) k m in absurd (none-some s (sym n ∙ e))
      by (inr z) = z

  -- ---- where a dart leads

  module _ (d : ℕ) (l : d < darts) (t : T (is_link_dart d)) (m : T (may J (step_of d))) where
    pub comes-outside : outside J (rev d / 8) ≡ true → head J (step_of d) ≡ the_outside
    unfolding EndsAt
    comes-outside e = by (link-head J fits d l t m)
      where
        by : EndsAt J (head J (step_of d)) (rev d / 8)
            → head J (step_of d) ≡ the_outside
        by (inl (p, q)) = absurd (spot-inside J fits (rev d / 8) (head J (step_of d), p, inl (sym q)) (so e))
        by (inr (p, q)) = p

    pub comes-inside : outside J (rev d / 8) ≡ false → T (is_place J (head J (step_of d))) × (entry (head J (step_of d)) ≡ rev d / 8)
    unfolding EndsAt
    comes-inside e = by (link-head J fits d l t m)
      where
        by : EndsAt J (head J (step_of d)) (rev d / 8)
            → T (is_place J (head J (step_of d))) × (entry (head J (step_of d)) ≡ rev d / 8)
        by (inl (p, q)) = (p, q)
        by (inr (p, q)) = absurd (subst T e q)

    -- the place that it leads to, by the spot
    pub head-named : outside J (rev d / 8) ≡ false → Named (rev d / 8) (head J (step_of d)).kind (head J (step_of d)).row (head J (step_of d)).column
    head-named e =
        let x = head J (step_of d) in
        let (p, q) = comes-inside e in
        subst (λ (u : ℕ). Named u x.kind x.row x.column) q (entry-kind x.kind x.row x.column p (may-enters J (step_of d) m))

    -- the slot of its exit by which the wire came
    pub head-slot : T (is_place J (head J (step_of d))) → (exit (head J (step_of d)) ≡ dart_of (turn (step_of d)) / 8)
        × (get_elem? (around (head J (step_of d))) (dart_of (turn (step_of d)) % 8) ≡ some (turn (step_of d)))
    head-slot p =
        let s = turn (step_of d) in
        let e : head J (turn s) ≡ head J (step_of d) = ap (head J) (turn-turn (step_of d)) in
        let v = leaves J s.link.kind s.forth s.link.row s.link.column (subst (λ (x : Place). T (is_place J x)) (sym e) p) in
        subst (λ (x : Place). (exit x ≡ dart_of s / 8) × (get_elem? (around x) (dart_of s % 8) ≡ some s)) e (v.spot, v.slot)

    -- the place that a dart to the outside leaves, by the dart's spot
    pub tail-named : head J (step_of d) ≡ the_outside → kind_at (d / 8 % 8) ≡ (tail J (step_of d)).kind
    tail-named e =
        let s = step_of d in
        let q = (link-tail J fits d l t m).0 in
        subst (λ (u : ℕ). kind_at (u % 8) ≡ (tail J s).kind) q
        (outward J s.link.kind s.forth s.link.row s.link.column e (may-leaves J s m))
