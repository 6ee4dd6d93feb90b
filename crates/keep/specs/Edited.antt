-- Request K5: the loads that are left when exactly the wires that meet some places are taken out, for any places whose limits change, and for the edited pin
-- or the places of the edited tile; for the centre of a tile whose D changes (K7), and for the missing pins where E is lowered (K9). Every other wire keeps its
-- places; and where an idle pin is marked or a closed tile opened, no wire meets what is edited, so the loads stay as they are. Assumes nothing.
use Rattle.std.specs.Prelude.{◌≡◌, ◌⊎◌, Bool}
use Rattle.std.proofs.Math.Path.{refl, ap, ap₂, subst}
use Rattle.std.proofs.Common.{sym, ◌∙◌, inl, inr, arith}
use Rattle.std.proofs.Math.Option.{some}
use Rattle.std.proofs.Math.Bool.{true, false, not, ◌&&◌}
use mathlib.Core.List.{List, [], ◌∷◌, Memᴰ}
use Prim.Native.Nat.{ℕ, ◌≤◌}
use Rattle.std.proofs.Math.Dec.{T, eqb, eqb→eq, eqb_refl}
use Rattle.sums.specs.Counting.{total}
use Rattle.sums.specs.Tests.{so, and_left, and_right, and_both, and-not, every, every-at, those-has}
use Rattle.model.specs.Job.{Job, is_pin, is_tile, is_open, is_chosen, marked, closed, diagonal_by, centre_limit, with_extra}
use Rattle.model.specs.Links.{Compass, north, east, south, west, PlaceKind, pin, missing, centre, outside, nowhere, side, Place, at, the_outside, is_place, pin_at, LinkKind, north_side, west_side, corner, spoke, leg, direct, Link, limit_of, limit, pass_of, pass, Step, turn, around, place_code, holds, is_missing_kind, places}
use Rattle.model.specs.Loads.{arrivals, Feasible, Sound}
use Rattle.model.specs.Wires.{is_wired}
use Rattle.model.specs.Left.{left_loads, meets, avoids, tile_places, mark_left, close_left, centre_left, missing_places, extra_left}
use Rattle.model.proofs.Own.{diagonal-other}
use Rattle.model.proofs.Listed.{place-listed}
use Rattle.wire.specs.Around.{step-lands}
use Rattle.wire.specs.Next.{hop-may}
use Rattle.wire.specs.Threads.{wired-chosen}
use Rattle.wire.specs.Apart.{wire-loaded}
use Rattle.keep.specs.Pins.{kept_loads, kept-sound}
use Rattle.keep.specs.Alike.{Bare, Alike, Both, place-both, bare-in}
use Rattle.keep.specs.Edits.{Meets, starts, comes, Avoided, place-bare, Keeps, alike-keeps, mark-keeps, close-keeps}
use Rattle.keep.specs.Staying.{meets-is, left-same, left-all}

-- J and K have the same pins and tiles
pub record SamePlaces (J K : Job) : Type 0 where
  pub rows : K.rows ≡ J.rows
  pub columns : K.columns ≡ J.columns
  pub marks : (r c : ℕ) → K.mark r c ≡ J.mark r c
  pub states : (r c : ℕ) → K.state r c ≡ J.state r c

-- a tile's D is a limit of its centre, and of nothing else
diagonal-limit : (J : Job) (r c d : ℕ) (k : LinkKind) (i j : ℕ) → limit_of (diagonal_by J r c d) k i j ≡ limit_of J k i j
unfolding limit_of
diagonal-limit J r c d north_side i j = refl
diagonal-limit J r c d west_side i j = refl
diagonal-limit J r c d (corner e) i j = refl
diagonal-limit J r c d (spoke e) i j = refl
diagonal-limit J r c d (leg e) i j = refl
diagonal-limit J r c d direct i j = refl

diagonal-pass : (J : Job) (r c d : ℕ) (k : PlaceKind) (i j : ℕ)
    → (pass_of (diagonal_by J r c d) k i j ≡ pass_of J k i j) ⊎ Memᴰ (at k i j) (at centre r c ∷ [])
diagonal-pass J r c d pin i j = inl refl
diagonal-pass J r c d missing i j = inl refl
diagonal-pass J r c d outside i j = inl refl
diagonal-pass J r c d nowhere i j = inl refl
diagonal-pass J r c d (side e) i j = inl refl
diagonal-pass J r c d centre i j = by (eqb i r && eqb j c) refl
  where
    by : (b : Bool) → (eqb i r && eqb j c) ≡ b
        → (pass_of (diagonal_by J r c d) centre i j ≡ pass_of J centre i j) ⊎ Memᴰ (at centre i j) (at centre r c ∷ [])
    by true e =
        let x : i ≡ r = eqb→eq i r (and_left (eqb i r) (eqb j c) (so e)) in
        let y : j ≡ c = eqb→eq j c (and_right (eqb i r) (eqb j c) (so e)) in
        inr (Memᴰ.head (λ t. at centre (x t) (y t)))
    by false e =
        inl (ap (λ (m : ℕ). some (centre_limit J.O m)) (diagonal-other J r c d i j (λ x y.
        subst T e (and_both (eqb i r) (eqb j c) (subst (λ (n : ℕ). T (eqb i n)) x (eqb_refl i)) (subst (λ (n : ℕ). T (eqb j n)) y (eqb_refl j))))))

-- a lower E leaves the limits of links
extra-limit : (J : Job) (e : ℕ) (k : LinkKind) (r c : ℕ) → limit_of (with_extra J e) k r c ≡ limit_of J k r c
unfolding limit_of
extra-limit J e north_side r c = refl
extra-limit J e west_side r c = refl
extra-limit J e direct r c = refl
extra-limit J e (corner d) r c = refl
extra-limit J e (spoke d) r c = refl
extra-limit J e (leg d) r c = refl

module _ (J : Job) (f : Step → ℕ) (S : Sound J f) where
  -- the wires that avoid places do not meet them
  avoided : (xs : List Place) (x : Place) → Memᴰ x xs → Avoided J f S (avoids J f xs) x
  unfolding avoids
  avoided xs x m q d w e met =
      let t : T (not (meets J f x q d)) = every-at xs (λ x. not (meets J f x q d)) (so e) m in
      and-not (meets J f x q d) (and_both (meets J f x q d) (not (meets J f x q d)) ((meets-is J f S x q d w).1 met) t)

  -- ---- the wires that avoid any places stay

  -- Where the wires that meet some places are taken out, and the job then changes only the limits of those places, every other wire keeps its places.
  pub places-keep : (xs : List Place) (K : Job) → SamePlaces J K → ((l : Link) → limit K l ≡ limit J l)
      → ((x : Place) → T (is_place J x) → (pass K x ≡ pass J x) ⊎ Memᴰ x xs) → Keeps J K f (left_loads J f (avoids J f xs)) (avoids J f xs)
  unfolding arrivals
  places-keep xs K same links passes =
      subst (λ (g : Step → ℕ). Keeps J K f g (avoids J f xs)) (left-same J f S (avoids J f xs))
      (alike-keeps J K f S (avoids J f xs) A (record { limits = λ s k e. L.limits s k (sym (links s.link) ∙ e); passing = within }))
    where
      g : Step → ℕ
      g = kept_loads J f S (avoids J f xs)

      L : Feasible J g
      L = (kept-sound J f S (avoids J f xs)).feasible

      A : Alike J K g
      A = record { rows = same.rows; columns = same.columns; pins = λ r c. inl (same.marks r c); tiles = λ r c. inl (same.states r c) }

      within : (x : Place) (k : ℕ) → T (is_place K x) → pass K x ≡ some k → arrivals g x ≤ k
      within x k p e = by (place-both J K g A x)
        where
          by : Both J K g A x ⊎ Bare g x → total (around x) (λ s. g (turn s)) ≤ k
          by (inr b) = omega (arith, bare-in J K g A x b)
          by (inl q) = at_place (passes x was)
            where
              was : T (is_place J x)
              was = subst T q.place p

              at_place : (pass K x ≡ pass J x) ⊎ Memᴰ x xs → total (around x) (λ s. g (turn s)) ≤ k
              at_place (inl z) = L.passing x k was (sym z ∙ e)
              at_place (inr m) = omega (arith, bare-in J K g A x (place-bare J f S (avoids J f xs) x was (avoided xs x m)))

  -- ---- the edits of a pin and of a tile

  -- "An edit takes out only the wires that start at the edited pin, pass the edited missing pin", "every other wire keeps its places".
  pub mark-edit : (r c m : ℕ) → Keeps J (marked J r c m) f (mark_left J f r c) (avoids J f (pin_at J r c ∷ []))
  unfolding mark_left
  mark-edit r c m =
      subst (λ (g : Step → ℕ). Keeps J (marked J r c m) f g (avoids J f (pin_at J r c ∷ []))) (left-same J f S (avoids J f (pin_at J r c ∷ [])))
      (mark-keeps J f S (avoids J f (pin_at J r c ∷ [])) r c m (avoided (pin_at J r c ∷ []) (pin_at J r c) (Memᴰ.head refl)))

  side-listed : (d : Compass) (r c : ℕ) → Memᴰ (at (side d) r c) (tile_places r c)
  side-listed north r c = Memᴰ.head refl
  side-listed east r c = Memᴰ.tail (Memᴰ.head refl)
  side-listed south r c = Memᴰ.tail (Memᴰ.tail (Memᴰ.head refl))
  side-listed west r c = Memᴰ.tail (Memᴰ.tail (Memᴰ.tail (Memᴰ.head refl)))

  centre-listed : (r c : ℕ) → Memᴰ (at centre r c) (tile_places r c)
  centre-listed r c = Memᴰ.tail (Memᴰ.tail (Memᴰ.tail (Memᴰ.tail (Memᴰ.head refl))))

  -- ".. or meet a place of the tile being closed."
  pub close-edit : (r c v : ℕ) → T (is_tile J r c) → Keeps J (closed J r c v) f (close_left J f r c) (avoids J f (tile_places r c))
  unfolding close_left
  close-edit r c v t =
      subst (λ (g : Step → ℕ). Keeps J (closed J r c v) f g (avoids J f (tile_places r c))) (left-same J f S (avoids J f (tile_places r c)))
      (close-keeps J f S (avoids J f (tile_places r c)) r c v t
      (avoided (tile_places r c) (at centre r c) (centre-listed r c), λ d. avoided (tile_places r c) (at (side d) r c) (side-listed d r c)))

  -- ---- K7: the edit of a tile's D

  -- "A changed value takes out the wires through that tile's centre": only the limit of that centre changes.
  pub diagonal-edit : (r c d : ℕ) → Keeps J (diagonal_by J r c d) f (centre_left J f r c) (avoids J f (at centre r c ∷ []))
  unfolding centre_left
  diagonal-edit r c d =
      places-keep (at centre r c ∷ []) (diagonal_by J r c d) (record { rows = refl; columns = refl; marks = λ i j. refl; states = λ i j. refl })
      (λ l. diagonal-limit J r c d l.kind l.row l.column) (λ x p. diagonal-pass J r c d x.kind x.row x.column)

  -- ---- K9: a lower E

  -- "Lowering E .. takes out every wire that passes a missing pin."
  pub extra-edit : (e : ℕ) → Keeps J (with_extra J e) f (extra_left J f) (avoids J f (missing_places J))
  unfolding extra_left missing_places
  extra-edit e = places-keep (missing_places J) (with_extra J e) same (λ l. extra-limit J e l.kind l.row l.column) passes
    where
      same : SamePlaces J (with_extra J e)
      same = record { rows = refl; columns = refl; marks = λ r c. refl; states = λ r c. refl }

      passes : (x : Place) → T (is_place J x) → (pass (with_extra J e) x ≡ pass J x) ⊎ Memᴰ x (missing_places J)
      passes x t = by x.kind x.row x.column t
        where
          by : (k : PlaceKind) (r c : ℕ) → T (holds J k r c) → (pass_of (with_extra J e) k r c ≡ pass_of J k r c) ⊎ Memᴰ (at k r c) (missing_places J)
          by missing r c u = inr (those-has is_missing_kind (places J) tt (place-listed J (at missing r c) u))
          by pin r c u = inl refl
          by centre r c u = inl refl
          by outside r c u = inl refl
          by nowhere r c u = inl refl
          by (side d) r c u = inl refl

  -- ---- edits that take out none

  -- a wire meets places and the outside only
  meets-places : (q d : ℕ) (x : Place) → T (is_wired J f q d) → Meets J f q d x → (x ≡ the_outside) ⊎ T (is_place J x)
  meets-places q d x w (starts e) = inr (subst (λ (y : Place). T (is_place J y)) e (wired-chosen J f q d w))
  meets-places q d x w (comes n h e k) =
      subst (λ (y : Place). (y ≡ the_outside) ⊎ T (is_place J y)) k
      (step-lands J h.step (hop-may J f S.feasible h (wire-loaded J f S q d n h w e)))

  -- so none meets what is not a place
  abbrev NoPlace : Place → Type 0
  NoPlace x = (x ≡ the_outside) ⊎ T (is_place J x) → ⊥

  abbrev NoPlaces : List Place → Type 0
  NoPlaces [] = Unit {0}
  NoPlaces (x ∷ xs) = NoPlace x × NoPlaces xs

  avoids-none : (xs : List Place) → NoPlaces xs → (q d : ℕ) → T (is_wired J f q d) → avoids J f xs q d ≡ true
  unfolding avoids every
  avoids-none [] n q d w = refl
  avoids-none (x ∷ xs) n q d w = ap₂ ◌&&◌ (no (meets J f x q d) refl) (avoids-none xs n.1 q d w)
    where
      no : (b : Bool) → meets J f x q d ≡ b → not b ≡ true
      no true e = absurd (n.0 (meets-places q d x w ((meets-is J f S x q d w).0 (so e))))
      no false e = refl

  -- what is not the outside, by its code
  not-outside : (x : Place) → (place_code x.kind ≡ 3 → ⊥) → (T (is_place J x) → ⊥) → NoPlace x
  not-outside x n p (inl e) = n (ap (λ (y : Place). place_code y.kind) e)
  not-outside x n p (inr t) = p t

  -- "Choosing an idle pin and making an idle pin missing take out none."
  pub idle-stays : (r c : ℕ) → J.mark r c ≡ 0 → (q d : ℕ) → T (is_wired J f q d) → avoids J f (pin_at J r c ∷ []) q d ≡ true
  unfolding is_chosen
  idle-stays r c e = avoids-none (pin_at J r c ∷ []) (none, tt)
    where
      same : at pin r c ≡ pin_at J r c
      same = ap (λ (n : ℕ). elim (eqb n 2) as (λ _. Place) [ true ↦ at missing r c | false ↦ at pin r c ]) (sym e)

      none : NoPlace (pin_at J r c)
      none =
          subst (λ (x : Place). NoPlace x) same
          (not-outside (at pin r c) (λ z. omega arith)
          (λ t. omega (arith, e, eqb→eq (J.mark r c) 1 (and_right (is_pin J r c) (eqb (J.mark r c) 1) t))))

  pub idle-keeps : (r c : ℕ) → J.mark r c ≡ 0 → (s : Step) → mark_left J f r c s ≡ f s
  unfolding mark_left
  idle-keeps r c e = left-all J f S (avoids J f (pin_at J r c ∷ [])) (idle-stays r c e)

  -- "Opening a tile takes out none."
  pub open_stays : (r c : ℕ) → J.state r c ≡ 1 → (q d : ℕ) → T (is_wired J f q d) → avoids J f (tile_places r c) q d ≡ true
  unfolding is_open
  open_stays r c e =
      avoids-none (tile_places r c) (
        not-outside (at (side north) r c) (λ z. omega arith) shut,
        (
          not-outside (at (side east) r c) (λ z. omega arith) shut,
          (
            not-outside (at (side south) r c) (λ z. omega arith) shut,
            (
              not-outside (at (side west) r c) (λ z. omega arith) shut,
              (not-outside (at centre r c) (λ z. omega arith) shut, tt),
            ),
          ),
        ),
      )
    where
      shut : T (is_tile J r c && eqb (J.state r c) 0) → ⊥
      shut t = omega (arith, e, eqb→eq (J.state r c) 0 (and_right (is_tile J r c) (eqb (J.state r c) 0) t))

  pub open-keeps : (r c : ℕ) → J.state r c ≡ 1 → (s : Step) → close_left J f r c s ≡ f s
  unfolding close_left
  open-keeps r c e = left-all J f S (avoids J f (tile_places r c)) (open_stays r c e)
