-- What the marks take out is what request K5 says: the wires that meet the edited pin, or a place of the edited tile, or have the highest lanes of the edited
-- side. So the record that is left is that of `mark_left`, `close_left` or `laid_left`, of which `keep` proves that every other wire keeps its places. For any
-- places: `left-avoids`. Assumes nothing.
use Rattle.std.specs.Prelude.{◌≡◌, ◌≢◌, ◌⊎◌, Bool, true, false, ◌&&◌, eqb, ltb, length, get_or, set, replicate}
use Rattle.std.proofs.Math.Path.{refl, ap, ap₂, subst, fun_ext}
use Rattle.std.proofs.Common.{sym, ◌∙◌, eqb→eq, leb→le, ltb→lt, le→leb, lt-ltb}
use Rattle.std.proofs.Math.Logic.{inl, inr}
use Rattle.std.proofs.Math.Bool.{not}
use mathlib.Core.List.Memᴰ
use mathlib.Core.List.{List, [], ◌∷◌, Memᴰ}
use Rattle.std.proofs.Math.Option.{Option, none, some}
use Prim.Native.Nat.{ℕ, ◌+◌, ◌-◌, ◌*◌, ◌≤◌, ◌<◌}
use native.Mathlib.Omega.{arith}
use Rattle.std.proofs.Math.Dec.{T, leb}
use Rattle.sums.specs.Counting.{when, sum}
use Rattle.sums.specs.Sums.{sum-some, when-some, when-so}
use Rattle.sums.specs.Totals.{total-cong}
use Rattle.sums.specs.Tests.{so, and_left, and_right, and_both, both_ways, every, every-at}
use Rattle.model.specs.Job.{Job, Side, is_pin, is_open, is_chosen, is_missing}
use Rattle.model.specs.Links.{Compass, north, east, south, west, compass_code, PlaceKind, pin, missing, centre, side, Place, at, the_outside, is_place, is_entered, is_pin_kind, places, pin_at, place_code, Link, same_link, Step, head, turn}
use Rattle.model.specs.Near.{exit, exit_of}
use Rattle.model.specs.Record.{job_of, load, Legal}
use Rattle.model.specs.Wires.{Hop, hop_at, is_wired}
use Rattle.model.specs.Left.{hop_passes, hops_most, hop_count, wire_uses, left_loads, meets, avoids, tile_places, has_lane, link_of, laid_left}
use Rattle.model.proofs.Listed.{may-enters}
use Rattle.channel.specs.Map.{step_of}
use Rattle.channel.specs.Map.Places.{chosen-cell}
use Rattle.pairing.specs.Sequence.{blank}
use Rattle.wire.specs.Around.{step-lands}
use Rattle.wire.specs.Next.{Loaded, hop-may}
use Rattle.wire.specs.Threads.{wired-chosen}
use Rattle.wire.specs.Apart.{wire-loaded}
use Rattle.keep.specs.Edits.{Meets, starts, comes}
use Rattle.keep.specs.Staying.{sum-has, meets-is, hop-below}
use Rattle.takeout.specs.Entries.{in_tile, in-tile, Enters, entry}
use Rattle.takeout.specs.Lanes.{link-ways, link-way, link-turned}
use Rattle.takeout.specs.Marks.{is_marked, Has, Adds, OnLanes, Against, ByEnds, ComesTo, mark-same, mark-or, mark-kept, adds-as, adds-two, against-comes, comes-against}

-- only the wired pins matter
left-cong : (J : Job) (f : Step → ℕ) (a b : ℕ → ℕ → Bool) → ((q d : ℕ) → T (is_wired J f q d) → a q d ≡ b q d) → left_loads J f a ≡ left_loads J f b
unfolding left_loads
left-cong J f a b h = fun_ext (λ s. total-cong (places J) _ _ (λ x. one s x))
  where
    one : (s : Step) (x : Place) → when (is_pin_kind x && (is_wired J f x.row x.column && a x.row x.column)) (wire_uses J f x.row x.column s)
        ≡ when (is_pin_kind x && (is_wired J f x.row x.column && b x.row x.column)) (wire_uses J f x.row x.column s)
    one s x = ap (λ (t : Bool). when (is_pin_kind x && t) (wire_uses J f x.row x.column s)) (by (is_wired J f x.row x.column) refl)
      where
        by : (w : Bool) → is_wired J f x.row x.column ≡ w → (w && a x.row x.column) ≡ (w && b x.row x.column)
        by true e = h x.row x.column (so e)
        by false e = refl

every_of : {A : Type 0} (l : List A) (p : A → Bool) → ((x : A) → Memᴰ x l → T (p x)) → T (every l p)
unfolding every
every_of [] p h = tt
every_of (x ∷ l) p h = and_both (p x) (every l p) (h x (Memᴰ.head refl)) (every_of l p (λ y m. h y (Memᴰ.tail m)))

not_so : (b : Bool) → (T b → ⊥) → T (not b)
not_so true n = n tt
not_so false n = tt

so-so : (b : Bool) → T b → T (not b) → ⊥
so-so true t n = n
so-so false t n = t

-- the pins marked are those whose wires meet one of the places
pub record Marks (was taken : List ℕ) (xs : List Place) : Type 0 where
  pub met : (q d : ℕ) → T (is_wired (job_of was) (load was) q d) → T (is_marked taken q d) → (x : Place) × Memᴰ x xs × Meets (job_of was) (load was) q d x
  pub marked : (q d : ℕ) → T (is_wired (job_of was) (load was) q d) → (x : Place) → Memᴰ x xs → Meets (job_of was) (load was) q d x → T (is_marked taken q d)

-- b is a with marks at the pins of the wires that come to the place of which u is the exit
abbrev pub AddsAt : List ℕ → ℕ → List ℕ → List ℕ → Type 0
AddsAt was u a b = (x : Place) → T (is_place (job_of was) x) → exit x ≡ u → Adds was (ComesTo (job_of was) x) a b

-- no pin is marked
blank-unmarked : {A : Type 0} (n q d : ℕ) → T (is_marked (replicate n 0) q d) → A
blank-unmarked n q d t = absurd (omega (arith, eqb→eq (get_or (replicate n 0) (40 * q + d) 0) 1 t, blank n (40 * q + d)))

module _ (was : List ℕ) (g : Legal was) where
  abbrev J : Job
  J = job_of was

  abbrev f : Step → ℕ
  f = load was

  -- ---- place after place

  pub marks-none : (n : ℕ) → Marks was (replicate n 0) []
  marks-none n = record { met = λ q d w t. blank-unmarked n q d t; marked = λ q d w x m k. absurd (Memᴰ.not-nil m) }

  -- marks of places from none on
  pub marks-from : {xs : List Place} {a b taken : List ℕ} (n : ℕ) → a ≡ replicate n 0 → b ≡ taken → (Marks was a [] → Marks was b xs) → Marks was taken xs
  marks-from {xs} n e f m =
      subst (λ (l : List ℕ). Marks was l xs) f (m (subst (λ (l : List ℕ). Marks was l []) (sym e) (marks-none n)))

  -- a place more, where the marks added are those of the wires that meet it
  marks-more : (x : Place) (xs : List Place) (a b : List ℕ) → ((q d : ℕ) → T (is_marked a q d) → T (is_marked b q d))
      → ((q d : ℕ) → T (is_wired J f q d) → Meets J f q d x → T (is_marked b q d))
      → ((q d : ℕ) → T (is_wired J f q d) → T (is_marked b q d) → T (is_marked a q d) ⊎ Meets J f q d x) → Marks was a xs → Marks was b (x ∷ xs)
  marks-more x xs a b kept found only M = record { met = λ q d w t. met q d w (only q d w t); marked = λ q d w y m k. marked q d w y m k }
    where
      met : (q d : ℕ) → T (is_wired J f q d) → T (is_marked a q d) ⊎ Meets J f q d x → (y : Place) × Memᴰ y (x ∷ xs) × Meets J f q d y
      met q d w (inl t) = let (y, m, k) = M.met q d w t in (y, Memᴰ.tail m, k)
      met q d w (inr k) = (x, Memᴰ.head refl, k)

      marked : (q d : ℕ) → T (is_wired J f q d) → (y : Place) → Memᴰ y (x ∷ xs) → Meets J f q d y → T (is_marked b q d)
      marked q d w y (Memᴰ.head e) k = found q d w (subst (Meets J f q d) e k)
      marked q d w y (Memᴰ.tail m) k = kept q d (M.marked q d w y m k)

  -- a place that wires enter, with the marks of those that come there
  pub marks-place : (x : Place) (xs : List Place) (a b : List ℕ) → T (is_entered J x) → Adds was (ComesTo J x) a b → Marks was a xs → Marks was b (x ∷ xs)
  marks-place x xs a b t A = marks-more x xs a b A.kept (λ q d w k. found q d w k) (λ q d w k. only q d (A.only q d w k))
    where
      found : (q d : ℕ) → T (is_wired J f q d) → Meets J f q d x → T (is_marked b q d)
      found q d w (starts e) = absurd (subst (λ (y : Place). T (is_entered J y)) (sym e) t)
      found q d w (comes n h e k) = A.found q d w (n, h, e, k)

      only : (q d : ℕ) → T (is_marked a q d) ⊎ Has J f (ComesTo J x) q d → T (is_marked a q d) ⊎ Meets J f q d x
      only q d (inl m) = inl m
      only q d (inr (n, h, e, k)) = inr (comes n h e k)

  -- no wire comes to a pin that is chosen
  unentered : {A : Type 0} (q d n r c : ℕ) (h : Hop) → T (is_wired J f q d) → hop_at J f q d n ≡ some h → head J h.step ≡ at pin r c → A
  unentered q d n r c h w e k =
      absurd (subst (λ (y : Place). T (is_entered J y)) k (may-enters J h.step (hop-may J f g.sound.feasible h (wire-loaded J f g.sound q d n h w e))))

  pub marks-pin : (r c x : ℕ) (xs : List Place) (a : List ℕ) → x ≡ 40 * r + c → c < 40 → x < length a → Marks was a xs → Marks was (set a x 1) (at pin r c ∷ xs)
  marks-pin r c x xs a z b l = marks-more (at pin r c) xs a (set a x 1) (λ q d t. mark-kept a x q d l t) (λ q d w k. found q d w k) (λ q d w t. only q d w (mark-or a x q d t))
    where
      found : (q d : ℕ) → T (is_wired J f q d) → Meets J f q d (at pin r c) → T (is_marked (set a x 1) q d)
      found q d w (starts e) = mark-same a x q d l (omega (arith, z, ap (λ (y : Place). y.row) e, ap (λ (y : Place). y.column) e))
      found q d w (comes n h e k) = unentered q d n r c h w e k

      only : (q d : ℕ) → T (is_wired J f q d) → T (is_marked a q d) ⊎ (x ≡ 40 * q + d) → T (is_marked a q d) ⊎ Meets J f q d (at pin r c)
      only q d w (inl t) = inl t
      only q d w (inr e) =
          let m : d < 40 = (chosen-cell J g.values.array q d (wired-chosen J f q d w)).1 in
          let u : q ≡ r = omega arith in
          let v : d ≡ c = omega arith in
          inr (starts (λ i. at pin (u i) (v i)))

  -- what is no place meets no wire
  pub marks-nowhere : (x : Place) (xs : List Place) (a : List ℕ) → place_code x.kind ≢ 3 → (T (is_place J x) → ⊥) → Marks was a xs → Marks was a (x ∷ xs)
  marks-nowhere x xs a o n = marks-more x xs a a (λ q d t. t) (λ q d w k. absurd (unmet q d w k)) (λ q d w t. inl t)
    where
      unmet : (q d : ℕ) → T (is_wired J f q d) → Meets J f q d x → ⊥
      unmet q d w (starts e) = n (subst (λ (y : Place). T (is_place J y)) e (wired-chosen J f q d w))
      unmet q d w (comes m h e k) = by (step-lands J h.step (hop-may J f g.sound.feasible h (wire-loaded J f g.sound q d m h w e)))
        where
          by : (head J h.step ≡ the_outside) ⊎ T (is_place J (head J h.step)) → ⊥
          by (inl z) = o (ap (λ (y : Place). place_code y.kind) (sym k ∙ z))
          by (inr p) = n (subst (λ (y : Place). T (is_place J y)) k p)

  -- what is left of the wires where those marked are taken out
  pub left-avoids : (xs : List Place) (taken : List ℕ) → Marks was taken xs → left_loads J f (λ q d. not (is_marked taken q d)) ≡ left_loads J f (avoids J f xs)
  unfolding avoids
  left-avoids xs taken M =
      left-cong J f (λ q d. not (is_marked taken q d)) (avoids J f xs)
      (λ q d w. both_ways (not (is_marked taken q d)) (every xs (λ x. not (meets J f x q d))) (to q d w) (of q d w))
    where
      to : (q d : ℕ) → T (is_wired J f q d) → T (not (is_marked taken q d)) → T (every xs (λ x. not (meets J f x q d)))
      to q d w n =
          every_of xs (λ x. not (meets J f x q d))
          (λ x m. not_so (meets J f x q d) (λ t. so-so (is_marked taken q d) (M.marked q d w x m ((meets-is J f g.sound x q d w).0 t)) n))

      of : (q d : ℕ) → T (is_wired J f q d) → T (every xs (λ x. not (meets J f x q d))) → T (not (is_marked taken q d))
      of q d w e =
          not_so (is_marked taken q d)
          (λ t. let (x, m, k) = M.met q d w t in
          so-so (meets J f x q d) ((meets-is J f g.sound x q d w).1 k) (every-at xs (λ x. not (meets J f x q d)) e m))

  -- ---- a pin

  -- the pin's place, by its mark
  abbrev place_by : ℕ → ℕ → ℕ → Place
  place_by r c n = elim (eqb n 2) as (λ _. Place) [ true ↦ at missing r c | false ↦ at pin r c ]

  missing_at : (r c : ℕ) → T (is_missing J r c) → pin_at J r c ≡ at missing r c
  unfolding is_missing
  missing_at r c t = ap (place_by r c) (eqb→eq (J.mark r c) 2 (and_right (is_pin J r c) (eqb (J.mark r c) 2) t))

  chosen_at : (r c : ℕ) → T (is_chosen J r c) → pin_at J r c ≡ at pin r c
  unfolding is_chosen
  chosen_at r c t = ap (place_by r c) (eqb→eq (J.mark r c) 1 (and_right (is_pin J r c) (eqb (J.mark r c) 1) t))

  module _ (r c : ℕ) (xs : List Place) (a b : List ℕ) (M : Marks was a xs) where
    pub pin-chosen : (x : ℕ) → is_chosen J r c ≡ true → x ≡ 40 * r + c → c < 40 → x < length a → b ≡ set a x 1 → Marks was b (pin_at J r c ∷ xs)
    pin-chosen x t z m l e =
        subst (λ (y : Place). Marks was b (y ∷ xs)) (sym (chosen_at r c (so t))) (subst (λ (k : List ℕ). Marks was k (at pin r c ∷ xs)) (sym e) (marks-pin r c x xs a z m l M))

    pub pin-missing : (u : ℕ) → is_missing J r c ≡ true → u ≡ exit (at pin r c) → AddsAt was u a b → Marks was b (pin_at J r c ∷ xs)
    unfolding exit_of
    pin-missing u t e A =
        subst (λ (y : Place). Marks was b (y ∷ xs)) (sym (missing_at r c (so t))) (marks-place (at missing r c) xs a b (so t) (A (at missing r c) (so t) (sym e)) M)

  -- neither
  pub pin-idle : (r c : ℕ) (xs : List Place) (a : List ℕ) → is_chosen J r c ≡ false → is_missing J r c ≡ false → Marks was a xs → Marks was a (pin_at J r c ∷ xs)
  pin-idle r c xs a t k M = by (eqb (J.mark r c) 2)
    where
      by : (b : Bool) → Marks was a (elim b as (λ _. Place) [ true ↦ at missing r c | false ↦ at pin r c ] ∷ xs)
      by true = marks-nowhere (at missing r c) xs a (λ e. omega arith) (λ p. subst T k p) M
      by false = marks-nowhere (at pin r c) xs a (λ e. omega arith) (λ p. subst T t p) M

  -- ---- a tile

  module _ (r c : ℕ) where
    -- its centre alone
    pub centre-closed : (a : List ℕ) → is_open J r c ≡ false → Marks was a [] → Marks was a (at centre r c ∷ [])
    centre-closed a e = marks-nowhere (at centre r c) [] a (λ z. omega arith) (λ p. subst T e p)

    pub centre-open : (a b : List ℕ) → is_open J r c ≡ true → AddsAt was (8 * (41 + 40 * r + c) + 7) a b → Marks was a [] → Marks was b (at centre r c ∷ [])
    unfolding exit_of
    centre-open a b t A = marks-place (at centre r c) [] a b (so t) (A (at centre r c) (so t) (omega arith))

    pub tile-closed : (a : List ℕ) → is_open J r c ≡ false → Marks was a [] → Marks was a (tile_places r c)
    tile-closed a e M =
        place (side north) (λ p. p) (λ z. omega arith) _ (place (side east) (λ p. p) (λ z. omega arith) _
        (place (side south) (λ p. p) (λ z. omega arith) _ (place (side west) (λ p. p) (λ z. omega arith) _ (centre-closed a e M))))
      where
        place : (k : PlaceKind) → (T (is_place J (at k r c)) → T (is_open J r c)) → place_code k ≢ 3 → (xs : List Place) → Marks was a xs → Marks was a (at k r c ∷ xs)
        place k held o xs = marks-nowhere (at k r c) xs a o (λ p. subst T e (held p))

    -- by one of the links that lead into the tile
    abbrev Into : Hop → Type 0
    Into h = (d : Compass) × ByEnds (8 * (41 + 40 * r + c) + (2 + compass_code d)) h

    -- what holds of the five holds of each
    tile-by : (P : Place → Type 0) → ((d : Compass) → P (at (side d) r c)) → P (at centre r c) → (x : Place) → Memᴰ x (tile_places r c) → P x
    tile-by P sides mid x (Memᴰ.head e) = subst P (sym e) (sides north)
    tile-by P sides mid x (Memᴰ.tail (Memᴰ.head e)) = subst P (sym e) (sides east)
    tile-by P sides mid x (Memᴰ.tail (Memᴰ.tail (Memᴰ.head e))) = subst P (sym e) (sides south)
    tile-by P sides mid x (Memᴰ.tail (Memᴰ.tail (Memᴰ.tail (Memᴰ.head e)))) = subst P (sym e) (sides west)
    tile-by P sides mid x (Memᴰ.tail (Memᴰ.tail (Memᴰ.tail (Memᴰ.tail (Memᴰ.head e))))) = subst P (sym e) mid
    tile-by P sides mid x (Memᴰ.tail (Memᴰ.tail (Memᴰ.tail (Memᴰ.tail (Memᴰ.tail m))))) = absurd (Memᴰ.not-nil m)

    at_side_lem : (d : Compass) → Memᴰ (at (side d) r c) (tile_places r c)
    at_side_lem north = Memᴰ.head refl
    at_side_lem east = Memᴰ.tail (Memᴰ.head refl)
    at_side_lem south = Memᴰ.tail (Memᴰ.tail (Memᴰ.head refl))
    at_side_lem west = Memᴰ.tail (Memᴰ.tail (Memᴰ.tail (Memᴰ.head refl)))

    module _ (t : is_open J r c ≡ true) where
      into-comes : (h : Hop) → Loaded f h → (d : Compass) → ByEnds (8 * (41 + 40 * r + c) + (2 + compass_code d)) h → head J h.step ≡ at (side d) r c
      unfolding exit_of
      into-comes h l d (inl k) =
          let u : ℕ = 8 * (41 + 40 * r + c) + (2 + compass_code d) in
          let z : 8 * u ≡ 8 * u + 0 = omega arith in
          against-comes was g (at (side d) r c) (so t) u refl h 0 (omega arith) l (subst (λ (n : ℕ). Against n h) z k)
      into-comes h l d (inr k) = against-comes was g (at (side d) r c) (so t) (8 * (41 + 40 * r + c) + (2 + compass_code d)) refl h 4 (omega arith) l k

      enters-into : (h : Hop) (d : Compass) → Enters (at (side d) r c) h → Into h
      unfolding exit_of
      enters-into h d (inl k) =
          let u : ℕ = 8 * (41 + 40 * r + c) + (2 + compass_code d) in
          let z : 8 * u + 0 ≡ 8 * u = omega arith in
          (d, inl (subst (λ (n : ℕ). Against n h) z (comes-against was g (at (side d) r c) (so t) u refl h 0 k)))
      enters-into h d (inr k) = (d, inr (comes-against was g (at (side d) r c) (so t) (8 * (41 + 40 * r + c) + (2 + compass_code d)) refl h 4 k))

      marks-into : (a b : List ℕ) → Adds was Into a b → Marks was a [] → Marks was b (tile_places r c)
      marks-into a b A M = record { met = λ q d w k. met q d w (A.only q d w k); marked = λ q d w x m k. marked q d w x m k }
        where
          met : (q d : ℕ) → T (is_wired J f q d) → T (is_marked a q d) ⊎ Has J f Into q d → (x : Place) × Memᴰ x (tile_places r c) × Meets J f q d x
          met q d w (inl k) = let (x, m, n) = M.met q d w k in absurd (Memᴰ.not-nil m)
          met q d w (inr (n, h, l, (e, k))) = (at (side e) r c, at_side_lem e, comes n h l (into-comes h (wire-loaded J f g.sound q d n h w l) e k))

          marked : (q d : ℕ) → T (is_wired J f q d) → (x : Place) → Memᴰ x (tile_places r c) → Meets J f q d x → T (is_marked b q d)
          marked q d w x m (starts e) =
              absurd (subst (λ (y : Place). T (in_tile r c y)) (sym e)
              (tile-by (λ y. T (in_tile r c y)) (λ z. in-tile r c (side z) tt) (in-tile r c centre tt) x m))
          marked q d w x m (comes n h l k) =
              let i = tile-by (λ y. T (in_tile r c y)) (λ z. in-tile r c (side z) tt) (in-tile r c centre tt) x m in
              let p = tile-by (λ y. T (is_place J y)) (λ z. so t) (so t) x m in
              let E = entry J f g.sound r c q d n h w l (subst (λ (y : Place). T (in_tile r c y)) (sym k) i) (subst (λ (y : Place). T (is_place J y)) (sym k) p) in
              A.found q d w (E.index, E.hop, E.listed, enters-into E.hop E.point E.enters)

    -- side after side
    pub tile-open : (m w s e z : List ℕ) → is_open J r c ≡ true → Adds was (ByEnds (8 * (41 + 40 * r + c) + 5)) m w → Adds was (ByEnds (8 * (41 + 40 * r + c) + 4)) w s
        → Adds was (ByEnds (8 * (41 + 40 * r + c) + 3)) s e → Adds was (ByEnds (8 * (41 + 40 * r + c) + 2)) e z → Marks was m [] → Marks was z (tile_places r c)
    tile-open m w s e z t W S E N =
        marks-into t m z
        (adds-as was g _ Into m z (λ h l k. to h k) (λ h l k. of h k) (adds-two was g _ _ m e z (adds-two was g _ _ m s e (adds-two was g _ _ m w s W S) E) N))
      where
        Four : Hop → Type 0
        Four h =
            ((ByEnds (8 * (41 + 40 * r + c) + 5) h ⊎ ByEnds (8 * (41 + 40 * r + c) + 4) h) ⊎ ByEnds (8 * (41 + 40 * r + c) + 3) h) ⊎ ByEnds (8 * (41 + 40 * r + c) + 2) h

        to : (h : Hop) → Four h → Into h
        to h (inl (inl (inl k))) = (west, k)
        to h (inl (inl (inr k))) = (south, k)
        to h (inl (inr k)) = (east, k)
        to h (inr k) = (north, k)

        of : (h : Hop) → Into h → Four h
        of h (north, k) = inr k
        of h (east, k) = inl (inr k)
        of h (south, k) = inl (inl (inr k))
        of h (west, k) = inl (inl (inl k))

  -- ---- a side

  -- a and b mark the lanes from the k-th on of the two darts of the side's link
  module _ (s : Side) (n d e k m : ℕ) (a b : List ℕ) (link : (step_of d).link ≡ link_of s) (back : step_of e ≡ turn (step_of d)) (limit : k ≡ J.O - n)
      (A : Adds was (OnLanes d k) (replicate m 0) a) (B : Adds was (OnLanes e k) a b) where
    abbrev high : Hop → Bool
    high h = same_link (step_of d).link h.step.link && leb k h.lane

    abbrev hits : ℕ → ℕ → ℕ → ℕ
    hits q p i = when (hop_passes high (hop_at J f q p i)) 1

    has-high : (q p : ℕ) → T (ltb 0 (sum (hops_most J f) (hits q p))) → Has J f (λ h. T (high h)) q p
    has-high q p t =
        let (i, l, z) = sum-some (hops_most J f) (hits q p) (ltb→lt 0 (sum (hops_most J f) (hits q p)) t) in
        by i (hop_at J f q p i) refl (when-some (hop_passes high (hop_at J f q p i)) 1 z).0
      where
        by : (i : ℕ) (o : Option Hop) → hop_at J f q p i ≡ o → T (hop_passes high o) → Has J f (λ h. T (high h)) q p
        by i none z t = absurd t
        by i (some h) z t = (i, h, z, t)

    high-has : (q p : ℕ) → T (is_wired J f q p) → Has J f (λ h. T (high h)) q p → T (ltb 0 (sum (hops_most J f) (hits q p)))
    high-has q p w (i, h, z, t) =
        so (lt-ltb 0 (sum (hops_most J f) (hits q p))
        (omega (
          arith,
          sum-has (hops_most J f) i (hits q p) (hop-below J f g.sound q p i h w z),
          when-so (hop_passes high (hop_at J f q p i)) 1 (subst (λ (o : Option Hop). T (hop_passes high o)) (sym z) t),
        )))

    to : (q p : ℕ) → T (is_wired J f q p) → T (is_marked b q p) → Has J f (λ h. T (high h)) q p
    to q p w t = second (B.only q p w t)
      where
        first : T (is_marked (replicate m 0) q p) ⊎ Has J f (OnLanes d k) q p → Has J f (λ h. T (high h)) q p
        first (inl u) = blank-unmarked m q p u
        first (inr (i, h, z, (u, v))) = (i, h, z, and_both (same_link (step_of d).link h.step.link) (leb k h.lane) (link-way (step_of d) h.step u) (le→leb k h.lane v))

        second : T (is_marked a q p) ⊎ Has J f (OnLanes e k) q p → Has J f (λ h. T (high h)) q p
        second (inl u) = first (A.only q p w u)
        second (inr (i, h, z, (u, v))) =
            (i, h, z, and_both (same_link (step_of d).link h.step.link) (leb k h.lane) (link-turned (step_of d) h.step (u ∙ back)) (le→leb k h.lane v))

    of : (q p : ℕ) → T (is_wired J f q p) → Has J f (λ h. T (high h)) q p → T (is_marked b q p)
    of q p w (i, h, z, t) = by (link-ways (step_of d) h.step (and_left (same_link (step_of d).link h.step.link) (leb k h.lane) t))
      where
        v : k ≤ h.lane
        v = leb→le k h.lane (and_right (same_link (step_of d).link h.step.link) (leb k h.lane) t)

        by : (h.step ≡ step_of d) ⊎ (h.step ≡ turn (step_of d)) → T (is_marked b q p)
        by (inl u) = B.kept q p (A.found q p w (i, h, z, (u, v)))
        by (inr u) = B.found q p w (i, h, z, (u ∙ sym back, v))

    pub lanes-left : left_loads J f (λ q p. not (is_marked b q p)) ≡ laid_left J f s n
    unfolding laid_left has_lane hop_count
    lanes-left =
        left-cong J f (λ q p. not (is_marked b q p)) (λ q p. not (ltb 0 (sum (hops_most J f) (hits q p))))
        (λ q p w. ap not (both_ways (is_marked b q p) (ltb 0 (sum (hops_most J f) (hits q p))) (λ t. high-has q p w (to q p w t)) (λ t. of q p w (has-high q p t))))
        ∙ ap₂
        (λ (l : Link) (o : ℕ). left_loads J f
        (λ q p. not (ltb 0 (sum (hops_most J f) (λ i. when (hop_passes (λ h. same_link l h.step.link && leb o h.lane) (hop_at J f q p i)) 1))))) link limit
