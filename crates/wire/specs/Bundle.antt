-- All threads, in the order of the places: one for each wired pin. Every loaded hop stands in them, and none twice: within a thread no place is met twice,
-- and two threads that share a hop have one pin. Assumes nothing.
use Rattle.std.specs.Prelude.{◌≡◌, ◌⊎◌, Bool, ◌&&◌, ℕ, ◌+◌, ◌≤◌}
use Rattle.std.proofs.Math.Path.{refl, ap}
use Rattle.std.proofs.Common.{sym, ap₂, subst, ◌∙◌, inl, inr, eqb→eq}
use Rattle.std.proofs.Math.Bool.{true, false}
use mathlib.Core.List.Memᴰ
use mathlib.Core.List.{List, [], ◌∷◌, ◌++◌, Memᴰ}
use Rattle.std.proofs.Math.Option.{some}
use native.Mathlib.Omega.{arith}
use Rattle.std.proofs.Math.Dec.{T}
use Rattle.std.proofs.Math.ListN.{length, length-append}
use Rattle.sums.specs.Counting.{when, total, count}
use Rattle.sums.specs.Tests.{so, and_left, and_right, count-some, total-count-some}
use Rattle.sums.specs.Sums.{when-so}
use Rattle.sums.specs.Totals.{total-le, total-append, total-map}
use Rattle.sums.specs.Entries.{has-entry, entry-member}
use Rattle.model.specs.Job.{Job}
use Rattle.model.specs.Links.{compass_code, PlaceKind, pin, missing, centre, outside, nowhere, side, Place, at, is_pin_kind, places, same_place, Step, head}
use Rattle.model.specs.Loads.{Sound}
use Rattle.model.specs.Wires.{Hop, hop_at, is_wired}
use Rattle.model.proofs.Listed.{place-listed}
use Rattle.model.proofs.Same.{same_place_lem}
use Rattle.wire.specs.Next.{Loaded}
use Rattle.wire.specs.Follow.{goes-loaded}
use Rattle.wire.specs.Apart.{lane-one}
use Rattle.wire.specs.Filled.{OnWire, lane-wired}
use Rattle.wire.specs.Counts.{same_hop, same-hop-eq}
use Rattle.wire.specs.Places.{places-once}
use Rattle.wire.specs.Threads.{Thread, hops, wired-chosen, thread, thread-wire, thread-once}

pub pin-place : (x : Place) → T (is_pin_kind x) → at pin x.row x.column ≡ x
pin-place x = by x.kind x.row x.column
  where
    by : (k : PlaceKind) (r c : ℕ) → T (is_pin_kind (at k r c)) → at pin r c ≡ at k r c
    by pin r c t = refl
    by missing r c t = absurd t
    by centre r c t = absurd t
    by outside r c t = absurd t
    by nowhere r c t = absurd t
    by (side d) r c t = absurd (omega (arith, eqb→eq (5 + compass_code d) 0 t))

-- a wired pin with its thread
pub record Strand (J : Job) (f : Step → ℕ) : Type 0 where
  pub row : ℕ
  pub column : ℕ
  pub wired : T (is_wired J f row column)
  pub thread : Thread J f row column

abbrev pub pin_of : {J : Job} {f : Step → ℕ} → Strand J f → Place
pin_of t = at pin t.row t.column

abbrev pub strand_hops : {J : Job} {f : Step → ℕ} → Strand J f → List Hop
strand_hops t = hops t.thread

module _ (J : Job) (f : Step → ℕ) (S : Sound J f) where
  abbrev pub wired_pin : Place → Bool
  wired_pin x = is_pin_kind x && is_wired J f x.row x.column

  strand_at : (x : Place) (b : Bool) → wired_pin x ≡ b → List (Strand J f)
  strand_at x true e =
      let w : T (is_wired J f x.row x.column) = and_right (is_pin_kind x) (is_wired J f x.row x.column) (so e) in
      record { row = x.row; column = x.column; wired = w; thread = thread J f S x.row x.column w } ∷ []
  strand_at x false e = []

  pub strands : List Place → List (Strand J f)
  strands [] = []
  strands (x ∷ l) = strand_at x (wired_pin x) refl ++ strands l

  -- ---- one for each wired pin

  pub strands-count : (l : List Place) → length (strands l) ≡ count l wired_pin
  unfolding strands strand_at total
  strands-count [] = refl
  strands-count (x ∷ l) = omega (arith, length-append (strand_at x (wired_pin x) refl) (strands l), by (wired_pin x) refl, strands-count l)
    where
      by : (b : Bool) (e : wired_pin x ≡ b) → length (strand_at x b e) ≡ when b 1
      by true e = refl
      by false e = refl

  -- a number of each strand that is one of its pin
  pub strands-total : (l : List Place) (g : Strand J f → ℕ) (h : Place → ℕ) → ((t : Strand J f) → g t ≡ h (pin_of t))
      → total (strands l) g ≡ total l (λ x. when (wired_pin x) (h x))
  unfolding strands strand_at total
  strands-total [] g h e = refl
  strands-total (x ∷ l) g h e = omega (arith, total-append (strand_at x (wired_pin x) refl) (strands l) g, by (wired_pin x) refl, strands-total l g h e)
    where
      by : (b : Bool) (q : wired_pin x ≡ b) → total (strand_at x b q) g ≡ when b (h x)
      by true q = omega (
        arith,
        e (record {
          row = x.row;
          column = x.column;
          wired = and_right (is_pin_kind x) (is_wired J f x.row x.column) (so q);
          thread = thread J f S x.row x.column (and_right (is_pin_kind x) (is_wired J f x.row x.column) (so q));
        }),
        ap h (pin-place x (and_left (is_pin_kind x) (is_wired J f x.row x.column) (so q))),
      )
      by false q = refl

  pub strands-at : (x : Place) (l : List Place) → count (strands l) (λ t. same_place x (pin_of t)) ≤ count l (same_place x)
  unfolding strands strand_at total
  strands-at x [] = omega arith
  strands-at x (y ∷ l) =
      omega (arith, total-append (strand_at y (wired_pin y) refl) (strands l) (λ t. when (same_place x (pin_of t)) 1), by (wired_pin y) refl, strands-at x l)
    where
      by : (b : Bool) (e : wired_pin y ≡ b) → count (strand_at y b e) (λ t. same_place x (pin_of t)) ≤ when (same_place x y) 1
      by true e =
          omega (
            arith,
            ap (λ (z : Place). when (same_place x z) 1) (pin-place y (and_left (is_pin_kind y) (is_wired J f y.row y.column) (so e))),
          )
      by false e = omega arith

  abbrev Has : Place → List (Strand J f) → Type 0
  Has x l = (t : Strand J f) × Memᴰ t l × (t.row ≡ x.row) × (t.column ≡ x.column)

  pub strands-has : (x : Place) (l : List Place) → T (wired_pin x) → Memᴰ x l → Has x (strands l)
  unfolding strands strand_at
  strands-has x [] w x3 = elim x3 [ ]
  strands-has x (y ∷ l) w (Memᴰ.head e) = by (wired_pin y) refl (subst (λ (z : Place). T (wired_pin z)) e w)
    where
      by : (b : Bool) (q : wired_pin y ≡ b) → T b → Has x (strand_at y b q ++ strands l)
      by true q t = (_, Memᴰ.head refl, ap (λ (z : Place). z.row) (sym e), ap (λ (z : Place). z.column) (sym e))
      by false q t = absurd t
  strands-has x (y ∷ l) w (Memᴰ.tail m) =
      let (t, n, a, b) = strands-has x l w m in
      (t, Memᴰ.append_right (strand_at y (wired_pin y) refl) n, a, b)

  -- ---- their hops

  pub hops_of : List (Strand J f) → List Hop
  hops_of [] = []
  hops_of (t ∷ ts) = strand_hops t ++ hops_of ts

  pub hops-total : (ts : List (Strand J f)) (g : Hop → ℕ) → total (hops_of ts) g ≡ total ts (λ t. total (strand_hops t) g)
  unfolding hops_of total
  hops-total [] g = refl
  hops-total (t ∷ ts) g = omega (arith, total-append (strand_hops t) (hops_of ts) g, hops-total ts g)

  pub hops-loaded : (ts : List (Strand J f)) (h : Hop) → Memᴰ h (hops_of ts) → Loaded f h
  unfolding hops_of
  hops-loaded [] h m = absurd (Memᴰ.not-nil m)
  hops-loaded (t ∷ ts) h m = by (Memᴰ.append_cases (strand_hops t) m) (hops-loaded ts h)
    where
      by : Memᴰ h (strand_hops t) ⊎ Memᴰ h (hops_of ts) → (Memᴰ h (hops_of ts) → Loaded f h) → Loaded f h
      by (inl n) r = goes-loaded J f S t.thread.first t.thread.rest t.thread.loaded t.thread.goes h n
      by (inr n) r = r n

  hops-has : (ts : List (Strand J f)) (t : Strand J f) (h : Hop) → Memᴰ t ts → Memᴰ h (strand_hops t) → Memᴰ h (hops_of ts)
  unfolding hops_of
  hops-has [] t h x'' m = elim x'' [ ]
  hops-has (u ∷ ts) t h (Memᴰ.head e) m = Memᴰ.append_left (hops_of ts) (subst (λ (w : Strand J f). Memᴰ h (strand_hops w)) e m)
  hops-has (u ∷ ts) t h (Memᴰ.tail n) m = Memᴰ.append_right (strand_hops u) (hops-has ts t h n m)

  -- every loaded hop is one of them
  pub hops-all : (h : Hop) → Loaded f h → Memᴰ h (hops_of (strands (places J)))
  hops-all h l =
      let W : OnWire J f h = lane-wired J f S h l in
      let x : Place = at pin W.row W.column in
      let (t, m, a, b) = strands-has x (places J) W.wired (place-listed J x (wired-chosen J f W.row W.column W.wired)) in
      let e : hop_at J f t.row t.column W.index ≡ some h = ap₂ (λ (r c : ℕ). hop_at J f r c W.index) a b ∙ W.listed in
      hops-has (strands (places J)) t h m
      (entry-member (strand_hops t) W.index h (sym (thread-wire J f S t.row t.column t.thread W.index) ∙ e))

  -- ---- none twice

  same_head : (h k : Hop) → when (same_hop h k) 1 ≤ when (same_place (head J h.step) (head J k.step)) 1
  same_head h k = by (same_hop h k) refl
    where
      by : (b : Bool) → same_hop h k ≡ b → when b 1 ≤ when (same_place (head J h.step) (head J k.step)) 1
      by true e =
          omega (
            arith,
            when-so (same_place (head J h.step) (head J k.step)) 1
                (subst (λ (u : Hop). T (same_place (head J h.step) (head J u.step))) (same-hop-eq h k (so e)) (same_place_lem (head J h.step))),
          )
      by false e = omega arith

  hop-once : (t : Strand J f) (h : Hop) → count (strand_hops t) (same_hop h) ≤ 1
  hop-once t h =
      let x : Place = head J h.step in
      omega (
        arith,
        total-le (strand_hops t) (λ k. when (same_hop h k) 1) (λ k. when (same_place x (head J k.step)) 1) (same_head h),
        total-map (λ (k : Hop). k.step) (strand_hops t) (λ s. when (same_place x (head J s)) 1),
        thread-once J f S t.row t.column t.thread x,
      )

  -- the hop stands in the list of the strand's wire
  strand-lists : (t : Strand J f) (h : Hop) → Memᴰ h (strand_hops t) → (n : ℕ) × (hop_at J f t.row t.column n ≡ some h)
  strand-lists t h m = let (n, e) = has-entry m in (n, thread-wire J f S t.row t.column t.thread n ∙ e)

  one-pin : (t u : Strand J f) (h k : Hop) → h ≡ k → Memᴰ h (strand_hops t) → Memᴰ k (strand_hops u) → pin_of t ≡ pin_of u
  one-pin t u h k e m n =
      let (i, a) = strand-lists t h m in
      let (j, b) = strand-lists u k n in
      (lane-one J f S t.row t.column i u.row u.column j h t.wired u.wired a (b ∙ ap some (sym e))).0

  -- where a thread has the hop h, every other thread that has it is of the same pin
  hop-pin : (h : Hop) (t : Strand J f) (k : Hop) → Memᴰ k (strand_hops t) → T (same_hop h k)
      → (u : Strand J f) → count (strand_hops u) (same_hop h) ≤ when (same_place (pin_of t) (pin_of u)) 1
  hop-pin h t k m s u = by (count-some (strand_hops u) (same_hop h))
    where
      by : (count (strand_hops u) (same_hop h) ≡ 0) ⊎ ((v : Hop) × Memᴰ v (strand_hops u) × T (same_hop h v))
          → count (strand_hops u) (same_hop h) ≤ when (same_place (pin_of t) (pin_of u)) 1
      by (inl z) = omega arith
      by (inr (v, n, q)) =
          let e : pin_of t ≡ pin_of u = one-pin t u k v (sym (same-hop-eq h k s) ∙ same-hop-eq h v q) m n in
          omega (
            arith,
            hop-once u h,
            when-so (same_place (pin_of t) (pin_of u)) 1 (subst (λ (x : Place). T (same_place (pin_of t) x)) e (same_place_lem (pin_of t))),
          )

  pub hops-once : (h : Hop) → count (hops_of (strands (places J))) (same_hop h) ≤ 1
  hops-once h = by (total-count-some ts strand_hops (same_hop h))
    where
      ts : List (Strand J f)
      ts = strands (places J)

      by : (total ts (λ t. count (strand_hops t) (same_hop h)) ≡ 0)
          ⊎ ((t : Strand J f) × Memᴰ t ts × (k : Hop) × Memᴰ k (strand_hops t) × T (same_hop h k))
          → count (hops_of ts) (same_hop h) ≤ 1
      by (inl z) = omega (arith, hops-total ts (λ k. when (same_hop h k) 1))
      by (inr (t, m, k, n, s)) =
          omega (
            arith,
            hops-total ts (λ k. when (same_hop h k) 1),
            total-le ts (λ u. count (strand_hops u) (same_hop h)) (λ u. when (same_place (pin_of t) (pin_of u)) 1) (hop-pin h t k n s),
            strands-at (pin_of t) (places J),
            places-once J (pin_of t),
          )
