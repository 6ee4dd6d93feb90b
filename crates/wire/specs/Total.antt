-- Document 01, "Length", off the bytes: the wires of a legal record are together 10 for each wire on a side and 14 for each that comes to a pin by a leg. For
-- a step is taken as often as its load says, and the load bytes are those of all steps on the grid, each once. Assumes nothing.
use Rattle.std.specs.Prelude.{◌≡◌, Bool, List, [], ◌∷◌, ℕ, ◌+◌, ◌*◌, ◌≤◌, T, length, get_or, take, drop}
use Rattle.std.proofs.Math.Path.{refl}
use Rattle.std.proofs.Common.{ap, subst, ◌∙◌, add-one, length-take-le, length-drop}
use Rattle.std.proofs.lemmas.List.{get_or-take, get_or-drop}
use Rattle.std.proofs.Math.Bool.{true, false}
use native.Mathlib.Omega.{arith}
use Rattle.sums.specs.Counting.{when, sum, total, count}
use Rattle.sums.specs.Tests.{and_left, and_right}
use Rattle.sums.specs.Sums.{sum-cong, sum-add}
use Rattle.sums.specs.Totals.{total-add, total-le, total-cong, total-sum}
use Rattle.model.specs.Job.{Job, in_range, array_fits, caps_fit, north_limit, west_limit}
use Rattle.model.specs.Links.{pin, Place, at, is_place, places_at, is_missing_kind, north_side, west_side, link, same_step, limit_of, limit, pass, Step, head, may}
use Rattle.model.specs.Route.{Chain, Route}
use Rattle.model.specs.Near.{size}
use Rattle.model.specs.Length.{is_side, is_link, length_bound, routes_length, held_length}
use Rattle.model.specs.Record.{job_of, forth_part, back_part, load, Legal}
use Rattle.model.proofs.RecordOf.{range-most}
use Rattle.channel.specs.Map.{dart_of}
use Rattle.channel.specs.Map.Steps.{OnGrid, step-grid, link-stored}
use Rattle.channel.specs.Map.Taken.{may-dart}
use Rattle.wire.specs.LengthBound.{pair, sides_total, length-bound}
use Rattle.wire.specs.Places.{when-drop, places-total}
use Rattle.wire.specs.Lengths.{sum-most}
use Rattle.wire.specs.Held.{wire_routes, routes-together, routes-steps, routes-length}
use Rattle.wire.specs.LoadBytes.{byte_step, part, byte-load, side_way, side-ways, side-bytes, missing-bytes}

-- ---- routes

chain-cong : (J : Job) (x : Place) (ss : List Step) (g h : Step → ℕ) → ((s : Step) → T (may J s) → g s ≡ h s) → Chain J x ss → total ss g ≡ total ss h
unfolding total
chain-cong J x [] g h e c = refl
chain-cong J x (s ∷ ss) g h e c = omega (arith, e s c.1, chain-cong J (head J s) ss g h e c.2)

-- side by side, each way, and missing pin by missing pin
routes-weigh : (J : Job) (rs : List (Route J)) → routes_length J rs
    ≡ 10 * (total rs (λ p. total p.steps (side_way true)) + total rs (λ p. total p.steps (side_way false)))
    + 14 * total rs (λ p. count p.steps (λ s. is_missing_kind (head J s)))
unfolding total
routes-weigh J [] = refl
routes-weigh J (p ∷ rs) =
    omega (
      arith,
      routes-weigh J rs,
      total-cong p.steps (λ s. when (is_side s.link) 1) (λ s. side_way true s + side_way false s) side-ways,
      total-add p.steps (side_way true) (side_way false),
    )

-- ---- the bytes

-- the wires on the first n sides, and those to the first n legs' pins
unfoldable pub on_sides : List ℕ → ℕ → ℕ
on_sides rec n = sum n (λ i. forth_part (get_or rec (3968 + i) 0) + back_part (get_or rec (3968 + i) 0))

unfoldable pub to_pins : List ℕ → ℕ → ℕ
to_pins rec n = sum n (λ i. back_part (get_or rec (19968 + i) 0))

pub sides-none : (rec : List ℕ) → 0 ≡ on_sides rec 0
unfolding on_sides sum
sides-none rec = refl

pub pins-none : (rec : List ℕ) → 0 ≡ to_pins rec 0
unfolding to_pins sum
pins-none rec = refl

-- one more
pub sides-more : (rec : List ℕ) (i n x m : ℕ) → n ≡ on_sides rec i → x ≡ get_or rec (3968 + i) 0 → m ≡ forth_part x + back_part x → n + m ≡ on_sides rec (i + 1)
unfolding on_sides sum
sides-more rec i n x m e f g = rw (add-one, e, g, f) refl

pub pins-more : (rec : List ℕ) (i n x m : ℕ) → n ≡ to_pins rec i → x ≡ get_or rec (19968 + i) 0 → m ≡ back_part x → n + m ≡ to_pins rec (i + 1)
unfolding to_pins sum
pins-more rec i n x m e f g = rw (add-one, e, g, f) refl

-- ---- sums over bytes

-- one entry more
pub sum-next : (i : ℕ) (f : ℕ → ℕ) (n m : ℕ) → n ≡ sum i f → m ≡ f i → n + m ≡ sum (i + 1) f
unfolding sum
sum-next i f n m e g = rw (add-one, e, g) refl

-- over n bytes from the a-th on
pub sum-part : (rec : List ℕ) (a n : ℕ) (f : ℕ → ℕ) → a + n ≤ length rec
    → sum (length (take n (drop a rec))) (λ i. f (get_or (take n (drop a rec)) i 0)) ≡ sum n (λ i. f (get_or rec (a + i) 0))
sum-part rec a n f l =
    let e : length (take n (drop a rec)) ≡ n = length-take-le n (drop a rec) (omega (arith, length-drop a rec)) in
    ap (λ (k : ℕ). sum k (λ i. f (get_or (take n (drop a rec)) i 0))) e
    ∙ sum-cong n _ _ (λ i k. ap f (get_or-take n (drop a rec) i 0 k ∙ get_or-drop a rec i 0))

-- ---- the greatest length

-- A side has a limit of at most 8, a missing pin one of at most 16; there are 3,200 and 1,600 of them.
module _ (J : Job) (fits : T (array_fits J.rows J.columns)) (caps : T (caps_fit J.O J.D J.E)) where
  cells-most : (g : ℕ → ℕ → ℕ) → ((r c : ℕ) → g r c ≤ 16) → sum J.rows (λ r. sum J.columns (g r)) ≤ 25600
  cells-most g h =
      let m : J.rows ≤ 40 = range-most 2 40 J.rows (and_left (in_range 2 40 J.rows) (in_range 2 40 J.columns) fits) in
      let n : J.columns ≤ 40 = range-most 2 40 J.columns (and_right (in_range 2 40 J.rows) (in_range 2 40 J.columns) fits) in
      omega (
        arith,
        sum-most J.rows 640 (λ r. sum J.columns (g r)) (λ r. omega (arith, sum-most J.columns 16 (g r) (h r))),
      )

  O≤ : J.O ≤ 8
  O≤ = range-most 1 8 J.O (and_left (in_range 1 8 J.O) _ caps)

  E≤ : J.E ≤ 16
  E≤ = range-most 0 16 J.E (and_right (in_range J.O (2 * J.O) J.D) (in_range 0 16 J.E) (and_right (in_range 1 8 J.O) _ caps))

  pair-most : (r c : ℕ) → total (pair J r c) (λ l. when (is_link J l) (size (limit J l))) ≤ 16
  unfolding pair total limit_of
  pair-most r c =
      omega (
        arith,
        O≤,
        when-drop (is_link J (link north_side r c)) (north_limit J r c),
        when-drop (is_link J (link west_side r c)) (west_limit J r c),
      )

  missing-most : (r c : ℕ) → total (places_at r c) (λ y. when (is_place J y) (when (is_missing_kind y) (size (pass J y)))) ≤ 16
  unfolding total
  missing-most r c =
      omega (
        arith,
        E≤,
        total-le (places_at r c) (λ y. when (is_place J y) (when (is_missing_kind y) (size (pass J y)))) (λ y. when (is_missing_kind y) (size (pass J y)))
            (λ y. when-drop (is_place J y) _),
      )

  bound-most : length_bound J ≤ 614400
  bound-most =
      omega (
        arith,
        sides_total J (λ l. size (limit J l)),
        places-total J (λ x. when (is_missing_kind x) (size (pass J x))),
        cells-most _ pair-most,
        cells-most _ missing-most,
      )

-- ---- the wires of a legal record

module _ (rec : List ℕ) (legal : Legal rec) where
  abbrev J : Job
  J = job_of rec

  abbrev fits : T (array_fits J.rows J.columns)
  fits = legal.values.array

  abbrev wires : List (Route J)
  wires = wire_routes J (load rec) legal.sound

  may-grid : (s : Step) → T (may J s) → OnGrid s
  may-grid s m = let (l, t, q) = may-dart J fits s m in subst OnGrid q (step-grid (dart_of s) (link-stored (dart_of s) t).1)

  -- steps that are those of n load bytes are taken as often as the bytes say
  taken : (lo n a : ℕ) (b : Bool) (g : Step → ℕ) → lo + n ≤ 24000 → a ≡ 3968 + lo
      → ((s : Step) → T (may J s) → g s ≡ sum n (λ i. when (same_step (byte_step (lo + i) b) s) 1))
      → total wires (λ p. total p.steps g) ≡ sum n (λ i. part b (get_or rec (a + i) 0))
  taken lo n a b g l e h =
      total-cong wires _ _ (λ p. chain-cong J (at pin p.row p.column) p.steps g _ h p.chain
      ∙ total-sum p.steps n (λ s i. when (same_step (byte_step (lo + i) b) s) 1))
      ∙ (total-sum wires n (λ p i. count p.steps (same_step (byte_step (lo + i) b)))
      ∙ sum-cong n _ _ (λ i k.
      let q : 3968 + (lo + i) ≡ a + i = omega arith in
      routes-steps J (load rec) legal.sound (byte_step (lo + i) b)
      ∙ (byte-load rec (lo + i) (omega arith) b ∙ ap (λ (x : ℕ). part b (get_or rec x 0)) q)))

  pub held_bytes : held_length J (load rec) ≡ 10 * on_sides rec 3200 + 14 * to_pins rec 6400
  unfolding on_sides to_pins
  held_bytes =
      omega (
        arith,
        routes-length J (load rec) legal.sound,
        routes-weigh J wires,
        taken 0 3200 3968 true (side_way true) (omega arith) refl (λ s m. side-bytes true s (may-grid s m)),
        taken 0 3200 3968 false (side_way false) (omega arith) refl (λ s m. side-bytes false s (may-grid s m)),
        taken 16000 6400 19968 false (λ s. when (is_missing_kind (head J s)) 1) (omega arith) refl (λ s m. missing-bytes J s (may-grid s m) m),
        sum-add 3200 (λ i. forth_part (get_or rec (3968 + i) 0)) (λ i. back_part (get_or rec (3968 + i) 0)),
      )

  pub held-most : held_length J (load rec) ≤ 614400
  held-most =
      omega (
        arith,
        routes-length J (load rec) legal.sound,
        length-bound J wires (routes-together J (load rec) legal.sound),
        bound-most J fits legal.values.caps,
      )
