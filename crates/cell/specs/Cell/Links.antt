-- Cells that pass the test of their links have loads in range, within their limits and only where a wire may go, and the other way round: a link's byte
-- that passes has at most as many wires each way as there is room. They rest on what a byte's test says, which `proofs/LinksFit` gives. Assumes nothing.
use Rattle.std.specs.Prelude.{◌≡◌, ◌≢◌, Bool, not, ◌&&◌, ◌||◌, List, ℕ, zero, suc, ◌+◌, ◌≤◌, ◌<◌, eqb, ltb}
use Rattle.std.proofs.Math.Path.{refl, ap}
use Rattle.std.proofs.Common.{sym, subst, le→leb, ltb→lt, lt→ltb}
use Rattle.std.proofs.Math.Bool.{true, false}
use Rattle.std.proofs.Math.Option.{Option, none, some}
use native.Mathlib.Omega.{arith}
use Rattle.std.proofs.Math.Dec.{T, leb, leb→le, nleb→lt, leb-zero}
use Rattle.sums.specs.Counting.{when}
use Rattle.sums.specs.Tests.{and_left, and_right, and_both, or-by, so, so-not}
use Rattle.model.specs.Job.{Job, caps_fit}
use Rattle.model.specs.Links.{LinkKind, north_side, west_side, corner, spoke, leg, direct, Link, Step, go, come, turn, may, limit_of, limit}
use Rattle.model.specs.Record.{load_plane, cell, job_of, forth_part, back_part, load}
use Rattle.cell.specs.Cell.{fits, most, room, link_fits, sides_fit, corners_fit, spokes_fit, legs_fit, links_fit}
use Rattle.cell.specs.Cell.Tests.{four-at, four-all, caps-range, on-grid, off-grid}

-- ---- the byte

-- a byte in range, with room for what it has
record Fits (b forth back : ℕ) : Type 0 where
  small : b < 64
  split : b ≢ 32
  along : forth_part b ≤ forth
  against : back_part b ≤ back

-- what the test of a byte says
abbrev pub FitsAre : Type 0
FitsAre = (b forth back : ℕ) → fits b forth back ≡ (leb b forth || (ltb 32 b && leb b (32 + back)))

module _ (law : FitsAre) (b forth back : ℕ) where
  fits-yes : forth ≤ 31 → back ≤ 31 → T (fits b forth back) → Fits b forth back
  fits-yes l m t = or-by (leb b forth) (ltb 32 b && leb b (32 + back)) along against (subst T (law b forth back) t)
    where
      along : T (leb b forth) → Fits b forth back
      along t =
          let h : b ≤ forth = leb→le b forth t in
          record { small = omega arith; split = λ e. omega arith; along = omega arith; against = omega arith }

      against : T (ltb 32 b && leb b (32 + back)) → Fits b forth back
      against t =
          let h : 32 < b = ltb→lt 32 b (and_left (ltb 32 b) (leb b (32 + back)) t) in
          let k : b ≤ 32 + back = leb→le b (32 + back) (and_right (ltb 32 b) (leb b (32 + back)) t) in
          record { small = omega arith; split = λ e. omega arith; along = omega arith; against = omega arith }

  fits-so : Fits b forth back → T (fits b forth back)
  fits-so f = subst T (sym (law b forth back)) (by (leb b forth) refl)
    where
      by : (t : Bool) → leb b forth ≡ t → T (t || (ltb 32 b && leb b (32 + back)))
      by true e = tt
      by false e =
          let h : forth < b = nleb→lt b forth (subst (λ (x : Bool). T (not x)) (sym e) tt) in
          let n : b ≢ 32 = f.split in
          let k : 32 < b = omega (arith, f.along) in
          and_both (ltb 32 b) (leb b (32 + back)) (lt→ltb 32 b k) (le→leb b (32 + back) (omega (arith, f.against)))

-- wires on a byte go one way
one_way_lem : (b : ℕ) → 0 < forth_part b → back_part b ≡ 0
one_way_lem b l = omega arith

other_way : (b : ℕ) → 0 < back_part b → forth_part b ≡ 0
other_way b l = omega arith

-- ---- room

when-most : (b : Bool) (n : ℕ) → when b n ≤ n
when-most true n = omega arith
when-most false n = omega arith

no_room : (b : Bool) (n : ℕ) → T (not b) → when b n ≡ 0
no_room true n t = absurd t
no_room false n t = refl

module _ (J : Job) where
  limit-room : J.O ≤ 8 → (k : LinkKind) (r c : ℕ) → most (limit_of J k r c) ≤ 31
  unfolding limit_of most
  limit-room l north_side r c = omega arith
  limit-room l west_side r c = omega arith
  limit-room l (corner d) r c = omega arith
  limit-room l (spoke d) r c = omega arith
  limit-room l (leg d) r c = by (eqb (J.mark r c) 2)
    where
      by : (b : Bool) → most (elim b [ true ↦ none | false ↦ some 1 ]) ≤ 31
      by true = omega arith
      by false = omega arith
  limit-room l direct r c = omega arith

  room_small : J.O ≤ 8 → (s : Step) → room J s ≤ 31
  unfolding room
  room_small l s = omega (arith, when-most (may J s) (most (limit J s.link)), limit-room l s.link.kind s.link.row s.link.column)

  room-limit : (s : Step) (k : ℕ) → limit J s.link ≡ some k → room J s ≤ k
  unfolding room most
  room-limit s k e = omega (arith, when-most (may J s) (most (limit J s.link)), ap most e)

  room-none : (s : Step) → T (not (may J s)) → room J s ≡ 0
  unfolding room
  room-none s t = no_room (may J s) (most (limit J s.link)) t

-- ---- the links of every cell

module _ (rec : List ℕ) where
  abbrev J : Job
  J = job_of rec

  -- what is asked of the loads on links
  pub record LoadsFit : Type 0 where
    pub bytes : (k : LinkKind) (r c : ℕ) → (cell rec (load_plane k) r c < 64) × (cell rec (load_plane k) r c ≢ 32)
    pub one_way : (s : Step) → 0 < load rec s → load rec (turn s) ≡ 0
    pub limits : (s : Step) (k : ℕ) → limit J s.link ≡ some k → load rec s + load rec (turn s) ≤ k
    pub against : (s : Step) → T (not (may J s)) → T (may J (turn s)) → load rec s ≡ 0
    pub nowhere : (s : Step) → T (not (may J s)) → T (not (may J (turn s))) → load rec s ≡ 0

  abbrev Within : LinkKind → ℕ → ℕ → Type 0
  Within k r c = Fits (cell rec (load_plane k) r c) (room J (go k r c)) (room J (come k r c))

  way-one : (l : Link) (b : Bool) → 0 < load rec (record { link = l; forth = b }) → load rec (record { link = l; forth = not b }) ≡ 0
  unfolding load
  way-one l true p = one_way_lem _ p
  way-one l false p = other_way _ p

  -- ---- cells that pass

  module _ (law : FitsAre) (caps : T (caps_fit J.O J.D J.E)) (t : (r c : ℕ) → r < 40 → c < 40 → T (links_fit rec r c)) where
    orthogonal-small : J.O ≤ 8
    orthogonal-small = (caps-range J.O J.D J.E caps).0

    module _ (r c : ℕ) (a : r < 40) (b : c < 40) where
      within-part : T (corners_fit rec r c && (spokes_fit rec r c && (legs_fit rec r c && link_fits rec direct r c)))
      unfolding links_fit
      within-part = and_right (sides_fit rec r c) (corners_fit rec r c && (spokes_fit rec r c && (legs_fit rec r c && link_fits rec direct r c))) (t r c a b)

      ends-part : T (spokes_fit rec r c && (legs_fit rec r c && link_fits rec direct r c))
      ends-part = and_right (corners_fit rec r c) (spokes_fit rec r c && (legs_fit rec r c && link_fits rec direct r c)) within-part

      pin-part : T (legs_fit rec r c && link_fits rec direct r c)
      pin-part = and_right (spokes_fit rec r c) (legs_fit rec r c && link_fits rec direct r c) ends-part

      sides-part : T (link_fits rec north_side r c && link_fits rec west_side r c)
      unfolding links_fit sides_fit
      sides-part = and_left (sides_fit rec r c) (corners_fit rec r c && (spokes_fit rec r c && (legs_fit rec r c && link_fits rec direct r c))) (t r c a b)

      link-part : (k : LinkKind) → T (link_fits rec k r c)
      unfolding corners_fit spokes_fit legs_fit
      link-part north_side = and_left (link_fits rec north_side r c) (link_fits rec west_side r c) sides-part
      link-part west_side = and_right (link_fits rec north_side r c) (link_fits rec west_side r c) sides-part
      link-part (corner d) = four-at (λ d. link_fits rec (corner d) r c) (and_left (corners_fit rec r c) (spokes_fit rec r c && (legs_fit rec r c && link_fits rec direct r c)) within-part) d
      link-part (spoke d) = four-at (λ d. link_fits rec (spoke d) r c) (and_left (spokes_fit rec r c) (legs_fit rec r c && link_fits rec direct r c) ends-part) d
      link-part (leg d) = four-at (λ d. link_fits rec (leg d) r c) (and_left (legs_fit rec r c) (link_fits rec direct r c) pin-part) d
      link-part direct = and_right (legs_fit rec r c) (link_fits rec direct r c) pin-part

    empty-link : (k : LinkKind) (r c : ℕ) → ltb r 40 && ltb c 40 ≡ false → T (link_fits rec k r c)
    unfolding link_fits
    empty-link k r c e = subst T (sym (law _ _ _)) (rw (off-grid rec (load_plane k) r c e, leb-zero) tt)

    within : (k : LinkKind) (r c : ℕ) → Within k r c
    unfolding link_fits
    within k r c =
        fits-yes law _ _ _ (room_small J orthogonal-small (go k r c)) (room_small J orthogonal-small (come k r c))
        (on-grid (λ r c. T (link_fits rec k r c)) (λ r c a b. link-part r c a b k) (empty-link k) r c)

    way-room : (l : Link) (b : Bool) → load rec (record { link = l; forth = b }) ≤ room J (record { link = l; forth = b })
    unfolding load
    way-room l true = (within l.kind l.row l.column).along
    way-room l false = (within l.kind l.row l.column).against

    load-none : (s : Step) → T (not (may J s)) → load rec s ≡ 0
    load-none s n = omega (arith, way-room s.link s.forth, room-none J s n)

    load-limit : (s : Step) (k : ℕ) → limit J s.link ≡ some k → load rec s ≤ k
    load-limit s k e = omega (arith, way-room s.link s.forth, room-limit J s k e)

    two_ways : (s : Step) (k : ℕ) → limit J s.link ≡ some k → load rec s + load rec (turn s) ≤ k
    two_ways s k e = by (load rec s) (way-one s.link s.forth) (load-limit s k e)
      where
        by : (n : ℕ) → (0 < n → load rec (turn s) ≡ 0) → n ≤ k → n + load rec (turn s) ≤ k
        by zero f l = omega (arith, load-limit (turn s) k e)
        by (suc n) f l = omega (arith, f (omega arith))

    pub links-all-by : LoadsFit
    links-all-by =
        record {
          bytes = λ k r c. ((within k r c).small, (within k r c).split);
          one_way = λ s. way-one s.link s.forth;
          limits = two_ways;
          against = λ s n m. load-none s n;
          nowhere = λ s n m. load-none s n;
        }

  -- ---- loads that fit

  module _ (law : FitsAre) (fit : LoadsFit) where
    load-small : (l : Link) (b : Bool) → load rec (record { link = l; forth = b }) ≤ 31
    unfolding load
    load-small l true = omega (arith, (fit.bytes l.kind l.row l.column).0)
    load-small l false = omega (arith, (fit.bytes l.kind l.row l.column).0)

    taken-room : (s : Step) (b : Bool) → may J s ≡ b → (o : Option ℕ) → limit J s.link ≡ o → load rec s ≤ when b (most o)
    unfolding most
    taken-room s true e none f = load-small s.link s.forth
    taken-room s true e (some k) f = omega (arith, fit.limits s k f)
    taken-room s false e o f = by (may J (turn s)) refl
      where
        n : T (not (may J s))
        n = so-not e

        by : (b : Bool) → may J (turn s) ≡ b → load rec s ≤ 0
        by true g = omega (arith, fit.against s n (so g))
        by false g = omega (arith, fit.nowhere s n (so-not g))

    has_room_lem : (s : Step) → load rec s ≤ room J s
    unfolding room
    has_room_lem s = taken-room s (may J s) refl (limit J s.link) refl

    link-pass : (k : LinkKind) (r c : ℕ) → T (link_fits rec k r c)
    unfolding load link_fits
    link-pass k r c =
        fits-so law _ _ _
        (record { small = (fit.bytes k r c).0; split = (fit.bytes k r c).1; along = has_room_lem (go k r c); against = has_room_lem (come k r c) })

    pub links-pass-by : (r c : ℕ) → T (links_fit rec r c)
    unfolding links_fit sides_fit corners_fit spokes_fit legs_fit
    links-pass-by r c =
        and_both (sides_fit rec r c) (corners_fit rec r c && (spokes_fit rec r c && (legs_fit rec r c && link_fits rec direct r c)))
        (and_both (link_fits rec north_side r c) (link_fits rec west_side r c) (link-pass north_side r c) (link-pass west_side r c))
        (and_both (corners_fit rec r c) (spokes_fit rec r c && (legs_fit rec r c && link_fits rec direct r c)) (four-all (λ d. link_fits rec (corner d) r c) (λ d. link-pass (corner d) r c))
        (and_both (spokes_fit rec r c) (legs_fit rec r c && link_fits rec direct r c)
        (four-all (λ d. link_fits rec (spoke d) r c) (λ d. link-pass (spoke d) r c))
        (and_both (legs_fit rec r c) (link_fits rec direct r c) (four-all (λ d. link_fits rec (leg d) r c) (λ d. link-pass (leg d) r c)) (link-pass direct r c))))
