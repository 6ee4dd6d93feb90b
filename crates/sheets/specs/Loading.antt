-- The loads inside a tile written out, link by link: `ne` are the wires from n to e, `en` those from e to n, `nc` those from n to the centre. For a tile whose
-- corners take one wire and whose centre passes p, the loads that carry amounts and the loads written out give each other.
-- Assumes nothing.
use Rattle.std.specs.Prelude.{◌≡◌, Bool, true, false, ◌⊎◌, ℕ, ◌+◌, ◌≤◌, T}
use Rattle.std.proofs.Common.{sym, ◌∙◌, inl, inr, ⊎_elim, arith}
use Rattle.std.proofs.Math.Option.{none, some}
use Rattle.sums.specs.Counting.{those, total}
use Rattle.sums.specs.Tests.{below_or}
use Rattle.sums.specs.Entries.{some_one, none-some}
use Rattle.model.specs.Job.{Job}
use Rattle.model.specs.Links.{Compass, north, east, south, west, centre, side, at, LinkKind, north_side, west_side, direct, corner, spoke, leg, limit_of, pass, Step, go, come, turn}
use Rattle.model.specs.Loads.{arrivals, departures}
use Rattle.model.specs.Sheet.{is_inner, inner_steps, Inside, amounts}

abbrev pub OneWay : ℕ → ℕ → Type 0
OneWay a b = (a ≡ 0) ⊎ (b ≡ 0)

pub record Loading (p n e s w : ℕ) : Type 0 where
  pub ne : ℕ
  pub en : ℕ
  pub es : ℕ
  pub se : ℕ
  pub sw : ℕ
  pub ws : ℕ
  pub wn : ℕ
  pub nw : ℕ
  pub nc : ℕ
  pub cn : ℕ
  pub ec : ℕ
  pub ce : ℕ
  pub sc : ℕ
  pub cs : ℕ
  pub wc : ℕ
  pub cw : ℕ
  pub corner-ne : ne + en ≤ 1
  pub corner-es : es + se ≤ 1
  pub corner-sw : sw + ws ≤ 1
  pub corner-wn : wn + nw ≤ 1
  pub spoke-n : OneWay nc cn
  pub spoke-e : OneWay ec ce
  pub spoke-s : OneWay sc cs
  pub spoke-w : OneWay wc cw
  pub passes : nc + ec + sc + wc ≤ p
  pub centred : nc + ec + sc + wc ≡ cn + ce + cs + cw
  pub at_n : n + (wn + en + cn) ≡ 2 + (nw + ne + nc)
  pub at-e : e + (ne + se + ce) ≡ 2 + (en + es + ec)
  pub at-s : s + (es + ws + cs) ≡ 2 + (se + sw + sc)
  pub at-w : w + (sw + nw + cw) ≡ 2 + (ws + wn + wc)

-- the loads of a tile by link and way; elsewhere nothing is loaded
unfoldable pub load_of : {p n e s w : ℕ} → Loading p n e s w → LinkKind → Bool → ℕ
load_of l north_side b = 0
load_of l west_side b = 0
load_of l direct b = 0
load_of l (leg d) b = 0
load_of l (corner north) true = l.ne
load_of l (corner north) false = l.en
load_of l (corner east) true = l.es
load_of l (corner east) false = l.se
load_of l (corner south) true = l.sw
load_of l (corner south) false = l.ws
load_of l (corner west) true = l.wn
load_of l (corner west) false = l.nw
load_of l (spoke north) true = l.cn
load_of l (spoke north) false = l.nc
load_of l (spoke east) true = l.ce
load_of l (spoke east) false = l.ec
load_of l (spoke south) true = l.cs
load_of l (spoke south) false = l.sc
load_of l (spoke west) true = l.cw
load_of l (spoke west) false = l.wc

abbrev pub loads : {p n e s w : ℕ} → Loading p n e s w → Step → ℕ
loads l s = load_of l s.link.kind s.forth

small-one-way : (a b : ℕ) → a + b ≤ 1 → OneWay a b
small-one-way a b h = ⊎_elim (λ lt. inl (omega arith)) (λ le. inr (omega arith)) (below_or a 1)

other_way : {a b : ℕ} → OneWay a b → OneWay b a
other_way (inl h) = inr h
other_way (inr h) = inl h

module _ (J : Job) (r c p : ℕ) (corners : (d : Compass) → limit_of J (corner d) r c ≡ some 1) (spokes : (d : Compass) → limit_of J (spoke d) r c ≡ none) (centres : pass J (at centre r c) ≡ some p) where
  pub inside-loading : (f : Step → ℕ) (n e s w : ℕ) → Inside J r c f (amounts n e s w) (λ d. 2) → Loading p n e s w
  unfolding inner_steps those total arrivals departures
  inside-loading f n e s w i =
      record {
        ne = f (go (corner north) r c);
        en = f (come (corner north) r c);
        es = f (go (corner east) r c);
        se = f (come (corner east) r c);
        sw = f (go (corner south) r c);
        ws = f (come (corner south) r c);
        wn = f (go (corner west) r c);
        nw = f (come (corner west) r c);
        nc = f (come (spoke north) r c);
        cn = f (go (spoke north) r c);
        ec = f (come (spoke east) r c);
        ce = f (go (spoke east) r c);
        sc = f (come (spoke south) r c);
        cs = f (go (spoke south) r c);
        wc = f (come (spoke west) r c);
        cw = f (go (spoke west) r c);
        corner-ne = i.limits (corner north) 1 tt (corners north);
        corner-es = i.limits (corner east) 1 tt (corners east);
        corner-sw = i.limits (corner south) 1 tt (corners south);
        corner-wn = i.limits (corner west) 1 tt (corners west);
        spoke-n = other_way (i.one_way (spoke north) tt);
        spoke-e = other_way (i.one_way (spoke east) tt);
        spoke-s = other_way (i.one_way (spoke south) tt);
        spoke-w = other_way (i.one_way (spoke west) tt);
        passes = omega (arith, i.passing p centres);
        centred = omega (arith, i.centred);
        at_n = omega (arith, i.sides north);
        at-e = omega (arith, i.sides east);
        at-s = omega (arith, i.sides south);
        at-w = omega (arith, i.sides west);
      }

  module _ {n e s w : ℕ} (l : Loading p n e s w) where
    corner-fits : (d : Compass) → load_of l (corner d) true + load_of l (corner d) false ≤ 1
    unfolding load_of
    corner-fits north = l.corner-ne
    corner-fits east = l.corner-es
    corner-fits south = l.corner-sw
    corner-fits west = l.corner-wn

    spoke-one-way : (d : Compass) → OneWay (load_of l (spoke d) true) (load_of l (spoke d) false)
    unfolding load_of
    spoke-one-way north = other_way l.spoke-n
    spoke-one-way east = other_way l.spoke-e
    spoke-one-way south = other_way l.spoke-s
    spoke-one-way west = other_way l.spoke-w

    link-one-way : (k : LinkKind) → T (is_inner k) → OneWay (load_of l k true) (load_of l k false)
    link-one-way north_side t = absurd t
    link-one-way west_side t = absurd t
    link-one-way direct t = absurd t
    link-one-way (leg d) t = absurd t
    link-one-way (corner d) t = small-one-way _ _ (corner-fits d)
    link-one-way (spoke d) t = spoke-one-way d

    link_fits_lem : (k : LinkKind) (m : ℕ) → T (is_inner k) → limit_of J k r c ≡ some m → load_of l k true + load_of l k false ≤ m
    link_fits_lem north_side m t h = absurd t
    link_fits_lem west_side m t h = absurd t
    link_fits_lem direct m t h = absurd t
    link_fits_lem (leg d) m t h = absurd t
    link_fits_lem (corner d) m t h = omega (arith, corner-fits d, some_one 1 m (sym (corners d) ∙ h))
    link_fits_lem (spoke d) m t h = absurd (none-some m (sym (spokes d) ∙ h))

    side-balanced : (d : Compass)
        → amounts n e s w d + total (inner_steps (at (side d) r c)) (λ s. loads l (turn s)) ≡ 2 + total (inner_steps (at (side d) r c)) (loads l)
    unfolding load_of inner_steps those total
    side-balanced north = omega (arith, l.at_n)
    side-balanced east = omega (arith, l.at-e)
    side-balanced south = omega (arith, l.at-s)
    side-balanced west = omega (arith, l.at-w)

    pub loading-inside : Inside J r c (loads l) (amounts n e s w) (λ d. 2)
    unfolding load_of total arrivals departures
    loading-inside =
        record {
          one_way = link-one-way;
          limits = link_fits_lem;
          passing = λ m h. omega (arith, l.passes, some_one p m (sym centres ∙ h));
          centred = omega (arith, l.centred);
          sides = side-balanced;
        }
