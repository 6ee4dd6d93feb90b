-- What the search for the next wire keeps and answers. The marked spots are dead: no move leads out of them, and none is outside. Assumes nothing.
use Rattle.std.specs.Prelude.{Option, Some, None, ◌≡◌, ◌≢◌, Bool, true, false, List, ℕ, ◌-◌, ◌*◌, ◌/◌, ◌%◌, ◌≤◌, ◌<◌, T, eqb, length, get_or}
use Rattle.std.proofs.Common.{sym, ap, eq-eqb, ne_eqb}
use Rattle.model.specs.Job.{Job, array_fits}
use Rattle.model.specs.Links.{pin, at}
use Rattle.model.specs.Near.{exit}
use Rattle.model.specs.Loads.{Feasible}
use Rattle.model.specs.Record.{record_size, load}
use Rattle.model.proofs.Own.{Capped}
use Rattle.channel.specs.Map.{spots, is_start, want, starts}
use Rattle.augment.specs.Laid.{BytesFit}
use Rattle.augment.specs.OneMore.{OneMore}
use Rattle.augment.specs.NoMore.{Reached, ClosedUnderMoves, NoneOutside}
use Rattle.augment.specs.Marks.{marked}
use Rattle.augment.specs.declared.next.Line.{Line}

-- the loads are feasible, and every load byte is in range
pub record Held (J : Job) (rec : List ℕ) : Type 0 where
  pub fits : T (array_fits J.rows J.columns)
  pub caps : Capped J
  pub long : record_size ≤ length rec
  pub bytes : BytesFit rec
  pub feasible : Feasible J (load rec)

pub record Dead (J : Job) (rec t : List ℕ) : Type 0 where
  pub closed : ClosedUnderMoves J rec (marked t)
  pub none : NoneOutside J (marked t)

-- a wire is wanted at u, and none starts there
abbrev pub Unwired : Job → List ℕ → ℕ → Type 0
Unwired J rec u = starts J rec u < want J u

-- every marked spot is reached from an unwired pin
abbrev pub AllReached : Job → List ℕ → List ℕ → Type 0
AllReached J rec t = (x : ℕ) → T (marked t x) → Reached J rec x

-- whether a search is to begin at u: an unwired pin that is not marked
pub data Open (J : Job) (rec t : List ℕ) (u : ℕ) : Bool → Type 0 where
  open-pin : T (is_start J u) → Unwired J rec u → get_or t u 0 ≢ 1 → Open J rec t u true
  no_pin_lem : (Unwired J rec u → T (marked t u)) → Open J rec t u false

-- No unwired spot of P has a way out. The marked spots are dead, they are those that were marked and more, and every unwired spot of P is among them.
pub record Passed (J : Job) (P : ℕ → Type 0) (rec t t' : List ℕ) : Type 0 where
  pub dead : Dead J rec t'
  pub grown : (x : ℕ) → T (marked t x) → T (marked t' x)
  pub shut : (u : ℕ) → P u → Unwired J rec u → T (marked t' u)
  pub reached : AllReached J rec t → AllReached J rec t'

-- whether a wire was laid from u
pub data Tested (J : Job) (rec t : List ℕ) (u : ℕ) (rec' t' : List ℕ) : Bool → Type 0 where
  wired : Unwired J rec u → OneMore J rec rec' u → Dead J rec' t' → Tested J rec t u rec' t' true
  shut : rec' ≡ rec → Passed J (λ x. x ≡ u) rec t t' → Tested J rec t u rec' t' false

-- the i-th of n in the order first, last, second, last but one, and so on
pub inward : ℕ → ℕ → ℕ
inward i n = elim (eqb (i % 2) 0) [ true ↦ i / 2 | false ↦ n - 1 - i / 2 ]

-- as a program reads it
pub inward-even : (i n : ℕ) → i % 2 ≡ 0 → i / 2 ≡ inward i n
unfolding inward
inward-even i n e = sym (ap (λ (b : Bool). elim b [ true ↦ i / 2 | false ↦ n - 1 - i / 2 ]) (eq-eqb (i % 2) 0 e))

pub inward-odd : (i n : ℕ) → i % 2 ≢ 0 → n - 1 - i / 2 ≡ inward i n
unfolding inward
inward-odd i n e = sym (ap (λ (b : Bool). elim b [ true ↦ i / 2 | false ↦ n - 1 - i / 2 ]) (ne_eqb (i % 2) 0 e))

-- the spot of the pin at x of a line
pub spot_on : Line → ℕ → ℕ
spot_on l x = elim l.upright [ true ↦ exit (at pin x l.number) | false ↦ exit (at pin l.number x) ]

-- as a program reads it
pub spot-upright : (l : Line) (x : ℕ) → l.upright ≡ true → exit (at pin x l.number) ≡ spot_on l x
unfolding spot_on
spot-upright l x e = sym (ap (λ (b : Bool). elim b [ true ↦ exit (at pin x l.number) | false ↦ exit (at pin l.number x) ]) e)

pub spot-level : (l : Line) (x : ℕ) → l.upright ≡ false → exit (at pin l.number x) ≡ spot_on l x
unfolding spot_on
spot-level l x e = sym (ap (λ (b : Bool). elim b [ true ↦ exit (at pin x l.number) | false ↦ exit (at pin l.number x) ]) e)

-- u is the spot of one of the first m pins of a line, from its ends inwards
pub record OnLine (l : Line) (m u : ℕ) : Type 0 where
  pub turn : ℕ
  pub early : turn < m
  pub spot : u ≡ spot_on l (inward turn l.pins)

-- the row whose turn is t
abbrev pub row : Job → ℕ → Line
row J t = record { upright = false; number = inward t J.rows; pins = J.columns }

-- the i-th line: every other one is a row
pub record Nth (J : Job) (i : ℕ) (l : Line) : Type 0 where
  pub number : l.number < 40
  pub pins : l.pins ≤ 40
  pub even : (t : ℕ) → i ≡ 2 * t → l ≡ row J t

-- u is the spot of a pin of a row among the lines from a to before m; any spot
pub record InRows (J : Job) (a m u : ℕ) : Type 0 where
  pub turn : ℕ
  pub late : a ≤ 2 * turn
  pub early : 2 * turn < m
  pub there : OnLine (row J turn) J.columns u

abbrev pub AnySpot : ℕ → Type 0
AnySpot u = u < spots

-- one wire more starts at u
pub record LaidAt (J : Job) (rec rec' t' : List ℕ) (u : ℕ) : Type 0 where
  pub spot : u < spots
  pub unwired : Unwired J rec u
  pub more : OneMore J rec rec' u
  pub dead : Dead J rec' t'

-- One wire more starts at u; or none can start at a spot of P.
abbrev pub Answered : Job → (ℕ → Type 0) → (rec t rec' t' : List ℕ) → Option ℕ → Type 0
Answered J P rec t rec' t' (Some u) = LaidAt J rec rec' t' u
Answered J P rec t rec' t' None = (rec' ≡ rec) × Passed J P rec t t'
