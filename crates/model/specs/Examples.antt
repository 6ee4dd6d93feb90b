-- Document 01, "Settled by hand" and "The listing": the rows of the starred examples, and further jobs that pin down what those leave open. What holds
-- of each row is proved in proofs/. Assumes nothing.
use Rattle.std.specs.Prelude.{Bool, true, false, ◌||◌, List, [], ◌∷◌, ℕ, eqb}
use Rattle.std.proofs.Math.Option.{Option, none, some}
use Rattle.model.specs.Job.{Job, fresh, marked, closed, side_of, laid_by, with_own_d}
use Rattle.model.specs.Near.{spot}
use Rattle.model.specs.Pairing.{Pair}
use Rattle.model.specs.Trial.{Trial, trial_of}

-- ---- centre limits

pub record Centre : Type 0 where
  pub O : ℕ
  pub D : ℕ
  pub gives : ℕ

abbrev pub centre : ℕ → ℕ → ℕ → Centre
centre O D g = record { O = O; D = D; gives = g }

abbrev pub centres : List Centre
centres = centre 2 3 1 ∷ centre 2 2 0 ∷ centre 3 3 1 ∷ centre 3 6 4 ∷ centre 1 1 1 ∷ []

-- ---- ranges

pub record Size : Type 0 where
  pub rows : ℕ
  pub columns : ℕ
  pub fits : Bool

abbrev pub size : ℕ → ℕ → Bool → Size
size r c b = record { rows = r; columns = c; fits = b }

abbrev pub sizes : List Size
sizes = size 40 40 true ∷ size 1 2 false ∷ size 41 2 false ∷ size 2 2 true ∷ size 2 1 false ∷ size 2 41 false ∷ []

pub record Caps : Type 0 where
  pub O : ℕ
  pub D : ℕ
  pub E : ℕ
  pub fits : Bool

abbrev pub caps : ℕ → ℕ → ℕ → Bool → Caps
caps o d e b = record { O = o; D = d; E = e; fits = b }

abbrev pub capacities : List Caps
capacities =
    caps 8 16 16 true ∷ caps 2 5 0 false ∷ caps 2 1 0 false ∷ caps 1 1 0 true ∷ caps 0 0 0 false ∷ caps 9 9 0 false ∷ caps 1 1 17 false
    ∷ caps 1 2 2 true ∷ caps 1 2 3 false ∷ []

-- ---- refusals: the number with which a call is refused, none for an accepted one

-- New, on a record that is long enough: "Array 40 by 40 accepted, 1 by 2 and 41 by 2 refused 2. Caps 8 16 16 accepted; 2 5 0 and 2 1 0 refused 3", both faults, and
-- K9: E above D is refused by 3
pub record Opening : Type 0 where
  pub rows : ℕ
  pub columns : ℕ
  pub O : ℕ
  pub D : ℕ
  pub E : ℕ
  pub number : Option ℕ

abbrev pub opening : ℕ → ℕ → ℕ → ℕ → ℕ → Option ℕ → Opening
opening r c o d e n = record { rows = r; columns = c; O = o; D = d; E = e; number = n }

abbrev pub openings : List Opening
openings =
    opening 40 40 1 2 0 none ∷ opening 1 2 1 2 0 (some 2) ∷ opening 41 2 1 2 0 (some 2) ∷ opening 2 2 8 16 16 none ∷ opening 2 2 2 5 0 (some 3)
    ∷ opening 2 2 2 1 0 (some 3) ∷ opening 41 2 2 5 0 (some 2) ∷ opening 1 2 2 1 0 (some 2) ∷ opening 2 2 1 1 2 (some 3) ∷ opening 2 2 1 2 2 none ∷ []

-- Mark and Close on an idle, open job of 2 by 2 pins: 4 before 5
pub record Edit : Type 0 where
  pub row : ℕ
  pub column : ℕ
  pub value : ℕ
  pub number : Option ℕ

abbrev pub edit : ℕ → ℕ → ℕ → Option ℕ → Edit
edit r c v n = record { row = r; column = c; value = v; number = n }

abbrev pub markings : List Edit
markings = edit 1 1 2 none ∷ edit 0 0 0 none ∷ edit 2 0 1 (some 4) ∷ edit 0 2 1 (some 4) ∷ edit 1 1 3 (some 5) ∷ edit 2 0 3 (some 4) ∷ []

abbrev pub closings : List Edit
closings = edit 0 0 1 none ∷ edit 0 0 0 none ∷ edit 1 0 1 (some 4) ∷ edit 0 1 1 (some 4) ∷ edit 0 0 2 (some 5) ∷ edit 1 0 2 (some 4) ∷ []

-- Setting a count on an idle, open job of 3 by 3 pins with O = 2: 4 before 5 before 11
pub record Laying : Type 0 where
  pub row : ℕ
  pub column : ℕ
  pub side : ℕ
  pub count : ℕ
  pub number : Option ℕ

abbrev pub laying : ℕ → ℕ → ℕ → ℕ → Option ℕ → Laying
laying r c d v n = record { row = r; column = c; side = d; count = v; number = n }

abbrev pub layings : List Laying
layings =
    laying 1 1 0 2 none ∷ laying 0 1 3 0 none ∷ laying 2 0 0 1 (some 4) ∷ laying 0 2 0 1 (some 4) ∷ laying 0 0 4 1 (some 5) ∷ laying 1 1 3 3 (some 11)
    ∷ laying 2 0 4 3 (some 4) ∷ laying 0 0 4 3 (some 5) ∷ []

-- K7: `diagonal` on an idle, open job of 3 by 3 pins with O 2 and D 3: 4 before 3. The job's own D may be given, and any other from O to 2×O.
abbrev pub diagonals : List Edit
diagonals =
    edit 1 1 4 none ∷ edit 0 1 2 none ∷ edit 0 0 3 none ∷ edit 2 0 2 (some 4) ∷ edit 0 2 2 (some 4) ∷ edit 0 0 1 (some 3) ∷ edit 1 1 5 (some 3)
    ∷ edit 2 0 5 (some 4) ∷ []

-- K9: lowering E of an idle job of 2 by 2 pins with D = 1 and E = 2, as it was given before the request
pub record Lowering : Type 0 where
  pub to : ℕ
  pub number : Option ℕ

abbrev pub lowering : ℕ → Option ℕ → Lowering
lowering e n = record { to = e; number = n }

abbrev pub lowerings : List Lowering
lowerings = lowering 2 none ∷ lowering 1 none ∷ lowering 0 none ∷ lowering 3 (some 3) ∷ lowering 18446744073709551615 (some 3) ∷ []

-- ---- pairing: which positions arrive, and the pairs in the order in which they are joined

pub record Sequence : Type 0 where
  pub arrivals : List Bool
  pub joins : List Pair

abbrev pub pair : ℕ → ℕ → Pair
pair a b = record { fst = a; snd = b }

-- A B c d e F: B-c, A-d, F-e
abbrev pub six_lanes : Sequence
six_lanes =
    record { arrivals = true ∷ true ∷ false ∷ false ∷ false ∷ true ∷ []; joins = pair 1 2 ∷ pair 0 3 ∷ pair 4 5 ∷ [] }

-- A b C d: A-b, C-d
abbrev pub four_lanes : Sequence
four_lanes = record { arrivals = true ∷ false ∷ true ∷ false ∷ []; joins = pair 0 1 ∷ pair 2 3 ∷ [] }

abbrev pub sequences : List Sequence
sequences = six_lanes ∷ four_lanes ∷ []

-- ---- short jobs: the greatest number, and the smallest near side as the list of its spots

pub record Short : Type 0 where
  pub job : Job
  pub greatest : ℕ
  pub near : List ℕ

-- the numbers of a list, as a set
unfoldable pub among : List ℕ → ℕ → Bool
among [] i = false
among (x ∷ l) i = eqb i x || among l i

-- 3 by 3, caps 1 2 0, every tile closed, the inner pin (1, 1) chosen. Only that pin is near.
abbrev pub job_shut : Job
job_shut = closed (closed (closed (closed (marked (fresh 3 3 1 2 0) 1 1 1) 0 0 1) 0 1 1) 1 0 1) 1 1 1

abbrev pub short_shut : Short
short_shut = record { job = job_shut; greatest = 0; near = spot 1 1 1 ∷ [] }

-- 3 by 4, caps O D E, tile (0, 1) alone open, the inner pins (1, 1), (1, 2) chosen
abbrev pub one_open : ℕ → ℕ → ℕ → Job
one_open O D E = closed (closed (closed (closed (closed (marked (marked (fresh 3 4 O D E) 1 1 1) 1 2 1) 0 0 1) 0 2 1) 1 0 1) 1 1 1) 1 2 1

-- Caps 1 1 0. One wire passes the centre and then the rim side n, each of limit 1: near are the pins, s, w and ci. With co, n and e the sum is 1 too, but
-- that near side is not the smallest.
abbrev pub job34 : Job
job34 = one_open 1 1 0

abbrev pub short34 : Short
short34 = record { job = job34; greatest = 1; near = spot 1 1 1 ∷ spot 1 1 2 ∷ spot 4 0 1 ∷ spot 5 0 1 ∷ spot 6 0 1 ∷ [] }

-- Caps 1 2 0. The centre passes two wires, the rim side n one: near are the pins and n, e, s, w, ci, co of the tile.
abbrev pub job_rim : Job
job_rim = one_open 1 2 0

abbrev pub short_rim : Short
short_rim =
    record {
      job = job_rim;
      greatest = 1;
      near = spot 1 1 1 ∷ spot 1 1 2 ∷ spot 2 0 1 ∷ spot 3 0 1 ∷ spot 4 0 1 ∷ spot 5 0 1 ∷ spot 6 0 1 ∷ spot 7 0 1 ∷ [];
    }

-- The same with E = 2 and pin (0, 1) missing. It stands on the rim, and no wire leaves it directly. Its entry and its exit are near too.
abbrev pub job_missing : Job
job_missing = marked (one_open 1 2 2) 0 1 2

abbrev pub short_missing : Short
short_missing =
    record {
      job = job_missing;
      greatest = 1;
      near =
          spot 1 1 1 ∷ spot 1 1 2 ∷ spot 2 0 1 ∷ spot 3 0 1 ∷ spot 4 0 1 ∷ spot 5 0 1 ∷ spot 6 0 1 ∷ spot 7 0 1 ∷ spot 0 0 1 ∷ spot 1 0 1 ∷ [];
    }

-- The same with E = 0. The links to the missing pin have no limit, so its entry is near; it passes nothing, and its exit is not.
abbrev pub job_entry : Job
job_entry = marked (one_open 1 2 0) 0 1 2

abbrev pub short_entry : Short
short_entry =
    record {
      job = job_entry;
      greatest = 1;
      near = spot 1 1 1 ∷ spot 1 1 2 ∷ spot 2 0 1 ∷ spot 3 0 1 ∷ spot 4 0 1 ∷ spot 5 0 1 ∷ spot 6 0 1 ∷ spot 7 0 1 ∷ spot 0 0 1 ∷ [];
    }

-- Caps 2 2 0. Both pins have a route, each round its side of the tile and over the rim side n; where one wire is already laid there, one has. The centre
-- passes nothing, so all of the tile is near but co.
abbrev pub job_two : Job
job_two = one_open 2 2 0

abbrev pub job_laid : Job
job_laid = laid_by job_two (side_of 0 1 0) 1

abbrev pub short_laid : Short
short_laid =
    record {
      job = job_laid;
      greatest = 1;
      near = spot 1 1 1 ∷ spot 1 1 2 ∷ spot 2 0 1 ∷ spot 3 0 1 ∷ spot 4 0 1 ∷ spot 5 0 1 ∷ spot 6 0 1 ∷ [];
    }

-- Caps 1 1 0, as in `short34`, and an own D of 2 for the open tile: its centre passes two wires, and near is what is near with caps 1 2 0.
abbrev pub job_own : Job
job_own = with_own_d job34 0 1 2

abbrev pub short_own : Short
short_own = record { job = job_own; greatest = 1; near = short_rim.near }

abbrev pub shorts : List Short
shorts = short_shut ∷ short34 ∷ short_rim ∷ short_missing ∷ short_entry ∷ short_laid ∷ short_own ∷ []

-- ---- jobs whose chosen pins can all have a route

-- The 64-byte text: 2 by 2, caps 1 2 0, pin (0, 0) chosen, tile (0, 0) closed.
abbrev pub job64 : Job
job64 = closed (marked (fresh 2 2 1 2 0) 0 0 1) 0 0 1

-- 3 by 3, caps 1 1 0, tile (0, 0) alone open, pins (0, 0), (1, 0), (1, 1) chosen.
abbrev pub job33 : Job
job33 = closed (closed (closed (marked (marked (marked (fresh 3 3 1 1 0) 0 0 1) 1 0 1) 1 1 1) 0 1 1) 1 0 1) 1 1 1

-- the same before the inner pin is chosen, where a run goes on with the wires that it has (K5)
abbrev pub job_earlier : Job
job_earlier = closed (closed (closed (marked (marked (fresh 3 3 1 1 0) 0 0 1) 1 0 1) 0 1 1) 1 0 1) 1 1 1

abbrev pub wireds : List Job
wireds = job64 ∷ job33 ∷ job_two ∷ job_earlier ∷ []

-- ---- K8: least lengths

pub record Measured : Type 0 where
  pub job : Job
  pub least : ℕ

abbrev pub measured : Job → ℕ → Measured
measured J n = record { job = J; least = n }

-- 3 by 5, caps 1 2 0, of row 0 the tiles (0, 1), (0, 2), (0, 3) open and all other tiles closed, the inner pins (1, 1), (1, 2) chosen, and a wire already laid on
-- the rim side of tile (0, 2). Each pin alone has a route of length 10, both over the rim side of tile (0, 1), which takes one; the other goes on to tile (0, 3).
abbrev pub job_crowded : Job
job_crowded =
    laid_by
    (closed (closed (closed (closed (closed (marked (marked (fresh 3 5 1 2 0) 1 1 1) 1 2 1) 0 0 1) 1 0 1) 1 1 1) 1 2 1) 1 3 1)
    (side_of 0 2 0) 1

-- 3 by 4, caps 1 2 1, the tiles (0, 1), (0, 2), (1, 2) open, the inner pin (1, 1) chosen, and wires already laid on the rim sides of row 0. The way out is over
-- tile (1, 2): from tile (0, 1) by the sides of tile (0, 2), 20, or past the pin (1, 2) if that is missing (mark 2), 14; and then 10 for the rim.
abbrev pub job_corner : ℕ → Job
job_corner m =
    laid_by (laid_by (laid_by (closed (closed (closed (marked (marked (fresh 3 4 1 2 1) 1 1 1) 1 2 m) 0 0 1) 1 0 1) 1 1 1) (side_of 0 1 0) 1) (side_of 0 2 0) 1)
    (side_of 0 2 1) 1

abbrev pub lengths : List Measured
lengths = measured job64 0 ∷ measured job33 10 ∷ measured job_crowded 30 ∷ measured (job_corner 2) 24 ∷ measured (job_corner 0) 30 ∷ []

-- ---- direct exits: how many links lead from the pin straight to the outside

pub record Exits : Type 0 where
  pub job : Job
  pub row : ℕ
  pub column : ℕ
  pub gives : ℕ

abbrev pub exits : Job → ℕ → ℕ → ℕ → Exits
exits J r c n = record { job = J; row = r; column = c; gives = n }

-- A corner pin has one, "even where all its tiles are closed", and not two; an inner pin, a missing pin and an idle one have none.
abbrev pub directs : List Exits
directs = exits job64 0 0 1 ∷ exits job33 0 0 1 ∷ exits job33 1 0 1 ∷ exits job33 1 1 0 ∷ exits job_shut 1 1 0 ∷ exits job_missing 0 1 0 ∷ exits job64 0 1 0 ∷ []

-- ---- K6: with which number a trial is refused, on a record that is long enough: 2 before 3 before 12 before 13

pub record Trying : Type 0 where
  pub trial : Trial
  pub number : Option ℕ

abbrev pub trying : Trial → Option ℕ → Trying
trying t n = record { trial = t; number = n }

abbrev pub tryings : List Trying
tryings =
    trying (trial_of 2 2 1 2 0 1 40 60 100) none ∷ trying (trial_of 40 40 8 16 16 4294967295 100 0 0) none ∷ trying (trial_of 2 2 1 2 0 0 40 60 100) (some 12)
    ∷ trying (trial_of 2 2 1 2 0 4294967296 40 60 100) (some 12) ∷ trying (trial_of 2 2 1 2 0 1 41 60 100) (some 13) ∷ trying (trial_of 2 2 1 2 0 1 0 0 101) (some 13)
    ∷ trying (trial_of 2 2 1 2 0 0 41 60 100) (some 12) ∷ trying (trial_of 2 2 2 5 0 0 41 60 100) (some 3) ∷ trying (trial_of 41 2 2 5 0 0 41 60 100) (some 2)
    ∷ trying (trial_of 2 2 1 1 2 1 40 60 100) (some 3) ∷ []

-- ---- K6: the number after so many draws from 1; "From 1 the first draw is 270369"

pub record FromOne : Type 0 where
  pub draws : ℕ
  pub number : ℕ

abbrev pub from_one : ℕ → ℕ → FromOne
from_one k x = record { draws = k; number = x }

abbrev pub numbers_from_one : List FromOne
numbers_from_one = from_one 1 270369 ∷ from_one 2 67634689 ∷ from_one 3 2647435461 ∷ from_one 4 307599695 ∷ from_one 5 2398689233 ∷ []
