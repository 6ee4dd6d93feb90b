-- Document 01, "Record and operations": the 32,768 bytes of a record and when they are damaged. The layout is docs/RECORD.md's: a header of 768 bytes
-- (0 to 4 are rows, columns, O, D, E, 5 to 21 what requests add), then 20 planes of 1,600 bytes, a byte for each cell (r, c) at 40 r + c: marks, tile
-- states, the loads of the 15 kinds of links, and three planes of what requests add. Assumes nothing.
use Rattle.std.specs.Prelude.{◌≡◌, ◌≢◌, true, false, not, ◌&&◌, List, [], ◌∷◌, ◌++◌, ℕ, zero, suc, ◌+◌, ◌-◌, ◌*◌, ◌/◌, ◌%◌, ◌≤◌, ◌<◌, T, ltb, length, get_or, drop}
use Rattle.std.proofs.Math.Option.{Option, none, some}
use Rattle.std.proofs.Math.ListN.{get_elem?}
use Rattle.sums.specs.Counting.{when, each}
use Rattle.model.specs.Job.{Added, Job, AddedFits, array_fits, caps_fit, is_pin, is_tile}
use Rattle.model.specs.Links.{north, east, south, west, LinkKind, north_side, west_side, corner, spoke, leg, direct, link_code, Step, go, come}
use Rattle.model.specs.Loads.{Sound}

abbrev pub record_size : ℕ
record_size = 32768

abbrev pub scratch_size : ℕ
scratch_size = 65536

-- ---- reading a record

abbrev pub mark_plane : ℕ
mark_plane = 0

abbrev pub state_plane : ℕ
state_plane = 1

abbrev pub load_plane : LinkKind → ℕ
load_plane k = 2 + link_code k

-- the planes behind those of loads: wires already laid on north sides and on west sides, and own diagonals
abbrev pub laid_north_plane : ℕ
laid_north_plane = 17

abbrev pub laid_west_plane : ℕ
laid_west_plane = 18

abbrev pub own_d_plane : ℕ
own_d_plane = 19

abbrev pub offset : ℕ → ℕ → ℕ → ℕ
offset plane r c = 768 + 1600 * plane + 40 * r + c

-- the byte of a plane at a cell; no cell lies beyond row or column 39
unfoldable pub cell : List ℕ → ℕ → ℕ → ℕ → ℕ
cell rec plane r c = when (ltb r 40 && ltb c 40) (get_or rec (offset plane r c) 0)

-- what requests add: laid counts, own diagonals, the upward mark, and four rectangles of four bytes each
unfoldable pub added_of : List ℕ → Added
added_of rec =
    record {
      laid_north = cell rec laid_north_plane;
      laid_west = cell rec laid_west_plane;
      own_d = cell rec own_d_plane;
      upward = get_or rec 5 0;
      seen = λ p k. when (ltb p 4 && ltb k 4) (get_or rec (6 + 4 * p + k) 0);
    }

unfoldable pub job_of : List ℕ → Job
job_of rec =
    record {
      rows = get_or rec 0 0;
      columns = get_or rec 1 0;
      O = get_or rec 2 0;
      D = get_or rec 3 0;
      E = get_or rec 4 0;
      mark = cell rec mark_plane;
      state = cell rec state_plane;
      added = added_of rec;
    }

-- A load byte: 0 none; 1 to 31 that many along the link's positive way; 33 to 63 that many less 32 against it.
abbrev pub forth_part : ℕ → ℕ
forth_part b = b - b / 32 * 64

abbrev pub back_part : ℕ → ℕ
back_part b = b - 32

-- how many wires the record has on the step's link, going the step's way
unfoldable pub load : List ℕ → Step → ℕ
load rec s =
    elim s.forth [
      | true ↦ forth_part (cell rec (load_plane s.link.kind) s.link.row s.link.column)
      | false ↦ back_part (cell rec (load_plane s.link.kind) s.link.row s.link.column)
    ]

-- ---- damage

module _ (rec : List ℕ) where
  abbrev J : Job
  J = job_of rec

  pub record InRange : Type 0 where
    pub array : T (array_fits J.rows J.columns)
    pub caps : T (caps_fit J.O J.D J.E)
    pub marks : (r c : ℕ) → J.mark r c ≤ 2
    pub states : (r c : ℕ) → J.state r c ≤ 1
    pub added : AddedFits J
    pub loads : (k : LinkKind) (r c : ℕ) → (cell rec (load_plane k) r c < 64) × (cell rec (load_plane k) r c ≢ 32)

  pub record Unused : Type 0 where
    pub header : (i : ℕ) → 22 ≤ i → i < 768 → get_or rec i 0 ≡ 0
    pub marks : (r c : ℕ) → T (not (is_pin J r c)) → J.mark r c ≡ 0
    pub states : (r c : ℕ) → T (not (is_tile J r c)) → J.state r c ≡ 0

  -- a record neither short nor damaged
  pub record Legal : Type 0 where
    pub long : record_size ≤ length rec
    -- "a value is out of range"
    pub values : InRange
    -- what is wrong with loads
    pub sound : Sound J (load rec)
    -- "an unused byte is not zero"; a load byte of no link is 0 by `sound`
    pub unused : Unused

-- ---- the record of a job with given loads

-- f 0, .. f (n - 1)
abbrev pub bytes : ℕ → (ℕ → ℕ) → List ℕ
bytes n f = each n (λ i. f i ∷ [])

-- the kinds of links in the order of their planes
abbrev pub kinds : List LinkKind
kinds =
    north_side ∷ west_side ∷ corner north ∷ corner east ∷ corner south ∷ corner west ∷ spoke north ∷ spoke east ∷ spoke south ∷ spoke west ∷ leg north
    ∷ leg east ∷ leg south ∷ leg west ∷ direct ∷ []

abbrev pub load_byte : (Step → ℕ) → LinkKind → ℕ → ℕ → ℕ
load_byte f k r c = f (go k r c) + when (ltb 0 (f (come k r c))) (32 + f (come k r c))

-- the planes behind those of the 15 kinds; p counts from the first plane of loads
abbrev pub added_byte : Added → ℕ → ℕ → ℕ → ℕ
added_byte A p r c = get_or (A.laid_north r c ∷ A.laid_west r c ∷ A.own_d r c ∷ []) (p - 15) 0

abbrev pub kind_byte : Added → (Step → ℕ) → ℕ → Option LinkKind → ℕ → ℕ → ℕ
kind_byte A f p none r c = added_byte A p r c
kind_byte A f p (some k) r c = load_byte f k r c

abbrev pub plane_byte : Job → (Step → ℕ) → ℕ → ℕ → ℕ → ℕ
plane_byte J f zero r c = J.mark r c
plane_byte J f (suc zero) r c = J.state r c
plane_byte J f (suc (suc p)) r c = kind_byte J.added f p (get_elem? kinds p) r c

-- rows, columns, O, D, E, the upward mark, then the rectangles, 4 bytes each
abbrev pub head_byte : Job → ℕ → ℕ
head_byte J i =
    get_or
    ((J.rows ∷ J.columns ∷ J.O ∷ J.D ∷ J.E ∷ J.added.upward ∷ []) ++ bytes 16 (λ j. J.added.seen (j / 4) (j % 4))) i 0

unfoldable pub record_of : Job → (Step → ℕ) → List ℕ
record_of J f = bytes 768 (head_byte J) ++ bytes 32000 (λ i. plane_byte J f (i / 1600) (i % 1600 / 40) (i % 40))

abbrev pub no_loads : Step → ℕ
no_loads s = 0

abbrev pub unwired_record : Job → List ℕ
unwired_record J = record_of J no_loads

-- "A longer buffer is used from its start and its rest is untouched."
abbrev pub over : List ℕ → List ℕ → List ℕ
over new old = new ++ drop (length new) old
