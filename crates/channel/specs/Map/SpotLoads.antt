-- What the eight darts of a spot carry together, and what comes back along them: an exit sends out what leaves its place, an entry what comes to it, and the
-- dart between them carries all that comes. Assumes nothing.
use Rattle.std.specs.Prelude.{◌≡◌, Bool, not, ◌&&◌, List, ℕ, suc, ◌+◌, ◌*◌, ◌/◌, ◌%◌, ◌≤◌, ◌<◌, T, eqb, leb}
use Rattle.std.proofs.Common.{◌∙◌, eqb→eq, leb→le}
use native.Mathlib.Omega.{arith}
use Rattle.sums.specs.Counting.{sum, total}
use Rattle.sums.specs.Tests.{and_left, and_right, below, below_at}
use Rattle.sums.specs.Sums.{sum-cong, sum-none}
use Rattle.model.specs.Links.{Compass, compass_code, north, east, south, west, pin, missing, centre, side, at, direct, go, come}
use Rattle.model.specs.Loads.{departures, arrivals}
use Rattle.model.specs.Record.{load}
use Rattle.channel.specs.Map.{links, owners, signs, codes, kind_of, owner_of, sign_of, code_of, in_grid, carries, returns, is_passage, is_return}
use Rattle.channel.specs.Map.RowLoads.{goes, comes, goes_at, comes-at, goes-off, comes-off}

-- the links of the spots of kind q are owned by cells at most m rows and columns on
abbrev near : ℕ → ℕ → Bool
near q m = below 8 (λ k. leb (owner_of (q * 8 + k) / 40) m && leb (owner_of (q * 8 + k) % 40) m)

-- slot by slot, without the tests of the grid
module _ (r c q m : ℕ) (t : T (near q m)) (a : m + r < 40) (b : m + c < 40) where
  near-at : (k : ℕ) → k < 8 → (owner_of (q * 8 + k) / 40 ≤ m) × (owner_of (q * 8 + k) % 40 ≤ m)
  near-at k l =
      let p : Bool = leb (owner_of (q * 8 + k) / 40) m in
      let o : Bool = leb (owner_of (q * 8 + k) % 40) m in
      let h = below_at 8 (λ k. leb (owner_of (q * 8 + k) / 40) m && leb (owner_of (q * 8 + k) % 40) m) t k l in
      (leb→le _ _ (and_left p o h), leb→le _ _ (and_right p o h))

  slots : {f g : ℕ → ℕ} → ((i : ℕ) → owner_of i / 40 + r < 40 → owner_of i % 40 + c < 40 → f i ≡ g i)
      → sum 8 (λ k. f (q * 8 + k)) ≡ sum 8 (λ k. g (q * 8 + k))
  slots h = sum-cong 8 _ _ (λ k l. h (q * 8 + k) (omega (arith, near-at k l)) (omega (arith, near-at k l)))

module _ (rec : List ℕ) (x r c : ℕ) (e : x ≡ 41 + 40 * r + c) where
  -- n, e, s and w of a tile: what leaves, and what comes
  module _ (a : suc r < 40) (b : suc c < 40) where
    pub side-goes : (d : Compass) → sum 8 (λ k. goes rec ((2 + compass_code d) * 8 + k) x) ≡ departures (load rec) (at (side d) r c)
    unfolding below sum total departures kind_of links owner_of owners sign_of signs code_of codes carries is_passage
    side-goes north = slots r c 2 1 tt (omega arith) (omega arith) (goes_at rec x r c e) ∙ omega arith
    side-goes east = slots r c 3 1 tt (omega arith) (omega arith) (goes_at rec x r c e) ∙ omega arith
    side-goes south = slots r c 4 1 tt (omega arith) (omega arith) (goes_at rec x r c e) ∙ omega arith
    side-goes west = slots r c 5 1 tt (omega arith) (omega arith) (goes_at rec x r c e) ∙ omega arith

    pub side-comes : (d : Compass) → sum 8 (λ k. comes rec ((2 + compass_code d) * 8 + k) x) ≡ arrivals (load rec) (at (side d) r c)
    unfolding below sum total arrivals kind_of links owner_of owners sign_of signs code_of codes returns is_return
    side-comes north = slots r c 2 1 tt (omega arith) (omega arith) (comes-at rec x r c e) ∙ omega arith
    side-comes east = slots r c 3 1 tt (omega arith) (omega arith) (comes-at rec x r c e) ∙ omega arith
    side-comes south = slots r c 4 1 tt (omega arith) (omega arith) (comes-at rec x r c e) ∙ omega arith
    side-comes west = slots r c 5 1 tt (omega arith) (omega arith) (comes-at rec x r c e) ∙ omega arith

  -- the entry and the exit of a missing pin, and of a centre
  module _ (a : r < 40) (b : c < 40) where
    pub missing-entry-goes : sum 8 (λ k. goes rec (0 * 8 + k) x) ≡ arrivals (load rec) (at missing r c) + load rec (come direct r c)
    unfolding below sum total arrivals kind_of links owner_of owners sign_of signs code_of codes carries is_passage
    missing-entry-goes = slots r c 0 0 tt (omega arith) (omega arith) (goes_at rec x r c e) ∙ omega arith

    pub missing-entry-comes : sum 8 (λ k. comes rec (0 * 8 + k) x) ≡ arrivals (load rec) (at missing r c) + load rec (go direct r c)
    unfolding below sum total arrivals kind_of links owner_of owners sign_of signs code_of codes returns is_return
    missing-entry-comes = slots r c 0 0 tt (omega arith) (omega arith) (comes-at rec x r c e) ∙ omega arith

    pub missing-exit-goes : sum 8 (λ k. goes rec (1 * 8 + k) x) ≡ departures (load rec) (at pin r c)
    unfolding below sum total departures kind_of links owner_of owners sign_of signs code_of codes carries is_passage
    missing-exit-goes = slots r c 1 0 tt (omega arith) (omega arith) (goes_at rec x r c e) ∙ omega arith

    pub missing-exit-comes : sum 8 (λ k. comes rec (1 * 8 + k) x) ≡ arrivals (load rec) (at missing r c) + load rec (come direct r c)
    unfolding below sum total arrivals kind_of links owner_of owners sign_of signs code_of codes returns is_return
    missing-exit-comes = slots r c 1 0 tt (omega arith) (omega arith) (comes-at rec x r c e) ∙ omega arith

    pub centre-entry-goes : sum 8 (λ k. goes rec (6 * 8 + k) x) ≡ arrivals (load rec) (at centre r c)
    unfolding below sum total arrivals kind_of links owner_of owners sign_of signs code_of codes carries is_passage
    centre-entry-goes = slots r c 6 0 tt (omega arith) (omega arith) (goes_at rec x r c e) ∙ omega arith

    pub centre-entry-comes : sum 8 (λ k. comes rec (6 * 8 + k) x) ≡ arrivals (load rec) (at centre r c)
    unfolding below sum total arrivals kind_of links owner_of owners sign_of signs code_of codes returns is_return
    centre-entry-comes = slots r c 6 0 tt (omega arith) (omega arith) (comes-at rec x r c e) ∙ omega arith

    pub centre-exit-goes : sum 8 (λ k. goes rec (7 * 8 + k) x) ≡ departures (load rec) (at centre r c)
    unfolding below sum total departures kind_of links owner_of owners sign_of signs code_of codes carries is_passage
    centre-exit-goes = slots r c 7 0 tt (omega arith) (omega arith) (goes_at rec x r c e) ∙ omega arith

    pub centre-exit-comes : sum 8 (λ k. comes rec (7 * 8 + k) x) ≡ arrivals (load rec) (at centre r c)
    unfolding below sum total arrivals kind_of links owner_of owners sign_of signs code_of codes returns is_return
    centre-exit-comes = slots r c 7 0 tt (omega arith) (omega arith) (comes-at rec x r c e) ∙ omega arith

-- nothing is carried off the grid by a spot whose links its own cell owns
module _ (x : ℕ) (n : T (not (in_grid x))) (rec : List ℕ) (q : ℕ) (own : T (below 8 (λ k. eqb (owner_of (q * 8 + k)) 0))) where
  owned : (k : ℕ) → k < 8 → owner_of (q * 8 + k) ≡ 0
  owned k l = eqb→eq (owner_of (q * 8 + k)) 0 (below_at 8 (λ k. eqb (owner_of (q * 8 + k)) 0) own k l)

  pub off-goes : sum 8 (λ k. goes rec (q * 8 + k) x) ≡ 0
  off-goes = sum-none 8 _ (λ k l. goes-off rec x n (q * 8 + k) (owned k l))

  pub off-comes : sum 8 (λ k. comes rec (q * 8 + k) x) ≡ 0
  off-comes = sum-none 8 _ (λ k l. comes-off rec x n (q * 8 + k) (owned k l))
