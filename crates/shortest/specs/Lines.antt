-- How the wiring stands between two pins: the loads have prices, no spot is marked, and no price is above what the wires so far account for. Each pin that
-- is passed is wired and stays so; when all rows are passed, every chosen pin is. Assumes nothing.
use Rattle.std.specs.Prelude.{◌≡◌, refl, ◌≢◌, ◌⊎◌, List, ℕ, ◌+◌, ◌*◌, ◌≤◌, ◌<◌, T, length}
use Rattle.std.proofs.Common.{sym, subst, ◌∙◌, ⊎_elim}
use native.Mathlib.Omega.{arith}
use Rattle.sums.specs.Counting.{when, each, those, total}
use Rattle.sums.specs.Tests.{below_or}
use Rattle.sums.specs.Sums.{when-same, sum-le, sum_ones}
use Rattle.sums.specs.Totals.{total-each, total-those}
use Rattle.price.specs.Cost.{sum-scale}
use Rattle.model.specs.Job.{Job, array_fits}
use Rattle.model.specs.Links.{north, east, south, west, pin, missing, centre, side, at, is_place, is_pin_kind, places_at, places}
use Rattle.model.specs.Record.{load}
use Rattle.model.specs.Route.{chosen_count}
use Rattle.model.specs.Wires.{wire_count}
use Rattle.channel.specs.Map.{spots, is_start, want, starts}
use Rattle.channel.specs.Map.Network.Flows.{starts-count, want-count}
use Rattle.channel.specs.Map.Starts.{want-start}
use Rattle.augment.specs.Laid.{SameButLoads}
use Rattle.augment.specs.OneMore.{wires-more}
use Rattle.augment.specs.Steps.{Whole}
use Rattle.augment.specs.Spread.{Room}
use Rattle.augment.specs.Pins.{inward, spot_on, OnLine, Nth, InRows}
use Rattle.augment.specs.Passing.{array_size, line-last, rows_last, wanted-in-rows}
use Rattle.wire.specs.Places.{when-drop}
use Rattle.augment.specs.declared.next.Line.{Line}
use Rattle.search.specs.Fill.{Cleared, More}
use Rattle.search.specs.Filling.{held_more}
use Rattle.search.specs.Routing.{wires-few, lacks-no-pin, lacks-no-wire}
use Rattle.shortest.specs.Wiring.{AtMost, Arranged, Grew}

-- ---- what is lent

-- what is lent to the wiring is long enough
pub record Lent (job rec π t q f w s m : List ℕ) : Type 0 where
  pub whole : Whole job rec
  pub room : Room t q f w
  pub stack : spots ≤ length s
  pub rim : spots ≤ length m
  pub prices : spots ≤ length π

-- both are as long
pub record Sizes (rec π t q f w s m rec' π' t' q' f' w' s' m' : List ℕ) : Type 0 where
  pub loads : length rec' ≡ length rec
  pub prices : length π' ≡ length π
  pub marks : length t' ≡ length t
  pub queue : length q' ≡ length q
  pub parents : length f' ≡ length f
  pub slots : length w' ≡ length w
  pub stack : length s' ≡ length s
  pub rim : length m' ≡ length m

pub sizes-refl : (rec π t q f w s m : List ℕ) → Sizes rec π t q f w s m rec π t q f w s m
sizes-refl rec π t q f w s m =
    record { loads = refl; prices = refl; marks = refl; queue = refl; parents = refl; slots = refl; stack = refl; rim = refl }

module _ {rec π t q f w s m rec' π' t' q' f' w' s' m' : List ℕ} (a : Sizes rec π t q f w s m rec' π' t' q' f' w' s' m') where
  pub sizes-then : {rec'' π'' t'' q'' f'' w'' s'' m'' : List ℕ} → Sizes rec' π' t' q' f' w' s' m' rec'' π'' t'' q'' f'' w'' s'' m''
      → Sizes rec π t q f w s m rec'' π'' t'' q'' f'' w'' s'' m''
  sizes-then b =
      record {
        loads = b.loads ∙ a.loads;
        prices = b.prices ∙ a.prices;
        marks = b.marks ∙ a.marks;
        queue = b.queue ∙ a.queue;
        parents = b.parents ∙ a.parents;
        slots = b.slots ∙ a.slots;
        stack = b.stack ∙ a.stack;
        rim = b.rim ∙ a.rim;
      }

  pub sizes-lent : {job : List ℕ} → Lent job rec π t q f w s m → Lent job rec' π' t' q' f' w' s' m'
  sizes-lent l =
      record {
        whole = record { asked = l.whole.asked; loads = omega (arith, l.whole.loads, a.loads) };
        room = record {
          marks = omega (arith, l.room.marks, a.marks);
          queue = omega (arith, l.room.queue, a.queue);
          parents = omega (arith, l.room.parents, a.parents);
          slots = omega (arith, l.room.slots, a.slots);
        };
        stack = omega (arith, l.stack, a.stack);
        rim = omega (arith, l.rim, a.rim);
        prices = omega (arith, l.prices, a.prices);
      }

-- ---- how the wiring stands

pub record Standing (J : Job) (rec prices marks : List ℕ) : Type 0 where
  pub arranged : Arranged J rec prices
  pub cleared : Cleared marks
  pub most : AtMost prices (214 + wire_count J (load rec) * 1417824)

-- the pins of P are wired, and those that were still are
pub record Advanced (J : Job) (P : ℕ → Type 0) (rec rec' prices' marks' : List ℕ) : Type 0 where
  pub standing : Standing J rec' prices' marks'
  pub more : More J rec rec'
  pub done : (u : ℕ) → u < spots → P u → want J u ≤ starts J rec' u

-- ---- an array has at most 1,600 chosen pins

module _ (J : Job) (fits : T (array_fits J.rows J.columns)) where
  one-pin : (r c : ℕ) → total (those (is_place J) (places_at r c)) (λ x. when (is_pin_kind x) 1) ≤ 1
  unfolding total
  one-pin r c =
      omega (
        arith,
        total-those (is_place J) (places_at r c) (λ x. when (is_pin_kind x) 1),
        when-drop (is_place J (at missing r c)) 0,
        when-drop (is_place J (at pin r c)) 1,
        when-drop (is_place J (at (side north) r c)) 0,
        when-drop (is_place J (at (side east) r c)) 0,
        when-drop (is_place J (at (side south) r c)) 0,
        when-drop (is_place J (at (side west) r c)) 0,
        when-drop (is_place J (at centre r c)) 0,
      )

  row-pins : (r : ℕ) → total (each J.columns (λ c. those (is_place J) (places_at r c))) (λ x. when (is_pin_kind x) 1) ≤ 40
  row-pins r =
      omega (
        arith,
        total-each J.columns (λ c. those (is_place J) (places_at r c)) (λ x. when (is_pin_kind x) 1),
        sum-le J.columns (λ c. total (those (is_place J) (places_at r c)) (λ x. when (is_pin_kind x) 1)) (λ c. 1) (λ c l. one-pin r c),
        sum_ones J.columns,
        (array_size J fits).1,
      )

  pub chosen-few : chosen_count J ≤ 1600
  unfolding places
  chosen-few =
      omega (
        arith,
        total-each J.rows (λ r. each J.columns (λ c. those (is_place J) (places_at r c))) (λ x. when (is_pin_kind x) 1),
        sum-le J.rows (λ r. total (each J.columns (λ c. those (is_place J) (places_at r c))) (λ x. when (is_pin_kind x) 1)) (λ r. 40 * 1) (λ r l. row-pins r),
        sum-scale J.rows 40 (λ r. 1),
        sum_ones J.rows,
        (array_size J fits).0,
      )

-- so that no price is too high before any search
pub standing-few : {J : Job} {rec prices marks : List ℕ} → Standing J rec prices marks → AtMost prices 2268518614
standing-few {J} S u = let H = S.arranged.held in omega (arith, S.most u, wires-few H, chosen-few J H.fits)

-- ---- other loads, and others again

same_refl : (rec : List ℕ) → SameButLoads rec rec
same_refl rec = record { size = refl; job = refl; front = λ i l. refl; rest = λ i l. refl }

pub same_then : {rec rec₁ rec₂ : List ℕ} → SameButLoads rec rec₁ → SameButLoads rec₁ rec₂ → SameButLoads rec rec₂
same_then p q =
    record {
      size = q.size ∙ p.size;
      job = q.job ∙ p.job;
      front = λ i l. q.front i l ∙ p.front i l;
      rest = λ i l. q.rest i l ∙ p.rest i l;
    }

-- ---- one pin

module _ {J : Job} {rec prices marks : List ℕ} (S : Standing J rec prices marks) where
  -- the loads stay
  left-more : More J rec rec
  left-more = record { held = S.arranged.held; begun = λ x l. omega arith; kept = same_refl rec }

  -- no pin is passed
  pub advanced-none : {P : ℕ → Type 0} → ((u : ℕ) → P u → ⊥) → Advanced J P rec rec prices marks
  advanced-none n = record { standing = S; more = left-more; done = λ u l p. absurd (n u p) }

  -- no wire is wanted at u that is not there
  advanced-still : {u : ℕ} → want J u ≤ starts J rec u → Advanced J (λ x. x ≡ u) rec rec prices marks
  advanced-still {u} h =
      record { standing = S; more = left-more; done = λ x l e. subst (λ (y : ℕ). want J y ≤ starts J rec y) (sym e) h }

  -- no wire is wanted at u; one starts there
  pub advanced-no-pin : {u : ℕ} → (T (is_start J u) → ⊥) → Advanced J (λ x. x ≡ u) rec rec prices marks
  advanced-no-pin {u} n = advanced-still (omega (arith, lacks-no-pin J rec u n))

  pub advanced-wired : {u : ℕ} → starts J rec u ≢ 0 → Advanced J (λ x. x ≡ u) rec rec prices marks
  advanced-wired {u} n = advanced-still (omega (arith, lacks-no-wire J rec u n))

  -- a wire more starts at u
  pub advanced-grown : {u : ℕ} {rec' prices' marks' : List ℕ} → u < spots → Grew J rec prices u rec' prices' marks' → Advanced J (λ x. x ≡ u) rec rec' prices' marks'
  advanced-grown {u} {rec'} {prices'} {marks'} l G =
      let H = S.arranged.held in
      let M = G.more in
      record {
        standing = record {
          arranged = record { held = held_more H l M; priced = G.priced };
          cleared = G.cleared;
          most = λ x. omega (arith, G.most (214 + wire_count J (load rec) * 1417824) S.most x, wires-more J H.fits rec H.feasible rec' u l M);
        };
        more = record { held = held_more H l M; begun = λ x k. omega (arith, M.begun x k); kept = M.kept };
        done = λ x k e.
            omega (arith, M.begun x k, when-same u x 1 (sym e), want-start J x, when-drop (is_start J x) 1);
      }

-- ---- one after the other

advanced-then : {J : Job} {P Q R : ℕ → Type 0} {rec rec₁ rec₂ prices₁ marks₁ prices₂ marks₂ : List ℕ} → Advanced J P rec rec₁ prices₁ marks₁
    → Advanced J Q rec₁ rec₂ prices₂ marks₂ → ((u : ℕ) → R u → P u ⊎ Q u) → Advanced J R rec rec₂ prices₂ marks₂
advanced-then A B f =
    record {
      standing = B.standing;
      more = record {
        held = B.more.held;
        begun = λ x l. omega (arith, A.more.begun x l, B.more.begun x l);
        kept = same_then A.more.kept B.more.kept;
      };
      done = λ u l r. ⊎_elim (λ a. omega (arith, A.done u l a, B.more.begun u l)) (λ b. B.done u l b) (f u r);
    }

-- one pin more of a line
pub advanced-line : {J : Job} {rec rec₁ rec₂ prices₁ marks₁ prices₂ marks₂ : List ℕ} {l : Line} {m u : ℕ} → Advanced J (OnLine l m) rec rec₁ prices₁ marks₁
    → u ≡ spot_on l (inward m l.pins) → Advanced J (λ x. x ≡ u) rec₁ rec₂ prices₂ marks₂ → Advanced J (OnLine l (m + 1)) rec rec₂ prices₂ marks₂
advanced-line {l = l} {m = m} A q B = advanced-then A B (λ x w. line-last w q)

-- one line more
pub advanced-lines : {J : Job} {rec rec₁ rec₂ prices₁ marks₁ prices₂ marks₂ : List ℕ} {l : Line} {m : ℕ} → Advanced J (InRows J 0 m) rec rec₁ prices₁ marks₁
    → Nth J m l → Advanced J (OnLine l l.pins) rec₁ rec₂ prices₂ marks₂ → Advanced J (InRows J 0 (m + 1)) rec rec₂ prices₂ marks₂
advanced-lines A n B = advanced-then A B (λ x w. rows_last n w)

-- every line: each chosen pin is wired
pub advanced-all : {J : Job} {rec rec' prices' marks' : List ℕ} → Advanced J (InRows J 0 (2 * J.rows)) rec rec' prices' marks'
    → wire_count J (load rec') ≡ chosen_count J
advanced-all {J} {rec' = rec'} A =
    let H = A.more.held in
    omega (
      arith,
      wires-few H,
      want-count J H.fits,
      starts-count J H.fits rec' H.feasible,
      sum-le spots (want J) (starts J rec') (λ u l. ⊎_elim (λ h. A.done u l (wanted-in-rows J u h)) (λ z. omega arith) (below_or 0 (want J u))),
    )
