-- The record after an edit is legal again, and gives back the edited job and the loads of the wires that stay. For these are sound for the edited job, and no
-- more than the loads before. Assumes nothing.
use Rattle.std.specs.Prelude.{◌≡◌, Bool, not, List, [], ◌∷◌, ℕ, ◌*◌, ◌≤◌, ◌<◌, T, leb}
use Rattle.std.proofs.Common.{ap, arith}
use Rattle.std.proofs.Math.Bool.{true, false}
use Rattle.sums.specs.Sums.{when-none}
use Rattle.sums.specs.Tests.{and-not, and_both}
use Rattle.model.specs.Job.{Job, Side, side_of, Proper, in_range, is_pin, is_tile, marked, closed, laid_by, diagonal_by, with_extra}
use Rattle.model.specs.Links.{centre, at, Link, Step, turn}
use Rattle.model.specs.Record.{load_plane, cell, job_of, forth_part, back_part, load, Legal, record_of}
use Rattle.model.specs.Left.{left_loads, avoids, tile_places, mark_left, close_left, laid_left, centre_left, missing_places, extra_left}
use Rattle.model.proofs.RecordOf.{in_cells, Storable, load-back, record-legal}
use Rattle.model.proofs.Admitted.{extra-proper}
use Rattle.model.proofs.TextProper.{marked-proper, closed-proper}
use Rattle.model.proofs.Own.{diagonal-proper}
use Rattle.model.proofs.Sides.{laid-proper}
use Rattle.keep.specs.Staying.{left-part}
use Rattle.keep.specs.Edited.{mark-edit, close-edit, diagonal-edit, extra-edit}
use Rattle.keep.specs.Laid.{laid_stays, laid-edit}

less-storable : (f g : Step → ℕ) → ((s : Step) → g s ≤ f s) → Storable f → Storable g
less-storable f g le b =
    record {
      small = λ s. omega (arith, le s, b.small s);
      one_way = λ s h. omega (arith, le s, le (turn s), b.one_way s (omega (arith, le s)));
      inside = λ s t. omega (arith, le s, b.inside s t);
    }

module _ (was : List ℕ) (g : Legal was) where
  abbrev J : Job
  J = job_of was

  abbrev f : Step → ℕ
  f = load was

  way-small : (l : Link) (b : Bool) → load was (record { link = l; forth = b }) < 32
  unfolding load
  way-small l true = omega (arith, (g.values.loads l.kind l.row l.column).0)
  way-small l false = omega (arith, (g.values.loads l.kind l.row l.column).0)

  way-inside : (l : Link) (b : Bool) → T (not (in_cells l.row l.column)) → load was (record { link = l; forth = b }) ≡ 0
  unfolding load cell
  way-inside l b n = by b
    where
      none : cell was (load_plane l.kind) l.row l.column ≡ 0
      none =
          when-none (in_cells l.row l.column) _
          (λ t. absurd (and-not (in_cells l.row l.column) (and_both (in_cells l.row l.column) (not (in_cells l.row l.column)) t n)))

      by : (b : Bool) → load was (record { link = l; forth = b }) ≡ 0
      by true = ap forth_part none
      by false = ap back_part none

  legal-storable : Storable f
  legal-storable =
      record {
        small = λ s. way-small s.link s.forth;
        one_way = g.sound.feasible.one_way;
        inside = λ s t. way-inside s.link s.forth t;
      }

  left-storable : (stays : ℕ → ℕ → Bool) → Storable (left_loads J f stays)
  left-storable stays = less-storable f (left_loads J f stays) (λ s. omega (arith, left-part J f g.sound stays s)) legal-storable

  pub mark-storable : (r c : ℕ) → Storable (mark_left J f r c)
  unfolding mark_left
  mark-storable r c = left-storable (avoids J f _)

  pub close-storable : (r c : ℕ) → Storable (close_left J f r c)
  unfolding close_left
  close-storable r c = left-storable (avoids J f (tile_places r c))

  pub centre-storable : (r c : ℕ) → Storable (centre_left J f r c)
  unfolding centre_left
  centre-storable r c = left-storable (avoids J f (at centre r c ∷ []))

  pub laid-storable : (s : Side) (n : ℕ) → Storable (laid_left J f s n)
  unfolding laid_left
  laid-storable s n = left-storable (laid_stays J f g.sound s n)

  pub extra-storable : Storable (extra_left J f)
  unfolding extra_left
  extra-storable = left-storable (avoids J f (missing_places J))

  pub extra-legal : Proper J → (e : ℕ) → T (leb e J.E) → Legal (record_of (with_extra J e) (extra_left J f))
  extra-legal proper e t = record-legal (with_extra J e) (extra_left J f) extra-storable (extra-proper J e proper t) (extra-edit J f g.sound e).sound

  -- the loads that it gives back
  pub extra-back : (e : ℕ) (s : Step) → load (record_of (with_extra J e) (extra_left J f)) s ≡ extra_left J f s
  extra-back e = load-back (with_extra J e) (extra_left J f) extra-storable

  module _ (proper : Proper J) (r c : ℕ) where
    pub mark-legal : (m : ℕ) → T (is_pin J r c) → T (leb m 2) → Legal (record_of (marked J r c m) (mark_left J f r c))
    mark-legal m t u =
        record-legal (marked J r c m) (mark_left J f r c) (mark-storable r c) (marked-proper J r c m proper t u) (mark-edit J f g.sound r c m).sound

    pub close-legal : (v : ℕ) → T (is_tile J r c) → T (leb v 1) → Legal (record_of (closed J r c v) (close_left J f r c))
    close-legal v t u =
        record-legal (closed J r c v) (close_left J f r c) (close-storable r c) (closed-proper J r c v proper t u) (close-edit J f g.sound r c v t).sound

    pub laid-legal : (d n : ℕ) → T (is_tile J r c) → T (leb n J.O) → Legal (record_of (laid_by J (side_of r c d) n) (laid_left J f (side_of r c d) n))
    laid-legal d n t u =
        record-legal (laid_by J (side_of r c d) n) (laid_left J f (side_of r c d) n) (laid-storable (side_of r c d) n) (laid-proper J r c d n proper t u)
        (laid-edit J f g.sound (side_of r c d) n).sound

    pub diagonal-legal : (d : ℕ) → T (is_tile J r c) → T (in_range J.O (2 * J.O) d) → Legal (record_of (diagonal_by J r c d) (centre_left J f r c))
    diagonal-legal d t u =
        record-legal (diagonal_by J r c d) (centre_left J f r c) (centre-storable r c) (diagonal-proper J r c d proper t u) (diagonal-edit J f g.sound r c d).sound

    -- the loads that it gives back
    pub mark-back : (m : ℕ) (s : Step) → load (record_of (marked J r c m) (mark_left J f r c)) s ≡ mark_left J f r c s
    mark-back m = load-back (marked J r c m) (mark_left J f r c) (mark-storable r c)

    pub close-back : (v : ℕ) (s : Step) → load (record_of (closed J r c v) (close_left J f r c)) s ≡ close_left J f r c s
    close-back v = load-back (closed J r c v) (close_left J f r c) (close-storable r c)

    pub laid-back : (d n : ℕ) (s : Step) → load (record_of (laid_by J (side_of r c d) n) (laid_left J f (side_of r c d) n)) s ≡ laid_left J f (side_of r c d) n s
    laid-back d n = load-back (laid_by J (side_of r c d) n) (laid_left J f (side_of r c d) n) (laid-storable (side_of r c d) n)
