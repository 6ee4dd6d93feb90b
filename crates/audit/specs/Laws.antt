-- The tests of all cells, with those of the header and of the unused bytes, say exactly that the record is feasible. Assumes nothing.
use Rattle.std.specs.Prelude.{◌≡◌, Bool, ◌&&◌, List, ℕ, ◌≤◌, ◌<◌, T, length}
use Rattle.std.proofs.Math.Path.{refl}
use Rattle.std.proofs.Common.{arith}
use Rattle.sums.specs.Tests.{and_left, and_right, and_both}
use Rattle.model.specs.Job.{Job, array_fits, caps_fit}
use Rattle.model.specs.Record.{record_size, job_of}
use Rattle.model.proofs.Added.{unset-fits}
use Rattle.cell.specs.Cell.{values_fit, counts_fit, own_fits, links_fit, places_even}
use Rattle.channel.specs.Map.{row_of, column_of}
use Rattle.cell.specs.Cell.Grid.{by_number, by_row}
use Rattle.cell.specs.Cell.Links.{LoadsFit}
use Rattle.cell.proofs.LinksFit.{links-all, links-pass}
use Rattle.cell.specs.Cell.Places.{LoadsEven, places-all, places-pass}
use Rattle.cell.specs.Cell.Counts.{counts-pass, norths-all, wests-all}
use Rattle.cell.specs.Cell.Own.{own-pass, owns-all}
use Rattle.cell.specs.Cell.Values.{Values, values-all, values-pass}
use Rattle.cell.specs.Unused.{unused_clear, header-clear, none-set, unused-pass}
use Rattle.audit.specs.Feasible.{FeasibleRecord, Decides}

module _ (rec : List ℕ) where
  abbrev J : Job
  J = job_of rec

  -- the five numbers of the header are in range
  unfoldable pub numbers_fit : Bool
  numbers_fit = array_fits J.rows J.columns && caps_fit J.O J.D J.E

  -- a cell passes its tests
  unfoldable pub cell_fits : ℕ → ℕ → Bool
  cell_fits r c = (values_fit rec r c && (counts_fit rec r c && own_fits rec r c)) && (links_fit rec r c && places_even rec r c)

  pub cell-is : (r c : ℕ) → ((values_fit rec r c && (counts_fit rec r c && own_fits rec r c)) && (links_fit rec r c && places_even rec r c)) ≡ cell_fits r c
  unfolding cell_fits
  cell-is r c = refl

  pub array-fits : T numbers_fit → T (array_fits J.rows J.columns)
  unfolding numbers_fit
  array-fits = and_left (array_fits J.rows J.columns) (caps_fit J.O J.D J.E)

  pub caps-fit : T numbers_fit → T (caps_fit J.O J.D J.E)
  unfolding numbers_fit
  caps-fit = and_right (array_fits J.rows J.columns) (caps_fit J.O J.D J.E)

  -- ---- what passes the tests is feasible

  module _ (long : record_size ≤ length rec) (n : T numbers_fit) (u : T (unused_clear rec)) (t : (r c : ℕ) → r < 40 → c < 40 → T (cell_fits r c)) where
    loads-part : (r c : ℕ) → r < 40 → c < 40 → T (links_fit rec r c && places_even rec r c)
    unfolding cell_fits
    loads-part r c a b = and_right (values_fit rec r c && (counts_fit rec r c && own_fits rec r c)) (links_fit rec r c && places_even rec r c) (t r c a b)

    values-part : (r c : ℕ) → r < 40 → c < 40 → T (values_fit rec r c && (counts_fit rec r c && own_fits rec r c))
    unfolding cell_fits
    values-part r c a b = and_left (values_fit rec r c && (counts_fit rec r c && own_fits rec r c)) (links_fit rec r c && places_even rec r c) (t r c a b)

    values : (r c : ℕ) → Values rec r c
    values = values-all rec (λ r c a b. and_left (values_fit rec r c) (counts_fit rec r c && own_fits rec r c) (values-part r c a b))

    added-part : (r c : ℕ) → r < 40 → c < 40 → T (counts_fit rec r c && own_fits rec r c)
    added-part r c a b = and_right (values_fit rec r c) (counts_fit rec r c && own_fits rec r c) (values-part r c a b)

    counts : (r c : ℕ) → r < 40 → c < 40 → T (counts_fit rec r c)
    counts r c a b = and_left (counts_fit rec r c) (own_fits rec r c) (added-part r c a b)

    owns : (r c : ℕ) → r < 40 → c < 40 → T (own_fits rec r c)
    owns r c a b = and_right (counts_fit rec r c) (own_fits rec r c) (added-part r c a b)

    fit : LoadsFit rec
    fit = links-all rec (caps-fit n) (λ r c a b. and_left (links_fit rec r c) (places_even rec r c) (loads-part r c a b))

    even : LoadsEven rec
    even = places-all rec (array-fits n) (λ r c a b. and_right (links_fit rec r c) (places_even rec r c) (loads-part r c a b))

    tested-feasible : FeasibleRecord rec
    tested-feasible =
        record {
          long = long;
          values = record {
            array = array-fits n;
            caps = caps-fit n;
            marks = λ r c. (values r c).mark;
            states = λ r c. (values r c).state;
            added = unset-fits (job_of rec) (norths-all rec counts) (wests-all rec counts) (owns-all rec owns) (none-set rec u);
            loads = fit.bytes;
          };
          feasible = record {
            one_way = fit.one_way;
            limits = fit.limits;
            against = fit.against;
            nowhere = fit.nowhere;
            passing = even.passing;
            starts = even.starts;
            balance = even.balance;
          };
          unused = record {
            header = λ i l h. header-clear rec u i (omega arith) h;
            marks = λ r c. (values r c).no_pin;
            states = λ r c. (values r c).no_tile;
          };
        }

  -- ---- what is feasible passes the tests

  module _ (g : FeasibleRecord rec) where
    pub numbers_fit_lem : T numbers_fit
    unfolding numbers_fit
    numbers_fit_lem = and_both (array_fits J.rows J.columns) (caps_fit J.O J.D J.E) g.values.array g.values.caps

    pub unused-clear : T (unused_clear rec)
    unused-clear = unused-pass rec g.values.added g.unused

    cell-passes : (r c : ℕ) → T (cell_fits r c)
    unfolding cell_fits
    cell-passes r c =
        and_both (values_fit rec r c && (counts_fit rec r c && own_fits rec r c)) (links_fit rec r c && places_even rec r c)
        (and_both (values_fit rec r c) (counts_fit rec r c && own_fits rec r c)
        (values-pass rec r c
        (record { mark = g.values.marks r c; state = g.values.states r c; no_pin = g.unused.marks r c; no_tile = g.unused.states r c }))
        (and_both (counts_fit rec r c) (own_fits rec r c) (counts-pass rec g.values.added r c) (own-pass rec g.values.added r c)))
        (and_both (links_fit rec r c) (places_even rec r c)
        (links-pass rec
        (record {
          bytes = g.values.loads;
          one_way = g.feasible.one_way;
          limits = g.feasible.limits;
          against = g.feasible.against;
          nowhere = g.feasible.nowhere;
        })
        r c)
        (places-pass rec (record { passing = g.feasible.passing; starts = g.feasible.starts; balance = g.feasible.balance }) r c))

  -- the cells by number, n being the number behind the last
  pub cells-decided : (n : ℕ) (t : Bool) → n ≡ 1641 → Decides ((i : ℕ) → i < n → 41 ≤ i → T (cell_fits (row_of i) (column_of i))) t
      → Decides ((r c : ℕ) → r < 40 → c < 40 → T (cell_fits r c)) t
  cells-decided n t e d =
      record {
        yes = λ y. by_row (λ r c. T (cell_fits r c)) (λ x l h. d.yes y x (omega arith) l);
        no = λ y f. d.no y (λ i h l. by_number (λ r c. T (cell_fits r c)) f i l (omega arith));
      }

  -- once the rest is tested, the cells decide
  pub cells-decide : (t : Bool) → record_size ≤ length rec → T numbers_fit → T (unused_clear rec)
      → Decides ((r c : ℕ) → r < 40 → c < 40 → T (cell_fits r c)) t → Decides (FeasibleRecord rec) t
  cells-decide t l n u d =
      record {
        yes = λ e. tested-feasible l n u (d.yes e);
        no = λ e g. d.no e (λ r c a b. cell-passes g r c);
      }
