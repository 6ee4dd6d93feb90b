-- Loads worked out on a copy of a record, sound and with all other bytes as they were, make a legal record of the same job where they are copied back.
-- Assumes nothing.
use Rattle.std.specs.Prelude.{◌≡◌, refl, ◌≢◌, not, List, ℕ, ◌≤◌, ◌<◌, T, length, drop}
use Rattle.std.proofs.Common.{sym, subst, ◌∙◌, arith, get_or-take}
use Rattle.sums.specs.Sums.{when-cong}
use Rattle.model.specs.Job.{Job, array_fits, caps_fit, is_pin, is_tile, AddedFits}
use Rattle.model.specs.Links.{Step}
use Rattle.model.specs.Loads.{Feasible, Sound}
use Rattle.model.specs.Record.{record_size, offset, load_plane, cell, job_of, load, Legal, over}
use Rattle.model.specs.Wires.{is_wired, wire_count}
use Rattle.model.specs.Calls.{wired_in, wires_in}
use Rattle.model.proofs.RecordOf.{in_cells, cells-row, cells-column, plane-below}
use Rattle.model.proofs.Over.{job-over, load-over, legal-over}
use Rattle.channel.specs.Copies.{front, front_length, front-job, front-load}
use Rattle.augment.specs.Laid.{BytesFit, SameButLoads}
use Rattle.augment.specs.Pins.{Held}

front-cell : (rec : List ℕ) (p r c : ℕ) → p < 20 → cell (front rec) p r c ≡ cell rec p r c
unfolding cell
front-cell rec p r c l =
    when-cong (in_cells r c) _ _ (λ t. get_or-take record_size rec (offset p r c) 0 (omega (arith, cells-row r c t, cells-column r c t)))

module _ (rec : List ℕ) (legal : Legal rec) where
  pub front-held : Held (job_of rec) (front rec)
  front-held =
      record {
        fits = legal.values.array;
        caps = record { job = legal.values.caps; tiles = legal.values.added };
        long = omega (arith, front_length rec legal.long);
        bytes = λ k r c.
            subst (λ (b : ℕ). (b < 64) × (b ≢ 32)) (sym (front-cell rec (load_plane k) r c (omega (arith, plane-below k))))
            (legal.values.loads k r c);
        feasible = subst (λ (f : Step → ℕ). Feasible (job_of rec) f) (sym (front-load rec legal.long)) legal.sound.feasible;
      }

  -- ---- other loads in their place

  module _ (new : List ℕ) (kept : SameButLoads (front rec) new) where
    pub new-length : length new ≡ record_size
    new-length = kept.size ∙ front_length rec legal.long

    pub new-job : job_of new ≡ job_of rec
    new-job = kept.job ∙ front-job rec legal.long

    pub put-job : job_of (over new rec) ≡ job_of rec
    put-job = job-over new (drop (length new) rec) new-length ∙ new-job

    pub put-load : load (over new rec) ≡ load new
    put-load = load-over new (drop (length new) rec) new-length

    pub put-wired : (r c : ℕ) → wired_in (over new rec) r c ≡ is_wired (job_of rec) (load new) r c
    put-wired r c = λ i. is_wired (put-job i) (put-load i) r c

    pub put-wires : wires_in (over new rec) ≡ wire_count (job_of rec) (load new)
    put-wires = λ i. wire_count (put-job i) (put-load i)

    pub new-legal : BytesFit new → Sound (job_of rec) (load new) → Legal new
    new-legal bytes sound =
        record {
          long = omega (arith, new-length);
          values = record {
            array = to (λ K. T (array_fits K.rows K.columns)) legal.values.array;
            caps = to (λ K. T (caps_fit K.O K.D K.E)) legal.values.caps;
            marks = to (λ K. (r c : ℕ) → K.mark r c ≤ 2) legal.values.marks;
            states = to (λ K. (r c : ℕ) → K.state r c ≤ 1) legal.values.states;
            added = to AddedFits legal.values.added;
            loads = bytes;
          };
          sound = to (λ K. Sound K (load new)) sound;
          unused = record {
            header = λ i a b. kept.front i (omega arith) ∙ get_or-take record_size rec i 0 (omega arith) ∙ legal.unused.header i a b;
            marks = to (λ K. (r c : ℕ) → T (not (is_pin K r c)) → K.mark r c ≡ 0) legal.unused.marks;
            states = to (λ K. (r c : ℕ) → T (not (is_tile K r c)) → K.state r c ≡ 0) legal.unused.states;
          };
        }
      where
        to : (P : Job → Type 0) → P (job_of rec) → P (job_of new)
        to P p = subst P (sym new-job) p

    pub put-legal : BytesFit new → Sound (job_of rec) (load new) → Legal (over new rec)
    put-legal bytes sound = legal-over new (drop (length new) rec) new-length (new-legal bytes sound)

  -- The first bytes are themselves a legal record.
  pub front-legal : Legal (front rec)
  front-legal =
      new-legal (front rec) (record { size = refl; job = refl; front = λ i l. refl; rest = λ i l. refl }) front-held.bytes
      (subst (λ (f : Step → ℕ). Sound (job_of rec) f) (sym (front-load rec legal.long)) legal.sound)
