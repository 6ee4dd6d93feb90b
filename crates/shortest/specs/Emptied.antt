-- A copy of a legal record with its loads taken out: a record of the same job that differs in load bytes alone, and no wire goes along any step. Assumes
-- nothing.
use Rattle.std.specs.Prelude.{◌≡◌, refl, Bool, true, false, not, List, ℕ, zero, suc, ◌-◌, ◌/◌, ◌%◌, ◌≤◌, ◌<◌, T, ltb, length, get_or, drop}
use Rattle.std.proofs.Common.{sym, ap, subst, ◌∙◌, arith, ltb→lt, nltb→le}
use Rattle.model.specs.Job.{Job}
use Rattle.model.specs.Links.{Step}
use Rattle.model.specs.Record.{record_size, offset, laid_north_plane, job_of, load, Legal, plane_byte, record_of, no_loads, unwired_record, over}
use Rattle.model.proofs.RecordOf.{Storable, length-record, load-back, plane-added}
use Rattle.model.proofs.Over.{load-over, anew-legal, anew-job, legal-proper}
use Rattle.model.proofs.LegalRecord.{legal-record}
use Rattle.channel.specs.Written.{unwired, length_over, over-head, over-cell, over-rest, unwired-over}
use Rattle.channel.specs.Copies.{front, front-job}
use Rattle.augment.specs.Laid.{SameButLoads}
use Rattle.augment.specs.Pins.{Held}
use Rattle.search.specs.Copies.{front-legal}
use Rattle.search.specs.Routing.{legal-held}

-- ---- two records of one job

module _ (J : Job) (f g : Step → ℕ) (rec : List ℕ) (long : record_size ≤ length rec) where
  -- the same byte of a plane that has no loads
  same-plane : (p r c : ℕ) → p < 20 → r < 40 → c < 40 → plane_byte J f p r c ≡ plane_byte J g p r c
      → get_or (over (record_of J f) rec) (offset p r c) 0 ≡ get_or (over (record_of J g) rec) (offset p r c) 0
  same-plane p r c a b d e = over-cell J f rec long p r c a b d ∙ e ∙ sym (over-cell J g rec long p r c a b d)

  same_byte : (i : ℕ) → 768 ≤ i → i < record_size → ((r c : ℕ) → plane_byte J f ((i - 768) / 1600) r c ≡ plane_byte J g ((i - 768) / 1600) r c)
      → get_or (over (record_of J f) rec) i 0 ≡ get_or (over (record_of J g) rec) i 0
  same_byte i l h e =
      let j : ℕ = i - 768 in
      let k : i ≡ offset (j / 1600) (j % 1600 / 40) (j % 40) = omega arith in
      ap (λ (n : ℕ). get_or (over (record_of J f) rec) n 0) k
      ∙ same-plane (j / 1600) (j % 1600 / 40) (j % 40) (omega arith) (omega arith) (omega arith) (e (j % 1600 / 40) (j % 40))
      ∙ ap (λ (n : ℕ). get_or (over (record_of J g) rec) n 0) (sym k)

  low-plane : (p r c : ℕ) → p < 2 → plane_byte J f p r c ≡ plane_byte J g p r c
  low-plane zero r c l = refl
  low-plane (suc zero) r c l = refl
  low-plane (suc (suc p)) r c l = absurd (omega arith)

  high-plane : (p r c : ℕ) → 17 ≤ p → plane_byte J f p r c ≡ plane_byte J g p r c
  high-plane zero r c l = absurd (omega arith)
  high-plane (suc zero) r c l = absurd (omega arith)
  high-plane (suc (suc p)) r c l = plane-added J f p r c (omega arith) ∙ sym (plane-added J g p r c (omega arith))

  same-front : (i : ℕ) → i < offset 2 0 0 → get_or (over (record_of J f) rec) i 0 ≡ get_or (over (record_of J g) rec) i 0
  same-front i l = by (ltb i 768) (ltb→lt i 768) (nltb→le i 768)
    where
      by : (b : Bool) → (T b → i < 768) → (T (not b) → 768 ≤ i) → get_or (over (record_of J f) rec) i 0 ≡ get_or (over (record_of J g) rec) i 0
      by true p q = over-head J f rec long i (p tt) ∙ sym (over-head J g rec long i (p tt))
      by false p q = let h : 768 ≤ i = q tt in same_byte i h (omega arith) (λ r c. low-plane ((i - 768) / 1600) r c (omega arith))

  same_rest : (i : ℕ) → offset laid_north_plane 0 0 ≤ i → get_or (over (record_of J f) rec) i 0 ≡ get_or (over (record_of J g) rec) i 0
  same_rest i l = by (ltb i record_size) (ltb→lt i record_size) (nltb→le i record_size)
    where
      by : (b : Bool) → (T b → i < record_size) → (T (not b) → record_size ≤ i) → get_or (over (record_of J f) rec) i 0 ≡ get_or (over (record_of J g) rec) i 0
      by true p q = let h : i < record_size = p tt in same_byte i (omega arith) h (λ r c. high-plane ((i - 768) / 1600) r c (omega arith))
      by false p q = over-rest J f rec long i (q tt) ∙ sym (over-rest J g rec long i (q tt))

-- ---- the loads of a legal record taken out

none-storable : Storable no_loads
none-storable = record { small = λ s. omega arith; one_way = λ s l. refl; inside = λ s t. refl }

module _ (rec : List ℕ) (legal : Legal rec) where
  abbrev J : Job
  J = job_of rec

  out-legal : Legal (unwired rec)
  out-legal = subst Legal (sym (unwired-over rec legal)) (anew-legal J (legal-proper rec legal) rec)

  out-job : job_of (unwired rec) ≡ J
  out-job = ap job_of (unwired-over rec legal) ∙ anew-job J (legal-proper rec legal) rec

  out_none : (s : Step) → load (unwired rec) s ≡ 0
  out_none s =
      ap (λ (x : List ℕ). load x s) (unwired-over rec legal)
      ∙ ap (λ (h : Step → ℕ). h s) (load-over (unwired_record J) (drop (length (unwired_record J)) rec) (length-record J no_loads))
      ∙ load-back J no_loads none-storable s

  out-kept : SameButLoads rec (unwired rec)
  out-kept =
      record {
        size = ap length (unwired-over rec legal) ∙ length_over J no_loads rec legal.long;
        job = out-job;
        front = λ i l. get i ∙ same-front J no_loads (load rec) rec legal.long i l ∙ sym (was i);
        rest = λ i l. get i ∙ same_rest J no_loads (load rec) rec legal.long i l ∙ sym (was i);
      }
    where
      get : (i : ℕ) → get_or (unwired rec) i 0 ≡ get_or (over (unwired_record J) rec) i 0
      get i = ap (λ (x : List ℕ). get_or x i 0) (unwired-over rec legal)

      was : (i : ℕ) → get_or rec i 0 ≡ get_or (over (record_of J (load rec)) rec) i 0
      was i = ap (λ (x : List ℕ). get_or x i 0) (legal-record rec legal)

-- ---- those of a copy

module _ {rec loads loads' : List ℕ} (legal : Legal rec) (q : loads ≡ front rec) (e : loads' ≡ unwired loads) where
  made : loads' ≡ unwired (front rec)
  made = e ∙ ap unwired q

  copy-legal : Legal (front rec)
  copy-legal = front-legal rec legal

  pub emptied-none : (s : Step) → load loads' s ≡ 0
  emptied-none s = ap (λ (x : List ℕ). load x s) made ∙ out_none (front rec) copy-legal s

  pub emptied-kept : SameButLoads (front rec) loads'
  emptied-kept = subst (λ (x : List ℕ). SameButLoads (front rec) x) (sym made) (out-kept (front rec) copy-legal)

  pub emptied-held : Held (job_of rec) loads'
  emptied-held =
      subst (λ (x : List ℕ). Held (job_of rec) x) (sym made)
      (subst (λ (K : Job). Held K (unwired (front rec))) (out-job (front rec) copy-legal ∙ front-job rec legal.long) (legal-held (out-legal (front rec) copy-legal)))
