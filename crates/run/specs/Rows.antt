-- Document 01, "Runs": rows of steps. Every row of "added" ends, one row at least comes to its end, and each says "added" exactly as often as wires are
-- lacking to the greatest number, for each adds one wire and stops at that number. Assumes nothing.
use Rattle.std.specs.Prelude.{◌≡◌, refl, ◌≢◌, ◌⊎◌, List, ℕ, zero, suc, ◌+◌, ◌≤◌, ◌<◌, length}
use Rattle.std.proofs.Common.{sym, ap, subst, ◌∙◌, inl, inr, arith}
use Rattle.model.specs.Job.{Job}
use Rattle.model.specs.Route.{Greatest, chosen_count}
use Rattle.model.specs.Length.{LeastLength, held_length}
use Rattle.model.specs.Record.{scratch_size, load}
use Rattle.model.specs.Calls.{step, Answer, added, all_wired, short, refusal, Accepted, wires_in}
use Rattle.model.specs.Run.{Buffer, Service, Stepping, last, more, Adding, begin, again}
use Rattle.run.specs.Invariant.{Kept}
use Rattle.run.specs.Says.{Says, one, all, few, held-le, step-says, enough-accepted}

-- where a row of steps stops
pub record Stop (J : Job) (g : ℕ) (w : Answer) (end : List ℕ) : Type 0 where
  pub kept : Kept end J
  pub full : wires_in end ≡ g
  pub how : ((w ≡ all_wired) × (g ≡ chosen_count J) × LeastLength J (held_length J (load end))) ⊎ ((w ≡ short) × (g < chosen_count J))

module _ (S : Service) (J : Job) (g : ℕ) (G : Greatest J g) where
  -- a step that says "added"
  abbrev Grows : List ℕ → List ℕ → Type 0
  Grows rec rec' = (wires_in rec < g) × Kept rec' J × (wires_in rec' ≡ suc (wires_in rec))

  grows : {a : Answer} {rec' : List ℕ} (rec : List ℕ) → Says J g rec a rec' → a ≡ added → Grows rec rec'
  grows rec (one l k n) e = (l, k, n)
  grows rec (all w c k n l) e = let z : ◌≡◌ {A = ℕ} 0 1 = cc in absurd (omega arith)
  grows rec (few w c q) e = let z : ◌≡◌ {A = ℕ} 0 1 = cc in absurd (omega arith)

  step-grows : (rec scratch : List ℕ) → Kept rec J → Buffer scratch → (S.does (step scratch) rec).answer ≡ added
      → Grows rec (S.does (step scratch) rec).rec
  step-grows rec scratch k b e = grows rec (step-says S J g G rec scratch k b (ap refusal e)) e

  -- a step that is lent enough says "added" while fewer than g wires are held
  pub step-adds : (rec scratch : List ℕ) → Kept rec J → Buffer scratch → scratch_size ≤ length scratch → wires_in rec < g
      → ((S.does (step scratch) rec).answer ≡ added) × Kept (S.does (step scratch) rec).rec J × (wires_in (S.does (step scratch) rec).rec ≡ suc (wires_in rec))
  step-adds rec scratch k b long l =
      by
      (step-says S J g G rec scratch k b
      (enough-accepted S rec scratch J (S.does (step scratch) rec) k ((S.did (step scratch) rec b k.buffer).legal k.legal) long))
    where
      by : {a : Answer} {rec' : List ℕ} → Says J g rec a rec' → (a ≡ added) × Kept rec' J × (wires_in rec' ≡ suc (wires_in rec))
      by (one m k' n) = (refl, k', n)
      by (all w c k' n s) = absurd (omega arith)
      by (few w c q) = absurd (omega arith)

  pub adding-le : {rec : List ℕ} {n : ℕ} → Adding S rec n → Kept rec J → n + wires_in rec ≤ g
  adding-le (begin {rec = rec}) k = omega (arith, held-le S J g G rec k)
  adding-le (again {rec = rec} scratch b e r) k =
      let (l, k', n) = step-grows rec scratch k b e in
      omega (arith, adding-le r k')

  stops : {a : Answer} {rec' : List ℕ} (rec : List ℕ) → Kept rec J → a ≢ added → Says J g rec a rec' → (wires_in rec ≡ g) × Stop J g a rec'
  stops rec k n (one l k' e) = absurd (n refl)
  stops rec k n (all w c k' e s) = (w, record { kept = k'; full = e; how = inl (refl, c, s) })
  stops rec k n (few w c q) =
      (w, record { kept = subst (λ (x : List ℕ). Kept x J) (sym q) k; full = ap wires_in q ∙ w; how = inr (refl, c) })

  pub stepping-stops : {rec end : List ℕ} {n : ℕ} {w : Answer} → Stepping S rec n w end → Kept rec J → (n + wires_in rec ≡ g) × Stop J g w end
  stepping-stops (last {rec = rec} {end = end} {w = w} scratch b e x n q) k =
      let s : Says J g rec w end =
      subst (Says J g rec w) (sym q)
      (subst (λ (y : Answer). Says J g rec y (S.does (step scratch) rec).rec) (sym e) (step-says S J g G rec scratch k b (ap refusal (sym e) ∙ x))) in
      let (f, t) = stops rec k n s in
      (omega arith, t)
  stepping-stops (more {rec = rec} scratch b e r) k =
      let (l, k', n) = step-grows rec scratch k b e in
      let (f, t) = stepping-stops r k' in
      (omega arith, t)

  -- ---- a row of steps to its end, with one scratch

  module _ (scratch : List ℕ) (b : Buffer scratch) (long : scratch_size ≤ length scratch) where
    abbrev Ends : List ℕ → Type 0
    Ends rec = (n : ℕ) × (w : Answer) × (end : List ℕ) × Stepping S rec n w end

    abbrev next : List ℕ → List ℕ
    next rec = (S.does (step scratch) rec).rec

    accepted : (rec : List ℕ) → Kept rec J → Accepted (S.does (step scratch) rec).answer
    accepted rec k = enough-accepted S rec scratch J (S.does (step scratch) rec) k ((S.did (step scratch) rec b k.buffer).legal k.legal) long

    ends_by : {a : Answer} {rec' : List ℕ} (rec : List ℕ) → a ≡ (S.does (step scratch) rec).answer → rec' ≡ next rec → Accepted a → Says J g rec a rec'
        → (Grows rec rec' → Ends rec') → Ends rec
    ends_by rec p q x (one {rec' = rec'} l k n) r =
        let (m, w, end, s) = r (l, k, n) in
        (suc m, w, end, more scratch b (sym p) (subst (λ (y : List ℕ). Stepping S y m w end) q s))
    ends_by rec p q x (all {rec' = rec'} w c k n s) r = (0, all_wired, rec', last scratch b p x all-added q)
      where
        all-added : all_wired ≡ added → ⊥
        all-added e = let z : ◌≡◌ {A = ℕ} 0 1 = cc in omega arith
    ends_by rec p q x (few {rec' = rec'} w c e) r = (0, short, rec', last scratch b p x short-added q)
      where
        short-added : short ≡ added → ⊥
        short-added e = let z : ◌≡◌ {A = ℕ} 0 1 = cc in omega arith

    -- n bounds how many are lacking
    ends-in : (n : ℕ) (rec : List ℕ) → Kept rec J → g ≤ n + wires_in rec → Ends rec
    ends-in zero rec k l =
        ends_by rec refl refl (accepted rec k) (step-says S J g G rec scratch k b (accepted rec k)) (λ r. absurd (omega (arith, r.0)))
    ends-in (suc n) rec k l =
        ends_by rec refl refl (accepted rec k) (step-says S J g G rec scratch k b (accepted rec k))
        (λ r. ends-in n (next rec) r.1 (omega (arith, r.2)))

    pub row_ends : (rec : List ℕ) → Kept rec J → (n : ℕ) × (w : Answer) × (end : List ℕ) × Stepping S rec n w end
    row_ends rec k = ends-in g rec k (omega arith)
