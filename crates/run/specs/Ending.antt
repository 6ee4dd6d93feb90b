-- Document 01, "Runs": where stepping on stops, the wires held are a largest set of routes, uncrossed, and Part lists them; the answer is "all wired" exactly
-- where some family of routes takes every chosen pin to the rim, for a family has as many routes as there are chosen pins. Assumes nothing.
use Rattle.std.specs.Prelude.{◌≡◌, refl, ◌⊎◌, Bool, true, false, List, [], ℕ, ◌<◌, T}
use Rattle.std.proofs.Common.{sym, ap, subst, ◌∙◌, inl, inr, arith}
use Rattle.model.specs.Job.{Job, is_chosen}
use Rattle.model.specs.Route.{Route, Together, Family, Greatest, chosen_count}
use Rattle.model.specs.Record.{job_of, load}
use Rattle.model.specs.Length.{routes_length, LeastLength, held_length}
use Rattle.model.specs.Wires.{Part, part_at, wire_count, Holds}
use Rattle.model.specs.Calls.{part, Answer, refused, all_wired, short, lists, After, after}
use Rattle.model.specs.Run.{Word, Service, Ended}
use Rattle.wire.specs.Held.{wire_routes, routes-held, routes-together, routes-length}
use Rattle.run.specs.Invariant.{Kept}
use Rattle.wire.specs.Families.{chosen-le-family, wires-family}
use Rattle.run.specs.Rows.{Stop}

module _ (S : Service) (J : Job) where
  -- Part on a legal record
  part-lists : (rec : List ℕ) → Kept rec J → (r c i : ℕ) → Word r → Word c → Word i → T (is_chosen J r c)
      → (S.does (part r c i) rec).answer ≡ lists (part_at J (load rec) r c i)
  part-lists rec k r c i u v w t =
      ap (λ (a : After). a.answer) ((S.did (part r c i) rec (u, v, w) k.buffer).legal k.legal)
      ∙ (by (is_chosen (job_of rec) r c) (part_at (job_of rec) (load rec) r c i) (subst (λ (X : Job). T (is_chosen X r c)) (sym k.job) t)
      ∙ ap (λ (X : Job). lists (part_at X (load rec) r c i)) k.job)
    where
      by : (b : Bool) (p : Part) → T b
          → (elim b as (λ x. After) [ false ↦ after (refused 4) rec [] [] | true ↦ after (lists p) rec [] [] ]).answer ≡ lists p
      by true p t = refl
      by false p t = absurd t

  -- the wires of a record, as routes of its job
  abbrev Wires : Job → List ℕ → ℕ → Type 0
  Wires X rec g =
      (rs : List (Route X)) × Holds X (load rec) rs × Together X rs × (wire_count X (load rec) ≡ g) × (routes_length X rs ≡ held_length X (load rec))

  wires-of : (rec : List ℕ) (g : ℕ) → Kept rec J → wire_count (job_of rec) (load rec) ≡ g → Wires J rec g
  wires-of rec g k e =
      let s = k.legal.sound in
      subst (λ (X : Job). Wires X rec g) k.job (
        wire_routes (job_of rec) (load rec) s,
        routes-held (job_of rec) (load rec) s,
        routes-together (job_of rec) (load rec) s,
        e,
        routes-length (job_of rec) (load rec) s,
      )

  short-all : {w : Answer} → w ≡ short → w ≡ all_wired → ⊥
  short-all a b = let z : ◌≡◌ {A = ℕ} 0 1 = cc in omega arith

  pub stop-ended : (g : ℕ) (w : Answer) (end : List ℕ) → Greatest J g → Stop J g w end → Ended S J g w end
  stop-ended g w end G s = by (wires-of end g s.kept s.full) s.how
    where
      by : Wires J end g → ((w ≡ all_wired) × (g ≡ chosen_count J) × LeastLength J (held_length J (load end))) ⊎ ((w ≡ short) × (g < chosen_count J))
          → Ended S J g w end
      by (rs, H, F, e, m) (inl (a, c, L)) =
          let W : Family J rs = wires-family J (load end) rs H F (e ∙ c) in
          record {
            job = s.kept.job;
            routes = rs;
            held = H;
            listed = part-lists end s.kept;
            together = F;
            number = H.number ∙ e;
            all = (λ x. (rs, W), λ x. a);
            family = λ x. W;
            length = λ x. subst (LeastLength J) (sym m) L;
            otherwise = inl a;
          }
      by (rs, H, F, e, m) (inr (a, l)) =
          record {
            job = s.kept.job;
            routes = rs;
            held = H;
            listed = part-lists end s.kept;
            together = F;
            number = H.number ∙ e;
            all = (
              λ x. absurd (short-all a x),
              λ x. absurd (omega (arith, chosen-le-family J x.0 x.1, G.most x.0 x.1.together)),
            );
            family = λ x. absurd (short-all a x);
            length = λ x. absurd (short-all a x);
            otherwise = inr (a, l);
          }
