-- Marks of pins, a byte for each cell: which are added for hops of a kind, those of the pins whose wires have such a hop. For each lane carries one wire, and
-- the walk back finds its pin. Assumes nothing.
use Rattle.std.specs.Prelude.{◌≡◌, refl, ◌≢◌, ◌⊎◌, Bool, true, false, List, ℕ, ◌+◌, ◌*◌, ◌/◌, ◌%◌, ◌≤◌, ◌<◌, T, eqb, length, get_or, set}
use Rattle.std.proofs.Common.{sym, ap, subst, ◌∙◌, inl, inr, arith, get_or-set_same, get_or-set_other, eq-eqb, ne_eqb, eqb-true}
use Rattle.std.proofs.Math.Option.{Option, none, some}
use Rattle.std.proofs.Math.ListN.{get_elem?}
use Rattle.std.proofs.lemmas.Bool.{eqb-false}
use Rattle.sums.specs.Counting.{when}
use Rattle.sums.specs.Sums.{when-so, when-some}
use Rattle.sums.specs.Entries.{entry-below, entry-member, has-entry}
use Rattle.sums.specs.Tests.{so, below_or}
use Rattle.model.specs.Job.{Job}
use Rattle.model.specs.Links.{pin, Place, at, is_place, Step, head, turn, around}
use Rattle.model.specs.Near.{exit}
use Rattle.model.specs.Record.{job_of, load, Legal}
use Rattle.model.specs.Wires.{Hop, hop_at, is_wired}
use Rattle.model.proofs.Listed.{around-five}
use Rattle.channel.specs.Map.{in_grid, owner_cell, step_of, is_link_dart, dart_of}
use Rattle.channel.specs.Map.Back.{link-stored}
use Rattle.channel.specs.Map.Darts.{step-grid, dart-step}
use Rattle.channel.specs.Map.Places.{chosen-cell}
use Rattle.channel.specs.Map.Steps.{slot_step}
use Rattle.pairing.specs.Lanes.{load_of}
use Rattle.wire.specs.Apart.{wire-loaded, lane-one}
use Rattle.wire.specs.Around.{around-leaves}
use Rattle.wire.specs.Hops.{hop, lanes_at}
use Rattle.wire.specs.Next.{Loaded}
use Rattle.wire.specs.Threads.{wired-chosen}
use Rattle.wire.specs.Walks.{comes-at}
use Rattle.wire.specs.Ways.{turn-turn, turn-listed}
use Rattle.takeout.specs.Back.{Home}

-- the pin (q, d) is marked
abbrev pub is_marked : List ℕ → ℕ → ℕ → Bool
is_marked taken q d = eqb (get_or taken (40 * q + d) 0) 1

-- by the mark of its cell
cell-mark : (taken : List ℕ) (i : ℕ) → is_marked taken (i / 40) (i % 40) ≡ eqb (get_or taken i 0) 1
cell-mark taken i = let e : 40 * (i / 40) + i % 40 ≡ i = omega arith in ap (λ (n : ℕ). eqb (get_or taken n 0) 1) e

pub cell-marked : (taken : List ℕ) (i : ℕ) → get_or taken i 0 ≡ 1 → is_marked taken (i / 40) (i % 40) ≡ true
cell-marked taken i e = cell-mark taken i ∙ eq-eqb (get_or taken i 0) 1 e

pub cell_unmarked : (taken : List ℕ) (i : ℕ) → get_or taken i 0 ≢ 1 → is_marked taken (i / 40) (i % 40) ≡ false
cell_unmarked taken i n = cell-mark taken i ∙ ne_eqb (get_or taken i 0) 1 n

-- the wire of the pin (q, d) has such a hop
abbrev pub Has : Job → (Step → ℕ) → (Hop → Type 0) → ℕ → ℕ → Type 0
Has J f P q d = (n : ℕ) × (h : Hop) × (hop_at J f q d n ≡ some h) × P h

-- b is a with marks at the pins whose wires have such a hop, and at no other
pub record Adds (was : List ℕ) (P : Hop → Type 0) (a b : List ℕ) : Type 0 where
  pub kept : (q d : ℕ) → T (is_marked a q d) → T (is_marked b q d)
  pub found : (q d : ℕ) → T (is_wired (job_of was) (load was) q d) → Has (job_of was) (load was) P q d → T (is_marked b q d)
  pub only : (q d : ℕ) → T (is_wired (job_of was) (load was) q d) → T (is_marked b q d) → T (is_marked a q d) ⊎ Has (job_of was) (load was) P q d

-- ---- hops of a kind

-- on a lane of the dart from the k-th on
abbrev pub OnLanes : ℕ → ℕ → Hop → Type 0
OnLanes d k h = (h.step ≡ step_of d) × (k ≤ h.lane)

-- .. and before the i-th
abbrev pub Between : ℕ → ℕ → ℕ → Hop → Type 0
Between d k i h = (h.step ≡ step_of d) × (k ≤ h.lane) × (h.lane < i)

-- along the link of the dart, against it
abbrev pub Against : ℕ → Hop → Type 0
Against d h = T (is_link_dart d) × (h.step ≡ turn (step_of d))

-- against one of the first k darts of the spot u
abbrev pub ByFirst : ℕ → ℕ → Hop → Type 0
ByFirst u k h = (j : ℕ) × (j < k) × Against (8 * u + j) h

-- against its first or its fifth dart
abbrev pub ByEnds : ℕ → Hop → Type 0
ByEnds u h = Against (8 * u) h ⊎ Against (8 * u + 4) h

-- to the place x
abbrev pub ComesTo : Job → Place → Hop → Type 0
ComesTo J x h = head J h.step ≡ x

-- one mark more
pub mark-same : (a : List ℕ) (x q d : ℕ) → x < length a → x ≡ 40 * q + d → T (is_marked (set a x 1) q d)
mark-same a x q d l e = so (ap (λ (n : ℕ). eqb n 1) (ap (λ (i : ℕ). get_or (set a x 1) i 0) (sym e) ∙ get_or-set_same a x 1 0 l))

pub mark-or : (a : List ℕ) (x q d : ℕ) → T (is_marked (set a x 1) q d) → T (is_marked a q d) ⊎ (x ≡ 40 * q + d)
mark-or a x q d t = by (eqb (40 * q + d) x) refl
  where
    by : (b : Bool) → eqb (40 * q + d) x ≡ b → T (is_marked a q d) ⊎ (x ≡ 40 * q + d)
    by true e = inr (sym (eqb-true (40 * q + d) x e))
    by false e = inl (subst (λ (n : ℕ). T (eqb n 1)) (get_or-set_other a x (40 * q + d) 1 0 (eqb-false (40 * q + d) x e)) t)

pub mark-kept : (a : List ℕ) (x q d : ℕ) → x < length a → T (is_marked a q d) → T (is_marked (set a x 1) q d)
mark-kept a x q d l t = by (eqb (40 * q + d) x) refl
  where
    by : (b : Bool) → eqb (40 * q + d) x ≡ b → T (is_marked (set a x 1) q d)
    by true e = mark-same a x q d l (sym (eqb-true (40 * q + d) x e))
    by false e = subst (λ (n : ℕ). T (eqb n 1)) (sym (get_or-set_other a x (40 * q + d) 1 0 (eqb-false (40 * q + d) x e))) t

module _ (was : List ℕ) (g : Legal was) where
  abbrev J : Job
  J = job_of was

  abbrev f : Step → ℕ
  f = load was

  -- ---- marks added

  pub adds_none : (P : Hop → Type 0) (a : List ℕ) → ((h : Hop) → Loaded f h → P h → ⊥) → Adds was P a a
  adds_none P a never =
      record {
        kept = λ q d t. t;
        found = λ q d w (n, h, e, p). absurd (never h (wire-loaded J f g.sound q d n h w e) p);
        only = λ q d w t. inl t;
      }

  pub adds-as : (P Q : Hop → Type 0) (a b : List ℕ) → ((h : Hop) → Loaded f h → P h → Q h) → ((h : Hop) → Loaded f h → Q h → P h) → Adds was P a b → Adds was Q a b
  adds-as P Q a b to of A =
      record {
        kept = A.kept;
        found = λ q d w (n, h, e, p). A.found q d w (n, h, e, of h (wire-loaded J f g.sound q d n h w e) p);
        only = λ q d w t. by q d w (A.only q d w t);
      }
    where
      by : (q d : ℕ) → T (is_wired J f q d) → T (is_marked a q d) ⊎ Has J f P q d → T (is_marked a q d) ⊎ Has J f Q q d
      by q d w (inl t) = inl t
      by q d w (inr (n, h, e, p)) = inr (n, h, e, to h (wire-loaded J f g.sound q d n h w e) p)

  pub adds-two : (P Q : Hop → Type 0) (a b c : List ℕ) → Adds was P a b → Adds was Q b c → Adds was (λ h. P h ⊎ Q h) a c
  adds-two P Q a b c A B =
      record { kept = λ q d t. B.kept q d (A.kept q d t); found = λ q d w k. of q d w k; only = λ q d w t. by q d w (B.only q d w t) }
    where
      of : (q d : ℕ) → T (is_wired J f q d) → Has J f (λ h. P h ⊎ Q h) q d → T (is_marked c q d)
      of q d w (n, h, e, inl p) = B.kept q d (A.found q d w (n, h, e, p))
      of q d w (n, h, e, inr p) = B.found q d w (n, h, e, p)

      first : (q d : ℕ) → T (is_marked a q d) ⊎ Has J f P q d → T (is_marked a q d) ⊎ Has J f (λ h. P h ⊎ Q h) q d
      first q d (inl t) = inl t
      first q d (inr (n, h, e, p)) = inr (n, h, e, inl p)

      by : (q d : ℕ) → T (is_wired J f q d) → T (is_marked b q d) ⊎ Has J f Q q d → T (is_marked a q d) ⊎ Has J f (λ h. P h ⊎ Q h) q d
      by q d w (inl t) = first q d (A.only q d w t)
      by q d w (inr (n, h, e, p)) = inr (n, h, e, inr p)

  -- the pin of one hop
  home-adds : (d i x : ℕ) (a : List ℕ) → x < length a → Home was d i x → Adds was (λ h. h ≡ hop d i) a (set a x 1)
  home-adds d i x a l H =
      record {
        kept = λ q e t. mark-kept a x q e l t;
        found =
            λ q e w (n, h, k, z). mark-same a x q e l
            (cell q e (lane-one J f g.sound (x / 40) (x % 40) H.index q e n (hop d i) H.wired w H.listed (k ∙ ap some z)).0);
        only = λ q e w t. by q e w (mark-or a x q e t);
      }
    where
      cell : (q e : ℕ) → at pin (x / 40) (x % 40) ≡ at pin q e → x ≡ 40 * q + e
      cell q e z = omega (arith, ap (λ (y : Place). y.row) z, ap (λ (y : Place). y.column) z)

      by : (q e : ℕ) → T (is_wired J f q e) → T (is_marked a q e) ⊎ (x ≡ 40 * q + e) → T (is_marked a q e) ⊎ Has J f (λ h. h ≡ hop d i) q e
      by q e w (inl t) = inl t
      by q e w (inr z) =
          let m : e < 40 = (chosen-cell J g.values.array q e (wired-chosen J f q e w)).1 in
          let r : x / 40 ≡ q = omega arith in
          let c : x % 40 ≡ e = omega arith in
          inr (H.index, hop d i, ap (λ (y : Place). hop_at J f y.row y.column H.index) (λ j. at pin (sym r j) (sym c j)) ∙ H.listed, refl)

  -- ---- lane after lane

  pub lanes-none : (d k : ℕ) (a : List ℕ) → Adds was (Between d k k) a a
  lanes-none d k a = adds_none (Between d k k) a (λ h l p. omega (arith, p.1, p.2))

  pub lanes-more : (d k i x : ℕ) (a b : List ℕ) → k ≤ i → x < length b → Home was d i x → Adds was (Between d k i) a b → Adds was (Between d k (i + 1)) a (set b x 1)
  lanes-more d k i x a b m l H A =
      adds-as (λ h. Between d k i h ⊎ (h ≡ hop d i)) (Between d k (i + 1)) a (set b x 1) (λ h l p. to h p) (λ h l p. of h p)
      (adds-two (Between d k i) (λ h. h ≡ hop d i) a b (set b x 1) A (home-adds d i x b l H))
    where
      to : (h : Hop) → Between d k i h ⊎ (h ≡ hop d i) → Between d k (i + 1) h
      to h (inl (s, u, v)) = (s, u, omega arith)
      to h (inr e) = (ap (λ (v : Hop). v.step) e, omega (arith, ap (λ (v : Hop). v.lane) e), omega (arith, ap (λ (v : Hop). v.lane) e))

      of : (h : Hop) → Between d k (i + 1) h → Between d k i h ⊎ (h ≡ hop d i)
      of h (s, u, v) = by (below_or h.lane i)
        where
          by : (h.lane < i) ⊎ (i ≤ h.lane) → Between d k i h ⊎ (h ≡ hop d i)
          by (inl w) = inl (s, u, w)
          by (inr w) = let e : h.lane ≡ i = omega arith in inr (λ j. record { step = s j; lane = e j })

  -- how many lanes the dart has
  pub lanes-number : (d n : ℕ) → T (is_link_dart d) → n ≡ when (in_grid (owner_cell d)) (f (step_of d)) → n ≡ f (step_of d)
  lanes-number d n t e = e ∙ when-so (in_grid (owner_cell d)) (f (step_of d)) (link-stored d t).1

  pub lanes_all : (d k i n : ℕ) (a b : List ℕ) → n ≡ f (step_of d) → n ≤ i → Adds was (Between d k i) a b → Adds was (OnLanes d k) a b
  lanes_all d k i n a b e l A =
      adds-as (Between d k i) (OnLanes d k) a b (λ h m p. (p.0, p.1)) (λ h m p. (p.0, p.1, omega (arith, e, l, m, ap f p.0))) A

  -- ---- slot after slot

  pub slot-none : (d n : ℕ) (a : List ℕ) → n ≡ lanes_at (λ s. f (turn s)) d → n ≤ 0 → Adds was (Against d) a a
  slot-none d n a e l =
      adds_none (Against d) a
      (λ h m p. omega (arith, e, l, m, ap f p.1, when-so (is_link_dart d) (f (turn (step_of d))) p.0))

  pub slot-linked : (d n : ℕ) → n ≡ lanes_at (λ s. f (turn s)) d → 0 < n → T (is_link_dart d)
  slot-linked d n e l = (when-some (is_link_dart d) (f (turn (step_of d))) (subst (λ (m : ℕ). 0 < m) e l)).0

  -- the dart of the step back
  pub back-dart : (d e : ℕ) → T (is_link_dart d) → e ≡ dart_of (turn (step_of d)) → T (is_link_dart e) × (step_of e ≡ turn (step_of d))
  back-dart d e t z =
      let o = step-grid d (link-stored d t).1 in
      let (a, b, s) = dart-step (turn (step_of d)) (record { row< = o.row<; column< = o.column< }) in
      (subst (λ (n : ℕ). T (is_link_dart n)) (sym z) b, ap step_of z ∙ s)

  pub slot-lanes : (d e : ℕ) (a b : List ℕ) → T (is_link_dart d) → e ≡ dart_of (turn (step_of d)) → Adds was (OnLanes e 0) a b → Adds was (Against d) a b
  slot-lanes d e a b t z A =
      let s : step_of e ≡ turn (step_of d) = (back-dart d e t z).1 in
      adds-as (OnLanes e 0) (Against d) a b (λ h l p. (t, p.0 ∙ s)) (λ h l p. (p.1 ∙ sym s, omega arith)) A

  pub slots-none : (u : ℕ) (a : List ℕ) → Adds was (ByFirst u 0) a a
  slots-none u a = adds_none (ByFirst u 0) a (λ h l (j, m, p). omega arith)

  pub slots-more : (u k : ℕ) (a b c : List ℕ) → Adds was (ByFirst u k) a b → Adds was (Against (8 * u + k)) b c → Adds was (ByFirst u (k + 1)) a c
  slots-more u k a b c A B =
      adds-as (λ h. ByFirst u k h ⊎ Against (8 * u + k) h) (ByFirst u (k + 1)) a c (λ h l p. to h p) (λ h l p. of h p)
      (adds-two (ByFirst u k) (Against (8 * u + k)) a b c A B)
    where
      to : (h : Hop) → ByFirst u k h ⊎ Against (8 * u + k) h → ByFirst u (k + 1) h
      to h (inl (j, m, p)) = (j, omega arith, p)
      to h (inr p) = (k, omega arith, p)

      of : (h : Hop) → ByFirst u (k + 1) h → ByFirst u k h ⊎ Against (8 * u + k) h
      of h (j, m, p) = by (below_or j k)
        where
          by : (j < k) ⊎ (k ≤ j) → ByFirst u k h ⊎ Against (8 * u + k) h
          by (inl w) = inl (j, w, p)
          by (inr w) = let e : j ≡ k = omega arith in inr (subst (λ (i : ℕ). Against (8 * u + i) h) e p)

  -- the slots of a place's exit are the links round it
  module _ (x : Place) (p : T (is_place J x)) (u : ℕ) (e : exit x ≡ u) (h : Hop) (j : ℕ) where
    pub against-comes : j < 5 → Loaded f h → Against (8 * u + j) h → head J h.step ≡ x
    against-comes m l (t, s) = by (get_elem? (around x) j) refl
      where
        by : (o : Option Step) → get_elem? (around x) j ≡ o → head J h.step ≡ x
        by none q =
            absurd (omega (
              arith,
              l,
              ap f s,
              when-so (is_link_dart (8 * u + j)) (f (turn (step_of (8 * u + j)))) t,
              comes-at was g x p (8 * u) (omega (arith, e)) j m,
              ap (load_of (λ s. f (turn s))) q,
            ))
        by (some v) q =
            let w : step_of (8 * u + j) ≡ v = ap (λ (n : ℕ). step_of (8 * n + j)) (sym e) ∙ (slot_step J g.values.array x p j v q).2 in
            ap (head J) (s ∙ ap turn w) ∙ around-leaves J x p v (entry-member (around x) j v q)

    pub comes-against : get_elem? (around x) j ≡ some (turn h.step) → Against (8 * u + j) h
    comes-against m =
        let (r, t, s) = slot_step J g.values.array x p j (turn h.step) m in
        let w : 8 * exit x + j ≡ 8 * u + j = omega (arith, e) in
        (subst (λ (n : ℕ). T (is_link_dart n)) w t, sym (turn-turn h.step) ∙ ap turn (sym s ∙ ap step_of w))

  -- five are all
  pub slots-all : (u k : ℕ) (a b : List ℕ) → k ≡ 5 → Adds was (ByFirst u k) a b → (x : Place) → T (is_place J x) → exit x ≡ u → Adds was (ComesTo J x) a b
  slots-all u k a b z A x p e =
      adds-as (ByFirst u k) (ComesTo J x) a b (λ h l (j, m, t). against-comes x p u e h j (omega arith) l t) (λ h l q. of h q) A
    where
      of : (h : Hop) → head J h.step ≡ x → ByFirst u k h
      of h q =
          let (j, m) = has-entry (turn-listed J h.step x q p) in
          (j, omega (arith, entry-below (around x) j (turn h.step) m, around-five x), comes-against x p u e h j m)
