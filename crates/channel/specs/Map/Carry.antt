-- What a dart may carry: a link dart the load of its step, within the limit of the link; a dart from an entry to its exit what passes the place; any other
-- dart nothing. And the way back of a dart with a stored byte: the dart of the step turned round, or a dart that carries nothing. Assumes nothing.
use Rattle.std.specs.Prelude.{◌≡◌, Bool, ◌&&◌, ◌||◌, List, ℕ, ◌+◌, ◌/◌, ◌%◌, ◌≤◌, ◌<◌}
use Rattle.std.proofs.Math.Path.{sym, ap}
use Rattle.std.proofs.Common.{◌∙◌, T_not}
use Rattle.std.proofs.Math.Bool.{true, false, not}
use Rattle.std.proofs.Math.Option.{some}
use native.Mathlib.Omega.{arith}
use Rattle.std.proofs.Math.Dec.{T, not_T}
use Rattle.sums.specs.Counting.{when}
use Rattle.sums.specs.Tests.{and_left, and_right, and_both, if-so, so-not, below, below_at}
use Rattle.sums.specs.Sums.{when-so, when-none}
use Rattle.model.specs.Job.{Job}
use Rattle.model.specs.Links.{is_place, turn, may, limit, pass}
use Rattle.model.specs.Near.{size}
use Rattle.model.specs.Loads.{arrivals}
use Rattle.model.specs.Record.{load}
use Rattle.channel.specs.Map.{darts, in_grid, rev, owner_cell, step_of, carries, is_stored, is_passage, is_link_dart, is_pass_dart, passed_of, is_none, cap, free, view, turns, codes, turn_of, code_of, back_row, dart_of, idle}
use Rattle.channel.specs.Map.Back.{rev<, over-row, stored-turned}
use Rattle.channel.specs.Map.Darts.{step-dart}

-- ---- tests

not_left : (a b : Bool) → T (not a) → T (not (a && b))
not_left true b t = absurd t
not_left false b t = tt

not_right : (a b : Bool) → T (not b) → T (not (a && b))
not_right true b t = t
not_right false b t = tt

both-none : (a b : Bool) (x y : ℕ) → T (not a) → T (not b) → when a x + when b y ≡ 0
both-none true b x y s t = absurd s
both-none false true x y s t = absurd t
both-none false false x y s t = omega arith

at_most : (a b : Bool) (x k : ℕ) → x ≡ k → when (a && b) x ≤ k
at_most true true x k e = omega arith
at_most true false x k e = omega arith
at_most false b x k e = omega arith

-- ---- codes

module _ (i : ℕ) (l : i < 64) where
  pub carries-passes : T (carries (code_of i)) → T (not (is_passage (code_of i)))
  unfolding below code_of codes carries is_passage
  carries-passes = if-so (carries (code_of i)) (not (is_passage (code_of i))) (below_at 64 (λ i. not (carries (code_of i)) || not (is_passage (code_of i))) tt i l)

  -- a row with a stored byte that carries nothing along it
  pub stored-idle : T (is_stored (code_of i)) → T (not (carries (code_of i))) → T (idle i)
  unfolding below code_of codes is_stored is_passage idle
  stored-idle s n =
      and_both (not (carries (code_of i))) (not (is_passage (code_of i))) n
      (if-so (is_stored (code_of i)) (not (is_passage (code_of i))) (below_at 64 (λ i. not (is_stored (code_of i)) || not (is_passage (code_of i))) tt i l) s)

  -- of a link's two ways one at least carries its load
  pub back-carries : T (is_stored (code_of i)) → T (not (carries (code_of i))) → T (carries (code_of (back_row i)))
  unfolding below code_of codes is_stored carries back_row turn_of turns
  back-carries s n =
      if-so (not (carries (code_of i))) (carries (code_of (back_row i)))
      (if-so (is_stored (code_of i)) (not (not (carries (code_of i))) || carries (code_of (back_row i)))
      (below_at 64 (λ i. not (is_stored (code_of i)) || (not (not (carries (code_of i))) || carries (code_of (back_row i)))) tt i l) s) n

-- ---- the two sorts of darts that carry

pub link-passes : (d : ℕ) → T (is_link_dart d) → T (not (is_pass_dart d))
unfolding is_link_dart is_pass_dart
link-passes d t =
    not_left (is_passage (code_of (d % 64))) (in_grid (d / 64))
    (carries-passes (d % 64) (omega arith) (and_left (carries (code_of (d % 64))) (in_grid (owner_cell d)) t))

pub idle-link : (d : ℕ) → T (idle (d % 64)) → T (not (is_link_dart d))
unfolding is_link_dart idle
idle-link d t = not_left (carries (code_of (d % 64))) (in_grid (owner_cell d)) (and_left (not (carries (code_of (d % 64)))) (not (is_passage (code_of (d % 64)))) t)

pub idle-pass : (d : ℕ) → T (idle (d % 64)) → T (not (is_pass_dart d))
unfolding is_pass_dart idle
idle-pass d t = not_left (is_passage (code_of (d % 64))) (in_grid (d / 64)) (and_right (not (carries (code_of (d % 64)))) (not (is_passage (code_of (d % 64)))) t)

-- ---- what a record has on a dart

module _ (rec : List ℕ) (d : ℕ) where
  pub view-link : T (is_link_dart d) → view rec d ≡ load rec (step_of d)
  unfolding view
  view-link t =
      omega (
        arith,
        when-so (is_link_dart d) (load rec (step_of d)) t,
        when-none (is_pass_dart d) (arrivals (load rec) (passed_of d)) (λ p. absurd (T_not (is_pass_dart d) (link-passes d t) p)),
      )

  pub view-pass : T (is_pass_dart d) → view rec d ≡ arrivals (load rec) (passed_of d)
  unfolding view
  view-pass t =
      omega (
        arith,
        when-none (is_link_dart d) (load rec (step_of d)) (λ p. absurd (T_not (is_pass_dart d) (link-passes d p) t)),
        when-so (is_pass_dart d) (arrivals (load rec) (passed_of d)) t,
      )

-- ---- limits

-- nothing may go along the dart
pub record Shut (J : Job) (d : ℕ) : Type 0 where
  pub cap0 : cap J d ≡ 0
  pub unfree : T (not (free J d))

-- at most k may go along it
pub record Limited (J : Job) (d k : ℕ) : Type 0 where
  pub cap≤ : cap J d ≤ k
  pub unfree : T (not (free J d))

module _ (J : Job) (d : ℕ) where
  abbrev linked : Bool
  linked = is_link_dart d

  abbrev taken : Bool
  taken = may J (step_of d)

  abbrev passed : Bool
  passed = is_pass_dart d

  abbrev there : Bool
  there = is_place J (passed_of d)

  abbrev unlimited : Bool
  unlimited = is_none (limit J (step_of d).link)

  pass-links : T passed → T (not linked)
  pass-links t = not_T linked (λ p. T_not passed (link-passes d p) t)

  shut_by : T (not (linked && taken)) → T (not (passed && there)) → Shut J d
  unfolding cap free
  shut_by a b = record { cap0 = both-none (linked && taken) (passed && there) _ _ a b; unfree = sub linked taken unlimited a }
    where
      sub : (a b c : Bool) → T (not (a && b)) → T (not (a && (b && c)))
      sub true true c t = absurd t
      sub true false c t = tt
      sub false b c t = tt

  pub shut : T (not linked) → T (not passed) → Shut J d
  shut a b = shut_by (not_left linked taken a) (not_left passed there b)

  -- a link taken against its way, or one that is not there
  pub link-shut : T linked → T (not taken) → Shut J d
  link-shut t n = shut_by (not_right linked taken n) (not_left passed there (link-passes d t))

  -- a place that is not there
  pub pass-shut : T passed → T (not there) → Shut J d
  pass-shut t n = shut_by (not_left linked taken (pass-links t)) (not_right passed there n)

  pub link-limit : T linked → (k : ℕ) → limit J (step_of d).link ≡ some k → Limited J d k
  unfolding cap free is_none
  link-limit t k e =
      record {
        cap≤ = omega (
          arith,
          at_most linked taken (size (limit J (step_of d).link)) k (ap size e),
          when-none (passed && there) (size (pass J (passed_of d))) (λ p. absurd (T_not passed (link-passes d t) (and_left passed there p))),
        );
        unfree = not_right linked (taken && unlimited) (not_right taken unlimited (so-not (ap is_none e)));
      }

  pub pass-limit : T passed → (k : ℕ) → pass J (passed_of d) ≡ some k → Limited J d k
  unfolding cap free
  pass-limit t k e =
      record {
        cap≤ = omega (
          arith,
          at_most passed there (size (pass J (passed_of d))) k (ap size e),
          when-none (linked && taken) (size (limit J (step_of d).link)) (λ p. absurd (T_not linked (pass-links t) (and_left linked taken p))),
        );
        unfree = not_left linked (taken && unlimited) (pass-links t);
      }

-- ---- the way back

module _ (d : ℕ) (l : d < darts) (s : T (is_stored (code_of (d % 64)))) (g : T (in_grid (owner_cell d))) where
  back-row : rev d % 64 ≡ back_row (d % 64)
  back-row = over-row d (rev d) (stored-turned d l s g).over

  pub back-link : T (carries (code_of (back_row (d % 64)))) → T (is_link_dart (rev d)) × (rev d ≡ dart_of (turn (step_of d)))
  unfolding is_link_dart
  back-link c =
      let t = stored-turned d l s g in
      let u : T (is_link_dart (rev d)) = and_both (carries (code_of (rev d % 64))) (in_grid (owner_cell (rev d))) (rw back-row c) (rw t.owner g) in
      (u, sym (step-dart (rev d) (rev< d l) u) ∙ ap dart_of t.step)

  pub back-idle : T (idle (back_row (d % 64))) → T (idle (rev d % 64))
  back-idle t = rw back-row t
