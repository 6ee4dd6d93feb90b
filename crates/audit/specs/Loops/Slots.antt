-- The slots of one spot, as the loop finder scans them: the loaded ones as bits, the lowest first, until one leads to a spot that is not done. Assumes nothing.
use Rattle.std.specs.Prelude.{◌≡◌, refl, List, ℕ, zero, suc, ◌+◌, ◌-◌, ◌*◌, ◌/◌, ◌%◌, ◌^◌, ◌≤◌, ◌<◌, get_or}
use Rattle.std.proofs.Common.{sym, ap, subst, ◌∙◌, ⊎_elim, arith, below_more}
use Rattle.sums.specs.Lowest.{Lowest}
use Rattle.channel.specs.Map.{spots, rev, view}
use Rattle.channel.specs.Map.LoadedSlots.{loaded_from, from_end, from-small, from_some, from-laden, from-idle, from-half, next-left, next-idle}
use Rattle.audit.specs.Loops.Dfs.{Edge, Rest, Picked}
use Rattle.sums.specs.Tests.{below_or}

-- left has the loaded slots of u from k on, and those from k0 to before k lead only to spots that are done
pub record Scanning (rec fin : List ℕ) (u k0 left k : ℕ) : Type 0 where
  pub rest : left ≡ loaded_from rec u k
  pub past : (j v : ℕ) → k0 ≤ j → j < k → Edge rec u j v → 2 ≤ get_or fin v 0

-- where none is left none is loaded
none_left : (rec : List ℕ) (u k : ℕ) → loaded_from rec u k ≡ 0 → (j : ℕ) → k ≤ j → j < 5 → view rec (8 * u + j) ≡ 0
none_left rec u k z j l h = from-idle rec u j h (λ e. omega (arith, e, ap (loaded_from rec u) q, gone (j - k) (omega arith)))
  where
    q : k + (j - k) ≡ j
    q = omega arith

    gone : (c : ℕ) → k + c ≤ 5 → loaded_from rec u (k + c) ≡ 0
    gone zero l = ap (loaded_from rec u) (omega arith) ∙ z
    gone (suc c) l =
        let p : k + suc c ≡ k + c + 1 = omega arith in
        omega (arith, ap (loaded_from rec u) p, from-half rec u (k + c) (omega arith), gone c (omega arith))

module _ {rec fin : List ℕ} {u : ℕ} (s0 : ℕ) where
  pub scan-first : Rest rec u s0 → Scanning rec fin u (s0 % 8) (s0 / 8) (s0 % 8)
  scan-first r = record { rest = r; past = λ j v a b. absurd (omega arith) }

  module _ {left k : ℕ} (s : Scanning rec fin u (s0 % 8) left k) where
    -- those before the next loaded one are passed
    pub scan-skip : {i : ℕ} → Lowest left i → Scanning rec fin u (s0 % 8) (left / 2 ^ i) (k + i)
    scan-skip w =
        record {
          rest = next-left rec u k s.rest w;
          past = λ j v a b e.
              ⊎_elim
              (λ q. s.past j v a q e)
              (λ q. absurd (omega (arith, e.laden, next-idle rec u k s.rest w j q b)))
              (below_or j k);
        }

    pub scan-slot : left % 2 ≡ 1 → k < 5
    scan-slot o = from_some rec u k (λ z. omega (arith, s.rest))

    -- a loaded slot is passed that leads to a spot that is done
    pub scan-next : left % 2 ≡ 1 → 2 ≤ get_or fin (rev (8 * u + k) / 8) 0 → Scanning rec fin u (s0 % 8) (left / 2) (k + 1)
    scan-next o d =
        record {
          rest = ap (λ (x : ℕ). x / 2) s.rest ∙ from-half rec u k (scan-slot o);
          past = λ j v a b.
              below_more (λ j. s0 % 8 ≤ j → Edge rec u j v → 2 ≤ get_or fin v 0) k (λ j b a. s.past j v a b)
              (λ a e. subst (λ (x : ℕ). 2 ≤ get_or fin x 0) e.leads d) j b a;
        }

    pub scan-found : left % 2 ≡ 1 → u < spots → get_or fin (rev (8 * u + k) / 8) 0 < 2 → Picked rec fin u s0 (k + 8 * left)
    scan-found o lu live =
        let l : k < 5 = scan-slot o in
        let z : (k + 8 * left) % 8 ≡ k = omega arith in
        let laden : 0 < view rec (8 * u + k) = from-laden rec u k l (sym (ap (λ (x : ℕ). x % 2) s.rest) ∙ o) in
        record {
          found = rw z (record { past = s.past; edge = λ q. record { spot = lu; slot = l; laden = laden; leads = refl }; live = λ q. live });
          rest = rw z (omega (arith, s.rest));
          byte = omega (arith, s.rest, from-small rec u k);
        }

    pub scan-ends : left ≡ 0 → Picked rec fin u s0 5
    scan-ends z =
        record {
          found = record {
            past = λ j v b h e.
                ⊎_elim
                (λ q. s.past j v b q e)
                (λ q. absurd (omega (arith, e.laden, none_left rec u k (sym s.rest ∙ z) j q e.slot)))
                (below_or j k);
            edge = λ q. absurd (omega arith);
            live = λ q. absurd (omega arith);
          };
          rest = sym (from_end rec u 5 (omega arith));
          byte = omega arith;
        }
