-- The search from the spots of fresh links, one after the other: what was seen stays seen, and with nothing on the stack it is done. Assumes nothing.
use Rattle.std.specs.Prelude.{◌≡◌, refl, ◌≢◌, false, List, ℕ, ◌+◌, ◌≤◌, ◌<◌, T, set, Some, Result, Ok, Err, length, get_or}
use Rattle.std.specs.Result.{result_err}
use Rattle.std.proofs.Common.{ap, subst, ◌∙◌, ⊎_elim, arith}
use Rattle.channel.specs.Map.{spots}
use Rattle.channel.specs.Map.Fresh.{is_fresh}
use Rattle.channel.specs.Map.Origins.{origin_of}
use Rattle.audit.specs.Loops.{Settled}
use Rattle.audit.specs.Loops.Answers.{Answer}
use Rattle.audit.specs.Loops.Dfs.{Dfs, Kept, Still, Begun}
use Rattle.audit.specs.Loops.Search.{Turned, Resumed, Searched, Traced, FreshTraced}
use Rattle.sums.specs.Tests.{below_or}
use Rattle.audit.specs.Loops.Rings.{done-falls}
use Rattle.audit.specs.Loops.Stack.{seen_done}
use Rattle.audit.specs.Loops.Turns.{still-then, marked-kept}
use Rattle.audit.specs.declared.loops.Search.{Search}
use Rattle.audit.specs.declared.loops.Ring.{Ring}
use Rattle.audit.specs.declared.loops.Met.{Met}
use Rattle.audit.specs.declared.loops.Met.TheVariants.{New, Hit}

-- a turn after others at which nothing new was seen
pub resumed-then : (rec : List ℕ) (s t u : Search) (met : Met) → Still s.fin.now t.fin.now → Turned rec t u (Some met) → Resumed rec s u (Some met)
resumed-then rec s t u (New v) k (a, k', h, d) = (a, still-then k k')
resumed-then rec s t u (Hit v) k (m, h, d) = m

-- the search from the spot r of the i-th load byte, with which it began
pub traced-from : (rec : List ℕ) (i r : ℕ) (fin : List ℕ) (t : Search) (x : Result Unit Ring) → r ≡ origin_of rec i → r < length fin
    → Searched rec (set fin r 1) t x → Traced rec i fin t x
traced-from rec i r fin t (Ok _) e l (d, k) = let (kept, seen) = marked-kept fin r t.fin.now l k in (d, kept, λ h. rw (← e) seen)
traced-from rec i r fin t (Err _) e l s = s

module _ (old rec fin : List ℕ) where
  -- none of them is fresh
  pub fresh-none : (a b : ℕ) → ((i : ℕ) → a ≤ i → i < b → T (is_fresh old rec i) → ⊥) → (i : ℕ) → a ≤ i → i < b → Begun old rec fin i
  fresh-none a b none i l h t = absurd (none i l h t)

  -- the i-th alone, which is not fresh, or from whose spot the search went
  pub fresh-not : (i : ℕ) → is_fresh old rec i ≡ false → (j : ℕ) → i ≤ j → j < i + 1 → Begun old rec fin j
  fresh-not i e = fresh-none i (i + 1) (λ j l h t. let q : j ≡ i = omega arith in subst T (ap (is_fresh old rec) q ∙ e) t)

  pub fresh-one : (i : ℕ) (t : Search) (x : Result Unit Ring) → Traced rec i fin t x → FreshTraced old rec i (i + 1) fin t x
  fresh-one i t (Ok _) (d, k, seen) =
      (d, k, λ j l h f. let q : i ≡ j = omega arith in subst (λ (x : ℕ). origin_of rec x < spots → get_or t.fin.now (origin_of rec x) 0 ≢ 0) q seen)
  fresh-one i t (Err r) s = s

  module _ (fin' : List ℕ) (a b c : ℕ) (kept : Kept fin fin') (seen : (i : ℕ) → a ≤ i → i < b → Begun old rec fin' i) where
    -- more of them, after those that are seen
    pub fresh-more : ((i : ℕ) → c ≤ i → i < a → Begun old rec fin i) → (i : ℕ) → c ≤ i → i < b → Begun old rec fin' i
    fresh-more all i l h = ⊎_elim (λ p t o. kept _ (all i l p t o)) (λ p. seen i p h) (below_or i a)

    -- and before them
    pub fresh-before : ((i : ℕ) → b ≤ i → i < c → Begun old rec fin i) → (i : ℕ) → a ≤ i → i < c → Begun old rec fin' i
    fresh-before all i l h = ⊎_elim (seen i l) (λ p t o. kept _ (all i p h t o)) (below_or i b)

-- all fresh links, with nothing on the stack
pub fresh-settled : {old rec fin st sl : List ℕ} {m : ℕ} → Dfs rec fin st sl 0 m → ((i : ℕ) → i < 24000 → Begun old rec fin i) → Settled old rec fin
fresh-settled d all = record { falls = done-falls d; fresh = λ i l t o. seen_done d refl _ o (all i l t o) }

-- or a ring
pub fresh-answered : (old rec fin : List ℕ) (t : Search) (x : Result Unit Ring) → FreshTraced old rec 0 24000 fin t x
    → Answer old rec t.fin.now t.st.now t.sl.now (result_err x)
fresh-answered old rec fin t (Ok _) (d, k, all) = fresh-settled d.state (λ i l. all i (omega arith) l)
fresh-answered old rec fin t (Err r) s = (s.ring, s.state)
