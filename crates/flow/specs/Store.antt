-- A push along one dart: it takes one unit off the reverse if that is loaded, else adds one to the dart, and changes no other load. So a program that
-- holds the loads in a list makes one store. Assumes nothing.
use Rattle.std.specs.Prelude.{◌≡◌, ◌≢◌, Bool, true, false, List, [], ◌∷◌, ℕ, ◌+◌, ◌-◌, ◌≤◌, ◌<◌, eqb, length, get_or, set}
use Rattle.std.proofs.Math.Path.{refl, ap}
use Rattle.std.proofs.Common.{sym, ◌∙◌, arith}
use Rattle.sums.specs.Counting.{total}
use Rattle.sums.specs.Tests.{Same, same, other, same?}
use Rattle.sums.specs.Sums.{when-same, when-other}
use Rattle.sums.specs.Stores.{set_reads}
use Rattle.flow.specs.Network.{Net}
use Rattle.flow.specs.Balance.{back}
use Rattle.flow.specs.Flow.{Apart}
use Rattle.flow.specs.Push.{push}

module _ (G : Net) (f : ℕ → ℕ) (a : Apart G f) (e : ℕ) (l : e < G.darts) (n : G.rev e ≢ e) where
  pub push-here : push G f (e ∷ []) e ≡ f e + (1 - back G f e)
  unfolding total
  push-here = omega (arith, a e l, when-same e e 1 refl, when-other e (G.rev e) 1 (λ q. n (sym q)))

  pub push-rev : push G f (e ∷ []) (G.rev e) ≡ back G f e - 1
  unfolding total
  push-rev = rw (G.rev-rev e l) (omega (arith, a e l, when-same e e 1 refl, when-other e (G.rev e) 1 (λ q. n (sym q))))

  pub push-other : (x : ℕ) → x < G.darts → x ≢ e → x ≢ G.rev e → push G f (e ∷ []) x ≡ f x
  unfolding total
  push-other x k p q =
      omega (arith, a x k, when-other e x 1 (λ r. p (sym r)), when-other e (G.rev x) 1 (λ r. q (sym (G.rev-rev x k) ∙ ap G.rev (sym r))))

-- the loads that a list holds
abbrev pub held : List ℕ → ℕ → ℕ
held ls d = get_or ls d 0

-- the two stores of a program that pushes along e
module _ (G : Net) (ls : List ℕ) (long : G.darts ≤ length ls) (a : Apart G (held ls)) (e : ℕ) (l : e < G.darts) (n : G.rev e ≢ e) where
  pub store-undo : 0 < held ls (G.rev e) → (x : ℕ) → x < G.darts → held (set ls (G.rev e) (held ls (G.rev e) - 1)) x ≡ push G (held ls) (e ∷ []) x
  store-undo p x k =
      set_reads ls (G.rev e) _ 0 (push G (held ls) (e ∷ [])) (omega (arith, G.rev< e l)) (sym (push-rev G (held ls) a e l n)) x (go (eqb x e) (same? x e))
    where
      go : (b : Bool) → Same x e b → x ≢ G.rev e → held ls x ≡ push G (held ls) (e ∷ []) x
      go true (same s) q = omega (arith, push-here G (held ls) a e l n, ap (held ls) s, ap (push G (held ls) (e ∷ [])) s)
      go false (other s) q = sym (push-other G (held ls) a e l n x k s q)
