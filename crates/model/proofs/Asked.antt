-- The tests of a paragraph in its order: a test that fails gives its number, one that holds hands on to the next, and what holds of every refusal and of an
-- accepted call holds of the outcome. Assumes nothing.
use mathlib.Core.Path.{◌≡◌, refl, ap, ◌∙◌}
use mathlib.Core.Bool.{Bool, true, false, ◌&&◌}
use mathlib.Core.List.{List, [], ◌∷◌}
use Prim.Native.Nat.{ℕ}
use lib.Dec.{T}
use Rattle.sums.specs.Tests.{and_left, and_right, and_both}
use Rattle.model.specs.Calls.{refused, After, after, Test, test, asked}

-- every test holds
abbrev pub all_hold : List Test → Bool
all_hold [] = true
all_hold (t ∷ ts) = t.holds && all_hold ts

-- of two tests
pub both_hold : (a b : Bool) → T (a && (b && true)) → T a × T b
both_hold a b t = (and_left a (b && true) t, and_left b true (and_right a (b && true) t))

pub hold-both : (a b : Bool) → T a → T b → T (a && (b && true))
hold-both a b s t = and_both a (b && true) s (and_both b true t tt)

-- every number is one with q
abbrev pub numbered : (ℕ → Bool) → List Test → Bool
numbered q [] = true
numbered q (t ∷ ts) = q t.number && numbered q ts

module _ (rec output : List ℕ) (a : After) where
  abbrev on : Bool → ℕ → List Test → After
  on b k ts = asked (test b k ∷ ts) rec output a

  pub asked-fails : (b : Bool) (k : ℕ) (ts : List Test) → b ≡ false → asked (test b k ∷ ts) rec output a ≡ after (refused k) rec [] output
  asked-fails b k ts e = ap (λ (x : Bool). on x k ts) e

  pub asked-holds : (b : Bool) (k : ℕ) (ts : List Test) → b ≡ true → asked (test b k ∷ ts) rec output a ≡ asked ts rec output a
  asked-holds b k ts e = ap (λ (x : Bool). on x k ts) e

  pub asked-all : (ts : List Test) → T (all_hold ts) → asked ts rec output a ≡ a
  asked-all [] t = refl
  asked-all (u ∷ ts) t = by u.holds (and_left u.holds (all_hold ts) t) ∙ asked-all ts (and_right u.holds (all_hold ts) t)
    where
      by : (b : Bool) → T b → on b u.number ts ≡ asked ts rec output a
      by true t = refl
      by false t = absurd t

  pub asked-either : (P : After → Type 0) (q : ℕ → Bool) (ts : List Test) → T (numbered q ts) → ((k : ℕ) → T (q k) → P (after (refused k) rec [] output))
      → (T (all_hold ts) → P a) → P (asked ts rec output a)
  asked-either P q [] n f g = g tt
  asked-either P q (u ∷ ts) n f g =
      by u.holds (f u.number (and_left (q u.number) (numbered q ts) n))
      (λ h. asked-either P q ts (and_right (q u.number) (numbered q ts) n) f h) g
    where
      by : (b : Bool) → P (after (refused u.number) rec [] output) → ((T (all_hold ts) → P a) → P (asked ts rec output a)) → (T (b && all_hold ts) → P a)
          → P (on b u.number ts)
      by true r s g = s g
      by false r s g = r
