-- A function answers a test: what its answer says of the test. Assumes nothing.
use Rattle.std.specs.Prelude.{◌≡◌, Bool, true, false, not, T}
use Rattle.std.proofs.Common.{sym, subst, ◌∙◌}
use Rattle.std.proofs.lemmas.Bool.{not-true, not-false}
use Rattle.sums.specs.Tests.{so}

module _ {a b : Bool} (e : a ≡ b) where
  pub yes : a ≡ true → T b
  yes h = so (sym e ∙ h)

  pub no : a ≡ false → T b → ⊥
  no h t = subst T (sym e ∙ h) t

  pub yes-not : not a ≡ false → T b
  yes-not h = yes (not-false a h)

  pub no-not : not a ≡ true → T b → ⊥
  no-not h = no (not-true a h)
