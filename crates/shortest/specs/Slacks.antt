-- What a move leaves, from the numbers that a program reads. Assumes nothing.
use Rattle.std.proofs.Math.Path.{◌≡◌, refl, ap}
use Rattle.std.proofs.Common.{subst, arith, nltb→le}
use Rattle.std.specs.Prelude.{◌≢◌, Bool, ◌||◌, List, ℕ, ◌+◌, ◌-◌, ◌/◌, ◌%◌, ◌<◌, T}
use Rattle.std.proofs.Math.Bool.{true, false}
use Rattle.std.proofs.Math.Dec.{eqb, ltb, ltb→lt}
use Rattle.sums.specs.Counting.{when}
use Rattle.sums.specs.Tests.{so, so-not}
use Rattle.channel.specs.Map.{darts, rev, view}
use Rattle.channel.specs.Map.Lengths.{length_of, back_length_of, dart_length, back-length}
use Rattle.shortest.specs.Grow.{slack_of}

module _ (rec : List ℕ) (d : ℕ) {n e : ℕ} (c : n ≡ view rec e) (r : e ≡ rev d) where
  pub some-view : n ≢ 0 → 0 < view rec (rev d)
  some-view q = omega (arith, ap (view rec) r)

  pub no-view : n ≡ 0 → view rec (rev d) ≡ 0
  no-view q = omega (arith, ap (view rec) r)

-- a row that counts neither way
none-counts : (a b c : Bool) → (a || (b || c)) ≡ false → (when a 10 + when b 14 ≡ 0) × (when a 10 + when c 14 ≡ 0)
none-counts true b c e = absurd (subst T e tt)
none-counts false true c e = absurd (subst T e tt)
none-counts false false true e = absurd (subst T e tt)
none-counts false false false e = (refl, refl)

module _ (π : ℕ → ℕ) (rec : List ℕ) (d : ℕ) where
  pub slack-plain : {e near far : ℕ} → d < darts → ((eqb (d % 64) 16 || (eqb (d % 64) 24 || (eqb (d % 64) 32 || eqb (d % 64) 40))) || (eqb (d % 64) 4 || eqb (d % 64) 13)) ≡ false
      → e ≡ rev d → near ≡ π (d / 8) → far ≡ π (e / 8) → slack_of dart_length π rec d ≡ far - near
  unfolding dart_length
  slack-plain {e} {near} {far} l n r a b = by (ltb 0 (view rec (rev d))) (none-counts (eqb (d % 64) 16 || (eqb (d % 64) 24 || (eqb (d % 64) 32 || eqb (d % 64) 40))) (eqb (d % 64) 4) (eqb (d % 64) 13) n)
    where
      by : (t : Bool) → (length_of (d % 64) ≡ 0) × (back_length_of (d % 64) ≡ 0)
          → ◌≡◌ {A = ℕ} (elim t [ true ↦ π (rev d / 8) - (π (d / 8) + dart_length (rev d)) | false ↦ (π (rev d / 8) + dart_length d) - π (d / 8) ]) (far - near)
      by true z = omega (arith, z.1, back-length d l, ap (λ (x : ℕ). π (x / 8)) r)
      by false z = omega (arith, z.0, ap (λ (x : ℕ). π (x / 8)) r)

  pub slack-takes : {e k near far : ℕ} → 0 < view rec (rev d) → k ≡ dart_length (rev d) → e ≡ rev d → near ≡ π (d / 8) → far ≡ π (e / 8)
      → slack_of dart_length π rec d ≡ far - (near + k)
  slack-takes {e} {k} {near} {far} h l r a b = by (ltb 0 (view rec (rev d))) refl
    where
      by : (t : Bool) → ltb 0 (view rec (rev d)) ≡ t
          → ◌≡◌ {A = ℕ} (elim t [ true ↦ π (rev d / 8) - (π (d / 8) + dart_length (rev d)) | false ↦ (π (rev d / 8) + dart_length d) - π (d / 8) ]) (far - (near + k))
      by true q = omega (arith, ap (λ (x : ℕ). π (x / 8)) r)
      by false q = absurd (omega (arith, nltb→le 0 (view rec (rev d)) (so-not q)))

  pub slack-adds : {e k near far : ℕ} → view rec (rev d) ≡ 0 → k ≡ length_of (d % 64) → e ≡ rev d → near ≡ π (d / 8) → far ≡ π (e / 8)
      → slack_of dart_length π rec d ≡ (far + k) - near
  unfolding dart_length
  slack-adds {e} {k} {near} {far} z l r a b = by (ltb 0 (view rec (rev d))) refl
    where
      by : (t : Bool) → ltb 0 (view rec (rev d)) ≡ t
          → ◌≡◌ {A = ℕ} (elim t [ true ↦ π (rev d / 8) - (π (d / 8) + dart_length (rev d)) | false ↦ (π (rev d / 8) + dart_length d) - π (d / 8) ]) ((far + k) - near)
      by true q = absurd (omega (arith, ltb→lt 0 (view rec (rev d)) (so q)))
      by false q = omega (arith, ap (λ (x : ℕ). π (x / 8)) r)
