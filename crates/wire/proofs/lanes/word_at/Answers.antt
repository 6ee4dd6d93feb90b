-- `lanes::word_at` meets its contract: the part of the words for slot k. Assumes nothing.
use mathlib.Core.Path.{◌≡◌, sym, ap, ◌∙◌}
use Prim.Native.Nat.{ℕ, ◌+◌, ◌*◌}
use native.Mathlib.Omega.{arith}
use Rattle.channel.specs.Map.{place_of}
use Rattle.channel.specs.Map.Laden.{four-link, fifth-link}
use Rattle.wire.proofs.lanes.word_at.Goals as goal

pub returns-then-k-lt4 : goal.returns-then-k-lt4
returns-then-k-lt4 c =
    let k = c.args.k in
    λ q h s. let (b, n) = four-link s h k (omega arith) in (s.four k (omega arith), b, n)

pub returns : goal.returns
returns c =
    let e : c.args.k ≡ 4 = omega arith in
    λ q h s. let (b, n) = fifth-link s h in (s.fifth ∙ ap (λ (j : ℕ). place_of (8 * q + j)) (sym e), b, n)
