-- `route::show` meets its contract: after i turns the first i bytes are those of the near side. Assumes nothing.
use mathlib.Core.Path.{◌≡◌, refl, sym, ap, ◌∙◌}
use mathlib.Core.List.{List, ◌++◌}
use Prim.Native.Nat.{ℕ, ◌+◌, ◌≤◌}
use native.Mathlib.Omega.{arith}
use lib.ListN.{length, set, take, drop}
use Rattle.std.proofs.lemmas.List.{length-take-le, drop_all}
use Rattle.std.proofs.Common.{append-nil}
use Rattle.sums.specs.Counting.{when, each}
use Rattle.model.specs.Record.{bytes}
use Rattle.model.proofs.RecordOf.{length-bytes}
use Rattle.channel.specs.Copies.{store-more}
use Rattle.augment.specs.Marks.{marked}
use Rattle.search.specs.Routing.{bytes_next}
use Rattle.search.proofs.route.show.Goals as goal

pub loop-i-init : goal.loop-i-init
unfolding each
loop-i-init c = refl

pub loop-i-preserved : goal.loop-i-preserved
loop-i-preserved c =
    let l = c.loop-i in
    let first = take 32768 c.args.near.now in
    let f : ℕ → ℕ = λ x. when (marked c.args.marks.now x) 1 in
    (λ j. set (l.invariant j) l.i (c.near_byte.ensures j))
    ∙ store-more (bytes l.i f) first l.i (f l.i) (length-bytes l.i f) c.loop-i-test.true
    ∙ ap (λ (t : List ℕ). t ++ drop (l.i + 1) first) (sym (bytes_next l.i f))

shown : (f : ℕ → ℕ) (n i : ℕ) (near items : List ℕ) → n ≤ length near → length (take n near) ≤ i → i ≤ length (take n near)
    → items ≡ bytes i f ++ drop i (take n near) → items ++ drop n near ≡ bytes n f ++ drop (length (bytes n f)) near
shown f n i near items l a b e =
    let q : i ≡ n = omega (arith, length-take-le n near l) in
    ap (λ (t : List ℕ). t ++ drop n near)
    (e ∙ ap (λ (t : List ℕ). bytes i f ++ t) (drop_all i (take n near) a) ∙ append-nil (bytes i f) ∙ ap (λ (k : ℕ). bytes k f) q)
    ∙ ap (λ (k : ℕ). bytes n f ++ drop k near) (sym (length-bytes n f))

pub returns : goal.returns
returns c =
    shown (λ x. when (marked c.args.marks.now x) 1) 32768 c.loop-i.i c.args.near.now c.loop-i.byte-items c.requires.1 c.loop-i-test.false c.loop-i.auto.i-end
    c.loop-i.invariant
