-- `slack::slack` meets its contract: where a wire goes the other way it is taken back. Assumes nothing.
use mathlib.Core.Path.{sym, ◌∙◌}
use Prim.Native.Nat.{ℕ}
use native.Mathlib.Omega.{arith}
use lib.ListN.{get_or}
use Rattle.channel.specs.Map.Numbers.{is-dart}
use Rattle.channel.specs.Map.Lengths.{back-length}
use Rattle.shortest.specs.Slacks.{some-view, no-view, slack-plain, slack-takes, slack-adds}
use Rattle.shortest.proofs.slack.slack.Goals as goal

pub returns-then-not-counts : goal.returns-then-not-counts
returns-then-not-counts c =
    c.beyond.ensures
    ∙ sym (slack-plain (λ (u : ℕ). get_or c.args.prices.now u 0) c.args.loads.now c.args.d (is-dart (omega arith))
    (sym c.counts.ensures ∙ c.if-not-counts.true) c.reverse-e.ensures.0
    c.wide-near.ensures.0 c.wide-far.ensures.0)

pub returns-then-carried-ne0 : goal.returns-then-carried-ne0
returns-then-carried-ne0 c =
    let e = c.reverse-e.ensures.0 in
    c.beyond-then-carried-ne0.ensures
    ∙ sym (slack-takes (λ (u : ℕ). get_or c.args.prices.now u 0) c.args.loads.now c.args.d (some-view c.args.loads.now c.args.d c.carried.ensures.0 e c.if-carried-ne0.true)
    (c.back_length_of.ensures.0 ∙ sym (back-length c.args.d (is-dart (omega arith)))) e
    c.wide-near.ensures.0 c.wide-far.ensures.0)

pub returns : goal.returns
returns c =
    let e = c.reverse-e.ensures.0 in
    c.beyond-2.ensures
    ∙ sym (slack-adds (λ (u : ℕ). get_or c.args.prices.now u 0) c.args.loads.now c.args.d (no-view c.args.loads.now c.args.d c.carried.ensures.0 e c.if-carried-ne0.false)
    c.length_of.ensures.0 e
    c.wide-near.ensures.0 c.wide-far.ensures.0)
