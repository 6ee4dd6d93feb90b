-- `pairing::join_all` meets its contract: a round joins one pair more, or nothing is left to join. Assumes nothing.
use Rattle.std.proofs.Common.{◌≡◌, ℕ, ◌+◌, set, sym, subst, ◌∙◌, arith, length-set, rules}
use Rattle.model.specs.Pairing.{strike}
use Rattle.pairing.specs.Sequence.{arriving}
use Rattle.pairing.specs.Struck.{remaining, Midway, joined-more, joined-over, joined-all, joined_as, resumes-as, nothing-as, round-over}
use Rattle.pairing.proofs.join_all.Goals as goal

pub loop-next-preserved : goal.loop-next-preserved
loop-next-preserved c =
    let a = c.args in
    let l = c.loop-next in
    let r = c.round in
    let j = c.in-Some.join in
    let w = arriving a.ends.now in
    let e : c.from-next.result ≡ j.pair.snd = search rules in
    let z = resumes-as w l.passed l.next a.n r.result _ r.new.left c.in-Some.is r.ensures.resumes in (
      search rules,
      length-set l.pairs l.m j.pair ∙ l.invariant.1,
      omega (arith, z.2, e),
      omega (arith, z.1, e),
      z.3,
      z.4,
      subst (λ (q : ℕ). Midway w a.n (set l.pairs l.m j.pair) (l.m + 1) (remaining a.n r.new.left j.before (q + 1))) (sym e)
          (joined-more w a.n l.m l.pairs (remaining a.n l.left l.passed l.next) (remaining a.n r.new.left j.before (j.pair.snd + 1)) j.pair
          (omega arith) (omega arith) (joined_as a.n r.result j r.new.left {o = strike w (remaining a.n l.left l.passed l.next)} c.in-Some.is r.ensures.left_after) l.invariant.6),
    )

pub returns-in_default : goal.returns-in_default
returns-in_default c =
    let a = c.args in
    let l = c.loop-next in
    let r = c.round in
    let w = arriving a.ends.now in
    let e =
    joined-over w a.n l.m l.pairs (remaining a.n l.left l.passed l.next)
    (nothing-as a.n r.result r.new.left {o = strike w (remaining a.n l.left l.passed l.next)} c.in_default.is r.ensures.left_after) l.invariant.6 in record {
      pairs_after = e;
      result_value = (joined-all w a.n l.m l.pairs (omega arith) e, omega arith);
    }

pub returns : goal.returns
returns c =
    let a = c.args in
    let l = c.loop-next in
    let w = arriving a.ends.now in
    let e =
    joined-over w a.n l.m l.pairs (remaining a.n l.left l.passed l.next)
    (round-over w a.n l.left l.passed l.next l.invariant.5 (omega arith)) l.invariant.6 in record {
      pairs_after = e;
      result_value = (joined-all w a.n l.m l.pairs (omega arith) e, omega arith);
    }
