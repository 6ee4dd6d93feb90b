-- `moves::can_move` meets its contract, code by code. Assumes nothing.
use mathlib.Core.Path.{sym, ◌∙◌}
use mathlib.Core.Logic.{◌≢◌}
use Prim.Native.Nat.{ℕ, ◌%◌, ◌<◌}
use native.Mathlib.Omega.{arith}
use Rattle.model.specs.Record.{job_of}
use Rattle.channel.specs.Map.{code_of}
use Rattle.channel.specs.Map.Numbers.{is-dart}
use Rattle.channel.specs.Map.Bounds.{code-bound}
use Rattle.channel.specs.Map.Moving.{none_moves, centre-back-moves, missing-back-moves, link-back-moves, high-code}
use Rattle.channel.proofs.moves.can_move.Goals as goal

below_last : (n : ℕ) → n < 16 → n ≢ 15 → n < 15
below_last n l h = omega arith

pub returns-in-0 : goal.returns-in-0
returns-in-0 c =
    none_moves (job_of c.args.job.now) c.args.loads.now c.args.d (is-dart c.requires.2) (sym c.code_of.ensures ∙ c.in-0.is)

pub returns-in-11 : goal.returns-in-11
returns-in-11 c =
    centre-back-moves (job_of c.args.job.now) c.args.loads.now c.args.d (is-dart c.requires.2)
    (sym c.code_of.ensures ∙ c.in-11.is) _
    c.centre_back.ensures

pub returns-in-14 : goal.returns-in-14
returns-in-14 c =
    missing-back-moves (job_of c.args.job.now) c.args.loads.now c.args.d (is-dart c.requires.2)
    (sym c.code_of.ensures ∙ c.in-14.is) _
    c.missing_back.ensures

pub returns-in_default : goal.returns-in_default
returns-in_default c =
    let s = c in
    let e = c.code_of.ensures in
    let i = c.in_default.if-this-lt5-own.false in
    let r = c.in_default.in_default-own.rest in
    let n = r.0 in
    let o = n.0.0 in
    let h : 8 < code_of (s.args.d % 64) =
    high-code (code_of (s.args.d % 64)) (λ q. o.0.0.0.0.0.0.1 (e ∙ q)) (λ q. o.0.0.0.0.0.1 (e ∙ q)) (λ q. o.0.0.0.0.1 (e ∙ q))
    (λ q. omega (arith, e, i)) (λ q. omega (arith, e, i)) (λ q. o.0.0.0.1 (e ∙ q)) (λ q. o.0.0.1 (e ∙ q)) (λ q. o.0.1 (e ∙ q))
    (λ q. o.1 (e ∙ q)) in
    let m : code_of (s.args.d % 64) < 15 = below_last (code_of (s.args.d % 64)) (code-bound (s.args.d % 64) (omega arith)) (λ q. r.1 (e ∙ q)) in
    link-back-moves (job_of s.args.job.now) s.args.loads.now s.args.d (is-dart s.requires.2) h m (λ q. n.0.1 (e ∙ q)) (λ q. n.1 (e ∙ q)) _
    c.load_against.ensures.0
