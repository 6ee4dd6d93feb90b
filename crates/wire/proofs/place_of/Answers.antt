-- `wire::place_of` meets its contract, kind by kind. Assumes nothing.
use Rattle.std.proofs.Common.{◌≡◌, ℕ, zero, suc, ◌+◌, ◌-◌, ◌%◌, ◌<◌, [], ◌∷◌, get_or, sym, ap, ◌∙◌, arith}
use Rattle.model.specs.Links.{pin, missing, centre, nowhere, side, north, east, south, west}
use Rattle.channel.specs.Map.Entered.{kind_at, by_kind}
use Rattle.wire.proofs.place_of.Goals as goal

-- the m-th kind of a spot
listed : (m : ℕ) {n : ℕ} → n ≡ m
    → get_or (missing ∷ pin ∷ side north ∷ side east ∷ side south ∷ side west ∷ centre ∷ centre ∷ []) m nowhere ≡ kind_at n
listed m e = by_kind (λ k. k) m ∙ ap kind_at (sym e)

-- the last two are of the centre
last_two : (m : ℕ) {n : ℕ} → n ≡ 6 + m → m < 2 → centre ≡ kind_at n
last_two zero e l = listed 6 e
last_two (suc zero) e l = listed 7 e
last_two (suc (suc m)) e l = absurd (omega arith)

pub returns-in-0 : goal.returns-in-0
returns-in-0 c = listed 0 c.in-0.is

pub returns-in-1 : goal.returns-in-1
returns-in-1 c = listed 1 c.in-1.is

pub returns-in-2 : goal.returns-in-2
returns-in-2 c = listed 2 c.in-2.is

pub returns-in-3 : goal.returns-in-3
returns-in-3 c = listed 3 c.in-3.is

pub returns-in-4 : goal.returns-in-4
returns-in-4 c = listed 4 c.in-4.is

pub returns-in-5 : goal.returns-in-5
returns-in-5 c = listed 5 c.in-5.is

pub returns-in_default : goal.returns-in_default
returns-in_default c =
    let n = c.args.spot % 8 in
    let e : n ≡ 6 + (n - 6) = omega arith in
    last_two (n - 6) e (omega arith)
