-- Document 01, demand 3, of a service that there is: New 2 2 1 2 0 on zeros, Mark 0 0 1 and a step; and the answers of the starred jobs of "Settled by
-- hand", which need steps that say "added", and of a short one; and a run that goes on with wires after an edit (K5). So neither the theorem nor what it promises speaks of nothing. Assumes nothing.
use Rattle.std.specs.Prelude.{◌≡◌, List, [], ◌∷◌, ◌++◌, ℕ}
use Rattle.model.specs.Job.{marked}
use Rattle.model.specs.Examples.{job64, job33, short_shut}
use Rattle.model.specs.Calls.{step, wires_in}
use Rattle.model.specs.Run.{NeverOne, Demand}
use Rattle.run.specs.Buffers.{zero_scratch}
use Rattle.run.specs.Runs.{rec_after}
use Rattle.run.specs.Demand3.{demand3}
use Rattle.run.specs.Settled.{Answers, WholeAnswers}
use Rattle.run.specs.Example.{plain, begun, mark_and_step, starts-new, follows-step, edits64, answers64, begun33, edits33, answers33, begun_shut, edits_shut, answers_shut}
use Rattle.run.specs.WiredRun.{edits_earlier, steps_and_mark, chosen33, last33, wires-stay, demand-stepped}
use Rattle.witness.proofs.Served.{service}

-- the record after the run
abbrev pub end : List ℕ
end = rec_after service (mark_and_step service) (begun service)

pub demand-holds : NeverOne service (begun service) (mark_and_step service) × Demand service end (marked (plain service) 0 0 1)
demand-holds =
    demand3 service (begun service) (plain service) (starts-new service) (mark_and_step service) end (marked (plain service) 0 0 1) (follows-step service)

-- once "added", then all wired
pub answers-64 : WholeAnswers service (rec_after service (edits64 service) (begun service)) job64
answers-64 = answers64 service

-- three times "added", then all wired
pub answers-33 : WholeAnswers service (rec_after service (edits33 service) (begun33 service)) job33
answers-33 = answers33 service

-- short 1 at once
pub answers-shut : Answers service (rec_after service (edits_shut service) (begun_shut service)) short_shut
answers-shut = answers_shut service

-- Step, Step, Mark on another pin, Step: two wires are there after the mark
pub wires-there : wires_in (chosen33 service) ≡ 2
wires-there = wires-stay service

pub demand-wired :
    NeverOne service (begun33 service) (edits_earlier service ++ (steps_and_mark service ++ (step zero_scratch ∷ []))) × Demand service (last33 service) job33
demand-wired = demand-stepped service
