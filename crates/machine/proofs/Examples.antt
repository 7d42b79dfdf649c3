-- A run of two tasks on one core, computed: a more urgent job waits for a region's end. Assumes nothing.
use Rattle.std.proofs.Common.{◌≡◌, List, [], ◌∷◌, replicate, refl, lit≤}
use Rattle.tasks.specs.declared.refusal.Refusal.TheVariants.{EarlyRelease, NothingUnderWay, WrongRowLength}
use Rattle.machine.specs.declared.types.Assigned.{Assigned}
use Rattle.machine.specs.declared.types.Call.{Call}
use Rattle.machine.specs.declared.types.Call.TheVariants.{Release, Early, Tick}
use Rattle.machine.specs.Machine.{Reply, refused, granted, ran, answers, start}
use Rattle.machine.specs.Watch.{unfinished, watch, opening}

-- 20/4 with one region of 1
abbrev urgent : Assigned
urgent = record { core = 1; period = 20; deadline = 4; regions = record { items = 1 ∷ replicate 15 0; len = 1; full = refl; within = lit≤ tt } }

-- 10/10 with regions of 3 and 2
abbrev long : Assigned
long = record { core = 1; period = 10; deadline = 10; regions = record { items = 3 ∷ 2 ∷ replicate 14 0; len = 2; full = refl; within = lit≤ tt } }

abbrev calls : List Call
calls = Release 2 ∷ Tick 1 ∷ Release 1 ∷ Tick 1 ∷ Tick 2 ∷ Tick 1 ∷ []

abbrev replies : List Call → List Reply
replies cs = answers (start 1 0 (urgent ∷ long ∷ [])) cs

-- release 1 comes after a tick of the long region, and waits for its end
waits : replies calls ≡ granted ∷ ran (2 ∷ []) ∷ granted ∷ ran (2 ∷ []) ∷ refused WrongRowLength ∷ ran (2 ∷ []) ∷ []
waits = refl

-- then the urgent job runs; its next release is too early, and with no region under way there is nothing to end
then_runs : replies (Release 2 ∷ Tick 1 ∷ Release 1 ∷ Tick 1 ∷ Tick 1 ∷ Tick 1 ∷ Release 1 ∷ Early 1 ∷ Tick 1 ∷ [])
    ≡ granted ∷ ran (2 ∷ []) ∷ granted ∷ ran (2 ∷ []) ∷ ran (2 ∷ []) ∷ ran (1 ∷ []) ∷ refused (EarlyRelease 1) ∷ refused (NothingUnderWay 1) ∷ ran (2 ∷ []) ∷ []
then_runs = refl

-- as it is read: the urgent job is two ticks before its deadline, and the long one has come to its second region
read_urgent : watch urgent 1 (opening 0) calls (replies calls) ≡ record { clock = 3; row = 2 ∷ []; view = unfinished 0 0 5 ∷ [] }
read_urgent = refl

read_long : watch long 2 (opening 0) calls (replies calls) ≡ record { clock = 3; row = 2 ∷ []; view = unfinished 1 0 10 ∷ [] }
read_long = refl
