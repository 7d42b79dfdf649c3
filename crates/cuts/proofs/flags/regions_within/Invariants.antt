use Rattle.std.proofs.Common.{◌≡◌, ◌+◌, ◌*◌, ◌≤◌, drop}
use Rattle.tasks.specs.Tasks.{every}
use Rattle.cuts.specs.Regions.{regions_of}
use Rattle.tasks.specs.Cuts.{regions_from}
use Rattle.cuts.specs.Allowed.{within}
use Rattle.cuts.proofs.flags.regions_within.Given as goal

abbrev pub invariant-loop-j : goal.invariant-loop-j
invariant-loop-j l =
    (every (within l.limit) (regions_from l.length (drop (l.j + 1) l.blocks) (drop l.j l.points) (drop l.j l.cuts))
    ≡ every (within l.limit) (regions_of l.blocks l.points l.cuts))
    × (l.length ≤ 2000000 + 1000000 * l.j)
