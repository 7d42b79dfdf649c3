-- The cuts of a task, and what they make of it.
-- A set of cuts is a list of flags, one for each point in order; a flag that is missing is no cut.
use Rattle.std.specs.Prelude.{ℕ, ◌+◌, ◌*◌, Bool, true, false, List, [], ◌∷◌}
use Rattle.tasks.specs.Tasks.{Task, Table, weight}

-- The regions of the blocks that follow one under way of length n: the next block joins it,
-- or, after a cut, begins a region of its own, which adds the cost of that cut.
abbrev pub regions_from : ℕ → List ℕ → List ℕ → List Bool → List ℕ
regions_from n [] points cuts = n ∷ []
regions_from n (b ∷ bs) [] cuts = regions_from (n + b) bs [] []
regions_from n (b ∷ bs) (p ∷ ps) [] = regions_from (n + b) bs ps []
regions_from n (b ∷ bs) (p ∷ ps) (false ∷ cuts) = regions_from (n + b) bs ps cuts
regions_from n (b ∷ bs) (p ∷ ps) (true ∷ cuts) = n ∷ regions_from (p + b) bs ps cuts

-- the lengths of the regions, in order: the longest runs of blocks without a cut between them
abbrev pub regions : Task → List Bool → List ℕ
regions t cuts = regions_of t.blocks
  where
    regions_of : List ℕ → List ℕ
    regions_of [] = []
    regions_of (b ∷ bs) = regions_from b bs t.points cuts

-- the costs of the points that are cut
abbrev pub cost_at : List ℕ → List Bool → ℕ
cost_at [] cuts = 0
cost_at (p ∷ ps) [] = 0
cost_at (p ∷ ps) (false ∷ cuts) = cost_at ps cuts
cost_at (p ∷ ps) (true ∷ cuts) = p + cost_at ps cuts

abbrev pub cut_cost : Task → List Bool → ℕ
cut_cost t cuts = cost_at t.points cuts

abbrev pub total : List ℕ → ℕ
total [] = 0
total (n ∷ ns) = n + total ns

-- all that a job runs: its blocks, and the costs of its cuts
abbrev pub load : Task → List Bool → ℕ
load t cuts = total t.blocks + cut_cost t cuts

-- what the cuts of a task add to the cost of a plan
abbrev pub overhead : Table → Task → List Bool → ℕ
overhead table t cuts = weight table t * cut_cost t cuts
