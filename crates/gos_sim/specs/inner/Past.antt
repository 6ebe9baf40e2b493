-- What a simulator keeps of its last two settlings.
--
-- Read first: Visits.
use Rattle.std.specs.Prelude.{Bool, true, false, List, [], ◌∷◌}
use Rattle.gos_netlist.specs.Nets.{Cell}
use Rattle.gos_netlist.specs.Settling.{Numbers}
use Rattle.gos_sim.specs.declared.past.Past.{Past}
use Rattle.gos_sim.specs.declared.past.Past.TheVariants.{Reset, First, Later, Still}
use Rattle.gos_sim.specs.declared.course.Course.{Course}
use Rattle.gos_sim.specs.declared.course.Course.TheVariants.{Rest, Few, All}
use Rattle.gos_sim.specs.Visits.{IsZeroSettling}

-- the settlings that there were, the newest one first
abbrev pub settlings_of : Past → Numbers → Numbers → List Numbers
settlings_of Reset values before = []
settlings_of First values before = values ∷ []
settlings_of Later values before = values ∷ before ∷ []
settlings_of Still values before = values ∷ values ∷ []

-- what is known of values and of those before them, beside that
abbrev pub IsPast : List Cell → Past → Numbers → Numbers → Type 0
IsPast cells Reset values before = IsZeroSettling cells values
IsPast cells First values before = IsZeroSettling cells before
IsPast cells past values before = Unit {0}

-- a cycle has come
abbrev pub HasCome : Past → Type 0
HasCome Reset = ⊥
HasCome past = Unit {0}

-- what it is after a cycle, which left the values as they were or not
abbrev pub past_after : Past → Bool → Past
past_after past true = Still
past_after Reset false = First
past_after past false = Later

-- a cycle in which nothing is evaluated
abbrev pub is_rest : Course → Bool
is_rest Rest = true
is_rest Few = false
is_rest All = false

-- one in which few steps may be
abbrev pub is_few : Course → Bool
is_few Rest = false
is_few Few = true
is_few All = false

-- one in which all steps are
abbrev pub is_all : Course → Bool
is_all Rest = false
is_all Few = false
is_all All = true
