-- Causality on small gates: those of Skip, whose request goes on as its answer.
--
-- Read first: Causal; SmallGates and SmallPaths.
use Rattle.std.specs.Prelude.{[], ◌∷◌, false}
use Rattle.gos_netlist.specs.Settling.{Numbers}
use Rattle.gos_plan.specs.Kinds.{Skip}
use Rattle.gos_plan.specs.Firing.{Rest, Ans, at, put}
use Rattle.gos_macro.specs.Gates.{Incoming, ShowOneAt, nothing_pending}
use Rattle.gos_macro.specs.SmallGates.{skip_cells, skip_outs, skip_stands}
use Rattle.gos_macro.specs.SmallPaths.{skip_passing}
use Rattle.gos_macro.specs.Law.{Order}
use Rattle.gos_macro.specs.causal.Causal.{Set, PartlyFired, all, CausalUnder, AreCausal}

-- all nets that come in are net 1
abbrev pub joined : Incoming
joined = record { pulse = λ h. 1; value = λ h. 1 }

-- the numbers of a cycle with a request: net 0 is the answer, and net 1 the request
abbrev pub asked_once : Numbers
asked_once = 1 ∷ 1 ∷ []

-- no handshake
abbrev pub none : Set
none h = false

-- Skip fires by its request, and puts an answer
abbrev pub SkipFiresPartly : Type 0
SkipFiresPartly = PartlyFired Skip [] (λ h. 0) asked_once joined all (at Rest 0) (at Rest 0) (put (Ans 0) 0 ∷ [])

-- and by no pulse, and then puts nothing
abbrev pub SkipFiresByNone : Type 0
SkipFiresByNone = PartlyFired Skip [] (λ h. 0) asked_once joined none (at Rest 0) (at Rest 0) []

-- its gates are causal in each order
abbrev pub SkipIsCausal : Type 0
SkipIsCausal = (rank : Order) → AreCausal Skip skip_cells skip_outs [] nothing_pending skip_stands rank skip_passing

-- they show the answer, and it would be wrong to say that they show none
abbrev pub SkipShowsItsAnswer : Type 0
SkipShowsItsAnswer = ShowOneAt asked_once (skip_outs 0) (put (Ans 0) 0 ∷ []) 0 × (ShowOneAt asked_once (skip_outs 0) [] 0 → ⊥)

-- where two answers are due, nothing is said
abbrev pub TwoAreNotShown : Type 0
TwoAreNotShown = (v : Numbers) → ShowOneAt v (skip_outs 0) (put (Ans 0) 0 ∷ put (Ans 0) 0 ∷ []) 0

-- So the law needs its demand: without one, the gates of Skip would show nothing at their handshake.
abbrev pub DemandIsNeeded : Type 0
DemandIsNeeded = CausalUnder (λ k passing inside to. Unit {0}) → ⊥
