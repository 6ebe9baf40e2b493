-- Small gates and their paths: those of Skip, whose request goes on as its answer, and those of a Share of a command, whose
-- requests wait in a register for the next cycle.
--
-- Read first: Paths, SmallGates.
use Rattle.std.specs.Prelude.{ℕ, Bool, true, false, List, [], ◌∷◌}
use Rattle.gos_types.specs.Types.{Com}
use Rattle.gos_netlist.specs.Nets.{Cell, Const}
use Rattle.gos_plan.specs.Kinds.{Skip, If, Share}
use Rattle.gos_macro.specs.Gates.{Incoming}
use Rattle.gos_macro.specs.Cells.{bit}
use Rattle.gos_macro.specs.SmallGates.{skip_cells, skip_outs, shared_cells, shared_outs, answer_first_cells, answer_last_cells, passing_outs}
use Rattle.gos_macro.specs.Paths.{PutsPass, KeepPaths, TellsIfItPasses, is_pair}

-- the gates of Skip pass the request on
abbrev pub skip_passing : ℕ → ℕ → Bool
skip_passing = is_pair ((0, 0) ∷ [])

abbrev pub SkipPaths : Type 0
SkipPaths = KeepPaths Skip skip_cells skip_outs [] skip_passing

-- who says that they don't is wrong
abbrev pub SkipIsNoDeadEnd : Type 0
SkipIsNoDeadEnd = KeepPaths Skip skip_cells skip_outs [] (λ from to. false) → ⊥

-- its answer goes where the request leads, and it would be wrong to say so where no path leads
abbrev pub SkipPuts : Type 0
SkipPuts = PutsPass Skip [] skip_passing

abbrev pub SkipPutsSomething : Type 0
SkipPutsSomething = PutsPass Skip [] (λ from to. false) → ⊥

-- A choice asks for its test by its caller's request. So a path has to lead there, where this request isn't late.
abbrev pub held_passing : ℕ → ℕ → Bool
held_passing = is_pair ((0, 1) ∷ (0, 2) ∷ (1, 3) ∷ (2, 3) ∷ [])

abbrev pub ChoicePutsLate : Type 0
ChoicePutsLate = PutsPass (If 0) (3 ∷ []) held_passing

abbrev pub ChoicePutsEarly : Type 0
ChoicePutsEarly = PutsPass (If 0) [] held_passing → ⊥

-- a Share of a command passes the answer of its source on to its first caller
abbrev pub SharedAnswersPass : Type 0
SharedAnswersPass = TellsIfItPasses (Share Com) shared_cells shared_outs 0 1 true

-- and that caller's request waits
abbrev pub SharedRequestsWait : Type 0
SharedRequestsWait = TellsIfItPasses (Share Com) shared_cells shared_outs 1 0 false

-- so the answer can't be late
abbrev pub SharedAnswersAreNotLate : Type 0
SharedAnswersAreNotLate = (passing : ℕ → ℕ → Bool) → KeepPaths (Share Com) shared_cells shared_outs (0 ∷ []) passing → ⊥

-- Where a Share of a command passes on all that comes in within the cycle, requests lead to answers only if they come before
-- the answer: an order that puts the answer last makes a path from each caller's request back to it.
abbrev pub answer_first_passing : ℕ → ℕ → Bool
answer_first_passing = is_pair ((1, 0) ∷ (2, 0) ∷ (0, 1) ∷ (0, 2) ∷ [])

abbrev pub AnswerFirstPaths : Type 0
AnswerFirstPaths = KeepPaths (Share Com) answer_first_cells passing_outs [] answer_first_passing

abbrev pub answer_last_passing : ℕ → ℕ → Bool
answer_last_passing = is_pair ((1, 0) ∷ (2, 0) ∷ (0, 1) ∷ (0, 2) ∷ (1, 1) ∷ (1, 2) ∷ (2, 1) ∷ (2, 2) ∷ [])

abbrev pub AnswerLastPaths : Type 0
AnswerLastPaths = KeepPaths (Share Com) answer_last_cells passing_outs [] answer_last_passing

-- A cell that shows the number of the net that comes in. So it doesn't know this net by name alone.
abbrev pub counting_cells : ℕ → Incoming → List Cell
counting_cells b i = bit (Const (i.pulse 0)) ∷ []

abbrev pub CountingIsNotNamed : Type 0
CountingIsNotNamed = (passing : ℕ → ℕ → Bool) → KeepPaths Skip counting_cells skip_outs [] passing → ⊥
