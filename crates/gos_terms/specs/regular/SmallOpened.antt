-- A use of a number, closed over it; and the plan of a call, which is steady.
--
-- Read first: Opened; SmallWired of wired; SmallCalls of gos_plan. They show that these definitions can be met and can be missed.
use Rattle.std.specs.Prelude.{◌≡◌, [], ◌∷◌}
use Rattle.gos_types.specs.Types.{Com, Fun}
use Rattle.gos_check.specs.Nodes.{Under, OfFun, type_of_node}
use Rattle.gos_plan.specs.SmallCalls.{call_plan}
use Rattle.gos_terms.specs.wired.SmallWired.{commands, one_use}
use Rattle.gos_terms.specs.regular.Opened.{closed, IsSteady}

abbrev pub UseIsClosed : Type 0
UseIsClosed = closed commands (0 ∷ []) one_use ≡ Under (Fun Com Com) [] OfFun 0 one_use

abbrev pub ClosedIsNoCommand : Type 0
ClosedIsNoCommand = type_of_node (closed commands (0 ∷ []) one_use) ≡ Com → ⊥

-- the plan of `import c : com; c`
abbrev pub CallIsSteady : Type 0
CallIsSteady = IsSteady Com call_plan

abbrev pub CallIsNoFunction : Type 0
CallIsNoFunction = IsSteady (Fun Com Com) call_plan → ⊥
