-- A use of a number, closed over it; and the plan of a call, which is steady.
use Rattle.std.specs.Prelude.{◌≡◌}
use Rattle.std.proofs.Common.{refl}
use Rattle.gos_types.specs.Types.{Com, Fun}
use Rattle.gos_plan.specs.SmallCalls.{call_plan}
use Rattle.gos_supplies.specs.turns.Names.{NameIsRegular}
use Rattle.gos_supplies.specs.turns.SmallTurned.{called, CallIsName}
use Rattle.gos_terms.specs.regular.SmallOpened.{UseIsClosed, ClosedIsNoCommand, CallIsSteady, CallIsNoFunction}

pub use_is_closed : UseIsClosed
use_is_closed = refl

no_command : Fun Com Com ≡ Com → ⊥
no_command e = cc e

pub closed_is_no_command : ClosedIsNoCommand
closed_is_no_command = no_command

pub call_is_steady : NameIsRegular → CallIsName → CallIsSteady
call_is_steady law is = record { right = is.right; outcome = is.outcome; regular = law called call_plan is }

no_function : Com ≡ Fun Com Com → ⊥
no_function e = cc e

pub call_is_no_function : CallIsNoFunction
call_is_no_function is = no_function is.outcome
