-- Small programs that begin, and others that can only wait.
--
-- Read first: Progress; SmallPrograms of gos_model.
use Rattle.std.specs.Prelude.{[], ◌∷◌}
use Rattle.gos_types.specs.Types.{Com, Fun}
use Rattle.gos_model.specs.Terms.{Skip, Import, App, Seq, Wait}
use Rattle.gos_model.specs.Typing.{Typed}
use Rattle.gos_model.specs.SmallPrograms.{c}
use Rattle.gos_supplies.specs.progress.Progress.{HasNoWait}
use Rattle.gos_model.specs.Moves.{Program, Running, Stalled}

-- `skip`
abbrev pub nothing_to_do : Program
nothing_to_do = record { imports = []; body = Skip }

-- it begins
abbrev pub SkipBegins : Type 0
SkipBegins = Stalled nothing_to_do (Running Skip []) → ⊥

-- `c`, with `import c : com`
abbrev pub one_run : Program
one_run = record { imports = record { name = c; ty = Com } ∷ []; body = Import c }

-- a wait for the answer of c is stalled
abbrev pub WaitIsStalled : Type 0
WaitIsStalled = Stalled one_run (Running (Wait c 1) [])

-- `c skip`, with `import c : com -> com`
abbrev pub applied_import : Program
applied_import = record { imports = record { name = c; ty = Fun Com Com } ∷ []; body = App (Import c) Skip }

-- It is a command, and is stalled when it begins: so not every import may be a function.
abbrev pub FunctionImportWaits : Type 0
FunctionImportWaits = Typed applied_import.imports [] applied_import.body Com × Stalled applied_import (Running applied_import.body [])

-- `c ; c` waits for none as it begins, and waits where c was asked
abbrev pub WaitsAreSeen : Type 0
WaitsAreSeen = HasNoWait (Seq (Import c) (Import c)) × (HasNoWait (Seq (Wait c 1) (Import c)) → ⊥)
