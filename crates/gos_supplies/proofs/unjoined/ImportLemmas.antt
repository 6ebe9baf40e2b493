-- The imports of the plan are among those of the whole, and so are their names.
use Rattle.std.specs.Prelude.{List, [], ◌∷◌, ◌++◌, Some, Contains}
use Rattle.std.proofs.Common.{◌∙◌, ap}
use Rattle.gos_model.specs.Typing.{Imported, Imports}
use Rattle.gos_realises.specs.realises.Realises.{AllPorts, NamesDiffer}
use Rattle.gos_programs.specs.contexts.Widening.{AreAmong}
pub use Rattle.gos_programs.proofs.contexts.WideningLemmas.{typed_more}
use Rattle.gos_joining.proofs.renumbered.ImportLemmas.{has_type, type_has}

-- all of these are among those
abbrev pub AllAmong : Imports → Imports → Type 0
AllAmong is js = (i : Imported) → Contains is i → Contains js i

pub among : (is js : Imports) → NamesDiffer js → AllAmong is js → AreAmong is js
among is js differ all x t e =
    let (i, has, named, typed) = has_type is x t e in type_has js differ x i (all i has) named ∙ ap Some typed

-- imports one after another
pub ports_both : (is js : List Imported) → AllPorts is → AllPorts js → AllPorts (is ++ js)
ports_both [] js one other = other
ports_both (i ∷ is) js one other = (one.0, ports_both is js one.1 other)
