-- The imports of a plan while they are copied. Between the functions of this crate.
use Rattle.std.specs.Prelude.{List, [], ◌∷◌}
use Rattle.gos_lex.specs.Names.{IsNameOrWord}
use Rattle.gos_plan.specs.declared.plan.PlanImport.{PlanImport}

-- each has a name
abbrev pub HaveNames : List PlanImport → Type 0
HaveNames [] = Unit {0}
HaveNames (i ∷ is) = IsNameOrWord i.name × HaveNames is
