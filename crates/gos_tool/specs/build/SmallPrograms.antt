-- What a service binds, on a small program: `c ; d`, whose second import is `d`.
--
-- Read first: Programs; SmallPrograms of gos_model. They show that the definition can be met and can be missed.
use Rattle.std.specs.Prelude.{◌≡◌, [], ◌∷◌}
use Rattle.gos_model.specs.SmallPrograms.{c, d, one_then_other}
use Rattle.gos_link.specs.declared.services.Service.{Service}
use Rattle.gos_tool.specs.build.Programs.{bind_in}

-- instance 1 serves import 1 of instance 0
abbrev pub second_served : Service
second_served = record { line = 3; user = 0; import = 1; giver = 1 }

abbrev pub SecondIsBound : Type 0
SecondIsBound = bind_in (one_then_other ∷ []) second_served ≡ record { user = 0; import = d; giver = 1 }

abbrev pub FirstIsNot : Type 0
FirstIsNot = bind_in (one_then_other ∷ []) second_served ≡ record { user = 0; import = c; giver = 1 } → ⊥
