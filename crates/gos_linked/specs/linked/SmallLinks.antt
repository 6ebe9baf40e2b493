-- Small links: `import f : com -> com; f skip`, alone and with `fun a : com . a` as its giver.
--
-- Read first: Linked; SmallRealisers of gos_realises. They show that the definitions can be met and can be missed.
use Rattle.std.specs.Prelude.{◌≡◌, [], ◌∷◌, codes}
use Rattle.gos_types.specs.Types.{Com, Fun}
use Rattle.gos_model.specs.Terms.{Term, Skip, Bound, Import, Lam, App}
use Rattle.gos_model.specs.Typing.{Imported}
use Rattle.gos_model.specs.Moves.{Program}
use Rattle.gos_model.specs.Linking.{substituted}
use Rattle.gos_plan.specs.SmallPlans.{skip_plan, same_plan}
use Rattle.gos_realises.specs.realises.SmallRealisers.{use_plan}
use Rattle.gos_link.specs.declared.services.Service.{Service}
use Rattle.gos_linked.specs.linked.Linked.{binds_of, IsRealised, IsTypedAs}

abbrev pub use_term : Term
use_term = App (Import (codes "f")) Skip

abbrev pub same_term : Term
same_term = Lam Com (Bound 0)

abbrev pub f : Imported
f = record { name = codes "f"; ty = Fun Com Com }

abbrev pub use_program : Program
use_program = record { imports = f ∷ []; body = use_term }

abbrev pub same_program : Program
same_program = record { imports = []; body = same_term }

-- the second instance serves import 0 of the first
abbrev pub first_served : Service
first_served = record { line = 3; user = 0; import = 0; giver = 1 }

-- it is bound by its name, and the giver's term stands where that name stood; no import stays
abbrev pub ServedIsSubstituted : Type 0
ServedIsSubstituted =
    substituted (use_program ∷ same_program ∷ []) (binds_of (use_plan ∷ same_plan ∷ []) (first_served ∷ [])) 0
    ≡ record { imports = []; body = App same_term Skip }

-- without a service the program stays
abbrev pub UnservedStays : Type 0
UnservedStays = substituted (use_program ∷ []) (binds_of (use_plan ∷ []) []) 0 ≡ use_program

-- the plan of the user realises its program, and that of `skip` doesn't
abbrev pub UseIsRealised : Type 0
UseIsRealised = IsRealised use_plan use_program

abbrev pub SkipRealisesNoUse : Type 0
SkipRealisesNoUse = IsRealised skip_plan use_program → ⊥

-- The program of the user is typed as its plan, and not as that of `skip`, which has no import.
abbrev pub UseIsTyped : Type 0
UseIsTyped = IsTypedAs use_plan use_program

abbrev pub SkipTypesNoUse : Type 0
SkipTypesNoUse = IsTypedAs skip_plan use_program → ⊥
