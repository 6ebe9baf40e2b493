-- Small terms under fewer imports, and with supplies.
--
-- Read first: Supplied; SmallPrograms of gos_model. They show that the definitions can be met and can be missed.
use Rattle.std.specs.Prelude.{[], ◌∷◌, Option, Some, if◌then◌else◌}
use Rattle.std.specs.Str.{bytes_eq}
use Rattle.gos_types.specs.Types.{Com}
use Rattle.gos_model.specs.Terms.{Name, Term, Import}
use Rattle.gos_model.specs.Typing.{Imports, Typed}
use Rattle.gos_model.specs.Linking.{supplied}
use Rattle.gos_model.specs.SmallPrograms.{c, d, two_commands, one_then_other, both_at_once}
use Rattle.gos_supplies.specs.typing.Names.{AgreeOn}
use Rattle.gos_supplies.specs.typing.Supplied.{AreTyped, ShareNothing}

abbrev pub one_command : Imports
one_command = record { name = c; ty = Com } ∷ []

-- for `c` the import d is nothing
abbrev pub OneIsEnough : Type 0
OneIsEnough = AgreeOn (Import c) two_commands one_command

-- for `c ; d` it isn't
abbrev pub OneIsTooFew : Type 0
OneIsTooFew = AgreeOn one_then_other.body two_commands one_command → ⊥

-- d for c, and c for d
abbrev pub changed : Name → Option Term
changed x = if bytes_eq x c then Some (Import d) else Some (Import c)

-- these are supplies that share nothing
abbrev pub ChangedAreTyped : Type 0
ChangedAreTyped = AreTyped two_commands two_commands changed

abbrev pub ChangedShareNothing : Type 0
ChangedShareNothing = ShareNothing two_commands changed

-- c for both
abbrev pub all_one : Name → Option Term
all_one x = Some (Import c)

-- Their types are right too, but they are shared: `c || d` with these has no type.
abbrev pub SharedAreTyped : Type 0
SharedAreTyped = AreTyped two_commands one_command all_one

abbrev pub SharedAreShared : Type 0
SharedAreShared = ShareNothing two_commands all_one → ⊥

abbrev pub SharedHasNoType : Type 0
SharedHasNoType = Typed one_command [] (supplied all_one both_at_once.body) Com → ⊥
