-- A number that has a supply, and one beside it.
--
-- Read first: Bodies. They show what the definition says of each.
use Rattle.std.specs.Prelude.{◌≡◌}
use Rattle.gos_realises.specs.realises.Modules.{Supply}
use Rattle.gos_terms.specs.wired.Wired.{Supplies}
use Rattle.gos_terms.specs.function_forms.Bodies.{with_supply}

abbrev pub NumberIsSupplied : Type 0
NumberIsSupplied = (s : Supply) (env : Supplies) → with_supply 0 s env 0 ≡ s

abbrev pub OtherIsNotSupplied : Type 0
OtherIsNotSupplied = (s : Supply) (env : Supplies) → with_supply 0 s env 1 ≡ env 1
