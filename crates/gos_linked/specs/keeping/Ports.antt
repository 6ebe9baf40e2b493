-- The ports of a plan: one that gives its result, and one that takes each import.
--
-- Read first: Plans of gos_plan; Nets of gos_netlist.
use Rattle.std.specs.Prelude.{◌≡◌, List, [], ◌∷◌}
use Rattle.gos_netlist.specs.Nets.{Give, Take, NetPort}
use Rattle.gos_model.specs.Typing.{Imported}
use Rattle.gos_plan.specs.Plans.{Plan}

-- the ports take the imports, in their order
abbrev pub AreTaken : List Imported → List NetPort → Type 0
AreTaken [] [] = Unit {0}
AreTaken [] (q ∷ qs) = ⊥
AreTaken (i ∷ is) [] = ⊥
AreTaken (i ∷ is) (q ∷ qs) = (q.side ≡ Take) × (q.name ≡ i.name) × (q.ty ≡ i.ty) × AreTaken is qs

-- the first port gives the result, and the others take the imports
abbrev pub HasPorts : Plan → List NetPort → Type 0
HasPorts p [] = ⊥
HasPorts p (q ∷ qs) = (q.side ≡ Give) × (q.ty ≡ p.outcome) × AreTaken p.imports qs
