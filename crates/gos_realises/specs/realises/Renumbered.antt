-- Plans that are one but for the numbers of their parts, their weights and the order of their joints.
--
-- Read first: Realises. The parts are moved by a renumbering that can be undone; what stands for an import or for the
-- result stays.
use Rattle.std.specs.Prelude.{◌≡◌, ℕ, Option, Some, None, slice_get}
use Rattle.gos_model.specs.Terms.{Term}
use Rattle.gos_plan.specs.Plans.{End, PartEnd, ImportEnd, ResultEnd, Plan}
use Rattle.gos_plan.specs.Tokens.{places_of}
use Rattle.gos_realises.specs.realises.Regular.{IsRegular}
use Rattle.gos_realises.specs.realises.Matched.{RealisesInTurn}

-- an end, with its part's number moved
abbrev pub moved : (ℕ → ℕ) → End → End
moved f (PartEnd i h) = PartEnd (f i) h
moved f (ImportEnd i h) = ImportEnd i h
moved f (ResultEnd h) = ResultEnd h

abbrev pub moved_if : (ℕ → ℕ) → Option End → Option End
moved_if f None = None
moved_if f (Some e) = Some (moved f e)

-- Part i of r is part `forth i` of q, and the joints are the same. What is named by an end is so by that end moved.
pub record IsRenumbered (forth back : ℕ → ℕ) (r q : Plan) : Type 0 where
  pub returns : (i : ℕ) → back (forth i) ≡ i
  pub comes : (i : ℕ) → forth (back i) ≡ i
  pub parts : (i : ℕ) → slice_get q.parts (forth i) ≡ slice_get r.parts i
  pub imports : q.imports ≡ r.imports
  pub outcome : q.outcome ≡ r.outcome
  pub places : (e : End) → places_of q (moved forth e) ≡ moved_if forth (places_of r e)

-- A plan is regular, and realises a program of a ground outcome, where a renumbered one does.
abbrev pub RenumberingKeeps : Type 0
RenumberingKeeps =
    (forth back : ℕ → ℕ) (r q : Plan)
    → IsRenumbered forth back r q → (IsRegular q → IsRegular r) × ((m : Term) → RealisesInTurn q m → RealisesInTurn r m)
