-- What a build is judged by before its weight: of each plan the imports and the type of the result.
--
-- Read first: Linked. Laws of these definitions: plans of one face have the same links and the same faults, whatever they weigh and
-- are made of.
use Rattle.std.specs.Prelude.{◌≡◌, List, map}
use Rattle.gos_types.specs.Types.{Type', type_of}
use Rattle.gos_model.specs.Typing.{Imported}
use Rattle.gos_plan.specs.Seen.{SeenPlan, import_of}
use Rattle.gos_link.specs.declared.build.Build.{Build}
use Rattle.gos_link.specs.declared.fault.LinkFault.{LinkFault}
use Rattle.gos_link.specs.Linked.{SeenLinks, AreLinks, IsOfLinks, IsUnlinked}

-- the imports of a plan, and the type of its result
pub record Face : Type 0 where
  pub imports : List Imported
  pub outcome : Type'

abbrev pub face_of : SeenPlan → Face
face_of p = record { imports = map import_of p.imports; outcome = type_of p.outcome }

abbrev pub faces_of : List SeenPlan → List Face
faces_of ps = map face_of ps

-- the same links and the same faults
abbrev pub LinksAreOfFaces : Type 0
LinksAreOfFaces =
    (b : Build) (ps qs : List SeenPlan) (links : SeenLinks) → faces_of ps ≡ faces_of qs → AreLinks b ps links → AreLinks b qs links

abbrev pub FaultsAreOfFaces : Type 0
FaultsAreOfFaces =
    (b : Build) (ps qs : List SeenPlan) (fault : LinkFault) → faces_of ps ≡ faces_of qs → IsOfLinks fault → IsUnlinked b ps fault → IsUnlinked b qs fault

-- A build has links or a fault of them, and not both; and its links are one.
abbrev pub LinksHaveNoFault : Type 0
LinksHaveNoFault =
    (b : Build) (ps : List SeenPlan) (links : SeenLinks) (fault : LinkFault) → AreLinks b ps links → IsOfLinks fault → IsUnlinked b ps fault → ⊥

abbrev pub LinksAreOne : Type 0
LinksAreOne = (b : Build) (ps : List SeenPlan) (links other : SeenLinks) → AreLinks b ps links → AreLinks b ps other → links ≡ other
