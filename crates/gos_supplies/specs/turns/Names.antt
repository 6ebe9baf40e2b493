-- The plan of a name, at every type: its one import is joined to its result, handshake by handshake.
--
-- Read first: Regular of gos_realises. Where the holder of the import serves the result asks it, and where it asks the import
-- asks the result.
use Rattle.std.specs.Prelude.{◌≡◌, ℕ, [], ◌∷◌, Some, Contains, slice_get}
use Rattle.gos_types.specs.declared.shakes.Role.TheVariants.{Serve, Ask}
use Rattle.gos_model.specs.Typing.{Imported}
use Rattle.gos_plan.specs.Kinds.{Contact, contacts_of}
use Rattle.gos_plan.specs.Plans.{ImportEnd, ResultEnd, Plan, IsRight}
use Rattle.gos_realises.specs.realises.Regular.{IsRegular}
use Rattle.gos_joining.specs.webs.Webs.{joint}

pub record IsNamePlan (x : Imported) (p : Plan) : Type 0 where
  pub right : IsRight p
  pub imports : p.imports ≡ x ∷ []
  pub outcome : p.outcome ≡ x.ty
  pub parts : p.parts ≡ []
  pub serving :
      (h : ℕ) (c : Contact) → slice_get (contacts_of x.ty) h ≡ Some c → c.role ≡ Serve → Contains p.joints (joint (ResultEnd h) (ImportEnd 0 h))
  pub asking :
      (h : ℕ) (c : Contact) → slice_get (contacts_of x.ty) h ≡ Some c → c.role ≡ Ask → Contains p.joints (joint (ImportEnd 0 h) (ResultEnd h))

-- it is regular
abbrev pub NameIsRegular : Type 0
NameIsRegular = (x : Imported) (p : Plan) → IsNamePlan x p → IsRegular p

-- and there is one
abbrev pub NamePlanIsThere : Type 0
NamePlanIsThere = (x : Imported) → (p : Plan) × IsNamePlan x p
