-- How the plan of an access of an array is made of that of an access of a variable and that of the index.
--
-- Read first: Accesses; Cutting of gos_joining. The array stands in the place of the variable: its read and its write are those of
-- the variable, and the index is what it asks for.
use Rattle.std.specs.Prelude.{◌≡◌, ◌⊎◌, ℕ, suc, ◌∷◌, [], Contains, Some, None, slice_get}
use Rattle.gos_types.specs.Types.{Com, Exp, Var, Fun}
use Rattle.gos_model.specs.Terms.{Name}
use Rattle.gos_plan.specs.Kinds as kinds
use Rattle.gos_plan.specs.Kinds.{Part}
use Rattle.gos_plan.specs.Plans.{End, PartEnd, ImportEnd, ResultEnd, Plan}
use Rattle.gos_joining.specs.webs.Webs.{joint}
use Rattle.gos_joining.specs.webs.Cutting.{Cut, lies_at, IsCut}
use Rattle.gos_supplies.specs.names.Names.{imported}
use Rattle.gos_supplies.specs.arrays.Accesses.{Access, Read, Write}

-- the plan of an access of a variable: a Deref, or an Assign and the number that is written
abbrev pub access_plan : Access → Name → ℕ → Plan
access_plan Read x w =
    record {
      weight = 0;
      imports = imported x (Var w) ∷ [];
      outcome = Exp w;
      parts = kinds.Deref w ∷ [];
      joints = joint (ResultEnd 0) (PartEnd 0 1) ∷ joint (PartEnd 0 0) (ImportEnd 0 0) ∷ [];
    }
access_plan (Write k) x w =
    record {
      weight = 0;
      imports = imported x (Var w) ∷ [];
      outcome = Com;
      parts = kinds.Assign w ∷ kinds.Lit w k ∷ [];
      joints = joint (ResultEnd 0) (PartEnd 0 2) ∷ joint (PartEnd 0 0) (PartEnd 1 0) ∷ joint (PartEnd 0 1) (ImportEnd 0 1) ∷ [];
    }

-- the joint is one of the region's
abbrev pub IsJointOf : Cut → Plan → End → End → Type 0
IsJointOf f p a b = (d : End) × (e : End) × Contains p.joints (joint d e) × (lies_at f d ≡ a) × (lies_at f e ≡ b)

-- Region f of r has the plan p, which accesses its one import, a variable x of w bits, and region g the plan q of a number of i bits.
-- In r the variable is an array, which asks the result of q, and all other imports are those of q. r has no other part or joint.
pub record IsAccess (i w : ℕ) (x : Name) (f g : Cut) (r p q : Plan) : Type 0 where
  pub own : IsCut f r p
  pub index : IsCut g r q
  pub variable : p.imports ≡ imported x (Var w) ∷ []
  pub imports : r.imports ≡ imported x (Fun (Exp i) (Var w)) ∷ q.imports
  pub outcome : r.outcome ≡ p.outcome
  pub number : q.outcome ≡ Exp i
  pub accesses : (j h : ℕ) → f.outer (ImportEnd j h) ≡ ImportEnd j (suc h)
  pub result : (h : ℕ) → f.outer (ResultEnd h) ≡ ResultEnd h
  pub others : (j h : ℕ) → g.outer (ImportEnd j h) ≡ ImportEnd (suc j) h
  pub asked : (h : ℕ) → g.outer (ResultEnd h) ≡ ImportEnd 0 h
  pub parts :
      (k : ℕ) (z : Part) → slice_get r.parts k ≡ Some z
      → ((j : ℕ) × (f.number k ≡ Some j) × (g.number k ≡ None)) ⊎ ((j : ℕ) × (g.number k ≡ Some j) × (f.number k ≡ None))
  pub joints : (a b : End) → Contains r.joints (joint a b) → IsJointOf f p a b ⊎ IsJointOf g q a b
