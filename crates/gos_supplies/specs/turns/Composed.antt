-- Joinings of regular plans are regular.
--
-- Read first: Regular, Wirings and Modules of gos_realises; Served of instances. The literals of the plans have at most their
-- bits: what goes from plan to plan is an input of one, and an input has at most the bits of its handshake.
use Rattle.std.specs.Prelude.{◌≡◌, ◌↔◌, ℕ, List, Some, All, slice_get}
use Rattle.gos_types.specs.Types.{Type', Pair, Fun}
use Rattle.gos_model.specs.Typing.{Imported}
use Rattle.gos_plan.specs.Plans.{Plan}
use Rattle.gos_plan.specs.TokenBits.{LiteralFits}
use Rattle.gos_realises.specs.realises.Regular.{count, IsRegular}
use Rattle.gos_realises.specs.realises.Links.{IsJoined}
use Rattle.gos_realises.specs.realises.Wirings.{side, applying}
use Rattle.gos_realises.specs.realises.Modules.{Supply, AreSupplied, supplying}
use Rattle.gos_supplies.specs.applications.Opened.{IsFunctionOf}
use Rattle.gos_supplies.specs.instances.Served.{serving}

-- a plan of a function and one of its argument, at every type, with imports of any types
abbrev pub ApplyingIsRegular : Type 0
ApplyingIsRegular =
    (a b : Type') (p q r : Plan)
    → p.outcome ≡ Fun a b → q.outcome ≡ a → All LiteralFits p.parts → All LiteralFits q.parts → IsRegular p → IsRegular q
    → IsJoined (applying a b p q) r → IsRegular r

-- a plan with one that serves an import of it
abbrev pub ServingIsRegular : Type 0
ServingIsRegular =
    (k : ℕ) (x : Imported) (p q r : Plan)
    → slice_get p.imports k ≡ Some x → q.outcome ≡ x.ty → All LiteralFits p.parts → All LiteralFits q.parts → IsRegular p → IsRegular q
    → IsJoined (serving k x.ty p q) r → IsRegular r

-- a plan with supplies for all its imports
abbrev pub SuppliedIsRegular : Type 0
SuppliedIsRegular =
    (p r : Plan) (ss : List Supply)
    → AreSupplied p.imports ss → All LiteralFits p.parts → IsRegular p → IsJoined (supplying p ss) r → IsRegular r

-- each side of a product
abbrev pub SidesAreRegular : Type 0
SidesAreRegular =
    (a b : Type') (p : Plan)
    → p.outcome ≡ Pair a b → All LiteralFits p.parts → IsRegular p
    → ((r : Plan) → IsJoined (side 0 a p) r → IsRegular r) × ((r : Plan) → IsJoined (side (count a) b p) r → IsRegular r)

-- the plan of a function, where that of its body is: they have one whole type
abbrev pub FunctionIsRegular : Type 0
FunctionIsRegular = (x : Imported) (p q : Plan) → IsFunctionOf x p q → IsRegular q ↔ IsRegular p
