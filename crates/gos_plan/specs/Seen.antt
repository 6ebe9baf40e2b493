-- How clauses see the plans of this crate's program: as those of Plans.
use Rattle.std.specs.Prelude.{ℕ, List, map}
use Rattle.gos_types.specs.declared.types.Ty.{Ty}
use Rattle.gos_types.specs.Types.{type_of}
use Rattle.gos_plan.specs.declared.kinds.Op2 as declared_operation
use Rattle.gos_plan.specs.declared.kinds.Op2.TheVariants as ops
use Rattle.gos_plan.specs.declared.kinds.Kind as declared_kind
use Rattle.gos_plan.specs.declared.kinds.Kind.TheVariants as kinds
use Rattle.gos_plan.specs.declared.plan.End as declared_end
use Rattle.gos_plan.specs.declared.plan.End.TheVariants as ends
use Rattle.gos_plan.specs.declared.plan.Joint as declared_joint
use Rattle.gos_plan.specs.declared.plan.PlanImport as declared_import
use Rattle.gos_plan.specs.Kinds.{Part, Skip, Lit, Seq, Par, If, While, Op, Not, Assign, Deref, Local, Array, Share}
use Rattle.gos_model.specs.Terms.{Op as Operation, Add, Sub, And, Or, Xor, Eq, Less}
use Rattle.gos_model.specs.Typing.{Imported}
use Rattle.gos_plan.specs.Plans.{End, PartEnd, ImportEnd, ResultEnd, Joint, Plan}

-- what an operator computes
abbrev pub operation_of : declared_operation.Op2 → Operation
operation_of ops.Add = Add
operation_of ops.Sub = Sub
operation_of ops.And = And
operation_of ops.Or = Or
operation_of ops.Xor = Xor
operation_of ops.Eq = Eq
operation_of ops.Less = Less

-- a part of this kind
abbrev pub part_of : declared_kind.Kind → Part
part_of kinds.Skip = Skip
part_of (kinds.Lit w k) = Lit w k
part_of kinds.Seq = Seq 0
part_of (kinds.SeqExp w) = Seq w
part_of kinds.Par = Par
part_of kinds.If = If 0
part_of (kinds.IfExp w) = If w
part_of kinds.While = While
part_of (kinds.Op op w) = Op (operation_of op) w
part_of (kinds.Not w) = Not w
part_of (kinds.Assign w) = Assign w
part_of (kinds.Deref w) = Deref w
part_of (kinds.Local w v) = Local w v
part_of (kinds.Array w n v) = Array w n v
part_of (kinds.Share t) = Share (type_of t)

-- an end of a joint
abbrev pub end_of : declared_end.End → End
end_of (ends.Part i h) = PartEnd i h
end_of (ends.Import i h) = ImportEnd i h
end_of (ends.Result h) = ResultEnd h

-- a joint
abbrev pub joint_of : declared_joint.Joint → Joint
joint_of j = record { asking = end_of j.asks; serving = end_of j.serves }

-- an import
abbrev pub import_of : declared_import.PlanImport → Imported
import_of i = record { name = i.name; ty = type_of i.ty }

-- a plan as its five values
pub record SeenPlan : Type 0 where
  pub weight : ℕ
  pub imports : List declared_import.PlanImport
  pub outcome : Ty
  pub parts : List declared_kind.Kind
  pub joints : List declared_joint.Joint

-- the plan of these values
abbrev pub plan_of : SeenPlan → Plan
plan_of p =
    record {
      weight = p.weight;
      imports = map import_of p.imports;
      outcome = type_of p.outcome;
      parts = map part_of p.parts;
      joints = map joint_of p.joints;
    }
