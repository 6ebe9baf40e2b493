-- The ranges that every plan keeps: widths, literals, lengths of arrays, and how many handshakes a type has.
use Rattle.std.specs.Prelude.{ℕ, ◌≤◌, ◌<◌, ◌^◌, List, All, length}
use Rattle.gos_types.specs.declared.widths.TheConstants.{GREATEST_WIDTH}
use Rattle.gos_types.specs.declared.types.Ty.{Ty}
use Rattle.gos_types.specs.Types.{type_of}
use Rattle.gos_types.specs.Widths.{IsWidth, HasWidths}
use Rattle.gos_types.specs.Handshakes.{handshakes_of}
use Rattle.gos_model.specs.Typing.{IsLength}
use Rattle.gos_plan.specs.declared.kinds.Kind.{Kind}
use Rattle.gos_plan.specs.declared.kinds.Kind.TheVariants as kinds
use Rattle.gos_plan.specs.declared.plan.PlanImport.{PlanImport}

-- a type has widths, and at most 64 handshakes
abbrev pub IsSmall : Ty → Type 0
IsSmall t = HasWidths (type_of t) × (length (handshakes_of (type_of t)) ≤ 64)

-- The widths of a kind are 1 to the greatest, but that of a command's body is 0. A literal has at most its bits, an array 2, 4, 8
-- or 16 numbers, and a type is small.
abbrev pub IsInRange : Kind → Type 0
IsInRange kinds.Skip = Unit {0}
IsInRange (kinds.Lit w k) = IsWidth w × (k < 2 ^ w)
IsInRange kinds.Seq = Unit {0}
IsInRange (kinds.SeqExp w) = IsWidth w
IsInRange kinds.Par = Unit {0}
IsInRange kinds.If = Unit {0}
IsInRange (kinds.IfExp w) = IsWidth w
IsInRange kinds.While = Unit {0}
IsInRange (kinds.Op op w) = IsWidth w
IsInRange (kinds.Not w) = IsWidth w
IsInRange (kinds.Assign w) = IsWidth w
IsInRange (kinds.Deref w) = IsWidth w
IsInRange (kinds.Local w v) = IsWidth w × (v ≤ GREATEST_WIDTH)
IsInRange (kinds.Array w n v) = IsWidth w × IsLength n × (v ≤ GREATEST_WIDTH)
IsInRange (kinds.Share t) = IsSmall t

-- the number that a Share holds is a branch, 0 or 1 in each plan that runs; one of at most 32 bits is taken. Other kinds take all.
abbrev pub HasBranch : Kind → ℕ → Type 0
HasBranch (kinds.Share t) n = n < 2 ^ 32
HasBranch kind n = Unit {0}

-- the parts, imports and result of a plan are in range
pub record AreInRange (imports : List PlanImport) (outcome : Ty) (parts : List Kind) : Type 0 where
  pub of_imports : All (λ i. IsSmall i.ty) imports
  pub of_result : IsSmall outcome
  pub of_parts : All IsInRange parts
