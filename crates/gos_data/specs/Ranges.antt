-- The kinds that this crate lays out, in range.
use Rattle.gos_plan.specs.declared.kinds.Kind.{Kind}
use Rattle.gos_plan.specs.declared.kinds.Kind.TheVariants as kinds
use Rattle.gos_plan.specs.Ranges.{IsInRange}

-- a literal, an operator, a complement, an assignment, a read, a local variable or an array, with widths, literals and lengths in range
abbrev pub IsArith : Kind → Type 0
IsArith (kinds.Lit w k) = IsInRange (kinds.Lit w k)
IsArith (kinds.Op op w) = IsInRange (kinds.Op op w)
IsArith (kinds.Not w) = IsInRange (kinds.Not w)
IsArith (kinds.Assign w) = IsInRange (kinds.Assign w)
IsArith (kinds.Deref w) = IsInRange (kinds.Deref w)
IsArith (kinds.Local w v) = IsInRange (kinds.Local w v)
IsArith (kinds.Array w n v) = IsInRange (kinds.Array w n v)
IsArith k = ⊥
