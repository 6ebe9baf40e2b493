-- The kinds that this crate lays out.
use Rattle.gos_plan.specs.declared.kinds.Kind.{Kind}
use Rattle.gos_plan.specs.declared.kinds.Kind.TheVariants as kinds
use Rattle.gos_plan.specs.Ranges.{IsInRange}

-- the kinds that pass control on
abbrev pub PassesControl : Kind → Type 0
PassesControl kinds.Skip = Unit {0}
PassesControl kinds.Seq = Unit {0}
PassesControl (kinds.SeqExp w) = Unit {0}
PassesControl kinds.Par = Unit {0}
PassesControl kinds.If = Unit {0}
PassesControl (kinds.IfExp w) = Unit {0}
PassesControl kinds.While = Unit {0}
PassesControl k = ⊥

-- such a kind, with widths in range
abbrev pub IsControl : Kind → Type 0
IsControl k = PassesControl k × IsInRange k
