use Rattle.std.proofs.Common.{◌≡◌, ◌<◌, ℕ, Some, length, slice_get}
use Rattle.gos_macro.specs.declared.gates.Wire.{Wire}
use Rattle.gos_plan.specs.Plans.{PartEnd}
use Rattle.gos_plan.specs.Seen.{plan_of}
use Rattle.gos_expand.specs.Laid.{arrives}
use Rattle.gos_expand.specs.inner.Numbering.{laying_in}
use Rattle.gos_expand.proofs.placing.wire_part.Given as goal

-- the wires so far have the nets that come in
abbrev pub invariant-loop-shake : goal.invariant-loop-shake
invariant-loop-shake l =
    (length l.wires ≡ length l.initial.wires)
    × ((h : ℕ) (w : Wire) → h < l.shake → slice_get l.wires h ≡ Some w
    → (w.in_pulse.0 ≡ (arrives (laying_in l.numbering) (plan_of l.plan) (PartEnd l.part h)).pulse) × (w.in_value.0 ≡ (arrives (laying_in l.numbering) (plan_of l.plan) (PartEnd l.part h)).number))
