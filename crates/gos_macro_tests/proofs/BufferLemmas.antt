-- The gates of Skip, of which the one handshake passes on to itself.
use Rattle.std.proofs.Common.{◌≡◌, ◌<◌, ℕ, zero, suc, Bool, true, subst, refl, arith}
use Rattle.gos_plan.specs.Kinds.{Skip}
use Rattle.gos_macro.specs.SmallGates.{skip_cells, skip_outs}
use Rattle.gos_macro.specs.SmallPaths.{skip_passing}
use Rattle.gos_macro.specs.Paths.{TellsIfItPasses}
use Rattle.gos_macro.specs.laws.SkipPaths.{skip_passes}

always : (from to : ℕ) → from < 1 → to < 1 → skip_passing from to ≡ true
always zero zero low near = refl
always zero (suc to) low near = absurd (omega (arith, near))
always (suc from) to low near = absurd (omega (arith, low))

pub buffer_passes : (from to : ℕ) → from < 1 → to < 1 → TellsIfItPasses Skip skip_cells skip_outs from to true
buffer_passes from to low near =
    subst (λ (b : Bool). TellsIfItPasses Skip skip_cells skip_outs from to b) (always from to low near) (skip_passes from to low near)
