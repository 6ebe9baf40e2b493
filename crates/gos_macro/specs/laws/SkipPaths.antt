-- The gates of Skip keep what is asked of paths. The lemma stands here since an `impl` of `Macro` cites lemmas of `specs`
-- alone.
use Rattle.std.proofs.Common.{inl, ℕ, zero, suc, ◌+◌, ◌<◌, [], ◌∷◌, refl, sym, ap, arith}
use Rattle.std.specs.List.{AllByRecursion}
use Rattle.gos_plan.specs.Kinds.{Skip}
use Rattle.gos_plan.specs.Firing.{Phase, Rest, rows}
use Rattle.gos_macro.specs.Gates.{Incoming}
use Rattle.gos_macro.specs.SmallGates.{skip_cells, skip_outs}
use Rattle.gos_macro.specs.Cells.{buffer}
use Rattle.gos_macro.specs.Paths.{Drives, TellsIfItPasses, PulseLeadsOn}
use Rattle.gos_macro.specs.SmallPaths.{skip_passing, SkipPaths, SkipPuts}
use Rattle.gos_macro.specs.laws.Putting.{RowPasses, puts_pass}

-- the path from the request to the answer
pub skip_path : (b : ℕ) (i : Incoming) → Drives b (skip_cells b i) (i.pulse 0) (b + 0)
skip_path b i = (0, buffer (i.pulse 0), refl, refl, (λ r. cc r.1), (0, omega arith, refl))

-- it is one where all nets that come in are different
pub skip_passes : (from to : ℕ) → from < 1 → to < 1 → TellsIfItPasses Skip skip_cells skip_outs from to (skip_passing from to)
skip_passes zero zero small near = λ b i apart. ((λ yes. (i.pulse 0, b + 0, [], inl refl, refl, skip_path b i)), (λ leads. refl))
skip_passes zero (suc to) small near = absurd (omega (arith, near))
skip_passes (suc from) to small near = absurd (omega (arith, small))

-- the answer goes where the request leads
skip_rows : (p : Phase) (n : ℕ) → AllByRecursion (RowPasses [] skip_passing) (rows Skip p n)
skip_rows Rest n = ((λ early x. (refl, tt)), tt)
skip_rows p n = tt

pub skip_puts : SkipPuts
skip_puts = puts_pass Skip [] skip_passing skip_rows

pub skip_paths : SkipPaths
skip_paths =
    record {
      exact = skip_passes;
      pulses = λ b i from to apart small near yes. at_ends b i from to small near;
      waits = λ from to small near late. cc late;
      puts = skip_puts;
      named = λ f b d i j r. ap (λ n. buffer n ∷ []) (sym (r.pulse 0 (omega arith)));
    }
  where
    at_ends : (b : ℕ) (i : Incoming) (from to : ℕ) → from < 1 → to < 1 → PulseLeadsOn b i (skip_cells b i) (skip_outs b) from to
    at_ends b i zero zero h g = (b + 0, [], refl, skip_path b i)
    at_ends b i zero (suc t) h g = absurd (omega (arith, g))
    at_ends b i (suc f) to h g = absurd (omega (arith, h))
