use Rattle.std.proofs.Common.{◌<◌, ℕ, get_or}
use Rattle.gos_verilog.specs.declared.cell_line.Kind.TheVariants as kinds
use Rattle.gos_verilog.specs.inner.Noted.{IsNoLine}
use Rattle.gos_verilog.specs.inner.Breaks.{AllMiss}
use Rattle.gos_verilog.proofs.LeftDriverLemmas.{KindAt}
use Rattle.gos_verilog.proofs.driven.any_line.Given as goal

-- no line of the kinds so far stands
abbrev pub invariant-loop-kind : goal.invariant-loop-kind
invariant-loop-kind l =
    record {
      none : (k : ℕ) → k < l.kind-index → IsNoLine (get_or l.kind-items k kinds.Const) l.i l.width l.rest;
      far : AllMiss (KindAt l.kind-items l.i l.width) l.rest 0 l.kind-index l.furthest;
    }
