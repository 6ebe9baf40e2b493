use Rattle.std.proofs.Common.{◌≡◌, List, ℕ, false, sym, subst, Ok, Err, Result}
use Rattle.std.specs.Prelude.{IfOk}
use Rattle.gos_netlist.specs.Nets.{Input}
use Rattle.gos_netlist.specs.Seen.{function_of}
use Rattle.gos_netlist.specs.declared.nets.Gate as declared
use Rattle.gos_netlist.specs.declared.nets.Gate.TheVariants as gates
use Rattle.gos_lex.specs.ItemTexts.{Passed}
use Rattle.gos_verilog.specs.PortNets.{PortNet}
use Rattle.gos_verilog.specs.Lines.{driver_of}
use Rattle.gos_verilog.specs.inner.Left.{IsSource, IsDriver}
use Rattle.gos_verilog.proofs.LeftDriverLemmas.{input_driver}
use Rattle.gos_verilog.proofs.driven.wire.Goals as goal

pub returns-then-note-clause-driven : goal.returns-then-note-clause-driven
returns-then-note-clause-driven c =
    let name = c.in-Ok-source.name.now in
    (name, input_driver c.args.nets.now c.args.width name (c.note.ensures.source c.if-note.true), c.in-Ok-source.ensures.passed c.args.width)

-- of any input
driven : (nets : List PortNet) (i w : ℕ) (rest : List ℕ) (r : Result (declared.Gate × ℕ) ℕ) → IfOk r (λ both. both.0 ≡ gates.Input)
    → IfOk r (λ both. (source : List ℕ) × IsSource nets w source × Passed (record { text = rest; at = 0 }) (record { text = rest; at = both.1 }) (driver_of i w source Input))
    → IfOk r (λ both. (source : List ℕ) × IsDriver nets (record { width = w; register = false }) (function_of both.0, source)
    × Passed (record { text = rest; at = 0 }) (record { text = rest; at = both.1 }) (driver_of i w source (function_of both.0)))
driven nets i w rest (Err place) input known = tt
driven nets i w rest (Ok both) input known =
    subst
    (λ (g : declared.Gate). (source : List ℕ) × IsDriver nets (record { width = w; register = false }) (function_of g, source)
    × Passed (record { text = rest; at = 0 }) (record { text = rest; at = both.1 }) (driver_of i w source (function_of g)))
    (sym input) (known.0, input_driver nets w known.0 known.1, known.2)

pub returns-clause-driven : goal.returns-clause-driven
returns-clause-driven c = driven c.args.nets.now c.args.i c.args.width c.args.rest.now c.any_source.result c.any_source.ensures.input c.any_source.ensures.driven
