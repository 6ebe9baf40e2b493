use Rattle.std.proofs.Common.{◌≡◌, map, sym, ◌∙◌}
use Rattle.std.proofs.lemmas.Slice.Eq.{bytes_eq-Decides}
use Rattle.gos_netlist.specs.Nets.{Netlist}
use Rattle.gos_netlist.specs.Seen.{cell_of}
use Rattle.gos_verilog.proofs.OneTextLemmas.{readable_text}
use Rattle.gos_verilog.proofs.WholeLemmas.{text_fed}
use Rattle.gos_verilog.proofs.reading.is_text_of.Goals as goal

pub returns-then-not-branch-clause-whole : goal.returns-then-not-branch-clause-whole
returns-then-not-branch-clause-whole c = λ read.
    let net : Netlist = record { cells = map cell_of c.args.cells.now; ports = c.args.ports.now } in
    let is = c.in_ok-is_readable.ensures.whole read.0 (text_fed net c.args.text.now read.1) in
    sym c.if-not-branch.true ∙ is

pub returns-clause-whole : goal.returns-clause-whole
returns-clause-whole c = λ read.
    let net : Netlist = record { cells = map cell_of c.args.cells.now; ports = c.args.ports.now } in
    let text = c.args.text.now in
    let written = c.in_ok-written.written.items in
    let same : written ≡ text = readable_text net read.0 written text c.in_ok-written.ensures read.1 in
    c.eq.ensures ∙ (bytes_eq-Decides c.as_slice.result.now text).1 (c.as_slice.ensures.value ∙ same)
