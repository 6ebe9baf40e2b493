use Rattle.std.proofs.Common.{List, ℕ, length, map, sym, ◌∙◌, subst}
use Rattle.std.proofs.lemmas.List.{length-map}
use Rattle.std.proofs.lemmas.Result.{IfOk-weaker}
use Rattle.gos_netlist.specs.Nets.{Netlist}
use Rattle.gos_netlist.specs.Seen.{cell_of}
use Rattle.gos_verilog.specs.PortNets.{PortNet}
use Rattle.gos_verilog.specs.inner.Drivers.{LeadsToFeeds, module_lines}
use Rattle.gos_verilog.proofs.FeedLemmas.{text_is}
use Rattle.gos_verilog.proofs.writing.module_text.Goals as goal

pub returns : goal.returns
returns c =
    let net : Netlist = record { cells = map cell_of c.args.cells.now; ports = c.args.ports.now } in
    let nets : List PortNet = c.in_ok-nets.nets.items in
    let table : List ℕ = c.in_ok-table.table.items in
    let name : List ℕ = c.first_name.result.now in
    let one = c.deref.ensures.value in
    let two = c.deref-2.ensures.value in
    let three = c.deref-3.ensures.value in
    IfOk-weaker c.lines.result _ _ (λ text is.
    text_is net nets name table text.items c.requires c.in_ok-nets.ensures c.first_name.ensures (c.in_ok-table.ensures.length ∙ sym (length-map c.args.cells.now cell_of))
    (subst (λ (list : List PortNet). LeadsToFeeds list (length list) table) one c.in_ok-table.ensures.leads)
    (is ∙ (λ i. module_lines name (two i) (three i) net.cells)))
    c.lines.ensures
