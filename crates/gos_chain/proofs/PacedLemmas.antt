-- What keeps pace with a program does so as Verilog text, made tidy before or not.
use Rattle.std.proofs.Common.{◌≡◌, ℕ, List, subst, sym}
use Rattle.gos_outside.specs.Files.{bytes_at}
use Rattle.gos_netlist.specs.Nets.{Netlist}
use Rattle.gos_netlist.specs.NetFaults.{IsOneNetlist}
use Rattle.gos_pace.specs.Pace.{KeepsPaceAlways}
use Rattle.gos_verilog.specs.VerilogText.{IsVerilogOf}
use Rattle.gos_verilog.specs.Meaning.{TextsMean}
use Rattle.gos_flow.proofs.LawLemmas.{written}
use Rattle.gos_chain.specs.Paced.{WrittenKeepsPace, TidiedKeepsPace}

module _ (one_netlist : (text : List ℕ) → IsOneNetlist text) (mean : TextsMean) where
  pub written_keeps_pace : WrittenKeepsPace
  written_keeps_pace weight p files held net out circuit cells says pace done =
      let same : circuit ≡ done.circuit =
      one_netlist (bytes_at files net) circuit done.circuit says.read.writable done.says.read.writable says.read.is done.says.read.is in
      let text : IsVerilogOf done.circuit (bytes_at held out) =
      subst (λ (bytes : List ℕ). IsVerilogOf done.circuit bytes) (sym (written files held out done.text done.wrote)) done.is in
      record {
        net = done.circuit;
        text = text;
        accepted = done.accepted;
        pace = subst (λ (it : Netlist). KeepsPaceAlways weight p it) same pace;
        means = mean done.circuit (bytes_at held out) text;
      }

  pub tidied_keeps_pace : TidiedKeepsPace
  tidied_keeps_pace weight p files held net out circuit tidied cells pace tidy says done =
      written_keeps_pace weight p files held net out tidied cells says (tidy.alike.pace weight p pace) done
