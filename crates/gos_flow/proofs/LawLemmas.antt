-- A command makes one text of one file, and the way back leads to the same bytes.
use Rattle.std.proofs.Common.{◌≡◌, ◌∙◌, ℕ, List, [], Bool, Option, Some, ap, cond, length, sym, subst, unwrap_or}
use Rattle.std.specs.Cmp.{eq_by_cmp_equiv}
use Rattle.std.specs.Cmp.Lexicographic.{nat_list_cmp_total}
use Rattle.std.specs.FinMap.{get, get-insert, insert}
use Rattle.gos_outside.specs.Files.{Files, bytes_at, with_file}
use Rattle.gos_lex.specs.Lines.{Word}
use Rattle.gos_netlist.specs.Nets.{Netlist}
use Rattle.gos_netlist.specs.NetText.{text_of}
use Rattle.gos_netlist.specs.NetFaults.{IsOneNetlist}
use Rattle.gos_netcheck.specs.Accepted.{IsAccepted}
use Rattle.gos_verilog.specs.OneText.{HasOneText, IsReadAsOne, IsReadBack}
use Rattle.gos_verilog.specs.VerilogText.{IsVerilogOf}
use Rattle.gos_verilog.specs.Readable as modules
use Rattle.gos_flow.specs.Command.{Command, ToVerilog, ToNetlist, read_by, written_by}
use Rattle.gos_flow.specs.Run.{Says, IsOtherText}
use Rattle.gos_flow.specs.Repeated.{CommandMakesOne}
use Rattle.gos_flow.specs.Back.{NetlistComesBack, VerilogComesBack}

-- what was written into a file is there
there : (files : Files) (name text : Word) → bytes_at (insert files name text) name ≡ text
there files name text =
    ap (λ (o : Option Word). unwrap_or o [])
    (get-insert nat_list_cmp_total files name text name
    ∙ ap (λ (b : Bool). cond b (Some text) (get files name)) ((eq_by_cmp_equiv nat_list_cmp_total).refl name))

abbrev bytes_then : Option Files → Word → Word
bytes_then (Some files) name = bytes_at files name
bytes_then told name = []

pub written : (files held : Files) (name text : Word) → Some held ≡ with_file name text (Some files) → bytes_at held name ≡ text
written files held name text is = ap (λ (told : Option Files). bytes_then told name) is ∙ there files name text

pub one_text_of : (files : Files) (name text other : Word) → with_file name text (Some files) ≡ with_file name other (Some files) → text ≡ other
one_text_of files name text other is = sym (there files name text) ∙ (ap (λ (told : Option Files). bytes_then told name) is ∙ there files name other)

module _ (one_netlist : (text : List ℕ) → IsOneNetlist text) (one_reading : (text : List ℕ) → IsReadAsOne text)
    (back : (net : Netlist) → IsReadBack net) (has_text : (net : Netlist) → IsAccepted net → HasOneText net) where
  same_circuit : (c : Command) (text : List ℕ) (net other : Netlist) → Says c text net → Says c text other → net ≡ other
  same_circuit (ToVerilog net out) text circuit other one two = one_netlist text circuit other one.read.writable two.read.writable one.read.is two.read.is
  same_circuit (ToNetlist ver out) text circuit other one two = one_reading text circuit other one.read two.read

  same_text : (c : Command) (net : Netlist) (text other : List ℕ) → IsAccepted net → IsOtherText c net text → IsOtherText c net other → text ≡ other
  same_text (ToVerilog net out) circuit text other accepted one two = has_text circuit accepted text other one two
  same_text (ToNetlist ver out) circuit text other accepted one two = one ∙ sym two

  pub command_makes_one : CommandMakesOne
  command_makes_one c files others new other cells told agree one two =
      let same : one.circuit ≡ two.circuit =
      same_circuit c (bytes_at others (read_by c)) one.circuit two.circuit (subst (λ (text : List ℕ). Says c text one.circuit) agree one.says) two.says in
      let text : one.text ≡ two.text =
      same_text c two.circuit one.text two.text two.accepted (subst (λ (net : Netlist). IsOtherText c net one.text) same one.is) two.is in (
        one.text,
        one.wrote,
        two.wrote ∙ ap (λ (bytes : List ℕ). with_file (written_by c) bytes (Some others)) (sym text),
        one.count ∙ (ap (λ (net : Netlist). length net.cells) same ∙ sym two.count),
      )

  pub netlist_comes_back : NetlistComesBack
  netlist_comes_back files held new net ver again cells told one two =
      let read : modules.IsRead one.text two.circuit =
      subst (λ (text : List ℕ). modules.IsRead text two.circuit) (written files held ver one.text one.wrote) two.says.read in
      let same : one.circuit ≡ two.circuit = back one.circuit one.text two.circuit (one.says.read.writable, one.accepted) one.is read in
      let text : two.text ≡ bytes_at files net = two.is ∙ (ap text_of (sym same) ∙ sym one.says.read.is) in (
        two.wrote ∙ ap (λ (bytes : List ℕ). with_file again bytes (Some held)) text,
        two.count ∙ (ap (λ (circuit : Netlist). length circuit.cells) (sym same) ∙ sym one.count),
      )

  pub verilog_comes_back : VerilogComesBack
  verilog_comes_back files held new ver net again cells told one two =
      let same : one.circuit ≡ two.circuit =
      one_netlist (bytes_at held net) one.circuit two.circuit one.says.read.0.writable two.says.read.writable (written files held net one.text one.wrote ∙ one.is) two.says.read.is in
      let text : two.text ≡ bytes_at files ver =
      has_text two.circuit two.accepted two.text (bytes_at files ver) two.is (subst (λ (circuit : Netlist). IsVerilogOf circuit (bytes_at files ver)) same one.says.read.1) in (
        two.wrote ∙ ap (λ (bytes : List ℕ). with_file again bytes (Some held)) text,
        two.count ∙ (ap (λ (circuit : Netlist). length circuit.cells) (sym same) ∙ sym one.count),
      )
