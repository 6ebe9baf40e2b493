-- What keeps pace with a program still does as Verilog text, made tidy before or not. Laws of these definitions, for all files.
--
-- Read first: Run; Pace of gos_pace; Alike of gos_tidy; Meaning of gos_verilog.
use Rattle.std.specs.Prelude.{ℕ, Some}
use Rattle.gos_outside.specs.Files.{Files, bytes_at}
use Rattle.gos_lex.specs.Lines.{Word}
use Rattle.gos_netlist.specs.Nets.{Netlist}
use Rattle.gos_netcheck.specs.Accepted.{IsAccepted}
use Rattle.gos_model.specs.Moves.{Program}
use Rattle.gos_pace.specs.Pace.{KeepsPaceAlways}
use Rattle.gos_tidy.specs.Alike.{IsTidied}
use Rattle.gos_verilog.specs.VerilogText.{IsVerilogOf}
use Rattle.gos_verilog.specs.Meaning.{HasMeaning}
use Rattle.gos_flow.specs.Texts.{SaysNet}
use Rattle.gos_flow.specs.Command.{ToVerilog}
use Rattle.gos_flow.specs.Run.{IsDone}

-- The file holds the Verilog text of an accepted netlist, which keeps pace with the program of this weight, and as Verilog it means
-- this netlist.
pub record HoldsPaced (weight : ℕ) (p : Program) (files : Files) (name : Word) : Type 0 where
  pub net : Netlist
  pub text : IsVerilogOf net (bytes_at files name)
  pub accepted : IsAccepted net
  pub pace : KeepsPaceAlways weight p net
  pub means : HasMeaning (bytes_at files name) net

-- Where a netlist file says a netlist that keeps pace, and `verilog` is done with it, the file that was written holds it.
abbrev pub WrittenKeepsPace : Type 0
WrittenKeepsPace =
    (weight : ℕ) (p : Program) (files held : Files) (net out : Word) (circuit : Netlist) (cells : ℕ)
    → SaysNet (bytes_at files net) circuit → KeepsPaceAlways weight p circuit → IsDone (ToVerilog net out) (Some files) (Some held) cells
    → HoldsPaced weight p held out

-- And so where such a netlist was made tidy, and the netlist file says what came of it.
abbrev pub TidiedKeepsPace : Type 0
TidiedKeepsPace =
    (weight : ℕ) (p : Program) (files held : Files) (net out : Word) (circuit tidied : Netlist) (cells : ℕ)
    → KeepsPaceAlways weight p circuit → IsTidied circuit tidied → SaysNet (bytes_at files net) tidied
    → IsDone (ToVerilog net out) (Some files) (Some held) cells → HoldsPaced weight p held out
