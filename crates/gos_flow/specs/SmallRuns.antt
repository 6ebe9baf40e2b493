-- The commands in small: what is done with a netlist of one register, and what is not.
--
-- Read first: Run.
use Rattle.std.specs.Prelude.{◌≡◌, ℕ, List, [], ◌∷◌, ◌++◌, codes, Some}
use Rattle.gos_outside.specs.Files.{Files, bytes_at, with_file}
use Rattle.gos_lex.specs.Lines.{Word}
use Rattle.gos_types.specs.Types.{Com}
use Rattle.gos_netlist.specs.Nets.{Netlist, Input, Reg, Give}
use Rattle.gos_netlist.specs.NetText.{text_of}
use Rattle.gos_netlist.specs.SmallNets.{bit}
use Rattle.gos_netlist.specs.declared.fault.NetTextFault.TheVariants as texts
use Rattle.gos_verilog.specs.declared.fault.VFault.TheVariants as verilog
use Rattle.gos_flow.specs.declared.status.Cause.TheVariants as causes
use Rattle.gos_flow.specs.Command.{ToVerilog, ToNetlist}
use Rattle.gos_flow.specs.Run.{IsDone, MayBe}

-- it shows `done` in the cycle after each `run`
abbrev pub echo : Netlist
echo =
    record {
      cells = bit Input ∷ bit (Reg 0) ∷ [];
      ports = record { name = codes "main"; side = Give; ty = Com; nets = 0 ∷ 1 ∷ [] } ∷ [];
    }

-- its Verilog text
abbrev pub echo_verilog : List ℕ
echo_verilog =
    codes "module gos_main(clk, rst, main__run, main__done);\n  input clk;\n  input rst;\n  input [0:0] main__run;\n  output [0:0] main__done;\n"
    ++ codes "  wire [0:0] n0;\n  reg [0:0] n1;\n  assign n0 = main__run;\n"
    ++ codes "  always @(posedge clk) if (rst) n1 <= 1'd0; else n1 <= n0;\n  assign main__done = n1;\nendmodule\n"

-- this text is written, and two cells are told
abbrev pub EchoIsWritten : Type 0
EchoIsWritten =
    (files : Files) (net out : Word) → bytes_at files net ≡ text_of echo
    → IsDone (ToVerilog net out) (Some files) (with_file out echo_verilog (Some files)) 2

-- no text with a blank more
abbrev pub LongerIsNotWritten : Type 0
LongerIsNotWritten =
    (files : Files) (net out : Word) (cells : ℕ) → bytes_at files net ≡ text_of echo
    → IsDone (ToVerilog net out) (Some files) (with_file out (echo_verilog ++ codes " ") (Some files)) cells → ⊥

-- nor is another number of cells told
abbrev pub OtherCountIsNotTold : Type 0
OtherCountIsNotTold =
    (files : Files) (net out : Word) → bytes_at files net ≡ text_of echo
    → IsDone (ToVerilog net out) (Some files) (with_file out echo_verilog (Some files)) 3 → ⊥

-- a netlist file is not rejected as Verilog, nor a Verilog file as a netlist
abbrev pub CausesAreApart : Type 0
CausesAreApart =
    (file out : Word) (at : ℕ)
    → (MayBe (ToVerilog file out) (causes.Verilog (verilog.Form at)) → ⊥) × (MayBe (ToNetlist file out) (causes.Net (texts.Form at)) → ⊥)
