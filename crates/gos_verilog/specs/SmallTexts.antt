-- The text of the latch, and two texts that are not its.
--
-- Read first: VerilogText; SmallNets of gos_netlist.
use Rattle.std.specs.Prelude.{ℕ, List, ◌++◌, codes}
use Rattle.gos_netlist.specs.SmallNets.{latch}
use Rattle.gos_verilog.specs.VerilogText.{IsVerilogOf}

-- its lines up to the registers
abbrev pub latch_front : List ℕ
latch_front =
    codes "module gos_main(clk, rst, main__run, main__done);\n  input clk;\n  input rst;\n  input [0:0] main__run;\n  output [0:0] main__done;\n"
    ++ codes "  wire [0:0] n0;\n  wire [0:0] n1;\n  reg [0:0] n2;\n  reg [0:0] n3;\n"
    ++ codes "  assign n0 = main__run;\n  assign n1 = n0 | n2;\n"

-- its last lines
abbrev pub latch_back : List ℕ
latch_back = codes "  assign main__done = n3;\nendmodule\n"

abbrev pub latch_text : List ℕ
latch_text =
    latch_front
    ++ codes "  always @(posedge clk) if (rst) n2 <= 1'd0; else n2 <= n1;\n"
    ++ codes "  always @(posedge clk) if (rst) n3 <= 1'd0; else n3 <= n1;\n"
    ++ latch_back

abbrev pub LatchText : Type 0
LatchText = IsVerilogOf latch latch_text

-- a register without its reset
abbrev pub unreset_text : List ℕ
unreset_text =
    latch_front ++ codes "  always @(posedge clk) n2 <= n1;\n" ++ codes "  always @(posedge clk) if (rst) n3 <= 1'd0; else n3 <= n1;\n" ++ latch_back

abbrev pub UnresetIsNoText : Type 0
UnresetIsNoText = IsVerilogOf latch unreset_text → ⊥

-- a blank more at the end
abbrev pub longer_text : List ℕ
longer_text = latch_text ++ codes " "

abbrev pub LongerIsNoText : Type 0
LongerIsNoText = IsVerilogOf latch longer_text → ⊥
