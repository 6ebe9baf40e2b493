-- What is written one behind the other, by its parts.
use Rattle.std.proofs.Common.{◌≡◌, ℕ, true, List, [], ◌++◌, ◌∙◌, ap, codes, append_assoc}
use Rattle.std.specs.List.{flat_map}
use Rattle.gos_netlist.specs.Nets.{Cell}
use Rattle.gos_verilog.specs.PortNets.{PortNet}
use Rattle.gos_verilog.specs.Lines.{cell_net, literal, module_head, clock_declarations, port_declaration, cell_declarations, output_assignment}
use Rattle.gos_verilog.specs.inner.Drivers.{target, driven, module_lines}

parts : (old a n b l c : List ℕ) → (((old ++ a) ++ (n ++ b ++ l)) ++ c) ++ (n ++ b) ≡ old ++ (a ++ n ++ b ++ l ++ c ++ n ++ b)
parts old a n b l c = simp append_assoc

-- what stands before the value of a register
pub target_parts : (i w : ℕ) (old : List ℕ)
    → (((old ++ codes "  always @(posedge clk) if (rst) ") ++ (cell_net i ++ codes " <= " ++ literal w 0)) ++ codes "; else ") ++ (cell_net i ++ codes " <= ") ≡ old ++ target i w true
target_parts i w old = parts old (codes "  always @(posedge clk) if (rst) ") (cell_net i) (codes " <= ") (literal w 0) (codes "; else ")

-- the whole text
pub lines_parts : (name : List ℕ) (nets : List PortNet) (table : List ℕ) (cells : List Cell) (t0 t1 t2 t3 t4 t5 t6 : List ℕ)
    → t0 ≡ [] → t1 ≡ t0 ++ module_head name nets → t2 ≡ t1 ++ clock_declarations → t3 ≡ t2 ++ flat_map port_declaration nets
    → t4 ≡ t3 ++ cell_declarations 0 cells → t5 ≡ t4 ++ driven nets table 0 cells
    → t6 ≡ t5 ++ flat_map output_assignment nets ++ codes "endmodule\n"
    → t6 ≡ module_lines name nets table cells
lines_parts name nets table cells t0 t1 t2 t3 t4 t5 t6 e0 e1 e2 e3 e4 e5 e6 =
    e6 ∙ (append_assoc t5 (flat_map output_assignment nets) (codes "endmodule\n")
    ∙ ap (λ text. text ++ (flat_map output_assignment nets ++ codes "endmodule\n")) (e5 ∙ ap (λ text. text ++ driven nets table 0 cells) (e4 ∙ ap (λ text. text ++ cell_declarations 0 cells) (e3 ∙ ap (λ text. text ++ flat_map port_declaration nets) (e2 ∙ ap (λ text. text ++ clock_declarations) (e1 ∙ ap (λ text. text ++ module_head name nets) e0))))))
