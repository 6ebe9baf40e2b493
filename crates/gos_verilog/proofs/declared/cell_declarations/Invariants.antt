use Rattle.std.proofs.Common.{◌≡◌, ◌≤◌, length}
use Rattle.std.specs.List.{AllByRecursion}
use Rattle.gos_lex.specs.ItemTexts.{Passed}
use Rattle.gos_verilog.specs.inner.Left.{IsShape, shapes_text}
use Rattle.gos_verilog.proofs.declared.cell_declarations.Given as goal

-- so many cells are declared, each of a width
abbrev pub invariant-loop-i : goal.invariant-loop-i
invariant-loop-i l =
    record {
      within : l.at ≤ length l.text;
      widths : AllByRecursion IsShape l.shapes.items;
      count : length l.shapes.items ≡ l.i;
      passed : Passed (record { text = l.text; at = l.initial.at }) (record { text = l.text; at = l.at }) (shapes_text 0 l.shapes.items);
    }
