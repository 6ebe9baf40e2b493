use Rattle.std.proofs.Common.{◌≡◌, ◌≤◌, ◌+◌, ◌∷◌, [], List, length}
use Rattle.std.specs.List.{flat_map}
use Rattle.gos_lex.specs.ItemTexts.{Passed}
use Rattle.gos_verilog.specs.inner.Faces.{Face', AreKnown, AreNewFaces, port_text}
use Rattle.gos_verilog.proofs.judged.further_ports.Given as goal

-- so many ports are named, each of a name of its own
abbrev pub invariant-loop : goal.invariant-loop
invariant-loop l =
    record {
      within : l.at ≤ length l.text;
      count : length l.faces.items ≡ l.counter + 1;
      known : AreKnown l.faces.items l.places;
      more : (more : List Face') × (l.faces.items ≡ l.fn.first ∷ more) × AreNewFaces (l.fn.first ∷ []) more
          × Passed (record { text = l.text; at = l.initial.at }) (record { text = l.text; at = l.at }) (flat_map port_text more);
    }
