use Rattle.std.proofs.Common.{◌≡◌, ◌++◌, take, map}
use Rattle.std.specs.List.{flat_map}
use Rattle.gos_plan.specs.Seen.{import_of}
use Rattle.gos_plan.specs.ObjectText.{import_text}
use Rattle.gos_plan.proofs.printing.add_import_lines.Given as goal

-- the lines so far
abbrev pub invariant-loop-import : goal.invariant-loop-import
invariant-loop-import l = l.text.items ≡ l.initial.text.items ++ flat_map import_text (map import_of (take l.import-index l.imports))
