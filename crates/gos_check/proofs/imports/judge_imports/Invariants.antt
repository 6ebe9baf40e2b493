use Rattle.std.proofs.Common.{◌≡◌, ◌+◌, ◌*◌, ◌≤◌, [], map, take, drop, sum_by}
use Rattle.gos_model.specs.Weight.{count}
use Rattle.gos_model.specs.Sources.{import_of}
use Rattle.gos_check.specs.Sizes.{AreCountable}
use Rattle.gos_check.specs.Judgements.{imports_judged}
use Rattle.gos_check.proofs.imports.judge_imports.Given as goal

-- the imports that are left are judged after those before them, and their handshakes are still to be added
abbrev pub invariant-loop-i : goal.invariant-loop-i
invariant-loop-i l =
    record {
      judged : imports_judged (take l.i l.imports) (drop l.i l.imports) ≡ imports_judged [] l.imports;
      sum : l.handshakes + sum_by (λ x. count x.ty) (map import_of (drop l.i l.imports)) ≡ sum_by (λ x. count x.ty) (map import_of l.imports);
      bound : l.handshakes ≤ 64 * l.i;
      types : AreCountable (drop l.i l.imports);
    }
