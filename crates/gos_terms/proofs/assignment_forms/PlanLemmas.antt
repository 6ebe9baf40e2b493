-- A kept node has a plan, wired to any supplies of its numbers' types.
use Rattle.std.specs.Prelude.{◌≤◌}
use Rattle.std.proofs.Common.{ℕ, List, [], ◌++◌, refl, arith}
use Rattle.gos_check.specs.Nodes.{Numbered, type_of_node}
use Rattle.gos_check.specs.Linearity.{times}
use Rattle.gos_check.proofs.TimesLemmas.{some_times}
use Rattle.gos_plan.specs.Plans.{Plan}
use Rattle.gos_joining.specs.webs.Webs.{WaysFit}
use Rattle.gos_joining.proofs.weaving.PlanLemmas.{web_has_plan}
use Rattle.gos_compile.specs.Wiring.{Types, parts_of}
use Rattle.gos_terms.specs.wired.Wired.{Supplies, Placing, IsWired, wired_web}
use Rattle.gos_terms.specs.wired.NodeFitting.{AreOfTypes, IsLinear, IsPlaced}
use Rattle.gos_terms.proofs.wired.NodeFitLemmas.{wired_node_fits, fitting_is_plain}
use Rattle.gos_terms.specs.stages.Folding.{IsLaid}
use Rattle.gos_terms.proofs.stages.ChildStageLemmas.{laying, parts_for, imports_for, laid_so}
use Rattle.gos_terms.proofs.stages.LayoutLemmas.{all}
use Rattle.gos_terms.specs.numbers.Kept.{IsKept}

module _ (types : Types) (i j : ℕ) (m : Numbered) (ns : List ℕ) (env : Supplies) (kept : IsKept types ns m) (supplies : AreOfTypes types env ns) where
  once : (k : ℕ) → times k ns ≤ 1
  once k = let all = kept.once k in omega (arith, all)

  abbrev placing : Placing
  placing = laying (parts_of types m) ns env once

  abbrev bare : Plan
  bare =
      record {
        weight = 0;
        imports = all (imports_for (parts_of types m) ns env once) ns;
        outcome = type_of_node m;
        parts = parts_of types m ++ all (parts_for (parts_of types m) ns env once) ns;
        joints = [];
      }

  laid : IsLaid (parts_of types m) ns env placing bare
  laid = laid_so (parts_of types m) ns env once bare refl refl

  placed : IsPlaced types m ns env placing bare
  placed = record { outcome = refl; parts = laid.parts; no_more = laid.no_more; imports = laid.imports; no_import = laid.no_import }

  linear : IsLinear m ns
  linear =
      record {
        used_once = kept.used_once;
        made_once = λ k. (let all = kept.once k in omega (arith, all));
        supplied = λ k there. (let all = kept.once k in let some = some_times k ns there in omega (arith, all, some));
      }

  fits : WaysFit (wired_web types i j m ns env placing) bare
  fits = wired_node_fits types i j m ns env placing bare kept.typed linear supplies placed

  pub wired_plan : (plc : Placing) × (c : Plan) × IsWired types i j m ns env plc c
  wired_plan =
      let (js, web) = web_has_plan (wired_web types i j m ns env placing) bare fits (fitting_is_plain (wired_web types i j m ns env placing) bare fits) in (
        placing,
        record bare { joints = js },
        record { outcome = refl; parts = laid.parts; no_more = laid.no_more; imports = laid.imports; no_import = laid.no_import; web = web },
      )
