-- A variable that a wired assignment writes, as a region of its plan: a child whose read handshake leads nowhere.
--
-- Read first: Folding and Regions of stages; Written of gos_nodes. The first part of `M := N` is any node of a variable. What its
-- handshake 1 asks the own part asks; its handshake 0 leads to a point of the node that nothing else meets. So without the joint by which
-- it is read its plan, wired to its supplies, is a region. Here that point is handshake 1 of a result, which a command hasn't.
use Rattle.std.specs.Prelude.{ℕ, List, [], ◌∷◌, Option, Some, None, nat_eq, length, if◌then◌else◌}
use Rattle.gos_plan.specs.Plans.{End, PartEnd, ImportEnd, ResultEnd, Plan}
use Rattle.gos_joining.specs.webs.Cutting.{Cut}
use Rattle.gos_terms.specs.wired.Wired.{Placing, dot_at}
use Rattle.gos_nodes.specs.windows.Nodes.{Stage}
use Rattle.gos_nodes.specs.folds.Folds.{joined_cut}
use Rattle.gos_terms.specs.stages.Folding.{Lead, AtOwn, AtResult, Child, child_back, child_cut, child_outer, child_servings, port_of_dot}
use Rattle.gos_nodes.specs.assignments.Written.{unread}

-- where the handshakes of the variable lead
abbrev pub target_leads : List Lead
target_leads = AtResult 1 ∷ AtOwn 1 ∷ []

-- How the plan lies in the node's, which has so many parts: a handshake of its result is one of the own part.
abbrev pub target_outer : Child → Placing → Placing → End → End
target_outer f pl plc (PartEnd k h) = PartEnd k h
target_outer f pl plc (ImportEnd k h) = child_outer f pl plc (ImportEnd k h)
target_outer f pl plc (ResultEnd h) = PartEnd (pl.own f.own) h

abbrev pub target_inner : Child → Placing → Placing → End → Option End
target_inner f pl plc (PartEnd k h) = if nat_eq k (pl.own f.own) then Some (ResultEnd h) else None
target_inner f pl plc (ImportEnd k h) = port_of_dot plc (child_back f (dot_at f.first pl (ImportEnd k h)))
target_inner f pl plc (ResultEnd h) = None

abbrev pub target_cut : Child → Placing → Placing → ℕ → Cut
target_cut f pl plc size =
    record {
      part = (child_cut f pl plc size).part;
      number = (child_cut f pl plc size).number;
      outer = target_outer f pl plc;
      inner = target_inner f pl plc;
    }

-- the stage that it is, where it is written
abbrev pub target_stage : Child → Placing → Placing → Plan → Plan → Stage
target_stage f pl plc r c =
    record {
      cut = joined_cut (target_cut f pl plc (length r.parts)) (unread c).joints;
      sides = child_servings f pl;
      plan = unread c;
      asked_at = 1;
    }
