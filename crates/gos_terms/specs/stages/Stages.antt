-- A child of a wired node is a stage of it.
--
-- Read first: Regions; Nodes of gos_nodes.
use Rattle.std.specs.Prelude.{◌≡◌, ℕ, List, [], ◌∷◌, length, Some, Contains}
use Rattle.gos_types.specs.Types.{IsDone}
use Rattle.gos_plan.specs.Kinds.{Part}
use Rattle.gos_plan.specs.Plans.{Plan}
use Rattle.gos_realises.specs.realises.Realises.{NamesDiffer}
use Rattle.gos_realises.specs.realises.Regular.{IsRegular}
use Rattle.gos_joining.specs.webs.Webs.{Tie}
use Rattle.gos_nodes.specs.windows.Regions.{Serving, IsLoyal}
use Rattle.gos_nodes.specs.windows.Nodes.{Stage, IsRestful, IsStage}
use Rattle.gos_nodes.specs.folds.Folds.{joined_cut}
use Rattle.gos_terms.specs.wired.Wired.{Placing}
use Rattle.gos_terms.specs.stages.Inside.{AreOrdered}
use Rattle.gos_terms.specs.stages.Folding.{AtOwn, Child, asked, child_cut, child_servings, IsChild, IsLaid}
use Rattle.gos_terms.specs.stages.Regions.{HasParts, IsStaged}

abbrev pub stage_of : Child → Placing → Placing → Plan → Plan → Stage
stage_of f pl plc r c =
    record {
      cut = joined_cut (child_cut f pl plc (length r.parts)) c.joints;
      sides = child_servings f pl;
      plan = c;
      asked_at = asked f;
    }

-- Each Share that serves the child is loyal to it.
abbrev pub AreLoyal : Child → Placing → Placing → Plan → Plan → Type 0
AreLoyal f pl plc r c =
    (n : Serving) (i : ℕ)
    → Contains (child_servings f pl) n → (child_cut f pl plc (length r.parts)).number n.part ≡ Some i → IsLoyal i n.ty n.side c

-- So it is where the supplies of the node are regular.
abbrev pub ServingsAreLoyal : Type 0
ServingsAreLoyal =
    (f : Child) (own : List Part) (ts : List Tie) (pl plc : Placing) (r c : Plan)
    → IsChild f ts → HasParts f own r.outcome → IsLaid own f.numbers f.env pl r → IsStaged f pl plc r c
    → AreOrdered f.env f.numbers → AreLoyal f pl plc r c

-- Its plan is that of a command or an expression, regular, and rests after its answer; its one handshake leads to the own part; and its
-- Shares are loyal.
abbrev pub ChildIsStage : Type 0
ChildIsStage =
    (f : Child) (own : List Part) (ts : List Tie) (pl plc : Placing) (r c : Plan) (h : ℕ)
    → IsChild f ts → f.out ≡ AtOwn h ∷ [] → HasParts f own r.outcome → IsLaid own f.numbers f.env pl r → IsStaged f pl plc r c
    → IsDone c.outcome → IsRegular c → IsRestful c → NamesDiffer c.imports → AreLoyal f pl plc r c
    → IsStage r (pl.own f.own) (stage_of f pl plc r c)
