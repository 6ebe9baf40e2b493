-- A node with ground imports is one with imports of any types: no port of an import asks.
use Rattle.std.specs.Prelude.{Contains}
use Rattle.std.proofs.Common.{◌≡◌, ℕ, List, inl, inr, sym, ◌∙◌}
use Rattle.gos_types.specs.declared.shakes.Role.TheVariants.{Serve, Ask}
use Rattle.gos_plan.specs.Plans.{ImportEnd, ResultEnd, Plan}
use Rattle.gos_types.specs.Types.{IsDone}
use Rattle.gos_realises.specs.realises.Realises.{AllGround}
use Rattle.gos_joining.specs.webs.Cutting.{Cut}
use Rattle.gos_nodes.specs.sessions.Sessions.{Form}
use Rattle.gos_nodes.specs.windows.Nodes.{Stage, IsNode}
use Rattle.gos_nodes.specs.windows.OpenNodes.{IsHeard, IsOpenStage, GroundNodeIsOpen}
use Rattle.gos_nodes.proofs.windows.PortLemmas.{ground_within, port_role}

pub ground_heard : (f : Cut) (r p : Plan) → AllGround p.imports → IsDone p.outcome → IsHeard f r p
ground_heard f r p ground done i h n k c stands at is asks =
    absurd (elim (port_role p ground done (ImportEnd i n) c tt is) [
      | inl result ↦ (let clash : ImportEnd i n ≡ ResultEnd 0 = result.0 in cc clash)
      | inr import ↦ (let clash : Ask ≡ Serve = sym asks ∙ import.3 in cc clash)
    ])

open_stage : (r : Plan) (d : ℕ) (f : Form) (gs : List Stage) → IsNode r d f gs → (g : Stage) → Contains gs g → IsOpenStage r d g
open_stage r d f gs node g has =
    let stage = node.stages g has in
    record {
      stage = stage;
      heard = ground_heard g.cut r g.plan (ground_within g.plan.imports r.imports node.ground stage.imports) stage.outcome;
    }

pub ground_node_is_open : GroundNodeIsOpen
ground_node_is_open r d f gs node =
    record {
      right = node.right;
      own = node.own;
      outcome = node.outcome;
      done = node.done;
      literals = node.literals;
      names = node.names;
      stages = λ g has. open_stage r d f gs node g has;
      one = node.one;
      staged = node.staged;
      result = node.result;
      joints = node.joints;
      parts = node.parts;
    }
