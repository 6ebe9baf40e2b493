-- How the plan of a block is made of that of its body: a region, and a server, which asks it and serves its bound variable.
--
-- Read first: Servers; Realises of gos_realises, Cutting of gos_joining; Parallel of parallel. The body is taken with an import for the
-- bound variable; its plan is closed but for imports, and all others of these are imports of the whole. In `new x : w in M` the server
-- is a Local.
use Rattle.std.specs.Prelude.{◌≡◌, ◌≢◌, ◌⊎◌, ℕ, suc, [], All, Contains, Some, None, slice_get}
use Rattle.gos_types.specs.Types.{IsDone}
use Rattle.gos_model.specs.Terms.{Term, Import, New, NewArray}
use Rattle.gos_model.specs.Substitution.{instantiate}
use Rattle.gos_model.specs.Typing.{Imported, Typed}
use Rattle.gos_plan.specs.Kinds.{Part}
use Rattle.gos_plan.specs.Plans.{End, PartEnd, ImportEnd, ResultEnd, Plan}
use Rattle.gos_plan.specs.TokenBits.{LiteralFits}
use Rattle.gos_nodes.specs.sessions.Sessions.{bits}
use Rattle.gos_joining.specs.webs.Webs.{joint}
use Rattle.gos_joining.specs.webs.Cutting.{Cut, StandsIn, IsCut}
use Rattle.gos_realises.specs.realises.Regular.{IsRegular}
use Rattle.gos_realises.specs.realises.Realises.{AllGround, AllPorts, NamesDiffer, Realises}
use Rattle.gos_nodes.specs.windows.Nodes.{IsRestful}
use Rattle.gos_nodes.specs.windows.OpenNodes.{IsHeard}
use Rattle.gos_nodes.specs.parallel.Parallel.{IsJointOf, IsPartOf}
use Rattle.gos_nodes.specs.blocks.Servers.{Server, run_of, IsServer, local_server, array_server}

-- The number of the server, and what it is; the body's plan, how it lies in the whole, and which of its imports stands for the bound
-- variable.
pub record Block : Type 0 where
  pub own : ℕ
  pub server : Server
  pub body : Plan
  pub cut : Cut
  pub place : ℕ
  pub variable : Imported

-- The whole r is this block. Where the body's result or a handshake of its variable stands in no joint, its end is
-- joined to nothing. Another import that stands in a joint leads to the import of r with its name and its type.
pub record IsBlock (r : Plan) (b : Block) : Type 0 where
  pub cut : IsCut b.cut r b.body
  pub done : IsDone r.outcome
  pub outcome : b.body.outcome ≡ r.outcome
  pub server : IsServer b.server (bits r.outcome)
  pub own : slice_get r.parts b.own ≡ Some b.server.part
  pub outside : b.cut.number b.own ≡ None
  pub result : b.cut.outer (ResultEnd 0) ≡ PartEnd b.own 0
  pub there : slice_get b.body.imports b.place ≡ Some b.variable
  pub type : b.variable.ty ≡ b.server.supply
  pub served : (h : ℕ) → b.cut.outer (ImportEnd b.place h) ≡ PartEnd b.own (suc h)
  pub imports :
      (i h : ℕ) → i ≢ b.place → StandsIn b.body (ImportEnd i h)
      → (j : ℕ) × (b.cut.outer (ImportEnd i h) ≡ ImportEnd j h) × (slice_get b.body.imports i ≡ slice_get r.imports j)
  pub others : (i : Imported) → Contains b.body.imports i → (i ≡ b.variable) ⊎ Contains r.imports i
  pub fresh : (i : Imported) → Contains r.imports i → i.name ≢ b.variable.name
  pub run : Contains r.joints (joint (ResultEnd 0) (PartEnd b.own (run_of b.server)))
  pub joints :
      (a e : End) → Contains r.joints (joint a e)
      → IsJointOf b.cut b.body a e ⊎ ((a ≡ ResultEnd 0) × (e ≡ PartEnd b.own (run_of b.server)))
  pub parts : (i : ℕ) (k : Part) → slice_get r.parts i ≡ Some k → IsPartOf b.cut i ⊎ (i ≡ b.own)

-- The whole is regular where the body's plan is, with imports of any types: where the body has one end of an import of the whole, it
-- has those at which the surroundings ask there.
abbrev pub OpenBlockIsRegular : Type 0
OpenBlockIsRegular =
    (r : Plan) (b : Block)
    → IsBlock r b → IsHeard b.cut r b.body → All LiteralFits r.parts → NamesDiffer r.imports → NamesDiffer b.body.imports → IsRegular b.body → IsRegular r

-- And it rests after its answer where the body's plan does.
abbrev pub OpenBlockIsRestful : Type 0
OpenBlockIsRestful =
    (r : Plan) (b : Block)
    → IsBlock r b → IsHeard b.cut r b.body → All LiteralFits r.parts → NamesDiffer r.imports → NamesDiffer b.body.imports → IsRegular b.body
    → IsRestful b.body → IsRestful r

-- At ground imports they don't ask.
abbrev pub BlockIsRegular : Type 0
BlockIsRegular =
    (r : Plan) (b : Block)
    → IsBlock r b → All LiteralFits r.parts → AllGround r.imports → NamesDiffer r.imports → AllGround b.body.imports → NamesDiffer b.body.imports
    → IsRegular b.body → IsRegular r

-- Where the server is a local variable, and the body's plan realises M with the import in the place of the bound variable, the whole
-- realises `new x : w in M`, with imports that are ports.
abbrev pub BlockRealises : Type 0
BlockRealises =
    (r : Plan) (b : Block) (w : ℕ) (m : Term)
    → IsBlock r b → IsHeard b.cut r b.body → b.server ≡ local_server w (bits r.outcome) → All LiteralFits r.parts → AllPorts r.imports → NamesDiffer r.imports
    → Typed r.imports [] (New w m) r.outcome
    → Realises r.outcome b.body (instantiate m (Import b.variable.name)) → Realises r.outcome r (New w m)

-- Where the server is an array, the whole so realises `new a[n] : w in M`.
abbrev pub ArrayBlockRealises : Type 0
ArrayBlockRealises =
    (r : Plan) (b : Block) (n w : ℕ) (m : Term)
    → IsBlock r b → IsHeard b.cut r b.body → b.server ≡ array_server w n (bits r.outcome) → All LiteralFits r.parts → AllPorts r.imports → NamesDiffer r.imports
    → Typed r.imports [] (NewArray n w m) r.outcome
    → Realises r.outcome b.body (instantiate m (Import b.variable.name)) → Realises r.outcome r (NewArray n w m)
