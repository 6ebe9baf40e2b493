-- The parts of `new x : w in M` and of `new a[n] : w in M` that are wired to supplies: the plan of M, wired to these and to a name for x, is
-- a region of their plan.
--
-- Read first: Frames; Block of gos_nodes; Names of gos_supplies.
use Rattle.std.specs.Prelude.{◌≡◌, ◌≢◌, ℕ, suc, ◌+◌, ◌<◌, ◌≤◌, List, [], ◌∷◌, ◌++◌, nat_eq, Contains, if◌then◌else◌}
use Rattle.gos_types.specs.Types.{Type', Exp, Var, Fun, IsDone}
use Rattle.gos_model.specs.Terms.{Name, Import}
use Rattle.gos_model.specs.Typing.{Imported, array_type}
use Rattle.gos_check.specs.Nodes.{Numbered, Under, OfNew, OfArray, type_of_node}
use Rattle.gos_check.specs.Linearity.{times, made, used}
use Rattle.gos_plan.specs.Plans.{Plan}
use Rattle.gos_supplies.specs.names.Names.{name_plan}
use Rattle.gos_supplies.specs.arrays.ArrayNames.{array_name}
use Rattle.gos_nodes.specs.sessions.Sessions.{bits}
use Rattle.gos_nodes.specs.blocks.Servers.{Server, local_server, array_server}
use Rattle.gos_nodes.specs.blocks.Block.{Block, IsBlock}
use Rattle.gos_compile.specs.Wiring.{Types}
use Rattle.gos_terms.specs.regions.Frames.{KeepsImports}
use Rattle.gos_terms.specs.wired.Wired.{Supplies, Placing, IsWired}

-- the plan of a port's name
abbrev pub port_plan : Name → Type' → Plan
port_plan x (Fun (Exp i) (Var w)) = array_name x i w
port_plan x t = name_plan x t

-- with a name for a number
abbrev pub with_name : ℕ → Name → Type' → Supplies → Supplies
with_name n x t env k = if nat_eq k n then record { plan = port_plan x t; term = Import x } else env k

-- The bound number and those outside are there once, or made once, and what the body uses and doesn't make is among them.
pub record IsBound (n : ℕ) (m : Numbered) (ns : List ℕ) : Type 0 where
  pub once : (k : ℕ) → times k (made m) + times k (ns ++ n ∷ []) ≤ 1
  pub knows : (k : ℕ) → 0 < times k (used m) → 0 < times k (made m) + times k (ns ++ n ∷ [])

-- What the block is made of: a plan for its body, wired to the supplies and the name, and where it lies.
pub record HasBody (types : Types) (i j n : ℕ) (m : Numbered) (ns : List ℕ) (env : Supplies) (own : ℕ) (a : Server) (x : Name) (r : Plan) : Type 0 where
  pub block : Block
  pub placing : Placing
  pub at : block.own ≡ own
  pub server : block.server ≡ a
  pub name : block.variable ≡ record { name = x; ty = a.supply }
  pub wired : IsWired types (i + 1) (suc j) m (ns ++ n ∷ []) (with_name n x a.supply env) placing block.body
  pub is_block : IsBlock r block
  pub imports : KeepsImports block.cut

-- A node `new x : w in m` that is wired to supplies is made of its body, wired to them and to a name that no import has.
abbrev pub BlockIsWired : Type 0
BlockIsWired =
    (types : Types) (i j w n : ℕ) (t : Type') (m : Numbered) (ns : List ℕ) (env : Supplies) (pl : Placing) (x : Name) (r : Plan)
    → IsWired types i j (Under t [] (OfNew w) n m) ns env pl r → IsDone t → type_of_node m ≡ t → types n ≡ Var w → IsBound n m ns
    → ((y : Imported) → Contains r.imports y → y.name ≢ x) → HasBody types i j n m ns env (pl.own 0) (local_server w (bits r.outcome)) x r

-- And so is a node `new a[k] : w in m`.
abbrev pub ArrayBlockIsWired : Type 0
ArrayBlockIsWired =
    (types : Types) (i j k w n : ℕ) (t : Type') (m : Numbered) (ns : List ℕ) (env : Supplies) (pl : Placing) (x : Name) (r : Plan)
    → IsWired types i j (Under t [] (OfArray k w) n m) ns env pl r → IsDone t → type_of_node m ≡ t → types n ≡ array_type k w → IsBound n m ns
    → ((y : Imported) → Contains r.imports y → y.name ≢ x) → HasBody types i j n m ns env (pl.own 0) (array_server w k (bits r.outcome)) x r
