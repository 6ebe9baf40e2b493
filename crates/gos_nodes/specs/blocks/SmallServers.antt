-- A local variable is a server of a variable and an array one of an array, and of nothing else; other parts are none.
--
-- Read first: Servers.
use Rattle.std.specs.Prelude.{ℕ, suc, true, false}
use Rattle.gos_types.specs.Types.{Exp, Var}
use Rattle.gos_model.specs.Typing.{array_type}
use Rattle.gos_plan.specs.Kinds.{Lit, Seq, Share}
use Rattle.gos_nodes.specs.blocks.Servers.{IsServer, local_server, array_server}

abbrev pub LocalIsServer : Type 0
LocalIsServer = (w v : ℕ) → IsServer (local_server w v) v

-- another part in its place isn't
abbrev pub OthersAreNone : Type 0
OthersAreNone =
    (w v k : ℕ)
    → (IsServer (record (local_server w v) { part = Lit w k }) v → ⊥)
    × (IsServer (record (local_server w v) { part = Seq v }) v → ⊥)
    × (IsServer (record (local_server w v) { part = Share (Var w) }) v → ⊥)

-- nor is it one of an expression, of another width, or with another answer
abbrev pub TypeIsNeeded : Type 0
TypeIsNeeded =
    (w v : ℕ)
    → (IsServer (record (local_server w v) { supply = Exp w }) v → ⊥)
    × (IsServer (record (local_server w v) { supply = Var (suc w) }) v → ⊥)
    × (IsServer (local_server w v) (suc v) → ⊥)

-- nor where something of it is said to be open, or its body is said never to run
abbrev pub OpenIsNone : Type 0
OpenIsNone =
    (w v : ℕ)
    → (IsServer (record (local_server w v) { opened = λ q h. true }) v → ⊥)
    × (IsServer (record (local_server w v) { runs = λ p. false }) v → ⊥)

abbrev pub ArrayIsServer : Type 0
ArrayIsServer = (w n v : ℕ) → IsServer (array_server w n v) v

-- An array is no server of a variable, nor of an array of another length; and a read that waits for its index is open.
abbrev pub ArrayTypeIsNeeded : Type 0
ArrayTypeIsNeeded =
    (w v : ℕ)
    → (IsServer (record (array_server w 2 v) { supply = Var w }) v → ⊥)
    × (IsServer (record (array_server w 2 v) { supply = array_type 4 w }) v → ⊥)
    × (IsServer (record (array_server w 2 v) { opened = λ q h. false }) v → ⊥)
