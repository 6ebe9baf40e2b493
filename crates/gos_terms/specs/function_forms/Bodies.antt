-- A function's node, applied to an argument, is its body with the argument for the bound number.
--
-- Read first: Wired of wired; Wirings of gos_realises.
use Rattle.std.specs.Prelude.{◌≢◌, ℕ, suc, List, [], ◌∷◌, ◌++◌, Contains, nat_eq, if◌then◌else◌}
use Rattle.gos_types.specs.Types.{Fun}
use Rattle.gos_check.specs.Nodes.{Numbered, Under, OfFun, type_of_node}
use Rattle.gos_plan.specs.Plans.{Plan, IsRight}
use Rattle.gos_realises.specs.realises.Links.{IsJoined}
use Rattle.gos_realises.specs.realises.Wirings.{applying}
use Rattle.gos_realises.specs.realises.Modules.{Supply}
use Rattle.gos_compile.specs.Wiring.{Types}
use Rattle.gos_terms.specs.wired.Wired.{Supplies, Placing, IsWired}

-- the supplies, and one for this number
abbrev pub with_supply : ℕ → Supply → Supplies → Supplies
with_supply n s env = λ k. if nat_eq k n then s else env k

-- The plan of a function's node, applied to any right plan, is the plan of its body, wired with that plan for the bound number.
abbrev pub AppliedIsBody : Type 0
AppliedIsBody =
    (types : Types) (i j n : ℕ) (m : Numbered) (ns : List ℕ) (env : Supplies) (pl : Placing) (r : Plan) (s : Supply) (r' : Plan)
    → IsWired types i j (Under (Fun (types n) (type_of_node m)) [] OfFun n m) ns env pl r → ((k : ℕ) → Contains ns k → k ≢ n) → IsRight s.plan
    → IsJoined (applying (types n) (type_of_node m) r s.plan) r'
    → (p : Placing) × IsWired types i (suc j) m (ns ++ n ∷ []) (with_supply n s env) p r'
