-- Each token has at most the bits of its handshake, and each number that a part works with those of its width.
--
-- Read first: Tokens, Ranges. So a token without bits is 0.
use Rattle.std.specs.Prelude.{◌≡◌, ℕ, ◌^◌, ◌<◌, List, Some, All, length, slice_get, map}
use Rattle.std.specs.List.{AllByRecursion}
use Rattle.gos_types.specs.Events.{Direction}
use Rattle.gos_plan.specs.declared.kinds.Kind.{Kind}
use Rattle.gos_plan.specs.Kinds.{Part, Lit, If, Op, Local, Array, Contact}
use Rattle.gos_plan.specs.Firing.{Phase, Branch, Right, Active, Cells, Reading, WritingTo, State}
use Rattle.gos_plan.specs.Plans.{End, Plan, IsRight, contact_at}
use Rattle.gos_plan.specs.Tokens.{Tokens, Element, bits_of, token_at, Runs, IsIdle}
use Rattle.gos_plan.specs.Seen.{part_of}
use Rattle.gos_plan.specs.Ranges.{IsInRange}

-- a literal has at most its bits
abbrev pub LiteralFits : Part → Type 0
LiteralFits (Lit w k) = k < 2 ^ w
LiteralFits k = Unit {0}

-- so have the numbers of an array, which has k of them
abbrev pub NumbersFit : ℕ → ℕ → List ℕ → Type 0
NumbersFit w k ns = (length ns ≡ k) × AllByRecursion (λ n. n < 2 ^ w) ns

abbrev pub ArrayFits : ℕ → ℕ → Phase → ℕ → Type 0
ArrayFits w k (Cells ns) a = NumbersFit w k ns
ArrayFits w k (Reading ns) a = NumbersFit w k ns
ArrayFits w k (WritingTo ns) a = NumbersFit w k ns × (a < 2 ^ w)
ArrayFits w k p a = Unit {0}

-- so has the number that a part works with: a branch, an operand, that of a variable, or one to be written
abbrev pub NumberFits : Part → State → Type 0
NumberFits (If v) q = q.phase ≡ Branch → q.number < 2
NumberFits (Op op w) q = q.phase ≡ Right → q.number < 2 ^ w
NumberFits (Local w v) q = q.phase ≡ Active → q.number < 2 ^ w
NumberFits (Array w k v) q = ArrayFits w k q.phase q.number
NumberFits k q = Unit {0}

-- a token that lies at an end has at most the bits of the handshake there
abbrev pub TokensFit : Plan → Tokens → Type 0
TokensFit p s =
    (e : End) (c : Contact) (way : Direction) (v : ℕ)
    → contact_at p e ≡ Some c → token_at p s e way ≡ Some v → v < 2 ^ bits_of c way

-- tokens and numbers fit
abbrev pub AllFit : Plan → Tokens → Type 0
AllFit p s = TokensFit p s × ((i : ℕ) (k : Part) → slice_get p.parts i ≡ Some k → NumberFits k (s.state i))

-- Where they do, they still do after every list that is possible, orderly or not.
abbrev pub AllStayFit : Type 0
AllStayFit = (p : Plan) (xs : List Element) (s t : Tokens) → IsRight p → All LiteralFits p.parts → AllFit p s → Runs p xs s t → AllFit p t

-- they do in an idle state
abbrev pub IdleFits : Type 0
IdleFits = (p : Plan) (s : Tokens) → IsIdle p s → AllFit p s

-- the literals of kinds in range fit
abbrev pub LiteralsFit : Type 0
LiteralsFit = (kinds : List Kind) → All IsInRange kinds → All LiteralFits (map part_of kinds)
