-- A side of a plan of a product behind a Share does what that side of the plan does behind a Share of its own type.
--
-- Read first: Behind of behind; Wirings of gos_realises; Narrow of parts_of_types; Core of cores.
use Rattle.std.specs.Prelude.{◌≡◌, ℕ, ◌<◌, All}
use Rattle.gos_types.specs.Types.{Type', Pair}
use Rattle.gos_plan.specs.Plans.{Plan, IsRight}
use Rattle.gos_plan.specs.TokenBits.{LiteralFits}
use Rattle.gos_realises.specs.realises.Regular.{count, IsRegular}
use Rattle.gos_realises.specs.realises.Links.{IsJoined}
use Rattle.gos_realises.specs.realises.Wirings.{side}
use Rattle.gos_sharing.specs.behind.Behind.{passing}
use Rattle.gos_sharing.specs.parts_of_types.Narrow.{Narrowing, IsNarrow}
use Rattle.gos_sharing.specs.cores.Core.{Core, IsCore, IsStill}

-- Of x a part alone gets tokens: u, with a wide Share in place of one of its own. Both have x's parts and imports.
abbrev pub HasNarrowCore : Plan → Plan → Type 0
HasNarrowCore x u =
    (f : Narrowing) × (h : Core) × (z : Plan) × IsNarrow f z u × IsCore h x z × IsStill h x z × (z.parts ≡ x.parts) × (z.imports ≡ x.imports)

-- So it is of either side of a regular plan behind either caller of a Share of the product. The other side's handshakes keep their joints at
-- the Share's source, and get no token.
abbrev pub SidesHaveCores : Type 0
SidesHaveCores =
    (a b : Type') (c : ℕ) (p : Plan)
    → c < 2 → IsRight p → p.outcome ≡ Pair a b → All LiteralFits p.parts → IsRegular p
    → ((x v : Plan) → IsJoined (side 0 a (passing (Pair a b) c p)) x → IsJoined (side 0 a p) v → HasNarrowCore x (passing a c v))
    × ((x v : Plan) → IsJoined (side (count a) b (passing (Pair a b) c p)) x → IsJoined (side (count a) b p) v → HasNarrowCore x (passing b c v))
