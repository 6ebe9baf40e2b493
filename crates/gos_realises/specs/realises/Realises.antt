-- What it means that a plan whose imports are ports, ground or of arrays, realises a term.
--
-- Read first: Matched, Regular, Wirings. It is a relation by the type of the term, in the manner of a logical relation
-- (Plotkin 1973): a plan of a function type realises a function where, joined to any plan that realises an argument, it
-- realises the application.
use Rattle.std.specs.Prelude.{◌≡◌, ◌≢◌, ℕ, ◌^◌, ◌<◌, List, [], ◌∷◌, All, Contains}
use Rattle.gos_types.specs.Types.{Type', Com, Exp, Var, Pair, Fun, IsGround, IsPort}
use Rattle.gos_model.specs.Terms.{Term, Lit, App, Fst, Snd, Assign, Deref}
use Rattle.gos_model.specs.Typing.{Imported, Typed}
use Rattle.gos_plan.specs.Plans.{Plan, IsRight}
use Rattle.gos_plan.specs.TokenBits.{LiteralFits}
use Rattle.gos_realises.specs.realises.Regular.{count, IsRegular}
use Rattle.gos_realises.specs.realises.Matched.{RealisesInTurn}
use Rattle.gos_realises.specs.realises.Links.{IsJoined}
use Rattle.gos_realises.specs.realises.Wirings.{reading, writing, side, applying}

abbrev pub AllGround : List Imported → Type 0
AllGround [] = Unit {0}
AllGround (i ∷ is) = IsGround i.ty × AllGround is

-- each is a port: ground, or an array's
abbrev pub AllPorts : List Imported → Type 0
AllPorts [] = Unit {0}
AllPorts (i ∷ is) = IsPort i.ty × AllPorts is

-- no two imports have one name, and none of these has the name of one of those
abbrev pub NamesDiffer : List Imported → Type 0
NamesDiffer [] = Unit {0}
NamesDiffer (i ∷ is) = ((j : Imported) → Contains is j → i.name ≢ j.name) × NamesDiffer is

abbrev pub HaveOtherNames : List Imported → List Imported → Type 0
HaveOtherNames is js = (i j : Imported) → Contains is i → Contains js j → i.name ≢ j.name

-- What a plan has to be before it is asked what it does: each of its joints is right, its literals have at most their
-- bits, its outcome is the type, its imports are ports and have different names, the term has the type under them, and it is
-- regular.
pub record Suits (t : Type') (p : Plan) (m : Term) : Type 0 where
  pub right : IsRight p
  pub literals : All LiteralFits p.parts
  pub outcome : p.outcome ≡ t
  pub all_ports : AllPorts p.imports
  pub names : NamesDiffer p.imports
  pub typed : Typed p.imports [] m t
  pub regular : IsRegular p

-- What a plan that suits does, by the type. Each plan that is joined to it, and each that comes of it, suits as well.
abbrev pub Means : Type' → Plan → Term → Type 0
Means Com p m = RealisesInTurn p m
Means (Exp w) p m = RealisesInTurn p m
Means (Var w) p m =
    ((r : Plan) → IsJoined (reading w p) r → Suits (Exp w) r (Deref m) × RealisesInTurn r (Deref m))
    × ((r : Plan) (k : ℕ) → k < 2 ^ w → IsJoined (writing w k p) r → Suits Com r (Assign m (Lit k w)) × RealisesInTurn r (Assign m (Lit k w)))
Means (Pair a b) p m =
    ((r : Plan) → IsJoined (side 0 a p) r → Suits a r (Fst m) × Means a r (Fst m))
    × ((r : Plan) → IsJoined (side (count a) b p) r → Suits b r (Snd m) × Means b r (Snd m))
Means (Fun a b) p m =
    (q r : Plan) (n : Term)
    → HaveOtherNames p.imports q.imports → Suits a q n → Means a q n → IsJoined (applying a b p q) r
    → Suits b r (App m n) × Means b r (App m n)

-- A plan whose imports are ports realises a term of this type. Nothing realises a variable of more than 64 bits
-- (`VariablesHaveWidths`), so for want of an argument any plan that suits realises a function of one; no module has such a type,
-- as `RealisesModule` asks that widths are in range.
pub record Realises (t : Type') (p : Plan) (m : Term) : Type 0 where
  pub suits : Suits t p m
  pub means : Means t p m
