-- The plan of a module, joined to its supplies, is its term's node, wired to them.
--
-- Read first: Wired; Linearity of gos_check. The numbers of the imports are their places in the list.
use Rattle.std.specs.Prelude.{◌≡◌, ◌≢◌, ℕ, zero, suc, ◌<◌, ◌≤◌, List, [], ◌∷◌, length, Some}
use Rattle.gos_types.specs.Types.{Type', Com}
use Rattle.gos_model.specs.Terms.{Skip}
use Rattle.gos_model.specs.Typing.{Imports}
use Rattle.gos_check.specs.Nodes.{Numbered, type_of_node}
use Rattle.gos_check.specs.Linearity.{times, made}
use Rattle.gos_plan.specs.Kinds.{Contact, turned_contact}
use Rattle.gos_plan.specs.Plans.{End, Plan, contact_at}
use Rattle.gos_ties.specs.declared.points.Tie.{Tie}
use Rattle.gos_ties.specs.Ties.{at, Path}
use Rattle.gos_realises.specs.realises.Links.{IsJoined}
use Rattle.gos_realises.specs.realises.Modules.{Supply, AreSupplied, supplying}
use Rattle.gos_compile.specs.Wiring.{IsPlanOf, all_types, all_ties}
use Rattle.gos_terms.specs.wired.Wired.{Supplies, Placing, IsWired}

-- the supply of each number of a list's; another number has one without parts
abbrev pub supply_at : List Supply → Supplies
supply_at [] n = record { plan = record { weight = 0; imports = []; outcome = Com; parts = []; joints = [] }; term = Skip }
supply_at (s ∷ ss) zero = s
supply_at (s ∷ ss) (suc n) = supply_at ss n

-- n, n + 1, .., so many of them
abbrev pub numbers_from : ℕ → ℕ → List ℕ
numbers_from n zero = []
numbers_from n (suc m) = n ∷ numbers_from (suc n) m

-- of two ends that there are and that a path of ties connects each is the other side of the other
abbrev pub PathsFit : List Tie → Plan → Type 0
PathsFit ts p =
    (a b : End) (c d : Contact) → contact_at p a ≡ Some c → contact_at p b ≡ Some d → a ≢ b → Path ts (at a) (at b) → d ≡ turned_contact c

-- the term makes no number that is an import's
abbrev pub MakesNoImport : Imports → Numbered → Type 0
MakesNoImport is m = (k : ℕ) → 0 < times k (made m) → length is ≤ k

-- What `IsPlanOf` doesn't say follows from the term's typing: the type is the node's, no number of an import is made again,
-- and what ties connect fits.
abbrev pub SuppliedIsWired : Type 0
SuppliedIsWired =
    (is : Imports) (t : Type') (w : ℕ) (m : Numbered) (p r : Plan) (ss : List Supply)
    → IsPlanOf is t w m p → t ≡ type_of_node m → MakesNoImport is m → PathsFit (all_ties is m) p → AreSupplied is ss → IsJoined (supplying p ss) r
    → (pl : Placing) × IsWired (all_types is m) 0 0 m (numbers_from 0 (length is)) (supply_at ss) pl r
