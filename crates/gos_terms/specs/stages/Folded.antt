-- The plan of a child lies as a fold in the plan of its node.
--
-- Read first: Folding, Housing; Folds of gos_nodes.
use Rattle.std.specs.Prelude.{◌≡◌, ℕ, ◌+◌, List, length, Some, slice_get}
use Rattle.gos_check.specs.Nodes.{type_of_node}
use Rattle.gos_types.specs.Types.{Type'}
use Rattle.gos_plan.specs.Kinds.{Contact, Part, contacts_of}
use Rattle.gos_plan.specs.Plans.{ResultEnd, Plan, contact_at, contacts_of_part, turned_if}
use Rattle.gos_joining.specs.webs.Webs.{Tie, IsOfWeb}
use Rattle.gos_nodes.specs.folds.Folds.{IsFold}
use Rattle.gos_compile.specs.Wiring.{parts_of}
use Rattle.gos_terms.specs.wired.Wired.{Placing, dot_at}
use Rattle.gos_terms.specs.stages.Folding.{Lead, AtOwn, AtResult, Child, lodge, child_web, child_cut, child_fold, child_servings, IsChild, IsLaid}
use Rattle.gos_terms.specs.stages.Housing.{HasShares}

-- a handshake to which one of the child leads is seen so, by the node's parts and its type
abbrev pub Sees : ℕ → List Part → Type' → Lead → Contact → Type 0
Sees q own t (AtOwn s) k = slice_get (contacts_of_part (slice_get own q)) s ≡ Some k
Sees q own t (AtResult s) k = turned_if (slice_get (contacts_of t) s) ≡ Some k

-- The parts of the node, of this type: those of its splits first, its own, and the child's. A handshake of the child is seen alike
-- where it leads.
pub record HasChild (f : Child) (own : List Part) (t : Type') (c : Plan) : Type 0 where
  pub shares : HasShares f.types f.splits own
  pub child : (x : ℕ) (y : Part) → slice_get (parts_of f.types f.term) x ≡ Some y → slice_get own (f.off + x) ≡ Some y
  pub outcome : c.outcome ≡ type_of_node f.term
  pub asks :
      (h : ℕ) (l : Lead) (k : Contact) → slice_get f.out h ≡ Some l → contact_at c (ResultEnd h) ≡ Some k → Sees f.own own t l k

-- Each part of the child's plan is one of the node's, and is told by it.
pub record IsPartOf (f : Child) (pl plc : Placing) (r c : Plan) : Type 0 where
  pub parts :
      (j : ℕ) (y : Part) → slice_get c.parts j ≡ Some y
      → (slice_get r.parts ((child_cut f pl plc (length r.parts)).part j) ≡ Some y)
      × ((child_cut f pl plc (length r.parts)).number ((child_cut f pl plc (length r.parts)).part j) ≡ Some j)
  pub numbers :
      (i j : ℕ) → (child_cut f pl plc (length r.parts)).number i ≡ Some j
      → ((child_cut f pl plc (length r.parts)).part j ≡ i) × ((y : Part) × (slice_get c.parts j ≡ Some y))

abbrev pub ChildIsPart : Type 0
ChildIsPart =
    (f : Child) (own : List Part) (ts : List Tie) (pl plc : Placing) (r c : Plan)
    → IsChild f ts → HasChild f own r.outcome c → IsLaid own f.numbers f.env pl r → IsLaid (parts_of f.types f.term) f.uses (lodge f).env plc c
    → IsPartOf f pl plc r c

-- So the plan is a fold.
abbrev pub ChildIsFolded : Type 0
ChildIsFolded =
    (f : Child) (own : List Part) (ts : List Tie) (pl plc : Placing) (r c : Plan)
    → IsChild f ts → HasChild f own r.outcome c → IsLaid own f.numbers f.env pl r → IsLaid (parts_of f.types f.term) f.uses (lodge f).env plc c
    → IsOfWeb (record { ties = ts; at = dot_at f.first pl }) r
    → IsFold (child_fold f pl plc (length r.parts)) (child_servings f pl) (record { ties = ts; at = dot_at f.first pl }) (child_web f plc) r c
