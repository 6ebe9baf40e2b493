-- Each child of a wired node is a region of its plan, with a plan that is the child, wired.
--
-- Read first: Folded; Regions of gos_nodes.
use Rattle.std.specs.Prelude.{◌≡◌, ℕ, ◌+◌, ◌≤◌, List, length, Some, slice_get}
use Rattle.gos_check.specs.Nodes.{type_of_node}
use Rattle.gos_check.specs.Linearity.{times}
use Rattle.gos_types.specs.Types.{Type'}
use Rattle.gos_plan.specs.Kinds.{Contact, Part, contacts_of}
use Rattle.gos_plan.specs.Plans.{Plan, turned_if}
use Rattle.gos_joining.specs.webs.Webs.{Tie, IsOfWeb}
use Rattle.gos_nodes.specs.windows.Regions.{IsRegion}
use Rattle.gos_nodes.specs.folds.Folds.{joined_cut}
use Rattle.gos_compile.specs.Wiring.{parts_of}
use Rattle.gos_terms.specs.wired.Wired.{Placing, IsWired, dot_at}
use Rattle.gos_terms.specs.stages.Inside.{inside_supplies}
use Rattle.gos_terms.specs.stages.Housing.{HasShares}
use Rattle.gos_terms.specs.stages.Folded.{Sees}
use Rattle.gos_terms.specs.stages.Folding.{Lead, Child, child_cut, child_servings, IsChild, IsLaid}

-- The parts of the node, of this type: those of its splits first, its own, and the child's. A handshake of the child is seen alike
-- where it leads.
pub record HasParts (f : Child) (own : List Part) (t : Type') : Type 0 where
  pub shares : HasShares f.types f.splits own
  pub child : (x : ℕ) (y : Part) → slice_get (parts_of f.types f.term) x ≡ Some y → slice_get own (f.off + x) ≡ Some y
  pub asks :
      (h : ℕ) (l : Lead) (k : Contact)
      → slice_get f.out h ≡ Some l → turned_if (slice_get (contacts_of (type_of_node f.term)) h) ≡ Some k → Sees f.own own t l k

-- the child's plan, numbered by plc, is wired to its supplies and lies in the node's
pub record IsStaged (f : Child) (pl plc : Placing) (r c : Plan) : Type 0 where
  pub wired : IsWired f.types (f.first + f.off) f.node f.term f.uses (inside_supplies f.types f.splits f.env) plc c
  pub region : IsRegion (joined_cut (child_cut f pl plc (length r.parts)) c.joints) (child_servings f pl) r c

abbrev pub ChildIsStaged : Type 0
ChildIsStaged =
    (f : Child) (own : List Part) (ts : List Tie) (pl : Placing) (r : Plan)
    → IsChild f ts → HasParts f own r.outcome → ((k : ℕ) → times k f.uses ≤ 1) → IsLaid own f.numbers f.env pl r
    → IsOfWeb (record { ties = ts; at = dot_at f.first pl }) r
    → (plc : Placing) × (c : Plan) × IsStaged f pl plc r c
