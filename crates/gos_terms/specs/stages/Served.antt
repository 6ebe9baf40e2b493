-- The Shares that serve a child, and their handshakes that serve somebody else.
--
-- Read first: Folding, Housing.
use Rattle.std.specs.Prelude.{◌≡◌, ℕ, ◌+◌, ◌-◌, ◌*◌, ◌<◌, Bool, true, false, List, Some, None, slice_get, Contains}
use Rattle.gos_types.specs.Types.{Type'}
use Rattle.gos_check.specs.declared.linear.Split.{Split}
use Rattle.gos_check.specs.Linearity.{times, split_in}
use Rattle.gos_plan.specs.Kinds.{Contact, Share}
use Rattle.gos_plan.specs.Plans.{PartEnd, contact_at}
use Rattle.gos_realises.specs.realises.Regular.{count}
use Rattle.gos_joining.specs.webs.Cutting.{StandsIn}
use Rattle.gos_nodes.specs.windows.Regions.{Serving}
use Rattle.gos_compile.specs.Wiring.{Types, shares}
use Rattle.gos_terms.specs.wired.Wired.{Supplies, Own, Placing, source_dot}
use Rattle.gos_terms.specs.wired.NodeFitting.{AreOfTypes}
use Rattle.gos_terms.specs.stages.Inside.{numbers_inside, AreSplit, SidesAgree}
use Rattle.gos_terms.specs.stages.Lodging.{Spot, serves_side, lodged, AreTidy}
use Rattle.gos_terms.specs.stages.Folding.{servings}

-- Share x of the node, of type t, is seen from side c.
pub record IsSeenFrom (types : Types) (i : ℕ) (inner : ℕ → Bool) (ss : List Split) (env : Supplies) (x : ℕ) (t : Type') (c : ℕ) : Type 0 where
  pub share : slice_get (shares ss types) x ≡ Some (Share t)
  pub side : c < 2
  pub seen :
      (h : ℕ) → serves_side (count t) c h ≡ true → (z : Spot) × ((lodged types i inner ss env).home (source_dot i (Own x) h) ≡ Some z)
  pub unseen : (h : ℕ) → serves_side (count t) c h ≡ false → (lodged types i inner ss env).home (source_dot i (Own x) h) ≡ None

abbrev pub ServingsServe : Type 0
ServingsServe =
    (types : Types) (i : ℕ) (inner : ℕ → Bool) (ss : List Split) (env : Supplies) (ns : List ℕ) (pl : Placing) (n : Serving)
    → AreTidy inner ss ns → Contains (servings types pl inner 0 ss) n
    → (x : ℕ) × (n.part ≡ pl.own x) × IsSeenFrom types i inner ss env x n.ty n.side

-- A spare handshake is of such a Share's other caller, and stands in no joint.
pub record IsSpareOf (types : Types) (i : ℕ) (inner : ℕ → Bool) (ss : List Split) (env : Supplies) (pl : Placing) (n k h : ℕ) : Type 0 where
  pub number : ℕ
  pub ty : Type'
  pub side : ℕ
  pub shake : ℕ
  pub from : (lodged types i inner ss env).part n k ≡ Own number
  pub serving : Contains (servings types pl inner 0 ss) (record { part = pl.own number; ty = ty; side = side })
  pub small : shake < count ty
  pub at : h ≡ count ty + (1 - side) * count ty + shake
  pub alone : StandsIn ((lodged types i inner ss env).env n).plan (PartEnd k h) → ⊥

abbrev pub SparesAreOthers : Type 0
SparesAreOthers =
    (types : Types) (i : ℕ) (inner : ℕ → Bool) (ss : List Split) (env : Supplies) (ns : List ℕ) (pl : Placing) (n k h : ℕ) (d : Contact)
    → AreTidy inner ss ns → SidesAgree ss types → AreSplit ss ns → AreOfTypes types env ns
    → Contains (numbers_inside ss ns) n → times n (split_in ss) ≡ 0 → inner n ≡ true
    → contact_at ((lodged types i inner ss env).env n).plan (PartEnd k h) ≡ Some d → (lodged types i inner ss env).spare n k h ≡ true
    → IsSpareOf types i inner ss env pl n k h
