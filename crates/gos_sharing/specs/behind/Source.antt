-- A Share of any type is loyal to its one caller, where its source is joined to a region that is a regular plan.
--
-- Read first: Behind; Cutting of gos_joining; Buffers of buffers, which has loyalty. The region asks nothing before it is asked.
use Rattle.std.specs.Prelude.{◌≡◌, ℕ, ◌-◌, ◌<◌, Some, None, slice_get}
use Rattle.gos_types.specs.declared.shakes.Role.TheVariants.{Ask}
use Rattle.gos_types.specs.Types.{Type'}
use Rattle.gos_plan.specs.Kinds.{Contact, Share}
use Rattle.gos_plan.specs.Plans.{ImportEnd, ResultEnd, Plan, contact_at}
use Rattle.gos_realises.specs.realises.Regular.{count, IsRegular}
use Rattle.gos_realises.specs.realises.Realises.{AllGround}
use Rattle.gos_joining.specs.webs.Cutting.{Cut, StandsIn, IsCut}
use Rattle.gos_sharing.specs.sharing.Sharing.{source_end, caller_end}
use Rattle.gos_sharing.specs.buffers.Buffers.{IsLoyal}
use Rattle.gos_sharing.specs.behind.Behind.{IsBehind}

-- Part i of r is a Share of type t, of whose callers c alone is joined. What is joined to its source is the result of p, a region; and p's
-- imports are joined to nothing else.
pub record IsBefore (f : Cut) (i : ℕ) (t : Type') (c : ℕ) (r p : Plan) : Type 0 where
  pub cut : IsCut f r p
  pub share : slice_get r.parts i ≡ Some (Share t)
  pub caller : c < 2
  pub outcome : p.outcome ≡ t
  pub outside : f.number i ≡ None
  pub alone : (j : ℕ) → j < count t → StandsIn r (caller_end i t (1 - c) j) → ⊥
  pub source : (j : ℕ) → StandsIn p (ResultEnd j) → f.outer (ResultEnd j) ≡ source_end i j
  pub joined : (j : ℕ) → j < count t → StandsIn r (source_end i j) → StandsIn p (ResultEnd j)
  pub ports : (n h : ℕ) → StandsIn p (ImportEnd n h) → (m : ℕ) × (l : ℕ) × (f.outer (ImportEnd n h) ≡ ImportEnd m l)

-- Where the surroundings ask the region at an import of the whole, the region has all of that import that stands in a joint. Else they
-- might ask it while another part of the whole uses that import.
abbrev pub HasItsImports : Cut → Plan → Plan → Type 0
HasItsImports f r p =
    (n h m l g : ℕ) (x : Contact)
    → StandsIn p (ImportEnd n h) → f.outer (ImportEnd n h) ≡ ImportEnd m l → contact_at r (ImportEnd m l) ≡ Some x → x.role ≡ Ask → StandsIn r (ImportEnd m g)
    → (k : ℕ) × (j : ℕ) × StandsIn p (ImportEnd k j) × (f.outer (ImportEnd k j) ≡ ImportEnd m g)

-- Then the Share is loyal to that caller, whatever is joined to it there, with imports of any types.
abbrev pub SourcesAreLoyal : Type 0
SourcesAreLoyal =
    (f : Cut) (i : ℕ) (t : Type') (c : ℕ) (r p : Plan) → IsBefore f i t c r p → HasItsImports f r p → IsRegular p → IsLoyal i c t r

-- At ground imports the surroundings don't ask.
abbrev pub GroundSourcesAreLoyal : Type 0
GroundSourcesAreLoyal =
    (f : Cut) (i : ℕ) (t : Type') (c : ℕ) (r p : Plan) → IsBefore f i t c r p → AllGround r.imports → IsRegular p → IsLoyal i c t r

-- So is the Share of a plan behind it.
abbrev pub BehindIsLoyal : Type 0
BehindIsLoyal = (i : ℕ) (t : Type') (c : ℕ) (r p : Plan) → IsBehind i t c r p → IsRegular p → IsLoyal i c t r
