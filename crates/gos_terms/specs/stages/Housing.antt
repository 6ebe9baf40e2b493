-- Which parts and imports of a node's plan are those of a supply inside its splits.
--
-- Read first: Lodging. Parts of such a supply are parts of the node, or of a supply outside, and a part of these that is at home in it
-- is one of its.
use Rattle.std.specs.Prelude.{◌≡◌, ℕ, ◌<◌, ◌≤◌, Bool, false, List, length, Some, None, slice_get, Contains}
use Rattle.gos_check.specs.declared.linear.Split.{Split}
use Rattle.gos_plan.specs.Kinds.{Part}
use Rattle.gos_plan.specs.Plans.{PartEnd}
use Rattle.gos_compile.specs.Wiring.{Types, shares}
use Rattle.gos_terms.specs.wired.Wired.{Supplies, Source, Own, Supplied, IsFrom, source_dot}
use Rattle.gos_terms.specs.stages.Inside.{numbers_inside, AreSplit}
use Rattle.gos_terms.specs.stages.Lodging.{Spot, Lodging, lodged, AreTidy}

-- the first parts of the node are the Shares of its splits
abbrev pub HasShares : Types → List Split → List Part → Type 0
HasShares types ss own = (x : ℕ) (y : Part) → slice_get (shares ss types) x ≡ Some y → slice_get own x ≡ Some y

-- A part of what stands for a number is the part from which it is said to come.
abbrev pub PartsAreFrom : Type 0
PartsAreFrom =
    (types : Types) (i : ℕ) (inner : ℕ → Bool) (ss : List Split) (env : Supplies) (ns : List ℕ) (own : List Part) (n k : ℕ) (y : Part)
    → AreTidy inner ss ns → AreSplit ss ns → HasShares types ss own → Contains (numbers_inside ss ns) n
    → slice_get ((lodged types i inner ss env).env n).plan.parts k ≡ Some y → IsFrom own ns env y ((lodged types i inner ss env).part n k)

-- Its imports are those of a supply outside.
abbrev pub ImportsAreFrom : Type 0
ImportsAreFrom =
    (types : Types) (i : ℕ) (inner : ℕ → Bool) (ss : List Split) (env : Supplies) (ns : List ℕ) (n : ℕ)
    → AreTidy inner ss ns → AreSplit ss ns → Contains (numbers_inside ss ns) n
    → Contains ns ((lodged types i inner ss env).root n)
    × (((lodged types i inner ss env).env n).plan.imports ≡ (env ((lodged types i inner ss env).root n)).plan.imports)

-- a Share, or a part of a supply outside
abbrev pub IsOutsider : ℕ → Source → Type 0
IsOutsider m (Own x) = x < m
IsOutsider m (Supplied n k) = Unit {0}

abbrev pub PartsAreOutsiders : Type 0
PartsAreOutsiders =
    (types : Types) (i : ℕ) (inner : ℕ → Bool) (ss : List Split) (env : Supplies) (n k : ℕ)
    → IsOutsider (length ss) ((lodged types i inner ss env).part n k)

-- A part of the node behind its Shares stands for nothing; and the first handshake of a part serves nobody else.
abbrev pub FarIsNothing : Type 0
FarIsNothing =
    (types : Types) (i : ℕ) (inner : ℕ → Bool) (ss : List Split) (env : Supplies) (x h : ℕ)
    → length ss ≤ x → (lodged types i inner ss env).home (source_dot i (Own x) h) ≡ None

abbrev pub FirstIsKept : Type 0
FirstIsKept =
    (types : Types) (i : ℕ) (inner : ℕ → Bool) (ss : List Split) (env : Supplies) (n k : ℕ) → (lodged types i inner ss env).spare n k 0 ≡ false

-- the part of a supply where a handshake of this source is at home
pub record IsIn (l : Lodging) (s : Source) (h : ℕ) (z : Spot) : Type 0 where
  pub part : ℕ
  pub end : z.end ≡ PartEnd part h
  pub from : l.part z.number part ≡ s
  pub within : part < length (l.env z.number).plan.parts

-- a Share of the node, or a part of one of the supplies outside
abbrev pub IsThere : ℕ → List ℕ → Supplies → Source → Type 0
IsThere m ns env (Own x) = x < m
IsThere m ns env (Supplied n k) = Contains ns n × (k < length (env n).plan.parts)

-- A part that is at home in a supply is one of its parts.
abbrev pub HomesAreThere : Type 0
HomesAreThere =
    (types : Types) (i : ℕ) (inner : ℕ → Bool) (ss : List Split) (env : Supplies) (ns : List ℕ) (s : Source) (h : ℕ) (z : Spot)
    → AreTidy inner ss ns → IsThere (length ss) ns env s
    → (lodged types i inner ss env).home (source_dot i s h) ≡ Some z → IsIn (lodged types i inner ss env) s h z
