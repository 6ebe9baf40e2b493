-- Uses: a node that applies, projects or reads, wired to its supplies, is joined of its children, wired to theirs.
--
-- Read first: Wired of wired; Woven of gos_joining; Wirings of gos_realises; Renumbering of gos_joining. The node's own
-- point lies between the function and its argument, and a side that isn't asked for leads to it.
use Rattle.std.specs.Prelude.{◌≡◌, ℕ, suc, ◌+◌, ◌<◌, List, [], ◌⊎◌, length, Some, slice_get, Contains}
use Rattle.gos_types.specs.Types.{Type', Exp, Var, Pair, Fun}
use Rattle.gos_model.specs.Typing.{Imported}
use Rattle.gos_check.specs.Nodes.{Numbered, One, Two, OfFst, OfSnd, OfDeref, OfApp, type_of_node}
use Rattle.gos_check.specs.Linearity.{times, used, made}
use Rattle.gos_plan.specs.Kinds.{Part}
use Rattle.gos_plan.specs.Plans.{Plan}
use Rattle.gos_realises.specs.realises.Regular.{count}
use Rattle.gos_realises.specs.realises.Links.{IsJoined}
use Rattle.gos_realises.specs.realises.Wirings.{reading, side, applying}
use Rattle.gos_joining.specs.webs.Webs.{WaysFit}
use Rattle.gos_joining.specs.webs.Renumbering.{Renumber, IsRenumbered}
use Rattle.gos_compile.specs.Wiring.{Types, parts_of, nodes}
use Rattle.gos_terms.specs.wired.Wired.{Supplies, Placing, Source, IsFrom, placed, wired_web, IsWired}
use Rattle.gos_joining.specs.weaving.Woven.{IsPlain}

-- what it is to be wired, but for the web: a result, and the parts and the imports where they are placed
pub record IsPlaced (types : Types) (m : Numbered) (ns : List ℕ) (env : Supplies) (pl : Placing) (r : Plan) : Type 0 where
  pub outcome : r.outcome ≡ type_of_node m
  pub parts : (x : Part) (s : Source) → IsFrom (parts_of types m) ns env x s → (slice_get r.parts (placed pl s) ≡ Some x) × (pl.source (placed pl s) ≡ s)
  pub no_more : (k : ℕ) (x : Part) → slice_get r.parts k ≡ Some x → IsFrom (parts_of types m) ns env x (pl.source k) × (placed pl (pl.source k) ≡ k)
  pub imports :
      (n k : ℕ) (x : Imported) → Contains ns n → slice_get (env n).plan.imports k ≡ Some x
      → (slice_get r.imports (pl.import n k) ≡ Some x) × (pl.origin (pl.import n k) ≡ record { number = n; import = k })
  pub no_import :
      (k : ℕ) (x : Imported) → slice_get r.imports k ≡ Some x
      → Contains ns (pl.origin k).number × (slice_get (env (pl.origin k).number).plan.imports (pl.origin k).import ≡ Some x)
      × (pl.import (pl.origin k).number (pl.origin k).import ≡ k)

-- However the parts are placed, what the node's web connects fits, and it connects each end to one other at most: so there is a
-- plan of it. Typing and linearity tell it of each node.
abbrev pub CanBeWired : Types → ℕ → ℕ → Numbered → List ℕ → Supplies → Type 0
CanBeWired types i j m ns env =
    (pl : Placing) (c : Plan) → IsPlaced types m ns env pl c → WaysFit (wired_web types i j m ns env pl) c × IsPlain (wired_web types i j m ns env pl) c

-- A node with a child of its own numbers, wired, is that child, wired, with one side of its result left unjoined.
pub record IsSide (k : ℕ) (t : Type') (types : Types) (i j : ℕ) (m : Numbered) (ns : List ℕ) (env : Supplies) (r : Plan) : Type 0 where
  pub child : Plan
  pub side_of : Plan
  pub placing : Placing
  pub numbers : Renumber
  pub wired : IsWired types i j m ns env placing child
  pub joined : IsJoined (side k t child) side_of
  pub same : IsRenumbered numbers r side_of

abbrev pub FirstIsSide : Type 0
FirstIsSide =
    (types : Types) (i j : ℕ) (t u : Type') (m : Numbered) (ns : List ℕ) (env : Supplies) (pl : Placing) (r : Plan)
    → IsWired types i j (One t [] OfFst m) ns env pl r → type_of_node m ≡ Pair t u → CanBeWired types i (suc j) m ns env
    → IsSide 0 t types i (suc j) m ns env r

abbrev pub SecondIsSide : Type 0
SecondIsSide =
    (types : Types) (i j : ℕ) (t u : Type') (m : Numbered) (ns : List ℕ) (env : Supplies) (pl : Placing) (r : Plan)
    → IsWired types i j (One u [] OfSnd m) ns env pl r → type_of_node m ≡ Pair t u → CanBeWired types i (suc j) m ns env
    → IsSide (count t) u types i (suc j) m ns env r

-- A node that reads a variable is the variable's, joined to a Deref.
pub record IsReading (w : ℕ) (types : Types) (i j : ℕ) (m : Numbered) (ns : List ℕ) (env : Supplies) (r : Plan) : Type 0 where
  pub child : Plan
  pub read : Plan
  pub placing : Placing
  pub numbers : Renumber
  pub wired : IsWired types i j m ns env placing child
  pub joined : IsJoined (reading w child) read
  pub same : IsRenumbered numbers r read

abbrev pub DerefIsReading : Type 0
DerefIsReading =
    (types : Types) (i j w : ℕ) (m : Numbered) (ns : List ℕ) (env : Supplies) (pl : Placing) (r : Plan)
    → IsWired types i j (One (Exp w) [] OfDeref m) ns env pl r → type_of_node m ≡ Var w → CanBeWired types (i + 1) (suc j) m ns env
    → IsReading w types (i + 1) (suc j) m ns env r

-- a number stands in a node: it is used or made there
abbrev pub Stands : ℕ → Numbered → Type 0
Stands k m = 0 < times k (used m) + times k (made m)

-- the numbers of a list are those of two others, which have none in common
pub record AreParted (ns ms ks : List ℕ) : Type 0 where
  pub either : (k : ℕ) → Contains ns k → Contains ms k ⊎ Contains ks k
  pub first : (k : ℕ) → Contains ms k → Contains ns k
  pub second : (k : ℕ) → Contains ks k → Contains ns k
  pub apart : (k : ℕ) → Contains ms k → Contains ks k → ⊥

-- No number stands in both nodes, nor in the one and among the supplied numbers of the other.
pub record AreApart (m n : Numbered) (ms ks : List ℕ) : Type 0 where
  pub nodes : (k : ℕ) → Stands k m → Stands k n → ⊥
  pub first : (k : ℕ) → Contains ms k → Stands k n → ⊥
  pub second : (k : ℕ) → Contains ks k → Stands k m → ⊥

-- A node that applies is the function's, applied to the argument's. The argument's parts come after the function's, and
-- so do its nodes.
pub record IsApplied (t : Type') (types : Types) (i j : ℕ) (m n : Numbered) (ms ks : List ℕ) (env : Supplies) (r : Plan) : Type 0 where
  pub function : Plan
  pub argument : Plan
  pub applied : Plan
  pub placing : Placing
  pub argument_placing : Placing
  pub numbers : Renumber
  pub wired : IsWired types i j m ms env placing function
  pub argument_wired : IsWired types (i + length (parts_of types m)) (j + nodes m) n ks env argument_placing argument
  pub joined : IsJoined (applying (type_of_node n) t function argument) applied
  pub same : IsRenumbered numbers r applied

abbrev pub ApplicationIsApplied : Type 0
ApplicationIsApplied =
    (types : Types) (i j : ℕ) (t : Type') (m n : Numbered) (ns ms ks : List ℕ) (env : Supplies) (pl : Placing) (r : Plan)
    → IsWired types i j (Two t [] OfApp m n) ns env pl r → type_of_node m ≡ Fun (type_of_node n) t → AreParted ns ms ks → AreApart m n ms ks
    → CanBeWired types i (suc j) m ms env → CanBeWired types (i + length (parts_of types m)) (suc j + nodes m) n ks env
    → IsApplied t types i (suc j) m n ms ks env r
