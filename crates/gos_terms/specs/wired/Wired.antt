-- A typed term's node, wired to what stands for its numbers: the plan of its web.
--
-- Read first: Wiring of gos_compile; Webs of gos_joining; Modules of gos_realises. A number that a node uses and doesn't make stands
-- for a supply: a plan, and the term that it realises. The web has the ties of the node, the joints of each supply,
-- and ties from each such number to its supply's result. A node of the term is wired so with Shares in front of what its parts share.
use Rattle.std.specs.Prelude.{◌≡◌, ℕ, zero, suc, ◌+◌, List, [], ◌∷◌, ◌++◌, map, Some, slice_get, Contains}
use Rattle.gos_model.specs.Typing.{Imported}
use Rattle.gos_check.specs.Nodes.{Numbered, Meaning, type_of_node}
use Rattle.gos_plan.specs.Kinds.{Part}
use Rattle.gos_plan.specs.Plans.{End, PartEnd, ImportEnd, ResultEnd, Plan}
use Rattle.gos_ties.specs.declared.points.Place.{Place}
use Rattle.gos_ties.specs.declared.points.Place.TheVariants as places
use Rattle.gos_ties.specs.declared.points.Point.{Point}
use Rattle.gos_ties.specs.declared.points.Tie as point_ties
use Rattle.gos_joining.specs.webs.Webs.{Dot, Of, Number, Node, Within, Tie, tie, Web, IsOfWeb, own_web}
use Rattle.gos_joining.specs.unions.Unions.{within}
use Rattle.gos_realises.specs.realises.Regular.{count}
use Rattle.gos_realises.specs.realises.Realises.{Realises}
use Rattle.gos_realises.specs.realises.Modules.{Supply}
use Rattle.gos_compile.specs.Wiring.{Types, row, parts_of, ties_of}

-- a point of the term's wiring, as a dot
abbrev pub dot_of_place : Place → ℕ → Dot
dot_of_place (places.Part i) h = Of (PartEnd i h)
dot_of_place (places.Import i) h = Of (ImportEnd i h)
dot_of_place places.Result h = Of (ResultEnd h)
dot_of_place (places.Number k) h = Number k h
dot_of_place (places.Node j) h = Node j h

abbrev pub dot_of : Point → Dot
dot_of p = dot_of_place p.place p.shake

abbrev pub dot_ties : List point_ties.Tie → List Tie
dot_ties ts = map (λ t. tie (dot_of t.one) (dot_of t.other)) ts

-- what stands for each number
abbrev pub Supplies : Type 0
Supplies = ℕ → Supply

-- handshakes h, h + 1, .. of a number, so many of them, meet those of its supply's result
abbrev pub result_ties : ℕ → ℕ → ℕ → List Tie
result_ties n h zero = []
result_ties n h (suc m) = tie (Within 0 (Number n h)) (Within (suc n) (Of (ResultEnd h))) ∷ result_ties n (suc h) m

-- the ties of the supply of a number, and those to its result
abbrev pub supply_ties : Types → Supplies → ℕ → List Tie
supply_ties types env n = within (suc n) (own_web (env n).plan).ties ++ result_ties n 0 (count (types n))

abbrev pub all_supply_ties : Types → Supplies → List ℕ → List Tie
all_supply_ties types env [] = []
all_supply_ties types env (n ∷ ns) = supply_ties types env n ++ all_supply_ties types env ns

-- The ties of a node, whose parts have numbers from i on and its nodes from j on, with the supplies of these numbers.
abbrev pub wired_ties : Types → ℕ → ℕ → Numbered → List ℕ → Supplies → List Tie
wired_ties types i j m ns env =
    within 0 (dot_ties (ties_of types i j m (row places.Result 0 (count (type_of_node m))))) ++ all_supply_ties types env ns

-- where a part of the plan comes from: from the node, by its number there, or from the supply of a number
pub data Source : Type 0 where
  Own : (k : ℕ) → Source
  Supplied : (n k : ℕ) → Source

-- where an import does
pub record Origin : Type 0 where
  pub number : ℕ
  pub import : ℕ

-- How the parts of the node and of the supplies, and the supplies' imports, are numbered in the plan.
pub record Placing : Type 0 where
  pub own : ℕ → ℕ
  pub supplied : ℕ → ℕ → ℕ
  pub import : ℕ → ℕ → ℕ
  pub source : ℕ → Source
  pub origin : ℕ → Origin

-- the part of this source is there
abbrev pub IsFrom : List Part → List ℕ → Supplies → Part → Source → Type 0
IsFrom own ns env x (Own k) = slice_get own k ≡ Some x
IsFrom own ns env x (Supplied n k) = Contains ns n × (slice_get (env n).plan.parts k ≡ Some x)

-- its number in the plan
abbrev pub placed : Placing → Source → ℕ
placed pl (Own k) = pl.own k
placed pl (Supplied n k) = pl.supplied n k

-- the dot of a handshake of a part of this source; the node's parts have numbers from i on
abbrev pub source_dot : ℕ → Source → ℕ → Dot
source_dot i (Own k) h = Within 0 (Of (PartEnd (i + k) h))
source_dot i (Supplied n k) h = Within (suc n) (Of (PartEnd k h))

abbrev pub dot_at : ℕ → Placing → End → Dot
dot_at i pl (PartEnd k h) = source_dot i (pl.source k) h
dot_at i pl (ImportEnd k h) = Within (suc (pl.origin k).number) (Of (ImportEnd (pl.origin k).import h))
dot_at i pl (ResultEnd h) = Within 0 (Of (ResultEnd h))

abbrev pub wired_web : Types → ℕ → ℕ → Numbered → List ℕ → Supplies → Placing → Web
wired_web types i j m ns env pl = record { ties = wired_ties types i j m ns env; at = dot_at i pl }

-- r is the plan of the node m, wired to the supplies of the numbers ns.
pub record IsWired (types : Types) (i j : ℕ) (m : Numbered) (ns : List ℕ) (env : Supplies) (pl : Placing) (r : Plan) : Type 0 where
  pub outcome : r.outcome ≡ type_of_node m
  pub parts : (x : Part) (s : Source) → IsFrom (parts_of types m) ns env x s → (slice_get r.parts (placed pl s) ≡ Some x) × (pl.source (placed pl s) ≡ s)
  pub no_more : (k : ℕ) (x : Part) → slice_get r.parts k ≡ Some x → IsFrom (parts_of types m) ns env x (pl.source k) × (placed pl (pl.source k) ≡ k)
  pub imports :
      (n k : ℕ) (x : Imported) → Contains ns n → slice_get (env n).plan.imports k ≡ Some x
      → (slice_get r.imports (pl.import n k) ≡ Some x) × (pl.origin (pl.import n k) ≡ record { number = n; import = k })
  pub no_import :
      (k : ℕ) (x : Imported) → slice_get r.imports k ≡ Some x
      → Contains ns (pl.origin k).number × (slice_get (env (pl.origin k).number).plan.imports (pl.origin k).import ≡ Some x)
      × (pl.import (pl.origin k).number (pl.origin k).import ≡ k)
  pub web : IsOfWeb (wired_web types i j m ns env pl) r

-- each number's supply realises its term at the number's type
abbrev pub AreRealised : Types → Supplies → List ℕ → Type 0
AreRealised types env ns = (n : ℕ) → Contains ns n → Realises (types n) (env n).plan (env n).term

-- the terms that stand for the numbers
abbrev pub terms_of : Supplies → Meaning
terms_of env n = (env n).term
