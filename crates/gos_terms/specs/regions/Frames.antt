-- The parts of `M || N` that is wired to supplies: the plans of M and N, each wired to the supplies of its own numbers, are regions of its plan.
--
-- Read first: Wired of wired; Parallel of gos_nodes; Linearity of gos_check (`made`, `used`, `times`).
use Rattle.std.specs.Prelude.{◌≡◌, ℕ, suc, ◌+◌, ◌<◌, ◌≤◌, List, [], length}
use Rattle.gos_types.specs.Types.{Com}
use Rattle.gos_check.specs.Nodes.{Numbered, Two, OfPar, type_of_node}
use Rattle.gos_check.specs.Linearity.{times, made, used}
use Rattle.gos_plan.specs.Plans.{ImportEnd, Plan}
use Rattle.gos_joining.specs.webs.Cutting.{Cut, IsCut}
use Rattle.gos_nodes.specs.windows.Regions.{IsRegion}
use Rattle.gos_realises.specs.realises.Realises.{NamesDiffer}
use Rattle.gos_nodes.specs.parallel.Parallel.{IsParallel}
use Rattle.gos_compile.specs.Wiring.{Types, parts_of, nodes}
use Rattle.gos_terms.specs.wired.Wired.{Supplies, Placing, IsWired}

-- a region without Shares is cut
abbrev pub RegionIsCut : Type 0
RegionIsCut = (f : Cut) (r c : Plan) → IsRegion f [] r c → IsCut f r c

-- The numbers ns, split into those of m and those of n: each number is there once, or made once, and what m or n uses and doesn't
-- make is among its own.
pub record AreParted (m n : Numbered) (ns ms ks : List ℕ) : Type 0 where
  pub once : (k : ℕ) → times k (made m) + times k (made n) + times k ns ≤ 1
  pub split : (k : ℕ) → times k ms + times k ks ≡ times k ns
  pub left : (k : ℕ) → 0 < times k (used m) → 0 < times k (made m) + times k ms
  pub right : (k : ℕ) → 0 < times k (used n) → 0 < times k (made n) + times k ks

-- An import of the region of which one end leads to an import of the whole does so end by end.
abbrev pub KeepsImports : Cut → Type 0
KeepsImports f = (i h k n : ℕ) → f.outer (ImportEnd i h) ≡ ImportEnd k h → f.outer (ImportEnd i n) ≡ ImportEnd k n

-- What `m || n` is made of: a plan for each side, wired to the supplies of its numbers, and where it lies.
pub record AreSides (types : Types) (i j : ℕ) (m n : Numbered) (ms ks : List ℕ) (env : Supplies) (own : ℕ) (r : Plan) : Type 0 where
  pub left : Plan
  pub right : Plan
  pub left_placing : Placing
  pub right_placing : Placing
  pub left_cut : Cut
  pub right_cut : Cut
  pub left_wired : IsWired types (i + 1) (suc j) m ms env left_placing left
  pub right_wired : IsWired types (i + 1 + length (parts_of types m)) (suc j + nodes m) n ks env right_placing right
  pub parallel : IsParallel own left_cut right_cut r left right
  pub left_imports : KeepsImports left_cut
  pub right_imports : KeepsImports right_cut

-- A node `m || n` that is wired to supplies is made of its sides, wired to theirs.
abbrev pub ParallelIsWired : Type 0
ParallelIsWired =
    (types : Types) (i j : ℕ) (m n : Numbered) (ns ms ks : List ℕ) (env : Supplies) (pl : Placing) (r : Plan)
    → IsWired types i j (Two Com [] OfPar m n) ns env pl r → type_of_node m ≡ Com → type_of_node n ≡ Com → AreParted m n ns ms ks
    → NamesDiffer r.imports → AreSides types i j m n ms ks env (pl.own 0) r
