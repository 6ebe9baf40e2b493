-- What a child covers of its node: the supplies of its live numbers, and what its Shares do for it.
--
-- Read first: Nodes, Served. Of a form it is left to see that each end is one of these, for one of its children.
use Rattle.std.specs.Prelude.{◌≡◌, ℕ, suc, ◌+◌, ◌<◌, true, List, length, Some, slice_get, Contains}
use Rattle.gos_plan.specs.Plans.{End}
use Rattle.gos_realises.specs.realises.Regular.{count}
use Rattle.gos_joining.specs.webs.Webs.{Dot, Of, Within, Tie}
use Rattle.gos_nodes.specs.windows.Regions.{Serving}
use Rattle.gos_compile.specs.Wiring.{parts_of}
use Rattle.gos_terms.specs.wired.Wired.{Own, Placing, source_dot}
use Rattle.gos_terms.specs.stages.Lodging.{live, serves_side}
use Rattle.gos_terms.specs.stages.Folding.{AtOwn, Child, is_used, child_back, child_servings, IsChild}

-- each end of the supply of a live number
abbrev pub LiveIsCovered : Type 0
LiveIsCovered =
    (f : Child) (n : ℕ) (e : End) → live f.splits (is_used f) n ≡ true → (x : Dot) × (child_back f (Within (suc n) (Of e)) ≡ Some x)

-- each handshake of a Share that serves the child, but for the other caller's
abbrev pub ServedIsCovered : Type 0
ServedIsCovered =
    (f : Child) (ts : List Tie) (pl : Placing) (s : Serving)
    → IsChild f ts → Contains (child_servings f pl) s
    → (x : ℕ) × (s.part ≡ pl.own x)
    × ((h : ℕ) → serves_side (count s.ty) s.side h ≡ true → (y : Dot) × (child_back f (source_dot f.first (Own x) h) ≡ Some y))

-- each handshake of its own parts, and each of the node's own part at which it is asked
abbrev pub OwnIsCovered : Type 0
OwnIsCovered =
    (f : Child) (ts : List Tie)
    → IsChild f ts
    → ((k h : ℕ) → k < length (parts_of f.types f.term) → (y : Dot) × (child_back f (source_dot f.first (Own (f.off + k)) h) ≡ Some y))
    × ((h s : ℕ) → slice_get f.out h ≡ Some (AtOwn s) → (y : Dot) × (child_back f (source_dot f.first (Own f.own) s) ≡ Some y))
