-- The dots of a node's child: where they stand in the node, and back.
use Rattle.std.specs.Prelude.{◌≡◌, ℕ, List, map, Contains}
use Rattle.std.proofs.Common.{refl, ◌∙◌, ap, inl, inr}
use Rattle.gos_check.specs.Nodes.{Numbered, type_of_node}
use Rattle.gos_plan.specs.Plans.{PartEnd, ImportEnd, ResultEnd}
use Rattle.gos_ties.specs.declared.points.Place.{Place}
use Rattle.gos_ties.specs.declared.points.Place.TheVariants as places
use Rattle.gos_ties.specs.declared.points.Point.{Point}
use Rattle.gos_ties.specs.declared.points.Tie as point_ties
use Rattle.gos_realises.specs.realises.Regular.{count}
use Rattle.gos_joining.specs.webs.Webs.{Dot, Of, Number, Node, Within, Tie, tie}
use Rattle.gos_joining.specs.unions.Unions.{within}
use Rattle.gos_joining.proofs.unions.UnionLemmas.{Image, of_image, in_image}
use Rattle.gos_compile.specs.Wiring.{Types, row, ties_of}
use Rattle.gos_terms.specs.wired.Wired.{dot_of_place, dot_of, dot_ties}
use Rattle.gos_terms.proofs.applying.RenamedLemmas.{renamed_at, renamed_tie}
use Rattle.gos_terms.proofs.applying.StandLemmas.{IsOf, ties_stand}
use Rattle.gos_terms.proofs.applying.SupplyLemmas.{inside}

abbrev pub dot_tie : point_ties.Tie → Tie
dot_tie t = tie (dot_of t.one) (dot_of t.other)

-- in the node, where the child's handshakes lead to these points
abbrev pub lower : (ℕ → Point) → Dot → Dot
lower to (Of (PartEnd x h)) = Of (PartEnd x h)
lower to (Of (ImportEnd x h)) = Of (ImportEnd x h)
lower to (Of (ResultEnd h)) = dot_of (to h)
lower to (Number n h) = Number n h
lower to (Node n h) = Node n h
lower to (Within n d) = Within n d

pub lowered : (to : ℕ → Point) (q : Place) (h : ℕ) → lower to (dot_of_place q h) ≡ dot_of (renamed_at to q h)
lowered to (places.Part k) h = refl
lowered to (places.Import k) h = refl
lowered to places.Result h = refl
lowered to (places.Number k) h = refl
lowered to (places.Node k) h = refl

-- the ties of the child, and the same as they are in the node
abbrev pub child_ties : Types → ℕ → ℕ → Numbered → List point_ties.Tie
child_ties types i j m = ties_of types i j m (row places.Result 0 (count (type_of_node m)))

abbrev pub own_ties : Types → ℕ → ℕ → Numbered → List Tie
own_ties types i j m = within 0 (dot_ties (child_ties types i j m))

abbrev pub node_ties : (ℕ → Point) → Types → ℕ → ℕ → Numbered → List Tie
node_ties to types i j m = within 0 (dot_ties (map (renamed_tie to) (child_ties types i j m)))

abbrev pub own_tie : point_ties.Tie → Tie
own_tie a = inside 0 (dot_tie a)

abbrev pub node_tie : (ℕ → Point) → point_ties.Tie → Tie
node_tie to a = inside 0 (dot_tie (renamed_tie to a))

pub of_own : (types : Types) (i j : ℕ) (m : Numbered) (t : Tie) → Contains (own_ties types i j m) t → Image own_tie (child_ties types i j m) t
of_own types i j m t has = outer (of_image (inside 0) (dot_ties (child_ties types i j m)) t has)
  where
    inner : (y : Tie) → inside 0 y ≡ t → Image dot_tie (child_ties types i j m) y → Image own_tie (child_ties types i j m) t
    inner y same (a, among, is) = (a, among, ap (inside 0) is ∙ same)

    outer : Image (inside 0) (dot_ties (child_ties types i j m)) t → Image own_tie (child_ties types i j m) t
    outer (y, among, same) = inner y same (of_image dot_tie (child_ties types i j m) y among)

pub in_own : (types : Types) (i j : ℕ) (m : Numbered) (a : point_ties.Tie) → Contains (child_ties types i j m) a → Contains (own_ties types i j m) (own_tie a)
in_own types i j m a has =
    in_image (inside 0) (dot_ties (child_ties types i j m)) (dot_tie a) (in_image dot_tie (child_ties types i j m) a has)

pub of_node : (to : ℕ → Point) (types : Types) (i j : ℕ) (m : Numbered) (t : Tie) → Contains (node_ties to types i j m) t
    → Image (node_tie to) (child_ties types i j m) t
of_node to types i j m t has = outer (of_image (inside 0) (dot_ties (map (renamed_tie to) (child_ties types i j m))) t has)
  where
    deep : (y : Tie) (z : point_ties.Tie) → inside 0 y ≡ t → dot_tie z ≡ y → Image (renamed_tie to) (child_ties types i j m) z
        → Image (node_tie to) (child_ties types i j m) t
    deep y z same is (a, among, renames) = (a, among, ap (λ (x : point_ties.Tie). inside 0 (dot_tie x)) renames ∙ (ap (inside 0) is ∙ same))

    inner : (y : Tie) → inside 0 y ≡ t → Image dot_tie (map (renamed_tie to) (child_ties types i j m)) y → Image (node_tie to) (child_ties types i j m) t
    inner y same (z, among, is) = deep y z same is (of_image (renamed_tie to) (child_ties types i j m) z among)

    outer : Image (inside 0) (dot_ties (map (renamed_tie to) (child_ties types i j m))) t → Image (node_tie to) (child_ties types i j m) t
    outer (y, among, same) = inner y same (of_image dot_tie (map (renamed_tie to) (child_ties types i j m)) y among)

pub in_node : (to : ℕ → Point) (types : Types) (i j : ℕ) (m : Numbered) (a : point_ties.Tie) → Contains (child_ties types i j m) a
    → Contains (node_ties to types i j m) (node_tie to a)
in_node to types i j m a has =
    in_image (inside 0) (dot_ties (map (renamed_tie to) (child_ties types i j m))) (dot_tie (renamed_tie to a))
    (in_image dot_tie (map (renamed_tie to) (child_ties types i j m)) (renamed_tie to a)
    (in_image (renamed_tie to) (child_ties types i j m) a has))

-- where the ends of a child's tie stand
pub one_stands : (types : Types) (i j : ℕ) (m : Numbered) (a : point_ties.Tie) → Contains (child_ties types i j m) a
    → IsOf types i j m (count (type_of_node m)) a.one.place a.one.shake
one_stands types i j m a has = ties_stand types i j m (count (type_of_node m)) a a.one (inl refl) has

pub other_stands : (types : Types) (i j : ℕ) (m : Numbered) (a : point_ties.Tie) → Contains (child_ties types i j m) a
    → IsOf types i j m (count (type_of_node m)) a.other.place a.other.shake
other_stands types i j m a has = ties_stand types i j m (count (type_of_node m)) a a.other (inr refl) has
