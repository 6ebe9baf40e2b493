-- Nodes that run their parts one at a time: `;`, `if`, `while`, operators and `not`.
--
-- Read first: Wiring of gos_compile; Kept and Inherited of numbers; Folding and Regions of stages. Behind the Shares of its
-- splits such a node has its own part, which asks branch number c at its handshake c and is run at its last. The parts of the
-- branches come behind, from left to right.
use Rattle.std.specs.Prelude.{◌≡◌, ℕ, suc, ◌+◌, ◌≤◌, List, [], ◌∷◌, ◌++◌, length, Some, slice_get, Contains}
use Rattle.gos_types.specs.Types.{Type', IsDone}
use Rattle.gos_check.specs.declared.linear.Split.{Split}
use Rattle.gos_check.specs.Nodes.{Numbered, type_of_node}
use Rattle.gos_check.specs.Linearity.{times, split_in, made}
use Rattle.gos_plan.specs.Kinds.{Part, Contact, contacts_of, part_contacts}
use Rattle.gos_plan.specs.Plans.{turned_if}
use Rattle.gos_ties.specs.declared.points.Place.TheVariants as places
use Rattle.gos_ties.specs.declared.points.Point.{Point}
use Rattle.gos_ties.specs.declared.points.Tie.{Tie}
use Rattle.gos_ties.specs.Ties.{point}
use Rattle.gos_compile.specs.Wiring.{Types, led, shares, shares_ties, parts_of, ties_of, nodes}
use Rattle.gos_terms.specs.wired.Wired.{Supplies, wired_ties}
use Rattle.gos_terms.specs.wired.NodeFitting.{AreOfTypes}
use Rattle.gos_terms.specs.stages.Inside.{numbers_inside}
use Rattle.gos_terms.specs.stages.Folding.{AtOwn, Child, IsChild}
use Rattle.gos_terms.specs.stages.Regions.{HasParts}
use Rattle.gos_terms.specs.numbers.Inherited.{IsPart}

-- A branch: a part of a node, and the numbers for which it has supplies.
pub record Branch : Type 0 where
  pub term : Numbered
  pub uses : List ℕ

-- the parts and the nodes of branches, what they make, and the numbers for which they have supplies
abbrev pub branch_parts : Types → List Branch → List Part
branch_parts types [] = []
branch_parts types (b ∷ bs) = parts_of types b.term ++ branch_parts types bs

abbrev pub branch_nodes : List Branch → ℕ
branch_nodes [] = 0
branch_nodes (b ∷ bs) = nodes b.term + branch_nodes bs

abbrev pub branch_made : List Branch → List ℕ
branch_made [] = []
branch_made (b ∷ bs) = made b.term ++ branch_made bs

abbrev pub branch_uses : List Branch → List ℕ
branch_uses [] = []
branch_uses (b ∷ bs) = b.uses ++ branch_uses bs

-- The ties of branches that part q asks, from its handshake c on. Their parts have numbers from i on, and their nodes from j on.
abbrev pub branch_ties : Types → ℕ → ℕ → ℕ → ℕ → List Branch → List Tie
branch_ties types q c i j [] = []
branch_ties types q c i j (b ∷ bs) =
    ties_of types i j b.term (point (places.Part q) c ∷ [])
    ++ branch_ties types q (suc c) (i + length (parts_of types b.term)) (j + nodes b.term) bs

-- The node m is its own part and these branches, behind the Shares of its splits.
pub record IsFork (types : Types) (m : Numbered) (ss : List Split) (own : Part) (bs : List Branch) : Type 0 where
  pub parts : parts_of types m ≡ shares ss types ++ own ∷ branch_parts types bs
  pub ties :
      (i j : ℕ) (out : List Point)
      → ties_of types i j m out
      ≡ shares_ties i ss types
      ++ (led out (places.Part (i + length ss)) (length bs) ++ branch_ties types (i + length ss) 0 (i + length ss + 1) (suc j) bs)
  pub outcome : IsDone (type_of_node m)
  pub done : (b : Branch) → Contains bs b → IsDone (type_of_node b.term)
  pub shakes : length (part_contacts own) ≡ suc (length bs)
  pub asks :
      (before after : List Branch) (b : Branch) (k : Contact)
      → bs ≡ before ++ b ∷ after → turned_if (slice_get (contacts_of (type_of_node b.term)) 0) ≡ Some k
      → slice_get (part_contacts own) (length before) ≡ Some k

-- What is known of the numbers of its branches, where ns are there outside the node: each that is there inside the splits and isn't
-- split is one branch's, and no number is made twice, or made and there.
pub record AreBranches (types : Types) (ss : List Split) (ns : List ℕ) (bs : List Branch) : Type 0 where
  pub parts : (b : Branch) → Contains bs b → IsPart types ss ns b.uses b.term
  pub covers : (k : ℕ) → times k (split_in ss) ≡ 0 → times k (branch_uses bs) ≡ times k (numbers_inside ss ns)
  pub once : (k : ℕ) → times k (branch_made bs) + times k (numbers_inside ss ns) ≤ 1

-- A branch as a child of the node, whose parts have numbers from i on, and its nodes from j on; these come before it.
abbrev pub branch_child : Types → ℕ → ℕ → List Split → Supplies → List ℕ → List Branch → Branch → Child
branch_child types i j ss env ns before b =
    record {
      types = types;
      first = i;
      splits = ss;
      env = env;
      numbers = ns;
      own = length ss;
      out = AtOwn (length before) ∷ [];
      off = length ss + 1 + length (branch_parts types before);
      node = suc j + branch_nodes before;
      term = b.term;
      uses = b.uses;
    }

-- It is one, in the ties of the wired node.
abbrev pub BranchIsChild : Type 0
BranchIsChild =
    (types : Types) (i j : ℕ) (m : Numbered) (ss : List Split) (own : Part) (bs before after : List Branch) (b : Branch) (ns : List ℕ) (env : Supplies)
    → IsFork types m ss own bs → AreBranches types ss ns bs → AreOfTypes types env ns → bs ≡ before ++ b ∷ after
    → IsChild (branch_child types i j ss env ns before b) (wired_ties types i j m ns env)

-- And its parts are among the node's.
abbrev pub BranchHasParts : Type 0
BranchHasParts =
    (types : Types) (i j : ℕ) (m : Numbered) (ss : List Split) (own : Part) (bs before after : List Branch) (b : Branch) (ns : List ℕ) (env : Supplies)
    (t : Type')
    → IsFork types m ss own bs → bs ≡ before ++ b ∷ after → HasParts (branch_child types i j ss env ns before b) (parts_of types m) t
