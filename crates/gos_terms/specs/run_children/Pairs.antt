-- The sides of a pair: each is a child of its node, and its handshakes lead to those of the node's result.
--
-- Read first: Forks; Folding and Regions of stages. Such a node has no part of its own.
use Rattle.std.specs.Prelude.{◌≡◌, ℕ, zero, suc, ◌+◌, List, [], ◌∷◌, length}
use Rattle.gos_types.specs.Types.{Type', Pair}
use Rattle.gos_check.specs.declared.linear.Split.{Split}
use Rattle.gos_check.specs.Nodes.{Numbered, Two, OfBoth, type_of_node}
use Rattle.gos_realises.specs.realises.Regular.{count}
use Rattle.gos_compile.specs.Wiring.{Types, parts_of, nodes}
use Rattle.gos_terms.specs.wired.Wired.{Supplies, wired_ties}
use Rattle.gos_terms.specs.wired.NodeFitting.{AreOfTypes}
use Rattle.gos_terms.specs.stages.Folding.{Lead, AtResult, Child, IsChild}
use Rattle.gos_terms.specs.stages.Regions.{HasParts}
use Rattle.gos_terms.specs.run_children.Forks.{Branch, AreBranches}

-- handshakes k, k + 1, .. of the node's result, so many of them
abbrev pub result_leads : ℕ → ℕ → List Lead
result_leads k zero = []
result_leads k (suc n) = AtResult k ∷ result_leads (suc k) n

abbrev pub pairing : Type' → Type' → List Split → Numbered → Numbered → Numbered
pairing a b ss m n = Two (Pair a b) ss OfBoth m n

-- A side: the place of its first part among the node's, its first node, the handshake of the node's result to which its first one leads,
-- and the place of the part behind the node's.
abbrev pub pair_side : Types → ℕ → List Split → Supplies → List ℕ → ℕ → ℕ → ℕ → ℕ → Branch → Child
pair_side types i ss env ns off node c own b =
    record {
      types = types;
      first = i;
      splits = ss;
      env = env;
      numbers = ns;
      own = own;
      out = result_leads c (count (type_of_node b.term));
      off = off;
      node = node;
      term = b.term;
      uses = b.uses;
    }

-- the place behind all parts
abbrev pub parts_end : Types → List Split → Branch → Branch → ℕ
parts_end types ss m n = length ss + (length (parts_of types m.term) + length (parts_of types n.term))

abbrev pub left_side : Types → ℕ → ℕ → List Split → Supplies → List ℕ → Branch → Branch → Child
left_side types i j ss env ns m n = pair_side types i ss env ns (length ss) (suc j) 0 (parts_end types ss m n) m

abbrev pub right_side : Types → ℕ → ℕ → List Split → Supplies → List ℕ → Branch → Branch → Child
right_side types i j ss env ns m n =
    pair_side types i ss env ns (length ss + length (parts_of types m.term)) (suc j + nodes m.term) (count (type_of_node m.term))
    (parts_end types ss m n) n

-- Both are children, in the ties of the wired node.
abbrev pub SidesAreChildren : Type 0
SidesAreChildren =
    (types : Types) (i j : ℕ) (a b : Type') (ss : List Split) (m n : Branch) (ns : List ℕ) (env : Supplies)
    → type_of_node m.term ≡ a → type_of_node n.term ≡ b → AreBranches types ss ns (m ∷ n ∷ []) → AreOfTypes types env ns
    → IsChild (left_side types i j ss env ns m n) (wired_ties types i j (pairing a b ss m.term n.term) ns env)
    × IsChild (right_side types i j ss env ns m n) (wired_ties types i j (pairing a b ss m.term n.term) ns env)

-- And their parts are among the node's.
abbrev pub SidesHaveParts : Type 0
SidesHaveParts =
    (types : Types) (i j : ℕ) (a b : Type') (ss : List Split) (m n : Branch) (ns : List ℕ) (env : Supplies)
    → type_of_node m.term ≡ a → type_of_node n.term ≡ b
    → HasParts (left_side types i j ss env ns m n) (parts_of types (pairing a b ss m.term n.term)) (Pair a b)
    × HasParts (right_side types i j ss env ns m n) (parts_of types (pairing a b ss m.term n.term)) (Pair a b)
