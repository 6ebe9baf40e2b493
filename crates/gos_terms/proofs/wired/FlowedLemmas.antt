-- The flows of a term: its ties, with the handshakes that are seen where they lead.
--
-- Read first: Wiring of gos_compile; FlowLemmas. What is led to sees a term's handshakes from the other side.
use Rattle.std.specs.Prelude.{ℕ, suc, ◌+◌, List, [], ◌∷◌, ◌++◌, length, take}
use Rattle.gos_types.specs.Types.{Type', Var}
use Rattle.gos_check.specs.declared.linear.Split.{Split}
use Rattle.gos_check.specs.Nodes.{Numbered, Closed, Use, Under, One, Two, If, Binding, OfFun, OfNew, OfArray, OneForm, OfFst, OfSnd, TwoForm, OfApp, OfBoth, argument_of, type_of_node}
use Rattle.gos_plan.specs.Kinds.{Contact, contacts_of, other_side}
use Rattle.gos_ties.specs.declared.points.Place.{Place}
use Rattle.gos_ties.specs.declared.points.Place.TheVariants as places
use Rattle.gos_ties.specs.declared.points.Point.{Point}
use Rattle.gos_ties.specs.Ties.{point}
use Rattle.gos_realises.specs.realises.Regular.{count}
use Rattle.gos_model.specs.Typing.{Imports, array_type}
use Rattle.gos_compile.specs.Wiring.{Types, row, binder_part, one_part, two_part, parts_of, nodes, one_out, first_out, second_out, binder_out, all_types}
use Rattle.gos_terms.proofs.wired.FlowLemmas.{Flow}

-- the handshakes of a type as they are seen where a term of it leads
abbrev pub seen : Type' → List Contact
seen t = other_side (contacts_of t)

-- points that see these handshakes meet those of a place, from its handshake h on
abbrev pub flowing : List Contact → List Point → Place → ℕ → List Flow
flowing [] points q h = []
flowing (c ∷ cs) [] q h = []
flowing (c ∷ cs) (a ∷ points) q h = record { one = a; other = point q h; contact = c } ∷ flowing cs points q (suc h)

abbrev pub share_flows : ℕ → Type' → Split → List Flow
share_flows i t s =
    flowing (contacts_of t) (row (places.Number s.of) 0 (count t)) (places.Part i) 0
    ++ (flowing (seen t) (row (places.Number s.left) 0 (count t)) (places.Part i) (count t)
    ++ flowing (seen t) (row (places.Number s.right) 0 (count t)) (places.Part i) (count t + count t))

abbrev pub shares_flows : ℕ → List Split → Types → List Flow
shares_flows i [] types = []
shares_flows i (s ∷ ss) types = share_flows i (types s.of) s ++ shares_flows (suc i) ss types

abbrev pub binder_flows : Binding → Type' → ℕ → ℕ → List Point → List Flow
binder_flows OfFun t i n out = flowing (seen t) (take (count (argument_of t)) out) (places.Number n) 0
binder_flows (OfNew w) t i n out =
    flowing (seen t) out (places.Part i) 3 ++ flowing (seen (Var w)) (row (places.Number n) 0 2) (places.Part i) 1
binder_flows (OfArray k w) t i n out =
    flowing (seen t) out (places.Part i) 4 ++ flowing (seen (array_type k w)) (row (places.Number n) 0 3) (places.Part i) 1

abbrev pub one_flows : OneForm → Type' → ℕ → List Point → List Flow
one_flows OfFst t i out = []
one_flows OfSnd t i out = []
one_flows f t i out = flowing (seen t) out (places.Part i) 1

abbrev pub two_flows : TwoForm → Type' → ℕ → List Point → List Flow
two_flows OfApp t i out = []
two_flows OfBoth t i out = []
two_flows f t i out = flowing (seen t) out (places.Part i) 2

-- The flows of a term whose parts have numbers from i on, and its nodes from j on.
abbrev pub flows_of : Types → ℕ → ℕ → Numbered → List Point → List Flow
flows_of types i j (Closed t ss c) out = shares_flows i ss types ++ flowing (seen t) out (places.Part (i + length ss)) 0
flows_of types i j (Use t ss n) out = shares_flows i ss types ++ flowing (seen t) out (places.Number n) 0
flows_of types i j (Under t ss b n m) out =
    shares_flows i ss types
    ++ (binder_flows b t (i + length ss) n out
    ++ flows_of types (i + length ss + length (binder_part b t)) (suc j) m (binder_out b t (i + length ss) out))
flows_of types i j (One t ss f m) out =
    shares_flows i ss types
    ++ (one_flows f t (i + length ss) out
    ++ flows_of types (i + length ss + length (one_part f t)) (suc j) m (one_out f t (type_of_node m) (i + length ss) j out))
flows_of types i j (Two t ss f m n) out =
    shares_flows i ss types
    ++ (two_flows f t (i + length ss) out
    ++ (flows_of types (i + length ss + length (two_part f t (type_of_node n))) (suc j) m
    (first_out f (type_of_node m) (type_of_node n) (i + length ss) j out)
    ++ flows_of types (i + length ss + length (two_part f t (type_of_node n)) + length (parts_of types m)) (suc j + nodes m) n
    (second_out f (type_of_node m) (type_of_node n) (i + length ss) j out)))
flows_of types i j (If t ss m n p) out =
    shares_flows i ss types
    ++ (flowing (seen t) out (places.Part (i + length ss)) 3
    ++ (flows_of types (i + length ss + 1) (suc j) m (point (places.Part (i + length ss)) 0 ∷ [])
    ++ (flows_of types (i + length ss + 1 + length (parts_of types m)) (suc j + nodes m) n (point (places.Part (i + length ss)) 1 ∷ [])
    ++ flows_of types (i + length ss + 1 + length (parts_of types m) + length (parts_of types n)) (suc j + nodes m + nodes n) p
    (point (places.Part (i + length ss)) 2 ∷ []))))

-- the imports' flows, by number
abbrev pub import_flows : ℕ → Imports → List Flow
import_flows k [] = []
import_flows k (i ∷ is) = flowing (contacts_of i.ty) (row (places.Import k) 0 (count i.ty)) (places.Number k) 0 ++ import_flows (suc k) is

abbrev pub all_flows : Imports → Numbered → List Flow
all_flows is m = import_flows 0 is ++ flows_of (all_types is m) 0 0 m (row places.Result 0 (count (type_of_node m)))
