-- The wiring of a typed term: which ends of its plan meet.
--
-- Read first: Nodes and Linearity of gos_check; Plans of gos_plan; Ties and Order of gos_ties. A handshake of a node leads to a point: an end of
-- the plan, or a handshake of a number or within a node, where two ties meet. There is a joint for each two ends that
-- a path of ties connects (`Connects`). `Place`, `Point` and `Tie` are those of gos_ties.
use Rattle.std.specs.Prelude.{◌≡◌, ◌↔◌, ℕ, zero, suc, ◌+◌, ◌-◌, List, [], ◌∷◌, ◌++◌, length, take, drop, nat_eq, if◌then◌else◌}
use Rattle.gos_types.specs.Types.{Type', Com, Exp}
use Rattle.gos_model.specs.Terms as terms
use Rattle.gos_model.specs.Terms.{Term}
use Rattle.gos_model.specs.Typing.{Imports}
use Rattle.gos_check.specs.declared.linear.Split.{Split}
use Rattle.gos_check.specs.Nodes.{Numbered, Closed, Use, Under, One, Two, If, Binding, OfFun, OfNew, OfArray, OneForm, OfFst, OfSnd, OfDeref, OfNot, TwoForm, OfApp, OfBoth, OfSeq, OfPar, OfWhile, OfAssign, OfBin, argument_of, bound_type}
pub use Rattle.gos_check.specs.Nodes.{type_of_node}
use Rattle.gos_plan.specs.Kinds as kinds
use Rattle.gos_plan.specs.Kinds.{Part}
use Rattle.gos_plan.specs.Plans.{End, Plan, IsRight}
use Rattle.gos_ties.specs.declared.points.Place.{Place}
use Rattle.gos_ties.specs.declared.points.Place.TheVariants as places
use Rattle.gos_ties.specs.declared.points.Point.{Point}
use Rattle.gos_ties.specs.declared.points.Tie.{Tie}
use Rattle.gos_ties.specs.Ties.{point, tie, Connects, joint, Has}
use Rattle.gos_ties.specs.Order.{AreInOrder}
use Rattle.gos_realises.specs.realises.Regular.{count}

-- n points of a place, from handshake h on
abbrev pub row : Place → ℕ → ℕ → List Point
row place h zero = []
row place h (suc n) = point place h ∷ row place (suc h) n

-- points meet those of a place, from its handshake h on
abbrev pub led : List Point → Place → ℕ → List Tie
led [] place h = []
led (a ∷ points) place h = tie a (point place h) ∷ led points place (suc h)

-- the bits of a command's or an expression's answer
abbrev pub answer_bits : Type' → ℕ
answer_bits (Exp w) = w
answer_bits t = 0

-- the types of numbers
abbrev pub Types : Type 0
Types = ℕ → Type'

abbrev pub with_type : ℕ → Type' → Types → Types
with_type n t types k = if nat_eq k n then t else types k

-- both sides of a split have the type of what is split
abbrev pub with_sides : List Split → Types → Types
with_sides [] types = types
with_sides (s ∷ ss) types = with_sides ss (with_type s.left (types s.of) (with_type s.right (types s.of) types))

-- the types of all numbers that are made in a term, from the root to the leaves, besides those that have one
abbrev pub with_types : Numbered → Types → Types
with_types (Closed t ss c) types = with_sides ss types
with_types (Use t ss n) types = with_sides ss types
with_types (Under t ss b n m) types = with_types m (with_type n (bound_type b t) (with_sides ss types))
with_types (One t ss f m) types = with_types m (with_sides ss types)
with_types (Two t ss f m n) types = with_types n (with_types m (with_sides ss types))
with_types (If t ss m n p) types = with_types p (with_types n (with_types m (with_sides ss types)))

-- a Share for each split
abbrev pub shares : List Split → Types → List Part
shares [] types = []
shares (s ∷ ss) types = kinds.Share (types s.of) ∷ shares ss types

-- the part of a node's own form, where it has one
abbrev pub closed_part : Term → List Part
closed_part (terms.Lit k w) = kinds.Lit w k ∷ []
closed_part c = kinds.Skip ∷ []

abbrev pub binder_part : Binding → Type' → List Part
binder_part OfFun t = []
binder_part (OfNew w) t = kinds.Local w (answer_bits t) ∷ []
binder_part (OfArray k w) t = kinds.Array w k (answer_bits t) ∷ []

abbrev pub one_part : OneForm → Type' → List Part
one_part OfFst t = []
one_part OfSnd t = []
one_part OfDeref t = kinds.Deref (answer_bits t) ∷ []
one_part OfNot t = kinds.Not (answer_bits t) ∷ []

-- of a form of two parts, of which the second has type u
abbrev pub two_part : TwoForm → Type' → Type' → List Part
two_part OfApp t u = []
two_part OfBoth t u = []
two_part OfSeq t u = kinds.Seq (answer_bits t) ∷ []
two_part OfPar t u = kinds.Par ∷ []
two_part OfWhile t u = kinds.While ∷ []
two_part OfAssign t u = kinds.Assign (answer_bits u) ∷ []
two_part (OfBin op) t u = kinds.Op op (answer_bits u) ∷ []

-- The parts of a term, node by node: the Shares of its splits, its own part, and those of its parts from left to
-- right.
abbrev pub parts_of : Types → Numbered → List Part
parts_of types (Closed t ss c) = shares ss types ++ closed_part c
parts_of types (Use t ss n) = shares ss types
parts_of types (Under t ss b n m) = shares ss types ++ (binder_part b t ++ parts_of types m)
parts_of types (One t ss f m) = shares ss types ++ (one_part f t ++ parts_of types m)
parts_of types (Two t ss f m n) = shares ss types ++ (two_part f t (type_of_node n) ++ (parts_of types m ++ parts_of types n))
parts_of types (If t ss m n p) =
    shares ss types ++ (kinds.If (answer_bits t) ∷ (parts_of types m ++ (parts_of types n ++ parts_of types p)))

-- a Share, part i, of a type with n handshakes: its source is what is split, and its callers are the sides
abbrev pub share_ties : ℕ → ℕ → Split → List Tie
share_ties i n s =
    led (row (places.Number s.of) 0 n) (places.Part i) 0
    ++ (led (row (places.Number s.left) 0 n) (places.Part i) n ++ led (row (places.Number s.right) 0 n) (places.Part i) (n + n))

-- the Shares of splits, from part i on
abbrev pub shares_ties : ℕ → List Split → Types → List Tie
shares_ties i [] types = []
shares_ties i (s ∷ ss) types = share_ties i (count (types s.of)) s ++ shares_ties (suc i) ss types

-- how many nodes a term has
abbrev pub nodes : Numbered → ℕ
nodes (Closed t ss c) = 1
nodes (Use t ss n) = 1
nodes (Under t ss b n m) = suc (nodes m)
nodes (One t ss f m) = suc (nodes m)
nodes (Two t ss f m n) = suc (nodes m + nodes n)
nodes (If t ss m n p) = suc (nodes m + nodes n + nodes p)

-- Where the handshakes of a node's part lead, where a form has one part. The node has type t, its part type u; i is
-- the form's own part, j the node, and `out` is where those of the node lead. What leads to the node itself meets
-- nothing more, or only a handshake of the node's other part.
abbrev pub one_out : OneForm → Type' → Type' → ℕ → ℕ → List Point → List Point
one_out OfFst t u i j out = out ++ row (places.Node j) 0 (count u - count t)
one_out OfSnd t u i j out = row (places.Node j) 0 (count u - count t) ++ out
one_out OfDeref t u i j out = point (places.Part i) 0 ∷ point (places.Node j) 0 ∷ []
one_out OfNot t u i j out = point (places.Part i) 0 ∷ []

-- the same for the two parts of a form, of which the first has type u and the second type v
abbrev pub first_out : TwoForm → Type' → Type' → ℕ → ℕ → List Point → List Point
first_out OfApp u v i j out = row (places.Node j) 0 (count v) ++ out
first_out OfBoth u v i j out = take (count u) out
first_out OfAssign u v i j out = point (places.Node j) 0 ∷ point (places.Part i) 1 ∷ []
first_out f u v i j out = point (places.Part i) 0 ∷ []

abbrev pub second_out : TwoForm → Type' → Type' → ℕ → ℕ → List Point → List Point
second_out OfApp u v i j out = row (places.Node j) 0 (count v)
second_out OfBoth u v i j out = drop (count u) out
second_out OfAssign u v i j out = point (places.Part i) 0 ∷ []
second_out f u v i j out = point (places.Part i) 1 ∷ []

-- where a node's own part serves it
abbrev pub one_ties : OneForm → ℕ → List Point → List Tie
one_ties OfFst i out = []
one_ties OfSnd i out = []
one_ties f i out = led out (places.Part i) 1

abbrev pub two_ties : TwoForm → ℕ → List Point → List Tie
two_ties OfApp i out = []
two_ties OfBoth i out = []
two_ties f i out = led out (places.Part i) 2

-- what a binder's number stands for: the argument, or the variable of the block's part
abbrev pub binder_ties : Binding → Type' → ℕ → ℕ → List Point → List Tie
binder_ties OfFun t i n out = led (take (count (argument_of t)) out) (places.Number n) 0
binder_ties (OfNew w) t i n out = led out (places.Part i) 3 ++ led (row (places.Number n) 0 2) (places.Part i) 1
binder_ties (OfArray k w) t i n out = led out (places.Part i) 4 ++ led (row (places.Number n) 0 3) (places.Part i) 1

abbrev pub binder_out : Binding → Type' → ℕ → List Point → List Point
binder_out OfFun t i out = drop (count (argument_of t)) out
binder_out (OfNew w) t i out = point (places.Part i) 0 ∷ []
binder_out (OfArray k w) t i out = point (places.Part i) 0 ∷ []

-- The ties of a term whose parts have numbers from i on, and its nodes from j on; its handshakes lead to `out`.
abbrev pub ties_of : Types → ℕ → ℕ → Numbered → List Point → List Tie
ties_of types i j (Closed t ss c) out = shares_ties i ss types ++ led out (places.Part (i + length ss)) 0
ties_of types i j (Use t ss n) out = shares_ties i ss types ++ led out (places.Number n) 0
ties_of types i j (Under t ss b n m) out =
    shares_ties i ss types
    ++ (binder_ties b t (i + length ss) n out
    ++ ties_of types (i + length ss + length (binder_part b t)) (suc j) m (binder_out b t (i + length ss) out))
ties_of types i j (One t ss f m) out =
    shares_ties i ss types
    ++ (one_ties f (i + length ss) out
    ++ ties_of types (i + length ss + length (one_part f t)) (suc j) m (one_out f t (type_of_node m) (i + length ss) j out))
ties_of types i j (Two t ss f m n) out =
    shares_ties i ss types
    ++ (two_ties f (i + length ss) out
    ++ (ties_of types (i + length ss + length (two_part f t (type_of_node n))) (suc j) m
    (first_out f (type_of_node m) (type_of_node n) (i + length ss) j out)
    ++ ties_of types (i + length ss + length (two_part f t (type_of_node n)) + length (parts_of types m)) (suc j + nodes m) n
    (second_out f (type_of_node m) (type_of_node n) (i + length ss) j out)))
ties_of types i j (If t ss m n p) out =
    shares_ties i ss types
    ++ (led out (places.Part (i + length ss)) 3
    ++ (ties_of types (i + length ss + 1) (suc j) m (point (places.Part (i + length ss)) 0 ∷ [])
    ++ (ties_of types (i + length ss + 1 + length (parts_of types m)) (suc j + nodes m) n (point (places.Part (i + length ss)) 1 ∷ [])
    ++ ties_of types (i + length ss + 1 + length (parts_of types m) + length (parts_of types n)) (suc j + nodes m + nodes n) p
    (point (places.Part (i + length ss)) 2 ∷ []))))

-- the types of the imports' numbers; another number has none
abbrev pub import_types : Imports → Types
import_types [] k = Com
import_types (i ∷ is) zero = i.ty
import_types (i ∷ is) (suc k) = import_types is k

-- the types of all numbers of a module with these imports and this term
abbrev pub all_types : Imports → Numbered → Types
all_types is m = with_types m (import_types is)

-- the imports' ends, by number
abbrev pub import_ties : ℕ → Imports → List Tie
import_ties k [] = []
import_ties k (i ∷ is) = led (row (places.Import k) 0 (count i.ty)) (places.Number k) 0 ++ import_ties (suc k) is

-- the parts and the ties of a module with these imports and this term
abbrev pub all_parts : Imports → Numbered → List Part
all_parts is m = parts_of (all_types is m) m

abbrev pub all_ties : Imports → Numbered → List Tie
all_ties is m = import_ties 0 is ++ ties_of (all_types is m) 0 0 m (row places.Result 0 (count (type_of_node m)))

-- The plan of a module with these imports, this result, this weight and this term. Its joints stand in the order of the term's
-- ties, so that there is one.
pub record IsPlanOf (is : Imports) (t : Type') (w : ℕ) (m : Numbered) (p : Plan) : Type 0 where
  pub imports : p.imports ≡ is
  pub outcome : p.outcome ≡ t
  pub weight : p.weight ≡ w
  pub parts : p.parts ≡ all_parts is m
  pub right : IsRight p
  pub joints : (a b : End) → Has p.joints (joint a b) ↔ Connects (all_ties is m) p a b
  pub order : AreInOrder (all_ties is m) p.joints

-- a module has one plan
abbrev pub PlanIsOne : Type 0
PlanIsOne = (is : Imports) (t : Type') (w : ℕ) (m : Numbered) (p q : Plan) → IsPlanOf is t w m p → IsPlanOf is t w m q → p ≡ q
