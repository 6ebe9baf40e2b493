-- Each node of a checked module's term has the types of its form's row, where numbers have the types of the wiring's table.
--
-- Read first: Wiring; Typing of gos_model; Nodes and Checked of gos_check.
use Rattle.std.specs.Prelude.{◌≡◌, ℕ, List, [], ◌∷◌}
use Rattle.gos_types.specs.Types.{Type', Com, Exp, Var, Pair, Fun, IsDone, type_of}
use Rattle.gos_model.specs.Terms as terms
use Rattle.gos_model.specs.Terms.{Term, result_width}
use Rattle.gos_model.specs.Typing.{array_type}
use Rattle.gos_check.specs.declared.linear.Split.{Split}
use Rattle.gos_check.specs.Checked.{SeenLinear, IsChecked, program_in}
use Rattle.gos_check.specs.Nodes.{Numbered, Closed, Use, Under, One, Two, If, Binding, OfFun, OfNew, OfArray, OneForm, OfFst, OfSnd, OfDeref, OfNot, TwoForm, OfApp, OfBoth, OfSeq, OfPar, OfWhile, OfAssign, OfBin, node_seen}
use Rattle.gos_compile.specs.Wiring.{Types, type_of_node, all_types}

-- both sides of splits have the type of what is split
abbrev pub SidesTyped : Types → List Split → Type 0
SidesTyped types [] = Unit {0}
SidesTyped types (s ∷ ss) = (types s.left ≡ types s.of) × (types s.right ≡ types s.of) × SidesTyped types ss

-- a closed node, of type t, is `skip` or a literal
abbrev pub ClosedTyped : Term → Type' → Type 0
ClosedTyped terms.Skip t = t ≡ Com
ClosedTyped (terms.Lit k w) t = t ≡ Exp w
ClosedTyped c t = ⊥

-- a binder of number n whose body has type u
abbrev pub BinderTyped : Types → Binding → Type' → ℕ → Type' → Type 0
BinderTyped types OfFun t n u = t ≡ Fun (types n) u
BinderTyped types (OfNew w) t n u = IsDone t × (types n ≡ Var w) × (u ≡ t)
BinderTyped types (OfArray k w) t n u = IsDone t × (types n ≡ array_type k w) × (u ≡ t)

-- a form whose part has type u
abbrev pub OneTyped : OneForm → Type' → Type' → Type 0
OneTyped OfFst t u = (b : Type') × (u ≡ Pair t b)
OneTyped OfSnd t u = (a : Type') × (u ≡ Pair a t)
OneTyped OfDeref t u = (w : ℕ) × (t ≡ Exp w) × (u ≡ Var w)
OneTyped OfNot t u = (w : ℕ) × (t ≡ Exp w) × (u ≡ Exp w)

-- a form whose parts have types u and v
abbrev pub TwoTyped : TwoForm → Type' → Type' → Type' → Type 0
TwoTyped OfApp t u v = u ≡ Fun v t
TwoTyped OfBoth t u v = t ≡ Pair u v
TwoTyped OfSeq t u v = IsDone t × (u ≡ Com) × (v ≡ t)
TwoTyped OfPar t u v = (t ≡ Com) × (u ≡ Com) × (v ≡ Com)
TwoTyped OfWhile t u v = (t ≡ Com) × (u ≡ Exp 1) × (v ≡ Com)
TwoTyped OfAssign t u v = (w : ℕ) × (t ≡ Com) × (u ≡ Var w) × (v ≡ Exp w)
TwoTyped (OfBin op) t u v = (w : ℕ) × (t ≡ Exp (result_width op w)) × (u ≡ Exp w) × (v ≡ Exp w)

abbrev pub ChoiceTyped : Type' → Type' → Type' → Type' → Type 0
ChoiceTyped t u v w = IsDone t × (u ≡ Exp 1) × (v ≡ t) × (w ≡ t)

-- each node has the types of its row
abbrev pub NodesTyped : Types → Numbered → Type 0
NodesTyped types (Closed t ss c) = SidesTyped types ss × ClosedTyped c t
NodesTyped types (Use t ss n) = SidesTyped types ss × (t ≡ types n)
NodesTyped types (Under t ss b n m) = SidesTyped types ss × BinderTyped types b t n (type_of_node m) × NodesTyped types m
NodesTyped types (One t ss f m) = SidesTyped types ss × OneTyped f t (type_of_node m) × NodesTyped types m
NodesTyped types (Two t ss f m n) =
    SidesTyped types ss × TwoTyped f t (type_of_node m) (type_of_node n) × NodesTyped types m × NodesTyped types n
NodesTyped types (If t ss m n p) =
    SidesTyped types ss × ChoiceTyped t (type_of_node m) (type_of_node n) (type_of_node p)
    × NodesTyped types m × NodesTyped types n × NodesTyped types p

-- So it is in a checked module, and its term has the module's type.
abbrev pub CheckedIsTyped : Type 0
CheckedIsTyped =
    (l : SeenLinear) → IsChecked l
    → NodesTyped (all_types (program_in l).imports (node_seen l.term)) (node_seen l.term)
    × (type_of_node (node_seen l.term) ≡ type_of l.result)

-- The node of `skip` as a command is typed, and not as an expression.
abbrev pub SkipIsTyped : Type 0
SkipIsTyped = NodesTyped (λ n. Com) (Closed Com [] terms.Skip)

abbrev pub SkipIsNoExpression : Type 0
SkipIsNoExpression = (w : ℕ) → NodesTyped (λ n. Com) (Closed (Exp w) [] terms.Skip) → ⊥
