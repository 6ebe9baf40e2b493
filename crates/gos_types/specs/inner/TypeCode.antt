-- A code of types, by which the value of a model may hold a type.
--
-- Read first: Types. A type is stored as its nodes, a node behind its parts; a stack of types gives it back.
use Rattle.std.specs.Prelude.{◌≡◌, ℕ, zero, suc, List, [], ◌∷◌, refl}
use Rattle.std.specs.Coded.{Coded, code_by, coded×, coded_ℕ, coded_list}
use Rattle.std.proofs.Common.{◌∙◌, ap}
use Rattle.gos_types.specs.Types.{Type', Com, Exp, Var, Pair, Fun}

-- the nodes of a type, before others: which one each is, and its width
abbrev pub nodes_before : Type' → List (ℕ × ℕ) → List (ℕ × ℕ)
nodes_before Com rest = (0, 0) ∷ rest
nodes_before (Exp w) rest = (1, w) ∷ rest
nodes_before (Var w) rest = (2, w) ∷ rest
nodes_before (Pair a b) rest = nodes_before a (nodes_before b ((3, 0) ∷ rest))
nodes_before (Fun a b) rest = nodes_before a (nodes_before b ((4, 0) ∷ rest))

-- the stack after a node
abbrev pub after_node : ℕ → ℕ → List Type' → List Type'
after_node zero w stack = Com ∷ stack
after_node (suc zero) w stack = Exp w ∷ stack
after_node (suc (suc zero)) w stack = Var w ∷ stack
after_node (suc (suc (suc zero))) w (b ∷ a ∷ stack) = Pair a b ∷ stack
after_node (suc (suc (suc (suc n)))) w (b ∷ a ∷ stack) = Fun a b ∷ stack
after_node n w stack = stack

-- the stack after some nodes
abbrev pub after_nodes : List (ℕ × ℕ) → List Type' → List Type'
after_nodes [] stack = stack
after_nodes (node ∷ nodes) stack = after_nodes nodes (after_node node.0 node.1 stack)

-- the type on the stack
abbrev pub top_of : List Type' → Type'
top_of [] = Com
top_of (t ∷ stack) = t

-- the nodes of a type put it onto the stack
pub nodes_give : (t : Type') (rest : List (ℕ × ℕ)) (stack : List Type')
    → after_nodes (nodes_before t rest) stack ≡ after_nodes rest (t ∷ stack)
nodes_give Com rest stack = refl
nodes_give (Exp w) rest stack = refl
nodes_give (Var w) rest stack = refl
nodes_give (Pair a b) rest stack =
    nodes_give a (nodes_before b ((3, 0) ∷ rest)) stack ∙ nodes_give b ((3, 0) ∷ rest) (a ∷ stack)
nodes_give (Fun a b) rest stack =
    nodes_give a (nodes_before b ((4, 0) ∷ rest)) stack ∙ nodes_give b ((4, 0) ∷ rest) (a ∷ stack)

-- the code of types
abbrev pub type_code : Coded Type'
type_code =
    code_by (List (ℕ × ℕ)) (coded_list (coded× coded_ℕ coded_ℕ)) (λ t. nodes_before t []) (λ nodes. top_of (after_nodes nodes []))
    (λ t. ap top_of (nodes_give t [] []))
