-- What each form demands of the types of its parts, and the type that it has then.
--
-- Read first: Faults. A part is told by its place and its type. Demands are judged from left to right.
use Rattle.std.specs.Prelude.{ℕ, Bool, true, false, ◌&&◌, Ok, Err, nat_eq, if◌then◌else◌}
use Rattle.gos_lex.specs.declared.token.Span.{Span}
use Rattle.gos_types.specs.Types.{Type', Com, Exp, Var, Pair, Fun}
use Rattle.gos_syntax.specs.declared.terms.Op.{Op}
use Rattle.gos_model.specs.Terms.{result_width}
use Rattle.gos_model.specs.Sources.{op_of}
use Rattle.gos_check.specs.Faults.{Differs, NotFunction, NotPair, Just, AnyExp, AnyVar, ComOrExp, Found, after}

-- whether two types are one
abbrev pub same_type : Type' → Type' → Bool
same_type Com Com = true
same_type (Exp v) (Exp w) = nat_eq v w
same_type (Var v) (Var w) = nat_eq v w
same_type (Pair a b) (Pair c d) = same_type a c && same_type b d
same_type (Fun a b) (Fun c d) = same_type a c && same_type b d
same_type a b = false

-- this very type
abbrev pub demanded : Span → Type' → Type' → Found Type'
demanded span want got = if same_type want got then Ok got else Err (Differs span (Just want) got)

-- a command or an expression
abbrev pub done : Span → Type' → Found Type'
done span Com = Ok Com
done span (Exp w) = Ok (Exp w)
done span (Var w) = Err (Differs span ComOrExp (Var w))
done span (Pair a b) = Err (Differs span ComOrExp (Pair a b))
done span (Fun a b) = Err (Differs span ComOrExp (Fun a b))

-- the width of an expression
abbrev pub expression : Span → Type' → Found ℕ
expression span Com = Err (Differs span AnyExp Com)
expression span (Exp w) = Ok w
expression span (Var w) = Err (Differs span AnyExp (Var w))
expression span (Pair a b) = Err (Differs span AnyExp (Pair a b))
expression span (Fun a b) = Err (Differs span AnyExp (Fun a b))

-- the width of a variable
abbrev pub variable : Span → Type' → Found ℕ
variable span Com = Err (Differs span AnyVar Com)
variable span (Exp w) = Err (Differs span AnyVar (Exp w))
variable span (Var w) = Ok w
variable span (Pair a b) = Err (Differs span AnyVar (Pair a b))
variable span (Fun a b) = Err (Differs span AnyVar (Fun a b))

-- the argument and the outcome of a function
abbrev pub function : Span → Type' → Found (Type' × Type')
function span Com = Err (NotFunction span Com)
function span (Exp w) = Err (NotFunction span (Exp w))
function span (Var w) = Err (NotFunction span (Var w))
function span (Pair a b) = Err (NotFunction span (Pair a b))
function span (Fun a b) = Ok (a, b)

-- the sides of a product
abbrev pub product : Span → Type' → Found (Type' × Type')
product span Com = Err (NotPair span Com)
product span (Exp w) = Err (NotPair span (Exp w))
product span (Var w) = Err (NotPair span (Var w))
product span (Pair a b) = Ok (a, b)
product span (Fun a b) = Err (NotPair span (Fun a b))

-- `M N`
abbrev pub application : Span → Type' → Span → Type' → Found Type'
application s a t b = after (function s a) (λ f. after (demanded t f.0 b) (λ _. Ok f.1))

-- `fst M`
abbrev pub first_side : Span → Type' → Found Type'
first_side s a = after (product s a) (λ p. Ok p.0)

-- `snd M`
abbrev pub second_side : Span → Type' → Found Type'
second_side s a = after (product s a) (λ p. Ok p.1)

-- `M ; N`
abbrev pub sequence : Span → Type' → Span → Type' → Found Type'
sequence s a t b = after (demanded s Com a) (λ _. done t b)

-- `M || N`
abbrev pub parallel : Span → Type' → Span → Type' → Found Type'
parallel s a t b = after (demanded s Com a) (λ _. demanded t Com b)

-- `if M then N else P`
abbrev pub choice : Span → Type' → Span → Type' → Span → Type' → Found Type'
choice s a t b u c = after (demanded s (Exp 1) a) (λ _. after (done t b) (λ d. demanded u d c))

-- `while M do N`
abbrev pub looping : Span → Type' → Span → Type' → Found Type'
looping s a t b = after (demanded s (Exp 1) a) (λ _. demanded t Com b)

-- `M := N`
abbrev pub assignment : Span → Type' → Span → Type' → Found Type'
assignment s a t b = after (variable s a) (λ w. after (demanded t (Exp w) b) (λ _. Ok Com))

-- `! M`
abbrev pub reading : Span → Type' → Found Type'
reading s a = after (variable s a) (λ w. Ok (Exp w))

-- `not M`
abbrev pub negation : Span → Type' → Found Type'
negation s a = after (expression s a) (λ w. Ok (Exp w))

-- `M op N`
abbrev pub operation : Op → Span → Type' → Span → Type' → Found Type'
operation op s a t b = after (expression s a) (λ w. after (demanded t (Exp w) b) (λ _. Ok (Exp (result_width (op_of op) w))))
