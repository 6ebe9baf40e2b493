-- The forms of one part and of two parts, as the walk tells them apart.
--
-- Read first: Judging. Between the functions of this crate.
use Rattle.std.specs.Prelude.{List, Ok}
use Rattle.gos_lex.specs.declared.token.Span.{Span}
use Rattle.gos_types.specs.Types.{Type', Pair, Fun}
use Rattle.gos_syntax.specs.Trees.{Tree}
use Rattle.gos_check.specs.declared.forms.OnePart.{OnePart}
use Rattle.gos_check.specs.declared.forms.OnePart.TheVariants as one
use Rattle.gos_check.specs.declared.forms.TwoParts.{TwoParts}
use Rattle.gos_check.specs.declared.forms.TwoParts.TheVariants as two
use Rattle.gos_check.specs.declared.free.Occurrence.{Occurrence}
use Rattle.gos_check.specs.Faults.{Found, after}
use Rattle.gos_check.specs.Free.{apart}
use Rattle.gos_check.specs.Demands.{application, first_side, second_side, sequence, parallel, looping, assignment, reading, negation, operation}
use Rattle.gos_check.specs.Judging.{place_of, separate}

-- what a form of one part makes of its type
abbrev pub rule_of_one : OnePart → Span → Type' → Found Type'
rule_of_one one.First s a = first_side s a
rule_of_one one.Second s a = second_side s a
rule_of_one one.Reading s a = reading s a
rule_of_one one.Negation s a = negation s a

-- what a form of two parts makes of their types
abbrev pub rule_of_two : TwoParts → Span → Type' → Span → Type' → Found Type'
rule_of_two two.Application s a t b = application s a t b
rule_of_two two.Product s a t b = Ok (Pair a b)
rule_of_two two.Sequence s a t b = sequence s a t b
rule_of_two two.Parallel s a t b = parallel s a t b
rule_of_two two.Loop s a t b = looping s a t b
rule_of_two two.Assignment s a t b = assignment s a t b
rule_of_two (two.Operation op) s a t b = operation op s a t b

-- what a form of two parts demands of their names
abbrev pub names_of_two : TwoParts → List Occurrence → List Occurrence → Found (Unit {0})
names_of_two two.Application os ps = apart os ps
names_of_two two.Product os ps = Ok tt
names_of_two two.Sequence os ps = Ok tt
names_of_two two.Parallel os ps = apart os ps
names_of_two two.Loop os ps = Ok tt
names_of_two two.Assignment os ps = Ok tt
names_of_two (two.Operation op) os ps = Ok tt

-- the type of a form of two parts, where besides their names are as it demands
abbrev pub two_rule : TwoParts → Span → Type' → List Occurrence → Span → Type' → List Occurrence → Found Type'
two_rule rule s a os t b ps = after (rule_of_two rule s a t b) (λ u. after (names_of_two rule os ps) (λ _. Ok u))

-- the type of a function
abbrev pub function_found : Type' → Type' → Found Type'
function_found a b = Ok (Fun a b)

-- what a form of two parts makes of them
abbrev pub ruled : TwoParts → Tree → Tree → Type' → Type' → Found Type'
ruled two.Application m n a b = separate m n (application (place_of m) a (place_of n) b)
ruled two.Product m n a b = Ok (Pair a b)
ruled two.Sequence m n a b = sequence (place_of m) a (place_of n) b
ruled two.Parallel m n a b = separate m n (parallel (place_of m) a (place_of n) b)
ruled two.Loop m n a b = looping (place_of m) a (place_of n) b
ruled two.Assignment m n a b = assignment (place_of m) a (place_of n) b
ruled (two.Operation op) m n a b = operation op (place_of m) a (place_of n) b
