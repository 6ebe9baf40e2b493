-- What the rules of forms make of the types of their parts.
use Rattle.std.specs.Prelude.{◌≡◌, ◌≤◌, Ok, Err}
use Rattle.std.proofs.Common.{arith, refl, subst}
use Rattle.gos_lex.specs.declared.token.Span.{Span}
use Rattle.gos_types.specs.Types.{Type', Com, Exp, Var, Pair, Fun}
use Rattle.gos_syntax.specs.Trees.{Tree}
use Rattle.gos_model.specs.Weight.{count}
use Rattle.gos_check.specs.declared.forms.OnePart.{OnePart}
use Rattle.gos_check.specs.declared.forms.OnePart.TheVariants as one
use Rattle.gos_check.specs.declared.forms.TwoParts.{TwoParts}
use Rattle.gos_check.specs.declared.forms.TwoParts.TheVariants as two
use Rattle.gos_check.specs.Sizes.{IsCountable}
use Rattle.gos_check.specs.Faults.{Found, after}
use Rattle.gos_check.specs.Free.{free}
use Rattle.gos_check.specs.Demands.{demanded, done, expression, variable, sequence, looping, assignment, operation}
use Rattle.gos_model.specs.Terms.{result_width}
use Rattle.gos_model.specs.Sources.{op_of}
use Rattle.gos_check.specs.Judging.{place_of}
use Rattle.gos_check.specs.inner.Rules.{rule_of_one, rule_of_two, two_rule, ruled}
use Rattle.gos_check.proofs.SizeLemmas.{countable_of_small, countable_pair, countable_first, countable_second, countable_outcome}
use Rattle.gos_check.proofs.FoundLemmas.{after_is, demanded_is, done_is}

-- a type and its equal are counted alike
same_countable : (t u : Type') → t ≡ u → IsCountable t → IsCountable u
same_countable t u e h = subst (λ (x : Type'). IsCountable x) e h

-- an answer is one
pub ok_is : (t u : Type') → (let f : Found Type' = Ok t in f ≡ Ok u) → t ≡ u
ok_is t u h = cc

-- what a form of one part makes of a small type can be counted
pub one_countable : (rule : OnePart) (s : Span) (a u : Type') → count a ≤ 64 → rule_of_one rule s a ≡ Ok u → IsCountable u
one_countable one.First s Com u k h = cc
one_countable one.First s (Exp w) u k h = cc
one_countable one.First s (Var w) u k h = cc
one_countable one.First s (Pair a b) u k h = same_countable a u (ok_is a u h) (countable_first a b k)
one_countable one.First s (Fun a b) u k h = cc
one_countable one.Second s Com u k h = cc
one_countable one.Second s (Exp w) u k h = cc
one_countable one.Second s (Var w) u k h = cc
one_countable one.Second s (Pair a b) u k h = same_countable b u (ok_is b u h) (countable_second a b k)
one_countable one.Second s (Fun a b) u k h = cc
one_countable one.Reading s a u k h =
    let p = after_is (variable s a) (λ w. Ok (Exp w)) u h in same_countable (Exp p.0) u (ok_is (Exp p.0) u p.2) (omega arith)
one_countable one.Negation s a u k h =
    let p = after_is (expression s a) (λ w. Ok (Exp w)) u h in same_countable (Exp p.0) u (ok_is (Exp p.0) u p.2) (omega arith)

-- so can what a form of two parts makes of small types
pub two_countable : (rule : TwoParts) (s : Span) (a : Type') (t : Span) (b u : Type') → count a ≤ 64 → count b ≤ 64
    → rule_of_two rule s a t b ≡ Ok u → IsCountable u
two_countable two.Application s Com t b u k l h = cc
two_countable two.Application s (Exp w) t b u k l h = cc
two_countable two.Application s (Var w) t b u k l h = cc
two_countable two.Application s (Pair c d) t b u k l h = cc
two_countable two.Application s (Fun c d) t b u k l h =
    let p = after_is (demanded t c b) (λ _. Ok d) u h in same_countable d u (ok_is d u p.2) (countable_outcome c d k)
two_countable two.Product s a t b u k l h = same_countable (Pair a b) u (ok_is (Pair a b) u h) (countable_pair a b k l)
two_countable two.Sequence s a t b u k l h =
    let p = after_is (demanded s Com a) (λ _. done t b) u h in
    let q = done_is t b u p.2 in
    same_countable b u q.1 (countable_of_small b l)
two_countable two.Parallel s a t b u k l h =
    let p = after_is (demanded s Com a) (λ _. demanded t Com b) u h in
    let q = demanded_is t Com b u p.2 in
    same_countable b u q.1 (countable_of_small b l)
two_countable two.Loop s a t b u k l h =
    let p = after_is (demanded s (Exp 1) a) (λ _. demanded t Com b) u h in
    let q = demanded_is t Com b u p.2 in
    same_countable b u q.1 (countable_of_small b l)
two_countable two.Assignment s a t b u k l h =
    let p = after_is (variable s a) (λ w. after (demanded t (Exp w) b) (λ _. Ok Com)) u h in
    let q = after_is (demanded t (Exp p.0) b) (λ _. Ok Com) u p.2 in
    same_countable Com u (ok_is Com u q.2) (omega arith)
two_countable (two.Operation op) s a t b u k l h =
    let p = after_is (expression s a) (λ w. after (demanded t (Exp w) b) (λ _. Ok (Exp (result_width (op_of op) w)))) u h in
    let q = after_is (demanded t (Exp p.0) b) (λ _. Ok (Exp (result_width (op_of op) p.0))) u p.2 in
    same_countable (Exp (result_width (op_of op) p.0)) u (ok_is (Exp (result_width (op_of op) p.0)) u q.2) (omega arith)

-- an answer that nothing more is asked of
after_itself : (found : Found Type') → found ≡ after found (λ u. Ok u)
after_itself (Ok u) = refl
after_itself (Err fault) = refl

-- what a form of two parts makes of them is what its rule makes of their places, types and names
pub ruled_is : (rule : TwoParts) (m n : Tree) (a b : Type') → ruled rule m n a b ≡ two_rule rule (place_of m) a (free m) (place_of n) b (free n)
ruled_is two.Application m n a b = refl
ruled_is two.Product m n a b = refl
ruled_is two.Sequence m n a b = after_itself (sequence (place_of m) a (place_of n) b)
ruled_is two.Parallel m n a b = refl
ruled_is two.Loop m n a b = after_itself (looping (place_of m) a (place_of n) b)
ruled_is two.Assignment m n a b = after_itself (assignment (place_of m) a (place_of n) b)
ruled_is (two.Operation op) m n a b = after_itself (operation op (place_of m) a (place_of n) b)
