-- What it means that the demands of a form are met.
use Rattle.std.specs.Prelude.{◌≡◌, ℕ, ◌^◌, Option, Some, None, Ok, Err, if◌then◌else◌, nat_lt}
use Rattle.std.proofs.Common.{ap, ◌∙◌}
use Rattle.gos_lex.specs.declared.token.Span.{Span}
use Rattle.gos_types.specs.Types.{Type', Com, Exp, Var, Pair, Fun, IsDone}
use Rattle.gos_syntax.specs.declared.terms.Op.{Op}
use Rattle.gos_model.specs.Terms.{Name, result_width}
use Rattle.gos_model.specs.Sources.{op_of}
use Rattle.gos_check.specs.Faults.{Width, after}
use Rattle.gos_check.specs.Written.{literal, written_width}
use Rattle.gos_check.specs.Scopes.{used}
use Rattle.gos_check.specs.Demands.{application, first_side, second_side, sequence, parallel, choice, looping, assignment, reading, negation, operation, demanded, done, expression, variable}
use Rattle.gos_check.proofs.FoundLemmas.{after_is, demanded_is, done_is, if_ok}
use Rattle.gos_check.proofs.RuleLemmas.{ok_is}

pub used_is : (s : Span) (x : Name) (o : Option Type') (t : Type') → used s x o ≡ Ok t → o ≡ Some t
used_is s x None t h = cc
used_is s x (Some u) t h = ap Some (ok_is u t h)

pub literal_is : (s : Span) (k w : ℕ) (t : Type') → literal s k w ≡ Ok t → Exp w ≡ t
literal_is s k w t h =
    let p = after_is (written_width s w) (λ _. if nat_lt k (2 ^ w) then Ok (Exp w) else Err (Width s w k)) t h in
    (if_ok (nat_lt k (2 ^ w)) (Exp w) t (Width s w k) p.2).1

pub application_is : (s : Span) (a : Type') (t : Span) (b u : Type') → application s a t b ≡ Ok u → a ≡ Fun b u
application_is s Com t b u h = cc
application_is s (Exp w) t b u h = cc
application_is s (Var w) t b u h = cc
application_is s (Pair c d) t b u h = cc
application_is s (Fun c d) t b u h =
    let p = after_is (demanded t c b) (λ _. Ok d) u h in
    ap (λ x. Fun x d) (demanded_is t c b p.0 p.1).0 ∙ ap (λ x. Fun b x) (ok_is d u p.2)

pub first_is : (s : Span) (a u : Type') → first_side s a ≡ Ok u → (b : Type') × (a ≡ Pair u b)
first_is s Com u h = cc
first_is s (Exp w) u h = cc
first_is s (Var w) u h = cc
first_is s (Pair c d) u h = (d, ap (λ x. Pair x d) (ok_is c u h))
first_is s (Fun c d) u h = cc

pub second_is : (s : Span) (a u : Type') → second_side s a ≡ Ok u → (b : Type') × (a ≡ Pair b u)
second_is s Com u h = cc
second_is s (Exp w) u h = cc
second_is s (Var w) u h = cc
second_is s (Pair c d) u h = (c, ap (λ x. Pair c x) (ok_is d u h))
second_is s (Fun c d) u h = cc

pub variable_is : (s : Span) (a : Type') (w : ℕ) → variable s a ≡ Ok w → a ≡ Var w
variable_is s Com w h = cc
variable_is s (Exp v) w h = cc
variable_is s (Var v) w h = (cc)
variable_is s (Pair c d) w h = cc
variable_is s (Fun c d) w h = cc

pub expression_is : (s : Span) (a : Type') (w : ℕ) → expression s a ≡ Ok w → a ≡ Exp w
expression_is s Com w h = cc
expression_is s (Exp v) w h = (cc)
expression_is s (Var v) w h = cc
expression_is s (Pair c d) w h = cc
expression_is s (Fun c d) w h = cc

pub sequence_is : (s : Span) (a : Type') (t : Span) (b u : Type') → sequence s a t b ≡ Ok u → (Com ≡ a) × IsDone b × (b ≡ u)
sequence_is s a t b u h =
    let p = after_is (demanded s Com a) (λ _. done t b) u h in
    let q = done_is t b u p.2 in
    ((demanded_is s Com a p.0 p.1).0, q.0, q.1)

pub parallel_is : (s : Span) (a : Type') (t : Span) (b u : Type') → parallel s a t b ≡ Ok u → (Com ≡ a) × (Com ≡ b) × (b ≡ u)
parallel_is s a t b u h =
    let p = after_is (demanded s Com a) (λ _. demanded t Com b) u h in
    let q = demanded_is t Com b u p.2 in
    ((demanded_is s Com a p.0 p.1).0, q.0, q.1)

pub looping_is : (s : Span) (a : Type') (t : Span) (b u : Type') → looping s a t b ≡ Ok u → (Exp 1 ≡ a) × (Com ≡ b) × (b ≡ u)
looping_is s a t b u h =
    let p = after_is (demanded s (Exp 1) a) (λ _. demanded t Com b) u h in
    let q = demanded_is t Com b u p.2 in
    ((demanded_is s (Exp 1) a p.0 p.1).0, q.0, q.1)

pub choice_is : (s : Span) (a : Type') (t : Span) (b : Type') (v : Span) (c u : Type') → choice s a t b v c ≡ Ok u
    → (Exp 1 ≡ a) × IsDone b × (b ≡ c) × (c ≡ u)
choice_is s a t b v c u h =
    let p = after_is (demanded s (Exp 1) a) (λ _. after (done t b) (λ d. demanded v d c)) u h in
    let q = after_is (done t b) (λ d. demanded v d c) u p.2 in
    let r = done_is t b q.0 q.1 in
    let e = demanded_is v q.0 c u q.2 in
    ((demanded_is s (Exp 1) a p.0 p.1).0, r.0, r.1 ∙ e.0, e.1)

pub assignment_is : (s : Span) (a : Type') (t : Span) (b u : Type') → assignment s a t b ≡ Ok u → (w : ℕ) × (a ≡ Var w) × (Exp w ≡ b) × (Com ≡ u)
assignment_is s a t b u h =
    let p = after_is (variable s a) (λ w. after (demanded t (Exp w) b) (λ _. Ok Com)) u h in
    let q = after_is (demanded t (Exp p.0) b) (λ _. Ok Com) u p.2 in
    (p.0, variable_is s a p.0 p.1, (demanded_is t (Exp p.0) b q.0 q.1).0, ok_is Com u q.2)

pub reading_is : (s : Span) (a u : Type') → reading s a ≡ Ok u → (w : ℕ) × (a ≡ Var w) × (Exp w ≡ u)
reading_is s a u h = let p = after_is (variable s a) (λ w. Ok (Exp w)) u h in (p.0, variable_is s a p.0 p.1, ok_is (Exp p.0) u p.2)

pub negation_is : (s : Span) (a u : Type') → negation s a ≡ Ok u → (w : ℕ) × (a ≡ Exp w) × (Exp w ≡ u)
negation_is s a u h = let p = after_is (expression s a) (λ w. Ok (Exp w)) u h in (p.0, expression_is s a p.0 p.1, ok_is (Exp p.0) u p.2)

pub operation_is : (op : Op) (s : Span) (a : Type') (t : Span) (b u : Type') → operation op s a t b ≡ Ok u
    → (w : ℕ) × (a ≡ Exp w) × (Exp w ≡ b) × (Exp (result_width (op_of op) w) ≡ u)
operation_is op s a t b u h =
    let p = after_is (expression s a) (λ w. after (demanded t (Exp w) b) (λ _. Ok (Exp (result_width (op_of op) w)))) u h in
    let q = after_is (demanded t (Exp p.0) b) (λ _. Ok (Exp (result_width (op_of op) p.0))) u p.2 in
    (p.0, expression_is s a p.0 p.1, (demanded_is t (Exp p.0) b q.0 q.1).0, ok_is (Exp (result_width (op_of op) p.0)) u q.2)
