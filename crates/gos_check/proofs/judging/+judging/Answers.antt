use Rattle.std.specs.Prelude.{◌≡◌, ℕ, ◌+◌, ◌∷◌, Ok, map}
use Rattle.std.proofs.Common.{arith, sym, ap, ◌∙◌, subst}
use Rattle.gos_types.specs.Types.{Fun, type_of}
use Rattle.gos_syntax.specs.declared.terms.Form.{Form}
use Rattle.gos_syntax.specs.declared.terms.Term.{Term}
use Rattle.gos_syntax.specs.Trees.{tree_of}
use Rattle.gos_model.specs.Sources.{import_of}
use Rattle.gos_model.specs.Typing.{array_type}
use Rattle.gos_check.specs.Faults.{after}
use Rattle.gos_check.specs.Written.{written}
use Rattle.gos_check.specs.Free.{joined, without}
use Rattle.gos_check.specs.Judging.{judged}
use Rattle.gos_check.specs.inner.Seen.{binders_of}
use Rattle.gos_check.specs.inner.Known.{Finds}
use Rattle.gos_check.specs.inner.Walked.{tree, weight_of, parts_judged}
use Rattle.gos_check.proofs.RefusalLemmas.{finds_same, one_found, function_is_found, block_found, choice_found, choice_at, two_found, array_found, array_at, known_there, sized_there, whole_there}
use Rattle.gos_check.proofs.judging.+judging.Goals as goal

pub judge-returns-clause-known : goal.judge-returns-clause-known
judge-returns-clause-known t c =
    let known = c.in_ok-part.ensures.known in
    let found =
    finds_same c.counted.result _ _
    (sized_there (map import_of c.args.imports.now) (binders_of c.args.scope.now) c.args.term.now.form c.args.term.now.span (type_of c.in_ok-part.part.ty)
    c.in_ok-part.ensures.found)
    c.counted.ensures.found in
    whole_there c.counted.result (map import_of c.args.imports.now) (binders_of c.args.scope.now) (tree c.args.term.now)
    c.in_ok-part.part.free.items c.in_ok-part.part.weight known.0 known.2 known.3 found c.counted.ensures.known

pub judge-returns-clause-found : goal.judge-returns-clause-found
judge-returns-clause-found t c =
    finds_same c.counted.result _ _
    (sized_there (map import_of c.args.imports.now) (binders_of c.args.scope.now) c.args.term.now.form c.args.term.now.span (type_of c.in_ok-part.part.ty)
    c.in_ok-part.ensures.found)
    c.counted.ensures.found

pub judge_one-returns-clause-known : goal.judge_one-returns-clause-known
judge_one-returns-clause-known t c =
    let known = c.in_ok-part.ensures.known in
    known_there c.typed_one.result _ _ _ _ _ known.0 known.2 (omega (arith, known.2, known.3)) c.typed_one.ensures.known

pub judge_one-returns-clause-found : goal.judge_one-returns-clause-found
judge_one-returns-clause-found t c =
    finds_same c.typed_one.result _ _
    (one_found _ c.args.rule c.args.m.now.form c.args.m.now.span (type_of c.in_ok-part.part.ty) c.in_ok-part.ensures.found)
    c.typed_one.ensures.found

pub judge_two-returns-clause-known : goal.judge_two-returns-clause-known
judge_two-returns-clause-known t c =
    let left = c.in_ok-left.ensures.known in
    let right = c.in_ok-right.ensures.known in
    known_there c.typed_two.result _ _ _ _ _ (λ i. joined (left.0 i) (right.0 i)) (λ i. left.2 i + right.2 i) (omega (arith, left.3, right.3))
    c.typed_two.ensures.known

pub judge_two-returns-clause-found : goal.judge_two-returns-clause-found
judge_two-returns-clause-found t c =
    finds_same c.typed_two.result _ _
    (two_found _ _ c.args.rule c.args.m.now.form c.args.n.now.form c.args.m.now.span c.args.n.now.span
    (type_of c.in_ok-left.left.ty) (type_of c.in_ok-right.right.ty) c.in_ok-left.left.free.items c.in_ok-right.right.free.items
    c.in_ok-left.ensures.found c.in_ok-right.ensures.found c.in_ok-left.ensures.known.0 c.in_ok-right.ensures.known.0)
    c.typed_two.ensures.found

pub judge_choice-returns-clause-known : goal.judge_choice-returns-clause-known
judge_choice-returns-clause-known t c =
    let test = c.in_ok-test.ensures.known in
    let yes = c.in_ok-yes.ensures.known in
    let no = c.in_ok-no.ensures.known in
    known_there c.typed_choice.result _ _ _ _ _ (λ i. joined (joined (test.0 i) (yes.0 i)) (no.0 i)) (λ i. test.2 i + yes.2 i + no.2 i)
    (omega (arith, test.3, yes.3, no.3))
    c.typed_choice.ensures.known

pub judge_choice-returns-clause-found : goal.judge_choice-returns-clause-found
judge_choice-returns-clause-found t c =
    finds_same c.typed_choice.result _ _
    (choice_found _ _ _ c.args.m.now.form c.args.n.now.form c.args.p.now.form c.args.m.now.span c.args.n.now.span c.args.p.now.span
    (type_of c.in_ok-test.test.ty) (type_of c.in_ok-yes.yes.ty) (type_of c.in_ok-no.no.ty)
    c.in_ok-test.ensures.found c.in_ok-yes.ensures.found c.in_ok-no.ensures.found)
    c.typed_choice.ensures.found

pub judge_block-returns-clause-known : goal.judge_block-returns-clause-known
judge_block-returns-clause-known t c =
    let known = c.in_ok-judged.ensures.known in
    known_there c.typed_block.result _ _ _ _ _ (λ i. without c.args.name.now (known.0 i)) known.2 (omega (arith, known.3)) c.typed_block.ensures.known

pub judge_block-returns-clause-found : goal.judge_block-returns-clause-found
judge_block-returns-clause-found t c =
    finds_same c.typed_block.result _ _
    (block_found _ _ c.args.body.now.form c.args.body.now.span (type_of c.in_ok-judged.judged.ty)
    c.in_ok-written_width.ensures.ok c.in_ok-judged.ensures.found)
    c.typed_block.ensures.found

pub judge_array-returns-clause-known : goal.judge_array-returns-clause-known
judge_array-returns-clause-known t c =
    let known = c.in_ok-judged.ensures.known in
    let few = c.in_ok-written_length.ensures.few in
    let array = c.in_ok-array.ensures.ok in
    let imports = map import_of c.args.imports.now in
    let weighs : c.args.length.0 + c.in_ok-judged.judged.weight
    ≡ c.args.length.0 + weight_of imports (record { name = c.args.name.now; ty = array_type c.args.length.0 c.args.width.0 } ∷ binders_of c.args.scope.now) (tree c.args.body.now) =
    ap (λ (w : ℕ). c.args.length.0 + w) known.2
    ∙ (λ k. c.args.length.0 + weight_of imports (record { name = c.args.name.now; ty = array k } ∷ binders_of c.args.scope.now) (tree c.args.body.now)) in
    known_there c.typed_array.result _ _ _ _ _ (λ i. without c.args.name.now (known.0 i)) weighs (omega (arith, known.3, few)) c.typed_array.ensures.known

pub judge_array-returns-clause-found : goal.judge_array-returns-clause-found
judge_array-returns-clause-found t c =
    let array = c.in_ok-array.ensures.ok in
    let judged_is =
    (λ k. judged (map import_of c.args.imports.now) (record { name = c.args.name.now; ty = sym array k } ∷ binders_of c.args.scope.now) (tree c.args.body.now))
    ∙ c.in_ok-judged.ensures.found in
    finds_same c.typed_array.result _ _
    (array_found _ _ _ c.args.body.now.form c.args.body.now.span (type_of c.in_ok-judged.judged.ty)
    c.in_ok-written_length.ensures.ok c.in_ok-written_width.ensures.ok judged_is)
    c.typed_array.ensures.found

pub judge_function-returns-clause-known : goal.judge_function-returns-clause-known
judge_function-returns-clause-known t c =
    let known = c.in_ok-body.ensures.known in
    known_there c.typed_function.result _ _ _ _ _ (λ i. without c.args.name.now (known.0 i)) known.2 (omega (arith, known.3)) c.typed_function.ensures.known

pub judge_function-returns-clause-found : goal.judge_function-returns-clause-found
judge_function-returns-clause-found t c =
    finds_same c.typed_function.result _ _
    (function_is_found _ _ (type_of c.args.ty.now) (type_of c.in_ok-body.body.ty) _ c.in_ok-written.ensures.ok c.in_ok-body.ensures.found)
    c.typed_function.ensures.found

pub judge_form-returns-in-Fun-clause-found : goal.judge_form-returns-in-Fun-clause-found
judge_form-returns-in-Fun-clause-found t c =
    let there =
    subst (λ (m : Term). Finds (after (written c.in-Fun.ty_span (type_of c.in-Fun.ty)) (λ _.
    after (judged (map import_of c.args.imports.now) (record { name = c.in-Fun.name; ty = type_of c.in-Fun.ty } ∷ binders_of c.args.scope.now) (tree m))
    (λ b. Ok (Fun (type_of c.in-Fun.ty) b)))) c.judge_function.result)
    c.deref.ensures c.judge_function.ensures.found in
    subst (λ (form : Form). Finds (parts_judged (map import_of c.args.imports.now) (binders_of c.args.scope.now) (tree_of form c.args.term.now.span))
    c.judge_function.result)
    (sym c.in-Fun.is) there

pub judge_form-returns-in-If-clause-found : goal.judge_form-returns-in-If-clause-found
judge_form-returns-in-If-clause-found t c =
    let there =
    choice_at (map import_of c.args.imports.now) (binders_of c.args.scope.now) c.judge_choice.result c.deref-in-If.ensures c.deref-in-If-2.ensures
    c.deref-in-If-3.ensures c.judge_choice.ensures.found in
    subst (λ (form : Form). Finds (parts_judged (map import_of c.args.imports.now) (binders_of c.args.scope.now) (tree_of form c.args.term.now.span))
    c.judge_choice.result)
    (sym c.in-If.is) there

pub judge_form-returns-in-Array-clause-found : goal.judge_form-returns-in-Array-clause-found
judge_form-returns-in-Array-clause-found t c =
    let there =
    array_at (map import_of c.args.imports.now) (binders_of c.args.scope.now) c.judge_array.result c.in-Array.name c.in-Array.length c.in-Array.length_span
    c.in-Array.width c.in-Array.width_span c.deref-in-Array.ensures c.judge_array.ensures.found in
    subst (λ (form : Form). Finds (parts_judged (map import_of c.args.imports.now) (binders_of c.args.scope.now) (tree_of form c.args.term.now.span))
    c.judge_array.result)
    (sym c.in-Array.is) there
