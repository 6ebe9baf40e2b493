use Rattle.std.specs.Prelude.{◌+◌, ◌*◌, ◌<◌, ◌∷◌, map}
use Rattle.std.proofs.Common.{arith, rules, ap, ◌∙◌}
use Rattle.gos_types.specs.Types.{type_of, Var}
use Rattle.gos_model.specs.Sources.{import_of}
use Rattle.gos_model.specs.Typing.{array_type}
use Rattle.gos_syntax.specs.Sizes.{size}
use Rattle.gos_check.specs.Nodes.{OfFun, OfNew, OfArray, one_form, two_form}
use Rattle.gos_check.specs.inner.Seen.{binders_of}
use Rattle.gos_check.specs.inner.Walked.{tree}
use Rattle.gos_check.specs.Numbering.{binder_result, one_result, two_result, choice_result, inner_next, numbered}
use Rattle.gos_check.specs.inner.NumberedTerms.{seen}
use Rattle.gos_check.proofs.PartLemmas.{size_parts}
use Rattle.gos_check.proofs.NumberedLemmas.{numbers_same, choice_merged, room_there}
use Rattle.gos_check.proofs.numbering.+numbering.Goals as goal

pub number_one-returns-clause-seen : goal.number_one-returns-clause-seen
number_one-returns-clause-seen t c =
    numbers_same c.with_one.result _ _ (ap (one_result (one_form c.args.rule)) c.in_ok-part.ensures.seen) c.with_one.ensures.seen

pub number_one-returns-clause-room : goal.number_one-returns-clause-room
number_one-returns-clause-room t c =
    room_there c.with_one.result _ _ (omega (arith, c.in_ok-part.ensures.room, size_parts (tree c.args.m.now))) c.with_one.ensures.room

pub number_two-returns-clause-seen : goal.number_two-returns-clause-seen
number_two-returns-clause-seen t c =
    let right =
    c.in_ok-right.ensures.seen ∙ (λ k. numbered (map import_of c.args.imports.now) (binders_of c.args.scope.now) (c.in_ok-left.ensures.seen k).next (tree c.args.n.now)) in
    numbers_same c.with_two.result _ _ (λ i. two_result (two_form c.args.rule) (c.in_ok-left.ensures.seen i) (right i)) c.with_two.ensures.seen

pub number_two-returns-clause-room : goal.number_two-returns-clause-room
number_two-returns-clause-room t c =
    room_there c.with_two.result _ _
    (omega (arith, c.in_ok-left.ensures.room, c.in_ok-right.ensures.room, size_parts (tree c.args.m.now), size_parts (tree c.args.n.now)))
    c.with_two.ensures.room

pub number_function-returns-clause-seen : goal.number_function-returns-clause-seen
number_function-returns-clause-seen t c =
    numbers_same c.below_function.result _ _
    (ap (binder_result OfFun c.args.name.now (type_of c.args.ty.now)) c.in_ok-body.ensures.seen)
    c.below_function.ensures.seen

pub number_function-returns-clause-room : goal.number_function-returns-clause-room
number_function-returns-clause-room t c =
    room_there c.below_function.result _ _ (omega (arith, c.in_ok-body.ensures.room, size_parts (tree c.args.body.now))) c.below_function.ensures.room

pub number_block-returns-clause-seen : goal.number_block-returns-clause-seen
number_block-returns-clause-seen t c =
    numbers_same c.below_block.result _ _
    (ap (binder_result (OfNew c.args.width) c.args.name.now (Var c.args.width)) c.in_ok-body.ensures.seen)
    c.below_block.ensures.seen

pub number_block-returns-clause-room : goal.number_block-returns-clause-room
number_block-returns-clause-room t c =
    room_there c.below_block.result _ _ (omega (arith, c.in_ok-body.ensures.room, size_parts (tree c.args.body.now))) c.below_block.ensures.room

pub number_array-returns-clause-seen : goal.number_array-returns-clause-seen
number_array-returns-clause-seen t c =
    let inner =
    c.in_ok-body.ensures.seen
    ∙ (λ k. numbered (map import_of c.args.imports.now) (record { name = c.args.name.now; ty = c.in_ok-array.ensures.ok k } ∷ binders_of c.args.scope.now)
    c.args.next (tree c.args.body.now)) in
    numbers_same c.below_array.result _ _
    (ap (binder_result (OfArray c.args.many.0 c.args.many.1) c.args.name.now (array_type c.args.many.0 c.args.many.1)) inner)
    c.below_array.ensures.seen

pub number_array-returns-clause-room : goal.number_array-returns-clause-room
number_array-returns-clause-room t c =
    room_there c.below_array.result _ _ (omega (arith, c.in_ok-body.ensures.room, size_parts (tree c.args.body.now))) c.below_array.ensures.room

pub number_choice-returns-clause-seen : goal.number_choice-returns-clause-seen
number_choice-returns-clause-seen t c =
    let yes =
    c.in_ok-yes.ensures.seen ∙ (λ k. numbered (map import_of c.args.imports.now) (binders_of c.args.scope.now) (c.in_ok-test.ensures.seen k).next (tree c.args.n.now)) in
    let no =
    c.in_ok-no.ensures.seen
    ∙ (λ k. numbered (map import_of c.args.imports.now) (binders_of c.args.scope.now) (c.in_ok-inner.ensures.next k) (tree c.args.p.now))
    ∙ (λ k. numbered (map import_of c.args.imports.now) (binders_of c.args.scope.now) (inner_next (c.in_ok-test.ensures.seen k) (yes k)) (tree c.args.p.now)) in
    numbers_same c.with_three.result _ _
    (choice_merged (seen c.in_ok-test.test) (seen c.in_ok-yes.yes) (seen c.in_ok-no.no) _ _ c.in_ok-inner.ensures.splits c.in_ok-inner.ensures.names
    ∙ (λ i. choice_result (c.in_ok-test.ensures.seen i) (yes i) (no i)))
    c.with_three.ensures.seen

pub number_choice-returns-clause-room : goal.number_choice-returns-clause-room
number_choice-returns-clause-room t c =
    room_there c.with_three.result _ _
    (omega (
      arith,
      c.in_ok-test.ensures.room,
      c.in_ok-yes.ensures.room,
      c.in_ok-inner.ensures.room,
      c.in_ok-no.ensures.room,
      size_parts (tree c.args.m.now),
      size_parts (tree c.args.n.now),
      size_parts (tree c.args.p.now),
    ))
    c.with_three.ensures.room

pub number_two-with_two-requires : goal.number_two-with_two-requires
number_two-with_two-requires t c =
    omega (
      arith,
      c.requires,
      c.in_ok-left.ensures.room,
      c.in_ok-right.ensures.room,
      size_parts (tree c.args.m.now),
      size_parts (tree c.args.n.now),
    )

pub number_choice-merge-requires : goal.number_choice-merge-requires
number_choice-merge-requires t c =
    omega (arith, c.requires, c.in_ok-test.ensures.room, c.in_ok-yes.ensures.room, size_parts (tree c.args.m.now), size_parts (tree c.args.n.now))

pub number_choice-number-requires-3 : goal.number_choice-number-requires-3
number_choice-number-requires-3 t c =
    let room : c.in_ok-inner.inner.next + 2 * size (tree c.args.p.now) < 4294967296 =
    omega (
      arith,
      c.requires,
      c.in_ok-test.ensures.room,
      c.in_ok-yes.ensures.room,
      c.in_ok-inner.ensures.room,
      size_parts (tree c.args.m.now),
      size_parts (tree c.args.n.now),
    ) in
    search (rules, room)

pub number_choice-with_three-requires : goal.number_choice-with_three-requires
number_choice-with_three-requires t c =
    omega (
      arith,
      c.requires,
      c.in_ok-test.ensures.room,
      c.in_ok-yes.ensures.room,
      c.in_ok-inner.ensures.room,
      c.in_ok-no.ensures.room,
      size_parts (tree c.args.m.now),
      size_parts (tree c.args.n.now),
      size_parts (tree c.args.p.now),
    )
