use Rattle.std.proofs.Common.{rules, ◌≡◌, ◌<◌, ◌∙◌, ℕ, List, Option, Some, true, false, length, refl, subst, sym, ap, Vec, Global}
use Rattle.std.specs.Prelude.{slice_get}
use Rattle.std.proofs.lemmas.Option.{slice_get_read}
use Rattle.gos_witness.specs.declared.binding.Bound.{Bound}
use Rattle.gos_witness.specs.Substituted.{imports_if, imports_at}
use Rattle.gos_witness.specs.inner.Built.{AllBelow, AreBelow, AreByUser, AreImports, IsModuleNode, is_next, list_at}
use Rattle.gos_witness.proofs.BuildLemmas.{all_below, fewer_left, goes_on, next_imports, one_more, root_made}
use Rattle.gos_witness.proofs.substituting.add_root.Goals as goal

pub next_ready-requires-clause-below : goal.next_ready-requires-clause-below
next_ready-requires-clause-below c =
    let modules = c.args.modules.now in
    let binds = c.args.binds.now in
    let lists = c.as_slice-lists.result.now in
    let nodes = c.loop-number.nodes.items in
    let all_own : AreByUser (length modules) c.in_ok-by_user.by_user.items binds = search rules in
    let own : AreByUser (length modules) lists binds =
    subst (λ (vs : List (Vec Bound Global)). AreByUser (length modules) vs binds) (sym c.as_slice-lists.ensures.value) all_own in
    let count : length c.as_slice.result.now ≡ length modules = ap length c.as_slice.ensures.value ∙ c.loop-number.invariant.each in
    subst (λ (k : ℕ). AllBelow k lists) (sym count) (all_below modules lists binds c.requires.binds own)

pub unreachable-requires : goal.unreachable-requires
unreachable-requires c =
    let modules = c.args.modules.now in
    let binds = c.args.binds.now in
    let lists = c.as_slice-lists.result.now in
    let nodes = c.loop-number.nodes.items in
    let all_own : AreByUser (length modules) c.in_ok-by_user.by_user.items binds = search rules in
    let own : AreByUser (length modules) lists binds =
    subst (λ (vs : List (Vec Bound Global)). AreByUser (length modules) vs binds) (sym c.as_slice-lists.ensures.value) all_own in
    let none_here : (v : ℕ) → v < length nodes → is_next lists nodes v ≡ false =
    subst (λ (ns : List (Option ℕ)). (v : ℕ) → v < length ns → is_next lists ns v ≡ false) c.as_slice.ensures.value (c.next_ready.ensures.none c.in_default.is) in
    goes_on modules binds lists nodes c.args.root c.requires own c.loop-number.invariant.each c.loop-number.invariant.root_left none_here

pub add_module-requires-clause-below : goal.add_module-requires-clause-below
add_module-requires-clause-below c =
    let modules = c.args.modules.now in
    let binds = c.args.binds.now in
    let lists = c.as_slice-lists.result.now in
    let nodes = c.loop-number.nodes.items in
    let all_own : AreByUser (length modules) c.in_ok-by_user.by_user.items binds = search rules in
    let own : AreByUser (length modules) lists binds =
    subst (λ (vs : List (Vec Bound Global)). AreByUser (length modules) vs binds) (sym c.as_slice-lists.ensures.value) all_own in
    let number = c.in-Some.number in
    let count : length c.as_slice-in-loop-number.result.now ≡ length modules = ap length c.as_slice-in-loop-number.ensures.value ∙ c.loop-number.invariant.each in
    let low : number < length lists = search rules in
    subst (λ (k : ℕ). AreBelow k c.own.result.now) (sym count)
    (subst (λ (bs : List Bound). AreBelow (length modules) bs) (sym c.own.ensures) (all_below modules lists binds c.requires.binds own number low))

pub add_module-requires-clause-imports : goal.add_module-requires-clause-imports
add_module-requires-clause-imports c =
    let modules = c.args.modules.now in
    let binds = c.args.binds.now in
    let lists = c.as_slice-lists.result.now in
    let nodes = c.loop-number.nodes.items in
    let all_own : AreByUser (length modules) c.in_ok-by_user.by_user.items binds = search rules in
    let own : AreByUser (length modules) lists binds =
    subst (λ (vs : List (Vec Bound Global)). AreByUser (length modules) vs binds) (sym c.as_slice-lists.ensures.value) all_own in
    let number = c.in-Some.number in
    let there : number < length modules = search rules in
    let at : slice_get modules number ≡ Some c.index-modules-number.result =
    slice_get_read modules (length modules) number c.index-modules-number.result refl there c.index-modules-number.is in
    subst (λ is. AreImports (length is) c.own.result.now) (ap imports_if at)
    (subst (λ (bs : List Bound). AreImports (length (imports_at modules number)) bs) (sym c.own.ensures)
    (next_imports modules binds lists number c.requires.binds own there))

pub returns-then-number-root-clause-term : goal.returns-then-number-root-clause-term
returns-then-number-root-clause-term c =
    let modules = c.args.modules.now in
    let binds = c.args.binds.now in
    let lists = c.as_slice-lists.result.now in
    let nodes = c.loop-number.nodes.items in
    let all_own : AreByUser (length modules) c.in_ok-by_user.by_user.items binds = search rules in
    let own : AreByUser (length modules) lists binds =
    subst (λ (vs : List (Vec Bound Global)). AreByUser (length modules) vs binds) (sym c.as_slice-lists.ensures.value) all_own in
    let number = c.in-Some.number in
    let low : number < length nodes = search rules in
    let next : is_next lists nodes number ≡ true = search rules in
    let there : number < length modules = search rules in
    let at : slice_get modules number ≡ Some c.index-modules-number.result =
    slice_get_read modules (length modules) number c.index-modules-number.result refl there c.index-modules-number.is in
    let node : IsModuleNode c.loop-number.list c.add_module.new.list c.index-modules-number.result (list_at lists number) nodes c.in_ok-node.node =
    subst (λ (bs : List Bound). IsModuleNode c.loop-number.list c.add_module.new.list c.index-modules-number.result bs nodes c.in_ok-node.node) c.own.ensures
    (subst (λ (ns : List (Option ℕ)). IsModuleNode c.loop-number.list c.add_module.new.list c.index-modules-number.result c.own.result.now ns c.in_ok-node.node)
    c.as_slice-in-loop-number.ensures.value c.in_ok-node.ensures.node) in
    let is_root : number ≡ c.args.root = search rules in
    root_made modules binds lists c.args.root c.loop-number.list c.add_module.new.list nodes number c.in_ok-node.node
    c.index-modules-number.result own c.loop-number.invariant low at next node is_root

pub loop-number-smaller : goal.loop-number-smaller
loop-number-smaller c =
    let modules = c.args.modules.now in
    let lists = c.as_slice-lists.result.now in
    let nodes = c.loop-number.nodes.items in
    let number = c.in-Some.number in
    let low : number < length nodes = search rules in
    let next : is_next lists nodes number ≡ true = search rules in
    fewer_left (length modules) lists nodes number c.in_ok-node.node c.loop-number.invariant.each low next

pub loop-number-preserved : goal.loop-number-preserved
loop-number-preserved c =
    let modules = c.args.modules.now in
    let binds = c.args.binds.now in
    let lists = c.as_slice-lists.result.now in
    let nodes = c.loop-number.nodes.items in
    let all_own : AreByUser (length modules) c.in_ok-by_user.by_user.items binds = search rules in
    let own : AreByUser (length modules) lists binds =
    subst (λ (vs : List (Vec Bound Global)). AreByUser (length modules) vs binds) (sym c.as_slice-lists.ensures.value) all_own in
    let number = c.in-Some.number in
    let low : number < length nodes = search rules in
    let next : is_next lists nodes number ≡ true = search rules in
    let there : number < length modules = search rules in
    let at : slice_get modules number ≡ Some c.index-modules-number.result =
    slice_get_read modules (length modules) number c.index-modules-number.result refl there c.index-modules-number.is in
    let node : IsModuleNode c.loop-number.list c.add_module.new.list c.index-modules-number.result (list_at lists number) nodes c.in_ok-node.node =
    subst (λ (bs : List Bound). IsModuleNode c.loop-number.list c.add_module.new.list c.index-modules-number.result bs nodes c.in_ok-node.node) c.own.ensures
    (subst (λ (ns : List (Option ℕ)). IsModuleNode c.loop-number.list c.add_module.new.list c.index-modules-number.result c.own.result.now ns c.in_ok-node.node)
    c.as_slice-in-loop-number.ensures.value c.in_ok-node.ensures.node) in
    one_more modules binds lists c.args.root c.loop-number.list c.add_module.new.list nodes number c.in_ok-node.node
    c.index-modules-number.result own c.loop-number.invariant c.in_ok-node.ensures.keeps low at next node c.if-number-root.false
