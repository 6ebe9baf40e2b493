use Rattle.std.proofs.Common.{rules, ◌≡◌, ◌++◌, ◌∷◌, ◌∙◌, [], List, Option, Some, Vec, Global, ap, length, map, refl, subst, sym}
use Rattle.std.specs.Prelude.{slice_get}
use Rattle.std.specs.List.{AllByRecursion}
use Rattle.std.proofs.lemmas.Option.{slice_get_read}
use Rattle.gos_types.specs.declared.types.Ty.{Ty}
use Rattle.gos_types.specs.Types.{type_of}
use Rattle.gos_netlist.specs.Writable.{IsPortType}
use Rattle.gos_syntax.specs.Modules.{SeenModule}
use Rattle.gos_model.specs.Typing.{Imports}
use Rattle.gos_witness.specs.declared.binding.Bound.{Bound}
use Rattle.gos_witness.specs.declared.program.ProgramPort.{ProgramPort}
use Rattle.gos_witness.specs.Ports.{imported}
use Rattle.gos_witness.specs.Substituted.{AreOnSides, face, outcome_if, root_port}
use Rattle.gos_witness.specs.inner.Built.{AllImports, AreByUser, opens_from}
use Rattle.gos_witness.specs.inner.TraceParts.{IsNamed}
use Rattle.gos_witness.proofs.OpenLemmas.{MayBeTaken, all_imports, all_opens}
use Rattle.gos_witness.proofs.opening.ports_of.Goals as goal

pub port-requires : goal.port-requires
port-requires c =
    let modules = c.args.modules.now in
    let source = c.index-modules-root.result in
    let at : slice_get modules c.args.root ≡ Some source =
    slice_get_read modules (length modules) c.args.root source refl c.requires.linkable.there c.index-modules-root.is in
    let same : source.result ≡ c.source.inside.result = search rules in
    subst (λ (t : Ty). IsPortType (type_of t)) same (c.requires.ports.result source at)

pub push_all_open-requires-clause-imports : goal.push_all_open-requires-clause-imports
push_all_open-requires-clause-imports c =
    let modules = c.args.modules.now in
    let all_own : AreByUser (length modules) c.in_ok-by_user.by_user.items c.args.binds.now = search rules in
    subst (λ (vs : List (Vec Bound Global)). AllImports modules vs) (sym c.as_slice.ensures.value)
    (all_imports modules c.args.binds.now c.in_ok-by_user.by_user.items c.requires.linkable.binds all_own)

pub push_all_open-requires-clause-types : goal.push_all_open-requires-clause-types
push_all_open-requires-clause-types c =
    let modules = c.args.modules.now in
    let all_own : AreByUser (length modules) c.in_ok-by_user.by_user.items c.args.binds.now = search rules in
    subst (λ (vs : List (Vec Bound Global)). MayBeTaken (opens_from vs 0 modules)) (sym c.as_slice.ensures.value)
    (subst (λ (is : Imports). MayBeTaken is) (sym (all_opens modules c.args.binds.now c.in_ok-by_user.by_user.items c.args.root all_own)) c.requires.ports.taken)

pub push_all_open-requires-clause-named : goal.push_all_open-requires-clause-named
push_all_open-requires-clause-named c =
    let items : c.in_ok-ports.ports.items ≡ c.in_ok-port.port ∷ [] = search rules in
    subst (λ (ps : List ProgramPort). AllByRecursion IsNamed ps) (sym items) (c.in_ok-port.ensures.named, tt)

pub push_all_open-requires-clause-sides : goal.push_all_open-requires-clause-sides
push_all_open-requires-clause-sides c =
    let items : c.in_ok-ports.ports.items ≡ c.in_ok-port.port ∷ [] = search rules in
    subst (λ (ps : List ProgramPort). AreOnSides ps) (sym items) (c.in_ok-port.ensures.side, tt)

pub returns-clause-faces : goal.returns-clause-faces
returns-clause-faces c =
    let modules = c.args.modules.now in
    let source = c.index-modules-root.result in
    let lists = c.in_ok-by_user.by_user.items in
    let new = c.push_all_open.new.ports.items in
    let all_own : AreByUser (length modules) lists c.args.binds.now = search rules in
    let items : c.in_ok-ports.ports.items ≡ c.in_ok-port.port ∷ [] = search rules in
    let at : slice_get modules c.args.root ≡ Some source =
    slice_get_read modules (length modules) c.args.root source refl c.requires.linkable.there c.index-modules-root.is in
    let same : c.source.inside.result ≡ source.result = search rules in
    let first : imported c.in_ok-port.port ≡ root_port modules c.args.root c.args.name.now =
    c.in_ok-port.ensures.face ∙ ap (λ (t : Ty). face c.args.name.now (type_of t)) same ∙ sym (ap (λ (o : Option SeenModule). face c.args.name.now (outcome_if o)) at) in
    let more : map imported new ≡ map imported (c.in_ok-port.port ∷ []) ++ opens_from lists 0 modules =
    subst (λ (ps : List ProgramPort). map imported new ≡ map imported ps ++ opens_from lists 0 modules) items
    (subst (λ (vs : List (Vec Bound Global)). map imported new ≡ map imported c.in_ok-ports.ports.items ++ opens_from vs 0 modules) c.as_slice.ensures.value c.in_ok-push_all_open.ensures.faces) in
    more ∙ (λ i. first i ∷ all_opens modules c.args.binds.now lists c.args.root all_own i)
