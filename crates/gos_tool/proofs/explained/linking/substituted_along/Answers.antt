use Rattle.std.specs.Prelude.{◌≢◌}
use Rattle.std.proofs.Common.{sym}
use Rattle.std.proofs.lemmas.Result.{IfErr-weaker}
use Rattle.gos_command.proofs.EndLemmas.{of_result}
use Rattle.gos_witness.specs.declared.fault.ExplainFault.TheVariants.{NoMemory}
use Rattle.gos_witness.specs.Substituted.{IsLinked, IsTooLargeFault, linked_program}
use Rattle.gos_tool.proofs.lemmas.explained.LinkableLemmas.{are_linkable, linkable_as, linked_as, may_be_ports, ports_as, too_large_as}
use Rattle.gos_tool.specs.explained.LinkedModules.{IsTypedProgram}
use Rattle.gos_tool.proofs.lemmas.explained.TypedLemmas.{as_instances, linked_typed}
use Rattle.gos_tool.proofs.explained.linking.substituted_along.Goals as goal

pub substitute-requires-clause-linkable : goal.substitute-requires-clause-linkable
substitute-requires-clause-linkable c =
    linkable_as _ _ _ _ _ _ (sym c.as_slice.ensures.value) (sym c.requires.binds) (sym c.root.ensures)
    (are_linkable c.args.build.now c.args.sources.now.modules.items c.args.sources.now.shells.items c.args.links.now c.requires.stand
    c.requires.linkable c.requires.accepted c.requires.links c.typed_is_narrow.ensures)

pub substitute-requires-clause-ports : goal.substitute-requires-clause-ports
substitute-requires-clause-ports c =
    ports_as _ _ _ _ _ _ (sym c.as_slice.ensures.value) (sym c.requires.binds) (sym c.root.ensures) c.args.build.now.root
    (may_be_ports c.args.build.now c.args.sources.now.modules.items c.args.sources.now.shells.items c.args.links.now c.requires.stand
    c.requires.linkable c.requires.accepted c.requires.links)

pub returns-clause-linked : goal.returns-clause-linked
returns-clause-linked c =
    of_result (IsLinked c.as_slice.result.now c.args.binds.now c.root.result c.args.build.now.root) _ c.substitute.result
    (λ p h. record {
      links = (c.args.sources.now.shells.items, c.requires.stand, c.requires.links);
      program = linked_as _ _ _ _ _ _ c.as_slice.ensures.value c.requires.binds c.root.ensures c.args.build.now.root p h;
    }) c.substitute.ensures.linked

pub returns-clause-typed : goal.returns-clause-typed
returns-clause-typed c =
    let ms = c.args.sources.now.modules.items in
    of_result (IsLinked c.as_slice.result.now c.args.binds.now c.root.result c.args.build.now.root) IsTypedProgram c.substitute.result
    (λ p h. linked_typed c.substituted_is_typed.ensures c.args.build.now ms c.args.links.now p
    (as_instances c.args.build.now ms c.args.sources.now.shells.items c.requires.stand c.requires.linkable) c.requires.accepted
    (record {
      links = (c.args.sources.now.shells.items, c.requires.stand, c.requires.links);
      program = linked_as _ _ _ _ _ _ c.as_slice.ensures.value c.requires.binds c.root.ensures c.args.build.now.root p h;
    })) c.substitute.ensures.linked

pub returns-clause-fault : goal.returns-clause-fault
returns-clause-fault c =
    IfErr-weaker c.substitute.result
    (λ fault. fault ≢ NoMemory → IsTooLargeFault (linked_program c.as_slice.result.now c.args.binds.now c.root.result) fault) _
    (λ fault known real. too_large_as _ _ _ _ _ _ c.as_slice.ensures.value c.requires.binds c.root.ensures fault (known real))
    c.substitute.ensures.fault
