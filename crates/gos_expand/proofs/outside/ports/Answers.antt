use Rattle.std.proofs.Common.{◌≡◌, ◌+◌, ◌∙◌, ℕ, ap, arith, get_or}
use Rattle.std.proofs.lemmas.Option.{get_or_from_slice_get}
use Rattle.gos_types.specs.Types.{type_of}
use Rattle.gos_netlist.specs.Nets.{Give, Take, NetPort}
use Rattle.gos_plan.specs.declared.plan.PlanImport.{PlanImport}
use Rattle.gos_plan.specs.Kinds.{contacts_of}
use Rattle.gos_plan.specs.Plans.{Plan}
use Rattle.gos_plan.specs.Seen.{plan_of, import_of}
use Rattle.gos_expand.specs.Blocks.{nets_on, total}
use Rattle.gos_expand.specs.Starts.{Laying, shake_size, port_start}
use Rattle.gos_expand.specs.Laid.{laid_port}
use Rattle.gos_expand.proofs.BlockLemmas.{item_mapped}
use Rattle.gos_expand.proofs.EndLemmas.{import_begins, import_ends_within, port_added}
use Rattle.gos_expand.proofs.LeafLemmas.{there_within}
use Rattle.gos_expand.specs.inner.Numbering.{laying_in}
use Rattle.gos_expand.proofs.outside.ports.Goals as goal

-- the port of an import whose first cell is n
abbrev laid_at : ℕ → PlanImport → NetPort
laid_at n x = record { name = x.name; side = Take; ty = type_of x.ty; nets = nets_on n (total shake_size 0 (contacts_of (type_of x.ty))) }

pub bounds-starts-index : goal.bounds-starts-index
bounds-starts-index c =
    let p : Plan = plan_of c.args.plan.now in
    let i : ℕ = c.loop-index.index in
    let x : PlanImport = c.index-imports-index.result in
    let there = item_mapped import_of i c.imports-imports.result.now c.args.plan.now.imports x c.imports-imports.ensures c.loop-index-test.true c.index-imports-index.is in
    let begins = import_begins p c.args.numbering.now.ports.items i (import_of x) c.requires.numbered.of_ports there in
    rw (c.as_slice-starts.ensures.value) (there_within c.args.numbering.now.ports.items (i + 1) (port_start p (i + 1)) begins)

pub port-requires-in-loop-index-clause-room : goal.port-requires-in-loop-index-clause-room
port-requires-in-loop-index-clause-room c =
    let lay : Laying = laying_in c.args.numbering.now in
    let p : Plan = plan_of c.args.plan.now in
    let i : ℕ = c.loop-index.index in
    let x : PlanImport = c.index-imports-index.result in
    let there = item_mapped import_of i c.imports-imports.result.now c.args.plan.now.imports x c.imports-imports.ensures c.loop-index-test.true c.index-imports-index.is in
    let begins = import_begins p c.args.numbering.now.ports.items i (import_of x) c.requires.numbered.of_ports there in
    let start : get_or c.as_slice-starts.result.now (i + 1) 0 ≡ port_start p (i + 1) =
    rw (c.as_slice-starts.ensures.value) (get_or_from_slice_get c.args.numbering.now.ports.items (i + 1) (port_start p (i + 1)) 0 begins) in
    let within = import_ends_within lay p i (import_of x) there in
    let whole = c.requires.numbered.whole in
    let room = c.requires.numbered.room in
    omega (arith, start, within, whole, room)

pub loop-index-preserved : goal.loop-index-preserved
loop-index-preserved c =
    let p : Plan = plan_of c.args.plan.now in
    let i : ℕ = c.loop-index.index in
    let x : PlanImport = c.index-imports-index.result in
    let there = item_mapped import_of i c.imports-imports.result.now c.args.plan.now.imports x c.imports-imports.ensures c.loop-index-test.true c.index-imports-index.is in
    let begins = import_begins p c.args.numbering.now.ports.items i (import_of x) c.requires.numbered.of_ports there in
    let start : get_or c.as_slice-starts.result.now (i + 1) 0 ≡ port_start p (i + 1) =
    rw (c.as_slice-starts.ensures.value) (get_or_from_slice_get c.args.numbering.now.ports.items (i + 1) (port_start p (i + 1)) 0 begins) in
    let same : c.in_ok-port-2.field-0 ≡ laid_port p (i + 1) (import_of x).name Take (import_of x).ty =
    c.in_ok-port-2.ensures ∙ ap (λ (n : ℕ). laid_at n x) start in
    c.in_ok-push-2.ensures.items
    ∙ port_added p i p.imports (import_of x) (laid_port p 0 c.args.root.now Give (type_of c.args.plan.now.outcome)) c.loop-index.ports.items c.in_ok-port-2.field-0 there c.loop-index.invariant same
