use Rattle.std.proofs.Common.{◌≡◌, ◌∷◌, [], ◌++◌, ◌+◌, ℕ, List, take, sym, ap, ◌∙◌, arith}
use Rattle.gos_model.specs.Typing.{Imported}
use Rattle.gos_plan.specs.Plans.{Plan}
use Rattle.gos_plan.specs.Seen.{plan_of, import_of}
use Rattle.gos_expand.specs.Blocks.{total}
use Rattle.gos_expand.specs.Starts.{ports_of, port_size}
use Rattle.gos_expand.specs.inner.Numbering.{starts}
use Rattle.gos_expand.proofs.BlockLemmas.{item_mapped, total_more, starts_more}
use Rattle.gos_expand.proofs.PortLemmas.{port_there, all_ports, taken_port}
use Rattle.gos_expand.proofs.numbering.port_starts.Goals as goal

pub loop-import-preserved : goal.loop-import-preserved
loop-import-preserved c =
    let i : ℕ = c.loop-import.import-index in
    let p : Plan = plan_of c.args.plan.now in
    let x : Imported = import_of c.import-item.result in
    let there = port_there p i x (item_mapped import_of i c.imports-import-items.result.now c.args.plan.now.imports c.import-item.result c.imports-import-items.ensures c.loop-import-test.true c.import-item.is) in
    let next = c.loop-import.invariant.1 in
    let low = c.loop-import.invariant.2 in
    let size = c.port_cells-next-in-loop-import.ensures.is in
    let few = c.port_cells-next-in-loop-import.ensures.few in
    let more = total_more port_size 0 (i + 1) (ports_of p) (taken_port i x) there in
    let first : 0 + total port_size 0 (take (i + 1) (ports_of p)) ≡ c.loop-import.next = omega (arith, next) in (
      c.in_ok-push-2.ensures.items ∙ (ap (λ (ns : List ℕ). ns ++ c.loop-import.next ∷ []) c.loop-import.invariant.0
          ∙ (ap (λ (n : ℕ). starts port_size 0 0 (take (i + 1) (ports_of p)) ++ n ∷ []) (sym first) ∙ sym (starts_more port_size 0 0 (i + 1) (ports_of p) (taken_port i x) there))),
      omega (arith, next, more, size),
      omega (arith, low, few),
    )

pub returns-clause-starts : goal.returns-clause-starts
returns-clause-starts c =
    c.loop-import.invariant.0
    ∙ ap (starts port_size 0 0) (all_ports c.args.plan.now c.loop-import.import-index (rw (← c.imports-import-items.ensures) c.loop-import-test.false))

pub returns-clause-next : goal.returns-clause-next
returns-clause-next c =
    c.loop-import.invariant.1
    ∙ ap (total port_size 0) (all_ports c.args.plan.now c.loop-import.import-index (rw (← c.imports-import-items.ensures) c.loop-import-test.false))
