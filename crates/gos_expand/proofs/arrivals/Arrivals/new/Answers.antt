use Rattle.gos_expand.proofs.arrivals.Arrivals.new.Goals as goal
use Rattle.gos_expand.proofs.ArrivalLemmas.{new_table}

pub returns : goal.returns
returns c =
    new_table c.args.plan.now (record { parts = c.in_ok-part_lists.field-0; imports = c.in_ok-import_lists.field-0; result = c.in_ok-result_entries.field-0 })
    (rw (← c.parts.ensures.value) c.in_ok-part_lists.ensures) (rw (← c.imports.ensures) c.in_ok-import_lists.ensures) (rw (← c.result.ensures) c.in_ok-result_entries.ensures)
