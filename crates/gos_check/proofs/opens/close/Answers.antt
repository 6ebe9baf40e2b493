use Rattle.std.proofs.Common.{rules, ◌≡◌}
use Rattle.gos_check.specs.Opens.{number_in, others, binder_next}
use Rattle.gos_check.proofs.OpenLemmas.{binder_room}
use Rattle.gos_check.proofs.opens.close.Goals as goal

pub returns-clause-room : goal.returns-clause-room
returns-clause-room c =
    let names : c.match-taken.result.names.items ≡ others c.args.name.now c.args.names.items = search rules in
    let next : c.match-taken.result.next ≡ binder_next (number_in c.args.names.items c.args.name.now) c.args.next = search rules in
    rw names (rw next (binder_room c.args.name.now c.args.names.items c.args.next))
