use Rattle.std.proofs.Common.{arith, ◌≡◌}
use Rattle.std.proofs.lemmas.Grind.{common_steps}
use Rattle.gos_check.specs.Opens.{merged_names, merged_next}
use Rattle.gos_check.proofs.OpenLemmas.{merged_room}
use Rattle.gos_check.proofs.opens.merge.Goals as goal

pub returns-clause-room : goal.returns-clause-room
returns-clause-room c =
    let names : c.append.new.self.items ≡ merged_names c.args.left.items c.args.right.items c.args.next = grind (arith, common_steps) in
    let next : c.loop-one.merged.next ≡ merged_next c.args.left.items c.args.right.items c.args.next = grind (arith, common_steps) in
    rw names (rw next (merged_room c.args.left.items c.args.right.items c.args.next))
