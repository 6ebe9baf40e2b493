use Rattle.std.proofs.Common.{◌≤◌, ◌++◌, length, drop, sym, ◌∙◌, ap, arith, append-nil}
use Rattle.std.proofs.lemmas.Bool.Decides.{nat_tests}
use Rattle.gos_verilog.proofs.PortNetLemmas.{none_past_roles}
use Rattle.gos_verilog.proofs.port_net.add_nets.Goals as goal

pub returns-in-None : goal.returns-in-None
returns-in-None c =
    let port = c.args.port.now in
    let list = c.loop-k.list.items in
    let past : length c.in_ok-roles.roles.items ≤ c.loop-k.k = grind (arith, nat_tests, c.in-None.ensures.lookup, c.deref.ensures.value) in
    let none = none_past_roles port.name port.side c.number_bits-width.result c.loop-k.k (drop c.loop-k.k port.nets) c.in_ok-roles.roles.items past in
    sym (ap (λ more. list ++ more) none ∙ append-nil list) ∙ c.loop-k.invariant
