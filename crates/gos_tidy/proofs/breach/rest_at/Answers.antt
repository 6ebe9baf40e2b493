use Rattle.std.specs.Prelude.{◌≡◌, ◌⊎◌, map}
use Rattle.gos_netlist.specs.declared.nets.NetId as declared
use Rattle.gos_netlist.specs.Nets.{Xor}
use Rattle.gos_netlist.specs.Seen.{cell_of, function_of}
use Rattle.gos_tidy.proofs.BreachLemmas.{no_rest}
use Rattle.gos_tidy.proofs.breach.rest_at.Goals as goal

pub returns-in-Some-clause-none : goal.returns-in-Some-clause-none
returns-in-Some-clause-none c =
    let g = function_of c.in-Some.cell.now.gate in
    no_rest (map cell_of c.args.cells.now) c.args.net.0 c.args.a.0 (cell_of c.in-Some.cell.now)
    (λ (rest : declared.NetId). (g ≡ Xor c.args.a.0 rest.0) ⊎ (g ≡ Xor rest.0 c.args.a.0)) c.rest_of.result c.in-Some.ensures.some c.rest_of.ensures
