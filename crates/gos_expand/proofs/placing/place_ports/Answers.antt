use Rattle.std.proofs.Common.{◌++◌, List, ap, subst, arith}
use Rattle.gos_netlist.specs.Nets.{Cell}
use Rattle.gos_pool.specs.Pools.{Pool}
use Rattle.gos_plan.specs.Plans.{Plan}
use Rattle.gos_plan.specs.Seen.{plan_of}
use Rattle.gos_expand.specs.declared.places.Place.TheVariants as places
use Rattle.gos_expand.specs.Blocks.{blocks}
use Rattle.gos_expand.specs.Starts.{Laying, taken_ports}
use Rattle.gos_expand.specs.inner.Tokens.{Places}
use Rattle.gos_expand.specs.Laid.{port_cells}
use Rattle.gos_expand.specs.inner.Outers.{outer_at}
use Rattle.gos_expand.proofs.CountLemmas.{ports_alike, ports_length}
use Rattle.gos_expand.proofs.PlacingLemmas.{places_then, region_placed}
use Rattle.gos_expand.specs.inner.Numbering.{laying_in}
use Rattle.gos_expand.proofs.placing.place_ports.Goals as goal

pub place_imports-requires-clause-spare : goal.place_imports-requires-clause-spare
place_imports-requires-clause-spare c =
    let cells = ports_length (laying_in c.args.numbering.now) (plan_of c.args.plan.now) in
    let same = ap (λ (q : Pool). q.spare) c.begin-region.ensures.begun in
    omega (arith, cells, same, c.requires.spare, c.place_port.ensures.placed.spare)

pub finish-requires-clause-spare : goal.finish-requires-clause-spare
finish-requires-clause-spare c =
    let cells = ports_length (laying_in c.args.numbering.now) (plan_of c.args.plan.now) in
    let same = ap (λ (q : Pool). q.spare) c.begin-region.ensures.begun in
    omega (arith, cells, same, c.requires.spare, c.place_port.ensures.placed.spare, c.place_imports.ensures.placed.spare)

pub returns : goal.returns
returns c =
    let lay : Laying = laying_in c.args.numbering.now in
    let p : Plan = plan_of c.args.plan.now in
    let own : List Cell = port_cells lay p 0 (outer_at p places.OfResult) in
    let cells = ports_length lay p in
    let same = ap (λ (q : Pool). q.spare) c.begin-region.ensures.begun in
    region_placed c.args.pool.now c.begin-region.new.self c.place_imports.new.pool c.finish.new.self c.begin-region.result _ (own ++ blocks (port_cells lay p) 1 (taken_ports 0 p.imports))
    c.begin-region.ensures.begun
    (places_then c.begin-region.new.self c.place_port.new.pool c.place_imports.new.pool own (blocks (port_cells lay p) 1 (taken_ports 0 p.imports)) 0 0 c.place_port.ensures.placed
    (subst (λ (cs : List Cell). Places c.place_port.new.pool c.place_imports.new.pool cs 0) (ports_alike lay p 0 1 (taken_ports 0 p.imports)) c.place_imports.ensures.placed))
    c.finish.ensures.closed (omega (arith, cells, same, c.requires.spare, c.place_port.ensures.placed.spare, c.place_imports.ensures.placed.spare)) c.requires.begun
