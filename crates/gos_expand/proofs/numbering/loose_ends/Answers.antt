use Rattle.std.proofs.Common.{◌≡◌, ◌∙◌, map, filter, length, ap, subst, sym, arith, ◌++◌}
use Rattle.std.proofs.lemmas.List.{length-map}
use Rattle.gos_plan.specs.Plans.{Plan, is_free}
use Rattle.gos_plan.specs.Seen.{plan_of, end_of}
use Rattle.gos_expand.specs.inner.Arrivals.{Exist}
use Rattle.gos_expand.specs.Starts.{ports_of, port_ends, part_ends}
use Rattle.gos_expand.proofs.PlaceLemmas.{all_exist}
use Rattle.gos_expand.proofs.PortLemmas.{few_ends}
use Rattle.gos_expand.proofs.numbering.loose_ends.Goals as goal

pub returns-clause-ends : goal.returns-clause-ends
returns-clause-ends c =
    let p : Plan = plan_of c.args.plan.now in
    let all : map end_of c.deref.result.now ≡ port_ends (ports_of p) ++ part_ends 0 p.parts = rw (c.deref.ensures.value) c.in_ok-ends.ensures in
    c.in_ok-loose.ensures.free c.requires.table.0 p c.requires.table.1 (subst (Exist p) (sym all) (all_exist p)) ∙ ap (filter (λ e. is_free e p.joints)) all

pub returns-clause-few : goal.returns-clause-few
returns-clause-few c =
    let p : Plan = plan_of c.args.plan.now in
    let all : map end_of c.deref.result.now ≡ port_ends (ports_of p) ++ part_ends 0 p.parts = rw (c.deref.ensures.value) c.in_ok-ends.ensures in
    let counts = length-map c.deref.result.now end_of in
    let same : length (map end_of c.deref.result.now) ≡ length (port_ends (ports_of p) ++ part_ends 0 p.parts) = ap length all in
    let few = few_ends c.args.plan.now c.requires.ports.result c.requires.ports.ground in
    let less = c.in_ok-loose.ensures.few in
    omega (arith, counts, same, few, less)
