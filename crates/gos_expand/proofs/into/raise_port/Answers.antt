use Rattle.std.proofs.Common.{◌<◌, ◌≡◌, ◌∙◌, All, ℕ, List, map, ap, subst, sym}
use Rattle.std.proofs.lemmas.List.{with_items_is}
use Rattle.gos_netlist.specs.declared.nets.NetId.{NetId}
use Rattle.gos_netlist.specs.Nets.{NetPort}
use Rattle.gos_netlist.specs.Seen.{number_of, side_of, ground_type}
use Rattle.gos_expand.specs.Into.{raised_nets, raised_port}
use Rattle.gos_expand.specs.inner.Raised.{raised_net}
use Rattle.gos_expand.proofs.IntoLemmas.{all_mapped, raised_numbers}
use Rattle.gos_expand.proofs.into.raise_port.Goals as goal

pub raise_nets-requires-clause-nets : goal.raise_nets-requires-clause-nets
raise_nets-requires-clause-nets c =
    let low : All (λ a. a < 5000000) (map number_of c.port.inside.nets.items) =
    subst (λ (p : NetPort). All (λ a. a < 5000000) p.nets) (sym c.port.view_is) c.requires.nets in
    subst (λ (ns : List NetId). All (λ n. number_of n < 5000000) ns) (sym c.deref_mut.ensures.value)
    (all_mapped (λ a. a < 5000000) number_of c.port.inside.nets.items low)

pub returns : goal.returns
returns c =
    let kept = with_items_is c.port.inside.nets c.raise_nets.new.nets (c.raise_nets.auto.nets ∙ c.deref_mut.ensures.len) in
    let numbers : map number_of c.raise_nets.new.nets ≡ raised_nets c.args.by (map number_of c.port.inside.nets.items) =
    ap (map number_of) (c.raise_nets.ensures ∙ ap (map (raised_net c.args.by)) c.deref_mut.ensures.value) ∙ raised_numbers c.args.by c.port.inside.nets.items in
    let with_nets : List ℕ → NetPort = λ ns. record { name = c.port.inside.name; side = side_of c.port.inside.side; ty = ground_type c.port.inside.ground; nets = ns } in
    ap with_nets (ap (map number_of) kept ∙ numbers) ∙ ap (raised_port c.args.by) c.port.view_is
