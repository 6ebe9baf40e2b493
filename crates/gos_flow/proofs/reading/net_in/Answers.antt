use Rattle.std.proofs.Common.{ℕ, List, subst}
use Rattle.gos_netlist.specs.NetFaults as netlists
use Rattle.gos_flow.proofs.TextLemmas.{net_read, net_rejected}
use Rattle.gos_flow.proofs.reading.net_in.Goals as goal

pub returns-in-Ok-clause-read : goal.returns-in-Ok-clause-read
returns-in-Ok-clause-read g c =
    net_read (g.S.Store.contents c.args.store.now) c.args.net.now c.in_ok-text.text.items c.in-Ok.circuit c.in_ok-text.ensures.read
    (subst (λ (text : List ℕ). netlists.IsRead text c.in-Ok.circuit) c.as_slice.ensures.value c.in-Ok.ensures.read)

pub returns-clause-rejected : goal.returns-clause-rejected
returns-clause-rejected g c =
    net_rejected (g.S.Store.contents c.args.store.now) c.args.net.now c.in_ok-text.text.items c.in-Err.fault c.reject.result c.in_ok-text.ensures.read
    (subst (λ (text : List ℕ). netlists.HasFault text c.in-Err.fault) c.as_slice.ensures.value c.in-Err.ensures.fault) c.reject.ensures.stopped
