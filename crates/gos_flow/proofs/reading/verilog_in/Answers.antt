use Rattle.std.proofs.Common.{ℕ, List, arith, subst}
use Rattle.gos_verilog.specs.Readable as modules
use Rattle.gos_verilog.specs.Place.{HasPlace}
use Rattle.gos_flow.proofs.TextLemmas.{verilog_read, verilog_rejected}
use Rattle.gos_flow.proofs.reading.verilog_in.Goals as goal

pub returns-in-Ok-clause-read : goal.returns-in-Ok-clause-read
returns-in-Ok-clause-read g c =
    let same = c.in_ok-text.text.ok.0 in
    let within = c.in_ok-text.text.ok.1 in
    let small = c.in_ok-text.text.small in
    verilog_read (g.S.Store.contents c.args.store.now) c.args.ver.now c.in_ok-text.text.items c.in-Ok.circuit c.in_ok-text.ensures.read (omega (arith, same, within, small))
    (subst (λ (text : List ℕ). modules.IsRead text c.in-Ok.circuit) c.as_slice.ensures.value c.in-Ok.ensures.read)

pub returns-clause-rejected : goal.returns-clause-rejected
returns-clause-rejected g c =
    let same = c.in_ok-text.text.ok.0 in
    let within = c.in_ok-text.text.ok.1 in
    let small = c.in_ok-text.text.small in
    verilog_rejected (g.S.Store.contents c.args.store.now) c.args.ver.now c.in_ok-text.text.items c.in-Err.fault c.reject.result c.in_ok-text.ensures.read (omega (arith, same, within, small))
    (subst (λ (text : List ℕ). modules.IsRefused text c.in-Err.fault) c.as_slice.ensures.value c.in-Err.ensures.refused)
    (subst (λ (text : List ℕ). HasPlace text c.in-Err.fault) c.as_slice.ensures.value c.in-Err.ensures.place) c.reject.ensures.stopped
