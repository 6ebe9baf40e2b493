use Rattle.std.proofs.Common.{◌≡◌, ℕ, ◌+◌, ◌*◌, List, ◌∙◌, ap, subst, arith}
use Rattle.std.specs.Prelude.{map}
use Rattle.std.proofs.lemmas.List.{length-map}
use Rattle.gos_netlist.specs.Nets.{Cell}
use Rattle.gos_netlist.specs.Seen.{cell_of}
use Rattle.gos_macro.specs.Cells.{Places}
use Rattle.gos_macro.specs.Wires.{incoming_of}
use Rattle.gos_data.specs.Words.{picked_net}
use Rattle.gos_data.specs.Array.{array_head}
use Rattle.gos_data.proofs.ArrayLemmas.{picked_is}
use Rattle.gos_data.proofs.array.place_head.Goals as goal

pub returns-clause-cells : goal.returns-clause-cells
returns-clause-cells c =
    let b = c.args.region.now in
    let i = incoming_of c.args.wires.now in
    let first = c.place_all.ensures in
    let long = length-map c.head.result cell_of in
    let used = first.spare in
    let net : c.own.result.0 ≡ b + (18 + 7 * c.args.n) = c.own.ensures ∙ ap (λ (m : ℕ). m + (18 + 7 * c.args.n)) c.start-base.ensures in
    let head : map cell_of c.head.result ≡ array_head c.args.w b (picked_net b 19 (b + 17) c.args.n) i =
    c.head.ensures ∙ (λ z. array_head c.args.w (c.start-base.ensures z) ((net ∙ picked_is b c.args.n c.requires.some) z) i) in
    subst (λ (cs : List Cell). Places cs c.args.pool.now c.place_all.new.self) head
    (record { added = first.cells; used = omega (arith, long, used); begun = first.begun; closed = first.closed; kept = first.kept })
