use Rattle.std.proofs.Common.{◌≡◌, ℕ, ◌+◌, ◌∷◌, [], length, map, ap, subst, arith}
use Rattle.std.proofs.lemmas.List.{length-map}
use Rattle.gos_netlist.specs.Nets.{Not, Const, Reg}
use Rattle.gos_netlist.specs.Seen.{cell_of}
use Rattle.gos_macro.specs.Cells.{bit}
use Rattle.gos_macro.specs.Wires.{incoming_of}
use Rattle.gos_share.specs.Share.{row_cells}
use Rattle.gos_macro.specs.Cells.{Places}
use Rattle.gos_share.specs.inner.Seen.{all_of}
use Rattle.gos_share.proofs.SharingLemmas.{head_placed}
use Rattle.gos_share.proofs.row.place.Goals as goal

pub returns-clause-cells : goal.returns-clause-cells
returns-clause-cells c =
    let ks = all_of c.args.ty.now in
    let i = incoming_of c.args.wires.now in
    let b = c.args.region.now in
    let first = c.place_all.ensures in
    let row = subst (λ (m : ℕ). Places (row_cells i (length ks) 0 m 3 (m + 0) (m + 2) ks) c.place_all.new.self c.place_row.new.pool) first.region c.place_row.ensures.cells in
    let long = length-map c.head.result cell_of in
    let used = first.spare in
    let head = subst (λ (m : ℕ). map cell_of c.head.result ≡ bit (Reg (m + (3 + c.blocks-2.result))) ∷ bit (Not (m + 0)) ∷ bit (Const 0) ∷ []) c.start.ensures c.head.ensures in
    head_placed ks b (3 + c.blocks-2.result) i (map cell_of c.head.result) c.args.pool.now c.place_all.new.self c.place_row.new.pool
    head (ap (λ (n : ℕ). 3 + n) c.blocks-2.ensures.size)
    record { added = first.cells; used = omega (arith, long, used); begun = first.begun; closed = first.closed; kept = first.kept } row
