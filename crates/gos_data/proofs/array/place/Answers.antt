use Rattle.std.proofs.Common.{ℕ, subst, arith}
use Rattle.gos_netlist.specs.Seen.{cell_of}
use Rattle.gos_macro.specs.Cells.{Places}
use Rattle.gos_macro.specs.Wires.{incoming_of}
use Rattle.gos_data.specs.Array.{array_words}
use Rattle.gos_data.proofs.ArrayLemmas.{room_left, without_number, with_number}
use Rattle.gos_data.proofs.array.place.Goals as goal

pub place-requires-clause-spare : goal.place-requires-clause-spare
place-requires-clause-spare c =
    room_left c.args.w c.args.n c.args.v _ _ (incoming_of c.args.wires.now) c.args.pool.now c.place_head.new.pool c.place_words.new.pool c.if-v-gt0.true
    c.requires.spare c.place_head.ensures.cells c.place_words.ensures.cells

pub returns-then-v-gt0-clause-cells : goal.returns-then-v-gt0-clause-cells
returns-then-v-gt0-clause-cells c =
    let b = c.args.region.now in
    let i = incoming_of c.args.wires.now in
    let words = subst (λ (m : ℕ). Places (array_words c.args.w c.args.n m i) c.place_head.new.pool c.place_words.new.pool) c.place_head.ensures.region c.place_words.ensures.cells in
    let some = room_left c.args.w c.args.n c.args.v b b i c.args.pool.now c.place_head.new.pool c.place_words.new.pool c.if-v-gt0.true
    c.requires.spare c.place_head.ensures.cells words in
    with_number c.args.w c.args.n c.args.v b i (cell_of c.number.result) c.args.pool.now c.place_head.new.pool c.place_words.new.pool c.place.new.self
    c.number.ensures some c.place_head.ensures.cells words c.place.ensures.cell c.place.ensures.kept

pub returns-else-v-gt0-clause-cells : goal.returns-else-v-gt0-clause-cells
returns-else-v-gt0-clause-cells c =
    let b = c.args.region.now in
    let i = incoming_of c.args.wires.now in
    let words = subst (λ (m : ℕ). Places (array_words c.args.w c.args.n m i) c.place_head.new.pool c.place_words.new.pool) c.place_head.ensures.region c.place_words.ensures.cells in
    let done = c.if-v-gt0.false in
    without_number c.args.w c.args.n c.args.v b i c.args.pool.now c.place_head.new.pool c.place_words.new.pool (omega (arith, done)) c.place_head.ensures.cells words
