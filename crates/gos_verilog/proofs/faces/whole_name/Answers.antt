use Rattle.gos_verilog.proofs.FreeLemmas.{contrary, comma_behind}
use Rattle.gos_verilog.proofs.faces.whole_name.Goals as goal

pub returns-then-is_at : goal.returns-then-is_at
returns-then-is_at c = comma_behind c.args.places.now c.args.rest.now c.args.len (c.is_at.ensures.0 c.if-is_at.true) c.face_of.result c.face_of.ensures

pub returns-else-is_at : goal.returns-else-is_at
returns-else-is_at c = λ v is. contrary (c.is_at.ensures.1 is.2) c.if-is_at.false
