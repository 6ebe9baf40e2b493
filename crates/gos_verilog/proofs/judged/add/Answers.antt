use Rattle.std.proofs.Common.{◌≡◌, ◌∙◌, ℕ, List, ap}
use Rattle.gos_lex.specs.NameTables.{number_at, added}
use Rattle.gos_verilog.specs.inner.Faces.{Face'}
use Rattle.gos_verilog.proofs.FaceLemmas.{known_more}
use Rattle.gos_verilog.proofs.judged.add.Goals as goal

pub returns-clause-known : goal.returns-clause-known
returns-clause-known c = λ known.
    let old = c.args.places.now in
    let new = c.add.new.self in
    let name = c.in_ok-to_vec.field-0.items in
    let same : name ≡ c.args.face.1 = c.in_ok-to_vec.ensures.items_if_clones_equal (λ x y e. e) ∙ ap (λ (v : Face'). v.1) c.face.view_is in
    known_more old new c.args.faces.now.items c.push.new.self.items c.args.face c.in_ok-push.ensures.items known
    (λ other. c.in_ok-add.ensures other ∙ ap (λ (n : List ℕ). added n 0 (number_at old other) other) same)
