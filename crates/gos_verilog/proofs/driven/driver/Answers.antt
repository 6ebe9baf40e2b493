use Rattle.std.proofs.Common.{◌≡◌, true, sym, subst}
use Rattle.std.proofs.lemmas.Result.{IfErr-weaker}
use Rattle.gos_lex.specs.Items.{Misses}
use Rattle.gos_verilog.specs.declared.cell_line.Kind.TheVariants as kinds
use Rattle.gos_verilog.specs.declared.declared.Shape.{Shape}
use Rattle.gos_verilog.specs.inner.CellLines.{IsKindLine}
use Rattle.gos_verilog.specs.inner.Left.{IsDriverLine}
use Rattle.gos_verilog.proofs.LeftDriverLemmas.{register_misses}
use Rattle.gos_verilog.proofs.driven.driver.Goals as goal

pub returns-then-shape-clause-wrong : goal.returns-then-shape-clause-wrong
returns-then-shape-clause-wrong c =
    let nets = c.args.nets.now in
    let shape = c.args.shape in
    let rest = c.args.rest.now in
    let is : record { width = shape.width; register = true } ≡ shape = λ j. record { width = shape.width; register = sym c.if-shape.true j } in
    IfErr-weaker c.kind_line_of.result (Misses (IsKindLine kinds.Reg c.args.i shape.width) rest 0) (Misses (IsDriverLine nets c.args.i shape) rest 0)
    (λ place misses. subst (λ (s : Shape). Misses (IsDriverLine nets c.args.i s) rest 0 place) is (register_misses nets c.args.i shape.width rest place misses)) c.kind_line_of.ensures.misses
