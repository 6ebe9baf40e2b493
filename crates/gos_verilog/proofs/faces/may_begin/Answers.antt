use Rattle.std.proofs.Common.{refl}
use Rattle.std.specs.Prelude.{IsTrue, ◌↔◌}
use Rattle.gos_lex.specs.Items.{Begins}
use Rattle.gos_verilog.specs.inner.Faces.{IsFree, IsFirstName}
use Rattle.gos_verilog.proofs.FreeLemmas.{either_begins}
use Rattle.gos_verilog.proofs.LeftNetLemmas.{if_ok}
use Rattle.gos_verilog.proofs.faces.may_begin.Goals as goal

pub returns-then-ends_in_role : goal.returns-then-ends_in_role
returns-then-ends_in_role c = ((λ _. c.ends_in_role.ensures.is c.if-ends_in_role.true), (λ _. refl))

pub returns : goal.returns
returns c =
    let places = c.args.places.now in
    let bytes = c.args.bytes.now in
    if_ok c.may_grow.result (λ is. IsTrue is ↔ Begins (IsFree places) bytes) (λ is. IsTrue is ↔ Begins (IsFirstName places) bytes)
    (λ is known. either_begins places bytes (c.ends_in_role.ensures.none c.if-ends_in_role.false) is known) c.may_grow.ensures
