use Rattle.std.proofs.Common.{refl}
use Rattle.gos_verilog.specs.declared.port_net.Role.TheVariants.{Run, Ask, Read}
use Rattle.gos_verilog.proofs.FreeLemmas.{contrary, ends_begins}
use Rattle.gos_verilog.proofs.faces.ends_in_role.Goals as goal

pub returns-then-ends_as-clause-is : goal.returns-then-ends_as-clause-is
returns-then-ends_as-clause-is c = λ _. ends_begins c.args.places.now c.args.bytes.now Run refl (c.ends_as.ensures.is c.if-ends_as.true)

pub returns-then-ends_as-2-clause-is : goal.returns-then-ends_as-2-clause-is
returns-then-ends_as-2-clause-is c = λ _. ends_begins c.args.places.now c.args.bytes.now Ask refl (c.ends_as-else-ends_as.ensures.is c.if-ends_as-2.true)

pub returns-else-ends_as-2-clause-is : goal.returns-else-ends_as-2-clause-is
returns-else-ends_as-2-clause-is c = λ yes. ends_begins c.args.places.now c.args.bytes.now Read refl (c.ends_as-else-ends_as-2.ensures.is yes)

pub returns-else-ends_as-2-clause-none : goal.returns-else-ends_as-2-clause-none
returns-else-ends_as-2-clause-none c = λ no. (
  (λ front end more free is parts. contrary (c.ends_as.ensures.only front end more free is parts) c.if-ends_as.false),
  (λ front end more free is parts. contrary (c.ends_as-else-ends_as.ensures.only front end more free is parts) c.if-ends_as-2.false),
  (λ front end more free is parts. contrary (c.ends_as-else-ends_as-2.ensures.only front end more free is parts) no),
)
