use Rattle.gos_verilog.specs.declared.port_net.Role.TheVariants.{Run, Done, Ask, Ans, AnsValue, Read, Write}
use Rattle.gos_verilog.proofs.LeftNetLemmas.{one_role}
use Rattle.gos_verilog.proofs.declared.role_of.Goals as goal

pub returns-then-ends_with : goal.returns-then-ends_with
returns-then-ends_with c role front is = let found = c.ends_with.ensures.only c.if-ends_with.true in one_role c.args.name.now front found.0 Run role found.1 is

pub returns-then-ends_with-2 : goal.returns-then-ends_with-2
returns-then-ends_with-2 c role front is = let found = c.ends_with-else-ends_with.ensures.only c.if-ends_with-2.true in one_role c.args.name.now front found.0 Done role found.1 is

pub returns-then-ends_with-3 : goal.returns-then-ends_with-3
returns-then-ends_with-3 c role front is = let found = c.ends_with-else-ends_with-2.ensures.only c.if-ends_with-3.true in one_role c.args.name.now front found.0 Ask role found.1 is

pub returns-then-ends_with-4 : goal.returns-then-ends_with-4
returns-then-ends_with-4 c role front is = let found = c.ends_with-else-ends_with-3.ensures.only c.if-ends_with-4.true in one_role c.args.name.now front found.0 Ans role found.1 is

pub returns-then-ends_with-5 : goal.returns-then-ends_with-5
returns-then-ends_with-5 c role front is = let found = c.ends_with-else-ends_with-4.ensures.only c.if-ends_with-5.true in one_role c.args.name.now front found.0 AnsValue role found.1 is

pub returns-then-ends_with-6 : goal.returns-then-ends_with-6
returns-then-ends_with-6 c role front is = let found = c.ends_with-else-ends_with-5.ensures.only c.if-ends_with-6.true in one_role c.args.name.now front found.0 Read role found.1 is

pub returns-then-ends_with-7 : goal.returns-then-ends_with-7
returns-then-ends_with-7 c role front is = let found = c.ends_with-else-ends_with-6.ensures.only c.if-ends_with-7.true in one_role c.args.name.now front found.0 Write role found.1 is
