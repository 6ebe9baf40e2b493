use Rattle.std.proofs.Common.{ℕ, List, ap, sym, map, subst}
use Rattle.gos_lex.specs.Items.{Misses}
use Rattle.gos_types.specs.TypeText.{type_text}
use Rattle.gos_netlist.specs.Seen.{ground_type, number_of}
use Rattle.gos_lex.specs.ItemTexts.{Passed, ended}
use Rattle.gos_netlist.specs.inner.NetLines.{IsNetsText, numbers_text, tail_text}
use Rattle.gos_lex.proofs.PassedLemmas.{passed_both}
use Rattle.gos_netlist.proofs.TypeLemmas.{no_type_here, no_nets_here}
use Rattle.gos_netlist.proofs.port_line.type_and_nets.Goals as goal

pub returns-in-Err-clause-wrong : goal.returns-in-Err-clause-wrong
returns-in-Err-clause-wrong c = no_type_here c.args.cursor.now.text c.args.cursor.now.at c.in-Err.at c.in-Err.ensures.wrong

pub returns-in-Err-so_many_nets-clause-wrong : goal.returns-in-Err-so_many_nets-clause-wrong
returns-in-Err-so_many_nets-clause-wrong c =
    let mid = c.port_type.new.cursor in
    let here = subst (λ (k : ℕ). Misses (IsNetsText k) mid.text mid.at c.in-Err-so_many_nets.at) c.net_count.ensures.count c.in-Err-so_many_nets.ensures.wrong in
    no_nets_here c.args.cursor.now mid (ground_type c.in-Ok.ty) c.in-Err-so_many_nets.at c.in-Ok.ensures.ty c.in-Ok.ensures.passed here

pub returns-clause-passed : goal.returns-clause-passed
returns-clause-passed c =
    let first = passed_both c.args.cursor.now c.port_type.new.cursor c.so_many_nets.new.cursor (ended 32 (type_text (ground_type c.in-Ok.ty))) (numbers_text (map number_of c.in-Ok-so_many_nets.nets.items)) c.in-Ok.ensures.passed c.in-Ok-so_many_nets.ensures.passed in
    subst (λ (ns : List ℕ). Passed c.args.cursor.now c.so_many_nets.new.cursor (tail_text (ground_type c.in-Ok.ty) ns)) (ap (map number_of) (sym c.in_ok-listed.ensures)) first
