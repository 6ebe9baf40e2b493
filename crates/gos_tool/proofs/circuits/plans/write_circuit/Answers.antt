use Rattle.std.proofs.Common.{refl, ◌∷◌, []}
use Rattle.gos_plan.specs.Seen.{plan_of}
use Rattle.gos_tool.proofs.lemmas.circuits.ExitLemmas.{failed_as}
use Rattle.gos_tool.proofs.lemmas.circuits.WholeLemmas.{can_be_laid}
use Rattle.gos_tool.proofs.lemmas.circuits.LinkLemmas.{net_written, is_written, verilog_call, has_net, net_file, circuit_files}
use Rattle.gos_outside.specs.Calls.{Write, Whole}
use Rattle.gos_outside.proofs.CallsLemmas.{goes_on}
use Rattle.gos_command.proofs.EndLemmas.{early, late, out_after, made_of}
use Rattle.gos_tool.specs.Calls.{circuit_calls}
use Rattle.gos_lex.specs.Lines.{Word}
use Rattle.gos_tool.proofs.circuits.plans.write_circuit.Goals as goal

pub circuit-requires-clause-can : goal.circuit-requires-clause-can
circuit-requires-clause-can g c = can_be_laid c.args.build.now c.requires.0 c.args.whole.now c.is_in_range.ensures c.requires.1

pub returns-in_err-write_file-clause-others : goal.returns-in_err-write_file-clause-others
returns-in_err-write_file-clause-others g c = net_file c.args.build.now _ _ _ c.bytes.ensures.bytes c.in_err-write_file.ensures.others

pub returns-in_err-verilog-clause-memory_files : goal.returns-in_err-verilog-clause-memory_files
returns-in_err-verilog-clause-memory_files g c = λ failed.
    let b = c.args.build.now in
    let written = net_written _ _ b _ _ _ _ _ c.netlist.ensures.value c.in_ok-text.ensures c.as_slice.ensures.value c.bytes.ensures.bytes c.in_ok-write_file.ensures.written in
    has_net _ _ _ b (plan_of c.args.whole.now) c.in_ok-net.net c.in_ok-net.ensures written refl

pub returns-in_err-write_file-2-clause-failed_call : goal.returns-in_err-write_file-2-clause-failed_call
returns-in_err-write_file-2-clause-failed_call g c = λ failed.
    let b = c.args.build.now in
    let written = net_written _ _ b _ _ _ _ _ c.netlist.ensures.value c.in_ok-text.ensures c.as_slice.ensures.value c.bytes.ensures.bytes c.in_ok-write_file.ensures.written in
    verilog_call _ _ _ b (plan_of c.args.whole.now) c.in_ok-net.net _ _ c.in_ok-net.ensures written c.bytes-2.ensures.bytes
    (c.in_err-write_file-2.ensures.failed_call (failed_as _ c.from_residual-in_err-write_file-2.ensures.1 failed)) c.in_err-write_file-2.ensures.others

pub returns-in_err-write_file-2-clause-memory_files : goal.returns-in_err-write_file-2-clause-memory_files
returns-in_err-write_file-2-clause-memory_files g c = λ failed.
    let b = c.args.build.now in
    let written = net_written _ _ b _ _ _ _ _ c.netlist.ensures.value c.in_ok-text.ensures c.as_slice.ensures.value c.bytes.ensures.bytes c.in_ok-write_file.ensures.written in
    has_net _ _ _ b (plan_of c.args.whole.now) c.in_ok-net.net c.in_ok-net.ensures written
    (c.in_err-write_file-2.ensures.no_memory (failed_as _ c.from_residual-in_err-write_file-2.ensures.1 failed))

pub returns-in_err-write_file-2-clause-others : goal.returns-in_err-write_file-2-clause-others
returns-in_err-write_file-2-clause-others g c =
    circuit_files c.args.build.now _ _ _ _ _ c.bytes.ensures.bytes c.bytes-2.ensures.bytes c.in_ok-write_file.ensures.others c.in_err-write_file-2.ensures.others

pub returns-clause-written : goal.returns-clause-written
returns-clause-written g c =
    let b = c.args.build.now in
    let written = net_written _ _ b _ _ _ _ _ c.netlist.ensures.value c.in_ok-text.ensures c.as_slice.ensures.value c.bytes.ensures.bytes c.in_ok-write_file.ensures.written in
    is_written _ _ _ b (plan_of c.args.whole.now) c.in_ok-net.net _ _ _ c.in_ok-net.ensures written c.in_ok-verilog.ensures c.as_slice-2.ensures.value c.bytes-2.ensures.bytes
    c.in_ok-write_file-2.ensures.written

pub returns-clause-others : goal.returns-clause-others
returns-clause-others g c =
    circuit_files c.args.build.now _ _ _ _ _ c.bytes.ensures.bytes c.bytes-2.ensures.bytes c.in_ok-write_file.ensures.others c.in_ok-write_file-2.ensures.others

pub returns-in_err-net-clause-calls : goal.returns-in_err-net-clause-calls
returns-in_err-net-clause-calls g c =
    out_after _ [] (circuit_calls c.args.build.now) (g.S.Store.calls c.args.store.now) (g.S.Store.calls c.args.store.now) c.from_residual.ensures.1 refl

pub returns-in_err-text-clause-calls : goal.returns-in_err-text-clause-calls
returns-in_err-text-clause-calls g c =
    out_after _ [] (circuit_calls c.args.build.now) (g.S.Store.calls c.args.store.now) (g.S.Store.calls c.args.store.now) c.from_residual-in_err-text.ensures.1 refl

pub returns-in_err-write_file-clause-calls : goal.returns-in_err-write_file-clause-calls
returns-in_err-write_file-clause-calls g c =
    early _ _ (Write c.args.build.now.net ∷ []) (Write c.args.build.now.verilog ∷ []) (g.S.Store.calls c.args.store.now) (g.S.Store.calls c.write_file.new.store) c.from_residual-in_err-write_file.ensures.1 (made_of (λ (n : Word). Write n ∷ []) _ (g.S.Store.calls c.args.store.now) (g.S.Store.calls c.write_file.new.store) _ _ c.bytes.ensures.bytes c.in_err-write_file.ensures.calls)

pub returns-in_err-verilog-clause-calls : goal.returns-in_err-verilog-clause-calls
returns-in_err-verilog-clause-calls g c =
    out_after _ (Write c.args.build.now.net ∷ []) (Write c.args.build.now.verilog ∷ []) (g.S.Store.calls c.args.store.now) (g.S.Store.calls c.write_file.new.store) c.from_residual-in_err-verilog.ensures.1 (made_of (λ (n : Word). Write n ∷ []) Whole (g.S.Store.calls c.args.store.now) (g.S.Store.calls c.write_file.new.store) _ _ c.bytes.ensures.bytes c.in_ok-write_file.ensures.calls)

pub returns-in_err-write_file-2-clause-calls : goal.returns-in_err-write_file-2-clause-calls
returns-in_err-write_file-2-clause-calls g c =
    late _ _ (Write c.args.build.now.net ∷ []) (Write c.args.build.now.verilog ∷ []) (g.S.Store.calls c.args.store.now) (g.S.Store.calls c.write_file.new.store) (g.S.Store.calls c.write_file-2.new.store) c.from_residual-in_err-write_file-2.ensures.1
    (made_of (λ (n : Word). Write n ∷ []) Whole (g.S.Store.calls c.args.store.now) (g.S.Store.calls c.write_file.new.store) _ _ c.bytes.ensures.bytes c.in_ok-write_file.ensures.calls)
    (made_of (λ (n : Word). Write n ∷ []) _ (g.S.Store.calls c.write_file.new.store) (g.S.Store.calls c.write_file-2.new.store) _ _ c.bytes-2.ensures.bytes c.in_err-write_file-2.ensures.calls)

pub returns-clause-calls : goal.returns-clause-calls
returns-clause-calls g c =
    goes_on Whole (Write c.args.build.now.net ∷ []) (Write c.args.build.now.verilog ∷ []) (g.S.Store.calls c.args.store.now) (g.S.Store.calls c.write_file.new.store) (g.S.Store.calls c.write_file-2.new.store)
    (made_of (λ (n : Word). Write n ∷ []) Whole (g.S.Store.calls c.args.store.now) (g.S.Store.calls c.write_file.new.store) _ _ c.bytes.ensures.bytes c.in_ok-write_file.ensures.calls)
    (made_of (λ (n : Word). Write n ∷ []) Whole (g.S.Store.calls c.write_file.new.store) (g.S.Store.calls c.write_file-2.new.store) _ _ c.bytes-2.ensures.bytes c.in_ok-write_file-2.ensures.calls)
