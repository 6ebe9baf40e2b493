use Rattle.std.proofs.Common.{◌≡◌, ℕ, ◌+◌, ◌*◌, ◌++◌, arith}
use Rattle.gos_gates.specs.AagText.{input_lines}
use Rattle.gos_gates.proofs.PrintLemmas.{one_input_more}
use Rattle.gos_gates.proofs.printing.add_inputs.Goals as goal

pub loop-i-preserved : goal.loop-i-preserved
loop-i-preserved c =
    let i : ℕ = c.loop-i.i in
    let n : ℕ = 2 * (c.from.result + 1) in
    let is : n ≡ 2 * (i + 1) = omega (arith, c.from.ensures) in
    one_input_more c.loop-i.text.items c.add_number.new.text.items (c.args.text.now.items ++ input_lines 1 c.args.count) i n c.args.count (omega (arith, c.loop-i-test.true)) is c.in_ok-add_number.ensures c.loop-i.invariant
