use Rattle.std.proofs.Common.{◌≡◌, ◌++◌, List, ℕ, drop, sym, ◌∙◌, ap}
use Rattle.std.proofs.lemmas.List.{append_cancel_left}
use Rattle.gos_netlist.specs.Nets.{Input}
use Rattle.gos_verilog.specs.Lines.{driver_of}
use Rattle.gos_lex.proofs.RestLemmas.{passed_rest}
use Rattle.gos_verilog.proofs.RestLemmas.{word_stands}
use Rattle.gos_verilog.proofs.driven.source.Goals as goal

pub returns-in_err-len-clause-stands : goal.returns-in_err-len-clause-stands
returns-in_err-len-clause-stands c name x line =
    let i = c.args.i in
    let same : c.in_ok-name.name.now ≡ name = c.in_ok-name.ensures.stands name x line in
    absurd
    (word_stands c.args.rest.now 0 c.in_err-len.field-0.0 (driver_of i 1 c.in_ok-name.name.now Input) x (c.in_err-len.ensures.wrong 1)
    (line.is ∙ ap (λ (n : List ℕ). driver_of i 1 n Input ++ x) (sym same)))

pub returns-clause-stands : goal.returns-clause-stands
returns-clause-stands c name x line =
    let i = c.args.i in
    let rest = c.args.rest.now in
    let len = c.in_ok-len.len in
    let same : c.in_ok-name.name.now ≡ name = c.in_ok-name.ensures.stands name x line in
    let word : List ℕ = driver_of i 1 c.in_ok-name.name.now Input in
    let left = passed_rest (record { text = rest; at = 0 }) (record { text = rest; at = len }) word (c.in_ok-len.ensures.passed 1) in
    (same, append_cancel_left word (drop len rest) x (sym left ∙ (line.is ∙ ap (λ (n : List ℕ). driver_of i 1 n Input ++ x) (sym same))))
