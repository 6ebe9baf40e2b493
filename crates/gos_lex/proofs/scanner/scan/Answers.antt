use Rattle.std.proofs.Common.{None, arith}
use Rattle.std.proofs.lemmas.Result.{err_from_is_err_and}
use Rattle.gos_lex.proofs.TokenLemmas.{all_read, fault_found, tokens_stand}
use Rattle.gos_lex.proofs.scanner.scan.Goals as goal

pub returns-in_err-token-clause-fault : goal.returns-in_err-token-clause-fault
returns-in_err-token-clause-fault c =
    let known = fault_found c.args.text.now c.loop-tokens.at c.loop-tokens.tokens.items c.in_err-token.field-0.0 (omega arith) c.loop-tokens.invariant.1 c.in_err-token.ensures.fault in
    let p = err_from_is_err_and c.from_residual.result c.from_residual.ensures.1 in
    rw (p.1, p.2) known

pub returns-in-None-clause-tokens : goal.returns-in-None-clause-tokens
returns-in-None-clause-tokens c =
    all_read c.args.text.now c.loop-tokens.at c.loop-tokens.tokens.items None c.loop-tokens.invariant.1 (rw c.in-None.is at c.in_ok-token.ensures.token)

pub returns-in-None-clause-each : goal.returns-in-None-clause-each
returns-in-None-clause-each c =
    tokens_stand c.args.text.now 0 c.loop-tokens.tokens.items None
    (all_read c.args.text.now c.loop-tokens.at c.loop-tokens.tokens.items None c.loop-tokens.invariant.1 (rw c.in-None.is at c.in_ok-token.ensures.token))
