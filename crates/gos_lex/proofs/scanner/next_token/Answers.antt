use Rattle.std.proofs.Common.{◌+◌, arith}
use Rattle.std.proofs.lemmas.Result.{err_from_is_err_and}
use Rattle.gos_lex.proofs.TokenLemmas.{lexeme_here, fault_ends}
use Rattle.gos_lex.proofs.scanner.next_token.Goals as goal

pub kind_of-requires : goal.kind_of-requires
kind_of-requires c =
    let known = lexeme_here c.args.text.now c.args.at c.gap_end-from.result c.lexeme_len-len.result c.gap_end-from.ensures (omega arith)
    c.lexeme_len-len.ensures.within c.lexeme_len-len.ensures.lexeme c.lexeme_len-len.ensures.longest in
    known.lexeme

pub returns-in_err-kind-clause-fault : goal.returns-in_err-kind-clause-fault
returns-in_err-kind-clause-fault c =
    let known = lexeme_here c.args.text.now c.args.at c.gap_end-from.result c.lexeme_len-len.result c.gap_end-from.ensures (omega arith)
    c.lexeme_len-len.ensures.within c.lexeme_len-len.ensures.lexeme c.lexeme_len-len.ensures.longest in
    let p = err_from_is_err_and c.from_residual.result c.from_residual.ensures.1 in
    let fault = fault_ends c.args.text.now c.args.at c.gap_end-from.result (c.gap_end-from.result + c.lexeme_len-len.result) c.in_err-kind.field-0.0 known c.in_err-kind.ensures.fault in
    rw (p.1, p.2) fault

pub returns-clause-token : goal.returns-clause-token
returns-clause-token c =
    let known = lexeme_here c.args.text.now c.args.at c.gap_end-from.result c.lexeme_len-len.result c.gap_end-from.ensures (omega arith)
    c.lexeme_len-len.ensures.within c.lexeme_len-len.ensures.lexeme c.lexeme_len-len.ensures.longest in
    record { lexeme = known; kind = c.in_ok-kind.ensures.kind }
