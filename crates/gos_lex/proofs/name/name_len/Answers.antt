use Rattle.std.proofs.Common.{sym, ◌∙◌, arith}
use Rattle.gos_lex.proofs.RunLemmas.{spelled_run}
use Rattle.gos_lex.proofs.name.name_len.Goals as goal

pub returns-in-len1-up-clause-within : goal.returns-in-len1-up-clause-within
returns-in-len1-up-clause-within c =
    (spelled_run c.args.text.now c.name_bytes.result (omega arith) (sym c.begins_name.ensures ∙ c.if-begins_name.true) c.name_bytes.ensures).0

pub returns-in-len1-up-clause-name : goal.returns-in-len1-up-clause-name
returns-in-len1-up-clause-name c =
    (spelled_run c.args.text.now c.name_bytes.result (omega arith) (sym c.begins_name.ensures ∙ c.if-begins_name.true) c.name_bytes.ensures).1

pub returns-in-len1-up-clause-longest : goal.returns-in-len1-up-clause-longest
returns-in-len1-up-clause-longest c =
    (spelled_run c.args.text.now c.name_bytes.result (omega arith) (sym c.begins_name.ensures ∙ c.if-begins_name.true) c.name_bytes.ensures).2
