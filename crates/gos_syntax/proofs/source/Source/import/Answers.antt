use Rattle.gos_syntax.specs.Items.{seen}
use Rattle.gos_syntax.proofs.LeadsLemmas.{leads_then, leads_part, stops_after, stops_at}
use Rattle.gos_syntax.proofs.StopLemmas.{passed_on}
use Rattle.gos_syntax.proofs.ModuleRuleLemmas.{after_import, after_import_name, after_import_colon}
use Rattle.gos_syntax.proofs.source.Source.import.Goals as goal

pub returns-in_err-name-clause-refused : goal.returns-in_err-name-clause-refused
returns-in_err-name-clause-refused c =
    passed_on c.from_residual.result c.from_residual.ensures.1 (stops_after (after_import (seen c.args.self.now) c.args.at c.requires.word) (stops_at c.in_err-name.ensures.refused))

pub returns-in_err-ty_at-clause-refused : goal.returns-in_err-ty_at-clause-refused
returns-in_err-ty_at-clause-refused c =
    let named = after_import_name (seen c.args.self.now) c.args.at _ c.requires.word c.in_ok-name.ensures.name in
    passed_on c.from_residual-in_err-ty_at.result c.from_residual-in_err-ty_at.ensures.1 (stops_after named (stops_at c.in_err-ty_at.ensures.refused))

pub returns-in_err-ty-clause-refused : goal.returns-in_err-ty-clause-refused
returns-in_err-ty-clause-refused c =
    let colon = after_import_colon (seen c.args.self.now) c.args.at _ _ c.requires.word c.in_ok-name.ensures.name c.in_ok-ty_at.ensures.sign c.in_ok-ty_at.ensures.next in
    passed_on c.from_residual-in_err-ty.result c.from_residual-in_err-ty.ensures.1 (stops_after colon (stops_at c.in_err-ty.ensures.refused))

pub returns-clause-read : goal.returns-clause-read
returns-clause-read c =
    let colon = after_import_colon (seen c.args.self.now) c.args.at _ _ c.requires.word c.in_ok-name.ensures.name c.in_ok-ty_at.ensures.sign c.in_ok-ty_at.ensures.next in
    leads_then colon (leads_part c.in_ok-ty.ensures.read.read)
