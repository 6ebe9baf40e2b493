use Rattle.gos_terms.proofs.regular.ClosedLemmas.{closed_is_kept, closed_is_regular, closed_wired}
use Rattle.gos_terms.proofs.laws.regular.closings.Goals as goal

pub returns-clause-kept : goal.returns-clause-kept
returns-clause-kept c = closed_is_kept

pub returns-clause-regular : goal.returns-clause-regular
returns-clause-regular c = closed_is_regular c.functions.ensures.regular

pub returns-clause-wired : goal.returns-clause-wired
returns-clause-wired c types i j m env kept =
    let (pl, r, is, imports, parts) = closed_wired c.wired_nodes.ensures.fit c.wired_nodes.ensures.plain types i j m env kept in (pl, r, is)
