use Rattle.gos_terms.proofs.theorem.ModuleLemmas.{module_is_open, module_is_realised}
use Rattle.gos_terms.proofs.laws.theorem.modules.Goals as goal

pub returns-clause-any : goal.returns-clause-any
returns-clause-any c =
    module_is_open
    (record {
      kept = c.checked_is_kept.ensures;
      fits = c.checked_modules.ensures.checked;
      wired = c.checked_modules.ensures.wired;
      starts = c.starts.ensures.checked;
      means = c.meanings.ensures.module;
      typed = c.supplies.ensures.plans;
    })
    c.wired_terms.ensures.realised c.parallels_are_unsplit.ensures.checked

pub returns-clause-realised : goal.returns-clause-realised
returns-clause-realised c =
    module_is_realised (returns-clause-any c) c.wired_terms.ensures.regular c.modules.ensures c.checked_is_kept.ensures
    c.parallels_are_unsplit.ensures.checked c.checked_modules.ensures.checked
