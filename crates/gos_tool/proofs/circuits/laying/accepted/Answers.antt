use Rattle.std.proofs.Common.{◌∙◌, sym, true≢false}
use Rattle.gos_netcheck.proofs.FaultLemmas.{no_fault}
use Rattle.gos_tool.proofs.circuits.laying.accepted.Goals.{in-NoMemory, in_default}
use Rattle.gos_tool.proofs.circuits.laying.accepted.Goals as goal

pub prove-unreachable-requires : goal.prove-unreachable-requires
prove-unreachable-requires c =
    let memory = no_fault c.args.net c.in-Err.refused.fault c.requires.accepted c.in-Err.ensures.fault in
    elim c.match-matches.branch [
      | in-NoMemory w ↦ true≢false (sym w.matches-is ∙ c.if-prove.true)
      | in_default w ↦ w.in_default.not-NoMemory memory
    ]
