use Rattle.std.proofs.Common.{sym, subst, List, ℕ}
use Rattle.std.specs.Prelude.{MatchOption}
use Rattle.gos_tool.specs.Command.{Means, MeanNothing}
use Rattle.gos_tool.specs.inner.CommandSeen.{meant}
use Rattle.gos_tool.proofs.WordLemmas.{four_texts}
use Rattle.gos_tool.proofs.command.command_of.Goals as goal

pub returns-in-len4 : goal.returns-in-len4
returns-in-len4 c =
    let are = four_texts c.args.words.now c.verb-item-then-words-lt5.result c.net-item.result c.pulses-item.result c.trace-item.result
    c.as_bytes-in-len4.result.now c.as_bytes-in-len4-2.result.now c.as_bytes-in-len4-3.result.now c.as_bytes-in-len4-4.result.now
    c.in-len4.len_at_least c.in-len4.len_below c.verb-item-then-words-lt5.is c.net-item.is c.pulses-item.is c.trace-item.is
    c.as_bytes-in-len4.ensures.value c.as_bytes-in-len4-2.ensures.value c.as_bytes-in-len4-3.ensures.value c.as_bytes-in-len4-4.ensures.value in
    subst (λ (words : List (List ℕ)). MatchOption c.sim_of.result (MeanNothing words) (λ command. Means words (meant command))) (sym are) c.sim_of.ensures
