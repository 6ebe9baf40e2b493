use Rattle.gos_tidy.proofs.RoundLemmas.{reduced_few}
use Rattle.gos_tidy.proofs.rounds.merged_below.Goals as goal

pub netlist_size-requires : goal.netlist_size-requires
netlist_size-requires c = reduced_few c.args.net.now c.in_ok-other.other c.requires.accepted c.requires.few c.in_ok-other.ensures.reduced
