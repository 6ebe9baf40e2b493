use Rattle.std.specs.Prelude.{Option, IfSome}
use Rattle.std.proofs.Common.{subst}
use Rattle.gos_netlist.specs.Nets.{Netlist}
use Rattle.gos_tidy.specs.Reduced.{IsReduced}
use Rattle.gos_tidy.proofs.RoundLemmas.{steadied_then, steadied_accepted, steadied_few}
use Rattle.gos_tidy.proofs.rounds.after_steady.Goals as goal

pub merged_below-requires-clause-accepted : goal.merged_below-requires-clause-accepted
merged_below-requires-clause-accepted c = steadied_accepted c.args.net.now c.args.mid.now c.requires.accepted c.requires.steadied

pub merged_below-requires-clause-few : goal.merged_below-requires-clause-few
merged_below-requires-clause-few c = steadied_few c.args.net.now c.args.mid.now c.requires.few c.requires.steadied

pub returns-in-Some-clause-reduces : goal.returns-in-Some-clause-reduces
returns-in-Some-clause-reduces c =
    let Reduced : Option Netlist → Type 0 = λ o. IfSome o (IsReduced c.args.mid.now) in
    steadied_then c.args.net.now c.args.mid.now c.in-Some.other c.requires.steadied (subst Reduced c.in-Some.is c.in_ok-other.ensures.reduced)
