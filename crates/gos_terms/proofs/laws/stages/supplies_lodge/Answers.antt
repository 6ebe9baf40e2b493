use Rattle.gos_terms.proofs.stages.LodgingLemmas.{lodged_are_inside, homes_are_kept, numbers_are_held}
use Rattle.gos_terms.proofs.stages.PartHomeLemmas.{numbers_are_at_home}
use Rattle.gos_terms.proofs.stages.WayLemmas.{joints_are_ways}
use Rattle.gos_terms.proofs.stages.LiveLemmas.{spots_are_live}
use Rattle.gos_terms.proofs.laws.stages.supplies_lodge.Goals as goal

pub returns-clause-inside : goal.returns-clause-inside
returns-clause-inside c = lodged_are_inside

pub returns-clause-kept : goal.returns-clause-kept
returns-clause-kept c = homes_are_kept

pub returns-clause-held : goal.returns-clause-held
returns-clause-held c = numbers_are_held

pub returns-clause-home : goal.returns-clause-home
returns-clause-home c = numbers_are_at_home

pub returns-clause-ways : goal.returns-clause-ways
returns-clause-ways c = joints_are_ways

pub returns-clause-live : goal.returns-clause-live
returns-clause-live c = spots_are_live
