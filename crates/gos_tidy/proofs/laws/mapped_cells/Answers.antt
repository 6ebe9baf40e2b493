use Rattle.gos_tidy.proofs.MappedLemmas.{pulled_back}
use Rattle.gos_tidy.proofs.SmallTidyLemmas.{other_side_is_not_mapped, register_is_not_folded}
use Rattle.gos_tidy.proofs.laws.mapped_cells.Goals as goal

pub returns-clause-shown : goal.returns-clause-shown
returns-clause-shown c = pulled_back

pub returns-clause-side : goal.returns-clause-side
returns-clause-side c = other_side_is_not_mapped

pub returns-clause-register : goal.returns-clause-register
returns-clause-register c = register_is_not_folded
