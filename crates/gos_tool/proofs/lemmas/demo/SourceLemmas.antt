-- The demo's sources are texts of accepted modules.
use Rattle.std.proofs.Common.{refl, arith}
use Rattle.gos_tool.specs.demo.DemoFiles.{main_source, twice_source, pass_source, pair_source, id_source}
use Rattle.gos_tool.proofs.lemmas.demo.SourceTexts.{main_read, twice_read, pass_read, pair_read, id_read, main_written, twice_written, pass_written, pair_written, id_written}
use Rattle.gos_tool.proofs.lemmas.demo.SourceModules.{main_module, twice_module, pass_module, pair_module, id_module, main_derived, twice_derived, pass_derived, pair_derived, id_derived}
use Rattle.gos_tool.proofs.lemmas.demo.AcceptedLemmas.{IsSourceOf}

pub main_accepted : IsSourceOf main_source.text main_read main_module 19
main_accepted = record { short = omega arith; few = omega arith; written = main_written; derived = main_derived; judged = λ items. refl }

pub twice_accepted : IsSourceOf twice_source.text twice_read twice_module 45
twice_accepted = record { short = omega arith; few = omega arith; written = twice_written; derived = twice_derived; judged = λ items. refl }

pub pass_accepted : IsSourceOf pass_source.text pass_read pass_module 24
pass_accepted = record { short = omega arith; few = omega arith; written = pass_written; derived = pass_derived; judged = λ items. refl }

pub pair_accepted : IsSourceOf pair_source.text pair_read pair_module 40
pair_accepted = record { short = omega arith; few = omega arith; written = pair_written; derived = pair_derived; judged = λ items. refl }

pub id_accepted : IsSourceOf id_source.text id_read id_module 11
id_accepted = record { short = omega arith; few = omega arith; written = id_written; derived = id_derived; judged = λ items. refl }
