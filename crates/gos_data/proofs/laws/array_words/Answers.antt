use Rattle.gos_data.specs.laws.WordsKept.{words_are_kept, each_index_picks_no_number}
use Rattle.gos_data.proofs.laws.array_words.Goals as goal

pub returns : goal.returns
returns c = record { kept = words_are_kept; each_index = each_index_picks_no_number }
