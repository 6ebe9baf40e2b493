use Rattle.gos_programs.proofs.arrays.ArrayedLemmas.{bodies_are_arrayed, sources_stand_clear}
use Rattle.gos_programs.proofs.arrays.ArrayLabelLemmas.{other_moves_stand, stages_lead, read_ends_at, write_ends_at}
use Rattle.gos_programs.proofs.laws.arrays.local_arrays.Goals as goal

pub returns : goal.returns
returns c =
    record {
      bodies = bodies_are_arrayed;
      sources = sources_stand_clear;
      other = other_moves_stand;
      lead = stages_lead;
      read = read_ends_at;
      write = write_ends_at;
    }
