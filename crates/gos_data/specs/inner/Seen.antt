-- How clauses see the nets that the words of an array name.
--
-- Read first: Words.
use Rattle.gos_data.specs.declared.words.Nets.{Nets}
use Rattle.gos_data.specs.Words.{WordNets}

abbrev pub nets_of : Nets → WordNets
nets_of a = record { index = a.index.0; writes = a.writes.0; written = a.written.0; stays = a.stays.0 }
