-- What was read and the room that is left are the limit. Of a reader whose bytes are known, what was read is what it gave.
use Rattle.std.proofs.Common.{◌≡◌, length, ◌+◌}
use Rattle.std.specs.Io.KnownBytes.{Consumes}
use Rattle.gos_system.proofs.file_store.read_first.Given as goal

abbrev pub invariant-loop : goal.invariant-loop
invariant-loop g l =
    (length l.bytes.items + l.room ≡ l.n)
    × Consumes (g.F.Read.remaining l.initial.file) (g.F.Read.remaining l.file) l.bytes.items
