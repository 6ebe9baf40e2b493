-- A call for a part one step below comes before the call for the part itself.
use Rattle.std.proofs.Common.{◌+◌, ◌*◌}
use Rattle.gos_types.specs.Types.{type_of, size}
use Rattle.gos_types.proofs.shakes.+add.Given as goal

abbrev pub decreases-add_handshakes : goal.decreases-add_handshakes
decreases-add_handshakes l = 2 * size (type_of l.ty.now)

abbrev pub decreases-add_below : goal.decreases-add_below
decreases-add_below l = 2 * size (type_of l.ty.now) + 1
