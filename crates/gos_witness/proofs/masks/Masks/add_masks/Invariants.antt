use Rattle.std.proofs.Common.{◌≡◌, length}
use Rattle.gos_witness.specs.inner.PortMasks.{AreMasks}
use Rattle.gos_witness.proofs.masks.Masks.add_masks.Given as goal

-- the masks so far
abbrev pub invariant-loop-number : goal.invariant-loop-number
invariant-loop-number l =
    AreMasks l.fn.ports l.fn.list l.self × (length l.self.masks.items ≡ l.number)
    × (length l.self.ports.items ≡ length l.fn.list.tables.names) × (l.self.block ≡ l.fn.self.block)
