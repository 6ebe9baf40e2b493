-- How clauses see the blocks of this crate's program.
--
-- Read first: Share, Handshakes.
use Rattle.std.specs.Prelude.{ℕ, ◌+◌, List, [], ◌∷◌}
use Rattle.gos_types.specs.declared.shakes.Role.{Role}
use Rattle.gos_plan.specs.Kinds.{Contact}
use Rattle.gos_macro.specs.Gates.{Outgoing}
pub use Rattle.gos_share.specs.Handshakes.{contact_of, all_of, from}
use Rattle.gos_share.specs.Blocks.{outgoing, block_size, source_out, caller_out}
use Rattle.gos_share.specs.declared.shared.Out.{Out}
use Rattle.gos_share.specs.declared.shared.Side.{Side}
use Rattle.gos_share.specs.declared.shared.Side.TheVariants as sides

-- nets that go out, by their places in a region
abbrev pub outgoing_of : ℕ → Out → Outgoing
outgoing_of b o = outgoing o.bits (b + o.pulse) (b + o.value)

-- what goes out at a side of a handshake, and of those from one on
abbrev pub side_out : Side → Role → ℕ → ℕ → ℕ → ℕ → Outgoing
side_out sides.Source = source_out
side_out sides.First = caller_out 0
side_out sides.Second = caller_out 1

abbrev pub side_outs : Side → ℕ → ℕ → List Contact → List Outgoing
side_outs s b n [] = []
side_outs s b n (k ∷ ks) =
    side_out s k.role k.ask_bits k.answer_bits b n ∷ side_outs s b (n + block_size k.role k.ask_bits k.answer_bits) ks

-- how many cells the blocks of these handshakes have
abbrev pub blocks_size : List Contact → ℕ
blocks_size [] = 0
blocks_size (k ∷ ks) = block_size k.role k.ask_bits k.answer_bits + blocks_size ks
