-- How clauses see who asks, and what goes out at the sides of handshakes.
--
-- Read first: Fast; Handshakes of gos_share.
use Rattle.std.specs.Prelude.{ℕ, ◌+◌, List, [], ◌∷◌}
use Rattle.gos_types.specs.declared.shakes.Role.{Role}
use Rattle.gos_plan.specs.Kinds.{Contact}
use Rattle.gos_macro.specs.Gates.{Outgoing}
pub use Rattle.gos_share.specs.Handshakes.{contact_of, all_of, from}
pub use Rattle.gos_fast_share.specs.inner.Sizes.{blocks_size}
use Rattle.gos_share.specs.Blocks.{outgoing}
use Rattle.gos_fast_share.specs.Thread.{Asker, Nobody, Caller0, Caller1}
use Rattle.gos_fast_share.specs.Fast.{up_bits, block_size, caller_out}
use Rattle.gos_fast_share.specs.declared.asking.Asking.{Asking}
use Rattle.gos_fast_share.specs.declared.asking.Asking.TheVariants as variants
use Rattle.gos_fast_share.specs.declared.sides.Out.{Out}
use Rattle.gos_fast_share.specs.declared.sides.Side.{Side}
use Rattle.gos_fast_share.specs.declared.sides.Side.TheVariants as side_names

abbrev pub asker_of : Asking → Asker
asker_of variants.Nobody = Nobody
asker_of variants.Caller0 = Caller0
asker_of variants.Caller1 = Caller1

-- nets that go out, by their places in a region
abbrev pub outgoing_of : ℕ → Out → Outgoing
outgoing_of b o = outgoing o.bits (b + o.pulse) (b + (o.pulse + 2))

-- what goes out at a side of a handshake, and of those from one on
abbrev pub side_out : Side → Role → ℕ → ℕ → ℕ → ℕ → Outgoing
side_out side_names.Source r q a b n = outgoing (up_bits r q a) (b + (n + 0)) (b + (n + 2))
side_out side_names.First r q a b n = caller_out 0 r q a b n
side_out side_names.Second r q a b n = caller_out 1 r q a b n

abbrev pub side_outs : Side → ℕ → ℕ → List Contact → List Outgoing
side_outs s b n [] = []
side_outs s b n (k ∷ ks) =
    side_out s k.role k.ask_bits k.answer_bits b n ∷ side_outs s b (n + block_size k.role k.ask_bits k.answer_bits) ks
