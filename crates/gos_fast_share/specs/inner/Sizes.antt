-- How many cells the blocks of handshakes have.
use Rattle.std.specs.Prelude.{ℕ, ◌+◌, List, [], ◌∷◌}
use Rattle.gos_plan.specs.Kinds.{Contact}
use Rattle.gos_fast_share.specs.Fast.{block_size}

abbrev pub blocks_size : List Contact → ℕ
blocks_size [] = 0
blocks_size (k ∷ ks) = block_size k.role k.ask_bits k.answer_bits + blocks_size ks
