-- The plan of `skip` behind a Share, and with a Share of a pair in its place.
--
-- Read first: Narrow. It shows that the definition can be met and can be missed.
use Rattle.std.specs.Prelude.{zero, suc, ◌+◌, ℕ, [], ◌∷◌}
use Rattle.gos_types.specs.Types.{Com, Pair}
use Rattle.gos_plan.specs.Kinds.{Share, Skip}
use Rattle.gos_plan.specs.Plans.{PartEnd, ResultEnd, Plan}
use Rattle.gos_joining.specs.webs.Webs.{joint}
use Rattle.gos_sharing.specs.parts_of_types.Narrow.{Narrowing, IsNarrow}

-- the first caller asks `skip` by the Share
abbrev pub shared_skip : Plan
shared_skip =
    record {
      weight = 10;
      imports = [];
      outcome = Com;
      parts = Share Com ∷ Skip ∷ [];
      joints = joint (ResultEnd 0) (PartEnd 0 1) ∷ joint (PartEnd 0 0) (PartEnd 1 0) ∷ [];
    }

-- and by the second side of one of a pair of commands
abbrev pub skip_of_pair : Plan
skip_of_pair =
    record shared_skip {
      parts = Share (Pair Com Com) ∷ Skip ∷ [];
      joints = joint (ResultEnd 0) (PartEnd 0 3) ∷ joint (PartEnd 0 1) (PartEnd 1 0) ∷ [];
    }

abbrev pub half : ℕ → ℕ
half zero = 0
half (suc zero) = 0
half (suc (suc h)) = suc (half h)

abbrev pub second_side : Narrowing
second_side = record { share = 0; wide = Pair Com Com; narrow = Com; skipped = 1; shake = λ h. h + h + 1; shake_back = half }

abbrev pub SkipIsNarrow : Type 0
SkipIsNarrow = IsNarrow second_side skip_of_pair shared_skip

-- the plan itself has no wide Share
abbrev pub NarrowIsNoNarrow : Type 0
NarrowIsNoNarrow = IsNarrow second_side shared_skip shared_skip → ⊥
