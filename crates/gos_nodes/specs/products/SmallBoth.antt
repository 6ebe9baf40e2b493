-- Small products: the plans of `(skip, skip)` with two Skips and with one that both sides share; and one whose sides are joined.
--
-- Read first: Both; SmallPlans of gos_plan, Behind of gos_sharing. They show that the definitions can be met and can be missed.
use Rattle.std.specs.Prelude.{ℕ, [], ◌∷◌, Option, Some, None, nat_eq, nat_lt, if◌then◌else◌}
use Rattle.gos_types.specs.Types.{Com, Pair, Fun}
use Rattle.gos_plan.specs.Kinds.{Skip, Share}
use Rattle.gos_plan.specs.Plans.{End, PartEnd, ImportEnd, ResultEnd, Plan}
use Rattle.gos_plan.specs.SmallPlans.{skip_plan}
use Rattle.gos_joining.specs.webs.Webs.{joint}
use Rattle.gos_sharing.specs.behind.Behind.{passing}
use Rattle.gos_nodes.specs.products.Both.{Side, IsBoth}

-- a Skip for each side
abbrev pub skips_plan : Plan
skips_plan =
    record {
      weight = 10;
      imports = [];
      outcome = Pair Com Com;
      parts = Skip ∷ Skip ∷ [];
      joints = joint (ResultEnd 0) (PartEnd 0 0) ∷ joint (ResultEnd 1) (PartEnd 1 0) ∷ [];
    }

-- handshake n of the result alone stands outside
abbrev pub result_inner : ℕ → End → Option End
result_inner n (PartEnd i h) = None
result_inner n (ImportEnd i h) = None
result_inner n (ResultEnd h) = if nat_eq h n then Some (ResultEnd 0) else None

-- the side of part n, whose result is handshake n
abbrev pub skip_side : ℕ → Side
skip_side n =
    record {
      cut =
          record {
            part = λ i. n;
            number = λ i. if nat_eq i n then Some 0 else None;
            outer = λ e. ResultEnd n;
            inner = result_inner n;
          };
      sides = [];
      plan = skip_plan;
    }

abbrev pub SkipsAreBoth : Type 0
SkipsAreBoth = IsBoth Com Com skips_plan (skip_side 0) (skip_side 1)

-- one Skip, which both sides share
abbrev pub one_skip_plan : Plan
one_skip_plan =
    record {
      weight = 10;
      imports = [];
      outcome = Pair Com Com;
      parts = Skip ∷ Share Com ∷ [];
      joints = joint (PartEnd 1 0) (PartEnd 0 0) ∷ joint (ResultEnd 0) (PartEnd 1 1) ∷ joint (ResultEnd 1) (PartEnd 1 2) ∷ [];
    }

-- the side of caller n of the Share, whose result is handshake n
abbrev pub shared_side : ℕ → Side
shared_side n =
    record {
      cut =
          record {
            part = λ i. i;
            number = λ i. if nat_lt i 2 then Some i else None;
            outer = λ e. ResultEnd n;
            inner = result_inner n;
          };
      sides = record { part = 1; ty = Com; side = n } ∷ [];
      plan = passing Com n skip_plan;
    }

abbrev pub SharedAreBoth : Type 0
SharedAreBoth = IsBoth Com Com one_skip_plan (shared_side 0) (shared_side 1)

-- The first side asks what the second asks for its argument: whoever the sides are, a joint is of neither.
abbrev pub crossed_plan : Plan
crossed_plan =
    record { weight = 0; imports = []; outcome = Pair Com (Fun Com Com); parts = []; joints = joint (ResultEnd 0) (ResultEnd 1) ∷ [] }

abbrev pub CrossedIsNone : Type 0
CrossedIsNone = (g e : Side) → IsBoth Com (Fun Com Com) crossed_plan g e → ⊥
