-- The plan of `skip`: lists of it that are orderly and not, and a joining.
--
-- Read first: Joining. They show that these definitions can be met and can be missed.
use Rattle.std.specs.Prelude.{List, [], ◌∷◌, None}
use Rattle.gos_types.specs.Types.{Com, Fun}
use Rattle.gos_plan.specs.Kinds.{Skip}
use Rattle.gos_plan.specs.Firing.{Rest, Req, at}
use Rattle.gos_plan.specs.Plans.{PartEnd, ResultEnd, Plan}
use Rattle.gos_plan.specs.Tokens.{Tokens, Element, Fire, Out, In}
use Rattle.gos_plan.specs.Orderly.{IsOrderly}
use Rattle.gos_plan.specs.Joining.{Wiring, place, IsJoining}

-- one Skip, whose handshake is the result
abbrev pub skip_plan : Plan
skip_plan =
    record {
      weight = 5;
      imports = [];
      outcome = Com;
      parts = Skip ∷ [];
      joints = record { asking = ResultEnd 0; serving = PartEnd 0 0 } ∷ [];
    }

-- nothing is there yet
abbrev pub at_first : Tokens
at_first = record { in_place = λ way e. None; state = λ i. at Rest 0 }

-- run, the firing, done
abbrev pub once : List Element
once = In (ResultEnd 0) 0 ∷ Fire 0 (Req 0) ∷ Out (ResultEnd 0) 0 ∷ []

-- run comes twice before the part fires
abbrev pub hasty : List Element
hasty = In (ResultEnd 0) 0 ∷ In (ResultEnd 0) 0 ∷ []

abbrev pub SkipRunsInOrder : Type 0
SkipRunsInOrder = IsOrderly skip_plan once at_first

abbrev pub HasteIsNoOrder : Type 0
HasteIsNoOrder = IsOrderly skip_plan hasty at_first → ⊥

-- `fun a . a`: what the result asks its argument for is what is asked of it
abbrev pub same_plan : Plan
same_plan =
    record {
      weight = 11;
      imports = [];
      outcome = Fun Com Com;
      parts = [];
      joints = record { asking = ResultEnd 1; serving = ResultEnd 0 } ∷ [];
    }

-- joined to the plan of `skip`
abbrev pub same_of_skip : Wiring
same_of_skip =
    record {
      plans = same_plan ∷ skip_plan ∷ [];
      links = record { one = place 0 (ResultEnd 0); other = place 1 (ResultEnd 0) } ∷ [];
      giver = 0;
      skipped = 1;
      outcome = Com;
    }

-- gives that plan again, with both weights
abbrev pub SkipIsJoined : Type 0
SkipIsJoined = IsJoining same_of_skip (record skip_plan { weight = 16 })
