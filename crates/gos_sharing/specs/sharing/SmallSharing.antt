-- A small plan with a Share, seen through.
--
-- Read first: Sharing. It shows that the definition can be met and can be missed.
use Rattle.std.specs.Prelude.{[], ◌∷◌, codes}
use Rattle.gos_types.specs.Types.{Com}
use Rattle.gos_plan.specs.Kinds.{Share}
use Rattle.gos_plan.specs.Plans.{PartEnd, ImportEnd, ResultEnd, Plan}
use Rattle.gos_joining.specs.webs.Webs.{joint}
use Rattle.gos_sharing.specs.sharing.Sharing.{IsSeenThrough}

-- `import c : com; c`, by way of the first caller of a Share
abbrev pub shared_call : Plan
shared_call =
    record {
      weight = 10;
      imports = record { name = codes "c"; ty = Com } ∷ [];
      outcome = Com;
      parts = Share Com ∷ [];
      joints = joint (ResultEnd 0) (PartEnd 0 1) ∷ joint (PartEnd 0 0) (ImportEnd 0 0) ∷ [];
    }

-- with a plain joint in the Share's place
abbrev pub plain_call : Plan
plain_call = record shared_call { joints = joint (ResultEnd 0) (ImportEnd 0 0) ∷ [] }

-- it is what is seen for the first caller
abbrev pub FirstIsSeen : Type 0
FirstIsSeen = IsSeenThrough 0 Com 0 shared_call plain_call

-- and not for the second, which nothing asks
abbrev pub SecondIsNot : Type 0
SecondIsNot = IsSeenThrough 0 Com 1 shared_call plain_call → ⊥
