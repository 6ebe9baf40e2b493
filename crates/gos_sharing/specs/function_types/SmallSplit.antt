-- The plan of `fun a : com . a` behind a Share, and behind two.
--
-- Read first: Split; SmallBehind of behind. It shows that the definition can be met and can be missed.
use Rattle.std.specs.Prelude.{zero, suc, ℕ, [], ◌∷◌}
use Rattle.gos_types.specs.Types.{Com}
use Rattle.gos_plan.specs.Kinds.{Share}
use Rattle.gos_plan.specs.Plans.{End, PartEnd, ImportEnd, ResultEnd, Plan}
use Rattle.gos_joining.specs.webs.Webs.{joint}
use Rattle.gos_sharing.specs.behind.SmallBehind.{shared_same}
use Rattle.gos_sharing.specs.function_types.Split.{Splitting, IsSplit}

-- the Share of the argument is turned around
abbrev pub split_same : Plan
split_same =
    record shared_same {
      parts = Share Com ∷ Share Com ∷ [];
      joints = joint (PartEnd 1 0) (PartEnd 0 1) ∷ joint (PartEnd 0 0) (ResultEnd 0) ∷ joint (ResultEnd 1) (PartEnd 1 1) ∷ [];
    }

abbrev pub same_end_moved : End → End
same_end_moved (PartEnd zero zero) = PartEnd 0 1
same_end_moved (PartEnd zero (suc zero)) = PartEnd 1 0
same_end_moved (PartEnd zero (suc (suc zero))) = PartEnd 0 0
same_end_moved (PartEnd zero (suc (suc (suc h)))) = PartEnd 1 (suc h)
same_end_moved (PartEnd (suc n) h) = PartEnd (suc (suc n)) h
same_end_moved (ImportEnd n h) = ImportEnd n h
same_end_moved (ResultEnd h) = ResultEnd h

abbrev pub same_end_back : End → End
same_end_back (PartEnd zero zero) = PartEnd 0 2
same_end_back (PartEnd zero (suc h)) = PartEnd 0 h
same_end_back (PartEnd (suc zero) zero) = PartEnd 0 1
same_end_back (PartEnd (suc zero) (suc h)) = PartEnd 0 (suc (suc (suc h)))
same_end_back (PartEnd (suc (suc n)) h) = PartEnd (suc n) h
same_end_back (ImportEnd n h) = ImportEnd n h
same_end_back (ResultEnd h) = ResultEnd h

abbrev pub one_less : ℕ → ℕ
one_less zero = 0
one_less (suc n) = n

abbrev pub same_split : Splitting
same_split =
    record {
      wide = 0;
      caller = 0;
      of = Com;
      to = Com;
      argument = 0;
      outcome = 1;
      part = suc;
      part_back = one_less;
      end = same_end_moved;
      end_back = same_end_back;
    }

abbrev pub SameIsSplit : Type 0
SameIsSplit = IsSplit same_split shared_same split_same

-- the plan with the one Share is none with two
abbrev pub WholeIsNoSplit : Type 0
WholeIsNoSplit = IsSplit same_split shared_same shared_same → ⊥
