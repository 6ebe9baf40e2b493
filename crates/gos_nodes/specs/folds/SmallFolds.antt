-- Small folds: the first child of `c ; c`, with the Share for its supply; with a dot between too.
--
-- Read first: Folds; SmallNodes of windows. They show that these definitions can be met and can be missed.
use Rattle.std.specs.Prelude.{zero, suc, [], ◌∷◌, Option, Some, None}
use Rattle.gos_plan.specs.Plans.{PartEnd, ImportEnd, ResultEnd}
use Rattle.gos_joining.specs.webs.Webs.{Dot, Of, Number, Node, Within, tie, Web, own_web}
use Rattle.gos_joining.specs.webs.Cutting.{lies_at}
use Rattle.gos_nodes.specs.windows.SmallNodes.{calls_plan, call_plan, call_out, served}
use Rattle.gos_nodes.specs.folds.Folds.{Fold, IsFold}

-- where its dots lie
abbrev pub call_dot : Dot → Dot
call_dot (Of e) = Of (lies_at call_out e)
call_dot (Number n h) = Number n h
call_dot (Node n h) = Node n h
call_dot (Within k d) = Within k d

-- for what the ends of the whole stand: the Seq's first for the result, and those of the Share but the second caller's
abbrev pub call_back : Dot → Option Dot
call_back (Of (PartEnd zero zero)) = Some (Of (ResultEnd 0))
call_back (Of (PartEnd zero (suc h))) = None
call_back (Of (PartEnd (suc zero) zero)) = Some (Of (PartEnd 0 0))
call_back (Of (PartEnd (suc zero) (suc zero))) = Some (Of (PartEnd 0 1))
call_back (Of (PartEnd (suc zero) (suc (suc h)))) = None
call_back (Of (PartEnd (suc (suc i)) h)) = None
call_back (Of (ImportEnd zero zero)) = Some (Of (ImportEnd 0 0))
call_back (Of (ImportEnd zero (suc h))) = None
call_back (Of (ImportEnd (suc i) h)) = None
call_back (Of (ResultEnd h)) = None
call_back (Number n h) = None
call_back (Node n h) = None
call_back (Within k d) = None

abbrev pub call_fold : Fold
call_fold = record { cut = call_out; dot = call_dot; back = call_back }

-- is folded, where the Share serves it as its first caller
abbrev pub CallIsFold : Type 0
CallIsFold = IsFold call_fold (served 0 ∷ []) (own_web calls_plan) (own_web call_plan) calls_plan call_plan

-- and not where the Share is said to serve no one else
abbrev pub UnsharedIsNone : Type 0
UnsharedIsNone = IsFold call_fold [] (own_web calls_plan) (own_web call_plan) calls_plan call_plan → ⊥

-- nor without the tie of the result
abbrev pub untied_web : Web
untied_web = record (own_web call_plan) { ties = tie (Of (PartEnd 0 0)) (Of (ImportEnd 0 0)) ∷ [] }

abbrev pub UntiedIsNone : Type 0
UntiedIsNone = IsFold call_fold (served 0 ∷ []) (own_web calls_plan) untied_web calls_plan call_plan → ⊥

-- the web of the whole with a number between the Seq and the Share
abbrev pub numbered_web : Web
numbered_web =
    record {
      ties =
          tie (Of (ResultEnd 0)) (Of (PartEnd 0 2)) ∷ tie (Of (PartEnd 0 0)) (Number 0 0) ∷ tie (Number 0 0) (Of (PartEnd 1 1))
          ∷ tie (Of (PartEnd 0 1)) (Of (PartEnd 1 2)) ∷ tie (Of (PartEnd 1 0)) (Of (ImportEnd 0 0)) ∷ [];
      at = Of;
    }

-- which stands for the result as well
abbrev pub numbered_back : Dot → Option Dot
numbered_back (Of e) = call_back (Of e)
numbered_back (Number n h) = Some (Of (ResultEnd 0))
numbered_back (Node n h) = None
numbered_back (Within k d) = None

abbrev pub numbered_fold : Fold
numbered_fold = record call_fold { back = numbered_back }

abbrev pub NumberedIsFold : Type 0
NumberedIsFold = IsFold numbered_fold (served 0 ∷ []) numbered_web (own_web call_plan) calls_plan call_plan

-- If it stands for nothing, the child isn't folded.
abbrev pub UnnumberedIsNone : Type 0
UnnumberedIsNone = IsFold call_fold (served 0 ∷ []) numbered_web (own_web call_plan) calls_plan call_plan → ⊥
