-- A possible list has one list of a region, since an element leads to one state.
use Rattle.std.specs.Prelude.{List, [], ◌∷◌, ◌++◌}
use Rattle.std.proofs.Common.{refl, ◌∙◌, ap, subst}
use Rattle.gos_plan.specs.Tokens.{Element}
use Rattle.gos_plan.proofs.DecidedLemmas.{one_state}
use Rattle.gos_joining.specs.webs.Cutting.{cut_element, IsCutList, CutListIs}

pub cut_list_is : CutListIs
cut_list_is f r [] s t runs = ([], refl, λ zs is. is)
cut_list_is f r (x ∷ xs) s t (w, does, runs) =
    let (ys, cut, one) = cut_list_is f r xs w t runs in (
      cut_element f r x s ++ ys,
      (λ u also. (ys, refl, subst (λ v. IsCutList f r xs v ys) (one_state r x s w u does also) cut)),
      (λ zs is. let (rest, same, later) = is w does in same ∙ ap (λ (l : List Element). cut_element f r x s ++ l) (one rest later)),
    )
