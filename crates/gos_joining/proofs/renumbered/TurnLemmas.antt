-- Turns of a renumbered plan are those of the plan, import by import.
use Rattle.std.specs.Prelude.{◌≡◌, ℕ, ◌+◌, Bool, IsTrue, List, [], ◌∷◌, Some, slice_get, if◌then◌else◌}
use Rattle.std.proofs.Common.{refl, sym, ◌∙◌, ap, subst, arith}
use Rattle.gos_types.specs.Types.{Type'}
use Rattle.gos_model.specs.Typing.{Imported}
use Rattle.gos_types.specs.Events.{Direction, Request, Answer}
use Rattle.gos_plan.specs.Plans.{End, ImportEnd, ResultEnd, Plan}
use Rattle.gos_realises.specs.realises.Regular.{Pass, pass, is_request, is_open, count, some_open, KeepsTurnsOf, whole_end, ComesInTurn, KeepsTurns}
pub use Rattle.gos_realises.proofs.realises.EachTurnLemmas.{Agree, some_agree, turns_agree, of_import, of_result, ImportKeeps, EachKeeps, keeps_each, each_keeps}
use Rattle.gos_joining.specs.webs.Renumbering.{Renumber, IsRenumbered, moved_end}
use Rattle.gos_joining.proofs.webs.MovedLemmas.{both_moved}

-- what passed a renumbered plan
abbrev pub moved_pass : Renumber → Pass → Pass
moved_pass f x = pass (moved_end f x.end) x.way

abbrev pub moved_passes : Renumber → List Pass → List Pass
moved_passes f [] = []
moved_passes f (x ∷ past) = moved_pass f x ∷ moved_passes f past

module _ (f : Renumber) (p q : Plan) (is : IsRenumbered f p q) where
  pub open_moved : (past : List Pass) (e : End) → is_open (moved_passes f past) (moved_end f e) ≡ is_open past e
  open_moved [] e = refl
  open_moved (x ∷ past) e =
      λ i. if both_moved f is.one_to_one x.end e i then is_request x.way else open_moved past e i

  in_turn_moved : (past : List Pass) (e : End) (way : Direction) → ComesInTurn past e way → ComesInTurn (moved_passes f past) (moved_end f e) way
  in_turn_moved past e Request turn = open_moved past e ∙ turn
  in_turn_moved past e Answer turn = open_moved past e ∙ turn

  in_turn_back : (past : List Pass) (e : End) (way : Direction) → ComesInTurn (moved_passes f past) (moved_end f e) way → ComesInTurn past e way
  in_turn_back past e Request turn = sym (open_moved past e) ∙ turn
  in_turn_back past e Answer turn = sym (open_moved past e) ∙ turn

  import_same : (past : List Pass) (i : ℕ) → of_import (is_open (moved_passes f past)) (f.import i) ≡ of_import (is_open past) i
  import_same past i = λ k h. open_moved past (ImportEnd i h) k

  result_same : (past : List Pass) → of_result (is_open (moved_passes f past)) ≡ of_result (is_open past)
  result_same past = λ k h. open_moved past (ResultEnd h) k

  abbrev Shown : Imported → Type' → (ℕ → Bool) → (ℕ → Bool) → Type 0
  Shown x t g h = KeepsTurnsOf x.ty g × (IsTrue (some_open (count x.ty) g) → IsTrue (some_open (count t) h))

  each_back : (past : List Pass) → EachKeeps 0 q.imports q.outcome (is_open (moved_passes f past)) → EachKeeps 0 p.imports p.outcome (is_open past)
  each_back past (each, result) = (
    λ i x at.
        (let zeros : 0 + f.import i ≡ f.import i = omega arith in
        let zero_i : i ≡ 0 + i = omega arith in
        let there = each (f.import i) x (is.imports i ∙ at) in
        let plain : ImportKeeps (is_open (moved_passes f past)) (f.import i) x q.outcome =
        subst (λ (m : ℕ). ImportKeeps (is_open (moved_passes f past)) m x q.outcome) zeros there
        in
        let of_p : ImportKeeps (is_open (moved_passes f past)) (f.import i) x p.outcome =
        subst (λ (t : Type'). ImportKeeps (is_open (moved_passes f past)) (f.import i) x t) is.outcome plain
        in
        let shown : Shown x p.outcome (of_import (is_open past) i) (of_result (is_open past)) =
        subst (λ (g : ℕ → Bool). Shown x p.outcome g (of_result (is_open past))) (import_same past i)
        (subst (λ (h : ℕ → Bool). Shown x p.outcome (of_import (is_open (moved_passes f past)) (f.import i)) h) (result_same past) of_p)
        in
        subst (λ (m : ℕ). ImportKeeps (is_open past) m x p.outcome) zero_i shown),
    subst (λ (t : Type'). KeepsTurnsOf t (of_result (is_open past))) is.outcome (subst (KeepsTurnsOf q.outcome) (result_same past) result),
  )

  each_forth : (past : List Pass) → EachKeeps 0 p.imports p.outcome (is_open past) → EachKeeps 0 q.imports q.outcome (is_open (moved_passes f past))
  each_forth past (each, result) = (
    λ i x at.
        (let back_at : slice_get p.imports (f.import_back i) ≡ Some x =
        sym (is.imports (f.import_back i)) ∙ (ap (slice_get q.imports) (is.one_to_one.imports_back i) ∙ at)
        in
        let zeros : 0 + f.import_back i ≡ f.import_back i = omega arith in
        let round : f.import (f.import_back i) ≡ 0 + i = (let same = is.one_to_one.imports_back i in omega (arith, same)) in
        let plain : ImportKeeps (is_open past) (f.import_back i) x p.outcome =
        subst (λ (m : ℕ). ImportKeeps (is_open past) m x p.outcome) zeros (each (f.import_back i) x back_at)
        in
        let of_q : ImportKeeps (is_open past) (f.import_back i) x q.outcome =
        subst (λ (t : Type'). ImportKeeps (is_open past) (f.import_back i) x t) (sym is.outcome) plain
        in
        let shown : Shown x q.outcome (of_import (is_open (moved_passes f past)) (f.import (f.import_back i))) (of_result (is_open (moved_passes f past))) =
        subst (λ (g : ℕ → Bool). Shown x q.outcome g (of_result (is_open (moved_passes f past)))) (sym (import_same past (f.import_back i)))
        (subst (λ (h : ℕ → Bool). Shown x q.outcome (of_import (is_open past) (f.import_back i)) h) (sym (result_same past)) of_q)
        in
        subst (λ (m : ℕ). ImportKeeps (is_open (moved_passes f past)) m x q.outcome) round shown),
    subst (λ (t : Type'). KeepsTurnsOf t (of_result (is_open (moved_passes f past)))) (sym is.outcome)
        (subst (KeepsTurnsOf p.outcome) (sym (result_same past)) result),
  )

  pub turns_forth : (past : List Pass) (x : Pass) → KeepsTurns p past x → KeepsTurns q (moved_passes f past) (moved_pass f x)
  turns_forth past x (turn, keeps) = (
    in_turn_moved past x.end x.way turn,
    each_keeps 0 q.imports q.outcome (λ h. is_open (moved_passes f (x ∷ past)) (whole_end 0 q.imports h)) (is_open (moved_passes f (x ∷ past))) (λ h. refl)
        (each_forth (x ∷ past) (keeps_each 0 p.imports p.outcome (λ h. is_open (x ∷ past) (whole_end 0 p.imports h)) (is_open (x ∷ past)) (λ h. refl) keeps)),
  )

  pub turns_back : (past : List Pass) (x : Pass) → KeepsTurns q (moved_passes f past) (moved_pass f x) → KeepsTurns p past x
  turns_back past x (turn, keeps) = (
    in_turn_back past x.end x.way turn,
    each_keeps 0 p.imports p.outcome (λ h. is_open (x ∷ past) (whole_end 0 p.imports h)) (is_open (x ∷ past)) (λ h. refl)
        (each_back (x ∷ past)
        (keeps_each 0 q.imports q.outcome (λ h. is_open (moved_passes f (x ∷ past)) (whole_end 0 q.imports h)) (is_open (moved_passes f (x ∷ past))) (λ h. refl) keeps)),
  )
