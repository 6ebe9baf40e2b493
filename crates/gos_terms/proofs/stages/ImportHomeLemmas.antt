-- Imports that are at home in a supply inside splits are its own, and the node's result is at home nowhere.
use Rattle.std.specs.Prelude.{◌≤◌, length, nat_eq, None, Contains}
use Rattle.std.proofs.Common.{◌≡◌, ℕ, suc, Bool, true, false, List, [], ◌∷◌, Option, Some, refl, sym, ◌∙◌, ap, subst, if◌then◌else◌}
use Rattle.std.proofs.lemmas.Option.{none-some}
use Rattle.gos_model.proofs.NumberLemmas.{number_cases}
use Rattle.gos_check.specs.declared.linear.Split.{Split}
use Rattle.gos_check.specs.Linearity.{times, sides}
use Rattle.gos_plan.specs.Plans.{ImportEnd, ResultEnd}
use Rattle.gos_joining.specs.webs.Webs.{Of, Within}
use Rattle.gos_compile.specs.Wiring.{Types}
use Rattle.gos_sharing.specs.buffers.Buffering.{end_behind}
use Rattle.gos_terms.specs.wired.Wired.{Supplies}
use Rattle.gos_terms.specs.stages.Lodging.{Spot, spot, spot_if, Lodging, live, first_lodging, side_number, moved_spot, moved, one_lodging, lodging, lodged, AreTidy}
use Rattle.gos_terms.proofs.stages.HomeLemmas.{IsOld, neither_side, no_side}
use Rattle.gos_terms.proofs.stages.StepLemmas.{side_is, side_gone}
use Rattle.gos_terms.proofs.stages.LodgingLemmas.{IsTidy, tidy_on, tidy_first, seen}

-- of the supply of a number whose root this is
pub record IsImport (l : Lodging) (m k h : ℕ) (z : Spot) : Type 0 where
  pub end : z.end ≡ ImportEnd k h
  pub root : l.root z.number ≡ m

module _ (types : Types) (inner : ℕ → Bool) where
  abbrev Comes : List Split → Lodging → ℕ → ℕ → ℕ → Type 0
  Comes ss l m k h = (z : Spot) → l.home (Within (suc m) (Of (ImportEnd k h))) ≡ Some z → IsImport l m k h z × IsOld ss (Some z)

  comes_on : (s : Split) (ss : List Split) (once : (k : ℕ) → times k (sides (s ∷ ss)) ≤ 1) (q x : ℕ) (l : Lodging) (b : Option ℕ) (m k h : ℕ) → Comes (s ∷ ss) l m k h
      → Comes ss (one_lodging types q x s b l) m k h
  comes_on s ss once q x l b m k h was z e = by_caller b (l.home (Within (suc m) (Of (ImportEnd k h)))) was e
    where
      stay : (c : Option ℕ) (y : Spot) → IsImport l m k h y × IsOld (s ∷ ss) (Some y) → IsImport (one_lodging types q x s c l) m k h y × IsOld ss (Some y)
      stay c y (it, old) =
          let (left, right, rest) = neither_side s ss y.number old in (
            record { end = it.end; root = ap (λ (t : Bool). if t then l.root s.of else l.root y.number) (no_side s y.number left right) ∙ it.root },
            rest,
          )

      goes : (c : ℕ) (y : Spot) → IsImport l m k h y → y.number ≡ s.of
          → IsImport (one_lodging types q x s (Some c) l) m k h (spot (side_number s c) (end_behind (length (l.env s.of).plan.parts) y.end)) × IsOld ss (Some (spot (side_number s c) (end_behind (length (l.env s.of).plan.parts) y.end)))
      goes c y it of = (
        record {
          end = ap (end_behind (length (l.env s.of).plan.parts)) it.end;
          root =
              ap (λ (t : Bool). if t then l.root s.of else l.root (side_number s c)) (side_is types s ss once c)
              ∙ (ap l.root (sym of) ∙ it.root);
        },
        side_gone types s ss once c,
      )

      by_caller : (c : Option ℕ) (a : Option Spot) → ((z : Spot) → a ≡ Some z → IsImport l m k h z × IsOld (s ∷ ss) (Some z))
          → moved s c (length (l.env s.of).plan.parts) a ≡ Some z → IsImport (one_lodging types q x s c l) m k h z × IsOld ss (Some z)
      by_caller None None was e = absurd (none-some z e)
      by_caller (Some c) None was e = absurd (none-some z e)
      by_caller None (Some y) was e =
          let same : y ≡ z = cc e in
          subst (λ (w : Spot). IsImport (one_lodging types q x s None l) m k h w × IsOld ss (Some w)) same (stay None y (was y refl))
      by_caller (Some c) (Some y) was e =
          let same : moved_spot (nat_eq y.number s.of) (side_number s c) (length (l.env s.of).plan.parts) y ≡ z = cc e in
          subst (λ (w : Spot). IsImport (one_lodging types q x s (Some c) l) m k h w × IsOld ss (Some w)) same
          (number_cases y.number s.of
          (λ e t. subst (λ (b : Bool). IsImport (one_lodging types q x s (Some c) l) m k h (moved_spot b (side_number s c) (length (l.env s.of).plan.parts) y)
          × IsOld ss (Some (moved_spot b (side_number s c) (length (l.env s.of).plan.parts) y))) (sym t) (goes c y (was y refl).0 e))
          (λ e t. subst (λ (b : Bool). IsImport (one_lodging types q x s (Some c) l) m k h (moved_spot b (side_number s c) (length (l.env s.of).plan.parts) y)
          × IsOld ss (Some (moved_spot b (side_number s c) (length (l.env s.of).plan.parts) y))) (sym t) (stay (Some c) y (was y refl))))

  final_comes : (ss : List Split) (q x : ℕ) (l : Lodging) (gone : List ℕ) → IsTidy inner ss gone → (m k h : ℕ) → Comes ss l m k h
      → (z : Spot) → (lodging types q x inner ss l).home (Within (suc m) (Of (ImportEnd k h))) ≡ Some z → IsImport (lodging types q x inner ss l) m k h z
  final_comes [] q x l gone tidy m k h was z e = (was z e).0
  final_comes (s ∷ ss) q x l gone tidy m k h was z e =
      final_comes ss (suc q) (suc x) (one_lodging types q x s (seen types inner ss s) l) (s.of ∷ gone) (tidy_on inner s ss gone tidy) m k h
      (comes_on s ss tidy.once q x l (seen types inner ss s) m k h was) z e

  none_moved : (s : Split) (b : Option ℕ) (k : ℕ) → moved s b k None ≡ None
  none_moved s None k = refl
  none_moved s (Some c) k = refl

  final_result : (ss : List Split) (q x : ℕ) (l : Lodging) (h : ℕ) → l.home (Within 0 (Of (ResultEnd h))) ≡ None → (lodging types q x inner ss l).home (Within 0 (Of (ResultEnd h))) ≡ None
  final_result [] q x l h none = none
  final_result (s ∷ ss) q x l h none =
      final_result ss (suc q) (suc x) (one_lodging types q x s (seen types inner ss s) l) h
      (ap (moved s (seen types inner ss s) (length (l.env s.of).plan.parts)) none ∙ none_moved s (seen types inner ss s) (length (l.env s.of).plan.parts))

pub imports_are_there : (types : Types) (i : ℕ) (inner : ℕ → Bool) (ss : List Split) (env : Supplies) (ns : List ℕ) (m k h : ℕ) (z : Spot) → AreTidy inner ss ns → Contains ns m
    → (lodged types i inner ss env).home (Within (suc m) (Of (ImportEnd k h))) ≡ Some z → IsImport (lodged types i inner ss env) m k h z
imports_are_there types i inner ss env ns m k h z tidy there e =
    final_comes types inner ss i 0 (first_lodging (live ss inner) env) [] (tidy_first inner ss ns tidy) m k h first z e
  where
    first : (z : Spot) → spot_if (live ss inner m) m (ImportEnd k h) ≡ Some z → IsImport (first_lodging (live ss inner) env) m k h z × IsOld ss (Some z)
    first z e = by_live (live ss inner m) e
      where
        by_live : (b : Bool) → spot_if b m (ImportEnd k h) ≡ Some z → IsImport (first_lodging (live ss inner) env) m k h z × IsOld ss (Some z)
        by_live false e = absurd (none-some z e)
        by_live true e =
            let same : spot m (ImportEnd k h) ≡ z = cc e in
            subst (λ (w : Spot). IsImport (first_lodging (live ss inner) env) m k h w × IsOld ss (Some w)) same (record { end = refl; root = refl }, tidy.outside m there)
