-- Renumbering back, and what is idle in a region.
use Rattle.std.specs.Prelude.{◌↔◌, Contains, slice_get, nat_lt, None}
use Rattle.std.proofs.Common.{◌≡◌, ℕ, Bool, true, false, Option, length, refl, sym, ◌∙◌, ap, subst, if◌then◌else◌}
use Rattle.gos_plan.specs.Firing.{Rest, State, at}
use Rattle.gos_plan.specs.Plans.{End, PartEnd, ImportEnd, ResultEnd}
use Rattle.gos_joining.specs.webs.Webs.{joint}
use Rattle.gos_joining.specs.webs.Renumbering.{Renumber, IsOneToOne, back, moved_end, RenumberedBack}
use Rattle.gos_joining.specs.webs.Cutting.{lies_at, asks_in, IdleIsCut}

idle_place : (b : Bool) (held : Option ℕ) → held ≡ None → (if b then held else None) ≡ None
idle_place true held h = h
idle_place false held h = refl

idle_state : (b : Bool) (q : State) → q.phase ≡ Rest → (if b then q else at Rest 0).phase ≡ Rest
idle_state true q h = h
idle_state false q h = refl

pub idle_is_cut : IdleIsCut
idle_is_cut f r c s idle = (
  λ way e. idle_place (asks_in c.joints e) (s.in_place way (lies_at f e)) (idle.0 way (lies_at f e)),
  λ i. idle_state (nat_lt i (length c.parts)) (s.state (f.part i)) (idle.1 (f.part i)),
)

pub there_and_back : (f : Renumber) → IsOneToOne f → (e : End) → moved_end f (moved_end (back f) e) ≡ e
there_and_back f one (PartEnd i h) = ap (λ k. PartEnd k h) (one.parts_back i)
there_and_back f one (ImportEnd i h) = ap (λ k. ImportEnd k h) (one.imports_back i)
there_and_back f one (ResultEnd h) = refl

turned_round : {A B : Type 0} → A ↔ B → B ↔ A
turned_round (a, b) = (b, a)

pub renumbered_back : RenumberedBack
renumbered_back f p q is =
    record {
      one_to_one =
          record {
            parts = is.one_to_one.parts_back;
            parts_back = is.one_to_one.parts;
            imports = is.one_to_one.imports_back;
            imports_back = is.one_to_one.imports;
          };
      parts = λ i. sym (is.parts (f.part_back i)) ∙ ap (λ k. slice_get q.parts k) (is.one_to_one.parts_back i);
      imports = λ i. sym (is.imports (f.import_back i)) ∙ ap (λ k. slice_get q.imports k) (is.one_to_one.imports_back i);
      outcome = sym is.outcome;
      joints = λ a b. turned_round (at_ends a b);
      right = is.also_right;
      also_right = is.right;
    }
  where
    at_ends : (a b : End) → Contains p.joints (joint (moved_end (back f) a) (moved_end (back f) b)) ↔ Contains q.joints (joint a b)
    at_ends a b =
        subst (λ (x : End). Contains p.joints (joint (moved_end (back f) a) (moved_end (back f) b)) ↔ Contains q.joints (joint x b)) (there_and_back f is.one_to_one a)
        (subst (λ (y : End). Contains p.joints (joint (moved_end (back f) a) (moved_end (back f) b)) ↔ Contains q.joints (joint (moved_end f (moved_end (back f) a)) y)) (there_and_back f is.one_to_one b)
        (is.joints (moved_end (back f) a) (moved_end (back f) b)))
