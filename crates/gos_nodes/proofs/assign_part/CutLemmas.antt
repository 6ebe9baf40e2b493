-- The region of a plan that writes at a port: its ends, and what it makes of each element.
use Rattle.std.specs.Prelude.{◌≡◌, ◌⊎◌, ℕ, [], ◌∷◌, ◌++◌, Option, Some, None, Contains, slice_get}
use Rattle.std.proofs.Common.{arith, refl, sym, ap, subst, inl, inr, ◌∙◌}
use Rattle.std.proofs.lemmas.Option.{none-some}
use Rattle.gos_types.specs.Types.{IsDone}
use Rattle.gos_types.specs.Events.{Answer}
use Rattle.gos_model.specs.Terms.{Name}
use Rattle.gos_plan.specs.Kinds.{Part, Contact, Assign}
use Rattle.gos_plan.specs.Firing.{Phase, Rest, Value, Writing, Slot, Req, Ans, Row, at, firing}
use Rattle.gos_plan.specs.Plans.{End, PartEnd, ImportEnd, ResultEnd, Joint, Plan, contact_at, contacts_of_part}
use Rattle.gos_plan.specs.Tokens.{Tokens, Fire, Out, IsPortEnd, places_of, held_at, token_at, end_of, shake_of, way_of, firing_of, Does}
use Rattle.gos_plan.proofs.JointLemmas.{contained, found, joined, one_joint, stands_there, asking_stands, serving_stands, which_end, same_part, same_shake}
use Rattle.gos_realises.proofs.realises.InputLemmas.{result_asks}
use Rattle.gos_joining.specs.webs.Webs.{joint}
use Rattle.gos_joining.specs.webs.Cutting.{Cut, lies_at, StandsIn, out_if, in_if, ins_of, outside_firing, firing_in, cut_element}
use Rattle.gos_joining.proofs.webs.MovedLemmas.{listed}
use Rattle.gos_joining.proofs.webs.CutLemmas.{stands_by}
use Rattle.gos_nodes.specs.assign_part.Writes.{IsJointOf, IsPortWrite}
use Rattle.gos_nodes.specs.assign_part.Cuts.{RegionEnds, RegionDoes, EndsOfWrites, CutsOfWrites}
use Rattle.gos_nodes.proofs.assign_part.TableLemmas.{assigns_do}

-- ends that differ
other_kind : (i h j k : ℕ) → ImportEnd i h ≡ PartEnd j k → ⊥
other_kind i h j k e = cc e

no_result : (i h k : ℕ) → PartEnd i h ≡ ResultEnd k → ⊥
no_result i h k e = cc e

no_import : (i h j k : ℕ) → PartEnd i h ≡ ImportEnd j k → ⊥
no_import i h j k e = cc e

import_result : (i h k : ℕ) → ImportEnd i h ≡ ResultEnd k → ⊥
import_result i h k e = cc e

in_then : (o : Option End) (v : ℕ) → in_if o v ++ [] ≡ in_if o v
in_then None v = refl
in_then (Some e) v = refl

none_of : (o : Option End) → ((e : End) → o ≡ Some e → ⊥) → o ≡ None
none_of None never = refl
none_of (Some e) never = absurd (never e refl)

module _ (d k w : ℕ) (x : Name) (f : Cut) (r p : Plan) (is : IsPortWrite d k w x f r p) where
  done : IsDone p.outcome
  done = subst IsDone (sym is.number) tt

  result_shake : (h : ℕ) → StandsIn p (ResultEnd h) → h ≡ 0
  result_shake h (j, has, stands) =
      let place = stands_there p j (ResultEnd h) is.cut.right (contained p.joints j has) stands in
      let one = joined p (ResultEnd h) j.asking is.cut.right place in
      (result_asks p.outcome done h one.here one.is_here).0

  -- what stands for the result, and what for an import
  result_at : (h : ℕ) → StandsIn p (ResultEnd h) → f.outer (ResultEnd h) ≡ PartEnd d 0
  result_at h stands = ap (λ (n : ℕ). f.outer (ResultEnd n)) (result_shake h stands) ∙ is.asked

  -- a part of the region's that stands in a joint is there, so it isn't the Assign
  no_part : (i h : ℕ) → StandsIn p (PartEnd i h) → f.part i ≡ d → ⊥
  no_part i h (j, has, stands) same =
      let place = stands_there p j (PartEnd i h) is.cut.right (contained p.joints j has) stands in
      let one = joined p (PartEnd i h) j.asking is.cut.right place in by_part (slice_get p.parts i) refl one.here one.is_here
    where
      by_part : (o : Option Part) → slice_get p.parts i ≡ o → (c : Contact) → contact_at p (PartEnd i h) ≡ Some c → ⊥
      by_part None none c there = none-some c (ap (λ (o : Option Part). slice_get (contacts_of_part o) h) (sym none) ∙ there)
      by_part (Some n) at c there =
          none-some i (sym is.outside ∙ (ap f.number (sym same) ∙ (is.cut.parts i n at).1))

  -- of the Assign's ends the first alone is one of the region's, for its result
  own_end : (a : End) (h : ℕ) → StandsIn p a → lies_at f a ≡ PartEnd d h → (a ≡ ResultEnd 0) × (h ≡ 0)
  own_end (PartEnd i n) h stands at = absurd (no_part i n stands (same_part (f.part i) n d h at))
  own_end (ImportEnd i n) h stands at = let leads = is.imports i n stands in absurd (other_kind leads.0 n d h (sym leads.1 ∙ at))
  own_end (ResultEnd n) h stands at =
      (ap ResultEnd (result_shake n stands), same_shake d h d 0 (sym at ∙ result_at n stands))

  at_part : (h : ℕ) (e : End) → f.inner (PartEnd d h) ≡ Some e → (e ≡ ResultEnd 0) × (h ≡ 0)
  at_part h e named = by_end e (is.cut.inners (PartEnd d h) e named)
    where
      by_end : (e : End) → IsPortEnd e × StandsIn p e × (f.outer e ≡ PartEnd d h) → (e ≡ ResultEnd 0) × (h ≡ 0)
      by_end (PartEnd i n) (port, stands, out) = absurd port
      by_end (ImportEnd i n) (port, stands, out) = own_end (ImportEnd i n) h stands out
      by_end (ResultEnd n) (port, stands, out) = own_end (ResultEnd n) h stands out

  at_result : (e : End) → f.inner (ResultEnd 0) ≡ Some e → ⊥
  at_result e named = by_end e (is.cut.inners (ResultEnd 0) e named)
    where
      by_end : (e : End) → IsPortEnd e × StandsIn p e × (f.outer e ≡ ResultEnd 0) → ⊥
      by_end (PartEnd i n) (port, stands, out) = port
      by_end (ImportEnd i n) (port, stands, out) = let leads = is.imports i n stands in import_result leads.0 n 0 (sym leads.1 ∙ out)
      by_end (ResultEnd n) (port, stands, out) = no_result d 0 0 (sym (result_at n stands) ∙ out)

  -- the joint at which the Assign writes is none of the region's
  abbrev image : Joint → Joint
  image j = joint (lies_at f j.asking) (lies_at f j.serving)

  no_write : (j : Joint) → Contains p.joints j → ImportEnd k 1 ≡ lies_at f j.asking ⊎ ImportEnd k 1 ≡ lies_at f j.serving → ⊥
  no_write j has at =
      let there = is.cut.joints j.asking j.serving has in
      let stands = stands_by (ImportEnd k 1) (image j) at in
      let one : image j ≡ joint (PartEnd d 1) (ImportEnd k 1) =
      one_joint r [] r.joints (image j) (joint (PartEnd d 1) (ImportEnd k 1)) (ImportEnd k 1) is.cut.whole_right (contained r.joints (image j) there)
      (contained r.joints (joint (PartEnd d 1) (ImportEnd k 1)) is.write) stands (serving_stands (joint (PartEnd d 1) (ImportEnd k 1))) in
      let wrong : 1 ≡ 0 = (own_end j.asking 1 (j, has, asking_stands j) (ap (λ (y : Joint). y.asking) one)).1 in omega (arith, wrong)

  at_variable : (e : End) → f.inner (ImportEnd k 1) ≡ Some e → ⊥
  at_variable e named = by_end e (is.cut.inners (ImportEnd k 1) e named)
    where
      by_end : (e : End) → IsPortEnd e × StandsIn p e × (f.outer e ≡ ImportEnd k 1) → ⊥
      by_end (PartEnd i n) (port, stands, out) = port
      by_end (ImportEnd i n) (port, (j, has, stands), out) =
          no_write j has (elim (which_end (ImportEnd i n) j stands) [
            | inl at ↦ inl (sym out ∙ ap (lies_at f) at)
            | inr at ↦ inr (sym out ∙ ap (lies_at f) at)
          ])
      by_end (ResultEnd n) (port, stands, out) = no_import d 0 k 1 (sym (result_at n stands) ∙ out)

  ends : RegionEnds d k f
  ends =
      record {
        asked = λ e named. (at_part 0 e named).0;
        writes = none_of (f.inner (PartEnd d 1)) (λ e named. let wrong : 1 ≡ 0 = (at_part 1 e named).1 in omega (arith, wrong));
        run = none_of (f.inner (PartEnd d 2)) (λ e named. let wrong : 2 ≡ 0 = (at_part 2 e named).1 in omega (arith, wrong));
        variable = none_of (f.inner (ImportEnd k 1)) at_variable;
        result = none_of (f.inner (ResultEnd 0)) at_result;
      }

  module _ (s t : Tokens) where
    -- a firing of the Assign
    own : (slot : Slot) (v : ℕ) (row : Row) → token_at r s (end_of d slot) (way_of slot) ≡ Some v
        → firing_of (slice_get r.parts d) (s.state d) slot ≡ Some row
        → cut_element f r (Fire d slot) s ≡ out_if (f.inner (end_of d slot)) v ++ ins_of f d (row.puts v)
    own slot v row held by = λ l. firing_in f d slot (is.outside l) (outside_firing f d slot (held l) (by l))

    by_assign : (slot : Slot) (row : Row) → firing_of (slice_get r.parts d) (s.state d) slot ≡ Some row → firing (Assign w) (s.state d) slot ≡ Some row
    by_assign slot row by = subst (λ (o : Option Part). firing_of o (s.state d) slot ≡ Some row) is.own by

    in_phase : (q : Phase) (slot : Slot) (row : Row) → (s.state d).phase ≡ q → firing_of (slice_get r.parts d) (s.state d) slot ≡ Some row
        → firing (Assign w) (at q (s.state d).number) slot ≡ Some row
    in_phase q slot row phase by = subst (λ (y : Phase). firing (Assign w) (at y (s.state d).number) slot ≡ Some row) phase (by_assign slot row by)

    run_does : Does r (Fire d (Req 2)) s t → cut_element f r (Fire d (Req 2)) s ≡ in_if (f.inner (PartEnd d 0)) 0
    run_does (v, row, held, by, leads) =
        let phase : (s.state d).phase ≡ Rest = rests ((assigns_do w).no_other (s.state d) (Req 2) row (by_assign (Req 2) row by)) in
        let puts = ((assigns_do w).begins (s.state d).number v row (in_phase Rest (Req 2) row phase by)).1 in
        own (Req 2) v row held by ∙ ((λ l. out_if (ends.run l) v ++ ins_of f d (puts l)) ∙ in_then (f.inner (PartEnd d 0)) 0)
      where
        rests : (((s.state d).phase ≡ Rest) × (Req 2 ≡ Req 2))
            ⊎ ((((s.state d).phase ≡ Value) × (Req 2 ≡ Ans 0)) ⊎ (((s.state d).phase ≡ Writing) × (Req 2 ≡ Ans 1))) → (s.state d).phase ≡ Rest
        rests (inl h) = h.0
        rests (inr (inl h)) = absurd (cc h.1)
        rests (inr (inr h)) = absurd (cc h.1)

    written_does : Does r (Fire d (Ans 1)) s t → cut_element f r (Fire d (Ans 1)) s ≡ []
    written_does (v, row, held, by, leads) =
        let phase : (s.state d).phase ≡ Writing = writing ((assigns_do w).no_other (s.state d) (Ans 1) row (by_assign (Ans 1) row by)) in
        let puts = ((assigns_do w).ends (s.state d).number v row (in_phase Writing (Ans 1) row phase by)).1 in
        own (Ans 1) v row held by ∙ ((λ l. out_if (ends.writes l) v ++ ins_of f d (puts l)) ∙ (λ l. in_if (ends.run l) 0 ++ []))
      where
        zero_one : Ans 1 ≡ Ans 0 → ⊥
        zero_one e = let wrong : 1 ≡ 0 = ap shake_of e in omega (arith, wrong)

        writing : (((s.state d).phase ≡ Rest) × (Ans 1 ≡ Req 2))
            ⊎ ((((s.state d).phase ≡ Value) × (Ans 1 ≡ Ans 0)) ⊎ (((s.state d).phase ≡ Writing) × (Ans 1 ≡ Ans 1))) → (s.state d).phase ≡ Writing
        writing (inl h) = absurd (cc h.1)
        writing (inr (inl h)) = absurd (zero_one h.1)
        writing (inr (inr h)) = h.0

    -- the Assign takes its number from the region's result
    answers_at : (o : Option End) → places_of r (PartEnd d 0) ≡ o → (v : ℕ) → token_at r s (PartEnd d 0) Answer ≡ Some v
        → f.inner (PartEnd d 0) ≡ Some (ResultEnd 0)
    answers_at None none v held = absurd (none-some v (ap (held_at s Answer) (sym none) ∙ held))
    answers_at (Some a) named v held =
        let at = found r.joints (PartEnd d 0) a named in
        by_joint at.joint (which_end (PartEnd d 0) at.joint at.stands) (is.joints at.joint.asking at.joint.serving (listed r.joints at.joint at.is_in))
      where
        by_end : (b : End) → StandsIn p b → lies_at f b ≡ PartEnd d 0 → f.inner (PartEnd d 0) ≡ Some (ResultEnd 0)
        by_end b stands lies =
            let result = (own_end b 0 stands lies).0 in
            let stands_so : StandsIn p (ResultEnd 0) = subst (StandsIn p) result stands in
            ap f.inner (sym is.asked) ∙ (is.cut.ports (ResultEnd 0) tt stands_so).1

        by_joint : (j : Joint) → (PartEnd d 0 ≡ j.asking) ⊎ (PartEnd d 0 ≡ j.serving)
            → IsJointOf f p j.asking j.serving
            ⊎ (((j.asking ≡ ResultEnd 0) × (j.serving ≡ PartEnd d 2)) ⊎ ((j.asking ≡ PartEnd d 1) × (j.serving ≡ ImportEnd k 1)))
            → f.inner (PartEnd d 0) ≡ Some (ResultEnd 0)
        by_joint j (inl at) (inl (a, b, has, first, second)) = by_end a (joint a b, has, asking_stands (joint a b)) (first ∙ sym at)
        by_joint j (inr at) (inl (a, b, has, first, second)) = by_end b (joint a b, has, serving_stands (joint a b)) (second ∙ sym at)
        by_joint j (inl at) (inr (inl h)) = absurd (no_result d 0 0 (at ∙ h.0))
        by_joint j (inr at) (inr (inl h)) = let wrong : 0 ≡ 2 = same_shake d 0 d 2 (at ∙ h.1) in absurd (omega (arith, wrong))
        by_joint j (inl at) (inr (inr h)) = let wrong : 0 ≡ 1 = same_shake d 0 d 1 (at ∙ h.0) in absurd (omega (arith, wrong))
        by_joint j (inr at) (inr (inr h)) = absurd (no_import d 0 k 1 (at ∙ h.1))

    given_does : (v : ℕ) → Does r (Fire d (Ans 0)) s t → token_at r s (PartEnd d 0) Answer ≡ Some v
        → cut_element f r (Fire d (Ans 0)) s ≡ Out (ResultEnd 0) v ∷ []
    given_does v (u, row, held, by, leads) lies =
        let phase : (s.state d).phase ≡ Value = value ((assigns_do w).no_other (s.state d) (Ans 0) row (by_assign (Ans 0) row by)) in
        let puts = ((assigns_do w).writes (s.state d).number v row (in_phase Value (Ans 0) row phase by)).1 in
        let at = answers_at (places_of r (PartEnd d 0)) refl v lies in
        own (Ans 0) v row lies by ∙ ((λ l. out_if (at l) v ++ ins_of f d (puts l)) ∙ (λ l. Out (ResultEnd 0) v ∷ (in_if (ends.writes l) v ++ [])))
      where
        zero_one : Ans 0 ≡ Ans 1 → ⊥
        zero_one e = let wrong : 0 ≡ 1 = ap shake_of e in omega (arith, wrong)

        value : (((s.state d).phase ≡ Rest) × (Ans 0 ≡ Req 2))
            ⊎ ((((s.state d).phase ≡ Value) × (Ans 0 ≡ Ans 0)) ⊎ (((s.state d).phase ≡ Writing) × (Ans 0 ≡ Ans 1))) → (s.state d).phase ≡ Value
        value (inl h) = absurd (cc h.1)
        value (inr (inl h)) = h.0
        value (inr (inr h)) = absurd (zero_one h.1)

    does_all : RegionDoes d k f r s t
    does_all =
        record {
          within = λ i j slot at.
              ap (λ (o : Option ℕ). firing_in f i slot o
              (outside_firing f i slot (token_at r s (end_of i slot) (way_of slot)) (firing_of (slice_get r.parts i) (s.state i) slot))) at;
          run = run_does;
          given = given_does;
          written = written_does;
          asks = λ e b v at. ap (λ (o : Option End). out_if o v) at;
          writes = λ v. ap (λ (o : Option End). out_if o v) ends.variable;
          is_written = λ v. ap (λ (o : Option End). in_if o v) ends.variable;
          answers = λ v. ap (λ (o : Option End). out_if o v) ends.result;
          is_run = λ v. ap (λ (o : Option End). in_if o v) ends.result;
        }

pub ends_of_writes : EndsOfWrites
ends_of_writes d k w x f r p is = ends d k w x f r p is

pub cuts_of_writes : CutsOfWrites
cuts_of_writes d k w x f r p s t is = does_all d k w x f r p is s t
