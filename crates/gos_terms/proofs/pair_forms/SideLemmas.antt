-- A child of a pair, whose plan is regular, is a side of it.
use Rattle.std.specs.Prelude.{◌+◌, ◌<◌, length, slice_get, Contains}
use Rattle.std.proofs.Common.{◌≡◌, ℕ, zero, suc, List, Option, Some, inl, refl, sym, ◌∙◌, ap, arith}
use Rattle.std.proofs.lemmas.Option.{slice_get_within}
use Rattle.gos_check.specs.Nodes.{type_of_node}
use Rattle.gos_plan.specs.Kinds.{Part, contacts_of}
use Rattle.gos_plan.specs.Plans.{End, PartEnd, ImportEnd, ResultEnd, Joint, Plan}
use Rattle.gos_plan.proofs.ContactLemmas.{turned_some}
use Rattle.gos_realises.specs.realises.Regular.{count, IsRegular}
use Rattle.gos_realises.specs.realises.Realises.{NamesDiffer}
use Rattle.gos_realises.proofs.realises.PlaceLemmas.{contains_at, place_of}
use Rattle.gos_joining.specs.webs.Webs.{Dot, Tie, IsOfWeb, joint}
use Rattle.gos_joining.specs.webs.Cutting.{Cut, StandsIn, lies_at}
use Rattle.gos_nodes.specs.folds.Folds.{joined_cut}
use Rattle.gos_nodes.proofs.folds.RegionLemmas.{folded_joint}
use Rattle.gos_nodes.proofs.windows.PortLemmas.{stands_contact}
use Rattle.gos_terms.specs.wired.Wired.{Placing, dot_at}
use Rattle.gos_terms.specs.stages.Inside.{AreOrdered}
use Rattle.gos_terms.specs.stages.Folding.{Lead, AtResult, led_end, Child, child_back, child_cut, child_fold, child_servings, child_web, IsChild, IsLaid}
use Rattle.gos_terms.specs.stages.Regions.{HasParts, IsStaged}
use Rattle.gos_terms.proofs.stages.LoyalLemmas.{servings_are_loyal}
use Rattle.gos_terms.proofs.stages.StageLemmas.{web_of}
use Rattle.gos_terms.proofs.stages.ChildNameLemmas as named
use Rattle.gos_terms.proofs.stages.ChildImportLemmas as hearing
use Rattle.gos_nodes.specs.products.Both.{Side, IsSide, IsOfSide}
use Rattle.gos_terms.specs.run_children.Pairs.{result_leads}

-- a child's handshakes lead to the pair's, one after another
pub leads_at : (s n h : ℕ) → h < n → slice_get (result_leads s n) h ≡ Some (AtResult (s + h))
leads_at s zero h lt = absurd (omega (arith, lt))
leads_at s (suc n) zero lt = let sum : s ≡ s + 0 = omega arith in ap (λ (x : ℕ). Some (AtResult x)) sum
leads_at s (suc n) (suc h) lt =
    let sum : suc s + h ≡ s + suc h = omega arith in leads_at (suc s) n h (omega (arith, lt)) ∙ ap (λ (x : ℕ). Some (AtResult x)) sum

joined_lies : (f : Cut) (js : List Joint) (e : End) → lies_at (joined_cut f js) e ≡ lies_at f e
joined_lies f js (PartEnd k h) = refl
joined_lies f js (ImportEnd k h) = refl
joined_lies f js (ResultEnd h) = refl

module _ (f : Child) (own : List Part) (ts : List Tie) (pl plc : Placing) (r c : Plan) (is : IsChild f ts) (parts : HasParts f own r.outcome)
    (laid : IsLaid own f.numbers f.env pl r) (staged : IsStaged f pl plc r c) (web : IsOfWeb (record { ties = ts; at = dot_at f.first pl }) r) where
  abbrev pub side_of : Side
  side_of = record { cut = joined_cut (child_cut f pl plc (length r.parts)) c.joints; sides = child_servings f pl; plan = c }

  -- a joint of the node is its own where it has the first end
  pub joint_of : (a b : End) (x : Dot) → Contains r.joints (joint a b) → child_back f (dot_at f.first pl a) ≡ Some x → IsOfSide side_of a b
  joint_of a b x listed stands =
      let (d, e, there, lies_d, lies_e) =
      folded_joint (child_fold f pl plc (length r.parts)) (child_servings f pl) (hearing.whole f own ts pl plc r c is parts laid staged web)
      (child_web f plc) r c a b x (hearing.fold f own ts pl plc r c is parts laid staged web) (web_of f pl plc r c staged) listed
      (inl stands)
      in (
        d,
        e,
        there,
        joined_lies (child_cut f pl plc (length r.parts)) c.joints d ∙ lies_d,
        joined_lies (child_cut f pl plc (length r.parts)) c.joints e ∙ lies_e,
      )

  -- So it is a side.
  pub child_is_side : (start : ℕ) → f.out ≡ result_leads start (count (type_of_node f.term)) → IsRegular c → AreOrdered f.env f.numbers → NamesDiffer r.imports
      → IsSide r start side_of
  child_is_side start out regular ordered differ =
      record {
        region = staged.region;
        regular = regular;
        loyal = servings_are_loyal f own ts pl plc r c is parts laid staged ordered;
        result = result;
        imports =
            λ x has.
            let (q, at) = place_of c.imports x has in
            let it = named.of_import f own ts pl plc r c is laid staged.wired q x at in
            contains_at r.imports (pl.import (named.root f own ts pl plc r c is laid staged.wired (plc.origin q).number) (plc.origin q).import) x
            (it.outside_at ∙ (sym it.within ∙ at));
        names = named.names_below f own ts pl plc r c is laid staged.wired differ;
        ports =
            λ i h stands.
            let it = named.in_node f own ts pl plc r c is laid staged.wired c staged.region.right refl i h stands in
            (pl.import (named.root f own ts pl plc r c is laid staged.wired (plc.origin i).number) (plc.origin i).import, refl, it.outside_at ∙ sym it.within);
        heard = hearing.child_is_heard f own ts pl plc r c is parts laid staged web (named.names_below f own ts pl plc r c is laid staged.wired differ);
      }
    where
      result : (h : ℕ) → StandsIn c (ResultEnd h) → led_end (pl.own f.own) (slice_get f.out h) h ≡ ResultEnd (start + h)
      result h stands =
          let (k, at) = stands_contact c staged.region.right (ResultEnd h) stands in
          let (d, there) = turned_some (slice_get (contacts_of c.outcome) h) k at in
          let lt = slice_get_within (contacts_of c.outcome) h d there in
          let same : count c.outcome ≡ count (type_of_node f.term) = ap count staged.wired.outcome in
          ap (λ (ls : List Lead). led_end (pl.own f.own) (slice_get ls h) h) out
          ∙ ap (λ (o : Option Lead). led_end (pl.own f.own) o h) (leads_at start (count (type_of_node f.term)) h (omega (arith, lt, same)))
