-- Two joinings of one wiring realise the same.
use Rattle.std.specs.Prelude.{◌≡◌, ◌↔◌, ℕ, zero, suc, List, ◌∷◌, Some, Contains, slice_get}
use Rattle.std.proofs.Common.{refl, sym, ◌∙◌, ap, subst, inl, inr}
use Rattle.gos_types.specs.Types.{Type'}
use Rattle.gos_model.specs.Terms.{Term}
use Rattle.gos_model.specs.Typing.{Imported}
use Rattle.gos_plan.specs.Kinds.{Part, contacts_of}
use Rattle.gos_plan.specs.Plans.{End, PartEnd, ImportEnd, ResultEnd, Joint, Plan, contact_at, contacts_of_part, contacts_of_import, turned_if, IsRight}
use Rattle.gos_plan.specs.Joining.{Place, Link, Wiring, Linked, IsJoining, IsSameButOrder}
use Rattle.gos_plan.proofs.WiringLemmas.{place_is}
use Rattle.gos_realises.specs.realises.Links.{IsJoined}
use Rattle.gos_realises.specs.realises.Realises.{Realises}
use Rattle.gos_realises.specs.realises.Modules.{Supply, plans_of, AreSupplied, imports_linked, supplying}
use Rattle.gos_realises.proofs.joined.WholeLemmas.{supplied_is_joined}
use Rattle.gos_realises.proofs.realises.FittingLemmas.{supply_is_right}
use Rattle.gos_joining.specs.webs.Webs.{joint}
use Rattle.gos_joining.specs.webs.Renumbering.{Renumber, IsRenumbered, moved_end}
use Rattle.gos_joining.specs.renumbered.Rewired.{rewired}
use Rattle.gos_joining.specs.renumbered.SmallRewirings.{unchanged}
use Rattle.gos_joining.proofs.renumbered.ImportLemmas.{names_same}
use Rattle.gos_joining.proofs.renumbered.OrderLemmas.{reordered}
use Rattle.gos_joining.proofs.renumbered.RewireLemmas.{rewired_is_renumbered}
use Rattle.gos_joining.proofs.renumbered.HigherLemmas.{unchanged_end, unchanged_one, is_itself, renumbered_is_realised}
use Rattle.gos_supplies.specs.instances.Trees.{terms_of, RealisesBy}

contacts_same : (r p : Plan) → r.parts ≡ p.parts → r.imports ≡ p.imports → r.outcome ≡ p.outcome → (e : End) → contact_at r e ≡ contact_at p e
contacts_same r p parts imports outcome (PartEnd i h) = ap (λ (ks : List Part). slice_get (contacts_of_part (slice_get ks i)) h) parts
contacts_same r p parts imports outcome (ImportEnd i h) = ap (λ (is : List Imported). slice_get (contacts_of_import (slice_get is i)) h) imports
contacts_same r p parts imports outcome (ResultEnd h) = ap (λ (t : Type'). turned_if (slice_get (contacts_of t) h)) outcome

has_joint : (w : Wiring) (r p : Plan) → IsJoining w r → IsJoining w p → (j : Joint) → Contains r.joints j → Contains p.joints j
has_joint w r p of_r of_p j has =
    let contacts = contacts_same p r (of_p.parts ∙ sym of_r.parts) (of_p.imports ∙ sym of_r.imports) (of_p.outcome ∙ sym of_r.outcome) in
    let (q, v, n, asked, served, path) = (of_r.joints j.asking j.serving).0 has in
    (of_p.joints j.asking j.serving).1 (q, v, n, contacts j.asking ∙ asked, contacts j.serving ∙ served, path)

pub joinings_same : (w : Wiring) (r p : Plan) → IsJoining w r → IsJoining w p → IsSameButOrder r p
joinings_same w r p of_r of_p =
    record {
      parts = of_r.parts ∙ sym of_p.parts;
      imports = of_r.imports ∙ sym of_p.imports;
      outcome = of_r.outcome ∙ sym of_p.outcome;
      weight = of_r.weight ∙ sym of_p.weight;
      joints = λ j. (has_joint w r p of_r of_p j, has_joint w p r of_p of_r j);
    }

-- such plans are one, without numbers being changed
pub order_free : (r p : Plan) → IsSameButOrder r p → IsRight r → IsRight p → IsRenumbered unchanged r p
order_free r p same right_r right_p =
    record {
      one_to_one = unchanged_one;
      parts = λ i. ap (λ (ks : List Part). slice_get ks i) (sym same.parts);
      imports = λ i. ap (λ (is : List Imported). slice_get is i) (sym same.imports);
      outcome = sym same.outcome;
      joints = λ a b.
          subst (λ (y : End). Contains r.joints (joint a b) ↔ Contains p.joints (joint (moved_end unchanged a) y)) (sym (unchanged_end b))
          (subst (λ (y : End). Contains r.joints (joint a b) ↔ Contains p.joints (joint y b)) (sym (unchanged_end a)) (same.joints (joint a b)));
      right = right_r;
      also_right = right_p;
    }

module _ (r p : Plan) (same : IsSameButOrder r p) (right_r : IsRight r) (right_p : IsRight p) where
  abbrev moves : Place → Place
  moves = rewired (λ n. n) (λ n. unchanged)

  stays : (c : Place) → moves c ≡ c
  stays c = place_is (moves c) c refl (unchanged_end c.end)

  module _ (ss : List Supply) (are : AreSupplied p.imports ss) where
    links_same : imports_linked 0 r.imports ≡ imports_linked 0 p.imports
    links_same = ap (imports_linked 0) same.imports

    link_to : (c d : Place) → Linked (supplying r ss) c d → Linked (supplying p ss) (moves c) (moves d)
    link_to c d (l, has, inl (e, f)) = (l, subst (λ (ls : List Link). Contains ls l) links_same has, inl (stays c ∙ e, stays d ∙ f))
    link_to c d (l, has, inr (e, f)) = (l, subst (λ (ls : List Link). Contains ls l) links_same has, inr (stays c ∙ e, stays d ∙ f))

    link_from : (c d : Place) → Linked (supplying p ss) (moves c) (moves d) → Linked (supplying r ss) c d
    link_from c d (l, has, inl (e, f)) = (l, subst (λ (ls : List Link). Contains ls l) (sym links_same) has, inl (sym (stays c) ∙ e, sym (stays d) ∙ f))
    link_from c d (l, has, inr (e, f)) = (l, subst (λ (ls : List Link). Contains ls l) (sym links_same) has, inr (sym (stays c) ∙ e, sym (stays d) ∙ f))

    plans : (n : ℕ) (u : Plan) → slice_get (r ∷ plans_of ss) n ≡ Some u
        → (v : Plan) × (slice_get (p ∷ plans_of ss) n ≡ Some v) × IsRenumbered unchanged u v
    plans zero u at = let is : r ≡ u = cc at in (p, refl, subst (λ (v : Plan). IsRenumbered unchanged v p) is (order_free r p same right_r right_p))
    plans (suc n) u at = (u, at, is_itself u (supply_is_right p.imports ss n u are at))

    no_more : (n : ℕ) (u : Plan) → slice_get (p ∷ plans_of ss) n ≡ Some u → (v : Plan) × (slice_get (r ∷ plans_of ss) n ≡ Some v)
    no_more zero u at = (r, refl)
    no_more (suc n) u at = (u, at)

    pub supplies_same : (z y : Plan) → IsJoined (supplying r ss) z → IsJoined (supplying p ss) y → (g : Renumber) × IsRenumbered g z y
    supplies_same z y of_z of_y =
        rewired_is_renumbered (λ n. n) (λ n. n) (λ n. unchanged) (supplying r ss) (supplying p ss) z y
        (record {
          returns = λ n. refl;
          comes = λ n. refl;
          one_to_one = λ n. unchanged_one;
          plans = plans;
          no_more = no_more;
          links = λ c d. (link_to c d, link_from c d);
          giver = refl;
          skipped = refl;
          outcome = sym same.outcome;
        })
        of_z.joining of_y.joining

  pub same_by : (f : List Term → Term) → RealisesBy p f → RealisesBy r f
  same_by f by ss z are of_z names_z =
      let are_p : AreSupplied p.imports ss = subst (λ (l : List Imported). AreSupplied l ss) same.imports are in
      let (y, of_y) = supplied_is_joined p ss right_p are_p in
      let (g, one) = supplies_same ss are_p z y of_z of_y in
      let names_y = names_same g.import g.import_back z.imports y.imports (reordered g z y one) names_z in
      let there : Realises r.outcome y (f (terms_of ss)) =
      subst (λ (t : Type'). Realises t y (f (terms_of ss))) (sym same.outcome) (by ss y are_p of_y names_y)
      in
      renumbered_is_realised g z y r.outcome (f (terms_of ss)) one there
