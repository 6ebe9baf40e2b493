-- A child of a wired node is a stage of it.
use Rattle.std.specs.Prelude.{◌+◌, ◌⊎◌, slice_get}
use Rattle.std.proofs.Common.{◌≡◌, ℕ, List, [], Some, inl, inr, refl, sym, ◌∙◌, ap, subst}
use Rattle.gos_plan.specs.Kinds.{Contact, asks, serves, Part, contacts_of}
use Rattle.gos_plan.specs.Plans.{End, PartEnd, ImportEnd, Plan, contact_at, turned_if}
use Rattle.gos_plan.proofs.JointLemmas.{fits, contained, which_end}
use Rattle.gos_plan.proofs.ContactLemmas.{part_is_there, import_is_there}
use Rattle.gos_realises.proofs.realises.PlaceLemmas.{contains_at, place_of}
use Rattle.gos_joining.specs.webs.Webs.{IsOfWeb}
use Rattle.gos_joining.specs.webs.Cutting.{StandsIn}
use Rattle.gos_compile.specs.Wiring.{parts_of}
use Rattle.gos_terms.specs.wired.Wired.{Supplies, Placing, wired_web}
use Rattle.gos_terms.specs.stages.Folding.{Lead, AtOwn, asked_in, led_end, Child, is_used, lodge, child_web, IsLaid}
use Rattle.gos_terms.specs.stages.Folded.{HasChild}
use Rattle.gos_terms.specs.stages.Regions.{HasParts, IsStaged}
use Rattle.gos_terms.specs.stages.Stages.{ChildIsStage}
use Rattle.gos_terms.proofs.stages.LodgingLemmas.{lodged_are_inside}
use Rattle.gos_terms.proofs.stages.ChildFoldLemmas.{own_outside, led_contact, import_of}

-- what is known of its plan
pub has_child_of : (f : Child) (own : List Part) (pl plc : Placing) (r c : Plan) → HasParts f own r.outcome → IsStaged f pl plc r c → HasChild f own r.outcome c
has_child_of f own pl plc r c has staged =
    record {
      shares = has.shares;
      child = has.child;
      outcome = staged.wired.outcome;
      asks = λ h l k lead at. has.asks h l k lead (ap (λ t. turned_if (slice_get (contacts_of t) h)) (sym staged.wired.outcome) ∙ at);
    }

pub laid_of : (f : Child) (pl plc : Placing) (r c : Plan) → IsStaged f pl plc r c → IsLaid (parts_of f.types f.term) f.uses (lodge f).env plc c
laid_of f pl plc r c staged =
    subst (λ (e : Supplies). IsLaid (parts_of f.types f.term) f.uses e plc c) (sym (lodged_are_inside f.types f.first (is_used f) f.splits f.env))
    (record { parts = staged.wired.parts; no_more = staged.wired.no_more; imports = staged.wired.imports; no_import = staged.wired.no_import })

pub web_of : (f : Child) (pl plc : Placing) (r c : Plan) → IsStaged f pl plc r c → IsOfWeb (child_web f plc) c
web_of f pl plc r c staged =
    subst (λ (e : Supplies). IsOfWeb (wired_web f.types (f.first + f.off) f.node f.term f.uses e plc) c) (sym (lodged_are_inside f.types f.first (is_used f) f.splits f.env))
    staged.wired.web

pub child_is_stage : ChildIsStage
child_is_stage f own ts pl plc r c h is leads has laid staged done regular restful names loyal =
    record {
      region = staged.region;
      outside = own_outside f own ts pl plc r c is has_child laid laidc own_part.0 own_part.1;
      outcome = done;
      regular = regular;
      restful = restful;
      loyal = loyal;
      run_by = λ stands. ap (λ (ls : List Lead). led_end (pl.own f.own) (slice_get ls 0) 0) leads ∙ ap (λ (ls : List Lead). PartEnd (pl.own f.own) (asked_in ls)) (sym leads);
      imports =
          λ x listed.
          let (q, at) = place_of c.imports x listed in
          let it = import_of f own ts pl plc r c is has_child laid laidc q x at in
          contains_at r.imports (pl.import ((lodge f).root (plc.origin q).number) (plc.origin q).import) x it.there;
      names = names;
      ports = ports;
    }
  where
    has_child : HasChild f own r.outcome c
    has_child = has_child_of f own pl plc r c has staged

    laidc : IsLaid (parts_of f.types f.term) f.uses (lodge f).env plc c
    laidc = laid_of f pl plc r c staged

    own_part : (y : Part) × (slice_get own f.own ≡ Some y)
    own_part =
        let first : slice_get f.out 0 ≡ Some (AtOwn h) = ap (λ (ls : List Lead). slice_get ls 0) leads in
        let (k, contact) = led_contact f own ts pl plc r c is has_child laid laidc 0 (AtOwn h) first in
        part_is_there (slice_get own f.own) h k (has_child.asks 0 (AtOwn h) k first contact)

    contact_of : (e : End) → StandsIn c e → (k : Contact) × (contact_at c e ≡ Some k)
    contact_of e (j, listed, stands) = by_end (which_end e j stands)
      where
        by_end : (e ≡ j.asking) ⊎ (e ≡ j.serving) → (k : Contact) × (contact_at c e ≡ Some k)
        by_end (inl is) = let it = fits c [] c.joints j staged.region.right (contained c.joints j listed) in (asks it.0 it.1, ap (contact_at c) is ∙ it.2)
        by_end (inr is) = let it = fits c [] c.joints j staged.region.right (contained c.joints j listed) in (serves it.0 it.1, ap (contact_at c) is ∙ it.3)

    ports : (i h : ℕ) → StandsIn c (ImportEnd i h)
        → (k : ℕ) × (ImportEnd (pl.import ((lodge f).root (plc.origin i).number) (plc.origin i).import) h ≡ ImportEnd k h) × (slice_get r.imports k ≡ slice_get c.imports i)
    ports i h stands =
        let (k, at) = contact_of (ImportEnd i h) stands in
        let (x, listed) = import_is_there (slice_get c.imports i) h k at in
        let it = import_of f own ts pl plc r c is has_child laid laidc i x listed in
        (pl.import ((lodge f).root (plc.origin i).number) (plc.origin i).import, refl, it.there ∙ sym listed)
