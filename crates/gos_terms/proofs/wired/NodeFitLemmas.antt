-- What a wired node connects fits: the ends of a plan with its parts, imports and result see what leads from their dots, and
-- have dots of their own.
--
-- Read first: WiredFitLemmas.
use Rattle.std.specs.Prelude.{◌≡◌, ◌≢◌, ℕ, suc, ◌+◌, List, ◌⊎◌, zero, ◌≤◌, Bool, true, false, length, nat_eq, if◌then◌else◌, Option, Some, None, Contains, slice_get}
use Rattle.std.proofs.Common.{refl, sym, ◌∙◌, ap, subst, arith, inl, inr}
use Rattle.std.proofs.lemmas.Option.{slice_get-map}
use Rattle.gos_types.specs.Types.{Type'}
use Rattle.gos_model.specs.Typing.{Imported}
use Rattle.gos_check.specs.Nodes.{Numbered, type_of_node, node_seen}
use Rattle.gos_plan.specs.Kinds.{Part, Contact, contacts_of, turned_contact, part_contacts}
use Rattle.gos_plan.specs.Plans.{End, PartEnd, ImportEnd, ResultEnd, Plan, contact_at, contacts_of_part, contacts_of_import, turned_if}
use Rattle.gos_ties.specs.declared.points.Place.TheVariants as places
use Rattle.gos_ties.specs.declared.points.Point.{Point}
use Rattle.gos_ties.specs.Ties.{point}
use Rattle.gos_joining.specs.webs.Webs.{Dot, Of, Number, Within, Tie, tie, Way, here, along}
use Rattle.gos_compile.specs.Wiring.{Types, parts_of, all_types}
use Rattle.gos_compile.specs.Typed.{NodesTyped}
use Rattle.gos_terms.specs.wired.Wired.{dot_of, Supplies, Source, Own, Supplied, Placing, IsFrom, placed, source_dot, dot_at, wired_ties}
use Rattle.gos_terms.specs.wired.NodeFitting.{IsPlaced, IsLinear, AreOfTypes, WiredNodeFits, WiredIsPlaced, FittingIsPlain, RealisedAreOfTypes, CheckedStarts, UseIsLinear, TwiceIsNotLinear}
use Rattle.gos_terms.specs.wired.Modules.{supply_at, numbers_from}
use Rattle.gos_terms.proofs.wired.WayLemmas.{point_is}
use Rattle.gos_terms.proofs.wired.TypeLemmas.{type_is}
use Rattle.gos_terms.proofs.wired.PlacingLemmas.{import_numbered, of_numbers, supply_there}
use Rattle.gos_joining.proofs.renumbered.SupplyLemmas.{supply_of}
use Rattle.gos_realises.proofs.joined.ReachLemmas.{told_end}
use Rattle.gos_check.specs.Linearity.{times, made}
use Rattle.gos_check.specs.Checked.{program_in}
use Rattle.gos_plan.proofs.DecidedLemmas.{Told}
use Rattle.gos_realises.specs.realises.Modules.{Supply}
use Rattle.gos_realises.specs.realises.Realises.{Realises}
use Rattle.gos_joining.proofs.webs.WayLemmas.{way_then, way_back}
use Rattle.gos_terms.proofs.wired.FlowLemmas.{Leaves}
use Rattle.gos_terms.proofs.wired.FlowedLemmas.{seen, flows_of}
use Rattle.gos_terms.proofs.wired.FairLemmas.{turned_option}
use Rattle.gos_terms.proofs.wired.ChainLemmas.{Reached, step, reached_fits}
use Rattle.gos_terms.proofs.wired.WiredFitLemmas as wired
use Rattle.gos_terms.proofs.wired.WiredFitLemmas.{other_webs, one_contact, not_itself}

module _ (types : Types) (i j : ℕ) (m : Numbered) (ns : List ℕ) (env : Supplies) (pl : Placing) (c : Plan) (typed : NodesTyped types m) (linear : IsLinear m ns)
    (supplies : AreOfTypes types env ns) (there : IsPlaced types m ns env pl c)
  where
    abbrev Leads : Dot → Dot → Contact → Type 0
    Leads = wired.Leads types i j m ns env typed linear supplies

    -- a dot sees one handshake
    abbrev Sees : Dot → Contact → Type 0
    Sees d k = (x : Dot) (e : Contact) → Leads d x e → k ≡ e

    -- of the term's own
    own_sees : (q : Point) (o : Option Contact) (k : Contact) → ((y : Point) (e : Contact) → Leaves (flows_of types i j m (wired.out types i j m ns env typed linear supplies)) q y e → o ≡ Some e)
        → ((n h : ℕ) → dot_of q ≡ Number n h → ⊥) → o ≡ Some k → Sees (Within 0 (dot_of q)) k
    own_sees q o k has no_number at x e (inl (p, y, at_d, at_x, leaves)) =
        let inner : dot_of q ≡ dot_of p = cc at_d in
        let same : q ≡ p = point_is q p inner in
        one_contact o k e at (has y e (subst (λ (z : Point). Leaves (flows_of types i j m (wired.out types i j m ns env typed linear supplies)) z y e) (sym same) leaves))
    own_sees q o k has no_number at x e (inr (inl (n, a, b, among, at_d, at_x, at_a, at_b, joins))) = absurd (other_webs n (dot_of q) (Of a) at_d)
    own_sees q o k has no_number at x e (inr (inr (inl (n, h, among, at_d, at_x, at_h)))) =
        let inner : dot_of q ≡ Number n h = cc at_d in absurd (no_number n h inner)
    own_sees q o k has no_number at x e (inr (inr (inr (n, h, among, at_d, at_x, at_h)))) = absurd (other_webs n (dot_of q) (Of (ResultEnd h)) at_d)

    -- of a supply's, but its result
    inner_sees : (n : ℕ) (f : End) (k : Contact) → ((h : ℕ) → f ≡ ResultEnd h → ⊥) → contact_at (env n).plan f ≡ Some k → Sees (Within (suc n) (Of f)) k
    inner_sees n f k no_result at x e (inl (p, y, at_d, at_x, leaves)) = absurd (other_webs n (dot_of p) (Of f) (sym at_d))
    inner_sees n f k no_result at x e (inr (inl (n', a, b, among, at_d, at_x, at_a, at_b, joins))) =
        let (numbers, ends) = wired.inner_is types i j m ns env typed linear supplies n n' f a at_d in
        one_contact (contact_at (env n').plan a) k e (wired.contact_moved types i j m ns env typed linear supplies n n' f a k numbers ends at) at_a
    inner_sees n f k no_result at x e (inr (inr (inl (n', h, among, at_d, at_x, at_h)))) = absurd (other_webs n (Number n' h) (Of f) (sym at_d))
    inner_sees n f k no_result at x e (inr (inr (inr (n', h, among, at_d, at_x, at_h)))) =
        let (numbers, ends) = wired.inner_is types i j m ns env typed linear supplies n n' f (ResultEnd h) at_d in absurd (no_result h ends)

    source_sees : (s : Source) (h : ℕ) (x : Part) (k : Contact) → IsFrom (parts_of types m) ns env x s → slice_get (part_contacts x) h ≡ Some k
        → Sees (source_dot i s h) k
    source_sees (Own n) h x k at at_h =
        own_sees (point (places.Part (i + n)) h) (slice_get (part_contacts x) h) k
        (λ y e leaves. sym (ap (λ (o : Option Part). slice_get (contacts_of_part o) h) (wired.parts_at types i j m ns env typed linear supplies n x at))
        ∙ wired.has_there types i j m ns env typed linear supplies (point (places.Part (i + n)) h) y e leaves)
        (λ a b e. cc e) at_h
    source_sees (Supplied n l) h x k (among, at) at_h =
        inner_sees n (PartEnd l h) k (λ g e. cc e) (ap (λ (o : Option Part). slice_get (contacts_of_part o) h) at ∙ at_h)

    result_at : (h : ℕ) (k : Contact) → contact_at c (ResultEnd h) ≡ Some k → slice_get (seen (type_of_node m)) h ≡ Some k
    result_at h k at =
        slice_get-map turned_contact (contacts_of (type_of_node m)) h
        ∙ (sym (turned_option (slice_get (contacts_of (type_of_node m)) h))
        ∙ (ap (λ (t : Type'). turned_if (slice_get (contacts_of t) h)) (sym there.outcome) ∙ at))

    part_there : (k h : ℕ) (d : Contact) → contact_at c (PartEnd k h) ≡ Some d → (x : Part) × (slice_get c.parts k ≡ Some x) × (slice_get (part_contacts x) h ≡ Some d)
    part_there k h d at = by_part (slice_get c.parts k) refl at
      where
        by_part : (o : Option Part) → slice_get c.parts k ≡ o → slice_get (contacts_of_part o) h ≡ Some d
            → (x : Part) × (slice_get c.parts k ≡ Some x) × (slice_get (part_contacts x) h ≡ Some d)
        by_part None none e = absurd (cc e)
        by_part (Some x) is e = (x, is, e)

    import_there : (k h : ℕ) (d : Contact) → contact_at c (ImportEnd k h) ≡ Some d
        → (x : Imported) × (slice_get c.imports k ≡ Some x) × (slice_get (contacts_of x.ty) h ≡ Some d)
    import_there k h d at = by_import (slice_get c.imports k) refl at
      where
        by_import : (o : Option Imported) → slice_get c.imports k ≡ o → slice_get (contacts_of_import o) h ≡ Some d
            → (x : Imported) × (slice_get c.imports k ≡ Some x) × (slice_get (contacts_of x.ty) h ≡ Some d)
        by_import None none e = absurd (cc e)
        by_import (Some x) is e = (x, is, e)

    end_sees : (e : End) (k : Contact) → contact_at c e ≡ Some k → Sees (dot_at i pl e) k
    end_sees (PartEnd n h) k at =
        let (x, is, at_h) = part_there n h k at in source_sees (pl.source n) h x k (there.no_more n x is).0 at_h
    end_sees (ImportEnd n h) k at =
        let (x, is, at_h) = import_there n h k at in
        let (among, at_x, back) = there.no_import n x is in
        inner_sees (pl.origin n).number (ImportEnd (pl.origin n).import h) k (λ g e. cc e)
        (ap (λ (o : Option Imported). slice_get (contacts_of_import o) h) at_x ∙ at_h)
    end_sees (ResultEnd h) k at =
        own_sees (point places.Result h) (slice_get (seen (type_of_node m)) h) k
        (λ y e leaves. wired.has_there types i j m ns env typed linear supplies (point places.Result h) y e leaves) (λ a b e. cc e) (result_at h k at)

    -- ends that there are have dots of their own
    source_same : (s t : Source) (h g : ℕ) → source_dot i s h ≡ source_dot i t g → (s ≡ t) × (h ≡ g)
    source_same (Own a) (Own b) h g e =
        let inner : PartEnd (i + a) h ≡ PartEnd (i + b) g = cc e in
        let sums : i + a ≡ i + b = cc inner in
        let numbers : a ≡ b = omega (arith, sums) in
        (ap Own numbers, cc inner)
    source_same (Own a) (Supplied n b) h g e = absurd (other_webs n (Of (PartEnd (i + a) h)) (Of (PartEnd b g)) e)
    source_same (Supplied n a) (Own b) h g e = absurd (other_webs n (Of (PartEnd (i + b) g)) (Of (PartEnd a h)) (sym e))
    source_same (Supplied n a) (Supplied l b) h g e =
        let numbers : n ≡ l = cc e in
        let inner : PartEnd a h ≡ PartEnd b g = cc e in
        let parts : a ≡ b = cc inner in
        ((λ t. Supplied (numbers t) (parts t)), cc inner)

    no_import_source : (s : Source) (h n g k : ℕ) → source_dot i s h ≡ Within (suc n) (Of (ImportEnd k g)) → ⊥
    no_import_source (Own a) h n g k e = other_webs n (Of (PartEnd (i + a) h)) (Of (ImportEnd k g)) e
    no_import_source (Supplied l a) h n g k e = let inner : PartEnd a h ≡ ImportEnd k g = cc e in cc inner

    no_result_source : (s : Source) (h g : ℕ) → source_dot i s h ≡ Within 0 (Of (ResultEnd g)) → ⊥
    no_result_source (Own a) h g e = let inner : PartEnd (i + a) h ≡ ResultEnd g = cc e in cc inner
    no_result_source (Supplied l a) h g e = other_webs l (Of (ResultEnd g)) (Of (PartEnd a h)) (sym e)

    ends_apart : (a b : End) (k l : Contact) → contact_at c a ≡ Some k → contact_at c b ≡ Some l → dot_at i pl a ≡ dot_at i pl b → a ≡ b
    ends_apart (PartEnd n h) (PartEnd o g) k l at_a at_b e =
        let (sources, shakes) = source_same (pl.source n) (pl.source o) h g e in
        let (x, is, at_x) = part_there n h k at_a in
        let (y, is_y, at_y) = part_there o g l at_b in
        let numbers : n ≡ o = sym (there.no_more n x is).1 ∙ (ap (placed pl) sources ∙ (there.no_more o y is_y).1) in
        (λ t. PartEnd (numbers t) (shakes t))
    ends_apart (ImportEnd n h) (ImportEnd o g) k l at_a at_b e =
        let numbers : (pl.origin n).number ≡ (pl.origin o).number = cc e in
        let inner : ImportEnd (pl.origin n).import h ≡ ImportEnd (pl.origin o).import g = cc e in
        let imports : (pl.origin n).import ≡ (pl.origin o).import = cc inner in
        let shakes : h ≡ g = cc inner in
        let (x, is, at_x) = import_there n h k at_a in
        let (y, is_y, at_y) = import_there o g l at_b in
        let same : n ≡ o = sym (there.no_import n x is).2 ∙ ((λ t. pl.import (numbers t) (imports t)) ∙ (there.no_import o y is_y).2) in
        (λ t. ImportEnd (same t) (shakes t))
    ends_apart (ResultEnd h) (ResultEnd g) k l at_a at_b e = let inner : ResultEnd h ≡ ResultEnd g = cc e in inner
    ends_apart (PartEnd n h) (ImportEnd o g) k l at_a at_b e =
        absurd (no_import_source (pl.source n) h (pl.origin o).number g (pl.origin o).import e)
    ends_apart (ImportEnd n h) (PartEnd o g) k l at_a at_b e =
        absurd (no_import_source (pl.source o) g (pl.origin n).number h (pl.origin n).import (sym e))
    ends_apart (PartEnd n h) (ResultEnd g) k l at_a at_b e = absurd (no_result_source (pl.source n) h g e)
    ends_apart (ResultEnd h) (PartEnd o g) k l at_a at_b e = absurd (no_result_source (pl.source o) g h (sym e))
    ends_apart (ImportEnd n h) (ResultEnd g) k l at_a at_b e =
        absurd (other_webs (pl.origin n).number (Of (ResultEnd g)) (Of (ImportEnd (pl.origin n).import h)) (sym e))
    ends_apart (ResultEnd h) (ImportEnd o g) k l at_a at_b e =
        absurd (other_webs (pl.origin o).number (Of (ResultEnd h)) (Of (ImportEnd (pl.origin o).import g)) e)

    -- along a way
    abbrev ties : List Tie
    ties = wired_ties types i j m ns env

    module _ (a : End) (k : Contact) (at_a : contact_at c a ≡ Some k) where
      abbrev Found : Dot → Type 0
      Found = Reached Dot Leads (wired.fair types i j m ns env typed linear supplies) (dot_at i pl a) k (end_sees a k at_a)

      on : (x y : Dot) (e : Contact) → Found x → Leads x y e → Found y
      on = step Dot Leads (wired.fair types i j m ns env typed linear supplies) (dot_at i pl a) k (end_sees a k at_a)

      walk : (x y : Dot) → Found x → Way ties x y → Found y
      walk x y found (here d) = found
      walk x y found (along d e f (inl has) way) =
          let (contact, leads) = wired.tie_leads types i j m ns env typed linear supplies (tie d e) has in walk e f (on d e contact found leads) way
      walk x y found (along d e f (inr has) way) =
          let (contact, leads) = wired.tie_leads types i j m ns env typed linear supplies (tie e d) has in
          walk e f (on d e (turned_contact contact) found (wired.back types i j m ns env typed linear supplies e d contact leads)) way

      pub fits : (b : End) (l : Contact) → contact_at c b ≡ Some l → a ≢ b → Way ties (dot_at i pl a) (dot_at i pl b) → l ≡ turned_contact k
      fits b l at_b differ way =
          by_end
          (reached_fits Dot Leads (wired.fair types i j m ns env typed linear supplies) (dot_at i pl a) k (end_sees a k at_a) (dot_at i pl b) l (end_sees b l at_b)
          (walk (dot_at i pl a) (dot_at i pl b) (inl refl) way))
        where
          by_end : (dot_at i pl b ≡ dot_at i pl a) ⊎ (l ≡ turned_contact k) → l ≡ turned_contact k
          by_end (inl same) = absurd (differ (ends_apart a b k l at_a at_b (sym same)))
          by_end (inr fit) = fit

pub wired_node_fits : WiredNodeFits
wired_node_fits types i j m ns env pl c typed linear supplies there a b k l at_a at_b differ way =
    fits types i j m ns env pl c typed linear supplies there a k at_a b l at_b differ way

pub wired_is_placed : WiredIsPlaced
wired_is_placed types i j m ns env pl r is = record { outcome = is.outcome; parts = is.parts; no_more = is.no_more; imports = is.imports; no_import = is.no_import }

pub fitting_is_plain : FittingIsPlain
fitting_is_plain v c fit a b d k l m at_a at_b at_d apart_b apart_d to_b to_d = by_end (told_end b d)
  where
    by_end : Told (b ≡ d) → b ≡ d
    by_end (inl same) = same
    by_end (inr differ) =
        let first : l ≡ turned_contact k = fit a b k l at_a at_b apart_b to_b in
        let second : m ≡ turned_contact k = fit a d k m at_a at_d apart_d to_d in
        let both : m ≡ turned_contact l =
        fit b d l m at_b at_d differ (way_then v.ties (v.at b) (v.at a) (v.at d) (way_back v.ties (v.at a) (v.at b) to_b) to_d)
        in
        absurd (not_itself l (ap (λ (z : Contact). z.role) (first ∙ (sym second ∙ both))))

pub realised_are_of_types : RealisedAreOfTypes
realised_are_of_types types env ns all n among = let suits = (all n among).suits in (suits.right, suits.outcome)

pub checked_starts : CheckedStarts
checked_starts l ss c are =
    (record { used_once = c.term.used_once; made_once = c.term.made_once; supplied = not_made }, realised)
  where
    not_made : (n : ℕ) → Contains (numbers_from 0 (length (program_in l).imports)) n → times n (made (node_seen l.term)) ≡ 0
    not_made n among = by_times (times n (made (node_seen l.term))) refl
      where
        by_times : (k : ℕ) → times n (made (node_seen l.term)) ≡ k → times n (made (node_seen l.term)) ≡ 0
        by_times zero e = e
        by_times (suc k) e =
            let (low, high) = of_numbers 0 (length (program_in l).imports) n among in
            let beyond = c.term.no_import n (omega (arith, e)) in
            absurd (omega (arith, high, beyond))

    realised : (n : ℕ) → Contains (numbers_from 0 (length (program_in l).imports)) n
        → Realises (all_types (program_in l).imports (node_seen l.term) n) (supply_at ss n).plan (supply_at ss n).term
    realised n among =
        let (x, at_x) = import_numbered (program_in l).imports n among in
        let (s, at_s, has) = supply_of (program_in l).imports ss n x are at_x in
        let here : Some s ≡ Some (supply_at ss n) = sym at_s ∙ supply_there (program_in l).imports ss are n among in
        let same : s ≡ supply_at ss n = cc here in
        let type = type_is (program_in l).imports (node_seen l.term) c.term.no_import n x at_x in
        subst (λ (t : Type'). Realises t (supply_at ss n).plan (supply_at ss n).term) (sym type)
        (subst (λ (y : Supply). Realises x.ty y.plan y.term) same has)

pub use_is_linear : UseIsLinear
use_is_linear =
    record {
      used_once = λ k. few (nat_eq 0 k);
      made_once = λ k. omega arith;
      supplied = λ n among. refl;
    }
  where
    few : (b : Bool) → (if b then 1 else 0) + 0 ≤ 1
    few true = omega arith
    few false = omega arith

pub twice_is_not_linear : TwiceIsNotLinear
twice_is_not_linear is = let twice = is.used_once 0 in omega (arith, twice)
