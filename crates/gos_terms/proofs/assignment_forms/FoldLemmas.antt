-- The plan of a wired variable, without the joint by which it is read, lies as a fold in its node's: so it is a region of it.
use Rattle.std.specs.Prelude.{◌+◌, ◌⊎◌, length, slice_get, None}
use Rattle.std.proofs.Common.{◌≡◌, ℕ, zero, suc, Bool, List, Option, Some, inl, inr, refl, sym, ◌∙◌, ap, subst, if◌then◌else◌}
use Rattle.std.proofs.lemmas.Bool.{eq-eqb}
use Rattle.std.proofs.lemmas.Option.{none-some}
use Rattle.gos_types.specs.Types.{Type', Com, Exp, Var, Pair, IsGround}
use Rattle.gos_check.specs.Nodes.{type_of_node}
use Rattle.gos_plan.specs.Kinds.{Contact, Part, Assign, contacts_of, part_contacts}
use Rattle.gos_plan.specs.Plans.{End, PartEnd, ImportEnd, ResultEnd, Plan, contact_at, contacts_of_part, turned_if}
use Rattle.gos_plan.specs.Tokens.{IsPortEnd}
use Rattle.gos_joining.specs.webs.Webs.{Dot, Of, Within, Tie, Web, Way, IsOfWeb}
use Rattle.gos_joining.specs.webs.Cutting.{IsOutside}
use Rattle.gos_joining.proofs.webs.WayLemmas.{way_back}
use Rattle.gos_nodes.specs.windows.Regions.{IsRegion}
use Rattle.gos_nodes.specs.folds.Folds.{Fold, IsFolded, IsSpare, IsFold, joined_cut}
use Rattle.gos_nodes.proofs.folds.RegionLemmas.{folded_is_region}
use Rattle.gos_compile.specs.Wiring.{parts_of}
use Rattle.gos_terms.specs.wired.Wired.{Source, Own, Placing, source_dot, dot_at}
use Rattle.gos_terms.specs.stages.Folding.{Lead, AtOwn, AtResult, of_own, of_result, in_range, spot_dot, led_end, Child, lodge, child_web, child_dot, child_back, child_outer, child_cut, child_servings, IsChild, IsLaid}
use Rattle.gos_terms.specs.stages.Folded.{Sees, HasChild}
use Rattle.gos_terms.specs.stages.Housing.{HasShares}
use Rattle.gos_terms.proofs.stages.ChildTieLemmas.{child_ways}
use Rattle.gos_terms.proofs.stages.ChildBackLemmas.{lead_lies, lead_stands, child_stays}
use Rattle.gos_terms.proofs.stages.ChildPartLemmas.{child_is_part}
use Rattle.gos_terms.proofs.stages.ChildFoldLemmas.{own_outside, ports_so, serving_so, others_so, ends_so, comes_so}
use Rattle.gos_nodes.specs.assignments.Written.{unread}
use Rattle.gos_terms.specs.assignment_forms.inner.Targets.{target_leads, target_outer, target_inner, target_cut}
use Rattle.gos_terms.proofs.assignment_forms.UnreadLemmas.{unread_at, unread_web, alone_read, unread_is_of_web}

-- the plan as one that has the read too
abbrev pub reading : ℕ → Plan → Plan
reading w r = record r { outcome = Pair Com (Exp w) }

-- What is known of the parts: those of the splits first, then an Assign of w bits, and the variable's.
pub record HasTarget (f : Child) (own : List Part) (w : ℕ) : Type 0 where
  pub shares : HasShares f.types f.splits own
  pub child : (x : ℕ) (y : Part) → slice_get (parts_of f.types f.term) x ≡ Some y → slice_get own (f.off + x) ≡ Some y
  pub assign : slice_get own f.own ≡ Some (Assign w)

var_asks : (w h : ℕ) (k : Contact) → turned_if (slice_get (contacts_of (Var w)) h) ≡ Some k → slice_get (part_contacts (Assign w)) h ≡ Some k
var_asks w zero k e = e
var_asks w (suc zero) k e = e
var_asks w (suc (suc h)) k e = absurd (none-some k e)

read_contact : (w : ℕ) (k : Contact) → turned_if (slice_get (contacts_of (Var w)) 0) ≡ Some k → turned_if (slice_get (contacts_of (Pair Com (Exp w))) 1) ≡ Some k
read_contact w k e = e

com_only : (h : ℕ) (k : Contact) → turned_if (slice_get (contacts_of Com) (suc h)) ≡ Some k → ⊥
com_only h k e = none-some k e

module _ (f : Child) (own : List Part) (ts : List Tie) (w : ℕ) (pl plc : Placing) (r c : Plan) (is : IsChild f ts) (leads : f.out ≡ target_leads)
    (var : type_of_node f.term ≡ Var w) (has : HasTarget f own w) (outcome : c.outcome ≡ type_of_node f.term) (done : r.outcome ≡ Com)
    (laid : IsLaid own f.numbers f.env pl r) (laidc : IsLaid (parts_of f.types f.term) f.uses (lodge f).env plc c) where
  abbrev size : ℕ
  size = length r.parts

  abbrev d : ℕ
  d = pl.own f.own

  abbrev whole : Web
  whole = record { ties = ts; at = dot_at f.first pl }

  abbrev web : Web
  web = child_web f plc

  abbrev pub fold : Fold
  fold = record { cut = target_cut f pl plc (length r.parts); dot = child_dot f; back = child_back f }

  c_is : c.outcome ≡ Var w
  c_is = outcome ∙ var

  var_contact : (h : ℕ) (k : Contact) → contact_at c (ResultEnd h) ≡ Some k → turned_if (slice_get (contacts_of (Var w)) h) ≡ Some k
  var_contact h k at = ap (λ (t : Type'). turned_if (slice_get (contacts_of t) h)) (sym c_is) ∙ at

  lead_at : (h : ℕ) (l : Lead) → slice_get target_leads h ≡ Some l → slice_get f.out h ≡ Some l
  lead_at h l at = ap (λ (ls : List Lead). slice_get ls h) leads ∙ at

  seen : (h : ℕ) (l : Lead) (k : Contact) → slice_get target_leads h ≡ Some l → contact_at c (ResultEnd h) ≡ Some k → Sees f.own own (Pair Com (Exp w)) l k
  seen zero l k lead at =
      let same : AtResult 1 ≡ l = cc lead in
      subst (λ (x : Lead). Sees f.own own (Pair Com (Exp w)) x k) same (read_contact w k (var_contact 0 k at))
  seen (suc zero) l k lead at =
      let same : AtOwn 1 ≡ l = cc lead in
      subst (λ (x : Lead). Sees f.own own (Pair Com (Exp w)) x k) same
      (ap (λ (a : Option Part). slice_get (contacts_of_part a) 1) has.assign ∙ var_asks w 1 k (var_contact 1 k at))
  seen (suc (suc h)) l k lead at = absurd (none-some l lead)

  pub has_child : HasChild f own (Pair Com (Exp w)) c
  has_child =
      record {
        shares = has.shares;
        child = has.child;
        outcome = outcome;
        asks = λ h l k lead at. seen h l k (ap (λ (ls : List Lead). slice_get ls h) (sym leads) ∙ lead) at;
      }

  pub laid_reading : IsLaid own f.numbers f.env pl (reading w r)
  laid_reading = record { parts = laid.parts; no_more = laid.no_more; imports = laid.imports; no_import = laid.no_import }

  own_source : pl.source d ≡ Own f.own
  own_source = (laid.parts (Assign w) (Own f.own) has.assign).1

  own_there : slice_get r.parts d ≡ Some (Assign w)
  own_there = (laid.parts (Assign w) (Own f.own) has.assign).0

  pub outside : (child_cut f pl plc size).number d ≡ None
  outside = own_outside f own ts pl plc (reading w r) c is has_child laid_reading laidc (Assign w) has.assign

  own_dot : (h : ℕ) → dot_at f.first pl (PartEnd d h) ≡ Within 0 (Of (PartEnd (f.first + f.own) h))
  own_dot h = ap (λ (s : Source). source_dot f.first s h) own_source

  own_asks : (h : ℕ) (k : Contact) → contact_at c (ResultEnd h) ≡ Some k → contact_at r (PartEnd d h) ≡ Some k
  own_asks h k at = ap (λ (a : Option Part). slice_get (contacts_of_part a) h) own_there ∙ var_asks w h k (var_contact h k at)

  -- the own part's first handshake is nobody's of the variable
  nobody : child_back f (Within 0 (Of (PartEnd (f.first + f.own) 0))) ≡ None
  nobody =
      ap (λ (b : Bool). if b then of_own f.out 0 0
      else if in_range (f.first + f.off) (length (parts_of f.types f.term)) (f.first + f.own)
      then Some (Within 0 (Of (PartEnd (f.first + f.own) 0)))
      else spot_dot ((lodge f).home (Within 0 (Of (PartEnd (f.first + f.own) 0)))))
      (eq-eqb (f.first + f.own) (f.first + f.own) refl)
      ∙ ap (λ (ls : List Lead). of_own ls 0 0) leads

  abbrev Port : End → Contact → Type 0
  Port e k =
      IsOutside (target_cut f pl plc size) (target_outer f pl plc e)
      × (target_inner f pl plc (target_outer f pl plc e) ≡ Some e) × (contact_at r (target_outer f pl plc e) ≡ Some k)

  ports : (e : End) (k : Contact) → IsPortEnd e → contact_at c e ≡ Some k → Port e k
  ports (PartEnd j h) k port at = absurd port
  ports (ImportEnd q h) k port at = ports_so f own ts pl plc (reading w r) c is has_child laid_reading laidc (ImportEnd q h) k port at
  ports (ResultEnd h) k port at = (
    outside,
    ap (λ (b : Bool). if b then Some (ResultEnd h) else None) (eq-eqb d d refl),
    own_asks h k at,
  )

  abbrev Ends : End → Type 0
  Ends e =
      IsFolded fold whole (unread_web (child_web f plc)) e ⊎ IsSpare fold (child_servings f pl) whole (unread_web (child_web f plc)) (unread c) e

  -- alone among the ends, also beside what reads
  by_ends : (e : End) (k : Contact) → contact_at c e ≡ Some k → (e ≡ ResultEnd 0 → ⊥) → unread_at web.at e ≡ web.at e
      → ((x : End) (l : Contact) → contact_at c x ≡ Some l → Way web.ties (web.at e) (web.at x) → x ≡ e)
      → (x : End) (l : Contact) → contact_at c x ≡ Some l → Way web.ties (unread_at web.at e) (unread_at web.at x) → x ≡ e
  by_ends e k at apart same alone (PartEnd j h) l at_x way =
      alone (PartEnd j h) l at_x (subst (λ (a : Dot). Way web.ties a (web.at (PartEnd j h))) same way)
  by_ends e k at apart same alone (ImportEnd j h) l at_x way =
      alone (ImportEnd j h) l at_x (subst (λ (a : Dot). Way web.ties a (web.at (ImportEnd j h))) same way)
  by_ends e k at apart same alone (ResultEnd zero) l at_x way =
      absurd (apart (alone_read f.types (f.first + f.off) f.node f.term f.uses (lodge f).env plc e
      (way_back web.ties (unread_at web.at e) (Of (ResultEnd 0)) way)))
  by_ends e k at apart same alone (ResultEnd (suc h)) l at_x way =
      alone (ResultEnd (suc h)) l at_x (subst (λ (a : Dot). Way web.ties a (web.at (ResultEnd (suc h)))) same way)

  ends : (e : End) (k : Contact) → contact_at c e ≡ Some k → Ends e
  ends (PartEnd j h) k at =
      elim (ends_so f own ts pl plc (reading w r) c is has_child laid_reading laidc (PartEnd j h) k at) [
        | inl folded ↦ inl folded
        | inr spare ↦ (let (none, which, alone) = spare in inr (none, which, by_ends (PartEnd j h) k at (λ e. cc e) refl alone))
      ]
  ends (ImportEnd j h) k at =
      elim (ends_so f own ts pl plc (reading w r) c is has_child laid_reading laidc (ImportEnd j h) k at) [
        | inl folded ↦ inl folded
        | inr spare ↦ (let (none, which, alone) = spare in inr (none, which, by_ends (ImportEnd j h) k at (λ e. cc e) refl alone))
      ]
  ends (ResultEnd zero) k at =
      inr (
        ap (child_back f) (own_dot 0) ∙ nobody,
        inl tt,
        λ x l at_x way. alone_read f.types (f.first + f.off) f.node f.term f.uses (lodge f).env plc x way,
      )
  ends (ResultEnd (suc zero)) k at =
      inl (
        ap (Within 0) (lead_lies f ts pl is 1 (AtOwn 1) (lead_at 1 (AtOwn 1) refl)) ∙ sym (own_dot 1),
        ap (child_back f) (own_dot 1) ∙ lead_stands f ts pl is 1 (AtOwn 1) (lead_at 1 (AtOwn 1) refl),
      )
  ends (ResultEnd (suc (suc h))) k at = absurd (none-some k (var_contact (suc (suc h)) k at))

  -- what comes in
  abbrev Comes : End → Contact → Type 0
  Comes e k = (x : End) × IsPortEnd x × (target_outer f pl plc x ≡ e) × (contact_at c x ≡ Some k)

  abbrev Came : End → Contact → Type 0
  Came e k = (x : End) × IsPortEnd x × (child_outer f pl plc x ≡ e) × (contact_at c x ≡ Some k)

  led_is : (h : ℕ) → child_outer f pl plc (ResultEnd h) ≡ led_end d (slice_get target_leads h) h
  led_is h = ap (λ (ls : List Lead). led_end d (slice_get ls h) h) leads

  came : (e : End) (k : Contact) → ((h : ℕ) → e ≡ ResultEnd h → ⊥) → Came e k → Comes e k
  came e k apart (PartEnd j h, port, outer, at) = absurd port
  came e k apart (ImportEnd j h, port, outer, at) = (ImportEnd j h, tt, outer, at)
  came e k apart (ResultEnd zero, port, outer, at) = absurd (apart 1 (sym outer ∙ led_is 0))
  came e k apart (ResultEnd (suc zero), port, outer, at) = (ResultEnd 1, tt, sym (led_is 1) ∙ outer, at)
  came e k apart (ResultEnd (suc (suc h)), port, outer, at) = absurd (none-some k (var_contact (suc (suc h)) k at))

  comes : (e : End) (k : Contact) (y : Dot) → IsOutside (target_cut f pl plc size) e → contact_at r e ≡ Some k → child_back f (dot_at f.first pl e) ≡ Some y → Comes e k
  comes (PartEnd i h) k y out at e =
      came (PartEnd i h) k (λ g x. cc x) (comes_so f own ts pl plc (reading w r) c is has_child laid_reading laidc (PartEnd i h) k y out at e)
  comes (ImportEnd i h) k y out at e =
      came (ImportEnd i h) k (λ g x. cc x) (comes_so f own ts pl plc (reading w r) c is has_child laid_reading laidc (ImportEnd i h) k y out at e)
  comes (ResultEnd zero) k y out at e =
      absurd (none-some y (sym (ap (λ (ls : List Lead). of_result ls 0 0) leads) ∙ e))
  comes (ResultEnd (suc h)) k y out at e =
      absurd (com_only h k (ap (λ (t : Type'). turned_if (slice_get (contacts_of t) (suc h))) (sym done) ∙ at))

  pub target_is_fold : IsOfWeb whole r → IsFold fold (child_servings f pl) whole (unread_web (child_web f plc)) r (unread c)
  target_is_fold of_web =
      let part = child_is_part f own ts pl plc (reading w r) c is has_child laid_reading laidc in
      record {
        whole = of_web;
        parts = part.parts;
        numbers = part.numbers;
        ports = ports;
        serving = serving_so f own ts pl plc (reading w r) c is has_child laid_reading laidc;
        others = others_so f own ts pl plc (reading w r) c is has_child laid_reading laidc;
        ends = ends;
        ways = λ t listed. child_ways f ts plc t is listed;
        stays = λ t listed. child_stays f ts plc t is listed;
        comes = comes;
      }

  pub target_web : IsOfWeb (child_web f plc) c → IsOfWeb (unread_web (child_web f plc)) (unread c)
  target_web of_web =
      unread_is_of_web f.types (f.first + f.off) f.node f.term f.uses (lodge f).env plc c (subst IsGround (sym c_is) tt) of_web

  pub target_is_region : IsOfWeb whole r → IsOfWeb (child_web f plc) c
      → IsRegion (joined_cut (target_cut f pl plc (length r.parts)) (unread c).joints) (child_servings f pl) r (unread c)
  target_is_region of_web own_web =
      folded_is_region fold (child_servings f pl) whole (unread_web (child_web f plc)) r (unread c) (target_is_fold of_web) (target_web own_web)
