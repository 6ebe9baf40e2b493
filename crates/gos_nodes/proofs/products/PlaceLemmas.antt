-- Where the ports of a side lie in the whole: its imports are some of the whole's, and its result is a part of the whole's.
use Rattle.std.specs.Prelude.{◌+◌, ◌<◌, None, slice_get, Contains}
use Rattle.std.proofs.Common.{◌≡◌, ℕ, Bool, true, false, ◌⊎◌, Option, Some, inl, inr, refl, sym, ◌∙◌, ap, subst, arith}
use Rattle.std.proofs.lemmas.Option.{none-some, same_Some, slice_get-get_or}
use Rattle.gos_types.specs.declared.shakes.Role.TheVariants.{Ask}
use Rattle.gos_types.specs.Types.{Type'}
use Rattle.gos_types.proofs.BoolLemmas.{same_tests}
use Rattle.gos_model.specs.Typing.{Imported}
use Rattle.gos_plan.specs.Kinds.{Contact, contacts_of}
use Rattle.gos_plan.specs.Plans.{End, PartEnd, ImportEnd, ResultEnd, Plan, contact_at, contacts_of_import, turned_if, same_end}
use Rattle.gos_plan.specs.Tokens.{IsPortEnd, places_of}
use Rattle.gos_plan.proofs.JointLemmas.{same_is, same_itself}
use Rattle.gos_realises.specs.realises.Regular.{count, beyond, KeepsTurnsOf}
use Rattle.gos_realises.specs.realises.Realises.{NamesDiffer}
use Rattle.gos_realises.proofs.realises.ToldLemmas.{there_is, contains_at}
use Rattle.gos_realises.proofs.realises.CountLemmas.{below_count}
use Rattle.gos_joining.specs.webs.Cutting.{lies_at, StandsIn, IsCut}
use Rattle.gos_joining.proofs.webs.CutLemmas.{Owns, place_there}
use Rattle.gos_sharing.proofs.buffers.BranchLemmas.{place_stands}
use Rattle.gos_nodes.proofs.windows.InlayLemmas.{inlay, inlay_cut, inlay_place}
use Rattle.gos_nodes.proofs.windows.PortLemmas.{stands_contact, one_place}
use Rattle.gos_nodes.specs.products.Both.{Side, IsSide}

-- The handshakes of t are those of the type u from number n on, and keep its turns where all else of it is closed; where something
-- else is open they are closed.
pub record IsPartOf (t : Type') (n : ℕ) (u : Type') : Type 0 where
  pub fits : (h : ℕ) → h < count t → n + h < count u
  pub contacts : (h : ℕ) → h < count t → slice_get (contacts_of u) (n + h) ≡ slice_get (contacts_of t) h
  pub kept : (f : ℕ → Bool) → KeepsTurnsOf u f → KeepsTurnsOf t (beyond n f)
  pub back :
      (f : ℕ → Bool) → KeepsTurnsOf t (beyond n f)
      → ((m : ℕ) → m < count u → ((h : ℕ) → h < count t → n + h ≡ m → ⊥) → f m ≡ false) → KeepsTurnsOf u f
  pub alone :
      (f : ℕ → Bool) (m : ℕ) → KeepsTurnsOf u f → m < count u → ((h : ℕ) → h < count t → n + h ≡ m → ⊥) → f m ≡ true
      → (h : ℕ) → h < count t → f (n + h) ≡ false

-- a side, and what is known of the whole's imports and of its result
pub record IsLaid (r : Plan) (n : ℕ) (g : Side) : Type 0 where
  pub side : IsSide r n g
  pub names : NamesDiffer r.imports
  pub part : IsPartOf g.plan.outcome n r.outcome
  pub joined : (h : ℕ) → h < count g.plan.outcome → StandsIn r (ResultEnd (n + h)) → StandsIn g.plan (ResultEnd h)

module _ (r : Plan) (n : ℕ) (g : Side) (is : IsLaid r n g) where
  pub cut : IsCut g.cut (inlay g.cut r g.plan) g.plan
  cut = inlay_cut g.cut g.sides r g.plan is.side.region

  -- the number in the whole of an import
  abbrev index : (o : Option Imported) → ((x : Imported) → o ≡ Some x → Contains r.imports x) → ℕ
  index None there = 0
  index (Some x) there = (there x refl).0

  index_there : (o : Option Imported) (there : (x : Imported) → o ≡ Some x → Contains r.imports x) (x : Imported) → o ≡ Some x
      → slice_get r.imports (index o there) ≡ Some x
  index_there None there x same = absurd (none-some x same)
  index_there (Some y) there x same =
      let (k, within, here) = there y refl in slice_get-get_or r.imports k y within ∙ (ap Some here ∙ same)

  pub import_number : ℕ → ℕ
  import_number i = index (slice_get g.plan.imports i) (λ x here. is.side.imports x (contains_at g.plan.imports i x here))

  pub import_there : (i : ℕ) (x : Imported) → slice_get g.plan.imports i ≡ Some x → slice_get r.imports (import_number i) ≡ Some x
  unfolding import_number
  import_there i x here = index_there (slice_get g.plan.imports i) (λ x here. is.side.imports x (contains_at g.plan.imports i x here)) x here

  abbrev pub at : End → End
  at (PartEnd i h) = PartEnd (g.cut.part i) h
  at (ImportEnd i h) = ImportEnd (import_number i) h
  at (ResultEnd h) = ResultEnd (n + h)

  pub at_port : (e : End) → IsPortEnd e → IsPortEnd (at e)
  at_port (PartEnd i h) port = port
  at_port (ImportEnd i h) port = tt
  at_port (ResultEnd h) port = tt

  pub at_lies : (e : End) → Owns g.plan e → lies_at g.cut e ≡ at e
  at_lies (PartEnd i h) own = refl
  at_lies (ImportEnd i h) stands =
      let (k, outer, same) = is.side.ports i h stands in
      let (c, there) = stands_contact g.plan is.side.region.right (ImportEnd i h) stands in
      let (x, here) = there_is g.plan.imports i h c there in
      outer ∙ ap (λ (m : ℕ). ImportEnd m h) (one_place r.imports is.names k (import_number i) x (same ∙ here) (import_there i x here))
  at_lies (ResultEnd h) stands = is.side.result h stands

  -- a port of the side that there is
  pub record Port (e : End) : Type 0 where
    pub port : IsPortEnd e
    pub contact : Contact
    pub there : contact_at g.plan e ≡ Some contact

  pub port_result : (h : ℕ) → Port (ResultEnd h) → h < count g.plan.outcome
  port_result h port = below_count g.plan.outcome h port.contact port.there

  pub port_import : (i h : ℕ) → Port (ImportEnd i h) → (x : Imported) × (slice_get g.plan.imports i ≡ Some x)
  port_import i h port = there_is g.plan.imports i h port.contact port.there

  pub port_of : (e : End) → IsPortEnd e → StandsIn g.plan e → Port e
  port_of e port stands = let (c, there) = stands_contact g.plan is.side.region.right e stands in record { port = port; contact = c; there = there }

  pub same_contact : (e : End) → Port e → contact_at r (at e) ≡ contact_at g.plan e
  same_contact (PartEnd i h) port = absurd port.port
  same_contact (ImportEnd i h) port =
      let (x, here) = port_import i h port in ap (λ (o : Option Imported). slice_get (contacts_of_import o) h) (import_there i x here ∙ sym here)
  same_contact (ResultEnd h) port = ap turned_if (is.part.contacts h (port_result h port))

  pub one_port : (d e : End) → Port d → Port e → at d ≡ at e → d ≡ e
  one_port (PartEnd i h) e port also same = absurd port.port
  one_port d (PartEnd i h) port also same = absurd also.port
  one_port (ImportEnd i h) (ImportEnd j m) port also same =
      let (x, here) = port_import i h port in
      let (y, there) = port_import j m also in
      let numbers : import_number i ≡ import_number j = cc same in
      let shakes : h ≡ m = cc same in
      let one : x ≡ y = same_Some x y (sym (import_there i x here) ∙ (ap (slice_get r.imports) numbers ∙ import_there j y there)) in
      let imports : i ≡ j = one_place g.plan.imports is.side.names i j x here (there ∙ ap Some (sym one)) in
      λ l. ImportEnd (imports l) (shakes l)
  one_port (ImportEnd i h) (ResultEnd m) port also same = absurd (cc same)
  one_port (ResultEnd h) (ImportEnd j m) port also same = absurd (cc same)
  one_port (ResultEnd h) (ResultEnd m) port also same =
      let sums : n + h ≡ n + m = cc same in
      let shakes : h ≡ m = omega (arith, sums) in ap ResultEnd shakes

  pub same_at : (d e : End) → Port d → Port e → same_end (at d) (at e) ≡ same_end d e
  same_at d e port also = same_tests (same_end (at d) (at e)) (same_end d e) to from
    where
      to : same_end (at d) (at e) ≡ true → same_end d e ≡ true
      to t = subst (λ (x : End). same_end d x ≡ true) (one_port d e port also (same_is (at d) (at e) t)) (same_itself d)

      from : same_end d e ≡ true → same_end (at d) (at e) ≡ true
      from t = subst (λ (x : End). same_end (at d) (at x) ≡ true) (same_is d e t) (same_itself (at d))

  -- an import of which some end stands in a joint
  abbrev pub Used : End → Type 0
  Used (PartEnd i h) = ⊥
  Used (ImportEnd i h) = (m : ℕ) × StandsIn g.plan (ImportEnd i m)
  Used (ResultEnd h) = Unit {0}

  -- a port at which the surroundings ask, without a joint in the whole and in the side
  pub record IsLoose (e : End) : Type 0 where
    pub port : Port e
    pub asks : port.contact.role ≡ Ask
    pub none : places_of r (at e) ≡ None
    pub own_none : places_of g.plan e ≡ None
    pub used : Used e

  -- a port at which something may pass
  abbrev pub Met : End → Type 0
  Met e = (IsPortEnd e × StandsIn g.plan e) ⊎ IsLoose e

  pub met_port : (e : End) → Met e → Port e
  met_port e (inl stands) = port_of e stands.0 stands.1
  met_port e (inr loose) = loose.port

  used_by : (e : End) → IsPortEnd e → StandsIn g.plan e → Used e
  used_by (PartEnd i h) port stands = port
  used_by (ImportEnd i h) port stands = (h, stands)
  used_by (ResultEnd h) port stands = tt

  pub met_used : (e : End) → Met e → Used e
  met_used e (inl stands) = used_by e stands.0 stands.1
  met_used e (inr loose) = loose.used

  -- where it stands in a joint so it does in the whole
  pub whole_place : (e a : End) → IsPortEnd e → places_of g.plan e ≡ Some a → places_of r (at e) ≡ Some (lies_at g.cut a)
  whole_place e a port named =
      let stands = place_stands g.plan e a named in
      let there = place_there g.cut (inlay g.cut r g.plan) g.plan cut e a named in
      ap (places_of r) (sym (at_lies e (own e port stands))) ∙ inlay_place g.cut g.sides r g.plan is.side.region (lies_at g.cut e) (lies_at g.cut a) there
    where
      own : (e : End) → IsPortEnd e → StandsIn g.plan e → Owns g.plan e
      own (PartEnd i h) port stands = absurd port
      own (ImportEnd i h) port stands = stands
      own (ResultEnd h) port stands = stands

  -- a port at which the surroundings ask is met, if one of its import stands in a joint
  pub asked_met : (e : End) (port : Port e) → port.contact.role ≡ Ask → Used e → (StandsIn r (at e) → StandsIn g.plan e) → Met e
  asked_met e port asks used joined = by_place (places_of r (at e)) refl
    where
      by_own : places_of r (at e) ≡ None → (o : Option End) → places_of g.plan e ≡ o → places_of g.plan e ≡ None
      by_own none None own_none = own_none
      by_own none (Some a) named =
          let clash : None ≡ Some (lies_at g.cut a) = sym none ∙ whole_place e a port.port named in absurd (cc clash)

      by_place : (o : Option End) → places_of r (at e) ≡ o → Met e
      by_place (Some a) named = inl (port.port, joined (place_stands r (at e) a named))
      by_place None none = inr (record { port = port; asks = asks; none = none; own_none = by_own none (places_of g.plan e) refl; used = used })

  pub result_met : (h : ℕ) (port : Port (ResultEnd h)) → port.contact.role ≡ Ask → Met (ResultEnd h)
  result_met h port asks = asked_met (ResultEnd h) port asks tt (is.joined h (port_result h port))

  pub import_met : (i h : ℕ) (port : Port (ImportEnd i h)) → port.contact.role ≡ Ask → Used (ImportEnd i h) → Met (ImportEnd i h)
  import_met i h port asks used = asked_met (ImportEnd i h) port asks used heard
    where
      outer : g.cut.outer (ImportEnd i used.0) ≡ ImportEnd (import_number i) used.0
      outer = at_lies (ImportEnd i used.0) used.1

      heard : StandsIn r (ImportEnd (import_number i) h) → StandsIn g.plan (ImportEnd i h)
      heard = (is.side.heard i used.0 h (import_number i) port.contact used.1 outer port.there asks).1
