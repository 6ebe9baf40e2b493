-- The plan of a child lies as a fold in its node's: its ports, the Shares that serve it, and its ends.
use Rattle.std.specs.Prelude.{◌+◌, ◌-◌, ◌*◌, ◌<◌, ◌≤◌, ◌⊎◌, length, nat_eq, slice_get, None, Contains}
use Rattle.std.proofs.Common.{◌≡◌, ℕ, suc, Bool, true, false, not, List, [], ◌∷◌, Option, Some, inl, inr, refl, sym, ◌∙◌, ap, subst, arith, if◌then◌else◌}
use Rattle.std.proofs.lemmas.Option.{slice_get_within, none-some}
use Rattle.std.proofs.lemmas.List.Elements.{Contains-append_cases}
use Rattle.std.proofs.lemmas.Bool.{eqb-true, lt-ltb, eq-eqb, cases_lt}
use Rattle.gos_types.specs.Types.{Type'}
use Rattle.gos_types.proofs.ListLemmas.{element_at}
use Rattle.gos_model.specs.Typing.{Imported}
use Rattle.gos_check.specs.Nodes.{type_of_node}
use Rattle.gos_plan.specs.Kinds.{Contact, Part, Share, contacts_of, turned_contact}
use Rattle.gos_plan.specs.Plans.{End, PartEnd, ImportEnd, ResultEnd, Joint, Plan, contact_at, contacts_of_part, contacts_of_import, turned_if, stands_in}
use Rattle.gos_plan.specs.Tokens.{IsPortEnd}
use Rattle.gos_plan.proofs.ContactLemmas.{turned_some, part_is_there, import_is_there}
use Rattle.gos_realises.specs.realises.Regular.{count}
use Rattle.gos_ties.specs.declared.points.Place.TheVariants as places
use Rattle.gos_realises.proofs.realises.CountLemmas.{some_shake}
use Rattle.gos_joining.specs.webs.Webs.{Dot, Of, Number, Within, Tie, tie, Way, here, along, Web}
use Rattle.gos_joining.specs.webs.Cutting.{IsOutside, StandsIn}
use Rattle.gos_joining.proofs.webs.WebLemmas.{asks_there, serves_there}
use Rattle.gos_joining.specs.unions.Unions.{within}
use Rattle.gos_joining.proofs.unions.UnionLemmas.{of_image}
use Rattle.gos_nodes.specs.windows.Regions.{Serving, IsOther}
use Rattle.gos_nodes.specs.folds.Folds.{IsFolded, IsSpare}
use Rattle.gos_compile.specs.Wiring.{parts_of, shares, row, ties_of}
use Rattle.gos_terms.specs.wired.Wired.{Origin, Source, Own, Supplied, Placing, IsFrom, placed, source_dot, dot_of, dot_at, dot_ties, all_supply_ties}
use Rattle.gos_terms.specs.stages.Lodging.{Spot, spot_if}
use Rattle.gos_terms.specs.stages.Folding.{Lead, AtOwn, AtResult, lead_point, of_own, lead_end, led_end, Child, is_used, lodge, child_web, child_dot, in_range, spot_dot, asks_child, child_back, child_source, part_of_dot, port_of_dot, child_outer, child_cut, child_fold, child_servings, IsChild, IsLaid}
use Rattle.gos_terms.specs.stages.Housing.{IsThere}
use Rattle.gos_terms.specs.stages.Folded.{HasChild, ChildIsFolded}
use Rattle.gos_terms.specs.stages.Served.{IsSeenFrom}
use Rattle.gos_terms.proofs.stages.StepLemmas.{serves_source}
use Rattle.gos_terms.proofs.stages.PartHomeLemmas.{numbers_are_at_home}
use Rattle.gos_terms.proofs.stages.HousingLemmas.{imports_are_from, homes_are_there, far_is_nothing}
use Rattle.gos_terms.proofs.stages.ImportHomeLemmas.{imports_are_there}
use Rattle.gos_terms.proofs.stages.ServedLemmas.{servings_serve}
use Rattle.gos_terms.proofs.stages.SpareLemmas.{spares_are_others}
use Rattle.gos_terms.proofs.stages.ChildTieLemmas.{put_in, of_supplies, of_supply, child_ways}
use Rattle.gos_terms.proofs.stages.ChildBackLemmas.{lead_back, at_lead, told_lead, lead_lies, lead_stands, used_so, spot_used, child_stays}
use Rattle.gos_terms.proofs.stages.ContactLemmas.{shares_length, other_unserved}
use Rattle.gos_terms.proofs.stages.ChildPartLemmas.{plain_source, supplied_back, own_source_back, source_from, part_lies, number_so, child_is_part}

module _ (f : Child) (own : List Part) (ts : List Tie) (pl plc : Placing) (r c : Plan) (is : IsChild f ts) (has : HasChild f own r.outcome c)
    (laid : IsLaid own f.numbers f.env pl r) (laidc : IsLaid (parts_of f.types f.term) f.uses (lodge f).env plc c) where
  abbrev whole : Web
  whole = record { ties = ts; at = dot_at f.first pl }

  abbrev size : ℕ
  size = length r.parts

  -- the own part
  own_there : (y : Part) → slice_get own f.own ≡ Some y → (slice_get r.parts (pl.own f.own) ≡ Some y) × (pl.source (pl.own f.own) ≡ Own f.own)
  own_there y at = laid.parts y (Own f.own) at

  asks_no_part : (ls : List Lead) (k h : ℕ) → part_of_dot f plc (of_own ls k h) ≡ None
  asks_no_part [] k h = refl
  asks_no_part (AtOwn s ∷ ls) k h = by_test (nat_eq h s) (asks_no_part ls (suc k) h)
    where
      by_test : (b : Bool) → part_of_dot f plc (of_own ls (suc k) h) ≡ None → part_of_dot f plc (if b then Some (Within 0 (Of (ResultEnd k))) else of_own ls (suc k) h) ≡ None
      by_test true more = refl
      by_test false more = more
  asks_no_part (AtResult s ∷ ls) k h = asks_no_part ls (suc k) h

  pub own_outside : (y : Part) → slice_get own f.own ≡ Some y → (child_cut f pl plc size).number (pl.own f.own) ≡ None
  own_outside y at =
      ap (λ (b : Bool). if b then part_of_dot f plc (child_back f (source_dot f.first (pl.source (pl.own f.own)) 0)) else None)
      (lt-ltb (pl.own f.own) size (slice_get_within r.parts (pl.own f.own) y (own_there y at).0))
      ∙ (ap (λ (s : Source). part_of_dot f plc (child_back f (source_dot f.first s 0))) (own_there y at).1
      ∙ (ap (λ (b : Bool). part_of_dot f plc
      (if b then asks_child f 0
      else if in_range (f.first + f.off) (length (parts_of f.types f.term)) (f.first + f.own) then Some (Within 0 (Of (PartEnd (f.first + f.own) 0)))
      else spot_dot ((lodge f).home (Within 0 (Of (PartEnd (f.first + f.own) 0)))))) (eq-eqb (f.first + f.own) (f.first + f.own) refl)
      ∙ asks_no_part f.out 0 0))

  -- where its handshakes lead
  pub lead_at : (h : ℕ) (k : Contact) → contact_at c (ResultEnd h) ≡ Some k → (l : Lead) × (slice_get f.out h ≡ Some l)
  lead_at h k e =
      let (d, at) = turned_some (slice_get (contacts_of c.outcome) h) k e in
      let lt = slice_get_within (contacts_of c.outcome) h d at in
      let size : count c.outcome ≡ count (type_of_node f.term) = ap count has.outcome in
      let long = is.long in
      at_lead f.out h (omega (arith, lt, size, long))

  pub led_contact : (h : ℕ) (l : Lead) → slice_get f.out h ≡ Some l → (k : Contact) × (contact_at c (ResultEnd h) ≡ Some k)
  led_contact h l at =
      let lt = slice_get_within f.out h l at in
      let size : count c.outcome ≡ count (type_of_node f.term) = ap count has.outcome in
      let long = is.long in
      let (d, there) = element_at (contacts_of c.outcome) h (omega (arith, lt, size, long)) in
      (turned_contact d, ap turned_if there)

  record Led (h : ℕ) (k : Contact) (l : Lead) : Type 0 where
    outer : child_outer f pl plc (ResultEnd h) ≡ lead_end (pl.own f.own) l
    outside : IsOutside (child_cut f pl plc size) (lead_end (pl.own f.own) l)
    contact : contact_at r (lead_end (pl.own f.own) l) ≡ Some k
    dot : dot_at f.first pl (lead_end (pl.own f.own) l) ≡ Within 0 (dot_of (lead_point (f.first + f.own) l))

  led : (h : ℕ) (k : Contact) (l : Lead) → slice_get f.out h ≡ Some l → contact_at c (ResultEnd h) ≡ Some k → Led h k l
  led h k (AtOwn s) at contact =
      let sees = has.asks h (AtOwn s) k at contact in
      let (y, part) = part_is_there (slice_get own f.own) s k sees in
      let (there, source) = own_there y part in
      record {
        outer = ap (λ (o : Option Lead). led_end (pl.own f.own) o h) at;
        outside = own_outside y part;
        contact = ap (λ (a : Option Part). slice_get (contacts_of_part a) s) (there ∙ sym part) ∙ sees;
        dot = ap (λ (o : Source). source_dot f.first o s) source;
      }
  led h k (AtResult s) at contact =
      record {
        outer = ap (λ (o : Option Lead). led_end (pl.own f.own) o h) at;
        outside = tt;
        contact = has.asks h (AtResult s) k at contact;
        dot = refl;
      }

  led_back : (h : ℕ) (k : Contact) (l : Lead) → slice_get f.out h ≡ Some l → Led h k l
      → child_back f (dot_at f.first pl (lead_end (pl.own f.own) l)) ≡ Some (Within 0 (Of (ResultEnd h)))
  led_back h k l at it = ap (child_back f) it.dot ∙ lead_stands f ts pl is h l at

  -- an import
  pub record ImportOf (q : ℕ) (x : Imported) : Type 0 where
    pub used : Contains f.uses (plc.origin q).number
    pub back : plc.import (plc.origin q).number (plc.origin q).import ≡ q
    pub there : slice_get r.imports (pl.import ((lodge f).root (plc.origin q).number) (plc.origin q).import) ≡ Some x
    pub dot :
        (h : ℕ) → dot_at f.first pl (ImportEnd (pl.import ((lodge f).root (plc.origin q).number) (plc.origin q).import) h)
        ≡ Within (suc ((lodge f).root (plc.origin q).number)) (Of (ImportEnd (plc.origin q).import h))
    pub home :
        (h : ℕ) → child_back f (Within (suc ((lodge f).root (plc.origin q).number)) (Of (ImportEnd (plc.origin q).import h)))
        ≡ Some (Within (suc (plc.origin q).number) (Of (ImportEnd (plc.origin q).import h)))

  pub import_of : (q : ℕ) (x : Imported) → slice_get c.imports q ≡ Some x → ImportOf q x
  import_of q x at =
      let (used, listed, back) = laidc.no_import q x at in
      let n : ℕ = (plc.origin q).number in
      let scope = is.scope (plc.origin q).number used in
      let (root, same) = imports_are_from f.types f.first (is_used f) f.splits f.env f.numbers (plc.origin q).number is.tidy is.split scope.0 in
      let (there, origin) =
      laid.imports ((lodge f).root (plc.origin q).number) (plc.origin q).import x root
      (ap (λ (xs : List Imported). slice_get xs (plc.origin q).import) (sym same) ∙ listed)
      in
      record {
        used = used;
        back = back;
        there = there;
        dot = λ h. ap (λ (o : Origin). Within (suc o.number) (Of (ImportEnd o.import h))) origin;
        home =
            λ h.
            ap spot_dot
            ((numbers_are_at_home f.types f.first (is_used f) f.splits f.env f.numbers (plc.origin q).number is.tidy scope.1 (used_so f ts pl is (plc.origin q).number used)).imports
            (plc.origin q).import h);
      }

  abbrev pub Port : End → Contact → Type 0
  Port e k =
      IsOutside (child_cut f pl plc size) (child_outer f pl plc e)
      × ((child_cut f pl plc size).inner (child_outer f pl plc e) ≡ Some e) × (contact_at r (child_outer f pl plc e) ≡ Some k)

  pub ports_so : (e : End) (k : Contact) → IsPortEnd e → contact_at c e ≡ Some k → Port e k
  ports_so (PartEnd j h) k port at = absurd port
  ports_so (ImportEnd q h) k port at =
      let (x, listed) = import_is_there (slice_get c.imports q) h k at in
      let it = import_of q x listed in (
        tt,
        ap (λ (d : Dot). port_of_dot plc (child_back f d)) (it.dot h)
            ∙ (ap (port_of_dot plc) (it.home h) ∙ ap (λ (m : ℕ). Some (ImportEnd m h)) it.back),
        ap (λ (a : Option Imported). slice_get (contacts_of_import a) h) (it.there ∙ sym listed) ∙ at,
      )
  ports_so (ResultEnd h) k port at =
      let (l, lead) = lead_at h k at in
      let it = led h k l lead at in
      subst (λ (b : End). IsOutside (child_cut f pl plc size) b × ((child_cut f pl plc size).inner b ≡ Some (ResultEnd h)) × (contact_at r b ≡ Some k)) (sym it.outer)
      (it.outside, ap (port_of_dot plc) (led_back h k l lead it), it.contact)

  -- the Shares
  abbrev Seen : ℕ → Type' → ℕ → Type 0
  Seen x t side = IsSeenFrom f.types f.first (is_used f) f.splits f.env x t side

  share_there : (x : ℕ) (t : Type') (side : ℕ) → Seen x t side → (slice_get r.parts (pl.own x) ≡ Some (Share t)) × (pl.source (pl.own x) ≡ Own x)
  share_there x t side it = laid.parts (Share t) (Own x) (has.shares x (Share t) it.share)

  pub share_low : (x : ℕ) (t : Type') (side : ℕ) → Seen x t side → x < length f.splits
  share_low x t side it =
      let lt = slice_get_within (shares f.splits f.types) x (Share t) it.share in let size = shares_length f.types f.splits in omega (arith, lt, size)

  abbrev pub Serves : Serving → Type 0
  Serves n = (n.side < 2) × ((i : ℕ) × ((child_cut f pl plc size).number n.part ≡ Some i) × (slice_get c.parts i ≡ Some (Share n.ty)))

  pub serving_so : (n : Serving) → Contains (child_servings f pl) n → Serves n
  serving_so n listed =
      let (x, at, it) = servings_serve f.types f.first (is_used f) f.splits f.env f.numbers pl n is.tidy listed in
      let (z, home) = it.seen 0 (serves_source (count n.ty) n.side 0 (some_shake n.ty)) in
      let home_in = homes_are_there f.types f.first (is_used f) f.splits f.env f.numbers (Own x) 0 z is.tidy (share_low x n.ty n.side it) home in
      let (y, part) = element_at ((lodge f).env z.number).plan.parts home_in.part home_in.within in
      let used = spot_used f ts pl is (source_dot f.first (Own x) 0) z home in
      let from : IsFrom (parts_of f.types f.term) f.uses (lodge f).env y (Supplied z.number home_in.part) = (used, part) in
      let number = number_so f ts pl plc is own r c has laid laidc (Supplied z.number home_in.part) y from in
      let place : placed pl ((lodge f).part z.number home_in.part) ≡ n.part = ap (placed pl) home_in.from ∙ sym at in
      let same : Some y ≡ Some (Share n.ty) =
      sym (subst (λ (s : Source). IsFrom own f.numbers f.env y s) home_in.from (source_from f ts pl plc is own r c has laid laidc y (Supplied z.number home_in.part) from))
      ∙ has.shares x (Share n.ty) it.share
      in (
        it.side,
        (plc.supplied z.number home_in.part, subst (λ (m : ℕ). (child_cut f pl plc size).number m ≡ Some (plc.supplied z.number home_in.part)) place number, (laidc.parts y (Supplied z.number home_in.part) from).0 ∙ same),
      )

  pub others_so : (e : End) → IsOther (child_servings f pl) e → child_back f (dot_at f.first pl e) ≡ None
  others_so e (n, j, listed, lt, is_end) =
      let (x, at, it) = servings_serve f.types f.first (is_used f) f.splits f.env f.numbers pl n is.tidy listed in
      let source : pl.source n.part ≡ Own x = ap pl.source at ∙ (share_there x n.ty n.side it).1 in
      let h : ℕ = count n.ty + (1 - n.side) * count n.ty + j in
      ap (λ (d : End). child_back f (dot_at f.first pl d)) is_end
      ∙ (ap (λ (s : Source). child_back f (source_dot f.first s (count n.ty + (1 - n.side) * count n.ty + j))) source
      ∙ (plain_source f ts pl plc is (Own x) (count n.ty + (1 - n.side) * count n.ty + j) (share_low x n.ty n.side it)
      ∙ ap spot_dot (it.unseen (count n.ty + (1 - n.side) * count n.ty + j) (other_unserved (count n.ty) n.side j it.side lt))))

  -- ends
  abbrev pub Ends : End → Type 0
  Ends e = IsFolded (child_fold f pl plc size) whole (child_web f plc) e ⊎ IsSpare (child_fold f pl plc size) (child_servings f pl) whole (child_web f plc) c e

  -- a spare handshake meets nothing
  meets_none : (n q h : ℕ) → (StandsIn ((lodge f).env n).plan (PartEnd q h) → ⊥) → (t : Tie) → Contains (child_web f plc).ties t
      → (Within (suc n) (Of (PartEnd q h)) ≡ t.one) ⊎ (Within (suc n) (Of (PartEnd q h)) ≡ t.other) → ⊥
  meets_none n q h alone t listed side =
      elim (Contains-append_cases (within 0 (dot_ties (ties_of f.types (f.first + f.off) f.node f.term (row places.Result 0 (count (type_of_node f.term))))))
      (all_supply_ties f.types (lodge f).env f.uses) t listed) [
        | inl own ↦
            (let (v, there, at) = of_image (put_in 0) (dot_ties (ties_of f.types (f.first + f.off) f.node f.term (row places.Result 0 (count (type_of_node f.term))))) t own in
            elim side [
              | inl e ↦ (let clash : Within (suc n) (Of (PartEnd q h)) ≡ Within 0 v.one = e ∙ ap (λ (x : Tie). x.one) (sym at) in absurd (cc clash))
              | inr e ↦ (let clash : Within (suc n) (Of (PartEnd q h)) ≡ Within 0 v.other = e ∙ ap (λ (x : Tie). x.other) (sym at) in absurd (cc clash))
            ])
        | inr supply ↦
            (let (m, used, there) = of_supplies f.types (lodge f).env f.uses t supply in
            elim (of_supply f.types (lodge f).env m t there) [
              | inl joint ↦ (let (j, known, at) = joint in of_joint m j known (side_of t m j at side))
              | inr result ↦ (let (g, small, at) = result in of_result m g t at side)
            ])
      ]
    where
      side_of : (t : Tie) (m : ℕ) (j : Joint) → tie (Within (suc m) (Of j.asking)) (Within (suc m) (Of j.serving)) ≡ t
          → (Within (suc n) (Of (PartEnd q h)) ≡ t.one) ⊎ (Within (suc n) (Of (PartEnd q h)) ≡ t.other)
          → (Within (suc n) (Of (PartEnd q h)) ≡ Within (suc m) (Of j.asking)) ⊎ (Within (suc n) (Of (PartEnd q h)) ≡ Within (suc m) (Of j.serving))
      side_of t m j at (inl e) = inl (e ∙ ap (λ (x : Tie). x.one) (sym at))
      side_of t m j at (inr e) = inr (e ∙ ap (λ (x : Tie). x.other) (sym at))

      of_joint : (m : ℕ) (j : Joint) → Contains ((lodge f).env m).plan.joints j
          → (Within (suc n) (Of (PartEnd q h)) ≡ Within (suc m) (Of j.asking)) ⊎ (Within (suc n) (Of (PartEnd q h)) ≡ Within (suc m) (Of j.serving)) → ⊥
      of_joint m j known (inl e) =
          let number : n ≡ m = cc e in
          let same : PartEnd q h ≡ j.asking = cc e in
          alone (subst (λ (k : ℕ). StandsIn ((lodge f).env k).plan (PartEnd q h)) (sym number)
          (j, known, subst (λ (x : End). stands_in x j ≡ true) (sym same) (asks_there j.asking j.serving)))
      of_joint m j known (inr e) =
          let number : n ≡ m = cc e in
          let same : PartEnd q h ≡ j.serving = cc e in
          alone (subst (λ (k : ℕ). StandsIn ((lodge f).env k).plan (PartEnd q h)) (sym number)
          (j, known, subst (λ (x : End). stands_in x j ≡ true) (sym same) (serves_there j.asking j.serving)))

      of_result : (m g : ℕ) (t : Tie) → tie (Within 0 (Number m g)) (Within (suc m) (Of (ResultEnd g))) ≡ t
          → (Within (suc n) (Of (PartEnd q h)) ≡ t.one) ⊎ (Within (suc n) (Of (PartEnd q h)) ≡ t.other) → ⊥
      of_result m g t at (inl e) = let clash : Within (suc n) (Of (PartEnd q h)) ≡ Within 0 (Number m g) = e ∙ ap (λ (x : Tie). x.one) (sym at) in cc clash
      of_result m g t at (inr e) = let clash : Within (suc n) (Of (PartEnd q h)) ≡ Within (suc m) (Of (ResultEnd g)) = e ∙ ap (λ (x : Tie). x.other) (sym at) in cc clash

  stuck : (n q h : ℕ) → (StandsIn ((lodge f).env n).plan (PartEnd q h) → ⊥) → (a b : Dot) → a ≡ Within (suc n) (Of (PartEnd q h)) → Way (child_web f plc).ties a b → b ≡ a
  stuck n q h alone a b at (here x) = refl
  stuck n q h alone a b at (along x y z (inl meet) way) = absurd (meets_none n q h alone (tie x y) meet (inl (sym at)))
  stuck n q h alone a b at (along x y z (inr meet) way) = absurd (meets_none n q h alone (tie y x) meet (inr (sym at)))

  -- and no other end lies there
  one_end : (n q h : ℕ) (d : End) (k : Contact) → contact_at c d ≡ Some k → dot_at (f.first + f.off) plc d ≡ Within (suc n) (Of (PartEnd q h)) → d ≡ PartEnd (plc.supplied n q) h
  one_end n q h (PartEnd j g) k at e =
      let (y, listed) = part_is_there (slice_get c.parts j) g k at in
      let same = (laidc.no_more j y listed).1 in by_source (plc.source j) same e
    where
      by_source : (s : Source) → placed plc s ≡ j → source_dot (f.first + f.off) s g ≡ Within (suc n) (Of (PartEnd q h)) → PartEnd j g ≡ PartEnd (plc.supplied n q) h
      by_source (Own x) same e = absurd (cc e)
      by_source (Supplied m x) same e =
          let number : m ≡ n = cc e in
          let part : x ≡ q = cc e in
          let shake : g ≡ h = cc e in
          let place : j ≡ plc.supplied n q = sym same ∙ (λ i. plc.supplied (number i) (part i)) in
          λ i. PartEnd (place i) (shake i)
  one_end n q h (ImportEnd j g) k at e = absurd (cc e)
  one_end n q h (ResultEnd g) k at e = absurd (cc e)

  pub ends_so : (e : End) (k : Contact) → contact_at c e ≡ Some k → Ends e
  ends_so (PartEnd j h) k at =
      let (y, listed) = part_is_there (slice_get c.parts j) h k at in
      let (from, same) = laidc.no_more j y listed in
      by_source (plc.source j) refl y listed from same
    where
      lying : (s : Source) (y : Part) → plc.source j ≡ s → IsFrom (parts_of f.types f.term) f.uses (lodge f).env y s
          → dot_at f.first pl (PartEnd (placed pl (child_source f (plc.source j))) h) ≡ source_dot f.first (child_source f s) h
      lying s y is_s from =
          ap (λ (z : Source). source_dot f.first (pl.source (placed pl (child_source f z))) h) is_s
          ∙ ap (λ (z : Source). source_dot f.first z h) (part_lies f ts pl plc is own r c has laid laidc s y from).1

      by_spare : (n q : ℕ) (y : Part) → plc.source j ≡ Supplied n q → slice_get c.parts j ≡ Some y → Contains f.uses n → slice_get ((lodge f).env n).plan.parts q ≡ Some y
          → placed plc (Supplied n q) ≡ j → (b : Bool) → (lodge f).spare n q h ≡ b → Ends (PartEnd j h)
      by_spare n q y is_s listed used known same false spare =
          inl (
            ap (λ (z : Source). child_dot f (source_dot (f.first + f.off) z h)) is_s ∙ sym (lying (Supplied n q) y is_s (used, known)),
            ap (child_back f) (lying (Supplied n q) y is_s (used, known))
                ∙ (supplied_back f ts pl plc is n q h used (slice_get_within ((lodge f).env n).plan.parts q y known)
                ∙ (ap (λ (b : Bool). spot_dot (spot_if (not b) n (PartEnd q h))) spare ∙ ap (λ (z : Source). Some (source_dot (f.first + f.off) z h)) (sym is_s))),
          )
      by_spare n q y is_s listed used known same true spare =
          let contact : contact_at ((lodge f).env n).plan (PartEnd q h) ≡ Some k =
          ap (λ (a : Option Part). slice_get (contacts_of_part a) h) (known ∙ sym listed) ∙ at
          in
          let scope = is.scope n used in
          let it =
          spares_are_others f.types f.first (is_used f) f.splits f.env f.numbers pl n q h k is.tidy is.agree is.split is.supplies scope.0 scope.1 (used_so f ts pl is n used) contact
          spare
          in
          let place : placed pl (child_source f (plc.source j)) ≡ pl.own it.number =
          ap (λ (z : Source). placed pl (child_source f z)) is_s ∙ ap (placed pl) it.from
          in
          let here_at : dot_at (f.first + f.off) plc (PartEnd j h) ≡ Within (suc n) (Of (PartEnd q h)) = ap (λ (z : Source). source_dot (f.first + f.off) z h) is_s in
          inr (
            ap (child_back f) (lying (Supplied n q) y is_s (used, known))
                ∙ (supplied_back f ts pl plc is n q h used (slice_get_within ((lodge f).env n).plan.parts q y known)
                ∙ ap (λ (b : Bool). spot_dot (spot_if (not b) n (PartEnd q h))) spare),
            inr (record { part = pl.own it.number; ty = it.ty; side = it.side }, it.shake, it.serving, it.small, λ i. PartEnd (place i) (it.at i)),
            λ d k there way.
                one_end n q h d k there (stuck n q h it.alone (dot_at (f.first + f.off) plc (PartEnd j h)) (dot_at (f.first + f.off) plc d) here_at way ∙ here_at)
                ∙ ap (λ (m : ℕ). PartEnd m h) same,
          )

      by_source : (s : Source) → plc.source j ≡ s → (y : Part) → slice_get c.parts j ≡ Some y → IsFrom (parts_of f.types f.term) f.uses (lodge f).env y (plc.source j)
          → placed plc (plc.source j) ≡ j → Ends (PartEnd j h)
      by_source (Own q) is_s y listed from same =
          let own_from : IsFrom (parts_of f.types f.term) f.uses (lodge f).env y (Own q) = subst (IsFrom (parts_of f.types f.term) f.uses (lodge f).env y) is_s from in
          let sum : f.first + f.off + q ≡ f.first + (f.off + q) = omega arith in
          inl (
            ap (λ (z : Source). child_dot f (source_dot (f.first + f.off) z h)) is_s
                ∙ (ap (λ (m : ℕ). Within 0 (Of (PartEnd m h))) sum ∙ sym (lying (Own q) y is_s own_from)),
            ap (child_back f) (lying (Own q) y is_s own_from)
                ∙ (own_source_back f ts pl plc is q h (slice_get_within (parts_of f.types f.term) q y own_from)
                ∙ ap (λ (z : Source). Some (source_dot (f.first + f.off) z h)) (sym is_s)),
          )
      by_source (Supplied n q) is_s y listed from same =
          let (used, known) = subst (IsFrom (parts_of f.types f.term) f.uses (lodge f).env y) is_s from in
          by_spare n q y is_s listed used known (ap (placed plc) (sym is_s) ∙ same) ((lodge f).spare n q h) refl
  ends_so (ImportEnd q h) k at =
      let (x, listed) = import_is_there (slice_get c.imports q) h k at in
      let it = import_of q x listed in
      inl (sym (it.dot h), ap (child_back f) (it.dot h) ∙ it.home h)
  ends_so (ResultEnd h) k at =
      let (l, lead) = lead_at h k at in
      let it = led h k l lead at in
      inl (
        ap (Within 0) (lead_lies f ts pl is h l lead) ∙ (sym it.dot ∙ ap (dot_at f.first pl) (sym it.outer)),
        ap (λ (b : End). child_back f (dot_at f.first pl b)) it.outer ∙ led_back h k l lead it,
      )

  -- what comes in
  abbrev pub Comes : End → Contact → Type 0
  Comes e k = (d : End) × IsPortEnd d × (child_outer f pl plc d ≡ e) × (contact_at c d ≡ Some k)

  -- a part at home would be inside
  inside_spot : (i h : ℕ) (s : Source) (z : Spot) → (child_cut f pl plc size).number i ≡ None → placed pl s ≡ i
      → IsThere (length f.splits) f.numbers f.env s → (lodge f).home (source_dot f.first s h) ≡ Some z → ⊥
  inside_spot i h s z outside at_i there home =
      let it = homes_are_there f.types f.first (is_used f) f.splits f.env f.numbers s h z is.tidy there home in
      let (y, listed) = element_at ((lodge f).env z.number).plan.parts it.part it.within in
      let used = spot_used f ts pl is (source_dot f.first s h) z home in
      let number = number_so f ts pl plc is own r c has laid laidc (Supplied z.number it.part) y (used, listed) in
      let place : placed pl ((lodge f).part z.number it.part) ≡ i = ap (placed pl) it.from ∙ at_i in
      none-some (plc.supplied z.number it.part)
      (sym outside ∙ subst (λ (m : ℕ). (child_cut f pl plc size).number m ≡ Some (plc.supplied z.number it.part)) place number)

  -- a handshake to which one of its own leads
  lead_comes : (l : Lead) (e : End) (k : Contact) (y : Dot) → lead_back f.out 0 l ≡ Some y → lead_end (pl.own f.own) l ≡ e → contact_at r e ≡ Some k → Comes e k
  lead_comes l e k y back at_e at =
      let (h, lead, same) = told_lead f.out 0 l y back in
      let (d, contact) = led_contact h l lead in
      let it = led h d l lead contact in
      let both : Some d ≡ Some k = sym it.contact ∙ (ap (contact_at r) at_e ∙ at) in
      (ResultEnd h, tt, it.outer ∙ at_e, contact ∙ both)

  spot_some : (a : Option Spot) (y : Dot) → spot_dot a ≡ Some y → (z : Spot) × (a ≡ Some z)
  spot_some None y e = absurd (none-some y e)
  spot_some (Some z) y e = (z, refl)

  outside_of : (i : ℕ) (y : Part) → slice_get r.parts i ≡ Some y → (child_cut f pl plc size).number i ≡ None
      → part_of_dot f plc (child_back f (source_dot f.first (pl.source i) 0)) ≡ None
  outside_of i y listed outside =
      sym (ap (λ (b : Bool). if b then part_of_dot f plc (child_back f (source_dot f.first (pl.source i) 0)) else None) (lt-ltb i size (slice_get_within r.parts i y listed)))
      ∙ outside

  own_comes : (i h q : ℕ) (k : Contact) (y : Dot) → (child_cut f pl plc size).number i ≡ None → placed pl (Own q) ≡ i → contact_at r (PartEnd i h) ≡ Some k
      → part_of_dot f plc (child_back f (source_dot f.first (Own q) 0)) ≡ None → child_back f (source_dot f.first (Own q) h) ≡ Some y → Comes (PartEnd i h) k
  own_comes i h q k y outside at_i at none e = by_asking (nat_eq (f.first + q) (f.first + f.own)) refl none e
    where
      by_home : (b : Bool) → in_range (f.first + f.off) (length (parts_of f.types f.term)) (f.first + q) ≡ b
          → part_of_dot f plc (if b then Some (Within 0 (Of (PartEnd (f.first + q) 0))) else spot_dot ((lodge f).home (Within 0 (Of (PartEnd (f.first + q) 0))))) ≡ None
          → (if b then Some (Within 0 (Of (PartEnd (f.first + q) h))) else spot_dot ((lodge f).home (Within 0 (Of (PartEnd (f.first + q) h))))) ≡ Some y → Comes (PartEnd i h) k
      by_home true t none e = absurd (none-some (plc.own (f.first + q - (f.first + f.off))) (sym none))
      by_home false t none e = by_size (cases_lt q (length f.splits))
        where
          by_size : (q < length f.splits) ⊎ (length f.splits ≤ q) → Comes (PartEnd i h) k
          by_size (inl lt) =
              let (z, home) = spot_some ((lodge f).home (source_dot f.first (Own q) h)) y e in
              absurd (inside_spot i h (Own q) z outside at_i lt home)
          by_size (inr le) =
              absurd (none-some y (sym (ap spot_dot (far_is_nothing f.types f.first (is_used f) f.splits f.env q h le)) ∙ e))

      by_asking : (b : Bool) → nat_eq (f.first + q) (f.first + f.own) ≡ b
          → part_of_dot f plc
          (if b then asks_child f 0
          else if in_range (f.first + f.off) (length (parts_of f.types f.term)) (f.first + q) then Some (Within 0 (Of (PartEnd (f.first + q) 0)))
          else spot_dot ((lodge f).home (Within 0 (Of (PartEnd (f.first + q) 0))))) ≡ None
          → (if b then asks_child f h
          else if in_range (f.first + f.off) (length (parts_of f.types f.term)) (f.first + q) then Some (Within 0 (Of (PartEnd (f.first + q) h)))
          else spot_dot ((lodge f).home (Within 0 (Of (PartEnd (f.first + q) h))))) ≡ Some y → Comes (PartEnd i h) k
      by_asking true t none e =
          let sum : f.first + q ≡ f.first + f.own = eqb-true (f.first + q) (f.first + f.own) t in
          let same : q ≡ f.own = omega (arith, sum) in
          lead_comes (AtOwn h) (PartEnd i h) k y e (ap (λ (m : ℕ). PartEnd m h) (ap pl.own (sym same) ∙ at_i)) at
      by_asking false t none e = by_home (in_range (f.first + f.off) (length (parts_of f.types f.term)) (f.first + q)) refl none e

  part_comes : (s : Source) (x : Part) (i h : ℕ) (k : Contact) (y : Dot) → (child_cut f pl plc size).number i ≡ None → IsFrom own f.numbers f.env x s → placed pl s ≡ i
      → contact_at r (PartEnd i h) ≡ Some k → part_of_dot f plc (child_back f (source_dot f.first s 0)) ≡ None → child_back f (source_dot f.first s h) ≡ Some y → Comes (PartEnd i h) k
  part_comes (Own q) x i h k y outside from at_i at none e = own_comes i h q k y outside at_i at none e
  part_comes (Supplied n q) x i h k y outside (there, known) at_i at none e =
      let (z, home) = spot_some ((lodge f).home (source_dot f.first (Supplied n q) h)) y e in
      absurd (inside_spot i h (Supplied n q) z outside at_i (there, slice_get_within (f.env n).plan.parts q x known) home)

  pub comes_so : (e : End) (k : Contact) (y : Dot) → IsOutside (child_cut f pl plc size) e → contact_at r e ≡ Some k → child_back f (dot_at f.first pl e) ≡ Some y → Comes e k
  comes_so (PartEnd i h) k y outside at e =
      let (x, listed) = part_is_there (slice_get r.parts i) h k at in
      let (from, same) = laid.no_more i x listed in
      part_comes (pl.source i) x i h k y outside from same at (outside_of i x listed outside) e
  comes_so (ImportEnd i h) k y outside at e =
      let (x, listed) = import_is_there (slice_get r.imports i) h k at in
      let (there, known, back) = laid.no_import i x listed in
      let (z, home) = spot_some ((lodge f).home (Within (suc (pl.origin i).number) (Of (ImportEnd (pl.origin i).import h)))) y e in
      let it = imports_are_there f.types f.first (is_used f) f.splits f.env f.numbers (pl.origin i).number (pl.origin i).import h z is.tidy there home in
      let used = spot_used f ts pl is (Within (suc (pl.origin i).number) (Of (ImportEnd (pl.origin i).import h))) z home in
      let scope = is.scope z.number used in
      let (root, imports) = imports_are_from f.types f.first (is_used f) f.splits f.env f.numbers z.number is.tidy is.split scope.0 in
      let own_import : slice_get ((lodge f).env z.number).plan.imports (pl.origin i).import ≡ Some x =
      ap (λ (xs : List Imported). slice_get xs (pl.origin i).import) imports
      ∙ (ap (λ (m : ℕ). slice_get (f.env m).plan.imports (pl.origin i).import) it.root ∙ known)
      in
      let (mine, origin) = laidc.imports z.number (pl.origin i).import x used own_import in
      let outer : child_outer f pl plc (ImportEnd (plc.import z.number (pl.origin i).import) h) ≡ ImportEnd i h =
      ap (λ (o : Origin). ImportEnd (pl.import ((lodge f).root o.number) o.import) h) origin
      ∙ (ap (λ (m : ℕ). ImportEnd (pl.import m (pl.origin i).import) h) it.root ∙ ap (λ (m : ℕ). ImportEnd m h) back)
      in
      (ImportEnd (plc.import z.number (pl.origin i).import) h, tt, outer, ap (λ (a : Option Imported). slice_get (contacts_of_import a) h) (mine ∙ sym listed) ∙ at)
  comes_so (ResultEnd h) k y outside at e = lead_comes (AtResult h) (ResultEnd h) k y e refl at

pub child_is_folded : ChildIsFolded
child_is_folded f own ts pl plc r c is has laid laidc web =
    let part = child_is_part f own ts pl plc r c is has laid laidc in
    record {
      whole = web;
      parts = part.parts;
      numbers = part.numbers;
      ports = ports_so f own ts pl plc r c is has laid laidc;
      serving = serving_so f own ts pl plc r c is has laid laidc;
      others = others_so f own ts pl plc r c is has laid laidc;
      ends = ends_so f own ts pl plc r c is has laid laidc;
      ways = λ t listed. child_ways f ts plc t is listed;
      stays = λ t listed. child_stays f ts plc t is listed;
      comes = comes_so f own ts pl plc r c is has laid laidc;
    }
