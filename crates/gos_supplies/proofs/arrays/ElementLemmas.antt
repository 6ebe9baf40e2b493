-- What each element of an access' plan is: one of its own plan, or one of the plan of its index.
use Rattle.std.specs.Prelude.{◌≡◌, ◌⊎◌, ℕ, zero, suc, List, [], ◌∷◌, Option, Some, None, All, slice_get}
use Rattle.std.proofs.Common.{refl, sym, ◌∙◌, ap, subst, inl, inr}
use Rattle.std.proofs.lemmas.Option.{none-some}
use Rattle.gos_types.specs.Types.{Type', Exp, Var, Fun}
use Rattle.gos_model.specs.Terms.{Name}
use Rattle.gos_model.specs.Typing.{Imported}
use Rattle.gos_plan.specs.Kinds.{Contact, contacts_of}
use Rattle.gos_plan.specs.Firing.{Slot}
use Rattle.gos_plan.specs.Plans.{End, PartEnd, ImportEnd, ResultEnd, Joint, Plan, contact_at, contacts_of_import, turned_if, IsRight}
use Rattle.gos_plan.specs.Tokens.{Tokens, Element, Fire, Out, In, IsPortEnd, Passes, way_taken, Does, Runs}
use Rattle.gos_plan.specs.TokenBits.{LiteralFits, AllFit}
use Rattle.gos_plan.proofs.ElementLemmas.{firing_part}
use Rattle.gos_plan.proofs.JointLemmas.{fits, contained, which_end}
use Rattle.gos_joining.specs.webs.Webs.{joint}
use Rattle.gos_joining.specs.webs.Cutting.{Cut, lies_at, StandsIn, cut_tokens}
use Rattle.gos_joining.proofs.webs.CutLemmas.{stands_by}
use Rattle.gos_supplies.specs.names.Names.{imported}
use Rattle.gos_supplies.specs.arrays.Made.{IsJointOf, IsAccess}
use Rattle.gos_supplies.proofs.arrays.SideLemmas.{HasNames, token_stands, fires_within, fires_outside, goes_out, comes_in}

-- whose an element is
pub data Whose : Type 0 where
  Own Index : (y : Element) → Whose
  Neither : Whose

abbrev pub of_numbers : Option ℕ → Option ℕ → Slot → Whose
of_numbers (Some j) o t = Own (Fire j t)
of_numbers None (Some j) t = Index (Fire j t)
of_numbers None None t = Neither

abbrev pub whose_out : End → ℕ → Whose
whose_out (PartEnd j h) v = Neither
whose_out (ImportEnd zero zero) v = Index (Out (ResultEnd 0) v)
whose_out (ImportEnd zero (suc h)) v = Own (Out (ImportEnd 0 h) v)
whose_out (ImportEnd (suc j) h) v = Index (Out (ImportEnd j h) v)
whose_out (ResultEnd h) v = Own (Out (ResultEnd h) v)

abbrev pub whose_in : End → ℕ → Whose
whose_in (PartEnd j h) v = Neither
whose_in (ImportEnd zero zero) v = Index (In (ResultEnd 0) v)
whose_in (ImportEnd zero (suc h)) v = Own (In (ImportEnd 0 h) v)
whose_in (ImportEnd (suc j) h) v = Index (In (ImportEnd j h) v)
whose_in (ResultEnd h) v = Own (In (ResultEnd h) v)

abbrev pub whose : Cut → Cut → Element → Whose
whose f g (Fire k t) = of_numbers (f.number k) (g.number k) t
whose f g (Out e v) = whose_out e v
whose f g (In e v) = whose_in e v

-- as a list of either
abbrev pub own_part : Whose → List Element
own_part (Own y) = y ∷ []
own_part (Index y) = []
own_part Neither = []

abbrev pub index_part : Whose → List Element
index_part (Own y) = []
index_part (Index y) = y ∷ []
index_part Neither = []

-- the names of ports
abbrev pub own_name : End → Option End
own_name (PartEnd j h) = None
own_name (ImportEnd zero zero) = None
own_name (ImportEnd zero (suc h)) = Some (ImportEnd 0 h)
own_name (ImportEnd (suc j) h) = None
own_name (ResultEnd h) = Some (ResultEnd h)

abbrev pub index_name : End → Option End
index_name (PartEnd j h) = None
index_name (ImportEnd zero zero) = Some (ResultEnd 0)
index_name (ImportEnd zero (suc h)) = None
index_name (ImportEnd (suc j) h) = Some (ImportEnd j h)
index_name (ResultEnd h) = None

-- an end in a joint has a handshake
pub stands_there : (c : Plan) (e : End) → IsRight c → StandsIn c e → (k : Contact) × (contact_at c e ≡ Some k)
stands_there c e right (j, has, stands) =
    let (q, v, asking, serving) = fits c [] c.joints j right (contained c.joints j has) in by_end (which_end e j stands) asking serving
  where
    by_end : (e ≡ j.asking) ⊎ (e ≡ j.serving) → {a b : Contact} → contact_at c j.asking ≡ Some a → contact_at c j.serving ≡ Some b → (k : Contact) × (contact_at c e ≡ Some k)
    by_end (inl at) {a} {b} asking serving = (a, ap (contact_at c) at ∙ asking)
    by_end (inr at) {a} {b} asking serving = (b, ap (contact_at c) at ∙ serving)

module _ (i w : ℕ) (x : Name) (f g : Cut) (r p q : Plan) (is : IsAccess i w x f g r p q) where
  -- the ends of imports and results that there are
  one_variable : (j h : ℕ) → StandsIn p (ImportEnd (suc j) h) → ⊥
  one_variable j h stands =
      let (k, there) = stands_there p (ImportEnd (suc j) h) is.own.right stands in
      none-some k (sym (ap (λ (us : List Imported). slice_get (contacts_of_import (slice_get us (suc j))) h) is.variable) ∙ there)

  one_number : (h : ℕ) → StandsIn q (ResultEnd (suc h)) → ⊥
  one_number h stands =
      let (k, there) = stands_there q (ResultEnd (suc h)) is.index.right stands in
      none-some k (sym (ap (λ (t : Type'). turned_if (slice_get (contacts_of t) (suc h))) is.number) ∙ there)

  import_no_part : (j h k l : ℕ) → ImportEnd j h ≡ PartEnd k l → ⊥
  import_no_part j h k l e = cc e

  result_no_part : (h k l : ℕ) → ResultEnd h ≡ PartEnd k l → ⊥
  result_no_part h k l e = cc e

  result_no_import : (h k l : ℕ) → ResultEnd h ≡ ImportEnd k l → ⊥
  result_no_import h k l e = cc e

  import_number : (j h k l : ℕ) → ImportEnd j h ≡ ImportEnd k l → (j ≡ k) × (h ≡ l)
  import_number j h k l e = (cc e, cc e)

  -- where an end of a side stands, by its name
  own_at : (d : End) → IsPortEnd d → StandsIn p d → own_name (f.outer d) ≡ Some d
  own_at (PartEnd j h) port stands = absurd port
  own_at (ImportEnd zero h) port stands = ap own_name (is.accesses 0 h)
  own_at (ImportEnd (suc j) h) port stands = absurd (one_variable j h stands)
  own_at (ResultEnd h) port stands = ap own_name (is.result h)

  index_at : (d : End) → IsPortEnd d → StandsIn q d → index_name (g.outer d) ≡ Some d
  index_at (PartEnd j h) port stands = absurd port
  index_at (ImportEnd j h) port stands = ap index_name (is.others j h)
  index_at (ResultEnd zero) port stands = ap index_name (is.asked 0)
  index_at (ResultEnd (suc h)) port stands = absurd (one_number h stands)

  pub own_outer : (b d : End) → own_name b ≡ Some d → (f.outer d ≡ b) × IsPortEnd d
  own_outer (PartEnd j h) d e = absurd (none-some d e)
  own_outer (ImportEnd zero zero) d e = absurd (none-some d e)
  own_outer (ImportEnd zero (suc h)) d e =
      let at : ImportEnd 0 h ≡ d = cc e in subst (λ (z : End). (f.outer z ≡ ImportEnd 0 (suc h)) × IsPortEnd z) at (is.accesses 0 h, tt)
  own_outer (ImportEnd (suc j) h) d e = absurd (none-some d e)
  own_outer (ResultEnd h) d e =
      let at : ResultEnd h ≡ d = cc e in subst (λ (z : End). (f.outer z ≡ ResultEnd h) × IsPortEnd z) at (is.result h, tt)

  pub index_outer : (b d : End) → index_name b ≡ Some d → (g.outer d ≡ b) × IsPortEnd d
  index_outer (PartEnd j h) d e = absurd (none-some d e)
  index_outer (ImportEnd zero zero) d e =
      let at : ResultEnd 0 ≡ d = cc e in subst (λ (z : End). (g.outer z ≡ ImportEnd 0 0) × IsPortEnd z) at (is.asked 0, tt)
  index_outer (ImportEnd zero (suc h)) d e = absurd (none-some d e)
  index_outer (ImportEnd (suc j) h) d e =
      let at : ImportEnd j h ≡ d = cc e in subst (λ (z : End). (g.outer z ≡ ImportEnd (suc j) h) × IsPortEnd z) at (is.others j h, tt)
  index_outer (ResultEnd h) d e = absurd (none-some d e)

  -- the same handshakes
  import_contacts : (j h : ℕ) → contact_at r (ImportEnd j h) ≡ slice_get (contacts_of_import (slice_get (imported x (Fun (Exp i) (Var w)) ∷ q.imports) j)) h
  import_contacts j h = ap (λ (us : List Imported). slice_get (contacts_of_import (slice_get us j)) h) is.imports

  pub own_contact : (b d : End) → own_name b ≡ Some d → contact_at p d ≡ contact_at r b
  own_contact (PartEnd j h) d e = absurd (none-some d e)
  own_contact (ImportEnd zero zero) d e = absurd (none-some d e)
  own_contact (ImportEnd zero (suc h)) d e =
      let at : ImportEnd 0 h ≡ d = cc e in
      subst (λ (z : End). contact_at p z ≡ contact_at r (ImportEnd 0 (suc h))) at
      (ap (λ (us : List Imported). slice_get (contacts_of_import (slice_get us 0)) h) is.variable ∙ sym (import_contacts 0 (suc h)))
  own_contact (ImportEnd (suc j) h) d e = absurd (none-some d e)
  own_contact (ResultEnd h) d e =
      let at : ResultEnd h ≡ d = cc e in
      subst (λ (z : End). contact_at p z ≡ contact_at r (ResultEnd h)) at (ap (λ (t : Type'). turned_if (slice_get (contacts_of t) h)) (sym is.outcome))

  pub index_contact : (b d : End) → index_name b ≡ Some d → contact_at q d ≡ contact_at r b
  index_contact (PartEnd j h) d e = absurd (none-some d e)
  index_contact (ImportEnd zero zero) d e =
      let at : ResultEnd 0 ≡ d = cc e in
      subst (λ (z : End). contact_at q z ≡ contact_at r (ImportEnd 0 0)) at
      (ap (λ (t : Type'). turned_if (slice_get (contacts_of t) 0)) is.number ∙ sym (import_contacts 0 0))
  index_contact (ImportEnd zero (suc h)) d e = absurd (none-some d e)
  index_contact (ImportEnd (suc j) h) d e =
      let at : ImportEnd j h ≡ d = cc e in subst (λ (z : End). contact_at q z ≡ contact_at r (ImportEnd (suc j) h)) at (sym (import_contacts (suc j) h))
  index_contact (ResultEnd h) d e = absurd (none-some d e)

  own_ports : (d : End) → IsPortEnd d → IsPortEnd (f.outer d)
  own_ports (PartEnd j h) port = absurd port
  own_ports (ImportEnd j h) port = subst IsPortEnd (sym (is.accesses j h)) tt
  own_ports (ResultEnd h) port = subst IsPortEnd (sym (is.result h)) tt

  index_ports : (d : End) → IsPortEnd d → IsPortEnd (g.outer d)
  index_ports (PartEnd j h) port = absurd port
  index_ports (ImportEnd j h) port = subst IsPortEnd (sym (is.others j h)) tt
  index_ports (ResultEnd h) port = subst IsPortEnd (sym (is.asked h)) tt

  pub own_named : (b d : End) → f.inner b ≡ Some d → own_name b ≡ Some d
  own_named b d e = let (port, stands, at) = is.own.inners b d e in ap own_name (sym at) ∙ own_at d port stands

  pub index_named : (b d : End) → g.inner b ≡ Some d → index_name b ≡ Some d
  index_named b d e = let (port, stands, at) = is.index.inners b d e in ap index_name (sym at) ∙ index_at d port stands

  pub own_side : HasNames f r p own_name
  own_side = record { cut = is.own; named = own_named; outer = own_outer; contact = own_contact; ports = own_ports }

  pub index_side : HasNames g r q index_name
  index_side = record { cut = is.index; named = index_named; outer = index_outer; contact = index_contact; ports = index_ports }

  -- a port of the whole with a token is one of a side
  abbrev pub OfSide : End → Type 0
  OfSide e = ((d : End) × (f.inner e ≡ Some d)) ⊎ ((d : End) × (g.inner e ≡ Some d))

  own_end : (d e : End) → IsPortEnd e → StandsIn p d → lies_at f d ≡ e → (d : End) × (f.inner e ≡ Some d)
  own_end (PartEnd j h) e port stands at = absurd (subst IsPortEnd (sym at) port)
  own_end (ImportEnd j h) e port stands at = (ImportEnd j h, ap f.inner (sym at) ∙ (is.own.ports (ImportEnd j h) tt stands).1)
  own_end (ResultEnd h) e port stands at = (ResultEnd h, ap f.inner (sym at) ∙ (is.own.ports (ResultEnd h) tt stands).1)

  index_end : (d e : End) → IsPortEnd e → StandsIn q d → lies_at g d ≡ e → (d : End) × (g.inner e ≡ Some d)
  index_end (PartEnd j h) e port stands at = absurd (subst IsPortEnd (sym at) port)
  index_end (ImportEnd j h) e port stands at = (ImportEnd j h, ap g.inner (sym at) ∙ (is.index.ports (ImportEnd j h) tt stands).1)
  index_end (ResultEnd h) e port stands at = (ResultEnd h, ap g.inner (sym at) ∙ (is.index.ports (ResultEnd h) tt stands).1)

  pub side_of : (e : End) → IsPortEnd e → StandsIn r e → OfSide e
  side_of e port (j, has, stands) = by_side (which_end e j stands) (is.joints j.asking j.serving has)
    where
      by_side : {j : Joint} → (e ≡ j.asking) ⊎ (e ≡ j.serving) → IsJointOf f p j.asking j.serving ⊎ IsJointOf g q j.asking j.serving → OfSide e
      by_side (inl at) (inl (a, b, has, first, last)) =
          inl (own_end a e port (joint a b, has, stands_by a (joint a b) (inl refl)) (first ∙ sym at))
      by_side (inr at) (inl (a, b, has, first, last)) =
          inl (own_end b e port (joint a b, has, stands_by b (joint a b) (inr refl)) (last ∙ sym at))
      by_side (inl at) (inr (a, b, has, first, last)) =
          inr (index_end a e port (joint a b, has, stands_by a (joint a b) (inl refl)) (first ∙ sym at))
      by_side (inr at) (inr (a, b, has, first, last)) =
          inr (index_end b e port (joint a b, has, stands_by b (joint a b) (inr refl)) (last ∙ sym at))

  pub apart : (b d e : End) → own_name b ≡ Some d → index_name b ≡ Some e → ⊥
  apart (PartEnd j h) d e own index = none-some d own
  apart (ImportEnd zero zero) d e own index = none-some d own
  apart (ImportEnd zero (suc h)) d e own index = none-some e index
  apart (ImportEnd (suc j) h) d e own index = none-some d own
  apart (ResultEnd h) d e own index = none-some e index

  -- so there the cuts have all the names
  abbrev Named : End → Type 0
  Named e = (f.inner e ≡ own_name e) × (g.inner e ≡ index_name e)

  both_named : (e : End) → OfSide e → Named e
  both_named e (inl (d, at)) = (at ∙ sym (own_named e d at), no_index (g.inner e) (index_name e) refl refl)
    where
      no_index : (o n : Option End) → g.inner e ≡ o → index_name e ≡ n → g.inner e ≡ index_name e
      no_index (Some z) n inner name = absurd (apart e d z (own_named e d at) (index_named e z inner))
      no_index None (Some z) inner name = absurd (apart e d z (own_named e d at) name)
      no_index None None inner name = inner ∙ sym name
  both_named e (inr (d, at)) = (no_own (f.inner e) (own_name e) refl refl, at ∙ sym (index_named e d at))
    where
      no_own : (o n : Option End) → f.inner e ≡ o → own_name e ≡ n → f.inner e ≡ own_name e
      no_own (Some z) n inner name = absurd (apart e z d (own_named e z inner) (index_named e d at))
      no_own None (Some z) inner name = absurd (apart e z d name (index_named e d at))
      no_own None None inner name = inner ∙ sym name

  -- what both do where the whole makes an element
  pub record Splits (y : Element) (s t : Tokens) : Type 0 where
    pub own : Runs p (own_part (whose f g y)) (cut_tokens f p s) (cut_tokens f p t)
    pub index : Runs q (index_part (whose f g y)) (cut_tokens g q s) (cut_tokens g q t)

  module _ (literals : All LiteralFits r.parts) (s t : Tokens) (fit : AllFit r s) where
    split_fire : (k : ℕ) (slot : Slot) → Does r (Fire k slot) s t → Splits (Fire k slot) s t
    split_fire k slot does =
        let (z, there) = firing_part (slice_get r.parts k) (s.state k) slot does.1 does.3 in by_part (is.parts k z there)
      where
        by_part : ((j : ℕ) × (f.number k ≡ Some j) × (g.number k ≡ None)) ⊎ ((j : ℕ) × (g.number k ≡ Some j) × (f.number k ≡ None)) → Splits (Fire k slot) s t
        by_part (inl (j, own, none)) =
            let which : Own (Fire j slot) ≡ whose f g (Fire k slot) = sym (ap (λ (o : Option ℕ). of_numbers o (g.number k) slot) own) in
            record {
              own = subst (λ (z : Whose). Runs p (own_part z) (cut_tokens f p s) (cut_tokens f p t)) which (fires_within f r p own_name own_side literals s t fit k j slot own does);
              index = subst (λ (z : Whose). Runs q (index_part z) (cut_tokens g q s) (cut_tokens g q t)) which (fires_outside g r q index_name index_side literals s t fit k slot none does);
            }
        by_part (inr (j, index, none)) =
            let which : Index (Fire j slot) ≡ whose f g (Fire k slot) = sym (λ l. of_numbers (none l) (index l) slot) in
            record {
              own = subst (λ (z : Whose). Runs p (own_part z) (cut_tokens f p s) (cut_tokens f p t)) which (fires_outside f r p own_name own_side literals s t fit k slot none does);
              index = subst (λ (z : Whose). Runs q (index_part z) (cut_tokens g q s) (cut_tokens g q t)) which (fires_within g r q index_name index_side literals s t fit k j slot index does);
            }

    split_out : (e : End) (v : ℕ) → Named e → Does r (Out e v) s t → Splits (Out e v) s t
    split_out (PartEnd j h) v named does = absurd does.0
    split_out (ImportEnd zero zero) v named does =
        record { own = goes_out f r p own_name own_side literals s t fit (ImportEnd 0 0) v named.0 does; index = goes_out g r q index_name index_side literals s t fit (ImportEnd 0 0) v named.1 does }
    split_out (ImportEnd zero (suc h)) v named does =
        record { own = goes_out f r p own_name own_side literals s t fit (ImportEnd 0 (suc h)) v named.0 does; index = goes_out g r q index_name index_side literals s t fit (ImportEnd 0 (suc h)) v named.1 does }
    split_out (ImportEnd (suc j) h) v named does =
        record { own = goes_out f r p own_name own_side literals s t fit (ImportEnd (suc j) h) v named.0 does; index = goes_out g r q index_name index_side literals s t fit (ImportEnd (suc j) h) v named.1 does }
    split_out (ResultEnd h) v named does =
        record { own = goes_out f r p own_name own_side literals s t fit (ResultEnd h) v named.0 does; index = goes_out g r q index_name index_side literals s t fit (ResultEnd h) v named.1 does }

    split_in : (e : End) (v : ℕ) → Does r (In e v) s t → Splits (In e v) s t
    split_in (PartEnd j h) v does = absurd does.0
    split_in (ImportEnd zero zero) v does =
        record { own = comes_in f r p own_name own_side literals s t fit (ImportEnd 0 0) v does; index = comes_in g r q index_name index_side literals s t fit (ImportEnd 0 0) v does }
    split_in (ImportEnd zero (suc h)) v does =
        record { own = comes_in f r p own_name own_side literals s t fit (ImportEnd 0 (suc h)) v does; index = comes_in g r q index_name index_side literals s t fit (ImportEnd 0 (suc h)) v does }
    split_in (ImportEnd (suc j) h) v does =
        record { own = comes_in f r p own_name own_side literals s t fit (ImportEnd (suc j) h) v does; index = comes_in g r q index_name index_side literals s t fit (ImportEnd (suc j) h) v does }
    split_in (ResultEnd h) v does =
        record { own = comes_in f r p own_name own_side literals s t fit (ResultEnd h) v does; index = comes_in g r q index_name index_side literals s t fit (ResultEnd h) v does }

    pub splits : (y : Element) → Does r y s t → Splits y s t
    splits (Fire k slot) does = split_fire k slot does
    splits (Out e v) does = by_contact (contact_at r e) refl
      where
        by_contact : (o : Option Contact) → contact_at r e ≡ o → Splits (Out e v) s t
        by_contact None there = absurd (subst (λ (o : Option Contact). Passes r (Out e v) o s t) there does.1)
        by_contact (Some k) there =
            let held = (subst (λ (o : Option Contact). Passes r (Out e v) o s t) there does.1).0 in
            split_out e v (both_named e (side_of e does.0 (token_stands r e (way_taken k.role) v s held))) does
    splits (In e v) does = split_in e v does
