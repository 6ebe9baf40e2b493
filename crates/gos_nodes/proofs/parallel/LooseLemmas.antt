-- An input at an end that stands in no joint, of an import of which a region has another end: it is that region's, and nothing comes in.
use Rattle.std.specs.Prelude.{◌≡◌, ◌<◌, ◌^◌, ℕ, true, false, All, Option, Some, None, slice_get, List}
use Rattle.std.proofs.Common.{sym, ap, subst, inl, inr, ◌∙◌}
use Rattle.std.proofs.lemmas.Option.{same_Some}
use Rattle.gos_types.specs.declared.shakes.Role.TheVariants.{Ask}
use Rattle.gos_types.specs.Events.{Direction}
use Rattle.gos_model.specs.Typing.{Imported}
use Rattle.gos_plan.specs.Kinds.{Contact}
use Rattle.gos_plan.specs.Plans.{End, PartEnd, ImportEnd, ResultEnd, Plan, contact_at, contacts_of_import, same_end}
use Rattle.gos_plan.specs.Tokens.{Tokens, In, places_of, bits_of, way_put, with_held, with_token, Passes, Does}
use Rattle.gos_plan.specs.Orderly.{Open, named_by, handshake_at, with_open, after_put, ComesWell, ComesInOrder}
use Rattle.gos_plan.specs.TokenBits.{LiteralFits}
use Rattle.gos_plan.proofs.HeldLemmas as held
use Rattle.gos_plan.proofs.JointLemmas.{apart_is_not_same}
use Rattle.gos_joining.specs.webs.Cutting.{Cut, lies_at, cut_tokens}
use Rattle.gos_joining.proofs.webs.CutLemmas.{Owns}
use Rattle.gos_realises.specs.realises.Regular.{Pass}
use Rattle.gos_realises.proofs.realises.RingLemmas.{after}
use Rattle.gos_nodes.proofs.parallel.EndLemmas.{Lies, in_part, at_import, at_driver, lies}
use Rattle.gos_nodes.proofs.parallel.GateLemmas.{Same}
use Rattle.gos_nodes.proofs.parallel.HungLemmas.{Held, Unseen, Sees}
use Rattle.gos_nodes.proofs.windows.PortLemmas.{stands_place}
use Rattle.gos_nodes.proofs.windows.MeetLemmas.{IsUnjoined}
use Rattle.gos_nodes.specs.parallel.Parallel.{IsSide, IsParallel}
use Rattle.gos_nodes.proofs.parallel.LinkedLemmas.{left_runs, right_runs}
use Rattle.gos_nodes.proofs.parallel.OpenLemmas.{OpenAgree, opened_so}
use Rattle.gos_nodes.proofs.parallel.OrderLemmas.{Opened}

-- in the whole
module _ (r : Plan) (k n : ℕ) (c : Contact) (there : contact_at r (ImportEnd k n) ≡ Some c) (asks : c.role ≡ Ask) (none : places_of r (ImportEnd k n) ≡ None) where
  pub loose_named : handshake_at r (ImportEnd k n) ≡ ImportEnd k n
  loose_named = ap (λ (x : Option End). named_by x (ImportEnd k n)) none

  pub loose_comes : (v : ℕ) (s : Tokens) (o : Open) → o (ImportEnd k n) ≡ false → ComesInOrder r (In (ImportEnd k n) v) s o (with_open (ImportEnd k n) true o)
  loose_comes v s o shut z at_z =
      let role : Ask ≡ z.role = sym asks ∙ ap (λ (x : Contact). x.role) (same_Some c z (sym there ∙ at_z)) in
      subst (λ (way : Direction). ComesWell r (ImportEnd k n) way o s × (with_open (ImportEnd k n) true o ≡ after_put r (ImportEnd k n) way o)) (ap way_put role)
      (ap o loose_named ∙ shut, ap (λ (e : End). with_open e true o) (sym loose_named))

-- in the region
module _ (r : Plan) (f : Cut) (p : Plan) (i n : ℕ) (none : IsUnjoined r f p i n) where
  pub loose_contact : contact_at r (ImportEnd none.import n) ≡ Some none.contact
  loose_contact = ap (λ (o : Option Imported). slice_get (contacts_of_import o) n) none.same ∙ none.own

  pub loose_does : (v : ℕ) (s t : Tokens) → Does r (In (ImportEnd none.import n) v) s t → Unseen f p s t → Sees f p (In (ImportEnd i n) v) s t
  loose_does v s t does unseen =
      (tt, subst (λ (o : Option Contact). Passes p (In (ImportEnd i n) v) o (cut_tokens f p s) (cut_tokens f p t)) (sym none.own) (passes.0, unseen ∙ sym lost))
    where
      passes : (v < 2 ^ bits_of none.contact (way_put none.contact.role)) × (t ≡ with_token r (ImportEnd none.import n) (way_put none.contact.role) (Some v) s)
      passes = subst (λ (o : Option Contact). Passes r (In (ImportEnd none.import n) v) o s t) loose_contact does.1

      lost : with_token p (ImportEnd i n) (way_put none.contact.role) (Some v) (cut_tokens f p s) ≡ cut_tokens f p s
      lost = ap (λ (o : Option End). with_held (way_put none.contact.role) o (Some v) (cut_tokens f p s)) none.own_none

  pub own_now : (v : ℕ) (s : Tokens) (own next : Open) → ComesInOrder p (In (ImportEnd i n) v) s own next → next ≡ with_open (ImportEnd i n) true own
  own_now v s own next comes =
      (comes none.contact none.own).1
      ∙ (ap (λ (way : Direction). after_put p (ImportEnd i n) way own) (ap way_put none.asks)
      ∙ ap (λ (e : End). with_open e true own) (ap (λ (x : Option End). named_by x (ImportEnd i n)) none.own_none))

-- it is none of a region's ends
not_lies : (d h : ℕ) (f : Cut) (b : End) (k n : ℕ) → Lies d h f b → f.inner (ImportEnd k n) ≡ None → b ≡ ImportEnd k n → ⊥
not_lies d h f b k n (in_part i j m at number) none same = let bad : PartEnd i m ≡ ImportEnd k n = sym at ∙ same in cc bad
not_lies d h f b k n (at_import i j m at inner) none same =
    let there : ImportEnd j m ≡ ImportEnd k n = sym at ∙ same in
    let clash : None ≡ Some (ImportEnd i m) = sym none ∙ (ap f.inner (sym there) ∙ inner) in cc clash
not_lies d h f b k n (at_driver at) none same = let bad : PartEnd d h ≡ ImportEnd k n = sym at ∙ same in cc bad

pub apart_side : (d h : ℕ) (f : Cut) (r p : Plan) → IsSide d h f r p → (k n : ℕ) → f.inner (ImportEnd k n) ≡ None → (o own : Open) → OpenAgree f p o own
    → OpenAgree f p (with_open (ImportEnd k n) true o) own
apart_side d h f r p side k n none o own agree m also =
    opened_so (same_end (lies_at f m) (ImportEnd k n)) true (o (lies_at f m))
    (apart_is_not_same (lies_at f m) (ImportEnd k n) (λ e. not_lies d h f (lies_at f m) k n (lies d h f r p side m also) none e)) ∙ agree m also

pub loose_side : (d h : ℕ) (f : Cut) (r p : Plan) → IsSide d h f r p → (k n : ℕ) → f.inner (ImportEnd k n) ≡ None → (i : ℕ) → places_of p (ImportEnd i n) ≡ None
    → (o own : Open) → OpenAgree f p o own → OpenAgree f p (with_open (ImportEnd k n) true o) (with_open (ImportEnd i n) true own)
loose_side d h f r p side k n none i own_none o own agree m also =
    apart_side d h f r p side k n none o own agree m also ∙ sym (opened_so (same_end m (ImportEnd i n)) true (own m) (apart_is_not_same m (ImportEnd i n) (λ e. not_own e also)))
  where
    not_own : m ≡ ImportEnd i n → Held p m → ⊥
    not_own e (inl own) =
        let (a, named) = stands_place p side.cut.right (ImportEnd i n) (subst (λ (x : End). Owns p x) e own) in
        let clash : None ≡ Some a = sym own_none ∙ named in cc clash
    not_own e (inr result) = let bad : ResultEnd 0 ≡ ImportEnd i n = sym result ∙ e in cc bad

-- what is open after it
module _
    (d : ℕ) (f g : Cut) (r p q : Plan) (is : IsParallel d f g r p q) (literals : All LiteralFits r.parts) (k n v : ℕ) (s w : Tokens) (past : List Pass) (o lo ro : Open)
    (opened : Opened d f g r p q is literals past o lo ro s) (same : Same d s w) (not_left : f.inner (ImportEnd k n) ≡ None) (not_right : g.inner (ImportEnd k n) ≡ None)
    (does : Does r (In (ImportEnd k n) v) s w) (comes : ComesInOrder r (In (ImportEnd k n) v) s o (with_open (ImportEnd k n) true o)) where
  pub opened_left : (i : ℕ) → places_of p (ImportEnd i n) ≡ None
      → Opened d f g r p q is literals (after r (In (ImportEnd k n) v) past) (with_open (ImportEnd k n) true o) (with_open (ImportEnd i n) true lo) ro w
  opened_left i own_none =
      record {
        left = loose_side d 0 f r p is.left k n not_left i own_none o lo opened.left;
        right = apart_side d 1 g r q is.right k n not_right o ro opened.right;
        result = opened.result;
        left_waits = opened.left_waits ∙ ap (λ c. left_runs c.phase) (sym same.state);
        right_waits = opened.right_waits ∙ ap (λ c. right_runs c.phase) (sym same.state);
        fit = held.step r (In (ImportEnd k n) v) o (with_open (ImportEnd k n) true o) s w does comes opened.fit;
      }

  pub opened_right : (i : ℕ) → places_of q (ImportEnd i n) ≡ None
      → Opened d f g r p q is literals (after r (In (ImportEnd k n) v) past) (with_open (ImportEnd k n) true o) lo (with_open (ImportEnd i n) true ro) w
  opened_right i own_none =
      record {
        left = apart_side d 0 f r p is.left k n not_left o lo opened.left;
        right = loose_side d 1 g r q is.right k n not_right i own_none o ro opened.right;
        result = opened.result;
        left_waits = opened.left_waits ∙ ap (λ c. left_runs c.phase) (sym same.state);
        right_waits = opened.right_waits ∙ ap (λ c. right_runs c.phase) (sym same.state);
        fit = held.step r (In (ImportEnd k n) v) o (with_open (ImportEnd k n) true o) s w does comes opened.fit;
      }
