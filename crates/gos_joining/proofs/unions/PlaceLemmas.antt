-- Where the ends of a joining stand, as far as the joining tells: each has its handshake there, and stands alone.
use Rattle.std.specs.Prelude.{◌≡◌, ℕ, ◌+◌, List, Option, Some, None, slice_get}
use Rattle.std.proofs.Common.{refl, sym, ◌∙◌, ap, arith}
use Rattle.gos_types.specs.Types.{Type'}
use Rattle.gos_model.specs.Typing.{Imported}
use Rattle.gos_plan.specs.Kinds.{Part, Contact, contacts_of}
use Rattle.gos_plan.specs.Plans.{End, PartEnd, ImportEnd, ResultEnd, Joint, Plan, contact_at, contacts_of_part, contacts_of_import, turned_if}
use Rattle.gos_plan.specs.Joining.{Wiring, origin, contacts_of_result, IsJoining}
use Rattle.gos_realises.specs.realises.Links.{contact_of, contact_in}
use Rattle.gos_realises.proofs.joined.OriginLemmas.{whole, part_at, import_at, one_origin}
use Rattle.gos_joining.specs.unions.Unions.{HasResult, HasFieldsOf}

pub fields_of : (w : Wiring) (r : Plan) → IsJoining w r → HasFieldsOf w r
fields_of w r is = record { parts = is.parts; imports = is.imports; outcome = is.outcome; weight = is.weight; result = is.result }

-- the handshakes are those of the plain joining
pub same_contact : (w : Wiring) (r : Plan) (js : List Joint) → HasFieldsOf w r → (e : End) → contact_at r e ≡ contact_at (whole w js) e
same_contact w r js has (PartEnd i h) = ap (λ (ks : List Part). slice_get (contacts_of_part (slice_get ks i)) h) has.parts
same_contact w r js has (ImportEnd i h) = ap (λ (xs : List Imported). slice_get (contacts_of_import (slice_get xs i)) h) has.imports
same_contact w r js has (ResultEnd h) = ap (λ (t : Type'). turned_if (slice_get (contacts_of t) h)) has.outcome

result_contact : (o : Option Plan) (n : ℕ) (c : Contact) → slice_get (contacts_of_result o) n ≡ Some c → contact_in o (ResultEnd n) ≡ turned_if (Some c)
result_contact None n c e = absurd (cc e)
result_contact (Some p) n c e = ap turned_if e

whole_stands : (w : Wiring) (js : List Joint) → HasResult w → (e : End) (c : Contact) → contact_at (whole w js) e ≡ Some c → contact_of w (origin w e) ≡ Some c
whole_stands w js results (PartEnd i h) c e =
    let there = part_at 0 w.plans i h c e in
    let sum : 0 + there.plan ≡ there.plan = omega arith in
    ap (contact_of w) there.stands
    ∙ (ap (λ (k : ℕ). contact_in (slice_get w.plans k) (PartEnd there.part h)) sum
    ∙ (ap (λ (o : Option Plan). contact_in o (PartEnd there.part h)) there.is ∙ there.has))
whole_stands w js results (ImportEnd i h) c e =
    let there = import_at w i h c e in
    let l = there.left in
    let sum : l.plan ≡ there.at.plan = (let plan = there.at.plan_is in omega (arith, plan)) in
    ap (contact_of w) there.stands
    ∙ (ap (λ (k : ℕ). contact_in (slice_get w.plans k) (ImportEnd l.number h)) sum
    ∙ (ap (λ (o : Option Plan). contact_in o (ImportEnd l.number h)) there.at.is
    ∙ (ap (λ (o : Option Imported). slice_get (contacts_of_import o) h) there.at.has ∙ there.has)))
whole_stands w js results (ResultEnd h) c e = by_contact (slice_get (contacts_of w.outcome) h) refl e
  where
    by_contact : (o : Option Contact) → slice_get (contacts_of w.outcome) h ≡ o → turned_if o ≡ Some c → contact_of w (origin w (ResultEnd h)) ≡ Some c
    by_contact None is there = absurd (cc there)
    by_contact (Some d) is there = result_contact (slice_get w.plans w.giver) (w.skipped + h) d (results h d is) ∙ there

pub stands_at : (w : Wiring) (r : Plan) → HasFieldsOf w r → (e : End) (c : Contact) → contact_at r e ≡ Some c → contact_of w (origin w e) ≡ Some c
stands_at w r has e c there = whole_stands w r.joints has.result e c (sym (same_contact w r r.joints has e) ∙ there)

-- no two ends stand at one place
pub stands_alone : (w : Wiring) (r : Plan) → HasFieldsOf w r → (a b : End) (c d : Contact) → contact_at r a ≡ Some c → contact_at r b ≡ Some d
    → origin w a ≡ origin w b → a ≡ b
stands_alone w r has a b c d at_a at_b e =
    one_origin w r.joints a b c d (sym (same_contact w r r.joints has a) ∙ at_a) (sym (same_contact w r r.joints has b) ∙ at_b) e
