-- The ends of a plan with a Share behind its parts: their handshakes, and that they are apart.
use Rattle.std.specs.Prelude.{◌≡◌, ℕ, zero, suc, ◌+◌, ◌*◌, ◌<◌, true, length, Some, slice_get}
use Rattle.std.proofs.Common.{refl, sym, ◌∙◌, ap, subst, arith}
use Rattle.std.proofs.lemmas.Option.{slice_get_within}
use Rattle.gos_types.specs.declared.shakes.Role.{Role}
use Rattle.gos_types.specs.declared.shakes.Role.TheVariants.{Serve, Ask}
use Rattle.gos_types.specs.Types.{Type'}
use Rattle.gos_types.proofs.BoolLemmas.{same_tests}
use Rattle.gos_plan.specs.Kinds.{Share, Contact, contacts_of, turned_contact, part_contacts}
use Rattle.gos_plan.specs.Plans.{End, PartEnd, ImportEnd, ResultEnd, Plan, contact_at, contacts_of_part, contacts_of_import, turned_if, same_end}
use Rattle.gos_plan.proofs.JointLemmas.{same_itself, same_is}
use Rattle.gos_plan.proofs.AskingLemmas.{source_at, first_caller_at, second_caller_at}
use Rattle.gos_plan.proofs.ContactLemmas.{turned_of, part_is_there}
use Rattle.gos_realises.specs.realises.Regular.{count}
use Rattle.gos_joining.specs.webs.Webs.{joint}
use Rattle.gos_sharing.specs.sharing.Sharing.{source_end, caller_end}
use Rattle.gos_sharing.specs.buffers.Buffering.{end_behind}
use Rattle.gos_sharing.proofs.buffers.BufferedLemmas.{at_last, before_last}
use Rattle.gos_sharing.specs.behind.Behind.{outer_joint, HasShare}

-- an end of a part that there is, of an import, or of a handshake of the result that there is
abbrev pub Owned : Type' → Plan → End → Type 0
Owned t p (PartEnd k h) = k < length p.parts
Owned t p (ImportEnd k h) = Unit {0}
Owned t p (ResultEnd h) = h < count t

-- the end that asks in the joint of handshake j of the caller, and the one that serves
abbrev pub asker : ℕ → Type' → ℕ → ℕ → Role → End
asker i t c j Serve = ResultEnd j
asker i t c j Ask = caller_end i t c j

abbrev pub server : ℕ → Type' → ℕ → ℕ → Role → End
server i t c j Serve = caller_end i t c j
server i t c j Ask = ResultEnd j

pub outer_is : (i : ℕ) (t : Type') (c j : ℕ) (role : Role) → outer_joint i t c j role ≡ joint (asker i t c j role) (server i t c j role)
outer_is i t c j Serve = refl
outer_is i t c j Ask = refl

module _ (i : ℕ) (t : Type') (c : ℕ) (r p : Plan) (is : HasShare i t c r p) where
  abbrev behind : End → End
  behind = end_behind i

  pub share : slice_get r.parts i ≡ Some (Share t)
  share = ap (slice_get r.parts) is.number ∙ (ap (λ ks. slice_get ks (length p.parts)) is.parts ∙ at_last p.parts (Share t))

  pub own_part : (k : ℕ) → k < length p.parts → slice_get r.parts k ≡ slice_get p.parts k
  own_part k low = ap (λ ks. slice_get ks k) is.parts ∙ before_last p.parts (Share t) k (λ e. omega (arith, e, low))

  pub not_share : (k : ℕ) → k < length p.parts → k ≡ i → ⊥
  not_share k low e = let n = is.number in omega (arith, low, e, n)

  -- handshakes
  pub result_is : (h : ℕ) (k : Contact) → contact_at p (ResultEnd h) ≡ Some k → (d : Contact) × (slice_get (contacts_of t) h ≡ Some d) × (k ≡ turned_contact d)
  result_is h k there = turned_of (slice_get (contacts_of t) h) k (ap (λ u. turned_if (slice_get (contacts_of u) h)) (sym is.also_outcome) ∙ there)

  pub owned_contact : (e : End) (k : Contact) → contact_at p e ≡ Some k → Owned t p e
  owned_contact (PartEnd j h) k there = let (x, at) = part_is_there (slice_get p.parts j) h k there in slice_get_within p.parts j x at
  owned_contact (ImportEnd j h) k there = tt
  owned_contact (ResultEnd h) k there = let (d, at, turned) = result_is h k there in slice_get_within (contacts_of t) h d at

  share_contact : (h : ℕ) → contact_at r (PartEnd i h) ≡ slice_get (part_contacts (Share t)) h
  share_contact h = ap (λ x. slice_get (contacts_of_part x) h) share

  pub source_contact : (j : ℕ) (k : Contact) → slice_get (contacts_of t) j ≡ Some k → contact_at r (source_end i j) ≡ Some (turned_contact k)
  source_contact j k at = share_contact j ∙ source_at t j k at

  pub caller_contact : (j : ℕ) (k : Contact) → slice_get (contacts_of t) j ≡ Some k → contact_at r (caller_end i t c j) ≡ Some k
  caller_contact j k at = share_contact (count t + c * count t + j) ∙ by_caller c is.caller
    where
      by_caller : (b : ℕ) → b < 2 → slice_get (part_contacts (Share t)) (count t + b * count t + j) ≡ Some k
      by_caller zero lt =
          let e : count t + 0 * count t + j ≡ count t + j = omega arith in ap (slice_get (part_contacts (Share t))) e ∙ first_caller_at t j k at
      by_caller (suc zero) lt =
          let e : count t + 1 * count t + j ≡ count t + count t + j = omega arith in ap (slice_get (part_contacts (Share t))) e ∙ second_caller_at t j k at
      by_caller (suc (suc b)) lt = absurd (omega (arith, lt))

  pub contact_behind : (e : End) (k : Contact) → contact_at p e ≡ Some k → contact_at r (behind e) ≡ Some k
  contact_behind (PartEnd j h) k there = ap (λ x. slice_get (contacts_of_part x) h) (own_part j (owned_contact (PartEnd j h) k there)) ∙ there
  contact_behind (ImportEnd j h) k there = ap (λ x. slice_get (contacts_of_import (slice_get x j)) h) is.imports ∙ there
  contact_behind (ResultEnd h) k there = let (d, at, turned) = result_is h k there in source_contact h d at ∙ ap Some (sym turned)

  pub result_contact : (j : ℕ) (k : Contact) → slice_get (contacts_of t) j ≡ Some k → contact_at r (ResultEnd j) ≡ Some (turned_contact k)
  result_contact j k at = ap (λ u. turned_if (slice_get (contacts_of u) j)) is.outcome ∙ ap turned_if at

  pub inner_contact : (j : ℕ) (k : Contact) → slice_get (contacts_of t) j ≡ Some k → contact_at p (ResultEnd j) ≡ Some (turned_contact k)
  inner_contact j k at = ap (λ u. turned_if (slice_get (contacts_of u) j)) is.also_outcome ∙ ap turned_if at

  -- ends behind are apart
  pub behind_one : (d e : End) → Owned t p d → Owned t p e → behind d ≡ behind e → d ≡ e
  behind_one (PartEnd j h) (PartEnd l g) one other same = same
  behind_one (PartEnd j h) (ImportEnd l g) one other same = absurd (cc same)
  behind_one (PartEnd j h) (ResultEnd g) one other same = let e : j ≡ i = cc same in absurd (not_share j one e)
  behind_one (ImportEnd j h) (PartEnd l g) one other same = absurd (cc same)
  behind_one (ImportEnd j h) (ImportEnd l g) one other same = same
  behind_one (ImportEnd j h) (ResultEnd g) one other same = absurd (cc same)
  behind_one (ResultEnd h) (PartEnd l g) one other same = let e : i ≡ l = cc same in absurd (not_share l other (sym e))
  behind_one (ResultEnd h) (ImportEnd l g) one other same = absurd (cc same)
  behind_one (ResultEnd h) (ResultEnd g) one other same = let e : h ≡ g = cc same in ap ResultEnd e

  pub same_behind : (d e : End) → Owned t p d → Owned t p e → same_end (behind d) (behind e) ≡ same_end d e
  same_behind d e one other = same_tests (same_end (behind d) (behind e)) (same_end d e) to from
    where
      to : same_end (behind d) (behind e) ≡ true → same_end d e ≡ true
      to h = subst (λ (x : End). same_end d x ≡ true) (behind_one d e one other (same_is (behind d) (behind e) h)) (same_itself d)

      from : same_end d e ≡ true → same_end (behind d) (behind e) ≡ true
      from h = subst (λ (x : End). same_end (behind d) (behind x) ≡ true) (same_is d e h) (same_itself (behind d))

  -- and apart from those of the outer joints
  pub not_asker : (e : End) (j : ℕ) (role : Role) → Owned t p e → behind e ≡ asker i t c j role → ⊥
  not_asker (PartEnd l h) j Serve own e = cc e
  not_asker (PartEnd l h) j Ask own e = let same : l ≡ i = cc e in not_share l own same
  not_asker (ImportEnd l h) j Serve own e = cc e
  not_asker (ImportEnd l h) j Ask own e = cc e
  not_asker (ResultEnd h) j Serve own e = cc e
  not_asker (ResultEnd h) j Ask own e = let same : h ≡ count t + c * count t + j = cc e in omega (arith, same, own)

  pub not_server : (e : End) (j : ℕ) (role : Role) → Owned t p e → behind e ≡ server i t c j role → ⊥
  not_server e j Serve own h = not_asker e j Ask own h
  not_server e j Ask own h = not_asker e j Serve own h
