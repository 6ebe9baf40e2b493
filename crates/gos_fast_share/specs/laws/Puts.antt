-- What a Share puts goes where a path leads through its gates by order.
--
-- Read first: Pairs; Paths of gos_macro.
use Rattle.std.proofs.Common.{◌≡◌, inl, inr, ℕ, suc, ◌+◌, ◌*◌, ◌<◌, true, List, [], ◌∷◌, ◌++◌, Some, refl, sym, subst}
use Rattle.std.specs.Prelude.{length}
use Rattle.gos_types.specs.declared.shakes.Role.{Role}
use Rattle.gos_types.specs.declared.shakes.Role.TheVariants.{Serve, Ask}
use Rattle.gos_types.specs.Types.{Type'}
use Rattle.gos_plan.specs.Kinds.{Contact, Share, contacts_of}
use Rattle.gos_plan.specs.Firing.{Phase, Rest, State, Slot, Req, Ans, Row, row, at, put, shared_rows, share_rows, rows, row_for}
use Rattle.gos_plan.specs.Firings.{due}
use Rattle.gos_plan.specs.Tokens.{shake_of}
use Rattle.gos_plan.specs.laws.Inversion.{first_or_later}
use Rattle.gos_macro.specs.Paths.{PutsPass}
use Rattle.gos_share.specs.laws.Puts.{put_there, by_branch, sides_count}
use Rattle.gos_fast_share.specs.Fast.{fast_passing}
use Rattle.gos_fast_share.specs.laws.Pairs.{AtPairs, AtAllPairs, Passes, all_pass}

-- what is asked of a row that is found
abbrev Leads : List Contact → List ℕ → Slot → Row → Type 0
Leads ks order s w =
    (x to : ℕ) → shake_of s < length ks + (length ks + length ks) → to < length ks + (length ks + length ks) → 0 < due to (w.puts x)
    → fast_passing ks order (shake_of s) to ≡ true

-- a row that puts what it takes at one handshake of the Share at another
leads_to : (ks : List Contact) (order : List ℕ) (taken given s : Slot) (q : State) (w : Row)
    → ((to : ℕ) → shake_of taken < length ks + (length ks + length ks) → to < length ks + (length ks + length ks) → to ≡ shake_of given → fast_passing ks order (shake_of taken) to ≡ true)
    → taken ≡ s → row taken q (put given) ≡ w → Leads ks order s w
leads_to ks order taken given s q w passes is same x to low small some =
    let puts : 0 < due to (put given x ∷ []) = subst (λ (z : Row). 0 < due to (z.puts x)) (sym same) some in
    subst (λ (c : Slot). fast_passing ks order (shake_of c) to ≡ true) is
    (passes to (subst (λ (c : Slot). shake_of c < length ks + (length ks + length ks)) (sym is) low) small (sym (put_there given x to puts)))

-- by handshake j of the type: from a caller, from the source to the caller of the branch b, and from that caller
from_one : (ks : List Contact) (order : List ℕ) (j e to : ℕ) → fast_passing ks order e j ≡ true → to ≡ j → fast_passing ks order e to ≡ true
from_one ks order j e to passes is = subst (λ (d : ℕ). fast_passing ks order e d ≡ true) (sym is) passes

from_source : (ks : List Contact) (order : List ℕ) (b j to : ℕ) → AtPairs (Passes (fast_passing ks order)) ks order j → to < length ks + (length ks + length ks)
    → to ≡ length ks + b * length ks + j → fast_passing ks order j to ≡ true
from_source ks order b j to each small is = by_branch (λ (m : ℕ). fast_passing ks order j m ≡ true) (length ks) b j to is small each.down.0 each.down.1

from_branch : (ks : List Contact) (order : List ℕ) (b j to : ℕ) → AtPairs (Passes (fast_passing ks order)) ks order j
    → length ks + b * length ks + j < length ks + (length ks + length ks) → to ≡ j → fast_passing ks order (length ks + b * length ks + j) to ≡ true
from_branch ks order b j to each low is =
    from_one ks order j (length ks + b * length ks + j) to
    (by_branch (λ (m : ℕ). fast_passing ks order m j ≡ true) (length ks) b j (length ks + b * length ks + j) refl low each.up.0 each.up.1) is

rows_lead : (ks : List Contact) (order : List ℕ) (b j : ℕ) (ls : List Contact) (s : Slot) (w : Row) → AtAllPairs (Passes (fast_passing ks order)) ks order j ls
    → row_for s (share_rows ls (length ks) j b) ≡ Some w → Leads ks order s w
rows_lead ks order b j [] s w pairs is = absurd (cc is)
rows_lead ks order b j (l ∷ ls) s w pairs is = by_role l.role is (λ behind. rows_lead ks order b (suc j) ls s w pairs.1 behind)
  where
    h : ℕ
    h = length ks

    each : AtPairs (Passes (fast_passing ks order)) ks order j
    each = pairs.0

    rest : List Row
    rest = share_rows ls h (suc j) b

    by_role : (r : Role) → row_for s (shared_rows r h j b ++ rest) ≡ Some w → (row_for s rest ≡ Some w → Leads ks order s w) → Leads ks order s w
    by_role Serve found behind =
        elim (first_or_later (row (Req (h + j)) (at Rest 0) (put (Req j))) w (row (Req (h + h + j)) (at Rest 1) (put (Req j)) ∷ row (Ans j) (at Rest b) (put (Ans (h + b * h + j))) ∷ rest) s found) [
          | inl one ↦ leads_to ks order (Req (h + j)) (Req j) s (at Rest 0) w (λ to low small is. from_one ks order j (h + j) to each.up.0 is) one.0 one.1
          | inr second ↦
              (elim (first_or_later (row (Req (h + h + j)) (at Rest 1) (put (Req j))) w (row (Ans j) (at Rest b) (put (Ans (h + b * h + j))) ∷ rest) s second) [
                | inl one ↦ leads_to ks order (Req (h + h + j)) (Req j) s (at Rest 1) w (λ to low small is. from_one ks order j (h + h + j) to each.up.1 is) one.0 one.1
                | inr third ↦
                    (elim (first_or_later (row (Ans j) (at Rest b) (put (Ans (h + b * h + j)))) w rest s third) [
                      | inl one ↦ leads_to ks order (Ans j) (Ans (h + b * h + j)) s (at Rest b) w (λ to low small is. from_source ks order b j to each small is) one.0 one.1
                      | inr last ↦ behind last
                    ])
              ])
        ]
    by_role Ask found behind =
        elim (first_or_later (row (Req j) (at Rest b) (put (Req (h + b * h + j)))) w (row (Ans (h + b * h + j)) (at Rest b) (put (Ans j)) ∷ rest) s found) [
          | inl one ↦ leads_to ks order (Req j) (Req (h + b * h + j)) s (at Rest b) w (λ to low small is. from_source ks order b j to each small is) one.0 one.1
          | inr second ↦
              (elim (first_or_later (row (Ans (h + b * h + j)) (at Rest b) (put (Ans j))) w rest s second) [
                | inl one ↦ leads_to ks order (Ans (h + b * h + j)) (Ans j) s (at Rest b) w (λ to low small is. from_branch ks order b j to each low is) one.0 one.1
                | inr last ↦ behind last
              ])
        ]

at_phase : (t : Type') (order : List ℕ) (p : Phase) (b : ℕ) (s : Slot) (w : Row) → row_for s (rows (Share t) p b) ≡ Some w → Leads (contacts_of t) order s w
at_phase t order Rest b s w is = rows_lead (contacts_of t) order b 0 (contacts_of t) s w (all_pass (contacts_of t) order) is
at_phase t order p b s w is = absurd (cc is)

pub fast_puts : (t : Type') (order : List ℕ) → PutsPass (Share t) [] (fast_passing (contacts_of t) order)
fast_puts t order q s w x j is low early small some =
    let all = sides_count (contacts_of t) in
    at_phase t order q.phase q.number s w is x j (subst (λ (n : ℕ). shake_of s < n) all low) (subst (λ (n : ℕ). j < n) all small) some
