-- What a Share puts by an answer goes where a path leads: an answer of the source to the caller of the branch, and an answer of a
-- caller to the source. Requests are late.
--
-- Read first: Pairs; Paths of gos_macro.
use Rattle.std.proofs.Common.{◌≡◌, inl, inr, ℕ, zero, suc, ◌+◌, ◌*◌, Bool, true, false, List, [], ◌∷◌, ◌++◌, Some, refl, sym, ◌∙◌, ap, subst, arith}
use Rattle.std.specs.Prelude.{◌<◌, length, nat_eq, if◌then◌else◌, slice_get}
use Rattle.std.proofs.lemmas.List.{length-map, length-append}
use Rattle.gos_types.specs.declared.shakes.Role.{Role}
use Rattle.gos_types.specs.declared.shakes.Role.TheVariants.{Serve, Ask}
use Rattle.gos_types.specs.Types.{Type'}
use Rattle.gos_plan.specs.Kinds.{Contact, Share, contacts_of, turned_contact, other_side}
use Rattle.gos_plan.specs.Firing.{Phase, Rest, State, Slot, Req, Ans, Row, row, at, put, shared_rows, share_rows, rows, row_for}
use Rattle.gos_plan.specs.Firings.{due}
use Rattle.gos_plan.specs.Tokens.{shake_of}
use Rattle.gos_plan.specs.laws.Inversion.{first_or_later}
use Rattle.gos_macro.specs.Gates.{is_among}
use Rattle.gos_macro.specs.Paths.{PutsPass}
use Rattle.gos_share.specs.Share.{share_late, share_passing}
use Rattle.gos_share.specs.laws.Slots.{is_served, served_tells}
use Rattle.gos_share.specs.laws.Comes.{sides, IsPlaced, ArePlaced, all_placed}
use Rattle.gos_share.specs.laws.Pairs.{AtPairs, AtAllPairs, Passes, all_pass, tells_at}

-- a token that is due is put at its handshake
pub put_there : (s : Slot) (x to : ℕ) → 0 < due to (put s x ∷ []) → shake_of s ≡ to
put_there s x to some = by_test (nat_eq (shake_of s) to) refl some
  where
    by_test : (b : Bool) → nat_eq (shake_of s) to ≡ b → 0 < (if b then 1 else 0) → shake_of s ≡ to
    by_test true is more = grind (arith, is)
    by_test false is more = absurd (omega (arith, more))

-- of the callers' handshakes j, that of the branch is one of two, since there are no more callers
pub by_branch : (P : ℕ → Type 0) (h b j m : ℕ) → m ≡ h + b * h + j → m < h + (h + h) → P (h + j) → P (h + h + j) → P m
by_branch P h zero j m is small first second = let here : h + j ≡ m = omega (arith, is) in subst P here first
by_branch P h (suc zero) j m is small first second = let here : h + h + j ≡ m = omega (arith, is) in subst P here second
by_branch P h (suc (suc b)) j m is small first second =
    let more : suc (suc b) * h ≡ h + (h + b * h) = grind arith in absurd (omega (arith, is, small, more))

-- whether a handshake of the Share is late is told by its role
late_there : (ks : List Contact) (e : ℕ) (k : Contact) → slice_get (sides ks) e ≡ Some k → is_among (share_late ks) e ≡ is_served k.role
late_there ks e k there = tells_at (is_among (share_late ks)) 0 e e (sides ks) k (omega arith) (served_tells 0 (sides ks)) there

no_request : (late : List ℕ) (s : Slot) (h : ℕ) → Req h ≡ s → is_among late h ≡ true → is_among late (shake_of s) ≡ false → ⊥
no_request late s h is waits early =
    let here : is_among late h ≡ false = ap (λ (c : Slot). is_among late (shake_of c)) is ∙ early in
    let clash : true ≡ false = sym waits ∙ here in
    cc clash

-- what is asked of a row that is found
abbrev Leads : List Contact → Slot → Row → Type 0
Leads ls s w =
    (x to : ℕ) → shake_of s < length ls + (length ls + length ls) → is_among (share_late ls) (shake_of s) ≡ false → to < length ls + (length ls + length ls)
    → 0 < due to (w.puts x) → share_passing ls (shake_of s) to ≡ true

-- an answer of the source
from_source : (ls : List Contact) (b j : ℕ) (s : Slot) (w : Row) → Passes (share_passing ls) j (length ls + j) × Passes (share_passing ls) j (length ls + length ls + j)
    → Ans j ≡ s → row (Ans j) (at Rest b) (put (Ans (length ls + b * length ls + j))) ≡ w → Leads ls s w
from_source ls b j s w (first, second) is same x to low early small some =
    let puts : 0 < due to (put (Ans (length ls + b * length ls + j)) x ∷ []) = subst (λ (z : Row). 0 < due to (z.puts x)) (sym same) some in
    let there : length ls + b * length ls + j ≡ to = put_there (Ans (length ls + b * length ls + j)) x to puts in
    subst (λ (c : Slot). share_passing ls (shake_of c) to ≡ true) is (by_branch (λ (m : ℕ). share_passing ls j m ≡ true) (length ls) b j to (sym there) small first second)

-- an answer of a caller
from_caller : (ls : List Contact) (b j : ℕ) (s : Slot) (w : Row) → Passes (share_passing ls) (length ls + j) j × Passes (share_passing ls) (length ls + length ls + j) j
    → Ans (length ls + b * length ls + j) ≡ s → row (Ans (length ls + b * length ls + j)) (at Rest b) (put (Ans j)) ≡ w → Leads ls s w
from_caller ls b j s w (first, second) is same x to low early small some =
    let puts : 0 < due to (put (Ans j) x ∷ []) = subst (λ (z : Row). 0 < due to (z.puts x)) (sym same) some in
    let there : j ≡ to = put_there (Ans j) x to puts in
    let from : shake_of s ≡ length ls + b * length ls + j = ap shake_of (sym is) in
    subst (λ (m : ℕ). share_passing ls (shake_of s) m ≡ true) there
    (by_branch (λ (m : ℕ). share_passing ls m j ≡ true) (length ls) b j (shake_of s) from low first second)

rows_lead : (ls : List Contact) (b j : ℕ) (ks : List Contact) (s : Slot) (w : Row) → ArePlaced ls j ks → AtAllPairs (Passes (share_passing ls)) (length ls) j ks
    → row_for s (share_rows ks (length ls) j b) ≡ Some w → Leads ls s w
rows_lead ls b j [] s w placed pairs is = absurd (cc is)
rows_lead ls b j (k ∷ ks) s w placed pairs is =
    by_role k.role k.ask_bits k.answer_bits placed.0 pairs.0 is (λ behind. rows_lead ls b (suc j) ks s w placed.1 pairs.1 behind)
  where
    h : ℕ
    h = length ls

    rest : List Row
    rest = share_rows ks h (suc j) b

    by_role : (r : Role) (q a : ℕ) → IsPlaced ls (record { role = r; ask_bits = q; answer_bits = a }) j → AtPairs (Passes (share_passing ls)) r h j
        → row_for s (shared_rows r h j b ++ rest) ≡ Some w → (row_for s rest ≡ Some w → Leads ls s w) → Leads ls s w
    by_role Serve q a here each found behind =
        elim (first_or_later (row (Req (h + j)) (at Rest 0) (put (Req j))) w (row (Req (h + h + j)) (at Rest 1) (put (Req j)) ∷ row (Ans j) (at Rest b) (put (Ans (h + b * h + j))) ∷ rest) s found) [
          | inl one ↦ λ x to low early small some. absurd (no_request (share_late ls) s (h + j) one.0 (late_there ls (h + j) _ here.first) early)
          | inr second ↦
              elim (first_or_later (row (Req (h + h + j)) (at Rest 1) (put (Req j))) w (row (Ans j) (at Rest b) (put (Ans (h + b * h + j))) ∷ rest) s second) [
                | inl one ↦ λ x to low early small some. absurd (no_request (share_late ls) s (h + h + j) one.0 (late_there ls (h + h + j) _ here.second) early)
                | inr third ↦
                    elim (first_or_later (row (Ans j) (at Rest b) (put (Ans (h + b * h + j)))) w rest s third) [
                      | inl one ↦ from_source ls b j s w each one.0 one.1
                      | inr last ↦ behind last
                    ]
              ]
        ]
    by_role Ask q a here each found behind =
        elim (first_or_later (row (Req j) (at Rest b) (put (Req (h + b * h + j)))) w (row (Ans (h + b * h + j)) (at Rest b) (put (Ans j)) ∷ rest) s found) [
          | inl one ↦ λ x to low early small some. absurd (no_request (share_late ls) s j one.0 (late_there ls j _ here.source) early)
          | inr second ↦
              elim (first_or_later (row (Ans (h + b * h + j)) (at Rest b) (put (Ans j))) w rest s second) [
                | inl one ↦ from_caller ls b j s w each one.0 one.1
                | inr last ↦ behind last
              ]
        ]

-- a Share has so many handshakes
pub sides_count : (ks : List Contact) → length (sides ks) ≡ length ks + (length ks + length ks)
sides_count ks =
    let long = length-map ks turned_contact in
    let one = length-append (other_side ks) (ks ++ ks) in
    let two = length-append ks ks in
    omega (arith, long, one, two)

at_phase : (t : Type') (p : Phase) (b : ℕ) (s : Slot) (w : Row) → row_for s (rows (Share t) p b) ≡ Some w → Leads (contacts_of t) s w
at_phase t Rest b s w is = rows_lead (contacts_of t) b 0 (contacts_of t) s w (all_placed (contacts_of t)) (all_pass (contacts_of t)) is
at_phase t p b s w is = absurd (cc is)

pub share_puts : (t : Type') → PutsPass (Share t) (share_late (contacts_of t)) (share_passing (contacts_of t))
share_puts t q s w x j is low early small some =
    let all = sides_count (contacts_of t) in
    at_phase t q.phase q.number s w is x j (subst (λ (n : ℕ). shake_of s < n) all low) early (subst (λ (n : ℕ). j < n) all small) some
