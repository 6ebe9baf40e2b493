-- The rows of a Share at one of its handshakes, and those of a wide Share at the handshakes of a narrow one.
use Rattle.std.specs.Prelude.{◌≡◌, ◌≢◌, ℕ, zero, suc, ◌+◌, ◌-◌, ◌*◌, ◌<◌, ◌≤◌, Bool, true, false, List, [], ◌∷◌, ◌++◌, length, map, Option, Some, None, option_map, slice_get, nat_lt, if◌then◌else◌}
use Rattle.std.proofs.Common.{refl, sym, ◌∙◌, ap, subst, arith}
use Rattle.std.proofs.lemmas.Bool.Decides.{nat_tests}
use Rattle.std.proofs.lemmas.Option.{slice_get_within}
use Rattle.std.proofs.lemmas.Bool.{ne_eqb}
use Rattle.gos_types.specs.declared.shakes.Role.{Role}
use Rattle.gos_types.specs.declared.shakes.Role.TheVariants.{Serve, Ask}
use Rattle.gos_types.specs.Types.{Type'}
use Rattle.gos_types.proofs.ListLemmas.{element_at}
use Rattle.gos_plan.specs.Kinds.{Part, Share, Contact, contacts_of, turned_contact, part_contacts}
use Rattle.gos_plan.specs.Firing.{Phase, Rest, State, at, Slot, Req, Ans, Token, put, Row, row, rows, row_for, same_slot, shared_rows, share_rows, firing}
use Rattle.gos_plan.specs.Tokens.{shake_of, firing_of}
use Rattle.gos_realises.specs.realises.Regular.{count}
use Rattle.gos_realises.proofs.realises.RenumberLemmas.{tests_agree}
use Rattle.gos_realises.proofs.realises.CountLemmas.{share_count}

-- a handshake of a Share is one of its source or of a caller, and by one number alone
pub column : (n j k b c : ℕ) → j < n → k < n → b * n + j ≡ c * n + k → (b ≡ c) × (j ≡ k)
column n j k zero zero low small e = (refl, omega (arith, e))
column n j k zero (suc c) low small e = absurd (omega (arith, low, e))
column n j k (suc b) zero low small e = absurd (omega (arith, small, e))
column n j k (suc b) (suc c) low small e = let rest = column n j k b c low small (omega (arith, e)) in (ap suc rest.0, rest.1)

abbrev pub Block : ℕ → ℕ → Type 0
Block n h = (b : ℕ) × (j : ℕ) × (b < 3) × (j < n) × (h ≡ b * n + j)

pub block : (n h : ℕ) → h < n + (n + n) → Block n h
block n h low = by_first (nat_lt h n) refl
  where
    by_second : n ≤ h → (t : Bool) → nat_lt h (n + n) ≡ t → Block n h
    by_second high true test = (1, h - n, omega arith, grind (arith, nat_tests, test, high), omega (arith, high))
    by_second high false test =
        let above : n + n ≤ h = grind (arith, nat_tests, test) in (2, h - (n + n), omega arith, omega (arith, above, low), omega (arith, above))

    by_first : (t : Bool) → nat_lt h n ≡ t → Block n h
    by_first true test = (0, h, omega arith, grind (arith, nat_tests, test), omega arith)
    by_first false test = by_second (grind (arith, nat_tests, test)) (nat_lt h (n + n)) refl

pub share_block : (t : Type') (h : ℕ) (k : Contact) → slice_get (part_contacts (Share t)) h ≡ Some k → Block (count t) h
share_block t h k at_h = block (count t) h (subst (λ (n : ℕ). h < n) (share_count t) (slice_get_within (part_contacts (Share t)) h k at_h))

-- rows that don't take a token
other_row : (slot : Slot) (r : Row) (rs : List Row) → same_slot r.takes slot ≡ false → row_for slot (r ∷ rs) ≡ row_for slot rs
other_row slot r rs differ = ap (λ (b : Bool). if b then Some r else row_for slot rs) differ

apart : (x slot : Slot) → (shake_of x ≡ shake_of slot → ⊥) → same_slot x slot ≡ false
apart (Req h) (Req g) differ = ne_eqb h g differ
apart (Ans h) (Ans g) differ = ne_eqb h g differ
apart (Req h) (Ans g) differ = refl
apart (Ans h) (Req g) differ = refl

module _ (n b c k : ℕ) (small : k < n) (slot : Slot) (number : shake_of slot ≡ c * n + k) where
  no_row : (j a h : ℕ) → j < n → j ≢ k → h ≡ a * n + j → h ≡ shake_of slot → ⊥
  no_row j a h low differ is same = differ (column n j k a c low small (sym is ∙ (same ∙ number))).1

  missed : (j : ℕ) (role : Role) → j < n → j ≢ k → (rs : List Row) → row_for slot (shared_rows role n j b ++ rs) ≡ row_for slot rs
  missed j Serve low differ rs =
      other_row slot (row (Req (n + j)) (at Rest 0) (put (Req j))) (row (Req (n + n + j)) (at Rest 1) (put (Req j)) ∷ (row (Ans j) (at Rest b) (put (Ans (n + b * n + j))) ∷ rs))
      (apart (Req (n + j)) slot (no_row j 1 (n + j) low differ (omega arith)))
      ∙ (other_row slot (row (Req (n + n + j)) (at Rest 1) (put (Req j))) (row (Ans j) (at Rest b) (put (Ans (n + b * n + j))) ∷ rs)
      (apart (Req (n + n + j)) slot (no_row j 2 (n + n + j) low differ (omega arith)))
      ∙ other_row slot (row (Ans j) (at Rest b) (put (Ans (n + b * n + j)))) rs (apart (Ans j) slot (no_row j 0 j low differ (omega arith))))
  missed j Ask low differ rs =
      other_row slot (row (Req j) (at Rest b) (put (Req (n + b * n + j)))) (row (Ans (n + b * n + j)) (at Rest b) (put (Ans j)) ∷ rs)
      (apart (Req j) slot (no_row j 0 j low differ (omega arith)))
      ∙ other_row slot (row (Ans (n + b * n + j)) (at Rest b) (put (Ans j))) rs
      (apart (Ans (n + b * n + j)) slot (no_row j (suc b) (n + b * n + j) low differ (omega arith)))

  all_missed : (cs : List Contact) (first : ℕ) → first + length cs ≤ n → k < first → row_for slot (share_rows cs n first b) ≡ None
  all_missed [] first within after = refl
  all_missed (x ∷ xs) first within after =
      missed first x.role (omega (arith, within)) (λ e. omega (arith, e, after)) (share_rows xs n (suc first) b)
      ∙ all_missed xs (suc first) (omega (arith, within)) (omega (arith, after))

  front_only : (rs qs : List Row) → row_for slot qs ≡ None → row_for slot (rs ++ qs) ≡ row_for slot rs
  front_only [] qs none = none
  front_only (r ∷ rs) qs none = ap (λ o. if same_slot r.takes slot then Some r else o) (front_only rs qs none)

  hit : (cs : List Contact) (first j : ℕ) (d : Contact) → slice_get cs j ≡ Some d → first + j ≡ k → first + length cs ≤ n
      → row_for slot (share_rows cs n first b) ≡ row_for slot (shared_rows d.role n k b)
  hit [] first j d at_j is within = absurd (cc at_j)
  hit (x ∷ xs) first zero d at_j is within =
      let here : first ≡ k = omega (arith, is) in
      let same : x ≡ d = cc at_j in
      front_only (shared_rows x.role n first b) (share_rows xs n (suc first) b) (all_missed xs (suc first) (omega (arith, within)) (omega (arith, here)))
      ∙ (λ l. row_for slot (shared_rows ((same l).role) n (here l) b))
  hit (x ∷ xs) first (suc j) d at_j is within =
      missed first x.role (omega (arith, within)) (λ e. omega (arith, e, is)) (share_rows xs n (suc first) b)
      ∙ hit xs (suc first) j d at_j (omega (arith, is)) (omega (arith, within))

-- what a Share does with a token at one of its handshakes
abbrev pub at_rest : Phase → Option Row → Option Row
at_rest Rest o = o
at_rest p o = None

pub at_handshake : (t : Type') (q : State) (slot : Slot) (c k : ℕ) (d : Contact) → slice_get (contacts_of t) k ≡ Some d → shake_of slot ≡ c * count t + k
    → firing (Share t) q slot ≡ at_rest q.phase (row_for slot (shared_rows d.role (count t) k q.number))
at_handshake t q slot c k d at_k number = by_phase q.phase
  where
    small : k < count t
    small = slice_get_within (contacts_of t) k d at_k

    by_phase : (p : Phase) → row_for slot (rows (Share t) p q.number) ≡ at_rest p (row_for slot (shared_rows d.role (count t) k q.number))
    by_phase Rest = hit (count t) q.number c k small slot number (contacts_of t) 0 k d at_k (omega arith) (omega arith)
    by_phase p = refl

-- rows with other numbers of handshakes
abbrev pub wide_slot : (ℕ → ℕ) → Slot → Slot
wide_slot g (Req h) = Req (g h)
wide_slot g (Ans h) = Ans (g h)

abbrev pub wide_token : (ℕ → ℕ) → Token → Token
wide_token g t = record { slot = wide_slot g t.slot; value = t.value }

abbrev pub wide_row : (ℕ → ℕ) → Row → Row
wide_row g r = record { takes = wide_slot g r.takes; next = r.next; puts = λ v. map (wide_token g) (r.puts v) }

pub same_shake : (g : ℕ → ℕ) (x : Slot) → shake_of (wide_slot g x) ≡ g (shake_of x)
same_shake g (Req h) = refl
same_shake g (Ans h) = refl

slots_agree : (g : ℕ → ℕ) → ((h j : ℕ) → g h ≡ g j → h ≡ j) → (x y : Slot) → same_slot (wide_slot g x) (wide_slot g y) ≡ same_slot x y
slots_agree g one (Req h) (Req j) = tests_agree (g h) (g j) h j (one h j) (λ e. ap g e)
slots_agree g one (Ans h) (Ans j) = tests_agree (g h) (g j) h j (one h j) (λ e. ap g e)
slots_agree g one (Req h) (Ans j) = refl
slots_agree g one (Ans h) (Req j) = refl

row_so : (g : ℕ → ℕ) → ((h j : ℕ) → g h ≡ g j → h ≡ j) → (slot : Slot) (rs : List Row)
    → row_for (wide_slot g slot) (map (wide_row g) rs) ≡ option_map (wide_row g) (row_for slot rs)
row_so g one slot [] = refl
row_so g one slot (r ∷ rs) =
    ap (λ (b : Bool). if b then Some (wide_row g r) else row_for (wide_slot g slot) (map (wide_row g) rs)) (slots_agree g one r.takes slot)
    ∙ by_test (same_slot r.takes slot) (row_so g one slot rs)
  where
    by_test : (b : Bool) → row_for (wide_slot g slot) (map (wide_row g) rs) ≡ option_map (wide_row g) (row_for slot rs)
        → (if b then Some (wide_row g r) else row_for (wide_slot g slot) (map (wide_row g) rs)) ≡ option_map (wide_row g) (if b then Some r else row_for slot rs)
    by_test true rest = refl
    by_test false rest = rest

shared_so : (g : ℕ → ℕ) (n m skipped j b : ℕ) (role : Role) → ((c : ℕ) → g (c * n + j) ≡ c * m + (skipped + j))
    → shared_rows role m (skipped + j) b ≡ map (wide_row g) (shared_rows role n j b)
shared_so g n m skipped j b Serve blocks =
    λ l. row (Req (first l)) (at Rest 0) (put (Req (source l)))
    ∷ (row (Req (second l)) (at Rest 1) (put (Req (source l)))
    ∷ (row (Ans (source l)) (at Rest b) (put (Ans (branch l))) ∷ []))
  where
    source : skipped + j ≡ g j
    source = let there : 0 * n + j ≡ j = omega arith in let mine : skipped + j ≡ 0 * m + (skipped + j) = omega arith in mine ∙ (sym (blocks 0) ∙ ap g there)

    first : m + (skipped + j) ≡ g (n + j)
    first = let there : 1 * n + j ≡ n + j = omega arith in let mine : m + (skipped + j) ≡ 1 * m + (skipped + j) = omega arith in mine ∙ (sym (blocks 1) ∙ ap g there)

    second : m + m + (skipped + j) ≡ g (n + n + j)
    second = let there : 2 * n + j ≡ n + n + j = omega arith in let mine : m + m + (skipped + j) ≡ 2 * m + (skipped + j) = omega arith in mine ∙ (sym (blocks 2) ∙ ap g there)

    branch : m + b * m + (skipped + j) ≡ g (n + b * n + j)
    branch =
        let there : suc b * n + j ≡ n + b * n + j = omega arith in
        let mine : m + b * m + (skipped + j) ≡ suc b * m + (skipped + j) = omega arith in mine ∙ (sym (blocks (suc b)) ∙ ap g there)
shared_so g n m skipped j b Ask blocks =
    λ l. row (Req (source l)) (at Rest b) (put (Req (branch l))) ∷ (row (Ans (branch l)) (at Rest b) (put (Ans (source l))) ∷ [])
  where
    source : skipped + j ≡ g j
    source = let there : 0 * n + j ≡ j = omega arith in let mine : skipped + j ≡ 0 * m + (skipped + j) = omega arith in mine ∙ (sym (blocks 0) ∙ ap g there)

    branch : m + b * m + (skipped + j) ≡ g (n + b * n + j)
    branch =
        let there : suc b * n + j ≡ n + b * n + j = omega arith in
        let mine : m + b * m + (skipped + j) ≡ suc b * m + (skipped + j) = omega arith in mine ∙ (sym (blocks (suc b)) ∙ ap g there)

phase_so : (p : Phase) (g : ℕ → ℕ) (o : Option Row) → at_rest p (option_map (wide_row g) o) ≡ option_map (wide_row g) (at_rest p o)
phase_so Rest g o = refl
phase_so p g o = refl

-- the wide Share does with a token at such a handshake what the narrow one does
pub share_so : (wide narrow : Type') (skipped : ℕ) (g : ℕ → ℕ) → ((h j : ℕ) → g h ≡ g j → h ≡ j)
    → ((c j : ℕ) → j < count narrow → g (c * count narrow + j) ≡ c * count wide + (skipped + j))
    → ((j : ℕ) (k : Contact) → slice_get (contacts_of narrow) j ≡ Some k → slice_get (contacts_of wide) (skipped + j) ≡ Some k)
    → (q : State) (slot : Slot) (k : Contact) → slice_get (part_contacts (Share narrow)) (shake_of slot) ≡ Some k
    → firing (Share wide) q (wide_slot g slot) ≡ option_map (wide_row g) (firing (Share narrow) q slot)
share_so wide narrow skipped g one blocks contacts q slot k at_slot =
    let (c, j, few, low, is) = share_block narrow (shake_of slot) k at_slot in
    let (d, at_d) = element_at (contacts_of narrow) j low in
    let number : shake_of (wide_slot g slot) ≡ c * count wide + (skipped + j) = same_shake g slot ∙ (ap g is ∙ blocks c j low) in
    at_handshake wide q (wide_slot g slot) c (skipped + j) d (contacts j d at_d) number
    ∙ (ap (λ rs. at_rest q.phase (row_for (wide_slot g slot) rs)) (shared_so g (count narrow) (count wide) skipped j q.number d.role (λ a. blocks a j low))
    ∙ (ap (at_rest q.phase) (row_so g one slot (shared_rows d.role (count narrow) j q.number))
    ∙ (phase_so q.phase g (row_for slot (shared_rows d.role (count narrow) j q.number))
    ∙ ap (option_map (wide_row g)) (sym (at_handshake narrow q slot c j d at_d is)))))

-- other rows stay
slot_stays : (x : Slot) → wide_slot (λ h. h) x ≡ x
slot_stays (Req h) = refl
slot_stays (Ans h) = refl

tokens_stay : (ts : List Token) → map (wide_token (λ h. h)) ts ≡ ts
tokens_stay [] = refl
tokens_stay (t ∷ ts) = λ l. record { slot = slot_stays t.slot l; value = t.value } ∷ tokens_stay ts l

row_stays : (r : Row) → wide_row (λ h. h) r ≡ r
row_stays r = λ l. record { takes = slot_stays r.takes l; next = r.next; puts = λ v. tokens_stay (r.puts v) l }

rows_stay : (o : Option Row) → option_map (wide_row (λ h. h)) o ≡ o
rows_stay None = refl
rows_stay (Some r) = ap Some (row_stays r)

pub other_so : (o : Option Part) (q : State) (slot : Slot) → firing_of o q (wide_slot (λ h. h) slot) ≡ option_map (wide_row (λ h. h)) (firing_of o q slot)
other_so o q slot = ap (firing_of o q) (slot_stays slot) ∙ sym (rows_stay (firing_of o q slot))

-- a handshake of the narrow Share is one of the wide Share
pub handshake_so : (wide narrow : Type') (skipped : ℕ) (g : ℕ → ℕ)
    → ((c j : ℕ) → j < count narrow → g (c * count narrow + j) ≡ c * count wide + (skipped + j))
    → ((j : ℕ) (k : Contact) → slice_get (contacts_of narrow) j ≡ Some k → slice_get (contacts_of wide) (skipped + j) ≡ Some k)
    → (h : ℕ) (k : Contact) → slice_get (part_contacts (Share narrow)) h ≡ Some k → slice_get (part_contacts (Share wide)) (g h) ≡ Some k
handshake_so wide narrow skipped g blocks contacts h k at_h = of_block (share_block narrow h k at_h)
  where
    by_caller : (b j : ℕ) → b < 3 → (d : Contact) → slice_get (contacts_of narrow) j ≡ Some d → h ≡ b * count narrow + j → g h ≡ b * count wide + (skipped + j)
        → slice_get (part_contacts (Share wide)) (g h) ≡ Some k
    by_caller zero j few d at_d is onto =
        let mine : h ≡ j = omega (arith, is) in
        let there : g h ≡ skipped + j = onto ∙ omega arith in
        let one : Some (turned_contact d) ≡ Some k = sym (Rattle.gos_plan.proofs.AskingLemmas.source_at narrow j d at_d) ∙ (ap (slice_get (part_contacts (Share narrow))) (sym mine) ∙ at_h) in
        ap (slice_get (part_contacts (Share wide))) there ∙ (Rattle.gos_plan.proofs.AskingLemmas.source_at wide (skipped + j) d (contacts j d at_d) ∙ one)
    by_caller (suc zero) j few d at_d is onto =
        let mine : h ≡ count narrow + j = omega (arith, is) in
        let there : g h ≡ count wide + (skipped + j) = onto ∙ omega arith in
        let one : Some d ≡ Some k = sym (Rattle.gos_plan.proofs.AskingLemmas.first_caller_at narrow j d at_d) ∙ (ap (slice_get (part_contacts (Share narrow))) (sym mine) ∙ at_h) in
        ap (slice_get (part_contacts (Share wide))) there ∙ (Rattle.gos_plan.proofs.AskingLemmas.first_caller_at wide (skipped + j) d (contacts j d at_d) ∙ one)
    by_caller (suc (suc zero)) j few d at_d is onto =
        let mine : h ≡ count narrow + count narrow + j = omega (arith, is) in
        let there : g h ≡ count wide + count wide + (skipped + j) = onto ∙ omega arith in
        let one : Some d ≡ Some k = sym (Rattle.gos_plan.proofs.AskingLemmas.second_caller_at narrow j d at_d) ∙ (ap (slice_get (part_contacts (Share narrow))) (sym mine) ∙ at_h) in
        ap (slice_get (part_contacts (Share wide))) there ∙ (Rattle.gos_plan.proofs.AskingLemmas.second_caller_at wide (skipped + j) d (contacts j d at_d) ∙ one)
    by_caller (suc (suc (suc b))) j few d at_d is onto = absurd (omega (arith, few))

    of_block : Block (count narrow) h → slice_get (part_contacts (Share wide)) (g h) ≡ Some k
    of_block (b, j, few, low, is) =
        let (d, at_d) = element_at (contacts_of narrow) j low in by_caller b j few d at_d is (ap g is ∙ blocks b j low)
