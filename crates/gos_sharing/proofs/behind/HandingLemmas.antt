-- What the Share does: it hands a token of its caller on to its source, or one of its source to its caller.
use Rattle.std.specs.Prelude.{◌≡◌, ℕ, zero, suc, ◌+◌, ◌*◌, ◌<◌, Bool, true, false, List, [], ◌∷◌, ◌++◌, Option, Some, None, slice_get}
use Rattle.std.proofs.Common.{refl, sym, ◌∙◌, ap, subst, arith, inl, inr, if◌then◌else◌}
use Rattle.gos_types.specs.declared.shakes.Role.{Role}
use Rattle.gos_types.specs.declared.shakes.Role.TheVariants.{Serve, Ask}
use Rattle.gos_types.specs.Types.{Type'}
use Rattle.gos_types.specs.Handshakes.{turned}
use Rattle.gos_types.specs.Events.{Direction, Request, Answer}
use Rattle.gos_types.proofs.ListLemmas.{element_at}
use Rattle.gos_plan.specs.Kinds.{Share, Contact, contacts_of, turned_contact, part_contacts}
use Rattle.gos_plan.specs.Firing.{Phase, Rest, State, at, Slot, Req, Ans, put, Row, row, rows, row_for, same_slot, shared_rows, share_rows, firing}
use Rattle.gos_plan.specs.Plans.{End, PartEnd, ImportEnd, ResultEnd, Plan}
use Rattle.gos_plan.specs.Tokens.{Tokens, Fire, places_of, token_at, with_token, with_state, with_puts, end_of, way_of, shake_of, way_taken, way_put, firing_of, fired, Does}
use Rattle.gos_plan.specs.Orderly.{Open, after_taken, after_put, ComesWell, ComesInOrder}
use Rattle.gos_plan.proofs.RowLemmas.{role_taking}
use Rattle.gos_plan.proofs.AskingLemmas.{RoleIs, row_roles, source_at}
use Rattle.gos_plan.proofs.TurnLemmas.{way_to_take}
use Rattle.gos_plan.proofs.HeldLemmas.{nothing_there}
use Rattle.gos_realises.specs.realises.Regular.{count}
use Rattle.gos_sharing.specs.sharing.Sharing.{caller_end, IsForCaller}
use Rattle.gos_sharing.proofs.sharing.ShareRowLemmas.{Passes, PassesIf, passing}
use Rattle.gos_sharing.specs.buffers.Buffering.{end_behind}
use Rattle.gos_sharing.proofs.buffers.GroundLemmas.{next_rests}
use Rattle.gos_sharing.proofs.buffers.ShareStepLemmas.{one_order, written_out, WellBy}
use Rattle.gos_sharing.specs.behind.Behind.{IsBehind}
use Rattle.gos_sharing.proofs.behind.EndLemmas.{Owned, asker, server, not_share}
use Rattle.gos_sharing.proofs.behind.LyingLemmas.{From, of_inner, of_asker, of_server, from_place}

abbrev pub slot_of : Direction → ℕ → Slot
slot_of Request h = Req h
slot_of Answer h = Ans h

abbrev pub caller_number : Type' → ℕ → ℕ → ℕ
caller_number t c j = count t + c * count t + j

pub way_of_slot : (way : Direction) (h : ℕ) → way_of (slot_of way h) ≡ way
way_of_slot Request h = refl
way_of_slot Answer h = refl

-- the tokens that it takes find a row
row_or : (b : Bool) (x : Row) (o : Option Row) → (b ≡ false → (y : Row) × (o ≡ Some y)) → (y : Row) × ((if b then Some x else o) ≡ Some y)
row_or true x o other = (x, refl)
row_or false x o other = other refl

abbrev pub Takes : Slot → List Row → Type 0
Takes slot rs = (y : Row) × (row_for slot rs ≡ Some y)

takes_first : (slot : Slot) (r : Row) (rs : List Row) → same_slot r.takes slot ≡ true → Takes slot (r ∷ rs)
takes_first slot r rs h = (r, ap (λ (b : Bool). if b then Some r else row_for slot rs) h)

takes_later : (slot : Slot) (r : Row) (rs : List Row) → Takes slot rs → Takes slot (r ∷ rs)
takes_later slot r rs later = row_or (same_slot r.takes slot) r (row_for slot rs) (λ no. later)

takes_front : (slot : Slot) (rs qs : List Row) → Takes slot rs → Takes slot (rs ++ qs)
takes_front slot [] qs (y, h) = absurd (cc h)
takes_front slot (r ∷ rs) qs (y, h) = row_or (same_slot r.takes slot) r (row_for slot (rs ++ qs)) (λ no. takes_front slot rs qs (y, sym (ap (λ (b : Bool). if b then Some r else row_for slot rs) no) ∙ h))

takes_behind : (slot : Slot) (rs qs : List Row) → Takes slot qs → Takes slot (rs ++ qs)
takes_behind slot [] qs there = there
takes_behind slot (r ∷ rs) qs there = takes_later slot r (rs ++ qs) (takes_behind slot rs qs there)

-- of handshake j
abbrev pub TakesAt : ℕ → ℕ → ℕ → Role → Slot → Type 0
TakesAt n b j role slot = Takes slot (shared_rows role n j b)

in_table : (slot : Slot) (n b : ℕ) (cs : List Contact) (first j : ℕ) (k : Contact) → slice_get cs j ≡ Some k → TakesAt n b (first + j) k.role slot → Takes slot (share_rows cs n first b)
in_table slot n b [] first j k e takes = absurd (cc e)
in_table slot n b (x ∷ xs) first zero k e takes =
    let here : first + 0 ≡ first = omega arith in
    let same : x ≡ k = cc e in
    takes_front slot (shared_rows x.role n first b) (share_rows xs n (suc first) b)
    (subst (λ (m : ℕ). TakesAt n b m x.role slot) here (subst (λ (y : Contact). TakesAt n b (first + 0) y.role slot) (sym same) takes))
in_table slot n b (x ∷ xs) first (suc j) k e takes =
    let there : first + suc j ≡ suc first + j = omega arith in
    takes_behind slot (shared_rows x.role n first b) (share_rows xs n (suc first) b)
    (in_table slot n b xs (suc first) j k e (subst (λ (m : ℕ). TakesAt n b m k.role slot) there takes))

same_number : (n m : ℕ) → n ≡ m → Rattle.std.specs.Prelude.nat_eq n m ≡ true
same_number n m e = grind (arith, e)

-- its rows
abbrev of_first : ℕ → ℕ → Row
of_first n j = row (Req (n + j)) (at Rest 0) (put (Req j))

abbrev of_second : ℕ → ℕ → Row
of_second n j = row (Req (n + n + j)) (at Rest 1) (put (Req j))

abbrev answered : ℕ → ℕ → ℕ → Row
answered n b j = row (Ans j) (at Rest b) (put (Ans (n + b * n + j)))

abbrev asked : ℕ → ℕ → ℕ → Row
asked n b j = row (Req j) (at Rest b) (put (Req (n + b * n + j)))

abbrev served : ℕ → ℕ → ℕ → Row
served n b j = row (Ans (n + b * n + j)) (at Rest b) (put (Ans j))

pub takes_inward : (n c b j : ℕ) (role : Role) → c < 2 → (role ≡ Ask → b ≡ c) → TakesAt n b j role (slot_of (way_taken role) (n + c * n + j))
takes_inward n zero b j Serve two known =
    takes_first (Req (n + 0 * n + j)) (of_first n j) (of_second n j ∷ answered n b j ∷ []) (same_number (n + j) (n + 0 * n + j) (omega arith))
takes_inward n (suc zero) b j Serve two known =
    takes_later (Req (n + 1 * n + j)) (of_first n j) (of_second n j ∷ answered n b j ∷ [])
    (takes_first (Req (n + 1 * n + j)) (of_second n j) (answered n b j ∷ []) (same_number (n + n + j) (n + 1 * n + j) (omega arith)))
takes_inward n (suc (suc c)) b j Serve two known = absurd (omega (arith, two))
takes_inward n c b j Ask two known =
    let e : b ≡ c = known refl in
    let same : n + b * n + j ≡ n + c * n + j = ap (λ (x : ℕ). n + x * n + j) e in
    takes_later (Ans (n + c * n + j)) (asked n b j) (served n b j ∷ [])
    (takes_first (Ans (n + c * n + j)) (served n b j) [] (same_number (n + b * n + j) (n + c * n + j) same))

pub takes_outward : (n b j : ℕ) (role : Role) → TakesAt n b j role (slot_of (way_put role) j)
takes_outward n b j Serve =
    takes_later (Ans j) (of_first n j) (of_second n j ∷ answered n b j ∷ [])
    (takes_later (Ans j) (of_second n j) (answered n b j ∷ []) (takes_first (Ans j) (answered n b j) [] (same_number j j refl)))
takes_outward n b j Ask = takes_first (Req j) (asked n b j) (served n b j ∷ []) (same_number j j refl)

pub share_takes : (t : Type') (x : State) (slot : Slot) (j : ℕ) (k : Contact) → x.phase ≡ Rest → slice_get (contacts_of t) j ≡ Some k → TakesAt (count t) x.number j k.role slot
    → (row : Row) × (firing (Share t) x slot ≡ Some row)
share_takes t x slot j k rests at_j takes =
    let zeros : j ≡ 0 + j = omega arith in
    let found = in_table slot (count t) x.number (contacts_of t) 0 j k at_j (subst (λ (m : ℕ). TakesAt (count t) x.number m k.role slot) zeros takes) in
    (found.0, ap (λ (p : Phase). row_for slot (rows (Share t) p x.number)) rests ∙ found.1)

-- of a Share, for one of its callers
module _ (i : ℕ) (t : Type') (c : ℕ) (r : Plan) (two : c < 2) (share : slice_get r.parts i ≡ Some (Share t)) where
  -- a token at handshake h handed on to handshake g
  pub record Handed (h g : ℕ) (way : Direction) (v : ℕ) (slot : Slot) (s w : Tokens) : Type 0 where
    pub slot_is : slot ≡ slot_of way h
    pub lies : token_at r s (PartEnd i h) way ≡ Some v
    pub leads : w ≡ with_token r (PartEnd i g) way (Some v) (with_state i (at Rest c) (with_token r (PartEnd i h) way None s))
    pub order :
        (o : Open)
        → ComesWell r (PartEnd i g) way (after_taken r (PartEnd i h) way o) (with_state i (at Rest c) (with_token r (PartEnd i h) way None s))
        → ComesInOrder r (Fire i slot) s o (after_put r (PartEnd i g) way (after_taken r (PartEnd i h) way o))

  pub data Hands (slot : Slot) (s w : Tokens) : Type 0 where
    inward : (j : ℕ) (k : Contact) (v : ℕ) → slice_get (contacts_of t) j ≡ Some k → Handed (caller_number t c j) j (way_taken k.role) v slot s w → Hands slot s w
    outward : (j : ℕ) (k : Contact) (v : ℕ) → slice_get (contacts_of t) j ≡ Some k → Handed j (caller_number t c j) (way_put k.role) v slot s w → Hands slot s w

  handed : (h g : ℕ) (way : Direction) (v : ℕ) (slot : Slot) (s w : Tokens) (row : Row) → token_at r s (end_of i slot) (way_of slot) ≡ Some v
      → firing_of (slice_get r.parts i) (s.state i) slot ≡ Some row → row.takes ≡ slot → w ≡ fired r i row v s
      → row.next v ≡ at Rest c → row.takes ≡ slot_of way h → row.puts v ≡ put (slot_of way g) v ∷ [] → Handed h g way v slot s w
  handed h g Request v slot s w row lies by takes leads next is_slot puts =
      let same : slot ≡ Req h = sym takes ∙ is_slot in
      record {
        slot_is = same;
        lies = subst (λ (x : Slot). token_at r s (end_of i x) (way_of x) ≡ Some v) same lies;
        leads =
            leads
            ∙ (ap (λ y. with_puts r i y (with_state i (row.next v) (with_token r (end_of i row.takes) (way_of row.takes) None s))) puts
            ∙ (λ l. with_token r (PartEnd i g) Request (Some v) (with_state i (next l) (with_token r (end_of i (is_slot l)) (way_of (is_slot l)) None s))));
        order = λ o well. one_order i r slot o (after_put r (PartEnd i g) Request (after_taken r (PartEnd i h) Request o)) s v row lies by
            (written_out i r o (after_put r (PartEnd i g) Request (after_taken r (PartEnd i h) Request o)) s row v slot (Req h) (put (Req g) v ∷ []) takes same puts
            (subst (λ (x : State). WellBy i r o (after_put r (PartEnd i g) Request (after_taken r (PartEnd i h) Request o)) s x (Req h) (Req h) (put (Req g) v ∷ [])) (sym next) ((well, tt), refl)));
      }
  handed h g Answer v slot s w row lies by takes leads next is_slot puts =
      let same : slot ≡ Ans h = sym takes ∙ is_slot in
      record {
        slot_is = same;
        lies = subst (λ (x : Slot). token_at r s (end_of i x) (way_of x) ≡ Some v) same lies;
        leads =
            leads
            ∙ (ap (λ y. with_puts r i y (with_state i (row.next v) (with_token r (end_of i row.takes) (way_of row.takes) None s))) puts
            ∙ (λ l. with_token r (PartEnd i g) Answer (Some v) (with_state i (next l) (with_token r (end_of i (is_slot l)) (way_of (is_slot l)) None s))));
        order = λ o well. one_order i r slot o (after_put r (PartEnd i g) Answer (after_taken r (PartEnd i h) Answer o)) s v row lies by
            (written_out i r o (after_put r (PartEnd i g) Answer (after_taken r (PartEnd i h) Answer o)) s row v slot (Ans h) (put (Ans g) v ∷ []) takes same puts
            (subst (λ (x : State). WellBy i r o (after_put r (PartEnd i g) Answer (after_taken r (PartEnd i h) Answer o)) s x (Ans h) (Ans h) (put (Ans g) v ∷ [])) (sym next) ((well, tt), refl)));
      }

  -- for its caller it does no more
  pub hands_on : (slot : Slot) (s w : Tokens) → IsForCaller t c (s.state i).number (shake_of slot) → Does r (Fire i slot) s w → Hands slot s w
  hands_on slot s w for (v, row, lies, by, leads) = of_kind (pass.1 here)
    where
      fires : firing (Share t) (s.state i) slot ≡ Some row
      fires = ap (λ x. firing_of x (s.state i) slot) (sym share) ∙ by

      pass : (row.takes ≡ slot) × PassesIf t c (s.state i).number row
      pass = passing t c two (s.state i) slot row fires

      here : IsForCaller t c (s.state i).number (shake_of row.takes)
      here = subst (λ (x : Slot). IsForCaller t c (s.state i).number (shake_of x)) (sym pass.0) for

      next : row.next v ≡ at Rest c
      next = next_rests t c two (s.state i) slot row v fires for

      in_so : (j : ℕ) (k : Contact) → slice_get (contacts_of t) j ≡ Some k → (role : Role) → k.role ≡ role
          → Handed (caller_number t c j) j (way_taken role) v slot s w → Hands slot s w
      in_so j k at_j role same done = inward j k v at_j (subst (λ (x : Role). Handed (caller_number t c j) j (way_taken x) v slot s w) (sym same) done)

      out_so : (j : ℕ) (k : Contact) → slice_get (contacts_of t) j ≡ Some k → (role : Role) → k.role ≡ role
          → Handed j (caller_number t c j) (way_put role) v slot s w → Hands slot s w
      out_so j k at_j role same done = outward j k v at_j (subst (λ (x : Role). Handed j (caller_number t c j) (way_put x) v slot s w) (sym same) done)

      of_kind : Passes t c row → Hands slot s w
      of_kind (j, Serve, (k, at_j, role), inl (takes, puts)) =
          in_so j k at_j Serve role (handed (caller_number t c j) j Request v slot s w row lies by pass.0 leads next takes (puts v))
      of_kind (j, Serve, (k, at_j, role), inr (takes, puts)) =
          out_so j k at_j Serve role (handed j (caller_number t c j) Answer v slot s w row lies by pass.0 leads next takes (puts v))
      of_kind (j, Ask, (k, at_j, role), inl (takes, puts)) =
          out_so j k at_j Ask role (handed j (caller_number t c j) Request v slot s w row lies by pass.0 leads next takes (puts v))
      of_kind (j, Ask, (k, at_j, role), inr (takes, puts)) =
          in_so j k at_j Ask role (handed (caller_number t c j) j Answer v slot s w row lies by pass.0 leads next takes (puts v))

  -- what it takes of its source comes out of the plan
  pub source_way : (slot : Slot) (k : Contact) (s w : Tokens) → slice_get (contacts_of t) (shake_of slot) ≡ Some k → Does r (Fire i slot) s w → way_of slot ≡ way_put k.role
  source_way slot k s w at_j (v, fired_row, lies, by, leads) =
      let fires : firing (Share t) (s.state i) slot ≡ Some fired_row = ap (λ x. firing_of x (s.state i) slot) (sym share) ∙ by in
      let roles = row_roles (Share t) (s.state i) slot fired_row v fires in
      let role = subst (λ (x : Slot). RoleIs (Share t) (shake_of x) (role_taking x)) roles.0 roles.1.0 in
      let there : slice_get (part_contacts (Share t)) (shake_of slot) ≡ Some (turned_contact k) =
      source_at t (shake_of slot) k at_j
      in
      way_to_take slot ∙ (ap way_taken (sym (role (turned_contact k) there)) ∙ turned_way k.role)
    where
      turned_way : (role : Role) → way_taken (turned role) ≡ way_put role
      turned_way Serve = refl
      turned_way Ask = refl

module _ (i : ℕ) (t : Type') (c : ℕ) (r p : Plan) (is : IsBehind i t c r p) where
  -- where a token of the Share lies: at its source, or at its caller
  pub data Where (h : ℕ) : Type 0 where
    at_source : (k : Contact) → slice_get (contacts_of t) h ≡ Some k → Where h
    at_caller : (j : ℕ) (k : Contact) → slice_get (contacts_of t) j ≡ Some k → h ≡ caller_number t c j → Where h

  pub lies_where : (h : ℕ) (way : Direction) (v : ℕ) (s : Tokens) → token_at r s (PartEnd i h) way ≡ Some v → Where h
  lies_where h way v s lies = by_place (places_of r (PartEnd i h)) refl
    where
      of_end : (d : End) → Owned t p d → PartEnd i h ≡ end_behind i d → Where h
      of_end (PartEnd l g) own same = let e : i ≡ l = cc same in absurd (not_share i t c r p is.frame l own (sym e))
      of_end (ImportEnd l g) own same = absurd (cc same)
      of_end (ResultEnd g) own same =
          let e : h ≡ g = cc same in
          let (k, at_g) = element_at (contacts_of t) g own in at_source k (ap (slice_get (contacts_of t)) e ∙ at_g)

      of_caller : (j : ℕ) (k : Contact) → slice_get (contacts_of t) j ≡ Some k → PartEnd i h ≡ caller_end i t c j → Where h
      of_caller j k at_j same = at_caller j k at_j (cc same)

      asks_so : (j : ℕ) (k : Contact) → slice_get (contacts_of t) j ≡ Some k → (role : Role) → PartEnd i h ≡ asker i t c j role → Where h
      asks_so j k at_j Serve same = absurd (cc same)
      asks_so j k at_j Ask same = of_caller j k at_j same

      serves_so : (j : ℕ) (k : Contact) → slice_get (contacts_of t) j ≡ Some k → (role : Role) → PartEnd i h ≡ server i t c j role → Where h
      serves_so j k at_j Serve same = of_caller j k at_j same
      serves_so j k at_j Ask same = absurd (cc same)

      of_from : From i t c r p is (PartEnd i h) → Where h
      of_from (of_inner d own stands same) = of_end d own same
      of_from (of_asker j k at_j same) = asks_so j k at_j k.role same
      of_from (of_server j k at_j same) = serves_so j k at_j k.role same

      by_place : (o : Option End) → places_of r (PartEnd i h) ≡ o → Where h
      by_place None none = absurd (nothing_there r (PartEnd i h) way v s lies none)
      by_place (Some a) there = of_from (from_place i t c r p is (PartEnd i h) a there)
