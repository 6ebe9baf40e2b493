-- What the part Local does: the row by which it fires, phase by phase. So it is a server of a variable (`local_is_server`).
use Rattle.std.specs.Prelude.{◌≡◌, ℕ, zero, suc, Bool, true, false, List, [], ◌∷◌, Some, nat_eq, slice_get, if◌then◌else◌}
use Rattle.std.proofs.Common.{arith, refl, sym, ap, subst, inl, inr, ◌∙◌}
use Rattle.std.proofs.lemmas.Option.{none-some, same_Some}
use Rattle.gos_types.specs.Types.{Var}
use Rattle.gos_types.specs.Events.{Request}
use Rattle.gos_plan.specs.Kinds.{Contact, Local, serves, contacts_of}
use Rattle.gos_plan.specs.Firing.{Phase, Rest, Active, State, Slot, Req, Ans, Token, Row, at, put, row, rows, row_for, firing}
use Rattle.gos_plan.specs.Tokens.{way_of, way_taken, shake_of}
use Rattle.gos_plan.specs.laws.Inversion.{first_or_later, no_row}
use Rattle.gos_nodes.specs.blocks.Servers.{Server, Serves, ServerRow, begins, serves_one, ends, serve_row, is_active, local_server}
use Rattle.gos_nodes.specs.blocks.SmallServers.{LocalIsServer}
use Rattle.gos_nodes.proofs.blocks.ServerLemmas.{request_slot}

abbrev pub begin_row : Row
begin_row = row (Req 3) (at Active 0) (λ v. put (Req 0) 0)

abbrev pub read_row : ℕ → Row
read_row n = row (Req 1) (at Active n) (λ v. put (Ans 1) n)

abbrev pub write_row : Row
write_row = record { takes = Req 2; next = λ a. at Active a; puts = λ a. put (Ans 2) 0 ∷ [] }

abbrev pub end_row : ℕ → Row
end_row n = row (Ans 0) (at Rest n) (put (Ans 3))

pub data LocalRow (ph : Phase) (n : ℕ) (slot : Slot) (w : Row) : Type 0 where
  starts : ph ≡ Rest → slot ≡ Req 3 → w ≡ begin_row → LocalRow ph n slot w
  reads : ph ≡ Active → slot ≡ Req 1 → w ≡ read_row n → LocalRow ph n slot w
  writes : ph ≡ Active → slot ≡ Req 2 → w ≡ write_row → LocalRow ph n slot w
  stops : ph ≡ Active → slot ≡ Ans 0 → w ≡ end_row n → LocalRow ph n slot w

pub local_row : (u v : ℕ) (ph : Phase) (n : ℕ) (slot : Slot) (w : Row) → row_for slot (rows (Local u v) ph n) ≡ Some w → LocalRow ph n slot w
local_row u v Rest n slot w e =
    elim (first_or_later begin_row w [] slot e) [ inl one ↦ starts refl (sym one.0) (sym one.1) | inr none ↦ absurd (no_row w slot none) ]
local_row u v Active n slot w e =
    elim (first_or_later (read_row n) w (write_row ∷ end_row n ∷ []) slot e) [
      | inl one ↦ reads refl (sym one.0) (sym one.1)
      | inr others ↦
          elim (first_or_later write_row w (end_row n ∷ []) slot others) [
            | inl one ↦ writes refl (sym one.0) (sym one.1)
            | inr last ↦
                elim (first_or_later (end_row n) w [] slot last) [ inl one ↦ stops refl (sym one.0) (sym one.1) | inr none ↦ absurd (no_row w slot none) ]
          ]
    ]
local_row u v ph n slot w e = absurd (no_row w slot e)

-- its phases
pub active_runs : (ph : Phase) → ph ≡ Active → is_active ph ≡ true
active_runs ph active = ap is_active active

pub runs_active : (ph : Phase) → is_active ph ≡ true → ph ≡ Active
runs_active Active e = refl
runs_active ph e = absurd (cc e)

-- a handshake that is asked and answered at once is shut again
shut_again : (t : Bool) → false ≡ (if t then false else (if t then true else false))
shut_again true = refl
shut_again false = refl

-- a read and a write are what it serves
read_served : (w v : ℕ) (q : State) (slot : Slot) (x : Row) → q.phase ≡ Active → slot ≡ Req 1 → x ≡ read_row q.number → Serves (local_server w v) q slot x
read_served w v q slot x active is_slot is_x =
    record {
      at = 0;
      back = 0;
      taken = serves 0 w;
      given = serves 0 w;
      reply = Ans 1;
      number = λ a. q.number;
      next = λ a. at Active q.number;
      is_row = is_x ∙ ap (λ (s : Slot). serve_row s (Ans 1) (λ a. q.number) (λ a. at Active q.number)) (sym is_slot);
      at_there = refl;
      takes_at = ap shake_of is_slot;
      takes = ap way_of is_slot;
      back_there = refl;
      puts_at = refl;
      puts = refl;
      fits = λ n asks. absurd (cc asks);
      running = active_runs q.phase active;
      stays = λ a. refl;
      turn = refl;
      opened = λ a h. shut_again (nat_eq 0 h);
    }

write_served : (w v : ℕ) (q : State) (slot : Slot) (x : Row) → q.phase ≡ Active → slot ≡ Req 2 → x ≡ write_row → Serves (local_server w v) q slot x
write_served w v q slot x active is_slot is_x =
    record {
      at = 1;
      back = 1;
      taken = serves w 0;
      given = serves w 0;
      reply = Ans 2;
      number = λ a. 0;
      next = λ a. at Active a;
      is_row = is_x ∙ ap (λ (s : Slot). serve_row s (Ans 2) (λ a. 0) (λ a. at Active a)) (sym is_slot);
      at_there = refl;
      takes_at = ap shake_of is_slot;
      takes = ap way_of is_slot;
      back_there = refl;
      puts_at = refl;
      puts = refl;
      fits = λ n asks. absurd (cc asks);
      running = active_runs q.phase active;
      stays = λ a. refl;
      turn = refl;
      opened = λ a h. shut_again (nat_eq 1 h);
    }

-- the row that is known in a phase
pub local_firing : (w v : ℕ) (q : State) (slot : Slot) (x : Row) (ph : Phase) → q.phase ≡ ph → row_for slot (rows (Local w v) ph q.number) ≡ Some x
    → firing (Local w v) q slot ≡ Some x
local_firing w v q slot x ph phase known = subst (λ (p : Phase). row_for slot (rows (Local w v) p q.number) ≡ Some x) (sym phase) known

-- each request for the variable finds a row
serves_all : (w v : ℕ) (q : State) (slot : Slot) (h : ℕ) (c : Contact) → is_active q.phase ≡ true → slice_get (contacts_of (Var w)) h ≡ Some c → shake_of slot ≡ suc h
    → way_of slot ≡ way_taken c.role → (x : Row) × (firing (Local w v) q slot ≡ Some x)
serves_all w v q slot zero c active there shake way =
    let asks : way_of slot ≡ Request = way ∙ ap (λ (d : Contact). way_taken d.role) (sym (same_Some (serves 0 w) c there)) in
    let is_slot : slot ≡ Req 1 = request_slot slot asks ∙ ap Req shake in
    (read_row q.number, ap (firing (Local w v) q) is_slot ∙ local_firing w v q (Req 1) (read_row q.number) Active (runs_active q.phase active) refl)
serves_all w v q slot (suc zero) c active there shake way =
    let asks : way_of slot ≡ Request = way ∙ ap (λ (d : Contact). way_taken d.role) (sym (same_Some (serves w 0) c there)) in
    let is_slot : slot ≡ Req 2 = request_slot slot asks ∙ ap Req shake in
    (write_row, ap (firing (Local w v) q) is_slot ∙ local_firing w v q (Req 2) write_row Active (runs_active q.phase active) refl)
serves_all w v q slot (suc (suc h)) c active there shake way = absurd (none-some c there)

pub local_is_server : LocalIsServer
local_is_server w v =
    record {
      contacts = refl;
      rests = refl;
      closed = λ q h none. refl;
      turns = λ q active. refl;
      rows = λ q slot x by. of_row q slot x (local_row w v q.phase q.number slot x by);
      begun = λ q rest. (begin_row, local_firing w v q (Req 3) begin_row Rest rest refl);
      served = λ q slot h c active there shake way turn keeps. serves_all w v q slot h c active there shake way;
      ended = λ q active none. (end_row q.number, local_firing w v q (Ans 0) (end_row q.number) Active (runs_active q.phase active) refl);
    }
  where
    of_row : (q : State) (slot : Slot) (x : Row) → LocalRow q.phase q.number slot x → ServerRow (local_server w v) q slot x
    of_row q slot x (starts rest is_slot is_x) = begins (λ a. at Active 0) rest is_slot is_x (λ a. refl) (λ a h. refl)
    of_row q slot x (reads active is_slot is_x) = serves_one (read_served w v q slot x active is_slot is_x)
    of_row q slot x (writes active is_slot is_x) = serves_one (write_served w v q slot x active is_slot is_x)
    of_row q slot x (stops active is_slot is_x) = ends (λ a. at Rest q.number) (active_runs q.phase active) is_slot is_x (λ a. refl) (λ h. refl)

-- the first of some tokens
abbrev first_slot : List Token → Slot
first_slot [] = Req 0
first_slot (t ∷ ts) = t.slot

abbrev first_value : List Token → ℕ
first_value [] = 0
first_value (t ∷ ts) = t.value

-- What a row by which it serves is: a read, or a write.
pub data LocalServes (a : Server) (q : State) (slot : Slot) (x : Row) (e : Serves a q slot x) : Type 0 where
  is_read :
      q.phase ≡ Active → slot ≡ Req 1 → e.at ≡ 0 → e.back ≡ 0 → ((n : ℕ) → e.number n ≡ q.number) → ((n : ℕ) → e.next n ≡ at Active q.number)
      → LocalServes a q slot x e
  is_write :
      q.phase ≡ Active → slot ≡ Req 2 → e.at ≡ 1 → e.back ≡ 1 → ((n : ℕ) → e.number n ≡ 0) → ((n : ℕ) → e.next n ≡ at Active n)
      → LocalServes a q slot x e

module _ (a : Server) (w v : ℕ) (local : a ≡ local_server w v) (q : State) (slot : Slot) (x : Row) (by : firing a.part q slot ≡ Some x) where
  abbrev Has : Type 0
  Has = LocalRow q.phase q.number slot x

  has_row : Has
  has_row = local_row w v q.phase q.number slot x (sym (ap (λ (c : Server). firing c.part q slot) local) ∙ by)

  clash : Rest ≡ Active → ⊥
  clash same = cc same

  -- at rest it begins
  pub local_begins : q.phase ≡ Rest → x ≡ begin_row
  local_begins rest = of_row has_row
    where
      of_row : Has → x ≡ begin_row
      of_row (starts at_rest is_slot is_x) = is_x
      of_row (reads active is_slot is_x) = absurd (clash (sym rest ∙ active))
      of_row (writes active is_slot is_x) = absurd (clash (sym rest ∙ active))
      of_row (stops active is_slot is_x) = absurd (clash (sym rest ∙ active))

  pub local_active : a.runs q.phase ≡ true → q.phase ≡ Active
  local_active runs = runs_active q.phase (sym (ap (λ (c : Server). c.runs q.phase) local) ∙ runs)

  pub local_serves : (e : Serves a q slot x) → LocalServes a q slot x e
  local_serves e = of_row has_row
    where
      put_there : (reply other : Slot) (n m : ℕ) → put reply n ∷ [] ≡ put other m ∷ [] → (reply ≡ other) × (n ≡ m)
      put_there reply other n m same = (ap first_slot same, ap first_value same)

      puts_one : (y : Row) → x ≡ y → (n : ℕ) → y.puts n ≡ put e.reply (e.number n) ∷ []
      puts_one y is_y n = ap (λ (z : Row). z.puts n) (sym is_y ∙ e.is_row)

      next_one : (y : Row) → x ≡ y → (n : ℕ) → e.next n ≡ y.next n
      next_one y is_y n = ap (λ (z : Row). z.next n) (sym e.is_row ∙ is_y)

      shake_is : (s : Slot) → slot ≡ s → suc e.at ≡ shake_of s
      shake_is s same = sym e.takes_at ∙ ap shake_of same

      back_is : (s : Slot) → s ≡ e.reply → suc e.back ≡ shake_of s
      back_is s same = sym e.puts_at ∙ ap shake_of (sym same)

      of_row : Has → LocalServes a q slot x e
      of_row (starts rest is_slot is_x) = absurd (clash (sym rest ∙ local_active e.running))
      of_row (reads active is_slot is_x) =
          let reply = (put_there (Ans 1) e.reply q.number (e.number 0) (puts_one (read_row q.number) is_x 0)).0 in
          let first = shake_is (Req 1) is_slot in
          let last = back_is (Ans 1) reply in
          is_read active is_slot (omega (arith, first)) (omega (arith, last))
          (λ n. sym (put_there (Ans 1) e.reply q.number (e.number n) (puts_one (read_row q.number) is_x n)).1)
          (λ n. next_one (read_row q.number) is_x n)
      of_row (writes active is_slot is_x) =
          let reply = (put_there (Ans 2) e.reply 0 (e.number 0) (puts_one write_row is_x 0)).0 in
          let first = shake_is (Req 2) is_slot in
          let last = back_is (Ans 2) reply in
          is_write active is_slot (omega (arith, first)) (omega (arith, last))
          (λ n. sym (put_there (Ans 2) e.reply 0 (e.number n) (puts_one write_row is_x n)).1)
          (λ n. next_one write_row is_x n)
      of_row (stops active is_slot is_x) = let bad = shake_is (Ans 0) is_slot in absurd (omega (arith, bad))
