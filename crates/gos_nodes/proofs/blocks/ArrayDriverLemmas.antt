-- What the part Array does: the row by which it fires, phase by phase. So it is a server of an array (`array_is_server`).
use Rattle.std.specs.Prelude.{◌≡◌, ◌≢◌, ℕ, zero, suc, Bool, true, false, List, [], ◌∷◌, Some, nat_eq, get_or, set, replicate, slice_get, if◌then◌else◌}
use Rattle.std.proofs.Common.{arith, refl, sym, ap, subst, inl, inr, ◌∙◌}
use Rattle.std.proofs.lemmas.Bool.{ne_eqb}
use Rattle.std.proofs.lemmas.Option.{none-some, same_Some}
use Rattle.gos_types.specs.Events.{Request, Answer}
use Rattle.gos_model.specs.Typing.{index_width, array_type}
use Rattle.gos_plan.specs.Kinds.{Contact, Array, asks, serves, contacts_of}
use Rattle.gos_plan.specs.Firing.{Phase, Rest, Cells, Reading, WritingTo, State, Slot, Req, Ans, Token, Row, at, put, row, rows, row_for, firing}
use Rattle.gos_plan.specs.Tokens.{way_of, way_taken, shake_of}
use Rattle.gos_plan.specs.laws.Inversion.{first_or_later, no_row}
use Rattle.gos_realises.specs.realises.Regular.{KeepsTurnsOf}
use Rattle.gos_nodes.specs.blocks.Servers.{Server, after_pass, FindsTurn, Serves, ServerRow, begins, serves_one, ends, serve_row, array_runs, array_opened, array_server}
use Rattle.gos_nodes.specs.blocks.SmallServers.{ArrayIsServer}
use Rattle.gos_nodes.proofs.blocks.ServerLemmas.{request_slot, answer_slot}

abbrev pub begin_row : ℕ → ℕ → Row
begin_row k n = row (Req 4) (at (Cells (replicate k 0)) n) (λ v. put (Req 0) 0)

abbrev pub read_row : List ℕ → ℕ → Row
read_row ns n = row (Req 2) (at (Reading ns) n) (λ v. put (Req 1) 0)

abbrev pub write_row : List ℕ → Row
write_row ns = record { takes = Req 3; next = λ a. at (WritingTo ns) a; puts = λ a. put (Req 1) 0 ∷ [] }

abbrev pub end_row : ℕ → Row
end_row n = row (Ans 0) (at Rest n) (put (Ans 4))

abbrev pub told_row : List ℕ → ℕ → Row
told_row ns n = row (Ans 1) (at (Cells ns) n) (λ j. put (Ans 2) (get_or ns j 0))

abbrev pub put_row : List ℕ → ℕ → Row
put_row ns a = record { takes = Ans 1; next = λ j. at (Cells (set ns j a)) a; puts = λ j. put (Ans 3) 0 ∷ [] }

pub data ArrayRow (k : ℕ) (ph : Phase) (n : ℕ) (slot : Slot) (x : Row) : Type 0 where
  starts : ph ≡ Rest → slot ≡ Req 4 → x ≡ begin_row k n → ArrayRow k ph n slot x
  reads : (ns : List ℕ) → ph ≡ Cells ns → slot ≡ Req 2 → x ≡ read_row ns n → ArrayRow k ph n slot x
  writes : (ns : List ℕ) → ph ≡ Cells ns → slot ≡ Req 3 → x ≡ write_row ns → ArrayRow k ph n slot x
  stops : (ns : List ℕ) → ph ≡ Cells ns → slot ≡ Ans 0 → x ≡ end_row n → ArrayRow k ph n slot x
  reads_at : (ns : List ℕ) → ph ≡ Reading ns → slot ≡ Ans 1 → x ≡ told_row ns n → ArrayRow k ph n slot x
  writes_at : (ns : List ℕ) → ph ≡ WritingTo ns → slot ≡ Ans 1 → x ≡ put_row ns n → ArrayRow k ph n slot x

pub array_row : (w k v : ℕ) (ph : Phase) (n : ℕ) (slot : Slot) (x : Row) → row_for slot (rows (Array w k v) ph n) ≡ Some x → ArrayRow k ph n slot x
array_row w k v Rest n slot x e =
    elim (first_or_later (begin_row k n) x [] slot e) [ inl one ↦ starts refl (sym one.0) (sym one.1) | inr none ↦ absurd (no_row x slot none) ]
array_row w k v (Cells ns) n slot x e =
    elim (first_or_later (read_row ns n) x (write_row ns ∷ end_row n ∷ []) slot e) [
      | inl one ↦ reads ns refl (sym one.0) (sym one.1)
      | inr others ↦
          elim (first_or_later (write_row ns) x (end_row n ∷ []) slot others) [
            | inl one ↦ writes ns refl (sym one.0) (sym one.1)
            | inr last ↦
                elim (first_or_later (end_row n) x [] slot last) [ inl one ↦ stops ns refl (sym one.0) (sym one.1) | inr none ↦ absurd (no_row x slot none) ]
          ]
    ]
array_row w k v (Reading ns) n slot x e =
    elim (first_or_later (told_row ns n) x [] slot e) [ inl one ↦ reads_at ns refl (sym one.0) (sym one.1) | inr none ↦ absurd (no_row x slot none) ]
array_row w k v (WritingTo ns) n slot x e =
    elim (first_or_later (put_row ns n) x [] slot e) [ inl one ↦ writes_at ns refl (sym one.0) (sym one.1) | inr none ↦ absurd (no_row x slot none) ]
array_row w k v ph n slot x e = absurd (no_row x slot e)

-- which phases are of which sort
shut_in : (ph : Phase) (h : ℕ) → array_runs ph ≡ false → array_opened ph h ≡ false
shut_in (Cells ns) h e = refl
shut_in (Reading ns) h e = absurd (cc e)
shut_in (WritingTo ns) h e = absurd (cc e)
shut_in ph h e = refl

keeps_in : (ph : Phase) (k w : ℕ) → array_runs ph ≡ true → KeepsTurnsOf (array_type k w) (array_opened ph)
keeps_in (Cells ns) k w e = (tt, refl, λ h. absurd (cc h))
keeps_in (Reading ns) k w e = (tt, refl, λ h. refl)
keeps_in (WritingTo ns) k w e = (tt, refl, λ h. refl)
keeps_in ph k w e = absurd (cc e)

-- what of the array is open, from service to service
other_shake : (k n : ℕ) → k ≢ n → nat_eq k n ≡ false
other_shake = ne_eqb

neither : (b c x y z : Bool) → b ≡ false → c ≡ false → z ≡ (if b then x else if c then y else z)
neither false false x y z e f = refl
neither true c x y z e f = absurd (cc e)
neither false true x y z e f = absurd (cc f)

at_neither : (k n h : ℕ) (x y z : Bool) → k ≢ h → n ≢ h → z ≡ (if nat_eq k h then x else if nat_eq n h then y else z)
at_neither k n h x y z not_k not_n = neither (nat_eq k h) (nat_eq n h) x y z (other_shake k h not_k) (other_shake n h not_n)

read_opens : (ns : List ℕ) (h : ℕ) → array_opened (Reading ns) h ≡ after_pass 0 Request (after_pass 1 Request (array_opened (Cells ns))) h
read_opens ns zero = refl
read_opens ns (suc zero) = refl
read_opens ns (suc (suc h)) = at_neither 0 1 (suc (suc h)) true true false (λ e. omega (arith, e)) (λ e. omega (arith, e))

write_opens : (ns : List ℕ) (h : ℕ) → array_opened (WritingTo ns) h ≡ after_pass 0 Request (after_pass 2 Request (array_opened (Cells ns))) h
write_opens ns zero = refl
write_opens ns (suc zero) = refl
write_opens ns (suc (suc zero)) = refl
write_opens ns (suc (suc (suc h))) = at_neither 0 2 (suc (suc (suc h))) true true false (λ e. omega (arith, e)) (λ e. omega (arith, e))

read_shuts : (ns : List ℕ) (h : ℕ) → false ≡ after_pass 1 Answer (after_pass 0 Answer (array_opened (Reading ns))) h
read_shuts ns zero = refl
read_shuts ns (suc zero) = refl
read_shuts ns (suc (suc h)) = at_neither 1 0 (suc (suc h)) false false false (λ e. omega (arith, e)) (λ e. omega (arith, e))

write_shuts : (ns : List ℕ) (h : ℕ) → false ≡ after_pass 2 Answer (after_pass 0 Answer (array_opened (WritingTo ns))) h
write_shuts ns zero = refl
write_shuts ns (suc zero) = refl
write_shuts ns (suc (suc zero)) = refl
write_shuts ns (suc (suc (suc h))) = at_neither 2 0 (suc (suc (suc h))) false false false (λ e. omega (arith, e)) (λ e. omega (arith, e))

module _ (w k v : ℕ) (q : State) (slot : Slot) (x : Row) where
  abbrev a : Server
  a = array_server w k v

  -- a read and a write ask for the index
  read_served : (ns : List ℕ) → q.phase ≡ Cells ns → slot ≡ Req 2 → x ≡ read_row ns q.number → Serves a q slot x
  read_served ns phase is_slot is_x =
      record {
        at = 1;
        back = 0;
        taken = serves 0 w;
        given = asks 0 (index_width k);
        reply = Req 1;
        number = λ n. 0;
        next = λ n. at (Reading ns) q.number;
        is_row = is_x ∙ ap (λ (s : Slot). serve_row s (Req 1) (λ n. 0) (λ n. at (Reading ns) q.number)) (sym is_slot);
        at_there = refl;
        takes_at = ap shake_of is_slot;
        takes = ap way_of is_slot;
        back_there = refl;
        puts_at = refl;
        puts = refl;
        fits = λ n asks. omega arith;
        running = ap array_runs phase;
        stays = λ n. refl;
        turn = ap (λ (p : Phase). array_opened p 0) phase;
        opened = λ n h. read_opens ns h ∙ ap (λ (p : Phase). after_pass 0 Request (after_pass 1 Request (array_opened p)) h) (sym phase);
      }

  write_served : (ns : List ℕ) → q.phase ≡ Cells ns → slot ≡ Req 3 → x ≡ write_row ns → Serves a q slot x
  write_served ns phase is_slot is_x =
      record {
        at = 2;
        back = 0;
        taken = serves w 0;
        given = asks 0 (index_width k);
        reply = Req 1;
        number = λ n. 0;
        next = λ n. at (WritingTo ns) n;
        is_row = is_x ∙ ap (λ (s : Slot). serve_row s (Req 1) (λ n. 0) (λ n. at (WritingTo ns) n)) (sym is_slot);
        at_there = refl;
        takes_at = ap shake_of is_slot;
        takes = ap way_of is_slot;
        back_there = refl;
        puts_at = refl;
        puts = refl;
        fits = λ n asks. omega arith;
        running = ap array_runs phase;
        stays = λ n. refl;
        turn = ap (λ (p : Phase). array_opened p 0) phase;
        opened = λ n h. write_opens ns h ∙ ap (λ (p : Phase). after_pass 0 Request (after_pass 2 Request (array_opened p)) h) (sym phase);
      }

  -- and end with it
  told_served : (ns : List ℕ) → q.phase ≡ Reading ns → slot ≡ Ans 1 → x ≡ told_row ns q.number → Serves a q slot x
  told_served ns phase is_slot is_x =
      record {
        at = 0;
        back = 1;
        taken = asks 0 (index_width k);
        given = serves 0 w;
        reply = Ans 2;
        number = λ n. get_or ns n 0;
        next = λ n. at (Cells ns) q.number;
        is_row = is_x ∙ ap (λ (s : Slot). serve_row s (Ans 2) (λ n. get_or ns n 0) (λ n. at (Cells ns) q.number)) (sym is_slot);
        at_there = refl;
        takes_at = ap shake_of is_slot;
        takes = ap way_of is_slot;
        back_there = refl;
        puts_at = refl;
        puts = refl;
        fits = λ n asks. absurd (cc asks);
        running = ap array_runs phase;
        stays = λ n. refl;
        turn = ap (λ (p : Phase). array_opened p 1) phase;
        opened = λ n h. read_shuts ns h ∙ ap (λ (p : Phase). after_pass 1 Answer (after_pass 0 Answer (array_opened p)) h) (sym phase);
      }

  put_served : (ns : List ℕ) → q.phase ≡ WritingTo ns → slot ≡ Ans 1 → x ≡ put_row ns q.number → Serves a q slot x
  put_served ns phase is_slot is_x =
      record {
        at = 0;
        back = 2;
        taken = asks 0 (index_width k);
        given = serves w 0;
        reply = Ans 3;
        number = λ n. 0;
        next = λ n. at (Cells (set ns n q.number)) q.number;
        is_row = is_x ∙ ap (λ (s : Slot). serve_row s (Ans 3) (λ n. 0) (λ n. at (Cells (set ns n q.number)) q.number)) (sym is_slot);
        at_there = refl;
        takes_at = ap shake_of is_slot;
        takes = ap way_of is_slot;
        back_there = refl;
        puts_at = refl;
        puts = refl;
        fits = λ n asks. absurd (cc asks);
        running = ap array_runs phase;
        stays = λ n. refl;
        turn = ap (λ (p : Phase). array_opened p 2) phase;
        opened = λ n h. write_shuts ns h ∙ ap (λ (p : Phase). after_pass 2 Answer (after_pass 0 Answer (array_opened p)) h) (sym phase);
      }

  array_firing : (ph : Phase) → q.phase ≡ ph → row_for slot (rows (Array w k v) ph q.number) ≡ Some x → firing (Array w k v) q slot ≡ Some x
  array_firing ph phase known = subst (λ (p : Phase). row_for slot (rows (Array w k v) p q.number) ≡ Some x) (sym phase) known

-- a token finds a row where it comes in turn
module _ (w k v : ℕ) (q : State) where
  abbrev Finds : Slot → Type 0
  Finds slot = (x : Row) × (firing (Array w k v) q slot ≡ Some x)

  index_found : (ph : Phase) → q.phase ≡ ph → array_opened ph 0 ≡ true → Finds (Ans 1)
  index_found (Reading ns) phase up = (told_row ns q.number, array_firing w k v q (Ans 1) (told_row ns q.number) (Reading ns) phase refl)
  index_found (WritingTo ns) phase up = (put_row ns q.number, array_firing w k v q (Ans 1) (put_row ns q.number) (WritingTo ns) phase refl)
  index_found ph phase up = absurd (cc up)

  read_found : (ph : Phase) → q.phase ≡ ph → array_runs ph ≡ true → array_opened ph 1 ≡ false
      → KeepsTurnsOf (array_type k w) (after_pass 1 Request (array_opened ph)) → Finds (Req 2)
  read_found (Cells ns) phase runs shut keeps = (read_row ns q.number, array_firing w k v q (Req 2) (read_row ns q.number) (Cells ns) phase refl)
  read_found (Reading ns) phase runs shut keeps = absurd (cc shut)
  read_found (WritingTo ns) phase runs shut keeps = absurd (cc keeps.1)
  read_found ph phase runs shut keeps = absurd (cc runs)

  write_found : (ph : Phase) → q.phase ≡ ph → array_runs ph ≡ true → array_opened ph 2 ≡ false
      → KeepsTurnsOf (array_type k w) (after_pass 2 Request (array_opened ph)) → Finds (Req 3)
  write_found (Cells ns) phase runs shut keeps = (write_row ns, array_firing w k v q (Req 3) (write_row ns) (Cells ns) phase refl)
  write_found (WritingTo ns) phase runs shut keeps = absurd (cc shut)
  write_found (Reading ns) phase runs shut keeps = absurd (cc keeps.1)
  write_found ph phase runs shut keeps = absurd (cc runs)

  end_found : (ph : Phase) → q.phase ≡ ph → array_runs ph ≡ true → array_opened ph 0 ≡ false → Finds (Ans 0)
  end_found (Cells ns) phase runs shut = (end_row q.number, array_firing w k v q (Ans 0) (end_row q.number) (Cells ns) phase refl)
  end_found (Reading ns) phase runs shut = absurd (cc shut)
  end_found (WritingTo ns) phase runs shut = absurd (cc shut)
  end_found ph phase runs shut = absurd (cc runs)

  serves_all : (slot : Slot) (h : ℕ) (c : Contact) → array_runs q.phase ≡ true → slice_get (contacts_of (array_type k w)) h ≡ Some c → shake_of slot ≡ suc h
      → way_of slot ≡ way_taken c.role → FindsTurn h (way_taken c.role) (array_opened q.phase)
      → KeepsTurnsOf (array_type k w) (after_pass h (way_taken c.role) (array_opened q.phase)) → Finds slot
  serves_all slot zero c runs there shake way turn keeps =
      let is_c = same_Some (asks 0 (index_width k)) c there in
      let answers : way_of slot ≡ Answer = way ∙ ap (λ (d : Contact). way_taken d.role) (sym is_c) in
      let is_slot : slot ≡ Ans 1 = answer_slot slot answers ∙ ap Ans shake in
      let up : array_opened q.phase 0 ≡ true = subst (λ (d : Contact). FindsTurn 0 (way_taken d.role) (array_opened q.phase)) (sym is_c) turn in
      subst Finds (sym is_slot) (index_found q.phase refl up)
  serves_all slot (suc zero) c runs there shake way turn keeps =
      let is_c = same_Some (serves 0 w) c there in
      let requests : way_of slot ≡ Request = way ∙ ap (λ (d : Contact). way_taken d.role) (sym is_c) in
      let is_slot : slot ≡ Req 2 = request_slot slot requests ∙ ap Req shake in
      let shut : array_opened q.phase 1 ≡ false = subst (λ (d : Contact). FindsTurn 1 (way_taken d.role) (array_opened q.phase)) (sym is_c) turn in
      subst Finds (sym is_slot)
      (read_found q.phase refl runs shut
      (subst (λ (d : Contact). KeepsTurnsOf (array_type k w) (after_pass 1 (way_taken d.role) (array_opened q.phase))) (sym is_c) keeps))
  serves_all slot (suc (suc zero)) c runs there shake way turn keeps =
      let is_c = same_Some (serves w 0) c there in
      let requests : way_of slot ≡ Request = way ∙ ap (λ (d : Contact). way_taken d.role) (sym is_c) in
      let is_slot : slot ≡ Req 3 = request_slot slot requests ∙ ap Req shake in
      let shut : array_opened q.phase 2 ≡ false = subst (λ (d : Contact). FindsTurn 2 (way_taken d.role) (array_opened q.phase)) (sym is_c) turn in
      subst Finds (sym is_slot)
      (write_found q.phase refl runs shut
      (subst (λ (d : Contact). KeepsTurnsOf (array_type k w) (after_pass 2 (way_taken d.role) (array_opened q.phase))) (sym is_c) keeps))
  serves_all slot (suc (suc (suc h))) c runs there shake way turn keeps = absurd (none-some c there)

pub array_is_server : ArrayIsServer
array_is_server w k v =
    record {
      contacts = refl;
      rests = refl;
      closed = λ q h none. shut_in q.phase h none;
      turns = λ q runs. keeps_in q.phase k w runs;
      rows = λ q slot x by. of_row q slot x (array_row w k v q.phase q.number slot x by);
      begun = λ q rest. (begin_row k q.number, array_firing w k v q (Req 4) (begin_row k q.number) Rest rest refl);
      served = λ q slot h c runs there shake way turn keeps. serves_all w k v q slot h c runs there shake way turn keeps;
      ended = λ q runs none. end_found w k v q q.phase refl runs (none 0 (asks 0 (index_width k)) refl);
    }
  where
    of_row : (q : State) (slot : Slot) (x : Row) → ArrayRow k q.phase q.number slot x → ServerRow (array_server w k v) q slot x
    of_row q slot x (starts rest is_slot is_x) = begins (λ n. at (Cells (replicate k 0)) q.number) rest is_slot is_x (λ n. refl) (λ n h. refl)
    of_row q slot x (reads ns phase is_slot is_x) = serves_one (read_served w k v q slot x ns phase is_slot is_x)
    of_row q slot x (writes ns phase is_slot is_x) = serves_one (write_served w k v q slot x ns phase is_slot is_x)
    of_row q slot x (reads_at ns phase is_slot is_x) = serves_one (told_served w k v q slot x ns phase is_slot is_x)
    of_row q slot x (writes_at ns phase is_slot is_x) = serves_one (put_served w k v q slot x ns phase is_slot is_x)
    of_row q slot x (stops ns phase is_slot is_x) =
        ends (λ n. at Rest q.number) (ap array_runs phase) is_slot is_x (λ n. refl) (λ h. ap (λ (p : Phase). array_opened p h) phase)

-- the first of some tokens
abbrev first_slot : List Token → Slot
first_slot [] = Req 0
first_slot (t ∷ ts) = t.slot

abbrev first_value : List Token → ℕ
first_value [] = 0
first_value (t ∷ ts) = t.value

-- What a row by which it serves is: a read or a write begins, or ends with its index.
pub data ArrayServes (a : Server) (q : State) (slot : Slot) (x : Row) (e : Serves a q slot x) : Type 0 where
  is_read :
      (ns : List ℕ) → q.phase ≡ Cells ns → e.at ≡ 1 → e.back ≡ 0 → ((n : ℕ) → e.number n ≡ 0) → ((n : ℕ) → e.next n ≡ at (Reading ns) q.number)
      → ArrayServes a q slot x e
  is_write :
      (ns : List ℕ) → q.phase ≡ Cells ns → e.at ≡ 2 → e.back ≡ 0 → ((n : ℕ) → e.number n ≡ 0) → ((n : ℕ) → e.next n ≡ at (WritingTo ns) n)
      → ArrayServes a q slot x e
  is_told :
      (ns : List ℕ) → q.phase ≡ Reading ns → e.at ≡ 0 → e.back ≡ 1 → ((n : ℕ) → e.number n ≡ get_or ns n 0) → ((n : ℕ) → e.next n ≡ at (Cells ns) q.number)
      → ArrayServes a q slot x e
  is_put :
      (ns : List ℕ) → q.phase ≡ WritingTo ns → e.at ≡ 0 → e.back ≡ 2 → ((n : ℕ) → e.number n ≡ 0)
      → ((n : ℕ) → e.next n ≡ at (Cells (set ns n q.number)) q.number) → ArrayServes a q slot x e

module _ (a : Server) (w k v : ℕ) (array : a ≡ array_server w k v) (q : State) (slot : Slot) (x : Row) (by : firing a.part q slot ≡ Some x) where
  abbrev Has : Type 0
  Has = ArrayRow k q.phase q.number slot x

  pub has_row : Has
  has_row = array_row w k v q.phase q.number slot x (sym (ap (λ (c : Server). firing c.part q slot) array) ∙ by)

  rest_not_cells : (ns : List ℕ) → Rest ≡ Cells ns → ⊥
  rest_not_cells ns e = cc e

  rest_not_reading : (ns : List ℕ) → Rest ≡ Reading ns → ⊥
  rest_not_reading ns e = cc e

  rest_not_writing : (ns : List ℕ) → Rest ≡ WritingTo ns → ⊥
  rest_not_writing ns e = cc e

  -- at rest it begins
  pub array_begins : q.phase ≡ Rest → x ≡ begin_row k q.number
  array_begins rest = of_row has_row
    where
      of_row : Has → x ≡ begin_row k q.number
      of_row (starts at_rest is_slot is_x) = is_x
      of_row (reads ns phase is_slot is_x) = absurd (rest_not_cells ns (sym rest ∙ phase))
      of_row (writes ns phase is_slot is_x) = absurd (rest_not_cells ns (sym rest ∙ phase))
      of_row (stops ns phase is_slot is_x) = absurd (rest_not_cells ns (sym rest ∙ phase))
      of_row (reads_at ns phase is_slot is_x) = absurd (rest_not_reading ns (sym rest ∙ phase))
      of_row (writes_at ns phase is_slot is_x) = absurd (rest_not_writing ns (sym rest ∙ phase))

  pub array_ends : slot ≡ Ans 0 → (ns : List ℕ) × (q.phase ≡ Cells ns)
  array_ends ends_at = of_row has_row
    where
      of_row : Has → (ns : List ℕ) × (q.phase ≡ Cells ns)
      of_row (starts at_rest is_slot is_x) = let bad : Ans 0 ≡ Req 4 = sym ends_at ∙ is_slot in absurd (cc bad)
      of_row (reads ns phase is_slot is_x) = (ns, phase)
      of_row (writes ns phase is_slot is_x) = (ns, phase)
      of_row (stops ns phase is_slot is_x) = (ns, phase)
      of_row (reads_at ns phase is_slot is_x) = let bad = ap shake_of (sym ends_at ∙ is_slot) in absurd (omega (arith, bad))
      of_row (writes_at ns phase is_slot is_x) = let bad = ap shake_of (sym ends_at ∙ is_slot) in absurd (omega (arith, bad))

  pub array_serves : (e : Serves a q slot x) → ArrayServes a q slot x e
  array_serves e = of_row has_row
    where
      running : array_runs q.phase ≡ true
      running = sym (ap (λ (c : Server). c.runs q.phase) array) ∙ e.running

      put_there : (reply other : Slot) (n m : ℕ) → put reply n ∷ [] ≡ put other m ∷ [] → (reply ≡ other) × (n ≡ m)
      put_there reply other n m same = (ap first_slot same, ap first_value same)

      puts_one : (y : Row) → x ≡ y → (n : ℕ) → y.puts n ≡ put e.reply (e.number n) ∷ []
      puts_one y is_y n = ap (λ (z : Row). z.puts n) (sym is_y ∙ e.is_row)

      next_one : (y : Row) → x ≡ y → (n : ℕ) → e.next n ≡ y.next n
      next_one y is_y n = ap (λ (z : Row). z.next n) (sym e.is_row ∙ is_y)

      shake_is : (s : Slot) → slot ≡ s → suc e.at ≡ shake_of s
      shake_is s same = sym e.takes_at ∙ ap shake_of same

      back_is : (s : Slot) → s ≡ e.reply → suc e.back ≡ shake_of s
      back_is s same = sym e.puts_at ∙ ap shake_of (sym same)

      of_row : Has → ArrayServes a q slot x e
      of_row (starts rest is_slot is_x) = let bad : false ≡ true = sym (ap array_runs rest) ∙ running in absurd (cc bad)
      of_row (reads ns phase is_slot is_x) =
          let first = shake_is (Req 2) is_slot in
          let last = back_is (Req 1) (put_there (Req 1) e.reply 0 (e.number 0) (puts_one (read_row ns q.number) is_x 0)).0 in
          is_read ns phase (omega (arith, first)) (omega (arith, last))
          (λ n. sym (put_there (Req 1) e.reply 0 (e.number n) (puts_one (read_row ns q.number) is_x n)).1)
          (λ n. next_one (read_row ns q.number) is_x n)
      of_row (writes ns phase is_slot is_x) =
          let first = shake_is (Req 3) is_slot in
          let last = back_is (Req 1) (put_there (Req 1) e.reply 0 (e.number 0) (puts_one (write_row ns) is_x 0)).0 in
          is_write ns phase (omega (arith, first)) (omega (arith, last))
          (λ n. sym (put_there (Req 1) e.reply 0 (e.number n) (puts_one (write_row ns) is_x n)).1)
          (λ n. next_one (write_row ns) is_x n)
      of_row (reads_at ns phase is_slot is_x) =
          let first = shake_is (Ans 1) is_slot in
          let last = back_is (Ans 2) (put_there (Ans 2) e.reply (get_or ns 0 0) (e.number 0) (puts_one (told_row ns q.number) is_x 0)).0 in
          is_told ns phase (omega (arith, first)) (omega (arith, last))
          (λ n. sym (put_there (Ans 2) e.reply (get_or ns n 0) (e.number n) (puts_one (told_row ns q.number) is_x n)).1)
          (λ n. next_one (told_row ns q.number) is_x n)
      of_row (writes_at ns phase is_slot is_x) =
          let first = shake_is (Ans 1) is_slot in
          let last = back_is (Ans 3) (put_there (Ans 3) e.reply 0 (e.number 0) (puts_one (put_row ns q.number) is_x 0)).0 in
          is_put ns phase (omega (arith, first)) (omega (arith, last))
          (λ n. sym (put_there (Ans 3) e.reply 0 (e.number n) (puts_one (put_row ns q.number) is_x n)).1)
          (λ n. next_one (put_row ns q.number) is_x n)
      of_row (stops ns phase is_slot is_x) = let bad = shake_is (Ans 0) is_slot in absurd (omega (arith, bad))
