-- What an array does in a cycle, by its rows: how its body ends, how an access ends, and what begins.
--
-- Read first: Array; Inversion of gos_plan. The body's answer is early. What comes in late is an index, then a read or a write, then
-- an entry.
use Rattle.std.proofs.Common.{◌≡◌, inl, inr, ◌⊎◌, ℕ, zero, suc, ◌≤◌, List, [], ◌∷◌, ◌++◌, refl, ap, ◌∙◌, subst, arith}
use Rattle.std.specs.Prelude.{get_or, set, replicate, nat_eq, if◌then◌else◌}
use Rattle.gos_netlist.specs.Settling.{Numbers}
use Rattle.gos_plan.specs.Kinds.{Array}
use Rattle.gos_plan.specs.Firing.{Phase, Rest, Cells, Reading, WritingTo, State, Slot, Req, Ans, Token, Row, row, at, put}
use Rattle.gos_plan.specs.Firings.{due, value_due, Asked, Fires, times}
use Rattle.gos_plan.specs.laws.Inversion.{by_one_row, by_three_rows}
use Rattle.gos_macro.specs.laws.Passing.{repeated}
use Rattle.gos_data.specs.Array.{HoldNumbers}

-- the rows
abbrev entry_row : ℕ → ℕ → Row
entry_row n k = row (Req 4) (at (Cells (replicate n 0)) k) (λ v. put (Req 0) 0)

abbrev read_row : List ℕ → ℕ → Row
read_row ns k = row (Req 2) (at (Reading ns) k) (λ v. put (Req 1) 0)

abbrev write_row : List ℕ → Row
write_row ns = record { takes = Req 3; next = λ a. at (WritingTo ns) a; puts = λ a. put (Req 1) 0 ∷ [] }

abbrev end_row : ℕ → Row
end_row k = row (Ans 0) (at Rest k) (put (Ans 4))

abbrev get_row : List ℕ → ℕ → Row
get_row ns k = row (Ans 1) (at (Cells ns) k) (λ j. put (Ans 2) (get_or ns j 0))

abbrev set_row : List ℕ → ℕ → Row
set_row ns k = record { takes = Ans 1; next = λ j. at (Cells (set ns j k)) k; puts = λ j. put (Ans 3) 0 ∷ [] }

-- the body's answer is the only one of these firings
pub record OnlyEnds (fs : List Slot) : Type 0 where
  pub index : times (Ans 1) fs ≡ 0
  pub read : times (Req 2) fs ≡ 0
  pub write : times (Req 3) fs ≡ 0
  pub entry : times (Req 4) fs ≡ 0

-- what the early firings put, where the body answers y, and where they lead from q: on, or to the end
pub record Early (y : ℕ) (q : State) (fs : List Slot) (r : State) (ts : List Token) : Type 0 where
  pub entered : due 0 ts ≡ 0
  pub asked : due 1 ts ≡ 0
  pub read : due 2 ts ≡ 0
  pub value : value_due 2 ts ≡ 0
  pub written : due 3 ts ≡ 0
  pub ended : due 4 ts ≡ times (Ans 0) fs
  pub answer : value_due 4 ts ≡ repeated (times (Ans 0) fs) y
  pub leads : (r ≡ q) ⊎ (r ≡ at Rest q.number)

goes_on : (y : ℕ) (q r : State) (ts : List Token) → r ≡ q → ts ≡ [] → Early y q [] r ts
goes_on y q r ts same none =
    record {
      entered = ap (due 0) none;
      asked = ap (due 1) none;
      read = ap (due 2) none;
      value = ap (value_due 2) none;
      written = ap (due 3) none;
      ended = ap (due 4) none;
      answer = ap (value_due 4) none;
      leads = inl same;
    }

-- an array at rest takes an entry alone, and one that waits for an index takes this alone
rest_takes : (w n u : ℕ) (x : ℕ → ℕ) (o : Asked) (k : ℕ) (s : Slot) (ss : List Slot) (o' : Asked) (r : State) (ts : List Token)
    → Fires (Array w n u) x o (at Rest k) (s ∷ ss) o' r ts → s ≡ Req 4
rest_takes w n u x o k s ss o' r ts fires = (by_one_row (Array w n u) x o (at Rest k) (entry_row n k) s ss o' r ts refl fires).is

reading_takes : (w n u : ℕ) (x : ℕ → ℕ) (o : Asked) (ns : List ℕ) (k : ℕ) (s : Slot) (ss : List Slot) (o' : Asked) (r : State) (ts : List Token)
    → Fires (Array w n u) x o (at (Reading ns) k) (s ∷ ss) o' r ts → s ≡ Ans 1
reading_takes w n u x o ns k s ss o' r ts fires =
    (by_one_row (Array w n u) x o (at (Reading ns) k) (get_row ns k) s ss o' r ts refl fires).is

writing_takes : (w n u : ℕ) (x : ℕ → ℕ) (o : Asked) (ns : List ℕ) (k : ℕ) (s : Slot) (ss : List Slot) (o' : Asked) (r : State) (ts : List Token)
    → Fires (Array w n u) x o (at (WritingTo ns) k) (s ∷ ss) o' r ts → s ≡ Ans 1
writing_takes w n u x o ns k s ss o' r ts fires =
    (by_one_row (Array w n u) x o (at (WritingTo ns) k) (set_row ns k) s ss o' r ts refl fires).is

-- so it takes none of the body's answers
rest_stays : (w n u : ℕ) (x : ℕ → ℕ) (o : Asked) (k : ℕ) (fs : List Slot) (o' : Asked) (r : State) (ts : List Token) → times (Req 4) fs ≡ 0
    → Fires (Array w n u) x o (at Rest k) fs o' r ts → (fs ≡ []) × (r ≡ at Rest k) × (ts ≡ [])
rest_stays w n u x o k [] o' r ts no_entry (h, same, none) = (refl, same, none)
rest_stays w n u x o k (s ∷ ss) o' r ts no_entry fires =
    let wrong = subst (λ (c : Slot). times (Req 4) (c ∷ ss) ≡ 0) (rest_takes w n u x o k s ss o' r ts fires) no_entry in
    absurd (omega (arith, wrong))

-- the body ends, and nothing comes behind it
ends : (y : ℕ) (q r : State) (s : Slot) (ss : List Slot) (ts us : List Token) → s ≡ Ans 0 → ss ≡ [] → r ≡ at Rest q.number → ts ≡ put (Ans 4) y ∷ us → us ≡ []
    → Early y q (s ∷ ss) r ts
ends y q r s ss ts us is last leads puts none =
    let all : ts ≡ put (Ans 4) y ∷ [] = puts ∙ ap (λ (vs : List Token). put (Ans 4) y ∷ vs) none in
    rw (is, last, all)
    record {
      entered = refl;
      asked = refl;
      read = refl;
      value = refl;
      written = refl;
      ended = refl;
      answer = refl;
      leads = inr leads;
    }

pub early : (w n u : ℕ) (x : ℕ → ℕ) (b : ℕ) (regs : Numbers) (p : Phase) (o : Asked) (k : ℕ) (fs : List Slot) (o' : Asked) (r : State) (ts : List Token)
    → HoldNumbers n b regs p → OnlyEnds fs → Fires (Array w n u) x o (at p k) fs o' r ts → Early (x 0) (at p k) fs r ts
early w n u x b regs Rest o k fs o' r ts numbers only fires =
    let known = rest_stays w n u x o k fs o' r ts only.entry fires in
    rw (known.0) (goes_on (x 0) (at Rest k) r ts known.1 known.2)
early w n u x b regs (Cells ns) o k [] o' r ts numbers only (h, same, none) = goes_on (x 0) (at (Cells ns) k) r ts same none
early w n u x b regs (Cells ns) o k (s ∷ ss) o' r ts numbers only fires =
    elim (by_three_rows (Array w n u) x o (at (Cells ns) k) (read_row ns k) (write_row ns) (end_row k) s ss o' r ts refl fires) [
      | inl e ↦
          (let wrong = subst (λ (c : Slot). times (Req 2) (c ∷ ss) ≡ 0) e.is only.read in
          absurd (omega (arith, wrong)))
      | inr later ↦
          (elim later [
            | inl e ↦
                (let wrong = subst (λ (c : Slot). times (Req 3) (c ∷ ss) ≡ 0) e.is only.write in
                absurd (omega (arith, wrong)))
            | inr e ↦
                (let no_entry = subst (λ (c : Slot). times (Req 4) (c ∷ ss) ≡ 0) e.is only.entry in
                let known = rest_stays w n u x _ k ss o' r e.rest no_entry e.go in
                ends (x 0) (at (Cells ns) k) r s ss ts e.rest e.is known.0 known.1 e.puts known.2)
          ])
    ]
early w n u x b regs (Reading ns) o k [] o' r ts numbers only (h, same, none) = goes_on (x 0) (at (Reading ns) k) r ts same none
early w n u x b regs (Reading ns) o k (s ∷ ss) o' r ts numbers only fires =
    let wrong = subst (λ (c : Slot). times (Ans 1) (c ∷ ss) ≡ 0) (reading_takes w n u x o ns k s ss o' r ts fires) only.index in
    absurd (omega (arith, wrong))
early w n u x b regs (WritingTo ns) o k [] o' r ts numbers only (h, same, none) = goes_on (x 0) (at (WritingTo ns) k) r ts same none
early w n u x b regs (WritingTo ns) o k (s ∷ ss) o' r ts numbers only fires =
    let wrong = subst (λ (c : Slot). times (Ans 1) (c ∷ ss) ≡ 0) (writing_takes w n u x o ns k s ss o' r ts fires) only.index in
    absurd (omega (arith, wrong))
early w n u x b regs p o k fs o' r ts numbers only fires = absurd numbers

-- The late pulses, in their order: a is that of the index, c of a read, d of a write, and e of an entry.
abbrev pub entry_pulse : ℕ → List Slot
entry_pulse e = if nat_eq e 1 then Req 4 ∷ [] else []

abbrev pub write_pulses : (d e : ℕ) → List Slot
write_pulses d e = if nat_eq d 1 then Req 3 ∷ entry_pulse e else entry_pulse e

abbrev pub begin_pulses : (c d e : ℕ) → List Slot
begin_pulses c d e = if nat_eq c 1 then Req 2 ∷ write_pulses d e else write_pulses d e

abbrev pub late_pulses : (a c d e : ℕ) → List Slot
late_pulses a c d e = if nat_eq a 1 then Ans 1 ∷ begin_pulses c d e else begin_pulses c d e

-- What begins behind an access, in the phase p with the number k, where y comes with a write: nothing, a read, a write, or an entry.
-- So the state s is reached, and us is put.
abbrev pub Begun : (c d e n y : ℕ) → Phase → (k : ℕ) → State → List Token → Type 0
Begun zero zero zero n y p k s us = (s ≡ at p k) × (us ≡ [])
Begun (suc zero) zero zero n y (Cells ns) k s us = (s ≡ at (Reading ns) k) × (us ≡ put (Req 1) 0 ∷ [])
Begun zero (suc zero) zero n y (Cells ns) k s us = (s ≡ at (WritingTo ns) y) × (us ≡ put (Req 1) 0 ∷ [])
Begun zero zero (suc zero) n y Rest k s us = (s ≡ at (Cells (replicate n 0)) k) × (us ≡ put (Req 0) 0 ∷ [])
Begun c d e n y p k s us = ⊥

-- where an index alone is taken, nothing begins
abbrev TakesIndex : (w n u : ℕ) → (ℕ → ℕ) → State → Type 0
TakesIndex w n u x q =
    (o : Asked) (s : Slot) (ss : List Slot) (o' : Asked) (r : State) (ts : List Token) → Fires (Array w n u) x o q (s ∷ ss) o' r ts → s ≡ Ans 1

no_request : (h : ℕ) → Req h ≡ Ans 1 → ⊥
no_request h same = grind (arith, same)

record Waits (c d e : ℕ) (q s : State) (us : List Token) : Type 0 where
  read : c ≡ 0
  write : d ≡ 0
  entry : e ≡ 0
  stays : s ≡ q
  puts : us ≡ []

waits : (w n u : ℕ) (x : ℕ → ℕ) (o : Asked) (c d e : ℕ) (q : State) (o' : Asked) (s : State) (us : List Token) → c ≤ 1 → d ≤ 1 → e ≤ 1
    → TakesIndex w n u x q → Fires (Array w n u) x o q (begin_pulses c d e) o' s us → Waits c d e q s us
waits w n u x o zero zero zero q o' s us f g h takes (same, stays, none) = record { read = refl; write = refl; entry = refl; stays = stays; puts = none }
waits w n u x o zero zero (suc zero) q o' s us f g h takes fires = absurd (no_request 4 (takes o (Req 4) [] o' s us fires))
waits w n u x o zero (suc zero) e q o' s us f g h takes fires = absurd (no_request 3 (takes o (Req 3) (entry_pulse e) o' s us fires))
waits w n u x o (suc zero) d e q o' s us f g h takes fires = absurd (no_request 2 (takes o (Req 2) (write_pulses d e) o' s us fires))
waits w n u x o (suc (suc c)) d e q o' s us f g h takes fires = absurd (omega (arith, f))
waits w n u x o c (suc (suc d)) e q o' s us f g h takes fires = absurd (omega (arith, g))
waits w n u x o c d (suc (suc e)) q o' s us f g h takes fires = absurd (omega (arith, h))

still_waits : (c d e n y : ℕ) (p : Phase) (k : ℕ) (s : State) (us : List Token) → Waits c d e (at p k) s us → Begun c d e n y p k s us
still_waits zero zero zero n y p k s us known = (known.stays, known.puts)
still_waits (suc c) d e n y p k s us known = absurd (let none = known.read in omega (arith, none))
still_waits c (suc d) e n y p k s us known = absurd (let none = known.write in omega (arith, none))
still_waits c d (suc e) n y p k s us known = absurd (let none = known.entry in omega (arith, none))

-- from rest an entry alone begins
rest_begins : (w n u : ℕ) (x : ℕ → ℕ) (o : Asked) (c d e k : ℕ) (o' : Asked) (s : State) (us : List Token) → c ≤ 1 → d ≤ 1 → e ≤ 1
    → Fires (Array w n u) x o (at Rest k) (begin_pulses c d e) o' s us → Begun c d e n (x 3) Rest k s us
rest_begins w n u x o zero zero zero k o' s us f g h (same, stays, none) = (stays, none)
rest_begins w n u x o zero zero (suc zero) k o' s us f g h fires =
    let e = by_one_row (Array w n u) x o (at Rest k) (entry_row n k) (Req 4) [] o' s us refl fires in
    (e.go.1, e.puts ∙ ap (λ (vs : List Token). put (Req 0) 0 ∷ vs) e.go.2)
rest_begins w n u x o zero (suc zero) e k o' s us f g h fires = absurd (grind (arith, rest_takes w n u x o k (Req 3) (entry_pulse e) o' s us fires))
rest_begins w n u x o (suc zero) d e k o' s us f g h fires = absurd (grind (arith, rest_takes w n u x o k (Req 2) (write_pulses d e) o' s us fires))
rest_begins w n u x o (suc (suc c)) d e k o' s us f g h fires = absurd (omega (arith, f))
rest_begins w n u x o c (suc (suc d)) e k o' s us f g h fires = absurd (omega (arith, g))
rest_begins w n u x o c d (suc (suc e)) k o' s us f g h fires = absurd (omega (arith, h))

-- with numbers a read or a write begins, and no entry; behind it an index alone is taken
reads : (w n u : ℕ) (x : ℕ → ℕ) (o : Asked) (d e : ℕ) (ns : List ℕ) (k : ℕ) (o' : Asked) (s : State) (us vs : List Token) → d ≤ 1 → e ≤ 1
    → us ≡ put (Req 1) 0 ∷ vs → Fires (Array w n u) x o (at (Reading ns) k) (write_pulses d e) o' s vs → Begun 1 d e n (x 3) (Cells ns) k s us
reads w n u x o d e ns k o' s us vs g h puts fires = by_none d e (known.write) (known.entry)
  where
    known : Waits 0 d e (at (Reading ns) k) s vs
    known = waits w n u x o 0 d e (at (Reading ns) k) o' s vs (omega arith) g h (λ o s ss o' r ts. reading_takes w n u x o ns k s ss o' r ts) fires

    by_none : (d e : ℕ) → d ≡ 0 → e ≡ 0 → Begun 1 d e n (x 3) (Cells ns) k s us
    by_none zero zero no_write no_entry = (known.stays, puts ∙ ap (λ (ts : List Token). put (Req 1) 0 ∷ ts) known.puts)
    by_none (suc d) e no_write no_entry = absurd (omega (arith, no_write))
    by_none d (suc e) no_write no_entry = absurd (omega (arith, no_entry))

writes : (w n u : ℕ) (x : ℕ → ℕ) (o : Asked) (e : ℕ) (ns : List ℕ) (k : ℕ) (o' : Asked) (s : State) (us vs : List Token) → e ≤ 1
    → us ≡ put (Req 1) 0 ∷ vs → Fires (Array w n u) x o (at (WritingTo ns) (x 3)) (entry_pulse e) o' s vs → Begun 0 1 e n (x 3) (Cells ns) k s us
writes w n u x o e ns k o' s us vs h puts fires = by_none e known.entry
  where
    known : Waits 0 0 e (at (WritingTo ns) (x 3)) s vs
    known = waits w n u x o 0 0 e (at (WritingTo ns) (x 3)) o' s vs (omega arith) (omega arith) h (λ o s ss o' r ts. writing_takes w n u x o ns (x 3) s ss o' r ts) fires

    by_none : (e : ℕ) → e ≡ 0 → Begun 0 1 e n (x 3) (Cells ns) k s us
    by_none zero no_entry = (known.stays, puts ∙ ap (λ (ts : List Token). put (Req 1) 0 ∷ ts) known.puts)
    by_none (suc e) no_entry = absurd (omega (arith, no_entry))

pub cells_begin : (w n u : ℕ) (x : ℕ → ℕ) (o : Asked) (c d e : ℕ) (ns : List ℕ) (k : ℕ) (o' : Asked) (s : State) (us : List Token) → c ≤ 1 → d ≤ 1 → e ≤ 1
    → Fires (Array w n u) x o (at (Cells ns) k) (begin_pulses c d e) o' s us → Begun c d e n (x 3) (Cells ns) k s us
cells_begin w n u x o zero zero zero ns k o' s us f g h (same, stays, none) = (stays, none)
cells_begin w n u x o zero zero (suc zero) ns k o' s us f g h fires =
    elim (by_three_rows (Array w n u) x o (at (Cells ns) k) (read_row ns k) (write_row ns) (end_row k) (Req 4) [] o' s us refl fires) [
      | inl e ↦ absurd (grind (arith, e.is))
      | inr later ↦ (elim later [ inl e ↦ absurd (grind (arith, e.is)) | inr e ↦ absurd (grind (arith, e.is)) ])
    ]
cells_begin w n u x o zero (suc zero) e ns k o' s us f g h fires =
    elim (by_three_rows (Array w n u) x o (at (Cells ns) k) (read_row ns k) (write_row ns) (end_row k) (Req 3) (entry_pulse e) o' s us refl fires) [
      | inl r ↦ absurd (grind (arith, r.is))
      | inr later ↦ (elim later [ inl r ↦ writes w n u x _ e ns k o' s us r.rest h r.puts r.go | inr r ↦ absurd (grind (arith, r.is)) ])
    ]
cells_begin w n u x o (suc zero) d e ns k o' s us f g h fires =
    elim (by_three_rows (Array w n u) x o (at (Cells ns) k) (read_row ns k) (write_row ns) (end_row k) (Req 2) (write_pulses d e) o' s us refl fires) [
      | inl r ↦ reads w n u x _ d e ns k o' s us r.rest g h r.puts r.go
      | inr later ↦ (elim later [ inl r ↦ absurd (grind (arith, r.is)) | inr r ↦ absurd (grind (arith, r.is)) ])
    ]
cells_begin w n u x o (suc (suc c)) d e ns k o' s us f g h fires = absurd (omega (arith, f))
cells_begin w n u x o c (suc (suc d)) e ns k o' s us f g h fires = absurd (omega (arith, g))
cells_begin w n u x o c d (suc (suc e)) ns k o' s us f g h fires = absurd (omega (arith, h))

pub begun : (w n u : ℕ) (x : ℕ → ℕ) (b : ℕ) (regs : Numbers) (o : Asked) (c d e : ℕ) (p : Phase) (k : ℕ) (o' : Asked) (s : State) (us : List Token) → c ≤ 1 → d ≤ 1 → e ≤ 1
    → HoldNumbers n b regs p → Fires (Array w n u) x o (at p k) (begin_pulses c d e) o' s us → Begun c d e n (x 3) p k s us
begun w n u x b regs o c d e Rest k o' s us f g h numbers fires = rest_begins w n u x o c d e k o' s us f g h fires
begun w n u x b regs o c d e (Cells ns) k o' s us f g h numbers fires = cells_begin w n u x o c d e ns k o' s us f g h fires
begun w n u x b regs o c d e (Reading ns) k o' s us f g h numbers fires =
    still_waits c d e n (x 3) (Reading ns) k s us
    (waits w n u x o c d e (at (Reading ns) k) o' s us f g h (λ o s ss o' r ts. reading_takes w n u x o ns k s ss o' r ts) fires)
begun w n u x b regs o c d e (WritingTo ns) k o' s us f g h numbers fires =
    still_waits c d e n (x 3) (WritingTo ns) k s us
    (waits w n u x o c d e (at (WritingTo ns) k) o' s us f g h (λ o s ss o' r ts. writing_takes w n u x o ns k s ss o' r ts) fires)
begun w n u x b regs o c d e p k o' s us f g h numbers fires = absurd numbers

-- How an access ends: a number is read or written, vs is put, and the other late pulses are fired from the phase r with the
-- number m.
pub record Ended (w n u : ℕ) (x : ℕ → ℕ) (c d e : ℕ) (r : Phase) (m : ℕ) (o' : Asked) (s : State) (us vs : List Token) : Type 0 where
  pub before : Asked
  pub behind : List Token
  pub puts : us ≡ vs ++ behind
  pub go : Fires (Array w n u) x before (at r m) (begin_pulses c d e) o' s behind

-- only where an index is awaited one comes
abbrev pub AccessEnds : (w n u : ℕ) → (ℕ → ℕ) → (c d e : ℕ) → Phase → (k : ℕ) → Asked → State → List Token → Type 0
AccessEnds w n u x c d e (Reading ns) k o' s us = Ended w n u x c d e (Cells ns) k o' s us (put (Ans 2) (get_or ns (x 1) 0) ∷ [])
AccessEnds w n u x c d e (WritingTo ns) k o' s us = Ended w n u x c d e (Cells (set ns (x 1) k)) k o' s us (put (Ans 3) 0 ∷ [])
AccessEnds w n u x c d e p k o' s us = ⊥

pub access_ends : (w n u : ℕ) (x : ℕ → ℕ) (b : ℕ) (regs : Numbers) (o : Asked) (c d e : ℕ) (p : Phase) (k : ℕ) (o' : Asked) (s : State) (us : List Token)
    → HoldNumbers n b regs p → Fires (Array w n u) x o (at p k) (Ans 1 ∷ begin_pulses c d e) o' s us → AccessEnds w n u x c d e p k o' s us
access_ends w n u x b regs o c d e Rest k o' s us numbers fires = absurd (grind (arith, rest_takes w n u x o k (Ans 1) (begin_pulses c d e) o' s us fires))
access_ends w n u x b regs o c d e (Cells ns) k o' s us numbers fires =
    elim (by_three_rows (Array w n u) x o (at (Cells ns) k) (read_row ns k) (write_row ns) (end_row k) (Ans 1) (begin_pulses c d e) o' s us refl fires) [
      | inl r ↦ absurd (grind (arith, r.is))
      | inr later ↦ (elim later [ inl r ↦ absurd (grind (arith, r.is)) | inr r ↦ absurd (grind (arith, r.is)) ])
    ]
access_ends w n u x b regs o c d e (Reading ns) k o' s us numbers fires =
    let r = by_one_row (Array w n u) x o (at (Reading ns) k) (get_row ns k) (Ans 1) (begin_pulses c d e) o' s us refl fires in
    record { before = _; behind = r.rest; puts = r.puts; go = r.go }
access_ends w n u x b regs o c d e (WritingTo ns) k o' s us numbers fires =
    let r = by_one_row (Array w n u) x o (at (WritingTo ns) k) (set_row ns k) (Ans 1) (begin_pulses c d e) o' s us refl fires in
    record { before = _; behind = r.rest; puts = r.puts; go = r.go }
access_ends w n u x b regs o c d e p k o' s us numbers fires = absurd numbers
