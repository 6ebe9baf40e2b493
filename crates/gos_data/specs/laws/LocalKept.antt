-- The gates of a local variable keep the laws.
--
-- Read first: Local; Passing; Inversion of gos_plan.
use Rattle.std.proofs.Common.{◌≡◌, inl, inr, ℕ, zero, suc, ◌+◌, ◌-◌, ◌≤◌, List, [], ◌∷◌, ◌++◌, refl, sym, ap, ◌∙◌, subst, arith}
use Rattle.std.specs.Prelude.{nat_eq, if◌then◌else◌}
use Rattle.gos_netlist.specs.Settling.{Numbers}
use Rattle.gos_netlist.specs.Settling as nets
use Rattle.gos_types.specs.Widths.{IsWidth}
use Rattle.gos_plan.specs.Kinds.{Local}
use Rattle.gos_plan.specs.Firing.{Phase, Rest, Active, State, Slot, Req, Ans, Token, Row, row, at, put}
use Rattle.gos_macro.specs.Gates.{Incoming, Settled, Bare, Bearing, pulse_in, value_in, Shows, SameTokens, held}
use Rattle.gos_plan.specs.Firings.{due, value_due, Asked, Fires, times}
use Rattle.gos_macro.specs.Law.{PulsesComeIn, Fired, GatesLaw}
use Rattle.gos_plan.specs.laws.Inversion.{by_one_row, by_three_rows}
use Rattle.gos_macro.specs.laws.Passing.{repeated, buffered, let_through, bears, due_append, value_append, due_held, no_value_held, same_tokens}
use Rattle.gos_data.specs.laws.StoredKept.{stored_is_kept}
use Rattle.gos_data.specs.Local.{variable_cells, local_cells, local_outs, local_late, local_pending, IsLocalPhase, LocalStands}

-- the rows
abbrev entry_row : Row
entry_row = row (Req 3) (at Active 0) (λ v. put (Req 0) 0)

abbrev read_row : ℕ → Row
read_row n = row (Req 1) (at Active n) (λ v. put (Ans 1) n)

abbrev write_row : Row
write_row = record { takes = Req 2; next = λ a. at Active a; puts = λ a. put (Ans 2) 0 ∷ [] }

abbrev end_row : ℕ → Row
end_row n = row (Ans 0) (at Rest n) (put (Ans 3))

-- what a list of reads and ends puts, and where it leads, from the number n, where the body answers y
record Counts (n y : ℕ) (fs : List Slot) (r : State) (ts : List Token) : Type 0 where
  asked : due 0 ts ≡ 0
  read : due 1 ts ≡ times (Req 1) fs
  value : value_due 1 ts ≡ repeated (times (Req 1) fs) n
  written : due 2 ts ≡ 0
  ended : due 3 ts ≡ times (Ans 0) fs
  answer : value_due 3 ts ≡ repeated (times (Ans 0) fs) y
  kept : r.number ≡ n
  phase : IsLocalPhase r.phase

no_firing : (n y : ℕ) (p : Phase) (r : State) (ts : List Token) → IsLocalPhase p → r ≡ at p n → ts ≡ [] → Counts n y [] r ts
no_firing n y p r ts phase same none =
    record {
      asked = ap (due 0) none;
      read = ap (due 1) none;
      value = ap (value_due 1) none;
      written = ap (due 2) none;
      ended = ap (due 3) none;
      answer = ap (value_due 3) none;
      kept = ap (λ (s : State). s.number) same;
      phase = subst (λ (s : State). IsLocalPhase s.phase) (sym same) phase;
    }

counts : (w u : ℕ) (x : ℕ → ℕ) (p : Phase) (o : Asked) (n : ℕ) (fs : List Slot) (o' : Asked) (r : State) (ts : List Token)
    → IsLocalPhase p → times (Req 2) fs ≡ 0 → times (Req 3) fs ≡ 0 → Fires (Local w u) x o (at p n) fs o' r ts → Counts n (x 0) fs r ts
counts w u x Rest o n [] o' r ts phase no_write no_entry (h, same, none) = no_firing n (x 0) Rest r ts phase same none
counts w u x Active o n [] o' r ts phase no_write no_entry (h, same, none) = no_firing n (x 0) Active r ts phase same none
counts w u x Rest o n (s ∷ ss) o' r ts phase no_write no_entry fires =
    let e = by_one_row (Local w u) x o (at Rest n) entry_row s ss o' r ts refl fires in
    let wrong = subst (λ (c : Slot). times (Req 3) (c ∷ ss) ≡ 0) e.is no_entry in
    absurd (omega (arith, wrong))
counts w u x Active o n (s ∷ ss) o' r ts phase no_write no_entry fires =
    elim (by_three_rows (Local w u) x o (at Active n) (read_row n) write_row (end_row n) s ss o' r ts refl fires) [
      | inl e ↦
          (let first = subst (λ (c : Slot). times (Req 2) (c ∷ ss) ≡ 0) e.is no_write in
          let second = subst (λ (c : Slot). times (Req 3) (c ∷ ss) ≡ 0) e.is no_entry in
          let ih = counts w u x Active _ n ss o' r e.rest tt first second e.go in
          rw (e.is, e.puts)
          record {
            asked = ih.asked;
            read = ap suc ih.read;
            value = ap (λ (m : ℕ). n + m) ih.value;
            written = ih.written;
            ended = ih.ended;
            answer = ih.answer;
            kept = ih.kept;
            phase = ih.phase;
          })
      | inr later ↦
          (elim later [
            | inl e ↦
                (let wrong = subst (λ (c : Slot). times (Req 2) (c ∷ ss) ≡ 0) e.is no_write in
                absurd (omega (arith, wrong)))
            | inr e ↦
                (let first = subst (λ (c : Slot). times (Req 2) (c ∷ ss) ≡ 0) e.is no_write in
                let second = subst (λ (c : Slot). times (Req 3) (c ∷ ss) ≡ 0) e.is no_entry in
                let ih = counts w u x Rest _ n ss o' r e.rest tt first second e.go in
                rw (e.is, e.puts)
                record {
                  asked = ih.asked;
                  read = ih.read;
                  value = ih.value;
                  written = ih.written;
                  ended = ap suc ih.ended;
                  answer = ap (λ (m : ℕ). x 0 + m) ih.answer;
                  kept = ih.kept;
                  phase = ih.phase;
                })
          ])
    ]
counts w u x p o n fs o' r ts phase no_write no_entry fires = absurd phase

-- no two late slots are one, and none is early
write_is_no_read : Req 2 ≡ Req 1 → ⊥
write_is_no_read same = grind (arith, same)

write_is_no_entry : Req 2 ≡ Req 3 → ⊥
write_is_no_entry same = grind (arith, same)

write_is_no_end : Req 2 ≡ Ans 0 → ⊥
write_is_no_end same = grind (arith, same)

-- only a part at rest takes a request
no_entry_active : (w u : ℕ) (x : ℕ → ℕ) (o : Asked) (n : ℕ) (ss : List Slot) (o' : Asked) (s : State) (us : List Token)
    → Fires (Local w u) x o (at Active n) (Req 3 ∷ ss) o' s us → ⊥
no_entry_active w u x o n ss o' s us fires =
    elim (by_three_rows (Local w u) x o (at Active n) (read_row n) write_row (end_row n) (Req 3) ss o' s us refl fires) [
      | inl e ↦ grind (arith, e.is)
      | inr later ↦ (elim later [ inl e ↦ grind (arith, e.is) | inr e ↦ grind (arith, e.is) ])
    ]

-- the number behind a write of y, where a is the pulse of the write and c that of the request
abbrev next_number : ℕ → ℕ → ℕ → ℕ → ℕ
next_number a c y n = if nat_eq a 1 then y else (if nat_eq c 1 then 0 else n)

-- the late pulses, in their order
abbrev late_pulses : ℕ → ℕ → List Slot
late_pulses a c =
    if nat_eq a 1 then Req 2 ∷ (if nat_eq c 1 then Req 3 ∷ [] else []) else (if nat_eq c 1 then Req 3 ∷ [] else [])

-- what the late firings put, and where they lead
record Late (a c y n : ℕ) (s : State) (us : List Token) : Type 0 where
  puts : held (Req 0) c ++ held (Ans 2) a ≡ us
  number : s.number ≡ next_number a c y n
  phase : IsLocalPhase s.phase

late_firings : (w u : ℕ) (x : ℕ → ℕ) (o : Asked) (a c : ℕ) (p : Phase) (n : ℕ) (o' : Asked) (s : State) (us : List Token) → a ≤ 1 → c ≤ 1
    → IsLocalPhase p → Fires (Local w u) x o (at p n) (late_pulses a c) o' s us → Late a c (x 2) n s us
late_firings w u x o zero zero p n o' s us f g phase (h, same, none) =
    record {
      puts = sym none;
      number = ap (λ (r : State). r.number) same;
      phase = subst (λ (r : State). IsLocalPhase r.phase) (sym same) phase;
    }
late_firings w u x o zero (suc zero) Rest n o' s us f g phase fires =
    let e = by_one_row (Local w u) x o (at Rest n) entry_row (Req 3) [] o' s us refl fires in
    rw (e.puts, e.go.2, e.go.1) record { puts = refl; number = refl; phase = tt }
late_firings w u x o zero (suc zero) Active n o' s us f g phase fires = absurd (no_entry_active w u x o n [] o' s us fires)
late_firings w u x o zero (suc zero) p n o' s us f g phase fires = absurd phase
late_firings w u x o (suc zero) c Rest n o' s us f g phase fires =
    let e = by_one_row (Local w u) x o (at Rest n) entry_row (Req 2) _ o' s us refl fires in
    absurd (write_is_no_entry e.is)
late_firings w u x o (suc zero) zero Active n o' s us f g phase fires =
    elim (by_three_rows (Local w u) x o (at Active n) (read_row n) write_row (end_row n) (Req 2) [] o' s us refl fires) [
      | inl e ↦ absurd (write_is_no_read e.is)
      | inr later ↦
          (elim later [
            | inl e ↦ rw (e.puts, e.go.2, e.go.1) record { puts = refl; number = refl; phase = tt }
            | inr e ↦ absurd (write_is_no_end e.is)
          ])
    ]
late_firings w u x o (suc zero) (suc zero) Active n o' s us f g phase fires =
    elim (by_three_rows (Local w u) x o (at Active n) (read_row n) write_row (end_row n) (Req 2) (Req 3 ∷ []) o' s us refl fires) [
      | inl e ↦ absurd (write_is_no_read e.is)
      | inr later ↦
          (elim later [
            | inl e ↦ absurd (no_entry_active w u x _ (x 2) [] o' s e.rest e.go)
            | inr e ↦ absurd (write_is_no_end e.is)
          ])
    ]
late_firings w u x o (suc zero) zero p n o' s us f g phase fires = absurd phase
late_firings w u x o (suc zero) (suc zero) p n o' s us f g phase fires = absurd phase
late_firings w u x o (suc (suc a)) c p n o' s us f g phase fires = absurd (omega (arith, f))
late_firings w u x o a (suc (suc c)) p n o' s us f g phase fires = absurd (omega (arith, g))

-- a number that is let through where there is no request
cleared : (c n : ℕ) → c ≤ 1 → (if nat_eq (2 - 1 - c) 1 then n else 0) ≡ (if nat_eq c 1 then 0 else n)
cleared zero n small = refl
cleared (suc zero) n small = refl
cleared (suc (suc c)) n small = absurd (omega (arith, small))

-- what two registers hold is due at their handshakes alone, and has no value
due_behind_both : (j a c : ℕ) (ts : List Token) → a ≤ 1 → c ≤ 1
    → due j ((held (Req 0) c ++ held (Ans 2) a) ++ ts) ≡ (if nat_eq 0 j then c else 0) + (if nat_eq 2 j then a else 0) + due j ts
due_behind_both j a c ts f g =
    due_append j (held (Req 0) c ++ held (Ans 2) a) ts
    ∙ (λ i. (due_append j (held (Req 0) c) (held (Ans 2) a) ∙ (λ h. due_held j (Req 0) c g h + due_held j (Ans 2) a f h)) i + due j ts)

value_behind_both : (j a c : ℕ) (ts : List Token) → a ≤ 1 → c ≤ 1 → value_due j ((held (Req 0) c ++ held (Ans 2) a) ++ ts) ≡ value_due j ts
value_behind_both j a c ts f g =
    value_append j (held (Req 0) c ++ held (Ans 2) a) ts
    ∙ omega (arith, value_append j (held (Req 0) c) (held (Ans 2) a), no_value_held j (Req 0) c g, no_value_held j (Ans 2) a f)

-- what the gates do, whatever the body ends with
record Kept (w u b : ℕ) (i : Incoming) (v after : Numbers) (s : State) (ts us : List Token) : Type 0 where
  shows : Shows v 0 (Bare (b + 0) ∷ Bearing (b + 1) (b + 2) ∷ Bare (b + 3) ∷ Bare (b + 8) ∷ []) ts
  answer : value_due 3 ts ≡ repeated (pulse_in v i 0) (value_in (Local w u) v i 0)
  pending : SameTokens (local_pending b after) us
  stands : LocalStands b after s

variable_kept : (w u : ℕ) → IsWidth w → (b : ℕ) (i : Incoming) (v regs after : Numbers) (q s : State) (ts us : List Token)
    → Settled v regs after b 0 (variable_cells w b i) → PulsesComeIn (Local w u) v i → LocalStands b regs q
    → Fired (Local w u) local_late v i q s ts us → Kept w u b i v after s (local_pending b regs ++ ts) us
variable_kept w u width b i v regs after q s ts us (c0, k0, (c1, k1, (c2, k2, (c3, k3, (c4, k4, (c5, k5, (c6, k6, (c7, k7, (c8, k8, nothing))))))))) pulses stands fired =
    let x = value_in (Local w u) v i in
    let n = nets.at regs (b + 7) in
    let r0 = nets.at regs (b + 0) in
    let a2 = nets.at regs (b + 3) in
    let p2 = pulse_in v i 2 in
    let p3 = pulse_in v i 3 in
    let here : q ≡ at q.phase n = λ j. record { phase = q.phase; number = stands.number j } in
    let sooner = subst (λ (r : State). Fires (Local w u) x fired.before r fired.list fired.between fired.state ts) here fired.sooner in
    let known = counts w u x q.phase fired.before n fired.list fired.between fired.state ts stands.phase (fired.exactly (Req 2)) (fired.exactly (Req 3)) sooner in
    let between : fired.state ≡ at fired.state.phase n = λ j. record { phase = fired.state.phase; number = known.kept j } in
    let later = subst (λ (r : State). Fires (Local w u) x fired.between r (late_pulses p2 p3) fired.behind s us) between fired.later in
    let late = late_firings w u x fired.between p2 p3 fired.state.phase n fired.behind s us (pulses 2 (omega arith)) (pulses 3 (omega arith)) known.phase later in
    let read = buffered _ (pulse_in v i 1) _ _ (pulses 1 (omega arith)) c1 (fired.exactly (Req 1)) known.read in
    let ended = buffered _ (pulse_in v i 0) _ _ (pulses 0 (omega arith)) c8 (fired.exactly (Ans 0)) known.ended in
    let value = let_through _ (pulse_in v i 1) n _ _ (pulses 1 (omega arith)) (c2 ∙ ap (λ (m : ℕ). if nat_eq (pulse_in v i 1) 1 then m else 0) c7) (fired.exactly (Req 1)) known.value in
    let zeroth = due_behind_both 0 a2 r0 ts stands.written stands.asked in
    let first = due_behind_both 1 a2 r0 ts stands.written stands.asked in
    let second = due_behind_both 2 a2 r0 ts stands.written stands.asked in
    let third = due_behind_both 3 a2 r0 ts stands.written stands.asked in
    let asked = stands.asked in
    let written = stands.written in
    let write_value : nets.at v (i.value 2) ≡ x 2 = sym (bears w (nets.at v (i.value 2)) width.0) in
    let stored =
    stored_is_kept w b 5 (b + 4) (i.pulse 2) (i.value 2) v regs after (c5, k5, (c6, k6, (c7, k7, tt))) in
    let left : (if nat_eq (nets.at v (b + 4)) 1 then n else 0) ≡ (if nat_eq p3 1 then 0 else n) =
    (λ j. if nat_eq (c4 j) 1 then n else 0) ∙ cleared p3 n (pulses 3 (omega arith)) in
    let next : nets.at after (b + 7) ≡ next_number p2 p3 (x 2) n =
    stored.1 ∙ (λ j. if nat_eq p2 1 then write_value j else left j) in
    record {
      shows = (
        omega (arith, zeroth, known.asked, asked),
        omega (arith, zeroth, known.asked, c0),
        (
          omega (arith, first, read.0),
          (omega (arith, first, read.1), value ∙ sym (value_behind_both 1 a2 r0 ts written asked)),
          (
            omega (arith, second, known.written, written),
            omega (arith, second, known.written, c3),
            (omega (arith, third, ended.0), omega (arith, third, ended.1), tt),
          ),
        ),
      );
      answer = value_behind_both 3 a2 r0 ts written asked ∙ (known.answer ∙ ap (λ (m : ℕ). repeated m (x 0)) (fired.exactly (Ans 0)));
      pending = same_tokens (local_pending b after) us ((λ j. held (Req 0) (k0 j) ++ held (Ans 2) (k3 j)) ∙ late.puts);
      stands =
          record {
            asked = subst (λ (m : ℕ). m ≤ 1) (sym k0) (pulses 3 (omega arith));
            written = subst (λ (m : ℕ). m ≤ 1) (sym k3) (pulses 2 (omega arith));
            number = late.number ∙ sym next;
            phase = late.phase;
          };
    }

pub local_law : (w u : ℕ) → IsWidth w → GatesLaw (Local w u) (local_cells w u) (local_outs u) local_late local_pending LocalStands
local_law w zero width b i v regs after q s ts us settled pulses values stands fired =
    let known = variable_kept w 0 width b i v regs after q s ts us settled pulses stands fired in
    (known.shows, known.pending, known.stands)
local_law w (suc u) width b i v regs after q s ts us
    (c0, k0, (c1, k1, (c2, k2, (c3, k3, (c4, k4, (c5, k5, (c6, k6, (c7, k7, (c8, k8, (c9, k9, nothing)))))))))) pulses values stands fired =
    let settled : Settled v regs after b 0 (variable_cells w b i) = (c0, k0, (c1, k1, (c2, k2, (c3, k3, (c4, k4, (c5, k5, (c6, k6, (c7, k7, (c8, k8, tt))))))))) in
    let known = variable_kept w (suc u) width b i v regs after q s ts us settled pulses stands fired in
    let first = known.shows.2 in
    let second = first.2 in
    let third = second.2 in
    let p0 = pulse_in v i 0 in
    let came = sym (bears (suc u) (nets.at v (i.value 0)) (omega arith)) in
    let shown = c9 ∙ ap (λ (a : ℕ). if nat_eq p0 1 then a else 0) came in
    let number = let_through _ p0 (value_in (Local w (suc u)) v i 0) p0 _ (pulses 0 (omega arith)) shown refl known.answer in (
      (known.shows.0, known.shows.1, (first.0, first.1, (second.0, second.1, (third.0, (third.1, number), tt)))),
      known.pending,
      known.stands,
    )
