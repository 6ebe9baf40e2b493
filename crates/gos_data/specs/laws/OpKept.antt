-- The gates of an operator keep the laws.
--
-- Read first: Op; Passing; Inversion of gos_plan.
use Rattle.std.proofs.Common.{◌≡◌, ◌≢◌, inl, inr, ℕ, zero, suc, ◌+◌, ◌<◌, ◌≤◌, List, [], ◌∷◌, refl, sym, ap, ◌∙◌, subst, arith}
use Rattle.std.specs.Prelude.{nat_eq, if◌then◌else◌, bit_and, bit_or, bit_xor}
use Rattle.std.specs.List.{AllByRecursion}
use Rattle.gos_netlist.specs.Nets.{Input, pins}
use Rattle.gos_netlist.specs.Settling.{shown}
use Rattle.gos_netlist.specs.Settling as nets
use Rattle.gos_netcheck.specs.CellRules.{width_at, OperandsFit, HasRightWidths}
use Rattle.gos_types.specs.Widths.{IsWidth}
use Rattle.gos_plan.specs.Kinds.{Op, part_contacts}
use Rattle.gos_model.specs.Terms.{Op as Operation, result_of, result_width}
use Rattle.gos_model.specs.Terms as operations
use Rattle.gos_plan.specs.Firing.{Phase, Rest, Left, Right, State, Slot, Req, Ans, Token, Row, row, at, put}
use Rattle.gos_macro.specs.Gates.{Incoming, pulse_in, value_in, nothing_pending}
use Rattle.gos_plan.specs.Firings.{due, value_due, Asked, Fires, times}
use Rattle.gos_macro.specs.Law.{GatesLaw, StaySilent}
use Rattle.gos_macro.specs.Fit.{IsKnown, NameEarlier, reach_of, BitsComeIn, HaveBits, GatesFit}
use Rattle.gos_macro.specs.Kept.{KeepLawsInEachOrder}
use Rattle.gos_macro.specs.laws.AnyOrder.{law_in_order}
use Rattle.gos_plan.specs.laws.Inversion.{by_one_row}
use Rattle.gos_macro.specs.laws.Passing.{repeated, buffered, let_through, bears, same_tokens}
use Rattle.gos_data.specs.Op.{gate_of, op_cells, op_outs, awaited, IsOpPhase, OpStands}
use Rattle.gos_data.specs.laws.Silent.{silent}

-- the rows
abbrev rest_row : ℕ → Row
rest_row n = row (Req 2) (at Left n) (λ v. put (Req 0) 0)

abbrev left_row : ℕ → Row
left_row n = record { takes = Ans 0; next = λ a. at Right a; puts = λ a. put (Req 1) 0 ∷ [] }

abbrev right_row : Operation → ℕ → ℕ → Row
right_row op w a = row (Ans 1) (at Rest a) (λ b. put (Ans 2) (result_of op w a b))

-- the left number of an answer: the one held where the right one is awaited, else the one that comes
abbrev left_number : Phase → ℕ → ℕ → ℕ
left_number p n a = if nat_eq (awaited p) 1 then n else a

-- what a list of firings puts that takes each number at most once, and where it leads, from this phase with number n
record Counts (op : Operation) (w : ℕ) (x : ℕ → ℕ) (p : Phase) (n : ℕ) (fs : List Slot) (r : State) (ts : List Token) : Type 0 where
  left : due 0 ts ≡ times (Req 2) fs
  right : due 1 ts ≡ times (Ans 0) fs
  answered : due 2 ts ≡ times (Ans 1) fs
  number : value_due 2 ts ≡ repeated (times (Ans 1) fs) (result_of op w (left_number p n (x 0)) (x 1))
  kept : r.number ≡ (if nat_eq (times (Ans 0) fs) 1 then x 0 else n)
  turned : awaited r.phase + times (Ans 1) fs ≡ awaited p + times (Ans 0) fs
  phase : IsOpPhase r.phase

no_firing : (op : Operation) (w : ℕ) (x : ℕ → ℕ) (p : Phase) (n : ℕ) (r : State) (ts : List Token) → IsOpPhase p → r ≡ at p n → ts ≡ [] → Counts op w x p n [] r ts
no_firing op w x p n r ts phase same none =
    record {
      left = ap (due 0) none;
      right = ap (due 1) none;
      answered = ap (due 2) none;
      number = ap (value_due 2) none;
      kept = ap (λ (s : State). s.number) same;
      turned = ap (λ (s : State). awaited s.phase + 0) same;
      phase = subst (λ (s : State). IsOpPhase s.phase) (sym same) phase;
    }

counts : (op : Operation) (w : ℕ) (x : ℕ → ℕ) (p : Phase) (o : Asked) (n : ℕ) (fs : List Slot) (o' : Asked) (r : State) (ts : List Token)
    → IsOpPhase p → times (Ans 0) fs ≤ 1 → times (Ans 1) fs ≤ 1 → Fires (Op op w) x o (at p n) fs o' r ts → Counts op w x p n fs r ts
counts op w x Rest o n [] o' r ts phase once one (h, same, none) = no_firing op w x Rest n r ts phase same none
counts op w x Left o n [] o' r ts phase once one (h, same, none) = no_firing op w x Left n r ts phase same none
counts op w x Right o n [] o' r ts phase once one (h, same, none) = no_firing op w x Right n r ts phase same none
counts op w x Rest o n (s ∷ ss) o' r ts phase once one fires =
    let e = by_one_row (Op op w) x o (at Rest n) (rest_row n) s ss o' r ts refl fires in
    let first = subst (λ (c : Slot). times (Ans 0) (c ∷ ss) ≤ 1) e.is once in
    let second = subst (λ (c : Slot). times (Ans 1) (c ∷ ss) ≤ 1) e.is one in
    let ih = counts op w x Left _ n ss o' r e.rest tt first second e.go in
    rw (e.is, e.puts)
    record {
      left = ap suc ih.left;
      right = ih.right;
      answered = ih.answered;
      number = ih.number;
      kept = ih.kept;
      turned = ih.turned;
      phase = ih.phase;
    }
counts op w x Left o n (s ∷ ss) o' r ts phase once one fires =
    let e = by_one_row (Op op w) x o (at Left n) (left_row n) s ss o' r ts refl fires in
    let first = subst (λ (c : Slot). times (Ans 0) (c ∷ ss) ≤ 1) e.is once in
    let second = subst (λ (c : Slot). times (Ans 1) (c ∷ ss) ≤ 1) e.is one in
    let ih = counts op w x Right _ (x 0) ss o' r e.rest tt (omega (arith, first)) second e.go in
    let no_more : times (Ans 0) ss ≡ 0 = omega (arith, first) in
    let now : r.number ≡ x 0 = ih.kept ∙ (λ i. if nat_eq (no_more i) 1 then x 0 else x 0) in
    rw (e.is, e.puts)
    record {
      left = ih.left;
      right = ap suc ih.right;
      answered = ih.answered;
      number = ih.number;
      kept = now ∙ (λ i. if nat_eq (suc (sym no_more i)) 1 then x 0 else n);
      turned = omega (arith, ih.turned);
      phase = ih.phase;
    }
counts op w x Right o n (s ∷ ss) o' r ts phase once one fires =
    let e = by_one_row (Op op w) x o (at Right n) (right_row op w n) s ss o' r ts refl fires in
    let first = subst (λ (c : Slot). times (Ans 0) (c ∷ ss) ≤ 1) e.is once in
    let second = subst (λ (c : Slot). times (Ans 1) (c ∷ ss) ≤ 1) e.is one in
    let ih = counts op w x Rest _ n ss o' r e.rest tt first (omega (arith, second)) e.go in
    let no_more : times (Ans 1) ss ≡ 0 = omega (arith, second) in
    let result : ℕ → ℕ = λ a. result_of op w a (x 1) in
    let behind : value_due 2 e.rest ≡ repeated (times (Ans 1) ss) (result n) =
    ih.number ∙ (λ i. repeated (no_more i) (result (x 0))) ∙ (λ i. repeated (sym no_more i) (result n)) in
    rw (e.is, e.puts)
    record {
      left = ih.left;
      right = ih.right;
      answered = ap suc ih.answered;
      number = λ i. result n + behind i;
      kept = ih.kept;
      turned = omega (arith, ih.turned);
      phase = ih.phase;
    }
counts op w x p o n fs o' r ts phase once one fires = absurd phase

-- the register of one bit is turned by each of two pulses
turns : (s p q a : ℕ) → s ≤ 1 → p ≤ 1 → q ≤ 1 → a ≤ 1 → a + q ≡ s + p → bit_xor (bit_xor s p) q ≡ a
turns zero zero zero a f g h j adds = omega (arith, adds)
turns zero zero (suc zero) a f g h j adds = absurd (omega (arith, adds))
turns zero (suc zero) zero a f g h j adds = omega (arith, adds)
turns zero (suc zero) (suc zero) a f g h j adds = omega (arith, adds)
turns (suc zero) zero zero a f g h j adds = omega (arith, adds)
turns (suc zero) zero (suc zero) a f g h j adds = omega (arith, adds)
turns (suc zero) (suc zero) zero a f g h j adds = absurd (omega (arith, j, adds))
turns (suc zero) (suc zero) (suc zero) a f g h j adds = omega (arith, adds)
turns (suc (suc s)) p q a f g h j adds = absurd (omega (arith, f))
turns s (suc (suc p)) q a f g h j adds = absurd (omega (arith, g))
turns s p (suc (suc q)) a f g h j adds = absurd (omega (arith, h))

-- a pulse that is let through, or the same with another
absorbs : (p q : ℕ) → p ≤ 1 → q ≤ 1 → bit_or q (bit_and p q) ≡ bit_or q q
absorbs zero zero f g = refl
absorbs zero (suc zero) f g = refl
absorbs (suc zero) zero f g = refl
absorbs (suc zero) (suc zero) f g = refl
absorbs (suc (suc p)) q f g = absurd (omega (arith, f))
absorbs p (suc (suc q)) f g = absurd (omega (arith, g))

is_bit : (p : Phase) → IsOpPhase p → awaited p ≤ 1
is_bit Rest phase = omega arith
is_bit Left phase = omega arith
is_bit Right phase = omega arith
is_bit p phase = absurd phase

-- the operator's cell shows the result
computes : (op : Operation) (w a b r : ℕ) (v : ℕ → ℕ) → shown (result_width op w) (gate_of op a b) r 0 v ≡ result_of op w (v a) (v b)
computes operations.Add w a b r v = refl
computes operations.Sub w a b r v = refl
computes operations.And w a b r v = refl
computes operations.Or w a b r v = refl
computes operations.Xor w a b r v = refl
computes operations.Eq w a b r v = refl
computes operations.Less w a b r v = refl

op_law : (op : Operation) (w : ℕ) → IsWidth w → GatesLaw (Op op w) (op_cells op w) op_outs [] nothing_pending OpStands
op_law op w width b i v regs after q s ts us
    (c0, k0, (c1, k1, (c2, k2, (c3, k3, (c4, k4, (c5, k5, (c6, k6, (c7, k7, (c8, k8, (c9, k9, (c10, k10, (c11, k11, nothing)))))))))))) pulses values stands fired =
    let x = value_in (Op op w) v i in
    let p0 = pulse_in v i 0 in
    let p1 = pulse_in v i 1 in
    let small = pulses 0 (omega arith) in
    let little = pulses 1 (omega arith) in
    let r : State = fired.state in
    let once = subst (λ (m : ℕ). m ≤ 1) (sym (fired.exactly (Ans 0))) small in
    let one = subst (λ (m : ℕ). m ≤ 1) (sym (fired.exactly (Ans 1))) little in
    let known = counts op w x q.phase fired.before q.number fired.list fired.between r ts stands.phase once one fired.sooner in
    let left = buffered _ (pulse_in v i 2) _ _ (pulses 2 (omega arith)) c0 (fired.exactly (Req 2)) known.left in
    let right = buffered _ p0 _ _ small c3 (fired.exactly (Ans 0)) known.right in
    let shows_pulse : nets.at v (b + 5) ≡ bit_or p1 p1 = c5 ∙ (ap (bit_or p1) c4 ∙ absorbs p0 p1 small little) in
    let answered = buffered _ p1 _ _ little shows_pulse (fired.exactly (Ans 1)) known.answered in
    let left_value : nets.at v (i.value 0) ≡ x 0 = sym (bears w (nets.at v (i.value 0)) width.0) in
    let right_value : nets.at v (i.value 1) ≡ x 1 = sym (bears w (nets.at v (i.value 1)) width.0) in
    let waits : nets.at v (b + 6) ≡ awaited q.phase = c6 ∙ stands.waits in
    let holds : nets.at v (b + 2) ≡ q.number = c2 ∙ sym stands.number in
    let operand : nets.at v (b + 9) ≡ left_number q.phase q.number (x 0) = c9 ∙ (λ j. if nat_eq (waits j) 1 then holds j else left_value j) in
    let result : nets.at v (b + 10) ≡ result_of op w (left_number q.phase q.number (x 0)) (x 1) =
    c10 ∙ (computes op w (b + 9) (i.value 1) _ (nets.at v) ∙ (λ j. result_of op w (operand j) (right_value j))) in
    let number = let_through _ p1 (result_of op w (left_number q.phase q.number (x 0)) (x 1)) _ _ little (c11 ∙ ap (λ (a : ℕ). if nat_eq p1 1 then a else 0) result) (fired.exactly (Ans 1)) known.number in
    let turned : awaited r.phase + p1 ≡ awaited q.phase + p0 = (λ j. awaited r.phase + sym (fired.exactly (Ans 1)) j) ∙ (known.turned ∙ (λ j. awaited q.phase + fired.exactly (Ans 0) j)) in
    let shows_next : nets.at v (b + 8) ≡ bit_xor (bit_xor (awaited q.phase) p0) p1 = c8 ∙ ((λ j. bit_xor (c7 j) p1) ∙ (λ j. bit_xor (bit_xor (waits j) p0) p1)) in
    let waits_next : nets.at after (b + 6) ≡ awaited r.phase = k6 ∙ (shows_next ∙ turns (awaited q.phase) p0 p1 (awaited r.phase) (is_bit q.phase stands.phase) small little (is_bit r.phase known.phase) turned) in
    let next : nets.at after (b + 2) ≡ (if nat_eq p0 1 then x 0 else q.number) = k2 ∙ (c1 ∙ (λ j. if nat_eq p0 1 then left_value j else holds j)) in
    let kept : r.number ≡ (if nat_eq p0 1 then x 0 else q.number) = known.kept ∙ (λ j. if nat_eq (fired.exactly (Ans 0) j) 1 then x 0 else q.number) in
    let stood : OpStands b after r = record { waits = waits_next; number = kept ∙ sym next; phase = known.phase } in (
      (left.0, left.1, (right.0, right.1, (answered.0, (answered.1, number), tt))),
      same_tokens [] us (sym fired.later.2),
      subst (OpStands b after) (sym fired.later.1) stood,
    )

op_silent : (op : Operation) (w : ℕ) → StaySilent (Op op w) (op_cells op w) op_outs
op_silent op w b i v regs after
    (c0, k0, (c1, k1, (c2, k2, (c3, k3, (c4, k4, (c5, k5, (c6, k6, (c7, k7, (c8, k8, (c9, k9, (c10, k10, (c11, k11, nothing)))))))))))) pulses =
    let small = pulses 0 (omega arith) in
    let little = pulses 1 (omega arith) in
    let shows_pulse : nets.at v (b + 5) ≡ bit_or (pulse_in v i 1) (pulse_in v i 1) = c5 ∙ (ap (bit_or (pulse_in v i 1)) c4 ∙ absorbs (pulse_in v i 0) (pulse_in v i 1) small little) in
    (silent _ _ _ _ little shows_pulse c11, tt)

-- what an operator's gate names, and which widths it wants
is_gate : (op : Operation) (a b : ℕ) → gate_of op a b ≢ Input
is_gate operations.Add a b = λ same. cc same
is_gate operations.Sub a b = λ same. cc same
is_gate operations.And a b = λ same. cc same
is_gate operations.Or a b = λ same. cc same
is_gate operations.Xor a b = λ same. cc same
is_gate operations.Eq a b = λ same. cc same
is_gate operations.Less a b = λ same. cc same

names_both : (op : Operation) (a b : ℕ) → pins (gate_of op a b) ≡ a ∷ b ∷ []
names_both operations.Add a b = refl
names_both operations.Sub a b = refl
names_both operations.And a b = refl
names_both operations.Or a b = refl
names_both operations.Xor a b = refl
names_both operations.Eq a b = refl
names_both operations.Less a b = refl

operands_fit : (op : Operation) (w a b : ℕ) (bits : List ℕ) → width_at bits a ≡ w → width_at bits b ≡ w → OperandsFit bits (result_width op w) (gate_of op a b)
operands_fit operations.Add w a b bits f g = (f, g)
operands_fit operations.Sub w a b bits f g = (f, g)
operands_fit operations.And w a b bits f g = (f, g)
operands_fit operations.Or w a b bits f g = (f, g)
operands_fit operations.Xor w a b bits f g = (f, g)
operands_fit operations.Eq w a b bits f g = (f ∙ sym g, refl)
operands_fit operations.Less w a b bits f g = (f ∙ sym g, refl)

result_is_wide : (op : Operation) (w : ℕ) → IsWidth w → IsWidth (result_width op w)
result_is_wide operations.Add w width = width
result_is_wide operations.Sub w width = width
result_is_wide operations.And w width = width
result_is_wide operations.Or w width = width
result_is_wide operations.Xor w width = width
result_is_wide operations.Eq w width = (omega arith, omega arith)
result_is_wide operations.Less w width = (omega arith, omega arith)

-- the nets before an operator's gate are those that it may name
ten_or_more : (op : Operation) (a b : ℕ) → 9 < reach_of (gate_of op a b) 10 12
ten_or_more operations.Add a b = omega arith
ten_or_more operations.Sub a b = omega arith
ten_or_more operations.And a b = omega arith
ten_or_more operations.Or a b = omega arith
ten_or_more operations.Xor a b = omega arith
ten_or_more operations.Eq a b = omega arith
ten_or_more operations.Less a b = omega arith

op_order : (op : Operation) (w : ℕ) → IsWidth w → (b : ℕ) (i : Incoming) → NameEarlier (part_contacts (Op op w)) i b (op_cells op w b i) 0 (op_cells op w b i)
op_order op w width b i =
    let pulse : (h n : ℕ) → h ≤ 2 → IsKnown (part_contacts (Op op w)) i b (op_cells op w b i) n (i.pulse h) = λ h n there. inl (h, omega (arith, there), inl refl) in
    let operands = names_both op (b + 9) (i.value 1) in (
      (pulse 2 0 (omega arith), (pulse 2 0 (omega arith), tt)),
      (
        (pulse 0 1 (omega arith), (inl (0, omega arith, inr (width.0, refl)), (inr (2, _, refl, refl, inr (b + 1, refl)), tt))),
        (
          (inr (1, _, refl, refl, inl (omega arith)), tt),
          (
            (pulse 0 3 (omega arith), (pulse 0 3 (omega arith), tt)),
            (
              (pulse 0 4 (omega arith), (pulse 1 4 (omega arith), tt)),
              (
                (pulse 1 5 (omega arith), (inr (4, _, refl, refl, inl (omega arith)), tt)),
                (
                  (inr (8, _, refl, refl, inl (omega arith)), tt),
                  (
                    (inr (6, _, refl, refl, inr (b + 8, refl)), (pulse 0 7 (omega arith), tt)),
                    (
                      (inr (7, _, refl, refl, inl (omega arith)), (pulse 1 8 (omega arith), tt)),
                      (
                        (inr (6, _, refl, refl, inr (b + 8, refl)), (inr (2, _, refl, refl, inr (b + 1, refl)), (inl (0, omega arith, inr (width.0, refl)), tt))),
                        (
                          subst (λ (l : List ℕ). AllByRecursion (IsKnown (part_contacts (Op op w)) i b (op_cells op w b i) (reach_of (gate_of op (b + 9) (i.value 1)) 10 12)) l) (sym operands)
                              (inr (9, _, refl, refl, inl (ten_or_more op (b + 9) (i.value 1))), (inl (1, omega arith, inr (width.0, refl)), tt)),
                          ((pulse 1 11 (omega arith), (inr (10, _, refl, refl, inl (omega arith)), tt)), tt),
                        ),
                      ),
                    ),
                  ),
                ),
              ),
            ),
          ),
        ),
      ),
    )

op_widths : (op : Operation) (w : ℕ) → IsWidth w → (b : ℕ) (i : Incoming) (bits : List ℕ) → BitsComeIn (part_contacts (Op op w)) i bits
    → HaveBits bits b 0 (op_cells op w b i) → AllByRecursion (HasRightWidths bits) (op_cells op w b i)
op_widths op w width b i bits come (w0, (w1, (w2, (w3, (w4, (w5, (w6, (w7, (w8, (w9, (w10, (w11, nothing)))))))))))) =
    let left = come 0 (omega arith) in
    let right = come 1 (omega arith) in
    let request = (come 2 (omega arith)).0 in
    let result = result_is_wide op w width in (
      (omega arith, omega arith, (request, request)),
      (
        (width.0, width.1, (left.0, left.1 width.0, w2)),
        (
          (width.0, width.1, w1),
          (
            (omega arith, omega arith, (left.0, left.0)),
            (
              (omega arith, omega arith, (left.0, right.0)),
              (
                (omega arith, omega arith, (right.0, w4)),
                (
                  (omega arith, omega arith, w8),
                  (
                    (omega arith, omega arith, (w6, left.0)),
                    (
                      (omega arith, omega arith, (w7, right.0)),
                      (
                        (width.0, width.1, (w6, w2, left.1 width.0)),
                        (
                          (result.0, result.1, operands_fit op w (b + 9) (i.value 1) bits w9 (right.1 width.0)),
                          ((result.0, result.1, (right.0, w10)), tt),
                        ),
                      ),
                    ),
                  ),
                ),
              ),
            ),
          ),
        ),
      ),
    )

op_fits : (op : Operation) (w : ℕ) → IsWidth w → GatesFit (Op op w) (op_cells op w) op_outs
op_fits op w width =
    record {
      outgoing = λ b i. (
        (refl, (0, _, refl, refl, refl)),
        (
          (refl, (3, _, refl, refl, refl)),
          (((result_is_wide op w width).0, (5, _, refl, refl, refl), (11, _, refl, refl, refl)), tt),
        ),
      );
      inner = λ b i. (
        (λ same. cc same),
        ((λ same. cc same), ((λ same. cc same), ((λ same. cc same), ((λ same. cc same), ((λ same. cc same), ((λ same. cc same), ((λ same. cc same), ((λ same. cc same), ((λ same. cc same), (is_gate op (b + 9) (i.value 1), ((λ same. cc same), tt))))))))))),
      );
      order = op_order op w width;
      widths = op_widths op w width;
    }

pub op_gates : (op : Operation) (w : ℕ) → IsWidth w → KeepLawsInEachOrder (Op op w) (op_cells op w) op_outs [] nothing_pending OpStands
op_gates op w width rank =
    record {
      law = law_in_order (Op op w) (op_cells op w) op_outs [] nothing_pending OpStands (op_law op w width) rank;
      rests = λ b regs zeros. (record { waits = zeros (b + 6); number = sym (zeros (b + 2)); phase = tt }, refl);
      silent = op_silent op w;
      fits = op_fits op w width;
    }
