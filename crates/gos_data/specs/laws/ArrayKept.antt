-- The gates of an array keep the law.
--
-- Read first: Array, ArrayNext, WordsKept; Passing.
use Rattle.std.proofs.Common.{◌≡◌, inl, inr, ◌⊎◌, ℕ, zero, suc, ◌+◌, ◌-◌, ◌*◌, ◌≤◌, Bool, true, false, List, [], ◌∷◌, ◌++◌, refl, sym, ap, ◌∙◌, subst, arith}
use Rattle.std.specs.Prelude.{get_or, nat_eq, bit_and, bit_or, if◌then◌else◌}
use Rattle.gos_netlist.specs.Settling.{Numbers}
use Rattle.gos_netlist.specs.Settling as nets
use Rattle.gos_types.specs.Widths.{IsWidth}
use Rattle.gos_model.specs.Typing.{index_width}
use Rattle.gos_plan.specs.Kinds.{Array}
use Rattle.gos_plan.specs.Firing.{Rest, State, Req, Ans, Token, at}
use Rattle.gos_plan.specs.Firings.{due, value_due}
use Rattle.gos_macro.specs.Gates.{Incoming, Settled, Bare, Bearing, pulse_in, value_in, Shows, SameTokens, held}
use Rattle.gos_macro.specs.Law.{PulsesComeIn, Fired, GatesLaw}
use Rattle.gos_macro.specs.laws.Passing.{repeated, buffered, let_through, bears, due_append, value_append, due_held, no_value_held, same_tokens}
use Rattle.gos_macro.specs.laws.SettledCells.{settled_both}
use Rattle.gos_data.specs.BodyAnswer.{number_cells}
use Rattle.gos_data.specs.Words.{picked_net, numbers_held, next_numbers}
use Rattle.gos_data.specs.Array.{array_head, array_words, array_cells, array_outs, array_late, array_pending, found, HoldNumbers, HoldAccess, ArrayStands}
use Rattle.gos_data.specs.laws.WordsKept.{words_are_kept, words_length}
use Rattle.gos_data.specs.laws.ArrayFires.{early}
use Rattle.gos_data.specs.laws.ArrayNext.{Next, and_small, or_small, late_kept}

-- what registers hold is due at their handshakes alone, and has the number of a read
due_found : (j a m : ℕ) → a ≤ 1 → due j (found a m) ≡ (if nat_eq 2 j then a else 0)
due_found j zero m small = by_test (nat_eq 2 j) 0
  where
    by_test : (t : Bool) (n : ℕ) → n ≡ (if t then n else n)
    by_test true n = refl
    by_test false n = refl
due_found j (suc zero) m small = refl
due_found j (suc (suc a)) m small = absurd (omega (arith, small))

value_found : (j a m : ℕ) → a ≤ 1 → value_due j (found a m) ≡ (if nat_eq 2 j then (if nat_eq a 1 then m else 0) else 0)
value_found j zero m small = by_test (nat_eq 2 j) 0
  where
    by_test : (t : Bool) (n : ℕ) → n ≡ (if t then n else n)
    by_test true n = refl
    by_test false n = refl
value_found j (suc zero) m small = by_test (nat_eq 2 j)
  where
    by_test : (t : Bool) → (if t then m + 0 else 0) ≡ (if t then m else 0)
    by_test true = omega arith
    by_test false = refl
value_found j (suc (suc a)) m small = absurd (omega (arith, small))

-- what is due at a handshake of what an array holds, and of tokens behind that
abbrev due_of : (j entered asked read written : ℕ) → ℕ
due_of j entered asked read written =
    ((if nat_eq 2 j then read else 0) + (if nat_eq 3 j then written else 0)) + ((if nat_eq 0 j then entered else 0) + (if nat_eq 1 j then asked else 0))

due_behind : (n b : ℕ) (regs : Numbers) (q : State) (j : ℕ) (ts : List Token) → ArrayStands n b regs q
    → due j (array_pending b regs ++ ts) ≡ due_of j (nets.at regs (b + 0)) (nets.at regs (b + 2)) (nets.at regs (b + 12)) (nets.at regs (b + 13)) + due j ts
due_behind n b regs q j ts stands =
    let entered = held (Req 0) (nets.at regs (b + 0)) in
    let asked = held (Req 1) (nets.at regs (b + 2)) in
    let read = found (nets.at regs (b + 12)) (nets.at regs (b + 14)) in
    let written = held (Ans 3) (nets.at regs (b + 13)) in
    let answers = due_append j read written ∙ (λ z. due_found j (nets.at regs (b + 12)) (nets.at regs (b + 14)) stands.read z + due_held j (Ans 3) (nets.at regs (b + 13)) stands.written z) in
    let requests = due_append j entered asked ∙ (λ z. due_held j (Req 0) (nets.at regs (b + 0)) stands.entered z + due_held j (Req 1) (nets.at regs (b + 2)) stands.asked z) in
    due_append j ((read ++ written) ++ (entered ++ asked)) ts
    ∙ (λ z. (due_append j (read ++ written) (entered ++ asked) ∙ (λ y. answers y + requests y)) z + due j ts)

value_behind : (n b : ℕ) (regs : Numbers) (q : State) (j : ℕ) (ts : List Token) → ArrayStands n b regs q
    → value_due j (array_pending b regs ++ ts) ≡ (if nat_eq 2 j then (if nat_eq (nets.at regs (b + 12)) 1 then nets.at regs (b + 14) else 0) else 0) + value_due j ts
value_behind n b regs q j ts stands =
    let entered = held (Req 0) (nets.at regs (b + 0)) in
    let asked = held (Req 1) (nets.at regs (b + 2)) in
    let read = found (nets.at regs (b + 12)) (nets.at regs (b + 14)) in
    let written = held (Ans 3) (nets.at regs (b + 13)) in
    let first = value_append j ((read ++ written) ++ (entered ++ asked)) ts in
    let second = value_append j (read ++ written) (entered ++ asked) in
    let third = value_append j read written in
    let fourth = value_append j entered asked in
    let none_written = no_value_held j (Ans 3) (nets.at regs (b + 13)) stands.written in
    let none_entered = no_value_held j (Req 0) (nets.at regs (b + 0)) stands.entered in
    let none_asked = no_value_held j (Req 1) (nets.at regs (b + 2)) stands.asked in
    let number = value_found j (nets.at regs (b + 12)) (nets.at regs (b + 14)) stands.read in
    omega (arith, first, second, third, fourth, none_written, none_entered, none_asked, number)

-- what the gates do, whatever the body ends with
record Kept (n u b : ℕ) (x : ℕ → ℕ) (p : ℕ) (v after : Numbers) (s : State) (ts us : List Token) : Type 0 where
  shows : Shows v 0 (Bare (b + 0) ∷ Bare (b + 2) ∷ Bearing (b + 12) (b + 15) ∷ Bare (b + 13) ∷ Bare (b + 18) ∷ []) ts
  answer : value_due 4 ts ≡ repeated p (x 0)
  pending : SameTokens (array_pending b after) us
  stands : ArrayStands n b after s

-- the early firings lead to a state for which the registers stand as well
still_numbers : (n b : ℕ) (regs : Numbers) (q r : State) → (r ≡ q) ⊎ (r ≡ at Rest q.number) → HoldNumbers n b regs q.phase → HoldNumbers n b regs r.phase
still_numbers n b regs q r (inl same) numbers = subst (λ (o : State). HoldNumbers n b regs o.phase) (sym same) numbers
still_numbers n b regs q r (inr ended) numbers = subst (λ (o : State). HoldNumbers n b regs o.phase) (sym ended) tt

still_access : (b : ℕ) (regs : Numbers) (q r : State) → (r ≡ q) ⊎ (r ≡ at Rest q.number) → HoldAccess b regs q.phase q.number → HoldAccess b regs r.phase r.number
still_access b regs q r (inl same) access = subst (λ (o : State). HoldAccess b regs o.phase o.number) (sym same) access
still_access b regs q r (inr ended) access = subst (λ (o : State). HoldAccess b regs o.phase o.number) (sym ended) tt

array_kept : (w n u : ℕ) → IsWidth w → 1 ≤ index_width n → (b : ℕ) (i : Incoming) (v regs after : Numbers) (q s : State) (ts us : List Token)
    → Settled v regs after b 0 (array_head w b (picked_net b 19 (b + 17) n) i) → Settled v regs after b 19 (array_words w n b i)
    → PulsesComeIn (Array w n u) v i → ArrayStands n b regs q → Fired (Array w n u) array_late v i q s ts us
    → Kept n u b (value_in (Array w n u) v i) (pulse_in v i 0) v after s (array_pending b regs ++ ts) us
array_kept w n u width some b i v regs after q s ts us
    (c0, k0, (c1, k1, (c2, k2, (c3, k3, (c4, k4, (c5, k5, (c6, k6, (c7, k7, (c8, k8, (c9, k9, (c10, k10, (c11, k11, (c12, k12, (c13, k13, (c14, k14, (c15, k15, (c16, k16, (c17, k17, (c18, k18, nothing)))))))))))))))))))
    words pulses stands fired =
    let x = value_in (Array w n u) v i in
    let p = pulse_in v i in
    let ks = numbers_held regs b 19 n in
    let first = early w n u x b regs q.phase fired.before q.number fired.list fired.between fired.state ts stands.numbers
    (record { index = fired.exactly (Ans 1); read = fired.exactly (Req 2); write = fired.exactly (Req 3); entry = fired.exactly (Req 4) }) fired.sooner in
    let ended = buffered _ (p 0) _ _ (pulses 0 (omega arith)) c18 (fired.exactly (Ans 0)) first.ended in
    let index : nets.at v (i.value 1) ≡ x 1 = sym (bears (index_width n) (nets.at v (i.value 1)) some) in
    let written : nets.at v (i.value 3) ≡ x 3 = sym (bears w (nets.at v (i.value 3)) width.0) in
    let sets : nets.at v (b + 11) ≡ bit_and (p 1) (nets.at regs (b + 6)) = c11 ∙ ap (bit_and (p 1)) c6 in
    let one = pulses 1 (omega arith) in
    let two = pulses 2 (omega arith) in
    let three = pulses 3 (omega arith) in
    let four = pulses 4 (omega arith) in
    let small = and_small (p 1) (nets.at regs (b + 6)) one stands.writes in
    let stays : nets.at v (b + 16) ≡ 1 - p 4 = c16 in
    let kept = words_are_kept w (index_width n) _ b 19 (b + 17) n v regs after (subst (λ (m : ℕ). m ≤ 1) (sym sets) small) (omega (arith, stays)) c17 words in
    let next : Next n b regs after (p 1) (p 2) (p 3) (p 4) (x 1) (x 3) =
    record {
      entered = k0;
      asked = k2 ∙ c1;
      writes = k6 ∙ (c5 ∙ ap (bit_or (p 3)) (c4 ∙ (λ z. bit_and (c6 z) (c3 z))));
      keeps = k8 ∙ (c7 ∙ (λ z. if nat_eq (p 3) 1 then written z else c8 z));
      read = k12 ∙ (c10 ∙ ap (bit_and (p 1)) (c9 ∙ ap (λ (m : ℕ). 1 - m) c6));
      written = k13 ∙ sets;
      picked = k14 ∙ (kept.0 ∙ ap (λ (j : ℕ). get_or ks j 0) index);
      numbers = kept.1 ∙ (λ z. next_numbers n (sets z) (stays z) (index z) (c8 z) ks);
    } in
    let late = late_kept w n u x b regs after fired.between (p 1) (p 2) (p 3) (p 4) fired.state.phase fired.state.number fired.behind s us one two three four next stands.writes
    (still_numbers n b regs q fired.state first.leads stands.numbers) (still_access b regs q fired.state first.leads stands.access) fired.later in
    let zeroth = due_behind n b regs q 0 ts stands in
    let oneth = due_behind n b regs q 1 ts stands in
    let second = due_behind n b regs q 2 ts stands in
    let third = due_behind n b regs q 3 ts stands in
    let fourth = due_behind n b regs q 4 ts stands in
    let number = value_behind n b regs q 2 ts stands in
    let behind = value_behind n b regs q 4 ts stands in
    let answers : value_due 4 ts ≡ repeated (p 0) (x 0) = first.answer ∙ ap (λ (m : ℕ). repeated m (x 0)) (fired.exactly (Ans 0)) in
    let entered = stands.entered in
    let asked = stands.asked in
    let read = stands.read in
    let answered = stands.written in
    let let_on : nets.at v (b + 15) ≡ (if nat_eq (nets.at regs (b + 12)) 1 then nets.at regs (b + 14) else 0) = c15 ∙ (λ z. if nat_eq (c12 z) 1 then c14 z else 0) in
    record {
      shows = (
        omega (arith, zeroth, first.entered, entered),
        omega (arith, zeroth, first.entered, c0),
        (
          omega (arith, oneth, first.asked, asked),
          omega (arith, oneth, first.asked, c2),
          (
            omega (arith, second, first.read, read),
            (omega (arith, second, first.read, c12), omega (arith, let_on, number, first.value)),
            (
              omega (arith, third, first.written, answered),
              omega (arith, third, first.written, c13),
              (omega (arith, fourth, ended.0), omega (arith, fourth, ended.1), tt),
            ),
          ),
        ),
      );
      answer = omega (arith, behind, answers);
      pending = same_tokens (array_pending b after) us late.puts;
      stands =
          record {
            entered = subst (λ (m : ℕ). m ≤ 1) (sym next.entered) four;
            asked = subst (λ (m : ℕ). m ≤ 1) (sym next.asked) (or_small (p 2) (p 3) two three);
            writes =
                subst (λ (m : ℕ). m ≤ 1) (sym next.writes)
                (or_small (p 3) (bit_and (nets.at regs (b + 6)) (1 - p 2)) three (and_small (nets.at regs (b + 6)) (1 - p 2) stands.writes (omega arith)));
            read = subst (λ (m : ℕ). m ≤ 1) (sym next.read) (and_small (p 1) (1 - nets.at regs (b + 6)) one (omega arith));
            written = subst (λ (m : ℕ). m ≤ 1) (sym next.written) small;
            numbers = late.numbers;
            access = late.access;
          };
    }

pub array_law : (w n u : ℕ) → IsWidth w → 1 ≤ index_width n → GatesLaw (Array w n u) (array_cells w n u) (array_outs n u) array_late array_pending (ArrayStands n)
array_law w n zero width some b i v regs after q s ts us settled pulses values stands fired =
    let head = array_head w b (picked_net b 19 (b + 17) n) i in
    let both = settled_both v regs after b 0 19 head (array_words w n b i ++ []) refl settled in
    let words = settled_both v regs after b 19 (7 * n) (array_words w n b i) [] (words_length w (index_width n) _ b 19 0 (b + 17) n) both.1 in
    let known = array_kept w n 0 width some b i v regs after q s ts us both.0 words.0 pulses stands fired in
    (known.shows, known.pending, known.stands)
array_law w n (suc u) width some b i v regs after q s ts us settled pulses values stands fired =
    let head = array_head w b (picked_net b 19 (b + 17) n) i in
    let both = settled_both v regs after b 0 19 head (array_words w n b i ++ number_cells (suc u) i) refl settled in
    let words = settled_both v regs after b 19 (7 * n) (array_words w n b i) (number_cells (suc u) i) (words_length w (index_width n) _ b 19 0 (b + 17) n) both.1 in
    let known = array_kept w n (suc u) width some b i v regs after q s ts us both.0 words.0 pulses stands fired in
    let (c, k, nothing) = words.1 in
    let s0 = known.shows in
    let s1 = s0.2 in
    let s2 = s1.2 in
    let s3 = s2.2 in
    let s4 = s3.2 in
    let p0 = pulse_in v i 0 in
    let came = sym (bears (suc u) (nets.at v (i.value 0)) (omega arith)) in
    let shown = c ∙ ap (λ (a : ℕ). if nat_eq p0 1 then a else 0) came in
    let number = let_through _ p0 (value_in (Array w n (suc u)) v i 0) p0 _ (pulses 0 (omega arith)) shown refl known.answer in (
      (s0.0, s0.1, (s1.0, s1.1, (s2.0, s2.1, (s3.0, s3.1, (s4.0, (s4.1, number), tt))))),
      known.pending,
      known.stands,
    )
