-- The gates of a Share of a command that passes on all within the cycle: for the order in which its source's answer comes first
-- they keep the law, and for another they don't. And which order its callers ask in is seen.
use Rattle.std.proofs.Common.{◌≡◌, inl, inr, ℕ, zero, suc, ◌+◌, ◌-◌, ◌≤◌, ◌<◌, ◌^◌, Bool, true, false, List, [], ◌∷◌, ◌++◌, Some, refl, sym, ◌∙◌, ap, subst, arith, pow_pos}
use Rattle.std.specs.Prelude.{nat_eq, if◌then◌else◌, bit_or, bit_and}
use Rattle.gos_types.specs.Types.{Com, Exp, Pair}
use Rattle.gos_netlist.specs.Settling.{Numbers}
use Rattle.gos_netlist.specs.Settling as nets
use Rattle.gos_plan.specs.Kinds.{Share, part_contacts}
use Rattle.gos_plan.specs.Firing.{Phase, Rest, State, Slot, Req, Ans, Token, Row, rows, row, at, put, row_for, firing}
use Rattle.gos_plan.specs.Firings.{due, value_due, Asked, after_taking, after_putting, Fires}
use Rattle.gos_plan.specs.Tokens.{shake_of}
use Rattle.gos_plan.specs.laws.Inversion.{first_or_later, no_row}
use Rattle.gos_macro.specs.Gates.{Incoming, Outgoing, Bare, incoming_bits, Settled, pulse_in, value_in, NetsShow, ShowOne}
use Rattle.gos_macro.specs.Law.{pulsed, early_in_order, FiredInOrder}
use Rattle.gos_macro.specs.Paths.{PutsPass}
use Rattle.gos_macro.specs.SmallGates.{answer_first_cells, answer_last_cells, passing_outs, last_first, GatesOfTheOrder, GatesOfAnotherOrder, OrderCounts, SecondAsksFirst, SecondAsksLast, OrderIsSeen, HoldsSilently, HeldIsNotSilent}
use Rattle.gos_macro.specs.SmallPaths.{answer_first_passing, answer_last_passing, AnswerFirstPaths, AnswerLastPaths}
use Rattle.gos_macro.specs.path_search.laws.Told.{told_is_kept}
use Rattle.gos_macro.proofs.GatesLemmas.{to_branch, requests, next_branch, Passed, shared_requests, branch_table, answer_table}
use Rattle.gos_macro.proofs.causal.FiringLemmas.{value_fits}

-- where all ranks are 0, all that comes in early comes by number
by_number : (t : ℕ) → early_in_order (Share Com) [] (λ h. 0) (suc t) ≡ Ans 0 ∷ Req 1 ∷ Req 2 ∷ []
by_number zero = refl
by_number (suc t) = let above : nat_eq 0 (suc t) ≡ false = grind arith in rw above (ap (λ (l : List Slot). l ++ []) (by_number t))

-- what the three handshakes show
record Answered (n p a c : ℕ) (s : State) (ts : List Token) : Type 0 where
  is : s ≡ at Rest (next_branch n a c)
  source : due 0 ts ≡ bit_or a c
  first : due 1 ts ≡ (if nat_eq n 0 then p else 0)
  second : due 2 ts ≡ (if nat_eq n 0 then 0 else p)

abbrev in_number : ℕ → ℕ → ℕ → List Slot
in_number p a c = if nat_eq p 1 then Ans 0 ∷ requests a c else requests a c

-- an answer goes to the branch, whatever comes behind it
answered_by : (n a c x : ℕ) (s : State) (us : List Token) → n ≤ 1 → Passed n a c s us → Answered n 1 a c s (put (Ans (to_branch n)) x ∷ us)
answered_by zero a c x s us small passed =
    record {
      is = passed.is;
      source = passed.due_source;
      first = ap suc (passed.others 1 refl).0;
      second = (passed.others 2 refl).0;
    }
answered_by (suc zero) a c x s us small passed =
    record {
      is = passed.is;
      source = passed.due_source;
      first = (passed.others 1 refl).0;
      second = ap suc (passed.others 2 refl).0;
    }
answered_by (suc (suc n)) a c x s us small passed = absurd (omega (arith, small))

none_answered : (n a c : ℕ) (s : State) (us : List Token) → Passed n a c s us → Answered n 0 a c s us
none_answered n a c s us passed =
    record {
      is = passed.is;
      source = passed.due_source;
      first = (passed.others 1 refl).0 ∙ either (nat_eq n 0);
      second = (passed.others 2 refl).0 ∙ either (nat_eq n 0);
    }
  where
    either : (t : Bool) → ◌≡◌ {A = ℕ} 0 (if t then 0 else 0)
    either true = refl
    either false = refl

answered : (x : ℕ → ℕ) (o : Asked) (n p a c : ℕ) (b : Asked) (s : State) (ts : List Token) → n ≤ 1 → p ≤ 1 → a ≤ 1 → c ≤ 1 → x 1 ≡ 0 → x 2 ≡ 0
    → Fires (Share Com) x o (at Rest n) (in_number p a c) b s ts → Answered n p a c s ts
answered x o n zero a c b s ts small_n small_p small_a small_c no_one no_two fires =
    none_answered n a c s ts (shared_requests x o n a c b s ts small_a small_c no_one no_two fires)
answered x o n (suc zero) a c b s ts small_n small_p small_a small_c no_one no_two (w, us, f, well, puts, go) =
    let is : row (Ans 0) (at Rest n) (put (Ans (to_branch n))) ≡ w = cc f in
    subst (λ (r : Row). Fires (Share Com) x (after_putting (r.puts (x 0)) (after_taking (Ans 0) o)) (r.next (x 0)) (requests a c) b s us → ts ≡ r.puts (x 0) ++ us → Answered n 1 a c s ts) is
    (λ go puts. subst (Answered n 1 a c s) (sym puts) (answered_by n a c (x 0) s us small_n (shared_requests x _ n a c b s us small_a small_c no_one no_two go)))
    go puts
answered x o n (suc (suc p)) a c b s ts small_n small_p small_a small_c no_one no_two fires = absurd (omega (arith, small_p))

three_shown : (b : ℕ) (v : Numbers) (ts : List Token) → nets.at v (b + 5) ≡ due 0 ts → nets.at v (b + 6) ≡ due 1 ts → nets.at v (b + 7) ≡ due 2 ts
    → ShowOne v (passing_outs b) ts
three_shown b v ts source first second zero o is one =
    let e : Bare (b + 5) ≡ o = cc is in subst (λ (p : Outgoing). NetsShow v p (due 0 ts) (value_due 0 ts)) e source
three_shown b v ts source first second (suc zero) o is one =
    let e : Bare (b + 6) ≡ o = cc is in subst (λ (p : Outgoing). NetsShow v p (due 1 ts) (value_due 1 ts)) e first
three_shown b v ts source first second (suc (suc zero)) o is one =
    let e : Bare (b + 7) ≡ o = cc is in subst (λ (p : Outgoing). NetsShow v p (due 2 ts) (value_due 2 ts)) e second
three_shown b v ts source first second (suc (suc (suc j))) o is one = absurd (cc is)

pub gates_of_the_order : GatesOfTheOrder
gates_of_the_order b i v regs after q s ts us (e0, k0, (e1, k1, (e2, k2, (e3, k3, (e4, k4, (e5, k5, (e6, k6, (e7, k7, nothing)))))))) pulses values stands fired =
    let n : ℕ = nets.at regs (b + 3) in
    let p : ℕ = pulse_in v i 0 in
    let a : ℕ = pulse_in v i 1 in
    let c : ℕ = pulse_in v i 2 in
    let x : ℕ → ℕ = value_in (Share Com) v i in
    let here : q ≡ at Rest n = λ j. record { phase = stands.rests j; number = stands.branch j } in
    let in_its_order = subst (λ (l : List Slot). Fires (Share Com) x fired.before q (pulsed (pulse_in v i) l) fired.between fired.state ts) (from_above fired.top fired.above) fired.sooner in
    let sooner = subst (λ (r : State). Fires (Share Com) x fired.before r (in_number p a c) fired.between fired.state ts) here in_its_order in
    let known = answered x fired.before n p a c fired.between fired.state ts stands.one (pulses 0 (omega arith)) (pulses 1 (omega arith)) (pulses 2 (omega arith)) refl refl sooner in
    let is : s ≡ at Rest (next_branch n a c) = fired.later.1 ∙ known.is in
    let branch : nets.at after (b + 3) ≡ bit_or c (bit_and n (1 - a)) = k3 ∙ (e2 ∙ ap (bit_or c) (e1 ∙ (λ j. bit_and (e3 j) (e0 j)))) in
    let table = branch_table n a c stands.one (pulses 1 (omega arith)) (pulses 2 (omega arith)) in
    let shown_at = answer_table n p stands.one (pulses 0 (omega arith)) in
    let first : nets.at v (b + 6) ≡ due 1 ts = e6 ∙ (ap (bit_and p) (e4 ∙ ap (λ (t : ℕ). 1 - t) e3) ∙ (shown_at.0 ∙ sym known.first)) in
    let second : nets.at v (b + 7) ≡ due 2 ts = e7 ∙ (ap (bit_and p) e3 ∙ (shown_at.1 ∙ sym known.second)) in (
      three_shown b v ts (e5 ∙ sym known.source) first second,
      λ j. (ap (due j) (sym fired.later.2), ap (value_due j) (sym fired.later.2)),
      record {
        rests = ap (λ (r : State). r.phase) is;
        branch = ap (λ (r : State). r.number) is ∙ sym (branch ∙ table.0);
        one = omega (arith, branch, table.0, table.1);
      },
    )
  where
    from_above : (t : ℕ) → ((h : ℕ) → h < 3 → 0 < t) → early_in_order (Share Com) [] (λ h. 0) t ≡ Ans 0 ∷ Req 1 ∷ Req 2 ∷ []
    from_above zero above = absurd (let wrong = above 0 (omega arith) in omega (arith, wrong))
    from_above (suc t) above = by_number t

-- A cycle in which a Share that answers its second caller is asked by its first one, and answered. The pulses are nets 8 and 9.
abbrev asked_and_answered : Incoming
asked_and_answered = record { pulse = λ h. if nat_eq h 2 then 9 else 8; value = λ h. 9 }

abbrev both_shown : Numbers
both_shown = 0 ∷ 0 ∷ 0 ∷ 1 ∷ 0 ∷ 1 ∷ 0 ∷ 1 ∷ 1 ∷ 0 ∷ []

abbrev asked_none : Asked
asked_none h = false

abbrev second_stands : Numbers
second_stands = 0 ∷ 0 ∷ 0 ∷ 1 ∷ []

answer_last : FiredInOrder (Share Com) [] last_first both_shown asked_and_answered (at Rest 1) (at Rest 0) (put (Req 0) 0 ∷ put (Ans 1) 0 ∷ []) []
answer_last =
    record {
      before = asked_none;
      between = _;
      behind = _;
      state = at Rest 0;
      top = 2;
      above = λ h small. ranked (nat_eq h 0);
      sooner = (_, put (Ans 1) 0 ∷ [], refl, (refl, tt), refl, (_, [], refl, (tt, tt), refl, (refl, refl, refl)));
      later = (refl, refl, refl);
    }
  where
    ranked : (t : Bool) → (if t then 1 else 0) < 2
    ranked true = omega arith
    ranked false = omega arith

pub gates_of_another_order : GatesOfAnotherOrder
gates_of_another_order law =
    let shows = (law 0 asked_and_answered both_shown second_stands [] (at Rest 1) (at Rest 0) (put (Req 0) 0 ∷ put (Ans 1) 0 ∷ []) [] settled small fits (record { rests = refl; branch = refl; one = omega arith }) answer_last).0 in
    let wrong : 1 ≡ 0 = shows 2 (Bare 7) refl (omega arith) in
    omega (arith, wrong)
  where
    settled : Settled both_shown second_stands [] 0 0 (answer_first_cells 0 asked_and_answered)
    settled = (refl, refl, (refl, refl, (refl, refl, (refl, refl, (refl, refl, (refl, refl, (refl, refl, (refl, refl, tt))))))))

    small : (h : ℕ) → h < 3 → pulse_in both_shown asked_and_answered h ≤ 1
    small zero low = omega arith
    small (suc zero) low = omega arith
    small (suc (suc zero)) low = omega arith
    small (suc (suc (suc h))) low = absurd (omega (arith, low))

    fits : (h : ℕ) → value_in (Share Com) both_shown asked_and_answered h < 2 ^ incoming_bits (part_contacts (Share Com)) h
    fits h = by_bits (incoming_bits (part_contacts (Share Com)) h)
      where
        by_bits : (bits : ℕ) → (if nat_eq bits 0 then 0 else 0) < 2 ^ bits
        by_bits bits = value_fits bits 0 (2 ^ bits) (pow_pos bits) (λ some. pow_pos bits)

pub order_counts : OrderCounts
order_counts kept = gates_of_another_order (kept last_first).law

pub second_asks_first : SecondAsksFirst
second_asks_first = (_, (_, put (Req 1) 0 ∷ [], refl, (refl, tt), refl, (_, [], refl, (refl, tt), refl, (refl, refl, refl))))

pub second_asks_last : SecondAsksLast
second_asks_last = (_, (_, put (Req 0) 0 ∷ [], refl, (refl, tt), refl, (_, [], refl, (refl, tt), refl, (refl, refl, refl))))

pub order_is_seen : OrderIsSeen
order_is_seen ts (o, (w, us, f, well, puts, (w2, vs, f2, well2, puts2, (h0, h1, h2)))) =
    let first : row (Req 4) (at Rest 1) (put (Req 0)) ≡ w = cc f in
    let second = subst (λ (r : Row). firing (Share (Pair Com (Exp 1))) (r.next 0) (Req 3) ≡ Some w2) (sym first) f2 in
    let is : row (Req 3) (at Rest 0) (put (Req 1)) ≡ w2 = cc second in
    let wrong : 1 ≡ 0 = ap (λ (r : State). r.number) (h1 ∙ ap (λ (r : Row). r.next 0) (sym is)) in
    omega (arith, wrong)

-- what a Share of a command puts by a request goes to its source, and what it puts by an answer goes to a caller
share_puts : (passing : ℕ → ℕ → Bool) → passing 1 0 ≡ true → passing 2 0 ≡ true → passing 0 1 ≡ true → passing 0 2 ≡ true → PutsPass (Share Com) [] passing
share_puts passing first second to_first to_second q s w x j is low early small some = by_phase q.phase is
  where
    to_caller : (n : ℕ) → 0 < due j (put (Ans (to_branch n)) x ∷ []) → passing 0 j ≡ true
    to_caller zero some = at_one (nat_eq 1 j) refl some
      where
        at_one : (t : Bool) → nat_eq 1 j ≡ t → 0 < (if t then 1 else 0) → passing 0 j ≡ true
        at_one true e some = let here : 1 ≡ j = grind (arith, e) in subst (λ (h : ℕ). passing 0 h ≡ true) here to_first
        at_one false e some = absurd (omega (arith, some))
    to_caller (suc zero) some = at_two (nat_eq 2 j) refl some
      where
        at_two : (t : Bool) → nat_eq 2 j ≡ t → 0 < (if t then 1 else 0) → passing 0 j ≡ true
        at_two true e some = let here : 2 ≡ j = grind (arith, e) in subst (λ (h : ℕ). passing 0 h ≡ true) here to_second
        at_two false e some = absurd (omega (arith, some))
    to_caller (suc (suc n)) some = at_none (nat_eq (to_branch (suc (suc n))) j) refl some
      where
        at_none : (t : Bool) → nat_eq (to_branch (suc (suc n))) j ≡ t → 0 < (if t then 1 else 0) → passing 0 j ≡ true
        at_none true e some = let here : to_branch (suc (suc n)) ≡ j = grind (arith, e) in absurd (omega (arith, here, small))
        at_none false e some = absurd (omega (arith, some))

    to_source : (from : ℕ) → passing from 0 ≡ true → 0 < due j (put (Req 0) x ∷ []) → passing from j ≡ true
    to_source from leads some = at_zero (nat_eq 0 j) refl some
      where
        at_zero : (t : Bool) → nat_eq 0 j ≡ t → 0 < (if t then 1 else 0) → passing from j ≡ true
        at_zero true e some = let here : 0 ≡ j = grind (arith, e) in subst (λ (h : ℕ). passing from h ≡ true) here leads
        at_zero false e some = absurd (omega (arith, some))

    of_row : (r : Row) → (r.takes ≡ s) × (r ≡ w) → (0 < due j (r.puts x) → passing (shake_of r.takes) j ≡ true) → passing (shake_of s) j ≡ true
    of_row r (takes, row_is) leads =
        subst (λ (t : Slot). passing (shake_of t) j ≡ true) takes (leads (subst (λ (z : Row). 0 < due j (z.puts x)) (sym row_is) some))

    at_rest : (n : ℕ) → row_for s (rows (Share Com) Rest n) ≡ Some w → passing (shake_of s) j ≡ true
    at_rest n e =
        elim (first_or_later (row (Req 1) (at Rest 0) (put (Req 0))) w (row (Req 2) (at Rest 1) (put (Req 0)) ∷ row (Ans 0) (at Rest n) (put (Ans (to_branch n))) ∷ []) s e) [
          | inl here ↦ of_row (row (Req 1) (at Rest 0) (put (Req 0))) here (to_source 1 first)
          | inr later ↦
              elim (first_or_later (row (Req 2) (at Rest 1) (put (Req 0))) w (row (Ans 0) (at Rest n) (put (Ans (to_branch n))) ∷ []) s later) [
                | inl here ↦ of_row (row (Req 2) (at Rest 1) (put (Req 0))) here (to_source 2 second)
                | inr last ↦
                    elim (first_or_later (row (Ans 0) (at Rest n) (put (Ans (to_branch n)))) w [] s last) [
                      | inl here ↦ of_row (row (Ans 0) (at Rest n) (put (Ans (to_branch n)))) here (to_caller n)
                      | inr none ↦ absurd (no_row w s none)
                    ]
              ]
        ]

    by_phase : (p : Phase) → row_for s (rows (Share Com) p q.number) ≡ Some w → passing (shake_of s) j ≡ true
    by_phase Rest e = at_rest q.number e
    by_phase p e = absurd (cc e)

pub answer_first_paths : AnswerFirstPaths
answer_first_paths =
    told_is_kept (Share Com) answer_first_cells passing_outs [] answer_first_passing (λ b i. refl) (λ b. refl) refl (share_puts answer_first_passing refl refl refl refl)

pub answer_last_paths : AnswerLastPaths
answer_last_paths =
    told_is_kept (Share Com) answer_last_cells passing_outs [] answer_last_passing (λ b i. refl) (λ b. refl) refl (share_puts answer_last_passing refl refl refl refl)

pub holds_silently : HoldsSilently
holds_silently b i v regs after (e0, k0, (e1, k1, (e2, k2, (e3, k3, nothing)))) pulses = ((λ none. e3 ∙ rw none refl), tt)

-- a held number of 1 without its pulse
pub held_is_not_silent : HeldIsNotSilent
held_is_not_silent silent =
    let wrong : 1 ≡ 0 = (silent 0 (record { pulse = λ h. 0; value = λ h. 0 }) (0 ∷ 0 ∷ 1 ∷ 0 ∷ []) (0 ∷ 0 ∷ 1 ∷ []) [] (refl, refl, (refl, refl, (refl, refl, (refl, refl, tt)))) (λ h small. omega arith)).0 refl in
    omega (arith, wrong)
