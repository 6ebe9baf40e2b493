-- The gates of a Share of a command keep the laws.
use Rattle.std.proofs.Common.{◌≡◌, inl, inr, ◌⊎◌, ℕ, zero, suc, ◌+◌, ◌-◌, ◌*◌, ◌≤◌, Bool, true, false, List, [], ◌∷◌, ◌++◌, Some, refl, sym, ◌∙◌, ap, subst, arith}
use Rattle.std.specs.List.{AllByRecursion}
use Rattle.std.specs.Prelude.{nat_eq, if◌then◌else◌, bit_or, bit_and}
use Rattle.gos_types.specs.Types.{Com}
use Rattle.gos_netlist.specs.Settling.{Numbers}
use Rattle.gos_netlist.specs.Settling as nets
use Rattle.gos_netcheck.specs.CellRules.{HasRightWidths}
use Rattle.gos_plan.specs.Kinds.{Share, part_contacts}
use Rattle.gos_plan.specs.Firing.{Rest, State, Slot, Req, Ans, Token, Row, row, at, put, row_for, firing}
use Rattle.gos_macro.specs.Gates.{Incoming, pulse_in, value_in, SameTokens, held}
use Rattle.gos_plan.specs.Firings.{due, value_due, Asked, after_taking, after_putting, PutsWell, Fires, times}
use Rattle.gos_macro.specs.Law.{GatesLaw}
use Rattle.gos_macro.specs.Fit.{IsKnown, NameEarlier, BitsComeIn, HaveBits}
use Rattle.gos_macro.specs.SmallGates.{SharedGates, shared_cells, shared_outs, shared_late, shared_pending, SharedStands}
use Rattle.gos_macro.specs.laws.AnyOrder.{law_in_order}
use Rattle.gos_plan.specs.laws.Inversion.{first_or_later, no_row, stepped}

-- A Share of a command: what is answered goes to the branch.
abbrev pub to_branch : ℕ → ℕ
to_branch n = 1 + n * 1 + 0

abbrev SharedCounts : ℕ → List Slot → State → List Token → Type 0
SharedCounts n fs r ts = (r ≡ at Rest n) × (due (to_branch n) ts ≡ times (Ans 0) fs) × ((j : ℕ) → nat_eq (to_branch n) j ≡ false → due j ts ≡ 0)

shared_counts : (x : ℕ → ℕ) (o : Asked) (n : ℕ) (fs : List Slot) (p : Asked) (r : State) (ts : List Token) → times (Req 1) fs ≡ 0 → times (Req 2) fs ≡ 0
    → Fires (Share Com) x o (at Rest n) fs p r ts → SharedCounts n fs r ts
shared_counts x o n [] p r ts none no_other (h0, h1, h2) = (h1, ap (due (to_branch n)) h2, λ j apart. ap (due j) h2)
shared_counts x o n (s ∷ ss) p r ts none no_other (w, us, f, well, puts, go) =
    by_row (first_or_later (row (Req 1) (at Rest 0) (put (Req 0))) w (row (Req 2) (at Rest 1) (put (Req 0)) ∷ row (Ans 0) (at Rest n) (put (Ans (to_branch n))) ∷ []) s f) (λ q vs first second fires. shared_counts x q n ss p r vs first second fires)
  where
    by_last : ((Ans 0 ≡ s) × (row (Ans 0) (at Rest n) (put (Ans (to_branch n))) ≡ w)) ⊎ (row_for s [] ≡ Some w)
        → ((q : Asked) (vs : List Token) → times (Req 1) ss ≡ 0 → times (Req 2) ss ≡ 0 → Fires (Share Com) x q (at Rest n) ss p r vs → SharedCounts n ss r vs)
        → SharedCounts n (s ∷ ss) r ts
    by_last (inl (here, is)) ih =
        let e = stepped (Share Com) x o (row (Ans 0) (at Rest n) (put (Ans (to_branch n)))) w s ss p r ts us here is well puts go in
        let first = subst (λ (c : Slot). times (Req 1) (c ∷ ss) ≡ 0) e.is none in
        let second = subst (λ (c : Slot). times (Req 2) (c ∷ ss) ≡ 0) e.is no_other in
        let known = ih _ e.rest first second e.go in (
          known.0,
          ap (due (to_branch n)) e.puts ∙ (grind (arith, known.1) ∙ sym (ap (λ (c : Slot). times (Ans 0) (c ∷ ss)) e.is)),
          λ j apart. ap (due j) e.puts ∙ (rw apart (known.2 j apart)),
        )
    by_last (inr wrong) ih = absurd (no_row w s wrong)

    by_other : ((Req 2 ≡ s) × (row (Req 2) (at Rest 1) (put (Req 0)) ≡ w)) ⊎ (row_for s (row (Ans 0) (at Rest n) (put (Ans (to_branch n))) ∷ []) ≡ Some w)
        → ((q : Asked) (vs : List Token) → times (Req 1) ss ≡ 0 → times (Req 2) ss ≡ 0 → Fires (Share Com) x q (at Rest n) ss p r vs → SharedCounts n ss r vs)
        → SharedCounts n (s ∷ ss) r ts
    by_other (inl (here, is)) ih = absurd (let wrong = subst (λ (c : Slot). times (Req 2) (c ∷ ss) ≡ 0) (sym here) no_other in omega (arith, wrong))
    by_other (inr later) ih = by_last (first_or_later (row (Ans 0) (at Rest n) (put (Ans (to_branch n)))) w [] s later) ih

    by_row : ((Req 1 ≡ s) × (row (Req 1) (at Rest 0) (put (Req 0)) ≡ w)) ⊎ (row_for s (row (Req 2) (at Rest 1) (put (Req 0)) ∷ row (Ans 0) (at Rest n) (put (Ans (to_branch n))) ∷ []) ≡ Some w)
        → ((q : Asked) (vs : List Token) → times (Req 1) ss ≡ 0 → times (Req 2) ss ≡ 0 → Fires (Share Com) x q (at Rest n) ss p r vs → SharedCounts n ss r vs)
        → SharedCounts n (s ∷ ss) r ts
    by_row (inl (here, is)) ih = absurd (let wrong = subst (λ (c : Slot). times (Req 1) (c ∷ ss) ≡ 0) (sym here) none in omega (arith, wrong))
    by_row (inr later) ih = by_other (first_or_later (row (Req 2) (at Rest 1) (put (Req 0))) w (row (Ans 0) (at Rest n) (put (Ans (to_branch n))) ∷ []) s later) ih

-- how many answers go to each caller, by the branch
shared_answers : (x : ℕ → ℕ) (o : Asked) (n : ℕ) (fs : List Slot) (p : Asked) (r : State) (ts : List Token) → n ≤ 1 → times (Req 1) fs ≡ 0 → times (Req 2) fs ≡ 0
    → Fires (Share Com) x o (at Rest n) fs p r ts
    → (r ≡ at Rest n) × (due 0 ts ≡ 0) × (due 1 ts ≡ (if nat_eq n 0 then times (Ans 0) fs else 0)) × (due 2 ts ≡ (if nat_eq n 0 then 0 else times (Ans 0) fs))
shared_answers x o zero fs p r ts small none no_other fires =
    let known = shared_counts x o 0 fs p r ts none no_other fires in
    (known.0, known.2 0 refl, known.1, known.2 2 refl)
shared_answers x o (suc zero) fs p r ts small none no_other fires =
    let known = shared_counts x o 1 fs p r ts none no_other fires in
    (known.0, known.2 0 refl, known.2 1 refl, known.1)
shared_answers x o (suc (suc n)) fs p r ts small none no_other fires = absurd (omega (arith, small))

-- the requests of the callers, by whether each has a pulse
abbrev pub requests : ℕ → ℕ → List Slot
requests a c = if nat_eq a 1 then Req 1 ∷ (if nat_eq c 1 then Req 2 ∷ [] else []) else (if nat_eq c 1 then Req 2 ∷ [] else [])

abbrev pub next_branch : ℕ → ℕ → ℕ → ℕ
next_branch n a c = if nat_eq c 1 then 1 else (if nat_eq a 1 then 0 else n)

-- a request of either is passed on, and of both none can be
pub record Passed (n a c : ℕ) (s : State) (us : List Token) : Type 0 where
  pub is : s ≡ at Rest (next_branch n a c)
  pub due_source : due 0 us ≡ bit_or a c
  pub no_value : value_due 0 us ≡ 0
  pub others : (j : ℕ) → nat_eq 0 j ≡ false → (due j us ≡ 0) × (value_due j us ≡ 0)

no_token : (n a c : ℕ) (s : State) (us : List Token) → us ≡ [] → s ≡ at Rest (next_branch n a c) → 0 ≡ bit_or a c → Passed n a c s us
no_token n a c s us nothing is none =
    record {
      is = is;
      due_source = ap (due 0) nothing ∙ none;
      no_value = ap (value_due 0) nothing;
      others = λ j apart. (ap (due j) nothing, ap (value_due j) nothing);
    }

one_token : (n a c x : ℕ) (s : State) (us : List Token) → us ≡ put (Req 0) x ∷ [] → x ≡ 0 → s ≡ at Rest (next_branch n a c) → 1 ≡ bit_or a c → Passed n a c s us
one_token n a c x s us one none is some =
    record {
      is = is;
      due_source = ap (due 0) one ∙ some;
      no_value = ap (value_due 0) one ∙ omega (arith, none);
      others = λ j apart. (ap (due j) one ∙ rw apart refl, ap (value_due j) one ∙ rw apart refl);
    }

pub shared_requests : (x : ℕ → ℕ) (o : Asked) (n a c : ℕ) (p : Asked) (s : State) (us : List Token) → a ≤ 1 → c ≤ 1 → x 1 ≡ 0 → x 2 ≡ 0
    → Fires (Share Com) x o (at Rest n) (requests a c) p s us → Passed n a c s us
shared_requests x o n zero zero p s us small_a small_c no_one no_two (h0, h1, h2) = no_token n 0 0 s us h2 h1 refl
shared_requests x o n (suc zero) zero p s us small_a small_c no_one no_two (w, vs, f, well, puts, (h0, h1, h2)) =
    let is : row (Req 1) (at Rest 0) (put (Req 0)) ≡ w = cc f in
    one_token n 1 0 (x 1) s us (puts ∙ (λ i. (sym is i).puts (x 1) ++ h2 i)) no_one (h1 ∙ ap (λ (r : Row). r.next (x 1)) (sym is)) refl
shared_requests x o n zero (suc zero) p s us small_a small_c no_one no_two (w, vs, f, well, puts, (h0, h1, h2)) =
    let is : row (Req 2) (at Rest 1) (put (Req 0)) ≡ w = cc f in
    one_token n 0 1 (x 2) s us (puts ∙ (λ i. (sym is i).puts (x 2) ++ h2 i)) no_two (h1 ∙ ap (λ (r : Row). r.next (x 2)) (sym is)) refl
shared_requests x o n (suc zero) (suc zero) p s us small_a small_c no_one no_two (w, vs, f, well, puts, (w2, ws, f2, well2, puts2, rest)) =
    let is : row (Req 1) (at Rest 0) (put (Req 0)) ≡ w = cc f in
    absurd (twice w is w2 f2 well2)
  where
    twice : (w : Row) → row (Req 1) (at Rest 0) (put (Req 0)) ≡ w → (w2 : Row) → firing (Share Com) (w.next (x 1)) (Req 2) ≡ Some w2
        → PutsWell (w2.puts (x 2)) (after_taking (Req 2) (after_putting (w.puts (x 1)) (after_taking (Req 1) o))) → ⊥
    twice w is =
        subst (λ (r : Row). (w2 : Row) → firing (Share Com) (r.next (x 1)) (Req 2) ≡ Some w2 → PutsWell (w2.puts (x 2)) (after_taking (Req 2) (after_putting (r.puts (x 1)) (after_taking (Req 1) o))) → ⊥) is
        (λ w2 f2 well2.
        let other : row (Req 2) (at Rest 1) (put (Req 0)) ≡ w2 = cc f2 in
        let wrong = subst (λ (r : Row). PutsWell (r.puts (x 2)) (after_taking (Req 2) (after_putting (put (Req 0) (x 1) ∷ []) (after_taking (Req 1) o)))) (sym other) well2 in
        let no = wrong.0 in cc no)
shared_requests x o n (suc (suc a)) c p s us small_a small_c no_one no_two fires = absurd (omega (arith, small_a))
shared_requests x o n a (suc (suc c)) p s us small_a small_c no_one no_two fires = absurd (omega (arith, small_c))

-- what the gates compute, for numbers of one bit
pub branch_table : (n a c : ℕ) → n ≤ 1 → a ≤ 1 → c ≤ 1 → (bit_or c (bit_and n (1 - a)) ≡ next_branch n a c) × (next_branch n a c ≤ 1)
branch_table zero zero zero p q r = (refl, omega arith)
branch_table zero zero (suc zero) p q r = (refl, omega arith)
branch_table zero (suc zero) zero p q r = (refl, omega arith)
branch_table zero (suc zero) (suc zero) p q r = (refl, omega arith)
branch_table (suc zero) zero zero p q r = (refl, omega arith)
branch_table (suc zero) zero (suc zero) p q r = (refl, omega arith)
branch_table (suc zero) (suc zero) zero p q r = (refl, omega arith)
branch_table (suc zero) (suc zero) (suc zero) p q r = (refl, omega arith)
branch_table (suc (suc n)) a c p q r = absurd (omega (arith, p))
branch_table n (suc (suc a)) c p q r = absurd (omega (arith, q))
branch_table n a (suc (suc c)) p q r = absurd (omega (arith, r))

pub answer_table : (n a : ℕ) → n ≤ 1 → a ≤ 1 → (bit_and a (1 - n) ≡ (if nat_eq n 0 then a else 0)) × (bit_and a n ≡ (if nat_eq n 0 then 0 else a))
answer_table zero zero p q = (refl, refl)
answer_table zero (suc zero) p q = (refl, refl)
answer_table (suc zero) zero p q = (refl, refl)
answer_table (suc zero) (suc zero) p q = (refl, refl)
answer_table (suc (suc n)) a p q = absurd (omega (arith, p))
answer_table n (suc (suc a)) p q = absurd (omega (arith, q))

either_table : (a c : ℕ) → a ≤ 1 → c ≤ 1 → bit_or a c ≤ 1
either_table zero zero p q = omega arith
either_table zero (suc zero) p q = omega arith
either_table (suc zero) zero p q = omega arith
either_table (suc zero) (suc zero) p q = omega arith
either_table (suc (suc a)) c p q = absurd (omega (arith, p))
either_table a (suc (suc c)) p q = absurd (omega (arith, q))

-- the request that is held
request_due : (m : ℕ) (ts : List Token) → m ≤ 1 → (due 0 (held (Req 0) m ++ ts) ≡ m + due 0 ts) × (due 1 (held (Req 0) m ++ ts) ≡ due 1 ts) × (due 2 (held (Req 0) m ++ ts) ≡ due 2 ts)
request_due zero ts small = (omega arith, refl, refl)
request_due (suc zero) ts small = (omega arith, refl, refl)
request_due (suc (suc m)) ts small = absurd (omega (arith, small))

same_held : (m n a c : ℕ) (s : State) (us : List Token) → m ≤ 1 → m ≡ bit_or a c → Passed n a c s us → SameTokens (held (Req 0) m) us
same_held zero n a c s us small is passed j = by_shake (nat_eq 0 j) refl
  where
    by_shake : (t : Bool) → nat_eq 0 j ≡ t → (due j [] ≡ due j us) × (value_due j [] ≡ value_due j us)
    by_shake true e = let here : 0 ≡ j = grind (arith, e) in
        subst (λ (h : ℕ). (due h [] ≡ due h us) × (value_due h [] ≡ value_due h us)) here (is ∙ sym passed.due_source, sym passed.no_value)
    by_shake false e = let known = passed.others j e in (sym known.0, sym known.1)
same_held (suc zero) n a c s us small is passed j = by_shake (nat_eq 0 j) refl
  where
    by_shake : (t : Bool) → nat_eq 0 j ≡ t → (due j (put (Req 0) 0 ∷ []) ≡ due j us) × (value_due j (put (Req 0) 0 ∷ []) ≡ value_due j us)
    by_shake true e = let here : 0 ≡ j = grind (arith, e) in
        subst (λ (h : ℕ). (due h (put (Req 0) 0 ∷ []) ≡ due h us) × (value_due h (put (Req 0) 0 ∷ []) ≡ value_due h us)) here (is ∙ sym passed.due_source, sym passed.no_value)
    by_shake false e = let known = passed.others j e in (rw e (sym known.0), rw e (sym known.1))
same_held (suc (suc m)) n a c s us small is passed j = absurd (omega (arith, small))

either_or : (t : Bool) (p : ℕ) → p ≤ 1 → ((if t then p else 0) ≤ 1) × ((if t then 0 else p) ≤ 1)
either_or true p small = (small, omega arith)
either_or false p small = (omega arith, small)

shared_law : GatesLaw (Share Com) shared_cells shared_outs shared_late shared_pending SharedStands
shared_law b i v regs after q s ts us (e0, k0, (e1, k1, (e2, k2, (e3, k3, (e4, k4, (e5, k5, (e6, k6, (e7, k7, (e8, k8, nothing))))))))) pulses values stands fired =
    let n : ℕ = nets.at regs (b + 3) in
    let m : ℕ = nets.at regs (b + 6) in
    let p : ℕ = pulse_in v i 0 in
    let a : ℕ = pulse_in v i 1 in
    let d : ℕ = pulse_in v i 2 in
    let x : ℕ → ℕ = value_in (Share Com) v i in
    let here : q ≡ at Rest n = λ j. record { phase = stands.rests j; number = stands.branch j } in
    let sooner = subst (λ (r : State). Fires (Share Com) x fired.before r fired.list fired.between fired.state ts) here fired.sooner in
    let answers = shared_answers x fired.before n fired.list fired.between fired.state ts stands.one (fired.exactly (Req 1)) (fired.exactly (Req 2)) sooner in
    let later = subst (λ (r : State). Fires (Share Com) x fired.between r (requests a d) fired.behind s us) answers.0 fired.later in
    let passed = shared_requests x fired.between n a d fired.behind s us (pulses 1 (omega arith)) (pulses 2 (omega arith)) refl refl later in
    let pulse : times (Ans 0) fired.list ≡ p = fired.exactly (Ans 0) in
    let branch : nets.at after (b + 3) ≡ bit_or d (bit_and n (1 - a)) = k3 ∙ (e2 ∙ ap (bit_or d) (e1 ∙ (λ j. bit_and (e3 j) (e0 j)))) in
    let kept : nets.at after (b + 6) ≡ bit_or a d = k6 ∙ e5 in
    let table = branch_table n a d stands.one (pulses 1 (omega arith)) (pulses 2 (omega arith)) in
    let shown_at = answer_table n p stands.one (pulses 0 (omega arith)) in
    let counts = request_due m ts stands.held in
    let first : due 0 (held (Req 0) m ++ ts) ≡ m = omega (arith, counts.0, answers.1) in
    let second : due 1 (held (Req 0) m ++ ts) ≡ (if nat_eq n 0 then p else 0) = counts.1 ∙ (answers.2 ∙ ap (λ (t : ℕ). if nat_eq n 0 then t else 0) pulse) in
    let third : due 2 (held (Req 0) m ++ ts) ≡ (if nat_eq n 0 then 0 else p) = counts.2 ∙ (answers.3 ∙ ap (λ (t : ℕ). if nat_eq n 0 then 0 else t) pulse) in
    let fifth : nets.at v (b + 7) ≡ (if nat_eq n 0 then p else 0) = e7 ∙ (ap (bit_and p) (e4 ∙ ap (λ (t : ℕ). 1 - t) e3) ∙ shown_at.0) in
    let sixth : nets.at v (b + 8) ≡ (if nat_eq n 0 then 0 else p) = e8 ∙ (ap (bit_and p) e3 ∙ shown_at.1) in
    let bound = either_or (nat_eq n 0) p (pulses 0 (omega arith)) in (
      (
        omega (arith, first, stands.held),
        e6 ∙ sym first,
        (omega (arith, second, bound.0), fifth ∙ sym second, (omega (arith, third, bound.1), sixth ∙ sym third, tt)),
      ),
      same_held (nets.at after (b + 6)) n a d s us (omega (arith, kept, either_table a d (pulses 1 (omega arith)) (pulses 2 (omega arith)))) kept passed,
      record {
        rests = ap (λ (r : State). r.phase) passed.is;
        branch = ap (λ (r : State). r.number) passed.is ∙ sym (branch ∙ table.0);
        one = omega (arith, branch, table.0, table.1);
        held = omega (arith, kept, either_table a d (pulses 1 (omega arith)) (pulses 2 (omega arith)));
      },
    )

-- what comes in at handshake h, an earlier cell, and a register
abbrev Known : ℕ → Incoming → ℕ → ℕ → Type 0
Known b i n net = IsKnown (part_contacts (Share Com)) i b (shared_cells b i) n net

shared_order : (b : ℕ) (i : Incoming) → NameEarlier (part_contacts (Share Com)) i b (shared_cells b i) 0 (shared_cells b i)
shared_order b i =
    let zeroth : (n : ℕ) → Known b i n (i.pulse 0) = λ n. inl (0, omega arith, inl refl) in
    let first : (n : ℕ) → Known b i n (i.pulse 1) = λ n. inl (1, omega arith, inl refl) in
    let second : (n : ℕ) → Known b i n (i.pulse 2) = λ n. inl (2, omega arith, inl refl) in
    let branch : (n : ℕ) → Known b i n (b + 3) = λ n. inr (3, _, refl, refl, inr (b + 2, refl)) in (
      (first 0, tt),
      (
        (branch 1, (inr (0, _, refl, refl, inl (omega arith)), tt)),
        (
          (second 2, (inr (1, _, refl, refl, inl (omega arith)), tt)),
          (
            (inr (2, _, refl, refl, inl (omega arith)), tt),
            (
              (branch 4, tt),
              (
                (first 5, (second 5, tt)),
                (
                  (inr (5, _, refl, refl, inl (omega arith)), tt),
                  ((zeroth 7, (inr (4, _, refl, refl, inl (omega arith)), tt)), ((zeroth 8, (branch 8, tt)), tt)),
                ),
              ),
            ),
          ),
        ),
      ),
    )

shared_widths : (b : ℕ) (i : Incoming) (bits : List ℕ) → BitsComeIn (part_contacts (Share Com)) i bits → HaveBits bits b 0 (shared_cells b i)
    → AllByRecursion (HasRightWidths bits) (shared_cells b i)
shared_widths b i bits come (w0, (w1, (w2, (w3, (w4, (w5, (w6, (w7, (w8, nothing))))))))) =
    let zeroth = (come 0 (omega arith)).0 in
    let first = (come 1 (omega arith)).0 in
    let second = (come 2 (omega arith)).0 in (
      (omega arith, omega arith, first),
      (
        (omega arith, omega arith, (w3, w0)),
        (
          (omega arith, omega arith, (second, w1)),
          (
            (omega arith, omega arith, w2),
            (
              (omega arith, omega arith, w3),
              (
                (omega arith, omega arith, (first, second)),
                ((omega arith, omega arith, w5), ((omega arith, omega arith, (zeroth, w4)), ((omega arith, omega arith, (zeroth, w3)), tt))),
              ),
            ),
          ),
        ),
      ),
    )

pub shared_gates : SharedGates
shared_gates rank =
    record {
      law = law_in_order (Share Com) shared_cells shared_outs shared_late shared_pending SharedStands shared_law rank;
      rests = λ b regs zeros. (
        record { rests = refl; branch = sym (zeros (b + 3)); one = omega (arith, zeros (b + 3)); held = omega (arith, zeros (b + 6)) },
        ap (held (Req 0)) (zeros (b + 6)),
      );
      silent = λ b i v regs after settled pulses. tt;
      fits =
          record {
            outgoing = λ b i. (
              (refl, (6, _, refl, refl, refl)),
              ((refl, (7, _, refl, refl, refl)), ((refl, (8, _, refl, refl, refl)), tt)),
            );
            inner = λ b i. (
              (λ same. cc same),
              ((λ same. cc same), ((λ same. cc same), ((λ same. cc same), ((λ same. cc same), ((λ same. cc same), ((λ same. cc same), ((λ same. cc same), ((λ same. cc same), tt)))))))),
            );
            order = shared_order;
            widths = shared_widths;
          };
    }
