-- The gates of a Share keep the law.
--
-- Read first: Answers, Late, Row.
use Rattle.std.proofs.Common.{◌≡◌, inl, inr, ℕ, zero, suc, ◌+◌, ◌*◌, ◌≤◌, List, [], ◌∷◌, ◌++◌, refl, sym, ◌∙◌, ap, subst, arith}
use Rattle.std.specs.Prelude.{◌-◌, length, bit_or}
use Rattle.gos_types.specs.declared.shakes.Role.{Role}
use Rattle.gos_types.specs.declared.shakes.Role.TheVariants.{Serve, Ask}
use Rattle.gos_types.specs.Types.{Type'}
use Rattle.gos_netlist.specs.Settling.{Numbers}
use Rattle.gos_netlist.specs.Settling as nets
use Rattle.gos_plan.specs.Kinds.{Share, Contact, contacts_of, other_side}
use Rattle.gos_plan.specs.Firing.{Rest, State, Slot, Req, Ans, Token, at}
use Rattle.gos_macro.specs.Gates.{Outgoing, pulse_in, value_in, is_among, Shows, SameTokens}
use Rattle.gos_plan.specs.Firings.{due, Asked, Fires, times}
use Rattle.gos_macro.specs.Law.{pulse_at, pulsed, GatesLaw, RestsAtZero}
use Rattle.gos_macro.specs.laws.Passing.{repeated, due_append}
use Rattle.gos_share.specs.Blocks.{block_size}
use Rattle.gos_share.specs.Share.{share_cells, source_outs, caller_outs, share_outs, share_late, block_pending, row_pending, share_pending, BlockHolds, RowHolds, ShareStands}
use Rattle.gos_share.specs.laws.Rows.{count_of, branch_side}
use Rattle.gos_share.specs.laws.Answers.{AreSides, Answered, answers}
use Rattle.gos_share.specs.laws.Slots.{requests, answers_from, served_tells, told_requests, told_answers, no_request_early}
use Rattle.gos_share.specs.laws.Requests.{passed, branch_behind}
use Rattle.gos_share.specs.laws.Comes.{sides, all_placed, all_come}
use Rattle.gos_share.specs.laws.Pending.{all_puts}
use Rattle.gos_share.specs.laws.Row.{Early, row_shown, to_zero, to_one}
use Rattle.gos_share.specs.laws.Late.{branch_after, late, one_ask, one_small, zero_small, computed}

-- the early firings, by the branch
as_first : (h : ℕ) (x : ℕ → ℕ) (fs : List Slot) (r : State) (ts : List Token) → Answered h h (h + h) 0 x fs r ts → Early h 0 x fs ts
as_first h x fs r ts known =
    record {
      first = λ j low. known.to_caller j low;
      second = λ j low. known.to_other j low;
      source = λ j low.
          let puts = known.to_source j low in
          let p0 = puts.0 in
          let p1 = puts.1 in
          let none : times (Ans (h + h + j)) fs ≡ 0 = known.by_other j low in
          let nothing : repeated (times (Ans (h + h + j)) fs) (x (h + h + j)) ≡ 0 = ap (λ (c : ℕ). repeated c (x (h + h + j))) none in
          (omega (arith, p0, none), omega (arith, p1, nothing));
      one_side = λ j low. inr (known.by_other j low);
    }

as_second : (h : ℕ) (x : ℕ → ℕ) (fs : List Slot) (r : State) (ts : List Token) → Answered h (h + h) h 1 x fs r ts → Early h 1 x fs ts
as_second h x fs r ts known =
    record {
      first = λ j low. known.to_other j low;
      second = λ j low. known.to_caller j low;
      source = λ j low.
          let puts = known.to_source j low in
          let p0 = puts.0 in
          let p1 = puts.1 in
          let none : times (Ans (h + j)) fs ≡ 0 = known.by_other j low in
          let nothing : repeated (times (Ans (h + j)) fs) (x (h + j)) ≡ 0 = ap (λ (c : ℕ). repeated c (x (h + j))) none in
          (omega (arith, p0, none), omega (arith, p1, nothing));
      one_side = λ j low. inl (known.by_other j low);
    }

pub early : (t : Type') (x : ℕ → ℕ) (n : ℕ) (o : Asked) (fs : List Slot) (p : Asked) (r : State) (ts : List Token) → n ≤ 1 → ((m : ℕ) → times (Req m) fs ≡ 0)
    → Fires (Share t) x o (at Rest n) fs p r ts → (r ≡ at Rest n) × Early (count_of t) n x fs ts
early t x zero o fs p r ts small none fires =
    let h = count_of t in
    let here : branch_side h 0 ≡ h = omega arith in
    let apart : AreSides h (branch_side h 0) (h + h) = record { near = omega arith; far = omega arith; apart = λ m j low high same. omega (arith, low, high, same) } in
    let known = answers t x 0 (h + h) o fs p r ts apart none fires in
    (known.state, as_first h x fs r ts (subst (λ (k : ℕ). Answered h k (h + h) 0 x fs r ts) here known))
early t x (suc zero) o fs p r ts small none fires =
    let h = count_of t in
    let here : branch_side h 1 ≡ h + h = omega arith in
    let apart : AreSides h (branch_side h 1) h = record { near = omega arith; far = omega arith; apart = λ m j low high same. omega (arith, low, high, same) } in
    let known = answers t x 1 h o fs p r ts apart none fires in
    (known.state, as_second h x fs r ts (subst (λ (k : ℕ). Answered h k h 1 x fs r ts) here known))
early t x (suc (suc n)) o fs p r ts small none fires = absurd (omega (arith, small))

-- what goes out at lists of handshakes
shows_append : (v : Numbers) (d e : ℕ) (os qs : List Outgoing) (ts : List Token) → e ≡ d + length os → Shows v d os ts → Shows v e qs ts → Shows v d (os ++ qs) ts
shows_append v d e [] qs ts is first second = let here : e ≡ d = omega (arith, is) in subst (λ (c : ℕ). Shows v c qs ts) here second
shows_append v d e (o ∷ os) qs ts is first second = (first.0, first.1, shows_append v (suc d) e os qs ts (omega (arith, is)) first.2 second)

pub source_length : (b n : ℕ) (ks : List Contact) → length (source_outs b n ks) ≡ length ks
source_length b n [] = refl
source_length b n (k ∷ ks) = ap suc (source_length b (n + block_size k.role k.ask_bits k.answer_bits) ks)

pub caller_length : (c b n : ℕ) (ks : List Contact) → length (caller_outs c b n ks) ≡ length ks
caller_length c b n [] = refl
caller_length c b n (k ∷ ks) = ap suc (caller_length c b (n + block_size k.role k.ask_bits k.answer_bits) ks)

pub share_law : (t : Type') → GatesLaw (Share t) (share_cells (contacts_of t)) (share_outs (contacts_of t)) (share_late (contacts_of t)) (share_pending (contacts_of t)) (ShareStands (contacts_of t))
share_law t b i v regs after q s ts us (c0, k0, (c1, k1, (c2, k2, row))) pulses values stands fired =
    let all : List Contact = contacts_of t in
    let h : ℕ = count_of t in
    let n : ℕ = nets.at regs (b + 0) in
    let p : ℕ → ℕ = pulse_in v i in
    let x : ℕ → ℕ = value_in (Share t) v i in
    let tells = served_tells 0 (sides all) in
    let soon = told_answers (is_among (share_late all)) 0 (sides all) tells in
    let later_slots = told_requests (is_among (share_late all)) 0 (sides all) tells in
    let taken : (c : Slot) → times c fired.list ≡ pulse_at p c (answers_from 0 (sides all)) = λ c. fired.exactly c ∙ ap (pulse_at p c) soon in
    let none : (m : ℕ) → times (Req m) fired.list ≡ 0 = λ m. taken (Req m) ∙ no_request_early p m 0 (sides all) in
    let here : q ≡ at Rest n = λ j. record { phase = stands.rests j; number = stands.branch j } in
    let sooner = subst (λ (c : State). Fires (Share t) x fired.before c fired.list fired.between fired.state ts) here fired.sooner in
    let answered = early t x n fired.before fired.list fired.between fired.state ts stands.one none sooner in
    let between = subst (λ (c : State). Fires (Share t) x fired.between c (pulsed p (requests 0 (sides all))) fired.behind s us) answered.0
    (subst (λ (ss : List Slot). Fires (Share t) x fired.between fired.state (pulsed p ss) fired.behind s us) later_slots fired.later) in
    let sent = late t x p fired.between n fired.behind s us between in
    let comes = all_come p x (λ e. nets.at v (i.value e)) fired.list all 0 all pulses (λ m. refl) (λ m. taken (Ans m)) (all_placed all) in
    let first = passed p x h 0 all in
    let second = passed p x (h + h) 0 all in
    let asks = one_ask p x (λ e. nets.at v (i.value e)) fired.list h 0 h (h + h) all (omega arith) (omega arith) comes (λ d.
    let small = sent.once d in
    let is = ap (due d) sent.puts in
    let d0 = due_append d (passed p x 0 (h + n * h) (other_side all)) (first ++ second) in
    let d1 = due_append d first second in
    omega (arith, small, is, d0, d1)) in
    let held = share_pending all b regs in
    let isn't : nets.at v (b + 1) ≡ 1 - n = c1 ∙ ap (λ (m : ℕ). 1 - m) c0 in
    let shown = row_shown i h 0 h (h + h) (h + n * h) b 3 (b + 0) (b + 2) n x v regs after fired.list held ts all c0 isn't stands.one c2 (omega (arith, c2)) answered.1
    (omega arith) (omega arith) (omega arith) (omega arith) comes asks stands.held (all_puts b regs all stands.held) row in
    let branch : nets.at after (b + 0) ≡ branch_after p h n all =
    k0 ∙ (shown.branch ∙ ((λ j. bit_or (branch_behind to_zero p h (c0 j) all) (branch_behind to_one p (h + h) (c2 j) all)) ∙ computed p h n all stands.one)) in
    let first_long = source_length b 3 all in
    let second_long = caller_length 0 b 3 all in (
      shows_append v 0 h (source_outs b 3 all) (caller_outs 0 b 3 all ++ caller_outs 1 b 3 all) (held ++ ts) (omega (arith, first_long)) shown.source
          (shows_append v h (h + h) (caller_outs 0 b 3 all) (caller_outs 1 b 3 all) (held ++ ts) (omega (arith, second_long)) shown.first shown.second),
      subst (λ (vs : List Token). SameTokens (share_pending all b after) vs) (sym sent.puts) shown.pending,
      record {
        rests = ap (λ (c : State). c.phase) sent.state;
        branch = ap (λ (c : State). c.number) sent.state ∙ sym branch;
        one = subst (λ (m : ℕ). m ≤ 1) (sym branch) (one_small p (h + h) _ all (zero_small p h n all stands.one));
        held = shown.holds;
      },
    )

-- registers that are all 0
rest_holds : (b n : ℕ) (regs : Numbers) (ks : List Contact) → ((m : ℕ) → nets.at regs m ≡ 0) → RowHolds b n regs ks
rest_holds b n regs [] zeros = tt
rest_holds b n regs (k ∷ ks) zeros = (by_role k.role, rest_holds b (n + block_size k.role k.ask_bits k.answer_bits) regs ks zeros)
  where
    by_role : (r : Role) → BlockHolds r b n regs
    by_role Serve = omega (arith, zeros (b + (n + 2 + 1)))
    by_role Ask = (omega (arith, zeros (b + (n + 2))), omega (arith, zeros (b + (n + 3))))

rest_pending : (h j b n : ℕ) (regs : Numbers) (ks : List Contact) → ((m : ℕ) → nets.at regs m ≡ 0) → row_pending h j b n regs ks ≡ []
rest_pending h j b n regs [] zeros = refl
rest_pending h j b n regs (k ∷ ks) zeros = by_role k.role (rest_pending h (suc j) b (n + block_size k.role k.ask_bits k.answer_bits) regs ks zeros)
  where
    by_role : (r : Role) → row_pending h (suc j) b (n + block_size k.role k.ask_bits k.answer_bits) regs ks ≡ []
        → block_pending r k.ask_bits h j b n regs ++ row_pending h (suc j) b (n + block_size k.role k.ask_bits k.answer_bits) regs ks ≡ []
    by_role Serve ih = rw (zeros (b + (n + 2 + 1))) ih
    by_role Ask ih = rw (zeros (b + (n + 2)), zeros (b + (n + 3))) ih

pub share_rests : (ks : List Contact) → RestsAtZero (share_pending ks) (ShareStands ks)
share_rests ks b regs zeros = (
  record { rests = refl; branch = sym (zeros (b + 0)); one = omega (arith, zeros (b + 0)); held = rest_holds b 3 regs ks zeros },
  rest_pending (length ks) 0 b 3 regs ks zeros,
)
