-- The gates of a Share by order keep the law of a cycle in this order.
--
-- Read first: Moved, Fired, Threaded, Shown.
use Rattle.std.proofs.Common.{◌≡◌, ℕ, zero, suc, ◌+◌, ◌≤◌, ◌<◌, false, List, [], ◌∷◌, ◌++◌, Some, refl, sym, ◌∙◌, ap, subst, arith, nat_eq, if◌then◌else◌}
use Rattle.std.specs.Prelude.{length, map, slice_get}
use Rattle.std.proofs.lemmas.List.{length-map, length-append}
use Rattle.gos_types.specs.declared.shakes.Role.{Role}
use Rattle.gos_types.specs.declared.shakes.Role.TheVariants.{Serve, Ask}
use Rattle.gos_types.specs.Handshakes.{turned}
use Rattle.gos_types.specs.Types.{Type'}
use Rattle.gos_netlist.specs.Settling.{Numbers}
use Rattle.gos_netlist.specs.Settling as nets
use Rattle.gos_plan.specs.Kinds.{Share, Contact, contacts_of, turned_contact, other_side, part_contacts}
use Rattle.gos_plan.specs.Firing.{Rest, State, Slot, Token, at}
use Rattle.gos_plan.specs.Tokens.{shake_of}
use Rattle.gos_plan.specs.Firings.{due, value_due, Fires}
use Rattle.gos_macro.specs.Gates.{Incoming, Outgoing, bits_in, incoming_bits, Settled, pulse_in, value_in, nothing_pending, is_among}
use Rattle.gos_macro.specs.Law.{pulsed, late_slots, Order, early_in_order, LawInOrder, RestsAtZero}
use Rattle.gos_macro.specs.laws.AnyOrder.{EachShown, shown_each}
use Rattle.gos_macro.specs.laws.Counting.{none_chosen}
use Rattle.gos_macro.specs.laws.Passing.{repeated}
use Rattle.gos_macro.specs.laws.SettledCells.{settled_both}
use Rattle.gos_share.specs.Share.{number_of}
use Rattle.gos_share.specs.laws.Answers.{Puts}
use Rattle.gos_share.specs.laws.Slots.{bits_there}
use Rattle.gos_share.specs.laws.Comes.{sides, ArePlaced, all_placed}
use Rattle.gos_share.specs.laws.Shown.{to_first, to_second}
use Rattle.gos_fast_share.specs.Thread.{asker, one_if_asks, requests, behind, when}
use Rattle.gos_fast_share.specs.Fast.{set_cells, thread_cells, up_bits, down_bits, block_size, row_cells, fast_cells, source_outs, caller_outs, fast_outs, FastStands}
use Rattle.gos_fast_share.specs.Order.{IsByRank}
use Rattle.gos_fast_share.specs.laws.Turns.{side}
use Rattle.gos_fast_share.specs.laws.Moved.{often, told, Moved, moved}
use Rattle.gos_fast_share.specs.laws.Fired.{with_pulse, shakes_pulsed, set_by_pulses, often_pulsed, if_one, told_once, each_stands_once}
use Rattle.gos_fast_share.specs.laws.Threaded.{set_length, ThreadShows, thread_shows}
use Rattle.gos_fast_share.specs.laws.Shown.{AllNumbersCome, AreDue, RowShown, row_shown}

-- how many handshakes the Share of these has
pub sides_length : (ks : List Contact) → length (sides ks) ≡ length ks + (length ks + length ks)
sides_length ks =
    length-append (other_side ks) (ks ++ ks) ∙ ((λ i. length-map ks turned_contact i + length-append ks ks i))

-- the numbers that come in
bears : (w a : ℕ) → (if nat_eq w 0 then 0 else a) ≡ number_of w a
bears zero a = refl
bears (suc w) a = grind arith

pub up_is : (r : Role) (k : Contact) → bits_in r k ≡ up_bits r k.ask_bits k.answer_bits
up_is Serve k = refl
up_is Ask k = refl

pub down_is : (r : Role) (k : Contact) → bits_in (turned r) (turned_contact k) ≡ down_bits r k.ask_bits k.answer_bits
down_is Serve k = refl
down_is Ask k = refl

number_at : (cs : List Contact) (x a : ℕ → ℕ) (e w : ℕ) (k : Contact) → ((m : ℕ) → x m ≡ (if nat_eq (incoming_bits cs m) 0 then 0 else a m))
    → slice_get cs e ≡ Some k → bits_in k.role k ≡ w → x e ≡ number_of w (a e)
number_at cs x a e w k numbers there is =
    numbers e ∙ ((λ i. if nat_eq ((bits_there e cs k there ∙ is) i) 0 then 0 else a e) ∙ bears w (a e))

numbers_come : (all : List Contact) (x a : ℕ → ℕ) (j : ℕ) (ks : List Contact) → ((m : ℕ) → x m ≡ (if nat_eq (incoming_bits (sides all) m) 0 then 0 else a m))
    → ArePlaced all j ks → AllNumbersCome x a (length all) j ks
numbers_come all x a j [] numbers placed = tt
numbers_come all x a j (k ∷ ks) numbers placed = (
  record {
    source = number_at (sides all) x a j _ (turned_contact k) numbers placed.0.source (down_is k.role k);
    first = number_at (sides all) x a (length all + j) _ k numbers placed.0.first (up_is k.role k);
    second = number_at (sides all) x a (length all + length all + j) _ k numbers placed.0.second (up_is k.role k);
  },
  numbers_come all x a (suc j) ks numbers placed.1,
)

-- nothing is late
nothing_late : (t : Type') (p : ℕ → ℕ) → pulsed p (late_slots (Share t) []) ≡ []
nothing_late t p = ap (pulsed p) (none_chosen (is_among []) 0 (part_contacts (Share t)) (λ g. refl))

-- a pulse counts where it is 1
counts : (p m : ℕ) → p ≤ 1 → m ≡ 1 → (if nat_eq p 1 then m else 0) ≡ p
counts zero m small once = refl
counts (suc zero) m small once = once
counts (suc (suc p)) m small once = absurd (omega (arith, small))

to_caller0 : (m p : ℕ) → m ≤ 1 → p ≤ 1 → (if nat_eq m 0 then if_one p 1 else 0) ≡ to_first m p
to_caller0 zero zero small one = refl
to_caller0 zero (suc zero) small one = refl
to_caller0 zero (suc (suc p)) small one = absurd (omega (arith, one))
to_caller0 (suc m) p small one = let some : nat_eq (suc m) 0 ≡ false = grind arith in rw some refl

to_caller1 : (m p : ℕ) → m ≤ 1 → p ≤ 1 → (if nat_eq m 1 then if_one p 1 else 0) ≡ to_second m p
to_caller1 zero p small one = refl
to_caller1 (suc zero) zero small one = refl
to_caller1 (suc zero) (suc zero) small one = refl
to_caller1 (suc zero) (suc (suc p)) small one = absurd (omega (arith, one))
to_caller1 (suc (suc m)) p small one = absurd (omega (arith, small))

-- what is due at the sides of a handshake
dues : (ks : List Contact) (order : List ℕ) (p x : ℕ → ℕ) (n : ℕ) (r : State) (ts : List Token) → n ≤ 1
    → ((e : ℕ) → e < length ks + (length ks + length ks) → p e ≤ 1) → ((e : ℕ) → e < length ks + (length ks + length ks) → often e order ≡ 1)
    → ((e : ℕ) → when ks p e n order ≤ 1)
    → Moved ks (length ks) n x (with_pulse p order) r ts → (j : ℕ) → j < length ks → AreDue p x (length ks) j (when ks p j n order) ts
dues ks order p x n r ts small pulses once branch known j low =
    record { source = to_source; first = to_one; second = to_two }
  where
    h : ℕ
    h = length ks

    taken : (d : ℕ) → d < h + (h + h) → often d (with_pulse p order) ≡ p d
    taken d within = often_pulsed p d order ∙ counts (p d) (often d order) (pulses d within) (once d within)

    first_side : side h 0 + j ≡ h + j
    first_side = omega arith

    second_side : side h 1 + j ≡ h + h + j
    second_side = omega arith

    first_taken : often (side h 0 + j) (with_pulse p order) ≡ p (h + j)
    first_taken = ap (λ (d : ℕ). often d (with_pulse p order)) first_side ∙ taken (h + j) (omega (arith, low))

    second_taken : often (side h 1 + j) (with_pulse p order) ≡ p (h + h + j)
    second_taken = ap (λ (d : ℕ). often d (with_pulse p order)) second_side ∙ taken (h + h + j) (omega (arith, low))

    to_source : Puts j (p (h + j) + p (h + h + j)) (repeated (p (h + j)) (x (h + j)) + repeated (p (h + h + j)) (x (h + h + j))) ts
    to_source =
        let puts = known.source j low in (
          puts.0 ∙ (λ i. first_taken i + second_taken i),
          puts.1 ∙ (λ i. repeated (first_taken i) (x (first_side i)) + repeated (second_taken i) (x (second_side i))),
        )

    told_first : told ks 0 j n (with_pulse p order) ≡ to_first (when ks p j n order) (p j)
    told_first = told_once ks p 0 j n order (once j (omega (arith, low))) ∙ to_caller0 (when ks p j n order) (p j) (branch j) (pulses j (omega (arith, low)))

    told_second : told ks 1 j n (with_pulse p order) ≡ to_second (when ks p j n order) (p j)
    told_second = told_once ks p 1 j n order (once j (omega (arith, low))) ∙ to_caller1 (when ks p j n order) (p j) (branch j) (pulses j (omega (arith, low)))

    to_one : Puts (h + j) (to_first (when ks p j n order) (p j)) (repeated (to_first (when ks p j n order) (p j)) (x j)) ts
    to_one =
        subst (λ (d : ℕ). Puts d (to_first (when ks p j n order) (p j)) (repeated (to_first (when ks p j n order) (p j)) (x j)) ts) first_side
        (subst (λ (m : ℕ). Puts (side h 0 + j) m (repeated m (x j)) ts) told_first (known.caller 0 j (omega arith) low))

    to_two : Puts (h + h + j) (to_second (when ks p j n order) (p j)) (repeated (to_second (when ks p j n order) (p j)) (x j)) ts
    to_two =
        subst (λ (d : ℕ). Puts d (to_second (when ks p j n order) (p j)) (repeated (to_second (when ks p j n order) (p j)) (x j)) ts) second_side
        (subst (λ (m : ℕ). Puts (side h 1 + j) m (repeated m (x j)) ts) told_second (known.caller 1 j (omega arith) low))

-- what goes out at lists of handshakes
each_append : (v : Numbers) (d e : ℕ) (os qs : List Outgoing) (ts : List Token) → e ≡ d + length os → EachShown v d os ts → EachShown v e qs ts
    → EachShown v d (os ++ qs) ts
each_append v d e [] qs ts is first second = let here : e ≡ d = omega (arith, is) in subst (λ (c : ℕ). EachShown v c qs ts) here second
each_append v d e (o ∷ os) qs ts is first second = (first.0, each_append v (suc d) e os qs ts (omega (arith, is)) first.1 second)

pub source_length : (b n : ℕ) (ks : List Contact) → length (source_outs b n ks) ≡ length ks
source_length b n [] = refl
source_length b n (k ∷ ks) = ap suc (source_length b (n + block_size k.role k.ask_bits k.answer_bits) ks)

pub caller_length : (c b n : ℕ) (ks : List Contact) → length (caller_outs c b n ks) ≡ length ks
caller_length c b n [] = refl
caller_length c b n (k ∷ ks) = ap suc (caller_length c b (n + block_size k.role k.ask_bits k.answer_bits) ks)

pub thread_length : (ks : List Contact) (i : Incoming) (b n : ℕ) (es : List ℕ) → length (thread_cells ks i b n es) ≡ requests ks es
thread_length ks i b n [] = refl
thread_length ks i b n (e ∷ es) =
    length-append (set_cells (asker ks e) (i.pulse e) b n) (thread_cells ks i b (n + one_if_asks (asker ks e)) es)
    ∙ (λ j. set_length (asker ks e) (i.pulse e) b n j + thread_length ks i b (n + one_if_asks (asker ks e)) es j)

pub fast_law : (t : Type') (order : List ℕ) (rank : Order) → IsByRank t order rank
    → LawInOrder (Share t) (fast_cells (contacts_of t) order) (fast_outs (contacts_of t) order) [] nothing_pending FastStands rank
fast_law t order rank by_rank b i v regs after q s ts us (c0, k0, (c1, k1, rest)) pulses values stands fired =
    (shown_each v (fast_outs all order b) ts each, (λ j. (sym (ap (due j) later.2), sym (ap (value_due j) later.2))), stands_then)
  where
    all : List Contact
    all = contacts_of t

    h : ℕ
    h = length all

    n : ℕ
    n = nets.at regs (b + 1)

    p : ℕ → ℕ
    p = pulse_in v i

    x : ℕ → ℕ
    x = value_in (Share t) v i

    slots : List Slot
    slots = pulsed p (early_in_order (Share t) [] rank fired.top)

    here : q ≡ at Rest n
    here = λ j. record { phase = stands.rests j; number = stands.branch j }

    ordered : map shake_of slots ≡ with_pulse p order
    ordered = shakes_pulsed p (early_in_order (Share t) [] rank fired.top) ∙ ap (with_pulse p) (by_rank fired.top fired.above)

    known : Moved all h n x (with_pulse p order) fired.state ts
    known =
        subst (λ (es : List ℕ). Moved all h n x es fired.state ts) ordered
        (moved t x fired.before n slots fired.between fired.state ts stands.one
        (subst (λ (c : State). Fires (Share t) x fired.before c slots fired.between fired.state ts) here fired.sooner))

    later : (fired.behind ≡ fired.between) × (s ≡ fired.state) × (us ≡ [])
    later = subst (λ (l : List Slot). Fires (Share t) x fired.between fired.state l fired.behind s us) (nothing_late t p) fired.later

    pulses_there : (e : ℕ) → e < h + (h + h) → p e ≤ 1
    pulses_there e low = pulses e (let long = sides_length all in omega (arith, low, long))

    once : (e : ℕ) → e < h + (h + h) → often e order ≡ 1
    once e low =
        subst (λ (es : List ℕ). often e es ≡ 1) (by_rank fired.top fired.above)
        (each_stands_once (Share t) rank fired.top fired.above e (let long = sides_length all in omega (arith, low, long)))

    parts : Settled v regs after b 2 (thread_cells all i b 1 order) × Settled v regs after b (2 + requests all order) (row_cells all order i 0 b (2 + requests all order) all)
    parts =
        settled_both v regs after b 2 (requests all order) (thread_cells all i b 1 order) (row_cells all order i 0 b (2 + requests all order) all)
        (thread_length all i b 1 order) rest

    thread : ThreadShows all p b 1 n v order
    thread = thread_shows all i b 1 n v regs after order stands.one pulses_there c0 c1 parts.0

    row : RowShown h 0 h (h + h) b (2 + requests all order) v ts all
    row =
        row_shown all order i 0 h (h + h) b (2 + requests all order) n x v regs after ts all (omega arith) (omega arith) (omega arith) c0 thread pulses_there
        (numbers_come all x (λ e. nets.at v (i.value e)) 0 all (λ m. refl) (all_placed all))
        (λ e low. dues all order p x n fired.state ts stands.one pulses_there once thread.each_small known e low) parts.1

    first_long : length (source_outs b (2 + requests all order) all) ≡ h
    first_long = source_length b (2 + requests all order) all

    second_long : length (caller_outs 0 b (2 + requests all order) all) ≡ h
    second_long = caller_length 0 b (2 + requests all order) all

    each : EachShown v 0 (fast_outs all order b) ts
    each =
        each_append v 0 h (source_outs b (2 + requests all order) all) (caller_outs 0 b (2 + requests all order) all ++ caller_outs 1 b (2 + requests all order) all) ts
        (omega (arith, first_long)) row.source
        (each_append v h (h + h) (caller_outs 0 b (2 + requests all order) all) (caller_outs 1 b (2 + requests all order) all) ts (omega (arith, second_long)) row.first row.second)

    branch : nets.at after (b + 1) ≡ behind all p n order
    branch = k1 ∙ thread.last

    state : s ≡ at Rest (behind all p n order)
    state = later.1 ∙ (known.state ∙ ap (λ (m : ℕ). at Rest m) (set_by_pulses all p n order))

    stands_then : FastStands b after s
    stands_then =
        record {
          rests = ap (λ (c : State). c.phase) state;
          branch = ap (λ (c : State). c.number) state ∙ sym branch;
          one = subst (λ (m : ℕ). m ≤ 1) (sym branch) thread.last_small;
        }

-- registers that are all 0
pub fast_rests : RestsAtZero nothing_pending FastStands
fast_rests b regs zeros = (record { rests = refl; branch = sym (zeros (b + 1)); one = let none = zeros (b + 1) in omega (arith, none) }, refl)
