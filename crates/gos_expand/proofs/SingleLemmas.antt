-- At the source of a direction of a joint without registers at most one token is due in a cycle: what is pending there and what
-- its part puts there early is together one at most.
--
-- The list of the cycle is looked at up to the firings of ranks below that of the other end. Nothing is taken there so far, and a
-- place holds one token at most. What the part puts there early it puts by then: each such firing passes on to the other end, so
-- it has a lower rank. Two tokens there would need a ring.
use Rattle.std.specs.Prelude.{◌&&◌, nat_lt}
use Rattle.std.proofs.Common.{◌≡◌, ℕ, zero, suc, ◌+◌, ◌-◌, ◌≤◌, ◌<◌, Bool, true, false, not, List, [], ◌∷◌, ◌++◌, Some, slice_get, length, refl, sym, ◌∙◌, ap, subst, arith, nat_eq, append_assoc, if◌then◌else◌}
use Rattle.std.proofs.lemmas.List.{append-nil}
use Rattle.gos_netlist.specs.Nets.{Netlist}
use Rattle.gos_netlist.specs.Settling.{Numbers}
use Rattle.gos_types.specs.Events.{Direction}
use Rattle.gos_plan.specs.Kinds.{Part, Contact, part_contacts}
use Rattle.gos_plan.specs.Firing.{State, Slot, Req, Ans, Token, Row, same_slot, firing}
use Rattle.gos_plan.specs.Plans.{End, PartEnd, Joint, Plan, contact_at}
use Rattle.gos_plan.specs.Tokens.{Tokens, Element, shake_of, way_taken}
use Rattle.gos_plan.specs.Orderly.{Open, OrderlyFrom}
use Rattle.gos_plan.specs.Firings.{due, Asked, after_taking, after_putting, Fires, times}
use Rattle.gos_plan.specs.Projection.{firings_of, asked_by, TakesValues}
use Rattle.gos_plan.specs.Accounts.{count, taken_at, put_at, AddsUp, PartsPut}
use Rattle.gos_plan.specs.Made.{PartFiring, fires_of}
use Rattle.gos_plan.specs.laws.Inversion.{same as same_slots}
use Rattle.gos_macro.specs.Gates.{is_among, slot_in, slots_of, pulse_in, value_in}
use Rattle.gos_macro.specs.Law.{Order, in_order, pulsed}
use Rattle.gos_macro.specs.laws.Counting.{times-append, shake_in, times_pulsed}
use Rattle.gos_macro.proofs.causal.FiringLemmas.{pulsed-append}
use Rattle.gos_expand.specs.Gates.{late_of}
use Rattle.gos_expand.specs.Starts.{Laying}
use Rattle.gos_expand.specs.Facts.{Places, source, target, incoming_at, Rises, order_at}
use Rattle.gos_expand.proofs.TallyLemmas.{Split, fires_split, due-append}
use Rattle.gos_expand.proofs.ChainLemmas.{Parted, orderly_parts}
use Rattle.gos_expand.proofs.StandingLemmas.{pending_at, shown_at, held_pulse, Now, filled, values, values_if, small_count}
use Rattle.gos_expand.proofs.ScheduleLemmas.{is_early, at_rank, chosen_from, early_below, late_ones, top, with_pulse, early_made, made_firings, firings_pulsed, with_pulse-append, early_listed, below_top}
use Rattle.gos_expand.proofs.PossibleLemmas.{listing, listing-append, firings_listed}
use Rattle.gos_expand.proofs.CauseLemmas.{untaken_below}
use Rattle.gos_expand.proofs.RankLemmas.{Whole}
use Rattle.gos_expand.proofs.MadeLemmas.{early_of, PartStep}

-- what a part puts by a list of firings is told by the list
fires_once : (k : Part) (x : ℕ → ℕ) (o : Asked) (q : State) (fs : List Slot) (p u : Asked) (r w : State) (ts us : List Token) → Fires k x o q fs p r ts → Fires k x o q fs u w us
    → ts ≡ us
fires_once k x o q [] p u r w ts us one other = one.2 ∙ sym other.2
fires_once k x o q (s ∷ ss) p u r w ts us (a, vs, is, well, puts, go) (b, zs, so, fine, also, went) =
    let same : a ≡ b = cc (is, so) in
    let onward : Fires k x (after_putting (a.puts (x (shake_of s))) (after_taking s o)) (a.next (x (shake_of s))) ss u w zs =
    subst (λ (z : Row). Fires k x (after_putting (z.puts (x (shake_of s))) (after_taking s o)) (z.next (x (shake_of s))) ss u w zs) (sym same) went in
    let rest = fires_once k x (after_putting (a.puts (x (shake_of s))) (after_taking s o)) (a.next (x (shake_of s))) ss p u r w vs zs go onward in
    puts ∙ ((λ j. (same j).puts (x (shake_of s)) ++ rest j) ∙ sym also)

same_itself : (s : Slot) → same_slot s s ≡ true
same_itself (Req h) = grind arith
same_itself (Ans h) = grind arith

more : (t : Bool) (n : ℕ) → 1 ≤ n → 1 ≤ (if t then suc n else n)
more true n some = omega (arith, some)
more false n some = some

-- firings that put nothing at a handshake
none_put : (k : Part) (x : ℕ → ℕ) (h : ℕ) (o : Asked) (q : State) (fs : List Slot) (p : Asked) (r : State) (ts : List Token)
    → ((s : Slot) (c : State) (w : Row) (a : ℕ) → 1 ≤ times s fs → firing k c s ≡ Some w → due h (w.puts a) ≡ 0)
    → Fires k x o q fs p r ts → due h ts ≡ 0
none_put k x h o q [] p r ts none fires = ap (due h) fires.2
none_put k x h o q (s ∷ ss) p r ts none (w, us, is, well, puts, go) =
    let itself = same_itself s in
    let here : due h (w.puts (x (shake_of s))) ≡ 0 = none s q w (x (shake_of s)) (rw itself (omega arith)) is in
    let rest : due h us ≡ 0 = none_put k x h (after_putting (w.puts (x (shake_of s))) (after_taking s o)) (w.next (x (shake_of s))) ss p r us (λ t c z a listed. none t c z a (more (same_slot s t) (times t ss) listed)) go in
    let split = due-append h (w.puts (x (shake_of s))) us in
    let all = ap (due h) puts in
    omega (arith, here, rest, split, all)

-- the slots of m ranks from r on, in order
abbrev between : Order → ℕ → ℕ → (ℕ → Bool) → List Contact → List Slot
between rank r zero these cs = []
between rank r (suc m) these cs = between rank r m these cs ++ slots_of (λ h. these h && nat_eq (rank h) (m + r)) 0 cs

slots_nil : (xs : List Slot) → xs ++ [] ≡ xs
slots_nil xs = append-nil xs

order_parts : (rank : Order) (r m t : ℕ) (these : ℕ → Bool) (cs : List Contact) → t ≡ m + r
    → in_order rank t these cs ≡ in_order rank r these cs ++ between rank r m these cs
order_parts rank r zero t these cs is =
    let here : t ≡ r = omega (arith, is) in
    ap (λ (n : ℕ). in_order rank n these cs) here ∙ sym (slots_nil (in_order rank r these cs))
order_parts rank r (suc m) zero these cs is = absurd (omega (arith, is))
order_parts rank r (suc m) (suc t) these cs is =
    let here : t ≡ m + r = omega (arith, is) in
    (λ j. order_parts rank r m t these cs here j ++ slots_of (λ h. these h && nat_eq (rank h) (here j)) 0 cs)
    ∙ append_assoc (in_order rank r these cs) (between rank r m these cs) (slots_of (λ h. these h && nat_eq (rank h) (m + r)) 0 cs)

-- a slot that stands among those of handshakes
chosen_slot : (these : ℕ → Bool) (h : ℕ) (cs : List Contact) (s : Slot) → 1 ≤ times s (slots_of these h cs) → (these (shake_of s) ≡ true) × (shake_of s < h + length cs)
chosen_slot these h [] s some = absurd (omega (arith, some))
chosen_slot these h (c ∷ cs) s some = by_test (these h) refl some (chosen_slot these (suc h) cs s)
  where
    further : (these (shake_of s) ≡ true) × (shake_of s < suc h + length cs) → (these (shake_of s) ≡ true) × (shake_of s < h + length (c ∷ cs))
    further known = (known.0, let low = known.1 in omega (arith, low))

    by_slot : (t : Bool) → same_slot (slot_in c.role h) s ≡ t → these h ≡ true
        → 1 ≤ (if t then suc (times s (slots_of these (suc h) cs)) else times s (slots_of these (suc h) cs))
        → (1 ≤ times s (slots_of these (suc h) cs) → (these (shake_of s) ≡ true) × (shake_of s < suc h + length cs))
        → (these (shake_of s) ≡ true) × (shake_of s < h + length (c ∷ cs))
    by_slot true equal is found rest =
        let here : h ≡ shake_of s = sym (shake_in c.role h) ∙ ap shake_of (same_slots (slot_in c.role h) s equal) in
        (subst (λ (j : ℕ). these j ≡ true) here is, omega (arith, here))
    by_slot false equal is found rest = further (rest found)

    by_test : (t : Bool) → these h ≡ t → 1 ≤ times s (if t then slot_in c.role h ∷ slots_of these (suc h) cs else slots_of these (suc h) cs)
        → (1 ≤ times s (slots_of these (suc h) cs) → (these (shake_of s) ≡ true) × (shake_of s < suc h + length cs))
        → (these (shake_of s) ≡ true) × (shake_of s < h + length (c ∷ cs))
    by_test true is found rest = by_slot (same_slot (slot_in c.role h) s) refl is found rest
    by_test false is found rest = further (rest found)

-- one of these ranks
record Ranked (rank : Order) (r : ℕ) (these : ℕ → Bool) (limit : ℕ) (s : Slot) : Type 0 where
  among : these (shake_of s) ≡ true
  within : shake_of s < limit
  high : r ≤ rank (shake_of s)

between_slot : (rank : Order) (r m : ℕ) (these : ℕ → Bool) (cs : List Contact) (s : Slot) → 1 ≤ times s (between rank r m these cs) → Ranked rank r these (length cs) s
between_slot rank r zero these cs s some = absurd (omega (arith, some))
between_slot rank r (suc m) these cs s some = by_side (times s (between rank r m these cs)) refl (between_slot rank r m these cs s)
  where
    both : (x : Bool) (a b : ℕ) → (x && nat_eq a b) ≡ true → (x ≡ true) × (a ≡ b)
    both true a b e = (refl, grind (arith, e))
    both false a b e = absurd (cc e)

    by_side : (a : ℕ) → times s (between rank r m these cs) ≡ a → (1 ≤ times s (between rank r m these cs) → Ranked rank r these (length cs) s) → Ranked rank r these (length cs) s
    by_side zero none rest =
        let all : times s (between rank r (suc m) these cs)
        ≡ times s (between rank r m these cs) + times s (slots_of (λ h. these h && nat_eq (rank h) (m + r)) 0 cs) =
        times-append s (between rank r m these cs) (slots_of (λ h. these h && nat_eq (rank h) (m + r)) 0 cs) in
        let found = chosen_slot (λ h. these h && nat_eq (rank h) (m + r)) 0 cs s (omega (arith, some, all, none)) in
        let parts = both (these (shake_of s)) (rank (shake_of s)) (m + r) found.0 in
        let low = found.1 in
        let is = parts.1 in
        record { among = parts.0; within = omega (arith, low); high = omega (arith, is) }
    by_side (suc a) is rest = rest (omega (arith, is))

-- a slot with a pulse is one
unpulsed : (f : ℕ → ℕ) (s : Slot) (xs : List Slot) → 1 ≤ times s (pulsed f xs) → 1 ≤ times s xs
unpulsed f s xs some = by_test (nat_eq (f (shake_of s)) 1) (subst (λ (n : ℕ). 1 ≤ n) (times_pulsed f s xs) some)
  where
    by_test : (b : Bool) → 1 ≤ (if b then times s xs else 0) → 1 ≤ times s xs
    by_test true found = found
    by_test false found = absurd (omega (arith, found))

-- the firings of all ranks begin with those of ranks below r
early_parts : (lay : Laying) → (p : Plan) (rank : End → ℕ) (r m t : ℕ) → t ≡ m + r → (rest : List PartFiring) × (early_below lay p rank t ≡ early_below lay p rank r ++ rest)
early_parts lay p rank r zero t is =
    let here : t ≡ r = omega (arith, is) in
    ([], ap (early_below lay p rank) here ∙ sym (append-nil (early_below lay p rank r)))
early_parts lay p rank r (suc m) zero is = absurd (omega (arith, is))
early_parts lay p rank r (suc m) (suc t) is =
    let before = early_parts lay p rank r m t (omega (arith, is)) in
    let last = chosen_from (at_rank lay rank t) 0 p.parts in
    (before.0 ++ last, ap (λ (l : List PartFiring). l ++ last) before.1 ∙ append_assoc (early_below lay p rank r) before.0 last)

-- and so does the list of the cycle
whole_parts : (lay : Laying) → (p : Plan) (n : Places) (rank : End → ℕ) (v : Numbers) (r m : ℕ) → top p rank ≡ m + r
    → (rest : List Element) × (listing p n v (made_firings lay p n rank v) ≡ listing p n v (early_made lay p n rank v r) ++ rest)
whole_parts lay p n rank v r m is =
    let parts = early_parts lay p rank r m (top p rank) is in
    let late = with_pulse p n v (late_ones lay p) in
    let behind = with_pulse p n v parts.0 ++ late in
    let early : early_made lay p n rank v (top p rank) ≡ early_made lay p n rank v r ++ with_pulse p n v parts.0 =
    ap (with_pulse p n v) parts.1 ∙ with_pulse-append p n v (early_below lay p rank r) parts.0 in
    let all : made_firings lay p n rank v ≡ early_made lay p n rank v r ++ behind =
    ap (λ (l : List PartFiring). l ++ late) early ∙ append_assoc (early_made lay p n rank v r) (with_pulse p n v parts.0) late in
    (fires_of behind, ap (listing p n v) all ∙ listing-append p n v (early_made lay p n rank v r) behind)

-- the values that a part takes in the first of two lists
takes_first : (p : Plan) (i : ℕ) (x : ℕ → ℕ) (xs ys : List Element) (s : Tokens) → TakesValues p i x (xs ++ ys) s → TakesValues p i x xs s
takes_first p i x [] ys s takes = tt
takes_first p i x (y ∷ xs) ys s takes = (takes.0, λ t does. takes_first p i x xs ys t (takes.1 t does))

-- what part i puts early at a handshake that leads to an end of rank r, it puts by firings of ranks below
puts_below : (lay : Laying) → (p : Plan) (n : Places) (rank : End → ℕ) (v : Numbers) (i h r : ℕ) (k : Part) (o u e : Asked) (q b c : State) (first lower : List Token)
    → slice_get p.parts i ≡ Some k → r < top p rank
    → ((s : Slot) (d : State) (w : Row) (a : ℕ) → Ranked (order_at rank i) r (is_early (lay.making i) k) (length (part_contacts k)) s → firing k d s ≡ Some w → due h (w.puts a) ≡ 0)
    → Fires k (value_in k v (incoming_at p n i)) o q (early_of lay p n rank v i k) u b first
    → Fires k (value_in k v (incoming_at p n i)) o q (pulsed (pulse_in v (incoming_at p n i)) (in_order (order_at rank i) r (is_early (lay.making i) k) (part_contacts k))) e c lower
    → due h first ≡ due h lower
puts_below lay p n rank v i h r k o u e q b c first lower is low none sooner by_then =
    let all = ap (due h) split.puts in
    let both = due-append h split.first split.second in
    let nothing = none_put k x h split.mid split.state after u b split.second (λ s d w a listed. none s d w a (between_slot order r (top p rank - r) (is_early (lay.making i) k) (part_contacts k) s (unpulsed pulse s (between order r (top p rank - r) (is_early (lay.making i) k) (part_contacts k)) listed))) split.two in
    let same_first : due h split.first ≡ due h lower = ap (due h) (fires_once k x o q before split.mid e split.state c split.first lower split.one by_then) in
    omega (arith, all, both, nothing, same_first)
  where
    x : ℕ → ℕ
    x = value_in k v (incoming_at p n i)

    pulse : ℕ → ℕ
    pulse = pulse_in v (incoming_at p n i)

    order : Order
    order = order_at rank i

    before : List Slot
    before = pulsed pulse (in_order order r (is_early (lay.making i) k) (part_contacts k))

    after : List Slot
    after = pulsed pulse (between order r (top p rank - r) (is_early (lay.making i) k) (part_contacts k))

    in_parts : early_of lay p n rank v i k ≡ before ++ after
    in_parts =
        ap (pulsed pulse) (order_parts order r (top p rank - r) (top p rank) (is_early (lay.making i) k) (part_contacts k) (omega (arith, low)))
        ∙ pulsed-append pulse (in_order order r (is_early (lay.making i) k) (part_contacts k)) (between order r (top p rank - r) (is_early (lay.making i) k) (part_contacts k))

    split : Split k x before after o u q b first
    split =
        fires_split k x before after o u q b first
        (subst (λ (l : List Slot). Fires k x o q l u b first) in_parts sooner)

-- The source of a direction without registers whose other end is one of a part.
pub single_ring : (lay : Laying) (p : Plan) (net : Netlist) (n : Places) (rank : End → ℕ) (v regs after : Numbers) (o : Open) (s : Tokens) (w : Whole lay p n rank v o s)
    (ts : List Token) (i h : ℕ) (k : Part) (x : ℕ) (j : Joint) (way : Direction) (d g : ℕ) (l : Part) (c : Contact)
    → Rises lay p rank → Now lay p net n rank v regs after o s → slice_get p.joints x ≡ Some j → lay.keep x way ≡ false
    → source j way ≡ PartEnd i h → slice_get p.parts i ≡ Some k → h < length (part_contacts k)
    → target j way ≡ PartEnd d g → slice_get p.parts d ≡ Some l → g < length (part_contacts l) → contact_at p (PartEnd d g) ≡ Some c → way_taken c.role ≡ way
    → (step : PartStep lay p n rank v regs after o s w.state_then i k ts) → pending_at lay p n regs (PartEnd i h) + due h step.first ≤ 1
single_ring lay p net n rank v regs after o s w ts i h k x j way d g l c rises now there straight from is out to other in_there contact is_way step =
    let adds = (law.2 x j way there).counts in
    let lies = held in
    let small = small_count (parted.between.in_place way j.asking) in
    let put : put_at law.0 (source j way) xs ≡ due h (law.0 i) = ap (λ (e : End). put_at law.0 e xs) from in
    let taken : taken_at way (target j way) xs ≡ 0 = none_taken in
    let pending : pending_at lay p n regs (source j way) ≡ pending_at lay p n regs (PartEnd i h) = ap (pending_at lay p n regs) from in
    let shown : shown_at n regs (target j way) ≡ 0 = ap (shown_at n regs) to in
    let same_puts = so_far in
    omega (arith, adds, lies, small, put, taken, pending, shown, same_puts)
  where
    r : ℕ
    r = rank (PartEnd d g)

    low : r < top p rank
    low = below_top p rank d g l other in_there

    xs : List Element
    xs = listing p n v (early_made lay p n rank v r)

    parts : (rest : List Element) × (listing p n v (made_firings lay p n rank v) ≡ xs ++ rest)
    parts = whole_parts lay p n rank v r (top p rank - r) (omega (arith, low))

    parted : Parted p xs parts.0 o w.open_then s w.state_then
    parted = orderly_parts p xs parts.0 o w.open_then s w.state_then (subst (λ (ys : List Element). OrderlyFrom p ys o s w.open_then w.state_then) parts.1 w.list)

    takes : (m : ℕ) → TakesValues p m (values p n v m) xs s
    takes m = takes_first p m (values p n v m) xs parts.0 s (subst (λ (ys : List Element). TakesValues p m (values p n v m) ys s) parts.1 (w.takes m))

    law : (puts : ℕ → List Token) × PartsPut p (values p n v) puts xs o s parted.open_between parted.between
        × ((y : ℕ) (a : Joint) (z : Direction) → slice_get p.joints y ≡ Some a → AddsUp (values p n v) puts xs s parted.between z a.asking (source a z) (target a z))
    law = filled p n v o parted.open_between s parted.between xs now.right now.led parted.one takes

    held : count (s.in_place way j.asking) ≡ 0 + (pending_at lay p n regs (source j way) + shown_at n regs (target j way))
    held =
        (now.standing.joints x j way there).counts
        ∙ ap (λ (b : Bool). held_pulse b regs (n.arrives (target j way)) + (pending_at lay p n regs (source j way) + shown_at n regs (target j way))) straight

    none_taken : taken_at way (target j way) xs ≡ 0
    none_taken =
        (λ m. taken_at (sym is_way m) (to m) xs) ∙ untaken_below lay p n rank v r d g l c other contact (not_below (is_early (lay.making d) l g) r)
      where
        not_below : (b : Bool) (m : ℕ) → (b && nat_lt m m) ≡ false
        not_below true m = grind arith
        not_below false m = refl

    pulse : ℕ → ℕ
    pulse = pulse_in v (incoming_at p n i)

    listed : firings_of i xs ≡ pulsed pulse (in_order (order_at rank i) r (is_early (lay.making i) k) (part_contacts k))
    listed =
        firings_listed p n v i (early_made lay p n rank v r)
        ∙ (firings_pulsed p n v i (early_below lay p rank r) ∙ ap (pulsed pulse) (early_listed lay p rank r i k is))

    taken_values : values p n v i ≡ (λ f. value_in k v (incoming_at p n i) f)
    taken_values = λ m f. values_if (is m) v (incoming_at p n i) f

    by_then : Fires k (value_in k v (incoming_at p n i)) (asked_by i o) (s.state i) (pulsed pulse (in_order (order_at rank i) r (is_early (lay.making i) k) (part_contacts k)))
        (asked_by i parted.open_between) (parted.between.state i) (law.0 i)
    by_then =
        subst (λ (y : ℕ → ℕ). Fires k y (asked_by i o) (s.state i) (pulsed pulse (in_order (order_at rank i) r (is_early (lay.making i) k) (part_contacts k))) (asked_by i parted.open_between) (parted.between.state i) (law.0 i)) taken_values
        (subst (λ (q : List Slot). Fires k (values p n v i) (asked_by i o) (s.state i) q (asked_by i parted.open_between) (parted.between.state i) (law.0 i)) listed (law.1 i k is))

    so_far : due h step.first ≡ due h (law.0 i)
    so_far =
        puts_below lay p n rank v i h r k (asked_by i o) step.between (asked_by i parted.open_between) (s.state i) step.state (parted.between.state i) step.first (law.0 i)
        is low none step.sooner by_then
      where
        early : (b : Bool) → not b ≡ true → b ≡ false
        early true e = absurd (cc e)
        early false e = refl

        none : (t : Slot) (b : State) (z : Row) (a : ℕ) → Ranked (order_at rank i) r (is_early (lay.making i) k) (length (part_contacts k)) t → firing k b t ≡ Some z → due h (z.puts a) ≡ 0
        none t b z a ranked fires = by_due (due h (z.puts a)) refl
          where
            by_due : (m : ℕ) → due h (z.puts a) ≡ m → due h (z.puts a) ≡ 0
            by_due zero e = e
            by_due (suc m) e =
                let passes = (now.part_facts.paths i k is).puts b t z a h fires ranked.within (early (is_among (late_of (lay.making i) k) (shake_of t)) ranked.among) out (omega (arith, e)) in
                let lower =
                rises i (shake_of t) (PartEnd d g)
                (record {
                  joint = x;
                  passed = j;
                  way = way;
                  part = k;
                  out = h;
                  stands = there;
                  straight = straight;
                  leaves = from;
                  there = is;
                  from_there = ranked.within;
                  out_there = out;
                  passes = passes;
                  arrives = to;
                }) in
                let high = ranked.high in
                absurd (omega (arith, lower, high))
