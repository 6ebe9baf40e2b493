-- Steps evaluated one after another, and runs of them.
use Rattle.std.specs.Prelude.{◌≡◌, ◌≢◌, ℕ, zero, suc, ◌+◌, ◌-◌, ◌<◌, ◌≤◌, List, [], ◌∷◌, ◌++◌, All, Some, drop, length, set, slice_get, take}
use Rattle.std.specs.List.{flat_map}
use Rattle.std.proofs.Common.{arith, refl, sym, ap, subst, ◌∙◌, get_or-set_other}
use Rattle.std.proofs.Math.ListN.{drop_of_length-le}
use Rattle.std.proofs.Math.Seq.{take-add}
use Rattle.std.proofs.lemmas.List.{append_assoc, drop-append-le, drop-drop, flat_map_more, length-append, length-drop, length-set, length-take-le, take-append-le}
use Rattle.std.proofs.lemmas.List.Elements.{All-cons, All-head, All-nil, All-push, All-tail, All-weaker}
use Rattle.std.proofs.lemmas.List.Concat.{flat_map-cons}
use Rattle.gos_netlist.specs.declared.nets.Gate as declared
use Rattle.gos_netlist.specs.declared.nets.Gate.TheVariants as gates
use Rattle.gos_netlist.specs.Nets.{Function, Input, Const, Not, And, Or, Xor, Mux, Add, Sub, Eq, Less, Gate, Reg}
use Rattle.gos_netlist.specs.Renamed.{renamed}
use Rattle.gos_netlist.specs.Seen.{function_of}
use Rattle.gos_netlist.specs.Settling.{Numbers, at, shown}
use Rattle.gos_sim.specs.declared.evaluation.Draft.{Draft}
use Rattle.gos_sim.specs.declared.evaluation.Kind.{Kind}
use Rattle.gos_sim.specs.declared.evaluation.Kind.TheVariants as kinds
use Rattle.gos_sim.specs.declared.evaluation.Operands.{Operands}
use Rattle.gos_sim.specs.declared.evaluation.Run.{Run}
use Rattle.gos_sim.specs.declared.program.Step.{Step}
use Rattle.gos_sim.specs.inner.Program.{HaveOneCell, IsStepWithin, SparesEarlier}
use Rattle.gos_sim.specs.inner.Places.{AreStepsMoved, IsStepMoved}
use Rattle.gos_sim.specs.inner.Drafts.{AddsSteps, IsDraft}
use Rattle.gos_sim.specs.inner.Evaluation.{AreFitting, AreLonger, AreRunsMore, Fits, GoesOn, IsAdded, IsLonger, after, bits_of, all_steps, part, room_of, steps_from, steps_of, steps_of_kind, value_of}
use Rattle.gos_sim.specs.inner.Running.{AreShown, KeepsOtherSteps}
use Rattle.gos_sim.proofs.MoveLemmas.{steps_pushed}
use Rattle.gos_sim.proofs.StepLemmas.{AreShownBefore, shown_more}

one_more : (k : ℕ) → suc k ≡ k + 1
one_more k = omega arith

-- what is left of a list, where something stands next
left_more : {A : Type 0} (xs : List A) (k : ℕ) (x : A) → slice_get xs k ≡ Some x → drop k xs ≡ x ∷ drop (suc k) xs
left_more [] k x is = absurd (cc)
left_more (y ∷ xs) zero x is = let same : y ≡ x = cc in ap (λ z. z ∷ xs) same
left_more (y ∷ xs) (suc k) x is = left_more xs k x is

pub drop_one : {A : Type 0} (xs : List A) (k : ℕ) (x : A) → slice_get xs k ≡ Some x → drop k xs ≡ x ∷ drop (k + 1) xs
drop_one xs k x is = left_more xs k x is ∙ ap (λ (m : ℕ). x ∷ drop m xs) (one_more k)

first_left : {A : Type 0} (xs : List A) (k : ℕ) (x : A) (rest : List A) → drop k xs ≡ x ∷ rest → slice_get xs k ≡ Some x
first_left [] zero x rest is = absurd (cc)
first_left [] (suc k) x rest is = absurd (cc)
first_left (y ∷ xs) zero x rest is = cc
first_left (y ∷ xs) (suc k) x rest is = first_left xs k x rest is

rest_left : {A : Type 0} (xs : List A) (k : ℕ) (x : A) (rest : List A) → drop k xs ≡ x ∷ rest → drop (suc k) xs ≡ rest
rest_left [] zero x rest is = absurd (cc)
rest_left [] (suc k) x rest is = absurd (cc)
rest_left (y ∷ xs) zero x rest is = cc
rest_left (y ∷ xs) (suc k) x rest is = rest_left xs k x rest is

-- what holds of all that is joined holds of the parts
pub All-left : {A : Type 0} (P : A → Type 0) (xs ys : List A) → All P (xs ++ ys) → All P xs
All-left P [] ys all = All-nil P
All-left P (x ∷ xs) ys all = All-cons P x xs (All-head P x (xs ++ ys) all) (All-left P xs ys (All-tail P x (xs ++ ys) all))

pub All-right : {A : Type 0} (P : A → Type 0) (xs ys : List A) → All P (xs ++ ys) → All P ys
All-right P [] ys all = all
All-right P (x ∷ xs) ys all = All-right P xs ys (All-tail P x (xs ++ ys) all)

-- steps and then more of them
pub after_append : (ss ts : List Step) (v : Numbers) → after (ss ++ ts) v ≡ after ts (after ss v)
after_append [] ts v = refl
after_append (s ∷ ss) ts v = after_append ss ts (set v s.net (value_of s v))

-- nets that are not those of the steps keep their values
pub kept_after : (ss : List Step) (v : Numbers) → KeepsOtherSteps ss v (after ss v)
kept_after [] v = λ n free. refl
kept_after (s ∷ ss) v = λ n free.
    let apart : s.net ≢ n = All-head (λ (t : Step). t.net ≢ n) s ss free in
    kept_after ss (set v s.net (value_of s v)) n (All-tail (λ (t : Step). t.net ≢ n) s ss free)
    ∙ get_or-set_other v s.net n (value_of s v) 0 (λ same. apart (sym same))

-- and the nets of the steps have what their cells show
pub shown_after : (steps : List Step) (v : Numbers) → SparesEarlier steps → HaveOneCell steps → All (IsStepWithin (length v)) steps → AreShown steps (after steps v)
shown_after steps v spares one within = λ j s is. through steps 0 v refl within (λ j below. absurd (omega (arith, below))) j s is
  where
    through : (rest : List Step) (k : ℕ) (u : Numbers) → drop k steps ≡ rest → All (IsStepWithin (length u)) steps → AreShownBefore steps k u
        → AreShown steps (after rest u)
    through [] k u is all before = λ j s at_j. before j (none_left steps k j s is at_j) s at_j
      where
        none_left : (xs : List Step) (k j : ℕ) (s : Step) → drop k xs ≡ [] → slice_get xs j ≡ Some s → j < k
        none_left [] k j s none at_j = absurd (cc)
        none_left (x ∷ xs) zero j s none at_j = absurd (cc)
        none_left (x ∷ xs) (suc k) zero s none at_j = omega arith
        none_left (x ∷ xs) (suc k) (suc j) s none at_j = omega (arith, none_left xs k j s none at_j)
    through (t ∷ rest) k u is all before =
        through rest (k + 1) (set u t.net (value_of t u)) (ap (λ (m : ℕ). drop m steps) (sym (one_more k)) ∙ rest_left steps k t rest is)
        (subst (λ (n : ℕ). All (IsStepWithin n) steps) (sym (length-set u t.net (value_of t u))) all)
        (shown_more steps u k (value_of t u) t spares one (first_left steps k t rest is) all refl before)

-- steps of one kind in two parts
steps_joined : {A : Type 0} (w : ℕ) (gate : A → declared.Gate) (n : ℕ) (xs ys : List A)
    → steps_from w gate n (xs ++ ys) ≡ steps_from w gate n xs ++ steps_from w gate (n + length xs) ys
steps_joined w gate n [] ys = ap (λ (m : ℕ). steps_from w gate m ys) (omega arith)
steps_joined w gate n (x ∷ xs) ys =
    ap (λ (ss : List Step). record { net = n; width = w; gate = gate x } ∷ ss)
    (steps_joined w gate (suc n) xs ys ∙ ap (λ (m : ℕ). steps_from w gate (suc n) xs ++ steps_from w gate m ys) (omega arith))

-- a run that is one step longer
abbrev longer : Run → Run
longer r = record r { count = r.count + 1 }

longer_part : {A : Type 0} (w : ℕ) (gate : A → declared.Gate) (last next : Run) (xs : List A) → GoesOn last next → next.count ≡ 1
    → next.first + next.count ≤ length xs
    → steps_from w gate last.net (take (last.count + 1) (drop last.first xs)) ≡ steps_from w gate last.net (part last xs) ++ steps_from w gate next.net (part next xs)
longer_part w gate last next xs on one room =
    ap (steps_from w gate last.net) cut
    ∙ (steps_joined w gate last.net (part last xs) (part next xs)
    ∙ ap (λ (m : ℕ). steps_from w gate last.net (part last xs) ++ steps_from w gate m (part next xs)) place)
  where
    long : length (drop last.first xs) ≡ length xs - last.first
    long = length-drop last.first xs

    place : last.net + length (part last xs) ≡ next.net
    place = let all = length-take-le last.count (drop last.first xs) (omega (arith, long, room, on.first, one)) in omega (arith, all, on.net)

    cut : take (last.count + 1) (drop last.first xs) ≡ part last xs ++ part next xs
    cut =
        take-add last.count 1 (drop last.first xs)
        ∙ ap (λ (ys : List _). part last xs ++ ys)
        (ap (take 1) (drop-drop last.count last.first xs ∙ ap (λ (m : ℕ). drop m xs) on.first) ∙ ap (λ (m : ℕ). take m (drop next.first xs)) (sym one))

split : {A : Type 0} (w : ℕ) (gate : A → declared.Gate) (n : ℕ) (xs : List A) (k : ℕ) (x : A) → slice_get xs k ≡ Some x
    → steps_from w gate n (drop k xs) ≡ record { net = n; width = w; gate = gate x } ∷ steps_from w gate (n + 1) (drop (k + 1) xs)
split w gate n xs k x is =
    ap (steps_from w gate n) (drop_one xs k x is)
    ∙ ap (λ (m : ℕ). record { net = n; width = w; gate = gate x } ∷ steps_from w gate m (drop (k + 1) xs)) (one_more n)

-- what holds of all steps holds of the next, and of those behind it
pub next_step : {A : Type 0} (P : Step → Type 0) (w : ℕ) (gate : A → declared.Gate) (n : ℕ) (xs : List A) (k : ℕ) (x : A) → slice_get xs k ≡ Some x
    → All P (steps_from w gate n (drop k xs)) → P (record { net = n; width = w; gate = gate x }) × All P (steps_from w gate (n + 1) (drop (k + 1) xs))
next_step P w gate n xs k x is all =
    let both = subst (All P) (split w gate n xs k x is) all in (
      All-head P (record { net = n; width = w; gate = gate x }) (steps_from w gate (n + 1) (drop (k + 1) xs)) both,
      All-tail P (record { net = n; width = w; gate = gate x }) (steps_from w gate (n + 1) (drop (k + 1) xs)) both,
    )

pub next_after : {A : Type 0} (w : ℕ) (gate : A → declared.Gate) (n : ℕ) (xs : List A) (k : ℕ) (x : A) (v : Numbers) (y : ℕ) → slice_get xs k ≡ Some x
    → y ≡ shown w (function_of (gate x)) 0 0 (at v)
    → after (steps_from w gate (n + 1) (drop (k + 1) xs)) (set v n y) ≡ after (steps_from w gate n (drop k xs)) v
next_after w gate n xs k x v y is gives =
    ap (λ (z : ℕ). after (steps_from w gate (n + 1) (drop (k + 1) xs)) (set v n z)) gives
    ∙ ap (λ (ss : List Step). after ss v) (sym (split w gate n xs k x is))

-- nothing is left
pub none_left : {A : Type 0} (w : ℕ) (gate : A → declared.Gate) (n : ℕ) (xs : List A) (k : ℕ) (v : Numbers) → length xs ≤ k
    → after (steps_from w gate n (drop k xs)) v ≡ v
none_left w gate n xs k v end = ap (λ (ys : List _). after (steps_from w gate n ys) v) (drop_of_length-le xs end)

-- the run that is next, and those behind it
split_runs : (o : Operands) (runs : List Run) (k : ℕ) (r : Run) → slice_get runs k ≡ Some r
    → flat_map (steps_of o) (drop k runs) ≡ steps_of o r ++ flat_map (steps_of o) (drop (k + 1) runs)
split_runs o runs k r is = ap (flat_map (steps_of o)) (drop_one runs k r is) ∙ flat_map-cons (steps_of o) r (drop (k + 1) runs)

-- what holds of all steps holds of those of that run, and of those behind it
pub run_steps : (P : Step → Type 0) (o : Operands) (runs : List Run) (k : ℕ) (r : Run) → slice_get runs k ≡ Some r
    → All P (flat_map (steps_of o) (drop k runs)) → All P (steps_of o r)
run_steps P o runs k r is all =
    All-left P (steps_of o r) (flat_map (steps_of o) (drop (k + 1) runs)) (subst (All P) (split_runs o runs k r is) all)

pub later_steps : (P : Step → Type 0) (o : Operands) (runs : List Run) (k : ℕ) (r : Run) → slice_get runs k ≡ Some r
    → All P (flat_map (steps_of o) (drop k runs)) → All P (flat_map (steps_of o) (drop (k + 1) runs))
later_steps P o runs k r is all =
    All-right P (steps_of o r) (flat_map (steps_of o) (drop (k + 1) runs)) (subst (All P) (split_runs o runs k r is) all)

pub run_after : (o : Operands) (runs : List Run) (k : ℕ) (r : Run) (v w : Numbers) → slice_get runs k ≡ Some r → w ≡ after (steps_of o r) v
    → after (flat_map (steps_of o) (drop (k + 1) runs)) w ≡ after (flat_map (steps_of o) (drop k runs)) v
run_after o runs k r v w is gives =
    ap (after (flat_map (steps_of o) (drop (k + 1) runs))) gives
    ∙ (sym (after_append (steps_of o r) (flat_map (steps_of o) (drop (k + 1) runs)) v)
    ∙ ap (λ (ss : List Step). after ss v) (sym (split_runs o runs k r is)))

pub no_runs_left : (o : Operands) (runs : List Run) (k : ℕ) (v : Numbers) → length runs ≤ k → after (flat_map (steps_of o) (drop k runs)) v ≡ v
no_runs_left o runs k v end = ap (λ (rs : List Run). after (flat_map (steps_of o) rs) v) (drop_of_length-le runs end)

-- a run that goes on as the last one ends makes that longer
longer_steps : (k : Kind) (o : Operands) (last next : Run) → GoesOn last next → next.count ≡ 1 → next.first + next.count ≤ room_of k o
    → steps_of_kind k o (longer last) ≡ steps_of_kind k o last ++ steps_of_kind k o next
longer_steps kinds.Const o last next on one room = longer_part 0 gates.Const last next o.constants.items on one room
longer_steps kinds.Not o last next on one room =
    longer_part last.width gates.Not last next o.pins.items on one room
    ∙ ap (λ (w : ℕ). steps_of_kind kinds.Not o last ++ steps_from w gates.Not next.net (part next o.pins.items)) on.width
longer_steps kinds.And o last next on one room = longer_part 0 (λ p. gates.And p.a p.b) last next o.pairs.items on one room
longer_steps kinds.Or o last next on one room = longer_part 0 (λ p. gates.Or p.a p.b) last next o.pairs.items on one room
longer_steps kinds.Xor o last next on one room = longer_part 0 (λ p. gates.Xor p.a p.b) last next o.pairs.items on one room
longer_steps kinds.Mux o last next on one room = longer_part 0 (λ t. gates.Mux t.s t.a t.b) last next o.triples.items on one room
longer_steps kinds.Add o last next on one room =
    longer_part last.width (λ p. gates.Add p.a p.b) last next o.pairs.items on one room
    ∙ ap (λ (w : ℕ). steps_of_kind kinds.Add o last ++ steps_from w (λ p. gates.Add p.a p.b) next.net (part next o.pairs.items)) on.width
longer_steps kinds.Sub o last next on one room =
    longer_part last.width (λ p. gates.Sub p.a p.b) last next o.pairs.items on one room
    ∙ ap (λ (w : ℕ). steps_of_kind kinds.Sub o last ++ steps_from w (λ p. gates.Sub p.a p.b) next.net (part next o.pairs.items)) on.width
longer_steps kinds.Eq o last next on one room = longer_part 0 (λ p. gates.Eq p.a p.b) last next o.pairs.items on one room
longer_steps kinds.Less o last next on one room = longer_part 0 (λ p. gates.Less p.a p.b) last next o.pairs.items on one room
longer_steps kinds.Gate o last next on one room = longer_part 0 (λ p. gates.Gate p.a p.b) last next o.pairs.items on one room

pub run_longer : (runs : List Run) (last next : Run) → GoesOn last next → next.count ≡ 1 → AreRunsMore runs last next runs (record last { count = last.count + 1 })
run_longer runs last next on one = λ o fit fits. (steps o fits, record { all = fit.all; too = room o fits })
  where
    same_kind : (o : Operands) → Fits o next → next.first + next.count ≤ room_of last.kind o
    same_kind o fits = subst (λ (k : Kind). next.first + next.count ≤ room_of k o) (sym on.kind) fits

    room : (o : Operands) → Fits o next → Fits o (record last { count = last.count + 1 })
    room o fits = let below = same_kind o fits in omega (arith, below, on.first, one)

    steps : (o : Operands) → Fits o next → all_steps o runs (record last { count = last.count + 1 }) ≡ all_steps o runs last ++ steps_of o next
    steps o fits =
        ap (λ (ss : List Step). flat_map (steps_of o) runs ++ ss)
        (longer_steps last.kind o last next on one (same_kind o fits) ∙ ap (λ (k : Kind). steps_of o last ++ steps_of_kind k o next) on.kind)
        ∙ sym (append_assoc (flat_map (steps_of o) runs) (steps_of o last) (steps_of o next))

-- the steps of a run stay when there are more operands
kept_part : {A : Type 0} (xs zs : List A) (r : Run) → IsLonger xs zs → r.first + r.count ≤ length xs → part r zs ≡ part r xs
kept_part xs zs r more room =
    ap (part r) more.is
    ∙ (ap (take r.count) (drop-append-le r.first xs more.rest (omega (arith, room)))
    ∙ take-append-le r.count (drop r.first xs) more.rest (omega (arith, room, length-drop r.first xs)))

kept_room : {A : Type 0} (xs zs : List A) → IsLonger xs zs → length xs ≤ length zs
kept_room xs zs more = let long = ap length more.is ∙ length-append xs more.rest in omega (arith, long)

kept_steps : (k : Kind) (old new : Operands) (r : Run) → AreLonger old new → r.first + r.count ≤ room_of k old
    → (steps_of_kind k new r ≡ steps_of_kind k old r) × (r.first + r.count ≤ room_of k new)
kept_steps kinds.Const old new r more room =
    (ap (steps_from 0 gates.Const r.net) (kept_part old.constants.items new.constants.items r more.constants room), omega (arith, room, kept_room old.constants.items new.constants.items more.constants))
kept_steps kinds.Not old new r more room =
    (ap (steps_from r.width gates.Not r.net) (kept_part old.pins.items new.pins.items r more.pins room), omega (arith, room, kept_room old.pins.items new.pins.items more.pins))
kept_steps kinds.And old new r more room =
    (ap (steps_from 0 (λ p. gates.And p.a p.b) r.net) (kept_part old.pairs.items new.pairs.items r more.pairs room), omega (arith, room, kept_room old.pairs.items new.pairs.items more.pairs))
kept_steps kinds.Or old new r more room =
    (ap (steps_from 0 (λ p. gates.Or p.a p.b) r.net) (kept_part old.pairs.items new.pairs.items r more.pairs room), omega (arith, room, kept_room old.pairs.items new.pairs.items more.pairs))
kept_steps kinds.Xor old new r more room =
    (ap (steps_from 0 (λ p. gates.Xor p.a p.b) r.net) (kept_part old.pairs.items new.pairs.items r more.pairs room), omega (arith, room, kept_room old.pairs.items new.pairs.items more.pairs))
kept_steps kinds.Mux old new r more room =
    (ap (steps_from 0 (λ t. gates.Mux t.s t.a t.b) r.net) (kept_part old.triples.items new.triples.items r more.triples room), omega (arith, room, kept_room old.triples.items new.triples.items more.triples))
kept_steps kinds.Add old new r more room =
    (ap (steps_from r.width (λ p. gates.Add p.a p.b) r.net) (kept_part old.pairs.items new.pairs.items r more.pairs room), omega (arith, room, kept_room old.pairs.items new.pairs.items more.pairs))
kept_steps kinds.Sub old new r more room =
    (ap (steps_from r.width (λ p. gates.Sub p.a p.b) r.net) (kept_part old.pairs.items new.pairs.items r more.pairs room), omega (arith, room, kept_room old.pairs.items new.pairs.items more.pairs))
kept_steps kinds.Eq old new r more room =
    (ap (steps_from 0 (λ p. gates.Eq p.a p.b) r.net) (kept_part old.pairs.items new.pairs.items r more.pairs room), omega (arith, room, kept_room old.pairs.items new.pairs.items more.pairs))
kept_steps kinds.Less old new r more room =
    (ap (steps_from 0 (λ p. gates.Less p.a p.b) r.net) (kept_part old.pairs.items new.pairs.items r more.pairs room), omega (arith, room, kept_room old.pairs.items new.pairs.items more.pairs))
kept_steps kinds.Gate old new r more room =
    (ap (steps_from 0 (λ p. gates.Gate p.a p.b) r.net) (kept_part old.pairs.items new.pairs.items r more.pairs room), omega (arith, room, kept_room old.pairs.items new.pairs.items more.pairs))

pub kept_fitting : (old new : Operands) (runs : List Run) (last : Run) → AreLonger old new → AreFitting old runs last → AreFitting new runs last
kept_fitting old new runs last more fit =
    record { all = All-weaker (Fits old) (Fits new) (λ r fits. (kept_steps r.kind old new r more fits).1) runs fit.all; too = (kept_steps last.kind old new last more fit.too).1 }

pub kept_all : (old new : Operands) (runs : List Run) (last : Run) → AreLonger old new → AreFitting old runs last → all_steps new runs last ≡ all_steps old runs last
kept_all old new runs last more fit = λ i. those runs fit.all i ++ (kept_steps last.kind old new last more fit.too).0 i
  where
    those : (rs : List Run) → All (Fits old) rs → flat_map (steps_of new) rs ≡ flat_map (steps_of old) rs
    those [] all = refl
    those (r ∷ rs) all =
        flat_map-cons (steps_of new) r rs
        ∙ ((λ i. (kept_steps r.kind old new r more (All-head (Fits old) r rs all)).0 i ++ those rs (All-tail (Fits old) r rs all) i)
        ∙ sym (flat_map-cons (steps_of old) r rs))

bits_moved : (p : ℕ → ℕ) (f : Function) (w : ℕ) → bits_of (renamed p f) w ≡ bits_of f w
bits_moved p Input w = refl
bits_moved p (Const k) w = refl
bits_moved p (Not a) w = refl
bits_moved p (And a b) w = refl
bits_moved p (Or a b) w = refl
bits_moved p (Xor a b) w = refl
bits_moved p (Mux s a b) w = refl
bits_moved p (Add a b) w = refl
bits_moved p (Sub a b) w = refl
bits_moved p (Eq a b) w = refl
bits_moved p (Less a b) w = refl
bits_moved p (Gate s a) w = refl
bits_moved p (Reg a) w = refl

-- a step more
pub draft_more : (places : Numbers) (s m : Step) (old new : Draft) (next : Run) → m.net ≡ at places s.net → m.width ≡ s.width
    → function_of m.gate ≡ renamed (at places) (function_of s.gate) → IsAdded old.operands new.operands m next
    → AreRunsMore old.runs.items old.last next new.runs.items new.last → AddsSteps places (s ∷ []) old new
draft_more places s m old new next net width gate added join = λ steps d.
    let here : Step = record { net = m.net; width = bits_of (function_of m.gate) m.width; gate = m.gate } in
    let kept = kept_all old.operands new.operands old.runs.items old.last added.longer d.fit in
    let joined = join new.operands (kept_fitting old.operands new.operands old.runs.items old.last added.longer d.fit) added.fits in
    let all : all_steps new.operands new.runs.items new.last ≡ all_steps old.operands old.runs.items old.last ++ here ∷ [] = joined.0 ∙ (λ i. kept i ++ added.steps i) in
    let step : IsStepMoved (at places) s here = record { net = net; width = ap (λ (f : Function). bits_of f m.width) gate ∙ (bits_moved (at places) (function_of s.gate) m.width ∙ ap (bits_of (function_of s.gate)) width); gate = gate } in
    record {
      fit = joined.1;
      moved = subst (AreStepsMoved (at places) (steps ++ s ∷ [])) (sym all) (steps_pushed (at places) steps (all_steps old.operands old.runs.items old.last) s here d.moved step);
    }

-- the runs of a draft, with the last one
pub fitting_runs : (places : Numbers) (steps : List Step) (d : Draft) → IsDraft places steps d → All (Fits d.operands) (d.runs.items ++ d.last ∷ [])
fitting_runs places steps d is = All-push (Fits d.operands) d.runs.items d.last is.fit.all is.fit.too

pub moved_runs : (places : Numbers) (steps : List Step) (d : Draft) → IsDraft places steps d
    → AreStepsMoved (at places) steps (flat_map (steps_of d.operands) (d.runs.items ++ d.last ∷ []))
moved_runs places steps d is = subst (AreStepsMoved (at places) steps) (flat_map_more (steps_of d.operands) [] d.runs.items d.last) is.moved
