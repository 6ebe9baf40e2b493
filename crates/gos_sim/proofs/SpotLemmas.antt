-- Single steps among runs: where they are found.
use Rattle.std.specs.Prelude.{◌≡◌, ℕ, zero, suc, ◌+◌, ◌-◌, ◌<◌, ◌≤◌, List, [], ◌∷◌, ◌++◌, All, Some, drop, length, map, set, slice_get, take}
use Rattle.std.specs.List.{flat_map}
use Rattle.std.proofs.Common.{arith, refl, sym, ap, subst, ◌∙◌, get_or-set_same, get_or-set_other}
use Rattle.std.proofs.lemmas.List.{drop-drop, length-append, length-drop, length-map, length-take-le, set-get_or}
use Rattle.std.proofs.lemmas.List.Elements.{All-cons, All-head, All-nil, All-tail}
use Rattle.std.proofs.lemmas.List.Concat.{flat_map-cons}
use Rattle.gos_netlist.specs.declared.nets.Gate as declared
use Rattle.gos_netlist.specs.declared.nets.Gate.TheVariants as gates
use Rattle.gos_netlist.specs.Settling.{Numbers, at}
use Rattle.gos_sim.specs.declared.evaluation.Kind.{Kind}
use Rattle.gos_sim.specs.declared.evaluation.Kind.TheVariants as kinds
use Rattle.gos_sim.specs.declared.evaluation.Operands.{Operands}
use Rattle.gos_sim.specs.declared.evaluation.Run.{Run}
use Rattle.gos_sim.specs.declared.program.Step.{Step}
use Rattle.gos_sim.specs.inner.Program.{IsStepWithin}
use Rattle.gos_sim.specs.inner.Evaluation.{Fits, after, part, room_of, steps_from, steps_of, steps_of_kind, value_of}
use Rattle.gos_sim.specs.inner.Spots.{HasGate, IsAlone, IsEvaluated, IsGate, KeepsOthersThan, one_of, steps_in}
use Rattle.gos_sim.proofs.PlaceLemmas.{all_at, element_at}
use Rattle.gos_sim.proofs.EvaluationLemmas.{drop_one}

-- Lists.

-- one element of a list and of its front
one_of_front : {A : Type 0} (xs : List A) (k n : ℕ) → k < n → take 1 (drop k (take n xs)) ≡ take 1 (drop k xs)
one_of_front [] k n less = ap (λ (ys : List _). take 1 (drop k ys)) (none n)
  where
    none : {A : Type 0} (n : ℕ) → ◌≡◌ {A = List A} (take n []) []
    none zero = refl
    none (suc n) = refl
one_of_front (x ∷ xs) k zero less = absurd (omega (arith, less))
one_of_front (x ∷ xs) zero (suc n) less = refl
one_of_front (x ∷ xs) (suc k) (suc n) less = one_of_front xs k n (omega (arith, less))

-- one element of two lists stands in the first
one_of_first : {A : Type 0} (xs ys : List A) (k : ℕ) → k < length xs → take 1 (drop k (xs ++ ys)) ≡ take 1 (drop k xs)
one_of_first [] ys k less = absurd (omega (arith, less))
one_of_first (x ∷ xs) ys zero less = refl
one_of_first (x ∷ xs) ys (suc k) less = one_of_first xs ys k (omega (arith, less))

-- what is left behind a first list
behind : {A : Type 0} (xs ys : List A) (k : ℕ) → drop (length xs + k) (xs ++ ys) ≡ drop k ys
behind [] ys k = ap (λ (n : ℕ). drop n ys) (omega arith)
behind (x ∷ xs) ys k =
    let place : length (x ∷ xs) + k ≡ suc (length xs + k) = omega arith in
    ap (λ (n : ℕ). drop n ((x ∷ xs) ++ ys)) place ∙ behind xs ys k

-- Steps of one kind.

length_steps : {A : Type 0} (w : ℕ) (gate : A → declared.Gate) (n : ℕ) (xs : List A) → length (steps_from w gate n xs) ≡ length xs
length_steps w gate n [] = refl
length_steps w gate n (x ∷ xs) = ap suc (length_steps w gate (suc n) xs)

steps_dropped : {A : Type 0} (w : ℕ) (gate : A → declared.Gate) (n k : ℕ) (xs : List A) → drop k (steps_from w gate n xs) ≡ steps_from w gate (n + k) (drop k xs)
steps_dropped w gate n zero xs = ap (λ (m : ℕ). steps_from w gate m xs) (omega arith)
steps_dropped w gate n (suc k) [] = refl
steps_dropped w gate n (suc k) (x ∷ xs) = steps_dropped w gate (suc n) k xs ∙ ap (λ (m : ℕ). steps_from w gate m (drop k xs)) (omega arith)

step_taken : {A : Type 0} (w : ℕ) (gate : A → declared.Gate) (n : ℕ) (xs : List A) → take 1 (steps_from w gate n xs) ≡ steps_from w gate n (take 1 xs)
step_taken w gate n [] = refl
step_taken w gate n (x ∷ xs) = refl

-- one step of a part of the operands
one_of_part : {A : Type 0} (w : ℕ) (gate : A → declared.Gate) (r : Run) (k : ℕ) (xs : List A) → k < r.count
    → steps_from w gate (r.net + k) (part (one_of r k) xs) ≡ take 1 (drop k (steps_from w gate r.net (part r xs)))
one_of_part w gate r k xs less =
    let operand : take 1 (drop k (part r xs)) ≡ take 1 (drop (r.first + k) xs) =
    one_of_front (drop r.first xs) k r.count less ∙ ap (take 1) (drop-drop k r.first xs) in
    ap (steps_from w gate (r.net + k)) (sym operand)
    ∙ (sym (step_taken w gate (r.net + k) (drop k (part r xs))) ∙ ap (take 1) (sym (steps_dropped w gate r.net k (part r xs))))

one_of_kind : (kind : Kind) (o : Operands) (r : Run) (k : ℕ) → k < r.count → steps_of_kind kind o (one_of r k) ≡ take 1 (drop k (steps_of_kind kind o r))
one_of_kind kinds.Const o r k less = one_of_part 0 gates.Const r k o.constants.items less
one_of_kind kinds.Not o r k less = one_of_part r.width gates.Not r k o.pins.items less
one_of_kind kinds.And o r k less = one_of_part 0 (λ p. gates.And p.a p.b) r k o.pairs.items less
one_of_kind kinds.Or o r k less = one_of_part 0 (λ p. gates.Or p.a p.b) r k o.pairs.items less
one_of_kind kinds.Xor o r k less = one_of_part 0 (λ p. gates.Xor p.a p.b) r k o.pairs.items less
one_of_kind kinds.Mux o r k less = one_of_part 0 (λ t. gates.Mux t.s t.a t.b) r k o.triples.items less
one_of_kind kinds.Add o r k less = one_of_part r.width (λ p. gates.Add p.a p.b) r k o.pairs.items less
one_of_kind kinds.Sub o r k less = one_of_part r.width (λ p. gates.Sub p.a p.b) r k o.pairs.items less
one_of_kind kinds.Eq o r k less = one_of_part 0 (λ p. gates.Eq p.a p.b) r k o.pairs.items less
one_of_kind kinds.Less o r k less = one_of_part 0 (λ p. gates.Less p.a p.b) r k o.pairs.items less
one_of_kind kinds.Gate o r k less = one_of_part 0 (λ p. gates.Gate p.a p.b) r k o.pairs.items less

-- Runs.

-- a run has as many steps as it counts
length_part : {A : Type 0} (w : ℕ) (gate : A → declared.Gate) (r : Run) (xs : List A) → r.first + r.count ≤ length xs
    → length (steps_from w gate r.net (part r xs)) ≡ r.count
length_part w gate r xs room =
    length_steps w gate r.net (part r xs) ∙ length-take-le r.count (drop r.first xs) (omega (arith, room, length-drop r.first xs))

length_kind : (kind : Kind) (o : Operands) (r : Run) → r.first + r.count ≤ room_of kind o → length (steps_of_kind kind o r) ≡ r.count
length_kind kinds.Const o r room = length_part 0 gates.Const r o.constants.items room
length_kind kinds.Not o r room = length_part r.width gates.Not r o.pins.items room
length_kind kinds.And o r room = length_part 0 (λ p. gates.And p.a p.b) r o.pairs.items room
length_kind kinds.Or o r room = length_part 0 (λ p. gates.Or p.a p.b) r o.pairs.items room
length_kind kinds.Xor o r room = length_part 0 (λ p. gates.Xor p.a p.b) r o.pairs.items room
length_kind kinds.Mux o r room = length_part 0 (λ t. gates.Mux t.s t.a t.b) r o.triples.items room
length_kind kinds.Add o r room = length_part r.width (λ p. gates.Add p.a p.b) r o.pairs.items room
length_kind kinds.Sub o r room = length_part r.width (λ p. gates.Sub p.a p.b) r o.pairs.items room
length_kind kinds.Eq o r room = length_part 0 (λ p. gates.Eq p.a p.b) r o.pairs.items room
length_kind kinds.Less o r room = length_part 0 (λ p. gates.Less p.a p.b) r o.pairs.items room
length_kind kinds.Gate o r room = length_part 0 (λ p. gates.Gate p.a p.b) r o.pairs.items room

length_run : (o : Operands) (r : Run) → Fits o r → length (steps_of o r) ≡ r.count
length_run o r fits = length_kind r.kind o r fits

-- and runs as many as all of them
pub length_runs : (o : Operands) (runs : List Run) → All (Fits o) runs → length (flat_map (steps_of o) runs) ≡ steps_in runs
length_runs o [] fit = refl
length_runs o (r ∷ rs) fit =
    let rest = length_runs o rs (All-tail (Fits o) r rs fit) in
    let here = length_run o r (All-head (Fits o) r rs fit) in
    ap length (flat_map-cons (steps_of o) r rs)
    ∙ (length-append (steps_of o r) (flat_map (steps_of o) rs) ∙ (λ i. here i + rest i))

-- what is left of runs has no more steps than they have
fewer : (runs : List Run) (k : ℕ) → steps_in (drop k runs) ≤ steps_in runs
fewer runs zero = omega arith
fewer [] (suc k) = omega arith
fewer (r ∷ rs) (suc k) = omega (arith, fewer rs k)

-- behind the steps before a spot come those of its run
behind_spot : (o : Operands) (runs : List Run) (k before : ℕ) → All (Fits o) runs → before + steps_in (drop k runs) ≡ steps_in runs
    → drop before (flat_map (steps_of o) runs) ≡ flat_map (steps_of o) (drop k runs)
behind_spot o [] k before fit spot = let none : before ≡ 0 = omega (arith, spot) in ap (λ (n : ℕ). drop n (flat_map (steps_of o) [])) none ∙ sym (nothing k)
  where
    nothing : (k : ℕ) → flat_map (steps_of o) (drop k []) ≡ flat_map (steps_of o) []
    nothing zero = refl
    nothing (suc k) = refl
behind_spot o (r ∷ rs) zero before fit spot = let none : before ≡ 0 = omega (arith, spot) in ap (λ (n : ℕ). drop n (flat_map (steps_of o) (r ∷ rs))) none
behind_spot o (r ∷ rs) (suc k) before fit spot =
    let less = fewer rs k in
    let here = length_run o r (All-head (Fits o) r rs fit) in
    let left : ℕ = before - r.count in
    let place : before ≡ length (steps_of o r) + left = omega (arith, spot, less, here) in
    let next : left + steps_in (drop k rs) ≡ steps_in rs = omega (arith, spot, less) in
    (λ i. drop (place i) (flat_map-cons (steps_of o) r rs i))
    ∙ (behind (steps_of o r) (flat_map (steps_of o) rs) left ∙ behind_spot o rs k left (All-tail (Fits o) r rs fit) next)

-- a run stands where steps are left
pub run_left : (runs : List Run) (k left : ℕ) → left < steps_in (drop k runs) → k < length runs
run_left [] zero left less = absurd (omega (arith, less))
run_left [] (suc k) left less = absurd (omega (arith, less))
run_left (r ∷ rs) zero left less = omega arith
run_left (r ∷ rs) (suc k) left less = omega (arith, run_left rs k left less)

-- the steps that are left are those of the next run, and those behind it
pub left_of : (runs : List Run) (k : ℕ) (r : Run) → slice_get runs k ≡ Some r → steps_in (drop k runs) ≡ r.count + steps_in (drop (k + 1) runs)
left_of runs k r is = ap steps_in (drop_one runs k r is)

-- a run more stands before the next spot
pub spot_more : (runs : List Run) (k before end : ℕ) (r : Run) → slice_get runs k ≡ Some r → end ≡ before + r.count
    → before + steps_in (drop k runs) ≡ steps_in runs → end + steps_in (drop (k + 1) runs) ≡ steps_in runs
spot_more runs k before end r is more known = let left = left_of runs k r is in omega (arith, more, left, known)

-- a step of a run is found
pub found : (runs : List Run) (k step left : ℕ) (r : Run) → slice_get runs k ≡ Some r → left < r.count → step + steps_in (drop k runs) ≡ left + steps_in runs
    → IsAlone runs step (one_of r left)
found runs k step left r is less place = λ o fit. (fits o fit, refl, steps o fit)
  where
    own : (o : Operands) (rs : List Run) (k : ℕ) → slice_get rs k ≡ Some r → All (Fits o) rs → Fits o r
    own o [] k is fit = absurd (cc)
    own o (q ∷ rs) zero is fit = let same : q ≡ r = cc in subst (Fits o) same (All-head (Fits o) q rs fit)
    own o (q ∷ rs) (suc k) is fit = own o rs k is (All-tail (Fits o) q rs fit)

    fits : (o : Operands) → All (Fits o) runs → Fits o (one_of r left)
    fits o fit = let room = own o runs k is fit in omega (arith, room, less)

    steps : (o : Operands) → All (Fits o) runs → steps_of o (one_of r left) ≡ take 1 (drop step (flat_map (steps_of o) runs))
    steps o fit =
        let all : List Step = flat_map (steps_of o) runs in
        let rest : List Step = flat_map (steps_of o) (drop (k + 1) runs) in
        let before : ℕ = step - left in
        let there = fewer runs k in
        let spot : before + steps_in (drop k runs) ≡ steps_in runs = omega (arith, place, there) in
        let from : step ≡ before + left = omega (arith, place, there) in
        let next : drop before all ≡ steps_of o r ++ rest = behind_spot o runs k before fit spot ∙ (ap (flat_map (steps_of o)) (drop_one runs k r is) ∙ flat_map-cons (steps_of o) r (drop (k + 1) runs)) in
        let long = length_run o r (own o runs k is fit) in
        one_of_kind r.kind o r left less
        ∙ (sym (one_of_first (steps_of o r) rest left (omega (arith, less, long)))
        ∙ (ap (λ (ss : List Step). take 1 (drop left ss)) (sym next)
        ∙ (ap (take 1) (drop-drop left before all) ∙ ap (λ (n : ℕ). take 1 (drop n all)) (sym from))))

-- One step by itself.

-- it is what stands at its number
pub only : (steps : List Step) (k : ℕ) (s : Step) → slice_get steps k ≡ Some s → take 1 (drop k steps) ≡ s ∷ []
only steps k s is = ap (take 1) (drop_one steps k s is)

pub gate_alone : (all own : List Step) (k : ℕ) (gate : declared.Gate) → own ≡ take 1 (drop k all) → HasGate own gate → IsGate all k gate
gate_alone all own k gate alone has = λ s is. has s (ap (λ (ss : List Step). slice_get ss 0) (alone ∙ only all k s is))

-- the gate of the first of steps of one kind
pub first_of_kind : {A : Type 0} (w : ℕ) (gate : A → declared.Gate) (n : ℕ) (xs : List A) (x : A) → slice_get xs 0 ≡ Some x → HasGate (steps_from w gate n xs) (gate x)
first_of_kind w gate n [] x is = λ s at_0. absurd (cc)
first_of_kind w gate n (y ∷ xs) x is = λ s at_0.
    let same : y ≡ x = cc in
    let step : ◌≡◌ {A = Step} (record { net = n; width = w; gate = gate y }) s = cc in
    ap gate (sym same) ∙ ap (λ (t : Step). t.gate) step

-- the net of a step alone is that of its run
net_of_kind : {A : Type 0} (w : ℕ) (gate : A → declared.Gate) (n : ℕ) (xs : List A) (s : Step) → steps_from w gate n xs ≡ s ∷ [] → n ≡ s.net
net_of_kind w gate n [] s is = absurd (cc)
net_of_kind w gate n (x ∷ xs) s is =
    let step : ◌≡◌ {A = Step} (record { net = n; width = w; gate = gate x }) s = cc in
    ap (λ (t : Step). t.net) step

pub net_of : (kind : Kind) (o : Operands) (r : Run) (s : Step) → steps_of_kind kind o r ≡ s ∷ [] → r.net ≡ s.net
net_of kinds.Const o r s is = net_of_kind 0 gates.Const r.net (part r o.constants.items) s is
net_of kinds.Not o r s is = net_of_kind r.width gates.Not r.net (part r o.pins.items) s is
net_of kinds.And o r s is = net_of_kind 0 (λ p. gates.And p.a p.b) r.net (part r o.pairs.items) s is
net_of kinds.Or o r s is = net_of_kind 0 (λ p. gates.Or p.a p.b) r.net (part r o.pairs.items) s is
net_of kinds.Xor o r s is = net_of_kind 0 (λ p. gates.Xor p.a p.b) r.net (part r o.pairs.items) s is
net_of kinds.Mux o r s is = net_of_kind 0 (λ t. gates.Mux t.s t.a t.b) r.net (part r o.triples.items) s is
net_of kinds.Add o r s is = net_of_kind r.width (λ p. gates.Add p.a p.b) r.net (part r o.pairs.items) s is
net_of kinds.Sub o r s is = net_of_kind r.width (λ p. gates.Sub p.a p.b) r.net (part r o.pairs.items) s is
net_of kinds.Eq o r s is = net_of_kind 0 (λ p. gates.Eq p.a p.b) r.net (part r o.pairs.items) s is
net_of kinds.Less o r s is = net_of_kind 0 (λ p. gates.Less p.a p.b) r.net (part r o.pairs.items) s is
net_of kinds.Gate o r s is = net_of_kind 0 (λ p. gates.Gate p.a p.b) r.net (part r o.pairs.items) s is

-- what is known of a step alone
record IsOne (o : Operands) (all : List Step) (k : ℕ) (one : Run) : Type 0 where
  pub step : Step
  pub is : slice_get all k ≡ Some step
  pub own : steps_of o one ≡ step ∷ []
  pub net : one.net ≡ step.net

one_alone : (o : Operands) (all : List Step) (k : ℕ) (one : Run) → k < length all → steps_of o one ≡ take 1 (drop k all) → IsOne o all k one
one_alone o all k one low alone = by_step (element_at all k low)
  where
    by_step : (s : Step) × (slice_get all k ≡ Some s) → IsOne o all k one
    by_step (s, is) =
        let own : steps_of o one ≡ s ∷ [] = alone ∙ only all k s is in
        record { step = s; is = is; own = own; net = net_of one.kind o one s own }

-- what is known of a step alone that is evaluated
pub record IsOneWithin (o : Operands) (all : List Step) (k : ℕ) (one : Run) (old : Numbers) : Type 0 where
  pub low : one.net < length old
  pub within : All (IsStepWithin (length old)) (steps_of o one)
  pub evaluated : (new : Numbers) → new ≡ after (steps_of o one) old → IsEvaluated all k old new
  pub others : (new : Numbers) → new ≡ after (steps_of o one) old → KeepsOthersThan one.net old new
  pub same : (new : Numbers) → new ≡ after (steps_of o one) old → at new one.net ≡ at old one.net → new ≡ old

one_within : (o : Operands) (all : List Step) (k : ℕ) (one : Run) (old : Numbers) → IsOne o all k one → All (IsStepWithin (length old)) all
    → IsOneWithin o all k one old
one_within o all k one old is within =
    record {
      low = omega (arith, low, is.net);
      within = subst (All (IsStepWithin (length old))) (sym is.own) (All-cons (IsStepWithin (length old)) s [] (all_at (IsStepWithin (length old)) all k s within is.is) (All-nil (IsStepWithin (length old))));
      evaluated = λ new gives. record { step = s; is = is.is; values = values new gives };
      others = λ new gives p apart. ap (λ (v : Numbers). at v p) (values new gives) ∙ get_or-set_other old s.net p x 0 (λ here. apart (is.net ∙ sym here));
      same = λ new gives kept.
          let now : at new s.net ≡ x = ap (λ (v : Numbers). at v s.net) (values new gives) ∙ get_or-set_same old s.net x 0 low in
          let there : at new s.net ≡ at old s.net = subst (λ (n : ℕ). at new n ≡ at old n) is.net kept in
          values new gives ∙ (ap (set old s.net) (sym now ∙ there) ∙ set-get_or old s.net 0);
    }
  where
    s : Step
    s = is.step

    x : ℕ
    x = value_of s old

    low : s.net < length old
    low = (all_at (IsStepWithin (length old)) all k s within is.is).net

    values : (new : Numbers) → new ≡ after (steps_of o one) old → new ≡ set old s.net x
    values new gives = gives ∙ ap (λ (ss : List Step). after ss old) is.own

pub known_alone : {A : Type 0} (number : A → ℕ) (o : Operands) (runs : List Run) (k : ℕ) (one : Run) (words : List A) → All (Fits o) runs
    → IsAlone runs k one → k < length (flat_map (steps_of o) runs) → All (IsStepWithin (length words)) (flat_map (steps_of o) runs)
    → IsOneWithin o (flat_map (steps_of o) runs) k one (map number words)
known_alone number o runs k one words fit alone low within =
    one_within o (flat_map (steps_of o) runs) k one (map number words) (one_alone o (flat_map (steps_of o) runs) k one low (alone o fit).2)
    (subst (λ (n : ℕ). All (IsStepWithin n) (flat_map (steps_of o) runs)) (sym (length-map words number)) within)

-- what holds of all steps holds of a step alone
pub alone_steps : (P : Step → Type 0) (o : Operands) (runs : List Run) (k : ℕ) (one : Run) → All (Fits o) runs → IsAlone runs k one
    → k < length (flat_map (steps_of o) runs) → All P (flat_map (steps_of o) runs) → All P (steps_of o one)
alone_steps P o runs k one fit alone low all =
    let is = one_alone o (flat_map (steps_of o) runs) k one low (alone o fit).2 in
    subst (All P) (sym is.own) (All-cons P is.step [] (all_at P (flat_map (steps_of o) runs) k is.step all is.is) (All-nil P))
