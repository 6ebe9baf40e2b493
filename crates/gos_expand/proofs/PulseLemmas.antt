-- Outputs and inputs as one: how an element is made, how many come at an end, and the sum of their numbers. And what holds
-- of all that ports show or are given: no firings stand among them.
use Rattle.std.proofs.Common.{◌≡◌, ℕ, suc, ◌+◌, ◌*◌, Bool, true, false, not, List, [], ◌∷◌, ◌++◌, refl, sym, ap, subst, ◌∙◌, arith, nat_eq, if◌then◌else◌}
use Rattle.std.proofs.lemmas.List.{append-nil}
use Rattle.gos_netlist.specs.Settling.{Numbers, at}
use Rattle.gos_plan.specs.Plans.{End, Plan, same_end}
use Rattle.gos_plan.specs.Tokens.{Tokens, Element, Out, In}
use Rattle.gos_plan.specs.Accounts.{ins_at, ins_sum, outs_at, outs_sum}
use Rattle.gos_plan.specs.Made.{PartFiring, fires_of}
use Rattle.gos_plan.specs.Projection.{TakesValues}
use Rattle.gos_plan.proofs.JointLemmas.{same_is}
use Rattle.gos_expand.specs.Blocks.{Nets}
use Rattle.gos_expand.specs.Facts.{number_by, elements, occurs}

-- of outputs, or else of inputs: the element at an end, how many come at an end in a list, and the sum of their numbers
abbrev pub pulse_of : Bool → End → ℕ → Element
pulse_of true = Out
pulse_of false = In

abbrev pub count_of : Bool → End → List Element → ℕ
count_of true = outs_at
count_of false = ins_at

abbrev pub sum_of : Bool → End → List Element → ℕ
sum_of true = outs_sum
sum_of false = ins_sum

-- what ports show and are given, in a list of ends
pub elements-append : (make : End → ℕ → Element) (v : Numbers) (bits : End → ℕ) (nets : End → Nets) (ds es : List End)
    → elements make v bits nets (ds ++ es) ≡ elements make v bits nets ds ++ elements make v bits nets es
elements-append make v bits nets [] es = refl
elements-append make v bits nets (d ∷ ds) es = by_test (nat_eq (at v (nets d).pulse) 1) (elements-append make v bits nets ds es)
  where
    by_test : (b : Bool) → elements make v bits nets (ds ++ es) ≡ elements make v bits nets ds ++ elements make v bits nets es
        → (if b then make d (number_by v (bits d) (nets d)) ∷ elements make v bits nets (ds ++ es) else elements make v bits nets (ds ++ es))
        ≡ (if b then make d (number_by v (bits d) (nets d)) ∷ elements make v bits nets ds else elements make v bits nets ds) ++ elements make v bits nets es
    by_test true h = ap (λ (l : List Element). make d (number_by v (bits d) (nets d)) ∷ l) h
    by_test false h = h

pub occurs-append : (e : End) (ds es : List End) → occurs e (ds ++ es) ≡ occurs e ds + occurs e es
occurs-append e [] es = omega arith
occurs-append e (d ∷ ds) es = by_test (same_end d e) (occurs-append e ds es)
  where
    by_test : (b : Bool) → occurs e (ds ++ es) ≡ occurs e ds + occurs e es
        → (if b then suc (occurs e (ds ++ es)) else occurs e (ds ++ es)) ≡ (if b then suc (occurs e ds) else occurs e ds) + occurs e es
    by_test true h = omega (arith, h)
    by_test false h = h

-- What is true of no elements, and stays true with one more of this make in front, is true of all that the nets show.
pub each_element : (P : List Element → Type 0) (make : End → ℕ → Element) (v : Numbers) (bits : End → ℕ) (nets : End → Nets) (es : List End)
    → P [] → ((d : End) (x : ℕ) (xs : List Element) → P xs → P (make d x ∷ xs)) → P (elements make v bits nets es)
each_element P make v bits nets [] none more = none
each_element P make v bits nets (e ∷ es) none more = by_test (nat_eq (at v (nets e).pulse) 1) (each_element P make v bits nets es none more)
  where
    by_test : (b : Bool) → P (elements make v bits nets es)
        → P (if b then make e (number_by v (bits e) (nets e)) ∷ elements make v bits nets es else elements make v bits nets es)
    by_test true h = more e (number_by v (bits e) (nets e)) (elements make v bits nets es) h
    by_test false h = h

-- no part takes a value by them
pub no_values : (out : Bool) (p : Plan) (i : ℕ) (x : ℕ → ℕ) (v : Numbers) (bits : End → ℕ) (nets : End → Nets) (es : List End) (s : Tokens)
    → TakesValues p i x (elements (pulse_of out) v bits nets es) s
no_values out p i x v bits nets es =
    each_element (λ (xs : List Element). (t : Tokens) → TakesValues p i x xs t) (pulse_of out) v bits nets es (λ t. tt) (more out)
  where
    more : (out : Bool) (d : End) (y : ℕ) (xs : List Element) → ((t : Tokens) → TakesValues p i x xs t)
        → (t : Tokens) → TakesValues p i x (pulse_of out d y ∷ xs) t
    more true d y xs h t = (tt, λ u does. h u)
    more false d y xs h t = (tt, λ u does. h u)

-- how many come where the nets show this, and the sum of their numbers
abbrev pub flag : Numbers → Nets → ℕ
flag v nets = if nat_eq (at v nets.pulse) 1 then 1 else 0

abbrev pub number_if : Numbers → ℕ → Nets → ℕ
number_if v w nets = if nat_eq (at v nets.pulse) 1 then number_by v w nets else 0

-- so many come at an end in a list, and their numbers have this sum
abbrev pub Come : Bool → End → List Element → ℕ → ℕ → Type 0
Come out e xs n m = (count_of out e xs ≡ n) × (sum_of out e xs ≡ m)

-- one in front of a list counts at its own end alone
one_more : (out : Bool) (e d : End) (x : ℕ) (xs : List Element) (b : Bool) → same_end d e ≡ b
    → Come out e (pulse_of out d x ∷ xs) (if b then suc (count_of out e xs) else count_of out e xs) (if b then x + sum_of out e xs else sum_of out e xs)
one_more true e d x xs b is = (λ i. if is i then suc (outs_at e xs) else outs_at e xs, λ i. if is i then x + outs_sum e xs else outs_sum e xs)
one_more false e d x xs b is = (λ i. if is i then suc (ins_at e xs) else ins_at e xs, λ i. if is i then x + ins_sum e xs else ins_sum e xs)

-- besides those of a list, k times n come, and their numbers have k times the sum m
abbrev pub More : Bool → End → List Element → List Element → ℕ → ℕ → ℕ → Type 0
More out e rest xs k n m = Come out e xs (k * n + count_of out e rest) (k * m + sum_of out e rest)

-- In front of a list come at an end those that its nets show, as often as it stands among the ends.
pub shown_before : (out : Bool) (e : End) (v : Numbers) (bits : End → ℕ) (nets : End → Nets) (es : List End) (rest : List Element)
    → More out e rest (elements (pulse_of out) v bits nets es ++ rest) (occurs e es) (flag v (nets e)) (number_if v (bits e) (nets e))
shown_before out e v bits nets [] rest = (grind arith, grind arith)
shown_before out e v bits nets (d ∷ ds) rest = by_same (same_end d e) refl (shown_before out e v bits nets ds rest)
  where
    x : ℕ
    x = number_by v (bits d) (nets d)

    shows : Bool
    shows = nat_eq (at v (nets d).pulse) 1

    behind : List Element
    behind = elements (pulse_of out) v bits nets ds

    all : Bool → List Element
    all b = (if b then pulse_of out d x ∷ behind else behind) ++ rest

    by_same : (same : Bool) → same_end d e ≡ same → More out e rest (behind ++ rest) (occurs e ds) (flag v (nets e)) (number_if v (bits e) (nets e))
        → More out e rest (all shows) (if same then suc (occurs e ds) else occurs e ds) (flag v (nets e)) (number_if v (bits e) (nets e))
    by_same true is h =
        subst
        (λ (z : End). More out e rest (behind ++ rest) (occurs e ds) (flag v (nets z)) (number_if v (bits z) (nets z))
        → More out e rest (all shows) (suc (occurs e ds)) (flag v (nets z)) (number_if v (bits z) (nets z))) (same_is d e is) (by_pulse shows) h
      where
        by_pulse : (b : Bool) → More out e rest (behind ++ rest) (occurs e ds) (if b then 1 else 0) (if b then x else 0)
            → More out e rest (all b) (suc (occurs e ds)) (if b then 1 else 0) (if b then x else 0)
        by_pulse true h =
            let more = one_more out e d x (behind ++ rest) true is in
            (more.0 ∙ (ap suc h.0 ∙ grind arith), more.1 ∙ (ap (λ (m : ℕ). x + m) h.1 ∙ grind arith))
        by_pulse false h = (h.0 ∙ grind arith, h.1 ∙ grind arith)
    by_same false is h = by_pulse shows
      where
        by_pulse : (b : Bool) → More out e rest (all b) (occurs e ds) (flag v (nets e)) (number_if v (bits e) (nets e))
        by_pulse true = let more = one_more out e d x (behind ++ rest) false is in (more.0 ∙ h.0, more.1 ∙ h.1)
        by_pulse false = h

-- no inputs come among outputs, and none of both among firings
pub others_before : (out : Bool) (e : End) (v : Numbers) (bits : End → ℕ) (nets : End → Nets) (es : List End) (rest : List Element)
    → Come out e (elements (pulse_of (not out)) v bits nets es ++ rest) (count_of out e rest) (sum_of out e rest)
others_before out e v bits nets es rest =
    each_element (λ (xs : List Element). Come out e (xs ++ rest) (count_of out e rest) (sum_of out e rest)) (pulse_of (not out)) v bits nets es (refl, refl) (more out)
  where
    more : (out : Bool) (d : End) (x : ℕ) (xs : List Element) → Come out e (xs ++ rest) (count_of out e rest) (sum_of out e rest)
        → Come out e ((pulse_of (not out) d x ∷ xs) ++ rest) (count_of out e rest) (sum_of out e rest)
    more true d x xs h = h
    more false d x xs h = h

pub none_of_fires : (out : Bool) (e : End) (fs : List PartFiring) → Come out e (fires_of fs) 0 0
none_of_fires true e [] = (refl, refl)
none_of_fires false e [] = (refl, refl)
none_of_fires true e (f ∷ fs) = none_of_fires true e fs
none_of_fires false e (f ∷ fs) = none_of_fires false e fs

-- with nothing behind
pub shown_alone : (out : Bool) (e : End) (v : Numbers) (bits : End → ℕ) (nets : End → Nets) (es : List End)
    → count_of out e (elements (pulse_of out) v bits nets es) ≡ occurs e es * flag v (nets e)
shown_alone out e v bits nets es =
    let shown = shown_before out e v bits nets es [] in
    let none = none_of_fires out e [] in
    ap (count_of out e) (sym (append-nil (elements (pulse_of out) v bits nets es))) ∙ grind (arith, shown.0, none.0)
