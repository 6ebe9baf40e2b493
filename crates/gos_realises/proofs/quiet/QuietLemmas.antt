-- A plan whose ranks hold grows quiet.
--
-- No rank is above the number of joints, so that after so many times four cycles no request lies at a joint. From
-- there on each firing closes a handshake.
use Rattle.std.specs.Prelude.{Option, None}
use Rattle.std.proofs.Common.{◌≡◌, inl, inr, ◌⊎◌, ℕ, zero, suc, ◌+◌, ◌*◌, ◌<◌, ◌≤◌, Bool, true, false, List, [], ◌∷◌, ◌++◌, length, Some, refl, sym, ◌∙◌, ap, subst, arith, if◌then◌else◌}
use Rattle.gos_types.specs.Events.{Request, Answer}
use Rattle.gos_plan.specs.Firing.{Slot, Req, Ans, Token}
use Rattle.gos_plan.specs.Plans.{End, PartEnd, Joint, Plan, IsRight, same_end}
use Rattle.gos_plan.specs.Tokens.{Tokens, Element, Fire, Out, In, places_of, end_of, way_of, IsQuiet}
use Rattle.gos_plan.specs.Orderly.{handshake_at, Open, none_open, with_open, after_puts, after_put, AllWelcome, OrderlyFrom}
use Rattle.gos_plan.specs.Made.{PartFiring, Made, state_after}
use Rattle.gos_plan.proofs.JointLemmas.{IsIn, same_itself, found}
use Rattle.gos_plan.proofs.HeldLemmas.{Fits, AllFit, all_fit}
use Rattle.gos_realises.specs.realises.Matched.{asks_on}
use Rattle.gos_realises.specs.realises.Slim.{IsSlim}
use Rattle.gos_realises.proofs.realises.IdleLemmas.{idle_welcome}
use Rattle.gos_realises.specs.quiet.Quiet.{all_fires, FiresSoon, IsFiredSoon, GrowsQuiet}
use Rattle.gos_realises.specs.quiet.Ranks.{Ranks, no_ranks, Stepped, Steps, HasRank, RanksHold}
use Rattle.gos_realises.proofs.quiet.StepLemmas.{AtLeast, Cycles, cycles_of, steps_append, steps_fit, step_fits, orderly_apart}
use Rattle.gos_realises.proofs.quiet.RankLemmas.{taken_at, take_one, step_from, Low, HasFiring, in_four, fired_in_four, four_steps, low_next}

-- of joints with the numbers 0 to r - 1 there are r at least
abbrev without : (js : List Joint) (j : Joint) → IsIn j js → List Joint
without [] j h = []
without (x ∷ xs) j (inl e) = xs
without (x ∷ xs) j (inr h) = x ∷ without xs j h

without_one : (js : List Joint) (j : Joint) (h : IsIn j js) → suc (length (without js j h)) ≡ length js
without_one [] j h = absurd h
without_one (x ∷ xs) j (inl e) = refl
without_one (x ∷ xs) j (inr h) = ap suc (without_one xs j h)

still_in : (js : List Joint) (j : Joint) (h : IsIn j js) (i : Joint) → IsIn i js → (i ≡ j → ⊥) → IsIn i (without js j h)
still_in [] j h i is_in other = absurd h
still_in (x ∷ xs) j (inl e) i (inl same) other = absurd (other (same ∙ sym e))
still_in (x ∷ xs) j (inl e) i (inr later) other = later
still_in (x ∷ xs) j (inr h) i (inl same) other = inl same
still_in (x ∷ xs) j (inr h) i (inr later) other = inr (still_in xs j h i later other)

enough : (f : Joint → ℕ) (r : ℕ) (js : List Joint) → ((q : ℕ) → q < r → (j : Joint) × IsIn j js × (f j ≡ q)) → r ≤ length js
enough f zero js each = omega arith
enough f (suc r) js each =
    let top = each r (omega arith) in
    let rest = enough f r (without js top.0 top.1)
    (λ q low. let one = each q (omega (arith, low)) in
    (one.0, still_in js top.0 top.1 one.0 one.1 (λ same. let is : q ≡ r = sym one.2 ∙ (ap f same ∙ top.2) in omega (arith, is, low)), one.2)) in
    let fewer = without_one js top.0 top.1 in
    omega (arith, rest, fewer)

-- below an open handshake of a rank there is one of each lower rank
abbrev Ladder : Plan → Open → Ranks → Type 0
Ladder p u g = (e : End) (r : ℕ) → u e ≡ true → g e ≡ suc r → HasRank p u g r

here_or_below : (q r : ℕ) → q < suc r → (q ≡ r) ⊎ (q < r)
here_or_below zero zero h = inl refl
here_or_below zero (suc r) h = inr (omega arith)
here_or_below (suc q) zero h = absurd (omega (arith, h))
here_or_below (suc q) (suc r) h =
    elim (here_or_below q r (omega (arith, h))) [
      | inl same ↦ inl (ap suc same)
      | inr below ↦ inr (omega (arith, below))
    ]

all_below : (p : Plan) (u : Open) (g : Ranks) → Ladder p u g → (r : ℕ) (e : End) → u e ≡ true → g e ≡ r → (q : ℕ) → q < r → HasRank p u g q
all_below p u g ladder zero e is_open is q low = absurd (omega (arith, low))
all_below p u g ladder (suc r) e is_open is q low =
    by_case (ladder e r is_open is) (here_or_below q r low) (λ d opened ranked less. all_below p u g ladder r d opened ranked q less)
  where
    by_case : HasRank p u g r → (q ≡ r) ⊎ (q < r) → ((d : End) → u d ≡ true → g d ≡ r → q < r → HasRank p u g q) → HasRank p u g q
    by_case (d, n, place, opened, ranked) (inl same) more = (d, n, place, opened, ranked ∙ sym same)
    by_case (d, n, place, opened, ranked) (inr less) more = more n opened ranked less

pub few_ranks : (p : Plan) (u : Open) (g : Ranks) (e : End) → Ladder p u g → u e ≡ true → g e ≤ length p.joints
few_ranks p u g e ladder is_open =
    enough (λ (j : Joint). g j.asking) (g e) p.joints
    (λ q low. let one = all_below p u g ladder (g e) e is_open refl q low in
    let joint = found p.joints one.0 one.1 one.2 in
    (joint.joint, joint.is_in, ap g joint.named ∙ one.4))

-- where a token lies the handshake is open
pub lies_open : (b : Bool) (q r : Option ℕ) (v : ℕ) → Fits b q r → (q ≡ Some v) ⊎ (r ≡ Some v) → b ≡ true
lies_open true q r v h lies = refl
lies_open false q r v h (inl lies) = let never : None ≡ Some v = sym h.0 ∙ lies in absurd (cc never)
lies_open false q r v h (inr lies) = let never : None ≡ Some v = sym h.1 ∙ lies in absurd (cc never)

-- no request lies at a joint
abbrev NoneAsked : Plan → Ranks → Tokens → Type 0
NoneAsked p f s = (j : Joint) → IsIn j p.joints → (n : ℕ) → AtLeast n j.asking f s

too_high : (p : Plan) (o : Open) (f : Ranks) (s : Tokens) → Ladder p o f → AllFit o s → Low p (suc (length p.joints)) f s → NoneAsked p f s
too_high p o f s ladder fit low j is_in n v lies =
    let few = few_ranks p o f j.asking ladder (lies_open (o j.asking) (s.in_place Request j.asking) (s.in_place Answer j.asking) v (fit j.asking) (inl lies)) in
    let high = low j is_in v lies in
    absurd (omega (arith, few, high))

-- from there on a firing takes an answer and puts no request
no_request : (p : Plan) (i h : ℕ) (o m : Open) (f g : Ranks) (s w : Tokens) → Stepped p i (Req h) o f s m g w → NoneAsked p f s → ⊥
no_request p i h o m f g s w x none =
    let at = taken_at p (PartEnd i h) Request x.value s x.lies in
    let never = none at.joint at.is_in (suc (f at.joint.asking)) x.value at.lies in
    omega (arith, never)

none_after : (p : Plan) (i : ℕ) (slot : Slot) (o m : Open) (f g : Ranks) (s w : Tokens) → Stepped p i slot o f s m g w → NoneAsked p f s → NoneAsked p g w
none_after p i (Req h) o m f g s w x none j is_in n = absurd (no_request p i h o m f g s w x none)
none_after p i (Ans h) o m f g s w x none j is_in n =
    step_from p i (Ans h) o m f g s w n j.asking x (λ asks. absurd (x.stays x.value x.row x.lies x.fires asks refl))
    (take_one n j.asking f s Answer (places_of p (PartEnd i h)) (none j is_in n))

-- how many joints have open handshakes
abbrev opened : List Joint → Open → ℕ
opened [] o = 0
opened (j ∷ js) o = if o j.asking then suc (opened js o) else opened js o

fewer_or_same : (js : List Joint) (e : End) (o : Open) → opened js (with_open e false o) ≤ opened js o
fewer_or_same [] e o = omega arith
fewer_or_same (j ∷ js) e o = by_test (same_end j.asking e) (o j.asking) (fewer_or_same js e o)
  where
    by_test : (b t : Bool) → opened js (with_open e false o) ≤ opened js o
        → (if (if b then false else t) then suc (opened js (with_open e false o)) else opened js (with_open e false o)) ≤ (if t then suc (opened js o) else opened js o)
    by_test true true h = omega (arith, h)
    by_test true false h = h
    by_test false true h = omega (arith, h)
    by_test false false h = h

fewer : (js : List Joint) (j : Joint) (o : Open) → IsIn j js → o j.asking ≡ true → opened js (with_open j.asking false o) < opened js o
fewer [] j o is_in is_open = absurd is_in
fewer (x ∷ xs) j o (inl same) is_open =
    subst (λ (y : Joint). opened (y ∷ xs) (with_open j.asking false o) < opened (y ∷ xs) o) same (here (fewer_or_same xs j.asking o))
  where
    here : opened xs (with_open j.asking false o) ≤ opened xs o → opened (j ∷ xs) (with_open j.asking false o) < opened (j ∷ xs) o
    here h = rw (same_itself j.asking, is_open) (omega (arith, h))
fewer (x ∷ xs) j o (inr later) is_open = by_test (same_end x.asking j.asking) (o x.asking) (fewer xs j o later is_open)
  where
    by_test : (b t : Bool) → opened xs (with_open j.asking false o) < opened xs o
        → (if (if b then false else t) then suc (opened xs (with_open j.asking false o)) else opened xs (with_open j.asking false o))
        < (if t then suc (opened xs o) else opened xs o)
    by_test true true h = omega (arith, h)
    by_test true false h = h
    by_test false true h = omega (arith, h)
    by_test false false h = h

puts_answers : (p : Plan) (i : ℕ) (ts : List Token) (o : Open) → (asks_on ts ≡ true → ⊥) → after_puts p i ts o ≡ o
puts_answers p i [] o none = refl
puts_answers p i (t ∷ ts) o none = by_slot t.slot refl (puts_answers p i ts)
  where
    by_slot : (slot : Slot) → t.slot ≡ slot → ((n : Open) → (asks_on ts ≡ true → ⊥) → after_puts p i ts n ≡ n)
        → after_puts p i ts (after_put p (end_of i t.slot) (way_of t.slot) o) ≡ o
    by_slot (Req h) is more = absurd (none (rw is refl))
    by_slot (Ans h) is more = rw is (more o (λ asks. none (grind (arith, is, asks))))

closes : (p : Plan) (i : ℕ) (slot : Slot) (o m : Open) (f g : Ranks) (s w : Tokens) → Stepped p i slot o f s m g w → NoneAsked p f s → AllFit o s
    → opened p.joints m < opened p.joints o
closes p i (Req h) o m f g s w x none fit = absurd (no_request p i h o m f g s w x none)
closes p i (Ans h) o m f g s w x none fit =
    let at = taken_at p (PartEnd i h) Answer x.value s x.lies in
    let e = at.joint.asking in
    let is_open = lies_open (o e) (s.in_place Request e) (s.in_place Answer e) x.value (fit e) (inr at.lies) in
    let after : m ≡ with_open e false o =
    (x.comes x.value x.row x.lies x.fires).1
    ∙ (puts_answers p i (x.row.puts x.value) (with_open (handshake_at p (PartEnd i h)) false o) (λ asks. x.stays x.value x.row x.lies x.fires asks refl)
    ∙ ap (λ (d : End). with_open d false o) at.named) in
    subst (λ (n : Open). opened p.joints n < opened p.joints o) (sym after) (fewer p.joints at.joint o at.is_in is_open)

none_stays : (p : Plan) (fs : List PartFiring) (o u : Open) (f g : Ranks) (s t : Tokens) → Steps p fs o f s u g t → NoneAsked p f s → AllFit o s
    → NoneAsked p g t × (opened p.joints u ≤ opened p.joints o)
none_stays p [] o u f g s t (a, b, c) none fit = (
  subst (λ (y : Tokens). NoneAsked p g y) (sym c) (subst (λ (y : Ranks). NoneAsked p y s) (sym b) none),
  subst (λ (y : Open). opened p.joints y ≤ opened p.joints o) (sym a) (omega arith),
)
none_stays p (x ∷ xs) o u f g s t (m, h, w, one, rest) none fit =
    let less = closes p x.part x.takes o m f h s w one none fit in
    let more = none_stays p xs m u h g w t rest (none_after p x.part x.takes o m f h s w one none) (step_fits p x.part x.takes o m f h s w one fit) in
    let further = more.1 in
    (more.0, omega (arith, less, further))

-- cycles from some number on
soon_after : (p : Plan) (s : Tokens) (m : Made) (ms : List Made) → FiresSoon p s (m ∷ ms) → FiresSoon p m.after ms
soon_after p s m ms soon t x after within does = by_element x (soon (suc t) x after (omega (arith, within)) does)
  where
    by_element : (x : Element) → IsFiredSoon (m ∷ ms) (suc t) x → IsFiredSoon ms t x
    by_element (Fire i slot) (zero, n, from, to, there, made) = absurd (omega (arith, from))
    by_element (Fire i slot) (suc j, n, from, to, there, made) = (j, n, omega (arith, from), omega (arith, to), there, made)
    by_element (Out e v) made = made
    by_element (In e v) made = tt

soon_after_four : (p : Plan) (s : Tokens) (a b c d : Made) (ms : List Made) → FiresSoon p s (a ∷ b ∷ c ∷ d ∷ ms) → FiresSoon p d.after ms
soon_after_four p s a b c d ms soon =
    soon_after p c.after d ms (soon_after p b.after c (d ∷ ms) (soon_after p a.after b (c ∷ d ∷ ms) (soon_after p s a (b ∷ c ∷ d ∷ ms) soon)))

abbrev QuietAt : Plan → Tokens → List Made → Type 0
QuietAt p s ms = (j : ℕ) × (j ≤ length ms) × IsQuiet p (state_after s ms j)

later_quiet : (p : Plan) (s : Tokens) (a b c d : Made) (ms : List Made) → QuietAt p d.after ms → QuietAt p s (a ∷ b ∷ c ∷ d ∷ ms)
later_quiet p s a b c d ms (j, within, quiet) = (suc (suc (suc (suc j))), omega (arith, within), quiet)

-- four cycles without a firing
none_fires : (p : Plan) (s : Tokens) (a b c d : Made) (ms : List Made) → FiresSoon p s (a ∷ b ∷ c ∷ d ∷ ms) → in_four a b c d ≡ [] → IsQuiet p s
none_fires p s a b c d ms soon none = (
  (λ i slot after does. subst (HasFiring (record { part = i; takes = slot })) none (fired_in_four p s a b c d ms i slot after soon does)),
  (λ e v after does. soon 0 (Out e v) after (omega arith) does),
)

pub answers_end : (p : Plan) (n : ℕ) (o : Open) (f : Ranks) (s : Tokens) (ms : List Made) → opened p.joints o ≤ n → NoneAsked p f s → AllFit o s
    → Cycles p o f s ms → FiresSoon p s ms → 4 * (n + 1) ≤ length ms → QuietAt p s ms
answers_end p n o f s [] few none fit cycles soon many = absurd (omega (arith, many))
answers_end p n o f s (a ∷ []) few none fit cycles soon many = absurd (omega (arith, many))
answers_end p n o f s (a ∷ b ∷ []) few none fit cycles soon many = absurd (omega (arith, many))
answers_end p n o f s (a ∷ b ∷ c ∷ []) few none fit cycles soon many = absurd (omega (arith, many))
answers_end p zero o f s (a ∷ b ∷ c ∷ d ∷ ms) few none fit cycles soon many = by_firings (in_four a b c d) refl (four_steps p o f s a b c d ms cycles).2
  where
    by_firings : (fs : List PartFiring) → in_four a b c d ≡ fs
        → Steps p fs o f s (four_steps p o f s a b c d ms cycles).0 (four_steps p o f s a b c d ms cycles).1 d.after → QuietAt p s (a ∷ b ∷ c ∷ d ∷ ms)
    by_firings [] is steps = (0, omega arith, none_fires p s a b c d ms soon is)
    by_firings (x ∷ xs) is (m, h, w, one, rest) =
        let less = closes p x.part x.takes o m f h s w one none fit in
        absurd (omega (arith, few, less))
answers_end p (suc n) o f s (a ∷ b ∷ c ∷ d ∷ ms) few none fit cycles soon many =
    by_firings (in_four a b c d) refl four.2 (λ less. answers_end p n four.0 four.1 d.after ms (omega (arith, less, few)) (none_stays p (in_four a b c d) o four.0 f four.1 s d.after four.2 none fit).0
    (steps_fit p (in_four a b c d) o four.0 f four.1 s d.after four.2 fit) four.3 (soon_after_four p s a b c d ms soon) (omega (arith, many)))
  where
    four : (u : Open) × (g : Ranks) × Steps p (in_four a b c d) o f s u g d.after × Cycles p u g d.after ms
    four = four_steps p o f s a b c d ms cycles

    by_firings : (fs : List PartFiring) → in_four a b c d ≡ fs → Steps p fs o f s four.0 four.1 d.after
        → (opened p.joints four.0 < opened p.joints o → QuietAt p d.after ms) → QuietAt p s (a ∷ b ∷ c ∷ d ∷ ms)
    by_firings [] is steps more = (0, omega arith, none_fires p s a b c d ms soon is)
    by_firings (x ∷ xs) is (m, h, w, one, rest) more =
        let less = closes p x.part x.takes o m f h s w one none fit in
        let further = none_stays p xs m four.0 h four.1 w d.after rest (none_after p x.part x.takes o m f h s w one none) (step_fits p x.part x.takes o m f h s w one fit) in
        let fewer_still = further.1 in
        later_quiet p s a b c d ms (more (omega (arith, less, fewer_still)))

-- the ranks rise, and then answers end
few_opened : (js : List Joint) (o : Open) → opened js o ≤ length js
few_opened [] o = omega arith
few_opened (j ∷ js) o = by_test (o j.asking) (few_opened js o)
  where
    by_test : (b : Bool) → opened js o ≤ length js → (if b then suc (opened js o) else opened js o) ≤ suc (length js)
    by_test true h = omega (arith, h)
    by_test false h = omega (arith, h)

steps_welcome : (p : Plan) (fs : List PartFiring) (o u : Open) (f g : Ranks) (s t : Tokens) → Steps p fs o f s u g t → AllWelcome p s → AllWelcome p t
steps_welcome p [] o u f g s t (a, b, c) welcome = subst (λ (y : Tokens). AllWelcome p y) (sym c) welcome
steps_welcome p (x ∷ xs) o u f g s t (m, h, w, one, rest) welcome = steps_welcome p xs m u h g w t rest one.welcome

rounds : (p : Plan) (first : Open) (start : Tokens) (n k : ℕ) (past : List PartFiring) (o : Open) (f : Ranks) (s : Tokens) (ms : List Made) → IsRight p
    → ((fs : List PartFiring) (u : Open) (g : Ranks) (t : Tokens) → Steps p fs first no_ranks start u g t → Ladder p u g)
    → k + n ≡ suc (length p.joints) → Steps p past first no_ranks start o f s → AllFit o s → AllWelcome p s → Low p k f s
    → Cycles p o f s ms → FiresSoon p s ms → 4 * n + 4 * (length p.joints + 1) ≤ length ms → QuietAt p s ms
rounds p first start zero k past o f s ms right ladder count steps fit welcome low cycles soon many =
    let top : k ≡ suc (length p.joints) = omega (arith, count) in
    answers_end p (length p.joints) o f s ms (few_opened p.joints o)
    (too_high p o f s (ladder past o f s steps) fit (subst (λ (n : ℕ). Low p n f s) top low)) fit cycles soon (omega (arith, many))
rounds p first start (suc n) k past o f s [] right ladder count steps fit welcome low cycles soon many = absurd (omega (arith, many))
rounds p first start (suc n) k past o f s (a ∷ []) right ladder count steps fit welcome low cycles soon many = absurd (omega (arith, many))
rounds p first start (suc n) k past o f s (a ∷ b ∷ []) right ladder count steps fit welcome low cycles soon many = absurd (omega (arith, many))
rounds p first start (suc n) k past o f s (a ∷ b ∷ c ∷ []) right ladder count steps fit welcome low cycles soon many = absurd (omega (arith, many))
rounds p first start (suc n) k past o f s (a ∷ b ∷ c ∷ d ∷ ms) right ladder count steps fit welcome low cycles soon many =
    let four = four_steps p o f s a b c d ms cycles in
    later_quiet p s a b c d ms
    (rounds p first start n (suc k) (past ++ in_four a b c d) four.0 four.1 d.after ms right ladder (omega (arith, count))
    (steps_append p past (in_four a b c d) first o four.0 no_ranks f four.1 start s d.after steps four.2)
    (steps_fit p (in_four a b c d) o four.0 f four.1 s d.after four.2 fit) (steps_welcome p (in_four a b c d) o four.0 f four.1 s d.after four.2 welcome)
    (low_next p o four.0 f four.1 s a b c d ms k right welcome soon four.2 low) four.3 (soon_after_four p s a b c d ms soon) (omega (arith, many)))

pub orderly_welcome : (p : Plan) (xs : List Element) (o u : Open) (s t : Tokens) → OrderlyFrom p xs o s u t → AllWelcome p s → AllWelcome p t
orderly_welcome p [] o u s t list welcome = subst (λ (y : Tokens). AllWelcome p y) (sym list.1) welcome
orderly_welcome p (x ∷ xs) o u s t (m, w, does, comes, also, list) welcome = orderly_welcome p xs m u w t list also

pub ranks_quiet : (p : Plan) → IsRight p → IsSlim p → RanksHold p → GrowsQuiet p
ranks_quiet p right slim hold first s xs ms idle runs (u, t, orderly) only soon many =
    let apart = orderly_apart p xs (all_fires ms) none_open u first s t orderly runs in
    let few = slim.joints in
    rounds p apart.0 s (suc (length p.joints)) 0 [] apart.0 no_ranks s ms right
    (λ fs v g w steps. hold first s w xs fs apart.0 v g idle apart.1 steps)
    (omega arith) (refl, refl, refl) (all_fit p xs none_open apart.0 first s apart.1 (λ a. (idle.0 Request a, idle.0 Answer a)))
    (orderly_welcome p xs none_open apart.0 first s apart.1 (idle_welcome p first idle)) (λ j is_in v lies. omega arith)
    (cycles_of p ms apart.0 u no_ranks s t only apart.2) soon (omega (arith, many, few))
