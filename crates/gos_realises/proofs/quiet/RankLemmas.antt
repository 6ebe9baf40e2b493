-- After each four cycles the requests that lie there have one rank more, and no rank is above the number of joints.
use Rattle.std.specs.Prelude.{Option, None, Contains, slice_index_or, ◌||◌}
use Rattle.std.proofs.Common.{◌≡◌, inl, inr, ◌⊎◌, ℕ, zero, suc, ◌<◌, ◌≤◌, Bool, true, false, List, [], ◌∷◌, ◌++◌, length, Some, slice_get, refl, sym, ◌∙◌, ap, subst, arith, if◌then◌else◌}
use Rattle.gos_types.specs.Events.{Direction, Request, Answer}
use Rattle.gos_plan.specs.Firing.{Slot, Req, Ans}
use Rattle.gos_plan.specs.Kinds.{Contact, serves}
use Rattle.gos_plan.specs.Plans.{End, PartEnd, ImportEnd, ResultEnd, Joint, Plan, IsRight, Fits, contact_at, same_end}
use Rattle.gos_plan.specs.Tokens.{Tokens, Fire, Out, Passes, places_of, held_at, with_held, end_of, way_of, token_at, with_token, with_state, fired, Does}
use Rattle.gos_plan.specs.Orderly.{named_by, handshake_at, Open, AllWelcome}
use Rattle.gos_plan.specs.Made.{PartFiring, Made}
use Rattle.gos_plan.proofs.JointLemmas.{IsIn, same_itself, fits, found, stands_there}
use Rattle.gos_plan.proofs.HeldLemmas.{takes_of, nothing_there}
use Rattle.gos_realises.specs.realises.Matched.{asks_on}
use Rattle.gos_realises.specs.quiet.Quiet.{FiresSoon, IsFiredSoon}
use Rattle.gos_realises.specs.quiet.Ranks.{Ranks, Stepped, Steps}
use Rattle.gos_realises.proofs.quiet.StepLemmas.{AtLeast, put_all, Cycles, steps_append}

-- the place from which a token is taken
pub record TakenAt (p : Plan) (e : End) (way : Direction) (v : ℕ) (s : Tokens) : Type 0 where
  pub joint : Joint
  pub is_in : IsIn joint p.joints
  pub place : places_of p e ≡ Some joint.asking
  pub lies : s.in_place way joint.asking ≡ Some v
  pub named : handshake_at p e ≡ joint.asking

pub taken_at : (p : Plan) (e : End) (way : Direction) (v : ℕ) (s : Tokens) → token_at p s e way ≡ Some v → TakenAt p e way v s
taken_at p e way v s lies = by_place (places_of p e) refl
  where
    by_place : (a : Option End) → places_of p e ≡ a → TakenAt p e way v s
    by_place None none = absurd (nothing_there p e way v s lies none)
    by_place (Some n) there =
        let f = found p.joints e n there in
        let place : places_of p e ≡ Some f.joint.asking = there ∙ ap (λ (x : End). Some x) (sym f.named) in
        record {
          joint = f.joint;
          is_in = f.is_in;
          place = place;
          lies = sym (ap (held_at s way) place) ∙ lies;
          named = ap (λ (x : Option End). named_by x e) place;
        }

-- a token taken leaves the ranks of the others
pub take_one : (k : ℕ) (e : End) (f : Ranks) (s : Tokens) (way : Direction) (a : Option End) → AtLeast k e f s → AtLeast k e f (with_held way a None s)
take_one k e f s Request None least = least
take_one k e f s Request (Some a) least = by_test (same_end e a)
  where
    by_test : (b : Bool) → (v : ℕ) → (if b then None else s.in_place Request e) ≡ Some v → k ≤ f e
    by_test true v lies = absurd (cc lies)
    by_test false v lies = least v lies
take_one k e f s Answer None least = least
take_one k e f s Answer (Some a) least = least

-- a step
pub step_from : (p : Plan) (i : ℕ) (slot : Slot) (o m : Open) (f h : Ranks) (s w : Tokens) (k : ℕ) (e : End) (x : Stepped p i slot o f s m h w)
    → (asks_on (x.row.puts x.value) ≡ true → k ≤ suc (f (handshake_at p (end_of i slot))))
    → AtLeast k e f (with_token p (end_of i slot) (way_of slot) None s) → AtLeast k e h w
step_from p i slot o m f h s w k e x high least =
    let is = takes_of (slice_get p.parts i) (s.state i) slot x.row x.fires in
    let before = subst (λ (c : Slot). AtLeast k e f (with_token p (end_of i c) (way_of c) None s)) (sym is) least in
    let after = put_all p i k (suc (f (handshake_at p (end_of i slot)))) (x.row.puts x.value) e f
    (with_state i (x.row.next x.value) (with_token p (end_of i x.row.takes) (way_of x.row.takes) None s)) high before in
    subst (λ (y : Tokens). AtLeast k e h y) (sym x.leads)
    (subst (λ (y : Ranks). AtLeast k e y (fired p i x.row x.value s)) (sym x.ranks) after)

-- requests at joints have rank k at least
abbrev pub Low : Plan → ℕ → Ranks → Tokens → Type 0
Low p k f s = (j : Joint) → IsIn j p.joints → AtLeast k j.asking f s

-- so a request that is put has one rank more
is_high : (p : Plan) (i : ℕ) (slot : Slot) (o m : Open) (f h : Ranks) (s w : Tokens) (k : ℕ) (x : Stepped p i slot o f s m h w) → Low p k f s
    → asks_on (x.row.puts x.value) ≡ true → suc k ≤ suc (f (handshake_at p (end_of i slot)))
is_high p i (Req b) o m f h s w k x low asks =
    let at = taken_at p (PartEnd i b) Request x.value s x.lies in
    let enough = low at.joint at.is_in x.value at.lies in
    let named = ap f at.named in
    omega (arith, enough, named)
is_high p i (Ans b) o m f h s w k x low asks = absurd (x.stays x.value x.row x.lies x.fires asks refl)

step_least : (p : Plan) (i : ℕ) (slot : Slot) (o m : Open) (f h : Ranks) (s w : Tokens) (k n : ℕ) (e : End) → Stepped p i slot o f s m h w → Low p k f s
    → n ≤ suc k → AtLeast n e f s → AtLeast n e h w
step_least p i slot o m f h s w k n e x low few least =
    step_from p i slot o m f h s w n e x (λ asks. let high = is_high p i slot o m f h s w k x low asks in omega (arith, high, few))
    (take_one n e f s (way_of slot) (places_of p (end_of i slot)) least)

step_low : (p : Plan) (i : ℕ) (slot : Slot) (o m : Open) (f h : Ranks) (s w : Tokens) (k : ℕ) → Stepped p i slot o f s m h w → Low p k f s → Low p k h w
step_low p i slot o m f h s w k x low j is_in = step_least p i slot o m f h s w k k j.asking x low (omega arith) (low j is_in)

-- where the request was taken, whatever lies there now has one rank more
step_taken : (p : Plan) (i b : ℕ) (o m : Open) (f h : Ranks) (s w : Tokens) (k : ℕ) (e : End) → Stepped p i (Req b) o f s m h w → Low p k f s
    → places_of p (PartEnd i b) ≡ Some e → AtLeast (suc k) e h w
step_taken p i b o m f h s w k e x low there =
    step_from p i (Req b) o m f h s w (suc k) e x (is_high p i (Req b) o m f h s w k x low)
    (subst (λ (a : Option End). AtLeast (suc k) e f (with_held Request a None s)) (sym there) empty)
  where
    by_test : (t : Bool) → same_end e e ≡ t → (v : ℕ) → (if same_end e e then None else s.in_place Request e) ≡ Some v → suc k ≤ f e
    by_test true is v lies = let none : None ≡ Some v = rw is at lies in absurd (cc none)
    by_test false is v lies = let no_end : true ≡ false = sym (same_itself e) ∙ is in absurd (cc no_end)

    empty : AtLeast (suc k) e f (with_held Request (Some e) None s)
    empty = by_test (same_end e e) refl

-- steps
pub steps_least : (p : Plan) (fs : List PartFiring) (o u : Open) (f g : Ranks) (s t : Tokens) (k n : ℕ) (e : End) → Steps p fs o f s u g t → Low p k f s
    → n ≤ suc k → AtLeast n e f s → AtLeast n e g t
steps_least p [] o u f g s t k n e (a, b, c) low few least =
    subst (λ (y : Tokens). AtLeast n e g y) (sym c) (subst (λ (y : Ranks). AtLeast n e y s) (sym b) least)
steps_least p (x ∷ xs) o u f g s t k n e (m, h, w, one, rest) low few least =
    steps_least p xs m u h g w t k n e rest (step_low p x.part x.takes o m f h s w k one low) few
    (step_least p x.part x.takes o m f h s w k n e one low few least)

-- a firing among these
abbrev pub HasFiring : PartFiring → List PartFiring → Type 0
HasFiring x [] = ⊥
HasFiring x (y ∷ ys) = (x ≡ y) ⊎ HasFiring x ys

steps_taken : (p : Plan) (fs : List PartFiring) (o u : Open) (f g : Ranks) (s t : Tokens) (k i b : ℕ) (e : End) → Steps p fs o f s u g t → Low p k f s
    → HasFiring (record { part = i; takes = Req b }) fs → places_of p (PartEnd i b) ≡ Some e → AtLeast (suc k) e g t
steps_taken p [] o u f g s t k i b e steps low has there = absurd has
steps_taken p (x ∷ xs) o u f g s t k i b e (m, h, w, one, rest) low (inl is) there =
    steps_least p xs m u h g w t k (suc k) e rest (step_low p x.part x.takes o m f h s w k one low) (omega arith)
    (step_taken p i b o m f h s w k e (subst (λ (y : PartFiring). Stepped p y.part y.takes o f s m h w) (sym is) one) low there)
steps_taken p (x ∷ xs) o u f g s t k i b e (m, h, w, one, rest) low (inr later) there =
    steps_taken p xs m u h g w t k i b e rest (step_low p x.part x.takes o m f h s w k one low) later there

-- four cycles
abbrev pub in_four : Made → Made → Made → Made → List PartFiring
in_four a b c d = a.firings ++ (b.firings ++ (c.firings ++ d.firings))

has_front : (x : PartFiring) (xs ys : List PartFiring) → HasFiring x xs → HasFiring x (xs ++ ys)
has_front x [] ys h = absurd h
has_front x (y ∷ xs) ys (inl e) = inl e
has_front x (y ∷ xs) ys (inr h) = inr (has_front x xs ys h)

has_behind : (x : PartFiring) (xs ys : List PartFiring) → HasFiring x ys → HasFiring x (xs ++ ys)
has_behind x [] ys h = h
has_behind x (y ∷ xs) ys h = inr (has_behind x xs ys h)

has_of : (x : PartFiring) (xs : List PartFiring) (n : ℕ) → n < length xs → slice_index_or xs n x ≡ x → HasFiring x xs
has_of x [] n within is = absurd (omega (arith, within))
has_of x (y ∷ xs) zero within is = inl (sym is)
has_of x (y ∷ xs) (suc n) within is = inr (has_of x xs n (omega (arith, within)) is)

pub fired_in_four : (p : Plan) (s : Tokens) (a b c d : Made) (ms : List Made) (i : ℕ) (slot : Slot) (after : Tokens) → FiresSoon p s (a ∷ b ∷ c ∷ d ∷ ms)
    → Does p (Fire i slot) s after → HasFiring (record { part = i; takes = slot }) (in_four a b c d)
fired_in_four p s a b c d ms i slot after soon does = by_cycle (soon 0 (Fire i slot) after (omega arith) does)
  where
    x : PartFiring
    x = record { part = i; takes = slot }

    among : (y m : Made) → Some y ≡ Some m → Contains m.firings x → HasFiring x y.firings
    among y m there (n, within, is) = has_of x y.firings n (subst (λ (z : Made). n < length z.firings) same within)
        (subst (λ (z : Made). slice_index_or z.firings n x ≡ x) same is)
      where
        same : m ≡ y
        same = grind (arith, there)

    by_cycle : IsFiredSoon (a ∷ b ∷ c ∷ d ∷ ms) 0 (Fire i slot) → HasFiring x (in_four a b c d)
    by_cycle (zero, m, from, to, there, made) = has_front x a.firings _ (among a m there made)
    by_cycle (suc zero, m, from, to, there, made) = has_behind x a.firings _ (has_front x b.firings _ (among b m there made))
    by_cycle (suc (suc zero), m, from, to, there, made) =
        has_behind x a.firings _ (has_behind x b.firings _ (has_front x c.firings _ (among c m there made)))
    by_cycle (suc (suc (suc zero)), m, from, to, there, made) =
        has_behind x a.firings _ (has_behind x b.firings _ (has_behind x c.firings _ (among d m there made)))
    by_cycle (suc (suc (suc (suc j))), m, from, to, there, made) = absurd (omega (arith, to))

pub four_steps : (p : Plan) (o : Open) (f : Ranks) (s : Tokens) (a b c d : Made) (ms : List Made) → Cycles p o f s (a ∷ b ∷ c ∷ d ∷ ms)
    → (u : Open) × (g : Ranks) × Steps p (in_four a b c d) o f s u g d.after × Cycles p u g d.after ms
four_steps p o f s a b c d ms (o1, f1, one, (o2, f2, two, (o3, f3, three, (o4, f4, four, rest)))) = (
  o4,
  f4,
  steps_append p a.firings _ o o1 o4 f f1 f4 s a.after d.after one
      (steps_append p b.firings _ o1 o2 o4 f1 f2 f4 a.after b.after d.after two
      (steps_append p c.firings d.firings o2 o3 o4 f2 f3 f4 b.after c.after d.after three four)),
  rest,
)

-- after them all requests have one rank more
pub low_next : (p : Plan) (o u : Open) (f g : Ranks) (s : Tokens) (a b c d : Made) (ms : List Made) (k : ℕ) → IsRight p → AllWelcome p s
    → FiresSoon p s (a ∷ b ∷ c ∷ d ∷ ms) → Steps p (in_four a b c d) o f s u g d.after → Low p k f s → Low p (suc k) g d.after
low_next p o u f g s a b c d ms k right welcome soon steps low j is_in = by_token (s.in_place Request j.asking) refl
  where
    fit : Fits p j
    fit = fits p [] p.joints j right is_in

    place : places_of p j.serving ≡ Some j.asking
    place = stands_there p j j.serving right is_in (by_test (same_end j.serving j.asking))
      where
        by_test : (b : Bool) → (b || same_end j.serving j.serving) ≡ true
        by_test true = refl
        by_test false = same_itself j.serving

    by_end : (v : ℕ) (e : End) → j.serving ≡ e → token_at p s e Request ≡ Some v → contact_at p e ≡ Some (serves fit.0 fit.1)
        → AtLeast (suc k) j.asking g d.after
    by_end v (PartEnd i h) is lies there =
        let row = welcome i (Req h) (serves fit.0 fit.1) v there refl lies in
        let has = fired_in_four p s a b c d ms i (Req h) (fired p i row.0 v s) soon (v, row.0, lies, row.1, refl) in
        steps_taken p (in_four a b c d) o u f g s d.after k i h j.asking steps low has (ap (places_of p) (sym is) ∙ place)
    by_end v (ImportEnd i h) is lies there =
        absurd (soon 0 (Out (ImportEnd i h) v) (with_token p (ImportEnd i h) Request None s) (omega arith)
        (tt, subst (λ (x : Option Contact). Passes p (Out (ImportEnd i h) v) x s (with_token p (ImportEnd i h) Request None s)) (sym there) (lies, refl)))
    by_end v (ResultEnd h) is lies there =
        absurd (soon 0 (Out (ResultEnd h) v) (with_token p (ResultEnd h) Request None s) (omega arith)
        (tt, subst (λ (x : Option Contact). Passes p (Out (ResultEnd h) v) x s (with_token p (ResultEnd h) Request None s)) (sym there) (lies, refl)))

    by_token : (t : Option ℕ) → s.in_place Request j.asking ≡ t → AtLeast (suc k) j.asking g d.after
    by_token None none =
        steps_least p (in_four a b c d) o u f g s d.after k (suc k) j.asking steps low (omega arith)
        (λ v lies. let never : None ≡ Some v = sym none ∙ lies in absurd (cc never))
    by_token (Some v) lies = by_end v j.serving refl (ap (held_at s Request) place ∙ lies) fit.3
