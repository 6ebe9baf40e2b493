-- What comes in at a list of handshakes: requests where it serves, which are late, and answers where it asks.
--
-- Read first: Gates and Law; Share.
use Rattle.std.proofs.Common.{◌≡◌, ℕ, zero, suc, ◌+◌, ◌≤◌, Bool, true, false, List, [], ◌∷◌, ◌++◌, Some, refl, ◌∙◌, ap, subst, arith}
use Rattle.std.specs.Prelude.{◌<◌, not, length, slice_get, nat_eq, if◌then◌else◌}
use Rattle.gos_types.specs.declared.shakes.Role.{Role}
use Rattle.gos_types.specs.declared.shakes.Role.TheVariants.{Serve, Ask}
use Rattle.gos_plan.specs.Kinds.{Contact}
use Rattle.gos_plan.specs.Firing.{Slot, Req, Ans}
use Rattle.gos_plan.specs.Tokens.{shake_of}
use Rattle.gos_macro.specs.Gates.{bits_in, incoming_bits, slot_in, slots_of, is_among}
use Rattle.gos_macro.specs.Law.{pulse_at, pulsed}
use Rattle.gos_share.specs.Share.{served_at, served_from}
use Rattle.gos_share.specs.laws.Answers.{no_test}

-- the requests that come in at handshakes, from number h on
abbrev pub request_at : Role → ℕ → List Slot
request_at Serve h = Req h ∷ []
request_at Ask h = []

abbrev pub requests : ℕ → List Contact → List Slot
requests h [] = []
requests h (k ∷ ks) = request_at k.role h ++ requests (suc h) ks

-- the answers
abbrev pub answer_at : Role → ℕ → List Slot
answer_at Serve h = []
answer_at Ask h = Ans h ∷ []

abbrev pub answers_from : ℕ → List Contact → List Slot
answers_from h [] = []
answers_from h (k ∷ ks) = answer_at k.role h ++ answers_from (suc h) ks

abbrev pub is_served : Role → Bool
is_served Serve = true
is_served Ask = false

-- a test tells the handshakes that are served, from number h on
abbrev pub Tells : (ℕ → Bool) → ℕ → List Contact → Type 0
Tells f h [] = Unit {0}
Tells f h (k ∷ ks) = (f h ≡ is_served k.role) × Tells f (suc h) ks

-- a number below is not among them
below_none : (h e : ℕ) (ks : List Contact) → e < h → is_among (served_from h ks) e ≡ false
below_none h e [] low = refl
below_none h e (k ∷ ks) low = by_role k.role (below_none (suc h) e ks (omega (arith, low)))
  where
    by_role : (r : Role) → is_among (served_from (suc h) ks) e ≡ false → is_among (served_at r h ++ served_from (suc h) ks) e ≡ false
    by_role Serve ih = rw (no_test e h (λ f. omega (arith, f, low))) ih
    by_role Ask ih = ih

-- a test that tells the same from h on
tells_same : (f g : ℕ → Bool) (h : ℕ) (ks : List Contact) → ((e : ℕ) → h ≤ e → g e ≡ f e) → Tells f h ks → Tells g h ks
tells_same f g h [] same tells = tt
tells_same f g h (k ∷ ks) same tells =
    (same h (omega arith) ∙ tells.0, tells_same f g (suc h) ks (λ e high. same e (omega (arith, high))) tells.1)

pub served_tells : (h : ℕ) (ks : List Contact) → Tells (is_among (served_from h ks)) h ks
served_tells h [] = tt
served_tells h (k ∷ ks) = by_role k.role (served_tells (suc h) ks)
  where
    by_role : (r : Role) → Tells (is_among (served_from (suc h) ks)) (suc h) ks
        → (is_among (served_at r h ++ served_from (suc h) ks) h ≡ is_served r) × Tells (is_among (served_at r h ++ served_from (suc h) ks)) (suc h) ks
    by_role Serve ih = (
      grind arith,
      tells_same (is_among (served_from (suc h) ks)) (is_among (served_at Serve h ++ served_from (suc h) ks)) (suc h) ks (λ e high. rw (no_test e h (λ f. omega (arith, f, high))) refl) ih,
    )
    by_role Ask ih = (below_none (suc h) h ks (omega arith), ih)

-- what comes in late, and what doesn't
pub told_requests : (f : ℕ → Bool) (h : ℕ) (ks : List Contact) → Tells f h ks → slots_of f h ks ≡ requests h ks
told_requests f h [] tells = refl
told_requests f h (k ∷ ks) tells = by_role k.role tells.0 (told_requests f (suc h) ks tells.1)
  where
    by_role : (r : Role) → f h ≡ is_served r → slots_of f (suc h) ks ≡ requests (suc h) ks
        → (if f h then slot_in r h ∷ slots_of f (suc h) ks else slots_of f (suc h) ks) ≡ request_at r h ++ requests (suc h) ks
    by_role Serve is ih = rw is (ap (λ (ss : List Slot). Req h ∷ ss) ih)
    by_role Ask is ih = rw is ih

pub told_answers : (f : ℕ → Bool) (h : ℕ) (ks : List Contact) → Tells f h ks → slots_of (λ e. not (f e)) h ks ≡ answers_from h ks
told_answers f h [] tells = refl
told_answers f h (k ∷ ks) tells = by_role k.role tells.0 (told_answers f (suc h) ks tells.1)
  where
    by_role : (r : Role) → f h ≡ is_served r → slots_of (λ e. not (f e)) (suc h) ks ≡ answers_from (suc h) ks
        → (if not (f h) then slot_in r h ∷ slots_of (λ e. not (f e)) (suc h) ks else slots_of (λ e. not (f e)) (suc h) ks) ≡ answer_at r h ++ answers_from (suc h) ks
    by_role Serve is ih = rw is ih
    by_role Ask is ih = rw is (ap (λ (ss : List Slot). Ans h ∷ ss) ih)

-- no request is among the answers
pub no_request_early : (p : ℕ → ℕ) (e h : ℕ) (ks : List Contact) → pulse_at p (Req e) (answers_from h ks) ≡ 0
no_request_early p e h [] = refl
no_request_early p e h (k ∷ ks) = by_role k.role (no_request_early p e (suc h) ks)
  where
    by_role : (r : Role) → pulse_at p (Req e) (answers_from (suc h) ks) ≡ 0 → pulse_at p (Req e) (answer_at r h ++ answers_from (suc h) ks) ≡ 0
    by_role Serve ih = ih
    by_role Ask ih = ih

-- the pulse of an answer, where the handshake is asked
abbrev pub pulse_if_asked : Role → ℕ → ℕ
pulse_if_asked Serve m = 0
pulse_if_asked Ask m = m

below_no_answer : (p : ℕ → ℕ) (e h : ℕ) (ks : List Contact) → e < h → pulse_at p (Ans e) (answers_from h ks) ≡ 0
below_no_answer p e h [] low = refl
below_no_answer p e h (k ∷ ks) low = by_role k.role (below_no_answer p e (suc h) ks (omega (arith, low)))
  where
    by_role : (r : Role) → pulse_at p (Ans e) (answers_from (suc h) ks) ≡ 0 → pulse_at p (Ans e) (answer_at r h ++ answers_from (suc h) ks) ≡ 0
    by_role Serve ih = ih
    by_role Ask ih = rw (no_test h e (λ f. omega (arith, f, low))) ih

pub answer_pulse : (p : ℕ → ℕ) (e h m : ℕ) (ks : List Contact) (k : Contact) → e ≡ h + m → slice_get ks m ≡ Some k
    → pulse_at p (Ans e) (answers_from h ks) ≡ pulse_if_asked k.role (p e)
answer_pulse p e h m [] k is at = absurd (cc at)
answer_pulse p e h zero (l ∷ ks) k is at = subst (λ (c : Contact). pulse_at p (Ans e) (answer_at l.role h ++ answers_from (suc h) ks) ≡ pulse_if_asked c.role (p e)) same (subst (λ (a : ℕ). pulse_at p (Ans e) (answer_at l.role a ++ answers_from (suc h) ks) ≡ pulse_if_asked l.role (p e)) here (by_role l.role))
  where
    here : e ≡ h
    here = omega (arith, is)

    same : l ≡ k
    same = cc at

    by_role : (r : Role) → pulse_at p (Ans e) (answer_at r e ++ answers_from (suc h) ks) ≡ pulse_if_asked r (p e)
    by_role Serve = below_no_answer p e (suc h) ks (omega (arith, is))
    by_role Ask = rw (same_number e) refl
      where
        same_number : (a : ℕ) → nat_eq a a ≡ true
        same_number a = grind arith
answer_pulse p e h (suc m) (l ∷ ks) k is at = by_role l.role (answer_pulse p e (suc h) m ks k (omega (arith, is)) at)
  where
    by_role : (r : Role) → pulse_at p (Ans e) (answers_from (suc h) ks) ≡ pulse_if_asked k.role (p e)
        → pulse_at p (Ans e) (answer_at r h ++ answers_from (suc h) ks) ≡ pulse_if_asked k.role (p e)
    by_role Serve ih = ih
    by_role Ask ih = rw (no_test h e (λ f. omega (arith, f, is))) ih

-- the bits of what comes in
pub bits_there : (m : ℕ) (ks : List Contact) (k : Contact) → slice_get ks m ≡ Some k → incoming_bits ks m ≡ bits_in k.role k
bits_there m [] k at = absurd (cc at)
bits_there zero (l ∷ ks) k at = let same : l ≡ k = cc at in λ i. bits_in (same i).role (same i)
bits_there (suc m) (l ∷ ks) k at = bits_there m ks k at

-- lists one behind the other
pub requests_append : (h : ℕ) (ks ls : List Contact) → requests h (ks ++ ls) ≡ requests h ks ++ requests (h + length ks) ls
requests_append h [] ls = let here : h ≡ h + 0 = omega arith in ap (λ (e : ℕ). requests e ls) here
requests_append h (k ∷ ks) ls = by_role k.role (let here : suc h + length ks ≡ h + suc (length ks) = omega arith in requests_append (suc h) ks ls ∙ ap (λ (e : ℕ). requests (suc h) ks ++ requests e ls) here)
  where
    by_role : (r : Role) → requests (suc h) (ks ++ ls) ≡ requests (suc h) ks ++ requests (h + suc (length ks)) ls
        → request_at r h ++ requests (suc h) (ks ++ ls) ≡ (request_at r h ++ requests (suc h) ks) ++ requests (h + suc (length ks)) ls
    by_role Serve ih = ap (λ (ss : List Slot). Req h ∷ ss) ih
    by_role Ask ih = ih

pub pulsed_append : (p : ℕ → ℕ) (ss ts : List Slot) → pulsed p (ss ++ ts) ≡ pulsed p ss ++ pulsed p ts
pulsed_append p [] ts = refl
pulsed_append p (s ∷ ss) ts = by_test (nat_eq (p (shake_of s)) 1) (pulsed_append p ss ts)
  where
    by_test : (b : Bool) → pulsed p (ss ++ ts) ≡ pulsed p ss ++ pulsed p ts
        → (if b then s ∷ pulsed p (ss ++ ts) else pulsed p (ss ++ ts)) ≡ (if b then s ∷ pulsed p ss else pulsed p ss) ++ pulsed p ts
    by_test true ih = ap (λ (us : List Slot). s ∷ us) ih
    by_test false ih = ih
