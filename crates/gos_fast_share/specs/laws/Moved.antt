-- What the firings of a Share put in a cycle, and the branch behind them, by the handshakes that they take tokens at.
--
-- Read first: Turns.
use Rattle.std.proofs.Common.{◌≡◌, inl, inr, ℕ, zero, suc, ◌+◌, ◌*◌, ◌≤◌, ◌<◌, Bool, true, false, List, [], ◌∷◌, refl, sym, ◌∙◌, ap, arith, nat_eq, if◌then◌else◌}
use Rattle.std.specs.Prelude.{map}
use Rattle.gos_types.specs.Types.{Type'}
use Rattle.gos_plan.specs.Kinds.{Share, Contact, contacts_of}
use Rattle.gos_plan.specs.Firing.{Rest, State, Slot, Token, at, put}
use Rattle.gos_plan.specs.Tokens.{shake_of}
use Rattle.gos_plan.specs.Firings.{Asked, Fires}
use Rattle.gos_macro.specs.laws.Passing.{repeated}
use Rattle.gos_share.specs.laws.Rows.{count_of}
use Rattle.gos_share.specs.laws.Answers.{Puts}
use Rattle.gos_fast_share.specs.Thread.{Asker, Nobody, Caller0, Caller1, asker, set_by}
use Rattle.gos_fast_share.specs.laws.Turns.{side, Goes, Turn, turn}

-- how often a handshake stands in a list
abbrev pub often : ℕ → List ℕ → ℕ
often d [] = 0
often d (e ∷ es) = if nat_eq e d then suc (often d es) else often d es

-- the branch n behind these requests and answers
abbrev pub set_all : List Contact → ℕ → List ℕ → ℕ
set_all ks n [] = n
set_all ks n (e ∷ es) = set_all ks (set_by (asker ks e) n) es

-- how often handshake j of the source comes where the branch is c
abbrev pub told : List Contact → ℕ → ℕ → ℕ → List ℕ → ℕ
told ks c j n [] = 0
told ks c j n (e ∷ es) =
    if nat_eq e j then (if nat_eq n c then suc (told ks c j (set_by (asker ks e) n) es) else told ks c j (set_by (asker ks e) n) es)
    else told ks c j (set_by (asker ks e) n) es

pub one_of_two : (ks : List Contact) (e n : ℕ) → n ≤ 1 → set_by (asker ks e) n ≤ 1
one_of_two ks e n small = by_asker (asker ks e)
  where
    by_asker : (a : Asker) → set_by a n ≤ 1
    by_asker Nobody = small
    by_asker Caller0 = omega arith
    by_asker Caller1 = omega arith

-- two sides have no handshake in common
pub same_side : (h n c m j : ℕ) → n ≤ 1 → c ≤ 1 → m < h → j < h → side h n + m ≡ side h c + j → (n ≡ c) × (m ≡ j)
same_side h zero zero m j small near low under same = (refl, omega (arith, same))
same_side h zero (suc zero) m j small near low under same = absurd (omega (arith, same, low))
same_side h (suc zero) zero m j small near low under same = absurd (omega (arith, same, under))
same_side h (suc zero) (suc zero) m j small near low under same = (refl, omega (arith, same))
same_side h (suc (suc n)) c m j small near low under same = absurd (omega (arith, small))
same_side h n (suc (suc c)) m j small near low under same = absurd (omega (arith, near))

pub behind_source : (h c m : ℕ) → h ≤ side h c + m
behind_source h c m = let more : side h c ≡ h + c * h = refl in omega (arith, more)

-- a test that is settled
pub yes : (a b : ℕ) → a ≡ b → nat_eq a b ≡ true
yes a b is = grind (arith, is)

pub no : (a b : ℕ) → (a ≡ b → ⊥) → nat_eq a b ≡ false
no a b isn't = by_test (nat_eq a b) refl
  where
    by_test : (t : Bool) → nat_eq a b ≡ t → nat_eq a b ≡ false
    by_test true is = absurd (let here : a ≡ b = grind (arith, is) in isn't here)
    by_test false is = is

-- one token more, there or elsewhere
put_here : (d m a v : ℕ) (s : Slot) (ts : List Token) → shake_of s ≡ d → Puts d m a ts → Puts d (suc m) (v + a) (put s v ∷ ts)
put_here d m a v s ts here puts = rw (yes (shake_of s) d here) (ap suc puts.0, ap (λ (n : ℕ). v + n) puts.1)

put_elsewhere : (d m a v : ℕ) (s : Slot) (ts : List Token) → (shake_of s ≡ d → ⊥) → Puts d m a ts → Puts d m a (put s v ∷ ts)
put_elsewhere d m a v s ts apart puts = rw (no (shake_of s) d apart) puts

-- what firings at these handshakes put, where the branch is n
pub record Moved (ks : List Contact) (h n : ℕ) (x : ℕ → ℕ) (es : List ℕ) (r : State) (ts : List Token) : Type 0 where
  pub state : r ≡ at Rest (set_all ks n es)
  pub source :
      (j : ℕ) → j < h
      → Puts j (often (side h 0 + j) es + often (side h 1 + j) es)
      (repeated (often (side h 0 + j) es) (x (side h 0 + j)) + repeated (often (side h 1 + j) es) (x (side h 1 + j))) ts
  pub caller : (c j : ℕ) → c ≤ 1 → j < h → Puts (side h c + j) (told ks c j n es) (repeated (told ks c j n es) (x j)) ts

-- what a token at e does at the source's side, and at that of a caller
abbrev AtSource : ℕ → ℕ → (ℕ → ℕ) → List ℕ → List Token → Type 0
AtSource h j x es ts =
    Puts j (often (side h 0 + j) es + often (side h 1 + j) es)
    (repeated (often (side h 0 + j) es) (x (side h 0 + j)) + repeated (often (side h 1 + j) es) (x (side h 1 + j))) ts

source_step : (h n j e : ℕ) (x : ℕ → ℕ) (to : Slot) (es : List ℕ) (ts : List Token) → n ≤ 1 → j < h → Goes h n e (shake_of to) → AtSource h j x es ts
    → AtSource h j x (e ∷ es) (put to (x e) ∷ ts)
source_step h n j e x to es ts small low (inl (m, under, is, goes)) puts =
    let behind = behind_source h n m in
    rw (no e (side h 0 + j) (λ same. omega (arith, same, is, under)), no e (side h 1 + j) (λ same. omega (arith, same, is, under)))
    (put_elsewhere j _ _ (x e) to ts (λ same. omega (arith, same, goes, behind, low)) puts)
source_step h n j e x to es ts small low (inr (c, m, near, under, is, goes)) puts = by_test (nat_eq m j) refl
  where
    first : ℕ
    first = side h 0 + j

    second : ℕ
    second = side h 1 + j

    firsts : ℕ
    firsts = repeated (often first es) (x first)

    seconds : ℕ
    seconds = repeated (often second es) (x second)

    here : m ≡ j → AtSource h j x (e ∷ es) (put to (x e) ∷ ts)
    here same = by_side c near is
      where
        lies : shake_of to ≡ j
        lies = omega (arith, goes, same)

        by_side : (d : ℕ) → d ≤ 1 → e ≡ side h d + m → AtSource h j x (e ∷ es) (put to (x e) ∷ ts)
        by_side zero near_too there =
            let at_first : e ≡ first = omega (arith, there, same) in
            let more = put_here j _ _ (x e) to ts lies puts in
            let value : x e ≡ x first = ap x at_first in
            let count : suc (often first es + often second es) ≡ suc (often first es) + often second es = omega arith in
            let sum : x e + (firsts + seconds) ≡ x first + firsts + seconds = omega (arith, value) in
            rw (yes e first at_first, no e second (λ f. omega (arith, f, at_first, low)))
            (more.0 ∙ count, more.1 ∙ sum)
        by_side (suc zero) near_too there =
            let at_second : e ≡ second = omega (arith, there, same) in
            let more = put_here j _ _ (x e) to ts lies puts in
            let value : x e ≡ x second = ap x at_second in
            let count : suc (often first es + often second es) ≡ often first es + suc (often second es) = omega arith in
            let sum : x e + (firsts + seconds) ≡ firsts + (x second + seconds) = omega (arith, value) in
            rw (no e first (λ f. omega (arith, f, at_second, low)), yes e second at_second)
            (more.0 ∙ count, more.1 ∙ sum)
        by_side (suc (suc d)) near_too there = absurd (omega (arith, near_too))

    elsewhere : (m ≡ j → ⊥) → AtSource h j x (e ∷ es) (put to (x e) ∷ ts)
    elsewhere apart =
        rw (no e first (λ f. apart (same_side h c 0 m j near (omega arith) under low (sym is ∙ f)).1), no e second (λ f. apart (same_side h c 1 m j near (omega arith) under low (sym is ∙ f)).1))
        (put_elsewhere j _ _ (x e) to ts (λ f. apart (sym goes ∙ f)) puts)

    by_test : (b : Bool) → nat_eq m j ≡ b → AtSource h j x (e ∷ es) (put to (x e) ∷ ts)
    by_test true same = here (grind (arith, same))
    by_test false same = elsewhere (λ f. grind (arith, same, f))

abbrev AtCaller : List Contact → ℕ → ℕ → ℕ → ℕ → (ℕ → ℕ) → List ℕ → List Token → Type 0
AtCaller ks h c j n x es ts = Puts (side h c + j) (told ks c j n es) (repeated (told ks c j n es) (x j)) ts

caller_step : (ks : List Contact) (h n c j e : ℕ) (x : ℕ → ℕ) (to : Slot) (es : List ℕ) (ts : List Token) → n ≤ 1 → c ≤ 1 → j < h → Goes h n e (shake_of to)
    → AtCaller ks h c j (set_by (asker ks e) n) x es ts → AtCaller ks h c j n x (e ∷ es) (put to (x e) ∷ ts)
caller_step ks h n c j e x to es ts small near low (inr (d, m, other, under, is, goes)) puts =
    let behind = behind_source h c j in
    let far = behind_source h d m in
    rw (no e j (λ f. omega (arith, f, is, far, low))) (put_elsewhere (side h c + j) _ _ (x e) to ts (λ f. omega (arith, f, goes, under, behind)) puts)
caller_step ks h n c j e x to es ts small near low (inl (m, under, is, goes)) puts = by_tests (nat_eq e j) refl (nat_eq n c) refl
  where
    next : ℕ
    next = set_by (asker ks e) n

    by_tests : (a : Bool) → nat_eq e j ≡ a → (b : Bool) → nat_eq n c ≡ b → AtCaller ks h c j n x (e ∷ es) (put to (x e) ∷ ts)
    by_tests true same true one =
        let here : e ≡ j = grind (arith, same) in
        let branch : n ≡ c = grind (arith, one) in
        let there : shake_of to ≡ side h c + j = goes ∙ (λ i. side h (branch i) + (sym is ∙ here) i) in
        let more = put_here (side h c + j) _ _ (x e) to ts there puts in
        rw (same, one) (more.0, more.1 ∙ ap (λ (v : ℕ). v + repeated (told ks c j next es) (x j)) (ap x here))
    by_tests true same false one =
        rw (same, one) (put_elsewhere (side h c + j) _ _ (x e) to ts (λ f. let is_side = same_side h n c m j small near under low (sym goes ∙ f) in grind (arith, one, is_side.0)) puts)
    by_tests false same b one =
        rw same (put_elsewhere (side h c + j) _ _ (x e) to ts (λ f. let is_side = same_side h n c m j small near under low (sym goes ∙ f) in grind (arith, same, is, is_side.1)) puts)

pub moved : (t : Type') (x : ℕ → ℕ) (o : Asked) (n : ℕ) (fs : List Slot) (p : Asked) (r : State) (ts : List Token) → n ≤ 1
    → Fires (Share t) x o (at Rest n) fs p r ts → Moved (contacts_of t) (count_of t) n x (map shake_of fs) r ts
moved t x o n [] p r ts small (e, same, nothing) =
    rw (same, nothing) record { state = refl; source = λ j low. (refl, refl); caller = λ c j near low. (refl, refl) }
moved t x o n (s ∷ ss) p r ts small fires =
    let step : Turn t x n s ss p r ts = turn t x o n s ss p r ts small fires in
    let known = moved t x step.then_asked (set_by (asker (contacts_of t) (shake_of s)) n) ss p r step.rest (one_of_two (contacts_of t) (shake_of s) n small) step.go in
    rw step.puts
    record {
      state = known.state;
      source = λ j low. source_step (count_of t) n j (shake_of s) x step.to (map shake_of ss) step.rest small low step.goes (known.source j low);
      caller = λ c j near low. caller_step (contacts_of t) (count_of t) n c j (shake_of s) x step.to (map shake_of ss) step.rest small near low step.goes (known.caller c j near low);
    }
