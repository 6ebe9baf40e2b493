-- What `skip` shows, and how many steps and nodes it takes.
use Rattle.std.proofs.Common.{◌≡◌, ◌<◌, ℕ, zero, suc, List, [], ◌∷◌, length, refl, sym, ap, subst, arith, inl, inr, ◌∙◌}
use Rattle.gos_model.specs.Terms.{Term, Skip, Lit}
use Rattle.gos_model.specs.Labels.{Label, given}
use Rattle.gos_model.specs.Stores.{Store}
use Rattle.gos_model.specs.Moves.{Config, Idle, Running, Act, Computing, Showing, Unfoldings, ActsTo, Move, Moves, Trace, labels}
use Rattle.gos_witness.specs.Sizes.{size}
use Rattle.gos_witness.specs.Lines.{limit}
use Rattle.gos_witness.specs.SmallLines.{skips, run_and_done}
use Rattle.gos_witness.specs.Find.{steps_of, UnfoldsToSize}
use Rattle.gos_witness.specs.SmallFinds.{DoneIsNotFirst, RunIsNotSecond, FirstIsRight, SkipIsNotRefused, SkipTakesNoSteps, SkipIsNotSpent, SkipIsNotLarge}
use Rattle.gos_witness.proofs.FindLemmas.{beginning}

-- nothing, or `skip`
abbrev IsSkip : Config → Type 0
IsSkip Idle = Unit {0}
IsSkip (Running m s) = m ≡ Skip

stays : (n : ℕ) (u : Term) → Unfoldings n Skip u → u ≡ Skip
stays zero u h = sym h
stays (suc n) u (v, inl (inl (inl h)), rest) = absurd h
stays (suc n) u (v, inl (inl (inr h)), rest) = absurd h
stays (suc n) u (v, inl (inr h), rest) = absurd h
stays (suc n) u (v, inr h, rest) = absurd h

-- what a move of `skip` is: the answer
abbrev IsAnswer : Act → Config → Type 0
IsAnswer Computing c = ⊥
IsAnswer (Showing o) Idle = o ≡ given 1 0
IsAnswer (Showing o) (Running m s) = ⊥

abbrev skip_or_number : Term → ℕ
skip_or_number (Lit k w) = 1
skip_or_number m = 0

acts : (a : Act) (s : Store) (c : Config) → ActsTo skips.imports a s Skip c → IsAnswer a c
acts Computing s Idle h = h
acts Computing s (Running m r) (inl h) = h
acts Computing s (Running m r) (inr h) = h
acts (Showing o) s Idle (inl (e, is)) = is
acts (Showing o) s Idle (inr (k, w, e, is)) = let n = ap skip_or_number e in absurd (omega (arith, n))
acts (Showing o) s (Running m r) (inl (inl h), e) = absurd h
acts (Showing o) s (Running m r) (inl (inr h), e) = absurd h
acts (Showing o) s (Running m r) (inr h, e) = absurd h

moved : (a : Act) (m : Term) (s : Store) (c : Config) → m ≡ Skip → Move skips a (Running m s) c → IsAnswer a c
moved a m s c is (n, u, us, does) =
    let same = stays n u (subst (λ (x : Term). Unfoldings n x u) is us) in
    acts a s c (subst (λ (x : Term). ActsTo skips.imports a s x c) same does)

-- what a move from Idle is: the request
abbrev IsRequest : Act → Type 0
IsRequest Computing = ⊥
IsRequest (Showing o) = o ≡ given 0 0

requested : (a : Act) → a ≡ Showing (given 0 0) → IsRequest a
requested a e = subst IsRequest (sym e) refl

-- it stays `skip`, and makes no step
lead : (xs : List Act) (c d : Config) → IsSkip c → Moves skips xs c d → IsSkip d × (steps_of xs ≡ 0)
lead [] c d is h = (subst IsSkip h is, refl)
lead (Computing ∷ xs) Idle d is (b, (a, e), rest) = absurd (requested Computing a)
lead (Showing o ∷ xs) Idle d is (b, (a, e), rest) = lead xs b d (subst IsSkip (sym e) refl) rest
lead (Computing ∷ xs) (Running m s) d is (b, move, rest) = absurd (moved Computing m s b is move)
lead (Showing o ∷ xs) (Running m s) d is (Idle, move, rest) = lead xs Idle d tt rest
lead (Showing o ∷ xs) (Running m s) d is (Running t r, move, rest) = absurd (moved (Showing o) m s (Running t r) is move)

-- the first label is the request, and the next one the answer
abbrev event_of_first : List Label → ℕ
event_of_first [] = 7
event_of_first (o ∷ ls) = o.event

first : (xs : List Act) (d : Config) (ls : List Label) → Moves skips xs Idle d → labels xs ≡ given 1 0 ∷ ls → ⊥
first [] d ls h e = let n = ap event_of_first e in omega (arith, n)
first (Computing ∷ xs) d ls (b, (a, same), rest) e = requested Computing a
first (Showing o ∷ xs) d ls (b, (a, same), rest) e =
    let n = ap event_of_first e in
    let k = ap (λ (x : Label). x.event) (requested (Showing o) a) in
    omega (arith, n, k)

next : (xs : List Act) (m : Term) (s : Store) (d : Config) (ls : List Label) → m ≡ Skip → Moves skips xs (Running m s) d → labels xs ≡ given 0 0 ∷ ls → ⊥
next [] m s d ls is h e = let n = ap event_of_first e in omega (arith, n)
next (Computing ∷ xs) m s d ls is (b, move, rest) e = moved Computing m s b is move
next (Showing o ∷ xs) m s d ls is (Running t r, move, rest) e = moved (Showing o) m s (Running t r) is move
next (Showing o ∷ xs) m s d ls is (Idle, move, rest) e =
    let n = ap event_of_first e in
    let k = ap (λ (x : Label). x.event) (moved (Showing o) m s Idle is move) in
    omega (arith, n, k)

abbrev rest_of : List Label → List Label
rest_of [] = []
rest_of (o ∷ ls) = ls

second : (xs : List Act) (d : Config) (ls : List Label) → Moves skips xs Idle d → labels xs ≡ given 0 0 ∷ given 0 0 ∷ ls → ⊥
second [] d ls h e = let n = ap length e in omega (arith, n)
second (Computing ∷ xs) d ls (b, (a, same), rest) e = requested Computing a
second (Showing o ∷ xs) d ls (b, (a, same), rest) e =
    next xs Skip [] d ls refl (subst (λ (x : Config). Moves skips xs x d) same rest) (ap rest_of e)

-- the trace, and its beginnings
both : Moves skips (Showing (given 0 0) ∷ Showing (given 1 0) ∷ []) Idle Idle
both = (Running Skip [], (refl, refl), (Idle, (0, Skip, refl, inl (refl, refl)), refl))

whole : Trace skips run_and_done
whole = (Showing (given 0 0) ∷ Showing (given 1 0) ∷ [], Idle, both, refl)

pub done_is_not_first : DoneIsNotFirst
done_is_not_first = record {
  there = omega arith;
  before = ([], Idle, refl, refl);
  none = λ (xs, c, moves, are). first xs c [] moves are;
}

pub run_is_not_second : RunIsNotSecond
run_is_not_second = record {
  there = omega arith;
  before = beginning skips run_and_done 1 whole;
  none = λ (xs, c, moves, are). second xs c [] moves are;
}

pub first_is_right : FirstIsRight
first_is_right h = h.none (beginning skips run_and_done 1 whole)

pub skip_is_not_refused : SkipIsNotRefused
skip_is_not_refused k h = h.none (beginning skips run_and_done (suc k) whole)

pub skip_takes_no_steps : SkipTakesNoSteps
skip_takes_no_steps = (
  (Showing (given 0 0) ∷ Showing (given 1 0) ∷ [], Idle, both, refl, refl),
  λ (xs, c, moves, are, count). let none = (lead xs Idle c tt moves).1 in omega (arith, none, count),
)

pub skip_is_not_spent : SkipIsNotSpent
skip_is_not_spent k h =
    let (n, most, (xs, c, moves, are, count)) = h.before in
    let none = (lead xs Idle c tt moves).1 in
    omega (arith, most, none, count)

sized : (c : Config) (n : ℕ) → IsSkip c → UnfoldsToSize c n → n ≡ 1
sized Idle n is h = absurd h
sized (Running m s) n is (k, t, us, e) =
    let same = stays k t (subst (λ (x : Term). Unfoldings k x t) is us) in e ∙ ap size same

pub skip_is_not_large : SkipIsNotLarge
skip_is_not_large n h =
    let one = sized h.config n (lead h.acts Idle h.config tt h.moves).0 h.size in
    let large : limit < n = h.large in
    omega (arith, one, large)
