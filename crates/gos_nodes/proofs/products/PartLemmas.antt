-- The handshakes of a type are a part of it, and those of each side are one of a product's.
use Rattle.std.specs.Prelude.{◌+◌, ◌-◌, ◌<◌, ◌&&◌, zero, suc, length, slice_get, nat_lt}
use Rattle.std.proofs.Common.{◌≡◌, ℕ, Bool, true, false, List, [], ◌∷◌, ◌++◌, refl, sym, ◌∙◌, ap, arith, zero-add}
use Rattle.std.proofs.lemmas.Bool.Decides.{nat_tests}
use Rattle.std.proofs.lemmas.Bool.{and_right, and_left}
use Rattle.gos_types.specs.Types.{Type', Pair}
use Rattle.gos_plan.specs.Kinds.{Contact, contacts_of}
use Rattle.gos_plan.proofs.AskingLemmas.{behind}
use Rattle.gos_plan.proofs.SideLemmas.{pairs_join}
use Rattle.gos_realises.specs.realises.Regular.{count, some_open, beyond, KeepsTurnsOf}
use Rattle.gos_realises.proofs.realises.GroundTurnLemmas.{there_some}
use Rattle.gos_joining.proofs.renumbered.TurnLemmas.{turns_agree}
use Rattle.gos_realises.proofs.realises.CountLemmas.{count_pair}
use Rattle.gos_supplies.proofs.turns.SideLemmas.{none_open}
use Rattle.gos_nodes.proofs.windows.TypeTurnLemmas.{closed_kept}
use Rattle.gos_nodes.proofs.products.PlaceLemmas.{IsPartOf}

before : (xs ys : List Contact) (h : ℕ) → h < length xs → slice_get (xs ++ ys) h ≡ slice_get xs h
before [] ys h low = absurd (omega (arith, low))
before (x ∷ xs) ys zero low = refl
before (x ∷ xs) ys (suc h) low = before xs ys h (omega (arith, low))

shut_of : (n : ℕ) (f : ℕ → Bool) → some_open n f ≡ false → (h : ℕ) → h < n → f h ≡ false
shut_of n f none h low = by_test (f h) refl
  where
    by_test : (b : Bool) → f h ≡ b → b ≡ false
    by_test false t = refl
    by_test true t = sym (there_some n f h low t) ∙ none

first_shut : (x y : Bool) → (x && y) ≡ false → y ≡ true → x ≡ false
first_shut true y both up = sym up ∙ both
first_shut false y both up = refl

second_shut : (x y : Bool) → (x && y) ≡ false → x ≡ true → y ≡ false
second_shut true y both up = both
second_shut false y both up = absurd (cc up)

pub all_of : (t : Type') → IsPartOf t 0 t
all_of t =
    record {
      fits = λ h low. omega (arith, low);
      contacts = λ h low. ap (slice_get (contacts_of t)) (zero-add h);
      kept = λ f keeps. turns_agree t f (beyond 0 f) (λ h low. ap f (sym (zero-add h))) keeps;
      back = λ f keeps closed. turns_agree t (beyond 0 f) f (λ h low. ap f (zero-add h)) keeps;
      alone = λ f m keeps small apart up h low. absurd (apart m small (zero-add m));
    }

pub first_of : (a b : Type') → IsPartOf a 0 (Pair a b)
first_of a b =
    record {
      fits = λ h low. (let sum = count_pair a b in omega (arith, low, sum));
      contacts = λ h low.
          ap (slice_get (contacts_of (Pair a b))) (zero-add h)
          ∙ (ap (λ (cs : List Contact). slice_get cs h) (pairs_join a b).joined ∙ before (contacts_of a) (contacts_of b) h low);
      kept = λ f keeps. turns_agree a f (beyond 0 f) (λ h low. ap f (sym (zero-add h))) keeps.0;
      back = back;
      alone = alone;
    }
  where
    back : (f : ℕ → Bool) → KeepsTurnsOf a (beyond 0 f) → ((m : ℕ) → m < count (Pair a b) → ((h : ℕ) → h < count a → 0 + h ≡ m → ⊥) → f m ≡ false)
        → KeepsTurnsOf (Pair a b) f
    back f keeps closed = (
      turns_agree a (beyond 0 f) f (λ h low. ap f (zero-add h)) keeps,
      closed_kept b (beyond (count a) f) shut,
      and_right (some_open (count a) f) (some_open (count b) (beyond (count a) f)) (none_open (count b) (beyond (count a) f) shut),
    )
      where
        shut : (h : ℕ) → h < count b → f (count a + h) ≡ false
        shut h low =
            let sum = count_pair a b in
            closed (count a + h) (omega (arith, low, sum)) (λ k small same. let clash : ⊥ = omega (arith, small, same) in clash)

    alone : (f : ℕ → Bool) (m : ℕ) → KeepsTurnsOf (Pair a b) f → m < count (Pair a b) → ((h : ℕ) → h < count a → 0 + h ≡ m → ⊥) → f m ≡ true
        → (h : ℕ) → h < count a → f (0 + h) ≡ false
    alone f m keeps small apart up h low =
        ap f (zero-add h)
        ∙ shut_of (count a) f
        (first_shut (some_open (count a) f) (some_open (count b) (beyond (count a) f)) keeps.2
        (there_some (count b) (beyond (count a) f) (m - count a) less (ap f past ∙ up))) h low
      where
        high : (t : Bool) → nat_lt m (count a) ≡ t → t ≡ false
        high false t = refl
        high true t = absurd (apart m (grind (arith, nat_tests, t)) (zero-add m))

        test : nat_lt m (count a) ≡ false
        test = high (nat_lt m (count a)) refl

        past : count a + (m - count a) ≡ m
        past = grind (arith, nat_tests, test)

        less : m - count a < count b
        less = let sum = count_pair a b in omega (arith, small, sum, past)

pub second_of : (a b : Type') → IsPartOf b (count a) (Pair a b)
second_of a b =
    record {
      fits = λ h low. (let sum = count_pair a b in omega (arith, low, sum));
      contacts = λ h low.
          ap (λ (cs : List Contact). slice_get cs (count a + h)) (pairs_join a b).joined ∙ behind (contacts_of a) (contacts_of b) h (count a + h) refl;
      kept = λ f keeps. keeps.1;
      back = back;
      alone = alone;
    }
  where
    back : (f : ℕ → Bool) → KeepsTurnsOf b (beyond (count a) f)
        → ((m : ℕ) → m < count (Pair a b) → ((h : ℕ) → h < count b → count a + h ≡ m → ⊥) → f m ≡ false) → KeepsTurnsOf (Pair a b) f
    back f keeps closed = (
      closed_kept a f shut,
      keeps,
      and_left (some_open (count a) f) (some_open (count b) (beyond (count a) f)) (none_open (count a) f shut),
    )
      where
        shut : (h : ℕ) → h < count a → f h ≡ false
        shut h low =
            let sum = count_pair a b in closed h (omega (arith, low, sum)) (λ k small same. let clash : ⊥ = omega (arith, low, same) in clash)

    alone : (f : ℕ → Bool) (m : ℕ) → KeepsTurnsOf (Pair a b) f → m < count (Pair a b) → ((h : ℕ) → h < count b → count a + h ≡ m → ⊥) → f m ≡ true
        → (h : ℕ) → h < count b → f (count a + h) ≡ false
    alone f m keeps small apart up h low =
        shut_of (count b) (beyond (count a) f)
        (second_shut (some_open (count a) f) (some_open (count b) (beyond (count a) f)) keeps.2 (there_some (count a) f m less up)) h low
      where
        by_test : (t : Bool) → nat_lt m (count a) ≡ t → t ≡ true
        by_test true t = refl
        by_test false t =
            let past : count a + (m - count a) ≡ m = grind (arith, nat_tests, t) in
            let sum = count_pair a b in absurd (apart (m - count a) (omega (arith, small, sum, past)) past)

        test : nat_lt m (count a) ≡ true
        test = by_test (nat_lt m (count a)) refl

        less : m < count a
        less = grind (arith, nat_tests, test)

-- each handshake of a product is one of its sides
pub one_of_both : (a b : Type') (m : ℕ) → m < count (Pair a b) → ((h : ℕ) → h < count a → 0 + h ≡ m → ⊥) → ((h : ℕ) → h < count b → count a + h ≡ m → ⊥) → ⊥
one_of_both a b m small first second = by_test (nat_lt m (count a)) refl
  where
    by_test : (t : Bool) → nat_lt m (count a) ≡ t → ⊥
    by_test true t = first m (grind (arith, nat_tests, t)) (zero-add m)
    by_test false t =
        let past : count a + (m - count a) ≡ m = grind (arith, nat_tests, t) in
        let sum = count_pair a b in second (m - count a) (omega (arith, small, sum, past)) past
