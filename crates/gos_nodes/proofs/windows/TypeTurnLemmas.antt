-- Turns of a type. They are kept where nothing is open; and where something is, a handshake is open at which an import serves.
use Rattle.std.specs.Prelude.{◌+◌, ◌-◌, ◌<◌, ◌++◌, ◌&&◌, length, slice_get, nat_lt}
use Rattle.std.proofs.Common.{◌≡◌, ℕ, zero, suc, Bool, true, false, List, [], ◌∷◌, Some, refl, sym, ◌∙◌, ap, subst, arith}
use Rattle.std.proofs.lemmas.Bool.Decides.{nat_tests}
use Rattle.gos_types.specs.declared.shakes.Role.TheVariants.{Serve}
use Rattle.gos_types.specs.Types.{Type', Com, Exp, Var, Pair, Fun}
use Rattle.gos_types.proofs.ListLemmas.{found_in_front}
use Rattle.gos_plan.specs.Kinds.{Contact, contacts_of, other_side}
use Rattle.gos_plan.proofs.SideLemmas.{pairs_join, functions_join}
use Rattle.gos_plan.proofs.ContactLemmas.{other_side_length}
use Rattle.gos_realises.specs.realises.Regular.{count, some_open, beyond, KeepsTurnsOf}
use Rattle.gos_realises.proofs.realises.GroundTurnLemmas.{some_there, there_some, count_fun}
use Rattle.gos_realises.proofs.realises.CountLemmas.{count_pair}

-- nothing is open
abbrev Closed : Type' → (ℕ → Bool) → Type 0
Closed t f = (h : ℕ) → h < count t → f h ≡ false

none_there : (t : Type') (f : ℕ → Bool) → Closed t f → some_open (count t) f ≡ false
none_there t f closed = by_test (some_open (count t) f) refl
  where
    by_test : (b : Bool) → some_open (count t) f ≡ b → b ≡ false
    by_test false none = refl
    by_test true some =
        let (k, low, up) = some_there (count t) f some in
        let clash : true ≡ false = sym up ∙ closed k low in clash

pub closed_kept : (t : Type') (f : ℕ → Bool) → Closed t f → KeepsTurnsOf t f
closed_kept Com f closed = tt
closed_kept (Exp w) f closed = tt
closed_kept (Var w) f closed = ap (λ (b : Bool). b && f 1) (closed 0 (omega arith))
closed_kept (Pair a b) f closed =
    let sum = count_pair a b in
    let first : Closed a f = λ h low. closed h (omega (arith, low, sum)) in (
      closed_kept a f first,
      closed_kept b (beyond (count a) f) (λ h low. closed (count a + h) (omega (arith, low, sum))),
      ap (λ (x : Bool). x && some_open (count b) (beyond (count a) f)) (none_there a f first),
    )
closed_kept (Fun a b) f closed =
    let sum = count_fun a b in
    let first : Closed a f = λ h low. closed h (omega (arith, low, sum)) in (
      closed_kept a f first,
      closed_kept b (beyond (count a) f) (λ h low. closed (count a + h) (omega (arith, low, sum))),
      λ some. (let clash : true ≡ false = sym some ∙ none_there a f first in absurd (cc clash)),
    )

-- an open handshake at which an import serves
abbrev pub OpenServed : Type' → (ℕ → Bool) → Type 0
OpenServed t f = (g : ℕ) × (c : Contact) × (slice_get (contacts_of t) g ≡ Some c) × (c.role ≡ Serve) × (f g ≡ true)

behind : (xs ys : List Contact) (g : ℕ) (c : Contact) → slice_get ys g ≡ Some c → slice_get (xs ++ ys) (length xs + g) ≡ Some c
behind [] ys g c at = let same : g ≡ 0 + g = omega arith in subst (λ (n : ℕ). slice_get ys n ≡ Some c) same at
behind (x ∷ xs) ys g c at =
    let same : suc (length xs + g) ≡ suc (length xs) + g = omega arith in
    subst (λ (n : ℕ). slice_get (x ∷ (xs ++ ys)) n ≡ Some c) same (behind xs ys g c at)

first_of_pair : (a b : Type') (f : ℕ → Bool) → OpenServed a f → OpenServed (Pair a b) f
first_of_pair a b f (g, c, at, serves, up) =
    (g, c, ap (λ (cs : List Contact). slice_get cs g) (pairs_join a b).joined ∙ found_in_front (contacts_of a) (contacts_of b) g c at, serves, up)

second_of_pair : (a b : Type') (f : ℕ → Bool) → OpenServed b (beyond (count a) f) → OpenServed (Pair a b) f
second_of_pair a b f (g, c, at, serves, up) = (
  count a + g,
  c,
  ap (λ (cs : List Contact). slice_get cs (count a + g)) (pairs_join a b).joined ∙ behind (contacts_of a) (contacts_of b) g c at,
  serves,
  up,
)

of_outcome : (a b : Type') (f : ℕ → Bool) → OpenServed b (beyond (count a) f) → OpenServed (Fun a b) f
of_outcome a b f (g, c, at, serves, up) = (
  count a + g,
  c,
  ap (λ (cs : List Contact). slice_get cs (count a + g)) (functions_join a b).joined
      ∙ subst (λ (n : ℕ). slice_get (other_side (contacts_of a) ++ contacts_of b) (n + g) ≡ Some c) (other_side_length (contacts_of a))
      (behind (other_side (contacts_of a)) (contacts_of b) g c at),
  serves,
  up,
)

-- on which side a handshake is
by_side : (m n k : ℕ) → k < m + n → (P : Type 0) → (k < m → P) → ((h : ℕ) → h < n → k ≡ m + h → P) → P
by_side m n k low P first second = by_test (nat_lt k m) refl
  where
    by_test : (b : Bool) → nat_lt k m ≡ b → P
    by_test true t = first (grind (arith, nat_tests, t))
    by_test false t =
        let past : m + (k - m) ≡ k = grind (arith, nat_tests, t) in second (k - m) (omega (arith, low, past)) (sym past)

pub open_served : (t : Type') (f : ℕ → Bool) → KeepsTurnsOf t f → (h : ℕ) → h < count t → f h ≡ true → OpenServed t f
open_served Com f keeps zero low up = (0, _, refl, refl, up)
open_served Com f keeps (suc h) low up = absurd (omega (arith, low))
open_served (Exp w) f keeps zero low up = (0, _, refl, refl, up)
open_served (Exp w) f keeps (suc h) low up = absurd (omega (arith, low))
open_served (Var w) f keeps zero low up = (0, _, refl, refl, up)
open_served (Var w) f keeps (suc zero) low up = (1, _, refl, refl, up)
open_served (Var w) f keeps (suc (suc h)) low up = absurd (omega (arith, low))
open_served (Pair a b) f keeps h low up =
    let sum = count_pair a b in
    let small : h < count a + count b = omega (arith, low, sum) in
    by_side (count a) (count b) h small (OpenServed (Pair a b) f) (λ first. first_of_pair a b f (open_served a f keeps.0 h first up))
    (λ k second same. second_of_pair a b f (open_served b (beyond (count a) f) keeps.1 k second (sym (ap f same) ∙ up)))
open_served (Fun a b) f keeps h low up =
    let sum = count_fun a b in
    let small : h < count a + count b = omega (arith, low, sum) in
    by_side (count a) (count b) h small (OpenServed (Fun a b) f)
    (λ first.
    let (k, below, open_there) = some_there (count b) (beyond (count a) f) (keeps.2 (there_some (count a) f h first up)) in
    of_outcome a b f (open_served b (beyond (count a) f) keeps.1 k below open_there))
    (λ k second same. of_outcome a b f (open_served b (beyond (count a) f) keeps.1 k second (sym (ap f same) ∙ up)))
