-- Where one handshake of a type alone is open and keeps turns, it is one that a holder of the type serves.
use Rattle.std.specs.Prelude.{◌≡◌, ℕ, ◌+◌, ◌-◌, ◌<◌, ◌≤◌, Bool, true, false, List, ◌++◌, Some, length, slice_get, nat_lt}
use Rattle.std.proofs.Common.{refl, sym, ◌∙◌, ap, arith}
use Rattle.std.proofs.lemmas.Bool.Decides.{nat_tests}
use Rattle.std.proofs.lemmas.List.{length-map}
use Rattle.gos_types.specs.declared.shakes.Role.TheVariants.{Serve}
use Rattle.gos_types.specs.Types.{Type', Com, Exp, Var, Pair, Fun}
use Rattle.gos_types.proofs.ListLemmas.{same_in_front}
use Rattle.gos_plan.specs.Kinds.{Contact, contacts_of, turned_contact, other_side}
use Rattle.gos_plan.proofs.SideLemmas.{pairs_join, functions_join}
use Rattle.gos_realises.specs.realises.Regular.{count, beyond, KeepsTurnsOf}
use Rattle.gos_realises.proofs.realises.GroundTurnLemmas.{some_there, there_some}
use Rattle.gos_realises.proofs.realises.InputLemmas.{import_serves}
use Rattle.gos_realises.proofs.joined.OriginLemmas.{behind_at}

pub one_serves : (t : Type') (h : ℕ) (k : Contact) (g : ℕ → Bool) → slice_get (contacts_of t) h ≡ Some k → KeepsTurnsOf t g → g h ≡ true
    → ((n : ℕ) → (n ≡ h → ⊥) → g n ≡ false) → k.role ≡ Serve
one_serves Com h k g at keeps up others = sym (import_serves Com tt h k at)
one_serves (Exp w) h k g at keeps up others = sym (import_serves (Exp w) tt h k at)
one_serves (Var w) h k g at keeps up others = sym (import_serves (Var w) tt h k at)
one_serves (Pair a b) h k g at keeps up others =
    by_test (nat_lt h (count a)) refl (λ here. one_serves a h k g here keeps.0 up others)
    (λ high here.
    (let sum : h ≡ count a + (h - count a) = omega (arith, high) in
    one_serves b (h - count a) k (beyond (count a) g) here keeps.1 (ap g (sym sum) ∙ up) (λ n apart. others (count a + n) (λ same. apart (omega (arith, same))))))
  where
    at_pair : slice_get (contacts_of a ++ contacts_of b) h ≡ Some k
    at_pair = ap (λ (cs : List Contact). slice_get cs h) (sym (pairs_join a b).joined) ∙ at

    by_test : (l : Bool) → nat_lt h (count a) ≡ l → (slice_get (contacts_of a) h ≡ Some k → k.role ≡ Serve)
        → (count a ≤ h → slice_get (contacts_of b) (h - count a) ≡ Some k → k.role ≡ Serve) → k.role ≡ Serve
    by_test true test first second =
        let low : h < count a = grind (arith, nat_tests, test) in first (sym (same_in_front (contacts_of a) (contacts_of b) h low) ∙ at_pair)
    by_test false test first second =
        let high : count a ≤ h = grind (arith, nat_tests, test) in second high (sym (behind_at (contacts_of a) (contacts_of b) h high) ∙ at_pair)
one_serves (Fun a b) h k g at keeps up others =
    by_test (nat_lt h (count a)) refl
    (λ high here.
    (let sum : h ≡ count a + (h - count a) = omega (arith, high) in
    one_serves b (h - count a) k (beyond (count a) g) here keeps.1 (ap g (sym sum) ∙ up) (λ n apart. others (count a + n) (λ same. apart (omega (arith, same))))))
  where
    at_fun : slice_get (other_side (contacts_of a) ++ contacts_of b) h ≡ Some k
    at_fun = ap (λ (cs : List Contact). slice_get cs h) (sym (functions_join a b).joined) ∙ at

    by_test : (l : Bool) → nat_lt h (count a) ≡ l → (count a ≤ h → slice_get (contacts_of b) (h - count a) ≡ Some k → k.role ≡ Serve) → k.role ≡ Serve
    by_test true test second =
        let low : h < count a = grind (arith, nat_tests, test) in
        let (n, small, busy) = some_there (count b) (beyond (count a) g) (keeps.2 (there_some (count a) g h low up)) in
        let shut = others (count a + n) (λ same. omega (arith, same, low)) in
        let clash : true ≡ false = sym busy ∙ shut in absurd (cc clash)
    by_test false test second =
        let size : length (other_side (contacts_of a)) ≡ count a = length-map (contacts_of a) turned_contact in
        let high : count a ≤ h = grind (arith, nat_tests, test) in
        second high
        (ap (λ (m : ℕ). slice_get (contacts_of b) (h - m)) (sym size)
        ∙ (sym (behind_at (other_side (contacts_of a)) (contacts_of b) h (omega (arith, size, high))) ∙ at_fun))
