-- Kinds and types in range have handshakes no wider than the greatest width.
--
-- Read first: Ranges of gos_plan; Handshakes of gos_types.
use Rattle.std.proofs.Common.{◌≡◌, ◌≤◌, ℕ, zero, suc, Bool, true, false, nat_eq, if◌then◌else◌, List, [], ◌∷◌, ◌++◌, map, slice_get, Some, subst, arith}
use Rattle.std.specs.List.{AllByRecursion}
use Rattle.std.proofs.lemmas.Option.{none-some, same_Some}
use Rattle.gos_types.specs.declared.widths.TheConstants.{GREATEST_WIDTH}
use Rattle.gos_types.specs.declared.shakes.Step.TheVariants.{First, Second, Argument, Outcome}
use Rattle.gos_types.specs.Types.{Type', Com, Exp, Var, Pair, Fun, type_of}
use Rattle.gos_types.specs.Handshakes.{Shake, turn, turn_all, one_below, below, handshakes_of}
use Rattle.gos_plan.specs.declared.kinds.Kind.{Kind}
use Rattle.gos_plan.specs.declared.kinds.Kind.TheVariants as kinds
use Rattle.gos_plan.specs.Kinds.{Contact, contact, contacts_of, part_contacts, turned_contact, other_side}
use Rattle.gos_model.specs.Terms.{Op as Operation, Add, Sub, And, Or, Xor, Eq, Less, result_width}
use Rattle.gos_model.specs.Typing.{index_width}
use Rattle.gos_plan.specs.Ranges.{IsInRange}
use Rattle.gos_types.specs.Widths.{HasWidths}
use Rattle.gos_plan.specs.Seen.{part_of, operation_of}

-- what holds of each element, mapped and joined
all_mapped : {A B : Type 0} (P : A → Type 0) (Q : B → Type 0) (f : A → B) → ((x : A) → P x → Q (f x)) → (xs : List A)
    → AllByRecursion P xs → AllByRecursion Q (map f xs)
all_mapped P Q f g [] all = tt
all_mapped P Q f g (x ∷ xs) all = (g x all.0, all_mapped P Q f g xs all.1)

all_both : {A : Type 0} (P : A → Type 0) (xs ys : List A) → AllByRecursion P xs → AllByRecursion P ys → AllByRecursion P (xs ++ ys)
all_both P [] ys left right = right
all_both P (x ∷ xs) ys left right = (left.0, all_both P xs ys left.1 right)

-- a handshake of few bits
abbrev pub IsNarrow : Contact → Type 0
IsNarrow c = (c.ask_bits ≤ GREATEST_WIDTH) × (c.answer_bits ≤ GREATEST_WIDTH)

abbrev IsSlim : Shake → Type 0
IsSlim s = (s.ask_bits ≤ GREATEST_WIDTH) × (s.answer_bits ≤ GREATEST_WIDTH)

pub one_narrow : (cs : List Contact) (h : ℕ) (c : Contact) → AllByRecursion IsNarrow cs → slice_get cs h ≡ Some c → IsNarrow c
one_narrow [] h c all is = absurd (none-some c is)
one_narrow (d ∷ cs) zero c all is = subst IsNarrow (same_Some d c is) all.0
one_narrow (d ∷ cs) (suc h) c all is = one_narrow cs h c all.1 is

-- those of a type
slim : (t : Type') → HasWidths t → AllByRecursion IsSlim (handshakes_of t)
slim Com widths = ((omega arith, omega arith), tt)
slim (Exp w) widths = ((omega arith, widths.1), tt)
slim (Var w) widths = ((omega arith, widths.1), ((widths.1, omega arith), tt))
slim (Pair a b) widths =
    all_both IsSlim (below First (handshakes_of a)) (below Second (handshakes_of b))
    (all_mapped IsSlim IsSlim (one_below First) (λ s h. h) (handshakes_of a) (slim a widths.0))
    (all_mapped IsSlim IsSlim (one_below Second) (λ s h. h) (handshakes_of b) (slim b widths.1))
slim (Fun a b) widths =
    all_both IsSlim (below Argument (turn_all (handshakes_of a))) (below Outcome (handshakes_of b))
    (all_mapped IsSlim IsSlim (one_below Argument) (λ s h. h) (turn_all (handshakes_of a))
    (all_mapped IsSlim IsSlim turn (λ s h. h) (handshakes_of a) (slim a widths.0)))
    (all_mapped IsSlim IsSlim (one_below Outcome) (λ s h. h) (handshakes_of b) (slim b widths.1))

pub narrow_type : (t : Type') → HasWidths t → AllByRecursion IsNarrow (contacts_of t)
narrow_type t widths = all_mapped IsSlim IsNarrow contact (λ s h. h) (handshakes_of t) (slim t widths)

-- those of a kind

narrow_result : (op : Operation) (w : ℕ) → w ≤ GREATEST_WIDTH → result_width op w ≤ GREATEST_WIDTH
narrow_result Add w h = h
narrow_result Sub w h = h
narrow_result And w h = h
narrow_result Or w h = h
narrow_result Xor w h = h
narrow_result Eq w h = omega arith
narrow_result Less w h = omega arith

-- of a request or an answer without bits, and of one with
none : (0 ≤ GREATEST_WIDTH) × (0 ≤ GREATEST_WIDTH)
none = (omega arith, omega arith)

answer : (w : ℕ) → w ≤ GREATEST_WIDTH → (0 ≤ GREATEST_WIDTH) × (w ≤ GREATEST_WIDTH)
answer w h = (omega arith, h)

request : (w : ℕ) → w ≤ GREATEST_WIDTH → (w ≤ GREATEST_WIDTH) × (0 ≤ GREATEST_WIDTH)
request w h = (h, omega arith)

one : (0 ≤ GREATEST_WIDTH) × (1 ≤ GREATEST_WIDTH)
one = (omega arith, omega arith)

narrow_index : (n : ℕ) → index_width n ≤ GREATEST_WIDTH
narrow_index n = by_tests (nat_eq n 2) (nat_eq n 4) (nat_eq n 8)
  where
    by_tests : (two four eight : Bool) → (if two then 1 else if four then 2 else if eight then 3 else 4) ≤ GREATEST_WIDTH
    by_tests true four eight = omega arith
    by_tests false true eight = omega arith
    by_tests false false true = omega arith
    by_tests false false false = omega arith

pub narrow_kind : (k : Kind) → IsInRange k → AllByRecursion IsNarrow (part_contacts (part_of k))
narrow_kind kinds.Skip range = (none, tt)
narrow_kind (kinds.Lit w k) range = (answer w range.0.1, tt)
narrow_kind kinds.Seq range = (none, (none, (none, tt)))
narrow_kind (kinds.SeqExp w) range = (none, (answer w range.1, (answer w range.1, tt)))
narrow_kind kinds.Par range = (none, (none, (none, tt)))
narrow_kind kinds.If range = (one, (none, (none, (none, tt))))
narrow_kind (kinds.IfExp w) range = (one, (answer w range.1, (answer w range.1, (answer w range.1, tt))))
narrow_kind kinds.While range = (one, (none, (none, tt)))
narrow_kind (kinds.Op op w) range =
    (answer w range.1, (answer w range.1, (answer (result_width (operation_of op) w) (narrow_result (operation_of op) w range.1), tt)))
narrow_kind (kinds.Not w) range = (answer w range.1, (answer w range.1, tt))
narrow_kind (kinds.Assign w) range = (answer w range.1, (request w range.1, (none, tt)))
narrow_kind (kinds.Deref w) range = (answer w range.1, (answer w range.1, tt))
narrow_kind (kinds.Local w v) range = (answer v range.1, (answer w range.0.1, (request w range.0.1, (answer v range.1, tt))))
narrow_kind (kinds.Array w n v) range =
    (answer v range.2, (answer (index_width n) (narrow_index n), (answer w range.0.1, (request w range.0.1, (answer v range.2, tt)))))
narrow_kind (kinds.Share t) range =
    let shakes = narrow_type (type_of t) range.0 in
    let cs : List Contact = contacts_of (type_of t) in
    all_both IsNarrow (other_side cs) (cs ++ cs) (all_mapped IsNarrow IsNarrow turned_contact (λ c h. h) cs shakes) (all_both IsNarrow cs cs shakes shakes)
