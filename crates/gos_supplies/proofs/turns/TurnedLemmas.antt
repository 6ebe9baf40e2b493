-- Inputs keep turns of a plan where they keep those of the type at which they come.
use Rattle.std.specs.Prelude.{ℕ, ◌+◌, ◌-◌, ◌<◌, Bool, true, false, ◌&&◌, List, Some, slice_get, nat_eq, nat_lt, if◌then◌else◌}
use Rattle.std.proofs.lemmas.Bool.Decides.{nat_tests}
use Rattle.std.proofs.Common.{◌≡◌, ◌∷◌, ◌⊎◌, inl, inr, refl, sym, ◌∙◌, ap, subst, arith}
use Rattle.std.proofs.lemmas.Option.{slice_get_within}
use Rattle.std.proofs.lemmas.Bool.{eq-eqb, ne_eqb}
use Rattle.gos_types.specs.Types.{Type', Fun}
use Rattle.gos_types.specs.Events.{Direction}
use Rattle.gos_types.proofs.BoolLemmas.{and_false}
use Rattle.gos_model.specs.Typing.{Imported}
use Rattle.gos_plan.specs.Kinds.{Contact, contacts_of}
use Rattle.gos_plan.specs.Plans.{ImportEnd, ResultEnd, Plan}
use Rattle.gos_plan.specs.Tokens.{way_taken, way_put}
use Rattle.gos_realises.specs.realises.Regular.{Pass, pass, is_open, is_request, count, some_open, beyond, KeepsTurnsOf, whole_end}
use Rattle.gos_realises.proofs.realises.GroundTurnLemmas.{some_there, there_some, count_fun}
use Rattle.gos_joining.proofs.renumbered.TurnLemmas.{keeps_each, each_keeps, Agree, some_agree, turns_agree}
use Rattle.gos_supplies.proofs.turns.TypeLemmas.{Changed, told_same, still_busy, was_busy}
use Rattle.gos_supplies.proofs.turns.GoesLemmas.{IsTurned}

-- what is open at an import and at the result
abbrev pub imp : List Pass → ℕ → ℕ → Bool
imp P n h = is_open P (ImportEnd n h)

abbrev pub res : List Pass → ℕ → Bool
res P h = is_open P (ResultEnd h)

-- import by import
abbrev pub Each : Plan → List Pass → Type 0
Each p P =
    ((n : ℕ) (x : Imported) → slice_get p.imports n ≡ Some x
    → KeepsTurnsOf x.ty (imp P n) × (some_open (count x.ty) (imp P n) ≡ true → some_open (count p.outcome) (res P) ≡ true))
    × KeepsTurnsOf p.outcome (res P)

pub to_each : (p : Plan) (P : List Pass) → IsTurned p P → Each p P
to_each p P turned =
    let all = keeps_each 0 p.imports p.outcome (λ h. is_open P (whole_end 0 p.imports h)) (is_open P) (λ h. refl) turned in
    (λ n x at. of_number x n (0 + n) (let e : 0 + n ≡ n = omega arith in e) (all.0 n x at), all.1)
  where
    of_number : (x : Imported) (n m : ℕ) → m ≡ n
        → KeepsTurnsOf x.ty (imp P m) × (some_open (count x.ty) (imp P m) ≡ true → some_open (count p.outcome) (res P) ≡ true)
        → KeepsTurnsOf x.ty (imp P n) × (some_open (count x.ty) (imp P n) ≡ true → some_open (count p.outcome) (res P) ≡ true)
    of_number x n m same keeps =
        subst (λ (k : ℕ). KeepsTurnsOf x.ty (imp P k) × (some_open (count x.ty) (imp P k) ≡ true → some_open (count p.outcome) (res P) ≡ true)) same keeps

pub from_each : (p : Plan) (P : List Pass) → Each p P → IsTurned p P
from_each p P (each, result) =
    each_keeps 0 p.imports p.outcome (λ h. is_open P (whole_end 0 p.imports h)) (is_open P) (λ h. refl)
    ((λ n x at. of_number x n (0 + n) (let e : n ≡ 0 + n = omega arith in e) (each n x at)), result)
  where
    of_number : (x : Imported) (n m : ℕ) → n ≡ m
        → KeepsTurnsOf x.ty (imp P n) × (some_open (count x.ty) (imp P n) ≡ true → some_open (count p.outcome) (res P) ≡ true)
        → KeepsTurnsOf x.ty (imp P m) × (some_open (count x.ty) (imp P m) ≡ true → some_open (count p.outcome) (res P) ≡ true)
    of_number x n m same keeps =
        subst (λ (k : ℕ). KeepsTurnsOf x.ty (imp P k) × (some_open (count x.ty) (imp P k) ≡ true → some_open (count p.outcome) (res P) ≡ true)) same keeps

-- what passes an import or the result changes one handshake there
pub import_changed : (P : List Pass) (n h k : ℕ) (way : Direction) → h < k → Changed k (imp P n) (imp (pass (ImportEnd n h) way ∷ P) n) h way
import_changed P n h k way low =
    record {
      low = low;
      here = (let one = eq-eqb n n refl in let two = eq-eqb h h refl in λ i. if one i && two i then is_request way else imp P n h);
      else_same = λ g small apart.
          (let two = ne_eqb h g (λ same. apart (sym same)) in
          (λ i. if nat_eq n n && two i then is_request way else imp P n g) ∙ (λ i. if and_false (nat_eq n n) i then is_request way else imp P n g));
    }

pub import_else : (P : List Pass) (n h m : ℕ) (way : Direction) → (m ≡ n → ⊥) → imp (pass (ImportEnd n h) way ∷ P) m ≡ imp P m
import_else P n h m way apart =
    let other = ne_eqb n m (λ same. apart (sym same)) in λ i g. if other i && nat_eq h g then is_request way else imp P m g

pub result_changed : (P : List Pass) (h k : ℕ) (way : Direction) → h < k → Changed k (res P) (res (pass (ResultEnd h) way ∷ P)) h way
result_changed P h k way low =
    record {
      low = low;
      here = (let one = eq-eqb h h refl in λ i. if one i then is_request way else res P h);
      else_same = λ g small apart. (let other = ne_eqb h g (λ same. apart (sym same)) in λ i. if other i then is_request way else res P g);
    }

-- an input at an import
pub in_import : (p : Plan) (P : List Pass) (n h : ℕ) (x : Imported) (c : Contact) (way : Direction) → IsTurned p P → slice_get p.imports n ≡ Some x
    → slice_get (contacts_of x.ty) h ≡ Some c → way_put c.role ≡ way → KeepsTurnsOf x.ty (imp (pass (ImportEnd n h) way ∷ P) n)
    → IsTurned p (pass (ImportEnd n h) way ∷ P)
in_import p P n h x c way turned at there is keeps = from_each p (pass (ImportEnd n h) way ∷ P) (each, before.1)
  where
    before : Each p P
    before = to_each p P turned

    low : h < count x.ty
    low = slice_get_within (contacts_of x.ty) h c there

    each : (m : ℕ) (y : Imported) → slice_get p.imports m ≡ Some y
        → KeepsTurnsOf y.ty (imp (pass (ImportEnd n h) way ∷ P) m)
        × (some_open (count y.ty) (imp (pass (ImportEnd n h) way ∷ P) m) ≡ true → some_open (count p.outcome) (res P) ≡ true)
    each m y at_m = by_told (told_same m n)
      where
        by_told : (m ≡ n) ⊎ (m ≡ n → ⊥) → KeepsTurnsOf y.ty (imp (pass (ImportEnd n h) way ∷ P) m)
            × (some_open (count y.ty) (imp (pass (ImportEnd n h) way ∷ P) m) ≡ true → some_open (count p.outcome) (res P) ≡ true)
        by_told (inl same) =
            let those : x ≡ y = cc (at, at_m, same) in
            subst (λ (k : ℕ). KeepsTurnsOf y.ty (imp (pass (ImportEnd n h) way ∷ P) k)
            × (some_open (count y.ty) (imp (pass (ImportEnd n h) way ∷ P) k) ≡ true → some_open (count p.outcome) (res P) ≡ true)) (sym same)
            (subst (λ (z : Imported). KeepsTurnsOf z.ty (imp (pass (ImportEnd n h) way ∷ P) n)
            × (some_open (count z.ty) (imp (pass (ImportEnd n h) way ∷ P) n) ≡ true → some_open (count p.outcome) (res P) ≡ true)) those
            (keeps, λ busy. (before.0 n x at).1 (was_busy x.ty (imp P n) (imp (pass (ImportEnd n h) way ∷ P) n) h c way (import_changed P n h (count x.ty) way low) there is keeps busy)))
        by_told (inr apart) =
            subst (λ (f : ℕ → Bool). KeepsTurnsOf y.ty f × (some_open (count y.ty) f ≡ true → some_open (count p.outcome) (res P) ≡ true))
            (sym (import_else P n h m way apart)) (before.0 m y at_m)

-- an input at the result
pub in_result : (p : Plan) (P : List Pass) (h : ℕ) (c : Contact) (way : Direction) → IsTurned p P → slice_get (contacts_of p.outcome) h ≡ Some c → way_taken c.role ≡ way
    → KeepsTurnsOf p.outcome (res (pass (ResultEnd h) way ∷ P)) → IsTurned p (pass (ResultEnd h) way ∷ P)
in_result p P h c way turned there is keeps = from_each p (pass (ResultEnd h) way ∷ P) (each, keeps)
  where
    before : Each p P
    before = to_each p P turned

    each : (m : ℕ) (y : Imported) → slice_get p.imports m ≡ Some y
        → KeepsTurnsOf y.ty (imp P m) × (some_open (count y.ty) (imp P m) ≡ true → some_open (count p.outcome) (res (pass (ResultEnd h) way ∷ P)) ≡ true)
    each m y at = (
      (before.0 m y at).0,
      λ busy. still_busy p.outcome (res P) (res (pass (ResultEnd h) way ∷ P)) h c way
          (result_changed P h (count p.outcome) way (slice_get_within (contacts_of p.outcome) h c there)) there is before.1 ((before.0 m y at).1 busy),
    )

-- a function is busy where its outcome is
pub fun_busy : (a b : Type') (f : ℕ → Bool) → KeepsTurnsOf (Fun a b) f → some_open (count (Fun a b)) f ≡ true → some_open (count b) (beyond (count a) f) ≡ true
fun_busy a b f keeps busy = of_open (some_there (count (Fun a b)) f busy)
  where
    of_open : (k : ℕ) × (k < count (Fun a b)) × (f k ≡ true) → some_open (count b) (beyond (count a) f) ≡ true
    of_open (k, low, up) = by_test (nat_lt k (count a)) refl
      where
        by_test : (t : Bool) → nat_lt k (count a) ≡ t → some_open (count b) (beyond (count a) f) ≡ true
        by_test true test = keeps.2 (there_some (count a) f k (grind (arith, nat_tests, test)) up)
        by_test false test =
            let high : count a + (k - count a) ≡ k = grind (arith, nat_tests, test) in
            let sum = count_fun a b in
            there_some (count b) (beyond (count a) f) (k - count a) (omega (arith, low, sum, high)) (ap f high ∙ up)

pub busy_fun : (a b : Type') (f : ℕ → Bool) → some_open (count b) (beyond (count a) f) ≡ true → some_open (count (Fun a b)) f ≡ true
busy_fun a b f busy =
    let (k, low, up) = some_there (count b) (beyond (count a) f) busy in
    let sum = count_fun a b in there_some (count (Fun a b)) f (count a + k) (omega (arith, low, sum)) up

-- an input at the argument of a function
pub in_argument : (p : Plan) (P : List Pass) (h : ℕ) (a b : Type') (c : Contact) (way : Direction) → IsTurned p P → p.outcome ≡ Fun a b
    → slice_get (contacts_of a) h ≡ Some c → way_put c.role ≡ way → KeepsTurnsOf a (res (pass (ResultEnd h) way ∷ P)) → IsTurned p (pass (ResultEnd h) way ∷ P)
in_argument p P h a b c way turned outcome there is keeps = from_each p (pass (ResultEnd h) way ∷ P) (each, subst (λ (t : Type'). KeepsTurnsOf t (res (pass (ResultEnd h) way ∷ P))) (sym outcome) result)
  where
    before : Each p P
    before = to_each p P turned

    fun : KeepsTurnsOf (Fun a b) (res P)
    fun = subst (λ (t : Type'). KeepsTurnsOf t (res P)) outcome before.1

    low : h < count a
    low = slice_get_within (contacts_of a) h c there

    agree : Agree (count b) (beyond (count a) (res P)) (beyond (count a) (res (pass (ResultEnd h) way ∷ P)))
    agree g small =
        let sum = count_fun a b in
        sym ((result_changed P h (count (Fun a b)) way (omega (arith, low, sum))).else_same (count a + g) (omega (arith, small, sum)) (λ same. omega (arith, same, low)))

    result : KeepsTurnsOf (Fun a b) (res (pass (ResultEnd h) way ∷ P))
    result = (
      keeps,
      turns_agree b (beyond (count a) (res P)) (beyond (count a) (res (pass (ResultEnd h) way ∷ P))) agree fun.1,
      λ busy. sym (some_agree (count b) (beyond (count a) (res P)) (beyond (count a) (res (pass (ResultEnd h) way ∷ P))) agree)
          ∙ fun.2 (was_busy a (res P) (res (pass (ResultEnd h) way ∷ P)) h c way (result_changed P h (count a) way low) there is keeps busy),
    )

    still : some_open (count p.outcome) (res P) ≡ true → some_open (count p.outcome) (res (pass (ResultEnd h) way ∷ P)) ≡ true
    still busy =
        let of_fun : some_open (count (Fun a b)) (res P) ≡ true = subst (λ (t : Type'). some_open (count t) (res P) ≡ true) outcome busy in
        let now = sym (some_agree (count b) (beyond (count a) (res P)) (beyond (count a) (res (pass (ResultEnd h) way ∷ P))) agree) ∙ fun_busy a b (res P) fun of_fun in
        subst (λ (t : Type'). some_open (count t) (res (pass (ResultEnd h) way ∷ P)) ≡ true) (sym outcome) (busy_fun a b (res (pass (ResultEnd h) way ∷ P)) now)

    each : (m : ℕ) (y : Imported) → slice_get p.imports m ≡ Some y
        → KeepsTurnsOf y.ty (imp P m) × (some_open (count y.ty) (imp P m) ≡ true → some_open (count p.outcome) (res (pass (ResultEnd h) way ∷ P)) ≡ true)
    each m y at = ((before.0 m y at).0, λ busy. still ((before.0 m y at).1 busy))
