-- Bind lines that pass a test are right, and mean nothing else.
--
-- The test compares names and types, and sees that each giver has a greater number than its user, so that there is no ring.
use Rattle.std.proofs.Common.{◌≡◌, inl, inr, ℕ, ◌<◌, Bool, true, false, true≢false, ◌&&◌, nat_eq, nat_lt, List, [], ◌∷◌, ◌++◌, Option, Some, None, slice_get, refl, sym, ◌∙◌, ap, subst, arith}
use Rattle.gos_types.specs.Types.{Type', type_of}
use Rattle.gos_check.specs.Demands.{same_type}
use Rattle.gos_check.proofs.TypeLemmas.{one_of_same}
use Rattle.gos_lex.specs.Lines.{Word}
use Rattle.gos_model.specs.Typing.{Imported}
use Rattle.gos_plan.specs.declared.plan.PlanImport.{PlanImport}
use Rattle.gos_plan.specs.Seen.{SeenPlan}
use Rattle.gos_link.specs.declared.build.Instance.{Instance}
use Rattle.gos_link.specs.declared.build.Bind.{Bind}
use Rattle.gos_link.specs.declared.services.Service.{Service}
use Rattle.gos_link.specs.declared.fault.LinkFault.{LinkFault}
use Rattle.gos_link.specs.declared.fault.LinkFault.TheVariants as faults
use Rattle.gos_link.specs.Services.{instance_named, import_named, NamesBoth, NamesAll, Means, first_bound, first_used, HasService, Gives, once, on, HasRing, IsRightBind, IsWrongBind, BindsOn}
use Rattle.gos_tool.proofs.lemmas.demo.TestLemmas.{front_true, back_true, equal_by, less_by, some_none}
use Rattle.gos_tool.proofs.lemmas.demo.SortLemmas.{Sort, AreOf, plan_at, named_in, same_named, import_at}

-- tests
abbrev is_number : Option ℕ → ℕ → Bool
is_number None k = false
is_number (Some n) k = nat_eq n k

number_by : (o : Option ℕ) (k : ℕ) → is_number o k ≡ true → o ≡ Some k
number_by None k e = absurd (true≢false (sym e))
number_by (Some n) k e = ap (λ (m : ℕ). Some m) (equal_by n k e)

abbrev is_nothing : Option ℕ → Bool
is_nothing None = true
is_nothing (Some n) = false

nothing_by : (o : Option ℕ) → is_nothing o ≡ true → o ≡ None
nothing_by None e = refl
nothing_by (Some n) e = absurd (true≢false (sym e))

-- the giver's result has the type of the import
abbrev has_type : Option Imported → Type' → Bool
has_type None t = false
has_type (Some i) t = same_type i.ty t

type_by : (o : Option Imported) (t : Type') → has_type o t ≡ true → (i : Imported) × (o ≡ Some i) × (i.ty ≡ t)
type_by None t e = absurd (true≢false (sym e))
type_by (Some i) t e = (i, refl, one_of_same i.ty t e)

abbrev serves : Option Sort → Option Sort → Word → ℕ → Bool
serves None q name i = false
serves (Some p) None name i = false
serves (Some p) (Some q) name i = is_number (named_in p.imports name) i && has_type (slice_get p.imports i) q.outcome

record Serving (o u : Option Sort) (name : Word) (i : ℕ) : Type 0 where
  user : Sort
  giver : Sort
  import : Imported
  is_user : o ≡ Some user
  is_giver : u ≡ Some giver
  named : named_in user.imports name ≡ Some i
  at : slice_get user.imports i ≡ Some import
  fits : import.ty ≡ giver.outcome

serves_by : (o u : Option Sort) (name : Word) (i : ℕ) → serves o u name i ≡ true → Serving o u name i
serves_by None u name i e = absurd (true≢false (sym e))
serves_by (Some p) None name i e = absurd (true≢false (sym e))
serves_by (Some p) (Some q) name i e =
    let found = type_by (slice_get p.imports i) q.outcome (back_true _ _ e) in
    record { user = p; giver = q; import = found.0; is_user = refl; is_giver = refl; named = number_by _ i (front_true _ _ e); at = found.1; fits = found.2 }

-- the line means this
abbrev means : List Instance → List Sort → Bind → Service → Bool
means is ss b s =
    is_number (instance_named is b.user) s.user
    && (is_number (instance_named is b.giver) s.giver && (nat_eq s.line b.line && serves (slice_get ss s.user) (slice_get ss s.giver) b.import s.import))

means_by : (is : List Instance) (ps : List SeenPlan) (ss : List Sort) (b : Bind) (s : Service) → AreOf ps ss → means is ss b s ≡ true → Means is ps b s
means_by is ps ss b s are e =
    let rest = back_true _ _ e in
    let more = back_true _ _ rest in
    let found = serves_by (slice_get ss s.user) (slice_get ss s.giver) b.import s.import (back_true _ _ more) in
    let user = plan_at ps ss s.user found.user are found.is_user in
    let giver = plan_at ps ss s.giver found.giver are found.is_giver in
    let import = import_at user.0.imports found.user.imports s.import found.import user.2.imports found.at in
    let type : type_of import.0.ty ≡ found.import.ty = ap (λ (i : Imported). i.ty) import.2 in
    let result : found.giver.outcome ≡ type_of giver.0.outcome = sym giver.2.outcome in (
      user.0,
      giver.0,
      import.0,
      equal_by s.line b.line (front_true _ _ more),
      record {
        both = record { finds_user = number_by _ s.user (front_true _ _ e); finds_giver = number_by _ s.giver (front_true _ _ rest); of_user = user.1; of_giver = giver.1 };
        named = same_named user.0.imports b.import ∙ (ap (λ (is : List Imported). named_in is b.import) user.2.imports ∙ found.named);
        import = import.1;
      },
      type ∙ (found.fits ∙ result),
    )

-- no ring
abbrev pub AllRise : List Service → Type 0
AllRise [] = Unit {0}
AllRise (s ∷ ss) = (s.user < s.giver) × AllRise ss

one_rises : (ss : List Service) (s : Service) → AllRise ss → HasService ss s → s.user < s.giver
one_rises [] s rise has = absurd has
one_rises (t ∷ ss) s rise (inl same) = subst (λ (u : Service). u.user < u.giver) same rise.0
one_rises (t ∷ ss) s rise (inr has) = one_rises ss s rise.1 has

gives_down : (ss : List Service) (a b : ℕ) → AllRise ss → Gives ss a b → b < a
gives_down ss a b rise (once s has) = one_rises ss s rise has
gives_down ss a b rise (on _ c _ first then) =
    let one = gives_down ss a c rise first in let other = gives_down ss c b rise then in omega (arith, one, other)

no_ring : (ss : List Service) → AllRise ss → HasRing ss → ⊥
no_ring ss rise (k, gives) = let down = gives_down ss k k rise gives in omega (arith, down)

more_rise : (ss : List Service) (s : Service) → AllRise ss → s.user < s.giver → AllRise (ss ++ s ∷ [])
more_rise [] s rise one = (one, tt)
more_rise (t ∷ ss) s rise one = (rise.0, more_rise ss s rise.1 one)

-- the lines mean these services
abbrev pub binds : List Instance → List Sort → List Service → List Bind → List Service → Bool
binds is ss before [] [] = true
binds is ss before [] (s ∷ services) = false
binds is ss before (b ∷ bs) [] = false
binds is ss before (b ∷ bs) (s ∷ services) =
    means is ss b s
    && (is_nothing (first_bound before s.user s.import)
    && (is_nothing (first_used before s.giver) && (nat_lt s.user s.giver && binds is ss (before ++ s ∷ []) bs services)))

pub binds_by : (is : List Instance) (ps : List SeenPlan) (ss : List Sort) (before : List Service) (bs : List Bind) (services : List Service) → AreOf ps ss → AllRise before
    → binds is ss before bs services ≡ true → BindsOn is ps before bs services None
binds_by is ps ss before [] [] are rise e = refl
binds_by is ps ss before [] (s ∷ services) are rise e = absurd (true≢false (sym e))
binds_by is ps ss before (b ∷ bs) [] are rise e = absurd (true≢false (sym e))
binds_by is ps ss before (b ∷ bs) (s ∷ services) are rise e =
    let unbound = back_true _ _ e in
    let unused = back_true _ _ unbound in
    let rising = back_true _ _ unused in
    let one : s.user < s.giver = less_by s.user s.giver (front_true _ _ rising) in (
      record {
        means = means_by is ps ss b s are (front_true _ _ e);
        unbound = nothing_by _ (front_true _ _ unbound);
        unused = nothing_by _ (front_true _ _ unused);
        ringless = no_ring (s ∷ before) (one, rise);
      },
      binds_by is ps ss (before ++ s ∷ []) bs services are (more_rise before s rise one) (back_true _ _ rising),
    )

-- A line means one thing.
same_some : {X : Type 0} (o : Option X) (x y : X) → o ≡ Some x → o ≡ Some y → x ≡ y
same_some o x y e f = let h : Some x ≡ Some y = sym e ∙ f in cc h

same_get : {X : Type 0} (xs : List X) (i j : ℕ) (x y : X) → i ≡ j → slice_get xs i ≡ Some x → slice_get xs j ≡ Some y → x ≡ y
same_get xs i j x y e one other = same_some (slice_get xs i) x y one (ap (λ (k : ℕ). slice_get xs k) e ∙ other)

module _ (is : List Instance) (ps : List SeenPlan) (b : Bind) where
  same_both : (u g v h : ℕ) (p q r t : SeenPlan) → NamesBoth is ps b u g p q → NamesBoth is ps b v h r t → (u ≡ v) × (g ≡ h) × (p ≡ r) × (q ≡ t)
  same_both u g v h p q r t one other =
      let user : u ≡ v = same_some (instance_named is b.user) u v one.finds_user other.finds_user in
      let giver : g ≡ h = same_some (instance_named is b.giver) g h one.finds_giver other.finds_giver in
      (user, giver, same_get ps u v p r user one.of_user other.of_user, same_get ps g h q t giver one.of_giver other.of_giver)

  same_all : (s t : Service) (p q p' q' : SeenPlan) (x x' : PlanImport) → NamesAll is ps b s p q x → NamesAll is ps b t p' q' x'
      → (s.user ≡ t.user) × (s.import ≡ t.import) × (s.giver ≡ t.giver) × (x ≡ x') × (q ≡ q')
  same_all s t p q p' q' x x' one other =
      let (user, giver, plan, of_giver) = same_both s.user s.giver t.user t.giver p q p' q' one.both other.both in
      let number : s.import ≡ t.import =
      same_some (import_named p.imports b.import) s.import t.import one.named (ap (λ (r : SeenPlan). import_named r.imports b.import) plan ∙ other.named) in
      let import : x ≡ x' =
      same_get p.imports s.import t.import x x' number one.import (ap (λ (r : SeenPlan). slice_get r.imports t.import) plan ∙ other.import) in
      (user, number, giver, import, of_giver)

  one_meaning : (s t : Service) → Means is ps b s → Means is ps b t → s ≡ t
  one_meaning s t (p, q, x, line, all, type) (p', q', x', line', all', type') =
      let (user, number, giver, import, of_giver) = same_all s t p q p' q' x x' all all' in
      let same_line : s.line ≡ t.line = line ∙ sym line' in
      λ i. record { line = same_line i; user = user i; import = number i; giver = giver i }

  not_wrong : (before : List Service) (s : Service) (fault : LinkFault) → IsRightBind is ps before b s → IsWrongBind is ps before b fault → ⊥
  not_wrong before s (faults.NoInstance line name) right (same, inl (none, is_name)) =
      let (p, q, x, of_line, all, type) = right.means in some_none (instance_named is b.user) s.user all.both.finds_user none
  not_wrong before s (faults.NoInstance line name) right (same, inr (k, some, none, is_name)) =
      let (p, q, x, of_line, all, type) = right.means in some_none (instance_named is b.giver) s.giver all.both.finds_giver none
  not_wrong before s (faults.NoImport line name) right (same, is_name, (u, g, p', q', both, none)) =
      let (p, q, x, of_line, all, type) = right.means in
      let (user, giver, plan, of_giver) = same_both s.user s.giver u g p q p' q' all.both both in
      some_none (import_named p.imports b.import) s.import all.named (ap (λ (r : SeenPlan). import_named r.imports b.import) plan ∙ none)
  not_wrong before s (faults.TypeDiffers line want got) right (t, p', q', x', same, all', of_want, of_got, differ) =
      let (p, q, x, of_line, all, type) = right.means in
      let (user, number, giver, import, of_giver) = same_all s t p q p' q' x x' all all' in
      differ (ap (λ (y : PlanImport). type_of y.ty) (sym import) ∙ (type ∙ ap (λ (r : SeenPlan). type_of r.outcome) of_giver))
  not_wrong before s (faults.BoundTwice first second) right (t, same, means', bound) =
      let is_same = one_meaning t s means' right.means in
      some_none (first_bound before t.user t.import) first bound (ap (λ (r : Service). first_bound before r.user r.import) is_same ∙ right.unbound)
  not_wrong before s (faults.UsedTwice first second) right (t, same, means', unbound, used) =
      let is_same = one_meaning t s means' right.means in
      some_none (first_used before t.giver) first used (ap (λ (r : Service). first_used before r.giver) is_same ∙ right.unused)
  not_wrong before s (faults.Loop line) right (t, same, means', unbound, unused, ring) =
      right.ringless (subst (λ (r : Service). HasRing (r ∷ before)) (one_meaning t s means' right.means) ring)
  not_wrong before s (faults.Form line) right wrong = wrong
  not_wrong before s (faults.Unplaced name) right wrong = wrong
  not_wrong before s (faults.OpenTwice name first second) right wrong = wrong
  not_wrong before s (faults.NotGround name) right wrong = wrong
  not_wrong before s (faults.TooHeavy weight) right wrong = wrong
  not_wrong before s (faults.TooLarge size ports) right wrong = wrong
  not_wrong before s faults.NoMemory right wrong = wrong

-- lines that are right mean one list of services, and have no first wrong line
pub binds_once : (is : List Instance) (ps : List SeenPlan) (before : List Service) (bs : List Bind) (ss ts : List Service) (ending : Option LinkFault)
    → BindsOn is ps before bs ss None → BindsOn is ps before bs ts ending → (ss ≡ ts) × (ending ≡ None)
binds_once is ps before [] [] [] ending one other = (refl, other)
binds_once is ps before [] [] (t ∷ ts) ending one other = absurd other
binds_once is ps before [] (s ∷ ss) ts ending one other = absurd one
binds_once is ps before (b ∷ bs) [] ts ending one other = absurd one
binds_once is ps before (b ∷ bs) (s ∷ ss) [] None one other = absurd other
binds_once is ps before (b ∷ bs) (s ∷ ss) [] (Some fault) one other = absurd (not_wrong is ps b before s fault one.0 other)
binds_once is ps before (b ∷ bs) (s ∷ ss) (t ∷ ts) ending one other =
    let same : t ≡ s = one_meaning is ps b t s other.0.means one.0.means in
    let rest = binds_once is ps (before ++ s ∷ []) bs ss ts ending one.1 (subst (λ (r : Service). BindsOn is ps (before ++ r ∷ []) bs ts ending) same other.1) in
    ((λ i. sym same i ∷ rest.0 i), rest.1)
