-- A bind line is right, or wrong for one reason.
--
-- What is asked of a line is asked in stages, one after another. A reason says at which stage the line stops; to pass a stage the
-- line has to have passed those before it.
use Rattle.std.specs.Prelude.{◌≡◌, ◌≢◌, ◌⊎◌, ℕ, zero, suc, ◌≤◌, ◌<◌, List, ◌∷◌, Option, Some, None, slice_get}
use Rattle.std.proofs.Common.{refl, sym, ◌∙◌, ap, subst, arith, inl, inr}
use Rattle.std.proofs.lemmas.Bool.{cases_lt}
use Rattle.gos_types.specs.declared.types.Ty.{Ty}
use Rattle.gos_types.specs.Types.{type_of}
use Rattle.gos_model.proofs.NumberLemmas.{number_cases}
use Rattle.gos_plan.specs.declared.plan.PlanImport.{PlanImport}
use Rattle.gos_plan.specs.Seen.{SeenPlan}
use Rattle.gos_link.specs.declared.build.Instance.{Instance}
use Rattle.gos_link.specs.declared.build.Bind.{Bind}
use Rattle.gos_link.specs.declared.services.Service.{Service}
use Rattle.gos_link.specs.declared.fault.LinkFault.{LinkFault}
use Rattle.gos_link.specs.declared.fault.LinkFault.TheVariants as faults
use Rattle.gos_link.specs.Services.{instance_named, import_named, NamesBoth, NamesAll, Means, first_bound, first_used, HasRing, IsRightBind, IsWrongBind}
use Rattle.gos_link.specs.Answers.{IsSameFault}
use Rattle.gos_link.proofs.PortLemmas.{same_at}

-- a fault is itself
self_fault : (f : LinkFault) → IsSameFault f f
self_fault (faults.Form line) = refl
self_fault (faults.NoInstance line name) = refl
self_fault (faults.NoImport line name) = refl
self_fault (faults.TypeDiffers line want got) = (refl, refl, refl)
self_fault (faults.BoundTwice first second) = refl
self_fault (faults.UsedTwice first second) = refl
self_fault (faults.Loop line) = refl
self_fault (faults.Unplaced name) = refl
self_fault (faults.OpenTwice name first second) = refl
self_fault (faults.NotGround name) = refl
self_fault (faults.TooHeavy weight) = refl
self_fault (faults.TooLarge size ports) = refl
self_fault faults.NoMemory = refl

pub both_are : (f g x y : LinkFault) → f ≡ x → g ≡ y → x ≡ y → IsSameFault f g
both_are f g x y e h same = subst (λ (z : LinkFault). IsSameFault f z) (e ∙ (same ∙ sym h)) (self_fault f)

pub same_some : {X : Type 0} (o : Option X) (x y : X) → o ≡ Some x → o ≡ Some y → x ≡ y
same_some o x y e f = let h : Some x ≡ Some y = sym e ∙ f in cc h

pub some_none : {X : Type 0} (o : Option X) (x : X) → o ≡ Some x → o ≡ None → ⊥
some_none o x e f = let h : Some x ≡ None = sym e ∙ f in absurd (cc h)

-- stages that are passed in order
module _ (Passed : ℕ → Type 0) (down : (n : ℕ) → Passed (suc n) → Passed n) where
  lower : (m n : ℕ) → n ≤ m → Passed m → Passed n
  lower zero n low p = subst Passed (let e : 0 ≡ n = omega (arith, low) in e) p
  lower (suc m) n low p = number_cases n (suc m) (λ e b. subst Passed (sym e) p) (λ e b. lower m n (omega (arith, low, e)) (down m p))

  -- what stops at two stages stops at one
  pub one_stage : (Stopped : ℕ → LinkFault → Type 0) → ((n : ℕ) (f : LinkFault) → Stopped n f → Passed n)
      → ((n : ℕ) (f : LinkFault) → Stopped n f → Passed (suc n) → ⊥) → (m n : ℕ) (f g : LinkFault) → Stopped m f → Stopped n g → m ≡ n
  one_stage Stopped before clash m n f g a b = number_cases m n (λ e t. e) (λ e t. less e (cases_lt m n))
    where
      less : m ≢ n → (m < n) ⊎ (n ≤ m) → m ≡ n
      less apart (inl low) = absurd (clash m f a (lower n (suc m) (omega (arith, low)) (before n g b)))
      less apart (inr low) = absurd (clash n g b (lower m (suc n) (omega (arith, low, apart)) (before m f a)))

  -- what stops doesn't pass a later stage
  pub never_passes : (Stopped : ℕ → LinkFault → Type 0) → ((n : ℕ) (f : LinkFault) → Stopped n f → Passed (suc n) → ⊥)
      → (m n : ℕ) (f : LinkFault) → suc m ≤ n → Stopped m f → Passed n → ⊥
  never_passes Stopped clash m n f low a p = clash m f a (lower n (suc m) low p)

module _ (is : List Instance) (ps : List SeenPlan) (before : List Service) (b : Bind) where
  -- the stages of a line: a user, a giver, an import, one type, not bound, not used, no ring
  abbrev Passed : ℕ → Type 0
  Passed zero = Unit {0}
  Passed (suc zero) = (k : ℕ) × (instance_named is b.user ≡ Some k)
  Passed (suc (suc zero)) = (k g : ℕ) × (p q : SeenPlan) × NamesBoth is ps b k g p q
  Passed (suc (suc (suc zero))) = (s : Service) × (p q : SeenPlan) × (x : PlanImport) × NamesAll is ps b s p q x
  Passed (suc (suc (suc (suc zero)))) = (s : Service) × Means is ps b s
  Passed (suc (suc (suc (suc (suc zero))))) = (s : Service) × Means is ps b s × (first_bound before s.user s.import ≡ None)
  Passed (suc (suc (suc (suc (suc (suc zero)))))) =
      (s : Service) × Means is ps b s × (first_bound before s.user s.import ≡ None) × (first_used before s.giver ≡ None)
  Passed (suc (suc (suc (suc (suc (suc (suc zero))))))) = (s : Service) × IsRightBind is ps before b s
  Passed (suc (suc (suc (suc (suc (suc (suc (suc n)))))))) = ⊥

  abbrev Stopped : ℕ → LinkFault → Type 0
  Stopped zero f = (f ≡ faults.NoInstance b.line b.user) × (instance_named is b.user ≡ None)
  Stopped (suc zero) f = (f ≡ faults.NoInstance b.line b.giver) × (k : ℕ) × (instance_named is b.user ≡ Some k) × (instance_named is b.giver ≡ None)
  Stopped (suc (suc zero)) f =
      (f ≡ faults.NoImport b.line b.import)
      × (k g : ℕ) × (p q : SeenPlan) × NamesBoth is ps b k g p q × (import_named p.imports b.import ≡ None)
  Stopped (suc (suc (suc zero))) f =
      (s : Service) × (p q : SeenPlan) × (x : PlanImport) × (want got : Ty) × (f ≡ faults.TypeDiffers b.line want got) × NamesAll is ps b s p q x
      × (type_of want ≡ type_of x.ty) × (type_of got ≡ type_of q.outcome) × (type_of x.ty ≢ type_of q.outcome)
  Stopped (suc (suc (suc (suc zero)))) f =
      (s : Service) × (first : ℕ) × (f ≡ faults.BoundTwice first b.line) × Means is ps b s × (first_bound before s.user s.import ≡ Some first)
  Stopped (suc (suc (suc (suc (suc zero))))) f =
      (s : Service) × (first : ℕ) × (f ≡ faults.UsedTwice first b.line) × Means is ps b s × (first_bound before s.user s.import ≡ None)
      × (first_used before s.giver ≡ Some first)
  Stopped (suc (suc (suc (suc (suc (suc zero)))))) f =
      (s : Service) × (f ≡ faults.Loop b.line) × Means is ps b s × (first_bound before s.user s.import ≡ None)
      × (first_used before s.giver ≡ None) × HasRing (s ∷ before)
  Stopped (suc (suc (suc (suc (suc (suc (suc n))))))) f = ⊥

  down : (n : ℕ) → Passed (suc n) → Passed n
  down zero p = tt
  down (suc zero) (k, g, p, q, both) = (k, both.finds_user)
  down (suc (suc zero)) (s, p, q, x, all) = (s.user, s.giver, p, q, all.both)
  down (suc (suc (suc zero))) (s, (p, q, x, line, all, type)) = (s, p, q, x, all)
  down (suc (suc (suc (suc zero)))) (s, means, bound) = (s, means)
  down (suc (suc (suc (suc (suc zero))))) (s, means, bound, used) = (s, means, bound)
  down (suc (suc (suc (suc (suc (suc zero)))))) (s, right) = (s, right.means, right.unbound, right.unused)
  down (suc (suc (suc (suc (suc (suc (suc n))))))) p = absurd p

  reached : (n : ℕ) (f : LinkFault) → Stopped n f → Passed n
  reached zero f a = tt
  reached (suc zero) f (e, k, user, giver) = (k, user)
  reached (suc (suc zero)) f (e, k, g, p, q, both, none) = (k, g, p, q, both)
  reached (suc (suc (suc zero))) f (s, p, q, x, want, got, e, all, wants, gets, differ) = (s, p, q, x, all)
  reached (suc (suc (suc (suc zero)))) f (s, first, e, means, bound) = (s, means)
  reached (suc (suc (suc (suc (suc zero))))) f (s, first, e, means, bound, used) = (s, means, bound)
  reached (suc (suc (suc (suc (suc (suc zero)))))) f (s, e, means, bound, used, ring) = (s, means, bound, used)
  reached (suc (suc (suc (suc (suc (suc (suc n))))))) f a = absurd a

  -- what the names of a line mean is one thing
  record OneBoth (k g l h : ℕ) (p q r t : SeenPlan) : Type 0 where
    user : k ≡ l
    giver : g ≡ h
    of_user : p ≡ r
    of_giver : q ≡ t

  one_both : (k g l h : ℕ) (p q r t : SeenPlan) → NamesBoth is ps b k g p q → NamesBoth is ps b l h r t → OneBoth k g l h p q r t
  one_both k g l h p q r t one other =
      let user : k ≡ l = same_some (instance_named is b.user) k l one.finds_user other.finds_user in
      let giver : g ≡ h = same_some (instance_named is b.giver) g h one.finds_giver other.finds_giver in
      record {
        user = user;
        giver = giver;
        of_user = same_at ps k l p r user one.of_user other.of_user;
        of_giver = same_at ps g h q t giver one.of_giver other.of_giver;
      }

  record OneAll (s z : Service) (p q r t : SeenPlan) (x y : PlanImport) : Type 0 where
    both : OneBoth s.user s.giver z.user z.giver p q r t
    number : s.import ≡ z.import
    import : x ≡ y

  one_all : (s z : Service) (p q r t : SeenPlan) (x y : PlanImport) → NamesAll is ps b s p q x → NamesAll is ps b z r t y → OneAll s z p q r t x y
  one_all s z p q r t x y one other =
      let both = one_both s.user s.giver z.user z.giver p q r t one.both other.both in
      let number : s.import ≡ z.import =
      same_some (import_named p.imports b.import) s.import z.import one.named (ap (λ (m : SeenPlan). import_named m.imports b.import) both.of_user ∙ other.named) in
      let there : slice_get p.imports z.import ≡ Some y = ap (λ (m : SeenPlan). slice_get m.imports z.import) both.of_user ∙ other.import in
      record { both = both; number = number; import = same_at p.imports s.import z.import x y number one.import there }

  pub one_meaning : (s z : Service) → Means is ps b s → Means is ps b z → s ≡ z
  one_meaning s z (p, q, x, line, all, type) (r, t, y, other_line, others, other_type) =
      let one = one_all s z p q r t x y all others in
      let lines : s.line ≡ z.line = line ∙ sym other_line in
      λ i. record { line = lines i; user = one.both.user i; import = one.number i; giver = one.both.giver i }

  clash : (n : ℕ) (f : LinkFault) → Stopped n f → Passed (suc n) → ⊥
  clash zero f (e, none) (k, user) = some_none (instance_named is b.user) k user none
  clash (suc zero) f (e, k, user, none) (l, g, p, q, both) = some_none (instance_named is b.giver) g both.finds_giver none
  clash (suc (suc zero)) f (e, k, g, p, q, both, none) (s, r, t, x, all) =
      let one = one_both k g s.user s.giver p q r t both all.both in
      some_none (import_named r.imports b.import) s.import all.named (ap (λ (m : SeenPlan). import_named m.imports b.import) (sym one.of_user) ∙ none)
  clash (suc (suc (suc zero))) f (s, p, q, x, want, got, e, all, wants, gets, differ) (z, (r, t, y, line, others, type)) =
      let one = one_all s z p q r t x y all others in
      differ
      (ap (λ (i : PlanImport). type_of i.ty) one.import ∙ (type ∙ ap (λ (m : SeenPlan). type_of m.outcome) (sym one.both.of_giver)))
  clash (suc (suc (suc (suc zero)))) f (s, first, e, means, bound) (z, other, none) =
      let same = one_meaning s z means other in
      some_none (first_bound before s.user s.import) first bound (ap (λ (r : Service). first_bound before r.user r.import) same ∙ none)
  clash (suc (suc (suc (suc (suc zero))))) f (s, first, e, means, bound, used) (z, other, unbound, none) =
      let same = one_meaning s z means other in
      some_none (first_used before s.giver) first used (ap (λ (r : Service). first_used before r.giver) same ∙ none)
  clash (suc (suc (suc (suc (suc (suc zero)))))) f (s, e, means, bound, used, ring) (z, right) =
      right.ringless (subst (λ (r : Service). HasRing (r ∷ before)) (one_meaning s z means right.means) ring)
  clash (suc (suc (suc (suc (suc (suc (suc n))))))) f a p = absurd a

  -- the stage at which a line stops, by its fault
  stops : (f : LinkFault) → IsWrongBind is ps before b f → (n : ℕ) × (suc n ≤ 7) × Stopped n f
  stops (faults.NoInstance line name) (at, inl (none, same)) = (0, omega arith, ((λ i. faults.NoInstance (at i) (same i)), none))
  stops (faults.NoInstance line name) (at, inr (k, user, none, same)) = (1, omega arith, ((λ i. faults.NoInstance (at i) (same i)), k, user, none))
  stops (faults.NoImport line name) (at, same, (k, g, p, q, both, none)) = (2, omega arith, ((λ i. faults.NoImport (at i) (same i)), k, g, p, q, both, none))
  stops (faults.TypeDiffers line want got) (s, p, q, x, at, all, wants, gets, differ) =
      (3, omega arith, (s, p, q, x, want, got, ap (λ (n : ℕ). faults.TypeDiffers n want got) at, all, wants, gets, differ))
  stops (faults.BoundTwice first second) (s, at, means, bound) = (4, omega arith, (s, first, ap (faults.BoundTwice first) at, means, bound))
  stops (faults.UsedTwice first second) (s, at, means, bound, used) = (5, omega arith, (s, first, ap (faults.UsedTwice first) at, means, bound, used))
  stops (faults.Loop line) (s, at, means, bound, used, ring) = (6, omega arith, (s, ap faults.Loop at, means, bound, used, ring))
  stops (faults.Form line) w = absurd w
  stops (faults.Unplaced name) w = absurd w
  stops (faults.OpenTwice name first second) w = absurd w
  stops (faults.NotGround name) w = absurd w
  stops (faults.TooHeavy weight) w = absurd w
  stops (faults.TooLarge size ports) w = absurd w
  stops faults.NoMemory w = absurd w

  same : (n : ℕ) (f g : LinkFault) → Stopped n f → Stopped n g → IsSameFault f g
  same zero f g (e, none) (h, absent) = both_are f g _ _ e h refl
  same (suc zero) f g (e, k, user, none) (h, l, other, absent) = both_are f g _ _ e h refl
  same (suc (suc zero)) f g a c = both_are f g _ _ a.0 c.0 refl
  same (suc (suc (suc zero))) f g (s, p, q, x, want, got, e, all, wants, gets, differ) (z, r, t, y, want', got', h, others, wants', gets', differ') =
      let one = one_all s z p q r t x y all others in
      subst (λ (k : LinkFault). IsSameFault k g) (sym e)
      (subst (λ (k : LinkFault). IsSameFault (faults.TypeDiffers b.line want got) k) (sym h) (
        refl,
        wants ∙ (ap (λ (i : PlanImport). type_of i.ty) one.import ∙ sym wants'),
        gets ∙ (ap (λ (m : SeenPlan). type_of m.outcome) one.both.of_giver ∙ sym gets'),
      ))
  same (suc (suc (suc (suc zero)))) f g (s, first, e, means, bound) (z, second, h, other, again) =
      let same = one_meaning s z means other in
      both_are f g _ _ e h
      (ap (λ (n : ℕ). faults.BoundTwice n b.line)
      (same_some (first_bound before s.user s.import) first second bound (ap (λ (r : Service). first_bound before r.user r.import) same ∙ again)))
  same (suc (suc (suc (suc (suc zero))))) f g (s, first, e, means, bound, used) (z, second, h, other, unbound, again) =
      let same = one_meaning s z means other in
      both_are f g _ _ e h
      (ap (λ (n : ℕ). faults.UsedTwice n b.line)
      (same_some (first_used before s.giver) first second used (ap (λ (r : Service). first_used before r.giver) same ∙ again)))
  same (suc (suc (suc (suc (suc (suc zero)))))) f g a c = both_are f g _ _ a.1 c.1 refl
  same (suc (suc (suc (suc (suc (suc (suc n))))))) f g a c = absurd a

  -- a wrong line has one fault, and a right line has none
  pub one_wrong : (f g : LinkFault) → IsWrongBind is ps before b f → IsWrongBind is ps before b g → IsSameFault f g
  one_wrong f g a c =
      let (m, low, one) = stops f a in
      let (n, small, other) = stops g c in
      let at : m ≡ n = one_stage Passed down Stopped reached clash m n f g one other in
      same n f g (subst (λ (k : ℕ). Stopped k f) at one) other

  pub right_or_wrong : (s : Service) (f : LinkFault) → IsRightBind is ps before b s → IsWrongBind is ps before b f → ⊥
  right_or_wrong s f right wrong = let (m, low, one) = stops f wrong in never_passes Passed down Stopped clash m 7 f low one (s, right)
