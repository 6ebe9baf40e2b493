-- What the bind lines of a build mean, and the first of them that is wrong.
--
-- Read first: BuildFile; Seen and Plans of gos_plan. There is a plan for each instance, in the order of their lines.
-- `Service` is that of services.rt: that one instance serves an import of another.
use Rattle.std.specs.Prelude.{◌≡◌, ◌≢◌, ◌⊎◌, ◌&&◌, ℕ, List, [], ◌∷◌, ◌++◌, Option, Some, None, position, slice_get, nat_eq, if◌then◌else◌}
use Rattle.std.specs.Str.{bytes_eq}
use Rattle.gos_types.specs.Types.{type_of}
use Rattle.gos_lex.specs.Lines.{Word}
use Rattle.gos_plan.specs.declared.plan.PlanImport.{PlanImport}
use Rattle.gos_plan.specs.Seen.{SeenPlan}
use Rattle.gos_link.specs.declared.build.Instance.{Instance}
use Rattle.gos_link.specs.declared.build.Bind.{Bind}
use Rattle.gos_link.specs.declared.services.Service.{Service}
use Rattle.gos_link.specs.declared.fault.LinkFault.{LinkFault}
use Rattle.gos_link.specs.declared.fault.LinkFault.TheVariants as faults

-- the number of the first instance, or of the first import, of this name
abbrev pub instance_named : List Instance → Word → Option ℕ
instance_named instances name = position (λ i. bytes_eq i.name name) instances

abbrev pub import_named : List PlanImport → Word → Option ℕ
import_named imports name = position (λ i. bytes_eq i.name name) imports

-- the line names a user and a giver that there are, of these numbers and with these plans
pub record NamesBoth (is : List Instance) (ps : List SeenPlan) (b : Bind) (user giver : ℕ) (p q : SeenPlan) : Type 0 where
  pub finds_user : instance_named is b.user ≡ Some user
  pub finds_giver : instance_named is b.giver ≡ Some giver
  pub of_user : slice_get ps user ≡ Some p
  pub of_giver : slice_get ps giver ≡ Some q

-- and an import that there is
pub record NamesAll (is : List Instance) (ps : List SeenPlan) (b : Bind) (s : Service) (p q : SeenPlan) (x : PlanImport) : Type 0 where
  pub both : NamesBoth is ps b s.user s.giver p q
  pub named : import_named p.imports b.import ≡ Some s.import
  pub import : slice_get p.imports s.import ≡ Some x

-- the line means that the giver serves the import, whose type is that of the giver's result
abbrev pub Means : List Instance → List SeenPlan → Bind → Service → Type 0
Means is ps b s =
    (p : SeenPlan) × (q : SeenPlan) × (x : PlanImport) × (s.line ≡ b.line) × NamesAll is ps b s p q x × (type_of x.ty ≡ type_of q.outcome)

-- the line of the first service of this import, and of the first by this giver
abbrev pub first_bound : List Service → ℕ → ℕ → Option ℕ
first_bound [] user import = None
first_bound (s ∷ ss) user import = if nat_eq s.user user && nat_eq s.import import then Some s.line else first_bound ss user import

abbrev pub first_used : List Service → ℕ → Option ℕ
first_used [] giver = None
first_used (s ∷ ss) giver = if nat_eq s.giver giver then Some s.line else first_used ss giver

-- one of the services
abbrev pub HasService : List Service → Service → Type 0
HasService [] s = ⊥
HasService (t ∷ ts) s = (t ≡ s) ⊎ HasService ts s

-- instances of which each is the giver of the next
pub data Gives (ss : List Service) : ℕ → ℕ → Type 0 where
  once : (s : Service) → HasService ss s → Gives ss s.giver s.user
  on : (a b c : ℕ) → Gives ss a b → Gives ss b c → Gives ss a c

-- a ring of them
abbrev pub HasRing : List Service → Type 0
HasRing ss = (k : ℕ) × Gives ss k k

-- the line is right after these, and means this
pub record IsRightBind (is : List Instance) (ps : List SeenPlan) (before : List Service) (b : Bind) (s : Service) : Type 0 where
  pub means : Means is ps b s
  pub unbound : first_bound before s.user s.import ≡ None
  pub unused : first_used before s.giver ≡ None
  pub ringless : HasRing (s ∷ before) → ⊥

-- Why the line is wrong after these: a name of no instance, of no import; types that differ; an import that is bound already, a
-- giver that is used already, a ring. Where it is wrong in two ways the first of this order is told.
abbrev pub IsWrongBind : List Instance → List SeenPlan → List Service → Bind → LinkFault → Type 0
IsWrongBind is ps before b (faults.NoInstance line name) =
    (line ≡ b.line)
    × (((instance_named is b.user ≡ None) × (name ≡ b.user))
    ⊎ ((k : ℕ) × (instance_named is b.user ≡ Some k) × (instance_named is b.giver ≡ None) × (name ≡ b.giver)))
IsWrongBind is ps before b (faults.NoImport line name) =
    (line ≡ b.line) × (name ≡ b.import)
    × ((user giver : ℕ) × (p q : SeenPlan) × NamesBoth is ps b user giver p q × (import_named p.imports b.import ≡ None))
IsWrongBind is ps before b (faults.TypeDiffers line want got) =
    (s : Service) × (p q : SeenPlan) × (x : PlanImport) × (line ≡ b.line) × NamesAll is ps b s p q x
    × (type_of want ≡ type_of x.ty) × (type_of got ≡ type_of q.outcome) × (type_of x.ty ≢ type_of q.outcome)
IsWrongBind is ps before b (faults.BoundTwice first second) =
    (s : Service) × (second ≡ b.line) × Means is ps b s × (first_bound before s.user s.import ≡ Some first)
IsWrongBind is ps before b (faults.UsedTwice first second) =
    (s : Service) × (second ≡ b.line) × Means is ps b s × (first_bound before s.user s.import ≡ None)
    × (first_used before s.giver ≡ Some first)
IsWrongBind is ps before b (faults.Loop line) =
    (s : Service) × (line ≡ b.line) × Means is ps b s × (first_bound before s.user s.import ≡ None)
    × (first_used before s.giver ≡ None) × HasRing (s ∷ before)
IsWrongBind is ps before b fault = ⊥

-- After these services, the lines mean these, and then end or have their first wrong line.
abbrev pub BindsOn : List Instance → List SeenPlan → List Service → List Bind → List Service → Option LinkFault → Type 0
BindsOn is ps before [] [] ending = ending ≡ None
BindsOn is ps before [] (s ∷ ss) ending = ⊥
BindsOn is ps before (b ∷ bs) [] None = ⊥
BindsOn is ps before (b ∷ bs) [] (Some fault) = IsWrongBind is ps before b fault
BindsOn is ps before (b ∷ bs) (s ∷ ss) ending = IsRightBind is ps before b s × BindsOn is ps (before ++ s ∷ []) bs ss ending
