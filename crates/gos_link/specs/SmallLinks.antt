-- Small builds: one whose links are right, and one for each fault of links.
--
-- Read first: Linked, Faces. The instances are a, b and c; plans are given by their faces, and have no part and no joint.
use Rattle.std.specs.Prelude.{◌≡◌, ℕ, List, [], ◌∷◌, codes}
use Rattle.gos_types.specs.declared.types.Ty.{Ty}
use Rattle.gos_types.specs.declared.types.Ty.TheVariants.{Com as AtCom, Exp as AtExp, Var as AtVar}
use Rattle.gos_types.specs.Types.{type_of, Com, Fun}
use Rattle.gos_lex.specs.Lines.{Word}
use Rattle.gos_plan.specs.declared.plan.PlanImport.{PlanImport}
use Rattle.gos_plan.specs.Seen.{SeenPlan}
use Rattle.gos_link.specs.declared.build.Instance.{Instance}
use Rattle.gos_link.specs.declared.build.Bind.{Bind}
use Rattle.gos_link.specs.declared.build.Build.{Build}
use Rattle.gos_link.specs.declared.fault.LinkFault.{LinkFault}
use Rattle.gos_link.specs.declared.fault.LinkFault.TheVariants as faults
use Rattle.gos_link.specs.Linked.{SeenLinks, AreLinks, IsUnlinked}

-- an instance of this name, of a line, and a line that binds the import of a user to a giver
abbrev pub instance : ℕ → Word → Instance
instance line name = record { line = line; name = name; source = codes "s"; object = codes "o" }

abbrev pub bind : ℕ → Word → Word → Word → Bind
bind line user import giver = record { line = line; user = user; import = import; giver = giver }

-- a plan without part and joint, of these imports and this result; and an import of a command
abbrev pub shell : List PlanImport → Ty → SeenPlan
shell imports outcome = record { weight = 0; imports = imports; outcome = outcome; parts = []; joints = [] }

abbrev pub command : Word → PlanImport
command name = record { name = name; ty = AtCom }

-- two instances, and three
abbrev pub two : List Instance
two = instance 2 (codes "a") ∷ instance 3 (codes "b") ∷ []

abbrev pub three : List Instance
three = instance 2 (codes "a") ∷ instance 3 (codes "b") ∷ instance 4 (codes "c") ∷ []

-- the build has these instances and these bind lines, and its root is a, by line 9
pub record Says (b : Build) (is : List Instance) (bs : List Bind) : Type 0 where
  pub instances : b.instances.items ≡ is
  pub binds : b.binds.items ≡ bs
  pub root : b.root ≡ codes "a"
  pub line : b.root_line ≡ 9

-- builds of these lines, with these plans, have these links or this fault
abbrev pub Linked : List Instance → List Bind → List SeenPlan → SeenLinks → Type 0
Linked is bs ps links = (b : Build) → Says b is bs → AreLinks b ps links

abbrev pub Refused : List Instance → List Bind → List SeenPlan → LinkFault → Type 0
Refused is bs ps fault = (b : Build) → Says b is bs → IsUnlinked b ps fault

-- a, whose import c instance b serves
abbrev pub OneIsServed : Type 0
OneIsServed =
    Linked two (bind 5 (codes "a") (codes "c") (codes "b") ∷ []) (shell (command (codes "c") ∷ []) AtCom ∷ shell [] AtCom ∷ [])
    (record { services = record { line = 5; user = 0; import = 0; giver = 1 } ∷ []; root = 0 })

-- a line names no instance as its user, or as its giver; or an import that there isn't
abbrev pub NoUser : Type 0
NoUser =
    Refused two (bind 5 (codes "z") (codes "c") (codes "b") ∷ []) (shell (command (codes "c") ∷ []) AtCom ∷ shell [] AtCom ∷ [])
    (faults.NoInstance 5 (codes "z"))

abbrev pub NoGiver : Type 0
NoGiver =
    Refused two (bind 5 (codes "a") (codes "c") (codes "z") ∷ []) (shell (command (codes "c") ∷ []) AtCom ∷ shell [] AtCom ∷ [])
    (faults.NoInstance 5 (codes "z"))

abbrev pub NoSuchImport : Type 0
NoSuchImport =
    Refused two (bind 5 (codes "a") (codes "d") (codes "b") ∷ []) (shell (command (codes "c") ∷ []) AtCom ∷ shell [] AtCom ∷ [])
    (faults.NoImport 5 (codes "d"))

-- an expression for a command
abbrev pub TypesDiffer : Type 0
TypesDiffer =
    Refused two (bind 5 (codes "a") (codes "c") (codes "b") ∷ []) (shell (command (codes "c") ∷ []) AtCom ∷ shell [] (AtExp 8) ∷ [])
    (faults.TypeDiffers 5 AtCom (AtExp 8))

-- b and c for one import, and b for two
abbrev pub IsBoundTwice : Type 0
IsBoundTwice =
    Refused three (bind 5 (codes "a") (codes "c") (codes "b") ∷ bind 6 (codes "a") (codes "c") (codes "c") ∷ [])
    (shell (command (codes "c") ∷ []) AtCom ∷ shell [] AtCom ∷ shell [] AtCom ∷ []) (faults.BoundTwice 5 6)

abbrev pub IsUsedTwice : Type 0
IsUsedTwice =
    Refused two (bind 5 (codes "a") (codes "c") (codes "b") ∷ bind 6 (codes "a") (codes "d") (codes "b") ∷ [])
    (shell (command (codes "c") ∷ command (codes "d") ∷ []) AtCom ∷ shell [] AtCom ∷ []) (faults.UsedTwice 5 6)

-- b serves itself
abbrev pub IsLoop : Type 0
IsLoop =
    Refused two (bind 5 (codes "b") (codes "c") (codes "b") ∷ []) (shell [] AtCom ∷ shell (command (codes "c") ∷ []) AtCom ∷ []) (faults.Loop 5)

-- there is no a, which is to be the root; and b serves nothing
abbrev pub NoRoot : Type 0
NoRoot = Refused (instance 2 (codes "b") ∷ []) [] (shell [] AtCom ∷ []) (faults.NoInstance 9 (codes "a"))

abbrev pub IsUnplaced : Type 0
IsUnplaced = Refused two [] (shell [] AtCom ∷ shell [] AtCom ∷ []) (faults.Unplaced (codes "b"))

-- the import a stays, and the root's port is a
abbrev pub IsOpenTwice : Type 0
IsOpenTwice =
    Refused (instance 2 (codes "a") ∷ []) [] (shell (command (codes "a") ∷ []) AtCom ∷ []) (faults.OpenTwice (codes "a") (codes "a") (codes "a"))

-- the root's result is a variable; and the import d, which stays, is a function
abbrev pub ResultIsNotGround : Type 0
ResultIsNotGround = Refused (instance 2 (codes "a") ∷ []) [] (shell [] (AtVar 8) ∷ []) (faults.NotGround (codes "a"))

abbrev pub ImportIsNotGround : Type 0
ImportIsNotGround =
    (ty : Ty) → type_of ty ≡ Fun Com Com
    → Refused (instance 2 (codes "a") ∷ []) [] (shell (record { name = codes "d"; ty = ty } ∷ []) AtCom ∷ []) (faults.NotGround (codes "d"))
