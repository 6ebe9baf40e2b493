-- The imports that stay, as the program finds them.
use Rattle.std.specs.Prelude.{ℕ, ◌+◌, ◌&&◌, List, [], ◌∷◌, ◌++◌, Option, Some, None, position, nat_eq}
use Rattle.gos_model.specs.Typing.{Imported}
use Rattle.gos_plan.specs.Plans.{Plan}
use Rattle.gos_plan.specs.Seen.{import_of}
use Rattle.gos_plan.specs.Joining.{LeftImport}
use Rattle.gos_link.specs.declared.services.Service.{Service}
use Rattle.gos_link.specs.declared.opens.Open.{Open}

abbrev pub open_seen : Open → LeftImport
open_seen o = record { plan = o.plan; number = o.number; import = import_of o.import.now }

-- the number of the first service of an import
abbrev pub number_bound : List Service → ℕ → ℕ → Option ℕ
number_bound ss user import = position (λ s. nat_eq s.user user && nat_eq s.import import) ss

-- an import before others, unless it is served
abbrev pub if_open : Option ℕ → LeftImport → List LeftImport → List LeftImport
if_open None l ls = l ∷ ls
if_open (Some t) l ls = ls

-- the imports that stay, of plan k from number i on, and of all plans from number k on
abbrev pub opens_in : List Service → ℕ → ℕ → List Imported → List LeftImport
opens_in ss k i [] = []
opens_in ss k i (x ∷ xs) = if_open (number_bound ss k i) (record { plan = k; number = i; import = x }) (opens_in ss k (i + 1) xs)

abbrev pub opens_among : List Service → ℕ → List Plan → List LeftImport
opens_among ss k [] = []
opens_among ss k (p ∷ ps) = opens_in ss k 0 p.imports ++ opens_among ss (k + 1) ps
