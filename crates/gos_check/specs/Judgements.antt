-- The weight of a module, or its first fault.
--
-- Read first: Judging. The imports come first, then the type of the result, the body, the body's type against that of the
-- result, and the weight.
use Rattle.std.specs.Prelude.{ℕ, List, [], ◌∷◌, ◌++◌, Option, Some, None, Ok, Err, nat_lt, if◌then◌else◌}
use Rattle.std.specs.Str.{bytes_eq}
use Rattle.gos_lex.specs.declared.token.Span.{Span}
use Rattle.gos_types.specs.Types.{type_of}
use Rattle.gos_syntax.specs.Trees.{tree_of}
use Rattle.gos_syntax.specs.Modules.{SeenImport, SeenModule}
use Rattle.gos_model.specs.Weight.{weight}
use Rattle.gos_model.specs.Sources.{program_of}
use Rattle.gos_check.specs.Faults.{Repeated, TooHeavy, Found, after}
use Rattle.gos_check.specs.Written.{written}
use Rattle.gos_check.specs.Demands.{demanded}
use Rattle.gos_check.specs.Judging.{judged}

-- the place of the first import of this name
abbrev pub import_place : List SeenImport → List ℕ → Option Span
import_place [] x = None
import_place (i ∷ is) x = if bytes_eq i.name x then Some i.name_span else import_place is x

-- a name that no import before has
abbrev pub new_name : SeenImport → Option Span → Found (Unit {0})
new_name i None = Ok tt
new_name i (Some first) = Err (Repeated i.name first i.name_span)

-- imports after others: of each its name, and then its type
abbrev pub imports_judged : List SeenImport → List SeenImport → Found (Unit {0})
imports_judged before [] = Ok tt
imports_judged before (i ∷ is) =
    after (new_name i (import_place before i.name)) (λ _. after (written i.ty_span (type_of i.ty)) (λ _. imports_judged (before ++ i ∷ []) is))

-- a weight, where it is no greater than is allowed
abbrev pub light : ℕ → Found ℕ
light w = if nat_lt 8192 w then Err (TooHeavy w) else Ok w

-- the weight of a module, or its first fault
abbrev pub module_judged : SeenModule → Found ℕ
module_judged m =
    after (imports_judged [] m.imports) (λ _.
    after (written m.result_span (type_of m.result)) (λ _.
    after (judged (program_of m).imports [] (tree_of m.body.form m.body.span)) (λ t.
    after (demanded m.body.span (type_of m.result) t) (λ _.
    light (weight (program_of m).imports (program_of m).body)))))
