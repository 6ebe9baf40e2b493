-- From the plan of a checked module to the plan and the object file of its source.
use Rattle.std.proofs.Common.{◌≡◌, ◌∙◌, ◌≤◌, ℕ, List, Option, Some, None, Result, Ok, Err, ap, arith, length, map, refl, subst}
use Rattle.std.proofs.lemmas.List.{length-map}
use Rattle.std.specs.Prelude.{IfSome, IfOk}
use Rattle.gos_outside.specs.Files.{Files, bytes_at, with_file}
use Rattle.gos_lex.specs.Lines.{Word}
use Rattle.gos_types.specs.Types.{Type', type_of}
use Rattle.gos_syntax.specs.Modules.{SeenModule}
use Rattle.gos_model.specs.Moves.{Program}
use Rattle.gos_model.specs.Sources.{import_of, program_of}
use Rattle.gos_model.specs.Weight.{weight}
use Rattle.gos_check.specs.Accepted.{weighed}
use Rattle.gos_check.specs.Linearity.{StandsFor}
use Rattle.gos_check.specs.Numbering.{typed_term}
use Rattle.gos_check.specs.Checked.{SeenLinear, IsChecked, program_in}
use Rattle.gos_check.specs.Nodes.{Numbered, node_seen}
use Rattle.gos_plan.specs.Plans.{Plan}
use Rattle.gos_plan.specs.Seen.{SeenPlan, plan_of}
use Rattle.gos_plan.specs.ObjectText.{text_of}
use Rattle.gos_plan.specs.ObjectFaults.{IsRead}
use Rattle.gos_realises.specs.realises.Modules.{RealisesModule}
use Rattle.gos_realises.specs.realises.Slim.{IsSlim}
use Rattle.gos_compile.specs.Wiring.{IsPlanOf}
use Rattle.gos_terms.specs.theorem.Modules.{ModuleIsRealised}
use Rattle.gos_command.specs.declared.report.Report.{Report}
use Rattle.gos_command.specs.declared.report.Report.TheVariants as reports
use Rattle.gos_tool.specs.objects.Checked.{IsSource}
use Rattle.gos_tool.specs.objects.Compiled.{IsPlanOfModule, IsCompiled}
use Rattle.gos_tool.specs.objects.Typed.{IsTypedAs, IsPlanFor}
use Rattle.gos_tool.proofs.lemmas.objects.ImportLemmas.{few_imports}

-- a checked module has the imports of the source's
pub few_of : (text : List ℕ) (m : SeenModule) (linear : SeenLinear) → IsSource text m → program_in linear ≡ program_of m → length linear.imports ≤ 64
few_of text m linear source program =
    let limit = few_imports text source.tokens m source.parsed in
    let same : length (map import_of linear.imports) ≡ length (map import_of m.imports) = ap (λ (p : Program). length p.imports) program in
    let one = length-map linear.imports import_of in
    let other = length-map m.imports import_of in
    omega (arith, limit, same, one, other)

pub few : (text : List ℕ) (linear : SeenLinear) → IsTypedAs text linear → length linear.imports ≤ 64
few text linear typed = few_of text typed.made linear typed.says.source typed.program

-- what compiling makes is the plan of its module
pub plan_is_for : {E : Type 0} → ModuleIsRealised → (linear : SeenLinear) → IsChecked linear → (r : Result SeenPlan E)
    → IfOk r (λ p. IsPlanOf (program_in linear).imports (type_of linear.result) linear.weight (node_seen linear.term) (plan_of p))
    → IfOk r (λ p. IsSlim (plan_of p)) → IfOk r (λ p. length linear.imports ≤ 64 → IsRead (text_of (plan_of p)) (plan_of p))
    → IfOk r (λ p. IsPlanFor linear (plan_of p))
plan_is_for realised linear checked (Ok p) made slim read =
    record {
      made = made;
      slim = slim;
      read_back = read;
      realises = realised linear linear.weight (plan_of p) checked made slim;
    }
plan_is_for realised linear checked (Err e) made slim read = tt

-- the plan of a checked module is that of the source's module
pub plan_is : (source : List ℕ) (linear : SeenLinear) (typed : IsTypedAs source linear) (plan : Plan) → IsPlanFor linear plan → IsPlanOfModule typed.made plan
plan_is source linear typed plan is =
    let m = typed.made in
    let term = node_seen linear.term in
    let of_program = subst (λ (p : Program). IsPlanOf p.imports (type_of linear.result) linear.weight term plan) typed.program is.made in
    let of_type = subst (λ (t : Type'). IsPlanOf (program_of m).imports t linear.weight term plan) typed.outcome of_program in
    let of_weight = subst (λ (w : ℕ). IsPlanOf (program_of m).imports (type_of m.result) w term plan) typed.weight of_type in
    record {
      stands = subst (λ (n : Numbered). StandsFor (program_of m) n) typed.one typed.term;
      made = subst (λ (n : Numbered). IsPlanOf (program_of m).imports (type_of m.result) (weighed m) n plan) typed.one of_weight;
      slim = is.slim;
      read = is.read_back (few source linear typed);
      realises = subst (λ (p : Program). RealisesModule plan p.body) typed.program is.realises;
    }

-- a plan of a module is one of each module with the same program, result and typed term
pub plan_too : (m other : SeenModule) (plan : Plan) → program_of m ≡ program_of other → type_of m.result ≡ type_of other.result
    → typed_term m ≡ typed_term other → IsPlanOfModule m plan → IsPlanOfModule other plan
plan_too m other plan program result term is =
    record {
      stands = subst (λ (n : Numbered). StandsFor (program_of other) n) term (subst (λ (p : Program). StandsFor p (typed_term m)) program is.stands);
      made = subst (λ (n : Numbered). IsPlanOf (program_of other).imports (type_of other.result) (weighed other) n plan) term
          (subst (λ (t : Type'). IsPlanOf (program_of other).imports t (weighed other) (typed_term m) plan) result
          (subst (λ (p : Program). IsPlanOf p.imports (type_of m.result) (weight p.imports p.body) (typed_term m) plan) program is.made));
      slim = is.slim;
      read = is.read;
      realises = subst (λ (p : Program). RealisesModule plan p.body) program is.realises;
    }

-- the object was written
pub compiled : (told new : Option Files) (source object : Word) (linear : SeenLinear) (plan : Plan) (report : Report)
    → IfSome told (λ files. IsTypedAs (bytes_at files source) linear) → IsPlanFor linear plan → new ≡ with_file object (text_of plan) told
    → report ≡ reports.Weight linear.weight → IfSome told (λ files. IsCompiled files new source object report)
compiled None new source object linear plan report typed is wrote tells = tt
compiled (Some files) new source object linear plan report typed is wrote tells =
    record {
      made = typed.made;
      text = text_of plan;
      says = typed.says;
      compiled = record { plan = plan; compiled = plan_is (bytes_at files source) linear typed plan is; is = refl };
      wrote = wrote;
      tells = tells ∙ ap (λ (n : ℕ). reports.Weight n) typed.weight;
    }
