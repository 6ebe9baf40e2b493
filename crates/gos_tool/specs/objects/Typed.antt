-- What is known of a source that was checked, and of the plan that it is compiled to.
--
-- Read first: Checked; Checked of gos_check (the module that checking makes); Wiring of gos_compile (the plan of a module);
-- Modules of gos_realises (what it is to realise a module).
use Rattle.std.specs.Prelude.{◌≡◌, ◌≤◌, ℕ, List, length}
use Rattle.gos_types.specs.Types.{type_of}
use Rattle.gos_syntax.specs.Modules.{SeenModule}
use Rattle.gos_model.specs.Sources.{program_of}
use Rattle.gos_check.specs.Accepted.{weighed}
use Rattle.gos_check.specs.Checked.{SeenLinear, program_in}
use Rattle.gos_check.specs.Nodes.{node_seen}
use Rattle.gos_check.specs.Linearity.{StandsFor}
use Rattle.gos_check.specs.Numbering.{typed_term}
use Rattle.gos_plan.specs.Plans.{Plan}
use Rattle.gos_plan.specs.ObjectText.{text_of}
use Rattle.gos_plan.specs.ObjectFaults.{IsRead}
use Rattle.gos_realises.specs.realises.Modules.{RealisesModule}
use Rattle.gos_realises.specs.realises.Slim.{IsSlim}
use Rattle.gos_compile.specs.Wiring.{IsPlanOf}
use Rattle.gos_tool.specs.objects.Checked.{SaysModule}

-- the text is that of a module that is accepted, for which this checked module stands, and its term is the module's
pub record IsTypedAs (text : List ℕ) (linear : SeenLinear) : Type 0 where
  pub made : SeenModule
  pub says : SaysModule text made
  pub program : program_in linear ≡ program_of made
  pub outcome : type_of linear.result ≡ type_of made.result
  pub weight : linear.weight ≡ weighed made
  pub term : StandsFor (program_of made) (node_seen linear.term)
  pub one : node_seen linear.term ≡ typed_term made

-- The plan of this checked module. It is slim and realises the module's program, and where the module has at most 64 imports, its
-- text is read as it.
pub record IsPlanFor (linear : SeenLinear) (plan : Plan) : Type 0 where
  pub made : IsPlanOf (program_in linear).imports (type_of linear.result) linear.weight (node_seen linear.term) plan
  pub slim : IsSlim plan
  pub read_back : length linear.imports ≤ 64 → IsRead (text_of plan) plan
  pub realises : RealisesModule plan (program_in linear).body
