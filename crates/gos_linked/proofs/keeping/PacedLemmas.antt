-- A plan that realises a module with ground imports is such as pace asks for.
use Rattle.gos_linked.specs.keeping.Keeping.{NetKeepsPace}
use Rattle.gos_supplies.specs.ports.Ports.{OpenIsDone}
use Rattle.gos_linked.specs.keeping.Paced.{ModuleIsPlanFor, ModulesKeepPace}

pub module_is_plan_for : OpenIsDone → ModuleIsPlanFor
module_is_plan_for law p m realises ground done =
    record {
      right = realises.right;
      slim = realises.slim;
      outcome = done;
      ground = ground;
      names = realises.names;
      realises = (law p m realises.right ground realises.import_widths realises.names realises.open_imports done).1;
    }

pub modules_keep_pace : OpenIsDone → NetKeepsPace → ModulesKeepPace
modules_keep_pace law pace p m net realises ground done is = pace p m net (module_is_plan_for law p m realises ground done) is
