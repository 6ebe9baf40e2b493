-- What a text says, before its joints are judged, as a plan's values.
use Rattle.gos_plan.specs.declared.reading.Values.{Values}
use Rattle.gos_plan.specs.Seen.{SeenPlan}

abbrev pub seen_values : Values → SeenPlan
seen_values v = record { weight = v.weight; imports = v.imports.items; outcome = v.outcome; parts = v.parts.items; joints = v.joints.items }
