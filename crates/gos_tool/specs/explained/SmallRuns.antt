-- The labels of a small run: the circuit of `import c : com; c`, which is run again in the cycle in which it answers.
--
-- Read first: Traces; SmallCycles of gos_pace.
use Rattle.std.specs.Prelude.{◌≡◌, [], ◌∷◌, codes}
use Rattle.gos_model.specs.Labels.{given, taken}
use Rattle.gos_pace.specs.SmallCycles.{call_circuit, call_cycles}
use Rattle.gos_tool.specs.explained.Traces.{run_labels}

-- main.run; c.run; c.done; main.done and main.run; c.run
abbrev pub CallHasLabels : Type 0
CallHasLabels =
    run_labels call_circuit call_cycles
    ≡ given 0 0 ∷ taken (codes "c") 0 0 ∷ taken (codes "c") 1 0 ∷ given 1 0 ∷ given 0 0 ∷ taken (codes "c") 0 0 ∷ []

-- the input of a cycle doesn't come before its output
abbrev pub InputIsNotFirst : Type 0
InputIsNotFirst = run_labels call_circuit ((1 ∷ 1 ∷ 0 ∷ 0 ∷ []) ∷ []) ≡ given 0 0 ∷ given 1 0 ∷ [] → ⊥
