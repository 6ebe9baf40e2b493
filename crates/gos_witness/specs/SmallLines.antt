-- Small lists of lines, and what they explain; and a small list of nodes.
--
-- Read first: Lines, NodeLists.
use Rattle.std.specs.Prelude.{◌≡◌, ℕ, List, [], ◌∷◌}
use Rattle.gos_model.specs.Terms as terms
use Rattle.gos_model.specs.Labels.{Label as Shown, given}
use Rattle.gos_model.specs.Moves.{Program}
use Rattle.gos_witness.specs.declared.moves.Line.TheVariants.{Step, Root}
use Rattle.gos_witness.specs.declared.nodes.Leaf.TheVariants as leaves
use Rattle.gos_witness.specs.declared.nodes.TwoParts.TheVariants as two
use Rattle.gos_witness.specs.declared.nodes.Form.TheVariants as forms
use Rattle.gos_witness.specs.NodeLists.{Listed, seen, IsKept}
use Rattle.gos_witness.specs.Lines.{Explains, IsLeft, IsWrong}

-- `export skip : com`, its request and its answer
abbrev pub skips : Program
skips = record { imports = []; body = terms.Skip }

abbrev pub run_and_done : List Shown
run_and_done = given 0 0 ∷ given 1 0 ∷ []

-- two lines explain them
abbrev pub SkipIsExplained : Type 0
SkipIsExplained = Explains skips run_and_done (Root ∷ Root ∷ [])

-- one line leaves a label, and explains nothing
abbrev pub OneIsLeft : Type 0
OneIsLeft = IsLeft skips run_and_done (Root ∷ []) 1 × (Explains skips run_and_done (Root ∷ []) → ⊥)

-- `skip` makes no step
abbrev pub SkipMakesNoStep : Type 0
SkipMakesNoStep = IsWrong skips run_and_done (Root ∷ Step [] ∷ []) 1

-- a term of two nodes, of which one stands in it twice, where the larger has this size beside it
abbrev pub shared : ℕ → Listed
shared k =
    record {
      tables = record { types = []; names = [] };
      nodes =
          record { form = forms.Leaf leaves.Skip; size = 1; needs = 0 }
          ∷ record { form = forms.Two two.Seq 0 0; size = k; needs = 0 } ∷ [];
    }

-- it is `skip ; skip`, and has three nodes
abbrev pub SharedIsSeen : Type 0
SharedIsSeen = seen (shared 3) 1 ≡ terms.Seq terms.Skip terms.Skip

abbrev pub SharedCountsTwice : Type 0
SharedCountsTwice = IsKept (shared 3) × (IsKept (shared 2) → ⊥)
