use Rattle.std.proofs.Common.{◌≤◌, ◌-◌, [], ◌∷◌, map, length}
use Rattle.gos_syntax.specs.Items.{seen}
use Rattle.gos_syntax.specs.ModuleTrees.{import_tree}
use Rattle.gos_syntax.specs.ParsedModules.{AreImports}
use Rattle.gos_syntax.specs.Symbols.{Part, Module}
use Rattle.gos_syntax.specs.Spelling.{Leads}
use Rattle.gos_syntax.proofs.source.Source.imports.Given as goal

-- the imports so far
abbrev pub invariant-loop-alloc : goal.invariant-loop-alloc
invariant-loop-alloc l =
    record {
      within : l.at ≤ length l.self.tokens.now;
      imports : AreImports (seen l.self) 0 l.at (map import_tree l.imports.items);
      read : Leads (seen l.self) (Part Module ∷ []) 0 (Part Module ∷ []) l.at;
    }

abbrev pub decreases-loop-alloc : goal.decreases-loop-alloc
decreases-loop-alloc l = length l.self.tokens.now - l.at
