-- A small build whose modules are linked, and one that leaves an instance out; and the files that one names.
--
-- Read first: Taken, LinkedModules; SmallLinks of gos_link (instances a and b) and of gos_witness (modules). Module a asks for c, and b is `skip`.
use Rattle.std.specs.Prelude.{◌≡◌, false, IsTrue, List, [], ◌∷◌, None, codes}
use Rattle.gos_syntax.specs.Modules.{SeenModule}
use Rattle.gos_model.specs.Terms.{Skip}
use Rattle.gos_link.specs.Linked.{SeenLinks}
use Rattle.gos_link.specs.SmallLinks.{Says, bind, two}
use Rattle.gos_link.specs.declared.build.Build.{Build}
use Rattle.gos_witness.specs.SmallLinks.{asks, c, skips}
use Rattle.gos_tool.specs.explained.Taken.{is_named, is_taken}
use Rattle.gos_tool.specs.explained.LinkedModules.{AreLinksOf, program_along}

abbrev pub modules : List SeenModule
modules = asks c ∷ skips ∷ []

abbrev pub one_link : SeenLinks
one_link = record { services = record { line = 5; user = 0; import = 0; giver = 1 } ∷ []; root = 0 }

-- with a bind line their program is that of b
abbrev pub OneIsLinked : Type 0
OneIsLinked =
    ((b : Build) → Says b two (bind 5 (codes "a") (codes "c") (codes "b") ∷ []) → AreLinksOf b modules one_link)
    × ((program_along modules one_link).body ≡ Skip)

-- two that nothing binds have no links
abbrev pub UnboundIsNotLinked : Type 0
UnboundIsNotLinked = (b : Build) (links : SeenLinks) → Says b two [] → AreLinksOf b (skips ∷ skips ∷ []) links → ⊥

-- the build has two instances, of the source s and the object o, and these other files
pub record HasFiles (b : Build) : Type 0 where
  pub instances : b.instances.items ≡ two
  pub net : b.net ≡ codes "n"
  pub verilog : b.verilog ≡ codes "v"
  pub pulses : b.pulses ≡ codes "p"
  pub trace : b.trace ≡ codes "t"

-- it names these, an object and the trace too, and no other file; and no file is taken where none is to be written
abbrev pub NamesItsFiles : Type 0
NamesItsFiles = (b : Build) → HasFiles b → IsTrue (is_named b (codes "o")) × IsTrue (is_named b (codes "t"))

abbrev pub OtherIsFree : Type 0
OtherIsFree = (b : Build) → HasFiles b → (is_named b (codes "m") ≡ false) × (is_taken b None ≡ false)
