-- A small build whose modules are linked, and one whose aren't; and the files that one names.
use Rattle.std.specs.Prelude.{◌≡◌, ◌||◌, List, [], ◌∷◌, codes}
use Rattle.std.specs.List.{list_any}
use Rattle.std.specs.Str.{bytes_eq}
use Rattle.std.proofs.Common.{refl}
use Rattle.gos_lex.specs.Lines.{Word}
use Rattle.gos_types.specs.declared.types.Ty.TheVariants.{Com as AtCom}
use Rattle.gos_plan.specs.Seen.{SeenPlan}
use Rattle.gos_link.specs.Faces.{LinksAreOfFaces, LinksHaveNoFault}
use Rattle.gos_link.specs.SmallLinks.{IsUnplaced, OneIsServed, command, shell, two}
use Rattle.gos_link.specs.declared.build.Build.{Build}
use Rattle.gos_link.specs.declared.fault.LinkFault.TheVariants as faults
use Rattle.gos_witness.specs.SmallLinks.{SmallLinks}
use Rattle.gos_tool.specs.explained.Taken.{has_file, is_named}
use Rattle.gos_tool.specs.explained.SmallLinked.{HasFiles, NamesItsFiles, OneIsLinked, OtherIsFree, UnboundIsNotLinked}

pub one_is_linked : OneIsServed → SmallLinks → OneIsLinked
one_is_linked served links = (
  λ b says. (shell (command (codes "c") ∷ []) AtCom ∷ shell [] AtCom ∷ [], refl, served b says),
  links.1,
)

pub unbound_is_not_linked : LinksAreOfFaces → LinksHaveNoFault → IsUnplaced → UnboundIsNotLinked
unbound_is_not_linked of_faces either unplaced b links says (ps, stand, are) =
    let qs : List SeenPlan = shell [] AtCom ∷ shell [] AtCom ∷ [] in
    either b qs links (faults.Unplaced (codes "b")) (of_faces b ps qs links stand are) tt (unplaced b says)

-- the test of a file, by the names that there are
named_as : (b : Build) → HasFiles b → (file : Word) → is_named b file
    ≡ (list_any (has_file file) two
    || (bytes_eq (codes "n") file || (bytes_eq (codes "v") file || (bytes_eq (codes "p") file || bytes_eq (codes "t") file))))
named_as b has file = λ i.
    list_any (has_file file) (has.instances i)
    || (bytes_eq (has.net i) file || (bytes_eq (has.verilog i) file || (bytes_eq (has.pulses i) file || bytes_eq (has.trace i) file)))

pub names_its_files : NamesItsFiles
names_its_files b has = (named_as b has (codes "o"), named_as b has (codes "t"))

pub other_is_free : OtherIsFree
other_is_free b has = (named_as b has (codes "m"), refl)
