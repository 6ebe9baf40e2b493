-- That the text of a source that was checked is the whole file, and what is known of its module.
use Rattle.std.proofs.Common.{◌≡◌, ℕ, List, take, Option, subst}
use Rattle.std.specs.Prelude.{IfSome}
use Rattle.gos_outside.specs.Files.{Files, bytes_at}
use Rattle.gos_lex.specs.Lines.{Word}
use Rattle.gos_check.specs.Checked.{SeenLinear}
use Rattle.gos_command.proofs.FilesLemmas.{is_read_whole}
use Rattle.gos_command.proofs.EndLemmas.{of_some}
use Rattle.gos_tool.specs.objects.Typed.{IsTypedAs}

-- a source that is typed is no longer than what was read
pub typed_file : (told : Option Files) (source : Word) (text : List ℕ) (linear : SeenLinear)
    → IfSome told (λ files. text ≡ take 65537 (bytes_at files source)) → IsTypedAs text linear → IfSome told (λ files. IsTypedAs (bytes_at files source) linear)
typed_file told source text linear read typed =
    of_some (λ files. text ≡ take 65537 (bytes_at files source)) (λ files. IsTypedAs (bytes_at files source) linear) told
    (λ files e. subst (λ (t : List ℕ). IsTypedAs t linear) ((is_read_whole 65536 (bytes_at files source) text e).whole typed.says.source.scanned.short) typed)
    read
