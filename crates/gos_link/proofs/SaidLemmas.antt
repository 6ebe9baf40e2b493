-- What lines of two and of four words don't say, and what a refusal leaves known.
use Rattle.std.proofs.Common.{◌≡◌, [], ◌∷◌, refl, sym, subst}
use Rattle.std.specs.Prelude.{Result, Ok, Err, OnErr, codes}
use Rattle.gos_outside.specs.FileName.{IsFileName}
use Rattle.gos_lex.specs.Names.{IsName}
use Rattle.gos_lex.specs.Lines.{Word, Words}
use Rattle.gos_link.specs.BuildFile.{keyword, Says}
use Rattle.gos_link.specs.declared.said.Role.{Role}
use Rattle.gos_link.specs.declared.said.Said.{Said}
use Rattle.gos_link.specs.declared.said.Said.TheVariants as says

-- no line of two words
pub none_of_two : (a b : Word) → (a ≡ codes "gosbuild" → b ≡ codes "1" → ⊥) → (a ≡ codes "root" → IsName b → ⊥)
    → ((role : Role) → a ≡ keyword role → IsFileName b → ⊥) → (said : Said) → Says (a ∷ b ∷ []) said → ⊥
none_of_two a b version root file says.Version h = version (cc h.0) (cc h.0)
none_of_two a b version root file (says.Inst name source object) h = cc h.0
none_of_two a b version root file (says.Bind user import giver) h = cc h.0
none_of_two a b version root file (says.Root name) h =
    let word : a ≡ codes "root" = cc h.0 in
    let same : b ≡ name = cc h.0 in
    root word (subst IsName (sym same) h.1)
none_of_two a b version root file (says.File role name) h =
    let word : a ≡ keyword role = cc h.0 in
    let same : b ≡ name = cc h.0 in
    file role word (subst IsFileName (sym same) h.1)

-- a line of neither two nor four words says nothing
pub says_nothing : (words : Words) → ((a b : Word) → words ≡ a ∷ b ∷ [] → ⊥) → ((a b c d : Word) → words ≡ a ∷ b ∷ c ∷ d ∷ [] → ⊥)
    → (said : Said) → Says words said → ⊥
says_nothing words two four says.Version h = two _ _ h.0
says_nothing words two four (says.Inst name source object) h = four _ _ _ _ h.0
says_nothing words two four (says.Bind user import giver) h = four _ _ _ _ h.0
says_nothing words two four (says.Root name) h = two _ _ h.0
says_nothing words two four (says.File role name) h = two _ _ h.0

-- what holds, holds where something was refused
pub on_refusal : {A E : Type 0} (P : Type 0) (r : Result A E) → P → OnErr r P
on_refusal P (Ok a) holds = tt
on_refusal P (Err e) holds = holds

-- Names and files that are right make a line say something.
pub bind_said : (user import giver : Word) → IsName user → IsName import → IsName giver → (said : Said) × Says (codes "bind" ∷ user ∷ import ∷ giver ∷ []) said
bind_said user import giver user_is import_is giver_is = (says.Bind user import giver, (refl, (user_is, import_is, giver_is)))

pub inst_said : (name source object : Word) → IsName name → IsFileName source → IsFileName object
    → (said : Said) × Says (codes "inst" ∷ name ∷ source ∷ object ∷ []) said
inst_said name source object name_is source_is object_is = (says.Inst name source object, (refl, (name_is, source_is, object_is)))
