-- What it means that a plan realises a module: with imports of any types, whatever realises these may be put in.
--
-- Read first: Realises, Slim; Widths of gos_types.
use Rattle.std.specs.Prelude.{ℕ, zero, suc, List, [], ◌∷◌, ◌++◌, Option, Some, None, if◌then◌else◌}
use Rattle.std.specs.Str.{bytes_eq}
use Rattle.gos_types.specs.Widths.{HasWidths}
use Rattle.gos_model.specs.Terms.{Name, Term}
use Rattle.gos_model.specs.Typing.{Imported, Typed}
use Rattle.gos_model.specs.Linking.{supplied}
use Rattle.gos_plan.specs.Plans.{ImportEnd, ResultEnd, Plan, IsRight}
use Rattle.gos_plan.specs.Joining.{Link, Wiring}
use Rattle.gos_realises.specs.realises.Regular.{count, IsRegular}
use Rattle.gos_realises.specs.realises.Links.{IsJoined}
use Rattle.gos_realises.specs.realises.Wirings.{link}
use Rattle.gos_realises.specs.realises.Realises.{NamesDiffer, Realises}
use Rattle.gos_realises.specs.realises.Slim.{IsSlim}

-- what stands for an import: a plan, and the term that it realises
pub record Supply : Type 0 where
  pub plan : Plan
  pub term : Term

abbrev pub plans_of : List Supply → List Plan
plans_of [] = []
plans_of (s ∷ ss) = s.plan ∷ plans_of ss

-- one for each import, of its type
abbrev pub AreSupplied : List Imported → List Supply → Type 0
AreSupplied [] [] = Unit {0}
AreSupplied [] (s ∷ ss) = ⊥
AreSupplied (i ∷ is) [] = ⊥
AreSupplied (i ∷ is) (s ∷ ss) =
    Realises i.ty s.plan s.term × AreSupplied is ss

-- the term for an import of this name
abbrev pub term_for : List Imported → List Supply → Name → Option Term
term_for [] ss x = None
term_for (i ∷ is) [] x = None
term_for (i ∷ is) (s ∷ ss) x = if bytes_eq i.name x then Some s.term else term_for is ss x

-- the handshakes of import i of plan 0, from n on, joined to those of the result of plan l; and those of all imports
abbrev pub import_linked : ℕ → ℕ → ℕ → ℕ → List Link
import_linked i l n zero = []
import_linked i l n (suc m) = link 0 (ImportEnd i n) l (ResultEnd n) ∷ import_linked i l (suc n) m

abbrev pub imports_linked : ℕ → List Imported → List Link
imports_linked i [] = []
imports_linked i (x ∷ xs) = import_linked i (suc i) 0 (count x.ty) ++ imports_linked (suc i) xs

abbrev pub supplying : Plan → List Supply → Wiring
supplying p ss =
    record { plans = p ∷ plans_of ss; links = imports_linked 0 p.imports; giver = 0; skipped = 0; outcome = p.outcome }

-- A plan realises a term with imports of any types: whatever realises these may be put in.
abbrev pub RealisesOpen : Plan → Term → Type 0
RealisesOpen p m =
    (ss : List Supply) (r : Plan)
    → AreSupplied p.imports ss → IsJoined (supplying p ss) r → NamesDiffer r.imports
    → Realises p.outcome r (supplied (term_for p.imports ss) m)

-- the numbers of the types of imports have widths
abbrev pub HaveWidths : List Imported → Type 0
HaveWidths [] = Unit {0}
HaveWidths (i ∷ is) = HasWidths i.ty × HaveWidths is

-- The plan realises the program of a module. The outcome is the type of the term, since a term has one type. Its numbers have
-- widths, and so have those of the imports, and of arguments, whose types are within these: a variable of 65 bits nothing realises,
-- so that a plan of a function of one would realise every such function.
pub record RealisesModule (p : Plan) (m : Term) : Type 0 where
  pub right : IsRight p
  pub names : NamesDiffer p.imports
  pub result_widths : HasWidths p.outcome
  pub import_widths : HaveWidths p.imports
  pub typed : Typed p.imports [] m p.outcome
  pub regular : IsRegular p
  pub slim : IsSlim p
  pub open_imports : RealisesOpen p m
