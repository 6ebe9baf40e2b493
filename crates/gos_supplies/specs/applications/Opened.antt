-- Functions: the plan of a function is that of its body, with the argument at the result in place of an import.
--
-- Read first: Applied. Applied to an argument it does what the body does with the argument for a supply.
use Rattle.std.specs.Prelude.{◌≡◌, ℕ, ◌-◌, List, [], ◌∷◌, ◌++◌, length, nat_lt, if◌then◌else◌, Contains}
use Rattle.gos_types.specs.Types.{Fun}
use Rattle.gos_model.specs.Terms.{Term}
use Rattle.gos_model.specs.Typing.{Imported}
use Rattle.gos_model.specs.Linking.{supplied}
use Rattle.gos_plan.specs.Plans.{End, PartEnd, ImportEnd, ResultEnd, Plan, IsRight}
use Rattle.gos_realises.specs.realises.Regular.{count}
use Rattle.gos_realises.specs.realises.Links.{IsJoined}
use Rattle.gos_realises.specs.realises.Wirings.{applying}
use Rattle.gos_realises.specs.realises.Realises.{NamesDiffer, HaveOtherNames, Realises}
use Rattle.gos_realises.specs.realises.Modules.{Supply, AreSupplied, supplying, term_for, RealisesOpen}
use Rattle.gos_joining.specs.webs.Webs.{joint}
use Rattle.gos_joining.specs.webs.Renumbering.{Renumber, IsRenumbered}

-- Where an end of the function stands in the body, whose import k is the argument, with n handshakes.
abbrev pub opened : ℕ → ℕ → End → End
opened k n (PartEnd i h) = PartEnd i h
opened k n (ImportEnd i h) = ImportEnd i h
opened k n (ResultEnd h) = if nat_lt h n then ImportEnd k h else ResultEnd (h - n)

-- p is the plan of the function whose body has the plan q, with the argument x as its last import. The weight may be another.
pub record IsFunctionOf (x : Imported) (p q : Plan) : Type 0 where
  pub right : IsRight p
  pub body_right : IsRight q
  pub parts : p.parts ≡ q.parts
  pub imports : q.imports ≡ p.imports ++ (x ∷ [])
  pub outcome : p.outcome ≡ Fun x.ty q.outcome
  pub joints :
      (a b : End) → Contains p.joints (joint a b)
      → Contains q.joints (joint (opened (length p.imports) (count x.ty) a) (opened (length p.imports) (count x.ty) b))
  pub no_more :
      (a b : End) → Contains q.joints (joint a b)
      → (c d : End) × Contains p.joints (joint c d) × (opened (length p.imports) (count x.ty) c ≡ a) × (opened (length p.imports) (count x.ty) d ≡ b)

-- The supplied function applied to an argument is one but for numbers with the body that has the argument for a supply.
abbrev pub OpenedIsSupplied : Type 0
OpenedIsSupplied =
    (x : Imported) (p q y r z : Plan) (ss : List Supply) (u : Supply)
    → IsFunctionOf x p q → AreSupplied p.imports ss → Realises x.ty u.plan u.term → IsJoined (supplying p ss) y
    → IsJoined (applying x.ty q.outcome y u.plan) r → IsJoined (supplying q (ss ++ (u ∷ []))) z → (g : Renumber) × IsRenumbered g r z

-- So it realises the body with the argument's term in it, where the plan of the body realises the body.
abbrev pub BodyIsRealised : Type 0
BodyIsRealised =
    (x : Imported) (p q y r : Plan) (ss : List Supply) (u : Supply) (m : Term)
    → IsFunctionOf x p q → RealisesOpen q m → AreSupplied p.imports ss → IsJoined (supplying p ss) y → NamesDiffer y.imports
    → Realises x.ty u.plan u.term → HaveOtherNames y.imports u.plan.imports → IsJoined (applying x.ty q.outcome y u.plan) r
    → Realises q.outcome r (supplied (term_for q.imports (ss ++ (u ∷ []))) m)
