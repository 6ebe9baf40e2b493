-- The plan of a function realises it: its use unfolds to the body with the argument in it, which the body's plan realises.
use Rattle.std.specs.Prelude.{◌≡◌, [], List, ◌∷◌, ◌++◌, Some, None, if◌then◌else◌, Bool, true}
use Rattle.std.specs.Str.{bytes_eq}
use Rattle.std.proofs.Common.{refl, sym, ◌∙◌, ap, subst, inl}
use Rattle.gos_types.specs.Types.{Type', Fun}
use Rattle.gos_types.proofs.BytesLemmas.{same_bytes_eq}
use Rattle.gos_model.specs.Terms.{Term, Import, Lam, App}
use Rattle.gos_model.specs.Typing.{Imported, Typed}
use Rattle.gos_model.specs.Substitution.{instantiate}
use Rattle.gos_model.specs.Linking.{supplied}
use Rattle.gos_plan.specs.Plans.{Plan}
use Rattle.gos_realises.specs.realises.Links.{IsJoined}
use Rattle.gos_realises.specs.realises.Wirings.{applying}
use Rattle.gos_realises.specs.realises.Realises.{NamesDiffer, HaveOtherNames, Suits, Means, Realises}
use Rattle.gos_realises.specs.realises.Modules.{Supply, AreSupplied, supplying, term_for, RealisesOpen}
use Rattle.gos_supplies.specs.applications.Opened.{IsFunctionOf}
use Rattle.gos_supplies.proofs.applications.TermLemmas.{term_first, term_second}
use Rattle.gos_supplies.proofs.applications.BodyLemmas.{body_is_realised}
use Rattle.gos_supplies.specs.unfoldings.Functions.{FunctionIsRealised}
use Rattle.gos_supplies.proofs.unfoldings.BodyTermLemmas.{term_shut, supplied_put}
use Rattle.gos_supplies.proofs.unfoldings.HeadLemmas.{use_typed, head_is_realised}

module _ (x : Imported) (p q : Plan) (n : Term) (is : IsFunctionOf x p q) (names : NamesDiffer q.imports)
    (typed : Typed p.imports (x.ty ∷ []) n q.outcome) (ss : List Supply) (are : AreSupplied p.imports ss) where
  abbrev body : Term
  body = supplied (term_for p.imports ss) n

  -- the body with the import supplied is that with the term put in
  put_in : (u : Supply) → Realises x.ty u.plan u.term
      → supplied (term_for q.imports (ss ++ (u ∷ []))) (instantiate n (Import x.name)) ≡ instantiate body u.term
  put_in u of_u =
      subst (λ (l : List Imported). supplied (term_for l (ss ++ (u ∷ []))) (instantiate n (Import x.name)) ≡ instantiate body u.term) (sym is.imports)
      (supplied_put p.imports (term_for p.imports ss) (term_for (p.imports ++ (x ∷ [])) (ss ++ (u ∷ []))) x.name u.term there
      (term_first p.imports (x ∷ []) ss (u ∷ []) are) (λ y d. term_shut p.imports ss are y d u.term) (x.ty ∷ []) n q.outcome 0 typed)
    where
      differ : NamesDiffer (p.imports ++ (x ∷ []))
      differ = subst NamesDiffer is.imports names

      itself : bytes_eq x.name x.name ≡ true
      itself = same_bytes_eq x.name x.name refl

      there : term_for (p.imports ++ (x ∷ [])) (ss ++ (u ∷ [])) x.name ≡ Some u.term
      there =
          term_second p.imports (x ∷ []) ss (u ∷ []) differ are x.name x.ty (ap (λ (b : Bool). if b then Some x.ty else None) itself)
          ∙ ap (λ (b : Bool). if b then Some u.term else None) itself

  module _ (y : Plan) (of_y : IsJoined (supplying p ss) y) (suits : Suits (Fun x.ty q.outcome) y (Lam x.ty body)) (open_q : RealisesOpen q (instantiate n (Import x.name))) where
    use_is_realised : (k r : Plan) (v : Term) → HaveOtherNames y.imports k.imports → Suits x.ty k v → Means x.ty k v → IsJoined (applying x.ty q.outcome y k) r
        → Suits q.outcome r (App (Lam x.ty body) v) × Means q.outcome r (App (Lam x.ty body) v)
    use_is_realised k r v other suits_k means_k joined =
        let u : Supply = record { plan = k; term = v } in
        let of_u : Realises x.ty k v = record { suits = suits_k; means = means_k } in
        let there = body_is_realised x p q y r ss u (instantiate n (Import x.name)) is open_q are of_y suits.names of_u other joined in
        let unfolded = subst (Realises q.outcome r) (put_in u of_u) there in
        let here = use_typed x.ty q.outcome y k r (Lam x.ty body) v other suits.typed suits_k.typed joined in
        let whole = head_is_realised q.outcome r (App (Lam x.ty body) v) (instantiate body v) (inl (x.ty, body, refl, refl)) here unfolded in
        (whole.suits, whole.means)

    pub function_realised : Realises (Fun x.ty q.outcome) y (Lam x.ty body)
    function_realised = record { suits = suits; means = λ k r v. use_is_realised k r v }

pub function_is_realised : FunctionIsRealised
function_is_realised x p q n is names typed open_q suits ss y are of_y names_y =
    let of_type : Suits (Fun x.ty q.outcome) y (Lam x.ty (body x p q n is names typed ss are)) =
    subst (λ (t : Type'). Suits t y (Lam x.ty (body x p q n is names typed ss are))) is.outcome (suits ss y are of_y names_y)
    in
    subst (λ (t : Type'). Realises t y (Lam x.ty (body x p q n is names typed ss are))) (sym is.outcome)
    (function_realised x p q n is names typed ss are y of_y of_type open_q)
