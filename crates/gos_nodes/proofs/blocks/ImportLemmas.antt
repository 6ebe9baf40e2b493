-- The imports of the body are the variable and imports of the whole; those of the whole and the variable together are the wide ones.
use Rattle.std.specs.Prelude.{◌≡◌, [], ◌∷◌, Contains, Some, None}
use Rattle.std.specs.Str.{bytes_eq}
use Rattle.std.proofs.Common.{refl, sym, ap, subst, inl, inr, ◌∙◌}
use Rattle.std.proofs.lemmas.Bool.{cond-true, cond-false}
use Rattle.gos_types.specs.Types.{Type'}
use Rattle.gos_types.proofs.ListLemmas.{first_is_in, rest_is_in}
use Rattle.gos_types.proofs.BytesLemmas.{same_bytes_eq}
use Rattle.gos_model.specs.Terms.{Name}
use Rattle.gos_model.specs.Typing.{Imported, Imports, import_type}
use Rattle.gos_programs.specs.contexts.Widening.{AreAmong}
use Rattle.gos_programs.specs.contexts.LocalVariable.{HasOthers}
use Rattle.gos_programs.proofs.contexts.PlacedLemmas.{name_cases}
use Rattle.gos_plan.specs.Plans.{Plan}
use Rattle.gos_realises.specs.realises.Realises.{NamesDiffer}
use Rattle.gos_joining.proofs.renumbered.ImportLemmas.{has_type, type_has}
use Rattle.gos_nodes.specs.blocks.Block.{Block, IsBlock}

-- no import has the name
none_typed : (is : Imports) (x : Name) → ((i : Imported) → Contains is i → i.name ≡ x → ⊥) → import_type is x ≡ None
none_typed [] x other = refl
none_typed (i ∷ is) x other =
    name_cases i.name x
    (λ same yes. absurd (other i (first_is_in i is) same))
    (λ no. cond-false (bytes_eq i.name x) (Some i.ty) (import_type is x) no ∙ none_typed is x (λ j there. other j (rest_is_in i j is there)))

module _ (r : Plan) (b : Block) (is : IsBlock r b) (differ : NamesDiffer r.imports) where
  -- the variable, and the imports of the whole
  abbrev pub wide_imports : Imports
  wide_imports = b.variable ∷ r.imports

  wide_differ : NamesDiffer wide_imports
  wide_differ = (λ j there e. is.fresh j there (sym e), differ)

  body_in : (i : Imported) → Contains b.body.imports i → Contains wide_imports i
  body_in i there =
      elim (is.others i there) [
        | inl same ↦ subst (λ (x : Imported). Contains wide_imports x) (sym same) (first_is_in b.variable r.imports)
        | inr later ↦ rest_is_in b.variable i r.imports later
      ]

  pub body_among : AreAmong b.body.imports wide_imports
  body_among x t h =
      let (i, there, named, typed) = has_type b.body.imports x t h in
      type_has wide_imports wide_differ x i (body_in i there) named ∙ ap Some typed

  pub variable_typed : (t : Type') → b.server.supply ≡ t → import_type wide_imports b.variable.name ≡ Some t
  variable_typed t supply =
      cond-true (bytes_eq b.variable.name b.variable.name) (Some b.variable.ty) (import_type r.imports b.variable.name)
      (same_bytes_eq b.variable.name b.variable.name refl)
      ∙ ap (λ y. Some y) (is.type ∙ supply)

  pub others_same : HasOthers b.variable.name wide_imports r.imports
  others_same x apart =
      name_cases b.variable.name x
      (λ same yes. let clash = sym (same_bytes_eq x b.variable.name (sym same)) ∙ apart in absurd (cc clash))
      (λ no. sym (cond-false (bytes_eq b.variable.name x) (Some b.variable.ty) (import_type r.imports x) no))

  pub variable_new : import_type r.imports b.variable.name ≡ None
  variable_new = none_typed r.imports b.variable.name (λ i there e. is.fresh i there e)
