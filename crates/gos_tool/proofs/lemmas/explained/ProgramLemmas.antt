-- One build file and one source for each instance say one program, with ports of the same names and types.
use Rattle.std.specs.Prelude.{◌≡◌, ◌∷◌, [], ℕ, zero, suc, List, map, slice_get}
use Rattle.std.proofs.Common.{refl, sym, ◌∙◌, ap, subst}
use Rattle.gos_outside.specs.Files.{Files, bytes_at}
use Rattle.gos_lex.specs.Lines.{Word}
use Rattle.gos_types.specs.Types.{type_of}
use Rattle.gos_syntax.specs.Modules.{SeenModule}
use Rattle.gos_model.specs.Sources.{program_of}
use Rattle.gos_model.specs.Linking.{Instances, substituted}
use Rattle.gos_plan.specs.Seen.{SeenPlan}
use Rattle.gos_link.specs.BuildFile.{whole}
use Rattle.gos_link.specs.Faces.{LinksAreOfFaces, LinksAreOne, faces_of}
use Rattle.gos_link.specs.Linked.{SeenLinks}
use Rattle.gos_link.specs.declared.build.Build.{Build}
use Rattle.gos_link.specs.declared.build.Instance.{Instance}
use Rattle.gos_witness.specs.Ports.{imported}
use Rattle.gos_witness.specs.Programs.{SeenProgram}
use Rattle.gos_witness.specs.Substituted.{outcome_if, face, root_port}
use Rattle.gos_tool.specs.Calls.{source_calls}
use Rattle.gos_tool.specs.Agreement.{AgreeOn}
use Rattle.gos_tool.specs.objects.Checked.{SaysModule}
use Rattle.gos_tool.specs.objects.Complete.{SaysOneProgram}
use Rattle.gos_tool.specs.build.Headline.{SayModules}
use Rattle.gos_tool.specs.build.Programs.{bind_in}
use Rattle.gos_tool.specs.explained.LinkedModules.{AreLinksOf, IsLinkedAs, module_face, program_along}
use Rattle.gos_tool.proofs.lemmas.circuits.SameBuildLemmas.{links_too, root_same}
use Rattle.gos_tool.proofs.lemmas.explained.FaceLemmas.{same_program}

-- modules that have the same programs, and results of the same types
abbrev pub AreAlike : List SeenModule → List SeenModule → Type 0
AreAlike [] [] = Unit {0}
AreAlike [] (o ∷ os) = ⊥
AreAlike (m ∷ ms) [] = ⊥
AreAlike (m ∷ ms) (o ∷ os) = (program_of m ≡ program_of o) × (type_of m.result ≡ type_of o.result) × AreAlike ms os

pub alike : SaysOneProgram → (files others : Files) (is : List Instance) (ms os : List SeenModule) → AgreeOn (source_calls is) files others
    → SayModules files is ms → SayModules others is os → AreAlike ms os
alike one files others [] [] [] agree say also = tt
alike one files others [] [] (o ∷ os) agree say also = absurd also
alike one files others [] (m ∷ ms) os agree say also = absurd say
alike one files others (i ∷ is) [] os agree say also = absurd say
alike one files others (i ∷ is) (m ∷ ms) [] agree say also = absurd also
alike one files others (i ∷ is) (m ∷ ms) (o ∷ os) agree say also =
    let (program, result) = one (bytes_at files i.source) m o say.0 (subst (λ (text : List ℕ). SaysModule text o) (sym agree.0) also.0) in
    (program, result, alike one files others is ms os agree.1 say.1 also.1)

pub programs_alike : (ms os : List SeenModule) → AreAlike ms os → map program_of ms ≡ map program_of os
programs_alike [] [] same = refl
programs_alike [] (o ∷ os) same = absurd same
programs_alike (m ∷ ms) [] same = absurd same
programs_alike (m ∷ ms) (o ∷ os) (program, result, rest) = let others = programs_alike ms os rest in λ i. program i ∷ others i

faces_alike : (ms os : List SeenModule) → AreAlike ms os → map module_face ms ≡ map module_face os
faces_alike [] [] same = refl
faces_alike [] (o ∷ os) same = absurd same
faces_alike (m ∷ ms) [] same = absurd same
faces_alike (m ∷ ms) (o ∷ os) (program, result, rest) =
    let others = faces_alike ms os rest in λ i. record { imports = (program i).imports; outcome = result i } ∷ others i

outcome_alike : (ms os : List SeenModule) → AreAlike ms os → (k : ℕ) → outcome_if (slice_get ms k) ≡ outcome_if (slice_get os k)
outcome_alike [] [] same k = refl
outcome_alike [] (o ∷ os) same k = absurd same
outcome_alike (m ∷ ms) [] same k = absurd same
outcome_alike (m ∷ ms) (o ∷ os) (program, result, rest) zero = result
outcome_alike (m ∷ ms) (o ∷ os) (program, result, rest) (suc k) = outcome_alike ms os rest k

-- their program along links
along_alike : (ms os : List SeenModule) (links : SeenLinks) → AreAlike ms os → program_along ms links ≡ program_along os links
along_alike ms os links same =
    sym (same_program ms links)
    ∙ (ap (λ (ps : Instances). substituted ps (map (bind_in ps) links.services) links.root) (programs_alike ms os same) ∙ same_program os links)

module _ (of_faces : LinksAreOfFaces) (one_link : LinksAreOne) (b c : Build) (same : whole b ≡ whole c) (ms os : List SeenModule) (modules : AreAlike ms os) where
  -- plans that stand for them are of the same faces
  pub same_faces : (ps qs : List SeenPlan) → faces_of ps ≡ map module_face ms → faces_of qs ≡ map module_face os → faces_of ps ≡ faces_of qs
  same_faces ps qs stand also = stand ∙ (faces_alike ms os modules ∙ sym also)

  -- so their links are one
  pub links_same : (links others : SeenLinks) → AreLinksOf b ms links → AreLinksOf c os others → links ≡ others
  links_same links others (ps, stand, are) (qs, also, too) =
      one_link c qs links others (of_faces c ps qs links (same_faces ps qs stand also) (links_too b c same ps links are)) too

  module _ (links others : SeenLinks) (are : AreLinksOf b ms links) (too : AreLinksOf c os others) where
    pub along_same : program_along ms links ≡ program_along os others
    along_same = along_alike ms os links modules ∙ ap (program_along os) (links_same links others are too)

    -- and the faces of their program's ports
    pub ports_same : (p q : SeenProgram) → IsLinkedAs b ms links p → IsLinkedAs c os others q → map imported p.ports ≡ map imported q.ports
    ports_same p q linked also =
        linked.program.faces ∙ ((λ i. root i ∷ (along_same i).imports) ∙ sym also.program.faces)
      where
        root : root_port ms links.root b.root ≡ root_port os others.root c.root
        root =
            ap (face b.root) (outcome_alike ms os modules links.root)
            ∙ (ap (λ (l : SeenLinks). root_port os l.root b.root) (links_same links others are too)
            ∙ ap (λ (name : Word). root_port os others.root name) (root_same b c same))
