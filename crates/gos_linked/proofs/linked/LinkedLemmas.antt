-- The linked plan of a build realises the substituted program.
use Rattle.std.specs.Prelude.{◌≡◌, ◌<◌, ◌+◌, ℕ, zero, suc, List, [], ◌∷◌, length}
use Rattle.std.proofs.Common.{refl, sym, ◌∙◌, ap, subst, arith}
use Rattle.gos_model.specs.Terms.{Term}
use Rattle.gos_types.specs.Types.{Type'}
use Rattle.gos_model.specs.Typing.{Imports, Typed}
use Rattle.gos_model.specs.Linking.{Instances, body_at, linked}
use Rattle.gos_plan.specs.Plans.{Plan}
use Rattle.gos_plan.specs.Seen.{SeenPlan}
use Rattle.gos_realises.specs.realises.Modules.{RealisesOpen}
use Rattle.gos_link.specs.declared.build.Build.{Build}
use Rattle.gos_link.specs.Linked.{plans_of, whole_of, SeenLinks, IsLinked}
use Rattle.gos_joining.specs.renumbered.SmallRewirings.{unchanged}
use Rattle.gos_supplies.specs.instances.Trees.{body_of, RewiredTreeIsOpen}
use Rattle.gos_linked.specs.linked.Linked.{binds_of, linked_program, AreRealised, LinkedIsRealised}
use Rattle.gos_linked.proofs.linked.ChainLemmas.{IsRooted}
use Rattle.gos_linked.proofs.linked.SoundLemmas.{linked_rooted}
use Rattle.gos_linked.proofs.linked.GrowLemmas.{RealisesTerm, plan_at}
use Rattle.gos_linked.proofs.linked.WholeLemmas.{grow_grown}
use Rattle.gos_linked.proofs.linked.RewiredLemmas.{root_grown, to, from, tree_rewired}
use Rattle.gos_linked.proofs.linked.BodyLemmas.{body_same}
use Rattle.gos_linked.proofs.linked.TypedLemmas.{realised_typed, substituted_is_typed}
use Rattle.gos_linked.proofs.linked.OpenLemmas.{have_imports, linked_differ, open_same}

programs_size : (ps : List Plan) (ms : Instances) → AreRealised ps ms → length ms ≡ length ps
programs_size [] [] all = refl
programs_size [] (m ∷ ms) all = absurd all
programs_size (p ∷ ps) [] all = absurd all
programs_size (p ∷ ps) (m ∷ ms) (one, all) = ap suc (programs_size ps ms all)

each_realised : (ps : List Plan) (ms : Instances) → AreRealised ps ms → (k : ℕ) → k < length ps → RealisesTerm (plan_at ps k) (body_at ms k)
each_realised [] ms all k low = absurd (omega (arith, low))
each_realised (p ∷ ps) [] all k low = absurd all
each_realised (p ∷ ps) (m ∷ ms) (one, all) zero low =
    record { right = one.right; names = one.names; typed = one.typed; open_imports = one.open_imports }
each_realised (p ∷ ps) (m ∷ ms) (one, all) (suc k) low = each_realised ps ms all k (omega (arith, low))

module _ (rewired_is_open : RewiredTreeIsOpen) (b : Build) (ps : List SeenPlan) (p : Plan) (Programs : Instances) (l : IsLinked b ps p)
    (each : length ps ≡ length b.instances.items) (all : AreRealised (plans_of ps) Programs)
  where
    abbrev Plans : List Plan
    Plans = plans_of ps

    rooted : IsRooted Plans l.services l.root
    rooted = linked_rooted b ps p l each

    realised : (k : ℕ) → k < length Plans → RealisesTerm (plan_at Plans k) (body_at Programs k)
    realised = each_realised Plans Programs all

    body : body_of (root_grown Plans (body_at Programs) l.services l.root rooted realised).tree ≡ (linked_program b ps p l Programs).body
    body =
        let none : 0 + length Plans ≡ length Plans = omega arith in
        body_same Plans Programs l.services l.root rooted realised (length Plans) l.root 0 rooted.low refl none
        ∙ ap (λ (n : ℕ). linked Programs (binds_of Plans l.services) n l.root) (sym (programs_size Plans Programs all))

    opens : RealisesOpen p (linked_program b ps p l Programs).body
    opens =
        let grown = grow_grown Plans (body_at Programs) l.services l.root rooted realised (length Plans) l.root rooted.low in
        subst (RealisesOpen p) body
        (rewired_is_open (root_grown Plans (body_at Programs) l.services l.root rooted realised).tree (whole_of ps l.services l.root)
        (to Plans (body_at Programs) l.services l.root rooted realised) (from Plans (body_at Programs) l.services l.root rooted realised) (λ k. unchanged) p
        grown.tree grown.types (tree_rewired Plans (body_at Programs) l.services l.root rooted realised) l.joining (linked_differ b ps p l))

    -- the imports that stay are those of the plan
    imports : p.imports ≡ (linked_program b ps p l Programs).imports
    imports = l.joining.imports ∙ open_same Plans l.services rooted.sound Programs (have_imports Plans Programs all)

    typed : Typed p.imports [] (linked_program b ps p l Programs).body p.outcome
    typed =
        let links : SeenLinks = record { services = l.services; root = l.root } in
        let body : Term = (linked_program b ps p l Programs).body in
        let of_program =
        substituted_is_typed b ps links Programs (record { binds = l.binds; grounded = l.light.grounded }) each (realised_typed Plans Programs all)
        in
        subst (λ (is : Imports). Typed is [] body p.outcome) (sym imports)
        (subst (λ (t : Type'). Typed (linked_program b ps p l Programs).imports [] body t) (sym l.joining.outcome) of_program)

pub linked_is_realised : RewiredTreeIsOpen → LinkedIsRealised
linked_is_realised rewired_is_open b ps p programs l each all =
    record {
      imports = imports rewired_is_open b ps p programs l each all;
      right = l.joining.right;
      names = linked_differ b ps p l;
      typed = typed rewired_is_open b ps p programs l each all;
      open_imports = opens rewired_is_open b ps p programs l each all;
    }
