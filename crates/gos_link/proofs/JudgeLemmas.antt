-- What is wrong of a build behind its bind lines, from what was found of its ports.
use Rattle.std.specs.Prelude.{◌≡◌, ℕ, ◌<◌, List, [], ◌∷◌, ◌++◌, length, map, Some, None, option_map, slice_get}
use Rattle.std.proofs.Common.{refl, sym, ◌∙◌, ap, subst, arith, inl, inr, append-nil, append_assoc}
use Rattle.std.proofs.lemmas.List.{length-map}
use Rattle.std.proofs.lemmas.Option.{slice_get-map, slice_get_within}
use Rattle.gos_types.specs.Types.{Type', type_of, IsDone}
use Rattle.gos_types.proofs.ListLemmas.{element_at}
use Rattle.gos_plan.specs.Seen.{SeenPlan, plan_of}
use Rattle.gos_plan.specs.Joining.{LeftImport, all_left}
use Rattle.gos_link.specs.declared.build.Instance.{Instance}
use Rattle.gos_link.specs.declared.build.Bind.{Bind}
use Rattle.gos_link.specs.declared.build.Build.{Build}
use Rattle.gos_link.specs.declared.services.Service.{Service}
use Rattle.gos_link.specs.declared.opens.Open.{Open}
use Rattle.gos_link.specs.declared.fault.LinkFault.{LinkFault}
use Rattle.gos_link.specs.declared.fault.LinkFault.TheVariants as faults
use Rattle.gos_link.specs.Services.{BindsOn}
use Rattle.gos_link.specs.Linked.{Port, AreGround, IsFirstHigher, IsPlaced, IsNamed, IsWrongWhole, outcome_of, plans_of, port_of, ports_of, whole_of}
use Rattle.gos_link.specs.inner.Judged.{IsJudged}
use Rattle.gos_link.specs.inner.Opens.{open_seen, opens_among}
use Rattle.gos_link.specs.inner.Ports.{AllDiffer, IsOpenTwice}
use Rattle.gos_link.specs.inner.Tops.{AreTops, moved, top_at}
use Rattle.gos_link.proofs.AboveLemmas.{above_none}
use Rattle.gos_link.proofs.BindLemmas.{instance_low, tops_meant}
use Rattle.gos_link.proofs.BoundLemmas.{joinable, root_unused}
use Rattle.gos_link.proofs.PlaceLemmas.{open_at}
use Rattle.gos_link.proofs.ServiceLemmas.{opens_left}

-- an import that stays is one of a plan
pub plan_low : (ss : List Service) (ps : List SeenPlan) (k : ℕ) (l : LeftImport) → slice_get (opens_among ss 0 (plans_of ps)) k ≡ Some l → l.plan < length ps
plan_low ss ps k l at =
    let r = open_at ss 0 (plans_of ps) k l at in
    let low = slice_get_within (plans_of ps) r.plan r.of r.is in
    let size = length-map ps plan_of in
    let plan = r.plan_is in
    omega (arith, low, size, plan)

-- instances end somewhere, as they serve one another by right lines
tops_on : (is : List Instance) (ps : List SeenPlan) (before : List Service) (bs : List Bind) (ss : List Service) (tops : List ℕ) → AreTops (length is) before tops
    → BindsOn is ps before bs ss None → (after : List ℕ) × AreTops (length is) (before ++ ss) after
tops_on is ps before [] [] tops known binds = (tops, subst (λ (ts : List Service). AreTops (length is) ts tops) (sym (append-nil before)) known)
tops_on is ps before [] (s ∷ ss) tops known binds = absurd binds
tops_on is ps before (b ∷ bs) [] tops known binds = absurd binds
tops_on is ps before (b ∷ bs) (s ∷ ss) tops known (right, rest) =
    let next : List ℕ = map (moved s.giver (top_at tops s.user)) tops in
    let (after, ends) = tops_on is ps (before ++ s ∷ []) bs ss next (tops_meant is ps before b s tops next known right refl) rest in
    (after, subst (λ (ts : List Service). AreTops (length is) ts after) (append_assoc before (s ∷ []) ss) ends)

-- a build whose bind lines are right and whose instances have their places
pub judged : (b : Build) (ps : List SeenPlan) (ss : List Service) (root : ℕ) → length ps ≡ length b.instances.items
    → BindsOn b.instances.items ps [] b.binds.items ss None → IsPlaced b ss root → IsJudged b ps ss root
judged b ps ss root each binds placed =
    let none = above_none (length b.instances.items) in
    let (tops, known) = tops_on b.instances.items ps [] b.binds.items ss none.0 none.1 binds in
    let low = instance_low b.instances.items b.root root placed.finds_root in
    let unused = root_unused b.instances.items ss root tops known low placed.placed in
    let (p, at) = element_at ps root (let below : root < length ps = omega (arith, low, each) in below) in
    record { each = each; placed = placed; joinable = joinable b.instances.items ps b.binds.items ss root p binds unused at }

module _ (b : Build) (ps : List SeenPlan) (ss : List Service) (root : ℕ) (known : IsJudged b ps ss root) where
  -- the imports that stay, and the ports
  pub lefts : (opens : List Open) → map open_seen opens ≡ opens_among ss 0 (plans_of ps) → map open_seen opens ≡ all_left (whole_of ps ss root)
  lefts opens seen = seen ∙ sym (opens_left (plans_of ps) ss root known.joinable)

  pub ports : (opens : List Open) → map open_seen opens ≡ opens_among ss 0 (plans_of ps)
      → (record { name = b.root; instance = b.root }) ∷ map (port_of b.instances.items) (map open_seen opens) ≡ ports_of b (whole_of ps ss root)
  ports opens seen = ap (λ (ls : List LeftImport). record { name = b.root; instance = b.root } ∷ map (port_of b.instances.items) ls) (lefts opens seen)

  -- the type of the root's result
  pub root_at : (p : SeenPlan) → (root < length ps → slice_get ps root ≡ Some p) → outcome_of (slice_get (plans_of ps) root) ≡ type_of p.outcome
  root_at p read =
      let (q, at) = known.joinable.some_root in
      let low = slice_get_within (plans_of ps) root q at in
      let size = length-map ps plan_of in
      ap outcome_of (slice_get-map plan_of ps root ∙ ap (option_map plan_of) (read (omega (arith, low, size))))

  pub wrong_names : (found : List Port) (fault : LinkFault) → found ≡ ports_of b (whole_of ps ss root) → IsOpenTwice found fault → IsWrongWhole b ps ss fault
  wrong_names found fault is (one, other, second, told) =
      let (one', other', second', told') = subst (λ (qs : List Port). IsOpenTwice qs fault) is (one, other, second, told) in
      subst (λ (f : LinkFault). IsWrongWhole b ps ss f) (sym told') (root, one', other', known.placed, second', refl, refl, refl)

  pub named : (found : List Port) → found ≡ ports_of b (whole_of ps ss root) → AllDiffer found → IsNamed b ps ss root
  named found is different = record { placed = known.placed; names = subst (λ (qs : List Port). AllDiffer qs) is different }

  pub wrong_result : (t : Type') (fault : LinkFault) → IsNamed b ps ss root → outcome_of (slice_get (plans_of ps) root) ≡ t → (IsDone t → ⊥)
      → fault ≡ faults.NotGround b.root → IsWrongWhole b ps ss fault
  wrong_result t fault names is never told =
      subst (λ (f : LinkFault). IsWrongWhole b ps ss f) (sym told) (root, names, inl (subst (λ (u : Type'). IsDone u → ⊥) (sym is) never, refl))

  pub done : (t : Type') → outcome_of (slice_get (plans_of ps) root) ≡ t → IsDone t → IsDone (outcome_of (slice_get (plans_of ps) root))
  done t is h = subst IsDone (sym is) h

  pub wrong_import : (imports : List LeftImport) (fault : LinkFault) → IsNamed b ps ss root → IsDone (outcome_of (slice_get (plans_of ps) root))
      → imports ≡ all_left (whole_of ps ss root) → ((l : LeftImport) × IsFirstHigher imports l × (fault ≡ faults.NotGround l.import.name)) → IsWrongWhole b ps ss fault
  wrong_import imports fault names result is (l, higher, told) =
      subst (λ (f : LinkFault). IsWrongWhole b ps ss f) (sym told)
      (root, names, inr (result, l, subst (λ (ls : List LeftImport). IsFirstHigher ls l) is higher, refl))

  pub all_ground : (opens : List Open) → map open_seen opens ≡ all_left (whole_of ps ss root) → AreGround (length opens) (map open_seen opens)
      → AreGround (length (all_left (whole_of ps ss root))) (all_left (whole_of ps ss root))
  all_ground opens is ground =
      subst (λ (ls : List LeftImport). AreGround (length ls) ls) is (subst (λ (n : ℕ). AreGround n (map open_seen opens)) (sym (length-map opens open_seen)) ground)
