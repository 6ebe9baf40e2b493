-- What right bind lines mean is sound, and where the links of a build are right each instance but the root serves.
use Rattle.std.specs.Prelude.{◌≡◌, ◌≢◌, ◌⊎◌, ◌<◌, ◌+◌, ◌&&◌, ◌||◌, ℕ, Bool, true, false, List, [], ◌∷◌, ◌++◌, length, Some, None, option_map, slice_get, nat_eq, if◌then◌else◌}
use Rattle.std.proofs.Common.{refl, sym, ◌∙◌, ap, subst, arith, inl, inr, append-nil, append_assoc}
use Rattle.std.proofs.lemmas.List.{length-map}
use Rattle.std.proofs.lemmas.List.Quantifiers.{position-Some}
use Rattle.std.proofs.lemmas.Option.{slice_get-map}
use Rattle.std.specs.Str.{bytes_eq}
use Rattle.std.proofs.lemmas.Bool.{eqb-true, eq-eqb, ne_eqb}
use Rattle.gos_model.specs.Typing.{Imported}
use Rattle.gos_plan.specs.Plans.{Plan}
use Rattle.gos_plan.specs.Seen.{SeenPlan, plan_of, import_of}
use Rattle.gos_link.specs.declared.build.Build.{Build}
use Rattle.gos_link.specs.declared.build.Instance.{Instance}
use Rattle.gos_link.specs.declared.build.Bind.{Bind}
use Rattle.gos_link.specs.declared.services.Service.{Service}
use Rattle.gos_link.specs.Services.{HasService, Gives, once, on, first_bound, first_used, IsRightBind, BindsOn}
use Rattle.gos_link.specs.Linked.{SeenLinks, AreLinks, plans_of, is_used, is_placed, IsPlaced, IsLinked}
use Rattle.gos_link.proofs.BoundLemmas.{if_none, is_placed_at}
use Rattle.gos_linked.proofs.linked.ChainLemmas.{IsSound, IsRooted}

-- services, one more at the end
has_either : (ss : List Service) (t s : Service) → HasService (ss ++ t ∷ []) s → HasService ss s ⊎ (t ≡ s)
has_either [] t s (inl e) = inr e
has_either [] t s (inr h) = absurd h
has_either (r ∷ ss) t s (inl e) = inl (inl e)
has_either (r ∷ ss) t s (inr h) = elim (has_either ss t s h) [ inl a ↦ inl (inr a) | inr b ↦ inr b ]

turned : (ss : List Service) (t s : Service) → HasService (ss ++ t ∷ []) s → HasService (t ∷ ss) s
turned ss t s h = elim (has_either ss t s h) [ inl a ↦ inr a | inr b ↦ inl b ]

gives_more : (more ss : List Service) → ((s : Service) → HasService ss s → HasService more s) → (a b : ℕ) → Gives ss a b → Gives more a b
gives_more more ss holds a b (once s h) = once s (holds s h)
gives_more more ss holds a b (on _ c _ g h) = on a c b (gives_more more ss holds a c g) (gives_more more ss holds c b h)

-- an import that no service binds, and an instance that none uses
unbound_has : (ss : List Service) (u i : ℕ) → first_bound ss u i ≡ None → (s : Service) → HasService ss s → s.user ≡ u → s.import ≡ i → ⊥
unbound_has [] u i e s h user import = h
unbound_has (t ∷ ss) u i e s (inl is) user import =
    let test : (nat_eq t.user u && nat_eq t.import i) ≡ true =
    (λ l. eq-eqb t.user u (ap (λ (r : Service). r.user) is ∙ user) l && eq-eqb t.import i (ap (λ (r : Service). r.import) is ∙ import) l)
    in
    let not = (if_none (nat_eq t.user u && nat_eq t.import i) t.line (first_bound ss u i) e).0 in
    let wrong : true ≡ false = sym test ∙ not in
    absurd (cc wrong)
unbound_has (t ∷ ss) u i e s (inr h) user import =
    unbound_has ss u i (if_none (nat_eq t.user u && nat_eq t.import i) t.line (first_bound ss u i) e).1 s h user import

unused_has : (ss : List Service) (g : ℕ) → first_used ss g ≡ None → (s : Service) → HasService ss s → s.giver ≡ g → ⊥
unused_has [] g e s h giver = h
unused_has (t ∷ ss) g e s (inl is) giver =
    let test : nat_eq t.giver g ≡ true = eq-eqb t.giver g (ap (λ (r : Service). r.giver) is ∙ giver) in
    let wrong : true ≡ false = sym test ∙ (if_none (nat_eq t.giver g) t.line (first_used ss g) e).0 in
    absurd (cc wrong)
unused_has (t ∷ ss) g e s (inr h) giver = unused_has ss g (if_none (nat_eq t.giver g) t.line (first_used ss g) e).1 s h giver

used_has : (ss : List Service) (g : ℕ) → is_used (first_used ss g) ≡ true → (s : Service) × HasService ss s × (s.giver ≡ g)
used_has [] g e = absurd (cc e)
used_has (t ∷ ss) g e = by_test (nat_eq t.giver g) refl e (used_has ss g)
  where
    by_test : (b : Bool) → nat_eq t.giver g ≡ b → is_used (if b then Some t.line else first_used ss g) ≡ true
        → (is_used (first_used ss g) ≡ true → (s : Service) × HasService ss s × (s.giver ≡ g)) → (s : Service) × HasService (t ∷ ss) s × (s.giver ≡ g)
    by_test true test h rest = (t, inl refl, eqb-true t.giver g test)
    by_test false test h rest = let (s, has, is) = rest h in (s, inr has, is)

module _ (is : List Instance) (ps : List SeenPlan) where
  abbrev Plans : List Plan
  Plans = plans_of ps

  abbrev Fit : Service → Type 0
  Fit s =
      (p : Plan) × (q : Plan) × (x : Imported) × (slice_get Plans s.user ≡ Some p) × (slice_get Plans s.giver ≡ Some q)
      × (slice_get p.imports s.import ≡ Some x) × (q.outcome ≡ x.ty)

  right_fits : (before : List Service) (b : Bind) (s : Service) → IsRightBind is ps before b s → Fit s
  right_fits before b s right =
      let (u, g, x, line, all, type) = right.means in (
        plan_of u,
        plan_of g,
        import_of x,
        slice_get-map plan_of ps s.user ∙ ap (option_map plan_of) all.both.of_user,
        slice_get-map plan_of ps s.giver ∙ ap (option_map plan_of) all.both.of_giver,
        slice_get-map import_of u.imports s.import ∙ ap (option_map import_of) all.import,
        sym type,
      )

  one_more : (before : List Service) (b : Bind) (t : Service) → IsSound Plans before → IsRightBind is ps before b t → IsSound Plans (before ++ t ∷ [])
  one_more before b t sound right =
      record {
        fits = λ s h. elim (has_either before t s h) as (λ _. Fit s) [ inl old ↦ sound.fits s old | inr e ↦ subst Fit e (right_fits before b t right) ];
        one_import = λ r s h k user import. imports r s (has_either before t r h) (has_either before t s k) user import;
        one_giver = λ r s h k giver. givers r s (has_either before t r h) (has_either before t s k) giver;
        ringless = λ ring. right.ringless (ring.0, gives_more (t ∷ before) (before ++ t ∷ []) (turned before t) ring.0 ring.0 ring.1);
      }
    where
      imports : (r s : Service) → HasService before r ⊎ (t ≡ r) → HasService before s ⊎ (t ≡ s) → r.user ≡ s.user → r.import ≡ s.import → r ≡ s
      imports r s (inl h) (inl k) user import = sound.one_import r s h k user import
      imports r s (inl h) (inr e) user import =
          absurd
          (unbound_has before t.user t.import right.unbound r h (user ∙ ap (λ (q : Service). q.user) (sym e))
          (import ∙ ap (λ (q : Service). q.import) (sym e)))
      imports r s (inr e) (inl k) user import =
          absurd
          (unbound_has before t.user t.import right.unbound s k (sym user ∙ ap (λ (q : Service). q.user) (sym e))
          (sym import ∙ ap (λ (q : Service). q.import) (sym e)))
      imports r s (inr e) (inr f) user import = sym e ∙ f

      givers : (r s : Service) → HasService before r ⊎ (t ≡ r) → HasService before s ⊎ (t ≡ s) → r.giver ≡ s.giver → r ≡ s
      givers r s (inl h) (inl k) giver = sound.one_giver r s h k giver
      givers r s (inl h) (inr e) giver = absurd (unused_has before t.giver right.unused r h (giver ∙ ap (λ (q : Service). q.giver) (sym e)))
      givers r s (inr e) (inl k) giver = absurd (unused_has before t.giver right.unused s k (sym giver ∙ ap (λ (q : Service). q.giver) (sym e)))
      givers r s (inr e) (inr f) giver = sym e ∙ f

  all_sound : (before : List Service) (bs : List Bind) (ss : List Service) → IsSound Plans before → BindsOn is ps before bs ss None
      → IsSound Plans (before ++ ss)
  all_sound before [] [] sound binds = subst (IsSound Plans) (sym (append-nil before)) sound
  all_sound before [] (s ∷ ss) sound binds = absurd binds
  all_sound before (b ∷ bs) [] sound binds = absurd binds
  all_sound before (b ∷ bs) (s ∷ ss) sound (right, rest) =
      subst (IsSound Plans) (append_assoc before (s ∷ []) ss) (all_sound (before ++ s ∷ []) bs ss (one_more before b s sound right) rest)

  no_gives : (a b : ℕ) → Gives [] a b → ⊥
  no_gives a b (once s h) = h
  no_gives a b (on _ c _ g h) = no_gives a c g

  pub binds_sound : (bs : List Bind) (ss : List Service) → BindsOn is ps [] bs ss None → IsSound Plans ss
  binds_sound bs ss binds =
      all_sound [] bs ss
      (record {
        fits = λ s h. absurd h;
        one_import = λ s t h k user import. absurd h;
        one_giver = λ s t h k giver. absurd h;
        ringless = λ ring. no_gives ring.0 ring.0 ring.1;
      }) binds

or_used : (a b : Bool) → a ≡ false → (a || b) ≡ true → b ≡ true
or_used true b e h = absurd (cc e)
or_used false b e h = h

pub links_rooted : (b : Build) (ps : List SeenPlan) (links : SeenLinks) → AreLinks b ps links → length ps ≡ length b.instances.items
    → IsRooted (plans_of ps) links.services links.root
links_rooted b ps links are each =
    record { sound = binds_sound b.instances.items ps b.binds.items links.services are.binds; low = omega (arith, root_low, size, each); serves = serves }
  where
    placed : IsPlaced b links.services links.root
    placed = are.grounded.named.placed

    root_low : links.root < length b.instances.items
    root_low =
        (position-Some (λ i. bytes_eq i.name b.root) b.instances.items links.root (record { line = 0; name = []; source = []; object = [] }) placed.finds_root).0

    size : length (plans_of ps) ≡ length ps
    size = length-map ps plan_of

    serves : (k : ℕ) → k < length (plans_of ps) → k ≢ links.root → (s : Service) × HasService links.services s × (s.giver ≡ k)
    serves k low apart =
        let number : 0 + k ≡ k = omega arith in
        let there : is_placed links.root links.services k ≡ true =
        ap (is_placed links.root links.services) (sym number)
        ∙ is_placed_at links.root links.services 0 b.instances.items placed.placed k (omega (arith, low, size, each))
        in
        used_has links.services k (or_used (nat_eq k links.root) (is_used (first_used links.services k)) (ne_eqb k links.root apart) there)

pub linked_rooted : (b : Build) (ps : List SeenPlan) (p : Plan) (l : IsLinked b ps p) → length ps ≡ length b.instances.items
    → IsRooted (plans_of ps) l.services l.root
linked_rooted b ps p l =
    links_rooted b ps (record { services = l.services; root = l.root }) (record { binds = l.binds; grounded = l.light.grounded })
