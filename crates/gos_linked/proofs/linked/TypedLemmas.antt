-- The substituted program has the root's type under the imports that stay.
use Rattle.std.specs.Prelude.{◌≡◌, ◌<◌, ◌+◌, ℕ, zero, suc, List, [], ◌∷◌, length, Option, Some, None, slice_get, Contains}
use Rattle.std.proofs.Common.{refl, sym, ◌∙◌, ap, subst, arith, inl, inr}
use Rattle.gos_types.specs.Types.{Type'}
use Rattle.gos_types.proofs.BytesLemmas.{bytes_eq_same}
use Rattle.gos_model.specs.Terms.{Name, Term, Import}
use Rattle.gos_model.specs.Typing.{Imported, Imports, import_type, Thing, Named, things, Typed}
use Rattle.gos_model.specs.Linking.{Instances, Bind, or_import, giver_of, with_giver, body_at, linked, open_from}
use Rattle.gos_plan.specs.Plans.{Plan}
use Rattle.gos_realises.specs.realises.Realises.{NamesDiffer}
use Rattle.gos_realises.proofs.realises.PlaceLemmas.{place_of}
use Rattle.gos_joining.proofs.renumbered.ImportLemmas.{has_type}
use Rattle.gos_link.specs.declared.services.Service.{Service}
use Rattle.gos_link.specs.Services.{HasService}
use Rattle.gos_link.specs.Linked.{outcome_of, plans_of}
use Rattle.gos_supplies.specs.typing.Supplied.{AreTyped, ShareNothing}
use Rattle.gos_supplies.proofs.typing.WhenceLemmas.{with_supplies}
use Rattle.gos_supplies.proofs.typing.SupplyLemmas.{type_of}
use Rattle.gos_supplies.proofs.instances.TypeLemmas.{or_itself, with_names}
use Rattle.gos_linked.specs.linked.Linked.{binds_of, AreTypedAs, AreRealised, substituted_along, SubstitutedIsTyped}
use Rattle.gos_linked.proofs.linked.ChainLemmas.{IsRooted, Below, reached, same_level, giver_low}
use Rattle.gos_linked.proofs.linked.SoundLemmas.{links_rooted}
use Rattle.gos_linked.proofs.linked.GrowLemmas.{plan_at, service_at}
use Rattle.gos_linked.proofs.linked.WholeLemmas.{plan_there, serves}
use Rattle.gos_linked.proofs.linked.BodyLemmas.{giver_if, giver_same}
use Rattle.gos_linked.proofs.linked.OpenLemmas.{HaveImports, links_differ, open_same}
use Rattle.gos_linked.proofs.linked.NameLemmas.{from_supplies}
use Rattle.gos_linked.proofs.linked.OriginLemmas.{Origin, Brings, stays_of, brings_origin, one_number}

module _ (ps : List Plan) (programs : Instances) (ss : List Service) (root : ℕ) (rooted : IsRooted ps ss root) (have : HaveImports ps programs)
    (names : (k : ℕ) → k < length ps → NamesDiffer (plan_at ps k).imports)
    (typed : (k : ℕ) → k < length ps → Typed (plan_at ps k).imports [] (body_at programs k) (plan_at ps k).outcome)
    (differ : NamesDiffer (open_from (binds_of ps ss) 0 programs))
  where
    abbrev P : ℕ → Plan
    P = plan_at ps

    abbrev M : ℕ → Term
    M = body_at programs

    abbrev binds : List Bind
    binds = binds_of ps ss

    abbrev put : ℕ → ℕ → Term
    put = linked programs binds

    abbrev opens : Imports
    opens = open_from binds 0 programs

    -- the name of an import that stays of an instance below u
    abbrev IsOf : ℕ → Thing → Type 0
    IsOf u z = (y : Name) × (z ≡ Named y) × Origin ps programs ss root rooted have names differ u y

    abbrev IsGood : ℕ → Term → Type 0
    IsGood u m = Typed opens [] m (P u).outcome × ((d : ℕ) (z : Thing) → Contains (things d m) z → IsOf u z)

    module _ (n u : ℕ) (low : u < length ps) (children : (s : Service) → HasService ss s → s.user ≡ u → IsGood s.giver (put n s.giver)) where
      abbrev given : Name → Option Term
      given y = with_giver (put n) (giver_of binds u y)

      abbrev HasNames : ℕ → Term → Type 0
      HasNames j m = (d : ℕ) (z : Thing) → Contains (things d m) z → (y : Name) × (z ≡ Named y) × Brings ps programs ss root rooted have names differ u j y

      -- what is put in for an import, which has a number
      record IsPut (x : Name) (t : Type') : Type 0 where
        number : ℕ
        import : Imported
        at : slice_get (P u).imports number ≡ Some import
        name : import.name ≡ x
        type : Typed opens [] (or_import x (given x)) t
        free : HasNames number (or_import x (given x))

      by_service : (x : Name) (t : Type') (e : Imported) (j : ℕ) → slice_get (P u).imports j ≡ Some e → e.name ≡ x → e.ty ≡ t → (o : Option Service)
          → service_at ss u j ≡ o → IsPut x t
      by_service x t e j at name type None found =
          let none : given x ≡ None =
          ap (λ (y : Name). given y) (sym name) ∙ ap (with_giver (put n)) (giver_same ps ss rooted.sound u j e (names u low) at ∙ ap giver_if found)
          in
          let own : import_type opens e.name ≡ Some e.ty =
          type_of opens differ e (stays_of ps programs ss root rooted have names differ u j e low at found)
          in
          let of_x : import_type opens x ≡ Some t = ap (import_type opens) (sym name) ∙ (own ∙ ap Some type) in
          let free : HasNames j (Import x) = λ d z has. own_name z has in
          record {
            number = j;
            import = e;
            at = at;
            name = name;
            type = subst (λ (o : Option Term). Typed opens [] (or_import x o) t) (sym none) of_x;
            free = subst (λ (o : Option Term). HasNames j (or_import x o)) (sym none) free;
          }
        where
          own_name : (z : Thing) → Contains (Named x ∷ []) z → (y : Name) × (z ≡ Named y) × Brings ps programs ss root rooted have names differ u j y
          own_name z (zero, small, same) = (x, sym same, inl (found, e, at, name))
          own_name z (suc k, small, same) = absurd (omega (arith, small))
      by_service x t e j at name type (Some s) found =
          let there : given x ≡ Some (put n s.giver) =
          ap (λ (y : Name). given y) (sym name) ∙ ap (with_giver (put n)) (giver_same ps ss rooted.sound u j e (names u low) at ∙ ap giver_if found)
          in
          let r = serves ps ss rooted.sound u j e s at found in
          let (giver, below) = children s r.has r.user in
          let of_x : Typed opens [] (put n s.giver) t = subst (λ (v : Type'). Typed opens [] (put n s.giver) v) (r.type ∙ type) giver in
          let free : HasNames j (put n s.giver) = λ d z has. (let (y, same, o) = below d z has in (y, same, inr (s, found, o))) in
          record {
            number = j;
            import = e;
            at = at;
            name = name;
            type = subst (λ (o : Option Term). Typed opens [] (or_import x o) t) (sym there) of_x;
            free = subst (λ (o : Option Term). HasNames j (or_import x o)) (sym there) free;
          }

      is_put : (x : Name) (t : Type') → import_type (P u).imports x ≡ Some t → IsPut x t
      is_put x t h =
          let (e, has, test, type) = has_type (P u).imports x t h in
          let (j, at) = place_of (P u).imports e has in
          by_service x t e j at (bytes_eq_same e.name x test) type (service_at ss u j) refl

      are_typed : AreTyped (P u).imports opens (or_itself given)
      are_typed x t h = (or_import x (given x), refl, (is_put x t h).type)

      share_nothing : ShareNothing (P u).imports (or_itself given)
      share_nothing x y t v m k of_x of_y is_m is_k apart z in_m in_k =
          let a = is_put x t of_x in
          let b = is_put y v of_y in
          let first : or_import x (given x) ≡ m = cc is_m in
          let second : or_import y (given y) ≡ k = cc is_k in
          let (p, at_p, brings) = a.free 0 z (subst (λ (o : Term). Contains (things 0 o) z) (sym first) in_m) in
          let (q, at_q, brings_q) = b.free 0 z (subst (λ (o : Term). Contains (things 0 o) z) (sym second) in_k) in
          let both : Named p ≡ Named q = sym at_p ∙ at_q in
          let name : p ≡ q = cc both in
          let number : a.number ≡ b.number =
          one_number ps programs ss root rooted have names differ u a.number b.number q low
          (subst (Brings ps programs ss root rooted have names differ u a.number) name brings) brings_q
          in
          let imports : Some a.import ≡ Some b.import = sym a.at ∙ (ap (slice_get (P u).imports) number ∙ b.at) in
          let import : a.import ≡ b.import = cc imports in
          apart (sym a.name ∙ (ap (λ (i : Imported). i.name) import ∙ b.name))

      is_good : IsGood u (put (suc n) u)
      is_good =
          let same = sym (with_names given (M u)) in (
            subst (λ (m : Term). Typed opens [] m (P u).outcome) same
                (with_supplies (P u).imports opens (or_itself given) are_typed share_nothing (M u) [] (P u).outcome (typed u low)),
            λ d z.
                from_supplies (P u).imports given (IsOf u)
                (λ x t h e y has.
                let a = is_put x t h in
                let (name, is, brings) = a.free e y has in
                (name, is, brings_origin ps programs ss root rooted have names differ u a.number name low brings)) z (M u) d [] (P u).outcome (omega arith) (typed u low),
          )

    -- An instance so many services below the root has the levels that it needs.
    all_good : (n u i : ℕ) → u < length ps → Below ss i u root → i + n ≡ length ps → IsGood u (put n u)
    all_good zero u i low up sum =
        let (j, few, up_j) = reached ps ss root rooted u low in
        let level = same_level ps ss rooted.sound i j u root up up_j in
        absurd (omega (arith, few, level, sum))
    all_good (suc n) u i low up sum =
        let more : suc i + n ≡ length ps = omega (arith, sum) in
        is_good n u low
        (λ s has user.
        all_good n s.giver (suc i) (giver_low ps ss root rooted s has) (s, has, refl, subst (λ (v : ℕ). Below ss i v root) (sym user) up) more)

    pub root_typed : Typed opens [] (put (length ps) root) (P root).outcome
    root_typed = let none : 0 + length ps ≡ length ps = omega arith in (all_good (length ps) root 0 rooted.low refl none).0

-- plans and programs in pairs
typed_imports : (ps : List Plan) (ms : Instances) → AreTypedAs ps ms → HaveImports ps ms
typed_imports [] [] all = tt
typed_imports [] (m ∷ ms) all = absurd all
typed_imports (p ∷ ps) [] all = absurd all
typed_imports (p ∷ ps) (m ∷ ms) (one, all) = (one.imports, one.names, typed_imports ps ms all)

typed_size : (ps : List Plan) (ms : Instances) → AreTypedAs ps ms → length ms ≡ length ps
typed_size [] [] all = refl
typed_size [] (m ∷ ms) all = absurd all
typed_size (p ∷ ps) [] all = absurd all
typed_size (p ∷ ps) (m ∷ ms) (one, all) = ap suc (typed_size ps ms all)

names_at : (ps : List Plan) (ms : Instances) → AreTypedAs ps ms → (k : ℕ) → k < length ps → NamesDiffer (plan_at ps k).imports
names_at [] ms all k low = absurd (omega (arith, low))
names_at (p ∷ ps) [] all k low = absurd all
names_at (p ∷ ps) (m ∷ ms) (one, all) zero low = one.names
names_at (p ∷ ps) (m ∷ ms) (one, all) (suc k) low = names_at ps ms all k (omega (arith, low))

typed_at : (ps : List Plan) (ms : Instances) → AreTypedAs ps ms → (k : ℕ) → k < length ps → Typed (plan_at ps k).imports [] (body_at ms k) (plan_at ps k).outcome
typed_at [] ms all k low = absurd (omega (arith, low))
typed_at (p ∷ ps) [] all k low = absurd all
typed_at (p ∷ ps) (m ∷ ms) (one, all) zero low = one.typed
typed_at (p ∷ ps) (m ∷ ms) (one, all) (suc k) low = typed_at ps ms all k (omega (arith, low))

pub realised_typed : (ps : List Plan) (ms : Instances) → AreRealised ps ms → AreTypedAs ps ms
realised_typed [] [] all = tt
realised_typed [] (m ∷ ms) all = absurd all
realised_typed (p ∷ ps) [] all = absurd all
realised_typed (p ∷ ps) (m ∷ ms) (one, all) = (record { imports = one.imports; names = one.names; typed = one.typed }, realised_typed ps ms all)

pub substituted_is_typed : SubstitutedIsTyped
substituted_is_typed b ps links programs are each all =
    let Plans : List Plan = plans_of ps in
    let rooted = links_rooted b ps links are each in
    let have = typed_imports Plans programs all in
    let differ = subst NamesDiffer (open_same Plans links.services rooted.sound programs have) (links_differ b ps links are) in
    let body =
    root_typed Plans programs links.services links.root rooted have (names_at Plans programs all) (typed_at Plans programs all) differ
    in
    let opens : Imports = (substituted_along ps links programs).imports in
    let put : ℕ → Term = λ n. linked programs (binds_of Plans links.services) n links.root in
    let outcome : (plan_at Plans links.root).outcome ≡ outcome_of (slice_get Plans links.root) =
    ap outcome_of (sym (plan_there Plans links.root rooted.low))
    in
    subst (λ (n : ℕ). Typed opens [] (put n) (outcome_of (slice_get Plans links.root))) (sym (typed_size Plans programs all))
    (subst (λ (t : Type'). Typed opens [] (put (length Plans)) t) outcome body)
