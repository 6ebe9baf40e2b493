-- What the tree of the instances makes of its imports' names is the substituted program.
use Rattle.std.specs.Prelude.{◌≡◌, ◌≢◌, ◌<◌, ◌+◌, ◌&&◌, ℕ, zero, suc, Bool, true, false, List, [], ◌∷◌, ◌++◌, length, Option, Some, None, slice_get, nat_eq, if◌then◌else◌}
use Rattle.std.specs.Str.{bytes_eq}
use Rattle.std.proofs.Common.{refl, sym, ◌∙◌, ap, subst, arith, inl, inr, append_assoc}
use Rattle.std.proofs.lemmas.List.{length-append}
use Rattle.std.proofs.lemmas.Bool.{eqb-true, eqb-false}
use Rattle.gos_types.specs.Types.{Type'}
use Rattle.gos_types.proofs.BytesLemmas.{bytes_eq_itself, bytes_eq_same}
use Rattle.gos_model.specs.Terms.{Name, Term, Import}
use Rattle.gos_model.specs.Typing.{Imported, import_type}
use Rattle.gos_model.specs.Linking.{or_import, supplied, Instances, body_at, giver_of, with_giver, linked}
use Rattle.gos_plan.specs.Plans.{Plan}
use Rattle.gos_realises.specs.realises.Realises.{NamesDiffer}
use Rattle.gos_realises.proofs.realises.PlaceLemmas.{differ_at}
use Rattle.gos_link.specs.declared.services.Service.{Service}
use Rattle.gos_link.specs.Services.{HasService}
use Rattle.gos_link.specs.Linked.{imports_of}
use Rattle.gos_supplies.proofs.applications.TermLemmas.{supplied_same}
use Rattle.gos_supplies.specs.instances.Trees.{first, after, served_by, term_among, Serve, left_of, meaning, names_of, body_of}
use Rattle.gos_supplies.proofs.instances.TypeLemmas.{or_itself, with_names}
use Rattle.gos_supplies.proofs.instances.ByLemmas.{first_all, after_all}
use Rattle.gos_supplies.proofs.instances.BodyLemmas.{names_length}
use Rattle.gos_linked.specs.linked.Linked.{name_if, binds_of}
use Rattle.gos_linked.proofs.linked.ChainLemmas.{IsSound, IsRooted, Below, reached, same_level, giver_low}
use Rattle.gos_linked.proofs.linked.GrowLemmas.{RealisesTerm, plan_at, service_at, Grown, alone, with_import, grown_from, grow}
use Rattle.gos_linked.proofs.linked.WholeLemmas.{plan_is, service_found, import_here, next_size, next_imports, grow_grown}

served_front : (k j : ℕ) (f g : List Term → Term) (ts us vs : List Term) → length ts ≡ k → length us ≡ j
    → served_by k j f g (ts ++ (us ++ vs)) ≡ f (ts ++ (g vs ∷ us))
served_front k j f g ts us vs size_t size_u =
    let rest : after k (ts ++ (us ++ vs)) ≡ us ++ vs = ap (λ (n : ℕ). after n (ts ++ (us ++ vs))) (sym size_t) ∙ after_all ts (us ++ vs) in
    let front : first k (ts ++ (us ++ vs)) ≡ ts = ap (λ (n : ℕ). first n (ts ++ (us ++ vs))) (sym size_t) ∙ first_all ts (us ++ vs) in
    let middle : first j (after k (ts ++ (us ++ vs))) ≡ us = (λ i. first (sym size_u i) (rest i)) ∙ first_all us vs in
    let last : after j (after k (ts ++ (us ++ vs))) ≡ vs = (λ i. after (sym size_u i) (rest i)) ∙ after_all us vs in
    λ i. f (front i ++ (g (last i) ∷ middle i))

names_append : (is js : List Imported) → names_of (is ++ js) ≡ names_of is ++ names_of js
names_append [] js = refl
names_append (i ∷ is) js = ap (λ (l : List Term). Import i.name ∷ l) (names_append is js)

-- what stands for imports, from number k on
abbrev pub given_one : (ℕ → Term) → Imported → Option Service → Term
given_one b x None = Import x.name
given_one b x (Some s) = b s.giver

abbrev pub given : (ℕ → Option Service) → (ℕ → Term) → ℕ → List Imported → List Term
given gs b k [] = []
given gs b k (x ∷ xs) = given_one b x (gs k) ∷ given gs b (suc k) xs

module _ (gs : ℕ → Option Service) (f : ℕ → Grown) (lefts : (k : ℕ) (s : Service) → gs k ≡ Some s → left_of (f s.giver).tree ≡ (f s.giver).behind)
    (p : Plan) (m : Term) (u : ℕ)
  where
    abbrev base : Grown
    base = alone p m u []

    abbrev bodies : ℕ → Term
    bodies g = body_of (f g).tree

    one_more : (k : ℕ) (is : List Imported) (x : Imported) (w : Grown) (ts : List Term) → length ts ≡ length is → (o : Option Service) → gs k ≡ o
        → meaning (with_import o f is x w).tree (ts ++ names_of (with_import o f is x w).behind)
        ≡ meaning w.tree ((ts ++ given_one bodies x o ∷ []) ++ names_of w.behind)
    one_more k is x w ts size None found = ap (meaning w.tree) (sym (append_assoc ts (Import x.name ∷ []) (names_of w.behind)))
    one_more k is x w ts size (Some s) found =
        let c : Grown = f s.giver in
        ap (λ (l : List Term). meaning (Serve is w.behind x w.tree c.tree) (ts ++ l)) (names_append w.behind c.behind)
        ∙ (served_front (length is) (length w.behind) (meaning w.tree) (meaning c.tree) ts (names_of w.behind) (names_of c.behind) size (names_length w.behind)
        ∙ (ap (λ (l : List Imported). meaning w.tree (ts ++ (meaning c.tree (names_of l) ∷ names_of w.behind))) (sym (lefts k s found))
        ∙ ap (meaning w.tree) (sym (append_assoc ts (bodies s.giver ∷ []) (names_of w.behind)))))

    from_meaning : (k : ℕ) (is xs : List Imported) (ts : List Term) → length ts ≡ length is
        → meaning (grown_from gs f base k is xs).tree (ts ++ names_of (grown_from gs f base k is xs).behind)
        ≡ supplied (term_among p.imports (ts ++ given gs bodies k xs)) m
    from_meaning k is [] ts size = refl
    from_meaning k is (x ∷ xs) ts size =
        let w : Grown = grown_from gs f base (suc k) (is ++ x ∷ []) xs in
        let t : Term = given_one bodies x (gs k) in
        let sizes : length (ts ++ t ∷ []) ≡ length (is ++ x ∷ []) =
        length-append ts (t ∷ []) ∙ ((λ i. size i + 1) ∙ sym (length-append is (x ∷ [])))
        in
        one_more k is x w ts size (gs k) refl
        ∙ (from_meaning (suc k) (is ++ x ∷ []) xs (ts ++ t ∷ []) sizes
        ∙ ap (λ (l : List Term). supplied (term_among p.imports l) m) (append_assoc ts (t ∷ []) (given gs bodies (suc k) xs)))

other_name : (x y : Name) → x ≢ y → bytes_eq x y ≡ false
other_name x y apart = by_test (bytes_eq x y) refl
  where
    by_test : (b : Bool) → bytes_eq x y ≡ b → b ≡ false
    by_test true test = absurd (apart (bytes_eq_same x y test))
    by_test false test = refl

same_test : (is : List Imported) → NamesDiffer is → (i j : ℕ) (x y : Imported) → slice_get is i ≡ Some x → slice_get is j ≡ Some y
    → bytes_eq x.name y.name ≡ nat_eq i j
same_test is differ i j x y at_x at_y = by_test (nat_eq i j) refl
  where
    by_test : (b : Bool) → nat_eq i j ≡ b → bytes_eq x.name y.name ≡ b
    by_test true test =
        let both : Some x ≡ Some y = sym at_x ∙ (ap (slice_get is) (eqb-true i j test) ∙ at_y) in
        let one : x ≡ y = cc both in
        ap (λ (z : Imported). bytes_eq x.name z.name) (sym one) ∙ bytes_eq_itself x.name
    by_test false test = other_name x.name y.name (λ e. eqb-false i j test (differ_at is differ i j x y at_x at_y e))

abbrev pub giver_if : Option Service → Option ℕ
giver_if None = None
giver_if (Some s) = Some s.giver

-- the giver of an import by its name is that by its number
module _ (ps : List Plan) (ss : List Service) (sound : IsSound ps ss) (u k : ℕ) (x : Imported) (differ : NamesDiffer (plan_at ps u).imports)
    (at : slice_get (plan_at ps u).imports k ≡ Some x)
  where
    abbrev name_of : Service → Name
    name_of s = name_if (slice_get (imports_of (slice_get ps s.user)) s.import)

    one_test : (s : Service) → HasService ss s → (nat_eq s.user u && bytes_eq (name_of s) x.name) ≡ (nat_eq s.user u && nat_eq s.import k)
    one_test s has = by_test (nat_eq s.user u) refl
      where
        by_test : (b : Bool) → nat_eq s.user u ≡ b → (b && bytes_eq (name_of s) x.name) ≡ (b && nat_eq s.import k)
        by_test false test = refl
        by_test true test =
            let (p, q, y, at_p, at_q, at_y, type) = sound.fits s has in
            let plan : p ≡ plan_at ps u = sym (plan_is ps s.user p at_p) ∙ ap (plan_at ps) (eqb-true s.user u test) in
            let at_u : slice_get (plan_at ps u).imports s.import ≡ Some y = subst (λ (r : Plan). slice_get r.imports s.import ≡ Some y) plan at_y in
            let name : name_of s ≡ y.name =
            ap (λ (o : Option Plan). name_if (slice_get (imports_of o) s.import)) at_p ∙ ap name_if at_y
            in
            ap (λ (z : Name). bytes_eq z x.name) name ∙ same_test (plan_at ps u).imports differ s.import k y x at_u at

    givers : (ts : List Service) → ((s : Service) → HasService ts s → HasService ss s) → giver_of (binds_of ps ts) u x.name ≡ giver_if (service_at ts u k)
    givers [] all = refl
    givers (s ∷ ts) all =
        let test = one_test s (all s (inl refl)) in
        let rest = givers ts (λ t has. all t (inr has)) in
        (λ i. if test i then Some s.giver else rest i) ∙ chosen (nat_eq s.user u && nat_eq s.import k)
      where
        chosen : (b : Bool) → (if b then Some s.giver else giver_if (service_at ts u k)) ≡ giver_if (if b then Some s else service_at ts u k)
        chosen true = refl
        chosen false = refl

    pub giver_same : giver_of (binds_of ps ss) u x.name ≡ giver_if (service_at ss u k)
    giver_same = givers ss (λ s has. has)

module _ (ps : List Plan) (programs : Instances) (ss : List Service) (root : ℕ) (rooted : IsRooted ps ss root)
    (realised : (k : ℕ) → k < length ps → RealisesTerm (plan_at ps k) (body_at programs k))
  where
    abbrev P : ℕ → Plan
    P = plan_at ps

    abbrev M : ℕ → Term
    M = body_at programs

    abbrev put : ℕ → ℕ → Term
    put = linked programs (binds_of ps ss)

    -- what is supplied to an instance is what is linked to it
    module _ (n u : ℕ) (low : u < length ps) (b : ℕ → Term) (children : (s : Service) → HasService ss s → s.user ≡ u → b s.giver ≡ put n s.giver) where
      abbrev Both : Name → Option Term → Option Term → Type 0
      Both y s t = or_import y s ≡ or_import y t

      one_same : (k : ℕ) (x : Imported) (y : Name) → slice_get (P u).imports k ≡ Some x → x.name ≡ y → (o : Option Service) → service_at ss u k ≡ o
          → Both y (Some (given_one b x o)) (with_giver (put n) (giver_of (binds_of ps ss) u y))
      one_same k x y at name None found =
          let none : giver_of (binds_of ps ss) u y ≡ None =
          ap (giver_of (binds_of ps ss) u) (sym name) ∙ (giver_same ps ss rooted.sound u k x (realised u low).names at ∙ ap giver_if found)
          in
          ap Import name ∙ ap (λ (o : Option ℕ). or_import y (with_giver (put n) o)) (sym none)
      one_same k x y at name (Some s) found =
          let there : giver_of (binds_of ps ss) u y ≡ Some s.giver =
          ap (giver_of (binds_of ps ss) u) (sym name) ∙ (giver_same ps ss rooted.sound u k x (realised u low).names at ∙ ap giver_if found)
          in
          let (has, user, import) = service_found ss u k s found in
          children s has user ∙ ap (λ (o : Option ℕ). or_import y (with_giver (put n) o)) (sym there)

      among_same : (k : ℕ) (is xs : List Imported) → (P u).imports ≡ is ++ xs → length is ≡ k → (y : Name) (t : Type') → import_type xs y ≡ Some t
          → Both y (term_among xs (given (service_at ss u) b k xs) y) (with_giver (put n) (giver_of (binds_of ps ss) u y))
      among_same k is [] imports size y t typed = absurd (cc typed)
      among_same k is (x ∷ xs) imports size y t typed =
          by_test (bytes_eq x.name y) refl typed
          (among_same (suc k) (is ++ x ∷ []) xs (next_imports is xs (P u).imports x imports) (next_size is x k size) y t)
        where
          by_test : (c : Bool) → bytes_eq x.name y ≡ c → (if c then Some x.ty else import_type xs y) ≡ Some t
              → (import_type xs y ≡ Some t
              → Both y (term_among xs (given (service_at ss u) b (suc k) xs) y) (with_giver (put n) (giver_of (binds_of ps ss) u y)))
              → Both y (if c then Some (given_one b x (service_at ss u k)) else term_among xs (given (service_at ss u) b (suc k) xs) y)
              (with_giver (put n) (giver_of (binds_of ps ss) u y))
          by_test true test h rest = one_same k x y (import_here is xs (P u).imports x k imports size) (bytes_eq_same x.name y test) (service_at ss u k) refl
          by_test false test h rest = rest h

      pub all_same : supplied (term_among (P u).imports (given (service_at ss u) b 0 (P u).imports)) (M u) ≡ put (suc n) u
      all_same =
          let f : Name → Option Term = term_among (P u).imports (given (service_at ss u) b 0 (P u).imports) in
          let g : Name → Option Term = λ y. with_giver (put n) (giver_of (binds_of ps ss) u y) in
          with_names f (M u)
          ∙ (supplied_same (P u).imports (or_itself f) (or_itself g) (λ y t typed. ap Some (among_same 0 [] (P u).imports refl refl y t typed)) [] (M u)
          (P u).outcome
          (realised u low).typed
          ∙ sym (with_names g (M u)))

    -- An instance so many services below the root has the levels that it needs.
    pub body_same : (n u i : ℕ) → u < length ps → Below ss i u root → i + n ≡ length ps → body_of (grow P M ss n u).tree ≡ put n u
    body_same zero u i low up sum =
        let (j, few, up_j) = reached ps ss root rooted u low in
        let level = same_level ps ss rooted.sound i j u root up up_j in
        absurd (omega (arith, few, level, sum))
    body_same (suc n) u i low up sum =
        let whole = grow_grown ps M ss root rooted realised (suc n) u low in
        let f : ℕ → Grown = grow P M ss n in
        let lefts : (k : ℕ) (s : Service) → service_at ss u k ≡ Some s → left_of (f s.giver).tree ≡ (f s.giver).behind = λ k s found.
        (grow_grown ps M ss root rooted realised n s.giver (giver_low ps ss root rooted s (service_found ss u k s found).0)).left
        in
        let children : (s : Service) → HasService ss s → s.user ≡ u → body_of (f s.giver).tree ≡ put n s.giver = λ s has user.
        (let more : suc i + n ≡ length ps = omega (arith, sum) in
        body_same n s.giver (suc i) (giver_low ps ss root rooted s has) (s, has, refl, subst (λ (v : ℕ). Below ss i v root) (sym user) up) more)
        in
        ap (λ (l : List Imported). meaning (grow P M ss (suc n) u).tree (names_of l)) whole.left
        ∙ (from_meaning (service_at ss u) f lefts (P u) (M u) u 0 [] (P u).imports [] refl ∙ all_same n u low (λ g. body_of (f g).tree) children)
