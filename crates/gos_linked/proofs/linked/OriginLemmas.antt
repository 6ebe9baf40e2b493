-- The imports that stay, by the instances that they are of: what is put in for different imports of an instance has none in common.
use Rattle.std.specs.Prelude.{◌≡◌, ◌≢◌, ◌⊎◌, ◌<◌, ◌+◌, ◌-◌, ℕ, zero, suc, List, [], ◌∷◌, length, Option, Some, None, slice_get, Contains}
use Rattle.std.proofs.Common.{refl, sym, ◌∙◌, ap, subst, arith, inl, inr}
use Rattle.std.proofs.lemmas.List.Elements.{Contains-append_left, Contains-append_right}
use Rattle.gos_model.specs.Terms.{Name}
use Rattle.gos_model.specs.Typing.{Imported, Imports}
use Rattle.gos_model.specs.Linking.{Instances, Bind, giver_of, add_open, open_of, open_from}
use Rattle.gos_plan.specs.Plans.{Plan}
use Rattle.gos_realises.specs.realises.Realises.{NamesDiffer}
use Rattle.gos_realises.proofs.realises.PlaceLemmas.{differ_at, differ_second, differ_between}
use Rattle.gos_link.specs.declared.services.Service.{Service}
use Rattle.gos_linked.specs.linked.Linked.{binds_of}
use Rattle.gos_linked.proofs.linked.ChainLemmas.{IsSound, IsRooted, Below, below_then, no_ring, same_level, same_top}
use Rattle.gos_linked.proofs.linked.GrowLemmas.{plan_at, service_at}
use Rattle.gos_linked.proofs.linked.WholeLemmas.{service_found}
use Rattle.gos_linked.proofs.linked.BodyLemmas.{giver_if, giver_same}
use Rattle.gos_linked.proofs.linked.OpenLemmas.{HaveImports}

-- an import that nothing serves stays
in_more : (o : Option ℕ) (y x : Imported) (is : Imports) → Contains is x → Contains (add_open o y is) x
in_more None y x is has = Contains-append_right (y ∷ []) is x has
in_more (Some g) y x is has = has

stays : (bs : List Bind) (u : ℕ) (xs : Imports) (k : ℕ) (x : Imported) → slice_get xs k ≡ Some x → giver_of bs u x.name ≡ None → Contains (open_of bs u xs) x
stays bs u [] k x at none = absurd (cc at)
stays bs u (y ∷ ys) zero x at none =
    let same : y ≡ x = cc at in
    let unserved : giver_of bs u y.name ≡ None = ap (λ (z : Imported). giver_of bs u z.name) same ∙ none in
    subst (λ (o : Option ℕ). Contains (add_open o y (open_of bs u ys)) x) (sym unserved) (0, omega arith, same)
stays bs u (y ∷ ys) (suc k) x at none = in_more (giver_of bs u y.name) y x (open_of bs u ys) (stays bs u ys k x at none)

module _ (bs : List Bind) where
  first_open : (u a : ℕ) (q : Plan) (is : Imports) (x : Imported) → q.imports ≡ is → u + 0 ≡ a → Contains (open_of bs a q.imports) x → Contains (open_of bs u is) x
  first_open u a q is x imports sum has =
      let here : a ≡ u = omega (arith, sum) in
      subst (λ (js : Imports). Contains (open_of bs u js) x) imports (subst (λ (n : ℕ). Contains (open_of bs n q.imports) x) here has)

  -- what stays of an instance stays of all
  pub among_all : (qs : List Plan) (ms : Instances) → HaveImports qs ms → (u v a : ℕ) → u + v ≡ a → v < length qs → (x : Imported)
      → Contains (open_of bs a (plan_at qs v).imports) x → Contains (open_from bs u ms) x
  among_all [] ms all u v a sum low x has = absurd (omega (arith, low))
  among_all (q ∷ qs) [] all u v a sum low x has = absurd all
  among_all (q ∷ qs) (m ∷ ms) (imports, names, all) u zero a sum low x has =
      Contains-append_left (open_of bs u m.imports) (open_from bs (suc u) ms) x (first_open u a q m.imports x imports sum has)
  among_all (q ∷ qs) (m ∷ ms) (imports, names, all) u (suc v) a sum low x has =
      Contains-append_right (open_of bs u m.imports) (open_from bs (suc u) ms) x
      (among_all qs ms all (suc u) v a (omega (arith, sum)) (omega (arith, low)) x has)

  -- what stays of two instances has different names
  two_apart : (qs : List Plan) (ms : Instances) → HaveImports qs ms → (u v w a b : ℕ) → NamesDiffer (open_from bs u ms) → u + v ≡ a → u + w ≡ b → v < w
      → w < length qs → (x y : Imported) → Contains (open_of bs a (plan_at qs v).imports) x → Contains (open_of bs b (plan_at qs w).imports) y → x.name ≢ y.name
  two_apart [] ms all u v w a b differ sum_a sum_b less low x y of_x of_y = absurd (omega (arith, low))
  two_apart (q ∷ qs) [] all u v w a b differ sum_a sum_b less low x y of_x of_y = absurd all
  two_apart (q ∷ qs) (m ∷ ms) (imports, names, all) u v zero a b differ sum_a sum_b less low x y of_x of_y = absurd (omega (arith, less))
  two_apart (q ∷ qs) (m ∷ ms) (imports, names, all) u zero (suc w) a b differ sum_a sum_b less low x y of_x of_y =
      differ_between (open_of bs u m.imports) (open_from bs (suc u) ms) differ x y (first_open u a q m.imports x imports sum_a of_x)
      (among_all qs ms all (suc u) w b (omega (arith, sum_b)) (omega (arith, low)) y of_y)
  two_apart (q ∷ qs) (m ∷ ms) (imports, names, all) u (suc v) (suc w) a b differ sum_a sum_b less low x y of_x of_y =
      two_apart qs ms all (suc u) v w a b (differ_second (open_of bs u m.imports) (open_from bs (suc u) ms) differ) (omega (arith, sum_a)) (omega (arith, sum_b))
      (omega (arith, less)) (omega (arith, low)) x y of_x of_y

module _ (ps : List Plan) (programs : Instances) (ss : List Service) (root : ℕ) (rooted : IsRooted ps ss root) (have : HaveImports ps programs)
    (names : (k : ℕ) → k < length ps → NamesDiffer (plan_at ps k).imports) (differ : NamesDiffer (open_from (binds_of ps ss) 0 programs))
  where
    abbrev P : ℕ → Plan
    P = plan_at ps

    sound : IsSound ps ss
    sound = rooted.sound

    open_at : (v k : ℕ) (x : Imported) → v < length ps → slice_get (P v).imports k ≡ Some x → service_at ss v k ≡ None
        → Contains (open_of (binds_of ps ss) v (P v).imports) x
    open_at v k x low at free =
        stays (binds_of ps ss) v (P v).imports k x at (giver_same ps ss sound v k x (names v low) at ∙ ap giver_if free)

    -- an import that nothing serves is among those that stay
    pub stays_of : (v k : ℕ) (x : Imported) → v < length ps → slice_get (P v).imports k ≡ Some x → service_at ss v k ≡ None
        → Contains (open_from (binds_of ps ss) 0 programs) x
    stays_of v k x low at free =
        let none : 0 + v ≡ v = omega arith in among_all (binds_of ps ss) ps programs have 0 v v none low x (open_at v k x low at free)

    -- and there is one of its name
    one_place : (v k w l : ℕ) (x y : Imported) → v < length ps → w < length ps → slice_get (P v).imports k ≡ Some x → slice_get (P w).imports l ≡ Some y
        → service_at ss v k ≡ None → service_at ss w l ≡ None → x.name ≡ y.name → (v ≡ w) × (k ≡ l)
    one_place v k w l x y low_v low_w at_x at_y free_x free_y name = by_order (v - w) (w - v) refl refl
      where
        of_v : 0 + v ≡ v
        of_v = omega arith

        of_w : 0 + w ≡ w
        of_w = omega arith

        by_order : (a b : ℕ) → v - w ≡ a → w - v ≡ b → (v ≡ w) × (k ≡ l)
        by_order zero zero e f =
            let same : v ≡ w = omega (arith, e, f) in
            let there : slice_get (P w).imports k ≡ Some x = subst (λ (n : ℕ). slice_get (P n).imports k ≡ Some x) same at_x in
            (same, differ_at (P w).imports (names w low_w) k l x y there at_y name)
        by_order (suc a) b e f =
            absurd
            (two_apart (binds_of ps ss) ps programs have 0 w v w v differ of_w of_v (omega (arith, e)) low_v y x (open_at w l y low_w at_y free_y)
            (open_at v k x low_v at_x free_x) (sym name))
        by_order zero (suc b) e f =
            absurd
            (two_apart (binds_of ps ss) ps programs have 0 v w v w differ of_v of_w (omega (arith, f)) low_w x y (open_at v k x low_v at_x free_x)
            (open_at w l y low_w at_y free_y) name)

    -- the name of an import of an instance below u that nothing serves
    pub record Origin (u : ℕ) (y : Name) : Type 0 where
      pub level : ℕ
      pub instance : ℕ
      pub below : Below ss level instance u
      pub low : instance < length ps
      pub number : ℕ
      pub import : Imported
      pub at : slice_get (P instance).imports number ≡ Some import
      pub free : service_at ss instance number ≡ None
      pub name : import.name ≡ y

    -- What is put in for import number j of u has the name: it is the import's own, or one below its giver.
    abbrev pub Brings : ℕ → ℕ → Name → Type 0
    Brings u j y =
        ((service_at ss u j ≡ None) × (x : Imported) × (slice_get (P u).imports j ≡ Some x) × (x.name ≡ y))
        ⊎ ((s : Service) × (service_at ss u j ≡ Some s) × Origin s.giver y)

    above : (u j : ℕ) (s : Service) (y : Name) → service_at ss u j ≡ Some s → (o : Origin s.giver y) → Below ss (suc o.level) o.instance u
    above u j s y found o =
        let (has, user, import) = service_found ss u j s found in
        let more : o.level + 1 ≡ suc o.level = omega arith in
        subst (λ (n : ℕ). Below ss n o.instance u) more (below_then ss o.level 1 o.instance s.giver u o.below (s, has, refl, user))

    pub brings_origin : (u j : ℕ) (y : Name) → u < length ps → Brings u j y → Origin u y
    brings_origin u j y low (inl (free, x, at, name)) =
        record { level = 0; instance = u; below = refl; low = low; number = j; import = x; at = at; free = free; name = name }
    brings_origin u j y low (inr (s, found, o)) =
        record {
          level = suc o.level;
          instance = o.instance;
          below = above u j s y found o;
          low = o.low;
          number = o.number;
          import = o.import;
          at = o.at;
          free = o.free;
          name = o.name;
        }

    not_own : (u j l : ℕ) (x : Imported) (s : Service) (y : Name) → u < length ps → service_at ss u j ≡ None → slice_get (P u).imports j ≡ Some x → x.name ≡ y
        → service_at ss u l ≡ Some s → Origin s.giver y → ⊥
    not_own u j l x s y low free at name found o =
        let (same, number) = one_place u j o.instance o.number x o.import low o.low at o.at free o.free (name ∙ sym o.name) in
        no_ring ps ss sound o.level u (subst (λ (k : ℕ). Below ss (suc o.level) k u) (sym same) (above u l s y found o))

    -- no two imports of an instance bring one name
    pub one_number : (u j l : ℕ) (y : Name) → u < length ps → Brings u j y → Brings u l y → j ≡ l
    one_number u j l y low (inl (free, x, at, name)) (inl (free_z, z, at_z, name_z)) =
        let (same, number) = one_place u j u l x z low low at at_z free free_z (name ∙ sym name_z) in number
    one_number u j l y low (inl (free, x, at, name)) (inr (t, found, o)) = absurd (not_own u j l x t y low free at name found o)
    one_number u j l y low (inr (s, found, o)) (inl (free, x, at, name)) = absurd (not_own u l j x s y low free at name found o)
    one_number u j l y low (inr (s, found, o)) (inr (t, found_t, r)) =
        let (has, user, import) = service_found ss u j s found in
        let (has_t, user_t, import_t) = service_found ss u l t found_t in
        let (same, number) = one_place o.instance o.number r.instance r.number o.import r.import o.low r.low o.at r.at o.free r.free (o.name ∙ sym r.name) in
        let up : Below ss (suc r.level) o.instance u = subst (λ (k : ℕ). Below ss (suc r.level) k u) (sym same) (above u l t y found_t r) in
        let level = same_level ps ss sound (suc o.level) (suc r.level) o.instance u (above u j s y found o) up in
        let one_level : r.level ≡ o.level = omega (arith, level) in
        let below : Below ss o.level o.instance t.giver =
        subst (λ (n : ℕ). Below ss n o.instance t.giver) one_level (subst (λ (k : ℕ). Below ss r.level k t.giver) (sym same) r.below)
        in
        let giver = same_top ps ss sound o.level o.instance s.giver t.giver o.below below in
        let one : s ≡ t = sound.one_giver s t has has_t giver in
        sym import ∙ (ap (λ (v : Service). v.import) one ∙ import_t)
