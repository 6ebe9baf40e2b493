-- The tree below the root has each instance once, and each service.
use Rattle.std.specs.Prelude.{◌≡◌, ◌⊎◌, ◌<◌, ◌≤◌, ◌+◌, ◌&&◌, ℕ, zero, suc, Bool, true, false, List, [], ◌∷◌, ◌++◌, length, Option, Some, None, slice_get, nat_eq, if◌then◌else◌}
use Rattle.std.proofs.Common.{refl, sym, ◌∙◌, ap, subst, arith, inl, inr, append_assoc}
use Rattle.std.proofs.lemmas.List.{length-append}
use Rattle.std.proofs.lemmas.Option.{slice_get_within}
use Rattle.std.proofs.lemmas.Bool.{eqb-true, eq-eqb, and_parts}
use Rattle.gos_types.proofs.ListLemmas.{found_behind}
use Rattle.gos_model.specs.Terms.{Term}
use Rattle.gos_model.specs.Typing.{Imported}
use Rattle.gos_plan.specs.Plans.{Plan, contacts_of_import}
use Rattle.gos_realises.specs.realises.Regular.{count}
use Rattle.gos_link.specs.declared.services.Service.{Service}
use Rattle.gos_link.specs.Services.{HasService}
use Rattle.gos_link.specs.Linked.{imports_of, shakes_at}
use Rattle.gos_linked.proofs.linked.CountLemmas.{In, Distinct, distinct_both, in_first, in_second, in_either}
use Rattle.gos_linked.proofs.linked.ChainLemmas.{IsSound, IsRooted, Below, below_then, from_top, no_ring, same_level, same_top, giver_low}
use Rattle.gos_linked.proofs.linked.GrowLemmas.{RealisesTerm, plan_at, service_at, Grown, alone, with_import, grown_from, grow, IsGrown, alone_grown, unserved_grown, served_grown}

pub plan_is : (ps : List Plan) (k : ℕ) (p : Plan) → slice_get ps k ≡ Some p → plan_at ps k ≡ p
plan_is [] k p e = absurd (cc e)
plan_is (q ∷ ps) zero p e = cc e
plan_is (q ∷ ps) (suc k) p e = plan_is ps k p e

pub plan_there : (ps : List Plan) (k : ℕ) → k < length ps → slice_get ps k ≡ Some (plan_at ps k)
plan_there [] k low = absurd (omega (arith, low))
plan_there (q ∷ ps) zero low = refl
plan_there (q ∷ ps) (suc k) low = plan_there ps k (omega (arith, low))

abbrev Finds : List Service → ℕ → ℕ → Service → Type 0
Finds ss u i s = HasService ss s × (s.user ≡ u) × (s.import ≡ i)

pub service_found : (ss : List Service) (u i : ℕ) (s : Service) → service_at ss u i ≡ Some s → Finds ss u i s
service_found [] u i s e = absurd (cc e)
service_found (t ∷ ss) u i s e = by_test (nat_eq t.user u && nat_eq t.import i) refl e (service_found ss u i s)
  where
    by_test : (b : Bool) → (nat_eq t.user u && nat_eq t.import i) ≡ b → (if b then Some t else service_at ss u i) ≡ Some s
        → (service_at ss u i ≡ Some s → Finds ss u i s) → Finds (t ∷ ss) u i s
    by_test true test h rest =
        let here : t ≡ s = cc h in
        let tests = and_parts (nat_eq t.user u) (nat_eq t.import i) test in
        (inl here, subst (λ (r : Service). r.user ≡ u) here (eqb-true t.user u tests.0), subst (λ (r : Service). r.import ≡ i) here (eqb-true t.import i tests.1))
    by_test false test h rest = let (has, user, import) = rest h in (inr has, user, import)

some_service : (ss : List Service) (s : Service) → HasService ss s → (t : Service) × (service_at ss s.user s.import ≡ Some t)
some_service [] s h = absurd h
some_service (t ∷ ss) s h = by_test (nat_eq t.user s.user && nat_eq t.import s.import) refl h (some_service ss s)
  where
    by_test : (b : Bool) → (nat_eq t.user s.user && nat_eq t.import s.import) ≡ b → (t ≡ s) ⊎ HasService ss s
        → (HasService ss s → (r : Service) × (service_at ss s.user s.import ≡ Some r))
        → (r : Service) × ((if b then Some t else service_at ss s.user s.import) ≡ Some r)
    by_test true test h rest = (t, refl)
    by_test false test (inl e) rest =
        let both : (nat_eq t.user s.user && nat_eq t.import s.import) ≡ true =
        (λ l. eq-eqb t.user s.user (ap (λ (r : Service). r.user) e) l && eq-eqb t.import s.import (ap (λ (r : Service). r.import) e) l)
        in
        let wrong : true ≡ false = sym both ∙ test in
        absurd (cc wrong)
    by_test false test (inr k) rest = rest k

pub service_there : (ps : List Plan) (ss : List Service) → IsSound ps ss → (s : Service) → HasService ss s → service_at ss s.user s.import ≡ Some s
service_there ps ss sound s has =
    let (t, at) = some_service ss s has in
    let (has_t, user, import) = service_found ss s.user s.import t at in
    at ∙ ap Some (sound.one_import t s has_t has user import)

-- what a service of an import serves
pub record Serves (ps : List Plan) (ss : List Service) (u i : ℕ) (x : Imported) (s : Service) : Type 0 where
  pub has : HasService ss s
  pub user : s.user ≡ u
  pub import : s.import ≡ i
  pub shakes : shakes_at ps s ≡ count x.ty
  pub type : (plan_at ps s.giver).outcome ≡ x.ty

pub serves : (ps : List Plan) (ss : List Service) → IsSound ps ss → (u i : ℕ) (x : Imported) (s : Service) → slice_get (plan_at ps u).imports i ≡ Some x
    → service_at ss u i ≡ Some s → Serves ps ss u i x s
serves ps ss sound u i x s at found =
    let (has, user, import) = service_found ss u i s found in
    let (p, q, y, at_p, at_q, at_y, type) = sound.fits s has in
    let plan : plan_at ps u ≡ p = ap (plan_at ps) (sym user) ∙ plan_is ps s.user p at_p in
    let both : Some x ≡ Some y = sym at ∙ ((λ l. slice_get (plan l).imports (sym import l)) ∙ at_y) in
    let is_y : x ≡ y = cc both in
    record {
      has = has;
      user = user;
      import = import;
      shakes =
          ap (λ (o : Option Plan). length (contacts_of_import (slice_get (imports_of o) s.import))) at_p
          ∙ (ap (λ (o : Option Imported). length (contacts_of_import o)) at_y ∙ ap (λ (z : Imported). count z.ty) (sym is_y));
      type = ap (λ (r : Plan). r.outcome) (plan_is ps s.giver q at_q) ∙ (type ∙ ap (λ (z : Imported). z.ty) (sym is_y));
    }

pub import_here : (is xs ys : List Imported) (x : Imported) (k : ℕ) → ys ≡ is ++ (x ∷ xs) → length is ≡ k → slice_get ys k ≡ Some x
import_here is xs ys x k imports size =
    let end : k ≡ length is + 0 = omega (arith, size) in (λ l. slice_get (imports l) (end l)) ∙ found_behind is (x ∷ xs) 0

pub next_size : (is : List Imported) (x : Imported) (k : ℕ) → length is ≡ k → length (is ++ x ∷ []) ≡ suc k
next_size is x k size = let sum = length-append is (x ∷ []) in omega (arith, sum, size)

pub next_imports : (is xs ys : List Imported) (x : Imported) → ys ≡ is ++ (x ∷ xs) → ys ≡ (is ++ x ∷ []) ++ xs
next_imports is xs ys x imports = imports ∙ sym (append_assoc is (x ∷ []) xs)

module _ (ps : List Plan) (M : ℕ → Term) (ss : List Service) (root : ℕ) (rooted : IsRooted ps ss root)
    (realised : (k : ℕ) → k < length ps → RealisesTerm (plan_at ps k) (M k))
  where
    abbrev P : ℕ → Plan
    P = plan_at ps

    abbrev Holds : ℕ → List Imported → Grown → Type 0
    Holds = IsGrown ps P M (length ps)

    one_grown : (u : ℕ) (f : ℕ → Grown) → ((g : ℕ) → g < length ps → Holds g [] (f g)) → (k : ℕ) (is xs : List Imported) (x : Imported) (w : Grown)
        → (P u).imports ≡ is ++ (x ∷ xs) → length is ≡ k → Holds u (is ++ x ∷ []) w → (o : Option Service) → service_at ss u k ≡ o
        → Holds u is (with_import o f is x w)
    one_grown u f children k is xs x w imports size h None found = unserved_grown ps P M (length ps) u f is x w h
    one_grown u f children k is xs x w imports size h (Some s) found =
        let r = serves ps ss rooted.sound u k x s (import_here is xs (P u).imports x k imports size) found in
        served_grown ps P M (length ps) u f is xs x w s h (children s.giver (giver_low ps ss root rooted s r.has)) r.user (r.import ∙ sym size) r.shakes imports
        r.type

    from_grown : (u : ℕ) (f : ℕ → Grown) → u < length ps → ((g : ℕ) → g < length ps → Holds g [] (f g)) → (k : ℕ) (is xs : List Imported)
        → (P u).imports ≡ is ++ xs → length is ≡ k → Holds u is (grown_from (service_at ss u) f (alone (P u) (M u) u []) k is xs)
    from_grown u f low children k is [] imports size =
        let of = realised u low in alone_grown ps P M (length ps) u is [] of.right of.open_imports of.typed imports
    from_grown u f low children k is (x ∷ xs) imports size =
        one_grown u f children k is xs x (grown_from (service_at ss u) f (alone (P u) (M u) u []) (suc k) (is ++ x ∷ []) xs) imports size
        (from_grown u f low children (suc k) (is ++ x ∷ []) xs (next_imports is xs (P u).imports x imports) (next_size is x k size)) (service_at ss u k) refl

    pub grow_grown : (n u : ℕ) → u < length ps → Holds u [] (grow P M ss n u)
    grow_grown zero u low =
        let of = realised u low in alone_grown ps P M (length ps) u [] (P u).imports of.right of.open_imports of.typed refl
    grow_grown (suc n) u low = from_grown u (grow P M ss n) low (grow_grown n) 0 [] (P u).imports refl refl

    -- the numbers of a tree: that of its first instance, and those below it, by services of its imports from number k on
    abbrev pub IsBelow : ℕ → ℕ → ℕ → Type 0
    IsBelow u k v = (v ≡ u) ⊎ ((t : Service) × (i : ℕ) × HasService ss t × (t.user ≡ u) × (k ≤ t.import) × Below ss i v t.giver)

    pub record IsListed (u k : ℕ) (w : Grown) : Type 0 where
      pub below : (v : ℕ) → In w.numbers v → IsBelow u k v
      pub distinct : Distinct w.numbers
      pub services : (s : Service) → HasService w.services s → HasService ss s

    one_below : (u k v : ℕ) → IsBelow u k v → (i : ℕ) × Below ss i v u
    one_below u k v (inl e) = (0, e)
    one_below u k v (inr (t, i, has, user, high, up)) =
        (i + 1, below_then ss i 1 v t.giver u up (t, has, refl, user))

    alone_listed : (u k : ℕ) (is : List Imported) → IsListed u k (alone (P u) (M u) u is)
    alone_listed u k is =
        record {
          below = λ v h. elim h as (λ _. IsBelow u k v) [ inl e ↦ inl (sym e) | inr h ↦ absurd h ];
          distinct = (λ h. h, tt);
          services = λ s h. absurd h;
        }

    has_first : (ts us : List Service) (s : Service) → HasService ts s → HasService (ts ++ us) s
    has_first [] us s h = absurd h
    has_first (t ∷ ts) us s (inl e) = inl e
    has_first (t ∷ ts) us s (inr h) = inr (has_first ts us s h)

    has_second : (ts us : List Service) (s : Service) → HasService us s → HasService (ts ++ us) s
    has_second [] us s h = h
    has_second (t ∷ ts) us s h = inr (has_second ts us s h)

    has_of : (ts us : List Service) (s : Service) → HasService (ts ++ us) s → HasService ts s ⊎ HasService us s
    has_of [] us s h = inr h
    has_of (t ∷ ts) us s (inl e) = inl (inl e)
    has_of (t ∷ ts) us s (inr h) = elim (has_of ts us s h) [ inl a ↦ inl (inr a) | inr b ↦ inr b ]

    module _ (u k : ℕ) (f : ℕ → Grown) (is : List Imported) (x : Imported) (w : Grown) (children : (g : ℕ) → IsListed g 0 (f g))
        (h : IsListed u (suc k) w)
      where
        later_below : (v : ℕ) → IsBelow u (suc k) v → IsBelow u k v
        later_below v (inl e) = inl e
        later_below v (inr (t, i, has, user, high, up)) = inr (t, i, has, user, omega (arith, high), up)

        apart : (s : Service) → Finds ss u k s → (v : ℕ) → IsBelow u (suc k) v → (i : ℕ) × Below ss i v s.giver → ⊥
        apart s (has, user, import) v (inl e) (i, up) =
            let sum : i + 1 ≡ suc i = omega arith in
            no_ring ps ss rooted.sound i u
            (subst (λ (n : ℕ). Below ss n u u) sum
            (below_then ss i 1 u s.giver u (subst (λ (a : ℕ). Below ss i a s.giver) e up) (s, has, refl, user)))
        apart s (has, user, import) v (inr (t, j, has_t, user_t, high, up_t)) (i, up) =
            let one : Below ss (i + 1) v u = below_then ss i 1 v s.giver u up (s, has, refl, user) in
            let two : Below ss (j + 1) v u = below_then ss j 1 v t.giver u up_t (t, has_t, refl, user_t) in
            let level : i + 1 ≡ j + 1 = same_level ps ss rooted.sound (i + 1) (j + 1) v u one two in
            let levels : i ≡ j = omega (arith, level) in
            let givers : s.giver ≡ t.giver = same_top ps ss rooted.sound j v s.giver t.giver (subst (λ (n : ℕ). Below ss n v s.giver) levels up) up_t in
            let both : s ≡ t = rooted.sound.one_giver s t has has_t givers in
            let number : s.import ≡ t.import = ap (λ (r : Service). r.import) both in
            omega (arith, number, import, high)

        with_listed : (o : Option Service) → service_at ss u k ≡ o → IsListed u k (with_import o f is x w)
        with_listed None found = record { below = λ v has. later_below v (h.below v has); distinct = h.distinct; services = h.services }
        with_listed (Some s) found =
            let finds : Finds ss u k s = service_found ss u k s found in
            let c = children s.giver in
            record {
              below = λ v has.
                  elim (in_either w.numbers (f s.giver).numbers v has) as (λ _. IsBelow u k v) [
                    | inl a ↦ later_below v (h.below v a)
                    | inr b ↦
                        (let (i, up) = one_below s.giver 0 v (c.below v b) in
                        let high : k ≤ s.import = (let same_k = finds.2 in omega (arith, same_k)) in
                        inr (s, i, finds.0, finds.1, high, up))
                  ];
              distinct =
                  distinct_both w.numbers (f s.giver).numbers h.distinct c.distinct
                  (λ v a b. apart s finds v (h.below v a) (one_below s.giver 0 v (c.below v b)));
              services = λ t has.
                  elim (has_of (w.services ++ (f s.giver).services) (s ∷ []) t has) as (λ _. HasService ss t) [
                    | inl a ↦ elim (has_of w.services (f s.giver).services t a) as (λ _. HasService ss t) [ inl b ↦ h.services t b | inr b ↦ c.services t b ]
                    | inr b ↦ elim b as (λ _. HasService ss t) [ inl e ↦ subst (HasService ss) e finds.0 | inr d ↦ absurd d ]
                  ];
            }

    from_listed : (u : ℕ) (f : ℕ → Grown) → ((g : ℕ) → IsListed g 0 (f g)) → (k : ℕ) (is xs : List Imported)
        → IsListed u k (grown_from (service_at ss u) f (alone (P u) (M u) u []) k is xs)
    from_listed u f children k is [] = alone_listed u k []
    from_listed u f children k is (x ∷ xs) =
        with_listed u k f is x (grown_from (service_at ss u) f (alone (P u) (M u) u []) (suc k) (is ++ x ∷ []) xs) children
        (from_listed u f children (suc k) (is ++ x ∷ []) xs) (service_at ss u k) refl

    pub grow_listed : (n u : ℕ) → IsListed u 0 (grow P M ss n u)
    grow_listed zero u = alone_listed u 0 (P u).imports
    grow_listed (suc n) u = from_listed u (grow P M ss n) (grow_listed n) 0 [] (P u).imports

    -- the tree of a giver is in that of its user
    record HasChild (s : Service) (c w : Grown) : Type 0 where
      numbers : (v : ℕ) → In c.numbers v → In w.numbers v
      services : (t : Service) → HasService c.services t → HasService w.services t
      own : HasService w.services s

    still_child : (s : Service) (c : Grown) (o : Option Service) (f : ℕ → Grown) (is : List Imported) (x : Imported) (w : Grown) → HasChild s c w
        → HasChild s c (with_import o f is x w)
    still_child s c None f is x w h = record { numbers = h.numbers; services = h.services; own = h.own }
    still_child s c (Some r) f is x w h =
        let more : (t : Service) → HasService w.services t → HasService ((w.services ++ (f r.giver).services) ++ r ∷ []) t = λ t has.
        has_first (w.services ++ (f r.giver).services) (r ∷ []) t (has_first w.services (f r.giver).services t has)
        in
        record {
          numbers = λ v has. in_first w.numbers (f r.giver).numbers v (h.numbers v has);
          services = λ t has. more t (h.services t has);
          own = more s h.own;
        }

    new_child : (s : Service) (f : ℕ → Grown) (is : List Imported) (x : Imported) (w : Grown) → HasChild s (f s.giver) (with_import (Some s) f is x w)
    new_child s f is x w =
        record {
          numbers = λ v has. in_second w.numbers (f s.giver).numbers v has;
          services = λ t has. has_first (w.services ++ (f s.giver).services) (s ∷ []) t (has_second w.services (f s.giver).services t has);
          own = has_second (w.services ++ (f s.giver).services) (s ∷ []) s (inl refl);
        }

    from_child : (gs : ℕ → Option Service) (f : ℕ → Grown) (base : Grown) (s : Service) (k : ℕ) (is xs : List Imported) (j : ℕ) → gs (k + j) ≡ Some s
        → j < length xs
        → HasChild s (f s.giver) (grown_from gs f base k is xs)
    from_child gs f base s k is [] j found low = absurd (omega (arith, low))
    from_child gs f base s k is (x ∷ xs) zero found low =
        let none : k ≡ k + 0 = omega arith in
        let here : gs k ≡ Some s = ap gs none ∙ found in
        let W : Grown = grown_from gs f base (suc k) (is ++ x ∷ []) xs in
        subst (λ (o : Option Service). HasChild s (f s.giver) (with_import o f is x W)) (sym here) (new_child s f is x W)
    from_child gs f base s k is (x ∷ xs) (suc j) found low =
        let sum : suc k + j ≡ k + suc j = omega arith in
        still_child s (f s.giver) (gs k) f is x (grown_from gs f base (suc k) (is ++ x ∷ []) xs)
        (from_child gs f base s (suc k) (is ++ x ∷ []) xs j (ap gs sum ∙ found) (omega (arith, low)))

    import_low : (s : Service) → HasService ss s → s.import < length (P s.user).imports
    import_low s has =
        let (p, q, x, at_p, at_q, at_x, type) = rooted.sound.fits s has in
        let plan : p ≡ P s.user = sym (plan_is ps s.user p at_p) in
        subst (λ (r : Plan). s.import < length r.imports) plan (slice_get_within p.imports s.import x at_x)

    child : (n u : ℕ) (s : Service) → HasService ss s → s.user ≡ u → HasChild s (grow P M ss n s.giver) (grow P M ss (suc n) u)
    child n u s has user =
        let none : 0 + s.import ≡ s.import = omega arith in
        let found : service_at ss u (0 + s.import) ≡ Some s =
        ap (service_at ss u) none ∙ (ap (λ (v : ℕ). service_at ss v s.import) (sym user) ∙ service_there ps ss rooted.sound s has)
        in
        from_child (service_at ss u) (grow P M ss n) (alone (P u) (M u) u []) s 0 [] (P u).imports s.import found
        (subst (λ (v : ℕ). s.import < length (P v).imports) user (import_low s has))

    own_number : (n u : ℕ) → u < length ps → In (grow P M ss n u).numbers u
    own_number n u low = let (ns, first) = (grow_grown n u low).first in subst (λ (l : List ℕ). In l u) (sym first) (inl refl)

    pub all_numbers : (n u i k : ℕ) → u < length ps → Below ss i k u → i ≤ n → In (grow P M ss n u).numbers k
    all_numbers n u zero k low e few = subst (In (grow P M ss n u).numbers) (sym e) (own_number n u low)
    all_numbers zero u (suc i) k low up few = absurd (omega (arith, few))
    all_numbers (suc n) u (suc i) k low up few =
        let (s, has, user, up_s) = from_top ss i k u up in
        (child n u s has user).numbers k (all_numbers n s.giver i k (giver_low ps ss root rooted s has) up_s (omega (arith, few)))

    pub all_services : (n u i : ℕ) (s : Service) → HasService ss s → Below ss i s.user u → i < n → HasService (grow P M ss n u).services s
    all_services zero u i s has up few = absurd (omega (arith, few))
    all_services (suc n) u zero s has e few = (child n u s has e).own
    all_services (suc n) u (suc i) s has up few =
        let (t, has_t, user, up_t) = from_top ss i s.user u up in
        (child n u t has_t user).services s (all_services n t.giver i s has up_t (omega (arith, few)))
