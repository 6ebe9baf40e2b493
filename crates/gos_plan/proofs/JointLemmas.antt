-- In which joint an end stands, where the joints of a plan are right.
use Rattle.std.specs.Prelude.{IsTrue, Option, None, List, [], ◌∷◌, ◌++◌, ◌≡◌, Bool, true, false, not, ◌&&◌, ◌||◌, ℕ}
use Rattle.std.proofs.Common.{zero, suc, ap, Contains, ◌⊎◌, Some, refl, sym, ◌∙◌, subst, inl, inr, arith}
use Rattle.std.proofs.lemmas.Bool.{false_from_ne_true}
use Rattle.gos_types.specs.declared.shakes.Role.TheVariants.{Serve, Ask}
use Rattle.gos_types.specs.Events.{Direction, Request, Answer}
use Rattle.gos_plan.specs.Kinds.{Contact, asks, serves}
use Rattle.gos_plan.specs.Plans.{End, PartEnd, ImportEnd, ResultEnd, Joint, Plan, contact_at, same_end, stands_in, is_free, Fits, AreRight, IsRight}
use Rattle.gos_plan.specs.Tokens.{asking_in, places_of, bits_of}
use Rattle.gos_plan.proofs.ContactLemmas.{asks_is_not_serves}

-- a joint is one of these
abbrev pub IsIn : Joint → List Joint → Type 0
IsIn j [] = ⊥
IsIn j (x ∷ xs) = (j ≡ x) ⊎ IsIn j xs

pub listed : (js : List Joint) (j : Joint) → IsIn j js → Contains js j
listed [] j h = absurd h
listed (x ∷ xs) j (inl e) = (zero, omega arith, sym e)
listed (x ∷ xs) j (inr h) = let rest = listed xs j h in (suc rest.0, omega (arith, rest.1), rest.2)

pub same_itself : (e : End) → same_end e e ≡ true
same_itself (PartEnd i h) = grind arith
same_itself (ImportEnd i h) = grind arith
same_itself (ResultEnd h) = grind arith

pub same_is : (d e : End) → same_end d e ≡ true → d ≡ e
same_is (PartEnd i h) (PartEnd j g) t = grind (arith, t)
same_is (PartEnd i h) (ImportEnd j g) t = grind (arith, t)
same_is (PartEnd i h) (ResultEnd g) t = grind (arith, t)
same_is (ImportEnd i h) (PartEnd j g) t = grind (arith, t)
same_is (ImportEnd i h) (ImportEnd j g) t = grind (arith, t)
same_is (ImportEnd i h) (ResultEnd g) t = grind (arith, t)
same_is (ResultEnd h) (PartEnd j g) t = grind (arith, t)
same_is (ResultEnd h) (ImportEnd j g) t = grind (arith, t)
same_is (ResultEnd h) (ResultEnd g) t = grind (arith, t)

pub fits : (p : Plan) (before js : List Joint) (j : Joint) → AreRight p before js → IsIn j js → Fits p j
fits p before [] j r h = absurd h
fits p before (x ∷ xs) j r (inl e) = subst (λ (y : Joint). Fits p y) (sym e) r.0.0
fits p before (x ∷ xs) j r (inr h) = fits p (x ∷ before) xs j r.1 h

-- neither end of a later joint stands in an earlier one
pub free_later : (e : End) (before : List Joint) (j : Joint) → IsIn j before → IsTrue (is_free e before) → stands_in e j ≡ true → ⊥
free_later e [] j h f t = h
free_later e (x ∷ xs) j (inl i) f t =
    let u : stands_in e x ≡ true = subst (λ (y : Joint). stands_in e y ≡ true) i t in grind (arith, f, u)
free_later e (x ∷ xs) j (inr i) f t = free_later e xs j i (grind (arith, f)) t

later : (p : Plan) (before js : List Joint) (j k : Joint) (e : End) → AreRight p before js → IsIn j before → IsIn k js
    → stands_in e j ≡ true → stands_in e k ≡ true → ⊥
later p before [] j k e r i h t u = h
later p before (x ∷ xs) j k e r i (inl n) t u = of_end (same_end e x.asking) refl
  where
    u' : stands_in e x ≡ true
    u' = subst (λ (y : Joint). stands_in e y ≡ true) n u

    of_end : (b : Bool) → same_end e x.asking ≡ b → ⊥
    of_end true a = free_later x.asking before j i r.0.1 (subst (λ (d : End). stands_in d j ≡ true) (same_is e x.asking a) t)
    of_end false a =
        let s : same_end e x.serving ≡ true = grind (arith, u', a) in
        free_later x.serving before j i r.0.2 (subst (λ (d : End). stands_in d j ≡ true) (same_is e x.serving s) t)
later p before (x ∷ xs) j k e r i (inr h) t u = later p (x ∷ before) xs j k e r.1 (inr i) h t u

-- an end stands in one joint at most
pub one_joint : (p : Plan) (before js : List Joint) (j k : Joint) (e : End) → AreRight p before js → IsIn j js → IsIn k js
    → stands_in e j ≡ true → stands_in e k ≡ true → j ≡ k
one_joint p before [] j k e r h i t u = absurd h
one_joint p before (x ∷ xs) j k e r (inl h) (inl i) t u = h ∙ sym i
one_joint p before (x ∷ xs) j k e r (inl h) (inr i) t u = absurd (later p (x ∷ before) xs j k e r.1 (inl h) i t u)
one_joint p before (x ∷ xs) j k e r (inr h) (inl i) t u = absurd (later p (x ∷ before) xs k j e r.1 (inl i) h u t)
one_joint p before (x ∷ xs) j k e r (inr h) (inr i) t u = one_joint p (x ∷ before) xs j k e r.1 h i t u

-- an end that has a place stands in a joint of that name
pub record Found (js : List Joint) (e a : End) : Type 0 where
  pub joint : Joint
  pub is_in : IsIn joint js
  pub named : joint.asking ≡ a
  pub stands : stands_in e joint ≡ true

pub found : (js : List Joint) (e a : End) → asking_in js e ≡ Some a → Found js e a
found [] e a h = absurd (grind (arith, h))
found (x ∷ xs) e a h = by_test (stands_in e x) refl (λ k. found xs e a k)
  where
    by_test : (b : Bool) → stands_in e x ≡ b → (asking_in xs e ≡ Some a → Found xs e a) → Found (x ∷ xs) e a
    by_test true t further = record { joint = x; is_in = inl refl; named = grind (arith, h, t); stands = t }
    by_test false t further =
        let rest = further (grind (arith, h, t)) in
        record { joint = rest.joint; is_in = inr rest.is_in; named = rest.named; stands = rest.stands }

-- an end of a joint has a place
pub has_place : (js : List Joint) (j : Joint) (e : End) → IsIn j js → stands_in e j ≡ true → asking_in js e ≡ None → ⊥
has_place [] j e h t n = h
has_place (x ∷ xs) j e (inl i) t n =
    let u : stands_in e x ≡ true = subst (λ (y : Joint). stands_in e y ≡ true) i t in grind (arith, n, u)
has_place (x ∷ xs) j e (inr i) t n = by_test (stands_in e x) refl (λ k. has_place xs j e i t k)
  where
    by_test : (b : Bool) → stands_in e x ≡ b → (asking_in xs e ≡ None → ⊥) → ⊥
    by_test true u further = grind (arith, n, u)
    by_test false u further = further (grind (arith, n, u))

-- the asking end asks, and the serving end serves
pub asking_role : (p : Plan) (j : Joint) (c : Contact) → Fits p j → contact_at p j.asking ≡ Some c → c.role ≡ Ask
asking_role p j c f e = grind (arith, e, f.2)

pub serving_role : (p : Plan) (j : Joint) (c : Contact) → Fits p j → contact_at p j.serving ≡ Some c → c.role ≡ Serve
serving_role p j c f e = grind (arith, e, f.3)

-- An end that stands in a joint has a handshake, and so has the end that asks there. Their bits are equal.
pub record Joined (p : Plan) (e a : End) : Type 0 where
  pub here : Contact
  pub asker : Contact
  pub is_here : contact_at p e ≡ Some here
  pub is_asker : contact_at p a ≡ Some asker
  pub bits : (way : Direction) → bits_of here way ≡ bits_of asker way

pub joined : (p : Plan) (e a : End) → IsRight p → places_of p e ≡ Some a → Joined p e a
joined p e a right n = by_test (same_end e f.joint.asking) refl
  where
    f : Found p.joints e a
    f = found p.joints e a n

    same_both : (q r : ℕ) (way : Direction) → bits_of (serves q r) way ≡ bits_of (asks q r) way
    same_both q r Request = refl
    same_both q r Answer = refl

    by_test : (b : Bool) → same_end e f.joint.asking ≡ b → Joined p e a
    by_test true t =
        let fit = fits p [] p.joints f.joint right f.is_in in
        record {
          here = asks fit.0 fit.1;
          asker = asks fit.0 fit.1;
          is_here = ap (contact_at p) (same_is e f.joint.asking t) ∙ fit.2;
          is_asker = ap (contact_at p) (sym f.named) ∙ fit.2;
          bits = λ way. refl;
        }
    by_test false t =
        let fit = fits p [] p.joints f.joint right f.is_in in
        let s : same_end e f.joint.serving ≡ true = grind (arith, f.stands, t) in
        record {
          here = serves fit.0 fit.1;
          asker = asks fit.0 fit.1;
          is_here = ap (contact_at p) (same_is e f.joint.serving s) ∙ fit.3;
          is_asker = ap (contact_at p) (sym f.named) ∙ fit.2;
          bits = same_both fit.0 fit.1;
        }

-- an end of a joint has its places there
pub stands_there : (p : Plan) (j : Joint) (e : End) → IsRight p → IsIn j p.joints → stands_in e j ≡ true → places_of p e ≡ Some j.asking
stands_there p j e right is_in stands = by_place (asking_in p.joints e) refl
  where
    by_place : (f : Option End) → asking_in p.joints e ≡ f → f ≡ Some j.asking
    by_place None none = absurd (has_place p.joints j e is_in stands none)
    by_place (Some a) named =
        let f = found p.joints e a named in
        let one : j ≡ f.joint = one_joint p [] p.joints j f.joint e right is_in f.is_in stands f.stands in
        ap Some (sym f.named ∙ ap (λ (x : Joint). x.asking) (sym one))

pub contained : (js : List Joint) (j : Joint) → Contains js j → IsIn j js
contained [] j (n, within, is) = absurd (omega (arith, within))
contained (x ∷ xs) j (zero, within, is) = inl (sym is)
contained (x ∷ xs) j (suc n, within, is) = inr (contained xs j (n, omega (arith, within), is))

pub apart_is_not_same : (d e : End) → (d ≡ e → ⊥) → same_end d e ≡ false
apart_is_not_same d e apart = false_from_ne_true (same_end d e) (λ h. apart (same_is d e h))

pub asking_stands : (j : Joint) → stands_in j.asking j ≡ true
asking_stands j = let same = same_itself j.asking in grind (arith, same)

pub serving_stands : (j : Joint) → stands_in j.serving j ≡ true
serving_stands j = let same = same_itself j.serving in grind (arith, same)

pub which_end : (e : End) (j : Joint) → stands_in e j ≡ true → (e ≡ j.asking) ⊎ (e ≡ j.serving)
which_end e j stands = by_test (same_end e j.asking) refl
  where
    by_test : (b : Bool) → same_end e j.asking ≡ b → (e ≡ j.asking) ⊎ (e ≡ j.serving)
    by_test true t = inl (same_is e j.asking t)
    by_test false t = let s : same_end e j.serving ≡ true = grind (arith, stands, t) in inr (same_is e j.serving s)

pub is_in_front : (j : Joint) (xs ys : List Joint) → IsIn j xs → IsIn j (xs ++ ys)
is_in_front j [] ys h = absurd h
is_in_front j (x ∷ xs) ys (inl is) = inl is
is_in_front j (x ∷ xs) ys (inr h) = inr (is_in_front j xs ys h)

pub is_in_behind : (j : Joint) (xs ys : List Joint) → IsIn j ys → IsIn j (xs ++ ys)
is_in_behind j [] ys h = h
is_in_behind j (x ∷ xs) ys h = inr (is_in_behind j xs ys h)

pub stands_somewhere : (e : End) (js : List Joint) → is_free e js ≡ false → (j : Joint) × IsIn j js × (stands_in e j ≡ true)
stands_somewhere e [] h = absurd (cc h)
stands_somewhere e (x ∷ xs) h = by_test (stands_in e x) refl (λ k. stands_somewhere e xs k)
  where
    by_test : (b : Bool) → stands_in e x ≡ b → (is_free e xs ≡ false → (j : Joint) × IsIn j xs × (stands_in e j ≡ true))
        → (j : Joint) × IsIn j (x ∷ xs) × (stands_in e j ≡ true)
    by_test true t further = (x, inl refl, t)
    by_test false t further =
        let rest : is_free e xs ≡ false = grind (arith, t, h) in let (j, is_in, stands) = further rest in (j, inr is_in, stands)

pub free_of_both : (e : End) (j : Joint) (js : List Joint) → (e ≡ j.asking → ⊥) → (e ≡ j.serving → ⊥) → IsTrue (is_free e js) → IsTrue (is_free e (j ∷ js))
free_of_both e j js one other free =
    let a = apart_is_not_same e j.asking one in
    let b = apart_is_not_same e j.serving other in
    let f : is_free e js ≡ true = free in
    (λ i. not (a i || b i) && f i)

pub ends_are_apart : (p : Plan) (j : Joint) → Fits p j → j.asking ≡ j.serving → ⊥
ends_are_apart p j (q, v, asked, served) e = asks_is_not_serves q v q v (sym asked ∙ (ap (contact_at p) e ∙ served))

pub result_is_no_import : (i h : ℕ) → ResultEnd 0 ≡ ImportEnd i h → ⊥
result_is_no_import i h e = cc e

pub same_part : (k h i g : ℕ) → PartEnd k h ≡ PartEnd i g → k ≡ i
same_part k h i g e = cc e

pub same_shake : (k h i g : ℕ) → PartEnd k h ≡ PartEnd i g → h ≡ g
same_shake k h i g e = cc e

pub same_result : (h k : ℕ) → ResultEnd h ≡ ResultEnd k → h ≡ k
same_result h k e = cc e
