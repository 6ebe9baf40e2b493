-- The links of the relation fit.
use Rattle.std.specs.Prelude.{◌≡◌, ℕ, zero, suc, ◌+◌, ◌<◌, List, [], ◌∷◌, ◌++◌, ◌⊎◌, length, Option, Some, slice_get}
use Rattle.std.proofs.Common.{refl, sym, ◌∙◌, ap, subst, arith, inl, inr, get_or}
use Rattle.std.proofs.lemmas.Option.{slice_get-get_or, slice_get-map}
use Rattle.gos_types.specs.Types.{Type', Com, Exp}
use Rattle.gos_types.proofs.ListLemmas.{found_in_front}
use Rattle.gos_model.specs.Typing.{Imported}
use Rattle.gos_plan.specs.Kinds as kinds
use Rattle.gos_plan.specs.Kinds.{Part, Contact, asks, serves, contacts_of, turned_contact, other_side}
use Rattle.gos_plan.specs.Plans.{End, PartEnd, ImportEnd, ResultEnd, Plan, turned_if, contacts_of_import, IsRight}
use Rattle.gos_plan.specs.Joining.{Place, place, Link}
use Rattle.gos_plan.proofs.SideLemmas.{pairs_join, functions_join}
use Rattle.gos_plan.proofs.AskingLemmas.{behind}
use Rattle.gos_plan.proofs.ContactLemmas.{turned_contact_twice, other_side_length}
use Rattle.gos_realises.specs.realises.Regular.{count}
use Rattle.gos_realises.specs.realises.Links.{LinkFits, StandsIn, contact_in}
use Rattle.gos_realises.specs.realises.Wirings.{lone, link, results_linked, reading, writing, applying}
use Rattle.gos_realises.specs.realises.Modules.{import_linked, imports_linked, supplying, Supply, plans_of, AreSupplied}
use Rattle.gos_realises.specs.realises.Realises.{Realises}
use Rattle.gos_realises.specs.realises.Fitting.{AppliedFits, SidesFit, VariablesFit, SuppliedFits}

-- link k of results
link_at : (n m k : ℕ) (l : Link) → slice_get (results_linked 1 n m) k ≡ Some l
    → (k < m) × (link 0 (ResultEnd (n + k)) 1 (ResultEnd (n + k)) ≡ l)
link_at n zero k l is = absurd (cc is)
link_at n (suc m) zero l is =
    let same : link 0 (ResultEnd n) 1 (ResultEnd n) ≡ l = cc is in
    let e : n + 0 ≡ n = omega arith in
    (omega arith, (λ i. link 0 (ResultEnd (e i)) 1 (ResultEnd (e i))) ∙ same)
link_at n (suc m) (suc k) l is =
    let rest = link_at (suc n) m k l is in
    let small = rest.0 in
    let e : n + suc k ≡ suc n + k = omega arith in
    (omega (arith, small), (λ i. link 0 (ResultEnd (e i)) 1 (ResultEnd (e i))) ∙ rest.1)

abbrev number : End → ℕ
number (PartEnd i h) = h
number (ImportEnd i h) = h
number (ResultEnd h) = h

-- where a place stands in link k, it is of handshake k
abbrev the_link : ℕ → Link
the_link k = link 0 (ResultEnd (0 + k)) 1 (ResultEnd (0 + k))

end_in : (k : ℕ) (a : Place) → StandsIn a (the_link k) → a.end ≡ ResultEnd (0 + k)
end_in k a (inl e) = ap (λ x. x.end) e
end_in k a (inr e) = ap (λ x. x.end) e

one_number : (j k : ℕ) → ResultEnd (0 + j) ≡ ResultEnd (0 + k) → j ≡ k
one_number j k e = let same : 0 + j ≡ 0 + k = cc e in omega (arith, same)

pub applied_fits : AppliedFits
applied_fits a b p q p_right q_right p_type q_type = record { right = rights; each = each; once = once; left = left }
  where
    rights : (k : ℕ) (x : Plan) → slice_get (p ∷ q ∷ []) k ≡ Some x → IsRight x
    rights zero x is = let same : p ≡ x = cc is in subst IsRight same p_right
    rights (suc zero) x is = let same : q ≡ x = cc is in subst IsRight same q_right
    rights (suc (suc k)) x is = absurd (cc is)

    joined : contacts_of p.outcome ≡ other_side (contacts_of a) ++ contacts_of b
    joined = ap contacts_of p_type ∙ (functions_join a b).joined

    link_fits : (k : ℕ) → k < count a → LinkFits (applying a b p q) (the_link k)
    link_fits k small =
        let c : Contact = get_or (contacts_of a) k (asks 0 0) in
        let has : slice_get (contacts_of a) k ≡ Some c = slice_get-get_or (contacts_of a) k (asks 0 0) small in
        let turned_has : slice_get (other_side (contacts_of a)) k ≡ Some (turned_contact c) = slice_get-map turned_contact (contacts_of a) k ∙ ap (λ (o : Option Contact). turned_if o) has in
        let in_p : slice_get (contacts_of p.outcome) k ≡ Some (turned_contact c) = ap (λ cs. slice_get cs k) joined ∙ found_in_front (other_side (contacts_of a)) (contacts_of b) k (turned_contact c) turned_has in
        let in_q : slice_get (contacts_of q.outcome) k ≡ Some c = ap (λ (t : Type'). slice_get (contacts_of t) k) q_type ∙ has in
        let e : 0 + k ≡ k = omega arith in (
          (λ same. omega (arith, same)),
          (
            turned_contact (turned_contact c),
            turned_contact c,
            ap (λ n. turned_if (slice_get (contacts_of p.outcome) n)) e ∙ ap turned_if in_p,
            ap (λ n. turned_if (slice_get (contacts_of q.outcome) n)) e ∙ ap turned_if in_q,
            ap turned_contact (sym (turned_contact_twice c)),
          ),
        )

    each : (k : ℕ) (l : Link) → slice_get (results_linked 1 0 (count a)) k ≡ Some l → LinkFits (applying a b p q) l
    each k l is = let (small, same) = link_at 0 (count a) k l is in subst (LinkFits (applying a b p q)) same (link_fits k small)

    once : (j k : ℕ) (l m : Link) (x : Place) → slice_get (results_linked 1 0 (count a)) j ≡ Some l → slice_get (results_linked 1 0 (count a)) k ≡ Some m
        → StandsIn x l → StandsIn x m → j ≡ k
    once j k l m x one other in_one in_other =
        let at_j = end_in j x (subst (StandsIn x) (sym (link_at 0 (count a) j l one).1) in_one) in
        let at_k = end_in k x (subst (StandsIn x) (sym (link_at 0 (count a) k m other).1) in_other) in
        one_number j k (sym at_j ∙ at_k)

    left : (h : ℕ) (c : Contact) → slice_get (contacts_of b) h ≡ Some c
        → (slice_get (contacts_of p.outcome) (count a + h) ≡ Some c)
        × ((k : ℕ) (l : Link) → slice_get (results_linked 1 0 (count a)) k ≡ Some l → StandsIn (place 0 (ResultEnd (count a + h))) l → ⊥)
    left h c there = (
      ap (λ cs. slice_get cs (count a + h)) joined
          ∙ (behind (other_side (contacts_of a)) (contacts_of b) h (count a + h) (let e = other_side_length (contacts_of a) in omega (arith, e)) ∙ there),
      λ k l is stands.
          let (small, same) = link_at 0 (count a) k l is in
          let at_k = end_in k (place 0 (ResultEnd (count a + h))) (subst (StandsIn (place 0 (ResultEnd (count a + h)))) (sym same) stands) in
          let e : count a + h ≡ 0 + k = cc at_k in omega (arith, e, small),
    )

pub sides_fit : SidesFit
sides_fit a b p p_right p_type = (
  record { right = rights; each = λ k l is. absurd (cc is); once = λ j k l m x one other i o. absurd (cc one); left = first },
  record { right = rights; each = λ k l is. absurd (cc is); once = λ j k l m x one other i o. absurd (cc one); left = second },
)
  where
    rights : (k : ℕ) (x : Plan) → slice_get (p ∷ []) k ≡ Some x → IsRight x
    rights zero x is = let same : p ≡ x = cc is in subst IsRight same p_right
    rights (suc k) x is = absurd (cc is)

    joined : contacts_of p.outcome ≡ contacts_of a ++ contacts_of b
    joined = ap contacts_of p_type ∙ (pairs_join a b).joined

    first : (h : ℕ) (c : Contact) → slice_get (contacts_of a) h ≡ Some c
        → (slice_get (contacts_of p.outcome) (0 + h) ≡ Some c)
        × ((k : ℕ) (l : Link) → slice_get [] k ≡ Some l → StandsIn (place 0 (ResultEnd (0 + h))) l → ⊥)
    first h c there = (
      (let e : 0 + h ≡ h = omega arith in ap (λ n. slice_get (contacts_of p.outcome) n) e)
          ∙ (ap (λ cs. slice_get cs h) joined ∙ found_in_front (contacts_of a) (contacts_of b) h c there),
      λ k l is stands. absurd (cc is),
    )

    second : (h : ℕ) (c : Contact) → slice_get (contacts_of b) h ≡ Some c
        → (slice_get (contacts_of p.outcome) (count a + h) ≡ Some c)
        × ((k : ℕ) (l : Link) → slice_get [] k ≡ Some l → StandsIn (place 0 (ResultEnd (count a + h))) l → ⊥)
    second h c there = (
      ap (λ cs. slice_get cs (count a + h)) joined ∙ (behind (contacts_of a) (contacts_of b) h (count a + h) refl ∙ there),
      λ k l is stands. absurd (cc is),
    )

-- the plan of one part, which serves at h what the outcome asks
lone_right : (k : Part) (h n : ℕ) (t : Type') (a : ℕ) → slice_get (contacts_of t) 0 ≡ Some (serves 0 a)
    → slice_get (kinds.part_contacts k) h ≡ Some (serves 0 a) → IsRight (lone k h t)
lone_right k h n t a asked served = (((0, a, ap turned_if asked, served), refl, refl), tt)

pub variables_fit : VariablesFit
variables_fit w v p p_right p_type = (
  record { right = read_rights; each = read_each; once = read_once; left = read_left },
  record { right = rights; each = each; once = once; left = left },
)
  where
    read_rights : (k : ℕ) (x : Plan) → slice_get (reading w p).plans k ≡ Some x → IsRight x
    read_rights zero x is = let same : p ≡ x = cc is in subst IsRight same p_right
    read_rights (suc zero) x is =
        let same : lone (kinds.Deref w) 1 (Exp w) ≡ x = cc is in subst IsRight same (lone_right (kinds.Deref w) 1 0 (Exp w) w refl refl)
    read_rights (suc (suc k)) x is = absurd (cc is)

    read_each : (k : ℕ) (l : Link) → slice_get (reading w p).links k ≡ Some l → LinkFits (reading w p) l
    read_each zero l is =
        let same : link 0 (ResultEnd 0) 1 (PartEnd 0 0) ≡ l = cc is in
        subst (LinkFits (reading w p)) same
        ((λ e. omega (arith, e)), (asks 0 w, asks 0 w, ap (λ (t : Type'). turned_if (slice_get (contacts_of t) 0)) p_type, refl, (refl, refl)))
    read_each (suc k) l is = absurd (cc is)

    read_once : (j k : ℕ) (l m : Link) (x : Place) → slice_get (reading w p).links j ≡ Some l → slice_get (reading w p).links k ≡ Some m
        → StandsIn x l → StandsIn x m → j ≡ k
    read_once zero zero l m x one other i o = refl
    read_once zero (suc k) l m x one other i o = absurd (cc other)
    read_once (suc j) k l m x one other i o = absurd (cc one)

    read_free : (h : ℕ) → StandsIn (place 1 (ResultEnd (0 + h))) (link 0 (ResultEnd 0) 1 (PartEnd 0 0)) → ⊥
    read_free h (inl e) = let no : 1 ≡ 0 = ap (λ x. x.plan) e in omega (arith, no)
    read_free h (inr e) = let no : ResultEnd (0 + h) ≡ PartEnd 0 0 = ap (λ x. x.end) e in cc no

    read_left : (h : ℕ) (c : Contact) → slice_get (contacts_of (Exp w)) h ≡ Some c
        → (slice_get (contacts_of (Exp w)) (0 + h) ≡ Some c)
        × ((k : ℕ) (l : Link) → slice_get (reading w p).links k ≡ Some l → StandsIn (place 1 (ResultEnd (0 + h))) l → ⊥)
    read_left h c there = (
      (let e : 0 + h ≡ h = omega arith in ap (λ n. slice_get (contacts_of (Exp w)) n) e ∙ there),
      none,
    )
      where
        none : (k : ℕ) (l : Link) → slice_get (reading w p).links k ≡ Some l → StandsIn (place 1 (ResultEnd (0 + h))) l → ⊥
        none zero l is stands =
            let same : link 0 (ResultEnd 0) 1 (PartEnd 0 0) ≡ l = cc is in
            read_free h (subst (StandsIn (place 1 (ResultEnd (0 + h)))) (sym same) stands)
        none (suc k) l is stands = absurd (cc is)

    rights : (k : ℕ) (x : Plan) → slice_get (writing w v p).plans k ≡ Some x → IsRight x
    rights zero x is = let same : p ≡ x = cc is in subst IsRight same p_right
    rights (suc zero) x is =
        let same : lone (kinds.Assign w) 2 Com ≡ x = cc is in subst IsRight same (lone_right (kinds.Assign w) 2 0 Com 0 refl refl)
    rights (suc (suc zero)) x is =
        let same : lone (kinds.Lit w v) 0 (Exp w) ≡ x = cc is in subst IsRight same (lone_right (kinds.Lit w v) 0 0 (Exp w) w refl refl)
    rights (suc (suc (suc k))) x is = absurd (cc is)

    each : (k : ℕ) (l : Link) → slice_get (writing w v p).links k ≡ Some l → LinkFits (writing w v p) l
    each zero l is =
        let same : link 0 (ResultEnd 1) 1 (PartEnd 0 1) ≡ l = cc is in
        subst (LinkFits (writing w v p)) same
        ((λ e. omega (arith, e)), (asks w 0, asks w 0, ap (λ (t : Type'). turned_if (slice_get (contacts_of t) 1)) p_type, refl, (refl, refl)))
    each (suc zero) l is =
        let same : link 1 (PartEnd 0 0) 2 (ResultEnd 0) ≡ l = cc is in
        subst (LinkFits (writing w v p)) same ((λ e. omega (arith, e)), (asks 0 w, asks 0 w, refl, refl, (refl, refl)))
    each (suc (suc k)) l is = absurd (cc is)

    apart : (x : Place) → StandsIn x (link 0 (ResultEnd 1) 1 (PartEnd 0 1)) → StandsIn x (link 1 (PartEnd 0 0) 2 (ResultEnd 0)) → ⊥
    apart x (inl e) (inl f) = let no : 0 ≡ 1 = ap (λ y. y.plan) (sym e ∙ f) in omega (arith, no)
    apart x (inl e) (inr f) = let no : 0 ≡ 2 = ap (λ y. y.plan) (sym e ∙ f) in omega (arith, no)
    apart x (inr e) (inl f) = let one : ℕ = 1 in let same : one ≡ 0 = ap (λ (y : Place). number y.end) (sym e ∙ f) in omega (arith, same)
    apart x (inr e) (inr f) = let no : 1 ≡ 2 = ap (λ y. y.plan) (sym e ∙ f) in omega (arith, no)

    once : (j k : ℕ) (l m : Link) (x : Place) → slice_get (writing w v p).links j ≡ Some l → slice_get (writing w v p).links k ≡ Some m
        → StandsIn x l → StandsIn x m → j ≡ k
    once zero zero l m x one other i o = refl
    once zero (suc zero) l m x one other i o =
        let same_l : link 0 (ResultEnd 1) 1 (PartEnd 0 1) ≡ l = cc one in
        let same_m : link 1 (PartEnd 0 0) 2 (ResultEnd 0) ≡ m = cc other in
        absurd (apart x (subst (StandsIn x) (sym same_l) i) (subst (StandsIn x) (sym same_m) o))
    once (suc zero) zero l m x one other i o =
        let same_m : link 0 (ResultEnd 1) 1 (PartEnd 0 1) ≡ m = cc other in
        let same_l : link 1 (PartEnd 0 0) 2 (ResultEnd 0) ≡ l = cc one in
        absurd (apart x (subst (StandsIn x) (sym same_m) o) (subst (StandsIn x) (sym same_l) i))
    once (suc zero) (suc zero) l m x one other i o = refl
    once zero (suc (suc k)) l m x one other i o = absurd (cc other)
    once (suc zero) (suc (suc k)) l m x one other i o = absurd (cc other)
    once (suc (suc j)) k l m x one other i o = absurd (cc one)

    free_first : (h : ℕ) → StandsIn (place 1 (ResultEnd (0 + h))) (link 0 (ResultEnd 1) 1 (PartEnd 0 1)) → ⊥
    free_first h (inl e) = let no : 1 ≡ 0 = ap (λ x. x.plan) e in omega (arith, no)
    free_first h (inr e) = let no : ResultEnd (0 + h) ≡ PartEnd 0 1 = ap (λ x. x.end) e in cc no

    free_second : (h : ℕ) → StandsIn (place 1 (ResultEnd (0 + h))) (link 1 (PartEnd 0 0) 2 (ResultEnd 0)) → ⊥
    free_second h (inl e) = let no : ResultEnd (0 + h) ≡ PartEnd 0 0 = ap (λ x. x.end) e in cc no
    free_second h (inr e) = let no : 1 ≡ 2 = ap (λ x. x.plan) e in omega (arith, no)

    left : (h : ℕ) (c : Contact) → slice_get (contacts_of Com) h ≡ Some c
        → (slice_get (contacts_of Com) (0 + h) ≡ Some c)
        × ((k : ℕ) (l : Link) → slice_get (writing w v p).links k ≡ Some l → StandsIn (place 1 (ResultEnd (0 + h))) l → ⊥)
    left h c there = (
      (let e : 0 + h ≡ h = omega arith in ap (λ n. slice_get (contacts_of Com) n) e ∙ there),
      none,
    )
      where
        none : (k : ℕ) (l : Link) → slice_get (writing w v p).links k ≡ Some l → StandsIn (place 1 (ResultEnd (0 + h))) l → ⊥
        none zero l is stands =
            let same : link 0 (ResultEnd 1) 1 (PartEnd 0 1) ≡ l = cc is in
            free_first h (subst (StandsIn (place 1 (ResultEnd (0 + h)))) (sym same) stands)
        none (suc zero) l is stands =
            let same : link 1 (PartEnd 0 0) 2 (ResultEnd 0) ≡ l = cc is in
            free_second h (subst (StandsIn (place 1 (ResultEnd (0 + h)))) (sym same) stands)
        none (suc (suc k)) l is stands = absurd (cc is)

-- what is supplied
split : (ls bs : List Link) (k : ℕ) (l : Link) → slice_get (ls ++ bs) k ≡ Some l
    → (slice_get ls k ≡ Some l) ⊎ ((n : ℕ) × (k ≡ length ls + n) × (slice_get bs n ≡ Some l))
split [] bs k l is = inr (k, omega arith, is)
split (a ∷ ls) bs zero l is = inl is
split (a ∷ ls) bs (suc k) l is =
    elim (split ls bs k l is) [
      | inl e ↦ inl e
      | inr r ↦ (let e = r.1 in inr (r.0, omega (arith, e), r.2))
    ]

import_length : (i s n m : ℕ) → length (import_linked i s n m) ≡ m
import_length i s n zero = refl
import_length i s n (suc m) = ap suc (import_length i s (suc n) m)

abbrev supplied_link : ℕ → ℕ → Link
supplied_link i n = link 0 (ImportEnd i n) (suc i) (ResultEnd n)

import_at : (i n m k : ℕ) (l : Link) → slice_get (import_linked i (suc i) n m) k ≡ Some l → (k < m) × (supplied_link i (n + k) ≡ l)
import_at i n zero k l is = absurd (cc is)
import_at i n (suc m) zero l is =
    let same : supplied_link i n ≡ l = cc is in
    let e : n + 0 ≡ n = omega arith in (omega arith, ap (supplied_link i) e ∙ same)
import_at i n (suc m) (suc k) l is =
    let rest = import_at i (suc n) m k l is in
    let small = rest.0 in
    let e : n + suc k ≡ suc n + k = omega arith in (omega (arith, small), ap (supplied_link i) e ∙ rest.1)

-- the links of the imports before number j
abbrev start : List Imported → ℕ → ℕ
start [] j = 0
start (x ∷ xs) zero = 0
start (x ∷ xs) (suc j) = count x.ty + start xs j

-- link k is that of handshake `shake` of import number `import`
record LinkOf (i : ℕ) (xs : List Imported) (k : ℕ) (l : Link) : Type 0 where
  import : ℕ
  shake : ℕ
  what : Imported
  is_there : slice_get xs import ≡ Some what
  small : shake < count what.ty
  place_of : k ≡ start xs import + shake
  same : supplied_link (i + import) shake ≡ l

supplied_at : (i : ℕ) (xs : List Imported) (k : ℕ) (l : Link) → slice_get (imports_linked i xs) k ≡ Some l → LinkOf i xs k l
supplied_at i [] k l is = absurd (cc is)
supplied_at i (x ∷ xs) k l is =
    by_side (split (import_linked i (suc i) 0 (count x.ty)) (imports_linked (suc i) xs) k l is) (λ n has. supplied_at (suc i) xs n l has)
  where
    by_side : (slice_get (import_linked i (suc i) 0 (count x.ty)) k ≡ Some l)
        ⊎ ((n : ℕ) × (k ≡ length (import_linked i (suc i) 0 (count x.ty)) + n) × (slice_get (imports_linked (suc i) xs) n ≡ Some l))
        → ((n : ℕ) → slice_get (imports_linked (suc i) xs) n ≡ Some l → LinkOf (suc i) xs n l) → LinkOf i (x ∷ xs) k l
    by_side (inl has) rest =
        let (few, same) = import_at i 0 (count x.ty) k l has in
        let e : i + 0 ≡ i = omega arith in
        let f : k ≡ 0 + k = omega arith in
        record { import = 0; shake = k; what = x; is_there = refl; small = few; place_of = f; same = (λ j. supplied_link (e j) (f j)) ∙ same }
    by_side (inr (n, far, has)) rest =
        let there = rest n has in
        let before = there.place_of in
        let many = import_length i (suc i) 0 (count x.ty) in
        let e : i + suc there.import ≡ suc i + there.import = omega arith in
        record {
          import = suc there.import;
          shake = there.shake;
          what = there.what;
          is_there = there.is_there;
          small = there.small;
          place_of = omega (arith, far, before, many);
          same = ap (λ m. supplied_link m there.shake) e ∙ there.same;
        }

-- what stands for import number j
pub supply_at : (is : List Imported) (ss : List Supply) (j : ℕ) (x : Imported) → AreSupplied is ss → slice_get is j ≡ Some x
    → (s : Supply) × (slice_get (plans_of ss) j ≡ Some s.plan) × Realises x.ty s.plan s.term
supply_at [] ss j x supplied is = absurd (cc is)
supply_at (i ∷ is) [] j x supplied at_j = absurd supplied
supply_at (i ∷ is) (s ∷ ss) zero x supplied at_j =
    let same : i ≡ x = cc at_j in (s, refl, subst (λ (y : Imported). Realises y.ty s.plan s.term) same supplied.0)
supply_at (i ∷ is) (s ∷ ss) (suc j) x supplied at_j = supply_at is ss j x supplied.1 at_j

pub supply_is_right : (is : List Imported) (ss : List Supply) (k : ℕ) (p : Plan) → AreSupplied is ss → slice_get (plans_of ss) k ≡ Some p → IsRight p
supply_is_right is [] k p supplied at_k = absurd (cc at_k)
supply_is_right [] (s ∷ ss) k p supplied at_k = absurd supplied
supply_is_right (i ∷ is) (s ∷ ss) zero p supplied at_k = let same : s.plan ≡ p = cc at_k in subst IsRight same supplied.0.suits.right
supply_is_right (i ∷ is) (s ∷ ss) (suc k) p supplied at_k = supply_is_right is ss k p supplied.1 at_k

abbrev import_of : End → ℕ
import_of (PartEnd i h) = i
import_of (ImportEnd i h) = i
import_of (ResultEnd h) = 0

-- a place in two links of imports is one handshake of one import
one_place : (i n j m : ℕ) (x : Place) → StandsIn x (supplied_link i n) → StandsIn x (supplied_link j m) → (i ≡ j) × (n ≡ m)
one_place i n j m x (inl e) (inl f) = (ap (λ (y : Place). import_of y.end) (sym e ∙ f), ap (λ (y : Place). number y.end) (sym e ∙ f))
one_place i n j m x (inl e) (inr f) = let no = ap (λ (y : Place). y.plan) (sym e ∙ f) in absurd (omega (arith, no))
one_place i n j m x (inr e) (inl f) = let no = ap (λ (y : Place). y.plan) (sym e ∙ f) in absurd (omega (arith, no))
one_place i n j m x (inr e) (inr f) =
    let same = ap (λ (y : Place). y.plan) (sym e ∙ f) in (omega (arith, same), ap (λ (y : Place). number y.end) (sym e ∙ f))

pub supplied_fits : SuppliedFits
supplied_fits p ss p_right supplied = record { right = rights; each = each; once = once; left = left }
  where
    rights : (k : ℕ) (x : Plan) → slice_get (p ∷ plans_of ss) k ≡ Some x → IsRight x
    rights zero x is = let same : p ≡ x = cc is in subst IsRight same p_right
    rights (suc k) x is = supply_is_right p.imports ss k x supplied is

    link_fits : (j n : ℕ) (x : Imported) → slice_get p.imports j ≡ Some x → n < count x.ty → LinkFits (supplying p ss) (supplied_link j n)
    link_fits j n x at_j small =
        let c : Contact = get_or (contacts_of x.ty) n (asks 0 0) in
        let has : slice_get (contacts_of x.ty) n ≡ Some c = slice_get-get_or (contacts_of x.ty) n (asks 0 0) small in
        let (s, is, realised) = supply_at p.imports ss j x supplied at_j in
        let type_is : s.plan.outcome ≡ x.ty = realised.suits.outcome in (
          (λ e. omega (arith, e)),
          (
            c,
            turned_contact c,
            ap (λ (o : Option Imported). slice_get (contacts_of_import o) n) at_j ∙ has,
            ap (λ (o : Option Plan). contact_in o (ResultEnd n)) is ∙ (ap (λ (t : Type'). turned_if (slice_get (contacts_of t) n)) type_is ∙ ap turned_if has),
            refl,
          ),
        )

    each : (k : ℕ) (l : Link) → slice_get (imports_linked 0 p.imports) k ≡ Some l → LinkFits (supplying p ss) l
    each k l is =
        let there = supplied_at 0 p.imports k l is in
        let e : 0 + there.import ≡ there.import = omega arith in
        subst (LinkFits (supplying p ss)) (ap (λ m. supplied_link m there.shake) (sym e) ∙ there.same)
        (link_fits there.import there.shake there.what there.is_there there.small)

    once : (j k : ℕ) (l m : Link) (x : Place) → slice_get (imports_linked 0 p.imports) j ≡ Some l → slice_get (imports_linked 0 p.imports) k ≡ Some m
        → StandsIn x l → StandsIn x m → j ≡ k
    once j k l m x one other i o =
        let a = supplied_at 0 p.imports j l one in
        let b = supplied_at 0 p.imports k m other in
        let (imports, shakes) = one_place (0 + a.import) a.shake (0 + b.import) b.shake x (subst (StandsIn x) (sym a.same) i) (subst (StandsIn x) (sym b.same) o) in
        let same : a.import ≡ b.import = omega (arith, imports) in
        a.place_of ∙ ((λ t. start p.imports (same t) + shakes t) ∙ sym b.place_of)

    left : (h : ℕ) (c : Contact) → slice_get (contacts_of p.outcome) h ≡ Some c
        → (slice_get (contacts_of p.outcome) (0 + h) ≡ Some c)
        × ((k : ℕ) (l : Link) → slice_get (imports_linked 0 p.imports) k ≡ Some l → StandsIn (place 0 (ResultEnd (0 + h))) l → ⊥)
    left h c there = (
      (let e : 0 + h ≡ h = omega arith in ap (λ n. slice_get (contacts_of p.outcome) n) e ∙ there),
      λ k l is stands.
          let at_k = supplied_at 0 p.imports k l is in
          free at_k.import at_k.shake (subst (StandsIn (place 0 (ResultEnd (0 + h)))) (sym at_k.same) stands),
    )
      where
        free : (j n : ℕ) → StandsIn (place 0 (ResultEnd (0 + h))) (supplied_link (0 + j) n) → ⊥
        free j n (inl e) = let no : ResultEnd (0 + h) ≡ ImportEnd (0 + j) n = ap (λ x. x.end) e in cc no
        free j n (inr e) = let no = ap (λ (x : Place). x.plan) e in omega (arith, no)
