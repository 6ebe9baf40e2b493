-- The supplies of a plan are typed under the imports of the plan that is joined to them, and share nothing.
use Rattle.std.specs.Prelude.{◌≡◌, ◌≢◌, ℕ, zero, suc, Bool, true, false, List, [], ◌∷◌, Some, Contains, slice_get, if◌then◌else◌}
use Rattle.std.specs.Str.{bytes_eq}
use Rattle.std.proofs.Common.{refl, sym, ◌∙◌, ap, subst, arith}
use Rattle.std.proofs.lemmas.List.Elements.{Contains-append_left, Contains-append_right}
use Rattle.gos_types.specs.Types.{Type'}
use Rattle.gos_types.proofs.BytesLemmas.{bytes_eq_itself, bytes_eq_same}
use Rattle.gos_model.specs.Terms.{Name, Term}
use Rattle.gos_model.specs.Typing.{Imported, Imports, import_type, Named, things, Typed}
use Rattle.gos_realises.specs.realises.Realises.{NamesDiffer, HaveOtherNames, Realises}
use Rattle.gos_realises.specs.realises.Modules.{Supply, AreSupplied, term_for}
use Rattle.gos_realises.proofs.realises.PlaceLemmas.{differ_second, differ_between}
use Rattle.gos_supplies.specs.typing.Supplied.{AreTyped, ShareNothing, imports_of, SuppliedIsTyped}
use Rattle.gos_supplies.proofs.typing.NameLemmas.{typed_under}
use Rattle.gos_supplies.proofs.typing.WhenceLemmas.{named, with_supplies}
use Rattle.gos_supplies.proofs.typing.LeftLemmas.{imports_are_of_supplies}

-- all imports of one supply are among those of all
in_all : (ss : List Supply) (n : ℕ) (s : Supply) (i : Imported) → slice_get ss n ≡ Some s → Contains s.plan.imports i → Contains (imports_of ss) i
in_all [] n s i at has = absurd (cc at)
in_all (r ∷ ss) zero s i at has =
    let same : r ≡ s = cc at in
    Contains-append_left r.plan.imports (imports_of ss) i (subst (λ (x : Supply). Contains x.plan.imports i) (sym same) has)
in_all (r ∷ ss) (suc n) s i at has = Contains-append_right r.plan.imports (imports_of ss) i (in_all ss n s i at has)

-- those of two supplies have other names
others : (ss : List Supply) (m n : ℕ) (r s : Supply) → NamesDiffer (imports_of ss) → slice_get ss m ≡ Some r → slice_get ss n ≡ Some s → m ≢ n
    → HaveOtherNames r.plan.imports s.plan.imports
others [] m n r s differ at_r at_s apart i j in_i in_j = absurd (cc at_r)
others (x ∷ ss) zero zero r s differ at_r at_s apart i j in_i in_j = absurd (apart refl)
others (x ∷ ss) zero (suc n) r s differ at_r at_s apart i j in_i in_j =
    let same : x ≡ r = cc at_r in
    differ_between x.plan.imports (imports_of ss) differ i j (subst (λ (y : Supply). Contains y.plan.imports i) (sym same) in_i) (in_all ss n s j at_s in_j)
others (x ∷ ss) (suc m) zero r s differ at_r at_s apart i j in_i in_j =
    let same : x ≡ s = cc at_s in
    λ e. differ_between x.plan.imports (imports_of ss) differ j i (subst (λ (y : Supply). Contains y.plan.imports j) (sym same) in_j) (in_all ss m r i at_r in_i) (sym e)
others (x ∷ ss) (suc m) (suc n) r s differ at_r at_s apart i j in_i in_j =
    others ss m n r s (differ_second x.plan.imports (imports_of ss) differ) at_r at_s (λ e. apart (ap suc e)) i j in_i in_j

-- the type of a name is that of the import that has it
pub type_of : (is : Imports) → NamesDiffer is → (i : Imported) → Contains is i → import_type is i.name ≡ Some i.ty
type_of [] differ i (k, small, at) = absurd (omega (arith, small))
type_of (y ∷ is) differ i (zero, small, at) =
    let same : y ≡ i = at in
    let test : bytes_eq y.name i.name ≡ true = ap (λ (z : Imported). bytes_eq z.name i.name) same ∙ bytes_eq_itself i.name in
    (λ k. if test k then Some y.ty else import_type is i.name) ∙ ap (λ (z : Imported). Some z.ty) same
type_of (y ∷ is) differ i (suc k, small, at) = by_test (bytes_eq y.name i.name) refl (type_of is differ.1 i (k, omega (arith, small), at))
  where
    by_test : (b : Bool) → bytes_eq y.name i.name ≡ b → import_type is i.name ≡ Some i.ty → (if b then Some y.ty else import_type is i.name) ≡ Some i.ty
    by_test true test rest = absurd (differ.0 i (k, omega (arith, small), at) (bytes_eq_same y.name i.name test))
    by_test false test rest = rest

-- the term and the supply of an import that has a type
pub record Given (is : List Imported) (ss : List Supply) (x : Name) (t : Type') : Type 0 where
  pub number : ℕ
  pub supply : Supply
  pub import : Imported
  pub at_import : slice_get is number ≡ Some import
  pub at_supply : slice_get ss number ≡ Some supply
  pub test : bytes_eq import.name x ≡ true
  pub put_in : term_for is ss x ≡ Some supply.term
  pub realised : Realises t supply.plan supply.term

given_by : (is : List Imported) (ss : List Supply) (x : Name) (t : Type') → AreSupplied is ss → import_type is x ≡ Some t → Given is ss x t
given_by [] ss x t are e = absurd (cc e)
given_by (i ∷ is) [] x t are e = absurd are
given_by (i ∷ is) (s ∷ ss) x t are e = by_test (bytes_eq i.name x) refl e (given_by is ss x t are.1)
  where
    by_test : (b : Bool) → bytes_eq i.name x ≡ b → (if b then Some i.ty else import_type is x) ≡ Some t
        → (import_type is x ≡ Some t → Given is ss x t) → Given (i ∷ is) (s ∷ ss) x t
    by_test true test e rest =
        let same : i.ty ≡ t = cc e in
        record {
          number = 0;
          supply = s;
          import = i;
          at_import = refl;
          at_supply = refl;
          test = test;
          put_in = λ k. if test k then Some s.term else term_for is ss x;
          realised = subst (λ (u : Type'). Realises u s.plan s.term) same are.0;
        }
    by_test false test e rest =
        let there = rest e in
        record {
          number = suc there.number;
          supply = there.supply;
          import = there.import;
          at_import = there.at_import;
          at_supply = there.at_supply;
          test = there.test;
          put_in = (λ k. if test k then Some s.term else term_for is ss x) ∙ there.put_in;
          realised = there.realised;
        }

module _ (is : List Imported) (ss : List Supply) (j : Imports) (are : AreSupplied is ss) (all : j ≡ imports_of ss) (differ : NamesDiffer j) where
  differ_all : NamesDiffer (imports_of ss)
  differ_all = subst NamesDiffer all differ

  term_typed : (n : ℕ) (s : Supply) (t : Type') → slice_get ss n ≡ Some s → Realises t s.plan s.term → Typed j [] s.term t
  term_typed n s t at r =
      typed_under s.plan.imports j s.term 0 [] [] t same r.suits.typed
    where
      same : (x : Name) → Contains (things 0 s.term) (Named x) → import_type j x ≡ import_type s.plan.imports x
      same x has =
          let there = named s.plan.imports (Named x) s.term 0 [] t (omega arith) r.suits.typed has in
          let name : x ≡ there.import.name = cc there.same in
          let in_j : Contains j there.import = subst (λ (is : List Imported). Contains is there.import) (sym all) (in_all ss n s there.import at there.has) in
          ap (import_type j) name
          ∙ (type_of j differ there.import in_j
          ∙ (sym (type_of s.plan.imports r.suits.names there.import there.has) ∙ ap (import_type s.plan.imports) (sym name)))

  all_typed : AreTyped is j (term_for is ss)
  all_typed x t e =
      let there = given_by is ss x t are e in
      (there.supply.term, there.put_in, term_typed there.number there.supply t there.at_supply there.realised)

  share_none : ShareNothing is (term_for is ss)
  share_none x y t u m n of_x of_y term_x term_y apart z in_m in_n =
      let one = given_by is ss x t are of_x in
      let two = given_by is ss y u are of_y in
      let is_m : one.supply.term ≡ m = cc (sym one.put_in ∙ term_x) in
      let is_n : two.supply.term ≡ n = cc (sym two.put_in ∙ term_y) in
      let has_one : Contains (things 0 one.supply.term) z = subst (λ (k : Term). Contains (things 0 k) z) (sym is_m) in_m in
      let has_two : Contains (things 0 two.supply.term) z = subst (λ (k : Term). Contains (things 0 k) z) (sym is_n) in_n in
      let first = named one.supply.plan.imports z one.supply.term 0 [] t (omega arith) one.realised.suits.typed has_one in
      let second = named two.supply.plan.imports z two.supply.term 0 [] u (omega arith) two.realised.suits.typed has_two in
      let both : Named first.import.name ≡ Named second.import.name = sym first.same ∙ second.same in
      let names : first.import.name ≡ second.import.name = cc both in
      others ss one.number two.number one.supply two.supply differ_all one.at_supply two.at_supply (not_one one two) first.import second.import first.has second.has names
    where
      not_one : (one : Given is ss x t) (two : Given is ss y u) → one.number ≢ two.number
      not_one one two e =
          let at : Some one.import ≡ Some two.import = sym one.at_import ∙ (ap (slice_get is) e ∙ two.at_import) in
          let same : one.import ≡ two.import = cc at in
          apart (sym (bytes_eq_same one.import.name x one.test) ∙ (ap (λ (i : Imported). i.name) same ∙ bytes_eq_same two.import.name y two.test))

pub supplied_is_typed : SuppliedIsTyped
supplied_is_typed p r ss m t are joined differ typed =
    let all = imports_are_of_supplies p r ss joined.joining in
    with_supplies p.imports r.imports (term_for p.imports ss) (all_typed p.imports ss r.imports are all differ)
    (share_none p.imports ss r.imports are all differ) m [] t typed
