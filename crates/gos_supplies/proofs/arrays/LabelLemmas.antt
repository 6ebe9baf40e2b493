-- The labels of an access, as the program of its index sees them, and as a program does that has a variable in the array's place:
-- where the labels of the access keep the protocol of ports so do both.
use Rattle.std.specs.Prelude.{◌≡◌, ◌⊎◌, ℕ, zero, suc, ◌^◌, ◌<◌, Bool, true, false, not, ◌&&◌, ◌||◌, IsFalse, IsTrue, List, [], ◌∷◌, ◌++◌, Option, Some, nat_eq, if◌then◌else◌}
use Rattle.std.specs.Str.{bytes_eq}
use Rattle.std.proofs.Common.{refl, sym, ◌∙◌, ap, subst, arith, inl, inr}
use Rattle.std.proofs.lemmas.Slice.Eq.{bytes_eq-Decides}
use Rattle.std.proofs.lemmas.Option.{same_Some}
use Rattle.std.proofs.lemmas.Bool.Decides.{nat_tests}
use Rattle.gos_types.specs.Types.{Type', Exp, Var, Fun}
use Rattle.gos_model.specs.Terms.{Name}
use Rattle.gos_model.specs.Typing.{Imports, import_type}
use Rattle.gos_model.specs.Labels.{Port, Given, Taken, Label, given, taken, is_answer, is_output_at}
use Rattle.gos_model.specs.Protocol.{shake_of, same_port, is_open, event_of, FitsAnswer, Allowed}
use Rattle.gos_model.specs.ArrayPorts.{is_asked, AllowedAtArray, KeepsPortsAfter}
use Rattle.gos_realises.proofs.realises.RenumberLemmas.{tests_agree}
use Rattle.gos_realises.proofs.realises.ToldLemmas.{test_differ}
use Rattle.gos_supplies.specs.names.Names.{imported}

-- what the program of the index sees: the array asks it, and it answers
abbrev pub asked_label : ℕ → ℕ → List Label
asked_label zero v = given 1 v ∷ []
asked_label (suc zero) v = given 0 v ∷ []
asked_label (suc (suc e)) v = []

abbrev pub index_label : Name → Port → ℕ → ℕ → List Label
index_label x Given e v = []
index_label x (Taken y) e v = if bytes_eq y x then asked_label e v else taken y e v ∷ []

abbrev pub index_labels : Name → List Label → List Label
index_labels x [] = []
index_labels x (l ∷ ls) = index_label x l.port l.event l.value ++ index_labels x ls

-- what one sees that has the variable: the reads and the writes
abbrev pub variable_label : Name → ℕ → ℕ → List Label
variable_label x zero v = []
variable_label x (suc zero) v = []
variable_label x (suc (suc e)) v = taken x e v ∷ []

abbrev pub own_label : Name → Port → ℕ → ℕ → List Label
own_label x Given e v = given e v ∷ []
own_label x (Taken y) e v = if bytes_eq y x then variable_label x e v else []

abbrev pub own_labels : Name → List Label → List Label
own_labels x [] = []
own_labels x (l ∷ ls) = own_label x l.port l.event l.value ++ own_labels x ls

name_is : (y x : Name) → bytes_eq y x ≡ true → y ≡ x
name_is y x e = (bytes_eq-Decides y x).0 e

pub name_itself : (x : Name) → bytes_eq x x ≡ true
name_itself x = (bytes_eq-Decides x x).1 refl

other_way : (y x : Name) → bytes_eq y x ≡ false → bytes_eq x y ≡ false
other_way y x e = test_differ x y (λ same. let no : true ≡ false = sym (name_itself x) ∙ (ap (λ (z : Name). bytes_eq z x) same ∙ e) in cc no)

zero_later : (h : ℕ) → nat_eq 0 (suc h) ≡ false
zero_later h = grind (arith, nat_tests)

later_zero : (h : ℕ) → nat_eq (suc h) 0 ≡ false
later_zero h = grind (arith, nat_tests)

later_later : (a b : ℕ) → nat_eq (suc a) (suc b) ≡ nat_eq a b
later_later a b = tests_agree (suc a) (suc b) a b (λ e. omega (arith, e)) (λ e. omega (arith, e))

-- what is open, and what is asked, if this label is put before
abbrev OpenBy : Port → ℕ → Bool → Port → ℕ → Bool
OpenBy l e rest p h = if same_port l p && nat_eq (shake_of e) h then not (is_answer e) else rest

abbrev AskedBy : Port → ℕ → Bool → Name → Bool
AskedBy l e rest x = if same_port l (Taken x) && nat_eq (shake_of e) 0 then is_answer e else rest

module _ (x : Name) where
  -- the array asks for the index
  asked_one : (l : Port) (e v : ℕ) (ls : List Label) (rest : Bool) → is_open ls Given 0 ≡ rest
      → is_open (index_label x l e v ++ ls) Given 0 ≡ AskedBy l e rest x
  asked_one Given e v ls rest same = same
  asked_one (Taken y) e v ls rest same = by_name (bytes_eq y x) e
    where
      by_name : (b : Bool) (e : ℕ)
          → is_open ((if b then asked_label e v else taken y e v ∷ []) ++ ls) Given 0 ≡ (if b && nat_eq (shake_of e) 0 then is_answer e else rest)
      by_name true zero = refl
      by_name true (suc zero) = refl
      by_name true (suc (suc e)) = same ∙ sym (ap (λ (b : Bool). if b then is_answer e else rest) (later_zero (shake_of e)))
      by_name false e = same

  pub asked_is : (past : List Label) → is_open (index_labels x past) Given 0 ≡ is_asked past x
  asked_is [] = refl
  asked_is (l ∷ past) = asked_one l.port l.event l.value (index_labels x past) (is_asked past x) (asked_is past)

  -- what other ports have
  other_open : (y : Name) (h : ℕ) → bytes_eq y x ≡ false → (l : Port) (e v : ℕ) (ls : List Label) (rest : Bool) → is_open ls (Taken y) h ≡ rest
      → is_open (index_label x l e v ++ ls) (Taken y) h ≡ OpenBy l e rest (Taken y) h
  other_open y h other Given e v ls rest same = same
  other_open y h other (Taken z) e v ls rest same = by_name (bytes_eq z x) refl e
    where
      apart : bytes_eq z x ≡ true → bytes_eq z y ≡ false
      apart is = ap (λ (n : Name). bytes_eq n y) (name_is z x is) ∙ other_way y x other

      by_name : (b : Bool) → bytes_eq z x ≡ b → (e : ℕ)
          → is_open ((if b then asked_label e v else taken z e v ∷ []) ++ ls) (Taken y) h ≡ (if bytes_eq z y && nat_eq (shake_of e) h then not (is_answer e) else rest)
      by_name true is zero = same ∙ sym (ap (λ (b : Bool). if b && nat_eq (shake_of 0) h then not (is_answer 0) else rest) (apart is))
      by_name true is (suc zero) = same ∙ sym (ap (λ (b : Bool). if b && nat_eq (shake_of 1) h then not (is_answer 1) else rest) (apart is))
      by_name true is (suc (suc e)) = same ∙ sym (ap (λ (b : Bool). if b && nat_eq (shake_of (suc (suc e))) h then not (is_answer e) else rest) (apart is))
      by_name false is e = ap (λ (o : Bool). if bytes_eq z y && nat_eq (shake_of e) h then not (is_answer e) else o) same

  pub other_open_is : (y : Name) (h : ℕ) → bytes_eq y x ≡ false → (past : List Label) → is_open (index_labels x past) (Taken y) h ≡ is_open past (Taken y) h
  other_open_is y h other [] = refl
  other_open_is y h other (l ∷ past) =
      other_open y h other l.port l.event l.value (index_labels x past) (is_open past (Taken y) h) (other_open_is y h other past)

  other_asked : (y : Name) → bytes_eq y x ≡ false → (l : Port) (e v : ℕ) (ls : List Label) (rest : Bool) → is_asked ls y ≡ rest
      → is_asked (index_label x l e v ++ ls) y ≡ AskedBy l e rest y
  other_asked y other Given e v ls rest same = same
  other_asked y other (Taken z) e v ls rest same = by_name (bytes_eq z x) refl e
    where
      apart : bytes_eq z x ≡ true → bytes_eq z y ≡ false
      apart is = ap (λ (n : Name). bytes_eq n y) (name_is z x is) ∙ other_way y x other

      by_name : (b : Bool) → bytes_eq z x ≡ b → (e : ℕ)
          → is_asked ((if b then asked_label e v else taken z e v ∷ []) ++ ls) y ≡ (if bytes_eq z y && nat_eq (shake_of e) 0 then is_answer e else rest)
      by_name true is zero = same ∙ sym (ap (λ (b : Bool). if b && nat_eq (shake_of 0) 0 then is_answer 0 else rest) (apart is))
      by_name true is (suc zero) = same ∙ sym (ap (λ (b : Bool). if b && nat_eq (shake_of 1) 0 then is_answer 1 else rest) (apart is))
      by_name true is (suc (suc e)) = same ∙ sym (ap (λ (b : Bool). if b && nat_eq (shake_of (suc (suc e))) 0 then is_answer e else rest) (apart is))
      by_name false is e = ap (λ (o : Bool). if bytes_eq z y && nat_eq (shake_of e) 0 then is_answer e else o) same

  pub other_asked_is : (y : Name) → bytes_eq y x ≡ false → (past : List Label) → is_asked (index_labels x past) y ≡ is_asked past y
  other_asked_is y other [] = refl
  other_asked_is y other (l ∷ past) =
      other_asked y other l.port l.event l.value (index_labels x past) (is_asked past y) (other_asked_is y other past)

  -- what is open of the result, and of the variable
  given_one : (h : ℕ) (l : Port) (e v : ℕ) (ls : List Label) (rest : Bool) → is_open ls Given h ≡ rest
      → is_open (own_label x l e v ++ ls) Given h ≡ OpenBy l e rest Given h
  given_one h Given e v ls rest same = ap (λ (o : Bool). if nat_eq (shake_of e) h then not (is_answer e) else o) same
  given_one h (Taken y) e v ls rest same = by_name (bytes_eq y x) e
    where
      by_name : (b : Bool) (e : ℕ) → is_open ((if b then variable_label x e v else []) ++ ls) Given h ≡ rest
      by_name true zero = same
      by_name true (suc zero) = same
      by_name true (suc (suc e)) = same
      by_name false e = same

  pub given_is : (h : ℕ) (past : List Label) → is_open (own_labels x past) Given h ≡ is_open past Given h
  given_is h [] = refl
  given_is h (l ∷ past) = given_one h l.port l.event l.value (own_labels x past) (is_open past Given h) (given_is h past)

  variable_one : (h : ℕ) (l : Port) (e v : ℕ) (ls : List Label) (rest : Bool) → is_open ls (Taken x) h ≡ rest
      → is_open (own_label x l e v ++ ls) (Taken x) h ≡ OpenBy l e rest (Taken x) (suc h)
  variable_one h Given e v ls rest same = same
  variable_one h (Taken y) e v ls rest same = by_name (bytes_eq y x) e
    where
      itself : bytes_eq x x ≡ true
      itself = name_itself x

      by_name : (b : Bool) (e : ℕ)
          → is_open ((if b then variable_label x e v else []) ++ ls) (Taken x) h ≡ (if b && nat_eq (shake_of e) (suc h) then not (is_answer e) else rest)
      by_name true zero = same ∙ sym (ap (λ (b : Bool). if b then true else rest) (zero_later h))
      by_name true (suc zero) = same ∙ sym (ap (λ (b : Bool). if b then false else rest) (zero_later h))
      by_name true (suc (suc e)) =
          ap (λ (b : Bool). if b && nat_eq (shake_of e) h then not (is_answer e) else is_open ls (Taken x) h) itself
          ∙ (ap (λ (o : Bool). if nat_eq (shake_of e) h then not (is_answer e) else o) same
          ∙ sym (ap (λ (b : Bool). if b then not (is_answer e) else rest) (later_later (shake_of e) h)))
      by_name false e = same

  pub variable_is : (h : ℕ) (past : List Label) → is_open (own_labels x past) (Taken x) h ≡ is_open past (Taken x) (suc h)
  variable_is h [] = refl
  variable_is h (l ∷ past) =
      variable_one h l.port l.event l.value (own_labels x past) (is_open past (Taken x) (suc h)) (variable_is h past)

  module _ (i w : ℕ) (qs : Imports) where
    abbrev all : Imports
    all = imported x (Fun (Exp i) (Var w)) ∷ qs

    abbrev own : Imports
    own = imported x (Var w) ∷ []

    pub array_there : import_type all x ≡ Some (Fun (Exp i) (Var w))
    array_there = ap (λ (b : Bool). if b then Some (Fun (Exp i) (Var w)) else import_type qs x) (name_itself x)

    variable_there : import_type own x ≡ Some (Var w)
    variable_there = ap (λ (b : Bool). if b then Some (Var w) else import_type [] x) (name_itself x)

    pub others_there : (y : Name) → bytes_eq y x ≡ false → import_type all y ≡ import_type qs y
    others_there y other = ap (λ (b : Bool). if b then Some (Fun (Exp i) (Var w)) else import_type qs y) (other_way y x other)

    abbrev May : Imports → List Label → Port → ℕ → ℕ → Type 0
    May is past p e v = Allowed is past p e v ⊎ AllowedAtArray is past p e v

    no_ground : (past : List Label) (e v : ℕ) → Allowed all past (Taken x) e v → ⊥
    no_ground past e v (fits, up) = subst (λ (o : Option Type'). FitsAnswer (event_of o e) v) array_there fits

    -- the index is asked for where the program of the index may be asked
    index_may : (past : List Label) (v : ℕ) → May all past (Taken x) 1 v → Allowed qs (index_labels x past) Given 0 v
    index_may past v (inl ground) = absurd (no_ground past 1 v ground)
    index_may past v (inr (j, u, is, shut, inl (event, none, up))) = (refl, none, asked_is past ∙ shut)
    index_may past v (inr (j, u, is, shut, inr (inl (event, small, up)))) = absurd (omega (arith, event))
    index_may past v (inr (j, u, is, shut, inr (inr (event, none, up)))) = absurd (omega (arith, event))

    other_may : (y : Name) → bytes_eq y x ≡ false → (past : List Label) (e v : ℕ) → May all past (Taken y) e v → May qs (index_labels x past) (Taken y) e v
    other_may y other past e v (inl (fits, up)) =
        inl (subst (λ (o : Option Type'). FitsAnswer (event_of o e) v) (others_there y other) fits, other_open_is y (shake_of e) other past ∙ up)
    other_may y other past e v (inr (j, u, is, shut, rest)) =
        inr (j, u, sym (others_there y other) ∙ is, other_asked_is y other past ∙ shut, by_case rest)
      where
        here : (h : ℕ) → is_open (index_labels x past) (Taken y) h ≡ is_open past (Taken y) h
        here h = other_open_is y h other past

        by_case : ((e ≡ 1) × (v ≡ 0) × IsTrue (is_open past (Taken y) 1 || is_open past (Taken y) 2)) ⊎ (((e ≡ 3) × (v < 2 ^ u) × IsTrue (is_open past (Taken y) 1)) ⊎ ((e ≡ 5) × (v ≡ 0) × IsTrue (is_open past (Taken y) 2)))
            → ((e ≡ 1) × (v ≡ 0) × IsTrue (is_open (index_labels x past) (Taken y) 1 || is_open (index_labels x past) (Taken y) 2))
            ⊎ (((e ≡ 3) × (v < 2 ^ u) × IsTrue (is_open (index_labels x past) (Taken y) 1)) ⊎ ((e ≡ 5) × (v ≡ 0) × IsTrue (is_open (index_labels x past) (Taken y) 2)))
        by_case (inl (event, none, up)) = inl (event, none, (λ k. here 1 k || here 2 k) ∙ up)
        by_case (inr (inl (event, small, up))) = inr (inl (event, small, here 1 ∙ up))
        by_case (inr (inr (event, none, up))) = inr (inr (event, none, here 2 ∙ up))

    -- each label
    abbrev Then : Imports → List Label → List Label → Type 0
    Then is past ls = KeepsPortsAfter is past ls

    index_one : (l : Port) (e v : ℕ) (past ls : List Label)
        → (IsFalse (is_output_at l e) → May all past l e v)
        → Then qs (index_label x l e v ++ index_labels x past) ls → Then qs (index_labels x past) (index_label x l e v ++ ls)
    index_one Given e v past ls may rest = rest
    index_one (Taken y) e v past ls may rest = by_name (bytes_eq y x) refl e may rest
      where
        by_name : (b : Bool) → bytes_eq y x ≡ b → (e : ℕ) → (IsFalse (is_output_at (Taken y) e) → May all past (Taken y) e v)
            → Then qs ((if b then asked_label e v else taken y e v ∷ []) ++ index_labels x past) ls
            → Then qs (index_labels x past) ((if b then asked_label e v else taken y e v ∷ []) ++ ls)
        by_name true is zero may rest = ((λ input. absurd (cc input)), rest)
        by_name true is (suc zero) may rest =
            ((λ input. inl (index_may past v (subst (λ (z : Name). May all past (Taken z) 1 v) (name_is y x is) (may refl)))), rest)
        by_name true is (suc (suc e)) may rest = rest
        by_name false other e may rest = ((λ input. other_may y other past e v (may input)), rest)

    pub index_keeps : (past ls : List Label) → KeepsPortsAfter all past ls → KeepsPortsAfter qs (index_labels x past) (index_labels x ls)
    index_keeps past [] keeps = tt
    index_keeps past (l ∷ ls) (may, keeps) =
        index_one l.port l.event l.value past (index_labels x ls) may (index_keeps (l ∷ past) ls keeps)

    -- what comes at the variable, and at the result
    variable_may : (past : List Label) (e v : ℕ) → May all past (Taken x) (suc (suc e)) v → Allowed own (own_labels x past) (Taken x) e v
    variable_may past e v (inl ground) = absurd (no_ground past (suc (suc e)) v ground)
    variable_may past e v (inr (j, u, is, shut, inl (event, none, up))) = absurd (omega (arith, event))
    variable_may past e v (inr (j, u, is, shut, inr (inl (event, small, up)))) =
        let one : 1 ≡ e = omega (arith, event) in
        let same : u ≡ w = var_is (same_Some (Fun (Exp j) (Var u)) (Fun (Exp i) (Var w)) (sym is ∙ array_there)) in
        subst (λ (n : ℕ). Allowed own (own_labels x past) (Taken x) n v) one (
          subst (λ (o : Option Type'). FitsAnswer (event_of o 1) v) (sym variable_there) (subst (λ (n : ℕ). v < 2 ^ n) same small),
          variable_is 0 past ∙ up,
        )
      where
        var_is : Fun (Exp j) (Var u) ≡ Fun (Exp i) (Var w) → u ≡ w
        var_is e = cc e
    variable_may past e v (inr (j, u, is, shut, inr (inr (event, none, up)))) =
        let three : 3 ≡ e = omega (arith, event) in
        subst (λ (n : ℕ). Allowed own (own_labels x past) (Taken x) n v) three (
          subst (λ (o : Option Type'). FitsAnswer (event_of o 3) v) (sym variable_there) (let small : v < 1 = omega (arith, none) in small),
          variable_is 1 past ∙ up,
        )

    own_one : (l : Port) (e v : ℕ) (past ls : List Label)
        → (IsFalse (is_output_at l e) → May all past l e v)
        → Then own (own_label x l e v ++ own_labels x past) ls → Then own (own_labels x past) (own_label x l e v ++ ls)
    own_one Given e v past ls may rest = ((λ input. by_case (may input)), rest)
      where
        by_case : May all past Given e v → May own (own_labels x past) Given e v
        by_case (inl (event, none, shut)) = inl (event, none, given_is 0 past ∙ shut)
        by_case (inr none) = absurd none
    own_one (Taken y) e v past ls may rest = by_name (bytes_eq y x) refl e may rest
      where
        by_name : (b : Bool) → bytes_eq y x ≡ b → (e : ℕ) → (IsFalse (is_output_at (Taken y) e) → May all past (Taken y) e v)
            → Then own ((if b then variable_label x e v else []) ++ own_labels x past) ls
            → Then own (own_labels x past) ((if b then variable_label x e v else []) ++ ls)
        by_name true is zero may rest = rest
        by_name true is (suc zero) may rest = rest
        by_name true is (suc (suc e)) may rest =
            ((λ input. inl (variable_may past e v (subst (λ (z : Name). May all past (Taken z) (suc (suc e)) v) (name_is y x is) (may input)))), rest)
        by_name false other e may rest = rest

    pub own_keeps : (past ls : List Label) → KeepsPortsAfter all past ls → KeepsPortsAfter own (own_labels x past) (own_labels x ls)
    own_keeps past [] keeps = tt
    own_keeps past (l ∷ ls) (may, keeps) =
        own_one l.port l.event l.value past (own_labels x ls) may (own_keeps (l ∷ past) ls keeps)
