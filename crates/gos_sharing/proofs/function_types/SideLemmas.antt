-- A plan of a function joined to one of its argument: where the ends of both stand.
use Rattle.std.specs.Prelude.{◌≡◌, ℕ, zero, suc, ◌+◌, ◌-◌, ◌<◌, ◌≤◌, Bool, true, false, List, [], ◌∷◌, ◌++◌, length, Some, slice_get, nat_eq, nat_lt, Contains, if◌then◌else◌}
use Rattle.std.proofs.Common.{refl, sym, ◌∙◌, ap, arith, inl, inr}
use Rattle.std.proofs.lemmas.Bool.Decides.{nat_tests}
use Rattle.std.proofs.lemmas.Option.{slice_get_within}
use Rattle.gos_types.specs.Types.{Type'}
use Rattle.gos_types.proofs.ListLemmas.{found_in_front}
use Rattle.gos_model.specs.Typing.{Imported}
use Rattle.gos_plan.specs.Kinds.{Part, Contact, contacts_of}
use Rattle.gos_plan.specs.Plans.{End, PartEnd, ImportEnd, ResultEnd, Plan, contact_at, contacts_of_part, contacts_of_import, turned_if}
use Rattle.gos_plan.specs.Joining.{place, Link, Wiring, LeftImport, all_left, left_place, origin, IsJoining}
use Rattle.gos_plan.proofs.ContactLemmas.{part_is_there, import_is_there}
use Rattle.gos_realises.specs.realises.Regular.{count}
use Rattle.gos_realises.specs.realises.Wirings.{link, results_linked, applying}
use Rattle.gos_realises.proofs.realises.LeftLemmas.{left_list, left_all}
use Rattle.gos_realises.proofs.joined.ReachLemmas.{Step}
use Rattle.gos_joining.specs.webs.Webs.{joint}
use Rattle.gos_supplies.proofs.applications.SeamLemmas.{none_joined}
use Rattle.gos_sharing.proofs.function_types.BeforeLemmas.{IsResultEnd, listed_list, mapped_some}

behind_some : {A : Type 0} (xs ys : List A) (n : ℕ) (x : A) → slice_get ys n ≡ Some x → slice_get (xs ++ ys) (length xs + n) ≡ Some x
behind_some [] ys n x e = let zeros : 0 + n ≡ n = omega arith in ap (slice_get ys) zeros ∙ e
behind_some (y ∷ xs) ys n x e = let sum : suc (length xs) + n ≡ suc (length xs + n) = omega arith in ap (slice_get (y ∷ (xs ++ ys))) sum ∙ behind_some xs ys n x e

pub list_size : (k i : ℕ) (xs : List Imported) → length (left_list k i xs) ≡ length xs
list_size k i [] = refl
list_size k i (x ∷ xs) = ap suc (list_size k (suc i) xs)

pub link_is_in : (n m h : ℕ) → n ≤ h → h < n + m → Contains (results_linked 1 n m) (link 0 (ResultEnd h) 1 (ResultEnd h))
link_is_in n zero h le lt = absurd (omega (arith, le, lt))
link_is_in n (suc m) h le lt = by_test (nat_eq h n) refl (λ up. further (link_is_in (suc n) m h up (omega (arith, lt))))
  where
    further : Contains (results_linked 1 (suc n) m) (link 0 (ResultEnd h) 1 (ResultEnd h)) → Contains (results_linked 1 n (suc m)) (link 0 (ResultEnd h) 1 (ResultEnd h))
    further (k, inside, is) = (suc k, omega (arith, inside), is)

    by_test : (b : Bool) → nat_eq h n ≡ b → (suc n ≤ h → Contains (results_linked 1 n (suc m)) (link 0 (ResultEnd h) 1 (ResultEnd h)))
        → Contains (results_linked 1 n (suc m)) (link 0 (ResultEnd h) 1 (ResultEnd h))
    by_test true e rest = let same : n ≡ h = grind (arith, e) in (0, omega arith, ap (λ x. link 0 (ResultEnd x) 1 (ResultEnd x)) same)
    by_test false e rest = rest (grind (arith, e, le))

pub linked_is : (n m : ℕ) (l : Link) → Contains (results_linked 1 n m) l → (h : ℕ) × (h < n + m) × (l ≡ link 0 (ResultEnd h) 1 (ResultEnd h))
linked_is n zero l (k, inside, is) = absurd (omega (arith, inside))
linked_is n (suc m) l (zero, inside, is) = (n, omega arith, sym is)
linked_is n (suc m) l (suc k, inside, is) = let (h, low, same) = linked_is (suc n) m l (k, omega (arith, inside), is) in (h, omega (arith, low), same)

module _ (a b : Type') (p q r : Plan) (joins : IsJoining (applying a b p q) r) where
  abbrev w : Wiring
  w = applying a b p q

  abbrev pub moved : End → End
  moved (PartEnd n h) = PartEnd (length p.parts + n) h
  moved (ImportEnd n h) = ImportEnd (length p.imports + n) h
  moved (ResultEnd h) = ResultEnd h

  pub lefts : all_left w ≡ left_list 0 0 p.imports ++ (left_list 1 0 q.imports ++ [])
  lefts =
      λ l. left_all (results_linked 1 0 (count a)) 0 (none_joined 0 (count a) 0) 0 p.imports l
      ++ (left_all (results_linked 1 0 (count a)) 1 (none_joined 0 (count a) 1) 0 q.imports l ++ [])

  pub first_left : (n : ℕ) (y : Imported) → slice_get p.imports n ≡ Some y → slice_get (all_left w) n ≡ Some (record { plan = 0; number = n; import = y })
  first_left n y there =
      let e : 0 + n ≡ n = omega arith in
      ap (λ l. slice_get l n) lefts
      ∙ (found_in_front (left_list 0 0 p.imports) (left_list 1 0 q.imports ++ []) n (record { plan = 0; number = 0 + n; import = y }) (listed_list 0 0 p.imports n y there)
      ∙ (λ l. Some (record { plan = 0; number = e l; import = y })))

  pub second_left : (n : ℕ) (y : Imported) → slice_get q.imports n ≡ Some y → slice_get (all_left w) (length p.imports + n) ≡ Some (record { plan = 1; number = n; import = y })
  second_left n y there =
      let e : 0 + n ≡ n = omega arith in
      let size = list_size 0 0 p.imports in
      ap (λ l. slice_get l (length p.imports + n)) lefts
      ∙ (ap (λ m. slice_get (left_list 0 0 p.imports ++ (left_list 1 0 q.imports ++ [])) (m + n)) (sym size)
      ∙ (behind_some (left_list 0 0 p.imports) (left_list 1 0 q.imports ++ []) n (record { plan = 1; number = 0 + n; import = y })
      (found_in_front (left_list 1 0 q.imports) [] n (record { plan = 1; number = 0 + n; import = y }) (listed_list 1 0 q.imports n y there))
      ∙ (λ l. Some (record { plan = 1; number = e l; import = y }))))

  import_so : (n : ℕ) (l : LeftImport) → slice_get (all_left w) n ≡ Some l → slice_get r.imports n ≡ Some l.import
  import_so n l there = ap (λ js. slice_get js n) joins.imports ∙ mapped_some (all_left w) n l there

  pub first_part : (n : ℕ) (k : Part) → slice_get p.parts n ≡ Some k → slice_get r.parts n ≡ Some k
  first_part n k there = ap (λ ks. slice_get ks n) joins.parts ∙ found_in_front p.parts (q.parts ++ []) n k there

  pub second_part : (n : ℕ) (k : Part) → slice_get q.parts n ≡ Some k → slice_get r.parts (length p.parts + n) ≡ Some k
  second_part n k there =
      ap (λ ks. slice_get ks (length p.parts + n)) joins.parts ∙ behind_some p.parts (q.parts ++ []) n k (found_in_front q.parts [] n k there)

  pub first_stays : (e : End) (k : Contact) → (IsResultEnd e → ⊥) → contact_at p e ≡ Some k → (origin w e ≡ place 0 e) × (contact_at r e ≡ Some k)
  first_stays (ResultEnd h) k own there = absurd (own tt)
  first_stays (PartEnd n h) k own there =
      let (part, at_part) = part_is_there (slice_get p.parts n) h k there in
      let low = slice_get_within p.parts n part at_part in
      let test : nat_lt n (length p.parts) ≡ true = grind (arith, nat_tests, low) in (
        ap (λ (y : Bool). if y then place 0 (PartEnd n h) else Rattle.gos_plan.specs.Joining.part_place 1 (q ∷ []) (n - length p.parts) h) test,
        ap (λ y. slice_get (contacts_of_part y) h) (first_part n part at_part ∙ sym at_part) ∙ there,
      )
  first_stays (ImportEnd n h) k own there =
      let (y, at_y) = import_is_there (slice_get p.imports n) h k there in (
        ap (λ o. left_place o h) (first_left n y at_y),
        ap (λ o. slice_get (contacts_of_import o) h) (import_so n (record { plan = 0; number = n; import = y }) (first_left n y at_y) ∙ sym at_y) ∙ there,
      )

  pub second_stays : (e : End) (k : Contact) → (IsResultEnd e → ⊥) → contact_at q e ≡ Some k → (origin w (moved e) ≡ place 1 e) × (contact_at r (moved e) ≡ Some k)
  second_stays (ResultEnd h) k own there = absurd (own tt)
  second_stays (PartEnd n h) k own there =
      let (part, at_part) = part_is_there (slice_get q.parts n) h k there in
      let low = slice_get_within q.parts n part at_part in
      let test : nat_lt (length p.parts + n) (length p.parts) ≡ false = grind (arith, nat_tests) in
      let less : length p.parts + n - length p.parts ≡ n = omega arith in
      let small : nat_lt n (length q.parts) ≡ true = grind (arith, nat_tests, low) in (
        ap (λ (y : Bool). if y then place 0 (PartEnd (length p.parts + n) h) else Rattle.gos_plan.specs.Joining.part_place 1 (q ∷ []) (length p.parts + n - length p.parts) h) test
            ∙ (ap (λ (m : ℕ). Rattle.gos_plan.specs.Joining.part_place 1 (q ∷ []) m h) less
            ∙ ap (λ (y : Bool). if y then place 1 (PartEnd n h) else Rattle.gos_plan.specs.Joining.part_place 2 [] (n - length q.parts) h) small),
        ap (λ y. slice_get (contacts_of_part y) h) (second_part n part at_part ∙ sym at_part) ∙ there,
      )
  second_stays (ImportEnd n h) k own there =
      let (y, at_y) = import_is_there (slice_get q.imports n) h k there in (
        ap (λ o. left_place o h) (second_left n y at_y),
        ap (λ o. slice_get (contacts_of_import o) h) (import_so (length p.imports + n) (record { plan = 1; number = n; import = y }) (second_left n y at_y) ∙ sym at_y) ∙ there,
      )

  pub result_stays : (h : ℕ) (k : Contact) → slice_get (contacts_of b) h ≡ Some k → contact_at r (ResultEnd h) ≡ turned_if (Some k)
  result_stays h k there = ap (λ y. turned_if (slice_get (contacts_of y) h)) joins.outcome ∙ ap turned_if there

  pub link_step : (j : ℕ) → j < count a → Step w (place 0 (ResultEnd j)) (place 1 (ResultEnd j))
  link_step j low = inr (link 0 (ResultEnd j) 1 (ResultEnd j), link_is_in 0 (count a) j (omega arith) (omega (arith, low)), inl (refl, refl))

  pub first_step : (d e : End) → Contains p.joints (joint d e) → Step w (place 0 d) (place 0 e)
  first_step d e has = inl (p, joint d e, refl, refl, has, inl (refl, refl))

  pub second_step : (d e : End) → Contains q.joints (joint d e) → Step w (place 1 d) (place 1 e)
  second_step d e has = inl (q, joint d e, refl, refl, has, inl (refl, refl))
