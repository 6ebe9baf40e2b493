-- A plan of a function joined to one of its argument: where each end comes from, and in which of the two it stands.
use Rattle.std.specs.Prelude.{◌≡◌, ◌≢◌, ℕ, zero, suc, ◌+◌, ◌-◌, ◌*◌, ◌<◌, Bool, true, false, List, [], ◌∷◌, ◌++◌, ◌⊎◌, length, map, Some, slice_get, nat_lt, Contains, if◌then◌else◌}
use Rattle.std.proofs.Common.{refl, sym, ◌∙◌, ap, subst, arith, inl, inr}
use Rattle.std.proofs.lemmas.Bool.Decides.{nat_tests}
use Rattle.std.proofs.lemmas.Option.{slice_get_within, same_Some}
use Rattle.gos_types.specs.declared.shakes.Role.{Role}
use Rattle.gos_types.specs.declared.shakes.Role.TheVariants.{Serve, Ask}
use Rattle.gos_types.specs.Types.{Type'}
use Rattle.gos_types.proofs.ListLemmas.{element_at}
use Rattle.gos_plan.specs.Kinds.{Contact, asks, serves, contacts_of}
use Rattle.gos_plan.specs.Plans.{End, PartEnd, ImportEnd, ResultEnd, Joint, Plan, contact_at}
use Rattle.gos_plan.specs.Joining.{Place, place, Link, Wiring, LeftImport, all_left, left_place, part_place, origin, Path, IsJoining, Connects}
use Rattle.gos_plan.proofs.JointLemmas.{fits, contained, which_end}
use Rattle.gos_plan.proofs.ContactLemmas.{part_is_there, import_is_there}
use Rattle.gos_realises.specs.realises.Regular.{count}
use Rattle.gos_realises.specs.realises.Wirings.{link, applying}
use Rattle.gos_realises.proofs.realises.LeftLemmas.{left_list}
use Rattle.gos_realises.proofs.joined.ReachLemmas.{Step, paths_back}
use Rattle.gos_joining.specs.webs.Webs.{joint}
use Rattle.gos_joining.specs.webs.Cutting.{StandsIn}
use Rattle.gos_joining.proofs.webs.CutLemmas.{stands_by}
use Rattle.gos_joining.proofs.unions.PlaceLemmas.{fields_of, stands_alone}
use Rattle.gos_sharing.specs.buffers.Buffering.{end_behind}
use Rattle.gos_sharing.proofs.buffers.HousedLemmas.{is_contact, not_both}
use Rattle.gos_sharing.specs.behind.Behind.{IsBehind}
use Rattle.gos_sharing.proofs.behind.EndLemmas.{Owned, owned_contact, asker, server, outer_is}
use Rattle.gos_sharing.proofs.function_types.SideLemmas.{linked_is, lefts, list_size, first_left, second_left}

both_lengths : {A : Type 0} (xs ys : List A) → length (xs ++ (ys ++ [])) ≡ length xs + length ys
both_lengths [] [] = refl
both_lengths [] (y ∷ ys) = let e : suc (0 + length ys) ≡ 0 + suc (length ys) = omega arith in ap suc (both_lengths [] ys) ∙ e
both_lengths (x ∷ xs) ys =
    let e : suc (length xs + length ys) ≡ suc (length xs) + length ys = omega arith in ap suc (both_lengths xs ys) ∙ e

mapped_length : (ls : List LeftImport) → length (map (λ y. y.import) ls) ≡ length ls
mapped_length [] = refl
mapped_length (l ∷ ls) = ap suc (mapped_length ls)

pub low_or_more : (n m : ℕ) → (n < m) ⊎ ((l : ℕ) × (n ≡ m + l))
low_or_more n m = by_test (nat_lt n m) refl
  where
    by_test : (b : Bool) → nat_lt n m ≡ b → (n < m) ⊎ ((l : ℕ) × (n ≡ m + l))
    by_test true test = inl (grind (arith, nat_tests, test))
    by_test false test = inr (n - m, grind (arith, nat_tests, test))

-- the Share's ends in the joints of a plan behind it
pub share_stands : (i : ℕ) (t : Type') (c : ℕ) (r p : Plan) → IsBehind i t c r p → (h : ℕ) → StandsIn r (PartEnd i h)
    → (h < count t) ⊎ ((j : ℕ) × (j < count t) × (h ≡ count t + c * count t + j))
share_stands i t c r p is h (s, has, stood) =
    elim ((is.joints s.asking s.serving).0 has) [
      | inl (d, e, in_p, at_d, at_e) ↦
          (let fit = fits p [] p.joints (joint d e) is.also_right (contained p.joints (joint d e) in_p) in
          elim (which_end (PartEnd i h) s stood) [
            | inl one ↦ of_end d (owned_contact i t c r p is.frame d (asks fit.0 fit.1) fit.2) (sym at_d ∙ sym one)
            | inr one ↦ of_end e (owned_contact i t c r p is.frame e (serves fit.0 fit.1) fit.3) (sym at_e ∙ sym one)
          ])
      | inr (j, k, at_k, same) ↦
          (let low = slice_get_within (contacts_of t) j k at_k in
          let is_so : s ≡ joint (asker i t c j k.role) (server i t c j k.role) = same ∙ outer_is i t c j k.role in
          elim (which_end (PartEnd i h) s stood) [
            | inl one ↦ of_asker j low k.role (one ∙ ap (λ (x : Joint). x.asking) is_so)
            | inr one ↦ of_server j low k.role (one ∙ ap (λ (x : Joint). x.serving) is_so)
          ])
    ]
  where
    Known : Type 0
    Known = (h < count t) ⊎ ((j : ℕ) × (j < count t) × (h ≡ count t + c * count t + j))

    of_end : (d : End) → Owned t p d → end_behind i d ≡ PartEnd i h → Known
    of_end (PartEnd n g) own same =
        let e : n ≡ i = cc same in
        let number = is.frame.number in absurd (omega (arith, own, e, number))
    of_end (ImportEnd n g) own same = absurd (cc same)
    of_end (ResultEnd g) own same = let e : g ≡ h = cc same in inl (omega (arith, own, e))

    of_asker : (j : ℕ) → j < count t → (role : Role) → PartEnd i h ≡ asker i t c j role → Known
    of_asker j low Serve same = absurd (cc same)
    of_asker j low Ask same = let e : h ≡ count t + c * count t + j = cc same in inr (j, low, e)

    of_server : (j : ℕ) → j < count t → (role : Role) → PartEnd i h ≡ server i t c j role → Known
    of_server j low Serve same = let e : h ≡ count t + c * count t + j = cc same in inr (j, low, e)
    of_server j low Ask same = absurd (cc same)

module _ (a b : Type') (p q r : Plan) (joins : IsJoining (applying a b p q) r) where
  abbrev w : Wiring
  w = applying a b p q

  pub part_count : length r.parts ≡ length p.parts + length q.parts
  part_count = ap length joins.parts ∙ both_lengths p.parts q.parts

  pub import_count : length r.imports ≡ length p.imports + length q.imports
  import_count =
      ap length joins.imports
      ∙ (mapped_length (all_left w)
      ∙ (ap length (lefts a b p q r joins)
      ∙ (both_lengths (left_list 0 0 p.imports) (left_list 1 0 q.imports) ∙ (λ l. list_size 0 0 p.imports l + list_size 1 0 q.imports l))))

  pub first_origin : (n h : ℕ) → n < length p.parts → origin w (PartEnd n h) ≡ place 0 (PartEnd n h)
  first_origin n h low =
      let test : nat_lt n (length p.parts) ≡ true = grind (arith, nat_tests, low) in
      ap (λ (y : Bool). if y then place 0 (PartEnd n h) else part_place 1 (q ∷ []) (n - length p.parts) h) test

  pub second_origin : (n h : ℕ) → n < length q.parts → origin w (PartEnd (length p.parts + n) h) ≡ place 1 (PartEnd n h)
  second_origin n h low =
      let test : nat_lt (length p.parts + n) (length p.parts) ≡ false = grind (arith, nat_tests) in
      let less : length p.parts + n - length p.parts ≡ n = omega arith in
      let small : nat_lt n (length q.parts) ≡ true = grind (arith, nat_tests, low) in
      ap (λ (y : Bool). if y then place 0 (PartEnd (length p.parts + n) h) else part_place 1 (q ∷ []) (length p.parts + n - length p.parts) h) test
      ∙ (ap (λ (m : ℕ). part_place 1 (q ∷ []) m h) less
      ∙ ap (λ (y : Bool). if y then place 1 (PartEnd n h) else part_place 2 [] (n - length q.parts) h) small)

  -- a part that there is is of the one or of the other; so is an import
  pub part_side : (n h : ℕ) (k : Contact) → contact_at r (PartEnd n h) ≡ Some k → (n < length p.parts) ⊎ ((m : ℕ) × (n ≡ length p.parts + m) × (m < length q.parts))
  part_side n h k there =
      let (part, at_part) = part_is_there (slice_get r.parts n) h k there in
      let low = slice_get_within r.parts n part at_part in
      let all = part_count in
      elim (low_or_more n (length p.parts)) [
        | inl small ↦ inl small
        | inr (m, sum) ↦ inr (m, sum, omega (arith, low, all, sum))
      ]

  pub import_side : (n h : ℕ) (k : Contact) → contact_at r (ImportEnd n h) ≡ Some k
      → (origin w (ImportEnd n h) ≡ place 0 (ImportEnd n h)) ⊎ ((m : ℕ) × (n ≡ length p.imports + m) × (origin w (ImportEnd n h) ≡ place 1 (ImportEnd m h)))
  import_side n h k there =
      let (y, at_y) = import_is_there (slice_get r.imports n) h k there in
      let low = slice_get_within r.imports n y at_y in
      let all = import_count in
      elim (low_or_more n (length p.imports)) [
        | inl small ↦ (let (x, at_x) = element_at p.imports n small in inl (ap (λ o. left_place o h) (first_left a b p q r joins n x at_x)))
        | inr (m, sum) ↦
            (let small : m < length q.imports = omega (arith, low, all, sum) in
            let (x, at_x) = element_at q.imports m small in
            inr (m, sum, ap (λ (l : ℕ). left_place (slice_get (all_left w) l) h) sum ∙ ap (λ o. left_place o h) (second_left a b p q r joins m x at_x)))
      ]

  -- the first step of an end that stands in a joint
  step_of : (e d : End) (c k : Contact) (n : ℕ) → (e ≢ d) → contact_at r e ≡ Some c → contact_at r d ≡ Some k → Path w n (origin w e) (origin w d) → (l : Place) × Step w (origin w e) l
  step_of e d c k zero apart at_e at_d same = absurd (apart (stands_alone w r (fields_of w r joins) e d c k at_e at_d same))
  step_of e d c k (suc n) apart at_e at_d (l, step, rest) = (l, step)

  first_step : (e : End) → StandsIn r e → (l : Place) × Step w (origin w e) l
  first_step e (s, has, stood) = of_connects ((joins.joints s.asking s.serving).0 has)
    where
      of_connects : Connects w r s.asking s.serving → (l : Place) × Step w (origin w e) l
      of_connects (o, v, n, at_a, at_s, path) =
          let apart : s.asking ≢ s.serving = (λ same. not_both o v o v (is_contact r s.asking (asks o v) (serves o v) at_a (ap (contact_at r) same ∙ at_s))) in
          elim (which_end e s stood) [
            | inl one ↦
                subst (λ (x : End). (l : Place) × Step w (origin w x) l) (sym one) (step_of s.asking s.serving (asks o v) (serves o v) n apart at_a at_s path)
            | inr one ↦
                (let (m, back) = paths_back w (origin w s.asking) (origin w s.serving) (n, path) in
                subst (λ (x : End). (l : Place) × Step w (origin w x) l) (sym one)
                (step_of s.serving s.asking (serves o v) (asks o v) m (λ same. apart (sym same)) at_s at_a back))
          ]

  not_linked : (o n h : ℕ) (l : Place) (k : Link) → (g : ℕ) × (g < 0 + count a) × (k ≡ link 0 (ResultEnd g) 1 (ResultEnd g)) → (place o (PartEnd n h) ≡ k.one) ⊎ (place o (PartEnd n h) ≡ k.other) → ⊥
  not_linked o n h l k (g, low, same) (inl one) = let e : PartEnd n h ≡ ResultEnd g = ap (λ (x : Place). x.end) (one ∙ ap (λ (y : Link). y.one) same) in cc e
  not_linked o n h l k (g, low, same) (inr one) = let e : PartEnd n h ≡ ResultEnd g = ap (λ (x : Place). x.end) (one ∙ ap (λ (y : Link). y.other) same) in cc e

  stands_at : (o n h : ℕ) (s : Plan) → slice_get (p ∷ q ∷ []) o ≡ Some s → (l : Place) → Step w (place o (PartEnd n h)) l → StandsIn s (PartEnd n h)
  stands_at o n h s at_s l (inl (y, j, same, at_y, has, ways)) =
      let is_s : y ≡ s = same_Some y s (sym at_y ∙ at_s) in
      let has_s = subst (λ (x : Plan). Contains x.joints j) is_s has in
      elim ways [
        | inl (e, g) ↦ (j, has_s, stands_by (PartEnd n h) j (inl e))
        | inr (e, g) ↦ (j, has_s, stands_by (PartEnd n h) j (inr e))
      ]
  stands_at o n h s at_s l (inr (k, has, inl (e, g))) = absurd (not_linked o n h l k (linked_is 0 (count a) k has) (inl e))
  stands_at o n h s at_s l (inr (k, has, inr (e, g))) = absurd (not_linked o n h l k (linked_is 0 (count a) k has) (inr e))

  pub stands_first : (n h : ℕ) → n < length p.parts → StandsIn r (PartEnd n h) → StandsIn p (PartEnd n h)
  stands_first n h low stood =
      let (l, step) = first_step (PartEnd n h) stood in
      stands_at 0 n h p refl l (subst (λ (x : Place). Step w x l) (first_origin n h low) step)

  pub stands_second : (n h : ℕ) → n < length q.parts → StandsIn r (PartEnd (length p.parts + n) h) → StandsIn q (PartEnd n h)
  stands_second n h low stood =
      let (l, step) = first_step (PartEnd (length p.parts + n) h) stood in
      stands_at 1 n h q refl l (subst (λ (x : Place). Step w x l) (second_origin n h low) step)
