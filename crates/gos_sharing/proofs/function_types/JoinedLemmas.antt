-- What is joined to split plans is split.
use Rattle.std.specs.Prelude.{◌≡◌, ◌≢◌, ℕ, zero, suc, ◌+◌, ◌-◌, ◌*◌, ◌<◌, Bool, true, false, List, ◌⊎◌, length, Some, slice_get, nat_lt, Contains, if◌then◌else◌}
use Rattle.std.proofs.Common.{refl, sym, ◌∙◌, ap, subst, arith, inl, inr}
use Rattle.std.proofs.lemmas.Bool.Decides.{nat_tests}
use Rattle.std.proofs.lemmas.Option.{slice_get_within, same_Some}
use Rattle.gos_types.specs.Types.{Type', Fun}
use Rattle.gos_types.proofs.ListLemmas.{element_at}
use Rattle.gos_plan.specs.Kinds.{Share, Contact, asks, serves, contacts_of, turned_contact, part_contacts}
use Rattle.gos_plan.specs.Plans.{End, PartEnd, ImportEnd, ResultEnd, Plan, contact_at, contacts_of_part, contacts_of_import, turned_if}
use Rattle.gos_plan.specs.Joining.{Place, place, Link, Wiring, part_place, origin, Path, IsJoining}
use Rattle.gos_plan.proofs.AskingLemmas.{source_at, first_caller_at, second_caller_at}
use Rattle.gos_plan.proofs.ContactLemmas.{turned_contact_twice}
use Rattle.gos_plan.proofs.JointLemmas.{which_end}
use Rattle.gos_realises.specs.realises.Regular.{count}
use Rattle.gos_realises.proofs.realises.GroundTurnLemmas.{count_fun}
use Rattle.gos_realises.proofs.joined.ReachLemmas.{Step, paths_back}
use Rattle.gos_joining.specs.webs.Cutting.{StandsIn}
use Rattle.gos_joining.proofs.webs.CutLemmas.{stands_by}
use Rattle.gos_joining.proofs.unions.PlaceLemmas.{fields_of, stands_alone}
use Rattle.gos_supplies.proofs.turns.BetweenLemmas.{fun_first}
use Rattle.gos_sharing.specs.sharing.Sharing.{source_end, caller_end}
use Rattle.gos_sharing.proofs.behind.BetweenLemmas.{second_of_fun}
use Rattle.gos_sharing.proofs.buffers.HousedLemmas.{not_both}
use Rattle.gos_sharing.specs.function_types.Joined.{wiring, IsPortPlace, AllPortPlaces}
use Rattle.gos_sharing.specs.function_types.Split.{Splitting, IsUsed, IsSplit}

-- handshakes of a Share
pub share_source : (r : Plan) (k : ℕ) (t : Type') (j : ℕ) (d : Contact) → slice_get r.parts k ≡ Some (Share t) → slice_get (contacts_of t) j ≡ Some d
    → contact_at r (source_end k j) ≡ Some (turned_contact d)
share_source r k t j d there at_j = ap (λ y. slice_get (contacts_of_part y) j) there ∙ source_at t j d at_j

pub share_caller : (r : Plan) (k : ℕ) (t : Type') (c : ℕ) → c < 2 → (j : ℕ) (d : Contact) → slice_get r.parts k ≡ Some (Share t) → slice_get (contacts_of t) j ≡ Some d
    → contact_at r (caller_end k t c j) ≡ Some d
share_caller r k t zero two j d there at_j =
    let e : count t + 0 * count t + j ≡ count t + j = omega arith in
    ap (λ y. slice_get (contacts_of_part y) (count t + 0 * count t + j)) there ∙ (ap (slice_get (part_contacts (Share t))) e ∙ first_caller_at t j d at_j)
share_caller r k t (suc zero) two j d there at_j =
    let e : count t + 1 * count t + j ≡ count t + count t + j = omega arith in
    ap (λ y. slice_get (contacts_of_part y) (count t + 1 * count t + j)) there ∙ (ap (slice_get (part_contacts (Share t))) e ∙ second_caller_at t j d at_j)
share_caller r k t (suc (suc c)) two j d there at_j = absurd (omega (arith, two))

-- an end of the first plan that stands in a joint of the whole, and in no link, stands in one of its plan
module _ (x : Plan) (ps : List Plan) (ls : List Link) (giver skipped : ℕ) (ty : Type') (whole : Plan) (kept : AllPortPlaces ls) (joins : IsJoining (wiring x ps ls giver skipped ty) whole) where
  abbrev w : Wiring
  w = wiring x ps ls giver skipped ty

  pub low_origin : (n h : ℕ) → n < length x.parts → origin w (PartEnd n h) ≡ place 0 (PartEnd n h)
  low_origin n h low =
      let test : nat_lt n (length x.parts) ≡ true = grind (arith, nat_tests, low) in
      ap (λ (b : Bool). if b then place 0 (PartEnd n h) else part_place 1 ps (n - length x.parts) h) test

  of_step : (n h : ℕ) (a : Place) → Step w (place 0 (PartEnd n h)) a → StandsIn x (PartEnd n h)
  of_step n h a (inl (p, j, same, at_p, has, ways)) =
      let is_x : x ≡ p = cc at_p in
      let has_x = subst (λ (y : Plan). Contains y.joints j) (sym is_x) has in
      elim ways [
        | inl (e, g) ↦ (j, has_x, stands_by (PartEnd n h) j (inl e))
        | inr (e, g) ↦ (j, has_x, stands_by (PartEnd n h) j (inr e))
      ]
  of_step n h a (inr (l, has, inl (e, g))) = absurd (subst IsPortPlace (sym e) (kept l has).0 refl)
  of_step n h a (inr (l, has, inr (e, g))) = absurd (subst IsPortPlace (sym e) (kept l has).1 refl)

  abbrev Steps : End → Type 0
  Steps b = (a : Place) → Step w (place 0 b) a → StandsIn x b

  of_path : (b : End) → origin w b ≡ place 0 b → Steps b → (k : ℕ) (e : End) → (b ≢ e) → (c d : Contact) → contact_at whole b ≡ Some c → contact_at whole e ≡ Some d
      → Path w k (origin w b) (origin w e) → StandsIn x b
  of_path b home steps zero e apart c d at_c at_d same = absurd (apart (stands_alone w whole (fields_of w whole joins) b e c d at_c at_d same))
  of_path b home steps (suc k) e apart c d at_c at_d (a, step, rest) = steps a (subst (λ (y : Place). Step w y a) home step)

  pub stands_first : (b : End) → origin w b ≡ place 0 b → Steps b → StandsIn whole b → StandsIn x b
  stands_first b home steps (j, has, stood) = of_connects ((joins.joints j.asking j.serving).0 has)
    where
      of_connects : Rattle.gos_plan.specs.Joining.Connects w whole j.asking j.serving → StandsIn x b
      of_connects (q, v, k, at_a, at_s, path) = elim (which_end b j stood) [
        | inl one ↦
            of_path b home steps k j.serving
            (λ e. not_both q v q v (same_Some (asks q v) (serves q v) (sym at_a ∙ (ap (contact_at whole) (sym one ∙ e) ∙ at_s)))) (asks q v) (serves q v)
            (ap (contact_at whole) one ∙ at_a) at_s (subst (λ (y : End). Path w k (origin w y) (origin w j.serving)) (sym one) path)
        | inr one ↦
            (let (n_back, back) = paths_back w (origin w j.asking) (origin w j.serving) (k, path) in
            of_path b home steps n_back j.asking
            (λ e. not_both q v q v (same_Some (asks q v) (serves q v) (sym at_a ∙ (ap (contact_at whole) (sym e ∙ one) ∙ at_s)))) (serves q v) (asks q v)
            (ap (contact_at whole) one ∙ at_s) at_a (subst (λ (y : End). Path w n_back (origin w y) (origin w j.asking)) (sym one) back))
      ]

  pub stands_low : (n h : ℕ) → n < length x.parts → StandsIn whole (PartEnd n h) → StandsIn x (PartEnd n h)
  stands_low n h low = stands_first (PartEnd n h) (low_origin n h low) (of_step n h)

module _ (f : Splitting) (x u : Plan) (is : IsSplit f x u) where
  abbrev t : Type'
  t = Fun f.of f.to

  sizes : count (Fun f.of f.to) ≡ count f.of + count f.to
  sizes = count_fun f.of f.to

  -- handshakes are kept
  abbrev Stays : End → Type 0
  Stays e = (k : Contact) → contact_at x e ≡ Some k → contact_at u (f.end e) ≡ Some k

  by_size : (j : ℕ) → (j < count f.of) ⊎ ((l : ℕ) × (j ≡ count f.of + l))
  by_size j = by_test (nat_lt j (count f.of)) refl
    where
      by_test : (b : Bool) → nat_lt j (count f.of) ≡ b → (j < count f.of) ⊎ ((l : ℕ) × (j ≡ count f.of + l))
      by_test true test = inl (grind (arith, nat_tests, test))
      by_test false test = inr (j - count f.of, grind (arith, nat_tests, test))

  source_stays : (j : ℕ) → j < count (Fun f.of f.to) → Stays (source_end f.wide j)
  source_stays j low k at_k = elim (by_size j) [
    | inl small ↦
        (let (d, at_d) = element_at (contacts_of f.of) j small in
        let mine = share_source x f.wide (Fun f.of f.to) j (turned_contact d) is.wide_share (fun_first f.of f.to j d at_d) in
        let same : d ≡ k = sym (turned_contact_twice d) ∙ same_Some (turned_contact (turned_contact d)) k (sym mine ∙ at_k) in
        ap (contact_at u) (is.argument_source j small) ∙ (share_caller u f.argument f.of f.caller is.chosen j d is.argument_share at_d ∙ ap Some same))
    | inr (l, sum) ↦
        (let small : l < count f.to = (let size = sizes in omega (arith, low, sum, size)) in
        let (d, at_d) = element_at (contacts_of f.to) l small in
        let at_j : slice_get (contacts_of (Fun f.of f.to)) j ≡ Some d = ap (slice_get (contacts_of (Fun f.of f.to))) sum ∙ (second_of_fun f.of f.to l ∙ at_d) in
        let mine = share_source x f.wide (Fun f.of f.to) j d is.wide_share at_j in
        let same : turned_contact d ≡ k = same_Some (turned_contact d) k (sym mine ∙ at_k) in
        ap (λ (n : ℕ). contact_at u (f.end (source_end f.wide n))) sum
        ∙ (ap (contact_at u) (is.outcome_source l small) ∙ (share_source u f.outcome f.to l d is.outcome_share at_d ∙ ap Some same)))
  ]

  caller_stays : (j : ℕ) → j < count (Fun f.of f.to) → Stays (caller_end f.wide (Fun f.of f.to) f.caller j)
  caller_stays j low k at_k = elim (by_size j) [
    | inl small ↦
        (let (d, at_d) = element_at (contacts_of f.of) j small in
        let mine = share_caller x f.wide (Fun f.of f.to) f.caller is.chosen j (turned_contact d) is.wide_share (fun_first f.of f.to j d at_d) in
        let same : turned_contact d ≡ k = same_Some (turned_contact d) k (sym mine ∙ at_k) in
        ap (contact_at u) (is.argument_caller j small) ∙ (share_source u f.argument f.of j d is.argument_share at_d ∙ ap Some same))
    | inr (l, sum) ↦
        (let small : l < count f.to = (let size = sizes in omega (arith, low, sum, size)) in
        let (d, at_d) = element_at (contacts_of f.to) l small in
        let at_j : slice_get (contacts_of (Fun f.of f.to)) j ≡ Some d = ap (slice_get (contacts_of (Fun f.of f.to))) sum ∙ (second_of_fun f.of f.to l ∙ at_d) in
        let mine = share_caller x f.wide (Fun f.of f.to) f.caller is.chosen j d is.wide_share at_j in
        let same : d ≡ k = same_Some d k (sym mine ∙ at_k) in
        ap (λ (n : ℕ). contact_at u (f.end (caller_end f.wide (Fun f.of f.to) f.caller n))) sum
        ∙ (ap (contact_at u) (is.outcome_caller l small) ∙ (share_caller u f.outcome f.to f.caller is.chosen l d is.outcome_share at_d ∙ ap Some same)))
  ]

  pub contact_moved : (e : End) → IsUsed f e → Stays e
  contact_moved (ImportEnd n h) own k at_k =
      ap (contact_at u) (is.ports (ImportEnd n h) tt) ∙ (ap (λ js. slice_get (contacts_of_import (slice_get js n)) h) is.imports ∙ at_k)
  contact_moved (ResultEnd h) own k at_k = ap (contact_at u) (is.ports (ResultEnd h) tt) ∙ (ap (λ y. turned_if (slice_get (contacts_of y) h)) is.outcome ∙ at_k)
  contact_moved (PartEnd n h) (inl own) k at_k =
      ap (contact_at u) (is.ends n h own) ∙ (ap (λ y. slice_get (contacts_of_part y) h) (is.parts n own).0 ∙ at_k)
  contact_moved (PartEnd n h) (inr (same, inl low)) k at_k =
      ap (λ (m : ℕ). contact_at u (f.end (PartEnd m h))) same ∙ source_stays h low k (ap (λ (m : ℕ). contact_at x (PartEnd m h)) (sym same) ∙ at_k)
  contact_moved (PartEnd n h) (inr (same, inr (j, low, e))) k at_k =
      (λ l. contact_at u (f.end (PartEnd (same l) (e l)))) ∙ caller_stays j low k ((λ l. contact_at x (PartEnd (sym same l) (sym e l))) ∙ at_k)

  -- a part's end is one of a part
  abbrev Lands : ℕ → ℕ → Type 0
  Lands n h = (m : ℕ) × (g : ℕ) × (f.end (PartEnd n h) ≡ PartEnd m g) × (m < length u.parts)

  pub argument_low : f.argument < length u.parts
  argument_low = slice_get_within u.parts f.argument (Share f.of) is.argument_share

  pub outcome_low : f.outcome < length u.parts
  outcome_low = slice_get_within u.parts f.outcome (Share f.to) is.outcome_share

  pub wide_low : f.wide < length x.parts
  wide_low = slice_get_within x.parts f.wide (Share (Fun f.of f.to)) is.wide_share

  pub part_low : (n : ℕ) → n ≢ f.wide → n < length x.parts → f.part n < length u.parts
  part_low n own low = let (k, there) = element_at x.parts n low in slice_get_within u.parts (f.part n) k ((is.parts n own).0 ∙ there)

  pub back_low : (m : ℕ) → m ≢ f.argument → m ≢ f.outcome → m < length u.parts → f.part_back m < length x.parts
  back_low m one other low =
      let (k, there) = element_at u.parts m low in
      let (comes, own) = is.others m one other in
      slice_get_within x.parts (f.part_back m) k (sym (is.parts (f.part_back m) own).0 ∙ (ap (slice_get u.parts) comes ∙ there))

  pub source_lands : (j : ℕ) → j < count (Fun f.of f.to) → Lands f.wide j
  source_lands j low = elim (by_size j) [
    | inl small ↦ (f.argument, count f.of + f.caller * count f.of + j, is.argument_source j small, argument_low)
    | inr (l, sum) ↦
        (let small : l < count f.to = (let size = sizes in omega (arith, low, sum, size)) in
        (f.outcome, l, ap (λ (n : ℕ). f.end (source_end f.wide n)) sum ∙ is.outcome_source l small, outcome_low))
  ]

  caller_lands : (j : ℕ) → j < count (Fun f.of f.to) → Lands f.wide (count (Fun f.of f.to) + f.caller * count (Fun f.of f.to) + j)
  caller_lands j low = elim (by_size j) [
    | inl small ↦ (f.argument, j, is.argument_caller j small, argument_low)
    | inr (l, sum) ↦
        (let small : l < count f.to = (let size = sizes in omega (arith, low, sum, size)) in (
          f.outcome,
          count f.to + f.caller * count f.to + l,
          ap (λ (n : ℕ). f.end (caller_end f.wide (Fun f.of f.to) f.caller n)) sum ∙ is.outcome_caller l small,
          outcome_low,
        ))
  ]

  pub lands : (n h : ℕ) → n < length x.parts → IsUsed f (PartEnd n h) → Lands n h
  lands n h low (inl own) = (f.part n, h, is.ends n h own, part_low n own low)
  lands n h low (inr (same, inl small)) = subst (λ (m : ℕ). Lands m h) (sym same) (source_lands h small)
  lands n h low (inr (same, inr (j, small, e))) =
      subst (λ (m : ℕ). Lands m h) (sym same) (subst (λ (g : ℕ). Lands f.wide g) (sym e) (caller_lands j small))

  abbrev pub joined_end : End → End
  joined_end (PartEnd n h) = if nat_lt n (length x.parts) then f.end (PartEnd n h) else PartEnd (n - length x.parts + length u.parts) h
  joined_end (ImportEnd n h) = ImportEnd n h
  joined_end (ResultEnd h) = ResultEnd h

  abbrev pub joined_back : End → End
  joined_back (PartEnd n h) = if nat_lt n (length u.parts) then f.end_back (PartEnd n h) else PartEnd (n - length u.parts + length x.parts) h
  joined_back (ImportEnd n h) = ImportEnd n h
  joined_back (ResultEnd h) = ResultEnd h

  -- the parts of others come later
  abbrev pub joined_split : Splitting
  joined_split =
      record f {
        part = λ n. if nat_lt n (length x.parts) then f.part n else n - length x.parts + length u.parts;
        part_back = λ n. if nat_lt n (length u.parts) then f.part_back n else n - length u.parts + length x.parts;
        end = λ e. joined_end e;
        end_back = λ e. joined_back e;
      }
