-- What is joined to plans with a wide Share and with a narrow one stands so as well.
use Rattle.std.specs.Prelude.{◌≡◌, ◌≢◌, ℕ, zero, suc, ◌-◌, ◌<◌, ◌≤◌, Bool, true, false, List, [], ◌++◌, length, map, Some, slice_get, nat_eq, nat_lt, Contains, if◌then◌else◌}
use Rattle.std.proofs.Common.{refl, sym, ◌∙◌, ap, subst, arith, inl, inr}
use Rattle.std.proofs.lemmas.Bool.Decides.{nat_tests}
use Rattle.std.proofs.lemmas.Option.{slice_get_within, same_Some}
use Rattle.gos_types.specs.Types.{Type'}
use Rattle.gos_types.proofs.ListLemmas.{element_at}
use Rattle.gos_plan.specs.Kinds.{Part, Share, Contact, asks, serves}
use Rattle.gos_plan.specs.Plans.{End, PartEnd, ImportEnd, ResultEnd, Joint, Plan, contact_at, contacts_of_part, contacts_of_import, turned_if}
use Rattle.gos_plan.specs.Tokens.{IsPortEnd}
use Rattle.gos_plan.specs.Joining.{Place, Link, Wiring, all_parts, all_left, left_in, left_among, left_place, part_place, origin, Path, Connects, IsJoining}
use Rattle.gos_plan.proofs.JointLemmas.{fits, contained, which_end}
use Rattle.gos_plan.proofs.ContactLemmas.{part_is_there}
use Rattle.gos_plan.proofs.WiringLemmas.{place_is}
use Rattle.gos_joining.specs.webs.Webs.{joint}
use Rattle.gos_joining.specs.webs.Cutting.{StandsIn}
use Rattle.gos_joining.proofs.webs.CutLemmas.{stands_by}
use Rattle.gos_sharing.specs.function_types.Joined.{wiring, IsPortPlace, AllPortPlaces}
use Rattle.gos_sharing.proofs.function_types.JoinedLemmas.{stands_low, low_origin}
use Rattle.gos_sharing.proofs.function_types.MappedLemmas as mapped
use Rattle.gos_sharing.proofs.function_types.MappedLemmas.{later_port, left_port, first_part, other_part, other_origin, end_at, place_at, IsCarried, path_goes}
use Rattle.gos_sharing.specs.parts_of_types.Narrow.{Narrowing, shake_at, widened, IsNarrow}
use Rattle.gos_sharing.specs.parts_of_types.Joined.{JoinedIsNarrow}
use Rattle.gos_sharing.proofs.parts_of_types.MovedLemmas.{narrowed, end_there, contact_so, not_share}
use Rattle.gos_sharing.proofs.parts_of_types.StepLemmas.{port_stays}

abbrev HasPart : List Part → ℕ → Type 0
HasPart xs n = (k : Part) × (slice_get xs n ≡ Some k)

no_longer : (xs ys : List Part) → ((n : ℕ) → HasPart xs n → HasPart ys n) → length xs ≤ length ys
no_longer xs ys each = by_test (nat_lt (length ys) (length xs)) refl
  where
    by_test : (b : Bool) → nat_lt (length ys) (length xs) ≡ b → length xs ≤ length ys
    by_test false test = grind (arith, nat_tests, test)
    by_test true test =
        let low : length ys < length xs = grind (arith, nat_tests, test) in
        let (k, there) = each (length ys) (element_at xs (length ys) low) in
        let within = slice_get_within ys (length ys) k there in absurd (omega (arith, within))

back_stays : (f : Narrowing) (e : End) → IsPortEnd e → narrowed f e ≡ e
back_stays f (PartEnd n h) port = absurd port
back_stays f (ImportEnd n h) port = refl
back_stays f (ResultEnd h) port = refl

module _ (f : Narrowing) (z u : Plan) (is : IsNarrow f z u) where
  either_part : (n : ℕ) → (o : Bool) → nat_eq n f.share ≡ o → (HasPart z.parts n → HasPart u.parts n) × (HasPart u.parts n → HasPart z.parts n)
  either_part n true test =
      let same : n ≡ f.share = grind (arith, test) in (
        (λ has. (Share f.narrow, ap (slice_get u.parts) same ∙ is.frame.narrow_share)),
        λ has. (Share f.wide, ap (slice_get z.parts) same ∙ is.frame.wide_share),
      )
  either_part n false test =
      let same = is.frame.others n (not_share f z u is.frame n test) in ((λ (k, there). (k, sym same ∙ there)), λ (k, there). (k, same ∙ there))

  pub same_length : length z.parts ≡ length u.parts
  same_length =
      let one = no_longer z.parts u.parts (λ n. (either_part n (nat_eq n f.share) refl).0) in
      let other = no_longer u.parts z.parts (λ n. (either_part n (nat_eq n f.share) refl).1) in omega (arith, one, other)

  pub share_low : f.share < length u.parts
  share_low = slice_get_within u.parts f.share (Share f.narrow) is.frame.narrow_share

module _ (f : Narrowing) (z u : Plan) (is : IsNarrow f z u) (ps : List Plan) (ls : List Link) (giver skipped : ℕ) (ty : Type') (kept : AllPortPlaces ls) (Z U : Plan)
    (of_z : IsJoining (wiring z ps ls giver skipped ty) Z) (of_u : IsJoining (wiring u ps ls giver skipped ty) U)
  where
    abbrev w : Wiring
    w = wiring u ps ls giver skipped ty

    abbrev v : Wiring
    v = wiring z ps ls giver skipped ty

    sizes : length z.parts ≡ length u.parts
    sizes = same_length f z u is

    -- places
    abbrev there : Place → Place
    there = place_at (widened f)

    abbrev here : Place → Place
    here = place_at (narrowed f)

    ends_back : (k : ℕ) (e : End) → end_at (narrowed f) k (end_at (widened f) k e) ≡ e
    ends_back zero e = end_there f z u is.frame e
    ends_back (suc k) e = refl

    place_back : (a : Place) → here (there a) ≡ a
    place_back a = place_is (here (there a)) a refl (ends_back a.plan a.end)

    joint_back : (a b : End) → Contains z.joints (joint a b) → Contains u.joints (joint (narrowed f a) (narrowed f b))
    joint_back a b has =
        let (d, e, here_u, at_d, at_e) = is.all a b has in
        let back_d : d ≡ narrowed f a = sym (end_there f z u is.frame d) ∙ ap (narrowed f) at_d in
        let back_e : e ≡ narrowed f b = sym (end_there f z u is.frame e) ∙ ap (narrowed f) at_e in
        subst (λ (y : Joint). Contains u.joints y) (λ l. joint (back_d l) (back_e l)) here_u

    onto_z : IsCarried (widened f) u z
    onto_z = record { ports = port_stays f; joints = is.joints }

    onto_u : IsCarried (narrowed f) z u
    onto_u = record { ports = back_stays f; joints = joint_back }

    kept_there : (a : Place) → IsPortPlace a → there a ≡ a
    kept_there = mapped.port_stays (widened f) u z onto_z

    -- where the ends stand
    left_same : all_left w ≡ all_left v
    left_same = ap (λ js. left_in ls 0 0 js ++ left_among ls 1 ps) is.frame.imports

    high_end : (n h : ℕ) → length u.parts ≤ n → widened f (PartEnd n h) ≡ PartEnd n h
    high_end n h high = by_test (nat_eq n f.share) refl
      where
        by_test : (b : Bool) → nat_eq n f.share ≡ b → PartEnd n (if b then f.shake h else h) ≡ PartEnd n h
        by_test false test = refl
        by_test true test =
            let same : n ≡ f.share = grind (arith, test) in
            let low = share_low f z u is in absurd (omega (arith, same, low, high))

    goes_part : (n h : ℕ) → there (origin w (PartEnd n h)) ≡ origin v (widened f (PartEnd n h))
    goes_part n h = by_test (nat_lt n (length u.parts)) refl
      where
        by_test : (b : Bool) → nat_lt n (length u.parts) ≡ b → there (origin w (PartEnd n h)) ≡ origin v (widened f (PartEnd n h))
        by_test true test =
            let low : n < length u.parts = grind (arith, nat_tests, test) in
            let size = sizes in
            let low_z : n < length z.parts = omega (arith, low, size) in
            ap there (low_origin u ps ls giver skipped ty U kept of_u n h low) ∙ sym (low_origin z ps ls giver skipped ty Z kept of_z n (shake_at f n h) low_z)
        by_test false test =
            let high : length u.parts ≤ n = grind (arith, nat_tests, test) in
            let size = sizes in
            let high_z : length z.parts ≤ n = omega (arith, high, size) in
            ap there (other_origin u ps ls giver skipped ty n h high)
            ∙ (kept_there (part_place 1 ps (n - length u.parts) h) (later_port 0 ps (n - length u.parts) h)
            ∙ (ap (λ (m : ℕ). part_place 1 ps (n - m) h) (sym sizes)
            ∙ (sym (other_origin z ps ls giver skipped ty n h high_z) ∙ ap (origin v) (sym (high_end n h high)))))

    goes_end : (e : End) → there (origin w e) ≡ origin v (widened f e)
    goes_end (PartEnd n h) = goes_part n h
    goes_end (ImportEnd n h) =
        kept_there (origin w (ImportEnd n h)) (left_port (slice_get (all_left w) n) h) ∙ ap (λ l. left_place (slice_get l n) h) left_same
    goes_end (ResultEnd h) = kept_there (origin w (ResultEnd h)) (λ same. tt)

    comes_end : (e : End) → here (origin v (widened f e)) ≡ origin w e
    comes_end e = ap here (sym (goes_end e)) ∙ place_back (origin w e)

    -- handshakes
    same_high : (n : ℕ) → length u.parts ≤ n → slice_get Z.parts n ≡ slice_get U.parts n
    same_high n high =
        let size = sizes in
        other_part z Z (all_parts ps) of_z.parts n (omega (arith, high, size))
        ∙ (ap (λ (m : ℕ). slice_get (all_parts ps) (n - m)) sizes ∙ sym (other_part u U (all_parts ps) of_u.parts n high))

    low_z : (n : ℕ) → n < length u.parts → slice_get Z.parts n ≡ slice_get z.parts n
    low_z n low = let size = sizes in first_part z Z (all_parts ps) of_z.parts n (omega (arith, low, size))

    low_u : (n : ℕ) → n < length u.parts → slice_get U.parts n ≡ slice_get u.parts n
    low_u = first_part u U (all_parts ps) of_u.parts

    imports_same : U.imports ≡ Z.imports
    imports_same = of_u.imports ∙ (ap (map (λ l. l.import)) left_same ∙ sym of_z.imports)

    outcome_same : U.outcome ≡ Z.outcome
    outcome_same = of_u.outcome ∙ sym of_z.outcome

    contact_there : (e : End) (k : Contact) → contact_at U e ≡ Some k → contact_at Z (widened f e) ≡ Some k
    contact_there (ImportEnd n h) k at_k = ap (λ js. slice_get (contacts_of_import (slice_get js n)) h) (sym imports_same) ∙ at_k
    contact_there (ResultEnd h) k at_k = ap (λ y. turned_if (slice_get (Rattle.gos_plan.specs.Kinds.contacts_of y) h)) (sym outcome_same) ∙ at_k
    contact_there (PartEnd n h) k at_k = by_test (nat_lt n (length u.parts)) refl
      where
        by_test : (b : Bool) → nat_lt n (length u.parts) ≡ b → contact_at Z (widened f (PartEnd n h)) ≡ Some k
        by_test true test =
            let low : n < length u.parts = grind (arith, nat_tests, test) in
            ap (λ y. slice_get (contacts_of_part y) (shake_at f n h)) (low_z n low)
            ∙ contact_so f z u is.frame (PartEnd n h) k (ap (λ y. slice_get (contacts_of_part y) h) (sym (low_u n low)) ∙ at_k)
        by_test false test =
            let high : length u.parts ≤ n = grind (arith, nat_tests, test) in
            ap (contact_at Z) (high_end n h high) ∙ (ap (λ y. slice_get (contacts_of_part y) h) (same_high n high) ∙ at_k)

    -- joints there
    carried : (d e : End) → Contains U.joints (joint d e) → Contains Z.joints (joint (widened f d) (widened f e))
    carried d e has = of_connects ((of_u.joints d e).0 has)
      where
        of_connects : Connects w U d e → Contains Z.joints (joint (widened f d) (widened f e))
        of_connects (q, b, n, at_d, at_e, path) =
            let (m, on) = path_goes (widened f) u z onto_z ps ls giver skipped ty kept n (origin w d) (origin w e) path in
            (of_z.joints (widened f d) (widened f e)).1 (
              q,
              b,
              m,
              contact_there d (asks q b) at_d,
              contact_there e (serves q b) at_e,
              subst (λ (X : Type 0). X) (λ l. Path v m (goes_end d l) (goes_end e l)) on,
            )

    -- and back
    record From (a : End) : Type 0 where
      from : End
      named : widened f from ≡ a
      has : (k : Contact) × (contact_at U from ≡ Some k)

    from_end : (a : End) → StandsIn Z a → (k : Contact) → contact_at Z a ≡ Some k → From a
    from_end (ImportEnd n h) stood k at_k =
        record { from = ImportEnd n h; named = refl; has = (k, ap (λ js. slice_get (contacts_of_import (slice_get js n)) h) imports_same ∙ at_k) }
    from_end (ResultEnd h) stood k at_k =
        record { from = ResultEnd h; named = refl; has = (k, ap (λ y. turned_if (slice_get (Rattle.gos_plan.specs.Kinds.contacts_of y) h)) outcome_same ∙ at_k) }
    from_end (PartEnd m h) stood k at_k = by_test (nat_lt m (length u.parts)) refl
      where
        of_end : (e : End) → widened f e ≡ PartEnd m h → (d : Contact) → contact_at u e ≡ Some d → From (PartEnd m h)
        of_end (ImportEnd n l) named d at_d = absurd (cc named)
        of_end (ResultEnd l) named d at_d = absurd (cc named)
        of_end (PartEnd n l) named d at_d =
            let (part, at_part) = part_is_there (slice_get u.parts n) l d at_d in
            let low = slice_get_within u.parts n part at_part in
            record { from = PartEnd n l; named = named; has = (d, ap (λ y. slice_get (contacts_of_part y) l) (low_u n low) ∙ at_d) }

        of_joint : StandsIn z (PartEnd m h) → From (PartEnd m h)
        of_joint (j, has, stands) =
            let (d, e, here_u, at_d, at_e) = is.all j.asking j.serving has in
            let fit = fits u [] u.joints (joint d e) is.also_right (contained u.joints (joint d e) here_u) in
            elim (which_end (PartEnd m h) j stands) [
              | inl one ↦ of_end d (at_d ∙ sym one) (asks fit.0 fit.1) fit.2
              | inr one ↦ of_end e (at_e ∙ sym one) (serves fit.0 fit.1) fit.3
            ]

        by_test : (b : Bool) → nat_lt m (length u.parts) ≡ b → From (PartEnd m h)
        by_test true test =
            let low : m < length u.parts = grind (arith, nat_tests, test) in
            let size = sizes in of_joint (stands_low z ps ls giver skipped ty Z kept of_z m h (omega (arith, low, size)) stood)
        by_test false test =
            let high : length u.parts ≤ m = grind (arith, nat_tests, test) in
            record { from = PartEnd m h; named = high_end m h high; has = (k, ap (λ y. slice_get (contacts_of_part y) h) (sym (same_high m high)) ∙ at_k) }

    carried_back : (a b : End) → Contains Z.joints (joint a b) → (d : End) × (e : End) × Contains U.joints (joint d e) × (widened f d ≡ a) × (widened f e ≡ b)
    carried_back a b has = of_connects ((of_z.joints a b).0 has)
      where
        of_connects : Connects v Z a b → (d : End) × (e : End) × Contains U.joints (joint d e) × (widened f d ≡ a) × (widened f e ≡ b)
        of_connects (q, c, n, at_a, at_b, path) =
            let one = from_end a (joint a b, has, stands_by a (joint a b) (inl refl)) (asks q c) at_a in
            let other = from_end b (joint a b, has, stands_by b (joint a b) (inr refl)) (serves q c) at_b in
            let (m, on) = path_goes (narrowed f) z u onto_u ps ls giver skipped ty kept n (origin v a) (origin v b) path in
            let from_a : here (origin v a) ≡ origin w one.from = ap (λ (y : End). here (origin v y)) (sym one.named) ∙ comes_end one.from in
            let from_b : here (origin v b) ≡ origin w other.from = ap (λ (y : End). here (origin v y)) (sym other.named) ∙ comes_end other.from in
            let same_a : one.has.0 ≡ asks q c = same_Some one.has.0 (asks q c) (sym (contact_there one.from one.has.0 one.has.1) ∙ (ap (contact_at Z) one.named ∙ at_a)) in
            let same_b : other.has.0 ≡ serves q c = same_Some other.has.0 (serves q c) (sym (contact_there other.from other.has.0 other.has.1) ∙ (ap (contact_at Z) other.named ∙ at_b)) in (
              one.from,
              other.from,
              (of_u.joints one.from other.from).1 (
                q,
                c,
                m,
                one.has.1 ∙ ap Some same_a,
                other.has.1 ∙ ap Some same_b,
                subst (λ (X : Type 0). X) (λ l. Path w m (from_a l) (from_b l)) on,
              ),
              one.named,
              other.named,
            )

    -- the parts
    others_joined : (n : ℕ) → n ≢ f.share → slice_get Z.parts n ≡ slice_get U.parts n
    others_joined n own = by_test (nat_lt n (length u.parts)) refl
      where
        by_test : (b : Bool) → nat_lt n (length u.parts) ≡ b → slice_get Z.parts n ≡ slice_get U.parts n
        by_test true test = let low : n < length u.parts = grind (arith, nat_tests, test) in low_z n low ∙ (is.frame.others n own ∙ sym (low_u n low))
        by_test false test = same_high n (grind (arith, nat_tests, test))

    pub joined_is_narrow : IsNarrow f Z U
    joined_is_narrow =
        record {
          frame =
              record {
                wide_share = low_z f.share (share_low f z u is) ∙ is.frame.wide_share;
                narrow_share = low_u f.share (share_low f z u is) ∙ is.frame.narrow_share;
                others = others_joined;
                imports = imports_same;
                outcome = outcome_same;
                contacts = is.frame.contacts;
                shakes = is.frame.shakes;
                returns = is.frame.returns;
              };
          right = of_z.right;
          also_right = of_u.right;
          joints = carried;
          all = carried_back;
        }

pub joined_narrow_is : JoinedIsNarrow
joined_narrow_is f z u r s ps ls giver skipped t is kept of_z of_u = joined_is_narrow f z u is ps ls giver skipped t kept r s of_z of_u
