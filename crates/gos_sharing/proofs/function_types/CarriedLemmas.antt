-- Of joinings of split plans each joint of the one is one of the other.
use Rattle.std.specs.Prelude.{◌≡◌, ◌≢◌, ℕ, ◌+◌, ◌-◌, ◌*◌, ◌<◌, ◌≤◌, Bool, true, false, List, [], ◌++◌, length, map, Some, slice_get, nat_eq, nat_lt, Contains, if◌then◌else◌}
use Rattle.std.proofs.Common.{refl, sym, ◌∙◌, ap, subst, arith, inl, inr}
use Rattle.std.proofs.lemmas.Bool.Decides.{nat_tests}
use Rattle.std.proofs.lemmas.Option.{slice_get_within, same_Some}
use Rattle.gos_types.specs.Types.{Type', Fun}
use Rattle.gos_plan.specs.Kinds.{Contact, asks, serves}
use Rattle.gos_plan.specs.Plans.{End, PartEnd, ImportEnd, ResultEnd, Joint, Plan, contact_at, contacts_of_part, contacts_of_import, turned_if}
use Rattle.gos_plan.specs.Tokens.{IsPortEnd}
use Rattle.gos_plan.specs.Joining.{Place, place, Link, Wiring, all_parts, all_left, left_in, left_among, left_place, part_place, origin, Path, Connects, IsJoining}
use Rattle.gos_plan.proofs.JointLemmas.{fits, contained, which_end}
use Rattle.gos_plan.proofs.ContactLemmas.{part_is_there}
use Rattle.gos_realises.specs.realises.Regular.{count}
use Rattle.gos_joining.specs.webs.Webs.{joint}
use Rattle.gos_joining.specs.webs.Cutting.{StandsIn}
use Rattle.gos_joining.proofs.webs.CutLemmas.{stands_by}
use Rattle.gos_sharing.specs.function_types.Joined.{wiring, IsPortPlace, AllPortPlaces, JoinedIsSplit}
use Rattle.gos_sharing.specs.function_types.Split.{Splitting, IsUsed, IsSplit}
use Rattle.gos_sharing.proofs.function_types.MappedLemmas.{later_port, left_port, first_part, other_part, other_origin, place_at, IsCarried, port_stays, path_goes}
use Rattle.gos_sharing.proofs.function_types.JoinedLemmas.{stands_low, low_origin, contact_moved, lands, part_low, back_low, argument_low, outcome_low, wide_low, joined_end, joined_back, joined_split}

module _ (f : Splitting) (x u : Plan) (is : IsSplit f x u) (ps : List Plan) (ls : List Link) (giver skipped : ℕ) (ty : Type') (kept : AllPortPlaces ls) (X U : Plan)
    (of_x : IsJoining (wiring x ps ls giver skipped ty) X) (of_u : IsJoining (wiring u ps ls giver skipped ty) U)
  where
    abbrev w : Wiring
    w = wiring x ps ls giver skipped ty

    abbrev v : Wiring
    v = wiring u ps ls giver skipped ty

    abbrev g : Splitting
    g = joined_split f x u is

    -- places
    abbrev there : Place → Place
    there = place_at f.end

    abbrev here : Place → Place
    here = place_at f.end_back

    port_used : (e : End) → IsPortEnd e → IsUsed f e
    port_used (PartEnd n h) port = absurd port
    port_used (ImportEnd n h) port = tt
    port_used (ResultEnd h) port = tt

    port_back : (e : End) → IsPortEnd e → f.end_back e ≡ e
    port_back e port = ap f.end_back (sym (is.ports e port)) ∙ is.returns e (port_used e port)

    joint_back : (a b : End) → Contains u.joints (joint a b) → Contains x.joints (joint (f.end_back a) (f.end_back b))
    joint_back a b has =
        let (d, e, here_x, at_d, at_e) = is.all a b has in
        let used_d = is.used d (joint d e, here_x, stands_by d (joint d e) (inl refl)) in
        let used_e = is.used e (joint d e, here_x, stands_by e (joint d e) (inr refl)) in
        let back_d : d ≡ f.end_back a = sym (is.returns d used_d) ∙ ap f.end_back at_d in
        let back_e : e ≡ f.end_back b = sym (is.returns e used_e) ∙ ap f.end_back at_e in
        subst (λ (y : Joint). Contains x.joints y) (λ l. joint (back_d l) (back_e l)) here_x

    onto_u : IsCarried f.end x u
    onto_u = record { ports = is.ports; joints = is.joints }

    onto_x : IsCarried f.end_back u x
    onto_x = record { ports = port_back; joints = joint_back }

    kept_there : (a : Place) → IsPortPlace a → there a ≡ a
    kept_there = port_stays f.end x u onto_u

    kept_here : (a : Place) → IsPortPlace a → here a ≡ a
    kept_here = port_stays f.end_back u x onto_x

    -- where the ends stand
    left_same : all_left v ≡ all_left w
    left_same = ap (λ js. left_in ls 0 0 js ++ left_among ls 1 ps) is.imports

    abbrev Goes : End → Type 0
    Goes e = (there (origin w e) ≡ origin v (joined_end f x u is e)) × (here (origin v (joined_end f x u is e)) ≡ origin w e)

    low_end : (n h : ℕ) → n < length x.parts → joined_end f x u is (PartEnd n h) ≡ f.end (PartEnd n h)
    low_end n h low =
        let test : nat_lt n (length x.parts) ≡ true = grind (arith, nat_tests, low) in
        ap (λ (b : Bool). if b then f.end (PartEnd n h) else PartEnd (n - length x.parts + length u.parts) h) test

    high_end : (n h : ℕ) → length x.parts ≤ n → joined_end f x u is (PartEnd n h) ≡ PartEnd (n - length x.parts + length u.parts) h
    high_end n h high =
        let test : nat_lt n (length x.parts) ≡ false = grind (arith, nat_tests, high) in
        ap (λ (b : Bool). if b then f.end (PartEnd n h) else PartEnd (n - length x.parts + length u.parts) h) test

    goes_part : (n h : ℕ) → IsUsed f (PartEnd n h) → Goes (PartEnd n h)
    goes_part n h own = by_test (nat_lt n (length x.parts)) refl
      where
        by_test : (b : Bool) → nat_lt n (length x.parts) ≡ b → Goes (PartEnd n h)
        by_test true test =
            let low : n < length x.parts = grind (arith, nat_tests, test) in
            let (m, k, at_m, small) = lands f x u is n h low own in
            let first = low_origin x ps ls giver skipped ty X kept of_x n h low in
            let onto : origin v (joined_end f x u is (PartEnd n h)) ≡ place 0 (f.end (PartEnd n h)) =
            ap (origin v) (low_end n h low ∙ at_m) ∙ (low_origin u ps ls giver skipped ty U kept of_u m k small ∙ ap (place 0) (sym at_m))
            in
            (ap there first ∙ sym onto, ap here onto ∙ (ap (place 0) (is.returns (PartEnd n h) own) ∙ sym first))
        by_test false test =
            let high : length x.parts ≤ n = grind (arith, nat_tests, test) in
            let first = other_origin x ps ls giver skipped ty n h high in
            let sum : n - length x.parts + length u.parts - length u.parts ≡ n - length x.parts = omega arith in
            let onto : origin v (joined_end f x u is (PartEnd n h)) ≡ part_place 1 ps (n - length x.parts) h =
            ap (origin v) (high_end n h high)
            ∙ (other_origin u ps ls giver skipped ty (n - length x.parts + length u.parts) h (omega arith) ∙ ap (λ (m : ℕ). part_place 1 ps m h) sum)
            in (
              ap there first ∙ (kept_there (part_place 1 ps (n - length x.parts) h) (later_port 0 ps (n - length x.parts) h) ∙ sym onto),
              ap here onto ∙ (kept_here (part_place 1 ps (n - length x.parts) h) (later_port 0 ps (n - length x.parts) h) ∙ sym first),
            )

    goes_end : (e : End) → IsUsed f e → Goes e
    goes_end (PartEnd n h) own = goes_part n h own
    goes_end (ImportEnd n h) own =
        let same : origin v (ImportEnd n h) ≡ origin w (ImportEnd n h) = ap (λ l. left_place (slice_get l n) h) left_same in
        let port = left_port (slice_get (all_left w) n) h in
        (kept_there (origin w (ImportEnd n h)) port ∙ sym same, ap here same ∙ kept_here (origin w (ImportEnd n h)) port)
    goes_end (ResultEnd h) own = (kept_there (origin w (ResultEnd h)) (λ same. tt), kept_here (origin w (ResultEnd h)) (λ same. tt))

    -- handshakes
    low_x : (n : ℕ) → n < length x.parts → slice_get X.parts n ≡ slice_get x.parts n
    low_x = first_part x X (all_parts ps) of_x.parts

    low_u : (n : ℕ) → n < length u.parts → slice_get U.parts n ≡ slice_get u.parts n
    low_u = first_part u U (all_parts ps) of_u.parts

    high_x : (n : ℕ) → length x.parts ≤ n → slice_get X.parts n ≡ slice_get (all_parts ps) (n - length x.parts)
    high_x = other_part x X (all_parts ps) of_x.parts

    high_u : (n : ℕ) → length u.parts ≤ n → slice_get U.parts n ≡ slice_get (all_parts ps) (n - length u.parts)
    high_u = other_part u U (all_parts ps) of_u.parts

    imports_same : U.imports ≡ X.imports
    imports_same = of_u.imports ∙ (ap (map (λ l. l.import)) left_same ∙ sym of_x.imports)

    outcome_same : U.outcome ≡ X.outcome
    outcome_same = of_u.outcome ∙ sym of_x.outcome

    contact_there : (e : End) → IsUsed f e → (k : Contact) → contact_at X e ≡ Some k → contact_at U (joined_end f x u is e) ≡ Some k
    contact_there (ImportEnd n h) own k at_k = ap (λ js. slice_get (contacts_of_import (slice_get js n)) h) imports_same ∙ at_k
    contact_there (ResultEnd h) own k at_k = ap (λ y. turned_if (slice_get (Rattle.gos_plan.specs.Kinds.contacts_of y) h)) outcome_same ∙ at_k
    contact_there (PartEnd n h) own k at_k = by_test (nat_lt n (length x.parts)) refl
      where
        by_test : (b : Bool) → nat_lt n (length x.parts) ≡ b → contact_at U (joined_end f x u is (PartEnd n h)) ≡ Some k
        by_test true test =
            let low : n < length x.parts = grind (arith, nat_tests, test) in
            let (m, l, at_m, small) = lands f x u is n h low own in
            let mine : contact_at x (PartEnd n h) ≡ Some k = ap (λ y. slice_get (contacts_of_part y) h) (sym (low_x n low)) ∙ at_k in
            let onto : contact_at u (PartEnd m l) ≡ Some k = ap (contact_at u) (sym at_m) ∙ contact_moved f x u is (PartEnd n h) own k mine in
            ap (contact_at U) (low_end n h low ∙ at_m) ∙ (ap (λ y. slice_get (contacts_of_part y) l) (low_u m small) ∙ onto)
        by_test false test =
            let high : length x.parts ≤ n = grind (arith, nat_tests, test) in
            let sum : n - length x.parts + length u.parts - length u.parts ≡ n - length x.parts = omega arith in
            ap (contact_at U) (high_end n h high)
            ∙ (ap (λ y. slice_get (contacts_of_part y) h) (high_u (n - length x.parts + length u.parts) (omega arith) ∙ (ap (slice_get (all_parts ps)) sum ∙ sym (high_x n high))) ∙ at_k)

    -- what stands in a joint is used
    used_x : (e : End) → StandsIn X e → IsUsed f e
    used_x (ImportEnd n h) stood = tt
    used_x (ResultEnd h) stood = tt
    used_x (PartEnd n h) stood = by_number (nat_eq n f.wide) refl
      where
        by_number : (b : Bool) → nat_eq n f.wide ≡ b → IsUsed f (PartEnd n h)
        by_number true test =
            let same : n ≡ f.wide = grind (arith, test) in
            let wide = wide_low f x u is in
            let low : n < length x.parts = omega (arith, wide, same) in is.used (PartEnd n h) (stands_low x ps ls giver skipped ty X kept of_x n h low stood)
        by_number false test = inl (λ e. let t : nat_eq n f.wide ≡ true = grind (arith, e) in let clash : true ≡ false = sym t ∙ test in cc clash)

    -- joints there
    carried : (d e : End) → Contains X.joints (joint d e) → Contains U.joints (joint (joined_end f x u is d) (joined_end f x u is e))
    carried d e has = of_connects ((of_x.joints d e).0 has)
      where
        used_d : IsUsed f d
        used_d = used_x d (joint d e, has, stands_by d (joint d e) (inl refl))

        used_e : IsUsed f e
        used_e = used_x e (joint d e, has, stands_by e (joint d e) (inr refl))

        of_connects : Connects w X d e → Contains U.joints (joint (joined_end f x u is d) (joined_end f x u is e))
        of_connects (q, b, n, at_d, at_e, path) =
            let (m, on) = path_goes f.end x u onto_u ps ls giver skipped ty kept n (origin w d) (origin w e) path in
            (of_u.joints (joined_end f x u is d) (joined_end f x u is e)).1 (
              q,
              b,
              m,
              contact_there d used_d (asks q b) at_d,
              contact_there e used_e (serves q b) at_e,
              subst (λ (y : Place). Path v m y (origin v (joined_end f x u is e))) (goes_end d used_d).0 (subst (λ (z : Place). Path v m (there (origin w d)) z) (goes_end e used_e).0 on),
            )

    -- and back
    record From (a : End) : Type 0 where
      from : End
      is_used : IsUsed f from
      named : joined_end f x u is from ≡ a
      has : (k : Contact) × (contact_at X from ≡ Some k)

    from_end : (a : End) → StandsIn U a → (k : Contact) → contact_at U a ≡ Some k → From a
    from_end (ImportEnd n h) stood k at_k =
        record { from = ImportEnd n h; is_used = tt; named = refl; has = (k, ap (λ js. slice_get (contacts_of_import (slice_get js n)) h) (sym imports_same) ∙ at_k) }
    from_end (ResultEnd h) stood k at_k =
        record { from = ResultEnd h; is_used = tt; named = refl; has = (k, ap (λ y. turned_if (slice_get (Rattle.gos_plan.specs.Kinds.contacts_of y) h)) (sym outcome_same) ∙ at_k) }
    from_end (PartEnd m h) stood k at_k = by_test (nat_lt m (length u.parts)) refl
      where
        of_end : (e : End) → StandsIn x e → f.end e ≡ PartEnd m h → (d : Contact) → contact_at x e ≡ Some d → From (PartEnd m h)
        of_end (ImportEnd n l) stood_x named d at_d = let clash : ImportEnd n l ≡ PartEnd m h = sym (is.ports (ImportEnd n l) tt) ∙ named in absurd (cc clash)
        of_end (ResultEnd l) stood_x named d at_d = let clash : ResultEnd l ≡ PartEnd m h = sym (is.ports (ResultEnd l) tt) ∙ named in absurd (cc clash)
        of_end (PartEnd n l) stood_x named d at_d =
            let (part, at_part) = part_is_there (slice_get x.parts n) l d at_d in
            let low = slice_get_within x.parts n part at_part in
            record {
              from = PartEnd n l;
              is_used = is.used (PartEnd n l) stood_x;
              named = low_end n l low ∙ named;
              has = (d, ap (λ y. slice_get (contacts_of_part y) l) (low_x n low) ∙ at_d);
            }

        of_joint : StandsIn u (PartEnd m h) → From (PartEnd m h)
        of_joint (j, has, stands) =
            let (d, e, here_x, at_d, at_e) = is.all j.asking j.serving has in
            let fit = fits x [] x.joints (joint d e) is.right (contained x.joints (joint d e) here_x) in
            elim (which_end (PartEnd m h) j stands) [
              | inl one ↦ of_end d (joint d e, here_x, stands_by d (joint d e) (inl refl)) (at_d ∙ sym one) (asks fit.0 fit.1) fit.2
              | inr one ↦ of_end e (joint d e, here_x, stands_by e (joint d e) (inr refl)) (at_e ∙ sym one) (serves fit.0 fit.1) fit.3
            ]

        by_test : (b : Bool) → nat_lt m (length u.parts) ≡ b → From (PartEnd m h)
        by_test true test =
            let low : m < length u.parts = grind (arith, nat_tests, test) in of_joint (stands_low u ps ls giver skipped ty U kept of_u m h low stood)
        by_test false test =
            let high : length u.parts ≤ m = grind (arith, nat_tests, test) in
            let wide = wide_low f x u is in
            let back : m - length u.parts + length x.parts - length x.parts + length u.parts ≡ m = omega (arith, high) in
            let less : m - length u.parts + length x.parts - length x.parts ≡ m - length u.parts = omega arith in
            record {
              from = PartEnd (m - length u.parts + length x.parts) h;
              is_used = inl (λ e. omega (arith, e, wide));
              named = high_end (m - length u.parts + length x.parts) h (omega arith) ∙ ap (λ (n : ℕ). PartEnd n h) back;
              has = (
                k,
                ap (λ y. slice_get (contacts_of_part y) h) (high_x (m - length u.parts + length x.parts) (omega arith) ∙ (ap (slice_get (all_parts ps)) less ∙ sym (high_u m high))) ∙ at_k,
              );
            }

    carried_back : (a b : End) → Contains U.joints (joint a b) → (d : End) × (e : End) × Contains X.joints (joint d e) × (joined_end f x u is d ≡ a) × (joined_end f x u is e ≡ b)
    carried_back a b has = of_connects ((of_u.joints a b).0 has)
      where
        of_connects : Connects v U a b → (d : End) × (e : End) × Contains X.joints (joint d e) × (joined_end f x u is d ≡ a) × (joined_end f x u is e ≡ b)
        of_connects (q, c, n, at_a, at_b, path) =
            let one = from_end a (joint a b, has, stands_by a (joint a b) (inl refl)) (asks q c) at_a in
            let other = from_end b (joint a b, has, stands_by b (joint a b) (inr refl)) (serves q c) at_b in
            let (m, on) = path_goes f.end_back u x onto_x ps ls giver skipped ty kept n (origin v a) (origin v b) path in
            let from_a : here (origin v a) ≡ origin w one.from = ap (λ (y : End). here (origin v y)) (sym one.named) ∙ (goes_end one.from one.is_used).1 in
            let from_b : here (origin v b) ≡ origin w other.from = ap (λ (y : End). here (origin v y)) (sym other.named) ∙ (goes_end other.from other.is_used).1 in
            let same_a : one.has.0 ≡ asks q c = same_Some one.has.0 (asks q c) (sym (contact_there one.from one.is_used one.has.0 one.has.1) ∙ (ap (contact_at U) one.named ∙ at_a)) in
            let same_b : other.has.0 ≡ serves q c = same_Some other.has.0 (serves q c) (sym (contact_there other.from other.is_used other.has.0 other.has.1) ∙ (ap (contact_at U) other.named ∙ at_b)) in (
              one.from,
              other.from,
              (of_x.joints one.from other.from).1 (
                q,
                c,
                m,
                one.has.1 ∙ ap Some same_a,
                other.has.1 ∙ ap Some same_b,
                subst (λ (y : Place). Path w m y (origin w other.from)) from_a (subst (λ (z : Place). Path w m (here (origin v a)) z) from_b on),
              ),
              one.named,
              other.named,
            )

    -- the parts
    wide : f.wide < length x.parts
    wide = wide_low f x u is

    parts_joined : (n : ℕ) → n ≢ f.wide
        → (slice_get U.parts (g.part n) ≡ slice_get X.parts n) × (g.part_back (g.part n) ≡ n) × (g.part n ≢ f.argument) × (g.part n ≢ f.outcome)
    parts_joined n own = by_test (nat_lt n (length x.parts)) refl
      where
        info : (slice_get u.parts (f.part n) ≡ slice_get x.parts n) × (f.part_back (f.part n) ≡ n) × (f.part n ≢ f.argument) × (f.part n ≢ f.outcome)
        info = is.parts n own

        abbrev_so : Bool → Type 0
        abbrev_so b =
            (slice_get U.parts (if b then f.part n else n - length x.parts + length u.parts) ≡ slice_get X.parts n)
            × (g.part_back (if b then f.part n else n - length x.parts + length u.parts) ≡ n)
            × ((if b then f.part n else n - length x.parts + length u.parts) ≢ f.argument) × ((if b then f.part n else n - length x.parts + length u.parts) ≢ f.outcome)

        by_test : (b : Bool) → nat_lt n (length x.parts) ≡ b → abbrev_so b
        by_test true test =
            let low : n < length x.parts = grind (arith, nat_tests, test) in
            let small = part_low f x u is n own low in
            let back_test : nat_lt (f.part n) (length u.parts) ≡ true = grind (arith, nat_tests, small) in (
              low_u (f.part n) small ∙ (info.0 ∙ sym (low_x n low)),
              ap (λ (b : Bool). if b then f.part_back (f.part n) else f.part n - length u.parts + length x.parts) back_test ∙ info.1,
              info.2,
              info.3,
            )
        by_test false test =
            let high : length x.parts ≤ n = grind (arith, nat_tests, test) in
            let m : ℕ = n - length x.parts + length u.parts in
            let less : n - length x.parts + length u.parts - length u.parts ≡ n - length x.parts = omega arith in
            let back : n - length x.parts + length u.parts - length u.parts + length x.parts ≡ n = omega (arith, high) in
            let back_test : nat_lt (n - length x.parts + length u.parts) (length u.parts) ≡ false = grind (arith, nat_tests) in
            let a = argument_low f x u is in
            let b = outcome_low f x u is in (
              high_u (n - length x.parts + length u.parts) (omega arith) ∙ (ap (slice_get (all_parts ps)) less ∙ sym (high_x n high)),
              ap (λ (b : Bool). if b then f.part_back (n - length x.parts + length u.parts) else n - length x.parts + length u.parts - length u.parts + length x.parts) back_test ∙ back,
              (λ e. omega (arith, e, a)),
              λ e. omega (arith, e, b),
            )

    others_joined : (n : ℕ) → n ≢ f.argument → n ≢ f.outcome → (g.part (g.part_back n) ≡ n) × (g.part_back n ≢ f.wide)
    others_joined n one other = by_test (nat_lt n (length u.parts)) refl
      where
        so : Bool → Type 0
        so b =
            (g.part (if b then f.part_back n else n - length u.parts + length x.parts) ≡ n) × ((if b then f.part_back n else n - length u.parts + length x.parts) ≢ f.wide)

        by_test : (b : Bool) → nat_lt n (length u.parts) ≡ b → so b
        by_test true test =
            let low : n < length u.parts = grind (arith, nat_tests, test) in
            let small = back_low f x u is n one other low in
            let back_test : nat_lt (f.part_back n) (length x.parts) ≡ true = grind (arith, nat_tests, small) in
            let info = is.others n one other in
            (ap (λ (b : Bool). if b then f.part (f.part_back n) else f.part_back n - length x.parts + length u.parts) back_test ∙ info.0, info.1)
        by_test false test =
            let high : length u.parts ≤ n = grind (arith, nat_tests, test) in
            let back : n - length u.parts + length x.parts - length x.parts + length u.parts ≡ n = omega (arith, high) in
            let back_test : nat_lt (n - length u.parts + length x.parts) (length x.parts) ≡ false = grind (arith, nat_tests) in
            let w_low = wide in (
              ap (λ (b : Bool). if b then f.part (n - length u.parts + length x.parts) else n - length u.parts + length x.parts - length x.parts + length u.parts) back_test ∙ back,
              λ e. omega (arith, e, w_low),
            )

    returns_joined : (e : End) → IsUsed f e → joined_back f x u is (joined_end f x u is e) ≡ e
    returns_joined (ImportEnd n h) own = refl
    returns_joined (ResultEnd h) own = refl
    returns_joined (PartEnd n h) own = by_test (nat_lt n (length x.parts)) refl
      where
        by_test : (b : Bool) → nat_lt n (length x.parts) ≡ b → joined_back f x u is (joined_end f x u is (PartEnd n h)) ≡ PartEnd n h
        by_test true test =
            let low : n < length x.parts = grind (arith, nat_tests, test) in
            let (m, l, at_m, small) = lands f x u is n h low own in
            let back_test : nat_lt m (length u.parts) ≡ true = grind (arith, nat_tests, small) in
            ap (joined_back f x u is) (low_end n h low ∙ at_m)
            ∙ (ap (λ (b : Bool). if b then f.end_back (PartEnd m l) else PartEnd (m - length u.parts + length x.parts) l) back_test
            ∙ (ap f.end_back (sym at_m) ∙ is.returns (PartEnd n h) own))
        by_test false test =
            let high : length x.parts ≤ n = grind (arith, nat_tests, test) in
            let back : n - length x.parts + length u.parts - length u.parts + length x.parts ≡ n = omega (arith, high) in
            let back_test : nat_lt (n - length x.parts + length u.parts) (length u.parts) ≡ false = grind (arith, nat_tests) in
            ap (joined_back f x u is) (high_end n h high)
            ∙ (ap (λ (b : Bool). if b then f.end_back (PartEnd (n - length x.parts + length u.parts) h) else PartEnd (n - length x.parts + length u.parts - length u.parts + length x.parts) h) back_test
            ∙ ap (λ (m : ℕ). PartEnd m h) back)

    part_end : (n h : ℕ) → n ≢ f.wide → joined_end f x u is (PartEnd n h) ≡ PartEnd (g.part n) h
    part_end n h own = by_test (nat_lt n (length x.parts)) refl
      where
        by_test : (b : Bool) → nat_lt n (length x.parts) ≡ b
            → (if b then f.end (PartEnd n h) else PartEnd (n - length x.parts + length u.parts) h) ≡ PartEnd (if b then f.part n else n - length x.parts + length u.parts) h
        by_test true test = is.ends n h own
        by_test false test = refl

    pub joined_is_split : IsSplit (joined_split f x u is) X U
    joined_is_split =
        record {
          chosen = is.chosen;
          wide_share = low_x f.wide wide ∙ is.wide_share;
          argument_share = low_u f.argument (argument_low f x u is) ∙ is.argument_share;
          outcome_share = low_u f.outcome (outcome_low f x u is) ∙ is.outcome_share;
          apart = is.apart;
          right = of_x.right;
          also_right = of_u.right;
          imports = imports_same;
          outcome = outcome_same;
          parts = parts_joined;
          others = others_joined;
          ports = port_joined;
          ends = part_end;
          argument_source = λ j low. low_end f.wide j wide ∙ is.argument_source j low;
          argument_caller = λ j low. low_end f.wide (count (Fun f.of f.to) + f.caller * count (Fun f.of f.to) + j) wide ∙ is.argument_caller j low;
          outcome_source = λ j low. low_end f.wide (count f.of + j) wide ∙ is.outcome_source j low;
          outcome_caller = λ j low. low_end f.wide (count (Fun f.of f.to) + f.caller * count (Fun f.of f.to) + (count f.of + j)) wide ∙ is.outcome_caller j low;
          used = used_x;
          returns = returns_joined;
          joints = carried;
          all = carried_back;
        }
      where
        port_joined : (e : End) → IsPortEnd e → joined_end f x u is e ≡ e
        port_joined (PartEnd n h) port = absurd port
        port_joined (ImportEnd n h) port = refl
        port_joined (ResultEnd h) port = refl

pub joined_split_is : JoinedIsSplit
joined_split_is f x u r s ps ls giver skipped t is kept of_x of_u =
    (joined_split f x u is, joined_is_split f x u is ps ls giver skipped t kept r s of_x of_u, refl, refl, refl, refl)
