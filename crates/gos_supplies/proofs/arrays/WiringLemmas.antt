-- The wirings by which a variable is read and written, with the name of an array and the plan of its index for the variable's plan.
use Rattle.std.specs.Prelude.{◌≡◌, ◌⊎◌, ℕ, zero, suc, ◌+◌, ◌-◌, ◌<◌, Bool, true, false, ◌||◌, List, [], ◌∷◌, ◌++◌, length, map, Option, Some, Contains, slice_get, nat_lt, nat_eq, if◌then◌else◌}
use Rattle.std.proofs.Common.{refl, sym, ◌∙◌, ap, subst, arith, inl, inr}
use Rattle.std.proofs.lemmas.Bool.Decides.{nat_tests}
use Rattle.std.proofs.lemmas.Option.{same_Some}
use Rattle.gos_types.specs.declared.shakes.Role.TheVariants.{Serve, Ask}
use Rattle.gos_types.proofs.RoleLemmas.{ask_is_not_serve}
use Rattle.gos_types.proofs.BoolLemmas.{and_false}
use Rattle.gos_types.specs.Types.{Com, Exp, Var, Fun}
use Rattle.gos_model.specs.Terms.{Name}
use Rattle.gos_model.specs.Typing.{Imported}
use Rattle.gos_plan.specs.Kinds as kinds
use Rattle.gos_plan.specs.Kinds.{Part, Contact, asks, serves}
use Rattle.gos_plan.specs.Plans.{End, PartEnd, ImportEnd, ResultEnd, Joint, Plan, contact_at, IsRight}
use Rattle.gos_plan.specs.Joining.{Place, place, Link, LeftImport, JoinedWithin, Linked, Path, is_joined, all_left, left_place, part_place, origin, IsJoining}
use Rattle.gos_realises.specs.realises.Wirings.{lone, link, reading, writing, applying}
use Rattle.gos_realises.proofs.joined.ReachLemmas.{Paths}
use Rattle.gos_realises.proofs.realises.LeftLemmas.{left_list, left_all, left_at, imports_left}
use Rattle.gos_joining.specs.webs.Webs.{joint}
use Rattle.gos_supplies.specs.names.Names.{imported}
use Rattle.gos_supplies.specs.arrays.Accesses.{Read, Write}
use Rattle.gos_supplies.specs.arrays.Made.{access_plan}
use Rattle.gos_supplies.specs.arrays.ArrayNames.{array_name}
use Rattle.gos_supplies.proofs.arrays.MadeLemmas.{own_out, IsSplit}
use Rattle.gos_supplies.proofs.arrays.AppliedLemmas.{Class, Code, applied, class_of, joint_class, imports_are, array_class, parts_are, read_joint, write_joint}
use Rattle.gos_supplies.proofs.arrays.SplitLemmas.{IsAccessWiring, wiring_split}

pub roles : Ask ≡ Serve → ⊥
roles e = ask_is_not_serve e

module _ (x : Name) (i w : ℕ) (q s r : Plan) (q_right : IsRight q) (q_type : q.outcome ≡ Exp i)
    (first : IsJoining (applying (Exp i) (Var w) (array_name x i w) q) s) where
  abbrev inner_class : End → Class
  inner_class e = class_of x i w q s q_right q_type first (origin (applied x i w q s q_right q_type first) e)

  abbrev Ends : Joint → End → End → Type 0
  Ends j d e = ((d ≡ j.asking) × (e ≡ j.serving)) ⊎ ((d ≡ j.serving) × (e ≡ j.asking))

  by_ends : (f : End → Class) (j : Joint) (d e : End) → f j.asking ≡ f j.serving → Ends j d e → f d ≡ f e
  by_ends f j d e same (inl (one, other)) = ap f one ∙ (same ∙ sym (ap f other))
  by_ends f j d e same (inr (one, other)) = ap f one ∙ (sym same ∙ sym (ap f other))

  inner_joint : (j : Joint) → Contains s.joints j → inner_class j.asking ≡ inner_class j.serving
  inner_joint j has = joint_class x i w q s q_right q_type first j.asking j.serving has

  parts_length : length s.parts ≡ length q.parts
  parts_length = ap length (parts_are x i w q s q_right q_type first)

  -- a read
  abbrev read_class : ℕ → End → Class
  read_class zero e = inner_class e
  read_class (suc zero) (PartEnd k zero) = Code 0
  read_class (suc zero) (PartEnd k (suc h)) = Code 5
  read_class (suc zero) (ImportEnd k h) = Code 9
  read_class (suc zero) (ResultEnd h) = Code 5
  read_class (suc (suc k)) e = Code 9

  abbrev read_code : End → ℕ
  read_code (PartEnd k zero) = 0
  read_code (PartEnd k (suc h)) = 5
  read_code (ImportEnd j h) = h
  read_code (ResultEnd h) = 5

  read_within : (k l : ℕ) (d e : End) → JoinedWithin (reading w s) (place k d) (place l e) → read_class k d ≡ read_class l e
  read_within zero zero d e (p, j, same, is, has, ends) =
      let that : s ≡ p = cc is in by_ends (read_class 0) j d e (inner_joint j (subst (λ (z : Plan). Contains z.joints j) (sym that) has)) ends
  read_within (suc zero) (suc zero) d e (p, j, same, is, has, ends) =
      let that : lone (kinds.Deref w) 1 (Exp w) ≡ p = cc is in by_ends (read_class 1) j d e (own j (subst (λ (z : Plan). Contains z.joints j) (sym that) has)) ends
    where
      own : (j : Joint) → Contains (lone (kinds.Deref w) 1 (Exp w)).joints j → read_class 1 j.asking ≡ read_class 1 j.serving
      own j (zero, small, at) =
          let one : joint (ResultEnd 0) (PartEnd 0 1) ≡ j = cc at in subst (λ (z : Joint). read_class 1 z.asking ≡ read_class 1 z.serving) one refl
      own j (suc n, small, at) = absurd (omega (arith, small))
  read_within zero (suc l) d e (p, j, same, is, has, ends) = absurd (cc same)
  read_within (suc zero) zero d e (p, j, same, is, has, ends) = absurd (cc same)
  read_within (suc zero) (suc (suc l)) d e (p, j, same, is, has, ends) = absurd (cc same)
  read_within (suc (suc k)) l d e (p, j, same, is, has, ends) = absurd (cc is)

  read_linked : (a b : Place) → Linked (reading w s) a b → read_class a.plan a.end ≡ read_class b.plan b.end
  read_linked a b (l, (zero, small, at), ends) =
      let one : link 0 (ResultEnd 0) 1 (PartEnd 0 0) ≡ l = cc at in
      by_link (subst (λ (z : Link). ((a ≡ z.one) × (b ≡ z.other)) ⊎ ((a ≡ z.other) × (b ≡ z.one))) (sym one) ends)
    where
      by_link : ((a ≡ place 0 (ResultEnd 0)) × (b ≡ place 1 (PartEnd 0 0))) ⊎ ((a ≡ place 1 (PartEnd 0 0)) × (b ≡ place 0 (ResultEnd 0)))
          → read_class a.plan a.end ≡ read_class b.plan b.end
      by_link (inl (one, other)) = ap (λ (z : Place). read_class z.plan z.end) one ∙ sym (ap (λ (z : Place). read_class z.plan z.end) other)
      by_link (inr (one, other)) = ap (λ (z : Place). read_class z.plan z.end) one ∙ sym (ap (λ (z : Place). read_class z.plan z.end) other)
  read_linked a b (l, (suc n, small, at), ends) = absurd (omega (arith, small))

  read_along : (n : ℕ) (a b : Place) → Path (reading w s) n a b → read_class a.plan a.end ≡ read_class b.plan b.end
  read_along zero a b e = ap (λ (z : Place). read_class z.plan z.end) e
  read_along (suc n) a b (c, inl step, path) = read_within a.plan c.plan a.end c.end step ∙ read_along n c b path
  read_along (suc n) a b (c, inr step, path) = read_linked a c step ∙ read_along n c b path

  read_free : (k j : ℕ) → is_joined (link 0 (ResultEnd 0) 1 (PartEnd 0 0) ∷ []) k j ≡ false
  read_free k j = let one = and_false (nat_eq 0 k) in let other = and_false (nat_eq 1 k) in λ z. (one z || other z) || false

  read_left : all_left (reading w s) ≡ left_list 0 0 s.imports ++ []
  read_left = ap (λ (ls : List LeftImport). ls ++ []) (left_all (link 0 (ResultEnd 0) 1 (PartEnd 0 0) ∷ []) 0 (read_free 0) 0 s.imports)

  read_import_origin : (j h : ℕ) (y : Imported) → slice_get s.imports j ≡ Some y → origin (reading w s) (ImportEnd j h) ≡ place 0 (ImportEnd j h)
  read_import_origin j h y at =
      ap (λ (ls : List LeftImport). left_place (slice_get ls j) h) read_left
      ∙ (ap (λ (o : Option LeftImport). left_place o h) (left_at 0 0 s.imports j y at) ∙ (let zeros : 0 + j ≡ j = omega arith in ap (λ (n : ℕ). place 0 (ImportEnd n h)) zeros))

  low_origin : (rest : List Plan) (k h : ℕ) → k < length q.parts → part_place 0 (s ∷ rest) k h ≡ place 0 (PartEnd k h)
  low_origin rest k h low =
      let test : nat_lt k (length s.parts) ≡ true = ap (nat_lt k) parts_length ∙ (let t : nat_lt k (length q.parts) ≡ true = grind (arith, nat_tests, low) in t) in
      ap (λ (b : Bool). if b then place 0 (PartEnd k h) else part_place 1 rest (k - length s.parts) h) test

  high_origin : (rest : List Plan) (k h : ℕ) → part_place 0 (s ∷ rest) (length q.parts + k) h ≡ part_place 1 rest k h
  high_origin rest k h =
      let test : nat_lt (length q.parts + k) (length s.parts) ≡ false =
      ap (nat_lt (length q.parts + k)) parts_length ∙ (let t : nat_lt (length q.parts + k) (length q.parts) ≡ false = grind (arith, nat_tests) in t)
      in
      let same : length q.parts + k - length s.parts ≡ k = ap (λ (n : ℕ). length q.parts + k - n) parts_length ∙ (let e : length q.parts + k - length q.parts ≡ k = omega arith in e) in
      ap (λ (b : Bool). if b then place 0 (PartEnd (length q.parts + k) h) else part_place 1 rest (length q.parts + k - length s.parts) h) test
      ∙ ap (λ (n : ℕ). part_place 1 rest n h) same

  module _ (joining : IsJoining (reading w s) r) where
    abbrev reader : Plan
    reader = access_plan Read x w

    read_own_class : (d : End) (k : Contact) → contact_at reader d ≡ Some k
        → read_class (origin (reading w s) (own_out (length q.parts) d)).plan (origin (reading w s) (own_out (length q.parts) d)).end ≡ Code (read_code d)
    read_own_class (PartEnd zero zero) k at = ap (λ (z : Place). read_class z.plan z.end) (high_origin (lone (kinds.Deref w) 1 (Exp w) ∷ []) 0 0)
    read_own_class (PartEnd zero (suc zero)) k at = ap (λ (z : Place). read_class z.plan z.end) (high_origin (lone (kinds.Deref w) 1 (Exp w) ∷ []) 0 1)
    read_own_class (PartEnd zero (suc (suc h))) k at = absurd (cc at)
    read_own_class (PartEnd (suc m) h) k at = absurd (cc at)
    read_own_class (ImportEnd zero h) k at =
        ap (λ (z : Place). read_class z.plan z.end)
        (read_import_origin 0 (suc h) (imported x (Fun (Exp i) (Var w))) (ap (λ (us : List Imported). slice_get us 0) (imports_are x i w q s q_right q_type first)))
        ∙ array_class x i w q s q_right q_type first h
    read_own_class (ImportEnd (suc j) h) k at = absurd (cc at)
    read_own_class (ResultEnd h) k at = refl

    read_pairs : (d e : End) (b c : Contact) → contact_at reader d ≡ Some b → b.role ≡ Ask → contact_at reader e ≡ Some c → c.role ≡ Serve → read_code d ≡ read_code e
        → Contains reader.joints (joint d e)
    read_pairs (PartEnd zero (suc zero)) e b c at asking also serving same =
        absurd (roles (sym asking ∙ ap (λ (k : Contact). k.role) (sym (same_Some (serves 0 w) b at))))
    read_pairs (PartEnd zero (suc (suc h))) e b c at asking also serving same = absurd (cc at)
    read_pairs (PartEnd (suc m) h) e b c at asking also serving same = absurd (cc at)
    read_pairs (ImportEnd zero zero) e b c at asking also serving same =
        absurd (roles (sym asking ∙ ap (λ (k : Contact). k.role) (sym (same_Some (serves 0 w) b at))))
    read_pairs (ImportEnd zero (suc zero)) e b c at asking also serving same =
        absurd (roles (sym asking ∙ ap (λ (k : Contact). k.role) (sym (same_Some (serves w 0) b at))))
    read_pairs (ImportEnd zero (suc (suc h))) e b c at asking also serving same = absurd (cc at)
    read_pairs (ImportEnd (suc j) h) e b c at asking also serving same = absurd (cc at)
    read_pairs (ResultEnd (suc h)) e b c at asking also serving same = absurd (cc at)
    read_pairs (PartEnd zero zero) (PartEnd zero zero) b c at asking also serving same =
        absurd (roles (ap (λ (k : Contact). k.role) (same_Some (asks 0 w) c also) ∙ serving))
    read_pairs (PartEnd zero zero) (PartEnd zero (suc h)) b c at asking also serving same = absurd (omega (arith, same))
    read_pairs (PartEnd zero zero) (PartEnd (suc m) h) b c at asking also serving same = absurd (cc also)
    read_pairs (PartEnd zero zero) (ImportEnd zero zero) b c at asking also serving same = (1, omega arith, refl)
    read_pairs (PartEnd zero zero) (ImportEnd zero (suc h)) b c at asking also serving same = absurd (omega (arith, same))
    read_pairs (PartEnd zero zero) (ImportEnd (suc j) h) b c at asking also serving same = absurd (cc also)
    read_pairs (PartEnd zero zero) (ResultEnd h) b c at asking also serving same = absurd (omega (arith, same))
    read_pairs (ResultEnd zero) (PartEnd zero zero) b c at asking also serving same = absurd (omega (arith, same))
    read_pairs (ResultEnd zero) (PartEnd zero (suc zero)) b c at asking also serving same = (0, omega arith, refl)
    read_pairs (ResultEnd zero) (PartEnd zero (suc (suc h))) b c at asking also serving same = absurd (cc also)
    read_pairs (ResultEnd zero) (PartEnd (suc m) h) b c at asking also serving same = absurd (cc also)
    read_pairs (ResultEnd zero) (ImportEnd zero zero) b c at asking also serving same = absurd (omega (arith, same))
    read_pairs (ResultEnd zero) (ImportEnd zero (suc zero)) b c at asking also serving same = absurd (omega (arith, same))
    read_pairs (ResultEnd zero) (ImportEnd zero (suc (suc h))) b c at asking also serving same = absurd (cc also)
    read_pairs (ResultEnd zero) (ImportEnd (suc j) h) b c at asking also serving same = absurd (cc also)
    read_pairs (ResultEnd zero) (ResultEnd zero) b c at asking also serving same =
        absurd (roles (ap (λ (k : Contact). k.role) (same_Some (asks 0 w) c also) ∙ serving))
    read_pairs (ResultEnd zero) (ResultEnd (suc h)) b c at asking also serving same = absurd (cc also)

    abbrev ContactsOf : Plan → Joint → Type 0
    ContactsOf p j = (a : ℕ) × (b : ℕ) × (contact_at p j.asking ≡ Some (asks a b)) × (contact_at p j.serving ≡ Some (serves a b))

    read_contacts : (d e : End) → Contains reader.joints (joint d e) → ContactsOf reader (joint d e)
    read_contacts d e (zero, small, at) = let one : joint (ResultEnd 0) (PartEnd 0 1) ≡ joint d e = cc at in subst (ContactsOf reader) one (0, w, refl, refl)
    read_contacts d e (suc zero, small, at) = let one : joint (PartEnd 0 0) (ImportEnd 0 0) ≡ joint d e = cc at in subst (ContactsOf reader) one (0, w, refl, refl)
    read_contacts d e (suc (suc n), small, at) = absurd (omega (arith, small))

    abbrev PathsOf : Joint → Type 0
    PathsOf j = Paths (reading w s) (origin (reading w s) (own_out (length q.parts) j.asking)) (origin (reading w s) (own_out (length q.parts) j.serving))

    read_paths : (d e : End) → Contains reader.joints (joint d e) → PathsOf (joint d e)
    read_paths d e (zero, small, at) =
        let one : joint (ResultEnd 0) (PartEnd 0 1) ≡ joint d e = cc at in
        subst PathsOf one
        (subst (λ (z : Place). Paths (reading w s) (place 1 (ResultEnd 0)) z) (sym (high_origin (lone (kinds.Deref w) 1 (Exp w) ∷ []) 0 1)) (
          1,
          (
            place 1 (PartEnd 0 1),
            inl (lone (kinds.Deref w) 1 (Exp w), joint (ResultEnd 0) (PartEnd 0 1), refl, refl, (0, omega arith, refl), inl (refl, refl)),
            refl,
          ),
        ))
    read_paths d e (suc zero, small, at) =
        let one : joint (PartEnd 0 0) (ImportEnd 0 0) ≡ joint d e = cc at in
        subst PathsOf one
        (subst (λ (z : Place). Paths (reading w s) z (origin (reading w s) (ImportEnd 0 1))) (sym (high_origin (lone (kinds.Deref w) 1 (Exp w) ∷ []) 0 0))
        (subst (λ (z : Place). Paths (reading w s) (place 1 (PartEnd 0 0)) z)
        (sym (read_import_origin 0 1 (imported x (Fun (Exp i) (Var w))) (ap (λ (us : List Imported). slice_get us 0) (imports_are x i w q s q_right q_type first)))) (
          2,
          (
            place 0 (ResultEnd 0),
            inr (link 0 (ResultEnd 0) 1 (PartEnd 0 0), (0, omega arith, refl), inr (refl, refl)),
            (
              place 0 (ImportEnd 0 1),
              inl (s, joint (ResultEnd 0) (ImportEnd 0 1), refl, refl, read_joint x i w q s q_right q_type first, inl (refl, refl)),
              refl,
            ),
          ),
        )))
    read_paths d e (suc (suc n), small, at) = absurd (omega (arith, small))

    read_wiring : IsAccessWiring x i w q s r reader q_right q_type first (reading w s) read_class read_code
    read_wiring =
        record {
          joining = joining;
          variable = refl;
          right = (((0, w, refl, refl), refl, refl), (((0, w, refl, refl), refl, refl), tt));
          plan = refl;
          parts = joining.parts ∙ ap (λ (us : List Part). us ++ kinds.Deref w ∷ []) (parts_are x i w q s q_right q_type first);
          imports = joining.imports ∙ (ap (map (λ (l : LeftImport). l.import)) read_left ∙ imports_left 0 0 s.imports);
          outcome = joining.outcome;
          part_origin = low_origin (lone (kinds.Deref w) 1 (Exp w) ∷ []);
          import_origin = read_import_origin;
          inner = λ e. refl;
          along = read_along;
          own_class = read_own_class;
          own_pairs = read_pairs;
          own_contacts = read_contacts;
          own_paths = read_paths;
        }

    pub read_split : IsSplit i w x r (access_plan Read x w) q
    read_split = wiring_split x i w q s r reader q_right q_type first (reading w s) read_class read_code read_wiring

  -- a write
  abbrev write_class : ℕ → End → Class
  write_class zero e = inner_class e
  write_class (suc zero) (PartEnd m zero) = Code 6
  write_class (suc zero) (PartEnd m (suc zero)) = Code 1
  write_class (suc zero) (PartEnd m (suc (suc h))) = Code 5
  write_class (suc zero) (ImportEnd j h) = Code 9
  write_class (suc zero) (ResultEnd h) = Code 5
  write_class (suc (suc zero)) e = Code 6
  write_class (suc (suc (suc n))) e = Code 9

  abbrev write_code : End → ℕ
  write_code (PartEnd zero zero) = 6
  write_code (PartEnd zero (suc zero)) = 1
  write_code (PartEnd zero (suc (suc h))) = 5
  write_code (PartEnd (suc m) h) = 6
  write_code (ImportEnd j h) = h
  write_code (ResultEnd h) = 5

  module _ (k : ℕ) where
    abbrev assigner : Plan
    assigner = lone (kinds.Assign w) 2 Com

    abbrev number : Plan
    number = lone (kinds.Lit w k) 0 (Exp w)

    abbrev write_links : List Link
    write_links = link 0 (ResultEnd 1) 1 (PartEnd 0 1) ∷ link 1 (PartEnd 0 0) 2 (ResultEnd 0) ∷ []

    write_within : (m l : ℕ) (d e : End) → JoinedWithin (writing w k s) (place m d) (place l e) → write_class m d ≡ write_class l e
    write_within zero zero d e (p, j, same, is, has, ends) =
        let that : s ≡ p = cc is in by_ends (write_class 0) j d e (inner_joint j (subst (λ (z : Plan). Contains z.joints j) (sym that) has)) ends
    write_within (suc zero) (suc zero) d e (p, j, same, is, has, ends) =
        let that : assigner ≡ p = cc is in by_ends (write_class 1) j d e (own j (subst (λ (z : Plan). Contains z.joints j) (sym that) has)) ends
      where
        own : (j : Joint) → Contains assigner.joints j → write_class 1 j.asking ≡ write_class 1 j.serving
        own j (zero, small, at) =
            let one : joint (ResultEnd 0) (PartEnd 0 2) ≡ j = cc at in subst (λ (z : Joint). write_class 1 z.asking ≡ write_class 1 z.serving) one refl
        own j (suc n, small, at) = absurd (omega (arith, small))
    write_within (suc (suc zero)) (suc (suc zero)) d e (p, j, same, is, has, ends) = refl
    write_within zero (suc l) d e (p, j, same, is, has, ends) = absurd (cc same)
    write_within (suc zero) zero d e (p, j, same, is, has, ends) = absurd (cc same)
    write_within (suc zero) (suc (suc l)) d e (p, j, same, is, has, ends) = absurd (cc same)
    write_within (suc (suc zero)) zero d e (p, j, same, is, has, ends) = absurd (cc same)
    write_within (suc (suc zero)) (suc zero) d e (p, j, same, is, has, ends) = absurd (cc same)
    write_within (suc (suc zero)) (suc (suc (suc l))) d e (p, j, same, is, has, ends) = absurd (cc same)
    write_within (suc (suc (suc m))) l d e (p, j, same, is, has, ends) = absurd (cc is)

    abbrev Between : Place → Place → Link → Type 0
    Between a b l = ((a ≡ l.one) × (b ≡ l.other)) ⊎ ((a ≡ l.other) × (b ≡ l.one))

    write_linked : (a b : Place) → Linked (writing w k s) a b → write_class a.plan a.end ≡ write_class b.plan b.end
    write_linked a b (l, has, ends) = by_number l has ends
      where
        by_link : (l : Link) → write_class l.one.plan l.one.end ≡ write_class l.other.plan l.other.end → Between a b l → write_class a.plan a.end ≡ write_class b.plan b.end
        by_link l same (inl (one, other)) = ap (λ (z : Place). write_class z.plan z.end) one ∙ (same ∙ sym (ap (λ (z : Place). write_class z.plan z.end) other))
        by_link l same (inr (one, other)) = ap (λ (z : Place). write_class z.plan z.end) one ∙ (sym same ∙ sym (ap (λ (z : Place). write_class z.plan z.end) other))

        by_number : (l : Link) → Contains write_links l → Between a b l → write_class a.plan a.end ≡ write_class b.plan b.end
        by_number l (zero, small, at) ends =
            let one : link 0 (ResultEnd 1) 1 (PartEnd 0 1) ≡ l = cc at in by_link (link 0 (ResultEnd 1) 1 (PartEnd 0 1)) refl (subst (Between a b) (sym one) ends)
        by_number l (suc zero, small, at) ends =
            let one : link 1 (PartEnd 0 0) 2 (ResultEnd 0) ≡ l = cc at in by_link (link 1 (PartEnd 0 0) 2 (ResultEnd 0)) refl (subst (Between a b) (sym one) ends)
        by_number l (suc (suc n), small, at) ends = absurd (omega (arith, small))

    write_along : (n : ℕ) (a b : Place) → Path (writing w k s) n a b → write_class a.plan a.end ≡ write_class b.plan b.end
    write_along zero a b e = ap (λ (z : Place). write_class z.plan z.end) e
    write_along (suc n) a b (c, inl step, path) = write_within a.plan c.plan a.end c.end step ∙ write_along n c b path
    write_along (suc n) a b (c, inr step, path) = write_linked a c step ∙ write_along n c b path

    write_free : (m j : ℕ) → is_joined write_links m j ≡ false
    write_free m j =
        let one = and_false (nat_eq 0 m) in
        let two = and_false (nat_eq 1 m) in
        let three = and_false (nat_eq 2 m) in
        λ z. (one z || two z) || ((two z || three z) || false)

    write_left : all_left (writing w k s) ≡ left_list 0 0 s.imports ++ []
    write_left = ap (λ (ls : List LeftImport). ls ++ []) (left_all write_links 0 (write_free 0) 0 s.imports)

    write_import_origin : (j h : ℕ) (y : Imported) → slice_get s.imports j ≡ Some y → origin (writing w k s) (ImportEnd j h) ≡ place 0 (ImportEnd j h)
    write_import_origin j h y at =
        ap (λ (ls : List LeftImport). left_place (slice_get ls j) h) write_left
        ∙ (ap (λ (o : Option LeftImport). left_place o h) (left_at 0 0 s.imports j y at) ∙ (let zeros : 0 + j ≡ j = omega arith in ap (λ (n : ℕ). place 0 (ImportEnd n h)) zeros))

    module _ (joining : IsJoining (writing w k s) r) where
      abbrev writer : Plan
      writer = access_plan (Write k) x w

      abbrev OwnClass : End → Type 0
      OwnClass d = write_class (origin (writing w k s) (own_out (length q.parts) d)).plan (origin (writing w k s) (own_out (length q.parts) d)).end ≡ Code (write_code d)

      write_own_class : (d : End) (c : Contact) → contact_at writer d ≡ Some c → OwnClass d
      write_own_class (PartEnd zero zero) c at = ap (λ (z : Place). write_class z.plan z.end) (high_origin (assigner ∷ number ∷ []) 0 0)
      write_own_class (PartEnd zero (suc zero)) c at = ap (λ (z : Place). write_class z.plan z.end) (high_origin (assigner ∷ number ∷ []) 0 1)
      write_own_class (PartEnd zero (suc (suc zero))) c at = ap (λ (z : Place). write_class z.plan z.end) (high_origin (assigner ∷ number ∷ []) 0 2)
      write_own_class (PartEnd zero (suc (suc (suc h)))) c at = absurd (cc at)
      write_own_class (PartEnd (suc zero) zero) c at = ap (λ (z : Place). write_class z.plan z.end) (high_origin (assigner ∷ number ∷ []) 1 0)
      write_own_class (PartEnd (suc zero) (suc h)) c at = absurd (cc at)
      write_own_class (PartEnd (suc (suc m)) h) c at = absurd (cc at)
      write_own_class (ImportEnd zero h) c at =
          ap (λ (z : Place). write_class z.plan z.end)
          (write_import_origin 0 (suc h) (imported x (Fun (Exp i) (Var w))) (ap (λ (us : List Imported). slice_get us 0) (imports_are x i w q s q_right q_type first)))
          ∙ array_class x i w q s q_right q_type first h
      write_own_class (ImportEnd (suc j) h) c at = absurd (cc at)
      write_own_class (ResultEnd h) c at = refl

      abbrev Pairs : End → End → Type 0
      Pairs d e = (b c : Contact) → contact_at writer d ≡ Some b → b.role ≡ Ask → contact_at writer e ≡ Some c → c.role ≡ Serve → write_code d ≡ write_code e
          → Contains writer.joints (joint d e)

      write_pairs : (d e : End) → Pairs d e
      write_pairs (PartEnd zero zero) (PartEnd zero zero) b c at asking also serving same =
          absurd (roles (ap (λ (k : Contact). k.role) (same_Some (asks 0 w) c also) ∙ serving))
      write_pairs (PartEnd zero zero) (PartEnd zero (suc zero)) b c at asking also serving same =
          absurd (roles (ap (λ (k : Contact). k.role) (same_Some (asks w 0) c also) ∙ serving))
      write_pairs (PartEnd zero zero) (PartEnd zero (suc (suc zero))) b c at asking also serving same = absurd (omega (arith, same))
      write_pairs (PartEnd zero zero) (PartEnd zero (suc (suc (suc h)))) b c at asking also serving same = absurd (cc also)
      write_pairs (PartEnd zero zero) (PartEnd (suc zero) zero) b c at asking also serving same = (1, omega arith, refl)
      write_pairs (PartEnd zero zero) (PartEnd (suc zero) (suc h)) b c at asking also serving same = absurd (cc also)
      write_pairs (PartEnd zero zero) (PartEnd (suc (suc m)) h) b c at asking also serving same = absurd (cc also)
      write_pairs (PartEnd zero zero) (ImportEnd zero zero) b c at asking also serving same = absurd (omega (arith, same))
      write_pairs (PartEnd zero zero) (ImportEnd zero (suc zero)) b c at asking also serving same = absurd (omega (arith, same))
      write_pairs (PartEnd zero zero) (ImportEnd zero (suc (suc h))) b c at asking also serving same = absurd (cc also)
      write_pairs (PartEnd zero zero) (ImportEnd (suc j) h) b c at asking also serving same = absurd (cc also)
      write_pairs (PartEnd zero zero) (ResultEnd zero) b c at asking also serving same =
          absurd (roles (ap (λ (k : Contact). k.role) (same_Some (asks 0 0) c also) ∙ serving))
      write_pairs (PartEnd zero zero) (ResultEnd (suc h)) b c at asking also serving same = absurd (cc also)
      write_pairs (PartEnd zero (suc zero)) (PartEnd zero zero) b c at asking also serving same =
          absurd (roles (ap (λ (k : Contact). k.role) (same_Some (asks 0 w) c also) ∙ serving))
      write_pairs (PartEnd zero (suc zero)) (PartEnd zero (suc zero)) b c at asking also serving same =
          absurd (roles (ap (λ (k : Contact). k.role) (same_Some (asks w 0) c also) ∙ serving))
      write_pairs (PartEnd zero (suc zero)) (PartEnd zero (suc (suc zero))) b c at asking also serving same = absurd (omega (arith, same))
      write_pairs (PartEnd zero (suc zero)) (PartEnd zero (suc (suc (suc h)))) b c at asking also serving same = absurd (cc also)
      write_pairs (PartEnd zero (suc zero)) (PartEnd (suc zero) zero) b c at asking also serving same = absurd (omega (arith, same))
      write_pairs (PartEnd zero (suc zero)) (PartEnd (suc zero) (suc h)) b c at asking also serving same = absurd (cc also)
      write_pairs (PartEnd zero (suc zero)) (PartEnd (suc (suc m)) h) b c at asking also serving same = absurd (cc also)
      write_pairs (PartEnd zero (suc zero)) (ImportEnd zero zero) b c at asking also serving same = absurd (omega (arith, same))
      write_pairs (PartEnd zero (suc zero)) (ImportEnd zero (suc zero)) b c at asking also serving same = (2, omega arith, refl)
      write_pairs (PartEnd zero (suc zero)) (ImportEnd zero (suc (suc h))) b c at asking also serving same = absurd (cc also)
      write_pairs (PartEnd zero (suc zero)) (ImportEnd (suc j) h) b c at asking also serving same = absurd (cc also)
      write_pairs (PartEnd zero (suc zero)) (ResultEnd zero) b c at asking also serving same =
          absurd (roles (ap (λ (k : Contact). k.role) (same_Some (asks 0 0) c also) ∙ serving))
      write_pairs (PartEnd zero (suc zero)) (ResultEnd (suc h)) b c at asking also serving same = absurd (cc also)
      write_pairs (PartEnd zero (suc (suc zero))) e b c at asking also serving same =
          absurd (roles (sym asking ∙ ap (λ (k : Contact). k.role) (sym (same_Some (serves 0 0) b at))))
      write_pairs (PartEnd zero (suc (suc (suc h)))) e b c at asking also serving same = absurd (cc at)
      write_pairs (PartEnd (suc zero) zero) e b c at asking also serving same =
          absurd (roles (sym asking ∙ ap (λ (k : Contact). k.role) (sym (same_Some (serves 0 w) b at))))
      write_pairs (PartEnd (suc zero) (suc h)) e b c at asking also serving same = absurd (cc at)
      write_pairs (PartEnd (suc (suc m)) h) e b c at asking also serving same = absurd (cc at)
      write_pairs (ImportEnd zero zero) e b c at asking also serving same =
          absurd (roles (sym asking ∙ ap (λ (k : Contact). k.role) (sym (same_Some (serves 0 w) b at))))
      write_pairs (ImportEnd zero (suc zero)) e b c at asking also serving same =
          absurd (roles (sym asking ∙ ap (λ (k : Contact). k.role) (sym (same_Some (serves w 0) b at))))
      write_pairs (ImportEnd zero (suc (suc h))) e b c at asking also serving same = absurd (cc at)
      write_pairs (ImportEnd (suc j) h) e b c at asking also serving same = absurd (cc at)
      write_pairs (ResultEnd zero) (PartEnd zero zero) b c at asking also serving same =
          absurd (roles (ap (λ (k : Contact). k.role) (same_Some (asks 0 w) c also) ∙ serving))
      write_pairs (ResultEnd zero) (PartEnd zero (suc zero)) b c at asking also serving same =
          absurd (roles (ap (λ (k : Contact). k.role) (same_Some (asks w 0) c also) ∙ serving))
      write_pairs (ResultEnd zero) (PartEnd zero (suc (suc zero))) b c at asking also serving same = (0, omega arith, refl)
      write_pairs (ResultEnd zero) (PartEnd zero (suc (suc (suc h)))) b c at asking also serving same = absurd (cc also)
      write_pairs (ResultEnd zero) (PartEnd (suc zero) zero) b c at asking also serving same = absurd (omega (arith, same))
      write_pairs (ResultEnd zero) (PartEnd (suc zero) (suc h)) b c at asking also serving same = absurd (cc also)
      write_pairs (ResultEnd zero) (PartEnd (suc (suc m)) h) b c at asking also serving same = absurd (cc also)
      write_pairs (ResultEnd zero) (ImportEnd zero zero) b c at asking also serving same = absurd (omega (arith, same))
      write_pairs (ResultEnd zero) (ImportEnd zero (suc zero)) b c at asking also serving same = absurd (omega (arith, same))
      write_pairs (ResultEnd zero) (ImportEnd zero (suc (suc h))) b c at asking also serving same = absurd (cc also)
      write_pairs (ResultEnd zero) (ImportEnd (suc j) h) b c at asking also serving same = absurd (cc also)
      write_pairs (ResultEnd zero) (ResultEnd zero) b c at asking also serving same =
          absurd (roles (ap (λ (k : Contact). k.role) (same_Some (asks 0 0) c also) ∙ serving))
      write_pairs (ResultEnd zero) (ResultEnd (suc h)) b c at asking also serving same = absurd (cc also)
      write_pairs (ResultEnd (suc h)) e b c at asking also serving same = absurd (cc at)

      abbrev WriteContacts : Joint → Type 0
      WriteContacts j = (a : ℕ) × (b : ℕ) × (contact_at writer j.asking ≡ Some (asks a b)) × (contact_at writer j.serving ≡ Some (serves a b))

      write_contacts : (d e : End) → Contains writer.joints (joint d e) → WriteContacts (joint d e)
      write_contacts d e (zero, small, at) = let one : joint (ResultEnd 0) (PartEnd 0 2) ≡ joint d e = cc at in subst WriteContacts one (0, 0, refl, refl)
      write_contacts d e (suc zero, small, at) = let one : joint (PartEnd 0 0) (PartEnd 1 0) ≡ joint d e = cc at in subst WriteContacts one (0, w, refl, refl)
      write_contacts d e (suc (suc zero), small, at) = let one : joint (PartEnd 0 1) (ImportEnd 0 1) ≡ joint d e = cc at in subst WriteContacts one (w, 0, refl, refl)
      write_contacts d e (suc (suc (suc n)), small, at) = absurd (omega (arith, small))

      abbrev WritePaths : Joint → Type 0
      WritePaths j = Paths (writing w k s) (origin (writing w k s) (own_out (length q.parts) j.asking)) (origin (writing w k s) (own_out (length q.parts) j.serving))

      write_paths : (d e : End) → Contains writer.joints (joint d e) → WritePaths (joint d e)
      write_paths d e (zero, small, at) =
          let one : joint (ResultEnd 0) (PartEnd 0 2) ≡ joint d e = cc at in
          subst WritePaths one
          (subst (λ (z : Place). Paths (writing w k s) (place 1 (ResultEnd 0)) z) (sym (high_origin (assigner ∷ number ∷ []) 0 2))
          (1, (place 1 (PartEnd 0 2), inl (assigner, joint (ResultEnd 0) (PartEnd 0 2), refl, refl, (0, omega arith, refl), inl (refl, refl)), refl)))
      write_paths d e (suc zero, small, at) =
          let one : joint (PartEnd 0 0) (PartEnd 1 0) ≡ joint d e = cc at in
          subst WritePaths one
          (subst (λ (z : Place). Paths (writing w k s) z (origin (writing w k s) (PartEnd (length q.parts + 1) 0))) (sym (high_origin (assigner ∷ number ∷ []) 0 0))
          (subst (λ (z : Place). Paths (writing w k s) (place 1 (PartEnd 0 0)) z) (sym (high_origin (assigner ∷ number ∷ []) 1 0)) (
            2,
            (
              place 2 (ResultEnd 0),
              inr (link 1 (PartEnd 0 0) 2 (ResultEnd 0), (1, omega arith, refl), inl (refl, refl)),
              (place 2 (PartEnd 0 0), inl (number, joint (ResultEnd 0) (PartEnd 0 0), refl, refl, (0, omega arith, refl), inl (refl, refl)), refl),
            ),
          )))
      write_paths d e (suc (suc zero), small, at) =
          let one : joint (PartEnd 0 1) (ImportEnd 0 1) ≡ joint d e = cc at in
          subst WritePaths one
          (subst (λ (z : Place). Paths (writing w k s) z (origin (writing w k s) (ImportEnd 0 2))) (sym (high_origin (assigner ∷ number ∷ []) 0 1))
          (subst (λ (z : Place). Paths (writing w k s) (place 1 (PartEnd 0 1)) z)
          (sym (write_import_origin 0 2 (imported x (Fun (Exp i) (Var w))) (ap (λ (us : List Imported). slice_get us 0) (imports_are x i w q s q_right q_type first)))) (
            2,
            (
              place 0 (ResultEnd 1),
              inr (link 0 (ResultEnd 1) 1 (PartEnd 0 1), (0, omega arith, refl), inr (refl, refl)),
              (
                place 0 (ImportEnd 0 2),
                inl (s, joint (ResultEnd 1) (ImportEnd 0 2), refl, refl, write_joint x i w q s q_right q_type first, inl (refl, refl)),
                refl,
              ),
            ),
          )))
      write_paths d e (suc (suc (suc n)), small, at) = absurd (omega (arith, small))

      write_wiring : IsAccessWiring x i w q s r writer q_right q_type first (writing w k s) write_class write_code
      write_wiring =
          record {
            joining = joining;
            variable = refl;
            right = (
              ((0, 0, refl, refl), refl, refl),
              (((0, w, refl, refl), refl, refl), (((w, 0, refl, refl), refl, refl), tt)),
            );
            plan = refl;
            parts = joining.parts ∙ ap (λ (us : List Part). us ++ (kinds.Assign w ∷ kinds.Lit w k ∷ [])) (parts_are x i w q s q_right q_type first);
            imports = joining.imports ∙ (ap (map (λ (l : LeftImport). l.import)) write_left ∙ imports_left 0 0 s.imports);
            outcome = joining.outcome;
            part_origin = low_origin (assigner ∷ number ∷ []);
            import_origin = write_import_origin;
            inner = λ e. refl;
            along = write_along;
            own_class = write_own_class;
            own_pairs = write_pairs;
            own_contacts = write_contacts;
            own_paths = write_paths;
          }

      pub write_split : IsSplit i w x r (access_plan (Write k) x w) q
      write_split = wiring_split x i w q s r writer q_right q_type first (writing w k s) write_class write_code write_wiring
