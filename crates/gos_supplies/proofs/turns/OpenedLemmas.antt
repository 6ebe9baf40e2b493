-- The plan of a function is regular exactly where that of its body is: the argument is the body's last import, by other names.
use Rattle.std.specs.Prelude.{ℕ, suc, ◌+◌, ◌-◌, ◌<◌, ◌≤◌, Bool, true, false, List, Option, Some, None, slice_get, nat_eq, nat_lt, length, if◌then◌else◌}
use Rattle.std.proofs.Common.{◌≡◌, [], ◌∷◌, ◌++◌, refl, sym, ◌∙◌, ap, subst, arith}
use Rattle.std.proofs.lemmas.Bool.Decides.{nat_tests}
use Rattle.std.proofs.lemmas.Option.{slice_get_past}
use Rattle.gos_types.specs.Types.{Type', Fun}
use Rattle.gos_types.proofs.ListLemmas.{same_in_front}
use Rattle.gos_model.specs.Typing.{Imported}
use Rattle.gos_plan.specs.Kinds.{Part, Contact, contacts_of, other_side}
use Rattle.gos_plan.specs.Plans.{End, PartEnd, ImportEnd, ResultEnd, Joint, Plan, contact_at, contacts_of_part, contacts_of_import, turned_if, same_end, stands_in}
use Rattle.gos_plan.specs.Tokens.{IsPortEnd, places_of}
use Rattle.gos_plan.proofs.JointLemmas.{IsIn, same_is, same_itself, Found, found, fits, stands_there, contained, listed}
use Rattle.gos_plan.proofs.SideLemmas.{functions_join}
use Rattle.gos_plan.proofs.ContactLemmas.{turned_contact_twice, other_side_at}
use Rattle.gos_realises.specs.realises.Regular.{count, whole_type, whole_end}
use Rattle.gos_joining.specs.webs.Webs.{joint}
use Rattle.gos_supplies.specs.applications.Opened.{opened, IsFunctionOf}
use Rattle.gos_realises.proofs.joined.OriginLemmas.{behind_at}
use Rattle.gos_supplies.specs.turns.Composed.{FunctionIsRegular}
use Rattle.gos_supplies.specs.turns.Resting.{FunctionRests}
use Rattle.gos_supplies.proofs.turns.TypeLemmas.{sides}
use Rattle.gos_supplies.proofs.turns.RelabelLemmas.{Relabels, relabels_back, relabelled_is_regular, relabelled_rests, moved_if}

-- the ends of the function as the body has them, and back, for argument k with n handshakes: one to one also beyond what there is
abbrev forth : ℕ → ℕ → End → End
forth k n (PartEnd i h) = PartEnd i h
forth k n (ImportEnd i h) = if nat_eq i k then ImportEnd i (n + h) else ImportEnd i h
forth k n (ResultEnd h) = if nat_lt h n then ImportEnd k h else ResultEnd (h - n)

abbrev back : ℕ → ℕ → End → End
back k n (PartEnd i h) = PartEnd i h
back k n (ImportEnd i h) = if nat_eq i k then (if nat_lt h n then ResultEnd h else ImportEnd i (h - n)) else ImportEnd i h
back k n (ResultEnd h) = ResultEnd (n + h)

there_again : (k n : ℕ) (e : End) → forth k n (back k n e) ≡ e
there_again k n (PartEnd i h) = refl
there_again k n (ImportEnd i h) = by_import (nat_eq i k) refl (nat_lt h n) refl
  where
    by_import : (s : Bool) → nat_eq i k ≡ s → (t : Bool) → nat_lt h n ≡ t
        → forth k n (if nat_eq i k then (if nat_lt h n then ResultEnd h else ImportEnd i (h - n)) else ImportEnd i h) ≡ ImportEnd i h
    by_import true s true t =
        let same : i ≡ k = grind (arith, s) in
        ap (λ (x : Bool). forth k n (if x then (if nat_lt h n then ResultEnd h else ImportEnd i (h - n)) else ImportEnd i h)) s
        ∙ (ap (λ (x : Bool). forth k n (if x then ResultEnd h else ImportEnd i (h - n))) t
        ∙ (ap (λ (x : Bool). if x then ImportEnd k h else ResultEnd (h - n)) t ∙ ap (λ (j : ℕ). ImportEnd j h) (sym same)))
    by_import true s false t =
        let sum : n + (h - n) ≡ h = grind (arith, nat_tests, t) in
        ap (λ (x : Bool). forth k n (if x then (if nat_lt h n then ResultEnd h else ImportEnd i (h - n)) else ImportEnd i h)) s
        ∙ (ap (λ (x : Bool). forth k n (if x then ResultEnd h else ImportEnd i (h - n))) t
        ∙ (ap (λ (x : Bool). if x then ImportEnd i (n + (h - n)) else ImportEnd i (h - n)) s ∙ ap (ImportEnd i) sum))
    by_import false s t u =
        ap (λ (x : Bool). forth k n (if x then (if nat_lt h n then ResultEnd h else ImportEnd i (h - n)) else ImportEnd i h)) s
        ∙ ap (λ (x : Bool). if x then ImportEnd i (n + h) else ImportEnd i h) s
there_again k n (ResultEnd h) =
    let past : nat_lt (n + h) n ≡ false = grind (arith, nat_tests) in
    let less : n + h - n ≡ h = omega arith in
    ap (λ (x : Bool). if x then ImportEnd k (n + h) else ResultEnd (n + h - n)) past ∙ ap ResultEnd less

back_again : (k n : ℕ) (e : End) → back k n (forth k n e) ≡ e
back_again k n (PartEnd i h) = refl
back_again k n (ImportEnd i h) = by_import (nat_eq i k) refl
  where
    by_import : (s : Bool) → nat_eq i k ≡ s → back k n (if nat_eq i k then ImportEnd i (n + h) else ImportEnd i h) ≡ ImportEnd i h
    by_import true s =
        let past : nat_lt (n + h) n ≡ false = grind (arith, nat_tests) in
        let less : n + h - n ≡ h = omega arith in
        ap (λ (x : Bool). back k n (if x then ImportEnd i (n + h) else ImportEnd i h)) s
        ∙ (ap (λ (x : Bool). if x then (if nat_lt (n + h) n then ResultEnd (n + h) else ImportEnd i (n + h - n)) else ImportEnd i (n + h)) s
        ∙ (ap (λ (x : Bool). if x then ResultEnd (n + h) else ImportEnd i (n + h - n)) past ∙ ap (ImportEnd i) less))
    by_import false s =
        ap (λ (x : Bool). back k n (if x then ImportEnd i (n + h) else ImportEnd i h)) s
        ∙ ap (λ (x : Bool). if x then (if nat_lt h n then ResultEnd h else ImportEnd i (h - n)) else ImportEnd i h) s
back_again k n (ResultEnd h) = by_result (nat_lt h n) refl
  where
    by_result : (t : Bool) → nat_lt h n ≡ t → back k n (if nat_lt h n then ImportEnd k h else ResultEnd (h - n)) ≡ ResultEnd h
    by_result true t =
        let self : nat_eq k k ≡ true = grind arith in
        ap (λ (x : Bool). back k n (if x then ImportEnd k h else ResultEnd (h - n))) t
        ∙ (ap (λ (x : Bool). if x then (if nat_lt h n then ResultEnd h else ImportEnd k (h - n)) else ImportEnd k h) self
        ∙ ap (λ (x : Bool). if x then ResultEnd h else ImportEnd k (h - n)) t)
    by_result false t =
        let sum : n + (h - n) ≡ h = grind (arith, nat_tests, t) in
        ap (λ (x : Bool). back k n (if x then ImportEnd k h else ResultEnd (h - n))) t ∙ ap ResultEnd sum

port_forth : (k n : ℕ) (e : End) → IsPortEnd e → IsPortEnd (forth k n e)
port_forth k n (PartEnd i h) port = port
port_forth k n (ImportEnd i h) port = by_test (nat_eq i k)
  where
    by_test : (t : Bool) → IsPortEnd (if t then ImportEnd i (n + h) else ImportEnd i h)
    by_test true = tt
    by_test false = tt
port_forth k n (ResultEnd h) port = by_test (nat_lt h n)
  where
    by_test : (t : Bool) → IsPortEnd (if t then ImportEnd k h else ResultEnd (h - n))
    by_test true = tt
    by_test false = tt

port_back : (k n : ℕ) (e : End) → IsPortEnd e → IsPortEnd (back k n e)
port_back k n (PartEnd i h) port = port
port_back k n (ImportEnd i h) port = by_test (nat_eq i k) (nat_lt h n)
  where
    by_test : (s t : Bool) → IsPortEnd (if s then (if t then ResultEnd h else ImportEnd i (h - n)) else ImportEnd i h)
    by_test true true = tt
    by_test true false = tt
    by_test false t = tt
port_back k n (ResultEnd h) port = tt

-- the whole types are one
one_whole : (is : List Imported) (x : Imported) (t : Type') → whole_type (is ++ (x ∷ [])) t ≡ whole_type is (Fun x.ty t)
one_whole [] x t = refl
one_whole (i ∷ is) x t = ap (Fun i.ty) (one_whole is x t)

-- and so are their ends
one_end : (i k : ℕ) (is : List Imported) (x : Imported) (h : ℕ) → k ≡ i + length is → whole_end i (is ++ (x ∷ [])) h ≡ forth k (count x.ty) (whole_end i is h)
one_end i k [] x h sum =
    let same : i ≡ k = omega (arith, sum) in λ z. if nat_lt h (count x.ty) then ImportEnd (same z) h else ResultEnd (h - count x.ty)
one_end i k (y ∷ is) x h sum = by_test (nat_lt h (count y.ty)) refl (one_end (suc i) k is x (h - count y.ty) (omega (arith, sum)))
  where
    by_test : (t : Bool) → nat_lt h (count y.ty) ≡ t
        → (whole_end (suc i) (is ++ (x ∷ [])) (h - count y.ty) ≡ forth k (count x.ty) (whole_end (suc i) is (h - count y.ty)))
        → (if nat_lt h (count y.ty) then ImportEnd i h else whole_end (suc i) (is ++ (x ∷ [])) (h - count y.ty))
        ≡ forth k (count x.ty) (if nat_lt h (count y.ty) then ImportEnd i h else whole_end (suc i) is (h - count y.ty))
    by_test true t rest =
        let other : nat_eq i k ≡ false = grind (arith, nat_tests, sum) in
        ap (λ (b : Bool). if b then ImportEnd i h else whole_end (suc i) (is ++ (x ∷ [])) (h - count y.ty)) t
        ∙ sym (ap (λ (b : Bool). forth k (count x.ty) (if b then ImportEnd i h else whole_end (suc i) is (h - count y.ty))) t
        ∙ ap (λ (b : Bool). if b then ImportEnd i (count x.ty + h) else ImportEnd i h) other)
    by_test false t rest =
        ap (λ (b : Bool). if b then ImportEnd i h else whole_end (suc i) (is ++ (x ∷ [])) (h - count y.ty)) t
        ∙ (rest
        ∙ sym (ap (λ (b : Bool). forth k (count x.ty) (if b then ImportEnd i h else whole_end (suc i) is (h - count y.ty))) t))

pub twice_turned : (o : Option Contact) → turned_if (turned_if o) ≡ o
twice_turned None = refl
twice_turned (Some c) = ap Some (turned_contact_twice c)

module _ (x : Imported) (p q : Plan) (is : IsFunctionOf x p q) where
  abbrev k : ℕ
  k = length p.imports

  abbrev n : ℕ
  n = count x.ty

  low_import : (i : ℕ) → i < k → slice_get q.imports i ≡ slice_get p.imports i
  low_import i low = ap (λ (xs : List Imported). slice_get xs i) is.imports ∙ same_in_front p.imports (x ∷ []) i low

  last_import : slice_get q.imports k ≡ Some x
  last_import =
      let zero_is : k - k ≡ 0 = omega arith in
      ap (λ (xs : List Imported). slice_get xs k) is.imports ∙ (behind_at p.imports (x ∷ []) k (omega arith) ∙ ap (slice_get (x ∷ [])) zero_is)

  joined : contacts_of p.outcome ≡ other_side (contacts_of x.ty) ++ contacts_of q.outcome
  joined = ap contacts_of is.outcome ∙ (functions_join x.ty q.outcome).joined

  contacts : (e : End) → contact_at q (forth k n e) ≡ contact_at p e
  contacts (PartEnd i h) = ap (λ (fs : List Part). slice_get (contacts_of_part (slice_get fs i)) h) (sym is.parts)
  contacts (ImportEnd i h) = by_test (nat_eq i k) refl
    where
      by_test : (t : Bool) → nat_eq i k ≡ t → contact_at q (if nat_eq i k then ImportEnd i (n + h) else ImportEnd i h) ≡ contact_at p (ImportEnd i h)
      by_test true t =
          let same : i ≡ k = grind (arith, t) in
          let none_p : slice_get p.imports i ≡ None = slice_get_past p.imports i (omega (arith, same)) in
          let past : slice_get (contacts_of x.ty) (n + h) ≡ None = slice_get_past (contacts_of x.ty) (n + h) (omega arith) in
          ap (λ (b : Bool). contact_at q (if b then ImportEnd i (n + h) else ImportEnd i h)) t
          ∙ (ap (λ (o : Option Imported). slice_get (contacts_of_import o) (n + h)) (ap (slice_get q.imports) same ∙ last_import)
          ∙ (past ∙ sym (ap (λ (o : Option Imported). slice_get (contacts_of_import o) h) none_p)))
      by_test false t =
          ap (λ (b : Bool). contact_at q (if b then ImportEnd i (n + h) else ImportEnd i h)) t
          ∙ ap (λ (o : Option Imported). slice_get (contacts_of_import o) h) (by_number (nat_lt i k) refl)
        where
          by_number : (u : Bool) → nat_lt i k ≡ u → slice_get q.imports i ≡ slice_get p.imports i
          by_number true u = low_import i (grind (arith, nat_tests, u))
          by_number false u =
              let high : suc k ≤ i = grind (arith, nat_tests, t, u) in
              let long : length q.imports ≡ suc k = ap (λ (xs : List Imported). length xs) is.imports ∙ longer p.imports in
              slice_get_past q.imports i (omega (arith, high, long)) ∙ sym (slice_get_past p.imports i (omega (arith, high)))
            where
              longer : (ys : List Imported) → length (ys ++ (x ∷ [])) ≡ suc (length ys)
              longer [] = refl
              longer (y ∷ ys) = ap suc (longer ys)
  contacts (ResultEnd h) = by_test (nat_lt h n) refl
    where
      by_test : (t : Bool) → nat_lt h n ≡ t → contact_at q (if nat_lt h n then ImportEnd k h else ResultEnd (h - n)) ≡ turned_if (slice_get (contacts_of p.outcome) h)
      by_test true t =
          let low : h < n = grind (arith, nat_tests, t) in
          let long = sides x.ty q.outcome in
          ap (λ (b : Bool). contact_at q (if b then ImportEnd k h else ResultEnd (h - n))) t
          ∙ (ap (λ (o : Option Imported). slice_get (contacts_of_import o) h) last_import
          ∙ sym (ap turned_if (ap (λ (cs : List Contact). slice_get cs h) joined
          ∙ (same_in_front (other_side (contacts_of x.ty)) (contacts_of q.outcome) h (omega (arith, low, long)) ∙ other_side_at (contacts_of x.ty) h))
          ∙ twice_turned (slice_get (contacts_of x.ty) h)))
      by_test false t =
          let high : n ≤ h = grind (arith, nat_tests, t) in
          let long = sides x.ty q.outcome in
          let less : h - length (other_side (contacts_of x.ty)) ≡ h - n = omega (arith, long) in
          ap (λ (b : Bool). contact_at q (if b then ImportEnd k h else ResultEnd (h - n))) t
          ∙ sym (ap turned_if (ap (λ (cs : List Contact). slice_get cs h) joined
          ∙ (behind_at (other_side (contacts_of x.ty)) (contacts_of q.outcome) h (omega (arith, high, long)) ∙ ap (slice_get (contacts_of q.outcome)) less)))

  -- at an end that is there both names are one
  names_agree : (e : End) (c : Contact) → contact_at p e ≡ Some c → opened k n e ≡ forth k n e
  names_agree (PartEnd i h) c there = refl
  names_agree (ImportEnd i h) c there = by_test (nat_eq i k) refl
    where
      by_test : (t : Bool) → nat_eq i k ≡ t → ImportEnd i h ≡ (if nat_eq i k then ImportEnd i (n + h) else ImportEnd i h)
      by_test true t =
          let same : i ≡ k = grind (arith, t) in
          let none_p : slice_get p.imports i ≡ None = slice_get_past p.imports i (omega (arith, same)) in
          let never : None ≡ Some c = sym (ap (λ (o : Option Imported). slice_get (contacts_of_import o) h) none_p) ∙ there in
          absurd (cc never)
      by_test false t = sym (ap (λ (b : Bool). if b then ImportEnd i (n + h) else ImportEnd i h) t)
  names_agree (ResultEnd h) c there = refl

  -- joints are moved, and no others are there
  joint_forth : (j : Joint) → IsIn j p.joints → IsIn (joint (forth k n j.asking) (forth k n j.serving)) q.joints
  joint_forth j has =
      let (a, v, asked, served) = fits p [] p.joints j is.right has in
      let there = is.joints j.asking j.serving (listed p.joints j has) in
      let one = names_agree j.asking _ asked in
      let other = names_agree j.serving _ served in
      subst (λ (y : Joint). IsIn y q.joints) (λ i. joint (one i) (other i)) (contained q.joints (joint (opened k n j.asking) (opened k n j.serving)) there)

  joint_back : (j : Joint) → IsIn j q.joints → (c d : End) × IsIn (joint c d) p.joints × (forth k n c ≡ j.asking) × (forth k n d ≡ j.serving)
  joint_back j has =
      let (c, d, in_p, at_c, at_d) = is.no_more j.asking j.serving (listed q.joints j has) in
      let there = contained p.joints (joint c d) in_p in
      let (a, v, asked, served) = fits p [] p.joints (joint c d) is.right there in
      (c, d, there, sym (names_agree c _ asked) ∙ at_c, sym (names_agree d _ served) ∙ at_d)

  stands_forth : (e : End) (j : Joint) → stands_in e j ≡ true → stands_in (forth k n e) (joint (forth k n j.asking) (forth k n j.serving)) ≡ true
  stands_forth e j stands = by_test (same_end e j.asking) refl
    where
      by_test : (b : Bool) → same_end e j.asking ≡ b → stands_in (forth k n e) (joint (forth k n j.asking) (forth k n j.serving)) ≡ true
      by_test true t =
          let self = same_itself (forth k n e) in
          let one : same_end (forth k n e) (forth k n j.asking) ≡ true =
          subst (λ (y : End). same_end (forth k n e) (forth k n y) ≡ true) (same_is e j.asking t) self in
          grind (arith, one)
      by_test false t =
          let other : same_end e j.serving ≡ true = grind (arith, stands, t) in
          let self = same_itself (forth k n e) in
          let one : same_end (forth k n e) (forth k n j.serving) ≡ true =
          subst (λ (y : End). same_end (forth k n e) (forth k n y) ≡ true) (same_is e j.serving other) self in
          grind (arith, one)

  place_forth : (e a : End) → places_of p e ≡ Some a → places_of q (forth k n e) ≡ Some (forth k n a)
  place_forth e a named =
      let f : Found p.joints e a = found p.joints e a named in
      stands_there q (joint (forth k n f.joint.asking) (forth k n f.joint.serving)) (forth k n e) is.body_right (joint_forth f.joint f.is_in)
      (stands_forth e f.joint f.stands)
      ∙ ap (λ (y : End). Some (forth k n y)) f.named

  -- an end whose moved end has a place has one
  place_there : (e b : End) → places_of q (forth k n e) ≡ Some b → places_of p e ≡ None → ⊥
  place_there e b named none =
      let f : Found q.joints (forth k n e) b = found q.joints (forth k n e) b named in
      let (c, d, has, at_c, at_d) = joint_back f.joint f.is_in in
      by_end c d f.joint has at_c at_d (same_end (forth k n e) f.joint.asking) refl f.stands
    where
      clash : (c d : End) → IsIn (joint c d) p.joints → stands_in e (joint c d) ≡ true → ⊥
      clash c d has stands = let never : None ≡ Some c = sym none ∙ stands_there p (joint c d) e is.right has stands in cc never

      by_end : (c d : End) (j : Joint) → IsIn (joint c d) p.joints → forth k n c ≡ j.asking → forth k n d ≡ j.serving → (t : Bool) → same_end (forth k n e) j.asking ≡ t
          → stands_in (forth k n e) j ≡ true → ⊥
      by_end c d j has at_c at_d true t stands =
          let same : e ≡ c = sym (back_again k n e) ∙ (ap (back k n) (same_is (forth k n e) j.asking t ∙ sym at_c) ∙ back_again k n c) in
          let self = same_itself e in
          let one : same_end e c ≡ true = subst (λ (y : End). same_end e y ≡ true) same self in
          clash c d has (grind (arith, one))
      by_end c d j has at_c at_d false t stands =
          let other : same_end (forth k n e) j.serving ≡ true = grind (arith, stands, t) in
          let same : e ≡ d = sym (back_again k n e) ∙ (ap (back k n) (same_is (forth k n e) j.serving other ∙ sym at_d) ∙ back_again k n d) in
          let self = same_itself e in
          let one : same_end e d ≡ true = subst (λ (y : End). same_end e y ≡ true) same self in
          clash c d has (grind (arith, one))

  places : (e : End) → places_of q (forth k n e) ≡ moved_if (forth k n) (places_of p e)
  places e = by_place (places_of p e) refl
    where
      of_none : places_of p e ≡ None → (o : Option End) → places_of q (forth k n e) ≡ o → o ≡ None
      of_none none None at = refl
      of_none none (Some b) at = absurd (place_there e b at none)

      by_place : (o : Option End) → places_of p e ≡ o → places_of q (forth k n e) ≡ moved_if (forth k n) (places_of p e)
      by_place None none = of_none none (places_of q (forth k n e)) refl ∙ ap (moved_if (forth k n)) (sym none)
      by_place (Some a) named = place_forth e a named ∙ ap (moved_if (forth k n)) (sym named)

  relabels : Relabels (forth k n) (back k n) p q
  relabels =
      record {
        there = there_again k n;
        back = back_again k n;
        parts = sym is.parts;
        part_end = λ i h. refl;
        ports = port_forth k n;
        ports_back = port_back k n;
        contacts = contacts;
        places = places;
        wholes = (λ i. whole_type (is.imports i) q.outcome) ∙ (one_whole p.imports x q.outcome ∙ ap (whole_type p.imports) (sym is.outcome));
        ends = λ h. ap (λ (xs : List Imported). whole_end 0 xs h) is.imports ∙ one_end 0 k p.imports x h (omega arith);
      }

pub function_is_regular : FunctionIsRegular
function_is_regular x p q is = (
  λ regular. relabelled_is_regular (forth (length p.imports) (count x.ty)) (back (length p.imports) (count x.ty)) p q (relabels x p q is) regular,
  λ regular. relabelled_is_regular (back (length p.imports) (count x.ty)) (forth (length p.imports) (count x.ty)) q p
      (relabels_back (forth (length p.imports) (count x.ty)) (back (length p.imports) (count x.ty)) p q (relabels x p q is)) regular,
)

pub function_rests : FunctionRests
function_rests x p q is = (
  λ rests. relabelled_rests (forth (length p.imports) (count x.ty)) (back (length p.imports) (count x.ty)) p q (relabels x p q is) rests,
  λ rests. relabelled_rests (back (length p.imports) (count x.ty)) (forth (length p.imports) (count x.ty)) q p
      (relabels_back (forth (length p.imports) (count x.ty)) (back (length p.imports) (count x.ty)) p q (relabels x p q is)) rests,
)
