-- Plans of names and of pairs are there: the joints of two lists of ends are right, one after another.
use Rattle.std.specs.Prelude.{ℕ, zero, suc, ◌+◌, ◌<◌, ◌≤◌, IsTrue, List, Some, Contains, slice_get}
use Rattle.std.proofs.Common.{◌≡◌, [], ◌∷◌, refl, sym, ◌∙◌, ap, subst, arith}
use Rattle.std.proofs.lemmas.Option.{slice_get_within}
use Rattle.gos_types.specs.declared.shakes.Role.{Role}
use Rattle.gos_types.specs.declared.shakes.Role.TheVariants.{Serve, Ask}
use Rattle.gos_types.specs.Types.{Type', Pair, Fun}
use Rattle.gos_types.specs.Handshakes.{turned}
use Rattle.gos_plan.specs.Kinds.{Contact, serves, contacts_of, turned_contact}
use Rattle.gos_plan.specs.Plans.{End, ImportEnd, ResultEnd, Joint, Plan, contact_at, turned_if, is_free, Fits, AreRight}
use Rattle.gos_plan.proofs.ContactLemmas.{turned_contact_twice, as_asks, as_serves, turned_asks}
use Rattle.gos_plan.proofs.JointLemmas.{free_of_both, same_result}
use Rattle.gos_realises.specs.realises.Regular.{count}
use Rattle.gos_joining.specs.webs.Webs.{joint}
use Rattle.gos_supplies.specs.turns.Names.{NamePlanIsThere}
use Rattle.gos_supplies.specs.turns.Pairs.{PairPlanIsThere}
use Rattle.gos_realises.proofs.realises.CountLemmas.{count_pair}
use Rattle.gos_supplies.proofs.turns.NameLemmas.{import_number, import_apart}
use Rattle.gos_supplies.proofs.turns.PairLemmas.{argument_at, result_same}

-- the joint of a handshake, by the holder's role, and the joints of handshakes h, h + 1, ..
abbrev copied_one : Role → End → End → Joint
copied_one Serve f s = joint s f
copied_one Ask f s = joint f s

abbrev copied : (ℕ → End) → (ℕ → End) → ℕ → List Contact → List Joint
copied first second h [] = []
copied first second h (c ∷ cs) = copied_one c.role (first h) (second h) ∷ copied first second (suc h) cs

turned_serves : (c : Contact) → c.role ≡ Ask → turned_contact c ≡ serves c.ask_bits c.answer_bits
turned_serves c role = λ i. record c { role = turned (role i) }

copied_there : (first second : ℕ → End) (h m : ℕ) (cs : List Contact) (c : Contact) → slice_get cs m ≡ Some c
    → Contains (copied first second h cs) (copied_one c.role (first (h + m)) (second (h + m)))
copied_there first second h m [] c at = absurd (cc at)
copied_there first second h zero (d ∷ cs) c at =
    let same : d ≡ c = cc at in
    let e : h ≡ h + 0 = omega arith in
    let first_one : Contains (copied first second h (d ∷ cs)) (copied_one d.role (first h) (second h)) = (0, omega arith, refl) in
    subst (Contains (copied first second h (d ∷ cs))) (λ i. copied_one (same i).role (first (e i)) (second (e i))) first_one
copied_there first second h (suc m) (d ∷ cs) c at =
    let e : suc h + m ≡ h + suc m = omega arith in
    let (k, small, is) = copied_there first second (suc h) m cs c at in
    let later : Contains (copied first second h (d ∷ cs)) (copied_one c.role (first (suc h + m)) (second (suc h + m))) = (suc k, omega (arith, small), is) in
    subst (λ (n : ℕ). Contains (copied first second h (d ∷ cs)) (copied_one c.role (first n) (second n))) e later

module _ (p : Plan) (t : Type') (first second : ℕ → End)
    (first_there : (h : ℕ) (c : Contact) → slice_get (contacts_of t) h ≡ Some c → contact_at p (first h) ≡ Some c)
    (second_there : (h : ℕ) (c : Contact) → slice_get (contacts_of t) h ≡ Some c → contact_at p (second h) ≡ Some (turned_contact c))
    (first_one : (h k : ℕ) → first h ≡ first k → h ≡ k) (second_one : (h k : ℕ) → second h ≡ second k → h ≡ k)
    (apart : (h k : ℕ) → h < count t → first h ≡ second k → ⊥) where
  -- the ends of later handshakes are free of these joints
  abbrev LaterFree : ℕ → List Joint → Type 0
  LaterFree h before = (k : ℕ) → h ≤ k → k < count t → IsTrue (is_free (first k) before) × IsTrue (is_free (second k) before)

  next_free : (h : ℕ) (role : Role) (before : List Joint) → h < count t → LaterFree h before → LaterFree (suc h) (copied_one role (first h) (second h) ∷ before)
  next_free h Serve before low free k above small =
      let both = free k (omega (arith, above)) small in (
        free_of_both (first k) (joint (second h) (first h)) before (λ e. apart k h small e) (λ e. (let same = first_one k h e in omega (arith, same, above))) both.0,
        free_of_both (second k) (joint (second h) (first h)) before (λ e. (let same = second_one k h e in omega (arith, same, above))) (λ e. apart h k low (sym e)) both.1,
      )
  next_free h Ask before low free k above small =
      let both = free k (omega (arith, above)) small in (
        free_of_both (first k) (joint (first h) (second h)) before (λ e. (let same = first_one k h e in omega (arith, same, above))) (λ e. apart k h small e) both.0,
        free_of_both (second k) (joint (first h) (second h)) before (λ e. apart h k low (sym e)) (λ e. (let same = second_one k h e in omega (arith, same, above))) both.1,
      )

  one_fits : (h : ℕ) (c : Contact) → slice_get (contacts_of t) h ≡ Some c → (role : Role) → c.role ≡ role → Fits p (copied_one role (first h) (second h))
  one_fits h c at Serve role = (
    c.ask_bits,
    c.answer_bits,
    second_there h c at ∙ ap Some (turned_asks c role),
    first_there h c at ∙ ap Some (as_serves c role),
  )
  one_fits h c at Ask role = (
    c.ask_bits,
    c.answer_bits,
    first_there h c at ∙ ap Some (as_asks c role),
    second_there h c at ∙ ap Some (turned_serves c role),
  )

  one_free : (h : ℕ) (role : Role) (before : List Joint) → h < count t → LaterFree h before
      → IsTrue (is_free (copied_one role (first h) (second h)).asking before) × IsTrue (is_free (copied_one role (first h) (second h)).serving before)
  one_free h Serve before low free = let both = free h (omega arith) low in (both.1, both.0)
  one_free h Ask before low free = free h (omega arith) low

  all_right : (cs : List Contact) (h : ℕ) (before : List Joint) → ((m : ℕ) (c : Contact) → slice_get cs m ≡ Some c → slice_get (contacts_of t) (h + m) ≡ Some c)
      → LaterFree h before → AreRight p before (copied first second h cs)
  all_right [] h before there free = tt
  all_right (c ∷ cs) h before there free =
      let e : h + 0 ≡ h = omega arith in
      let at : slice_get (contacts_of t) h ≡ Some c = ap (slice_get (contacts_of t)) (sym e) ∙ there 0 c refl in
      let low : h < count t = slice_get_within (contacts_of t) h c at in
      let both = one_free h c.role before low free in (
        (one_fits h c at c.role refl, both.0, both.1),
        all_right cs (suc h) (copied_one c.role (first h) (second h) ∷ before)
            (λ m d is. (let f : suc h + m ≡ h + suc m = omega arith in ap (slice_get (contacts_of t)) f ∙ there (suc m) d is)) (next_free h c.role before low free),
      )

  pub right_from_first : AreRight p [] (copied first second 0 (contacts_of t))
  right_from_first =
      all_right (contacts_of t) 0 [] (λ m c is. (let e : 0 + m ≡ m = omega arith in ap (slice_get (contacts_of t)) e ∙ is)) (λ k above small. (refl, refl))

copied_serving : (t : Type') (first second : ℕ → End) (h : ℕ) (c : Contact) → slice_get (contacts_of t) h ≡ Some c → (role : Role) → c.role ≡ role
    → Contains (copied first second 0 (contacts_of t)) (copied_one role (first h) (second h))
copied_serving t first second h c at role is =
    let e : 0 + h ≡ h = omega arith in
    subst (λ (k : ℕ). Contains (copied first second 0 (contacts_of t)) (copied_one role (first k) (second k))) e
    (subst (λ (x : Role). Contains (copied first second 0 (contacts_of t)) (copied_one x (first (0 + h)) (second (0 + h)))) is (copied_there first second 0 h (contacts_of t) c at))

pub name_plan_is_there : NamePlanIsThere
name_plan_is_there x = (
  p,
  record {
    right = right_from_first p x.ty (ImportEnd 0) ResultEnd (λ h c at. at) (λ h c at. ap turned_if at) import_number same_result (λ h k low. import_apart h k);
    imports = refl;
    outcome = refl;
    parts = refl;
    serving = λ h c at role. copied_serving x.ty (ImportEnd 0) ResultEnd h c at Serve role;
    asking = λ h c at role. copied_serving x.ty (ImportEnd 0) ResultEnd h c at Ask role;
  },
)
  where
    p : Plan
    p = record { weight = 0; imports = x ∷ []; outcome = x.ty; parts = []; joints = copied (ImportEnd 0) ResultEnd 0 (contacts_of x.ty) }

pub pair_plan_is_there : PairPlanIsThere
pair_plan_is_there a b = (
  p,
  record {
    right =
        right_from_first p (Pair a b) ResultEnd second (λ h c at. ap turned_if (argument_at a b h c at) ∙ ap Some (turned_contact_twice c))
        (λ h c at. ap turned_if (result_same a b h ∙ at)) (λ h k e. same_result h k e)
        (λ h k e. (let same = same_result (count a + (count b + h)) (count a + (count b + k)) e in omega (arith, same)))
        (λ h k low e. (let same = same_result h (count a + (count b + k)) e in let sum = count_pair a b in omega (arith, low, same, sum)));
    imports = refl;
    outcome = refl;
    parts = refl;
    serving = λ h c at role. copied_serving (Pair a b) ResultEnd second h c at Serve role;
    asking = λ h c at role. copied_serving (Pair a b) ResultEnd second h c at Ask role;
  },
)
  where
    second : ℕ → End
    second h = ResultEnd (count a + (count b + h))

    p : Plan
    p =
        record {
          weight = 0;
          imports = [];
          outcome = Fun a (Fun b (Pair a b));
          parts = [];
          joints = copied ResultEnd second 0 (contacts_of (Pair a b));
        }
