-- A build has one answer: its bind lines mean one list of services or have one first fault, and so it is with what stands behind them.
use Rattle.std.specs.Prelude.{◌≡◌, ◌≢◌, ◌⊎◌, ℕ, zero, suc, ◌+◌, ◌≤◌, ◌<◌, List, [], ◌∷◌, ◌++◌, length, Option, Some, None, slice_get}
use Rattle.std.proofs.Common.{refl, sym, ◌∙◌, ap, subst, arith, inl, inr}
use Rattle.std.proofs.lemmas.Bool.{cases_lt}
use Rattle.std.proofs.lemmas.Option.{slice_get_within}
use Rattle.gos_types.specs.Types.{IsDone}
use Rattle.gos_model.specs.Typing.{Imported}
use Rattle.gos_model.proofs.NumberLemmas.{number_cases}
use Rattle.gos_ties.proofs.OrderLemmas.{one_order}
use Rattle.gos_plan.specs.Plans.{Plan}
use Rattle.gos_plan.specs.Seen.{SeenPlan}
use Rattle.gos_plan.specs.Size.{plan_size}
use Rattle.gos_plan.specs.Joining.{Wiring, LeftImport, all_left, all_weight, origin, IsJoining, IsSameButOrder, JoiningIsOne}
use Rattle.gos_link.specs.declared.build.Instance.{Instance}
use Rattle.gos_link.specs.declared.build.Bind.{Bind}
use Rattle.gos_link.specs.declared.build.Build.{Build}
use Rattle.gos_link.specs.declared.services.Service.{Service}
use Rattle.gos_link.specs.declared.fault.LinkFault.{LinkFault}
use Rattle.gos_link.specs.declared.fault.LinkFault.TheVariants as faults
use Rattle.gos_link.specs.Services.{instance_named, BindsOn}
use Rattle.gos_link.specs.Linked.{Port, IsFirstHigher, IsSecond, IsPlaced, IsNamed, IsGrounded, IsLight, IsOfLinks, IsWrongWhole, count_ports, first_unplaced, outcome_of, plans_of, ports_of, whole_of, wiring_of}
use Rattle.gos_link.specs.Order.{ends_from, position_in, AreInOrder}
use Rattle.gos_link.specs.Answers.{IsSameFault, LinkedIsOne, HasOneFault, LinkedHasNoFault}
use Rattle.gos_link.specs.Faces.{LinksHaveNoFault, LinksAreOne}
use Rattle.gos_link.proofs.PortLemmas.{same_at}
use Rattle.gos_link.proofs.FewLemmas.{same_size}
use Rattle.gos_link.proofs.ServiceLemmas.{in_contained, contains_in}
use Rattle.gos_link.proofs.JoinedLemmas.{has_in, in_has}
use Rattle.gos_link.proofs.FaceLemmas.{binds_too, same_faces}
use Rattle.gos_link.proofs.StageLemmas.{both_are, same_some, some_none, one_stage, never_passes, one_meaning, one_wrong, right_or_wrong}

-- how bind lines end
abbrev SameEnding : Option LinkFault → Option LinkFault → Type 0
SameEnding None None = Unit {0}
SameEnding None (Some g) = ⊥
SameEnding (Some f) None = ⊥
SameEnding (Some f) (Some g) = IsSameFault f g

abbrev Agree : List Service → List Service → Option LinkFault → Option LinkFault → Type 0
Agree ss ts e f = (ss ≡ ts) × SameEnding e f

binds_agree : (is : List Instance) (ps : List SeenPlan) (before : List Service) (bs : List Bind) (ss ts : List Service) (e f : Option LinkFault)
    → BindsOn is ps before bs ss e → BindsOn is ps before bs ts f → Agree ss ts e f
binds_agree is ps before [] [] [] e f one other = (refl, ends e f one other)
  where
    ends : (e f : Option LinkFault) → e ≡ None → f ≡ None → SameEnding e f
    ends None None a b = tt
    ends None (Some g) a b = absurd (cc b)
    ends (Some g) f a b = absurd (cc a)
binds_agree is ps before [] [] (t ∷ ts) e f one other = absurd other
binds_agree is ps before [] (s ∷ ss) ts e f one other = absurd one
binds_agree is ps before (b ∷ bs) [] [] None f one other = absurd one
binds_agree is ps before (b ∷ bs) [] [] (Some e) None one other = absurd other
binds_agree is ps before (b ∷ bs) [] [] (Some e) (Some f) one other = (refl, one_wrong is ps before b e f one other)
binds_agree is ps before (b ∷ bs) [] (t ∷ ts) None f one other = absurd one
binds_agree is ps before (b ∷ bs) [] (t ∷ ts) (Some e) f one other = absurd (right_or_wrong is ps before b t e other.0 one)
binds_agree is ps before (b ∷ bs) (s ∷ ss) [] e None one other = absurd other
binds_agree is ps before (b ∷ bs) (s ∷ ss) [] e (Some f) one other = absurd (right_or_wrong is ps before b s f one.0 other)
binds_agree is ps before (b ∷ bs) (s ∷ ss) (t ∷ ts) e f one other =
    let same : s ≡ t = one_meaning is ps before b s t one.0.means other.0.means in
    let (rest, ends) = binds_agree is ps (before ++ t ∷ []) bs ss ts e f
    (subst (λ (r : Service). BindsOn is ps (before ++ r ∷ []) bs ss e) same one.1) other.1 in
    ((λ i. same i ∷ rest i), ends)

-- the first port whose name one before it has is one, and so is that one
second_is_one : (ports : List Port) (a b c d : Port) → IsSecond ports a b → IsSecond ports c d → (a ≡ c) × (b ≡ d)
second_is_one ports a b c d one other =
    number_cases one.second other.second
    (λ e t.
    let second : b ≡ d = same_at ports one.second other.second b d e one.at_second other.at_second in
    let names : a.name ≡ c.name = one.same ∙ (ap (λ (p : Port). p.name) second ∙ sym other.same) in
    number_cases one.first other.first
    (λ f u. (same_at ports one.first other.first a c f one.at_first other.at_first, second))
    (λ f u. absurd (apart f names (cases_lt one.first other.first))))
    (λ e t. absurd (earlier e (cases_lt one.second other.second)))
  where
    earlier : one.second ≢ other.second → (one.second < other.second) ⊎ (other.second ≤ one.second) → ⊥
    earlier e (inl low) = other.different one.first one.second a b one.before low one.at_first one.at_second one.same
    earlier e (inr low) =
        one.different other.first other.second c d other.before (omega (arith, low, e)) other.at_first other.at_second other.same

    apart : one.first ≢ other.first → a.name ≡ c.name → (one.first < other.first) ⊎ (other.first ≤ one.first) → ⊥
    apart e names (inl low) = other.different one.first other.first a c low other.before one.at_first other.at_first names
    apart e names (inr low) =
        one.different other.first one.first c a (omega (arith, low, e)) one.before other.at_first one.at_first (sym names)

-- and so is the first import whose type isn't ground
higher_is_one : (imports : List LeftImport) (l m : LeftImport) → IsFirstHigher imports l → IsFirstHigher imports m → l ≡ m
higher_is_one imports l m one other =
    number_cases one.number other.number
    (λ e t. same_at imports one.number other.number l m e one.at other.at)
    (λ e t. absurd (earlier e (cases_lt one.number other.number)))
  where
    earlier : one.number ≢ other.number → (one.number < other.number) ⊎ (other.number ≤ one.number) → ⊥
    earlier e (inl low) = one.higher (other.ground one.number l low one.at)
    earlier e (inr low) = other.higher (one.ground other.number m (omega (arith, low, e)) other.at)

module _ (joins_one : JoiningIsOne) (b : Build) (ps : List SeenPlan) (ss : List Service) where
  abbrev all_ports : ℕ → List Port
  all_ports root = ports_of b (whole_of ps ss root)

  abbrev result_done : ℕ → Type 0
  result_done root = IsDone (outcome_of (slice_get (plans_of ps) root))

  abbrev is_small : Plan → Type 0
  is_small p = (plan_size p ≤ 5000000) × (count_ports p ≤ 65536)

  -- the stages behind the lines: a root, places, names, a result that ends, ground imports, weight, size
  abbrev Passed : ℕ → Type 0
  Passed zero = Unit {0}
  Passed (suc zero) = (root : ℕ) × (instance_named b.instances.items b.root ≡ Some root)
  Passed (suc (suc zero)) = (root : ℕ) × IsPlaced b ss root
  Passed (suc (suc (suc zero))) = (root : ℕ) × IsNamed b ps ss root
  Passed (suc (suc (suc (suc zero)))) = (root : ℕ) × IsNamed b ps ss root × result_done root
  Passed (suc (suc (suc (suc (suc zero))))) = (root : ℕ) × IsGrounded b ps ss root
  Passed (suc (suc (suc (suc (suc (suc zero)))))) = (root : ℕ) × IsLight b ps ss root
  Passed (suc (suc (suc (suc (suc (suc (suc zero))))))) =
      (root : ℕ) × (p : Plan) × IsLight b ps ss root × IsJoining (whole_of ps ss root) p × is_small p
  Passed (suc (suc (suc (suc (suc (suc (suc (suc n)))))))) = ⊥

  abbrev Stopped : ℕ → LinkFault → Type 0
  Stopped zero f = (f ≡ faults.NoInstance b.root_line b.root) × (instance_named b.instances.items b.root ≡ None)
  Stopped (suc zero) f =
      (root : ℕ) × (name : List ℕ) × (f ≡ faults.Unplaced name) × (instance_named b.instances.items b.root ≡ Some root)
      × (first_unplaced root ss 0 b.instances.items ≡ Some name)
  Stopped (suc (suc zero)) f =
      (root : ℕ) × (one other : Port) × (f ≡ faults.OpenTwice other.name one.instance other.instance) × IsPlaced b ss root
      × IsSecond (all_ports root) one other
  Stopped (suc (suc (suc zero))) f = (root : ℕ) × (f ≡ faults.NotGround b.root) × IsNamed b ps ss root × (result_done root → ⊥)
  Stopped (suc (suc (suc (suc zero)))) f =
      (root : ℕ) × (l : LeftImport) × (f ≡ faults.NotGround l.import.name) × IsNamed b ps ss root × result_done root
      × IsFirstHigher (all_left (whole_of ps ss root)) l
  Stopped (suc (suc (suc (suc (suc zero))))) f =
      (root : ℕ) × (f ≡ faults.TooHeavy (all_weight (plans_of ps))) × IsGrounded b ps ss root × (32768 < all_weight (plans_of ps))
  Stopped (suc (suc (suc (suc (suc (suc zero)))))) f =
      (root : ℕ) × (p : Plan) × (f ≡ faults.TooLarge (plan_size p) (count_ports p)) × IsLight b ps ss root × IsJoining (whole_of ps ss root) p
      × ((5000000 < plan_size p) ⊎ (65536 < count_ports p))
  Stopped (suc (suc (suc (suc (suc (suc (suc n))))))) f = ⊥

  down : (n : ℕ) → Passed (suc n) → Passed n
  down zero p = tt
  down (suc zero) (root, placed) = (root, placed.finds_root)
  down (suc (suc zero)) (root, named) = (root, named.placed)
  down (suc (suc (suc zero))) (root, named, done) = (root, named)
  down (suc (suc (suc (suc zero)))) (root, grounded) = (root, grounded.named, grounded.result)
  down (suc (suc (suc (suc (suc zero))))) (root, light) = (root, light.grounded)
  down (suc (suc (suc (suc (suc (suc zero)))))) (root, p, light, joining, small) = (root, light)
  down (suc (suc (suc (suc (suc (suc (suc n))))))) p = absurd p

  reached : (n : ℕ) (f : LinkFault) → Stopped n f → Passed n
  reached zero f a = tt
  reached (suc zero) f (root, name, e, finds, unplaced) = (root, finds)
  reached (suc (suc zero)) f (root, one, other, e, placed, second) = (root, placed)
  reached (suc (suc (suc zero))) f (root, e, named, never) = (root, named)
  reached (suc (suc (suc (suc zero)))) f (root, l, e, named, done, higher) = (root, named, done)
  reached (suc (suc (suc (suc (suc zero))))) f (root, e, grounded, heavy) = (root, grounded)
  reached (suc (suc (suc (suc (suc (suc zero)))))) f (root, p, e, light, joining, large) = (root, light)
  reached (suc (suc (suc (suc (suc (suc (suc n))))))) f a = absurd a

  one_root : (m n : ℕ) → instance_named b.instances.items b.root ≡ Some m → instance_named b.instances.items b.root ≡ Some n → m ≡ n
  one_root m n e f = same_some (instance_named b.instances.items b.root) m n e f

  -- joinings are equally large
  record SameSize (p q : Plan) : Type 0 where
    size : plan_size p ≡ plan_size q
    ports : count_ports p ≡ count_ports q

  equally_large : (m n : ℕ) (p q : Plan) → m ≡ n → IsJoining (whole_of ps ss m) p → IsJoining (whole_of ps ss n) q → SameSize p q
  equally_large m n p q e one other =
      let there : IsJoining (whole_of ps ss n) p = subst (λ (k : ℕ). IsJoining (whole_of ps ss k) p) e one in
      let same = joins_one (whole_of ps ss n) p q there other in
      record { size = same_size p q there.right other.right same; ports = ap (λ (xs : List Imported). length xs + 1) same.imports }

  clash : (n : ℕ) (f : LinkFault) → Stopped n f → Passed (suc n) → ⊥
  clash zero f (e, none) (root, finds) = some_none (instance_named b.instances.items b.root) root finds none
  clash (suc zero) f (root, name, e, finds, unplaced) (other, placed) =
      let same : root ≡ other = one_root root other finds placed.finds_root in
      some_none (first_unplaced root ss 0 b.instances.items) name unplaced
      (ap (λ (k : ℕ). first_unplaced k ss 0 b.instances.items) same ∙ placed.placed)
  clash (suc (suc zero)) f (root, one, other, e, placed, second) (k, named) =
      let same : root ≡ k = one_root root k placed.finds_root named.placed.finds_root in
      let there = subst (λ (n : ℕ). IsSecond (all_ports n) one other) same second in
      named.names there.first there.second one other there.before (slice_get_within (all_ports k) there.second other there.at_second) there.at_first there.at_second there.same
  clash (suc (suc (suc zero))) f (root, e, named, never) (k, again, done) =
      let same : root ≡ k = one_root root k named.placed.finds_root again.placed.finds_root in
      never (subst (λ (n : ℕ). result_done n) (sym same) done)
  clash (suc (suc (suc (suc zero)))) f (root, l, e, named, done, higher) (k, grounded) =
      let same : root ≡ k = one_root root k named.placed.finds_root grounded.named.placed.finds_root in
      let there = subst (λ (n : ℕ). IsFirstHigher (all_left (whole_of ps ss n)) l) same higher in
      there.higher (grounded.imports there.number l (slice_get_within (all_left (whole_of ps ss k)) there.number l there.at) there.at)
  clash (suc (suc (suc (suc (suc zero))))) f (root, e, grounded, heavy) (k, light) = let low = light.weight in absurd (omega (arith, heavy, low))
  clash (suc (suc (suc (suc (suc (suc zero)))))) f (root, p, e, light, joining, large) (k, q, also, other, (small, few)) =
      let same : root ≡ k = one_root root k light.grounded.named.placed.finds_root also.grounded.named.placed.finds_root in
      let sizes = equally_large root k p q same joining other in
      let size = sizes.size in
      let count = sizes.ports in
      elim large [ inl h ↦ absurd (omega (arith, h, small, size)) | inr h ↦ absurd (omega (arith, h, few, count)) ]
  clash (suc (suc (suc (suc (suc (suc (suc n))))))) f a p = absurd a

  stops : (f : LinkFault) → IsWrongWhole b ps ss f → (n : ℕ) × (suc n ≤ 7) × Stopped n f
  stops (faults.NoInstance line name) (at, same, none) = (0, omega arith, ((λ i. faults.NoInstance (at i) (same i)), none))
  stops (faults.Unplaced name) (root, finds, unplaced) = (1, omega arith, (root, name, refl, finds, unplaced))
  stops (faults.OpenTwice name first second) (root, one, other, placed, seconds, is, at, and) =
      (2, omega arith, (root, one, other, (λ i. faults.OpenTwice (is i) (at i) (and i)), placed, seconds))
  stops (faults.NotGround name) (root, named, inl (never, is)) = (3, omega arith, (root, ap faults.NotGround is, named, never))
  stops (faults.NotGround name) (root, named, inr (done, l, higher, is)) = (4, omega arith, (root, l, ap faults.NotGround is, named, done, higher))
  stops (faults.TooHeavy weight) (root, grounded, is, heavy) =
      (5, omega arith, (root, ap faults.TooHeavy is, grounded, omega (arith, is, heavy)))
  stops (faults.TooLarge size ports) (root, p, light, joining, is, count, large) = (
    6,
    omega arith,
    (
      root,
      p,
      (λ i. faults.TooLarge (is i) (count i)),
      light,
      joining,
      (elim large [ inl h ↦ inl (omega (arith, h, is)) | inr h ↦ inr (omega (arith, h, count)) ]),
    ),
  )
  stops (faults.Form line) w = absurd w
  stops (faults.NoImport line name) w = absurd w
  stops (faults.TypeDiffers line want got) w = absurd w
  stops (faults.BoundTwice first second) w = absurd w
  stops (faults.UsedTwice first second) w = absurd w
  stops (faults.Loop line) w = absurd w
  stops faults.NoMemory w = absurd w

  same : (n : ℕ) (f g : LinkFault) → Stopped n f → Stopped n g → IsSameFault f g
  same zero f g (e, none) (h, absent) = both_are f g _ _ e h refl
  same (suc zero) f g (root, name, e, finds, unplaced) (k, other, h, found, again) =
      let same : root ≡ k = one_root root k finds found in
      both_are f g _ _ e h
      (ap faults.Unplaced
      (same_some (first_unplaced root ss 0 b.instances.items) name other unplaced
      (ap (λ (n : ℕ). first_unplaced n ss 0 b.instances.items) same ∙ again)))
  same (suc (suc zero)) f g (root, one, other, e, placed, second) (k, third, fourth, h, again, next) =
      let same : root ≡ k = one_root root k placed.finds_root again.finds_root in
      let there = subst (λ (n : ℕ). IsSecond (all_ports n) one other) same second in
      let (a, c) = second_is_one (all_ports k) one other third fourth there next in
      both_are f g _ _ e h (λ i. faults.OpenTwice (c i).name (a i).instance (c i).instance)
  same (suc (suc (suc zero))) f g a c = both_are f g _ _ a.1 c.1 refl
  same (suc (suc (suc (suc zero)))) f g (root, l, e, named, done, higher) (k, m, h, again, ended, next) =
      let same : root ≡ k = one_root root k named.placed.finds_root again.placed.finds_root in
      let there = subst (λ (n : ℕ). IsFirstHigher (all_left (whole_of ps ss n)) l) same higher in
      both_are f g _ _ e h (ap (λ (x : LeftImport). faults.NotGround x.import.name) (higher_is_one (all_left (whole_of ps ss k)) l m there next))
  same (suc (suc (suc (suc (suc zero))))) f g a c = both_are f g _ _ a.1 c.1 refl
  same (suc (suc (suc (suc (suc (suc zero)))))) f g (root, p, e, light, joining, large) (k, q, h, also, other, again) =
      let same : root ≡ k = one_root root k light.grounded.named.placed.finds_root also.grounded.named.placed.finds_root in
      let sizes = equally_large root k p q same joining other in
      both_are f g _ _ e h (λ i. faults.TooLarge (sizes.size i) (sizes.ports i))
  same (suc (suc (suc (suc (suc (suc (suc n))))))) f g a c = absurd a

  one_whole : (f g : LinkFault) → IsWrongWhole b ps ss f → IsWrongWhole b ps ss g → IsSameFault f g
  one_whole f g a c =
      let (m, low, one) = stops f a in
      let (n, small, other) = stops g c in
      let at : m ≡ n = one_stage Passed down Stopped reached clash m n f g one other in
      same n f g (subst (λ (k : ℕ). Stopped k f) at one) other

  never_both : (root : ℕ) (p : Plan) (f : LinkFault) → IsLight b ps ss root → IsJoining (whole_of ps ss root) p → is_small p → IsWrongWhole b ps ss f → ⊥
  never_both root p f light joining small wrong =
      let (m, low, one) = stops f wrong in never_passes Passed down Stopped clash m 7 f low one (root, p, light, joining, small)

  -- what is wrong of links is wrong before the weight
  stops_early : (f : LinkFault) → IsOfLinks f → IsWrongWhole b ps ss f → (n : ℕ) × (suc n ≤ 5) × Stopped n f
  stops_early (faults.TooHeavy weight) light w = absurd light
  stops_early (faults.TooLarge size ports) light w = absurd light
  stops_early (faults.NoInstance line name) light (at, same, none) = (0, omega arith, ((λ i. faults.NoInstance (at i) (same i)), none))
  stops_early (faults.Unplaced name) light (root, finds, unplaced) = (1, omega arith, (root, name, refl, finds, unplaced))
  stops_early (faults.OpenTwice name first second) light (root, one, other, placed, seconds, is, at, and) =
      (2, omega arith, (root, one, other, (λ i. faults.OpenTwice (is i) (at i) (and i)), placed, seconds))
  stops_early (faults.NotGround name) light (root, named, inl (never, is)) = (3, omega arith, (root, ap faults.NotGround is, named, never))
  stops_early (faults.NotGround name) light (root, named, inr (done, l, higher, is)) = (4, omega arith, (root, l, ap faults.NotGround is, named, done, higher))
  stops_early (faults.Form line) light w = absurd w
  stops_early (faults.NoImport line name) light w = absurd w
  stops_early (faults.TypeDiffers line want got) light w = absurd w
  stops_early (faults.BoundTwice first second) light w = absurd w
  stops_early (faults.UsedTwice first second) light w = absurd w
  stops_early (faults.Loop line) light w = absurd w
  stops_early faults.NoMemory light w = absurd w

  never_grounded : (root : ℕ) (f : LinkFault) → IsGrounded b ps ss root → IsOfLinks f → IsWrongWhole b ps ss f → ⊥
  never_grounded root f grounded light wrong =
      let (m, low, one) = stops_early f light wrong in never_passes Passed down Stopped clash m 5 f low one (root, grounded)

pub linked_is_one : JoiningIsOne → LinkedIsOne
linked_is_one joins_one b ps qs p q seen one other = λ i.
    record { weight = alike.weight i; imports = alike.imports i; outcome = alike.outcome i; parts = alike.parts i; joints = joints i }
  where
    services : one.services ≡ other.services
    services =
        (binds_agree b.instances.items qs [] b.binds.items one.services other.services None None
        (binds_too ps qs (same_faces ps qs seen) b.instances.items [] b.binds.items one.services None one.binds) other.binds).0

    roots : one.root ≡ other.root
    roots =
        same_some (instance_named b.instances.items b.root) one.root other.root one.light.grounded.named.placed.finds_root
        other.light.grounded.named.placed.finds_root

    wirings : whole_of ps one.services one.root ≡ whole_of qs other.services other.root
    wirings = λ i. wiring_of (seen i) (services i) (roots i)

    alike : IsSameButOrder p q
    alike = joins_one (whole_of qs other.services other.root) p q (subst (λ (w : Wiring). IsJoining w p) wirings one.joining) other.joining

    order : AreInOrder (whole_of qs other.services other.root) p.joints
    order = subst (λ (w : Wiring). AreInOrder w p.joints) wirings one.order

    joints : p.joints ≡ q.joints
    joints =
        one_order (λ j. position_in (ends_from 0 (plans_of qs)) (origin (whole_of qs other.services other.root) j.asking)) 0 0 p.joints q.joints
        order other.order
        (λ j h. in_has q.joints j (in_contained q.joints j ((alike.joints j).0 (contains_in p.joints j (has_in p.joints j h)))))
        (λ j h. in_has p.joints j (in_contained p.joints j ((alike.joints j).1 (contains_in q.joints j (has_in q.joints j h)))))

pub has_one_fault : JoiningIsOne → HasOneFault
has_one_fault joins_one b ps f g (inl (ss, one)) (inl (ts, other)) = (binds_agree b.instances.items ps [] b.binds.items ss ts (Some f) (Some g) one other).1
has_one_fault joins_one b ps f g (inl (ss, one)) (inr (ts, other, wrong)) =
    absurd (binds_agree b.instances.items ps [] b.binds.items ss ts (Some f) None one other).1
has_one_fault joins_one b ps f g (inr (ss, one, wrong)) (inl (ts, other)) =
    absurd (binds_agree b.instances.items ps [] b.binds.items ss ts None (Some g) one other).1
has_one_fault joins_one b ps f g (inr (ss, one, wrong)) (inr (ts, other, also)) =
    let (same, ends) = binds_agree b.instances.items ps [] b.binds.items ss ts None None one other in
    one_whole joins_one b ps ts f g (subst (λ (us : List Service). IsWrongWhole b ps us f) same wrong) also

pub linked_has_no_fault : JoiningIsOne → LinkedHasNoFault
linked_has_no_fault joins_one b ps p f linked (inl (ts, other)) =
    absurd (binds_agree b.instances.items ps [] b.binds.items linked.services ts None (Some f) linked.binds other).1
linked_has_no_fault joins_one b ps p f linked (inr (ts, other, wrong)) =
    let (same, ends) = binds_agree b.instances.items ps [] b.binds.items linked.services ts None None linked.binds other in
    never_both joins_one b ps linked.services linked.root p f linked.light linked.joining (linked.small, linked.few)
    (subst (λ (us : List Service). IsWrongWhole b ps us f) (sym same) wrong)

pub links_have_no_fault : JoiningIsOne → LinksHaveNoFault
links_have_no_fault joins_one b ps all f links light (inl (ts, other)) =
    absurd (binds_agree b.instances.items ps [] b.binds.items all.services ts None (Some f) links.binds other).1
links_have_no_fault joins_one b ps all f links light (inr (ts, other, wrong)) =
    let (same, ends) = binds_agree b.instances.items ps [] b.binds.items all.services ts None None links.binds other in
    never_grounded joins_one b ps all.services all.root f links.grounded light (subst (λ (us : List Service). IsWrongWhole b ps us f) (sym same) wrong)

pub links_are_one : LinksAreOne
links_are_one b ps one other links also =
    let (services, ends) = binds_agree b.instances.items ps [] b.binds.items one.services other.services None None links.binds also.binds in
    let root = same_some (instance_named b.instances.items b.root) one.root other.root links.grounded.named.placed.finds_root also.grounded.named.placed.finds_root in
    λ i. record { services = services i; root = root i }
