-- What fair flows connect fits: a way from an end can only go on or turn back, and all along it the same handshake is seen.
use Rattle.std.specs.Prelude.{◌≡◌, ◌≢◌, ℕ, zero, suc, List, [], ◌∷◌, ◌⊎◌, map, Some, Contains}
use Rattle.std.proofs.Common.{refl, sym, ◌∙◌, ap, subst, arith, inl, inr}
use Rattle.std.proofs.lemmas.Option.{same_Some}
use Rattle.gos_types.specs.declared.shakes.Role.{Role}
use Rattle.gos_types.specs.declared.shakes.Role.TheVariants.{Serve, Ask}
use Rattle.gos_plan.specs.Kinds.{Contact, asks, serves, turned_contact}
use Rattle.gos_plan.specs.Plans.{End, PartEnd, ImportEnd, ResultEnd, Plan, contact_at}
use Rattle.gos_plan.specs.SmallPlans.{skip_plan}
use Rattle.gos_plan.proofs.ContactLemmas.{turned_contact_twice}
use Rattle.gos_joining.specs.webs.Webs.{Dot, Of, Number, Node, Within, Tie, tie, Meet, Way, here, along, Web}
use Rattle.gos_joining.specs.weaving.Flows.{Flow, tie_in, Leaves, AreFair, FairFits, asked, AskedIsFair, AskingIsUnfair}

-- two roles are one or not
data Alike (r s : Role) : Type 0 where
  same : r ≡ s → Alike r s
  apart : (r ≡ s → ⊥) → Alike r s

role_cases : (r s : Role) → Alike r s
role_cases Serve Serve = same refl
role_cases Serve Ask = apart (λ e. cc e)
role_cases Ask Serve = apart (λ e. cc e)
role_cases Ask Ask = same refl

leaves_back : (fs : List Flow) (q x : Dot) (c : Contact) → Leaves fs q x c → Leaves fs x q (turned_contact c)
leaves_back fs q x c (f, has, inl (a, b, e)) = (f, has, inr (b, a, ap turned_contact e))
leaves_back fs q x c (f, has, inr (a, b, e)) =
    (f, has, inl (b, a, sym (turned_contact_twice f.contact) ∙ ap turned_contact e))

flow_in : (fs : List Flow) (t : Tie) → Contains (map tie_in fs) t → (f : Flow) × Contains fs f × (tie_in f ≡ t)
flow_in [] t (n, small, e) = absurd (omega (arith, small))
flow_in (f ∷ fs) t (zero, small, e) = (f, (0, omega arith, refl), e)
flow_in (f ∷ fs) t (suc n, small, e) =
    let (g, (k, low, is), same_tie) = flow_in fs t (n, omega (arith, small), e) in (g, (suc k, omega (arith, low), is), same_tie)

flow_of : (fs : List Flow) (a b : Dot) → Meet (map tie_in fs) a b → (c : Contact) × Leaves fs a b c
flow_of fs a b (inl has) =
    let (f, among, is) = flow_in fs (tie a b) has in
    (f.contact, (f, among, inl (ap (λ (t : Tie). t.one) is, ap (λ (t : Tie). t.other) is, refl)))
flow_of fs a b (inr has) =
    let (f, among, is) = flow_in fs (tie b a) has in
    (turned_contact f.contact, (f, among, inr (ap (λ (t : Tie). t.other) is, ap (λ (t : Tie). t.one) is, refl)))

module _ (fs : List Flow) (v : Web) (p : Plan) (fair : AreFair fs v p) (a : End) (k : Contact) (at_a : contact_at p a ≡ Some k) where
  -- a chain from the end to a dot, where each dot behind it sees its handshake turned
  data Chain : Dot → Type 0 where
    first : (q : Dot) → Leaves fs q (v.at a) (turned_contact k) → Chain q
    more : (q x : Dot) → Chain x → Leaves fs q x (turned_contact k) → Chain q

  abbrev Reached : Dot → Type 0
  Reached q = (q ≡ v.at a) ⊎ Chain q

  -- on to a dot that is met, or back
  onward : (x y : Dot) (d : Contact) → Chain x → Leaves fs y x d → Reached y
  onward x y d (first q before) next = by_role (role_cases (turned_contact d).role (turned_contact k).role)
    where
      back : Leaves fs q y (turned_contact d)
      back = leaves_back fs y q d next

      by_role : Alike (turned_contact d).role (turned_contact k).role → Reached y
      by_role (same e) = inl (fair.once q y (v.at a) (turned_contact d) (turned_contact k) back before e)
      by_role (apart differ) =
          let fits : turned_contact k ≡ turned_contact (turned_contact d) = fair.through q y (v.at a) (turned_contact d) (turned_contact k) back before differ in
          inr (more y q (first q before) (subst (λ (c : Contact). Leaves fs y q c) (sym (fits ∙ turned_contact_twice d)) next))
  onward x y d (more q z chain before) next = by_role (role_cases (turned_contact d).role (turned_contact k).role)
    where
      back : Leaves fs q y (turned_contact d)
      back = leaves_back fs y q d next

      by_role : Alike (turned_contact d).role (turned_contact k).role → Reached y
      by_role (same e) =
          let same_dot : z ≡ y = fair.once q z y (turned_contact k) (turned_contact d) before back (sym e) in
          inr (subst Chain same_dot chain)
      by_role (apart differ) =
          let fits : turned_contact k ≡ turned_contact (turned_contact d) = fair.through q y z (turned_contact d) (turned_contact k) back before differ in
          inr (more y q (more q z chain before) (subst (λ (c : Contact). Leaves fs y q c) (sym (fits ∙ turned_contact_twice d)) next))

  from_end : (x y : Dot) (d : Contact) → x ≡ v.at a → Leaves fs y x d → Reached y
  from_end x y d is next =
      let there : Leaves fs y (v.at a) d = subst (λ (z : Dot). Leaves fs y z d) is next in
      let seen : k ≡ turned_contact d = fair.ends a k (turned_contact d) y at_a (leaves_back fs y (v.at a) d there) in
      let turned_k : turned_contact k ≡ d = ap turned_contact seen ∙ turned_contact_twice d in
      inr (first y (subst (λ (c : Contact). Leaves fs y (v.at a) c) (sym turned_k) there))

  step : (x y : Dot) (d : Contact) → Reached x → Leaves fs y x d → Reached y
  step x y d (inl is) next = from_end x y d is next
  step x y d (inr chain) next = onward x y d chain next

  walk : (x y : Dot) → Reached x → Way (map tie_in fs) x y → Reached y
  walk x y reached (here z) = reached
  walk x y reached (along u w z meets path) =
      let (c, leaves) = flow_of fs u w meets in
      walk w z (step u w (turned_contact c) reached (leaves_back fs u w c leaves)) path

  at_chain : (b : End) (d : Contact) (x : Dot) → contact_at p b ≡ Some d → Chain x → x ≡ v.at b → d ≡ turned_contact k
  at_chain b d x at_b (first q leaves) is =
      fair.ends b d (turned_contact k) (v.at a) at_b (subst (λ (z : Dot). Leaves fs z (v.at a) (turned_contact k)) is leaves)
  at_chain b d x at_b (more q z chain leaves) is =
      fair.ends b d (turned_contact k) z at_b (subst (λ (w : Dot). Leaves fs w z (turned_contact k)) is leaves)

  ends_fit : (b : End) (d : Contact) → contact_at p b ≡ Some d → a ≢ b → Way (map tie_in fs) (v.at a) (v.at b) → d ≡ turned_contact k
  ends_fit b d at_b differ path = by_end (walk (v.at a) (v.at b) (inl refl) path)
    where
      by_end : Reached (v.at b) → d ≡ turned_contact k
      by_end (inl is) = absurd (differ (fair.apart a b k d at_a at_b (sym is)))
      by_end (inr chain) = at_chain b d (v.at b) at_b chain refl

pub fair_fits : FairFits
fair_fits fs v p fair a b k d at_a at_b differ way =
    ends_fit fs v p fair a k at_a b d at_b differ (subst (λ (ts : List Tie). Way ts (v.at a) (v.at b)) fair.ties way)

-- the web of the plan of `skip`
abbrev end_in : Dot → End
end_in (Of e) = e
end_in (Number n h) = ImportEnd 0 0
end_in (Node n h) = ImportEnd 0 0
end_in (Within k d) = ImportEnd 0 0

abbrev kind : End → ℕ
kind (PartEnd i h) = 0
kind (ImportEnd i h) = 1
kind (ResultEnd h) = 2

-- a flow from a dot leads from the result to the Skip, or back
abbrev IsOut : Dot → Dot → Contact → Type 0
IsOut q x c = (Of (ResultEnd 0) ≡ q) × (Of (PartEnd 0 0) ≡ x) × (asks 0 0 ≡ c)

abbrev IsBack : Dot → Dot → Contact → Type 0
IsBack q x c = (Of (PartEnd 0 0) ≡ q) × (Of (ResultEnd 0) ≡ x) × (serves 0 0 ≡ c)

which : (q x : Dot) (c : Contact) → Leaves (asked ∷ []) q x c → IsOut q x c ⊎ IsBack q x c
which q x c (f, (zero, small, is), inl (one, other, seen)) =
    inl (ap (λ (g : Flow). g.one) is ∙ one, ap (λ (g : Flow). g.other) is ∙ other, ap (λ (g : Flow). g.contact) is ∙ seen)
which q x c (f, (zero, small, is), inr (one, other, seen)) =
    inr (ap (λ (g : Flow). g.other) is ∙ one, ap (λ (g : Flow). g.one) is ∙ other, ap (λ (g : Flow). turned_contact g.contact) is ∙ seen)
which q x c (f, (suc n, small, is), sides) = absurd (omega (arith, small))

not_both : (q : Dot) → Of (ResultEnd 0) ≡ q → Of (PartEnd 0 0) ≡ q → ⊥
not_both q one other =
    let kinds : 2 ≡ 0 = ap (λ (d : Dot). kind (end_in d)) (one ∙ sym other) in omega (arith, kinds)

module _
    (q x y : Dot) (c d : Contact) where
  one_way : IsOut q x c ⊎ IsBack q x c → IsOut q y d ⊎ IsBack q y d → x ≡ y
  one_way (inl (a, b, e)) (inl (a', b', e')) = sym b ∙ b'
  one_way (inl (a, b, e)) (inr (a', b', e')) = absurd (not_both q a a')
  one_way (inr (a, b, e)) (inl (a', b', e')) = absurd (not_both q a' a)
  one_way (inr (a, b, e)) (inr (a', b', e')) = sym b ∙ b'

  one_role : IsOut q x c ⊎ IsBack q x c → IsOut q y d ⊎ IsBack q y d → c.role ≡ d.role
  one_role (inl (a, b, e)) (inl (a', b', e')) = ap (λ (z : Contact). z.role) (sym e ∙ e')
  one_role (inl (a, b, e)) (inr (a', b', e')) = absurd (not_both q a a')
  one_role (inr (a, b, e)) (inl (a', b', e')) = absurd (not_both q a' a)
  one_role (inr (a, b, e)) (inr (a', b', e')) = ap (λ (z : Contact). z.role) (sym e ∙ e')

its_end : (e : End) (k c : Contact) (x : Dot) → contact_at skip_plan e ≡ Some k → IsOut (Of e) x c ⊎ IsBack (Of e) x c → k ≡ c
its_end e k c x at (inl (a, b, seen)) =
    same_Some k c (sym at ∙ (ap (contact_at skip_plan) (sym (ap end_in a)) ∙ ap Some seen))
its_end e k c x at (inr (a, b, seen)) =
    same_Some k c (sym at ∙ (ap (contact_at skip_plan) (sym (ap end_in a)) ∙ ap Some seen))

pub asked_is_fair : AskedIsFair
asked_is_fair =
    record {
      ties = refl;
      once = λ q x y c d first last role. one_way q x y c d (which q x c first) (which q y d last);
      through = λ q x y c d first last role. absurd (role (one_role q x y c d (which q x c first) (which q y d last)));
      ends = λ e k c x at leaves. its_end e k c x at (which (Of e) x c leaves);
      apart = λ d e k l at_d at_e is. ap end_in is;
    }

pub asking_is_unfair : AskingIsUnfair
asking_is_unfair fair =
    let seen : asks 0 0 ≡ serves 0 0 =
    fair.ends (ResultEnd 0) (asks 0 0) (serves 0 0) (Of (PartEnd 0 0)) refl
    (record asked { contact = serves 0 0 }, (0, omega arith, refl), inl (refl, refl, refl)) in
    let roles : Ask ≡ Serve = ap (λ (c : Contact). c.role) seen in
    cc roles
