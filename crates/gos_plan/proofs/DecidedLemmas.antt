-- Whether an element comes in order, and whether a list is orderly, can be told.
--
-- All that is asked is about finitely many ends: those of the parts that there are. A possible element leads to one
-- token state, and to one set of open handshakes.
use Rattle.std.specs.Prelude.{Option, None, ◌≤◌}
use Rattle.std.proofs.Common.{◌≡◌, inl, inr, ◌⊎◌, ℕ, zero, suc, Bool, true, false, List, [], ◌∷◌, Some, slice_get, length, refl, sym, ◌∙◌, ap, subst, arith}
use Rattle.std.proofs.lemmas.Option.{slice_get_past}
use Rattle.gos_types.specs.Events.{Direction, Request, Answer}
use Rattle.gos_plan.specs.Kinds.{Part, Contact}
use Rattle.gos_plan.specs.Firing.{Slot, Req, Ans, Token, Row}
use Rattle.gos_plan.specs.Plans.{End, PartEnd, Plan, contacts_of_part, contact_at}
use Rattle.gos_plan.specs.Tokens.{Tokens, Element, Fire, Out, In, with_token, with_state, token_at, end_of, way_of, way_taken, way_put, firing_of, fired, Passes, Does}
use Rattle.gos_plan.specs.Turns.{IsEmptyAt}
use Rattle.gos_plan.specs.Orderly.{handshake_at, Open, after_taken, after_put, ComesWell, AllComeWell, after_puts, ComesInOrder, AllWelcome, OrderlyFrom}
use Rattle.gos_plan.specs.Decided.{ElementsLeadOneWay, OrderIsDecided, ListsAreDecided, OrderlyIsPossible}

abbrev pub Told : Type 0 → Type 0
Told A = A ⊎ (A → ⊥)

pub both : {A B : Type 0} → Told A → Told B → Told (A × B)
both (inl a) (inl b) = inl (a, b)
both (inl a) (inr fails) = inr (λ h. fails h.1)
both (inr fails) b = inr (λ h. fails h.0)

told_bool : (b c : Bool) → Told (b ≡ c)
told_bool true true = inl refl
told_bool true false = inr (λ e. cc e)
told_bool false true = inr (λ e. cc e)
told_bool false false = inl refl

pub told_way : (a b : Direction) → Told (a ≡ b)
told_way Request Request = inl refl
told_way Request Answer = inr (λ e. cc e)
told_way Answer Request = inr (λ e. cc e)
told_way Answer Answer = inl refl

told_none : (f : Option ℕ) → Told (f ≡ None)
told_none None = inl refl
told_none (Some v) = inr (λ e. cc e)

-- a fact of numbers that is so from some number on
here_or_past : (n m : ℕ) → n ≤ m → (n ≡ m) ⊎ (suc n ≤ m)
here_or_past zero zero h = inl refl
here_or_past zero (suc m) h = inr (omega arith)
here_or_past (suc n) zero h = absurd (omega (arith, h))
here_or_past (suc n) (suc m) h =
    elim (here_or_past n m (omega (arith, h))) [
      | inl same ↦ inl (ap suc same)
      | inr past ↦ inr (omega (arith, past))
    ]

told_all : (P : ℕ → Type 0) → ((n : ℕ) → Told (P n)) → (n : ℕ) → ((m : ℕ) → n ≤ m → P m) → Told ((m : ℕ) → P m)
told_all P each zero past = inl (λ m. past m (omega arith))
told_all P each (suc n) past =
    elim (each n) [
      | inl here ↦
          told_all P each n (λ m h. elim (here_or_past n m h) [
            | inl same ↦ subst P same here
            | inr later ↦ past m later
          ])
      | inr fails ↦ inr (λ all. fails (all n))
    ]

-- a token at one slot of a part
abbrev WelcomeAt : Plan → Tokens → ℕ → Slot → Type 0
WelcomeAt p s i t =
    (c : Contact) (v : ℕ) → contact_at p (end_of i t) ≡ Some c → way_taken c.role ≡ way_of t → token_at p s (end_of i t) (way_of t) ≡ Some v
    → (r : Row) × (firing_of (slice_get p.parts i) (s.state i) t ≡ Some r)

no_end : (p : Plan) (s : Tokens) (i : ℕ) (t : Slot) → contact_at p (end_of i t) ≡ None → WelcomeAt p s i t
no_end p s i t none = λ c v there. let fails : None ≡ Some c = sym none ∙ there in absurd (cc fails)

told_slot : (p : Plan) (s : Tokens) (i : ℕ) (t : Slot) → Told (WelcomeAt p s i t)
told_slot p s i t = of_contact (contact_at p (end_of i t)) refl
  where
    of_firing : (d : Contact) (x : ℕ) (f : Option Row) → contact_at p (end_of i t) ≡ Some d → way_taken d.role ≡ way_of t
        → token_at p s (end_of i t) (way_of t) ≡ Some x → firing_of (slice_get p.parts i) (s.state i) t ≡ f → Told (WelcomeAt p s i t)
    of_firing d x None there way lies fires =
        inr (λ welcome. let w = welcome d x there way lies in
        let fails : None ≡ Some w.0 = sym fires ∙ w.1 in cc fails)
    of_firing d x (Some r) there way lies fires = inl (λ c v also same lying. (r, fires))

    of_token : (d : Contact) (f : Option ℕ) → contact_at p (end_of i t) ≡ Some d → way_taken d.role ≡ way_of t
        → token_at p s (end_of i t) (way_of t) ≡ f → Told (WelcomeAt p s i t)
    of_token d None there way lies = inl (λ c v also same lying. let fails : None ≡ Some v = sym lies ∙ lying in absurd (cc fails))
    of_token d (Some x) there way lies = of_firing d x (firing_of (slice_get p.parts i) (s.state i) t) there way lies refl

    of_way : (d : Contact) → contact_at p (end_of i t) ≡ Some d → Told (way_taken d.role ≡ way_of t) → Told (WelcomeAt p s i t)
    of_way d there (inl way) = of_token d (token_at p s (end_of i t) (way_of t)) there way refl
    of_way d there (inr fails) =
        inl (λ c v also same lying. let is : c ≡ d = cc (there, also) in
        absurd (fails (subst (λ (x : Contact). way_taken x.role ≡ way_of t) is same)))

    of_contact : (f : Option Contact) → contact_at p (end_of i t) ≡ f → Told (WelcomeAt p s i t)
    of_contact None none = inl (no_end p s i t none)
    of_contact (Some d) there = of_way d there (told_way (way_taken d.role) (way_of t))

-- so of all slots of a part, and of all parts
abbrev WelcomeBoth : Plan → Tokens → ℕ → ℕ → Type 0
WelcomeBoth p s i h = WelcomeAt p s i (Req h) × WelcomeAt p s i (Ans h)

told_part : (p : Plan) (s : Tokens) (i : ℕ) → Told ((h : ℕ) → WelcomeBoth p s i h)
told_part p s i =
    told_all (WelcomeBoth p s i) (λ h. both (told_slot p s i (Req h)) (told_slot p s i (Ans h))) (length (contacts_of_part (slice_get p.parts i)))
    (λ h past. let none = slice_get_past (contacts_of_part (slice_get p.parts i)) h past in (no_end p s i (Req h) none, no_end p s i (Ans h) none))

told_parts : (p : Plan) (s : Tokens) → Told ((i : ℕ) (h : ℕ) → WelcomeBoth p s i h)
told_parts p s =
    told_all (λ (i : ℕ). (h : ℕ) → WelcomeBoth p s i h) (told_part p s) (length p.parts)
    (λ i past h. let none : contact_at p (PartEnd i h) ≡ None = ap (λ (f : Option Part). slice_get (contacts_of_part f) h) (slice_get_past p.parts i past) in
    (no_end p s i (Req h) none, no_end p s i (Ans h) none))

told_welcome : (p : Plan) (s : Tokens) → Told (AllWelcome p s)
told_welcome p s =
    elim (told_parts p s) [
      | inl all ↦ inl (by_slot all)
      | inr fails ↦ inr (λ welcome. fails (λ i h. (welcome i (Req h), welcome i (Ans h))))
    ]
  where
    by_slot : ((i : ℕ) (h : ℕ) → WelcomeBoth p s i h) → (i : ℕ) (t : Slot) → WelcomeAt p s i t
    by_slot all i (Req h) = (all i h).0
    by_slot all i (Ans h) = (all i h).1

-- whether tokens come well
told_empty : (p : Plan) (s : Tokens) (e : End) → Told (IsEmptyAt p s e)
told_empty p s e =
    elim (both (told_none (token_at p s e Request)) (told_none (token_at p s e Answer))) [
      | inl h ↦ inl (by_way h)
      | inr fails ↦ inr (λ empty. fails (empty Request, empty Answer))
    ]
  where
    by_way : (token_at p s e Request ≡ None) × (token_at p s e Answer ≡ None) → IsEmptyAt p s e
    by_way h Request = h.0
    by_way h Answer = h.1

told_well : (p : Plan) (e : End) (way : Direction) (o : Open) (s : Tokens) → Told (ComesWell p e way o s)
told_well p e Request o s = told_bool (o (handshake_at p e)) false
told_well p e Answer o s = both (told_bool (o (handshake_at p e)) true) (told_empty p s e)

told_all_well : (p : Plan) (i : ℕ) (ts : List Token) (o : Open) (s : Tokens) → Told (AllComeWell p i ts o s)
told_all_well p i [] o s = inl tt
told_all_well p i (t ∷ ts) o s =
    both (told_well p (end_of i t.slot) (way_of t.slot) o s)
    (told_all_well p i ts (after_put p (end_of i t.slot) (way_of t.slot) o) (with_token p (end_of i t.slot) (way_of t.slot) (Some t.value) s))

-- whether an element comes in order
told_order : (p : Plan) (x : Element) (o : Open) (s t : Tokens) → Does p x s t
    → ((u : Open) × ComesInOrder p x s o u) ⊎ ((u : Open) → ComesInOrder p x s o u → ⊥)
told_order p (Fire i slot) o s t (v, r, lies, fires, leads) = by_tokens (told_all_well p i (r.puts v) before (between r v))
  where
    before : Open
    before = after_taken p (end_of i slot) (way_of slot) o

    between : Row → ℕ → Tokens
    between y n = with_state i (y.next n) (with_token p (end_of i y.takes) (way_of y.takes) None s)

    by_tokens : Told (AllComeWell p i (r.puts v) before (between r v))
        → ((u : Open) × ComesInOrder p (Fire i slot) s o u) ⊎ ((u : Open) → ComesInOrder p (Fire i slot) s o u → ⊥)
    by_tokens (inl well) =
        inl (
          after_puts p i (r.puts v) before,
          λ n y lying firing.
              let value : v ≡ n = cc (lies, lying) in
              let is : r ≡ y = cc (fires, firing) in
              subst (λ (z : Row). AllComeWell p i (z.puts n) before (between z n) × (after_puts p i (r.puts v) before ≡ after_puts p i (z.puts n) before)) is
              (subst (λ (m : ℕ). AllComeWell p i (r.puts m) before (between r m) × (after_puts p i (r.puts v) before ≡ after_puts p i (r.puts m) before)) value
              (well, refl)),
        )
    by_tokens (inr fails) = inr (λ u comes. fails (comes v r lies fires).0)
told_order p (Out e v) o s t does = of_contact (contact_at p e) refl
  where
    of_contact : (f : Option Contact) → contact_at p e ≡ f
        → ((u : Open) × ComesInOrder p (Out e v) s o u) ⊎ ((u : Open) → ComesInOrder p (Out e v) s o u → ⊥)
    of_contact None none = absurd (subst (λ (f : Option Contact). Passes p (Out e v) f s t) none does.1)
    of_contact (Some c) there =
        inl (
          after_taken p e (way_taken c.role) o,
          λ d also. let is : c ≡ d = cc (there, also) in
              ap (λ (x : Contact). after_taken p e (way_taken x.role) o) is,
        )
told_order p (In e v) o s t does = of_contact (contact_at p e) refl
  where
    by_token : (c : Contact) → contact_at p e ≡ Some c → Told (ComesWell p e (way_put c.role) o s)
        → ((u : Open) × ComesInOrder p (In e v) s o u) ⊎ ((u : Open) → ComesInOrder p (In e v) s o u → ⊥)
    by_token c there (inl well) =
        inl (
          after_put p e (way_put c.role) o,
          λ d also. let is : c ≡ d = cc (there, also) in
              subst (λ (x : Contact). ComesWell p e (way_put x.role) o s × (after_put p e (way_put c.role) o ≡ after_put p e (way_put x.role) o)) is (well, refl),
        )
    by_token c there (inr fails) = inr (λ u comes. fails (comes c there).0)

    of_contact : (f : Option Contact) → contact_at p e ≡ f
        → ((u : Open) × ComesInOrder p (In e v) s o u) ⊎ ((u : Open) → ComesInOrder p (In e v) s o u → ⊥)
    of_contact None none = absurd (subst (λ (f : Option Contact). Passes p (In e v) f s t) none does.1)
    of_contact (Some c) there = by_token c there (told_well p e (way_put c.role) o s)

pub order_is_decided : OrderIsDecided
order_is_decided p x o s t does =
    elim (told_order p x o s t does) [
      | inl comes ↦
          elim (told_welcome p t) [
            | inl welcome ↦ inl (comes.0, comes.1, welcome)
            | inr fails ↦ inr (λ u also welcome. fails welcome)
          ]
      | inr fails ↦ inr (λ u comes welcome. fails u comes)
    ]

-- a possible element leads to one state, and opens and closes the same handshakes
pub one_state : ElementsLeadOneWay
one_state p (Fire i slot) s t w (v, r, lies, fires, leads) (n, y, lying, firing, leading) =
    let value : v ≡ n = cc (lies, lying) in
    let is : r ≡ y = cc (fires, firing) in
    leads ∙ ((λ j. fired p i (is j) (value j) s) ∙ sym leading)
one_state p (Out e v) s t w does also = of_contact (contact_at p e) refl
  where
    of_contact : (f : Option Contact) → contact_at p e ≡ f → t ≡ w
    of_contact None none = absurd (subst (λ (f : Option Contact). Passes p (Out e v) f s t) none does.1)
    of_contact (Some c) there =
        let one = subst (λ (f : Option Contact). Passes p (Out e v) f s t) there does.1 in
        let two = subst (λ (f : Option Contact). Passes p (Out e v) f s w) there also.1 in
        one.1 ∙ sym two.1
one_state p (In e v) s t w does also = of_contact (contact_at p e) refl
  where
    of_contact : (f : Option Contact) → contact_at p e ≡ f → t ≡ w
    of_contact None none = absurd (subst (λ (f : Option Contact). Passes p (In e v) f s t) none does.1)
    of_contact (Some c) there =
        let one = subst (λ (f : Option Contact). Passes p (In e v) f s t) there does.1 in
        let two = subst (λ (f : Option Contact). Passes p (In e v) f s w) there also.1 in
        one.1 ∙ sym two.1

pub one_open : (p : Plan) (x : Element) (o m u : Open) (s t : Tokens) → Does p x s t → ComesInOrder p x s o m → ComesInOrder p x s o u → m ≡ u
one_open p (Fire i slot) o m u s t (v, r, lies, fires, leads) comes also = (comes v r lies fires).1 ∙ sym (also v r lies fires).1
one_open p (Out e v) o m u s t does comes also = of_contact (contact_at p e) refl
  where
    of_contact : (f : Option Contact) → contact_at p e ≡ f → m ≡ u
    of_contact None none = absurd (subst (λ (f : Option Contact). Passes p (Out e v) f s t) none does.1)
    of_contact (Some c) there = comes c there ∙ sym (also c there)
one_open p (In e v) o m u s t does comes also = of_contact (contact_at p e) refl
  where
    of_contact : (f : Option Contact) → contact_at p e ≡ f → m ≡ u
    of_contact None none = absurd (subst (λ (f : Option Contact). Passes p (In e v) f s t) none does.1)
    of_contact (Some c) there = (comes c there).1 ∙ sym (also c there).1

-- a list whose first element comes in order
goes_on : (p : Plan) (x : Element) (xs : List Element) (o m : Open) (s w t : Tokens) → Does p x s w → ComesInOrder p x s o m → AllWelcome p w
    → ((u : Open) × OrderlyFrom p xs m w u t) ⊎ ((u : Open) (y : Tokens) → OrderlyFrom p xs m w u y → ⊥)
    → ((u : Open) × OrderlyFrom p (x ∷ xs) o s u t) ⊎ ((u : Open) (y : Tokens) → OrderlyFrom p (x ∷ xs) o s u y → ⊥)
goes_on p x xs o m s w t does comes welcome (inl rest) = inl (rest.0, (m, w, does, comes, welcome, rest.1))
goes_on p x xs o m s w t does comes welcome (inr fails) = inr never
  where
    never : (u : Open) (y : Tokens) → OrderlyFrom p (x ∷ xs) o s u y → ⊥
    never u y (n, z, doing, coming, also, rest) =
        fails u y
        (subst (λ (k : Open). OrderlyFrom p xs k w u y) (one_open p x o n m s w does coming comes)
        (subst (λ (k : Tokens). OrderlyFrom p xs n k u y) (one_state p x s z w doing does) rest))

stops : (p : Plan) (x : Element) (xs : List Element) (o : Open) (s w : Tokens) → Does p x s w
    → ((u : Open) → ComesInOrder p x s o u → AllWelcome p w → ⊥) → (u : Open) (y : Tokens) → OrderlyFrom p (x ∷ xs) o s u y → ⊥
stops p x xs o s w does fails u y (n, z, doing, coming, also, rest) =
    fails n coming (subst (λ (k : Tokens). AllWelcome p k) (one_state p x s z w doing does) also)

pub lists_are_decided : ListsAreDecided
lists_are_decided p [] o s t runs = inl (o, (refl, runs))
lists_are_decided p (x ∷ xs) o s t (w, does, runs) =
    elim (order_is_decided p x o s w does) [
      | inl h ↦ goes_on p x xs o h.0 s w t does h.1 h.2 (lists_are_decided p xs h.0 w t runs)
      | inr fails ↦ inr (stops p x xs o s w does fails)
    ]

pub orderly_is_possible : OrderlyIsPossible
orderly_is_possible p [] o u s t list = list.1
orderly_is_possible p (x ∷ xs) o u s t (m, w, does, comes, welcome, list) = (w, does, orderly_is_possible p xs m u w t list)
