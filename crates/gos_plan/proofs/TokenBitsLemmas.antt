-- Tokens and the numbers that parts work with stay within their bits.
--
-- Each row keeps to them (RowBitsLemmas). The two ends of a joint have equal bits, so a token fits at either where it
-- fits at one.
use Rattle.std.specs.Prelude.{Option, None, All, ◌^◌, ◌<◌, ◌&&◌}
use Rattle.std.proofs.Common.{◌≡◌, ℕ, Bool, true, false, List, [], ◌∷◌, Some, slice_get, refl, sym, ◌∙◌, ap, subst, arith, nat_eq, if◌then◌else◌}
use Rattle.std.proofs.Math.ListN.{get_or}
use Rattle.std.proofs.lemmas.Option.{get_or_from_slice_get, slice_get_within}
use Rattle.std.proofs.lemmas.List.Elements.{All-map}
use Rattle.std.proofs.lemmas.Bool.{and_parts}
use Rattle.gos_types.specs.Events.{Direction, Request, Answer}
use Rattle.gos_plan.specs.declared.kinds.Kind.{Kind}
use Rattle.gos_plan.specs.declared.kinds.Kind.TheVariants as kinds
use Rattle.gos_plan.specs.Kinds.{Part, If, Op, Local, Array, Contact}
use Rattle.gos_plan.specs.Firing.{Phase, Rest, Branch, Right, Active, State, Slot, Token, Row, firing}
use Rattle.gos_plan.specs.Plans.{End, Plan, IsRight, contacts_of_part, contact_at, same_end}
use Rattle.gos_plan.specs.Tokens.{Tokens, Element, Fire, Out, In, places_of, same_way, with_state, held_at, with_held, token_at, with_token, shake_of, way_of, end_of, with_puts, bits_of, way_taken, way_put, firing_of, fired, Passes, Does}
use Rattle.gos_plan.specs.Seen.{part_of}
use Rattle.gos_plan.specs.Ranges.{IsInRange}
use Rattle.gos_plan.specs.TokenBits.{LiteralFits, ArrayFits, NumberFits, TokensFit, AllFit, AllStayFit, IdleFits, LiteralsFit}
use Rattle.gos_plan.proofs.JointLemmas.{same_is, joined}
use Rattle.gos_plan.proofs.TurnLemmas.{token_state, fired_state}
use Rattle.gos_plan.proofs.RowBitsLemmas.{AllFitting, Taking, RowFits, row_fits}

-- a place filled with what fits, or emptied
pub same_way_is : (a b : Direction) → same_way a b ≡ true → a ≡ b
same_way_is Request Request t = refl
same_way_is Request Answer t = grind (arith, t)
same_way_is Answer Request t = grind (arith, t)
same_way_is Answer Answer t = refl

placed : (p : Plan) (e : End) (way : Direction) (held : Option ℕ) (s : Tokens) → IsRight p
    → ((v : ℕ) (c : Contact) → held ≡ Some v → contact_at p e ≡ Some c → v < 2 ^ bits_of c way) → TokensFit p s → TokensFit p (with_token p e way held s)
placed p e way held s right small fit d c w x there lies = by_place (places_of p e) refl
  where
    at_place : (f : Option End) → places_of p e ≡ f → held_at (with_held way f held s) w (places_of p d) ≡ Some x
    at_place f is = subst (λ (f : Option End). held_at (with_held way f held s) w (places_of p d) ≡ Some x) is lies

    in_one : (a b : End) → places_of p e ≡ Some a → places_of p d ≡ Some b → (t : Bool) → (same_way w way && same_end b a) ≡ t
        → (if t then held else s.in_place w b) ≡ Some x → x < 2 ^ bits_of c w
    in_one a b named also true t lying =
        let tests = and_parts (same_way w way) (same_end b a) t in
        let one = joined p e a right named in
        let two = joined p d b right also in
        let is : two.here ≡ c = cc (two.is_here, there) in
        let asker : one.asker ≡ two.asker = cc (one.is_asker, two.is_asker, same_is b a tests.1) in
        let bits : bits_of one.here way ≡ bits_of c way =
        one.bits way ∙ ((λ i. bits_of (asker i) way) ∙ (sym (two.bits way) ∙ (λ i. bits_of (is i) way))) in
        subst (λ (n : Direction). x < 2 ^ bits_of c n) (sym (same_way_is w way tests.0))
        (subst (λ (n : ℕ). x < 2 ^ n) bits (small x one.here lying one.is_here))
    in_one a b named also false t lying = fit d c w x there (ap (held_at s w) also ∙ lying)

    at_both : (a : End) (g : Option End) → places_of p e ≡ Some a → places_of p d ≡ g → held_at (with_held way (Some a) held s) w g ≡ Some x → x < 2 ^ bits_of c w
    at_both a None named none lying = absurd (cc lying)
    at_both a (Some b) named also lying = in_one a b named also (same_way w way && same_end b a) refl lying

    by_place : (f : Option End) → places_of p e ≡ f → x < 2 ^ bits_of c w
    by_place None none = fit d c w x there (at_place None none)
    by_place (Some a) named = at_both a (places_of p d) named refl (at_place (Some a) named)

-- a part in another state
held_state : (i : ℕ) (q : State) (s : Tokens) (way : Direction) (f : Option End) → held_at (with_state i q s) way f ≡ held_at s way f
held_state i q s way None = refl
held_state i q s way (Some e) = refl

stated : (p : Plan) (i : ℕ) (q : State) (s : Tokens) → TokensFit p s → TokensFit p (with_state i q s)
stated p i q s fit e c way v there lies = fit e c way v there (sym (held_state i q s way (places_of p e)) ∙ lies)

emptied : (p : Plan) (e : End) (way : Direction) (s : Tokens) → IsRight p → TokensFit p s → TokensFit p (with_token p e way None s)
emptied p e way s right fit = placed p e way None s right (λ v c some. absurd (cc some)) fit

all_put : (p : Plan) (i : ℕ) (k : Part) (ts : List Token) (s : Tokens) → IsRight p → slice_get p.parts i ≡ Some k → AllFitting k ts → TokensFit p s → TokensFit p (with_puts p i ts s)
all_put p i k [] s right is small fit = fit
all_put p i k (t ∷ ts) s right is small fit =
    all_put p i k ts (with_token p (end_of i t.slot) (way_of t.slot) (Some t.value) s) right is small.1
    (placed p (end_of i t.slot) (way_of t.slot) (Some t.value) s right here fit)
  where
    here : (v : ℕ) (c : Contact) → Some t.value ≡ Some v → contact_at p (end_of i t.slot) ≡ Some c → v < 2 ^ bits_of c (way_of t.slot)
    here v c some there =
        let same : t.value ≡ v = cc some in
        subst (λ (n : ℕ). n < 2 ^ bits_of c (way_of t.slot)) same
        (small.0 c (subst (λ (f : Option Part). slice_get (contacts_of_part f) (shake_of t.slot) ≡ Some c) is there))

-- a token lies at an end that has a handshake
lies_at : (p : Plan) (s : Tokens) (e : End) (way : Direction) (v : ℕ) → IsRight p → TokensFit p s → token_at p s e way ≡ Some v
    → (c : Contact) × (contact_at p e ≡ Some c) × (v < 2 ^ bits_of c way)
lies_at p s e way v right fit lies = by_place (places_of p e) refl
  where
    by_place : (f : Option End) → places_of p e ≡ f → (c : Contact) × (contact_at p e ≡ Some c) × (v < 2 ^ bits_of c way)
    by_place None none = absurd (let some : None ≡ Some v = sym (ap (held_at s way) none) ∙ lies in cc some)
    by_place (Some a) named = let one = joined p e a right named in (one.here, one.is_here, fit e one.here way v one.is_here lies)

literal_at : (parts : List Part) (i : ℕ) (k : Part) → All LiteralFits parts → slice_get parts i ≡ Some k → LiteralFits k
literal_at parts i k all e = subst LiteralFits (get_or_from_slice_get parts i k k e) (all i k (slice_get_within parts i k e))

-- a firing of a part that there is
fires_fit : (p : Plan) (i : ℕ) (k : Part) (t : Slot) (v : ℕ) (r : Row) (s : Tokens) → IsRight p → All LiteralFits p.parts → AllFit p s
    → slice_get p.parts i ≡ Some k → token_at p s (end_of i t) (way_of t) ≡ Some v → firing k (s.state i) t ≡ Some r → AllFit p (fired p i r v s)
fires_fit p i k t v r s right literals fit is lies fires = (tokens, numbers)
  where
    row : (r.takes ≡ t) × RowFits k v r
    row = row_fits k (s.state i) t r v (literal_at p.parts i k literals is) (fit.1 i k is) fires

    takes : Taking k t v
    takes =
        let there = lies_at p s (end_of i t) (way_of t) v right fit.0 lies in
        (there.0, subst (λ (f : Option Part). slice_get (contacts_of_part f) (shake_of t) ≡ Some there.0) is there.1, there.2)

    gives : NumberFits k (r.next v) × AllFitting k (r.puts v)
    gives = row.1 (subst (λ (x : Slot). Taking k x v) (sym row.0) takes)

    tokens : TokensFit p (fired p i r v s)
    tokens =
        all_put p i k (r.puts v) (with_state i (r.next v) (with_token p (end_of i r.takes) (way_of r.takes) None s)) right is gives.1
        (stated p i (r.next v) (with_token p (end_of i r.takes) (way_of r.takes) None s) (emptied p (end_of i r.takes) (way_of r.takes) s right fit.0))

    numbers : (j : ℕ) (l : Part) → slice_get p.parts j ≡ Some l → NumberFits l ((fired p i r v s).state j)
    numbers j l there = subst (λ (q : State). NumberFits l q) (sym (fired_state p i r v s j)) (by_test (nat_eq j i) refl)
      where
        by_test : (b : Bool) → nat_eq j i ≡ b → NumberFits l (if b then r.next v else s.state j)
        by_test true same =
            let number : j ≡ i = grind (arith, same) in
            let one : k ≡ l = cc (is, there, number) in
            subst (λ (x : Part). NumberFits x (r.next v)) one gives.0
        by_test false apart = fit.1 j l there

-- each element
step : (p : Plan) (x : Element) (s t : Tokens) → IsRight p → All LiteralFits p.parts → AllFit p s → Does p x s t → AllFit p t
step p (Fire i slot) s t right literals fit (v, r, lies, fires, leads) = subst (λ (z : Tokens). AllFit p z) (sym leads) (of_part (slice_get p.parts i) refl)
  where
    of_part : (f : Option Part) → slice_get p.parts i ≡ f → AllFit p (fired p i r v s)
    of_part None none = absurd (let some : None ≡ Some r = subst (λ (f : Option Part). firing_of f (s.state i) slot ≡ Some r) none fires in cc some)
    of_part (Some k) is =
        fires_fit p i k slot v r s right literals fit is lies (subst (λ (f : Option Part). firing_of f (s.state i) slot ≡ Some r) is fires)
step p (Out e v) s t right literals fit does = of_contact (contact_at p e) refl
  where
    of_contact : (f : Option Contact) → contact_at p e ≡ f → AllFit p t
    of_contact None none = absurd (subst (λ (f : Option Contact). Passes p (Out e v) f s t) none does.1)
    of_contact (Some c) there =
        let passes = subst (λ (f : Option Contact). Passes p (Out e v) f s t) there does.1 in
        subst (λ (z : Tokens). AllFit p z) (sym passes.1) (
          emptied p e (way_taken c.role) s right fit.0,
          λ i k is. subst (λ (q : State). NumberFits k q) (sym (token_state p e (way_taken c.role) None s i)) (fit.1 i k is),
        )
step p (In e v) s t right literals fit does = of_contact (contact_at p e) refl
  where
    of_contact : (f : Option Contact) → contact_at p e ≡ f → AllFit p t
    of_contact None none = absurd (subst (λ (f : Option Contact). Passes p (In e v) f s t) none does.1)
    of_contact (Some c) there =
        let passes = subst (λ (f : Option Contact). Passes p (In e v) f s t) there does.1 in
        subst (λ (z : Tokens). AllFit p z) (sym passes.1) (
          placed p e (way_put c.role) (Some v) s right (small c there passes.0) fit.0,
          λ i k is. subst (λ (q : State). NumberFits k q) (sym (token_state p e (way_put c.role) (Some v) s i)) (fit.1 i k is),
        )
      where
        small : (c : Contact) → contact_at p e ≡ Some c → v < 2 ^ bits_of c (way_put c.role)
            → (x : ℕ) (d : Contact) → Some v ≡ Some x → contact_at p e ≡ Some d → x < 2 ^ bits_of d (way_put c.role)
        small c there less x d some also =
            let value : v ≡ x = cc some in
            let is : c ≡ d = cc (there, also) in
            subst (λ (n : ℕ). n < 2 ^ bits_of d (way_put c.role)) value (subst (λ (y : Contact). v < 2 ^ bits_of y (way_put c.role)) is less)

pub all_stay_fit : AllStayFit
all_stay_fit p [] s t right literals fit runs = subst (λ (z : Tokens). AllFit p z) (sym runs) fit
all_stay_fit p (x ∷ xs) s t right literals fit (w, does, runs) = all_stay_fit p xs w t right literals (step p x s w right literals fit does) runs

pub idle_fits : IdleFits
idle_fits p s idle = (tokens, λ i k is. at_rest k (s.state i) (idle.1 i))
  where
    tokens : TokensFit p s
    tokens e c way v there lies = by_place (places_of p e) refl
      where
        by_place : (f : Option End) → places_of p e ≡ f → v < 2 ^ bits_of c way
        by_place None none = absurd (let some : None ≡ Some v = sym (ap (held_at s way) none) ∙ lies in cc some)
        by_place (Some a) named = absurd (let some : None ≡ Some v = sym (idle.0 way a) ∙ (sym (ap (held_at s way) named) ∙ lies) in cc some)

    at_rest : (k : Part) (q : State) → q.phase ≡ Rest → NumberFits k q
    at_rest (If v) q rests = λ e. absurd (let other : Rest ≡ Branch = sym rests ∙ e in cc other)
    at_rest (Op op w) q rests = λ e. absurd (let other : Rest ≡ Right = sym rests ∙ e in cc other)
    at_rest (Local w v) q rests = λ e. absurd (let other : Rest ≡ Active = sym rests ∙ e in cc other)
    at_rest (Array w k v) q rests = subst (λ (p : Phase). ArrayFits w k p q.number) (sym rests) tt
    at_rest k q rests = tt

literal : (k : Kind) → IsInRange k → LiteralFits (part_of k)
literal kinds.Skip h = tt
literal (kinds.Lit w k) h = h.1
literal kinds.Seq h = tt
literal (kinds.SeqExp w) h = tt
literal kinds.Par h = tt
literal kinds.If h = tt
literal (kinds.IfExp w) h = tt
literal kinds.While h = tt
literal (kinds.Op op w) h = tt
literal (kinds.Not w) h = tt
literal (kinds.Assign w) h = tt
literal (kinds.Deref w) h = tt
literal (kinds.Local w v) h = tt
literal (kinds.Array w n v) h = tt
literal (kinds.Share t) h = tt

pub literals_fit : LiteralsFit
literals_fit ks all = All-map LiteralFits part_of ks (λ i d within. literal (get_or ks i d) (all i d within))

pub same_way_itself : (w : Direction) → same_way w w ≡ true
same_way_itself Request = refl
same_way_itself Answer = refl
