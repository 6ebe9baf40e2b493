-- What the whole does, a region does.
--
-- The ends of the region are apart in the whole, so its token states commute with what is taken and put there. What lies
-- in no place of the region is lost on it.
use Rattle.std.specs.Prelude.{None, ◌^◌, ◌<◌, ◌&&◌, ◌++◌, nat_lt, nat_eq, slice_get, All}
use Rattle.std.proofs.Common.{◌≡◌, ℕ, Bool, true, false, List, [], ◌∷◌, ◌⊎◌, Option, Some, get_or, length, pow_pos, inl, inr, refl, sym, ◌∙◌, ap, subst, arith, if◌then◌else◌}
use Rattle.std.proofs.lemmas.Option.{slice_get_within, slice_get-get_or}
use Rattle.gos_types.specs.declared.shakes.Role.{Role}
use Rattle.gos_types.specs.declared.shakes.Role.TheVariants.{Serve, Ask}
use Rattle.gos_types.specs.Events.{Direction}
use Rattle.gos_types.proofs.BoolLemmas.{same_tests}
use Rattle.gos_plan.specs.Kinds.{Part, Skip, Lit, Seq, Par, If, While, Op, Not, Assign, Deref, Local, Array, Share, Contact, contacts_of, part_contacts}
use Rattle.gos_plan.specs.Firing.{Phase, Rest, First, Second, Both, LeftOnly, RightOnly, Test, Branch, Body, Left, Right, Waiting, Value, Writing, Active, Cells, Reading, WritingTo, State, Slot, Token, Row, at, shared_rows, rows, firing}
use Rattle.gos_plan.specs.Plans.{End, PartEnd, ImportEnd, ResultEnd, Joint, Plan, IsRight, contacts_of_part, contact_at, same_end, stands_in}
use Rattle.gos_plan.specs.Tokens.{Tokens, Element, Fire, Out, In, IsPortEnd, places_of, same_way, with_place, with_state, held_at, with_held, token_at, with_token, with_puts, end_of, way_of, shake_of, way_taken, way_put, bits_of, fired, firing_of, Passes, Does, Runs}
use Rattle.gos_plan.specs.TokenBits.{LiteralFits, TokensFit, AllFit}
use Rattle.gos_plan.proofs.JointLemmas.{IsIn, same_itself, same_is, found, has_place, one_joint, stands_there, joined, contained, asking_stands, serving_stands, which_end}
use Rattle.gos_plan.proofs.AskingLemmas.{RoleIs, PutsInRole, row_roles}
use Rattle.gos_plan.proofs.ShareTableLemmas.{share_table}
use Rattle.gos_plan.proofs.RowLemmas.{EachRow, row_with, role_taking, role_putting}
use Rattle.gos_plan.proofs.TurnLemmas.{way_to_take, way_to_put}
use Rattle.gos_plan.proofs.TokenBitsLemmas.{all_stay_fit, same_way_itself}
use Rattle.gos_plan.proofs.ElementLemmas.{firing_part, runs_then}
use Rattle.gos_plan.proofs.ContactLemmas.{part_is_there}
use Rattle.gos_joining.specs.webs.Webs.{joint}
use Rattle.gos_joining.specs.webs.Cutting.{Cut, lies_at, IsInside, IsOutside, StandsIn, IsCut, asks_in, cut_tokens, out_if, in_if, ins_of, outside_firing, firing_in, cut_element, ElementIsCut, ListIsCut}
use Rattle.gos_joining.proofs.webs.MovedLemmas.{listed}

-- the end of the region that an end of the whole is, if it is one
abbrev pub name_by : Cut → ℕ → ℕ → Option ℕ → Option End
name_by f i h None = f.inner (PartEnd i h)
name_by f i h (Some j) = Some (PartEnd j h)

abbrev pub name_of : Cut → End → Option End
name_of f (PartEnd i h) = name_by f i h (f.number i)
name_of f (ImportEnd i h) = f.inner (ImportEnd i h)
name_of f (ResultEnd h) = f.inner (ResultEnd h)

-- an end of a part that there is, or a port that is joined
abbrev pub Owns : Plan → End → Type 0
Owns c (PartEnd i h) = (k : Part) × (slice_get c.parts i ≡ Some k)
Owns c (ImportEnd i h) = StandsIn c (ImportEnd i h)
Owns c (ResultEnd h) = StandsIn c (ResultEnd h)

pub outside_name : (f : Cut) (b : End) → IsOutside f b → name_of f b ≡ f.inner b
outside_name f (PartEnd i h) out = ap (name_by f i h) out
outside_name f (ImportEnd i h) out = refl
outside_name f (ResultEnd h) out = refl

pub own_name : (f : Cut) (r c : Plan) → IsCut f r c → (e : End) → Owns c e → name_of f (lies_at f e) ≡ Some e
own_name f r c is (PartEnd i h) (k, there) = ap (name_by f (f.part i) h) (is.parts i k there).1
own_name f r c is (ImportEnd i h) stands =
    let port = is.ports (ImportEnd i h) tt stands in outside_name f (f.outer (ImportEnd i h)) port.0 ∙ port.1
own_name f r c is (ResultEnd h) stands =
    let port = is.ports (ResultEnd h) tt stands in outside_name f (f.outer (ResultEnd h)) port.0 ∙ port.1

-- ends of the region are apart in the whole
pub one_end : (f : Cut) (r c : Plan) → IsCut f r c → (d e : End) → Owns c d → Owns c e → lies_at f d ≡ lies_at f e → d ≡ e
one_end f r c is d e own also same =
    let both : Some d ≡ Some e = sym (own_name f r c is d own) ∙ (ap (name_of f) same ∙ own_name f r c is e also) in cc both

pub same_lies : (f : Cut) (r c : Plan) → IsCut f r c → (d e : End) → Owns c d → Owns c e → same_end (lies_at f d) (lies_at f e) ≡ same_end d e
same_lies f r c is d e own also = same_tests (same_end (lies_at f d) (lies_at f e)) (same_end d e) to from
  where
    to : same_end (lies_at f d) (lies_at f e) ≡ true → same_end d e ≡ true
    to h =
        subst (λ (x : End). same_end d x ≡ true) (one_end f r c is d e own also (same_is (lies_at f d) (lies_at f e) h)) (same_itself d)

    from : same_end d e ≡ true → same_end (lies_at f d) (lies_at f e) ≡ true
    from h = subst (λ (x : End). same_end (lies_at f d) (lies_at f x) ≡ true) (same_is d e h) (same_itself (lies_at f d))

pub stands_own : (c : Plan) (j : Joint) (e : End) → IsRight c → IsIn j c.joints → stands_in e j ≡ true → Owns c e
stands_own c j (PartEnd i h) right is_in stands =
    let one = joined c (PartEnd i h) j.asking right (stands_there c j (PartEnd i h) right is_in stands) in
    part_is_there (slice_get c.parts i) h one.here one.is_here
stands_own c j (ImportEnd i h) right is_in stands = (j, listed c.joints j is_in, stands)
stands_own c j (ResultEnd h) right is_in stands = (j, listed c.joints j is_in, stands)

pub port_own : (c : Plan) (e : End) → IsPortEnd e → StandsIn c e → Owns c e
port_own c (PartEnd i h) port stands = absurd port
port_own c (ImportEnd i h) port stands = stands
port_own c (ResultEnd h) port stands = stands

pub port_lies : (f : Cut) (e : End) → IsPortEnd e → lies_at f e ≡ f.outer e
port_lies f (PartEnd i h) port = absurd port
port_lies f (ImportEnd i h) port = refl
port_lies f (ResultEnd h) port = refl

pub port_outside : (f : Cut) (e : End) → IsPortEnd e → name_of f e ≡ f.inner e
port_outside f (PartEnd i h) port = absurd port
port_outside f (ImportEnd i h) port = refl
port_outside f (ResultEnd h) port = refl

-- which end of a joint
or_first : (a b : Bool) → a ≡ true → (if a then true else b) ≡ true
or_first true b h = refl
or_first false b h = absurd (cc h)

or_then : (a b : Bool) → b ≡ true → (if a then true else b) ≡ true
or_then true b h = refl
or_then false b h = h

pub stands_by : (e : End) (j : Joint) → (e ≡ j.asking) ⊎ (e ≡ j.serving) → stands_in e j ≡ true
stands_by e j (inl is) = subst (λ (x : End). stands_in x j ≡ true) (sym is) (asking_stands j)
stands_by e j (inr is) = subst (λ (x : End). stands_in x j ≡ true) (sym is) (serving_stands j)

pub asks_there : (js : List Joint) (j : Joint) → IsIn j js → asks_in js j.asking ≡ true
asks_there [] j h = absurd h
asks_there (x ∷ xs) j (inl is) =
    or_first (same_end j.asking x.asking) (asks_in xs j.asking)
    (subst (λ (y : Joint). same_end j.asking y.asking ≡ true) is (same_itself j.asking))
asks_there (x ∷ xs) j (inr later) = or_then (same_end j.asking x.asking) (asks_in xs j.asking) (asks_there xs j later)

pub record Asked (js : List Joint) (e : End) : Type 0 where
  pub joint : Joint
  pub is_in : IsIn joint js
  pub asker : e ≡ joint.asking

pub asks_one : (js : List Joint) (e : End) → asks_in js e ≡ true → Asked js e
asks_one [] e h = absurd (cc h)
asks_one (x ∷ xs) e h = by_test (same_end e x.asking) refl (λ k. asks_one xs e k)
  where
    by_test : (b : Bool) → same_end e x.asking ≡ b → (asks_in xs e ≡ true → Asked xs e) → Asked (x ∷ xs) e
    by_test true t further = record { joint = x; is_in = inl refl; asker = same_is e x.asking t }
    by_test false t further =
        let rest = further (sym (ap (λ (b : Bool). if b then true else asks_in xs e) t) ∙ h) in
        record { joint = rest.joint; is_in = inr rest.is_in; asker = rest.asker }

-- places
pub joint_there : (f : Cut) (r c : Plan) → IsCut f r c → (j : Joint) → IsIn j c.joints → IsIn (joint (lies_at f j.asking) (lies_at f j.serving)) r.joints
joint_there f r c is j is_in =
    contained r.joints (joint (lies_at f j.asking) (lies_at f j.serving)) (is.joints j.asking j.serving (listed c.joints j is_in))

pub stands_cut : (f : Cut) (e : End) (j : Joint) → (e ≡ j.asking) ⊎ (e ≡ j.serving) → stands_in (lies_at f e) (joint (lies_at f j.asking) (lies_at f j.serving)) ≡ true
stands_cut f e j (inl is) = stands_by (lies_at f e) (joint (lies_at f j.asking) (lies_at f j.serving)) (inl (ap (lies_at f) is))
stands_cut f e j (inr is) = stands_by (lies_at f e) (joint (lies_at f j.asking) (lies_at f j.serving)) (inr (ap (lies_at f) is))

pub place_there : (f : Cut) (r c : Plan) → IsCut f r c → (e a : End) → places_of c e ≡ Some a → places_of r (lies_at f e) ≡ Some (lies_at f a)
place_there f r c is e a h =
    let at = found c.joints e a h in
    stands_there r (joint (lies_at f at.joint.asking) (lies_at f at.joint.serving)) (lies_at f e) is.whole_right
    (joint_there f r c is at.joint at.is_in) (stands_cut f e at.joint (which_end e at.joint at.stands))
    ∙ ap (λ x. Some (lies_at f x)) at.named

pub asker_asks : (c : Plan) (e a : End) → places_of c e ≡ Some a → asks_in c.joints a ≡ true
asker_asks c e a h =
    let at = found c.joints e a h in subst (λ (x : End). asks_in c.joints x ≡ true) at.named (asks_there c.joints at.joint at.is_in)

pub asker_own : (c : Plan) → IsRight c → (a : End) → asks_in c.joints a ≡ true → Owns c a
asker_own c right a h =
    let one = asks_one c.joints a h in stands_own c one.joint a right one.is_in (stands_by a one.joint (inl one.asker))

pub no_place : (f : Cut) (r c : Plan) → IsCut f r c → (e : End) → Owns c e → places_of c e ≡ None → places_of r (lies_at f e) ≡ None
no_place f r c is (ImportEnd i h) (j, listing, stands) none = absurd (has_place c.joints j (ImportEnd i h) (contained c.joints j listing) stands none)
no_place f r c is (ResultEnd h) (j, listing, stands) none = absurd (has_place c.joints j (ResultEnd h) (contained c.joints j listing) stands none)
no_place f r c is (PartEnd i h) (k, there) none = by_place (places_of r (PartEnd (f.part i) h)) refl
  where
    inside : IsInside f (PartEnd (f.part i) h)
    inside = (i, (is.parts i k there).1)

    either : (j : Joint) → (PartEnd (f.part i) h ≡ j.asking) ⊎ (PartEnd (f.part i) h ≡ j.serving) → IsInside f j.asking ⊎ IsInside f j.serving
    either j (inl one) = inl (subst (λ (x : End). IsInside f x) one inside)
    either j (inr one) = inr (subst (λ (x : End). IsInside f x) one inside)

    back : (j d : Joint) → (PartEnd (f.part i) h ≡ j.asking) ⊎ (PartEnd (f.part i) h ≡ j.serving) → IsIn d c.joints
        → lies_at f d.asking ≡ j.asking → lies_at f d.serving ≡ j.serving → (PartEnd i h ≡ d.asking) ⊎ (PartEnd i h ≡ d.serving)
    back j d (inl one) is_in first last =
        inl (one_end f r c is (PartEnd i h) d.asking (k, there) (stands_own c d d.asking is.right is_in (asking_stands d)) (one ∙ sym first))
    back j d (inr one) is_in first last =
        inr (one_end f r c is (PartEnd i h) d.serving (k, there) (stands_own c d d.serving is.right is_in (serving_stands d)) (one ∙ sym last))

    by_place : (o : Option End) → places_of r (PartEnd (f.part i) h) ≡ o → o ≡ None
    by_place None n = refl
    by_place (Some x) n =
        let at = found r.joints (PartEnd (f.part i) h) x n in
        let which = which_end (PartEnd (f.part i) h) at.joint at.stands in
        let own = is.all at.joint.asking at.joint.serving (listed r.joints at.joint at.is_in) (either at.joint which) in
        let is_in : IsIn (joint own.0 own.1) c.joints = contained c.joints (joint own.0 own.1) own.2 in
        absurd (has_place c.joints (joint own.0 own.1) (PartEnd i h) is_in
        (stands_by (PartEnd i h) (joint own.0 own.1) (back at.joint (joint own.0 own.1) which is_in own.3 own.4)) none)

-- what lies at an end of the region
pub token_cut : (f : Cut) (r c : Plan) → IsCut f r c → (e : End) → Owns c e → (s : Tokens) (way : Direction) → token_at c (cut_tokens f c s) e way ≡ token_at r s (lies_at f e) way
token_cut f r c is e own s way = by_place (places_of c e) refl
  where
    by_place : (o : Option End) → places_of c e ≡ o → token_at c (cut_tokens f c s) e way ≡ token_at r s (lies_at f e) way
    by_place None none = ap (held_at (cut_tokens f c s) way) none ∙ ap (held_at s way) (sym (no_place f r c is e own none))
    by_place (Some a) named =
        ap (held_at (cut_tokens f c s) way) named
        ∙ (ap (λ (b : Bool). if b then s.in_place way (lies_at f a) else None) (asker_asks c e a named)
        ∙ ap (held_at s way) (sym (place_there f r c is e a named)))

pub filled_so : (w d l q : Bool) (held old : Option ℕ) → (q ≡ true → l ≡ d) → (q ≡ false → d ≡ false)
    → (if w && d then held else if q then old else None) ≡ (if q then if w && l then held else old else None)
filled_so w d l true held old same never = ap (λ (b : Bool). if w && b then held else old) (sym (same refl))
filled_so true d l false held old same never = ap (λ (b : Bool). if b then held else None) (never refl)
filled_so false d l false held old same never = refl

stated_so : (d l q : Bool) (x y z : State) → (q ≡ true → l ≡ d) → (q ≡ false → d ≡ false)
    → (if d then x else if q then y else z) ≡ (if q then if l then x else y else z)
stated_so d l true x y z same never = ap (λ (b : Bool). if b then x else y) (sym (same refl))
stated_so d l false x y z same never = ap (λ (b : Bool). if b then x else z) (never refl)

pub place_filled : (f : Cut) (r c : Plan) → IsCut f r c → (a : End) → asks_in c.joints a ≡ true → (way : Direction) (held : Option ℕ) (s : Tokens)
    → with_place way a held (cut_tokens f c s) ≡ cut_tokens f c (with_place way (lies_at f a) held s)
place_filled f r c is a asker way held s =
    λ i. record {
      in_place = λ w d. filled_so (same_way w way) (same_end d a) (same_end (lies_at f d) (lies_at f a)) (asks_in c.joints d) held (s.in_place w (lies_at f d)) (apart d) (other d) i;
      state = λ j. if nat_lt j (length c.parts) then s.state (f.part j) else at Rest 0;
    }
  where
    apart : (d : End) → asks_in c.joints d ≡ true → same_end (lies_at f d) (lies_at f a) ≡ same_end d a
    apart d also = same_lies f r c is d a (asker_own c is.right d also) (asker_own c is.right a asker)

    other : (d : End) → asks_in c.joints d ≡ false → same_end d a ≡ false
    other d never = by_test (same_end d a) refl
      where
        by_test : (b : Bool) → same_end d a ≡ b → b ≡ false
        by_test true t =
            let clash : true ≡ false = sym asker ∙ (ap (asks_in c.joints) (sym (same_is d a t)) ∙ never) in absurd (cc clash)
        by_test false t = refl

pub token_put : (f : Cut) (r c : Plan) → IsCut f r c → (e : End) → Owns c e → (way : Direction) (held : Option ℕ) (s : Tokens)
    → with_token c e way held (cut_tokens f c s) ≡ cut_tokens f c (with_token r (lies_at f e) way held s)
token_put f r c is e own way held s = by_place (places_of c e) refl
  where
    by_place : (o : Option End) → places_of c e ≡ o → with_token c e way held (cut_tokens f c s) ≡ cut_tokens f c (with_token r (lies_at f e) way held s)
    by_place None none =
        ap (λ o. with_held way o held (cut_tokens f c s)) none
        ∙ ap (λ o. cut_tokens f c (with_held way o held s)) (sym (no_place f r c is e own none))
    by_place (Some a) named =
        ap (λ o. with_held way o held (cut_tokens f c s)) named
        ∙ (place_filled f r c is a (asker_asks c e a named) way held s
        ∙ ap (λ o. cut_tokens f c (with_held way o held s)) (sym (place_there f r c is e a named)))

-- the numbers of parts
pub number_at : (f : Cut) (r c : Plan) → IsCut f r c → (k : Part) (i : ℕ) → nat_lt i (length c.parts) ≡ true → f.number (f.part i) ≡ Some i
number_at f r c is k i within = (is.parts i (get_or c.parts i k) (slice_get-get_or c.parts i k (grind (arith, within)))).1

pub state_put : (f : Cut) (r c : Plan) → IsCut f r c → (j : ℕ) (k : Part) → slice_get c.parts j ≡ Some k → (q : State) (s : Tokens)
    → with_state j q (cut_tokens f c s) ≡ cut_tokens f c (with_state (f.part j) q s)
state_put f r c is j k there q s =
    λ n. record {
      in_place = λ w d. if asks_in c.joints d then s.in_place w (lies_at f d) else None;
      state = λ i. stated_so (nat_eq i j) (nat_eq (f.part i) (f.part j)) (nat_lt i (length c.parts)) q (s.state (f.part i)) (at Rest 0) (apart i) (other i) n;
    }
  where
    within : j < length c.parts
    within = slice_get_within c.parts j k there

    apart : (i : ℕ) → nat_lt i (length c.parts) ≡ true → nat_eq (f.part i) (f.part j) ≡ nat_eq i j
    apart i t = same_tests (nat_eq (f.part i) (f.part j)) (nat_eq i j) to from
      where
        to : nat_eq (f.part i) (f.part j) ≡ true → nat_eq i j ≡ true
        to h =
            let same : f.part i ≡ f.part j = grind (arith, h) in
            let both : Some i ≡ Some j = sym (number_at f r c is k i t) ∙ (ap f.number same ∙ (is.parts j k there).1) in
            let one : i ≡ j = cc both in grind (arith, one)

        from : nat_eq i j ≡ true → nat_eq (f.part i) (f.part j) ≡ true
        from h =
            let one : i ≡ j = grind (arith, h) in
            let same : f.part i ≡ f.part j = ap f.part one in grind (arith, same)

    other : (i : ℕ) → nat_lt i (length c.parts) ≡ false → nat_eq i j ≡ false
    other i t = grind (arith, t, within)

pub puts_cut : (f : Cut) (r c : Plan) → IsCut f r c → (j : ℕ) (k : Part) → slice_get c.parts j ≡ Some k → (ts : List Token) (s : Tokens)
    → with_puts c j ts (cut_tokens f c s) ≡ cut_tokens f c (with_puts r (f.part j) ts s)
puts_cut f r c is j k there [] s = refl
puts_cut f r c is j k there (t ∷ ts) s =
    ap (with_puts c j ts) (token_put f r c is (end_of j t.slot) (k, there) (way_of t.slot) (Some t.value) s)
    ∙ puts_cut f r c is j k there ts (with_token r (end_of (f.part j) t.slot) (way_of t.slot) (Some t.value) s)

pub fired_cut : (f : Cut) (r c : Plan) → IsCut f r c → (j : ℕ) (k : Part) → slice_get c.parts j ≡ Some k → (row : Row) (v : ℕ) (s : Tokens)
    → fired c j row v (cut_tokens f c s) ≡ cut_tokens f c (fired r (f.part j) row v s)
fired_cut f r c is j k there row v s =
    ap (λ u. with_puts c j (row.puts v) (with_state j (row.next v) u)) (token_put f r c is (end_of j row.takes) (k, there) (way_of row.takes) None s)
    ∙ (ap (with_puts c j (row.puts v)) (state_put f r c is j k there (row.next v) (with_token r (end_of (f.part j) row.takes) (way_of row.takes) None s))
    ∙ puts_cut f r c is j k there (row.puts v) (with_state (f.part j) (row.next v) (with_token r (end_of (f.part j) row.takes) (way_of row.takes) None s)))

pub fire_cut : (f : Cut) (r c : Plan) → IsCut f r c → (j i : ℕ) → f.number i ≡ Some j → (slot : Slot) (s t : Tokens)
    → Does r (Fire i slot) s t → Does c (Fire j slot) (cut_tokens f c s) (cut_tokens f c t)
fire_cut f r c is j i number slot s t does =
    at_part (subst (λ (n : ℕ). Does r (Fire n slot) s t) (sym there.0) does)
  where
    there : (f.part j ≡ i) × ((k : Part) × (slice_get c.parts j ≡ Some k))
    there = is.numbers i j number

    within : nat_lt j (length c.parts) ≡ true
    within = let less = slice_get_within c.parts j there.1.0 there.1.1 in grind (arith, less)

    at_part : Does r (Fire (f.part j) slot) s t → Does c (Fire j slot) (cut_tokens f c s) (cut_tokens f c t)
    at_part (v, row, held, by, is_t) = (
      v,
      row,
      token_cut f r c is (end_of j slot) there.1 s (way_of slot) ∙ held,
      ap (λ (b : Bool). firing_of (slice_get c.parts j) (if b then s.state (f.part j) else at Rest 0) slot) within
          ∙ (ap (λ (o : Option Part). firing_of o (s.state (f.part j)) slot) (there.1.1 ∙ sym (is.parts j there.1.0 there.1.1).0) ∙ by),
      ap (cut_tokens f c) is_t ∙ sym (fired_cut f r c is j there.1.0 there.1.1 row v s),
    )

-- what lies in no place of the region
place_lost : (f : Cut) (r c : Plan) → IsCut f r c → (b x d : End) → name_of f b ≡ None → places_of r b ≡ Some x → asks_in c.joints d ≡ true
    → lies_at f d ≡ x → ⊥
place_lost f r c is b x d nameless named asker lies = of_end (which_end b whole stands)
  where
    own : Asked c.joints d
    own = asks_one c.joints d asker

    whole : Joint
    whole = joint (lies_at f own.joint.asking) (lies_at f own.joint.serving)

    is_x : x ≡ lies_at f own.joint.asking
    is_x = sym lies ∙ ap (lies_at f) own.asker

    stands : stands_in b whole ≡ true
    stands =
        let at = found r.joints b x named in
        let here : stands_in x at.joint ≡ true = stands_by x at.joint (inl (sym at.named)) in
        let also : stands_in x whole ≡ true = stands_by x whole (inl is_x) in
        let one : at.joint ≡ whole =
        one_joint r [] r.joints at.joint whole x is.whole_right at.is_in (joint_there f r c is own.joint own.is_in) here also in
        subst (λ (j : Joint). stands_in b j ≡ true) one at.stands

    no_own : (e : End) → Owns c e → b ≡ lies_at f e → ⊥
    no_own e owns at =
        let clash : None ≡ Some e = sym nameless ∙ (ap (name_of f) at ∙ own_name f r c is e owns) in cc clash

    of_end : (b ≡ lies_at f own.joint.asking) ⊎ (b ≡ lies_at f own.joint.serving) → ⊥
    of_end (inl at) = no_own own.joint.asking (stands_own c own.joint own.joint.asking is.right own.is_in (asking_stands own.joint)) at
    of_end (inr at) = no_own own.joint.serving (stands_own c own.joint own.joint.serving is.right own.is_in (serving_stands own.joint)) at

lost_so : (w l q : Bool) (held old : Option ℕ) → (q ≡ true → l ≡ false) → (if q then if w && l then held else old else None) ≡ (if q then old else None)
lost_so true l true held old never = ap (λ (b : Bool). if b then held else old) (never refl)
lost_so false l true held old never = refl
lost_so w l false held old never = refl

state_lost_so : (l q : Bool) (x y z : State) → (q ≡ true → l ≡ false) → (if q then if l then x else y else z) ≡ (if q then y else z)
state_lost_so l true x y z never = ap (λ (b : Bool). if b then x else y) (never refl)
state_lost_so l false x y z never = refl

pub token_lost : (f : Cut) (r c : Plan) → IsCut f r c → (b : End) → name_of f b ≡ None → (way : Direction) (held : Option ℕ) (s : Tokens)
    → cut_tokens f c (with_token r b way held s) ≡ cut_tokens f c s
token_lost f r c is b nameless way held s = by_place (places_of r b) refl
  where
    apart : (x d : End) → places_of r b ≡ Some x → asks_in c.joints d ≡ true → same_end (lies_at f d) x ≡ false
    apart x d named asker = by_test (same_end (lies_at f d) x) refl
      where
        by_test : (t : Bool) → same_end (lies_at f d) x ≡ t → t ≡ false
        by_test true t = absurd (place_lost f r c is b x d nameless named asker (same_is (lies_at f d) x t))
        by_test false t = refl

    by_place : (o : Option End) → places_of r b ≡ o → cut_tokens f c (with_token r b way held s) ≡ cut_tokens f c s
    by_place None none = ap (λ o. cut_tokens f c (with_held way o held s)) none
    by_place (Some x) named =
        ap (λ o. cut_tokens f c (with_held way o held s)) named
        ∙ (λ i. record {
          in_place = λ w d. lost_so (same_way w way) (same_end (lies_at f d) x) (asks_in c.joints d) held (s.in_place w (lies_at f d)) (apart x d named) i;
          state = λ j. if nat_lt j (length c.parts) then s.state (f.part j) else at Rest 0;
        })

pub state_lost : (f : Cut) (r c : Plan) → IsCut f r c → (i : ℕ) (k : Part) → f.number i ≡ None → (q : State) (s : Tokens)
    → cut_tokens f c (with_state i q s) ≡ cut_tokens f c s
state_lost f r c is i k out q s =
    λ n. record {
      in_place = λ w d. if asks_in c.joints d then s.in_place w (lies_at f d) else None;
      state = λ j. state_lost_so (nat_eq (f.part j) i) (nat_lt j (length c.parts)) q (s.state (f.part j)) (at Rest 0) (apart j) n;
    }
  where
    apart : (j : ℕ) → nat_lt j (length c.parts) ≡ true → nat_eq (f.part j) i ≡ false
    apart j within = by_test (nat_eq (f.part j) i) refl
      where
        by_test : (t : Bool) → nat_eq (f.part j) i ≡ t → t ≡ false
        by_test true t =
            let same : f.part j ≡ i = grind (arith, t) in
            let clash : Some j ≡ None = sym (number_at f r c is k j within) ∙ (ap f.number same ∙ out) in absurd (cc clash)
        by_test false t = refl

-- an output or an input of the region, where a port leads to this end
pub taken_out : (f : Cut) (r c : Plan) → IsCut f r c → (b : End) → name_of f b ≡ f.inner b → (way : Direction) (v : ℕ) (s : Tokens)
    → ((d : Contact) → contact_at r b ≡ Some d → way ≡ way_taken d.role) → token_at r s b way ≡ Some v
    → Runs c (out_if (f.inner b) v) (cut_tokens f c s) (cut_tokens f c (with_token r b way None s))
taken_out f r c is b outside way v s ways held = by_inner (f.inner b) refl
  where
    passes : (e : End) → f.inner b ≡ Some e → Does c (Out e v) (cut_tokens f c s) (cut_tokens f c (with_token r b way None s))
    passes e inner =
        let port = is.inners b e inner in
        let own = port_own c e port.0 port.1 in
        let lies : lies_at f e ≡ b = port_lies f e port.0 ∙ port.2 in
        let one = joined c e port.1.0.asking is.right (stands_there c port.1.0 e is.right (contained c.joints port.1.0 port.1.1) port.1.2) in
        let there : contact_at r b ≡ Some one.here = ap (contact_at r) (sym port.2) ∙ (is.contacts e port.0 port.1 ∙ one.is_here) in
        let turn : way ≡ way_taken one.here.role = ways one.here there in (
          port.0,
          subst (λ (o : Option Contact). Passes c (Out e v) o (cut_tokens f c s) (cut_tokens f c (with_token r b way None s))) (sym one.is_here)
              (subst (λ (w : Direction). (token_at c (cut_tokens f c s) e w ≡ Some v) × (cut_tokens f c (with_token r b way None s) ≡ with_token c e w None (cut_tokens f c s))) turn (
                token_cut f r c is e own s way ∙ (ap (λ (x : End). token_at r s x way) lies ∙ held),
                ap (λ (x : End). cut_tokens f c (with_token r x way None s)) (sym lies) ∙ sym (token_put f r c is e own way None s),
              )),
        )

    by_inner : (o : Option End) → f.inner b ≡ o → Runs c (out_if o v) (cut_tokens f c s) (cut_tokens f c (with_token r b way None s))
    by_inner None none = token_lost f r c is b (outside ∙ none) way None s
    by_inner (Some e) inner = (cut_tokens f c (with_token r b way None s), passes e inner, refl)

pub lies_there : (r : Plan) (b x : End) (way : Direction) (v : ℕ) (s : Tokens) → places_of r b ≡ Some x → token_at r (with_token r b way (Some v) s) b way ≡ Some v
lies_there r b x way v s named =
    subst (λ (o : Option End). held_at (with_held way o (Some v) s) way o ≡ Some v) (sym named)
    (ap (λ (w : Bool). if w && same_end x x then Some v else s.in_place way x) (same_way_itself way)
    ∙ ap (λ (w : Bool). if w then Some v else s.in_place way x) (same_itself x))

pub put_in : (f : Cut) (r c : Plan) → IsCut f r c → (b : End) → name_of f b ≡ f.inner b → (way : Direction) (v : ℕ) (s : Tokens)
    → ((d : Contact) → contact_at r b ≡ Some d → token_at r (with_token r b way (Some v) s) b way ≡ Some v → (way ≡ way_put d.role) × (v < 2 ^ bits_of d way))
    → Runs c (in_if (f.inner b) v) (cut_tokens f c s) (cut_tokens f c (with_token r b way (Some v) s))
put_in f r c is b outside way v s small = by_inner (f.inner b) refl
  where
    passes : (e : End) → f.inner b ≡ Some e → Does c (In e v) (cut_tokens f c s) (cut_tokens f c (with_token r b way (Some v) s))
    passes e inner =
        let port = is.inners b e inner in
        let own = port_own c e port.0 port.1 in
        let lies : lies_at f e ≡ b = port_lies f e port.0 ∙ port.2 in
        let one = joined c e port.1.0.asking is.right (stands_there c port.1.0 e is.right (contained c.joints port.1.0 port.1.1) port.1.2) in
        let there : contact_at r b ≡ Some one.here = ap (contact_at r) (sym port.2) ∙ (is.contacts e port.0 port.1 ∙ one.is_here) in
        let named = stands_there c port.1.0 e is.right (contained c.joints port.1.0 port.1.1) port.1.2 in
        let also = sym (ap (places_of r) lies) ∙ place_there f r c is e port.1.0.asking named in
        let fits = small one.here there (lies_there r b (lies_at f port.1.0.asking) way v s also) in (
          port.0,
          subst (λ (o : Option Contact). Passes c (In e v) o (cut_tokens f c s) (cut_tokens f c (with_token r b way (Some v) s))) (sym one.is_here)
              (subst (λ (w : Direction). (v < 2 ^ bits_of one.here w) × (cut_tokens f c (with_token r b way (Some v) s) ≡ with_token c e w (Some v) (cut_tokens f c s))) fits.0 (
                fits.1,
                ap (λ (x : End). cut_tokens f c (with_token r x way (Some v) s)) (sym lies) ∙ sym (token_put f r c is e own way (Some v) s),
              )),
        )

    by_inner : (o : Option End) → f.inner b ≡ o → Runs c (in_if o v) (cut_tokens f c s) (cut_tokens f c (with_token r b way (Some v) s))
    by_inner None none = token_lost f r c is b (outside ∙ none) way (Some v) s
    by_inner (Some e) inner = (cut_tokens f c (with_token r b way (Some v) s), passes e inner, refl)

-- A part puts one token at most, or puts only such as have no bits.
abbrev pub AllZero : List Token → Type 0
AllZero [] = Unit {0}
AllZero (t ∷ ts) = (t.value ≡ 0) × AllZero ts

abbrev pub PutsFew : List Token → Type 0
PutsFew [] = Unit {0}
PutsFew (t ∷ []) = Unit {0}
PutsFew (t ∷ u ∷ ts) = AllZero (t ∷ u ∷ ts)

few_shared : (role : Role) (h j b v : ℕ) → EachRow (λ (r : Row). PutsFew (r.puts v)) (shared_rows role h j b)
few_shared Serve h j b v = (tt, (tt, (tt, tt)))
few_shared Ask h j b v = (tt, (tt, tt))

few : (k : Part) (p : Phase) (n v : ℕ) → EachRow (λ (r : Row). PutsFew (r.puts v)) (rows k p n)
few Skip Rest n v = (tt, tt)
few (Lit w m) Rest n v = (tt, tt)
few (Seq u) Rest n v = (tt, tt)
few (Seq u) First n v = (tt, tt)
few (Seq u) Second n v = (tt, tt)
few Par Rest n v = ((refl, (refl, tt)), tt)
few Par Both n v = (tt, (tt, tt))
few Par LeftOnly n v = (tt, tt)
few Par RightOnly n v = (tt, tt)
few (If u) Rest n v = (tt, tt)
few (If u) Test n v = (tt, tt)
few (If u) Branch n v = (tt, tt)
few While Rest n v = (tt, tt)
few While Test n v = (tt, tt)
few While Body n v = (tt, tt)
few (Op op w) Rest n v = (tt, tt)
few (Op op w) Left n v = (tt, tt)
few (Op op w) Right n v = (tt, tt)
few (Not w) Rest n v = (tt, tt)
few (Not w) Waiting n v = (tt, tt)
few (Assign w) Rest n v = (tt, tt)
few (Assign w) Value n v = (tt, tt)
few (Assign w) Writing n v = (tt, tt)
few (Deref w) Rest n v = (tt, tt)
few (Deref w) Waiting n v = (tt, tt)
few (Local w u) Rest n v = (tt, tt)
few (Local w u) Active n v = (tt, (tt, (tt, tt)))
few (Array w c u) Rest n v = (tt, tt)
few (Array w c u) (Cells ns) n v = (tt, (tt, (tt, tt)))
few (Array w c u) (Reading ns) n v = (tt, tt)
few (Array w c u) (WritingTo ns) n v = (tt, tt)
few (Share t) p n v = share_table (λ (r : Row). PutsFew (r.puts v)) t n (λ j c at. few_shared c.role (length (contacts_of t)) j n v) p
few k p n v = tt

puts_few : (k : Part) (q : State) (t : Slot) (r : Row) (v : ℕ) → firing k q t ≡ Some r → PutsFew (r.puts v)
puts_few k q t r v e = (row_with (λ (x : Row). PutsFew (x.puts v)) t (rows k q.phase q.number) r (few k q.phase q.number v) e).1

-- what a part outside puts
put_one : (f : Cut) (r c : Plan) → IsCut f r c → (i : ℕ) (k : Part) → slice_get r.parts i ≡ Some k → f.number i ≡ None
    → (t : Token) → RoleIs k (shake_of t.slot) (role_putting t.slot) → (s : Tokens)
    → ((d : Contact) → contact_at r (end_of i t.slot) ≡ Some d
    → token_at r (with_token r (end_of i t.slot) (way_of t.slot) (Some t.value) s) (end_of i t.slot) (way_of t.slot) ≡ Some t.value
    → t.value < 2 ^ bits_of d (way_of t.slot))
    → Runs c (in_if (f.inner (end_of i t.slot)) t.value) (cut_tokens f c s)
    (cut_tokens f c (with_token r (end_of i t.slot) (way_of t.slot) (Some t.value) s))
put_one f r c is i k there out t role s small =
    put_in f r c is (end_of i t.slot) (outside_name f (end_of i t.slot) out) (way_of t.slot) t.value s (λ d at_end lies. (ways d at_end, small d at_end lies))
  where
    ways : (d : Contact) → contact_at r (end_of i t.slot) ≡ Some d → way_of t.slot ≡ way_put d.role
    ways d at_end =
        let here = subst (λ (o : Option Part). slice_get (contacts_of_part o) (shake_of t.slot) ≡ Some d) there at_end in
        way_to_put t.slot ∙ ap way_put (sym (role d here))

zeros_out : (f : Cut) (r c : Plan) → IsCut f r c → (i : ℕ) (k : Part) → slice_get r.parts i ≡ Some k → f.number i ≡ None
    → (ts : List Token) → AllZero ts → PutsInRole k ts → (s : Tokens)
    → Runs c (ins_of f i ts) (cut_tokens f c s) (cut_tokens f c (with_puts r i ts s))
zeros_out f r c is i k there out [] zero roles s = refl
zeros_out f r c is i k there out (t ∷ ts) zeros roles s =
    runs_then c (in_if (f.inner (end_of i t.slot)) t.value) (ins_of f i ts) (cut_tokens f c s) (cut_tokens f c now)
    (cut_tokens f c (with_puts r i ts now))
    (put_one f r c is i k there out t roles.0 s (λ d at_end lies. subst (λ (n : ℕ). n < 2 ^ bits_of d (way_of t.slot)) (sym zeros.0) (pow_pos (bits_of d (way_of t.slot)))))
    (zeros_out f r c is i k there out ts zeros.1 roles.1 now)
  where
    now : Tokens
    now = with_token r (end_of i t.slot) (way_of t.slot) (Some t.value) s

puts_out : (f : Cut) (r c : Plan) → IsCut f r c → (i : ℕ) (k : Part) → slice_get r.parts i ≡ Some k → f.number i ≡ None
    → (ts : List Token) → PutsFew ts → PutsInRole k ts → (s : Tokens) → TokensFit r (with_puts r i ts s)
    → Runs c (ins_of f i ts) (cut_tokens f c s) (cut_tokens f c (with_puts r i ts s))
puts_out f r c is i k there out [] few roles s fit = refl
puts_out f r c is i k there out (t ∷ []) few roles s fit =
    runs_then c (in_if (f.inner (end_of i t.slot)) t.value) [] (cut_tokens f c s) (cut_tokens f c now) (cut_tokens f c now)
    (put_one f r c is i k there out t roles.0 s (λ d at_end lies. fit (end_of i t.slot) d (way_of t.slot) t.value at_end lies)) refl
  where
    now : Tokens
    now = with_token r (end_of i t.slot) (way_of t.slot) (Some t.value) s
puts_out f r c is i k there out (t ∷ u ∷ ts) few roles s fit = zeros_out f r c is i k there out (t ∷ u ∷ ts) few roles s

-- a firing outside
fire_outside : (f : Cut) (r c : Plan) → IsCut f r c → All LiteralFits r.parts → (i : ℕ) → f.number i ≡ None → (slot : Slot) (v : ℕ) (row : Row) (s : Tokens)
    → AllFit r s → token_at r s (end_of i slot) (way_of slot) ≡ Some v → firing_of (slice_get r.parts i) (s.state i) slot ≡ Some row
    → Runs c (out_if (f.inner (end_of i slot)) v ++ ins_of f i (row.puts v)) (cut_tokens f c s) (cut_tokens f c (fired r i row v s))
fire_outside f r c is literals i out slot v row s fit held by =
    runs_then c (out_if (f.inner (end_of i slot)) v) (ins_of f i (row.puts v)) (cut_tokens f c s) (cut_tokens f c taken) (cut_tokens f c (fired r i row v s))
    (taken_out f r c is (end_of i slot) (outside_name f (end_of i slot) out) (way_of slot) v s ways held)
    (subst (λ (x : Tokens). Runs c (ins_of f i (row.puts v)) x (cut_tokens f c (fired r i row v s))) same
    (puts_out f r c is i k there out (row.puts v) (puts_few k (s.state i) slot row v fires) roles.1.1
    (with_state i (row.next v) (with_token r (end_of i row.takes) (way_of row.takes) None s)) fit_now))
  where
    part : (k : Part) × (slice_get r.parts i ≡ Some k)
    part = firing_part (slice_get r.parts i) (s.state i) slot row by

    k : Part
    k = part.0

    there : slice_get r.parts i ≡ Some k
    there = part.1

    fires : firing k (s.state i) slot ≡ Some row
    fires = subst (λ (o : Option Part). firing_of o (s.state i) slot ≡ Some row) there by

    taken : Tokens
    taken = with_token r (end_of i slot) (way_of slot) None s

    roles : (row.takes ≡ slot) × (RoleIs k (shake_of row.takes) (role_taking row.takes) × PutsInRole k (row.puts v))
    roles = row_roles k (s.state i) slot row v fires

    at_part : (d : Contact) → contact_at r (end_of i slot) ≡ Some d → slice_get (part_contacts k) (shake_of slot) ≡ Some d
    at_part d at_end = subst (λ (o : Option Part). slice_get (contacts_of_part o) (shake_of slot) ≡ Some d) there at_end

    ways : (d : Contact) → contact_at r (end_of i slot) ≡ Some d → way_of slot ≡ way_taken d.role
    ways d at_end =
        let role = subst (λ (x : Slot). RoleIs k (shake_of x) (role_taking x)) roles.0 roles.1.0 in
        way_to_take slot ∙ ap way_taken (sym (role d (at_part d at_end)))

    fit_now : TokensFit r (fired r i row v s)
    fit_now =
        (all_stay_fit r (Fire i slot ∷ []) s (fired r i row v s) is.whole_right literals fit (fired r i row v s, (v, row, held, by, refl), refl)).0

    same : cut_tokens f c (with_state i (row.next v) (with_token r (end_of i row.takes) (way_of row.takes) None s)) ≡ cut_tokens f c taken
    same =
        state_lost f r c is i k out (row.next v) (with_token r (end_of i row.takes) (way_of row.takes) None s)
        ∙ ap (λ (x : Slot). cut_tokens f c (with_token r (end_of i x) (way_of x) None s)) roles.0

pub element_is_cut : ElementIsCut
element_is_cut f r c (Fire i slot) s t is literals fit does = by_number (f.number i) refl
  where
    outside : f.number i ≡ None
        → Runs c (outside_firing f i slot (token_at r s (end_of i slot) (way_of slot)) (firing_of (slice_get r.parts i) (s.state i) slot)) (cut_tokens f c s) (cut_tokens f c t)
    outside out =
        subst (λ (o : Option ℕ). Runs c (outside_firing f i slot o (firing_of (slice_get r.parts i) (s.state i) slot)) (cut_tokens f c s) (cut_tokens f c t)) (sym does.2)
        (subst (λ (o : Option Row). Runs c (outside_firing f i slot (Some does.0) o) (cut_tokens f c s) (cut_tokens f c t)) (sym does.3)
        (subst (λ (x : Tokens). Runs c (out_if (f.inner (end_of i slot)) does.0 ++ ins_of f i (does.1.puts does.0)) (cut_tokens f c s) (cut_tokens f c x)) (sym does.4)
        (fire_outside f r c is literals i out slot does.0 does.1 s fit does.2 does.3)))

    by_number : (o : Option ℕ) → f.number i ≡ o
        → Runs c (firing_in f i slot o (outside_firing f i slot (token_at r s (end_of i slot) (way_of slot)) (firing_of (slice_get r.parts i) (s.state i) slot))) (cut_tokens f c s) (cut_tokens f c t)
    by_number None out = outside out
    by_number (Some j) number = (cut_tokens f c t, fire_cut f r c is j i number slot s t does, refl)
element_is_cut f r c (Out e v) s t is literals fit (port, passes) = by_contact (contact_at r e) refl
  where
    by_contact : (o : Option Contact) → contact_at r e ≡ o → Runs c (out_if (f.inner e) v) (cut_tokens f c s) (cut_tokens f c t)
    by_contact None none = absurd (subst (λ (o : Option Contact). Passes r (Out e v) o s t) none passes)
    by_contact (Some d) there =
        let here = subst (λ (o : Option Contact). Passes r (Out e v) o s t) there passes in
        subst (λ (x : Tokens). Runs c (out_if (f.inner e) v) (cut_tokens f c s) (cut_tokens f c x)) (sym here.1)
        (taken_out f r c is e (port_outside f e port) (way_taken d.role) v s (λ k also. ap (λ (x : Contact). way_taken x.role) (one_contact k also)) here.0)
      where
        one_contact : (k : Contact) → contact_at r e ≡ Some k → d ≡ k
        one_contact k also = cc (there, also)
element_is_cut f r c (In e v) s t is literals fit (port, passes) = by_contact (contact_at r e) refl
  where
    by_contact : (o : Option Contact) → contact_at r e ≡ o → Runs c (in_if (f.inner e) v) (cut_tokens f c s) (cut_tokens f c t)
    by_contact None none = absurd (subst (λ (o : Option Contact). Passes r (In e v) o s t) none passes)
    by_contact (Some d) there =
        let here = subst (λ (o : Option Contact). Passes r (In e v) o s t) there passes in
        subst (λ (x : Tokens). Runs c (in_if (f.inner e) v) (cut_tokens f c s) (cut_tokens f c x)) (sym here.1)
        (put_in f r c is e (port_outside f e port) (way_put d.role) v s (λ k also lies. small here.0 k also))
      where
        small : v < 2 ^ bits_of d (way_put d.role) → (k : Contact) → contact_at r e ≡ Some k → (way_put d.role ≡ way_put k.role) × (v < 2 ^ bits_of k (way_put d.role))
        small less k also =
            let one : d ≡ k = cc (there, also) in
            subst (λ (x : Contact). (way_put d.role ≡ way_put x.role) × (v < 2 ^ bits_of x (way_put d.role))) one (refl, less)

pub list_is_cut : ListIsCut
list_is_cut f r c [] ys s t is literals fit runs made =
    subst (λ (zs : List Element). Runs c zs (cut_tokens f c s) (cut_tokens f c t)) (sym made) (ap (cut_tokens f c) runs)
list_is_cut f r c (x ∷ xs) ys s t is literals fit (u, does, runs) made =
    let rest = made u does in
    let fit_now = all_stay_fit r (x ∷ []) s u is.whole_right literals fit (u, does, refl) in
    subst (λ (zs : List Element). Runs c zs (cut_tokens f c s) (cut_tokens f c t)) (sym rest.1)
    (runs_then c (cut_element f r x s) rest.0 (cut_tokens f c s) (cut_tokens f c u) (cut_tokens f c t)
    (element_is_cut f r c x s u is literals fit does) (list_is_cut f r c xs rest.0 u t is literals fit_now runs rest.2))
