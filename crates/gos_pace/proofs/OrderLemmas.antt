-- Pulses at different ends commute, so that one order of a cycle's pulses is enough.
--
-- Two outputs at different ends take from two places, and two inputs fill two: a place is named by a joint's asking end and
-- a direction, and of a joint's two ends each has a role of its own.
use Rattle.std.specs.Prelude.{Option, None, ◌&&◌}
use Rattle.std.proofs.Common.{◌≡◌, ℕ, Bool, true, false, List, [], ◌∷◌, ◌++◌, map, Some, refl, sym, ◌∙◌, ap, subst, arith, if◌then◌else◌}
use Rattle.std.proofs.lemmas.Bool.{and_parts}
use Rattle.gos_types.specs.declared.shakes.Role.{Role}
use Rattle.gos_types.specs.declared.shakes.Role.TheVariants.{Serve, Ask}
use Rattle.gos_types.specs.Events.{Direction, Request, Answer}
use Rattle.gos_model.specs.Labels.{Label}
use Rattle.gos_pace.specs.Flattening.{outputs, inputs, AnyOrder}
use Rattle.gos_plan.specs.Kinds.{Contact}
use Rattle.gos_plan.specs.Plans.{End, Joint, Plan, IsRight, contact_at, same_end, stands_in}
use Rattle.gos_plan.specs.Tokens.{Tokens, Element, In, Out, places_of, same_way, held_at, with_held, with_token, token_at, way_taken, way_put, Passes, Does, Runs}
use Rattle.gos_pace.specs.Cycles.{end_of_label, out_of, in_of, outs_of, ins_of}
use Rattle.gos_plan.specs.Made.{fires_of}
use Rattle.gos_pace.specs.AnyOrder.{NonePasses, EndsDiffer, OneOrderIsEnough}
use Rattle.gos_plan.proofs.JointLemmas.{same_is, same_itself, found, Found, one_joint}
use Rattle.gos_plan.proofs.BalanceLemmas.{IsOf, of_role}

-- two places, if there are, are not one
abbrev AreApart : Direction → Option End → Direction → Option End → Type 0
AreApart way None other o = Unit {0}
AreApart way (Some a) other None = Unit {0}
AreApart way (Some a) other (Some b) = (same_way way other && same_end a b) ≡ false

same_way_is : (way other : Direction) → same_way way other ≡ true → way ≡ other
same_way_is Request Request e = refl
same_way_is Answer Answer e = refl
same_way_is Request Answer e = absurd cc
same_way_is Answer Request e = absurd cc

same_way_itself : (way : Direction) → same_way way way ≡ true
same_way_itself Request = refl
same_way_itself Answer = refl

-- a place that is both of two places that are apart
not_both : (way other w : Direction) (a b d : End) → (same_way way other && same_end a b) ≡ false → (same_way w other && same_end d b) ≡ true
    → (same_way w way && same_end d a) ≡ true → ⊥
not_both way other w a b d apart one two =
    let first = and_parts (same_way w other) (same_end d b) one in
    let second = and_parts (same_way w way) (same_end d a) two in
    let ways : way ≡ other = sym (same_way_is w way second.0) ∙ same_way_is w other first.0 in
    let ends : a ≡ b = sym (same_is d a second.1) ∙ same_is d b first.1 in
    let same : (same_way way other && same_end a b) ≡ true =
    subst (λ (x : Direction). (same_way way x && same_end a b) ≡ true) ways
    (subst (λ (x : End). (same_way way way && same_end a x) ≡ true) ends (rw (same_way_itself way, same_itself a) refl)) in
    let no : true ≡ false = sym same ∙ apart in
    cc no

-- what lies in one of them is not changed at the other
stays : (way other : Direction) (n o : Option End) (held : Option ℕ) (s : Tokens) → AreApart way n other o
    → (held_at (with_held way n held s) other o ≡ held_at s other o) × (held_at (with_held other o held s) way n ≡ held_at s way n)
stays way other None None held s apart = (refl, refl)
stays way other None (Some b) held s apart = (refl, refl)
stays way other (Some a) None held s apart = (refl, refl)
stays way other (Some a) (Some b) held s apart = (by_test (same_way other way && same_end b a) refl, rw apart refl)
  where
    by_test : (t : Bool) → (same_way other way && same_end b a) ≡ t → (if same_way other way && same_end b a then held else s.in_place other b) ≡ s.in_place other b
    by_test false e = rw e refl
    by_test true e = absurd (not_both way other other a b b apart (rw (same_way_itself other, same_itself b) refl) e)

-- and they may be filled or emptied in either order
either : (x y : Bool) (h k z : Option ℕ) → (x ≡ true → y ≡ true → ⊥) → (if x then h else (if y then k else z)) ≡ (if y then k else (if x then h else z))
either true true h k z never = absurd (never refl refl)
either true false h k z never = refl
either false true h k z never = refl
either false false h k z never = refl

commute : (way other : Direction) (n o : Option End) (h k : Option ℕ) (s : Tokens) → AreApart way n other o
    → with_held other o k (with_held way n h s) ≡ with_held way n h (with_held other o k s)
commute way other None None h k s apart = refl
commute way other None (Some b) h k s apart = refl
commute way other (Some a) None h k s apart = refl
commute way other (Some a) (Some b) h k s apart = λ i. record s { in_place = λ w d. places w d i }
  where
    places : (w : Direction) (d : End)
        → (if same_way w other && same_end d b then k else (if same_way w way && same_end d a then h else s.in_place w d))
        ≡ (if same_way w way && same_end d a then h else (if same_way w other && same_end d b then k else s.in_place w d))
    places w d =
        either (same_way w other && same_end d b) (same_way w way && same_end d a) k h (s.in_place w d)
        (λ one two. not_both way other w a b d apart one two)

-- of the two ends of a joint one asks and the other serves
same_of_role : (role : Role) (d e : End) (j : Joint) → IsOf role d j → IsOf role e j → d ≡ e
same_of_role Ask d e j one two = one ∙ sym two
same_of_role Serve d e j one two = one ∙ sym two

one_end : (p : Plan) (d e a : End) (c b : Contact) → IsRight p → contact_at p d ≡ Some c → contact_at p e ≡ Some b → c.role ≡ b.role
    → places_of p d ≡ Some a → places_of p e ≡ Some a → d ≡ e
one_end p d e a c b right there also role n m =
    let f = found p.joints d a n in
    let g = found p.joints e a m in
    let one = one_joint p [] p.joints f.joint g.joint a right f.is_in g.is_in (stands f) (stands g) in
    same_of_role c.role d e f.joint (of_role p f.joint d c right f.is_in f.stands there)
    (subst (λ (j : Joint). IsOf c.role e j) (sym one)
    (subst (λ (r : Role). IsOf r e g.joint) (sym role) (of_role p g.joint e b right g.is_in g.stands also)))
  where
    stands : {x : End} → (f : Found p.joints x a) → stands_in a f.joint ≡ true
    stands f = subst (λ (x : End). stands_in x f.joint ≡ true) f.named (grind (arith, same_itself f.joint.asking))

-- so different ends have places that are apart, for what their roles take and for what they put
abbrev TellsRoles : (Role → Direction) → Type 0
TellsRoles way = (r q : Role) → same_way (way r) (way q) ≡ true → r ≡ q

tells_roles : (way : Role → Direction) → same_way (way Serve) (way Ask) ≡ false → same_way (way Ask) (way Serve) ≡ false → TellsRoles way
tells_roles way serves asks Serve Serve e = refl
tells_roles way serves asks Ask Ask e = refl
tells_roles way serves asks Serve Ask e = let no : true ≡ false = sym e ∙ serves in absurd (cc no)
tells_roles way serves asks Ask Serve e = let no : true ≡ false = sym e ∙ asks in absurd (cc no)

places_apart : (p : Plan) (way : Role → Direction) (d e : End) (c b : Contact) → TellsRoles way → IsRight p → contact_at p d ≡ Some c
    → contact_at p e ≡ Some b → same_end d e ≡ false → AreApart (way c.role) (places_of p d) (way b.role) (places_of p e)
places_apart p way d e c b tells right there also differ = by_places (places_of p d) (places_of p e) refl refl
  where
    by_places : (n m : Option End) → places_of p d ≡ n → places_of p e ≡ m → AreApart (way c.role) n (way b.role) m
    by_places None m f g = tt
    by_places (Some a) None f g = tt
    by_places (Some a) (Some x) f g = by_test (same_way (way c.role) (way b.role) && same_end a x) refl
      where
        by_test : (t : Bool) → (same_way (way c.role) (way b.role) && same_end a x) ≡ t → (same_way (way c.role) (way b.role) && same_end a x) ≡ false
        by_test false h = h
        by_test true h =
            let both = and_parts (same_way (way c.role) (way b.role)) (same_end a x) h in
            let same : d ≡ e = one_end p d e a c b right there also (tells c.role b.role both.0) f (g ∙ ap Some (sym (same_is a x both.1))) in
            let no : false ≡ true = sym differ ∙ (ap (same_end d) (sym same) ∙ same_itself d) in
            cc no

-- what passes at an end passes at a handshake there
at_contact : (p : Plan) (x : Element) (o : Option Contact) (s t : Tokens) → Passes p x o s t
    → (c : Contact) × (o ≡ Some c) × Passes p x (Some c) s t
at_contact p x None s t passes = absurd passes
at_contact p x (Some c) s t passes = (c, refl, passes)

-- one place changed and then another that is apart from it: the other first leads to the same state
other_first : (way other : Direction) (n o : Option End) (h k : Option ℕ) (s t u : Tokens) → AreApart way n other o
    → t ≡ with_held way n h s → u ≡ with_held other o k t → u ≡ with_held way n h (with_held other o k s)
other_first way other n o h k s t u apart one two = two ∙ (ap (with_held other o k) one ∙ commute way other n o h k s apart)

-- pulses of this sort that pass different ends may come in either order
abbrev Swap : Plan → (Label → Element) → Type 0
Swap p f =
    (l k : Label) (s t u : Tokens) → same_end (end_of_label p l) (end_of_label p k) ≡ false → Does p (f l) s t → Does p (f k) t u
    → (w : Tokens) × Does p (f k) s w × Does p (f l) w u

outputs_swap : (p : Plan) → IsRight p → Swap p (out_of p)
outputs_swap p right l k s t u differ one two =
    let d : End = end_of_label p l in
    let e : End = end_of_label p k in
    let (c, there, first) = at_contact p (Out d l.value) (contact_at p d) s t one.1 in
    let (b, also, second) = at_contact p (Out e k.value) (contact_at p e) t u two.1 in
    let apart = places_apart p way_taken d e c b (tells_roles way_taken refl refl) right there also differ in
    let w : Tokens = with_token p e (way_taken b.role) None s in
    let kept = stays (way_taken c.role) (way_taken b.role) (places_of p d) (places_of p e) None s apart in
    let lies : token_at p s e (way_taken b.role) ≡ Some k.value =
    sym kept.0 ∙ (ap (λ (z : Tokens). token_at p z e (way_taken b.role)) (sym first.1) ∙ second.0) in
    let last = other_first (way_taken c.role) (way_taken b.role) (places_of p d) (places_of p e) None None s t u apart first.1 second.1 in (
      w,
      (two.0, subst (λ (o : Option Contact). Passes p (Out e k.value) o s w) (sym also) (lies, refl)),
      (one.0, subst (λ (o : Option Contact). Passes p (Out d l.value) o w u) (sym there) (kept.1 ∙ first.0, last)),
    )

inputs_swap : (p : Plan) → IsRight p → Swap p (in_of p)
inputs_swap p right l k s t u differ one two =
    let d : End = end_of_label p l in
    let e : End = end_of_label p k in
    let (c, there, first) = at_contact p (In d l.value) (contact_at p d) s t one.1 in
    let (b, also, second) = at_contact p (In e k.value) (contact_at p e) t u two.1 in
    let apart = places_apart p way_put d e c b (tells_roles way_put refl refl) right there also differ in
    let w : Tokens = with_token p e (way_put b.role) (Some k.value) s in
    let last =
    other_first (way_put c.role) (way_put b.role) (places_of p d) (places_of p e) (Some l.value) (Some k.value) s t u apart first.1 second.1 in (
      w,
      (two.0, subst (λ (o : Option Contact). Passes p (In e k.value) o s w) (sym also) (second.0, refl)),
      (one.0, subst (λ (o : Option Contact). Passes p (In d l.value) o w u) (sym there) (first.0, last)),
    )

-- a pulse sinks behind others that pass other ends
sink : (p : Plan) (f : Label → Element) → Swap p f → (l : Label) (before after : List Label) (rest : List Element) (s u : Tokens)
    → NonePasses p (end_of_label p l) before → Runs p (f l ∷ (map f (before ++ after) ++ rest)) s u → Runs p (map f (before ++ (l ∷ after)) ++ rest) s u
sink p f swap l [] after rest s u none runs = runs
sink p f swap l (k ∷ ks) after rest s u none (t, one, (z, two, more)) =
    let (w, first, second) = swap l k s t z none.0 one two in
    (w, first, sink p f swap l ks after rest w u none.1 (z, second, more))

none_left : (p : Plan) (e : End) (before after : List Label) → NonePasses p e (before ++ after) → NonePasses p e before
none_left p e [] after none = tt
none_left p e (l ∷ ls) after none = (none.0, none_left p e ls after none.1)

none_more : (p : Plan) (e : End) (l : Label) (before after : List Label) → same_end e (end_of_label p l) ≡ false → NonePasses p e (before ++ after)
    → NonePasses p e (before ++ (l ∷ after))
none_more p e l [] after here none = (here, none)
none_more p e l (k ∷ ks) after here none = (none.0, none_more p e l ks after here none.1)

none_in_order : (p : Plan) (e : End) (xs ys : List Label) → NonePasses p e xs → AnyOrder xs ys → NonePasses p e ys
none_in_order p e [] ys none order = subst (NonePasses p e) (sym order) tt
none_in_order p e (x ∷ xs) ys none (before, after, is, order) =
    subst (NonePasses p e) (sym is) (none_more p e x before after none.0 (none_in_order p e xs (before ++ after) none.1 order))

-- so all of them may come in any order
in_any_order : (p : Plan) (f : Label → Element) → Swap p f → (xs ys : List Label) (rest : List Element) (s u : Tokens) → EndsDiffer p xs
    → AnyOrder xs ys → Runs p (map f xs ++ rest) s u → Runs p (map f ys ++ rest) s u
in_any_order p f swap [] ys rest s u differ order runs = subst (λ (zs : List Label). Runs p (map f zs ++ rest) s u) (sym order) runs
in_any_order p f swap (x ∷ xs) ys rest s u differ (before, after, is, order) (t, does, more) =
    let others = in_any_order p f swap xs (before ++ after) rest t u differ.1 order more in
    let none = none_left p (end_of_label p x) before after (none_in_order p (end_of_label p x) xs (before ++ after) differ.0 order) in
    subst (λ (zs : List Label). Runs p (map f zs ++ rest) s u) (sym is) (sink p f swap x before after rest s u none (t, does, others))

-- and behind a list that stays
behind_same : (p : Plan) (xs ys zs : List Element) (s u : Tokens) → ((t : Tokens) → Runs p ys t u → Runs p zs t u) → Runs p (xs ++ ys) s u → Runs p (xs ++ zs) s u
behind_same p [] ys zs s u turn runs = turn s runs
behind_same p (x ∷ xs) ys zs s u turn (t, does, more) = (t, does, behind_same p xs ys zs t u turn more)

pub one_order_is_enough : OneOrderIsEnough
one_order_is_enough p net v s m right outs ins runs out inp order input_order =
    let rest : List Element = fires_of m.firings in
    let outs_first =
    in_any_order p (out_of p) (outputs_swap p right) (outputs net v) out (ins_of p (inputs net v) ++ rest) s m.after outs order runs in
    behind_same p (outs_of p out) (ins_of p (inputs net v) ++ rest) (ins_of p inp ++ rest) s m.after
    (λ t more. in_any_order p (in_of p) (inputs_swap p right) (inputs net v) inp rest t m.after ins input_order more) outs_first
