-- What a joint keeps: how its ends are engaged tells what lies in its places.
--
-- A joint is closed, or its request lies in its place, or it is being served, or its answer lies in its place. A token put
-- or taken at an end turns whether that end is engaged, and each joint stays in one of the four.
use Rattle.std.specs.Prelude.{not, Option, None}
use Rattle.std.proofs.Common.{◌≡◌, ℕ, Bool, true, false, [], Some, refl, sym, ◌∙◌, ap, subst, arith, if◌then◌else◌}
use Rattle.std.proofs.lemmas.Bool.{or_right}
use Rattle.gos_types.specs.declared.shakes.Role.{Role}
use Rattle.gos_types.specs.declared.shakes.Role.TheVariants.{Serve, Ask}
use Rattle.gos_types.specs.Events.{Direction, Request, Answer}
use Rattle.gos_plan.specs.Kinds.{Contact}
use Rattle.gos_plan.specs.Plans.{End, Joint, Plan, contact_at, same_end, stands_in, Fits, IsRight}
use Rattle.gos_plan.specs.Tokens.{Tokens, with_place, held_at, with_held, token_at, with_token, places_of, way_taken, way_put}
use Rattle.gos_plan.specs.Turns.{IsEmptyAt, HoldsAtMostOne}
use Rattle.gos_plan.proofs.JointLemmas.{IsIn, same_is, same_itself, found, has_place, one_joint, fits, asking_role, serving_role}

-- who asks, who serves, and what lies in the places
abbrev pub Balance : Bool → Bool → Option ℕ → Option ℕ → Type 0
Balance false false None None = Unit {0}
Balance true true None None = Unit {0}
Balance true false (Some v) None = Unit {0}
Balance true false None (Some v) = Unit {0}
Balance asker server request answer = ⊥

-- the joint is in one of the four states
abbrev pub Keeps : (End → Bool) → Tokens → Joint → Type 0
Keeps engaged s j = Balance (engaged j.asking) (engaged j.serving) (s.in_place Request j.asking) (s.in_place Answer j.asking)

-- each joint of the plan is
abbrev pub Balanced : Plan → (End → Bool) → Tokens → Type 0
Balanced p engaged s = (j : Joint) → IsIn j p.joints → Keeps engaged s j

-- one end is turned
abbrev pub turned_at : End → (End → Bool) → End → Bool
turned_at e engaged d = if same_end d e then not (engaged d) else engaged d

-- whether an end of this role is engaged before something is taken there
abbrev pub before_taking : Role → Bool
before_taking Serve = false
before_taking Ask = true

-- whether an end of this role is engaged before something is put there
abbrev pub before_putting : Role → Bool
before_putting Serve = true
before_putting Ask = false

-- the other joints stay as they are
untouched : (p : Plan) (engaged : End → Bool) (s : Tokens) (j k : Joint) (e : End) (way : Direction) (held : Option ℕ) → IsRight p
    → IsIn j p.joints → stands_in e j ≡ true → IsIn k p.joints → same_end k.asking j.asking ≡ false
    → Keeps engaged s k → Keeps (turned_at e engaged) (with_place way j.asking held s) k
untouched p engaged s j k e way held r i t h n b =
    let a : same_end k.asking e ≡ false = apart (same_end k.asking e) refl in
    let c : same_end k.serving e ≡ false = apart' (same_end k.serving e) refl in
    grind (arith, a, c, n, b)
  where
    other : stands_in e k ≡ true → ⊥
    other u =
        let same : k ≡ j = one_joint p [] p.joints k j e r h i u t in
        let yes : same_end k.asking j.asking ≡ true = subst (λ (x : Joint). same_end k.asking x.asking ≡ true) same (same_itself k.asking) in
        grind (arith, n, yes)

    apart : (b : Bool) → same_end k.asking e ≡ b → same_end k.asking e ≡ false
    apart false u = u
    apart true u =
        let x : stands_in e k ≡ true = subst (λ (d : End). stands_in d k ≡ true) (same_is k.asking e u) (grind (arith, same_itself k.asking)) in
        absurd (other x)

    apart' : (b : Bool) → same_end k.serving e ≡ b → same_end k.serving e ≡ false
    apart' false u = u
    apart' true u =
        let x : stands_in e k ≡ true = subst (λ (d : End). stands_in d k ≡ true) (same_is k.serving e u) (or_right (same_end k.serving k.asking) (same_end k.serving k.serving) (same_itself k.serving)) in
        absurd (other x)

-- so all joints are balanced where the one is
changed : (p : Plan) (engaged : End → Bool) (s : Tokens) (j : Joint) (e : End) (way : Direction) (held : Option ℕ) → IsRight p
    → Balanced p engaged s → IsIn j p.joints → stands_in e j ≡ true
    → Keeps (turned_at e engaged) (with_place way j.asking held s) j → Balanced p (turned_at e engaged) (with_place way j.asking held s)
changed p engaged s j e way held r b i t here k h = by_test (same_end k.asking j.asking) refl
  where
    by_test : (x : Bool) → same_end k.asking j.asking ≡ x → Keeps (turned_at e engaged) (with_place way j.asking held s) k
    by_test false n = untouched p engaged s j k e way held r i t h n (b k h)
    by_test true y =
        let of_k : stands_in k.asking k ≡ true = grind (arith, same_itself k.asking) in
        let of_j : stands_in k.asking j ≡ true = grind (arith, y) in
        let same : k ≡ j = one_joint p [] p.joints k j k.asking r h i of_k of_j in
        subst (λ (x : Joint). Keeps (turned_at e engaged) (with_place way j.asking held s) x) (sym same) here

-- the two ends of a joint differ
pub ends_differ : (p : Plan) (j : Joint) → IsRight p → IsIn j p.joints → (same_end j.asking j.serving ≡ false) × (same_end j.serving j.asking ≡ false)
ends_differ p j r i = (by_test (same_end j.asking j.serving) refl, by_test' (same_end j.serving j.asking) refl)
  where
    differ : j.asking ≡ j.serving → ⊥
    differ e =
        let f = fits p [] p.joints j r i in
        let g = subst (λ (d : End). contact_at p d ≡ contact_at p j.serving) (sym e) refl in
        grind (arith, f.2, f.3, g)

    by_test : (b : Bool) → same_end j.asking j.serving ≡ b → same_end j.asking j.serving ≡ false
    by_test false t = t
    by_test true t = absurd (differ (same_is j.asking j.serving t))

    by_test' : (b : Bool) → same_end j.serving j.asking ≡ b → same_end j.serving j.asking ≡ false
    by_test' false t = t
    by_test' true t = absurd (differ (sym (same_is j.serving j.asking t)))

-- an end that stands in a joint is one of its two, by its role
abbrev pub IsOf : Role → End → Joint → Type 0
IsOf Ask e j = e ≡ j.asking
IsOf Serve e j = e ≡ j.serving

pub of_role : (p : Plan) (j : Joint) (e : End) (c : Contact) → IsRight p → IsIn j p.joints → stands_in e j ≡ true → contact_at p e ≡ Some c
    → IsOf c.role e j
of_role p j e c r i t k = by_test (same_end e j.asking) refl
  where
    f : Fits p j
    f = fits p [] p.joints j r i

    by_test : (b : Bool) → same_end e j.asking ≡ b → IsOf c.role e j
    by_test true a =
        let is : e ≡ j.asking = same_is e j.asking a in
        let role : c.role ≡ Ask = asking_role p j c f (subst (λ (d : End). contact_at p d ≡ Some c) is k) in
        subst (λ (x : Role). IsOf x e j) (sym role) is
    by_test false a =
        let s : same_end e j.serving ≡ true = grind (arith, t, a) in
        let is : e ≡ j.serving = same_is e j.serving s in
        let role : c.role ≡ Serve = serving_role p j c f (subst (λ (d : End). contact_at p d ≡ Some c) is k) in
        subst (λ (x : Role). IsOf x e j) (sym role) is

-- no two tokens
not_both : (a b : Bool) (v w : ℕ) → Balance a b (Some v) (Some w) → ⊥
not_both true true v w h = h
not_both true false v w h = h
not_both false true v w h = h
not_both false false v w h = h

-- the four moves of a joint
request_taken : (a b : Bool) (v : ℕ) (answer : Option ℕ) → Balance a b (Some v) answer → (b ≡ false) × Balance a (not b) None answer
request_taken true false v None h = (refl, tt)
request_taken true true v None h = absurd h
request_taken false true v None h = absurd h
request_taken false false v None h = absurd h
request_taken a b v (Some x) h = absurd (not_both a b v x h)

answer_taken : (a b : Bool) (request : Option ℕ) (v : ℕ) → Balance a b request (Some v) → (a ≡ true) × Balance (not a) b request None
answer_taken true false None v h = (refl, tt)
answer_taken true true None v h = absurd h
answer_taken false true None v h = absurd h
answer_taken false false None v h = absurd h
answer_taken a b (Some x) v h = absurd (not_both a b x v h)

request_put : (a b : Bool) (request answer : Option ℕ) (v : ℕ) → a ≡ false → Balance a b request answer
    → (request ≡ None) × (answer ≡ None) × Balance (not a) b (Some v) answer
request_put false false None None v e h = (refl, refl, tt)
request_put false true None None v e h = absurd h
request_put false b (Some x) None v e h = absurd (grind (arith, h))
request_put false b None (Some y) v e h = absurd (grind (arith, h))
request_put false b (Some x) (Some y) v e h = absurd (grind (arith, h))
request_put true b request answer v e h = absurd (grind (arith, e))

answer_put : (a b : Bool) (request answer : Option ℕ) (v : ℕ) → b ≡ true → Balance a b request answer
    → (request ≡ None) × (answer ≡ None) × Balance a (not b) request (Some v)
answer_put true true None None v e h = (refl, refl, tt)
answer_put false true None None v e h = absurd h
answer_put a true (Some x) None v e h = absurd (grind (arith, h))
answer_put a true None (Some y) v e h = absurd (grind (arith, h))
answer_put a true (Some x) (Some y) v e h = absurd (grind (arith, h))
answer_put a false request answer v e h = absurd (grind (arith, e))

-- where an end is turned, it shows the opposite; the joint's other end shows what it did
turned_there : (e : End) (engaged : End → Bool) → turned_at e engaged e ≡ not (engaged e)
turned_there e engaged = grind (arith, same_itself e)

turned_elsewhere : (e d : End) (engaged : End → Bool) → same_end d e ≡ false → turned_at e engaged d ≡ engaged d
turned_elsewhere e d engaged n = grind (arith, n)

-- the joint of an end at which something is taken
taken_here : (p : Plan) (engaged : End → Bool) (s : Tokens) (j : Joint) (e : End) (role : Role) (v : ℕ) → IsRight p → IsIn j p.joints
    → IsOf role e j → Keeps engaged s j → s.in_place (way_taken role) j.asking ≡ Some v
    → (engaged e ≡ before_taking role) × Keeps (turned_at e engaged) (with_place (way_taken role) j.asking None s) j
taken_here p engaged s j e Serve v r i o b t =
    let old = subst (λ (x : Option ℕ). Balance (engaged j.asking) (engaged j.serving) x (s.in_place Answer j.asking)) t b in
    let new = request_taken (engaged j.asking) (engaged j.serving) v (s.in_place Answer j.asking) old in
    let apart = ends_differ p j r i in
    rw o (new.0, rw (turned_elsewhere j.serving j.asking engaged apart.0, turned_there j.serving engaged, same_itself j.asking) new.1)
taken_here p engaged s j e Ask v r i o b t =
    let old = subst (λ (x : Option ℕ). Balance (engaged j.asking) (engaged j.serving) (s.in_place Request j.asking) x) t b in
    let new = answer_taken (engaged j.asking) (engaged j.serving) (s.in_place Request j.asking) v old in
    let apart = ends_differ p j r i in
    rw o (new.0, rw (turned_elsewhere j.asking j.serving engaged apart.1, turned_there j.asking engaged, same_itself j.asking) new.1)

-- the joint of an end at which something is put
put_here : (p : Plan) (engaged : End → Bool) (s : Tokens) (j : Joint) (e : End) (role : Role) (v : ℕ) → IsRight p → IsIn j p.joints
    → IsOf role e j → Keeps engaged s j → engaged e ≡ before_putting role
    → (s.in_place Request j.asking ≡ None) × (s.in_place Answer j.asking ≡ None)
    × Keeps (turned_at e engaged) (with_place (way_put role) j.asking (Some v) s) j
put_here p engaged s j e Serve v r i o b t =
    let busy : engaged j.serving ≡ true = subst (λ (d : End). engaged d ≡ true) o t in
    let new = answer_put (engaged j.asking) (engaged j.serving) (s.in_place Request j.asking) (s.in_place Answer j.asking) v busy b in
    let apart = ends_differ p j r i in
    (new.0, new.1, rw (o, turned_elsewhere j.serving j.asking engaged apart.0, turned_there j.serving engaged, same_itself j.asking) new.2)
put_here p engaged s j e Ask v r i o b t =
    let closed : engaged j.asking ≡ false = subst (λ (d : End). engaged d ≡ false) o t in
    let new = request_put (engaged j.asking) (engaged j.serving) (s.in_place Request j.asking) (s.in_place Answer j.asking) v closed b in
    let apart = ends_differ p j r i in
    (new.0, new.1, rw (o, turned_elsewhere j.asking j.serving engaged apart.1, turned_there j.asking engaged, same_itself j.asking) new.2)

-- taking a token turns its end, and keeps all joints balanced
pub taken : (p : Plan) (engaged : End → Bool) (s : Tokens) (e : End) (c : Contact) (v : ℕ) → IsRight p → Balanced p engaged s
    → contact_at p e ≡ Some c → token_at p s e (way_taken c.role) ≡ Some v
    → (engaged e ≡ before_taking c.role) × Balanced p (turned_at e engaged) (with_token p e (way_taken c.role) None s)
taken p engaged s e c v r b k t = by_place (places_of p e) refl
  where
    by_place : (o : Option End) → places_of p e ≡ o
        → (engaged e ≡ before_taking c.role) × Balanced p (turned_at e engaged) (with_token p e (way_taken c.role) None s)
    by_place None n = absurd (grind (arith, t, n))
    by_place (Some a) n =
        let f = found p.joints e a n in
        let named : places_of p e ≡ Some f.joint.asking = n ∙ ap Some (sym f.named) in
        let lies : s.in_place (way_taken c.role) f.joint.asking ≡ Some v = subst (λ (o : Option End). held_at s (way_taken c.role) o ≡ Some v) named t in
        let here = taken_here p engaged s f.joint e c.role v r f.is_in (of_role p f.joint e c r f.is_in f.stands k) (b f.joint f.is_in) lies in
        let all = changed p engaged s f.joint e (way_taken c.role) None r b f.is_in f.stands here.1 in
        (here.0, subst (λ (o : Option End). Balanced p (turned_at e engaged) (with_held (way_taken c.role) o None s)) (sym named) all)

-- an end that stands in no joint may be turned
unjoined : (p : Plan) (engaged : End → Bool) (s : Tokens) (e : End) → Balanced p engaged s → places_of p e ≡ None → Balanced p (turned_at e engaged) s
unjoined p engaged s e b n j i =
    let a : same_end j.asking e ≡ false = apart (same_end j.asking e) refl in
    let c : same_end j.serving e ≡ false = apart' (same_end j.serving e) refl in
    rw (turned_elsewhere e j.asking engaged a, turned_elsewhere e j.serving engaged c) (b j i)
  where
    apart : (x : Bool) → same_end j.asking e ≡ x → same_end j.asking e ≡ false
    apart false u = u
    apart true u =
        let x : stands_in e j ≡ true = subst (λ (d : End). stands_in d j ≡ true) (same_is j.asking e u) (grind (arith, same_itself j.asking)) in
        absurd (has_place p.joints j e i x n)

    apart' : (x : Bool) → same_end j.serving e ≡ x → same_end j.serving e ≡ false
    apart' false u = u
    apart' true u =
        let x : stands_in e j ≡ true = subst (λ (d : End). stands_in d j ≡ true) (same_is j.serving e u) (or_right (same_end j.serving j.asking) (same_end j.serving j.serving) (same_itself j.serving)) in
        absurd (has_place p.joints j e i x n)

-- putting a token turns its end, finds the joint empty, and keeps all joints balanced
pub put_well : (p : Plan) (engaged : End → Bool) (s : Tokens) (e : End) (c : Contact) (v : ℕ) → IsRight p → Balanced p engaged s
    → contact_at p e ≡ Some c → engaged e ≡ before_putting c.role
    → IsEmptyAt p s e × Balanced p (turned_at e engaged) (with_token p e (way_put c.role) (Some v) s)
put_well p engaged s e c v r b k t = by_place (places_of p e) refl
  where
    none : (way : Direction) → places_of p e ≡ None → token_at p s e way ≡ None
    none way n = rw n refl

    empty : (a : End) (way : Direction) → (s.in_place Request a ≡ None) × (s.in_place Answer a ≡ None) → s.in_place way a ≡ None
    empty a Request h = h.0
    empty a Answer h = h.1

    by_place : (o : Option End) → places_of p e ≡ o → IsEmptyAt p s e × Balanced p (turned_at e engaged) (with_token p e (way_put c.role) (Some v) s)
    by_place None n = (λ way. none way n, rw n (unjoined p engaged s e b n))
    by_place (Some a) n =
        let f = found p.joints e a n in
        let named : places_of p e ≡ Some f.joint.asking = n ∙ ap Some (sym f.named) in
        let here = put_here p engaged s f.joint e c.role v r f.is_in (of_role p f.joint e c r f.is_in f.stands k) (b f.joint f.is_in) t in
        let all = changed p engaged s f.joint e (way_put c.role) (Some v) r b f.is_in f.stands here.2 in (
          λ way. subst (λ (o : Option End). held_at s way o ≡ None) (sym named) (empty f.joint.asking way (here.0, here.1)),
          subst (λ (o : Option End). Balanced p (turned_at e engaged) (with_held (way_put c.role) o (Some v) s)) (sym named) all,
        )

-- only what the ends show counts
pub balanced_by : (p : Plan) (engaged engaged' : End → Bool) (s : Tokens) → ((e : End) → engaged e ≡ engaged' e) → Balanced p engaged s → Balanced p engaged' s
balanced_by p engaged engaged' s same b j i =
    subst (λ (x : Bool). Balance x (engaged' j.serving) (s.in_place Request j.asking) (s.in_place Answer j.asking)) (same j.asking)
    (subst (λ (x : Bool). Balance (engaged j.asking) x (s.in_place Request j.asking) (s.in_place Answer j.asking)) (same j.serving) (b j i))

-- no joint holds both a request and an answer
pub at_most_one : (p : Plan) (engaged : End → Bool) (s : Tokens) → Balanced p engaged s → HoldsAtMostOne p s
at_most_one p engaged s b e v w request answer = by_place (places_of p e) refl
  where
    by_place : (o : Option End) → places_of p e ≡ o → ⊥
    by_place None n = grind (arith, request, n)
    by_place (Some a) n =
        let f = found p.joints e a n in
        let named : places_of p e ≡ Some f.joint.asking = n ∙ ap Some (sym f.named) in
        let q : s.in_place Request f.joint.asking ≡ Some v = subst (λ (o : Option End). held_at s Request o ≡ Some v) named request in
        let r : s.in_place Answer f.joint.asking ≡ Some w = subst (λ (o : Option End). held_at s Answer o ≡ Some w) named answer in
        let one = b f.joint f.is_in in
        not_both (engaged f.joint.asking) (engaged f.joint.serving) v w
        (subst (λ (x : Option ℕ). Balance (engaged f.joint.asking) (engaged f.joint.serving) (Some v) x) r
        (subst (λ (x : Option ℕ). Balance (engaged f.joint.asking) (engaged f.joint.serving) x (s.in_place Answer f.joint.asking)) q one))
