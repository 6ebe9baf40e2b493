-- A part in an orderly list of a plan fires by its own rows, and what it waits for is what is open at its own ends.
--
-- Who asks at a handshake gives it its name, whether it is joined or not. So what a part opens and closes has names of its
-- own ends (AskingLemmas), and nothing else changes them.
use Rattle.std.specs.Prelude.{Option, None}
use Rattle.std.proofs.Common.{◌≡◌, ℕ, Bool, true, false, List, [], ◌∷◌, ◌++◌, Some, slice_get, refl, sym, ◌∙◌, ap, subst, arith, nat_eq, if◌then◌else◌}
use Rattle.gos_types.specs.declared.shakes.Role.{Role}
use Rattle.gos_types.specs.declared.shakes.Role.TheVariants.{Serve, Ask}
use Rattle.gos_model.proofs.NumberLemmas.{nat_eq_itself}
use Rattle.gos_plan.specs.Kinds.{Part, Contact}
use Rattle.gos_plan.specs.Firing.{State, Slot, Req, Ans, Token, put, firing}
use Rattle.gos_plan.specs.Plans.{End, PartEnd, ImportEnd, ResultEnd, Plan, IsRight, contacts_of_part, contact_at, same_end}
use Rattle.gos_plan.specs.Tokens.{Tokens, Element, Fire, Out, In, places_of, token_at, way_of, way_taken, way_put, end_of, firing_of, IsPortEnd, Passes, Does, shake_of}
use Rattle.gos_plan.specs.Orderly.{named_by, handshake_at, Open, with_open, after_taken, after_put, ComesWell, AllComeWell, after_puts, ComesInOrder, OrderlyFrom}
use Rattle.gos_plan.specs.Firings.{Asked, with_asked, after_taking, after_putting, Fires}
use Rattle.gos_plan.specs.Firings as law
use Rattle.gos_plan.specs.Projection.{firings_of, asked_by, TakesValues, PartsFire}
use Rattle.gos_plan.proofs.JointLemmas.{same_is, fits, Found, found}
use Rattle.gos_plan.proofs.AskingLemmas.{NotServing, TakesAsking, RequestAsks, PutsAsking, row_asks}
use Rattle.gos_plan.proofs.TurnLemmas.{token_state, fired_state}

-- an end that doesn't serve gives its handshake the name
by_itself : (p : Plan) (e : End) → IsRight p → ((c : Contact) → contact_at p e ≡ Some c → c.role ≡ Serve → ⊥) → handshake_at p e ≡ e
by_itself p e right asks = by_place (places_of p e) refl
  where
    by_place : (o : Option End) → places_of p e ≡ o → named_by o e ≡ e
    by_place None n = refl
    by_place (Some a) n =
        let f = found p.joints e a n in
        by_test f (same_end e f.joint.asking) refl
      where
        by_test : (f : Found p.joints e a) (b : Bool) → same_end e f.joint.asking ≡ b → a ≡ e
        by_test f true t = sym f.named ∙ sym (same_is e f.joint.asking t)
        by_test f false t =
            let s : same_end e f.joint.serving ≡ true = grind (arith, f.stands, t) in
            let is : e ≡ f.joint.serving = same_is e f.joint.serving s in
            let fit = fits p [] p.joints f.joint right f.is_in in
            absurd (asks _ (ap (contact_at p) is ∙ fit.3) refl)

-- so the names are those of its own ends
pub named : (p : Plan) (i h : ℕ) (k : Part) → IsRight p → slice_get p.parts i ≡ Some k → NotServing k h → handshake_at p (PartEnd i h) ≡ PartEnd i h
named p i h k right is asks =
    by_itself p (PartEnd i h) right
    (λ c there serves. asks c (subst (λ (o : Option Part). slice_get (contacts_of_part o) h ≡ Some c) is there) serves)

own : (i h g : ℕ) (b : Bool) (o : Open) (a : Asked) → o (PartEnd i g) ≡ a g → with_open (PartEnd i h) b o (PartEnd i g) ≡ with_asked h b a g
own i h g b o a same = grind (arith, same)

other : (i j h g : ℕ) (b : Bool) (o : Open) → nat_eq i j ≡ false → with_open (PartEnd j h) b o (PartEnd i g) ≡ o (PartEnd i g)
other i j h g b o apart = grind (arith, apart)

at_port : (e : End) (i g : ℕ) (b : Bool) (o : Open) → IsPortEnd e → with_open e b o (PartEnd i g) ≡ o (PartEnd i g)
at_port (PartEnd j h) i g b o port = absurd port
at_port (ImportEnd j h) i g b o port = refl
at_port (ResultEnd h) i g b o port = refl

-- what a part takes and puts opens and closes its own handshakes
pub taken_own : (p : Plan) (i : ℕ) (k : Part) (t : Slot) (o : Open) → IsRight p → slice_get p.parts i ≡ Some k → TakesAsking k t
    → (g : ℕ) → after_taken p (end_of i t) (way_of t) o (PartEnd i g) ≡ after_taking t (asked_by i o) g
taken_own p i k (Req h) o right is asks g = refl
taken_own p i k (Ans h) o right is asks g =
    subst (λ (e : End). with_open e false o (PartEnd i g) ≡ with_asked h false (asked_by i o) g) (sym (named p i h k right is asks))
    (own i h g false o (asked_by i o) refl)

put_own : (p : Plan) (i : ℕ) (k : Part) (s : Slot) (v : ℕ) (o : Open) (a : Asked) (t : Tokens) → IsRight p → slice_get p.parts i ≡ Some k
    → RequestAsks k s → ((g : ℕ) → o (PartEnd i g) ≡ a g) → ComesWell p (end_of i s) (way_of s) o t
    → law.PutsWell (put s v ∷ []) a × ((g : ℕ) → after_put p (end_of i s) (way_of s) o (PartEnd i g) ≡ after_putting (put s v ∷ []) a g)
put_own p i k (Req h) v o a t right is asks same well =
    let name = named p i h k right is asks in (
      (sym (same h) ∙ subst (λ (e : End). o e ≡ false) name well, tt),
      λ g. subst (λ (e : End). with_open e true o (PartEnd i g) ≡ with_asked h true a g) (sym name) (own i h g true o a (same g)),
    )
put_own p i k (Ans h) v o a t right is asks same well = ((tt, tt), same)

puts_own : (p : Plan) (i : ℕ) (k : Part) (ts : List Token) (o : Open) (a : Asked) (s : Tokens) → IsRight p → slice_get p.parts i ≡ Some k
    → PutsAsking k ts → ((g : ℕ) → o (PartEnd i g) ≡ a g) → AllComeWell p i ts o s
    → law.PutsWell ts a × ((g : ℕ) → after_puts p i ts o (PartEnd i g) ≡ after_putting ts a g)
puts_own p i k [] o a s right is asks same well = (tt, same)
puts_own p i k (t ∷ ts) o a s right is asks same well =
    let first = put_own p i k t.slot t.value o a s right is asks.0 same well.0 in
    let rest = puts_own p i k ts (after_put p (end_of i t.slot) (way_of t.slot) o) (after_putting (t ∷ []) a) _ right is asks.1 first.1 well.1 in
    ((first.0.0, rest.0), rest.1)

-- and leaves those of other parts
pub taken_other : (p : Plan) (i j : ℕ) (k : Part) (t : Slot) (o : Open) → IsRight p → slice_get p.parts j ≡ Some k → TakesAsking k t
    → nat_eq i j ≡ false → (g : ℕ) → after_taken p (end_of j t) (way_of t) o (PartEnd i g) ≡ o (PartEnd i g)
taken_other p i j k (Req h) o right is asks apart g = refl
taken_other p i j k (Ans h) o right is asks apart g =
    subst (λ (e : End). with_open e false o (PartEnd i g) ≡ o (PartEnd i g)) (sym (named p j h k right is asks)) (other i j h g false o apart)

put_other : (p : Plan) (i j : ℕ) (k : Part) (s : Slot) (o : Open) → IsRight p → slice_get p.parts j ≡ Some k → RequestAsks k s
    → nat_eq i j ≡ false → (g : ℕ) → after_put p (end_of j s) (way_of s) o (PartEnd i g) ≡ o (PartEnd i g)
put_other p i j k (Req h) o right is asks apart g =
    subst (λ (e : End). with_open e true o (PartEnd i g) ≡ o (PartEnd i g)) (sym (named p j h k right is asks)) (other i j h g true o apart)
put_other p i j k (Ans h) o right is asks apart g = refl

pub puts_other : (p : Plan) (i j : ℕ) (k : Part) (ts : List Token) (o : Open) → IsRight p → slice_get p.parts j ≡ Some k → PutsAsking k ts
    → nat_eq i j ≡ false → (g : ℕ) → after_puts p j ts o (PartEnd i g) ≡ o (PartEnd i g)
puts_other p i j k [] o right is asks apart g = refl
puts_other p i j k (t ∷ ts) o right is asks apart g =
    puts_other p i j k ts (after_put p (end_of j t.slot) (way_of t.slot) o) right is asks.1 apart g
    ∙ put_other p i j k t.slot o right is asks.0 apart g

-- so do inputs and outputs
pub port_by_itself : (p : Plan) (e : End) (c : Contact) → IsRight p → contact_at p e ≡ Some c → c.role ≡ Ask → handshake_at p e ≡ e
port_by_itself p e c right there role =
    by_itself p e right (λ d also serves. let same : c ≡ d = cc (there, also) in
    let no : Ask ≡ Serve = sym role ∙ (ap (λ (x : Contact). x.role) same ∙ serves) in cc no)

pub taken_port : (p : Plan) (i : ℕ) (e : End) (c : Contact) (o : Open) → IsRight p → IsPortEnd e → contact_at p e ≡ Some c
    → (g : ℕ) → after_taken p e (way_taken c.role) o (PartEnd i g) ≡ o (PartEnd i g)
taken_port p i e c o right port there g = of_role c.role refl
  where
    of_role : (role : Role) → c.role ≡ role → after_taken p e (way_taken role) o (PartEnd i g) ≡ o (PartEnd i g)
    of_role Serve is = refl
    of_role Ask is =
        subst (λ (d : End). with_open d false o (PartEnd i g) ≡ o (PartEnd i g)) (sym (port_by_itself p e c right there is)) (at_port e i g false o port)

pub put_port : (p : Plan) (i : ℕ) (e : End) (c : Contact) (o : Open) → IsRight p → IsPortEnd e → contact_at p e ≡ Some c
    → (g : ℕ) → after_put p e (way_put c.role) o (PartEnd i g) ≡ o (PartEnd i g)
put_port p i e c o right port there g = of_role c.role refl
  where
    of_role : (role : Role) → c.role ≡ role → after_put p e (way_put role) o (PartEnd i g) ≡ o (PartEnd i g)
    of_role Serve is = refl
    of_role Ask is =
        subst (λ (d : End). with_open d true o (PartEnd i g) ≡ o (PartEnd i g)) (sym (port_by_itself p e c right there is)) (at_port e i g true o port)

-- what part i does from one state to another
abbrev Does' : Part → ℕ → (ℕ → ℕ) → Open → State → List Slot → Open → State → Type 0
Does' k i x o q ss u r = (ts : List Token) × Fires k x (asked_by i o) q ss (asked_by i u) r ts

-- an element that leaves it as it is
unmoved : (k : Part) (i : ℕ) (x : ℕ → ℕ) (o m u : Open) (q z r : State) (ss : List Slot) → ((g : ℕ) → m (PartEnd i g) ≡ o (PartEnd i g)) → z ≡ q
    → Does' k i x m z ss u r → Does' k i x o q ss u r
unmoved k i x o m u q z r ss same is (ts, fires) =
    let asked : asked_by i m ≡ asked_by i o = λ j g. same g j in
    (ts, subst (λ (a : Asked). Fires k x a q ss (asked_by i u) r ts) asked (subst (λ (y : State). Fires k x (asked_by i m) y ss (asked_by i u) r ts) is fires))

-- a firing of it
moved : (p : Plan) (i : ℕ) (k : Part) (x : ℕ → ℕ) (slot : Slot) (ss : List Slot) (o m u : Open) (s w : Tokens) (q : State) → IsRight p
    → slice_get p.parts i ≡ Some k → Does p (Fire i slot) s w → ComesInOrder p (Fire i slot) s o m
    → token_at p s (end_of i slot) (way_of slot) ≡ Some (x (shake_of slot))
    → Does' k i x m (w.state i) ss u q → Does' k i x o (s.state i) (slot ∷ ss) u q
moved p i k x slot ss o m u s w q right is (v, r, lies, fire, leads) puts value (us, fires) =
    let fires_so : firing k (s.state i) slot ≡ Some r = subst (λ (o : Option Part). firing_of o (s.state i) slot ≡ Some r) is fire in
    let number : v ≡ x (shake_of slot) = cc (lies, value) in
    let row = row_asks k (s.state i) slot r v fires_so in
    let now = puts v r lies fire in
    let asks = subst (λ (c : Slot). TakesAsking k c) row.0 row.1.0 in
    let before : Asked = after_taking slot (asked_by i o) in
    let mine = puts_own p i k (r.puts v) (after_taken p (end_of i slot) (way_of slot) o) before _ right is row.1.1 (taken_own p i k slot o right is asks) now.0 in
    let asked : asked_by i m ≡ after_putting (r.puts v) before = (λ j. asked_by i (now.1 j)) ∙ (λ j g. mine.1 g j) in
    let state : w.state i ≡ r.next v = ap (λ (z : Tokens). z.state i) leads ∙ (fired_state p i r v s i ∙ rw (nat_eq_itself i) refl) in
    let at_v : Fires k x (after_putting (r.puts v) before) (r.next v) ss (asked_by i u) q us =
    subst (λ (a : Asked). Fires k x a (r.next v) ss (asked_by i u) q us) asked
    (subst (λ (z : State). Fires k x (asked_by i m) z ss (asked_by i u) q us) state fires) in
    let both =
    subst (λ (n : ℕ). law.PutsWell (r.puts n) before × Fires k x (after_putting (r.puts n) before) (r.next n) ss (asked_by i u) q us) number
    (mine.0, at_v) in
    (r.puts (x (shake_of slot)) ++ us, (r, us, fires_so, both.0, refl, both.1))

-- a firing of another part
passed : (p : Plan) (i j : ℕ) (k : Part) (x : ℕ → ℕ) (slot : Slot) (ss : List Slot) (o m u : Open) (s w : Tokens) (q : State) → IsRight p
    → nat_eq i j ≡ false → Does p (Fire j slot) s w → ComesInOrder p (Fire j slot) s o m
    → Does' k i x m (w.state i) ss u q → Does' k i x o (s.state i) ss u q
passed p i j k x slot ss o m u s w q right apart (v, r, lies, fire, leads) puts rest = of_part (slice_get p.parts j) refl
  where
    state : w.state i ≡ s.state i
    state = ap (λ (z : Tokens). z.state i) leads ∙ (fired_state p j r v s i ∙ rw apart refl)

    of_part : (f : Option Part) → slice_get p.parts j ≡ f → Does' k i x o (s.state i) ss u q
    of_part None e = absurd (grind (arith, e, fire))
    of_part (Some l) e =
        let row = row_asks l (s.state j) slot r v (subst (λ (f : Option Part). firing_of f (s.state j) slot ≡ Some r) e fire) in
        let asks = subst (λ (c : Slot). TakesAsking l c) row.0 row.1.0 in
        let now = puts v r lies fire in
        let same = λ (g : ℕ).
        ap (λ (z : Open). z (PartEnd i g)) now.1
        ∙ (puts_other p i j l (r.puts v) (after_taken p (end_of j slot) (way_of slot) o) right e row.1.1 apart g
        ∙ taken_other p i j l slot o right e asks apart g) in
        unmoved k i x o m u (s.state i) (w.state i) q ss same state rest

apart_back : (i j : ℕ) → nat_eq j i ≡ false → nat_eq i j ≡ false
apart_back i j n = grind (arith, n)

go : (p : Plan) (i : ℕ) (k : Part) (x : ℕ → ℕ) (xs : List Element) (o u : Open) (s t : Tokens) → IsRight p → slice_get p.parts i ≡ Some k
    → OrderlyFrom p xs o s u t → TakesValues p i x xs s → Does' k i x o (s.state i) (firings_of i xs) u (t.state i)
go p i k x [] o u s t right is list values = ([], (ap (asked_by i) list.0, ap (λ (z : Tokens). z.state i) list.1, refl))
go p i k x (Fire j slot ∷ xs) o u s t right is (m, w, does, puts, welcome, list) values =
    by_test (nat_eq j i) refl (go p i k x xs m u w t right is list (values.1 w does))
  where
    by_test : (b : Bool) → nat_eq j i ≡ b → Does' k i x m (w.state i) (firings_of i xs) u (t.state i)
        → Does' k i x o (s.state i) (if nat_eq j i then slot ∷ firings_of i xs else firings_of i xs) u (t.state i)
    by_test true here rest =
        let same : j ≡ i = grind (arith, here) in
        rw here
        (moved p i k x slot (firings_of i xs) o m u s w (t.state i) right is (subst (λ (n : ℕ). Does p (Fire n slot) s w) same does)
        (subst (λ (n : ℕ). ComesInOrder p (Fire n slot) s o m) same puts) (values.0 same) rest)
    by_test false apart rest = rw apart (passed p i j k x slot (firings_of i xs) o m u s w (t.state i) right (apart_back i j apart) does puts rest)
go p i k x (Out e v ∷ xs) o u s t right is (m, w, does, puts, welcome, list) values =
    of_contact (contact_at p e) refl (go p i k x xs m u w t right is list (values.1 w does))
  where
    of_contact : (f : Option Contact) → contact_at p e ≡ f → Does' k i x m (w.state i) (firings_of i xs) u (t.state i)
        → Does' k i x o (s.state i) (firings_of i xs) u (t.state i)
    of_contact None there rest = absurd (subst (λ (f : Option Contact). Passes p (Out e v) f s w) there does.1)
    of_contact (Some c) there rest =
        let passes = subst (λ (f : Option Contact). Passes p (Out e v) f s w) there does.1 in
        let state : w.state i ≡ s.state i = ap (λ (z : Tokens). z.state i) passes.1 ∙ token_state p e (way_taken c.role) None s i in
        let opened = puts c there in
        unmoved k i x o m u (s.state i) (w.state i) (t.state i) (firings_of i xs)
        (λ g. ap (λ (z : Open). z (PartEnd i g)) opened ∙ taken_port p i e c o right does.0 there g) state rest
go p i k x (In e v ∷ xs) o u s t right is (m, w, does, puts, welcome, list) values =
    of_contact (contact_at p e) refl (go p i k x xs m u w t right is list (values.1 w does))
  where
    of_contact : (f : Option Contact) → contact_at p e ≡ f → Does' k i x m (w.state i) (firings_of i xs) u (t.state i)
        → Does' k i x o (s.state i) (firings_of i xs) u (t.state i)
    of_contact None there rest = absurd (subst (λ (f : Option Contact). Passes p (In e v) f s w) there does.1)
    of_contact (Some c) there rest =
        let passes = subst (λ (f : Option Contact). Passes p (In e v) f s w) there does.1 in
        let state : w.state i ≡ s.state i = ap (λ (z : Tokens). z.state i) passes.1 ∙ token_state p e (way_put c.role) (Some v) s i in
        let opened = puts c there in
        unmoved k i x o m u (s.state i) (w.state i) (t.state i) (firings_of i xs)
        (λ g. ap (λ (z : Open). z (PartEnd i g)) opened.1 ∙ put_port p i e c o right does.0 there g) state rest

pub parts_fire : PartsFire
parts_fire p i k x xs o u s t right is list values = go p i k x xs o u s t right is list values
