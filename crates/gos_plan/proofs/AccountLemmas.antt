-- Over an orderly list what lies in each place is what lay there and what was put, without what was taken.
--
-- Each element adds up at a place (PlaceLemmas, CountLemmas). What a part puts is told by its firings, one after
-- another.
use Rattle.std.specs.Prelude.{Option, None}
use Rattle.std.proofs.Common.{◌≡◌, ℕ, ◌+◌, Bool, true, false, List, [], ◌∷◌, ◌++◌, Some, slice_get, refl, sym, ◌∙◌, ap, subst, arith, nat_eq, if◌then◌else◌}
use Rattle.gos_types.specs.Events.{Direction, Request, Answer}
use Rattle.gos_model.proofs.NumberLemmas.{nat_eq_itself}
use Rattle.gos_plan.specs.Kinds.{Part, Contact}
use Rattle.gos_plan.specs.Firing.{State, Slot, Token, Row, firing}
use Rattle.gos_plan.specs.Plans.{End, PartEnd, ImportEnd, ResultEnd, Joint, Plan, IsRight, contacts_of_part, contact_at}
use Rattle.gos_plan.specs.Tokens.{Tokens, Element, Fire, Out, In, shake_of, way_of, end_of, way_taken, way_put, firing_of, fired, Passes, Does}
use Rattle.gos_plan.specs.Orderly.{Open, none_open, ComesInOrder, OrderlyFrom}
use Rattle.gos_plan.specs.Firings.{Asked, Fires}
use Rattle.gos_plan.specs.Projection.{firings_of, asked_by, TakesValues}
use Rattle.gos_plan.specs.Accounts.{AddsUp, PartsPut, HeldTokens, PartsFillPlaces}
use Rattle.gos_plan.proofs.JointLemmas.{IsIn, contained}
use Rattle.gos_plan.proofs.RowLemmas.{role_taking}
use Rattle.gos_plan.proofs.AskingLemmas.{RoleIs, row_roles}
use Rattle.gos_plan.proofs.TurnLemmas.{token_state, fired_state}
use Rattle.gos_plan.proofs.ProjectionLemmas.{parts_fire}
use Rattle.gos_plan.proofs.HeldLemmas as holding
use Rattle.gos_plan.proofs.PlaceLemmas.{worth, Side, asking_side, serving_side, took, filled, empty_before, takes_so, fire_step, turns_at}
use Rattle.gos_plan.proofs.CountLemmas.{weigh, all_taken, all_given, fire_taken, with_rest, fire_given, turned_apart, none_taken, out_taken, out_given, in_taken, in_given, worth_one, worth_itself, taken_one, taken_itself, given_one, given_itself}

-- The tokens that a part puts by its firings, whatever is open.
abbrev Gives : Part → (ℕ → ℕ) → State → List Slot → List Token → Type 0
Gives k x q [] ts = ts ≡ []
Gives k x q (s ∷ ss) ts =
    (w : Row) × (us : List Token) × (firing k q s ≡ Some w) × (ts ≡ w.puts (x (shake_of s)) ++ us) × Gives k x (w.next (x (shake_of s))) ss us

gives : (k : Part) (x : ℕ → ℕ) (ss : List Slot) (o : Asked) (q : State) (p : Asked) (r : State) (ts : List Token) → Fires k x o q ss p r ts → Gives k x q ss ts
gives k x [] o q p r ts fires = fires.2
gives k x (s ∷ ss) o q p r ts (w, us, fire, well, is, rest) = (w, us, fire, is, gives k x ss _ _ p r us rest)

abbrev AllGive : Plan → (ℕ → ℕ → ℕ) → (ℕ → List Token) → List Element → Tokens → Type 0
AllGive p values puts xs s = (i : ℕ) (k : Part) → slice_get p.parts i ≡ Some k → Gives k (values i) (s.state i) (firings_of i xs) (puts i)

-- a firing of part i, and what is left to put
record Split (p : Plan) (values : ℕ → ℕ → ℕ) (puts : ℕ → List Token) (i : ℕ) (r : Row) (v : ℕ) (xs : List Element) (w : Tokens) : Type 0 where
  rest : List Token
  is_split : puts i ≡ r.puts v ++ rest
  others : AllGive p values (with_rest i rest puts) xs w

split : (p : Plan) (values : ℕ → ℕ → ℕ) (puts : ℕ → List Token) (i : ℕ) (k : Part) (t : Slot) (r : Row) (v : ℕ) (xs : List Element) (s w : Tokens)
    → slice_get p.parts i ≡ Some k → firing k (s.state i) t ≡ Some r → v ≡ values i (shake_of t) → w ≡ fired p i r v s
    → AllGive p values puts (Fire i t ∷ xs) s → Split p values puts i r v xs w
split p values puts i k t r v xs s w is fires value leads all = of_own own
  where
    state : (l : ℕ) → w.state l ≡ (if nat_eq l i then r.next v else s.state l)
    state l = ap (λ (x : Tokens). x.state l) leads ∙ fired_state p i r v s l

    own : Gives k (values i) (s.state i) (t ∷ firings_of i xs) (puts i)
    own = subst (λ (b : Bool). Gives k (values i) (s.state i) (if b then t ∷ firings_of i xs else firings_of i xs) (puts i)) (nat_eq_itself i) (all i k is)

    of_own : Gives k (values i) (s.state i) (t ∷ firings_of i xs) (puts i) → Split p values puts i r v xs w
    of_own (y, us, fire, puts_is, rest_gives) = record { rest = us; is_split = puts_so'; others = others }
      where
        row : y ≡ r
        row = cc (fire, fires)

        puts_so' : puts i ≡ r.puts v ++ us
        puts_so' = puts_is ∙ (λ n. (row n).puts (sym value n) ++ us)

        next_is : y.next (values i (shake_of t)) ≡ r.next v
        next_is = λ n. (row n).next (sym value n)

        others : AllGive p values (with_rest i us puts) xs w
        others l k' there = by_test (nat_eq l i) refl
          where
            by_test : (b : Bool) → nat_eq l i ≡ b → Gives k' (values l) (w.state l) (firings_of l xs) (with_rest i us puts l)
            by_test true same =
                let part : l ≡ i = grind (arith, same) in
                let kind : k ≡ k' = cc (is, there, part) in
                let at_l : w.state l ≡ r.next v = state l ∙ ap (λ (b : Bool). if b then r.next v else s.state l) same in
                let here : Gives k (values i) (r.next v) (firings_of i xs) us = subst (λ (q : State). Gives k (values i) q (firings_of i xs) us) next_is rest_gives in
                let at_part : Gives k (values l) (r.next v) (firings_of l xs) us = subst (λ (n : ℕ). Gives k (values n) (r.next v) (firings_of n xs) us) (sym part) here in
                let of_kind : Gives k' (values l) (r.next v) (firings_of l xs) us = subst (λ (z : Part). Gives z (values l) (r.next v) (firings_of l xs) us) kind at_part in
                let in_state = subst (λ (q : State). Gives k' (values l) q (firings_of l xs) us) (sym at_l) of_kind in
                subst (λ (b : Bool). Gives k' (values l) (w.state l) (firings_of l xs) (if b then us else puts l)) (sym same) in_state
            by_test false apart =
                let at_l : w.state l ≡ s.state l = state l ∙ ap (λ (b : Bool). if b then r.next v else s.state l) apart in
                let there_so : Gives k' (values l) (s.state l) (firings_of l xs) (puts l) =
                subst (λ (b : Bool). Gives k' (values l) (s.state l) (if b then t ∷ firings_of l xs else firings_of l xs) (puts l)) (turned_apart i l apart) (all l k' there) in
                let in_state = subst (λ (q : State). Gives k' (values l) q (firings_of l xs) (puts l)) (sym at_l) there_so in
                subst (λ (b : Bool). Gives k' (values l) (w.state l) (firings_of l xs) (if b then us else puts l)) (sym apart) in_state

-- an element that is no firing leaves that to the others
still : (p : Plan) (values : ℕ → ℕ → ℕ) (puts : ℕ → List Token) (xs : List Element) (s w : Tokens) → ((i : ℕ) → w.state i ≡ s.state i)
    → AllGive p values puts xs s → AllGive p values puts xs w
still p values puts xs s w state all i k is = subst (λ (q : State). Gives k (values i) q (firings_of i xs) (puts i)) (sym (state i)) (all i k is)

-- an empty list
none_given : (f : ℕ → ℕ) (p : Plan) (values : ℕ → ℕ → ℕ) (puts : ℕ → List Token) (e : End) (c : Contact) (s : Tokens) → contact_at p e ≡ Some c → AllGive p values puts [] s
    → all_given f puts e [] ≡ 0
none_given f p values puts (ImportEnd l h) c s there all = refl
none_given f p values puts (ResultEnd h) c s there all = refl
none_given f p values puts (PartEnd l h) c s there all = of_part (slice_get p.parts l) refl
  where
    of_part : (g : Option Part) → slice_get p.parts l ≡ g → weigh f h (puts l) ≡ 0
    of_part None none = absurd (let some : None ≡ Some c = sym (ap (λ (g : Option Part). slice_get (contacts_of_part g) h) none) ∙ there in cc some)
    of_part (Some k) is = ap (weigh f h) (all l k is)

-- a firing before other elements
fired_first : (f : ℕ → ℕ) (p : Plan) (values : ℕ → ℕ → ℕ) (j : Joint) (way : Direction) (source target : End) → IsRight p
    → Side p j way source way_put → Side p j way target way_taken → (i : ℕ) (slot : Slot) (xs : List Element) (puts : ℕ → List Token) (o m : Open) (s w t : Tokens)
    → holding.AllFit o s → Does p (Fire i slot) s w → ComesInOrder p (Fire i slot) s o m → TakesValues p i (values i) (Fire i slot ∷ xs) s
    → AllGive p values puts (Fire i slot ∷ xs) s
    → ((rest : List Token) → AllGive p values (with_rest i rest puts) xs w
    → worth f (t.in_place way j.asking) + all_taken f values way target xs ≡ worth f (w.in_place way j.asking) + all_given f (with_rest i rest puts) source xs)
    → worth f (t.in_place way j.asking) + all_taken f values way target (Fire i slot ∷ xs)
    ≡ worth f (s.in_place way j.asking) + all_given f puts source (Fire i slot ∷ xs)
fired_first f p values j way source target right filling emptying i slot xs puts o m s w t fit (v, r, lies, fire, leads) comes takes all further =
    of_part (slice_get p.parts i) refl
  where
    value : v ≡ values i (shake_of slot)
    value = let taken = takes.0 refl in cc (lies, taken)

    of_firing : (k : Part) → slice_get p.parts i ≡ Some k → firing k (s.state i) slot ≡ Some r
        → worth f (t.in_place way j.asking) + all_taken f values way target (Fire i slot ∷ xs)
        ≡ worth f (s.in_place way j.asking) + all_given f puts source (Fire i slot ∷ xs)
    of_firing k is fires =
        let parted = split p values puts i k slot r v xs s w is fires value leads all in
        let row = row_roles k (s.state i) slot r v fires in
        let role = subst (λ (x : Slot). RoleIs k (shake_of x) (role_taking x)) row.0 row.1.0 in
        let first = fire_step f p j way source target right filling emptying i k slot v r o m s w is lies fires fire leads comes fit in
        let taken = fire_taken f values way target i slot xs v value (turns_at p j way target right emptying (end_of i slot) (way_of slot) s (takes_so p i k slot is role)) in
        let given = fire_given f puts source i slot xs (r.puts v) parted.rest parted.is_split in
        let others = further parted.rest parted.others in
        omega (arith, first, taken, given, others)

    of_part : (g : Option Part) → slice_get p.parts i ≡ g
        → worth f (t.in_place way j.asking) + all_taken f values way target (Fire i slot ∷ xs)
        ≡ worth f (s.in_place way j.asking) + all_given f puts source (Fire i slot ∷ xs)
    of_part None none = absurd (let some : None ≡ Some r = subst (λ (g : Option Part). firing_of g (s.state i) slot ≡ Some r) none fire in cc some)
    of_part (Some k) is = of_firing k is (subst (λ (g : Option Part). firing_of g (s.state i) slot ≡ Some r) is fire)

-- So it goes over a list.
go : (f : ℕ → ℕ) (p : Plan) (values : ℕ → ℕ → ℕ) (j : Joint) (way : Direction) (source target : End) → IsRight p
    → Side p j way source way_put → Side p j way target way_taken → (xs : List Element) (puts : ℕ → List Token) (o u : Open) (s t : Tokens)
    → holding.AllFit o s → OrderlyFrom p xs o s u t → ((i : ℕ) → TakesValues p i (values i) xs s) → AllGive p values puts xs s
    → worth f (t.in_place way j.asking) + all_taken f values way target xs ≡ worth f (s.in_place way j.asking) + all_given f puts source xs
go f p values j way source target right filling emptying [] puts o u s t fit list takes all =
    let end_is = ap (λ (x : Tokens). worth f (x.in_place way j.asking)) list.1 in
    let nothing = none_taken f values way target in
    let none = none_given f p values puts source filling.meets s filling.there all in
    omega (arith, end_is, nothing, none)
go f p values j way source target right filling emptying (Fire i slot ∷ xs) puts o u s t fit (m, w, does, comes, welcome, list) takes all =
    fired_first f p values j way source target right filling emptying i slot xs puts o m s w t fit does comes (takes i) all
    (λ rest others. go f p values j way source target right filling emptying xs (with_rest i rest puts) m u w t (holding.step p (Fire i slot) o m s w does comes fit) list
    (λ l. (takes l).1 w does) others)
go f p values j way source target right filling emptying (Out d v ∷ xs) puts o u s t fit (m, w, does, comes, welcome, list) takes all =
    of_contact (contact_at p d) refl
    (λ all_w. go f p values j way source target right filling emptying xs puts m u w t (holding.step p (Out d v) o m s w does comes fit) list (λ l. (takes l).1 w does) all_w)
  where
    goal : Type 0
    goal =
        worth f (t.in_place way j.asking) + all_taken f values way target (Out d v ∷ xs)
        ≡ worth f (s.in_place way j.asking) + all_given f puts source (Out d v ∷ xs)

    of_contact : (g : Option Contact) → contact_at p d ≡ g
        → (AllGive p values puts xs w → worth f (t.in_place way j.asking) + all_taken f values way target xs ≡ worth f (w.in_place way j.asking) + all_given f puts source xs)
        → goal
    of_contact None none further = absurd (subst (λ (g : Option Contact). Passes p (Out d v) g s w) none does.1)
    of_contact (Some c) there further =
        let passes = subst (λ (g : Option Contact). Passes p (Out d v) g s w) there does.1 in
        let state = λ (i : ℕ). ap (λ (z : Tokens). z.state i) passes.1 ∙ token_state p d (way_taken c.role) None s i in
        let first =
        took f p j way target right emptying d (way_taken c.role) v s (λ b also. let is : c ≡ b = cc (there, also) in ap (λ (x : Contact). way_taken x.role) is) passes.0 in
        let leads = ap (λ (x : Tokens). worth f (x.in_place way j.asking)) passes.1 in
        let taken = out_taken f values way target d v xs does.0 in
        let given = out_given f puts source d v xs in
        let others = further (still p values puts xs s w state all) in
        omega (arith, first, leads, taken, given, others)
go f p values j way source target right filling emptying (In d v ∷ xs) puts o u s t fit (m, w, does, comes, welcome, list) takes all =
    of_contact (contact_at p d) refl
    (λ all_w. go f p values j way source target right filling emptying xs puts m u w t (holding.step p (In d v) o m s w does comes fit) list (λ l. (takes l).1 w does) all_w)
  where
    goal : Type 0
    goal =
        worth f (t.in_place way j.asking) + all_taken f values way target (In d v ∷ xs)
        ≡ worth f (s.in_place way j.asking) + all_given f puts source (In d v ∷ xs)

    of_contact : (g : Option Contact) → contact_at p d ≡ g
        → (AllGive p values puts xs w → worth f (t.in_place way j.asking) + all_taken f values way target xs ≡ worth f (w.in_place way j.asking) + all_given f puts source xs)
        → goal
    of_contact None none further = absurd (subst (λ (g : Option Contact). Passes p (In d v) g s w) none does.1)
    of_contact (Some c) there further =
        let passes = subst (λ (g : Option Contact). Passes p (In d v) g s w) there does.1 in
        let state = λ (i : ℕ). ap (λ (z : Tokens). z.state i) passes.1 ∙ token_state p d (way_put c.role) (Some v) s i in
        let first =
        filled f p j way source right filling d (way_put c.role) v s (λ b also. let is : c ≡ b = cc (there, also) in ap (λ (x : Contact). way_put x.role) is)
        (empty_before p d (way_put c.role) o s (comes c there).0 fit) in
        let leads = ap (λ (x : Tokens). worth f (x.in_place way j.asking)) passes.1 in
        let taken = in_taken f values way target d v xs in
        let given = in_given f puts source d v xs does.0 in
        let others = further (still p values puts xs s w state all) in
        omega (arith, first, leads, taken, given, others)

-- so with counts and with sums
adds_up : (p : Plan) (values : ℕ → ℕ → ℕ) (j : Joint) (way : Direction) (source target : End) → IsRight p
    → Side p j way source way_put → Side p j way target way_taken → (puts : ℕ → List Token) (xs : List Element) (o u : Open) (s t : Tokens)
    → holding.AllFit o s → OrderlyFrom p xs o s u t → ((i : ℕ) → TakesValues p i (values i) xs s) → AllGive p values puts xs s
    → AddsUp values puts xs s t way j.asking source target
adds_up p values j way source target right filling emptying puts xs o u s t fit list takes all =
    record {
      counts =
          let known = go (λ v. 1) p values j way source target right filling emptying xs puts o u s t fit list takes all in
          omega (arith, known, worth_one (t.in_place way j.asking), worth_one (s.in_place way j.asking), taken_one values way target xs, given_one puts source xs);
      sums =
          let known = go (λ v. v) p values j way source target right filling emptying xs puts o u s t fit list takes all in
          omega (arith, known, worth_itself (t.in_place way j.asking), worth_itself (s.in_place way j.asking), taken_itself values way target xs, given_itself puts source xs);
    }

pub held_tokens : HeldTokens
held_tokens p values puts ys xs o u first s t right idle before list takes fires j contains = (
  adds_up p values j Request j.asking j.serving right (asking_side p j Request way_put right is_in refl (λ e. cc e)) (serving_side p j Request way_taken right is_in refl (λ e. cc e))
      puts xs o u s t fit list takes all,
  adds_up p values j Answer j.serving j.asking right (serving_side p j Answer way_put right is_in refl (λ e. cc e)) (asking_side p j Answer way_taken right is_in refl (λ e. cc e))
      puts xs o u s t fit list takes all,
)
  where
    is_in : IsIn j p.joints
    is_in = contained p.joints j contains

    fit : holding.AllFit o s
    fit = holding.all_fit p ys none_open o first s before (λ a. (idle.0 Request a, idle.0 Answer a))

    all : AllGive p values puts xs s
    all i k is = gives k (values i) (firings_of i xs) _ _ _ _ (puts i) (fires i k is)

pub parts_fill_places : PartsFillPlaces
parts_fill_places p values ys xs o u first s t right idle before list takes = (puts, each, held_tokens p values puts ys xs o u first s t right idle before list takes each)
  where
    of_part : (i : ℕ) (f : Option Part) → slice_get p.parts i ≡ f → List Token
    of_part i None none = []
    of_part i (Some k) is = (parts_fire p i k (values i) xs o u s t right is list (takes i)).0

    puts : ℕ → List Token
    puts i = of_part i (slice_get p.parts i) refl

    each : PartsPut p values puts xs o s u t
    each i k is = by_part (slice_get p.parts i) refl is
      where
        by_part : (f : Option Part) (e : slice_get p.parts i ≡ f) → f ≡ Some k
            → Fires k (values i) (asked_by i o) (s.state i) (firings_of i xs) (asked_by i u) (t.state i) (of_part i f e)
        by_part None e some = absurd (cc some)
        by_part (Some l) e some =
            let same : l ≡ k = cc some in
            subst (λ (z : Part). Fires z (values i) (asked_by i o) (s.state i) (firings_of i xs) (asked_by i u) (t.state i) (of_part i (Some l) e)) same
            (parts_fire p i l (values i) xs o u s t right e list (takes i)).1
