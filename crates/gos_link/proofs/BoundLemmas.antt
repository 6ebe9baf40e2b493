-- The services of right bind lines: plans may be joined along them.
use Rattle.std.specs.Prelude.{◌≡◌, ℕ, zero, suc, ◌+◌, ◌<◌, ◌&&◌, ◌||◌, Bool, true, false, List, [], ◌∷◌, ◌++◌, length, take, Option, Some, None, option_map, slice_get, get_or, nat_eq, nat_lt, position, if◌then◌else◌}
use Rattle.std.proofs.Common.{refl, sym, ◌∙◌, ap, subst, arith, cond, append-nil, append_assoc}
use Rattle.std.specs.List.{position_or_len}
use Rattle.std.proofs.lemmas.List.Sums.{position_or_len_is}
use Rattle.std.proofs.lemmas.Option.{slice_get-map, slice_get_within, get_or_from_slice_get}
use Rattle.std.proofs.lemmas.Bool.{eq-eqb}
use Rattle.gos_model.specs.Typing.{Imported}
use Rattle.gos_model.proofs.NumberLemmas.{number_cases}
use Rattle.gos_plan.specs.Plans.{Plan}
use Rattle.gos_plan.specs.Seen.{SeenPlan, plan_of, import_of}
use Rattle.gos_link.specs.declared.build.Instance.{Instance}
use Rattle.gos_link.specs.declared.build.Bind.{Bind}
use Rattle.gos_link.specs.declared.services.Service.{Service}
use Rattle.gos_link.specs.Services.{first_bound, first_used, IsRightBind, BindsOn}
use Rattle.gos_link.specs.Linked.{plans_of, is_used, is_placed, first_unplaced}
use Rattle.gos_link.specs.inner.Opens.{number_bound}
use Rattle.gos_link.specs.inner.Tops.{AreTops, top_at}
use Rattle.gos_link.specs.inner.Wired.{number_used, AreJoinable}

none : Service
none = record { line = 0; user = 0; import = 0; giver = 0 }

-- the first that passes
position_found : (p : Service → Bool) (ss : List Service) (t : ℕ) (s : Service) → slice_get ss t ≡ Some s → p s ≡ true
    → ((k : ℕ) → k < t → p (get_or ss k none) ≡ false) → position p ss ≡ Some t
position_found p ss t s at passes before =
    let low : t < length ss = slice_get_within ss t s at in
    let is : get_or ss t none ≡ s = get_or_from_slice_get ss t s none at in
    let first : position_or_len p ss ≡ t = position_or_len_is p ss t none (omega (arith, low)) before (λ _. ap p is ∙ passes) in
    let test : nat_lt t (length ss) ≡ true = grind (arith, low) in
    ap (λ (n : ℕ). cond (nat_lt n (length ss)) (Some n) None) first ∙ rw test refl

-- none passes
position_none : (p : Service → Bool) (ss : List Service) → ((k : ℕ) → k < length ss → p (get_or ss k none) ≡ false) → position p ss ≡ None
position_none p ss fails =
    let all : position_or_len p ss ≡ length ss = position_or_len_is p ss (length ss) none (omega arith) fails (λ low. absurd (omega (arith, low))) in
    let test : nat_lt (length ss) (length ss) ≡ false = grind arith in
    ap (λ (n : ℕ). cond (nat_lt n (length ss)) (Some n) None) all ∙ rw test refl

pub if_none : (b : Bool) (n : ℕ) (o : Option ℕ) → (if b then Some n else o) ≡ None → (b ≡ false) × (o ≡ None)
if_none true n o e = absurd (cc e)
if_none false n o e = (refl, e)

-- what no service before a place does
unbound_before : (ss : List Service) (t u i : ℕ) → first_bound (take t ss) u i ≡ None → (k : ℕ) → k < t → k < length ss
    → (nat_eq (get_or ss k none).user u && nat_eq (get_or ss k none).import i) ≡ false
unbound_before [] t u i e k low within = absurd (omega (arith, within))
unbound_before (s ∷ ss) zero u i e k low within = absurd (omega (arith, low))
unbound_before (s ∷ ss) (suc t) u i e zero low within = (if_none (nat_eq s.user u && nat_eq s.import i) s.line (first_bound (take t ss) u i) e).0
unbound_before (s ∷ ss) (suc t) u i e (suc k) low within =
    unbound_before ss t u i (if_none (nat_eq s.user u && nat_eq s.import i) s.line (first_bound (take t ss) u i) e).1 k (omega (arith, low)) (omega (arith, within))

unused_before : (ss : List Service) (t g : ℕ) → first_used (take t ss) g ≡ None → (k : ℕ) → k < t → k < length ss → nat_eq (get_or ss k none).giver g ≡ false
unused_before [] t g e k low within = absurd (omega (arith, within))
unused_before (s ∷ ss) zero g e k low within = absurd (omega (arith, low))
unused_before (s ∷ ss) (suc t) g e zero low within = (if_none (nat_eq s.giver g) s.line (first_used (take t ss) g) e).0
unused_before (s ∷ ss) (suc t) g e (suc k) low within =
    unused_before ss t g (if_none (nat_eq s.giver g) s.line (first_used (take t ss) g) e).1 k (omega (arith, low)) (omega (arith, within))

all_taken : (xs : List Service) → take (length xs) xs ≡ xs
all_taken [] = refl
all_taken (x ∷ xs) = ap (λ (ys : List Service). x ∷ ys) (all_taken xs)

pub unused_none : (ss : List Service) (g : ℕ) → first_used ss g ≡ None → number_used ss g ≡ None
unused_none ss g e =
    position_none (λ s. nat_eq s.giver g) ss
    (λ k low. unused_before ss (length ss) g (ap (λ (ts : List Service). first_used ts g) (all_taken ss) ∙ e) k low low)

-- the line of a service
right_at : (is : List Instance) (ps : List SeenPlan) (before : List Service) (bs : List Bind) (ss : List Service) → BindsOn is ps before bs ss None
    → (t : ℕ) (s : Service) → slice_get ss t ≡ Some s → (b : Bind) × IsRightBind is ps (before ++ take t ss) b s
right_at is ps before [] [] h t s at = absurd (cc at)
right_at is ps before [] (r ∷ ss) h t s at = absurd h
right_at is ps before (b ∷ bs) [] h t s at = absurd h
right_at is ps before (b ∷ bs) (r ∷ ss) (right, rest) zero s at =
    let same : r ≡ s = cc at in
    (b, subst (λ (q : Service). IsRightBind is ps (before ++ []) b q) same (subst (λ (ts : List Service). IsRightBind is ps ts b r) (sym (append-nil before)) right))
right_at is ps before (b ∷ bs) (r ∷ ss) (right, rest) (suc t) s at =
    let (c, found) = right_at is ps (before ++ r ∷ []) bs ss rest t s at in
    (c, subst (λ (ts : List Service). IsRightBind is ps ts c s) (append_assoc before (r ∷ []) (take t ss)) found)

both_same : (a b c d : ℕ) → a ≡ b → c ≡ d → (nat_eq a b && nat_eq c d) ≡ true
both_same a b c d e f = rw (eq-eqb a b e, eq-eqb c d f) refl

pub joinable : (is : List Instance) (ps : List SeenPlan) (bs : List Bind) (ss : List Service) (root : ℕ) (p : SeenPlan) → BindsOn is ps [] bs ss None
    → first_used ss root ≡ None → slice_get ps root ≡ Some p → AreJoinable (plans_of ps) ss root
joinable is ps bs ss root p binds unused found =
    record { fits = fits; bound = bound; used = used; unused = unused_none ss root unused; some_root = (plan_of p, slice_get-map plan_of ps root ∙ ap (option_map plan_of) found) }
  where
    right : (t : ℕ) (s : Service) → slice_get ss t ≡ Some s → (b : Bind) × IsRightBind is ps (take t ss) b s
    right t s at = right_at is ps [] bs ss binds t s at

    fits : (t : ℕ) (s : Service) → slice_get ss t ≡ Some s
        → (p : Plan) × (q : Plan) × (x : Imported) × (slice_get (plans_of ps) s.user ≡ Some p) × (slice_get (plans_of ps) s.giver ≡ Some q)
        × (slice_get p.imports s.import ≡ Some x) × (x.ty ≡ q.outcome)
    fits t s at =
        let (b, r) = right t s at in
        let (u, g, x, line, all, type) = r.means in (
          plan_of u,
          plan_of g,
          import_of x,
          slice_get-map plan_of ps s.user ∙ ap (option_map plan_of) all.both.of_user,
          slice_get-map plan_of ps s.giver ∙ ap (option_map plan_of) all.both.of_giver,
          slice_get-map import_of u.imports s.import ∙ ap (option_map import_of) all.import,
          type,
        )

    bound : (t : ℕ) (s : Service) → slice_get ss t ≡ Some s → number_bound ss s.user s.import ≡ Some t
    bound t s at =
        let (b, r) = right t s at in
        let low : t < length ss = slice_get_within ss t s at in
        position_found (λ q. nat_eq q.user s.user && nat_eq q.import s.import) ss t s at (both_same s.user s.user s.import s.import refl refl)
        (λ k less. unbound_before ss t s.user s.import r.unbound k less (omega (arith, less, low)))

    used : (t : ℕ) (s : Service) → slice_get ss t ≡ Some s → number_used ss s.giver ≡ Some t
    used t s at =
        let (b, r) = right t s at in
        let low : t < length ss = slice_get_within ss t s at in
        position_found (λ q. nat_eq q.giver s.giver) ss t s at (eq-eqb s.giver s.giver refl)
        (λ k less. unused_before ss t s.giver r.unused k less (omega (arith, less, low)))

-- where all have their places the root serves nothing
pub is_placed_at : (root : ℕ) (ss : List Service) (k : ℕ) (is : List Instance) → first_unplaced root ss k is ≡ None → (j : ℕ) → j < length is → is_placed root ss (k + j) ≡ true
is_placed_at root ss k [] e j low = absurd (omega (arith, low))
is_placed_at root ss k (i ∷ is) e j low = by (is_placed root ss k) refl j low (λ m h. is_placed_at root ss (k + 1) is h m)
  where
    by : (b : Bool) → is_placed root ss k ≡ b → (j : ℕ) → j < suc (length is)
        → ((m : ℕ) → first_unplaced root ss (k + 1) is ≡ None → m < length is → is_placed root ss ((k + 1) + m) ≡ true) → is_placed root ss (k + j) ≡ true
    by false t j low rest = let wrong : Some i.name ≡ None = sym (rw t refl) ∙ e in absurd (cc wrong)
    by true t zero low rest = let s : k + 0 ≡ k = omega arith in ap (is_placed root ss) s ∙ t
    by true t (suc j) low rest =
        let s : k + suc j ≡ (k + 1) + j = omega arith in
        ap (is_placed root ss) s ∙ rest j (sym (rw t refl) ∙ e) (omega (arith, low))

pub root_unused : (is : List Instance) (ss : List Service) (root : ℕ) (tops : List ℕ) → AreTops (length is) ss tops → root < length is
    → first_unplaced root ss 0 is ≡ None → first_used ss root ≡ None
root_unused is ss root tops known low placed =
    let top : ℕ = top_at tops root in
    let there = is_placed_at root ss 0 is placed top (known.below root low) in
    let number : 0 + top ≡ top = omega arith in
    number_cases top root
    (λ e b. ap (first_used ss) (sym e) ∙ known.last root)
    (λ e b.
    let used : is_used (first_used ss top) ≡ true = (let h : (nat_eq top root || is_used (first_used ss top)) ≡ true = ap (is_placed root ss) (sym number) ∙ there in or_used (nat_eq top root) (is_used (first_used ss top)) b h) in
    let wrong : true ≡ false = sym used ∙ ap is_used (known.last root) in
    absurd (cc wrong))
  where
    or_used : (a b : Bool) → a ≡ false → (a || b) ≡ true → b ≡ true
    or_used true b e h = absurd (cc e)
    or_used false b e h = h
